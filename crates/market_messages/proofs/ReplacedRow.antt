-- Replaced of an order.
use Rattle.std.proofs.Common.{◌≡◌, ℕ, ◌+◌, Bool, true, false, List, [], ◌∷◌, ◌++◌, refl, sym, ap, ◌∙◌, bytes_eq, codes}
use Rattle.std.proofs.Common.{None}
use Rattle.std.specs.Prelude.{◌&&◌, option_to_list, Some, if◌then◌else◌}
use Rattle.std.specs.List.{find}
use Rattle.std.proofs.lemmas.Bool.{and_parts}
use Rattle.ouch_codec.specs.declared.outbound.replaced.Replaced.{Replaced}
use Rattle.ouch_codec.specs.declared.outbound.Outbound.TheVariants as market
use Rattle.orders.specs.order_law.declared.stage.Stage.TheVariants.{Working}
use Rattle.orders.specs.order_law.History.{Entry, token_of}
use Rattle.orders.specs.order_law.Lawful.{is_first, same_terms, works_as}
use Rattle.orders.specs.order_law.Life.{is_dead}
use Rattle.order_machine.specs.fix_fields.Field.{text}
use Rattle.orders.specs.order_law.Told as law
use Rattle.orders.specs.order_law.Verdicts.{is_replace}
use Rattle.order_machine.specs.OrderRecord.{OrderRecord, after_message, at, last_after, live_token, over_if}
use Rattle.order_machine.specs.OrderRecord.{put_in_book, record_life, renamed, replacements, shown_as, still_after}
use Rattle.order_machine.proofs.Texts.{eq-is, eq-true}
use Rattle.orders.specs.Changes.{changed_by, with_quantities}
use Rattle.orders.specs.declared.change.Change.TheVariants as changes
use Rattle.to_client.specs.Pending.{cancel_in}
use Rattle.market_messages.specs.Meets.{is_lawful, told_of}
use Rattle.market_messages.proofs.RejectedRow.{none-replacing, the-first}
use Rattle.market_messages.proofs.Stages.{works-parts}

module _ (m : Replaced) (o : OrderRecord) (may : is_lawful (market.Replaced m) o ≡ true) where
  parts : (works_as (record_life o) m.previous_token ≡ true)
      × ((is_first m.token (replacements o.replaces) && same_terms m.side m.stock o.new) ≡ true)
  parts = and_parts (works_as (record_life o) m.previous_token)
      (is_first m.token (replacements o.replaces) && same_terms m.side m.stock o.new) may

  pub replace-live : m.previous_token ≡ live_token o
  replace-live = eq-is m.previous_token (live_token o) (works-parts (record_life o) m.previous_token parts.0).0

  pub replace-works : o.stage ≡ Working
  replace-works = (works-parts (record_life o) m.previous_token parts.0).1

  pub replace-first : is_first m.token (replacements o.replaces) ≡ true
  replace-first = (and_parts (is_first m.token (replacements o.replaces)) (same_terms m.side m.stock o.new) parts.1).0

-- the pending request of a token, at the front
module _ (token : List ℕ) (q : Entry) (ps : List Entry) (own : token ≡ token_of q) (is_g : is_replace q.message ≡ true) where
  here : bytes_eq (token_of q) token ≡ true
  here = eq-true (token_of q) token (sym own)

  found-first : find (law.asked_token token) (q ∷ ps) ≡ Some q
  found-first = rw (is_g, here) refl

  behind-first : law.without_first (law.asked_token token) (q ∷ ps) ≡ ps
  behind-first = rw (is_g, here) refl

module _ (issued : ℕ) (m : Replaced) (o : OrderRecord) (q : Entry) (qs : List Entry) (all : o.replaces ≡ q ∷ qs) (own : m.token ≡ token_of q) (live : m.previous_token ≡ live_token o) where
  -- as the order stands then, under a token, once the Cancel Order of another is answered
  abbrev shape : List ℕ → List ℕ → OrderRecord
  shape token old = over_if (is_dead m.order_state)
      (at (put_in_book m.shares m.price (renamed token q o)) qs (still_after (bytes_eq old) o.cancel))

  pub replaced-now : changed_by (changes.Replaced m.shares m.price (is_dead m.order_state)) o
      ≡ after_message issued (market.Replaced m) o
  replaced-now = rw all (ap (λ (t : List ℕ). shape t (live_token o)) (sym own) ∙ ap (shape m.token) (sym live))

  module _ (is_g : is_replace q.message ≡ true) (in_order : (shown_as o).pending ≡ o.replaces ++ option_to_list (cancel_in o.cancel)) where
    abbrev pub behind : List Entry
    behind = qs ++ option_to_list (cancel_in o.cancel)

    listed : (shown_as o).pending ≡ q ∷ behind
    listed = in_order ∙ ap (λ (rs : List Entry). rs ++ option_to_list (cancel_in o.cancel)) all

    found : find (law.asked_token m.token) (shown_as o).pending ≡ Some q
    found = ap (find (law.asked_token m.token)) listed ∙ found-first m.token q behind own is_g

    rest : law.without_first (law.asked_token m.token) (shown_as o).pending ≡ behind
    rest = ap (law.without_first (law.asked_token m.token)) listed ∙ behind-first m.token q behind own is_g

    -- as it is shown under the replace
    abbrev pub shown_then : Bool → law.Shown
    shown_then dead = record (shown_as (with_quantities (changed_by (changes.Replaced m.shares m.price dead) o) o))
        { id = text 11 q.message; pending = qs ++ option_to_list (cancel_in o.cancel) }

    renamed-is : law.shown_renamed m q (shown_as o) ≡ shown_then false
    renamed-is = ap (λ (ps : List Entry). law.shown_opened m.shares m.price
        (record (shown_as o) { id = text 11 q.message; pending = ps })) rest ∙ (rw all refl)

    closed-is : law.closed (shown_then false) ≡ shown_then true
    closed-is = rw all refl

    told : told_of issued (market.Replaced m) o ≡ law.report (issued + 1) (law.on_request (codes "5") q) (shown_then false) ∷ law.where_dead (issued + 2) m.order_state (shown_then false) (law.cancel_rejected (last_after (bytes_eq m.previous_token) o.cancel) (shown_then false))
    told =
        rw found (
        ap (λ (s : law.Shown). law.report (issued + 1) (law.on_request (codes "5") q) s ∷ law.where_dead (issued + 2) m.order_state s (law.cancel_rejected (last_after (bytes_eq m.previous_token) o.cancel) s)) renamed-is
        )

    by_dead : (x : Bool) → is_dead m.order_state ≡ x → told_of issued (market.Replaced m) o ≡ law.report (issued + 1) (law.on_request (codes "5") q) (shown_then false) ∷ (if x then law.cancelled (issued + 2) None (law.closed (shown_then false)) else law.cancel_rejected (last_after (bytes_eq m.previous_token) o.cancel) (shown_then false))
    by_dead x e =
        told ∙ ap (λ (y : Bool). law.report (issued + 1) (law.on_request (codes "5") q) (shown_then false) ∷ (if y then law.cancelled (issued + 2) None (law.closed (shown_then false)) else law.cancel_rejected (last_after (bytes_eq m.previous_token) o.cancel) (shown_then false))) e

    pub replaced-live : is_dead m.order_state ≡ false → told_of issued (market.Replaced m) o ≡ law.report (issued + 1) (law.on_request (codes "5") q) (shown_then false) ∷ law.cancel_rejected (last_after (bytes_eq m.previous_token) o.cancel) (shown_then false)
    replaced-live e = by_dead false e

    pub replaced-dead : is_dead m.order_state ≡ true → told_of issued (market.Replaced m) o ≡ law.report (issued + 1) (law.on_request (codes "5") q) (shown_then false) ∷ law.cancelled (issued + 2) None (shown_then true)
    replaced-dead e = by_dead true e ∙ ap (λ (s : law.Shown). law.report (issued + 1) (law.on_request (codes "5") q) (shown_then false) ∷ law.cancelled (issued + 2) None s) closed-is

-- with any pending replaces
pub replaced-is : (issued : ℕ) (m : Replaced) (o : OrderRecord) → is_lawful (market.Replaced m) o ≡ true
    → changed_by (changes.Replaced m.shares m.price (is_dead m.order_state)) o
    ≡ after_message issued (market.Replaced m) o
replaced-is issued m o may = by_replaces o.replaces refl
  where
    by_replaces : (rs : List Entry) → o.replaces ≡ rs
        → changed_by (changes.Replaced m.shares m.price (is_dead m.order_state)) o
        ≡ after_message issued (market.Replaced m) o
    by_replaces [] none = absurd (none-replacing m.token o (replace-first m o may) none)
    by_replaces (q ∷ qs) all = replaced-now issued m o q qs all (the-first m.token o q qs (replace-first m o may) all)
        (replace-live m o may)
