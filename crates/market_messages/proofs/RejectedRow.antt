-- Rejected of a new order, or of a replace.
use Rattle.std.proofs.Common.{◌≡◌, ℕ, ◌+◌, Bool, true, false, List, [], ◌∷◌, ◌++◌, map, refl, sym, ap, ◌∙◌, bytes_eq}
use Rattle.std.specs.Prelude.{◌&&◌, filter, option_to_list, IfSome}
use Rattle.std.specs.List.{list_any}
use Rattle.std.proofs.lemmas.Bool.{and_parts}
use Rattle.ouch_codec.specs.declared.outbound.rejected.Rejected.{Rejected}
use Rattle.ouch_codec.specs.declared.outbound.Outbound.TheVariants as market
use Rattle.orders.specs.order_law.declared.stage.Stage.TheVariants.{Waiting}
use Rattle.orders.specs.order_law.Headline.{Each}
use Rattle.orders.specs.order_law.History.{Entry, from_token, token_of}
use Rattle.orders.specs.order_law.Lawful.{is_first}
use Rattle.orders.specs.order_law.Life.{is_waiting}
use Rattle.orders.specs.order_law.Told as law
use Rattle.orders.specs.order_law.Verdicts.{is_replace}
use Rattle.order_machine.specs.OrderRecord.{OrderRecord, after_message, at, last_after, live_token, replacements}
use Rattle.order_machine.specs.OrderRecord.{shown_as}
use Rattle.order_machine.specs.OrderRecord.{still_after}
use Rattle.order_machine.proofs.Texts.{eq-is}
use Rattle.orders.specs.Changes.{changed_by, with_quantities}
use Rattle.orders.specs.declared.change.Change.TheVariants as changes
use Rattle.to_client.specs.Occasions.{occasion_seen}
use Rattle.to_client.specs.declared.occasion.Occasion.TheVariants as occasions
use Rattle.to_client.specs.Pending.{cancel_in}
use Rattle.to_client.proofs.Answered.{filter-cancel}
use Rattle.market_messages.specs.Meets.{rejects_new, told_of}
use Rattle.market_messages.proofs.Stages.{waits-is}

-- ---- of the new order

module _ (issued : ℕ) (m : Rejected) (o : OrderRecord) (may : rejects_new m o ≡ true) where
  abbrev pub over : OrderRecord
  over = with_quantities (changed_by changes.Refused o) o

  token : bytes_eq m.token (live_token o) ≡ true
  token = (and_parts (bytes_eq m.token (live_token o)) (is_waiting o.stage) may).0

  pub refuse-waits : o.stage ≡ Waiting
  refuse-waits = waits-is o.stage ((and_parts (bytes_eq m.token (live_token o)) (is_waiting o.stage) may).1)

  pub refused-told : told_of issued (market.Rejected m) o
      ≡ law.report (issued + 1) (occasion_seen (occasions.Rejected m.reason)) (shown_as over) ∷ law.too_late
      (shown_as over)
  refused-told = rw (token, refuse-waits) refl

  pub refused-now : changed_by changes.Refused o ≡ after_message issued (market.Rejected m) o
  refused-now = rw (token, refuse-waits) refl

-- ---- of the oldest pending replace

-- it is the first of them
pub the-first : (token : List ℕ) (o : OrderRecord) (q : Entry) (qs : List Entry)
    → is_first token (replacements o.replaces) ≡ true → o.replaces ≡ q ∷ qs → token ≡ token_of q
the-first token o q qs first all = eq-is token (token_of q)
    (ap (λ (rs : List Entry). is_first token (replacements rs)) (sym all) ∙ first)

pub none-replacing : (token : List ℕ) (o : OrderRecord) → is_first token (replacements o.replaces) ≡ true
    → o.replaces ≡ [] → ⊥
none-replacing token o first none = let x : false ≡ true =
    ap (λ (rs : List Entry). is_first token (replacements rs)) (sym none) ∙ first in cc

-- all of them fall with it
from-first : (token : List ℕ) (tokens : List (List ℕ)) → is_first token tokens ≡ true → from_token token tokens ≡ tokens
from-first token [] first = refl
from-first token (t ∷ ts) first = rw first refl

and-turned : (x y : Bool) → (x && y) ≡ false → (y && x) ≡ false
and-turned true true e = e
and-turned true false e = refl
and-turned false true e = refl
and-turned false false e = refl

module _ (issued : ℕ) (m : Rejected) (o : OrderRecord) (not_new : rejects_new m o ≡ false) (first : is_first m.token (replacements o.replaces) ≡ true) where
  not_refused : (is_waiting o.stage && bytes_eq m.token (live_token o)) ≡ false
  not_refused = and-turned (bytes_eq m.token (live_token o)) (is_waiting o.stage) not_new

  falls : from_token m.token (replacements o.replaces) ≡ replacements o.replaces
  falls = from-first m.token (replacements o.replaces) first

  pub not_replaced-now : changed_by changes.NotReplaced o ≡ after_message issued (market.Rejected m) o
  not_replaced-now = rw not_refused (ap (λ (ts : List (List ℕ)). at o []
      (still_after (λ token. list_any (bytes_eq token) ts) o.cancel)) (sym falls))

  abbrev pub is_last : Bool
  is_last = last_after (λ token. list_any (bytes_eq token) (replacements o.replaces)) o.cancel

  -- as it is shown then, with no replace pending
  abbrev pub rest : law.Shown
  rest = record (shown_as (with_quantities (changed_by changes.NotReplaced o) o))
      { pending = option_to_list (cancel_in o.cancel) }

  module _ (are : Each (λ (q : Entry). is_replace q.message ≡ true) o.replaces) (is_f : IfSome (cancel_in o.cancel) (λ (p : Entry). is_replace p.message ≡ false)) (in_order : (shown_as o).pending ≡ o.replaces ++ option_to_list (cancel_in o.cancel)) where
    left : law.without_replaces (shown_as o) ≡ rest
    left = ap (λ (ps : List Entry). record (shown_as o) { pending = ps })
        (ap (filter law.is_cancel) in_order ∙ filter-cancel o.replaces (cancel_in o.cancel) are is_f)

    pub not_replaced-told : told_of issued (market.Rejected m) o
        ≡ law.each_not_replaced (m.reason ∷ []) (shown_as o) (shown_as o).pending ++ law.cancel_rejected is_last rest
    not_replaced-told =
        rw not_refused (
        ap (λ (ts : List (List ℕ)). law.each_not_replaced (m.reason ∷ []) (shown_as o) (shown_as o).pending
        ++ law.cancel_rejected (last_after (λ token. list_any (bytes_eq token) ts) o.cancel)
        (law.without_replaces (shown_as o))) falls
        ∙ ap (λ (s : law.Shown). law.each_not_replaced (m.reason ∷ []) (shown_as o) (shown_as o).pending
        ++ law.cancel_rejected is_last s) left
        )
