-- A message on one order changes no other, and one without a token changes none.
use Rattle.std.proofs.Common.{◌≡◌, ◌≢◌, ℕ, Bool, true, false, List, [], ◌∷◌, refl, sym, ap, subst, ◌∙◌, bytes_eq}
use Rattle.std.proofs.Common.{Option, Some, None, eqb-true, eq-eqb}
use Rattle.std.specs.Prelude.{◌==◌, option_to_list}
use Rattle.std.specs.List.{list_any}
use Rattle.order_law.specs.ouch_codec.declared.outbound.Outbound.{Outbound}
use Rattle.order_law.specs.ouch_codec.declared.outbound.Outbound.TheVariants as market
use Rattle.order_law.specs.ouch_codec.declared.outbound.rejected.Rejected.{Rejected}
use Rattle.order_law.specs.declared.stage.Stage.{Stage}
use Rattle.order_law.specs.declared.stage.Stage.TheVariants.{Waiting, Working, Closed}
use Rattle.fix_fields.specs.Field.{Message, text}
use Rattle.order_law.specs.Life.{after, born, first_token}
use Rattle.order_law.specs.History.{Asked, Entry, Said, SaysCancel, SaysNew, SaysReplace, Terms, answers, from_token}
use Rattle.order_law.specs.History.{terms_of, token_of}
use Rattle.order_law.specs.Lawful.{order_of_token, order_token}
use Rattle.order_law.specs.Told.{priced}
use Rattle.order_law.specs.Headline.{Each}
use Rattle.order_machine.specs.OrderRecord.{Cancelling, OrderRecord, asked_as, unanswered_tokens, live_token}
use Rattle.order_machine.specs.OrderRecord.{asked_replace, record_life, new_asked, replacements, replaces_asked}
use Rattle.order_machine.specs.OrderRecord.{still_cancelling}
use Rattle.order_machine.proofs.Texts.{eq-other, eq-same}
use Rattle.order_machine.proofs.Lists.{Each-map}
use Rattle.order_machine.proofs.Leads.{same_some}
use Rattle.order_machine.proofs.Moves.{Of, unanswered}
use Rattle.order_machine.proofs.Asked.{asked-parts}
use Rattle.order_machine.proofs.Accepted.{same-cancel}
use Rattle.order_machine.proofs.Executed.{unanswered-same}
use Rattle.order_machine.proofs.Fits.{IsFound, IsHome, IsUsed}

-- the message changes nothing of the order
pub record IsUntouched (terms : List Terms) (m : Outbound) (o : OrderRecord) : Type 0 where
  pub lives : after (record_life o) m ≡ record_life o
  pub asked : unanswered m (replacements o.replaces) (asked_as terms o) ≡ asked_as terms o
  pub price : (before : ℕ) → priced m (record_life o) before ≡ before

-- ---- a message without a token

pub tokenless-untouched : (terms : List Terms) (m : Outbound) (o : OrderRecord) → order_token m ≡ None
    → IsUntouched terms m o
tokenless-untouched terms (market.SystemEvent m) o none =
    record {
      lives = refl;
      asked = unanswered-same terms (market.SystemEvent m) (replacements o.replaces) o
          (λ said. refl);
      price = λ before. refl;
    }
tokenless-untouched terms market.Skipped o none =
    record {
      lives = refl;
      asked = unanswered-same terms market.Skipped (replacements o.replaces) o
          (λ said. refl);
      price = λ before. refl;
    }
tokenless-untouched terms (market.Accepted m) o none = absurd (cc)
tokenless-untouched terms (market.Replaced m) o none = absurd (cc)
tokenless-untouched terms (market.Canceled m) o none = absurd (cc)
tokenless-untouched terms (market.Executed m) o none = absurd (cc)
tokenless-untouched terms (market.Broken m) o none = absurd (cc)
tokenless-untouched terms (market.Rejected m) o none = absurd (cc)
tokenless-untouched terms (market.CancelPending m) o none = absurd (cc)
tokenless-untouched terms (market.CancelReject m) o none = absurd (cc)

-- ---- a message on another order

-- another order's token isn't one of this order's
pub apart-home : (terms : List Terms) (entries : List Entry) (port : ℕ) (token : List ℕ) (other new : Entry)
    → order_of_token terms port entries token ≡ Some other → bytes_eq other.order new.order ≡ false
    → (x : List ℕ) → IsHome terms entries new x → bytes_eq token x ≡ false
apart-home terms entries port token other new on apart x home =
    eq-other token x (λ same. by_port same (port == (terms_of terms new.client).port) refl)
  where
    by_port : token ≡ x → (b : Bool) → (port == (terms_of terms new.client).port) ≡ b → ⊥
    by_port same true t =
        let here : port ≡ (terms_of terms new.client).port = eqb-true port (terms_of terms new.client).port t in
        let mine : ◌≡◌ {A = Option Entry} (Some other) (Some new) = sym on
        ∙ ap (λ (p : ℕ). order_of_token terms p entries token) here
        ∙ ap (order_of_token terms (terms_of terms new.client).port entries) same ∙ home.mine in
        let alike : other ≡ new = same_some other new mine in
        let yes_own : bytes_eq other.order new.order ≡ true = ap (λ (e : Entry). bytes_eq e.order new.order) alike
        ∙ eq-same new.order in
        let x : true ≡ false = sym yes_own ∙ apart in cc
    by_port same false t =
        let off : port ≢ (terms_of terms new.client).port =
        λ e. (let b : (port == (terms_of terms new.client).port) ≡ true =
        eq-eqb port (terms_of terms new.client).port e in let x : true ≡ false = sym b ∙ t in cc) in
        let none : ◌≡◌ {A = Option Entry} (Some other) None = sym on ∙ ap (order_of_token terms port entries) same
        ∙ home.elsewhere port off in
        cc

-- the tokens that a message has
abbrev pub tokens_in : Outbound → List (List ℕ)
tokens_in (market.Replaced m) = m.token ∷ m.previous_token ∷ []
tokens_in other = option_to_list (order_token other)

-- none of the message's tokens is this one
abbrev pub Other : Outbound → List ℕ → Type 0
Other m x = Each (λ (token : List ℕ). bytes_eq token x ≡ false) (tokens_in m)

abbrev said_token : Said → List ℕ
said_token (SaysNew token) = token
said_token (SaysReplace from to) = to
said_token (SaysCancel token) = token

-- nothing is from a token on that isn't there
from-off : (token : List ℕ) (next : List (List ℕ)) → Each (λ (x : List ℕ). bytes_eq token x ≡ false) next
    → from_token token next ≡ []
from-off token [] off = refl
from-off token (x ∷ next) off = rw off.0 (from-off token next off.1)

among-none : (token : List ℕ) (m : Rejected) (next : List (List ℕ)) → Each (Other (market.Rejected m)) next
    → list_any (bytes_eq token) (from_token m.token next) ≡ false
among-none token m next others = ap (list_any (bytes_eq token))
    (from-off m.token next (Each-map (Other (market.Rejected m)) (λ (x : List ℕ). bytes_eq m.token x ≡ false) next
    (λ x off. off.0) others))

-- it answers nothing that is asked about another token, where the pending replaces have others too
answers-off : (m : Outbound) (next : List (List ℕ)) (said : Said) → Each (Other m) next → Other m (said_token said)
    → answers m next said ≡ false
answers-off (market.Accepted m) next (SaysNew token) others off = off.0
answers-off (market.Accepted m) next (SaysReplace from to) others off = refl
answers-off (market.Accepted m) next (SaysCancel token) others off = refl
answers-off (market.Replaced m) next (SaysNew token) others off = refl
answers-off (market.Replaced m) next (SaysReplace from to) others off = off.0
answers-off (market.Replaced m) next (SaysCancel token) others off = off.1.0
answers-off (market.Rejected m) next (SaysNew token) others off = off.0
answers-off (market.Rejected m) next (SaysReplace from to) others off = among-none to m next others
answers-off (market.Rejected m) next (SaysCancel token) others off = among-none token m next others
answers-off (market.CancelReject m) next (SaysNew token) others off = refl
answers-off (market.CancelReject m) next (SaysReplace from to) others off = refl
answers-off (market.CancelReject m) next (SaysCancel token) others off = off.0
answers-off (market.Canceled m) next said others off = refl
answers-off (market.Executed m) next said others off = refl
answers-off (market.Broken m) next said others off = refl
answers-off (market.CancelPending m) next said others off = refl
answers-off (market.SystemEvent m) next said others off = refl
answers-off market.Skipped next said others off = refl

-- it is nothing to an order that no message has been on, if it has not its token
pub born-passes : (m : Outbound) (root : List ℕ) (side : ℕ) → Other m root
    → (after (born root side) m ≡ born root side) × ((before : ℕ) → priced m (born root side) before ≡ before)
born-passes (market.Accepted m) root side off = (rw off.0 refl, λ before. rw off.0 refl)
born-passes (market.Replaced m) root side off = (rw off.1.0 refl, λ before. rw off.1.0 refl)
born-passes (market.Canceled m) root side off = (rw off.0 refl, λ before. refl)
born-passes (market.Executed m) root side off = (rw off.0 refl, λ before. refl)
born-passes (market.Broken m) root side off = (rw off.0 refl, λ before. refl)
born-passes (market.Rejected m) root side off = (rw off.0 refl, λ before. refl)
born-passes (market.CancelPending m) root side off = (refl, λ before. refl)
born-passes (market.CancelReject m) root side off = (refl, λ before. refl)
born-passes (market.SystemEvent m) root side off = (refl, λ before. refl)
born-passes market.Skipped root side off = (refl, λ before. refl)

module _ (terms : List Terms) (entries : List Entry) (sent : List Message) (o : OrderRecord)
    (holds : Of (IsHome terms entries o.new) (IsFound entries o.new) (IsUsed sent) o)
    (first : o.stage ≡ Waiting → o.tokens ≡ token_of o.new ∷ [])
    (left : (c : Cancelling) → o.cancel ≡ Some c → c.tokens ≢ []) where
  abbrev Elsewhere : Outbound → Type 0
  Elsewhere m = (x : List ℕ) → IsHome terms entries o.new x → Other m x

  any-off : (token : List ℕ) (tokens : List (List ℕ))
      → ((x : List ℕ) → IsHome terms entries o.new x → bytes_eq token x ≡ false)
      → Each (IsHome terms entries o.new) tokens → list_any (bytes_eq token) tokens ≡ false
  any-off token [] off homes = refl
  any-off token (t ∷ tokens) off homes = rw (off t homes.0) (any-off token tokens off homes.1)

  lives-on : (m : Outbound) → Elsewhere m → after (record_life o) m ≡ record_life o
  lives-on (market.Accepted m) off = rw (off (live_token o) holds.front).0 refl
  lives-on (market.Replaced m) off = rw (off (live_token o) holds.front).1.0 refl
  lives-on (market.Canceled m) off = rw (off (live_token o) holds.front).0 refl
  lives-on (market.Executed m) off = rw (off (live_token o) holds.front).0 refl
  lives-on (market.Broken m) off = rw (any-off m.token o.tokens (λ x home. (off x home).0) holds.live) refl
  lives-on (market.Rejected m) off = rw (off (live_token o) holds.front).0 refl
  lives-on (market.CancelPending m) off = refl
  lives-on (market.CancelReject m) off = refl
  lives-on (market.SystemEvent m) off = refl
  lives-on market.Skipped off = refl

  same-price : (m : Outbound) → Elsewhere m → (before : ℕ) → priced m (record_life o) before ≡ before
  same-price (market.Accepted m) off before = rw (off (live_token o) holds.front).0 refl
  same-price (market.Replaced m) off before = rw (off (live_token o) holds.front).1.0 refl
  same-price (market.Canceled m) off before = refl
  same-price (market.Executed m) off before = refl
  same-price (market.Broken m) off before = refl
  same-price (market.Rejected m) off before = refl
  same-price (market.CancelPending m) off before = refl
  same-price (market.CancelReject m) off before = refl
  same-price (market.SystemEvent m) off before = refl
  same-price market.Skipped off before = refl

  module _ (m : Outbound) (off : Elsewhere m) where
    abbrev next : List (List ℕ)
    next = replacements o.replaces

    next-off : (rs : List Entry) → Each (λ (q : Entry). IsHome terms entries o.new (token_of q)
        × IsFound entries o.new q × IsUsed sent (text 11 q.message)) rs → Each (Other m) (replacements rs)
    next-off [] holds = tt
    next-off (q ∷ rs) holds = (off (token_of q) holds.0.0, next-off rs holds.1)

    others : Each (Other m) next
    others = next-off o.replaces holds.replaces

    kept-all : (tokens : List (List ℕ)) → Each (IsHome terms entries o.new) tokens
        → unanswered_tokens m next tokens ≡ tokens
    kept-all [] homes = refl
    kept-all (token ∷ tokens) homes = rw (answers-off m next (SaysCancel token) others (off token homes.0))
        (ap (λ ts. token ∷ ts) (kept-all tokens homes.1))

    same-cancels : still_cancelling m next o.cancel ≡ o.cancel
    same-cancels = same-cancel o.cancel m next left (λ c is_c. kept-all c.tokens (holds.cancel c is_c).0)

    same-replaces : (from : List ℕ) (rs : List Entry) → Each (Other m) (replacements rs)
        → unanswered m next (replaces_asked o.new from rs) ≡ replaces_asked o.new from rs
    same-replaces from [] each = refl
    same-replaces from (q ∷ rs) each = rw (answers-off m next (SaysReplace from (token_of q)) others each.0)
        (ap (λ (xs : List Asked). asked_replace o.new from q ∷ xs) (same-replaces (token_of q) rs each.1))

    same-new : (s : Stage) → o.stage ≡ s → unanswered m next (new_asked terms o.new s) ≡ new_asked terms o.new s
    same-new Waiting is_s =
        let root : Other m (token_of o.new) = subst (λ (ts : List (List ℕ)). Other m (first_token ts)) (first is_s)
        (off (live_token o) holds.front) in
        rw (answers-off m next (SaysNew (token_of o.new)) others root) refl
    same-new Working is_s = refl
    same-new Closed is_s = refl

    pub other-untouched : IsUntouched terms m o
    other-untouched = record {
      lives = lives-on m off;
      asked = asked-parts terms m next o ∙ rw (
        same-cancels,
        same-new o.stage refl,
        same-replaces
            (live_token o) o.replaces others,
      ) refl;
      price = same-price m off;
    }
