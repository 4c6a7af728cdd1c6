-- What a message asks depends on the order of its own token alone.
use Rattle.std.proofs.Common.{◌≡◌, ℕ, Bool, true, false, List, [], ◌∷◌, length, refl, ap, ◌∙◌, codes, eqb-true}
use Rattle.std.specs.Prelude.{◌==◌, ◌&&◌, Option, Some, nat_le, slice_index}
use Rattle.std.specs.Str.Parse.{digits_value}
use Rattle.order_law.specs.ouch_codec.Layout.{is_message}
use Rattle.order_law.specs.ouch_codec.Layouts as layouts
use Rattle.order_law.specs.ouch_codec.Parts.{type_of}
use Rattle.order_law.specs.ouch_codec.ToMarket as said
use Rattle.order_law.specs.Asks.{Standing, ask_of_bytes}
use Rattle.order_law.specs.History.{Asked, Said, SaysNew, SaysReplace, SaysCancel}
use Rattle.order_law.specs.Headline.{HasTokens, Says, has_type}
use Rattle.outstanding.specs.Keeping.{always}
use Rattle.order_machine.specs.Runs.{finds_said, Finds}

with_false : (x : Bool) → (x && false) ≡ false
with_false true = refl
with_false false = refl

-- bytes that begin with another type are no Replace Order, and no Cancel Order
no_replace_order : (m : List ℕ) → (slice_index m 0 == 85) ≡ false → is_message layouts.replace_layout m ≡ false
no_replace_order [] h = refl
no_replace_order (b ∷ m) h = rw h (with_false (nat_le 1 (length (b ∷ m))))

no_cancel_order : (m : List ℕ) → (slice_index m 0 == 88) ≡ false → is_message layouts.cancel_layout m ≡ false
no_cancel_order [] h = refl
no_cancel_order (b ∷ m) h = rw h (with_false (nat_le 1 (length (b ∷ m))))

-- a new order names no order
new-names-none : (standing : Standing) (one other : List ℕ → Option ℕ) (m : List ℕ) → has_type (codes "O") m ≡ true
    → ask_of_bytes standing one m ≡ ask_of_bytes standing other m
new-names-none standing one other m e =
    let letter : slice_index m 0 ≡ 79 = eqb-true (type_of m) 79 e in
    let no_replace : is_message layouts.replace_layout m ≡ false = no_replace_order m (ap (λ (b : ℕ). b == 85) letter)
    in
    let no_cancel : is_message layouts.cancel_layout m ≡ false = no_cancel_order m (ap (λ (b : ℕ). b == 88) letter) in
    rw (no_replace, no_cancel) refl

-- where both lead its token to the same order, a message asks the same
asks-alike : (standing : Standing) (one other : List ℕ → Option ℕ) (m : List ℕ) (order : ℕ)
    → one (said.token m) ≡ Some order → other (said.token m) ≡ Some order
    → ask_of_bytes standing one m ≡ ask_of_bytes standing other m
asks-alike standing one other m order e f = rw (e, f) refl

asks-found : (standing : Standing) (s : Said) (order : List ℕ) (order_of : List ℕ → Option ℕ) (m : List ℕ)
    → HasTokens s m → finds_said order_of order s
    → ask_of_bytes standing order_of m ≡ ask_of_bytes standing (always order) m
asks-found standing (SaysNew token) order order_of m h finds = new-names-none standing order_of (always order) m h.0
asks-found standing (SaysReplace from to) order order_of m h finds =
    asks-alike standing order_of (always order) m (digits_value 10 order) (ap order_of h.1 ∙ finds) refl
asks-found standing (SaysCancel token) order order_of m h finds =
    asks-alike standing order_of (always order) m (digits_value 10 order) (ap order_of h.1 ∙ finds) refl

-- a message that says what is asked of the order that is meant says it wherever its token leads there
pub says-found : (standing : Standing) (order_of : List ℕ → Option ℕ) (a : Asked) (m : List ℕ) → Finds order_of a
    → Says standing (always a.order) a m → Says standing order_of a m
says-found standing order_of a m finds says = record {
  tokens = says.tokens;
  ask = asks-found standing a.said a.order order_of m says.tokens finds ∙ says.ask;
}
