-- All that ports were asked, what says it, and where its tokens lead, computed on exchanges that are written down.
use Rattle.std.proofs.Common.{◌≡◌, ℕ, Bool, true, false, List, [], ◌∷◌, Option, Some, None, codes, refl, sym, ap}
use Rattle.std.proofs.Common.{subst, inl, ⊎_elim, bytes_eq}
use Rattle.std.specs.Prelude.{map}
use Rattle.std.specs.Fmt.{digits}
use Rattle.fixed_point.specs.Decimal.{price, quantity, amount, amount_of, within, scaled, fraction, worth, worth_of}
use Rattle.tokens.specs.TokenText.{token_text, last_digits}
use Rattle.order_law.specs.Asks.{Standing}
use Rattle.order_law.specs.Verdicts.{Up}
use Rattle.order_law.specs.History.{OrderHistory, Asked, Said, SaysNew, SaysReplace, SaysCancel, accepted, terms_of}
use Rattle.order_law.specs.Headline.{HasTokens, has_type}
use Rattle.order_examples.specs.Transcript.{fixed_terms, asked_by, heard_by_client, enter_message, cancel_message}
use Rattle.order_examples.specs.Transcript.{cancel_pending_message}
use Rattle.order_examples.specs.Exchanges.{only_entered, entered_and_accepted, four_unanswered}
use Rattle.order_examples.specs.Exchanges.{ordered_on_a_faulted_port}
use Rattle.order_examples.specs.SeveralReplaces.{second_of_four_rejected}
use Rattle.world_law.specs.Asked.{BytesAsked, asked, leads, sender}

-- by types and tokens, in the order of asking
abbrev asked_on : ℕ → OrderHistory → List Said
asked_on port h = map (λ (a : Asked). a.said) (asked fixed_terms port h)

-- what was answered, fell or is of an order that is over was asked all the same; what was refused wasn't
asked_so_far :
    (asked_on 1 [] ≡ [])
    × (asked_on 1 only_entered ≡ SaysNew (token_text 1) ∷ [])
    × (asked_on 1 entered_and_accepted ≡ SaysNew (token_text 1) ∷ [])
    × (asked_on 1 four_unanswered ≡ SaysNew (token_text 1) ∷ SaysNew (token_text 2)
    ∷ SaysReplace (token_text 1) (token_text 3) ∷ SaysCancel (token_text 1) ∷ SaysCancel (token_text 3) ∷ [])
    × (asked_on 2 four_unanswered ≡ [])
    × (asked_on 1 second_of_four_rejected ≡ SaysNew (token_text 1) ∷ SaysReplace (token_text 1) (token_text 2)
    ∷ SaysReplace (token_text 2) (token_text 3) ∷ SaysReplace (token_text 3) (token_text 4)
    ∷ SaysReplace (token_text 4) (token_text 5) ∷ [])
    × (asked_on 2 ordered_on_a_faulted_port ≡ SaysNew (token_text 1) ∷ [])
unfolding digits price quantity amount amount_of within scaled fraction worth worth_of last_digits
asked_so_far = (refl, refl, refl, refl, refl, refl, refl)

-- the first token of the order that a token leads to; on another port, and of a token that nobody was given, none
abbrev first_of : ℕ → OrderHistory → ℕ → Option (List ℕ)
first_of port h number = leads fixed_terms port (accepted fixed_terms h) (token_text number)

leads_to_first :
    (first_of 1 only_entered 1 ≡ Some (token_text 1))
    × (first_of 2 only_entered 1 ≡ None)
    × (first_of 1 only_entered 2 ≡ None)
    × (first_of 1 four_unanswered 1 ≡ Some (token_text 1))
    × (first_of 1 four_unanswered 2 ≡ Some (token_text 2))
    × (first_of 1 four_unanswered 3 ≡ Some (token_text 1))
    × (first_of 1 second_of_four_rejected 5 ≡ Some (token_text 1))
unfolding digits price quantity amount amount_of within scaled fraction worth worth_of last_digits
leads_to_first = (refl, refl, refl, refl, refl, refl, refl)

-- a client's message is the client's, a market's is nobody's
senders :
    (sender (asked_by 3 Up (codes "35=F|41=A1|11=A2") (codes "35=9") []).event ≡ 3)
    × (sender (heard_by_client (cancel_pending_message 1) []).event ≡ 0)
senders = (refl, refl)

-- ---- bytes that were asked

abbrev first_of_all : List Asked → Asked
first_of_all [] = record { order = []; id = []; said = SaysCancel []; ask = None }
first_of_all (a ∷ asks) = a

abbrev its_standing : Standing
its_standing = (terms_of fixed_terms 1).standing

-- the Enter Order that was sent
entered_was_asked : BytesAsked fixed_terms 1 only_entered (enter_message 1 300)
unfolding digits price quantity amount amount_of within scaled fraction worth worth_of last_digits
entered_was_asked = record {
  asks = first_of_all (asked fixed_terms 1 only_entered);
  there = inl refl;
  standing = its_standing;
  order_of = λ token. None;
  says = record { tokens = (refl, refl); ask = refl };
}

-- it stays asked once it is answered
answered_was_asked : BytesAsked fixed_terms 1 entered_and_accepted (enter_message 1 300)
unfolding digits price quantity amount amount_of within scaled fraction worth worth_of last_digits
answered_was_asked = record {
  asks = first_of_all (asked fixed_terms 1 entered_and_accepted);
  there = inl refl;
  standing = its_standing;
  order_of = λ token. None;
  says = record { tokens = (refl, refl); ask = refl };
}

isnt_true : (b : Bool) → b ≡ false → b ≡ true → ⊥
isnt_true b e f = cc

other_token : HasTokens (SaysNew (token_text 1)) (enter_message 2 300) → ⊥
unfolding digits last_digits
other_token tokens = isnt_true (bytes_eq (token_text 2) (token_text 1)) refl
    (ap (λ (t : List ℕ). bytes_eq t (token_text 1)) tokens.1)

other_type : HasTokens (SaysNew (token_text 1)) (cancel_message 1) → ⊥
unfolding digits last_digits
other_type tokens = isnt_true (has_type (codes "O") (cancel_message 1)) refl tokens.0

-- not on the other port, not before any order, not with another token, and no Cancel Order of it
wasnt_asked :
    (BytesAsked fixed_terms 2 only_entered (enter_message 1 300) → ⊥)
    × (BytesAsked fixed_terms 1 [] (enter_message 1 300) → ⊥)
    × (BytesAsked fixed_terms 1 only_entered (enter_message 2 300) → ⊥)
    × (BytesAsked fixed_terms 1 only_entered (cancel_message 1) → ⊥)
unfolding digits price quantity amount amount_of within scaled fraction worth worth_of last_digits
wasnt_asked = (
  λ w. w.there,
  λ w. w.there,
  λ w. ⊎_elim (λ is. other_token (subst (λ (a : Asked). HasTokens a.said (enter_message 2 300)) (sym is) w.says.tokens))
      (λ n. n) w.there,
  λ w. ⊎_elim (λ is. other_type (subst (λ (a : Asked). HasTokens a.said (cancel_message 1)) (sym is) w.says.tokens))
      (λ n. n) w.there,
)
