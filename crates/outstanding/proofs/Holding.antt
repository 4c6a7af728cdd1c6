-- What the code keeps, by its fields and by its bytes.
use Rattle.std.proofs.Common.{◌≡◌, ℕ, ◌<◌, ◌^◌, Bool, true, false, List, refl, sym, ap, ◌∙◌, arith, decimal, bytes_eq}
use Rattle.std.proofs.Common.{eq-eqb, eqb-true}
use Rattle.std.specs.Prelude.{◌==◌, ◌&&◌, ◌||◌}
use Rattle.order_law.specs.ouch_codec.declared.outbound.Outbound.{Outbound}
use Rattle.order_law.specs.History.{Said, answers}
use Rattle.order_machine.proofs.Texts.{decimal-same, eq-other, eq-true}
use Rattle.outstanding.specs.declared.asked.AskedMessage.{AskedMessage}
use Rattle.outstanding.specs.Kept.{is_answered_by, asked_by_fields, seen}
use Rattle.outstanding.proofs.Saying.{said_in-written}

number-test : (m n : ℕ) → m < 2 ^ 64 → n < 2 ^ 64 → (m == n) ≡ bytes_eq (decimal m) (decimal n)
number-test m n m_small n_small = by_test (m == n) refl
  where
    by_test : (b : Bool) → (m == n) ≡ b → b ≡ bytes_eq (decimal m) (decimal n)
    by_test true e = sym (eq-true (decimal m) (decimal n) (ap decimal (eqb-true m n e)))
    by_test false e = sym (eq-other (decimal m) (decimal n)
        (λ same. (let alike : m ≡ n = decimal-same m n (omega arith) (omega arith) same in let on : (m == n) ≡ true =
        eq-eqb m n alike in let x : true ≡ false = sym on ∙ e in cc)))

-- a message is answered as its fields have it
pub answered-by_fields : (asked : AskedMessage) (port : ℕ) (m : Outbound) (next : List (List ℕ)) (order_id : ℕ)
    (is_closed : Bool) → asked.order_id < 2 ^ 64 → order_id < 2 ^ 64
    → is_answered_by port m next (decimal order_id) is_closed (seen asked)
    ≡ (asked.port == port && (asked.order_id == order_id
    && (answers m next (asked_by_fields asked.message) || is_closed)))
answered-by_fields asked port m next order_id is_closed small small' =
    ap (λ (s : Said). asked.port == port && (bytes_eq (decimal asked.order_id) (decimal order_id)
    && (answers m next s || is_closed))) (said_in-written asked.message)
    ∙ ap (λ (b : Bool). asked.port == port && (b && (answers m next (asked_by_fields asked.message) || is_closed)))
    (sym (number-test asked.order_id order_id small small'))

-- what a message answers of an order on a port, by each test
pub is-answer : (p o x c : Bool) → p ≡ true → o ≡ true → x ≡ true → (p && (o && (x || c))) ≡ true
is-answer p o x c e f g = rw (e, f, g) refl

pub is-closing : (p o x c : Bool) → p ≡ true → o ≡ true → x ≡ false → (p && (o && (x || c))) ≡ c
is-closing p o x c e f g = rw (e, f, g) refl

pub is-other : (p o x c : Bool) → p ≡ true → o ≡ false → (p && (o && (x || c))) ≡ false
is-other p o x c e f = rw (e, f) refl
