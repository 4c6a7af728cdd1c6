-- What follows from the verdict of a client's message.
use Rattle.std.proofs.Common.{◌≡◌, ℕ, zero, suc, ◌<◌, ◌≤◌, ◌^◌, Bool, true, false, List, [], ◌∷◌, refl, sym, ap, ◌∙◌}
use Rattle.std.proofs.Common.{arith, decimal, codes, bytes_eq, Option, Some, None, Result, Ok, Err, slice_get}
use Rattle.std.specs.Prelude.{◌&&◌, not, if◌then◌else◌, is_ok, nat_le, option_and_then}
use Rattle.std.specs.List.{find}
use Rattle.std.specs.Fmt.{digits}
use Rattle.std.specs.Result.{result_unwrap_or}
use Rattle.std.proofs.lemmas.Bool.Decides.{nat_tests}
use Rattle.fixed_point.specs.declared.refusal.DecimalRefusal.{DecimalRefusal}
use Rattle.fixed_point.specs.Decimal.{quantity}
use Rattle.fixed_point.proofs.SaidInRange.{quantity_range}
use Rattle.fix_fields.specs.Field.{Message, text}
use Rattle.order_law.specs.Asks.{total_of}
use Rattle.order_law.specs.Reading.{reading}
use Rattle.order_law.specs.Chain.{chain, is_used, named}
use Rattle.order_law.specs.Verdicts.{Accepted, Named, Port, Refused, Row, first_row, has_to_wait, is_replace}
use Rattle.order_law.specs.Verdicts.{last_token, new_order_rows, request_rows, verdict_of_new, verdict_of_request}
use Rattle.order_law.specs.History.{Entry, Terms, new_of, standing_of}
use Rattle.order_machine.proofs.Leads.{same_some}

-- where a table accepts, no row holds
pub row-fails : (rows : List Row) (i : ℕ) (r : Row) → first_row rows ≡ Accepted → slice_get rows i ≡ Some r
    → r.holds ≡ false
row-fails [] i r e at = absurd (cc)
row-fails (q ∷ rows) zero r e at = by_test q.holds refl e
  where
    same : q ≡ r
    same = cc

    by_test : (b : Bool) → q.holds ≡ b → (if b then Refused q.code q.why else first_row rows) ≡ Accepted
        → r.holds ≡ false
    by_test true h e = absurd (cc)
    by_test false h e = ap (λ (x : Row). x.holds) (sym same) ∙ h
row-fails (q ∷ rows) (suc i) r e at = by_test q.holds e (λ rest. row-fails rows i r rest at)
  where
    by_test : (b : Bool) → (if b then Refused q.code q.why else first_row rows) ≡ Accepted
        → (first_row rows ≡ Accepted → r.holds ≡ false) → r.holds ≡ false
    by_test true e later = absurd (cc)
    by_test false e later = later e

fits-below : (n : ℕ) → nat_le last_token n ≡ false → n < 9_999_999_999_999
fits-below n e = grind (arith, nat_tests)

shares-of : (said : Result ℕ DecimalRefusal) → not (is_ok said) ≡ false
    → ((n : ℕ) → said ≡ Ok n → (1 ≤ n) × (n ≤ 999_999))
    → (1 ≤ result_unwrap_or said 0) × (result_unwrap_or said 0 ≤ 999_999)
shares-of (Ok n) e range = range n refl
shares-of (Err r) e range = absurd (cc)

-- what an accepted new order says
pub record NewSays (sent : List Message) (given : ℕ) (m : Message) : Type 0 where
  pub unused : is_used (text 11 m) sent ≡ false
  pub most : total_of m ≤ 999_999
  pub token : given < 9_999_999_999_999

pub new-says : (sent : List Message) (port : Port) (given : ℕ) (m : Message)
    → verdict_of_new sent port given m ≡ Accepted → NewSays sent given m
new-says sent port given m e =
    let rows = new_order_rows sent port given m in
    let used = row-fails rows 0 (record { holds = is_used (text 11 m) sent; code = 6; why = codes "duplicate ClOrdID" }) e refl in
    let shares = row-fails rows 9 (record { holds = not (is_ok (quantity 1 (text 38 m))); code = 13; why = codes "quantity" }) e refl in
    let token = row-fails rows 15 (record { holds = nat_le last_token given; code = 99; why = codes "no token left" }) e refl in
    let said = shares-of (quantity 1 (text 38 m)) shares (λ n is_n. quantity_range 1 (text 38 m) n is_n) in
    record { unused = used; most = said.1; token = fits-below given token }

-- what an accepted request says, on an order
pub record RequestSays (sent : List Message) (named : Option Named) (given : ℕ) (m : Message) : Type 0 where
  pub n : Named
  pub is_n : named ≡ Some n
  pub unused : is_used (text 11 m) sent ≡ false
  pub lives : n.reading.is_closed ≡ false
  pub may : has_to_wait (is_replace m) n.chain ≡ false
  pub token : is_replace m ≡ true → given < 9_999_999_999_999

pub request-says : (sent : List Message) (named : Option Named) (port : Port) (given : ℕ) (m : Message)
    → verdict_of_request sent named port given m ≡ Accepted → RequestSays sent named given m
request-says sent None port given m e = absurd (by_used (is_used (text 11 m) sent) e)
  where
    by_used : (b : Bool) → (if b then Refused 6 (codes "duplicate ClOrdID") else Refused 1 (codes "unknown order")) ≡ Accepted → ⊥
    by_used true e = cc
    by_used false e = cc
request-says sent (Some n) port given m e =
    let rows = request_rows sent (Some n) port given m in
    record {
      n = n;
      is_n = refl;
      unused = row-fails rows 0 (record { holds = is_used (text 11 m) sent; code = 6; why = codes "duplicate ClOrdID" }) e refl;
      lives = row-fails rows 1 (record { holds = n.reading.is_closed; code = 0; why = codes "too late" }) e refl;
      may = row-fails rows 4 (record { holds = has_to_wait (is_replace m) n.chain; code = 3; why = codes "already pending" }) e refl;
      token = λ kind. fits-below given (row-fails rows 16 (record { holds = nat_le last_token given; code = 2; why = codes "no token left" }) e (rw kind refl));
    }

-- what a request names
pub named-is : (terms : List Terms) (sent : List Message) (entries : List Entry) (id : List ℕ) (n : Named)
    → option_and_then (standing_of terms sent entries) (named id sent) ≡ Some n
    → (k : List ℕ) × (named id sent ≡ Some k) × (n.reading ≡ reading k sent) × (n.chain ≡ chain k sent)
named-is terms sent entries id n e = by_named (named id sent) refl e
  where
    by_new : (k : List ℕ) → named id sent ≡ Some k → (x : Option Entry) → new_of k entries ≡ x
        → standing_of terms sent entries k ≡ Some n
        → (k : List ℕ) × (named id sent ≡ Some k) × (n.reading ≡ reading k sent) × (n.chain ≡ chain k sent)
    by_new k is_k None is_x e = absurd (let y : ◌≡◌ {A = Option Named} None (Some n) = rw is_x at e in cc)
    by_new k is_k (Some x) is_x e =
        let y = same_some (record {
          side = text 54 x.message;
          symbol = text 55 x.message;
          capacity =
              Rattle.order_law.specs.Asks.capacity_of (Rattle.order_law.specs.History.terms_of terms x.client).capacity
              x.message;
          reading = reading k sent;
          chain = chain k sent;
          replaces =
              Rattle.std.specs.List.count_by (λ (q : Entry). bytes_eq q.order k && is_replace q.message) entries;
        }) n
        (rw is_x at e) in
        (k, is_k, ap (λ (s : Named). s.reading) (sym y), ap (λ (s : Named). s.chain) (sym y))

    by_named : (x : Option (List ℕ)) → named id sent ≡ x → option_and_then (standing_of terms sent entries) x ≡ Some n
        → (k : List ℕ) × (named id sent ≡ Some k) × (n.reading ≡ reading k sent) × (n.chain ≡ chain k sent)
    by_named None is_x e = absurd (cc)
    by_named (Some k) is_x e = by_new k is_x (new_of k entries) refl e

-- a request that is refused for another reason has an id of its own
six : bytes_eq (decimal 6) (codes "6") ≡ true
unfolding digits
six = refl

pub refused-unused : (sent : List Message) (named : Option Named) (port : Port) (given : ℕ) (m : Message) (code : ℕ) (why : List ℕ) → verdict_of_request sent named port given m ≡ Refused code why → bytes_eq (decimal code) (codes "6") ≡ false → is_used (text 11 m) sent ≡ false
refused-unused sent named port given m code why e other = by_used (is_used (text 11 m) sent) refl
  where
    code-of : (c d : ℕ) (x y : List ℕ) → Refused c x ≡ Refused d y → c ≡ d
    code-of c d x y e = cc

    by_used : (b : Bool) → is_used (text 11 m) sent ≡ b → is_used (text 11 m) sent ≡ false
    by_used true used =
        let first : Refused 6 (codes "duplicate ClOrdID") ≡ Refused code why = rw used at e in
        let same : 6 ≡ code = code-of 6 code (codes "duplicate ClOrdID") why first in
        absurd (let x : true ≡ false = sym six ∙ (ap (λ (n : ℕ). bytes_eq (decimal n) (codes "6")) same ∙ other) in cc)
    by_used false used = used

not-text : codes "NONE" ≡ decimal 25644 → ⊥
unfolding digits
not-text e = cc

-- `NONE` is no number
pub none-apart : (n : ℕ) → n < 10 ^ 64 → bytes_eq (codes "NONE") (decimal n) ≡ false
none-apart n small = Rattle.order_machine.proofs.Texts.eq-other (codes "NONE") (decimal n) (λ same.
    let value : n ≡ 25644 = sym (Rattle.order_machine.proofs.Texts.number-decimal n small)
    ∙ ap (Rattle.std.specs.Str.Parse.digits_value 10) (sym same) in
    not-text (same ∙ ap decimal value))
