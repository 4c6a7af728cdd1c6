-- A client's terms, by its number.
use Rattle.std.proofs.Common.{◌≡◌, ℕ, zero, suc, ◌+◌, ◌-◌, ◌≤◌, false, List, [], ◌∷◌, map, ap, ◌∙◌, arith}
use Rattle.std.proofs.lemmas.Bool.Decides.{nat_tests}
use Rattle.std.specs.Prelude.{Option, Some, slice_get, unwrap_or, ◌==◌}
use Rattle.to_market.specs.order_law.History.{terms_of}
use Rattle.to_market.specs.declared.client_terms.ClientTerms.{ClientTerms}
use Rattle.to_market.specs.TermsSeen.{terms_seen}

at_place : (ts : List ClientTerms) (k : ℕ) (t : ClientTerms) → slice_get ts k ≡ Some t
    → terms_of (map terms_seen ts) (k + 1) ≡ terms_seen t
at_place [] k t e = absurd cc
at_place (x ∷ ts) zero t e = ap (λ (o : Option ClientTerms). terms_seen (unwrap_or o t)) e
at_place (x ∷ ts) (suc k) t e =
    let not_first : (suc k + 1 == 1) ≡ false = grind (arith, nat_tests) in
    let one_less : suc k + 1 - 1 ≡ k + 1 = omega arith in
    rw (not_first, one_less) (at_place ts k t e)

pub terms_of-at : (ts : List ClientTerms) (client : ℕ) (t : ClientTerms) → 1 ≤ client
    → slice_get ts (client - 1) ≡ Some t → terms_of (map terms_seen ts) client ≡ terms_seen t
terms_of-at ts client t from_one e =
    let number : client ≡ client - 1 + 1 = omega arith in
    ap (λ n. terms_of (map terms_seen ts) n) number ∙ at_place ts (client - 1) t e
