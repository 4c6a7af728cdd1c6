use Rattle.std.proofs.Common.{◌≡◌, ◌<◌, ◌^◌, ◌++◌, true, ℕ, List, decimal, ap, ◌∙◌, arith}
use Rattle.std.specs.Prelude.{codes}
use Rattle.std.specs.List.{list_all}
use Rattle.order_law.specs.fix_fields.Field.{is_inside}
use Rattle.fix_values.proofs.Inside.{inside-append, inside-decimal}
use Rattle.to_market.proofs.refusal.fault_text.Goals as goal

inside : (all words digits : List ℕ) (n : ℕ) → all ≡ words ++ digits → words ≡ codes "port fault " → digits ≡ decimal n → n < 10 ^ 64 → list_all is_inside all ≡ true
inside all words digits n a w d small =
    ap (λ (l : List ℕ). list_all is_inside l) a
    ∙ inside-append words digits (ap (λ (l : List ℕ). list_all is_inside l) w)
    (ap (λ (l : List ℕ). list_all is_inside l) d ∙ inside-decimal n small)

pub from_vec-requires : goal.from_vec-requires
from_vec-requires c =
    inside c.extend_from_slice.new.self.items c.in_ok-text.text.items c.as_bytes.result.now c.args.number
    c.in_ok-extend_from_slice.ensures.items c.in_ok-text.ensures.items
    (c.as_bytes.ensures.value ∙ c.format.ensures.text) (omega arith)
