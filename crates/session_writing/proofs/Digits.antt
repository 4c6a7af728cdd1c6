-- Numbers as they are written.
use Rattle.std.proofs.Common.{ℕ, ◌^◌, ◌<◌, List, [], ◌∷◌, ◌++◌, refl, decimal, codes}
use Rattle.std.specs.List.{list_all}
use Rattle.fix_framing.specs.fix_fields.Field.{IsValue, is_inside}
use Rattle.fix_framing.proofs.fix_fields.Decimals.{inside-decimal}
use Rattle.fix_framing.proofs.fix_fields.Tags.{and_parts}

-- values one after another are a value
pub inside-append : (a b : List ℕ) → IsValue a → IsValue b → IsValue (a ++ b)
inside-append [] b h k = k
inside-append (x ∷ a) b h k = let p = and_parts (is_inside x) (list_all is_inside a) h in
    rw (p.0, inside-append a b p.1 k) refl

pub too-low-inside : (expected received : ℕ) → expected < 2 ^ 64 → received < 2 ^ 64
    → IsValue (codes "MsgSeqNum too low, expecting " ++ decimal expected ++ codes " but received " ++ decimal received)
too-low-inside expected received h k =
    inside-append (codes "MsgSeqNum too low, expecting " ++ decimal expected ++ codes " but received ") (decimal received)
    (inside-append (codes "MsgSeqNum too low, expecting " ++ decimal expected) (codes " but received ")
    (inside-append (codes "MsgSeqNum too low, expecting ") (decimal expected) refl (inside-decimal expected h)) refl)
    (inside-decimal received k)
