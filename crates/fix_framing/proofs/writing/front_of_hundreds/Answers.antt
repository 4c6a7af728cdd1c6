use Rattle.std.proofs.Common.{List, ℕ, sym, ap}
use Rattle.fix_fields.proofs.Decimals.{three_digits}
use Rattle.fix_framing.specs.Frame.{head}
use Rattle.fix_framing.proofs.writing.front_of_hundreds.Goals as goal

pub returns : goal.returns
returns c =
    rw (c.last_digit.ensures, c.last_digit-2.ensures, c.last_digit-3.ensures)
    (ap (λ (ds : List ℕ). head ds) (sym (three_digits c.args.size c.requires.0 c.requires.1)))
