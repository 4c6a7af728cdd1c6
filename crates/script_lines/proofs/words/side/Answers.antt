-- The word passes just where it is one letter of the set.
use Rattle.std.proofs.Common.{sym}
use Rattle.ouch_codec.specs.Letters.{is_side}
use Rattle.script_lines.specs.Forms.{is_side_word}
use Rattle.script_lines.proofs.Tests.{no_letter, letter_form, side_found}
use Rattle.script_lines.proofs.words.side.Goals as goal

pub returns-in_err-letter-clause-form : goal.returns-in_err-letter-clause-form
unfolding is_side_word
returns-in_err-letter-clause-form c = rw c.from_residual.ensures
    (sym (no_letter is_side c.args.word.now c.in_err-letter.ensures))

pub returns-clause-form : goal.returns-clause-form
unfolding is_side_word
returns-clause-form c =
    letter_form is_side c.args.word.now c.in_ok-letter.field-0 _ c.in_ok-letter.ensures
    (side_found c.of_letter.result c.in_ok-letter.field-0 c.of_letter.ensures)
