-- The word passes just where it is one letter of the set.
use Rattle.std.proofs.Common.{sym}
use Rattle.ouch_codec.specs.Letters.{is_order_state}
use Rattle.script_lines.specs.Forms.{is_state_word}
use Rattle.script_lines.proofs.Tests.{no_letter, letter_form, state_found}
use Rattle.script_lines.proofs.words.order_state.Goals as goal

pub returns-in_err-letter-clause-form : goal.returns-in_err-letter-clause-form
unfolding is_state_word
returns-in_err-letter-clause-form c = rw c.from_residual.ensures
    (sym (no_letter is_order_state c.args.word.now c.in_err-letter.ensures))

pub returns-clause-form : goal.returns-clause-form
unfolding is_state_word
returns-clause-form c =
    letter_form is_order_state c.args.word.now c.in_ok-letter.field-0 _ c.in_ok-letter.ensures
    (state_found c.of_letter.result c.in_ok-letter.field-0 c.of_letter.ensures)
