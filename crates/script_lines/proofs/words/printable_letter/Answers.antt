-- The word passes just where it is one letter of the set.
use Rattle.std.proofs.Common.{sym, true, false}
use Rattle.wire_law.specs.Printable.{is_printable}
use Rattle.script_lines.specs.Forms.{is_printable_word}
use Rattle.script_lines.proofs.Tests.{no_letter, letter_form}
use Rattle.script_lines.proofs.words.printable_letter.Goals as goal

pub returns-in-Some-clause-form : goal.returns-in-Some-clause-form
unfolding is_printable_word
returns-in-Some-clause-form c = letter_form is_printable c.args.word.now c.in-Some.byte true c.in-Some.ensures
    c.if-is_printable.ensures

pub returns-in_default-clause-form : goal.returns-in_default-clause-form
unfolding is_printable_word
returns-in_default-clause-form c = letter_form is_printable c.args.word.now c.in-Some.byte false c.in-Some.ensures
    c.if-is_printable.ensures

pub returns-in_default-2-clause-form : goal.returns-in_default-2-clause-form
unfolding is_printable_word
returns-in_default-2-clause-form c = sym (no_letter is_printable c.args.word.now c.in_default.ensures)
