-- The word passes just where it is a number.
use Rattle.std.proofs.Common.{rules, ◌^◌, true, false}
use Rattle.script_lines.specs.Forms.{is_number32}
use Rattle.script_lines.proofs.Tests.{any_number_form}
use Rattle.script_lines.proofs.words.number32.Goals as goal

pub returns-in-Some-clause-form : goal.returns-in-Some-clause-form
unfolding is_number32
returns-in-Some-clause-form c = any_number_form (2 ^ 32) c.args.word.now true (search rules)

pub returns-in_default-clause-form : goal.returns-in_default-clause-form
unfolding is_number32
returns-in_default-clause-form c = any_number_form (2 ^ 32) c.args.word.now false (search rules)

pub returns-in_default-2-clause-form : goal.returns-in_default-2-clause-form
unfolding is_number32
returns-in_default-2-clause-form c = any_number_form (2 ^ 32) c.args.word.now false (search rules)
