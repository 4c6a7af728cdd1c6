-- The word passes just where it is a number.
use Rattle.std.proofs.Common.{rules, ◌^◌, false}
use Rattle.script_lines.specs.Forms.{is_token_number}
use Rattle.script_lines.proofs.Tests.{number_form}
use Rattle.script_lines.proofs.words.token.Goals as goal

pub returns-in-Some-clause-form : goal.returns-in-Some-clause-form
unfolding is_token_number
returns-in-Some-clause-form c = number_form 1 (10 ^ 13) c.args.word.now _ (search rules)

pub returns-in-None-clause-form : goal.returns-in-None-clause-form
unfolding is_token_number
returns-in-None-clause-form c = number_form 1 (10 ^ 13) c.args.word.now false (search rules)
