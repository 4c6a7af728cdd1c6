-- The word passes just where it is a number.
use Rattle.std.proofs.Common.{rules, true, false}
use Rattle.script_lines.specs.Forms.{is_share_count}
use Rattle.script_lines.proofs.Tests.{number_form}
use Rattle.script_lines.proofs.words.share_count.Goals as goal

pub returns-in-Some-clause-form : goal.returns-in-Some-clause-form
unfolding is_share_count
returns-in-Some-clause-form c = number_form 1 1_000_000 c.args.word.now true (search rules)

pub returns-in_default-clause-form : goal.returns-in_default-clause-form
unfolding is_share_count
returns-in_default-clause-form c = number_form 1 1_000_000 c.args.word.now false (search rules)

pub returns-in_default-2-clause-form : goal.returns-in_default-2-clause-form
unfolding is_share_count
returns-in_default-2-clause-form c = number_form 1 1_000_000 c.args.word.now false (search rules)

pub returns-in_default-3-clause-form : goal.returns-in_default-3-clause-form
unfolding is_share_count
returns-in_default-3-clause-form c = number_form 1 1_000_000 c.args.word.now false (search rules)
