-- The word passes just where it is a symbol.
use Rattle.std.proofs.Common.{rules, true, false}
use Rattle.script_lines.specs.Forms.{is_stock}
use Rattle.script_lines.proofs.Tests.{stock_form}
use Rattle.script_lines.proofs.words.stock.Goals as goal

pub returns-then-is_empty-clause-form : goal.returns-then-is_empty-clause-form
unfolding is_stock
returns-then-is_empty-clause-form c = stock_form c.args.word.now false (search rules)

pub returns-then-word-gt8-clause-form : goal.returns-then-word-gt8-clause-form
unfolding is_stock
returns-then-word-gt8-clause-form c = stock_form c.args.word.now false (search rules)

pub returns-then-not-are_visible-clause-form : goal.returns-then-not-are_visible-clause-form
unfolding is_stock
returns-then-not-are_visible-clause-form c = stock_form c.args.word.now false (search rules)

pub returns-clause-form : goal.returns-clause-form
unfolding is_stock
returns-clause-form c = stock_form c.args.word.now true (search rules)
