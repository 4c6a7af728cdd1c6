use Rattle.std.proofs.Common.{rules}
use Rattle.outstanding.proofs.answering.answers.Goals as goal

pub returns-in-Replace : goal.returns-in-Replace
returns-in-Replace c = let found = c.answers_replace.ensures c.in-Replace.replace.token in search (rules, found)
