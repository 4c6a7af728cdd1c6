-- What the first space cuts.
use Rattle.std.proofs.Common.{sym}
use Rattle.script_lines.proofs.Spaces.{one_word, first_and_rest}
use Rattle.script_lines.proofs.words.first_word.Goals as goal

pub returns-in-None-clause-words : goal.returns-in-None-clause-words
returns-in-None-clause-words c = one_word c.args.text.now (sym c.in-None.ensures.first)

pub returns-in-Some-clause-words : goal.returns-in-Some-clause-words
returns-in-Some-clause-words c = first_and_rest c.args.text.now c.in-Some.at (sym c.in-Some.ensures.first)
