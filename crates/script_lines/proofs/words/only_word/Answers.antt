-- Where no space is.
use Rattle.std.proofs.Common.{sym}
use Rattle.script_lines.proofs.Spaces.{one_word, two_words}
use Rattle.script_lines.proofs.words.only_word.Goals as goal

pub returns-in-None : goal.returns-in-None
returns-in-None c = one_word c.args.text.now (sym c.in-None.ensures.first)

pub returns-in-Some : goal.returns-in-Some
returns-in-Some c = two_words c.args.text.now _ (sym c.in-Some.ensures.first)
