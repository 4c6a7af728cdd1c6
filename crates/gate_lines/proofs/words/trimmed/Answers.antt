-- What `trim_ascii_end` leaves, as a function of the word.
use Rattle.std.proofs.lemmas.Str.Ascii.{trim_ascii_end_is}
use Rattle.gate_lines.proofs.words.trimmed.Goals as goal

pub returns : goal.returns
returns c = trim_ascii_end_is c.args.word.now c.trim_ascii_end.result.now c.trim_ascii_end.ensures.value
