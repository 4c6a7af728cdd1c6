use Rattle.std.proofs.Common.{◌+◌, ap, sym}
use Rattle.std.proofs.lemmas.List.{length-map}
use Rattle.toml.specs.View.{view}
use Rattle.settings_file.proofs.keys.number_behind.Goals as goal

pub returns : goal.returns
returns c = ap (λ n. n + 1) (sym (length-map c.args.earlier.now view))
