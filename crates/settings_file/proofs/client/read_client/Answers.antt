use Rattle.std.proofs.Common.{map}
use Rattle.std.specs.Prelude.{codes}
use Rattle.std.proofs.lemmas.Bool.{and_parts}
use Rattle.gate_law.specs.Limits.{is_name}
use Rattle.gate_settings.proofs.Served.{named}
use Rattle.toml.specs.View.{view}
use Rattle.settings_file.specs.Rules.{own_name}
use Rattle.settings_file.proofs.Found.{found-text}
use Rattle.settings_file.proofs.client.read_client.Goals as goal

pub entry-requires : goal.entry-requires
entry-requires c =
    let rule = own_name (codes "comp") (map view c.args.earlier.now) in
    let found = found-text (λ s. s.now) c.own_name.result c.in-Some.comp rule
    (view c.args.table.now) c.own_name.ensures c.in-Some.is in
    record { name = named c.in-Some.comp.now (and_parts (is_name c.in-Some.comp.now) _ found.1).0 }
