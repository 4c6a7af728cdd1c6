use Rattle.std.proofs.Common.{◌≡◌, [], map, take, drop}
use Rattle.std.specs.Prelude.{codes, string_bytes}
use Rattle.toml.specs.View.{view}
use Rattle.settings_file.specs.Rules.{first_refused, refused_client}
use Rattle.settings_file.specs.File.{client_at, text_at}
use Rattle.settings_file.proofs.reading.read_clients.Given as goal

abbrev pub invariant-loop-i : goal.invariant-loop-i
invariant-loop-i l = record {
  settings : l.settings.items ≡ map (client_at (map view l.ports)) (map view (take l.i l.tables));
  listens : map string_bytes l.listens.items ≡ map (text_at (codes "listen")) (map view (take l.i l.tables));
  refused : first_refused (refused_client (map view l.ports)) [] (map view l.tables)
      ≡ first_refused (refused_client (map view l.ports)) (map view (take l.i l.tables)) (map view (drop l.i l.tables));
}
