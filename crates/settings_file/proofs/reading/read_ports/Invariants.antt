use Rattle.std.proofs.Common.{◌≡◌, [], map, take, drop}
use Rattle.std.specs.Prelude.{codes, string_bytes}
use Rattle.toml.specs.View.{view}
use Rattle.settings_file.specs.Rules.{first_refused, refused_port}
use Rattle.settings_file.specs.File.{login_at, text_at}
use Rattle.settings_file.proofs.reading.read_ports.Given as goal

abbrev pub invariant-loop-i : goal.invariant-loop-i
invariant-loop-i l = record {
  settings : l.settings.items ≡ map login_at (map view (take l.i l.tables));
  addresses : map string_bytes l.addresses.items ≡ map (text_at (codes "address")) (map view (take l.i l.tables));
  refused : first_refused refused_port [] (map view l.tables)
      ≡ first_refused refused_port (map view (take l.i l.tables)) (map view (drop l.i l.tables));
}
