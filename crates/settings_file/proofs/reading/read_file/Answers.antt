use Rattle.std.proofs.Common.{◌≡◌, [], map, rules, sym, ap, subst, ◌∙◌}
use Rattle.std.specs.Prelude.{codes, None}
use Rattle.std.proofs.lemmas.Bool.{and_parts}
use Rattle.gate_law.specs.fix_fields.Field.{IsValue}
use Rattle.gate_law.specs.Limits.{is_name}
use Rattle.gate_settings.proofs.Served.{named}
use Rattle.toml.specs.View.{view}
use Rattle.settings_file.specs.Rules.{own_name, refused, tables_at}
use Rattle.settings_file.specs.File.{client_at, login_at}
use Rattle.settings_file.proofs.Found.{found-text}
use Rattle.settings_file.proofs.Served.{served-as, what_is_not_refused_is_served}
use Rattle.settings_file.proofs.reading.read_file.Goals as goal

pub copied-requires : goal.copied-requires
copied-requires c =
    let comp = c.in-Some.comp in
    let found = found-text (λ s. s.now) c.own_name.result comp (own_name (codes "comp") []) (view c.args.file.now) c.own_name.ensures c.in-Some.is in
    subst IsValue (sym c.as_bytes.ensures.value) (named comp.now (and_parts (is_name comp.now) _ found.1).0)

pub new-requires : goal.new-requires
new-requires c =
    let file = view c.args.file.now in
    let ports = c.tables_at-port_tables in
    let clients = c.tables_at-client_tables in
    let found = found-text (λ s. s.now) c.own_name.result c.in-Some.comp (own_name (codes "comp") []) file c.own_name.ensures c.in-Some.is in
    let none : refused file ≡ None = search rules in
    served-as c.in_ok-comp.comp _ c.in_ok-ports.ports.settings.items _ c.in_ok-clients.clients.settings.items _
    (c.in_ok-comp.ensures ∙ c.as_bytes.ensures.value ∙ sym found.0)
    (c.in_ok-ports.ensures.settings ∙ ap (map login_at) ports.ensures)
    (c.in_ok-clients.ensures.settings
    ∙ ap (λ ps. map (client_at ps) (map view clients.result.now)) ports.ensures
    ∙ ap (map (client_at (tables_at (codes "port") file))) clients.ensures)
    (what_is_not_refused_is_served file none)
