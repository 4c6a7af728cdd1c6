use Rattle.std.proofs.Common.{bytes_eq, map, option_map, List, Bor, ℕ, ap, sym, ◌∙◌}
use Rattle.std.specs.Prelude.{Option}
use Rattle.std.specs.List.{list_any}
use Rattle.control_guard.specs.Guard as spec
use Rattle.control_guard.proofs.Lists.{any-seen}
use Rattle.control_guard.proofs.table.is_own_host.Goals as goal

pub returns-in-Some : goal.returns-in-Some
returns-in-Some c =
    let hosts = c.args.hosts.now.items in
    c.names_one.ensures
    ∙ ap (list_any (λ v. bytes_eq c.in-Some.host.now v.items)) c.as_slice.ensures.value
    ∙ sym (any-seen (λ v. v.items) (bytes_eq c.in-Some.host.now) hosts)
    ∙ ap (λ (o : Option (Bor (List ℕ))). spec.is_own_host (map (λ v. v.items) hosts) (option_map (λ t. t.now) o))
    (sym c.in-Some.is)
