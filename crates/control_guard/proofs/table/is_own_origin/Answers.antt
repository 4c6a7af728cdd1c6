use Rattle.std.proofs.Common.{map, option_map, List, Bor, ℕ, ap, sym, ◌∙◌}
use Rattle.std.specs.Prelude.{Option}
use Rattle.std.specs.List.{list_any}
use Rattle.control_guard.specs.Guard as spec
use Rattle.control_guard.proofs.Lists.{any-seen}
use Rattle.control_guard.proofs.table.is_own_origin.Goals as goal

pub returns-in-Some : goal.returns-in-Some
returns-in-Some c =
    let hosts = c.args.hosts.now.items in
    c.is_of_one.ensures
    ∙ ap (list_any (λ v. spec.is_origin_of v.items c.in-Some.origin.now)) c.as_slice.ensures.value
    ∙ sym (any-seen (λ v. v.items) (λ host. spec.is_origin_of host c.in-Some.origin.now) hosts)
    ∙ ap (λ (o : Option (Bor (List ℕ))). spec.is_own_origin (map (λ v. v.items) hosts) (option_map (λ t. t.now) o))
    (sym c.in-Some.is)
