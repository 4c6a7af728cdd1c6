use Rattle.std.proofs.Common.{refl, sym, ap, ◌∙◌}
use Rattle.gate_law.specs.Settings.{ClientSettings}
use Rattle.gate_settings.proofs.Names.{each_own-split}
use Rattle.gate_settings.proofs.limits.+is_each_own.Goals as goal

pub returns-then-not-is_named : goal.returns-then-not-is_named
returns-then-not-is_named t c =
    let name = c.as_slice.ensures.bytes ∙ ap (λ (first : ClientSettings). first.comp) c.first.view_is in
    sym (each_own-split c.args.clients.now c.first-item.result c.as_slice.result.now c.is_named.result
    c.in-len1-up.len_at_least c.first-item.is name c.is_named.ensures
    ∙ rw c.if-not-is_named.true (sym c.is_each_own.ensures))

pub returns-else-not-is_named : goal.returns-else-not-is_named
returns-else-not-is_named t c =
    let name = c.as_slice.ensures.bytes ∙ ap (λ (first : ClientSettings). first.comp) c.first.view_is in
    sym (each_own-split c.args.clients.now c.first-item.result c.as_slice.result.now c.is_named.result
    c.in-len1-up.len_at_least c.first-item.is name c.is_named.ensures
    ∙ rw c.if-not-is_named.false refl)
