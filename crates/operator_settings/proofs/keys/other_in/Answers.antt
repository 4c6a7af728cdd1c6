use Rattle.std.proofs.Common.{◌∙◌, ap, sym}
use Rattle.std.specs.Prelude.{Some, option_map, string_bytes}
use Rattle.operator_settings.proofs.OtherKeys.{other-seen}
use Rattle.operator_settings.proofs.keys.other_in.Goals as goal

pub returns-in-Some : goal.returns-in-Some
returns-in-Some c =
    ap Some c.as_str.ensures.value
    ∙ ap (option_map string_bytes) (ap (option_map (λ k. k.now)) (sym c.in-Some.is) ∙ c.other_key.ensures)
    ∙ other-seen (λ s. s.now) c.args.keys.now c.args.table.now.entries

pub returns-in-None : goal.returns-in-None
returns-in-None c =
    ap (option_map string_bytes) (ap (option_map (λ k. k.now)) (sym c.in-None.is) ∙ c.other_key.ensures)
    ∙ other-seen (λ s. s.now) c.args.keys.now c.args.table.now.entries
