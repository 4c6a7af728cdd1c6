use Rattle.std.proofs.Common.{List, sym, ap, ◌∙◌}
use Rattle.std.specs.Prelude.{Option, [], unwrap_or}
use Rattle.std.proofs.lemmas.Result.{IfOk-weaker}
use Rattle.fix_fields.specs.Field.{Field}
use Rattle.fix_fields.proofs.Splitting.{computed}
use Rattle.fix_fields.proofs.fields.Fields.known.Goals as goal

pub returns : goal.returns
returns c =
    let all = computed c.args.text.now c.in_ok-spans.spans.items c.in_ok-spans.ensures in
    IfOk-weaker c.with_places.result _ _ (λ fields is. is
    ∙ ap (λ (found : Option (List Field)). unwrap_or found []) (sym all)) c.with_places.ensures
