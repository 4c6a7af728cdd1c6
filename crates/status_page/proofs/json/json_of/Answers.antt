use Rattle.std.proofs.Common.{◌≤◌, ◌∙◌, ap, subst, sym}
use Rattle.std.specs.Prelude.{Some}
use Rattle.std.proofs.lemmas.Result.{IfOk-weaker}
use Rattle.serde_json.specs.Data.{Data, depth}
use Rattle.status_page.proofs.Depths.{status-depth}
use Rattle.status_page.proofs.json.json_of.Goals as goal

pub returns : goal.returns
returns c =
    let same = c.in_ok-value.ensures in
    let shallow = subst (λ (d : Data). depth d ≤ 127) (sym same)
    (status-depth c.args.names.now c.args.shown.now c.args.now) in
    IfOk-weaker c.to_string.result _ _ (λ s read. read shallow ∙ ap Some same) c.to_string.ensures.reads_back
