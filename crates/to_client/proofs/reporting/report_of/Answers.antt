use Rattle.std.proofs.Common.{subst, sym}
use Rattle.std.specs.Prelude.{None}
use Rattle.std.proofs.lemmas.Result.{IfOk-weaker}
use Rattle.to_client.specs.declared.occasion.Details.{Details}
use Rattle.to_client.specs.Occasions.{occasion_seen}
use Rattle.to_client.specs.Shows.{IsOccasion}
use Rattle.to_client.proofs.Reported.{occasion-seen}
use Rattle.to_client.proofs.reporting.report_of.Goals as goal

pub returns : goal.returns
returns c =
    let is : IsOccasion c.fields_given_by.result None (occasion_seen c.args.occasion) =
    subst (λ (d : Details). IsOccasion d None (occasion_seen c.args.occasion)) (sym c.fields_given_by.ensures)
    (occasion-seen c.args.occasion) in
    record {
      told = IfOk-weaker c.report_on.result _ _
          (λ r told s shows. told (occasion_seen c.args.occasion) s is shows) c.report_on.ensures.told;
    }
