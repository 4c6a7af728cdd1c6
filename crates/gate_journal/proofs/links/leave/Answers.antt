use Rattle.std.proofs.Common.{rules}
use Rattle.std.specs.Prelude.{not}
use Rattle.std.proofs.lemmas.Fn.{filter_same}
use Rattle.gate_journal.specs.declared.links.OpenLink.{OpenLink}
use Rattle.gate_journal.specs.Links.{is_same_link}
use Rattle.gate_journal.proofs.links.leave.Goals as goal

pub returns : goal.returns
returns c =
    filter_same _ (λ (link : OpenLink). not (is_same_link c.args.gone.now link)) _
    (λ x b f' k. search rules) _ _ c.retain.ensures.filtered
