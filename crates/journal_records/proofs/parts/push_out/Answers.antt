use Rattle.std.proofs.Common.{List, ◌∷◌, [], ap, ◌∙◌}
use Rattle.std.specs.Prelude.{map}
use Rattle.std.proofs.lemmas.List.{map-append}
use Rattle.gate_events.specs.declared.batch.LinkOut.{LinkOut}
use Rattle.gate_events.specs.Seen.{link_out_seen}
use Rattle.journal_records.proofs.parts.push_out.Goals as goal

pub returns : goal.returns
returns c = ap (λ (outs : List LinkOut). map link_out_seen outs) c.in_ok-push.ensures.items
    ∙ map-append link_out_seen c.args.outs.now.items (c.args.out ∷ [])
