use Rattle.std.proofs.Common.{rules, List, ap, ◌∙◌}
use Rattle.std.proofs.lemmas.Fn.{filter_same}
use Rattle.gate_events.specs.declared.event.Event.{Event}
use Rattle.gate_events.specs.Sources.{events_from, is_from}
use Rattle.gate_journal.proofs.history.History.from.Goals as goal

pub returns : goal.returns
returns c =
    filter_same _ (is_from c.args.source) _ (λ x b f' k. search rules) _ _ c.retain.ensures.filtered
    ∙ ap (λ (es : List Event). events_from c.args.source es) c.in_ok-events.ensures.events
