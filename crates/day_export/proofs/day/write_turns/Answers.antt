use Rattle.std.proofs.Common.{rules, ◌≡◌, ◌∷◌}
use Rattle.gate_events.specs.Seen.{batch_seen}
use Rattle.gate_journal.specs.Left.{batches_left, events_left}
use Rattle.day_export.proofs.Turns.{writes-more}
use Rattle.day_export.proofs.day.write_turns.Goals as goal

pub loop-event-preserved-in_ok-write_turn : goal.loop-event-preserved-in_ok-write_turn
loop-event-preserved-in_ok-write_turn g c =
    let next : (events_left c.loop-event.ahead ≡ c.in-Some.event ∷ events_left c.in-Some.behind)
    × (batches_left c.loop-event.ahead ≡ batch_seen c.in-Some.batch ∷ batches_left c.in-Some.behind) =
    search (rules, c.in_ok-event.ensures, c.in-Some.is) in
    writes-more _ _ _ c.args.format c.args.part.now.events c.args.part.now.batches _ _ _ _ c.in-Some.event
    (batch_seen c.in-Some.batch) c.loop-event.invariant next.0 next.1 c.in_ok-write_turn.ensures

pub loop-event-preserved-in_ok-write_turn-2 : goal.loop-event-preserved-in_ok-write_turn-2
loop-event-preserved-in_ok-write_turn-2 g c =
    let next : (events_left c.loop-event.ahead ≡ c.in-Some.event ∷ events_left c.in-Some.behind)
    × (batches_left c.loop-event.ahead ≡ batch_seen c.in-Some.batch ∷ batches_left c.in-Some.behind) =
    search (rules, c.in_ok-event.ensures, c.in-Some.is) in
    writes-more _ _ _ c.args.format c.args.part.now.events c.args.part.now.batches _ _ _ _ c.in-Some.event
    (batch_seen c.in-Some.batch) c.loop-event.invariant next.0 next.1 c.in_ok-write_turn.ensures

pub loop-event-preserved : goal.loop-event-preserved
loop-event-preserved g c =
    let next : (events_left c.loop-event.ahead ≡ c.in-Some.event ∷ events_left c.in-Some.behind)
    × (batches_left c.loop-event.ahead ≡ batch_seen c.in-Some.batch ∷ batches_left c.in-Some.behind) =
    search (rules, c.in_ok-event.ensures, c.in-Some.is) in
    writes-more _ _ _ c.args.format c.args.part.now.events c.args.part.now.batches _ _ _ _ c.in-Some.event
    (batch_seen c.in-Some.batch) c.loop-event.invariant next.0 next.1 c.in_ok-write_turn.ensures
