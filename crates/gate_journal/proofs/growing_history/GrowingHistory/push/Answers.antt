use Rattle.std.proofs.Common.{List, ℕ, ◌∷◌, [], ◌++◌, sym, ap, ◌∙◌}
use Rattle.gate_law.specs.Events.{Batch}
use Rattle.gate_events.specs.declared.event.Event.{Event}
use Rattle.gate_events.specs.Seen.{batch_seen}
use Rattle.journal_pages.specs.declared.version.Version.TheVariants.{Two}
use Rattle.journal_records.specs.journal_days.Cut.{with_records}
use Rattle.journal_records.specs.journal_days.Day.{day_fault, day_records}
use Rattle.journal_records.specs.Days.{batches_in, events_in}
use Rattle.journal_records.specs.Parts.{turn_records}
use Rattle.gate_journal.specs.Kept.{Kept, kept_in, kept_turn, turns}
use Rattle.gate_journal.proofs.Behind.{records-behind, still-some}
use Rattle.gate_journal.proofs.Growing.{batches-pushed, day-pushed, events-pushed, turns-pushed}
use Rattle.gate_journal.proofs.growing_history.GrowingHistory.push.Goals as goal

pub invariant_of-self-2 : goal.invariant_of-self-2
invariant_of-self-2 c =
    let front : List (List ℕ) = c.self.inside.front.pages in
    let pages : List (List ℕ) = c.self.inside.pages in
    let e : Event = c.args.event.now in
    let b : Batch = batch_seen c.args.batch.now in
    let was = c.self.invariant in (
      ap (λ (p : List (List ℕ)). day_fault Two (front ++ p)) c.in_ok-append_turn.ensures.ok
          ∙ ap (day_fault Two) (records-behind front pages (turn_records e b) was.2)
          ∙ day-pushed (front ++ pages) e b was.0 c.in_ok-append_turn.ensures.turn,
      was.1,
      λ none. still-some front pages (turn_records e b) was.2 (sym c.in_ok-append_turn.ensures.ok ∙ none),
    )

pub returns-clause-events : goal.returns-clause-events
returns-clause-events c =
    let front : List (List ℕ) = c.self.inside.front.pages in
    let pages : List (List ℕ) = c.self.inside.pages in
    let e : Event = c.args.event.now in
    let b : Batch = batch_seen c.args.batch.now in
    ap (λ (p : List (List ℕ)). events_in (day_records Two (front ++ p))) c.in_ok-append_turn.ensures.ok
    ∙ ap (λ (p : List (List ℕ)). events_in (day_records Two p))
    (records-behind front pages (turn_records e b) c.self.invariant.2)
    ∙ events-pushed (front ++ pages) e b c.self.invariant.0 c.in_ok-append_turn.ensures.turn
    ∙ ap (λ (k : Kept). k.events ++ e ∷ []) c.self.view_is

pub returns-clause-batches : goal.returns-clause-batches
returns-clause-batches c =
    let front : List (List ℕ) = c.self.inside.front.pages in
    let pages : List (List ℕ) = c.self.inside.pages in
    let e : Event = c.args.event.now in
    let b : Batch = batch_seen c.args.batch.now in
    ap (λ (p : List (List ℕ)). batches_in (day_records Two (front ++ p))) c.in_ok-append_turn.ensures.ok
    ∙ ap (λ (p : List (List ℕ)). batches_in (day_records Two p))
    (records-behind front pages (turn_records e b) c.self.invariant.2)
    ∙ batches-pushed (front ++ pages) e b c.self.invariant.0 c.in_ok-append_turn.ensures.turn
    ∙ ap (λ (k : Kept). k.batches ++ b ∷ []) c.self.view_is

pub returns-clause-turns : goal.returns-clause-turns
returns-clause-turns c =
    let front : List (List ℕ) = c.self.inside.front.pages in
    let pages : List (List ℕ) = c.self.inside.pages in
    let e : Event = c.args.event.now in
    let b : Batch = batch_seen c.args.batch.now in
    ap (λ (p : List (List ℕ)). turns (kept_in (front ++ p))) c.in_ok-append_turn.ensures.ok
    ∙ ap (λ (p : List (List ℕ)). turns (kept_in p))
    (records-behind front pages (turn_records e b) c.self.invariant.2)
    ∙ turns-pushed (front ++ pages) e b c.self.invariant.0 c.in_ok-append_turn.ensures.turn
    ∙ ap (λ (k : Kept). kept_turn e b ∷ turns k) c.self.view_is

pub returns-clause-pages : goal.returns-clause-pages
returns-clause-pages c =
    let front : List (List ℕ) = c.self.inside.front.pages in
    let e : Event = c.args.event.now in
    let b : Batch = batch_seen c.args.batch.now in
    ap (λ (p : List (List ℕ)). front ++ p) c.in_ok-append_turn.ensures.ok
    ∙ records-behind front c.self.inside.pages (turn_records e b) c.self.invariant.2
    ∙ ap (λ (k : Kept). with_records k.pages (turn_records e b)) c.self.view_is
