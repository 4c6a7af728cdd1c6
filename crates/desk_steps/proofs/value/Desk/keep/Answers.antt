use Rattle.std.proofs.Common.{◌≡◌, ◌∙◌, List, ℕ, sym, subst}
use Rattle.gate_journal.specs.Cut.{IsMoreOf}
use Rattle.gate_journal.specs.Kept.{Kept, kept_in}
use Rattle.desk_steps.proofs.Keeping.{producers-agree}
use Rattle.journal_log.specs.Seen.{host_may_leave, host_seen}
use Rattle.journal_log.specs.Kept.{HasDay}
use Rattle.desk_steps.specs.Ahead.{IsWrittenAhead}
use Rattle.desk_steps.proofs.Ahead.{released-ahead}
use Rattle.desk_steps.proofs.value.Desk.keep.Goals as goal

pub invariant_of-self-2 : goal.invariant_of-self-2
invariant_of-self-2 g c =
    let kept : Kept = c.self.inside.recorded.kept in
    let value = c.history.ensures.value in
    let ahead : IsWrittenAhead c.in-Some.journal
    (record { recorded = c.self.inside.recorded; side = c.self.inside.side }) =
    rw c.in-Some.is at c.self.invariant.1 in
    let same : kept ≡ kept_in kept.pages = subst (λ (k : Kept). k ≡ kept_in k.pages) value c.keep.ensures.history in
    let more : IsMoreOf ahead.history c.history.result.now.pages =
    subst (λ (k : Kept). IsMoreOf ahead.history k.pages) (sym value) ahead.more in
    let has : HasDay host_seen host_may_leave kept.pages c.keep.new.self =
    subst (λ (k : Kept). HasDay host_seen host_may_leave k.pages c.keep.new.self) value
    (c.in_ok-keep.ensures.told ahead.history ahead.has more) in (
      producers-agree g.K.DeskName.inlets g.K.DeskName.outlets c.self.inside.recorded c.self.inside.side
          c.release.new.self
          c.self.invariant.0 c.release.ensures.consumers c.release.ensures.producers.count
          (λ d w at. let v = c.release.ensures.producers.each d w at in (v.0, v.1, (v.2.0, v.2.1, v.2.2))),
      released-ahead g.K.DeskName.inlets g.K.DeskName.outlets c.self.inside.recorded c.self.inside.side
          c.release.new.self c.keep.new.self c.self.invariant.0 same has ahead.history ahead.output
          c.release.ensures.producers
          c.release.ensures.all,
    )
