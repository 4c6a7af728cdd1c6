use Rattle.std.proofs.Common.{◌≡◌, ◌∙◌, sym, subst, ap}
use Rattle.gate_journal.specs.Kept.{Kept, kept_in}
use Rattle.desk_steps.specs.Agreeing.{DeskState}
use Rattle.desk_steps.proofs.Keeping.{producers-agree}
use Rattle.journal_log.specs.Seen.{host_may_leave, host_seen}
use Rattle.journal_log.specs.declared.host_file.HostFile.{HostFile}
use Rattle.journal_log.specs.Kept.{HasAll, HasDay, StandsAt}
use Rattle.desk_steps.proofs.Ahead.{begun-day, may-stage-ahead, staged-ahead}
use Rattle.desk_steps.proofs.value.Desk.begin_journal.Goals as goal

pub invariant_of-self : goal.invariant_of-self
invariant_of-self g c = (
  producers-agree g.K.DeskName.inlets g.K.DeskName.outlets c.self.inside.recorded c.self.inside.side c.stage.new.self
      c.self.invariant.0 c.stage.ensures.consumers c.stage.ensures.producers.count
      (λ d w at. let v = c.stage.ensures.producers.each d w at in (v.0, v.1, (v.2.0, v.2.1, v.2.2))),
  may-stage-ahead c.self.inside.journal c.self.inside.recorded c.self.inside.side c.stage.new.self
      c.stage.ensures.producers
      c.self.invariant.1,
)

pub invariant_of-self-2 : goal.invariant_of-self-2
invariant_of-self-2 g c =
    let kept : Kept = c.self.inside.recorded.kept in
    let value = c.history.ensures.value in
    let same : kept ≡ kept_in kept.pages = subst (λ (k : Kept). k ≡ kept_in k.pages) value c.of.ensures.history in
    let mark : StandsAt kept.pages c.of.result =
    subst (λ (k : Kept). StandsAt k.pages c.of.result) value c.of.ensures.mark in
    let all : HasAll host_seen host_may_leave kept.pages c.args.log.file =
    subst (λ (s : DeskState). HasAll host_seen host_may_leave s.recorded.kept.pages c.args.log.file)
    (sym c.self.view_is) c.requires.has in
    let has : HasDay host_seen host_may_leave kept.pages c.of.result =
    begun-day kept.pages c.of.result mark (subst (λ (f : HostFile). HasAll host_seen host_may_leave kept.pages f)
    (sym c.of.ensures.file) all) in (
      producers-agree g.K.DeskName.inlets g.K.DeskName.outlets c.self.inside.recorded c.self.inside.side
          c.stage.new.self
          c.self.invariant.0 c.stage.ensures.consumers c.stage.ensures.producers.count
          (λ d w at. let v = c.stage.ensures.producers.each d w at in (v.0, v.1, (v.2.0, v.2.1, v.2.2))),
      staged-ahead g.K.DeskName.inlets g.K.DeskName.outlets c.self.inside.recorded c.self.inside.side c.stage.new.self
          c.of.result c.self.invariant.0 same has c.stage.ensures.producers c.in_ok-stage.ensures.stages,
    )
