use Rattle.std.proofs.Common.{◌≡◌, ◌∙◌, refl, sym, ap, subst, List, Ok, Err}
use Rattle.link_io.specs.Events as law
use Rattle.link_io.specs.declared.link_fault.LinkFault.{LinkFault}
use Rattle.link_io.specs.declared.link_fault.LinkFault.TheVariants.{StepLimit}
use Rattle.link_io.specs.declared.progress.Progress.{Progress}
use Rattle.gate_workers.specs.ReadersWork.{HasReadAll}
use Rattle.gate_workers.proofs.Run.{limit-goes_on, memory-goes_on, not_over-memory, ok-goes_on, over-not_memory}
use Rattle.gate_workers.proofs.Run.{read_awaited, read_fault, read_none, read_over, read_step, read_to_end}
use Rattle.gate_workers.proofs.reader.read_all.Goals as goal

pub loop-init : goal.loop-init
loop-init g c = record {
  can_next = tt;
  is_finite = tt;
  reads = read_awaited g.D.Decoder.made g.D.Decoder.are_all _ _ _ _ _ _ _ _ _
      (read_none g.D.Decoder.made g.D.Decoder.are_all c.args.reader.now (g.G.Gate.was_put c.args.gate.now)
      (g.C.Clock.reported c.args.clock.now) (g.S.Read.remaining c.args.stream.now)) c.await_bytes.ensures.same;
  goes_on = c.requires.goes_on;
  source = refl;
  none_taken = refl;
}

pub loop-preserved-in-Read : goal.loop-preserved-in-Read
loop-preserved-in-Read g c =
    let on = ok-goes_on c.loop.reader.limit (Ok c.in-Ok.progress) c.in-Ok.progress refl
    (λ f q. (c.in-Ok.ensures.refused f q).0) in
    record {
      can_next = tt;
      is_finite = tt;
      reads = read_awaited g.D.Decoder.made g.D.Decoder.are_all _ _ _ _ _ _ _ _ _
          (read_step g.D.Decoder.made g.D.Decoder.are_all c.now_ms-at.result
          (Ok c.in-Ok.progress) c.args.reader.now c.loop.reader c.step-done.new.self _ _ _ _ _ _ _ _
          _ _ _ c.loop.invariant.reads c.now_ms-at.ensures.tells c.in-Ok.ensures.reads on c.turn.ensures.none_put
          refl) c.await_bytes-in-Read.ensures.same;
      goes_on = limit-goes_on {A = Progress} c.loop.reader.limit c.step-done.new.self.limit
          (Ok c.in-Ok.progress) refl on c.in-Ok.ensures.limit;
      source = c.step-done.ensures.source ∙ c.loop.invariant.source;
      none_taken = c.turn.ensures.none_taken ∙ (c.step-done.ensures.none_taken ∙ c.loop.invariant.none_taken);
    }

pub loop-preserved-in-Held : goal.loop-preserved-in-Held
loop-preserved-in-Held g c =
    let on = ok-goes_on c.loop.reader.limit (Ok c.in-Ok.progress) c.in-Ok.progress refl
    (λ f q. (c.in-Ok.ensures.refused f q).0) in
    record {
      can_next = tt;
      is_finite = tt;
      reads = read_step g.D.Decoder.made g.D.Decoder.are_all c.now_ms-at.result
          (Ok c.in-Ok.progress) c.args.reader.now c.loop.reader c.step-done.new.self _ _ _ _ _ _ _ _
          _ _ _ c.loop.invariant.reads c.now_ms-at.ensures.tells c.in-Ok.ensures.reads on c.turn.ensures.none_put
          c.pause.ensures.silent;
      goes_on = limit-goes_on {A = Progress} c.loop.reader.limit c.step-done.new.self.limit
          (Ok c.in-Ok.progress) refl on c.in-Ok.ensures.limit;
      source = c.step-done.ensures.source ∙ c.loop.invariant.source;
      none_taken = c.turn.ensures.none_taken ∙ (c.step-done.ensures.none_taken ∙ c.loop.invariant.none_taken);
    }

pub returns-then-gives_up-clause-reads : goal.returns-then-gives_up-clause-reads
returns-then-gives_up-clause-reads g c =
    let on = ok-goes_on c.loop.reader.limit (Ok c.in-Ok.progress) c.in-Ok.progress refl
    (λ f q. (c.in-Ok.ensures.refused f q).0) in
    subst (λ (v : List law.Event). HasReadAll g.D.Decoder.made g.D.Decoder.are_all
    (λ d. g.D.Decoder.source d ≡ g.D.Decoder.source c.args.reader.now.decoder) (Err StepLimit) c.args.reader.now
    (g.G.Gate.was_put c.args.gate.now) v (g.C.Clock.reported c.args.clock.now) (g.C.Clock.reported c.now_ms-at.new.self)
    (g.S.Read.remaining c.args.stream.now) (g.S.Read.remaining c.step-done.new.stream))
    (sym c.turn.ensures.none_put)
    (read_over g.D.Decoder.made g.D.Decoder.are_all
    (λ d. g.D.Decoder.source d ≡ g.D.Decoder.source c.args.reader.now.decoder) c.now_ms-at.result
    (Ok c.in-Ok.progress) (Err StepLimit) c.args.reader.now c.loop.reader c.step-done.new.self _ _ _ _ _ _ _ _ _
    c.loop.invariant.reads c.now_ms-at.ensures.tells (c.in-Ok.ensures.reads on)
    (c.step-done.ensures.source ∙ c.loop.invariant.source) (λ before events gave. tt))

pub returns-in-Ended-clause-reads : goal.returns-in-Ended-clause-reads
returns-in-Ended-clause-reads g c =
    let on = ok-goes_on c.loop.reader.limit (Ok c.in-Ok.progress) c.in-Ok.progress refl
    (λ f q. (c.in-Ok.ensures.refused f q).0) in
    subst (λ (v : List law.Event). HasReadAll g.D.Decoder.made g.D.Decoder.are_all
    (λ d. g.D.Decoder.source d ≡ g.D.Decoder.source c.args.reader.now.decoder) (Ok tt) c.args.reader.now
    (g.G.Gate.was_put c.args.gate.now) v (g.C.Clock.reported c.args.clock.now) (g.C.Clock.reported c.now_ms-at.new.self)
    (g.S.Read.remaining c.args.stream.now)
    (g.S.Read.remaining c.step-done.new.stream))
    (sym c.turn.ensures.none_put)
    (read_to_end g.D.Decoder.made g.D.Decoder.are_all
    (λ d. g.D.Decoder.source d ≡ g.D.Decoder.source c.args.reader.now.decoder) c.now_ms-at.result c.args.reader.now
    c.loop.reader c.step-done.new.self _ _ _ _ _ _ _ _
    _ c.loop.invariant.reads c.now_ms-at.ensures.tells (rw c.in-Ended.is at c.in-Ok.ensures.reads on)
    (c.step-done.ensures.source ∙ c.loop.invariant.source))

pub returns-then-ends_link-clause-reads : goal.returns-then-ends_link-clause-reads
returns-then-ends_link-clause-reads g c =
    let over = over-not_memory c.in-Err.fault (sym c.ends_link.ensures ∙ c.if-ends_link.true) in
    subst (λ (v : List law.Event). HasReadAll g.D.Decoder.made g.D.Decoder.are_all
    (λ d. g.D.Decoder.source d ≡ g.D.Decoder.source c.args.reader.now.decoder)
    (Err c.in-Err.fault) c.args.reader.now (g.G.Gate.was_put c.args.gate.now) v
    (g.C.Clock.reported c.args.clock.now) (g.C.Clock.reported c.now_ms-at.new.self)
    (g.S.Read.remaining c.args.stream.now) (g.S.Read.remaining c.step-done.new.stream))
    (sym c.turn.ensures.none_put)
    (read_fault g.D.Decoder.made g.D.Decoder.are_all
    (λ d. g.D.Decoder.source d ≡ g.D.Decoder.source c.args.reader.now.decoder) c.now_ms-at.result c.in-Err.fault
    c.args.reader.now c.loop.reader c.step-done.new.self _ _ _ _ _ _ _ _ _
    over c.loop.invariant.goes_on c.loop.invariant.reads c.now_ms-at.ensures.tells c.in-Err.ensures.reads
    (λ f q. let same = c.in-Err.ensures.refused f q in
    (let e = same.0 in cc, ap g.S.Read.remaining same.1, ap g.G.Gate.was_put same.2))
    c.loop.invariant.source (c.step-done.ensures.source ∙ c.loop.invariant.source))

pub loop-preserved : goal.loop-preserved
loop-preserved g c =
    let memory = not_over-memory c.in-Err.fault (sym c.ends_link.ensures ∙ c.if-ends_link.false) in
    let on = memory-goes_on c.loop.reader.limit (Err c.in-Err.fault) c.loop.invariant.goes_on
    (ap (λ (f : LinkFault). Err f) memory) (λ f q. (c.in-Err.ensures.refused f q).0) in
    record {
      can_next = tt;
      is_finite = tt;
      reads = read_step g.D.Decoder.made g.D.Decoder.are_all c.now_ms-at.result
          (Err c.in-Err.fault) c.args.reader.now c.loop.reader c.step-done.new.self _ _ _ _ _ _ _ _
          _ _ _ c.loop.invariant.reads c.now_ms-at.ensures.tells c.in-Err.ensures.reads on c.turn.ensures.none_put
          c.pause-in-Err.ensures.silent;
      goes_on = limit-goes_on {A = Progress} c.loop.reader.limit c.step-done.new.self.limit (Err c.in-Err.fault)
          (rw memory refl) on c.in-Err.ensures.limit;
      source = c.step-done.ensures.source ∙ c.loop.invariant.source;
      none_taken = c.turn.ensures.none_taken ∙ (c.step-done.ensures.none_taken ∙ c.loop.invariant.none_taken);
    }
