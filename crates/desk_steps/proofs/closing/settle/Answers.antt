use Rattle.std.proofs.Common.{◌∙◌, List, refl, sym, subst}
use Rattle.std.proofs.lemmas.Result.{on_ok_weaker}
use Rattle.desk_side.specs.desk_rings.Rings.{Done}
use Rattle.desk_side.proofs.Moves.{producers-twice}
use Rattle.desk_steps.specs.Agreeing.{DeskState}
use Rattle.desk_steps.specs.Settling.{AreBegun, AreSettled, AreBorneOut}
use Rattle.desk_steps.proofs.Comparing.{consumer-names, consumers-twice, producer-names}
use Rattle.desk_steps.proofs.Draining.{all-settled, compares-agree}
use Rattle.desk_steps.proofs.Holding.{all-released, holds-twice, looks-hold}
use Rattle.desk_steps.proofs.closing.settle.Goals as goal

pub compare_all-requires : goal.compare_all-requires
compare_all-requires g c = record {
  consumers = c.requires.agrees.consumer_names;
  producers =
      c.requires.agrees.producer_names;
}

pub compare_all-requires-2 : goal.compare_all-requires-2
compare_all-requires-2 g c = record {
  consumers = consumer-names c.args.side.now.consumers c.compare_all.new.side.consumers g.K.DeskName.inlets
      c.compare_all.ensures.consumers
      c.requires.agrees.consumer_names;
  producers = producer-names c.args.side.now.producers c.compare_all.new.side.producers g.K.DeskName.outlets
      c.compare_all.ensures.producers
      c.requires.agrees.producer_names;
}

pub drain_all-requires : goal.drain_all-requires
drain_all-requires g c =
    let begun = subst (λ (z : List Done). AreBegun z c.compare_all.new.side.consumers)
    (sym c.compare_all.ensures.same) c.compare_all.ensures.begun in
    record {
      borne_out = subst (λ (z : List Done). AreBorneOut z c.compare_all-2.new.side.consumers
          c.compare_all-2.new.side.producers)
          (sym c.compare_all-2.ensures.same) (c.compare_all-2.ensures.borne_out begun);
    }

pub returns-clause-agrees : goal.returns-clause-agrees
returns-clause-agrees g c =
    let consumers = consumers-twice c.args.side.now.consumers c.compare_all.new.side.consumers
    c.compare_all-2.new.side.consumers
    c.compare_all.ensures.consumers c.compare_all-2.ensures.consumers in
    let producers = producers-twice c.args.side.now.producers c.compare_all.new.side.producers
    c.compare_all-2.new.side.producers
    c.compare_all.ensures.producers c.compare_all-2.ensures.producers in
    c.drain_all.ensures.agrees g.K.DeskName.inlets g.K.DeskName.outlets
    (compares-agree g.K.DeskName.inlets g.K.DeskName.outlets
    (record { recorded = c.args.recorded.now; side = c.args.side.now })
    (record { recorded = c.args.recorded.now; side = c.compare_all-2.new.side }) c.requires.agrees refl consumers
    producers)

pub returns-clause-holds : goal.returns-clause-holds
returns-clause-holds g c =
    let producers = producers-twice c.args.side.now.producers c.compare_all.new.side.producers
    c.compare_all-2.new.side.producers
    c.compare_all.ensures.producers c.compare_all-2.ensures.producers in
    holds-twice c.args.side.now.producers c.compare_all-2.new.side.producers c.drain_all.new.side.producers
    (looks-hold c.args.side.now.producers c.compare_all-2.new.side.producers producers) c.drain_all.ensures.holds

pub returns-clause-released : goal.returns-clause-released
returns-clause-released g c =
    let begun = subst (λ (z : List Done). AreBegun z c.compare_all.new.side.consumers)
    (sym c.compare_all.ensures.same) c.compare_all.ensures.begun in
    let borne_out = subst (λ (z : List Done). AreBorneOut z c.compare_all-2.new.side.consumers
    c.compare_all-2.new.side.producers)
    c.compare_all.ensures.same (c.compare_all-2.ensures.borne_out begun) in
    all-released c.args.finished.now.items c.compare_all-2.new.side.consumers c.compare_all-2.new.side.producers
    c.drain_all.new.side.producers borne_out c.drain_all.ensures.holds

pub returns-clause-settled : goal.returns-clause-settled
returns-clause-settled g c =
    let consumers = consumers-twice c.args.side.now.consumers c.compare_all.new.side.consumers
    c.compare_all-2.new.side.consumers
    c.compare_all.ensures.consumers c.compare_all-2.ensures.consumers in
    let producers = producers-twice c.args.side.now.producers c.compare_all.new.side.producers
    c.compare_all-2.new.side.producers
    c.compare_all.ensures.producers c.compare_all-2.ensures.producers in
    let s : DeskState = record { recorded = c.args.recorded.now; side = c.compare_all-2.new.side } in
    let t : DeskState = record { recorded = c.drain_all.new.recorded; side = c.drain_all.new.side } in
    let before = compares-agree g.K.DeskName.inlets g.K.DeskName.outlets
    (record { recorded = c.args.recorded.now; side = c.args.side.now }) s c.requires.agrees refl consumers producers in
    let after = c.drain_all.ensures.agrees g.K.DeskName.inlets g.K.DeskName.outlets before in
    let begun = subst (λ (z : List Done). AreBegun z c.compare_all.new.side.consumers)
    (sym c.compare_all.ensures.same) c.compare_all.ensures.begun in
    let borne_out = subst (λ (z : List Done). AreBorneOut z c.compare_all-2.new.side.consumers
    c.compare_all-2.new.side.producers)
    (sym c.compare_all-2.ensures.same) (c.compare_all-2.ensures.borne_out begun) in
    on_ok_weaker c.drain_all.result
    (λ drained. subst (λ (z : List Done). AreSettled z c.drain_all.new.recorded.kept)
    (c.compare_all-2.ensures.same ∙ c.compare_all.ensures.same)
    (all-settled g.K.DeskName.inlets g.K.DeskName.outlets s t c.compare_all-2.new.finished.items before after
    c.drain_all.ensures.goes_on c.drain_all.ensures.shrinks borne_out drained))
    c.drain_all.ensures.none
