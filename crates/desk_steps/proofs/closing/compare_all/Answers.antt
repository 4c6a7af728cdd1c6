use Rattle.std.proofs.Common.{◌≡◌, ◌<◌, ◌∙◌, List, length, Some, slice_get, slice_set, get_or, ap, sym, arith}
use Rattle.std.proofs.lemmas.Option.{slice_get-get_or}
use Rattle.std.proofs.lemmas.List.{set-get_or}
use Rattle.desk_side.specs.desk_rings.Rings.{Done}
use Rattle.desk_side.proofs.Moves.{producers-twice}
use Rattle.desk_steps.proofs.Comparing.{one-begun, one-borne-out, consumer-names, consumers-twice, producer-names}
use Rattle.desk_steps.proofs.closing.compare_all.Goals as goal

pub compare-requires : goal.compare-requires
compare-requires g c = record {
  consumers = consumer-names c.args.side.now.consumers c.loop-i.side.consumers g.K.DeskName.inlets
      c.loop-i.invariant.consumers
      c.requires.consumers;
  producers = producer-names c.args.side.now.producers c.loop-i.side.producers g.K.DeskName.outlets
      c.loop-i.invariant.producers c.requires.producers;
}

pub loop-i-preserved : goal.loop-i-preserved
loop-i-preserved g c =
    let i = c.loop-i.i in
    let now : List Done = c.loop-i.finished.items in
    let one : Done = c.index_mut.result.now in
    let is : one ≡ get_or now i one = c.index_mut.ensures.value in
    let same : slice_set now i c.compare.new.finished ≡ now = ap (slice_set now i) (c.compare.ensures.same ∙ is)
    ∙ set-get_or now i one in
    let inside : i < length now = omega (arith, ap length c.loop-i.invariant.same) in
    let here : slice_get c.args.finished.now.items i ≡ Some one =
    ap (λ (z : List Done). slice_get z i) (sym c.loop-i.invariant.same)
    ∙ (slice_get-get_or now i one inside ∙ ap Some (sym is)) in
    record {
      same = same ∙ c.loop-i.invariant.same;
      consumers = consumers-twice c.args.side.now.consumers c.loop-i.side.consumers c.compare.new.self.consumers
          c.loop-i.invariant.consumers
          c.compare.ensures.consumers;
      producers = producers-twice c.args.side.now.producers c.loop-i.side.producers c.compare.new.self.producers
          c.loop-i.invariant.producers
          c.compare.ensures.producers;
      clients = c.compare.ensures.counts.0 ∙ c.loop-i.invariant.clients;
      ports = c.compare.ensures.counts.1 ∙ c.loop-i.invariant.ports;
      begun = one-begun i c.args.finished.now.items one c.loop-i.side.consumers c.compare.new.self.consumers
          c.compare.new.self.producers here c.compare.ensures.consumers c.compare.ensures.borne_out
          c.loop-i.invariant.begun;
      borne_out = λ begun. one-borne-out i c.args.finished.now.items one c.args.side.now.consumers
          c.loop-i.side.consumers
          c.compare.new.self.consumers c.loop-i.side.producers c.compare.new.self.producers
          here c.loop-i.invariant.consumers c.compare.ensures.consumers c.compare.ensures.others
          c.compare.ensures.producers
          c.compare.ensures.borne_out begun (c.loop-i.invariant.borne_out begun);
    }
