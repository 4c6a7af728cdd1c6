use Rattle.std.proofs.Common.{length, OnOk, rules}
use Rattle.std.proofs.lemmas.Result.{on_ok_weaker}
use Rattle.wire_streams.specs.Buffer.{Takes}
use Rattle.soup_packets.specs.Stream.{BeginsEmpty}
use Rattle.soup_packets.proofs.Streams.{fed_ended_more, fed_put}
use Rattle.soup_packets.proofs.packets.Packets.put.Goals as goal

pub returns-then-is_over-clause-fed : goal.returns-then-is_over-clause-fed
returns-then-is_over-clause-fed c = λ stream passed f.
    let over : BeginsEmpty c.args.self.now.held = search rules in
    fed_ended_more stream c.args.piece.now passed c.args.self.now over f

pub returns-clause-fed : goal.returns-clause-fed
returns-clause-fed c =
    let open_ : BeginsEmpty c.args.self.now.held → ⊥ = search rules in
    let takes : OnOk c.put.result (Takes c.args.piece.now (length c.args.piece.now) c.args.self.now c.put.new.self.kept)
    = search rules in
    on_ok_weaker c.put.result (λ t stream passed f. fed_put stream c.args.piece.now passed c.args.self.now
    c.put.new.self.kept open_ t.held f) takes
