use Rattle.std.proofs.Common.{length}
use Rattle.gate_core.proofs.Settled.{stands-next, one-more, clients-more, client-links-more}
use Rattle.gate_core.proofs.parts.new.client_lines.Goals as goal

pub loop-client-preserved : goal.loop-client-preserved
loop-client-preserved c =
    let s = c.args.settings.now in
    let all = c.clients-client-items in
    let so_far = c.loop-client.invariant in
    let old = c.loop-client.lines.items in
    let new = c.push.new.self.items in
    let i = c.loop-client.client-index in
    let client = c.client-item.result in
    let line = c.in_ok-client_line.field-0 in
    let made = c.in_ok-client_line.ensures in
    let at = stands-next s.clients all.result.now
    (length old) i client all.ensures.clients so_far.count c.loop-client-test.true c.client-item.is in
    let more = c.in_ok-push.ensures.items in
    record {
      count = one-more old new line i more so_far.count;
      leave = clients-more s old new line client at made.leaves more so_far.leave;
      links = client-links-more old new line made.link more so_far.links;
    }
