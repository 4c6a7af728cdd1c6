use Rattle.std.proofs.Common.{length, subst, sym, ap}
use Rattle.gate_law.specs.Settings.{ClientSettings}
use Rattle.gate_settings.specs.Kept.{IsOnPort}
use Rattle.gate_core.proofs.Settled.{stands-next, one-more, ports-more, among-more}
use Rattle.gate_core.proofs.parts.new.client_ports.Goals as goal

pub loop-client-preserved : goal.loop-client-preserved
loop-client-preserved c =
    let s = c.args.settings.now in
    let all = c.clients-client-items in
    let so_far = c.loop-client.invariant in
    let old = c.loop-client.ports.items in
    let new = c.push.new.self.items in
    let i = c.loop-client.client-index in
    let client = c.client-item.result in
    let p = c.client.inside.terms.port in
    let is = ap (λ (k : ClientSettings). k.terms.port) c.client.view_is in
    let at = stands-next s.clients all.result.now
    (length old) i client all.ensures.clients so_far.count c.loop-client-test.true c.client-item.is in
    let more = c.in_ok-push.ensures.items in
    let is_on = subst (IsOnPort (length s.ports)) (sym c.client-item.is)
    (all.ensures.ports i client c.loop-client-test.true) in
    record {
      count = one-more old new p i more so_far.count;
      are = ports-more s old new p client at is more so_far.are;
      among = among-more (length s.ports) old new p client is_on is more so_far.among;
    }
