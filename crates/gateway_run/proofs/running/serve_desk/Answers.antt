-- Lines may go to other threads, since what the threads share of a desk may be shared.
use denote.Param.{param}
use denote.Param.Send.{IsSend, sendable}
use denote.Ref.{NamedLft}
use denote.RattleType.{RattleType}
use Rattle.std.proofs.Crossing.{crosses}
use Rattle.std.specs.declared.hash.BuildHasher as BuildHasher
use Rattle.std.specs.declared.hash.Hasher as Hasher
use Rattle.std.specs.declared.io.Write as Write
use Rattle.desk_gates.proofs.Sent.{inlet_gate_send}
use Rattle.desk_gates.specs.desk.declared.DeskName as DeskName
use Rattle.desk_gates.specs.contracts.inlet.InletGate as InletGate
use Rattle.link_io.specs.declared.gate.Gate as Gate
use Rattle.link_io.specs.declared.streams.Prompt as Prompt
use Rattle.gateway_log.specs.contracts.counted.CountedLinks as CountedLinks
use Rattle.gateway_log.specs.contracts.run_opener.RunOpener as RunOpener
use Rattle.gateway_run.specs.contracts.port_faults.PortLinks as PortLinks
use Rattle.gateway_run.specs.contracts.run_gate.RunGate as RunGate
use Rattle.gateway_run.proofs.Sent.{waker_clock_send, opener_send, run_clock_send, run_gate_send}
use Rattle.gateway_run.proofs.running.serve_desk.Goals as goal

pub serve-requires-send-O : goal.serve-requires-send-O
serve-requires-send-O g c κs l =
    let A = param 2 g.row.A in let C = param 3 g.row.C in let K = param 0 g.row.K in let R = param 1 g.row.R in
    let bounds = c.type_bounds in let k = g.K.DeskName in
    let opened : (a b : NamedLft) → IsSend (RunOpener.the_row (CountedLinks.the_row a A) (PortLinks.the_row b C K R k))
    = λ a b. opener_send a b A C K R k bounds.send-A bounds.send-C bounds.sync-R in
    search (opened, sendable) depth 20

pub serve-requires-send-G : goal.serve-requires-send-G
serve-requires-send-G g c κs l =
    let W = param 6 g.row.A-Writer in let G = param 4 g.row.G in
    let R = param 1 g.row.R in
    let bounds = c.type_bounds in
    let gates : (q a : NamedLft) (p : Prompt.Ghosts W.Denot) (w : Write.Ghosts W.Denot)
    (t : Gate.Ghosts G.Denot) (K S T : RattleType) (k : DeskName.Ghosts K.Denot)
    (b : BuildHasher.Ghosts S.Denot T.Denot) (h : Hasher.Ghosts T.Denot) → IsSend S
    → IsSend (InletGate.the_row q a W G K S T p w t k b h)
    = λ q a p w t K S T k b h s. inlet_gate_send W G p w t bounds.send-A-Writer bounds.send-G K S T k b h s q a in
    let looked : (a : NamedLft) (X K : RattleType) (k : DeskName.Ghosts K.Denot) → IsSend X
    → IsSend (RunGate.the_row a X K R k)
    = λ a X K k x. run_gate_send a K R k bounds.sync-R X x in
    search (looked, gates, sendable, crosses) depth 100 fits 500000

pub serve-requires-send-C : goal.serve-requires-send-C
serve-requires-send-C g c κs l = search (run_clock_send, c.type_bounds.sync-R, sendable) depth 40

pub serve-requires-send-D : goal.serve-requires-send-D
serve-requires-send-D g c κs l = search (waker_clock_send, c.type_bounds.sync-R, sendable) depth 40
