-- The gates of a desk's outlets may go to other threads.
use denote.Param.{param}
use denote.Param.Send.{IsSend, sendable}
use denote.Ref.{NamedLft}
use denote.RattleType.{RattleType}
use Rattle.std.proofs.Common.{List, length, ap, arith}
use Rattle.std.proofs.Crossing.{crosses}
use Rattle.std.specs.declared.hash.BuildHasher as BuildHasher
use Rattle.std.specs.declared.hash.Hasher as Hasher
use Rattle.desk_gates.proofs.Sent.{outlet_gate_send}
use Rattle.desk_gates.specs.desk.declared.DeskName as DeskName
use Rattle.desk_gates.specs.desk.desk_rings.Rings.{NamedInlet}
use Rattle.desk_gates.specs.contracts.outlet.OutletGate as OutletGate
use Rattle.gateway_log.specs.contracts.logged_gate.LoggedGate as LoggedGate
use Rattle.gateway_log.proofs.Sent.{logged_gate_send}
use Rattle.gateway_run.proofs.running.run_desk.Goals as goal

pub serve_desk-requires-send-G : goal.serve_desk-requires-send-G
serve_desk-requires-send-G g c κs l =
    let gates : (a : NamedLft) (K S T : RattleType) (k : DeskName.Ghosts K.Denot)
    (b : BuildHasher.Ghosts S.Denot T.Denot) (h : Hasher.Ghosts T.Denot) → IsSend S
    → IsSend (OutletGate.the_row a K S T k b h)
    = λ a K S T k b h s. outlet_gate_send K S T k b h s a in
    let R = param 1 g.row.R in
    let told : (a : NamedLft) (X : RattleType) → IsSend X → IsSend (LoggedGate.the_row a X R)
    = λ a X x. logged_gate_send a R c.type_bounds.sync-R X x in
    search (told, gates, sendable, crosses) depth 100 fits 500000

pub serve_desk-requires-clause-clock : goal.serve_desk-requires-clause-clock
serve_desk-requires-clause-clock g c κs within =
    omega (
      arith,
      c.go_on.ensures,
      c.in_ok-shared.ensures.inlets.0,
      ap
          (λ (l : List NamedInlet). length l) c.requires.named.0,
      c.requires.clock,
    )
