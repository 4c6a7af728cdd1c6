use denote.Param.{param}
use denote.Param.Send.{IsSend, sendable}
use denote.Ref.{NamedLft}
use Rattle.std.specs.declared.io.Write as Write
use Rattle.gate_workers.specs.link_io.declared.gate.Gate as Gate
use Rattle.gate_workers.specs.link_io.declared.streams.Prompt as Prompt
use Rattle.gate_serving.specs.contracts.halves.Writes as Writes
use Rattle.gate_serving.specs.contracts.writer_worker.WriterWorker as WriterWorker
use Rattle.gate_serving.proofs.Sent.{writer_worker_send, writes_send}
use Rattle.std.proofs.Common.{◌≡◌, arith, Bool, true, false}
use Rattle.std.proofs.lemmas.Slice.Zip.{AllZip-long}
use Rattle.gate_workers.specs.SharedWriters.{HasEnded}
use Rattle.gate_serving.specs.Halves.{IsJoined, IsSplit}
use Rattle.gate_serving.specs.Lines.{LineServed, log_of}
use Rattle.gate_serving.proofs.Served.{HalvesDid, all_of_any, all_through, served_in_part, served_whole}
use Rattle.gate_serving.proofs.serving.serve.Goals as goal

pub joined-back-requires-clause-room : goal.joined-back-requires-clause-room
joined-back-requires-clause-room g c =
    let done = AllZip-long _ _ _ c.run_all-halves.ensures.did in
    let split = AllZip-long _ _ _ c.split-halves.ensures.lines in
    omega (
      arith,
      done,
      split,
      c.run_all-halves.result.0.ok.0,
      c.args.lines.ok.0,
      c.in-Ok-with_capacity-2.ensures.exact,
      c.len-count.ensures,
    )

pub returns-then-not-load-clause-served : goal.returns-then-not-load-clause-served
returns-then-not-load-clause-served g c =
    all_through IsSplit
    (HalvesDid g.O.Opener.has_ended g.O.Opener.opened (log_of g.G.Gate.was_put g.C.Clock.reported) g.G.Gate.was_taken
    (HasEnded _))
    IsJoined (λ x. ◌≡◌ {A = Bool} x.0.all_over true)
    (LineServed g.O.Opener.has_ended g.O.Opener.opened (log_of g.G.Gate.was_put g.C.Clock.reported) g.G.Gate.was_taken
    (HasEnded _) true)
    (served_whole g.O.Opener.has_ended g.O.Opener.opened (log_of g.G.Gate.was_put g.C.Clock.reported) g.G.Gate.was_taken
    (HasEnded _))
    _ _ _ _ c.split-halves.ensures.lines c.run_all-halves.ensures.did
    (c.joined-back.ensures.all_over c.if-all_over.true) c.joined-back.ensures.lines

pub returns-clause-no_thread : goal.returns-clause-no_thread
returns-clause-no_thread g c = λ e. (
  all_through IsSplit
      (HalvesDid g.O.Opener.has_ended g.O.Opener.opened (log_of g.G.Gate.was_put g.C.Clock.reported) g.G.Gate.was_taken
      (HasEnded _))
      IsJoined (λ x. Unit {0})
      (LineServed g.O.Opener.has_ended g.O.Opener.opened (log_of g.G.Gate.was_put g.C.Clock.reported) g.G.Gate.was_taken
      (HasEnded _) false)
      (served_in_part g.O.Opener.has_ended g.O.Opener.opened
      (log_of g.G.Gate.was_put g.C.Clock.reported) g.G.Gate.was_taken (HasEnded _))
      _ _ _ _ c.split-halves.ensures.lines c.run_all-halves.ensures.did
      (all_of_any c.run_all-halves.result.0.items) c.joined-back.ensures.lines,
  c.run_all-halves.ensures.meanwhile,
)

-- a line's writer may go to another thread, since its shared writer may
pub run_all-halves-requires-send-B : goal.run_all-halves-requires-send-B
run_all-halves-requires-send-B g c κs l =
    let W = param 7 g.row.O-Writer in let K = param 8 g.row.O-Closer in let H = param 4 g.row.H in
    let D = param 5 g.row.D in let bounds = c.type_bounds in
    let writes : (b a : NamedLft) (p : Prompt.Ghosts W.Denot) (w : Write.Ghosts W.Denot)
    (t : Gate.Ghosts H.Denot) → IsSend (Writes.the_row b (WriterWorker.the_row a W H D p w t) W K)
    = λ b a p w t. writes_send b (WriterWorker.the_row a W H D p w t) W K
    (writer_worker_send W H p w t bounds.send-O-Writer bounds.send-H a D bounds.send-D) bounds.send-O-Writer
    bounds.send-O-Closer in
    search (writes, sendable) depth 40
