use Rattle.std.proofs.Common.{◌≡◌, ◌++◌, map}
use Rattle.fix_session.specs.session_writing.Written.{told_bytes}
use Rattle.gate_law.specs.Sessions.{to_link}
use Rattle.gate_events.specs.Seen.{link_out_seen}
use Rattle.gate_sessions.proofs.link_outs.tell_client.Given as goal

-- the outputs passed so far
abbrev pub invariant-loop-out : goal.invariant-loop-out
invariant-loop-out l = map link_out_seen l.to.items
    ≡ map link_out_seen l.fn.to.items ++ map (to_link l.link) (map told_bytes l.yielded)
