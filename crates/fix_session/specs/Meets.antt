-- When the code's call is what the table gives.
use Rattle.std.specs.Prelude.{◌≡◌, ℕ, List, map, Option, Vec, is_some}
use Rattle.std.specs.declared.alloc.Global.{Global}
use Rattle.session_law.specs.Session.{State, Given}
use Rattle.session_law.specs.Runs.{CallTurn}
use Rattle.session_law.specs.Frames.{told_of_out}
use Rattle.session_writing.specs.Written.{told_bytes, told_frame}
use Rattle.fix_session.specs.declared.session.SessionTurn.{SessionTurn}

-- a call gives the outputs of this turn, in bytes between these two, and says whether it delivers a message
pub record Tells (gate client : List ℕ) (turn : SessionTurn) (t : CallTurn) : Type 0 where
  pub outs : map told_bytes turn.outs.items ≡ map (told_of_out gate client) t.outs
  pub app : turn.is_delivered ≡ is_some t.app

-- a call gives what the table gives, and leaves the table's state
pub record Meets (s : State) (g : Given) (turn : SessionTurn) (new : State) : Type 0 where
  pub outs : map told_bytes turn.outs.items ≡ map (told_of_out s.gate s.client) g.outs
  pub app : turn.is_delivered ≡ is_some g.app
  pub state : new ≡ g.state

-- a body that is issued gives the table's frame, where it gives one, and leaves the table's state
pub record IsIssuedSo (s : State) (g : Given) (frame : Option (Vec ℕ Global)) (new : State) : Type 0 where
  pub told : told_frame frame ≡ map (told_of_out s.gate s.client) g.outs
  pub state : new ≡ g.state
