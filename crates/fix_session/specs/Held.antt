-- A session that can be put back.
use Rattle.session_law.specs.Session.{State}

-- what callers see of a session: how it is, and how it was when it was settled last
pub record SessionHeld : Type 0 where
  pub session : State
  pub settled : State
