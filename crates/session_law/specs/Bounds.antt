-- How far one call moves the numbers. (FIX 4.4 Volume 1, "FIX Tag=Value Syntax". A number is read where it has at
-- most 18 digits: this gateway's own limit.)
use Rattle.std.specs.Prelude.{ℕ, ◌≤◌, ◌+◌, ◌^◌, length, max}
use Rattle.session_law.specs.Session.{State}
use Rattle.session_law.specs.Runs.{Call, OnLink, OnMessage, OnTick, Issue}

-- how many numbers a call can take: for a message a Logon and a ResendRequest, or a Reject and a Logout, at most
abbrev pub most_taken : Call → ℕ
most_taken (OnLink is_up) = 0
most_taken (OnMessage m) = 2
most_taken OnTick = 1
most_taken (Issue kind body) = 1

-- the expected number goes to 10^18 at most, and stays where it was above; at most so many numbers are taken
pub record MovesLittle (most : ℕ) (old new : State) : Type 0 where
  pub expected : new.expected ≤ max old.expected (10 ^ 18)
  pub given : length new.given ≤ length old.given + most
