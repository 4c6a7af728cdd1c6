-- What a draft is seen as.
use Rattle.std.specs.Prelude.{ℕ, List, [], ◌++◌, map, Option, Some, None, if◌then◌else◌}
use Rattle.session_law.specs.declared.frame.Out.{Out}
use Rattle.session_law.specs.declared.frame.Out.TheVariants.{Write}
use Rattle.session_law.specs.Session.{State, Slot, Given, resend}
use Rattle.fix_session.specs.declared.draft.Draft.{Draft}
use Rattle.fix_session.specs.declared.draft.Resend.{Resend}

-- the numbers that are sent again before all else at a time, of those that were given
abbrev pub resent_outs : ℕ → List Slot → Option Resend → List Out
resent_outs at given None = []
resent_outs at given (Some r) = map Write (resend at given r.from r.to)

-- what a draft has made of a session
abbrev pub made : State → Draft → Given
made s d = record {
  state = record s {
    phase = d.phase;
    expected = d.expected;
    given = (if d.resets then [] else s.given) ++ d.slots;
    latest = d.latest;
  };
  outs = resent_outs d.latest s.given d.resends ++ d.outs.items;
  app = None;
}
