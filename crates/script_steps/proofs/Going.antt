-- How steps of the core follow on one another.
use Rattle.std.proofs.Common.{◌≡◌, [], ◌∷◌, ◌++◌, sym, subst, append-nil}
use Rattle.gate_journal.specs.gate_law.Settings.{Settings}
use Rattle.gate_journal.specs.gate_law.Events.{History}
use Rattle.gate_journal.specs.gate_law.Holds.{Holds}
use Rattle.gate_events.specs.declared.event.Event.{Event}
use Rattle.gate_events.specs.declared.batch.Batch.{Batch}
use Rattle.gate_core.specs.Core.{CoreState, IsAfter, turn_of}
use Rattle.gate_journal.specs.Kept.{Kept, nothing_kept, turns}
use Rattle.script_steps.specs.Steps.{ScriptGoesOn}

pub same-on : (core : CoreState) (kept : Kept) → ScriptGoesOn core kept core kept
unfolding ScriptGoesOn
same-on core kept s before is = is

pub both-on : (a b c : CoreState) (k l m : Kept) → ScriptGoesOn a k b l → ScriptGoesOn b l c m → ScriptGoesOn a k c m
unfolding ScriptGoesOn
both-on a b c k l m first second s before is = second s before (first s before is)

pub one-on : (old new : CoreState) (e : Event) (b : Batch) (kept more : Kept)
    → ((s : Settings) (before : History) → IsAfter s before old → IsAfter s (turn_of e b ∷ before) new)
    → turns more ≡ turn_of e b ∷ turns kept → ScriptGoesOn old kept new more
unfolding ScriptGoesOn
one-on old new e b kept more step is s before after =
    subst (λ (h : History). IsAfter s (h ++ before) new) (sym is) (step s (turns kept ++ before) after)

pub onward : (s : Settings) (old new : CoreState) (kept more : Kept) → ScriptGoesOn old kept new more
    → IsAfter s (turns kept) old → IsAfter s (turns more) new
unfolding ScriptGoesOn
onward s old new kept more on is =
    subst (λ (h : History). IsAfter s h new) (append-nil (turns more))
    (on s [] (subst (λ (h : History). IsAfter s h old) (sym (append-nil (turns kept))) is))

pub from-nothing : (s : Settings) (old new : CoreState) (kept more : Kept) → kept ≡ nothing_kept
    → ScriptGoesOn old kept new more → IsAfter s [] old → IsAfter s (turns more) new
from-nothing s old new kept more none on is =
    onward s old new kept more on (subst (λ (k : Kept). IsAfter s (turns k) old) (sym none) is)

pub holds-after : (s : Settings) (h : History) (core : CoreState) → IsAfter s h core → Holds s h
unfolding IsAfter
holds-after s h core is = is.holds
