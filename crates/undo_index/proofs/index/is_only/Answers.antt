use Rattle.std.proofs.Common.{sym, ◌∙◌, ap, subst, true≢false, slice_get}
use Rattle.std.specs.Prelude.{Option}
use Rattle.undo_index.specs.declared.hint.Hint.{Hint}
use Rattle.undo_index.specs.Hints.{LeadsTo}
use Rattle.undo_index.proofs.Noting.{not-true}
use Rattle.undo_index.proofs.index.is_only.Goals as goal

pub returns-in-None-clause-any : goal.returns-in-None-clause-any
returns-in-None-clause-any g c = λ only xs within led i a at h. absurd
    (subst (λ (s : Option Hint). LeadsTo s i) c.in-None.is (led i a at h))

pub returns-then-hint-place-clause-any : goal.returns-then-hint-place-clause-any
returns-then-hint-place-clause-any g c = λ only xs within led i a at h. sym c.if-hint-place.true
    ∙ subst (λ (s : Option Hint). LeadsTo s i) c.in-Some.is (led i a at h) only

pub returns-then-hint-clause-any : goal.returns-then-hint-clause-any
returns-then-hint-clause-any g c = λ free xs within led i a at h.
    let there = subst (λ (s : Option Hint). LeadsTo s i) c.in-Some.is (led i a at h) c.if-hint.true in
    absurd (true≢false (sym h ∙ c.has_at.ensures.no (not-true c.has_at.result free) a
    (ap (slice_get c.args.items.now) there ∙ within c.if-is_still.true i a at)))

pub returns-in-None-clause-now : goal.returns-in-None-clause-now
returns-in-None-clause-now g c = λ only led i a at h. absurd
    (subst (λ (s : Option Hint). LeadsTo s i) c.in-None.is (led i a at h))

pub returns-then-hint-place-clause-now : goal.returns-then-hint-place-clause-now
returns-then-hint-place-clause-now g c = λ only led i a at h. sym c.if-hint-place.true
    ∙ subst (λ (s : Option Hint). LeadsTo s i) c.in-Some.is (led i a at h) only

pub returns-then-hint-clause-now : goal.returns-then-hint-clause-now
returns-then-hint-clause-now g c = λ free led i a at h.
    let there = subst (λ (s : Option Hint). LeadsTo s i) c.in-Some.is (led i a at h) c.if-hint.true in
    absurd (true≢false (sym h ∙ c.has_at.ensures.no (not-true c.has_at.result free) a
    (ap (slice_get c.args.items.now) there ∙ at)))
