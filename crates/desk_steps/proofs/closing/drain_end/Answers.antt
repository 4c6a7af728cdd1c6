use Rattle.std.proofs.Common.{◌≡◌, ◌∙◌, ℕ, sym, subst}
use Rattle.std.proofs.lemmas.Result.{on_ok_weaker}
use Rattle.desk_steps.specs.Settling.{KnowsNone}
use Rattle.desk_steps.proofs.Draining.{goes-nowhere, shrinks-none}
use Rattle.desk_steps.proofs.Holding.{holds-none}
use Rattle.desk_steps.proofs.closing.drain_end.Goals as goal

pub drain-requires : goal.drain-requires
drain-requires g c = record { inside = c.requires.inside c.in-Some.place (sym c.inlet.ensures ∙ c.in-Some.is) }

pub returns-in-Some-clause-none : goal.returns-in-Some-clause-none
returns-in-Some-clause-none g c =
    on_ok_weaker c.drain.result (λ none k is.
    let same : c.in-Some.place ≡ k = cc (is, c.inlet.ensures, c.in-Some.is) in
    subst (λ (z : ℕ). KnowsNone z c.drain.new.side.consumers) same none) c.drain.ensures.none

pub returns-in-None-clause-goes_on : goal.returns-in-None-clause-goes_on
returns-in-None-clause-goes_on g c = goes-nowhere c.args.recorded.now

pub returns-in-None-clause-holds : goal.returns-in-None-clause-holds
returns-in-None-clause-holds g c = holds-none c.args.side.now.producers

pub returns-in-None-clause-shrinks : goal.returns-in-None-clause-shrinks
returns-in-None-clause-shrinks g c = shrinks-none c.args.side.now.consumers

pub returns-in-None-clause-none : goal.returns-in-None-clause-none
returns-in-None-clause-none g c = λ k is. absurd (cc (is, c.inlet.ensures, c.in-None.is))
