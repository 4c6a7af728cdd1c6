use Rattle.std.proofs.Common.{◌≡◌, ◌≤◌, List, true, subst}
use Rattle.std.specs.List.{list_all}
use Rattle.std.proofs.lemmas.List.{take_all}
use Rattle.session_writing.specs.declared.place.KeptPlace.{KeptPlace}
use Rattle.session_writing.specs.Keeping.{is_within}
use Rattle.session_writing.specs.declared.place.KeptPlace.TheVariants as places
use Rattle.session_writing.proofs.Keeping.{ends-more}
use Rattle.session_writing.proofs.kept.end_of.Goals as goal

pub loop-place-preserved : goal.loop-place-preserved
loop-place-preserved c =
    ends-more c.args.places.now c.loop-place.place-index c.loop-place.end c.further_end-end.result places.Filled
    c.loop-place-test.true c.loop-place.invariant c.further_end-end.ensures.least c.further_end-end.ensures.within
    c.further_end-end.ensures.most

pub returns : goal.returns
returns c =
    let kept = c.args.places.now in
    λ size all. subst (λ (ks : List KeptPlace). (list_all (is_within c.loop-place.end) ks ≡ true)
    × (c.loop-place.end ≤ size)) (take_all c.loop-place.place-index kept c.loop-place-test.false)
    (c.loop-place.invariant size all)
