use Rattle.std.proofs.Common.{◌≡◌, ◌≤◌, length, drop, arith, sym, ap, ◌∙◌, List, ℕ, None}
use Rattle.std.proofs.lemmas.List.{drop-drop}
use Rattle.journal_pages.specs.declared.place.Place.{Place}
use Rattle.journal_pages.specs.Record.{size_of}
use Rattle.journal_pages.specs.Seen.{record_seen}
use Rattle.journal_pages.specs.Page.{fault_at, place_after, records_fault}
use Rattle.journal_pages.proofs.page.judge.Goals as goal
use Rattle.journal_pages.proofs.Faults.{record-behind}

pub overflow_add-at : goal.overflow_add-at
overflow_add-at c =
    let few = c.in_ok-next.ensures.within in
    let rest = c.split_at.ensures.back_len in
    omega (arith, few, rest)

pub overflow_add-at-in-loop-at : goal.overflow_add-at-in-loop-at
overflow_add-at-in-loop-at c =
    let few = c.in_ok-next.ensures.within in
    let rest = c.split_at.ensures.back_len in
    omega (arith, few, rest)

pub loop-at-preserved : goal.loop-at-preserved
loop-at-preserved c =
    let few = c.in_ok-next.ensures.within in
    let many = c.split_at.ensures.back_len in
    let text = c.args.text.now in
    let place = c.loop-at.place in
    let later = c.in_ok-place.place in
    let rest = c.split_at.result.1.now in
    let r = record_seen c.in_ok-next.next in
    let some : 1 ≤ length rest = omega (arith, few) in
    let told : (fault_at place r ≡ None) × (later ≡ place_after place r) = c.in_ok-place.ensures in
    record {
      within = omega (arith, few, many, c.loop-at.invariant.within);
      rest = c.loop-at.invariant.rest ∙ ap (records_fault place) (sym c.split_at.ensures.back)
          ∙ record-behind place rest r some c.in_ok-next.ensures.front told.0
          ∙ ap (λ (p : Place). records_fault p (drop (size_of r) rest)) (sym told.1)
          ∙ ap (λ (l : List ℕ). records_fault later (drop (size_of r) l)) c.split_at.ensures.back
          ∙ ap (records_fault later) (drop-drop (size_of r) c.loop-at.at text);
    }
