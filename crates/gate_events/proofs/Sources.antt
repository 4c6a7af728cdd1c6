-- What events and batches give, with one more of them.
use Rattle.std.proofs.Common.{◌≡◌, ℕ, ◌+◌, ◌<◌, List, [], ◌∷◌, ◌++◌, length, take, get_or, map, sym, ap, ◌∙◌}
use Rattle.std.proofs.Common.{append-nil, append_assoc, refl, ◌≤◌, arith}
use Rattle.std.proofs.lemmas.List.{map-append, take_more}
use Rattle.gate_law.specs.Events as law
use Rattle.gate_events.specs.declared.batch.Batch.{Batch}
use Rattle.gate_events.specs.declared.source.Recipient.{Recipient}
use Rattle.gate_events.specs.declared.batch.LinkOut.{LinkOut}
use Rattle.gate_events.specs.Seen.{batch_seen, link_out_seen}
use Rattle.gate_events.specs.Sources.{lists_to, output_to, unless_empty}

lists-append : (to : Recipient) (xs ys : List law.Batch) → lists_to to (xs ++ ys) ≡ lists_to to xs ++ lists_to to ys
lists-append to [] ys = refl
lists-append to (x ∷ xs) ys =
    ap (λ ls. unless_empty (output_to to x) ++ ls) (lists-append to xs ys)
    ∙ sym (append_assoc (unless_empty (output_to to x)) (lists_to to xs) (lists_to to ys))

pub lists-more : (to : Recipient) (batches : List Batch) (i : ℕ) (batch : Batch) → i < length batches
    → batch ≡ get_or batches i batch
    → lists_to to (map batch_seen (take (i + 1) batches))
    ≡ lists_to to (map batch_seen (take i batches)) ++ unless_empty (output_to to (batch_seen batch))
lists-more to batches i batch inside is =
    ap (λ (bs : List Batch). lists_to to (map batch_seen bs)) (take_more batches i batch inside)
    ∙ ap (λ (b : Batch). lists_to to (map batch_seen (take i batches ++ b ∷ []))) (sym is)
    ∙ ap (lists_to to) (map-append batch_seen (take i batches) (batch ∷ []))
    ∙ lists-append to (map batch_seen (take i batches)) (batch_seen batch ∷ [])
    ∙ ap (λ ls. lists_to to (map batch_seen (take i batches)) ++ ls)
    (append-nil (unless_empty (output_to to (batch_seen batch))))

-- what a batch tells, where it isn't nothing
pub output-kept : (outs : List LinkOut) (output : List law.LinkOut) → map link_out_seen outs ≡ output → 1 ≤ length outs
    → unless_empty output ≡ map link_out_seen outs ∷ []
output-kept [] output is some = absurd (omega (arith, some))
output-kept (x ∷ xs) output is some = ap unless_empty (sym is)
