-- How many bytes an output more makes, and what bytes take of the room.
use Rattle.std.proofs.Common.{◌≡◌, ◌≤◌, ◌<◌, ◌+◌, ◌-◌, ◌++◌, ℕ, List, [], ◌∷◌, length, map, take, get_or}
use Rattle.std.proofs.Common.{◌⊎◌, ap, sym, ◌∙◌, arith, inl, inr}
use Rattle.std.proofs.lemmas.Bool.Decides.{leb_tells}
use Rattle.std.proofs.lemmas.List.{map-append, take_more}
use Rattle.gate_law.specs.Events.{LinkOut}
use Rattle.gate_events.specs.Seen.{link_out_seen}
use Rattle.gate_events.specs.declared.batch.LinkOut.{LinkOut as Out}
use Rattle.desk_rings.specs.Sizes.{list_size, out_size, room_beside}

outs_more : (outs : List LinkOut) (out : LinkOut) → list_size (outs ++ out ∷ []) ≡ list_size outs + out_size out
outs_more [] out = omega arith
outs_more (first ∷ outs) out = omega (arith, outs_more outs out)

pub size_more : (outs : List Out) (i : ℕ) (out : Out) → i < length outs → out ≡ get_or outs i out
    → list_size (map link_out_seen (take (i + 1) outs))
    ≡ list_size (map link_out_seen (take i outs)) + out_size (link_out_seen out)
size_more outs i out inside is =
    ap (λ (l : List Out). list_size (map link_out_seen l))
    (take_more outs i out inside ∙ ap (λ (y : Out). take i outs ++ y ∷ []) (sym is))
    ∙ (ap list_size (map-append link_out_seen (take i outs) (out ∷ []))
    ∙ outs_more (map link_out_seen (take i outs)) (link_out_seen out))

-- ---- room

-- there is room for no more lists than there are free places
pub beside-most : (free more : ℕ) → room_beside free more ≤ free
beside-most free more =
    elim (leb_tells free 1_088) [
      | inl p ↦ rw (p.0) (omega arith)
      | inr p ↦ elim (leb_tells (free - more) 1_088) [
        | inl q ↦ rw (p.0, q.0) (omega (arith, p.1))
        | inr q ↦ rw (p.0, q.0) (omega arith)
      ]
    ]

-- nor for more than what others have, or than what lists leave
beside-either : (free more : ℕ) → (room_beside free more ≤ 1_088) ⊎ (room_beside free more ≤ free - more)
beside-either free more =
    elim (leb_tells free 1_088) [
      | inl p ↦ inl (rw (p.0) p.1)
      | inr p ↦ elim (leb_tells (free - more) 1_088) [
        | inl q ↦ inl (rw (p.0, q.0) (omega arith))
        | inr q ↦ inr (rw (p.0, q.0) (omega arith))
      ]
    ]

-- but for as many as lists leave
beside-rest : (free more : ℕ) → free - more ≤ room_beside free more
beside-rest free more =
    elim (leb_tells free 1_088) [
      | inl p ↦ rw (p.0) (omega arith)
      | inr p ↦ elim (leb_tells (free - more) 1_088) [
        | inl q ↦ rw (p.0, q.0) q.1
        | inr q ↦ rw (p.0, q.0) (omega arith)
      ]
    ]

-- and for as many as others have
beside-others : (n free more : ℕ) → n ≤ free → n ≤ 1_088 → n ≤ room_beside free more
beside-others n free more within small =
    elim (leb_tells free 1_088) [
      | inl p ↦ rw (p.0) within
      | inr p ↦ elim (leb_tells (free - more) 1_088) [
        | inl q ↦ rw (p.0, q.0) small
        | inr q ↦ rw (p.0, q.0) (omega (arith, small, q.1))
      ]
    ]

-- more free places and less that lists count for leave no less room
pub beside-grows : (free more free2 more2 : ℕ) → free ≤ free2 → more2 ≤ more
    → room_beside free more ≤ room_beside free2 more2
beside-grows free more free2 more2 frees counts =
    elim (beside-either free more) [
      | inl small ↦ beside-others (room_beside free more) free2 more2
          (omega (arith, beside-most free more, frees)) small
      | inr rest ↦ omega (arith, rest, beside-rest free2 more2, frees, counts)
    ]

-- a list takes the room of its place and of those that it counts for
pub beside-falls : (free more free2 more2 long : ℕ) → free ≤ free2 + 1 → more2 ≤ more + long
    → room_beside free more ≤ room_beside free2 more2 + 1 + long
beside-falls free more free2 more2 long frees counts =
    elim (beside-either free more) [
      | inl small ↦ (
          let less = beside-others (room_beside free more - 1) free2 more2
          (omega (arith, beside-most free more, frees)) (omega (arith, small)) in
          omega (arith, less)
          )
      | inr rest ↦ omega (arith, rest, beside-rest free2 more2, frees, counts)
    ]
