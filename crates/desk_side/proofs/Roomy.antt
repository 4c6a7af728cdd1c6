-- What producers know of room, after looks and lists.
use Rattle.std.proofs.Common.{◌≡◌, ◌≤◌, ◌-◌, ◌⊎◌, ℕ, Bool, true, false, List, [], ◌∷◌, refl, ◌∙◌, arith, inl, inr}
use Rattle.desk_rings.specs.CoreEnds.{KnowsRoom, OutletProducerState, ProducerLooked, ProducerMayRelease}
use Rattle.desk_rings.specs.CoreEnds.{ProducerMayStage, ProducerSent, ProducersLooked}
use Rattle.desk_rings.specs.CoreEnds.{ProducersMayRelease, ProducersMayStage, producer_room}
use Rattle.desk_rings.specs.Sizes.{all_more, more_places}
use Rattle.desk_rings.proofs.Sizes.{beside-falls, beside-grows}
use Rattle.std.specs.Prelude.{if◌then◌else◌}
use Rattle.gate_law.specs.Events.{LinkOut, is_the_number}
use Rattle.gate_events.specs.declared.source.Recipient.{Recipient}
use Rattle.gate_events.specs.declared.source.Recipient.TheVariants as recipients
use Rattle.gate_events.specs.Sources.{unless_empty}
use Rattle.desk_side.specs.declared.batch_output.BatchOutput.{BatchOutput}
use Rattle.desk_side.specs.BatchOutput.{list_for}
use Rattle.desk_side.specs.Side.{AllKnowRoom, OutputSent}
use Rattle.desk_side.proofs.Moves.{come-to}

pub less-room : (m n : ℕ) (w : OutletProducerState) → m ≤ n → KnowsRoom n w → KnowsRoom m w
less-room m n w less (inl overflowed) = inl overflowed
less-room m n w less (inr free) = inr (omega (arith, less, free))

pub producers-less-room : (m n : ℕ) (producers : List OutletProducerState) → m ≤ n → AllKnowRoom n producers
    → AllKnowRoom m producers
producers-less-room m n producers less all d w at = less-room m n w less (all d w at)

counts-less : (w v : OutletProducerState) → ((v.more ≡ w.more) ⊎ ((v.more ≡ 0) × (v.places ≤ v.free))) → v.more ≤ w.more
counts-less w v (inl same) = omega (arith, same)
counts-less w v (inr none) = omega (arith, none.0)

-- a look finds no less room
pub looked-grows : (w v : OutletProducerState) → ProducerLooked w v → producer_room w ≤ producer_room v
looked-grows w v l = beside-grows w.free w.more v.free v.more l.3 (counts-less w v l.7)

pub looked-room : (n : ℕ) (w v : OutletProducerState) → ProducerLooked w v → KnowsRoom n w → KnowsRoom n v
looked-room n w v l (inl overflowed) = inl (l.2 ∙ overflowed)
looked-room n w v l (inr room) = inr (omega (arith, looked-grows w v l, room))

pub producers-looked-room : (n : ℕ) (old new : List OutletProducerState) → ProducersLooked old new → AllKnowRoom n old
    → AllKnowRoom n new
producers-looked-room n old new looked all d v at =
    let w = come-to ProducerLooked old new looked.count looked.each d v at in
    looked-room n w.0 v w.2 (all d w.0 w.1)

sent-overflowed : (lists : _) (w v : OutletProducerState) → ProducerSent lists w v → w.overflowed ≡ true → (b : Bool)
    → v.overflowed ≡ b → v.overflowed ≡ true
sent-overflowed lists w v sent overflowed true is = is
sent-overflowed lists w v sent overflowed false is = absurd (cc (overflowed, (sent.whole is).0))

-- what is sent takes the room of a list, and of the places that it counts for
sent-room : (m n : ℕ) (lists : List (List LinkOut)) (w v : OutletProducerState) → ProducerSent lists w v
    → m ≤ n - 1 - all_more lists
    → KnowsRoom n w → KnowsRoom m v
sent-room m n lists w v sent less (inl overflowed) = inl (sent-overflowed lists w v sent overflowed v.overflowed refl)
sent-room m n lists w v sent less (inr room) =
    let falls = beside-falls w.free w.more v.free v.more (all_more lists) sent.takes sent.most in
    inr (omega (arith, falls, room, less))

list-more : (list : List LinkOut) → all_more (unless_empty list) ≤ more_places list
list-more [] = omega arith
list-more (out ∷ outs) = omega arith

one-more : (m n : ℕ) (output : List LinkOut) (b : Bool) → m ≤ n - 1 - more_places output
    → m ≤ n - 1 - all_more (unless_empty (if b then output else []))
one-more m n output true less = omega (arith, less, list-more output)
one-more m n output false less = omega (arith, less)

-- whoever is told something is told the client's list, or the port's
output-more : (m n : ℕ) (output : BatchOutput) (to : Recipient) → m ≤ n - 1 - more_places output.client_output
    → m ≤ n - 1 - more_places output.port_output → m ≤ n - 1 - all_more (unless_empty (list_for to output))
output-more m n output (recipients.Client k) client port =
    one-more m n output.client_output (is_the_number k output.client) client
output-more m n output (recipients.Port k) client port =
    one-more m n output.port_output (is_the_number k output.port) port

pub output-room : (m n : ℕ) (output : BatchOutput) (old new : List OutletProducerState) → OutputSent output old new
    → m ≤ n - 1 - more_places output.client_output → m ≤ n - 1 - more_places output.port_output
    → AllKnowRoom n old → AllKnowRoom m new
output-room m n output old new tells client port all d v at =
    let w = come-to (λ (a b : OutletProducerState). ProducerSent (unless_empty (list_for a.name.to output)) a b) old new
    tells.count
    tells.each d v at in
    sent-room m n (unless_empty (list_for w.0.name.to output)) w.0 v w.2
    (output-more m n output w.0.name.to client port) (all d w.0 w.1)

-- ---- producers that stage, and that release

keeps-room : (n : ℕ) (w v : OutletProducerState) → v.overflowed ≡ w.overflowed → w.free ≤ v.free → v.more ≡ w.more
    → KnowsRoom n w
    → KnowsRoom n v
keeps-room n w v overflowed free more (inl is) = inl (overflowed ∙ is)
keeps-room n w v overflowed free more (inr room) =
    inr (omega (arith, beside-grows w.free w.more v.free v.more free (omega (arith, more)), room))

pub stage-room : (n : ℕ) (old new : List OutletProducerState) → ProducersMayStage old new → AllKnowRoom n old
    → AllKnowRoom n new
stage-room n old new same all d v at =
    let w = come-to ProducerMayStage old new same.count same.each d v at in
    keeps-room n w.0 v w.2.2 w.2.3 w.2.7 (all d w.0 w.1)

pub release-room : (n : ℕ) (old new : List OutletProducerState) → ProducersMayRelease old new → AllKnowRoom n old
    → AllKnowRoom n new
release-room n old new same all d v at =
    let w = come-to ProducerMayRelease old new same.count same.each d v at in
    keeps-room n w.0 v w.2.2 w.2.3 w.2.6 (all d w.0 w.1)

-- as much as a producer knows
pub least-room : (n : ℕ) (w : OutletProducerState)
    → n ≡ (if w.overflowed then 18446744073709551615 else producer_room w) → KnowsRoom n w
least-room n w is = by_overflow w.overflowed refl is
  where
    by_overflow : (b : Bool) → w.overflowed ≡ b → n ≡ (if b then 18446744073709551615 else producer_room w)
        → KnowsRoom n w
    by_overflow true overflowed is = inl overflowed
    by_overflow false overflowed is = inr (omega (arith, is))
