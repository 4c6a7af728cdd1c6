-- A history taken event by event.
use Rattle.std.proofs.Common.{◌≡◌, ◌<◌, ◌≤◌, ◌+◌, ◌^◌, ℕ, Bool, true, false, ◌∷◌, length}
use Rattle.std.proofs.Common.{refl, arith}
use Rattle.std.specs.Prelude.{if◌then◌else◌, ◌&&◌, nat_le, nat_lt}
use Rattle.std.proofs.lemmas.Bool.Decides.{nat_tests}
use Rattle.gate_core.specs.soup_session.Table.{LoginTerms}
use Rattle.gate_law.specs.Events.{History, Turn}
use Rattle.gate_law.specs.After.{is_within_day, most_events}
use Rattle.gate_events.specs.declared.event.Event.{Event}
use Rattle.gate_events.specs.declared.batch.Batch.{Batch}
use Rattle.gate_core.specs.Core.{turn_of}
use Rattle.gate_events.specs.Seen.{batch_seen, event_seen}
use Rattle.gate_audit.specs.Again as read
use Rattle.gate_audit.specs.Again.{called_again}
use Rattle.gate_audit.specs.Called.{stepped_of}

pub is-near : (n i : ℕ) → nat_lt i n ≡ true → i < n
is-near n i e = grind (arith, nat_tests)

is-past : (n i : ℕ) → nat_lt i n ≡ false → n ≤ i
is-past n i e = grind (arith, nat_tests)

-- one event more, where so many may still be stepped, and where not
pub again-more : (terms : LoginTerms) (p : ℕ) (e : Event) (b : Batch) (before : History) → length before < 2 ^ 48
    → called_again terms p (turn_of e b ∷ before)
    ≡ read.unless_lost p (batch_seen b) (read.called_by_event terms p (event_seen e) (batch_seen b)
    (called_again terms p before))
again-more terms p e b before few = by_limit (is_within_day before) refl
  where
    by_limit : (w : Bool) → is_within_day before ≡ w
        → (if w then read.unless_lost p (batch_seen b)
        (read.called_by_event terms p (event_seen e) (batch_seen b) (called_again terms p before)) else called_again
        terms p before) ≡ read.unless_lost p (batch_seen b)
        (read.called_by_event terms p (event_seen e) (batch_seen b) (called_again terms p before))
    by_limit true is = refl
    by_limit false is = (let past = is-past most_events (length before) is in absurd (omega (arith, past, few)))

pub again-past : (terms : LoginTerms) (p : ℕ) (e : Event) (b : Batch) (before : History) → 2 ^ 48 ≤ length before
    → called_again terms p (turn_of e b ∷ before) ≡ called_again terms p before
again-past terms p e b before many = by_limit (is_within_day before) refl
  where
    by_limit : (w : Bool) → is_within_day before ≡ w
        → (if w then read.unless_lost p (batch_seen b)
        (read.called_by_event terms p (event_seen e) (batch_seen b) (called_again terms p before)) else called_again
        terms p before) ≡ called_again terms p before
    by_limit true is = (let near = is-near most_events (length before) is in absurd (omega (arith, near, many)))
    by_limit false is = refl

-- a number from 1 to this one
pub has-of : (p n : ℕ) → 1 ≤ p → p ≤ n → (nat_le 1 p && nat_le p n) ≡ true
has-of p n some known = grind (arith, nat_tests)

-- ---- how many turns are stepped

pub stepped-few : (h : History) → stepped_of h < 2 ^ 48 → length h < 2 ^ 48
stepped-few h few = by_limit (is_within_day h) refl few
  where
    by_limit : (w : Bool) → is_within_day h ≡ w → (if w then length h else 2 ^ 48) < 2 ^ 48 → length h < 2 ^ 48
    by_limit true is few = few
    by_limit false is few = absurd (omega (arith, few))

pub stepped-all : (h : History) → length h < 2 ^ 48 → stepped_of h ≡ length h
stepped-all h few = by_limit (is_within_day h) refl
  where
    by_limit : (w : Bool) → is_within_day h ≡ w → (if w then length h else 2 ^ 48) ≡ length h
    by_limit true is = refl
    by_limit false is = (let past = is-past most_events (length h) is in absurd (omega (arith, past, few)))

pub stepped-next : (t : Turn) (h : History) → length h < 2 ^ 48 → stepped_of h + 1 ≡ stepped_of (t ∷ h)
stepped-next t h few = by_limit (is_within_day (t ∷ h)) refl
  where
    by_limit : (w : Bool) → is_within_day (t ∷ h) ≡ w
        → stepped_of h + 1 ≡ (if w then length (t ∷ h) else 2 ^ 48)
    by_limit true is = (let all = stepped-all h few in omega (arith, all))
    by_limit false is = (let past = is-past most_events (length (t ∷ h)) is in
        let all = stepped-all h few in omega (arith, past, few, all))
