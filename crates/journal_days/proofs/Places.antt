-- A place that knows less of a batch refuses no more.
use Rattle.std.proofs.Common.{◌≡◌, ℕ, true, false, Bool, Option, Some, None, List, [], ◌∷◌, ◌++◌, refl, sym, ap, subst}
use Rattle.std.proofs.Common.{◌∙◌, arith}
use Rattle.std.proofs.lemmas.Bool.Decides.{nat_tests}
use Rattle.std.specs.Prelude.{◌==◌, ◌&&◌, not, nat_le, if◌then◌else◌}
use Rattle.journal_pages.specs.declared.fault.PageFault.{PageFault}
use Rattle.journal_pages.specs.declared.fault.PageFault.TheVariants as faults
use Rattle.journal_pages.specs.declared.place.Place.{Place}
use Rattle.journal_pages.specs.declared.place.Place.TheVariants.{PageStart, BetweenBatches, InBatch}
use Rattle.journal_pages.specs.declared.place.Batch.{Batch}
use Rattle.journal_pages.specs.Record.{Record}
use Rattle.journal_pages.specs.Ordered.{order_fault, place_behind}
use Rattle.journal_pages.specs.Page.{batch_at, batch_with, fault_at, is_event, is_of_batch, is_same, may_follow}
use Rattle.journal_pages.specs.Page.{next_fault, place_after, place_within, rank, unless}
use Rattle.journal_pages.proofs.Listed.{both-none}

-- what is known of a client or a port
abbrev pub KnowsLess : Option ℕ → Option ℕ → Type 0
KnowsLess None other = Unit {0}
KnowsLess (Some n) other = other ≡ Some n

pub record IsLess (a b : Batch) : Type 0 where
  pub at : a.at ≡ b.at
  pub client : KnowsLess a.client b.client
  pub port : KnowsLess a.port b.port
  pub rank : a.rank ≡ b.rank

abbrev pub Less : Place → Place → Type 0
Less PageStart q = Unit {0}
Less BetweenBatches PageStart = ⊥
Less BetweenBatches BetweenBatches = Unit {0}
Less BetweenBatches (InBatch b) = ⊥
Less (InBatch a) PageStart = ⊥
Less (InBatch a) BetweenBatches = ⊥
Less (InBatch a) (InBatch b) = IsLess a b

knows-same : (o : Option ℕ) → KnowsLess o o
knows-same None = tt
knows-same (Some n) = refl

batch-same : (b : Batch) → IsLess b b
batch-same b = record { at = refl; client = knows-same b.client; port = knows-same b.port; rank = refl }

less-same : (p : Place) → Less p p
less-same PageStart = tt
less-same BetweenBatches = tt
less-same (InBatch b) = batch-same b

-- ---- what isn't refused

same-less : (a b : Option ℕ) (n : ℕ) → KnowsLess a b → is_same b n ≡ true → is_same a n ≡ true
same-less None b n less e = refl
same-less (Some k) b n less e = subst (λ (o : Option ℕ). is_same o n ≡ true) less e

follows : (a b c : Bool) → (if not a then Some faults.Payload else if not b then Some faults.Payload else if c then None
    else Some faults.Order) ≡ None → (a ≡ true) × (b ≡ true) × (c ≡ true)
follows false b c e = let no : ⊥ = cc in absurd no
follows true false c e = let no : ⊥ = cc in absurd no
follows true true false e = let no : ⊥ = cc in absurd no
follows true true true e = (refl, refl, refl)

goes : (a b c : Bool) → a ≡ true → b ≡ true → c ≡ true
    → (if not a then Some faults.Payload else if not b then Some faults.Payload else if c then None else Some
    faults.Order) ≡ None
goes a b c ea eb ec = rw (ea, eb, ec) refl

of-batch : (s t : Bool) (a b c d : Option ℕ) (n : ℕ) → KnowsLess a b → KnowsLess c d
    → (if s then is_same b n else if t then is_same d n else true) ≡ true
    → (if s then is_same a n else if t then is_same c n else true) ≡ true
of-batch true t a b c d n client port e = same-less a b n client e
of-batch false true a b c d n client port e = same-less c d n port e
of-batch false false a b c d n client port e = refl

no-event : (t : Bool) (o : Option PageFault) → (if t then Some faults.Order else o) ≡ None → (t ≡ false) × (o ≡ None)
no-event true o e = let no : ⊥ = cc in absurd no
no-event false o e = (refl, e)

an-event : (t : Bool) → (if t then None else Some faults.Order) ≡ None → t ≡ true
an-event true e = refl
an-event false e = let no : ⊥ = cc in absurd no

same-number : (m n : ℕ) → (m == n) ≡ true → m ≡ n
same-number m n e = grind (arith, nat_tests)

next-less : (a b : Batch) (r : Record) → IsLess a b → next_fault b r ≡ None → next_fault a r ≡ None
next-less a b r less e =
    let f = follows (b.at == r.at) (is_of_batch b r) (may_follow b.rank (rank r.kind)) e in
    goes (a.at == r.at) (is_of_batch a r) (may_follow a.rank (rank r.kind))
    (ap (λ n. n == r.at) less.at ∙ f.0)
    (of-batch (nat_le (rank r.kind) 2) (nat_le (rank r.kind) 4) a.client b.client a.port b.port r.source less.client
    less.port f.1)
    (ap (λ n. may_follow n (rank r.kind)) less.rank ∙ f.2)

in-less : (t : Bool) (o x : Option PageFault) → (o ≡ None → x ≡ None) → (if t then Some faults.Order else o) ≡ None
    → (if t then Some faults.Order else x) ≡ None
in-less true o x h e = e
in-less false o x h e = h e

pub less-fault : (p q : Place) (r : Record) → Less p q → fault_at q r ≡ None → fault_at p r ≡ None
less-fault PageStart q r less e = refl
less-fault BetweenBatches PageStart r less e = absurd less
less-fault BetweenBatches BetweenBatches r less e = e
less-fault BetweenBatches (InBatch b) r less e = absurd less
less-fault (InBatch a) PageStart r less e = absurd less
less-fault (InBatch a) BetweenBatches r less e = absurd less
less-fault (InBatch a) (InBatch b) r less e =
    in-less (is_event r.kind) (next_fault b r) (next_fault a r) (next-less a b r less) e

-- ---- the place behind

named-less : (t : Bool) (a b : Option ℕ) (n : ℕ) → KnowsLess a b
    → KnowsLess (if t then Some n else a) (if t then Some n else b)
named-less true a b n less = refl
named-less false a b n less = less

within-less : (a b : Batch) (r : Record) → a.at ≡ b.at → KnowsLess a.client b.client → KnowsLess a.port b.port
    → Less (place_within a r) (place_within b r)
within-less a b r at client port = by_end (rank r.kind == 5)
  where
    by_end : (t : Bool) → Less (if t then BetweenBatches else InBatch (batch_with a r))
        (if t then BetweenBatches else InBatch (batch_with b r))
    by_end true = tt
    by_end false = record {
      at = at;
      client = named-less (nat_le (rank r.kind) 2) a.client b.client r.source client;
      port = named-less (nat_le 3 (rank r.kind) && nat_le (rank r.kind) 4) a.port b.port r.source port;
      rank = refl;
    }

start-less : (q : Place) (r : Record) → fault_at q r ≡ None → Less (place_after PageStart r) (place_after q r)
start-less PageStart r e = less-same (place_after PageStart r)
start-less BetweenBatches r e = let is : is_event r.kind ≡ true = an-event (is_event r.kind) e in
    rw is (batch-same (batch_at r.at))
start-less (InBatch b) r e =
    let both = no-event (is_event r.kind) (next_fault b r) e in
    let f = follows (b.at == r.at) (is_of_batch b r) (may_follow b.rank (rank r.kind)) both.1 in
    let is : is_event r.kind ≡ false = both.0 in
    rw is (within-less (batch_at r.at) b r (sym (same-number b.at r.at f.0)) tt tt)

pub less-after : (p q : Place) (r : Record) → Less p q → fault_at q r ≡ None → Less (place_after p r) (place_after q r)
less-after PageStart q r less e = start-less q r e
less-after BetweenBatches PageStart r less e = absurd less
less-after BetweenBatches BetweenBatches r less e = batch-same (batch_at r.at)
less-after BetweenBatches (InBatch b) r less e = absurd less
less-after (InBatch a) PageStart r less e = absurd less
less-after (InBatch a) BetweenBatches r less e = absurd less
less-after (InBatch a) (InBatch b) r less e = within-less a b r less.at less.client less.port

pub less-behind : (p q : Place) (rs : List Record) → Less p q → order_fault q rs ≡ None
    → Less (place_behind p rs) (place_behind q rs)
less-behind p q [] less e = less
less-behind p q (r ∷ rs) less e =
    let both = both-none (fault_at q r) (order_fault (place_after q r) rs) e in
    less-behind (place_after p r) (place_after q r) rs (less-after p q r less both.0) both.1

-- ---- records in two parts

pub order-both : (p : Place) (rs more : List Record) → order_fault p rs ≡ None
    → order_fault p (rs ++ more) ≡ order_fault (place_behind p rs) more
order-both p [] more e = refl
order-both p (r ∷ rs) more e =
    let both = both-none (fault_at p r) (order_fault (place_after p r) rs) e in
    ap (λ (f : Option PageFault). unless f (order_fault (place_after p r) (rs ++ more))) both.0
    ∙ order-both (place_after p r) rs more both.1

pub behind-both : (p : Place) (rs more : List Record)
    → place_behind p (rs ++ more) ≡ place_behind (place_behind p rs) more
behind-both p [] more = refl
behind-both p (r ∷ rs) more = behind-both (place_after p r) rs more
