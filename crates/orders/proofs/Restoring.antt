-- An order that goes on from an earlier one is put back to it.
use Rattle.std.proofs.Common.{◌≡◌, ℕ, ◌≤◌, ◌-◌, Bool, true, false, List, [], ◌∷◌, ◌++◌, length, map, take, drop}
use Rattle.std.proofs.Common.{reverse, refl, sym, ap, ◌∙◌, arith, true≢false, ◌⊎◌, inl, inr}
use Rattle.std.specs.Prelude.{◌==◌, ◌||◌, Option, Some, None, is_some, option_map, unwrap_or, if◌then◌else◌, bytes_eq}
use Rattle.std.proofs.Math.Seq.{take-length, take-append_seam}
use Rattle.std.proofs.lemmas.List.{length-reverse, reverse-append, reverse-reverse}
use Rattle.order_machine.specs.History.{Entry, token_of}
use Rattle.order_machine.specs.OrderRecord.{OrderRecord, at, filled, gone, live_token, over_if, put_in_book, reduced}
use Rattle.order_machine.specs.OrderRecord.{mark, renamed, still_after, unasked, with_trade}
use Rattle.order_machine.specs.OrderRecord as record_of
use Rattle.orders.specs.Changes.{breaks, changed_by, renames, replaced_as}
use Rattle.orders.specs.PutBack.{GoesOn, are_some, can_have_had, had_before, needs_memory, put_back, with_earlier}
use Rattle.orders.specs.EarlierTrades.{first_trades, oldest, told_before}
use Rattle.orders.specs.Seen.{cancel_of, progressed, replace_of}
use Rattle.orders.specs.declared.change.Change.{Change}
use Rattle.orders.specs.declared.change.Change.TheVariants as changes
use Rattle.orders.specs.declared.earlier_order.EarlierOrder.{EarlierOrder}
use Rattle.orders.specs.declared.earlier_trades.EarlierTrades.{EarlierTrades}

-- ---- lists that have the newest first

-- it is the same, or has one item more
abbrev pub Grown : {A : Type 0} → List A → List A → Type 0
Grown {A} xs ys = (ys ≡ xs) ⊎ ((x : A) × (ys ≡ x ∷ xs))

oldest-all : {A : Type 0} (xs : List A) → oldest (length xs) xs ≡ xs
oldest-all xs = ap (λ n. reverse (take n (reverse xs))) (sym (length-reverse xs))
    ∙ ap reverse (take-length (reverse xs)) ∙ reverse-reverse xs

oldest-more : {A : Type 0} (x : A) (xs : List A) → oldest (length xs) (x ∷ xs) ≡ xs
oldest-more x xs =
    ap (λ ys. reverse (take (length xs) ys)) (reverse-append (x ∷ []) xs)
    ∙ ap (λ n. reverse (take n (reverse xs ++ x ∷ []))) (sym (length-reverse xs))
    ∙ ap reverse (take-append_seam (reverse xs) (x ∷ []))
    ∙ reverse-reverse xs

pub grown-oldest : {A : Type 0} (xs ys : List A) → Grown xs ys → oldest (length xs) ys ≡ xs
grown-oldest xs ys (inl same) = ap (oldest (length xs)) same ∙ oldest-all xs
grown-oldest xs ys (inr (x, more)) = ap (oldest (length xs)) more ∙ oldest-more x xs

behind-same : {A : Type 0} (xs : List A) → (oldest (length (drop 1 xs)) (drop 1 xs) ≡ drop 1 xs)
    × (length (drop 1 xs) ≤ length (drop 1 xs))
behind-same xs = (oldest-all (drop 1 xs), omega arith)

behind-all : {A : Type 0} (xs : List A) → (oldest (length (drop 1 xs)) xs ≡ drop 1 xs)
    × (length (drop 1 xs) ≤ length xs)
behind-all [] = (refl, omega arith)
behind-all (x ∷ xs) = (oldest-more x xs, omega arith)

Behind : {A : Type 0} → List A → List A → Type 0
Behind xs ys = (oldest (length (drop 1 xs)) (drop 1 ys) ≡ drop 1 xs) × (length (drop 1 xs) ≤ length (drop 1 ys))

grown-behind : {A : Type 0} (xs ys : List A) → Grown xs ys
    → (oldest (length (drop 1 xs)) (drop 1 ys) ≡ drop 1 xs) × (length (drop 1 xs) ≤ length (drop 1 ys))
grown-behind xs ys (inl same) = rw same (behind-same xs)
grown-behind xs ys (inr (x, more)) = rw more (behind-all xs)

-- ---- what a change leaves of an order

pub record Leaves (broken : Option ℕ) (named : Bool) (was now : OrderRecord) : Type 0 where
  pub asked : now.new ≡ was.new
  pub tokens : Grown was.tokens now.tokens
  pub id : named ≡ false → now.id ≡ was.id
  pub trades : broken ≡ None → Grown was.trades now.trades

same : (broken : Option ℕ) (named : Bool) (was now : OrderRecord) → now.new ≡ was.new → now.tokens ≡ was.tokens → now.id ≡ was.id
    → now.trades ≡ was.trades → Leaves broken named was now
same broken named was now asked tokens id trades =
    record { asked = asked; tokens = inl tokens; id = λ e. id; trades = λ e. inl trades }

over : (broken : Option ℕ) (named : Bool) (was now : OrderRecord) (b : Bool) → Leaves broken named was now
    → Leaves broken named was (over_if b now)
over broken named was now true l = record { asked = l.asked; tokens = l.tokens; id = l.id; trades = l.trades }
over broken named was now false l = l

never : {P : Type 0} → true ≡ false → P
never e = absurd (true≢false e)

not-none : {P : Type 0} (n : ℕ) → ◌≡◌ {A = Option ℕ} (Some n) None → P
not-none n e = absurd (cc)

replaced : (shares price : ℕ) (is_dead : Bool) (o : OrderRecord) (rs : List Entry)
    → Leaves None true o (replaced_as shares price is_dead o rs)
replaced shares price is_dead o [] = same None true o o refl refl refl refl
replaced shares price is_dead o (q ∷ qs) =
    over None true o (at (put_in_book shares price (renamed (token_of q) q o)) qs
    (still_after (bytes_eq (live_token o)) o.cancel)) is_dead
    (record { asked = refl; tokens = inr (token_of q, refl); id = λ e. never e; trades = λ e. inl refl })

pub leaves : (change : Change) (o : OrderRecord) → Leaves (breaks change) (renames change) o (changed_by change o)
leaves (changes.Opened shares price is_dead) o =
    over None false o (put_in_book shares price o) is_dead
    (same None false o (put_in_book shares price o) refl refl refl refl)
leaves (changes.Replaced shares price is_dead) o = replaced shares price is_dead o o.replaces
leaves (changes.Canceled shares) o = by_rest (o.unfilled - shares == 0)
  where
    by_rest : (b : Bool) → Leaves None false o (if b then unasked (gone o) else reduced shares o)
    by_rest true = same None false o (unasked (gone o)) refl refl refl refl
    by_rest false = same None false o (reduced shares o) refl refl refl refl
leaves (changes.Traded t) o = by_rest (o.unfilled - t.trade.shares == 0)
  where
    by_rest : (b : Bool) → Leaves None false o
        (if b then unasked (filled t.number t.trade o) else with_trade t.number t.trade o)
    by_rest true = record {
      asked = refl;
      tokens = inl refl;
      id = λ e. refl;
      trades =
          λ e. inr (record { trade = t.trade; number = t.number }, refl);
    }
    by_rest false = record {
      asked = refl;
      tokens = inl refl;
      id = λ e. refl;
      trades =
          λ e. inr (record { trade = t.trade; number = t.number }, refl);
    }
leaves (changes.Broken t) o =
    record { asked = refl; tokens = inl refl; id = λ e. refl; trades = λ e. not-none t.trade.match_number e }
leaves changes.Refused o = same None false o (changed_by changes.Refused o) refl refl refl refl
leaves changes.NotReplaced o = same None false o (changed_by changes.NotReplaced o) refl refl refl refl
leaves (changes.NotCanceled token) o = same None false o (changed_by (changes.NotCanceled token) o) refl refl refl refl

pub goes-on : (broken : Option ℕ) (named : Bool) (was now : OrderRecord) (id : Option (List ℕ)) (trades : EarlierTrades)
    → Leaves broken named was now → unwrap_or id now.id ≡ was.id → told_before trades now.trades ≡ was.trades
    → GoesOn id trades was now
goes-on broken named was now id trades l is_named told = record {
  asked = l.asked;
  tokens = (grown-behind was.tokens now.tokens l.tokens).0;
  as_many = (grown-behind was.tokens now.tokens l.tokens).1;
  named = is_named;
  trades = told;
}

-- as many trades as there were, where none is broken
pub first-trades : (change : Change) (o : OrderRecord) (earlier : EarlierTrades) → breaks change ≡ None
    → earlier ≡ first_trades (length o.trades) → told_before earlier (changed_by change o).trades ≡ o.trades
first-trades change o earlier none many = ap (λ x. told_before x (changed_by change o).trades) many
    ∙ grown-oldest o.trades (changed_by change o).trades ((leaves change o).trades none)

-- what breaks a trade marks it
pub breaks-marks : (change : Change) (o : OrderRecord) (n : ℕ) → breaks change ≡ Some n
    → (changed_by change o).trades ≡ map (mark n) o.trades
breaks-marks (changes.Broken t) o n e = ap (λ k. map (mark k) o.trades) (some-is t.trade.match_number n e)
  where
    some-is : (j k : ℕ) → ◌≡◌ {A = Option ℕ} (Some j) (Some k) → j ≡ k
    some-is j k same = cc
breaks-marks (changes.Opened shares price is_dead) o n e = not-none n (sym e)
breaks-marks (changes.Replaced shares price is_dead) o n e = not-none n (sym e)
breaks-marks (changes.Canceled shares) o n e = not-none n (sym e)
breaks-marks (changes.Traded t) o n e = not-none n (sym e)
breaks-marks changes.Refused o n e = not-none n (sym e)
breaks-marks changes.NotReplaced o n e = not-none n (sym e)
breaks-marks (changes.NotCanceled token) o n e = not-none n (sym e)

-- ---- what is put back

by-test : (b : Bool) (x y : OrderRecord) → b ≡ true → (if b then x else y) ≡ x
by-test true x y e = refl
by-test false x y e = absurd (true≢false (sym e))

pub put-back-then : (e : EarlierOrder) (o : OrderRecord) → can_have_had e o ≡ true → put_back e o ≡ with_earlier e o
put-back-then e o fits = by-test (can_have_had e o) (with_earlier e o) o fits

-- ---- as the fields have it

pub oldest-of : (n : ℕ) (ts : List (List ℕ)) → reverse (take n ts) ≡ oldest n (reverse ts)
oldest-of n ts = ap (λ xs. reverse (take n xs)) (sym (reverse-reverse ts))

pub with-earlier-is : (e : EarlierOrder) (o : OrderRecord) (id : List ℕ) (behind : List (List ℕ))
    (trades : List record_of.ToldTrade) (replaces : List Entry) (cancel : Option record_of.Cancelling)
    → id ≡ unwrap_or e.cl_ord_id o.id
    → behind ≡ oldest e.earlier_count (had_before o) → trades ≡ told_before e.trades o.trades
    → replaces ≡ map (replace_of o) e.replaces → cancel ≡ option_map (cancel_of o) e.cancel
    → record (progressed e.progress o) {
      id = id;
      tokens = e.token ∷ behind;
      trades = trades;
      replaces =
          replaces;
      cancel = cancel;
    } ≡ with_earlier e o
with-earlier-is e o id behind trades replaces cancel ids tokens told requests cancels =
    (λ j. record (progressed e.progress o) {
      id = ids j;
      tokens = e.token ∷ tokens j;
      trades = told j;
      replaces =
          requests j;
      cancel = cancels j;
    })

-- ---- what takes no memory

neither : (a b : Bool) → (a || b) ≡ false → (a ≡ false) × (b ≡ false)
neither false b e = (refl, e)
neither true b e = never e

none-there : {A : Type 0} (x : Option A) → is_some x ≡ false → x ≡ None
none-there None e = refl
none-there (Some a) e = never e

none-pending : (rs : List Entry) → are_some rs ≡ false → rs ≡ []
none-pending [] e = refl
none-pending (q ∷ qs) e = never e

-- of an order without pending requests as it was, which a change doesn't rename
pub light-before : (change : Change) (o : OrderRecord) (earlier : EarlierOrder) (trades : EarlierTrades)
    → needs_memory change o ≡ false → told_before trades (changed_by change o).trades ≡ o.trades
    → (o.replaces ≡ [] → o.cancel ≡ None → (now : OrderRecord) → GoesOn None trades o now → put_back earlier now ≡ o)
    → put_back earlier (changed_by change o) ≡ o
light-before change o earlier trades light told back =
    let parts : (renames change ≡ false) × ((are_some o.replaces || is_some o.cancel) ≡ false) =
    neither (renames change) (are_some o.replaces || is_some o.cancel) light in
    let asked : (are_some o.replaces ≡ false) × (is_some o.cancel ≡ false) =
    neither (are_some o.replaces) (is_some o.cancel) parts.1 in
    let left : Leaves (breaks change) (renames change) o (changed_by change o) = leaves change o in
    back (none-pending o.replaces asked.0) (none-there o.cancel asked.1) (changed_by change o)
    (goes-on (breaks change) (renames change) o (changed_by change o) None trades left (left.id parts.0) told)
