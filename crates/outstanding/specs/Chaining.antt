-- Chains lead from the newest message of an order to its oldest. A chain never hides a message: it leads to each that
-- isn't settled, whatever else it leads to.
use Rattle.std.specs.Prelude.{◌≡◌, ◌≤◌, ◌<◌, ◌+◌, ◌*◌, ◌/◌, ◌%◌, ◌^◌, ℕ, true, List, Some, length, nat_eq}
use Rattle.std.specs.Prelude.{slice_get, slice_index}
use Rattle.std.specs.List.{list_any}
use Rattle.outstanding.specs.declared.asked.AskedMessage.{AskedMessage}
use Rattle.outstanding.specs.Marks.{is_given, is_settled}

-- The bucket of an order, of so many: by the upper half of a product, which spreads orders at even distances.
unfoldable pub bucket : ℕ → ℕ → ℕ
bucket buckets order_id = order_id * 0x9e37_79b9_7f4a_7c15 % 2 ^ 64 / 2 ^ 32 % buckets

-- Of the first k messages, a bucket's chain leads to the last of the first r, which is one of the bucket; those behind
-- it are of other buckets or are settled.
pub record Reaches (buckets : ℕ) (xs : List AskedMessage) (b r k : ℕ) : Type 0 where
  pub below : r ≤ k
  pub own : (p : ℕ) (x : AskedMessage) → r ≡ p + 1 → slice_get xs p ≡ Some x → bucket buckets x.order_id ≡ b
  pub past : (i : ℕ) (x : AskedMessage) → r ≤ i → i < k → slice_get xs i ≡ Some x → bucket buckets x.order_id ≡ b
      → is_settled x ≡ true

-- Each bucket's chain begins at its head, among all messages, and goes on from each message among those that are older.
pub record IsChained (buckets : ℕ) (heads older : List ℕ) (xs : List AskedMessage) : Type 0 where
  pub wide : length heads ≡ buckets
  pub long : length older ≡ length xs
  pub some : 0 < length xs → 0 < buckets
  pub small : (i : ℕ) (x : AskedMessage) → slice_get xs i ≡ Some x → x.order_id < 2 ^ 64
  pub begins : (b : ℕ) → b < buckets → Reaches buckets xs b (slice_index heads b) (length xs)
  pub goes_on : (j : ℕ) (x : AskedMessage) → slice_get xs j ≡ Some x
      → Reaches buckets xs (bucket buckets x.order_id) (slice_index older j) j

-- the places of all messages that were answered since they were settled
abbrev pub AreNoted : List ℕ → List AskedMessage → Type 0
AreNoted places xs = (i : ℕ) (x : AskedMessage) → slice_get xs i ≡ Some x → is_given x ≡ true
    → list_any (nat_eq i) places ≡ true

-- messages at their places, and for how many more there is room
pub record Placed : Type 0 where
  pub items : List AskedMessage
  pub room : ℕ
