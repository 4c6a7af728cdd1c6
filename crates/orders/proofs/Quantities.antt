-- The quantities of an order that is replaced.
use Rattle.std.proofs.Common.{◌≡◌, ℕ, ◌+◌, Bool, true, false, refl}
use Rattle.std.specs.Prelude.{List, [], ◌∷◌, ◌==◌, map, length, Option, bytes_eq}
use Rattle.orders.specs.declared.requests.Replacing.{Replacing}
use Rattle.order_machine.specs.order_law.declared.stage.Stage.TheVariants.{Working}
use Rattle.order_machine.specs.History.{Entry, token_of}
use Rattle.order_machine.specs.OrderRecord.{Cancelling, OrderRecord, at, live_token, over_if, put_in_book, renamed}
use Rattle.order_machine.specs.OrderRecord.{still_after}
use Rattle.orders.specs.declared.progress.Progress.{Progress}
use Rattle.orders.specs.Changes.{replaced_as, with_quantities}
use Rattle.orders.specs.Seen.{progressed, replace_seen}

pub replaced-quantities : (b : Bool) (p : Progress) (o : OrderRecord) (q : Entry) (qs : List Entry)
    (cancel : Option Cancelling) (shares price : ℕ) → p.stage ≡ Working → p.is_refused ≡ o.is_refused
    → p.total ≡ o.executed + shares → p.price ≡ price
    → p.unfilled ≡ shares → p.executed ≡ o.executed → p.cancelled ≡ o.cancelled → p.value ≡ o.value
    → with_quantities (over_if b (progressed p o)) o
    ≡ with_quantities (over_if b (at (put_in_book shares price (renamed (token_of q) q o)) qs cancel)) o
replaced-quantities true p o q qs cancel shares price stage refused total is_price unfilled executed cancelled value =
    rw (refused, total, is_price, unfilled, executed, cancelled, value) refl
replaced-quantities false p o q qs cancel shares price stage refused total is_price unfilled executed cancelled value =
    rw (stage, refused, total, is_price, unfilled, executed, cancelled, value) refl

-- under the oldest of some pending replaces
pub oldest-quantities : (b : Bool) (p : Progress) (o : OrderRecord) (client order_id : ℕ) (rs : List Replacing)
    (shares price : ℕ) → (length rs == 0) ≡ false → p.stage ≡ Working → p.is_refused ≡ o.is_refused
    → p.total ≡ o.executed + shares → p.price ≡ price
    → p.unfilled ≡ shares → p.executed ≡ o.executed → p.cancelled ≡ o.cancelled → p.value ≡ o.value
    → with_quantities (over_if b (progressed p o)) o
    ≡ with_quantities (replaced_as shares price b o (map (replace_seen client order_id) rs)) o
oldest-quantities b p o client order_id [] shares price some stage refused total is_price unfilled executed cancelled
    value = absurd (cc)
oldest-quantities b p o client order_id (r ∷ rs) shares price some stage refused total is_price unfilled executed
    cancelled value =
    replaced-quantities b p o (replace_seen client order_id r) (map (replace_seen client order_id) rs)
    (still_after (bytes_eq (live_token o)) o.cancel) shares price stage refused total is_price unfilled executed
    cancelled value
