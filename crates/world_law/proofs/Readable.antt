-- A message that asks for a new order or a replace, in bytes, is read by the market.
use Rattle.std.proofs.Common.{◌≡◌, ℕ, ◌==◌, Bool, true, false, List, refl, ap, ◌∙◌, bytes_eq, codes, Option, Some, None}
use Rattle.std.specs.Prelude.{◌&&◌, if◌then◌else◌, option_map, slice_index}
use Rattle.std.specs.List.{list_all}
use Rattle.order_law.specs.ouch_codec.declared.inbound.Inbound.TheVariants as ask
use Rattle.order_law.specs.ouch_codec.declared.inbound.enter_order.EnterOrder.{EnterOrder}
use Rattle.order_law.specs.ouch_codec.declared.inbound.replace.Replace.{Replace}
use Rattle.order_law.specs.ouch_codec.declared.layout.Kind.{Kind}
use Rattle.order_law.specs.ouch_codec.EnterOrderLaws.{enter_order_laid_out}
use Rattle.order_law.specs.ouch_codec.ReplaceLaws.{replace_laid_out}
use Rattle.order_law.specs.ouch_codec.Inbound.{inbound_bytes}
use Rattle.order_law.specs.ouch_codec.Layout.{is_message, spelled}
use Rattle.order_law.specs.ouch_codec.Layouts.{enter_order_layout, replace_layout, cancel_layout}
use Rattle.order_law.specs.ouch_codec.LaidOut.{LaidOut, written}
use Rattle.order_law.specs.ouch_codec.MessageLaws.{IsMessage-passed}
use Rattle.order_law.specs.ouch_codec.RowReading.{row_at, AreValues-row_at, spelled-row_at}
use Rattle.order_law.specs.ouch_codec.ToMarket as said
use Rattle.order_law.specs.ouch_codec.Values.{is_byte, below}
use Rattle.order_law.specs.Asks.{Ask, New, Change, Stop, LifeTime, Limits, Standing, ask_of_bytes, ask_of_cancel}
use Rattle.order_law.specs.Asks.{ask_of_enter, ask_of_replace, life_time_of_seconds, side_of_letter}

-- bytes that are a message of a layout are what some value is written as
written-read : {M : Type 0} {kinds : List Kind} (laid_out : LaidOut M kinds) (bytes : List ℕ)
    → list_all is_byte bytes ≡ true → is_message kinds bytes ≡ true → (m : M) × (written laid_out m ≡ bytes)
written-read {kinds = kinds} laid_out bytes all message =
    let small = below bytes all in
    let is_one = IsMessage-passed kinds bytes message in (
      laid_out.make (row_at kinds 0 bytes) (AreValues-row_at kinds 0 bytes small is_one),
      ap (spelled kinds) (laid_out.remade (row_at kinds 0 bytes) (AreValues-row_at kinds 0 bytes small is_one))
          ∙ spelled-row_at kinds 0 bytes small is_one,
    )

-- ---- which message asks what

-- an Enter Order asks for no change
enter-no_change : (standing : Standing) (m : List ℕ) (order : ℕ) (limits : Limits)
    → ask_of_enter standing m ≡ Some (Change order limits) → ⊥
enter-no_change standing m order limits e =
    by_side (side_of_letter (said.enter_side m)) (life_time_of_seconds (said.enter_time_in_force m)) refl refl
  where
    stands : Bool
    stands =
        bytes_eq (said.enter_firm m) standing.firm
        && (said.enter_customer m == standing.customer
        && (said.enter_sweep m == slice_index (codes "N") 0 && said.enter_cross m == slice_index (codes "N") 0))

    by_standing : (s : ℕ) (l : LifeTime) (b : Bool) → side_of_letter (said.enter_side m) ≡ Some s
        → life_time_of_seconds (said.enter_time_in_force m) ≡ Some l → stands ≡ b → ⊥
    by_standing s l true is_s is_l is_b =
        let x : Some (New s (said.enter_stock m) (record {
          total = said.enter_shares m;
          limit = said.enter_price m;
          life_time = l;
          minimum =
              said.enter_minimum m;
          display = said.enter_display m;
        }) (said.enter_capacity m))
        ≡ Some (Change order limits) = rw (is_s, is_l, is_b) at e in cc
    by_standing s l false is_s is_l is_b = let x : ◌≡◌ {A = Option Ask} None (Some (Change order limits)) =
        rw (is_s, is_l, is_b) at e in cc

    by_side : (s : Option ℕ) (l : Option LifeTime) → side_of_letter (said.enter_side m) ≡ s
        → life_time_of_seconds (said.enter_time_in_force m) ≡ l → ⊥
    by_side None l is_s is_l = let x : ◌≡◌ {A = Option Ask} None (Some (Change order limits)) = rw is_s at e in cc
    by_side (Some s) None is_s is_l = let x : ◌≡◌ {A = Option Ask} None (Some (Change order limits)) =
        rw (is_s, is_l) at e in cc
    by_side (Some s) (Some l) is_s is_l = by_standing s l stands is_s is_l refl

-- a Replace Order asks for no new order
replace-no_new : (order_of : List ℕ → Option ℕ) (m : List ℕ) (side : ℕ) (symbol : List ℕ) (limits : Limits)
    (capacity : ℕ) → ask_of_replace order_of m ≡ Some (New side symbol limits capacity) → ⊥
replace-no_new order_of m side symbol limits capacity e =
    by_order (order_of (said.token m)) (life_time_of_seconds (said.replace_time_in_force m)) refl refl
  where
    by_sweep : (k : ℕ) (l : LifeTime) (b : Bool) → order_of (said.token m) ≡ Some k → life_time_of_seconds (said.replace_time_in_force m) ≡ Some l → (said.replace_sweep m == slice_index (codes "N") 0) ≡ b → ⊥
    by_sweep k l true is_k is_l is_b =
        let x : Some (Change k (record {
          total = said.replace_shares m;
          limit = said.replace_price m;
          life_time =
              l;
          minimum = said.replace_minimum m;
          display = said.replace_display m;
        }))
        ≡ Some (New side symbol limits capacity) = rw (is_k, is_l, is_b) at e in cc
    by_sweep k l false is_k is_l is_b = let x : ◌≡◌ {A = Option Ask} None (Some (New side symbol limits capacity)) =
        rw (is_k, is_l, is_b) at e in cc

    by_order : (k : Option ℕ) (l : Option LifeTime) → order_of (said.token m) ≡ k
        → life_time_of_seconds (said.replace_time_in_force m) ≡ l → ⊥
    by_order None l is_k is_l = let x : ◌≡◌ {A = Option Ask} None (Some (New side symbol limits capacity)) =
        rw is_k at e in cc
    by_order (Some k) None is_k is_l = let x : ◌≡◌ {A = Option Ask} None (Some (New side symbol limits capacity)) =
        rw (is_k, is_l) at e in cc
    by_order (Some k) (Some l) is_k is_l = by_sweep k l (said.replace_sweep m == slice_index (codes "N") 0) is_k is_l refl

-- a Cancel Order asks to stop, or nothing
cancel-stops : (order_of : List ℕ → Option ℕ) (m : List ℕ) (x : Ask) → ask_of_cancel order_of m ≡ Some x
    → (k : ℕ) × (x ≡ Stop k)
cancel-stops order_of m x e = by_shares (said.cancel_shares m == 0) (order_of (said.token m)) e
  where
    by_shares : (b : Bool) (k : Option ℕ) → (if b then option_map (λ k. Stop k) k else None) ≡ Some x
        → (k : ℕ) × (x ≡ Stop k)
    by_shares true None f = absurd (cc)
    by_shares true (Some k) f = (k, let same : x ≡ Stop k = cc in same)
    by_shares false k f = absurd (cc)

module _ (standing : Standing) (order_of : List ℕ → Option ℕ) (m : List ℕ) where
  asks-new : (a b c : Bool) (side : ℕ) (symbol : List ℕ) (limits : Limits) (capacity : ℕ)
      → (if a then ask_of_enter standing m else if b then ask_of_replace order_of m else if c then ask_of_cancel
      order_of m else None) ≡ Some (New side symbol limits capacity) → a ≡ true
  asks-new true b c side symbol limits capacity e = refl
  asks-new false true c side symbol limits capacity e = absurd (replace-no_new order_of m side symbol limits capacity e)
  asks-new false false true side symbol limits capacity e =
      absurd (let k = cancel-stops order_of m (New side symbol limits capacity) e in
      let f : New side symbol limits capacity ≡ Stop k.0 = k.1 in cc)
  asks-new false false false side symbol limits capacity e = absurd (cc)

  asks-change : (a b c : Bool) (order : ℕ) (limits : Limits)
      → (if a then ask_of_enter standing m else if b then ask_of_replace order_of m else if c then ask_of_cancel
      order_of m else None) ≡ Some (Change order limits) → b ≡ true
  asks-change true b c order limits e = absurd (enter-no_change standing m order limits e)
  asks-change false true c order limits e = refl
  asks-change false false true order limits e =
      absurd (let k = cancel-stops order_of m (Change order limits) e in let f : Change order limits ≡ Stop k.0 = k.1 in
      cc)
  asks-change false false false order limits e = absurd (cc)

  pub new-read : list_all is_byte m ≡ true → (side : ℕ) (symbol : List ℕ) (limits : Limits) (capacity : ℕ)
      → ask_of_bytes standing order_of m ≡ Some (New side symbol limits capacity)
      → (order : EnterOrder) × (inbound_bytes (ask.Enter order) ≡ m)
  new-read all side symbol limits capacity e =
      written-read enter_order_laid_out m all (asks-new (is_message enter_order_layout m) (is_message replace_layout m)
      (is_message cancel_layout m) side symbol limits capacity e)

  pub change-read : list_all is_byte m ≡ true → (order : ℕ) (limits : Limits)
      → ask_of_bytes standing order_of m ≡ Some (Change order limits)
      → (request : Replace) × (inbound_bytes (ask.Replace request) ≡ m)
  change-read all order limits e =
      written-read replace_laid_out m all (asks-change (is_message enter_order_layout m) (is_message replace_layout m)
      (is_message cancel_layout m) order limits e)
