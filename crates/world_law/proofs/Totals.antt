-- No message to a market asks for more in all than was accepted for its order, so no order in a book comes to more.
use Rattle.std.proofs.Common.{◌≡◌, ℕ, ◌<◌, ◌≤◌, ◌^◌, max, Bool, true, false, List, [], ◌∷◌, ◌++◌, length, map, refl}
use Rattle.std.proofs.Common.{sym, ap, ◌∙◌, subst, arith, bytes_eq, codes, Option, Some, None}
use Rattle.std.proofs.Math.Nat.{le-max_left, le-max_right}
use Rattle.std.specs.Prelude.{◌==◌, ◌&&◌, if◌then◌else◌, nat_le, option_map, option_to_list, slice_index}
use Rattle.order_law.specs.ouch_codec.declared.inbound.Inbound.{Inbound}
use Rattle.order_law.specs.ouch_codec.declared.inbound.Inbound.TheVariants as ask
use Rattle.order_law.specs.ouch_codec.EnterOrderParts.{SaysEnterOrder-written}
use Rattle.order_law.specs.ouch_codec.ReplaceParts.{SaysReplace-written}
use Rattle.order_law.specs.ouch_codec.Inbound.{inbound_bytes}
use Rattle.order_law.specs.ouch_codec.Layout.{is_message}
use Rattle.order_law.specs.ouch_codec.Layouts.{enter_order_layout}
use Rattle.order_law.specs.ouch_codec.ToMarket as said
use Rattle.std.specs.Str.Parse.{digits_value}
use Rattle.fix_fields.specs.Field.{Message, text}
use Rattle.order_law.specs.Asks.{Ask, New, Change, Stop, LifeTime, Limits, Standing, ask_of_enter, ask_of_replace}
use Rattle.order_law.specs.Asks.{asked_by_request, life_time_of_seconds, limits_of, side_of_letter, total_of}
use Rattle.order_law.specs.Verdicts.{is_replace}
use Rattle.order_law.specs.ouch_codec.declared.outbound.Outbound.{Outbound}
use Rattle.order_law.specs.Chain.{chain}
use Rattle.order_law.specs.Life.{live}
use Rattle.order_law.specs.History.{Asked, Entry, OrderHistory, Said, SaysCancel, SaysNew, SaysReplace, Terms, accepted}
use Rattle.order_law.specs.History.{asks, asks_of, entry_at, handled, is_new_order, issued, life_of, pending_tokens}
use Rattle.order_law.specs.History.{terms_of, token_of}
use Rattle.order_law.specs.Lawful.{order_of_token}
use Rattle.order_law.specs.Headline.{Each}
use Rattle.market_law.specs.declared.choice.Choice.{Choice}
use Rattle.market_law.specs.Run.{Move, Comes, Acts, ran}
use Rattle.market_law.specs.Moves.{IsSmall, IsWithin}
use Rattle.market_law.proofs.Basics.{each-all}
use Rattle.market_law.proofs.Bounds.{ran-within}
use Rattle.order_machine.specs.Runs.{TurnsLeave}
use Rattle.order_machine.specs.Table.{TableState}
use Rattle.order_machine.proofs.Texts.{eq-same}
use Rattle.order_machine.proofs.Lists.{Each-map}
use Rattle.order_machine.proofs.OnPorts.{each-append}
use Rattle.world_law.specs.Asked.{AlwaysOfOrders, CameAsked, TokensLead, WasAsked, asked, leads, sender}
use Rattle.world_law.specs.Totals.{StaysWithin, greatest_total, has_total}
use Rattle.world_law.proofs.Members.{each-in}
use Rattle.world_law.proofs.Known.{number-of, or-right}
use Rattle.world_law.proofs.Turns.{of-order}
use Rattle.world_law.proofs.Terms.{enter-said, replace-said}
use Rattle.world_law.proofs.Homes.{always-of-orders}
use Rattle.world_law.proofs.NoFault.{known-moves}

-- ---- what is asked in all

abbrev pub limits_in : Option Ask → Option Limits
limits_in None = None
limits_in (Some (New side symbol limits capacity)) = Some limits
limits_in (Some (Change order limits)) = Some limits
limits_in (Some (Stop order)) = None

-- a new order or a replace that is asked for is for at most so many shares in all
abbrev pub AsksAtMost : ℕ → Said → Option Ask → Type 0
AsksAtMost most (SaysNew token) asks = (limits : Limits) × (limits_in asks ≡ Some limits) × (limits.total ≤ most)
AsksAtMost most (SaysReplace from to) asks = (limits : Limits) × (limits_in asks ≡ Some limits) × (limits.total ≤ most)
AsksAtMost most (SaysCancel token) asks = Unit {0}

abbrev pub IsAtMost : List Entry → Asked → Type 0
IsAtMost entries a = AsksAtMost (greatest_total a.order entries) a.said a.ask

-- one more that is accepted makes it no less
total-grows : (order : List ℕ) (e : Entry) (entries : List Entry)
    → greatest_total order entries ≤ greatest_total order (e ∷ entries)
total-grows order e entries = by_test (bytes_eq e.order order && has_total e.message)
  where
    by_test : (b : Bool) → greatest_total order entries ≤
        (if b then max (total_of e.message) (greatest_total order entries) else greatest_total order entries)
    by_test true = le-max_right (total_of e.message) (greatest_total order entries)
    by_test false = omega arith

total-own : (e : Entry) (entries : List Entry) → has_total e.message ≡ true
    → total_of e.message ≤ greatest_total e.order (e ∷ entries)
total-own e entries has = let same = eq-same e.order in
    rw (same, has) (le-max_left (total_of e.message) (greatest_total e.order entries))

more-asked : (most more : ℕ) (s : Said) (asks : Option Ask) → most ≤ more → AsksAtMost most s asks
    → AsksAtMost more s asks
more-asked most more (SaysNew token) asks le (limits, is, within) = (limits, is, omega (arith, le, within))
more-asked most more (SaysReplace from to) asks le (limits, is, within) = (limits, is, omega (arith, le, within))
more-asked most more (SaysCancel token) asks le k = tt

-- ---- what an accepted message asks

pub each-if : {X : Type 0} (P : X → Type 0) (b : Bool) (xs ys : List X) → (b ≡ true → Each P xs)
    → (b ≡ false → Each P ys) → Each P (if b then xs else ys)
each-if P true xs ys f g = f refl
each-if P false xs ys f g = g refl

pub each-made : {X Y : Type 0} (P : Y → Type 0) (f : X → Y) (xs : List X) → ((x : X) → P (f x)) → Each P (map f xs)
each-made P f [] all = tt
each-made P f (x ∷ xs) all = (all x, each-made P f xs all)

module _ (terms : List Terms) (entries : List Entry) (sent : List Message) (messages : List Outbound) where
  entry-at-most : (e : Entry) → Each (IsAtMost (e ∷ entries)) (asks terms e entries sent messages)
  entry-at-most e =
      each-if (IsAtMost (e ∷ entries)) (is_new_order e.message) _ _
      (λ new. ((limits_of e.message, refl, total-own e entries (rw new refl)), tt))
      (λ other.
      each-if (IsAtMost (e ∷ entries)) (is_replace e.message) _ _
      (λ replaces. (
        (
          limits_of e.message,
          rw replaces refl,
          total-own e entries
              (or-right (is_new_order e.message) (is_replace e.message) replaces),
        ),
        tt,
      ))
      (λ cancels.
      each-made (IsAtMost (e ∷ entries))
      (λ (token : List ℕ). record {
        order = e.order;
        id = text 11 e.message;
        said = SaysCancel token;
        ask =
            asked_by_request (digits_value 10 e.order) e.message;
      })
      (live (life_of e.order entries messages) ∷ pending_tokens e.client (chain e.order sent) entries)
      (λ token. tt)))

  asks-at-most : (port : ℕ) (x : Option Entry)
      → Each (IsAtMost (option_to_list x ++ entries)) (asks_of terms port x entries sent messages)
  asks-at-most port None = tt
  asks-at-most port (Some e) = each-if (IsAtMost (e ∷ entries)) ((terms_of terms e.client).port == port) _ _
      (λ here. entry-at-most e) (λ elsewhere. tt)

still-at-most : (x : Option Entry) (entries : List Entry) (a : Asked) → IsAtMost entries a
    → IsAtMost (option_to_list x ++ entries) a
still-at-most None entries a k = k
still-at-most (Some e) entries a k = more-asked (greatest_total a.order entries)
    (greatest_total a.order (e ∷ entries)) a.said a.ask (total-grows a.order e entries) k

-- all that was ever asked of a port
asked-at-most : (terms : List Terms) (port : ℕ) (h : OrderHistory)
    → Each (IsAtMost (accepted terms h)) (asked terms port h)
asked-at-most terms port [] = tt
asked-at-most terms port (t ∷ before) =
    each-append (IsAtMost (accepted terms (t ∷ before))) (asked terms port before) _
    (Each-map (IsAtMost (accepted terms before)) (IsAtMost (accepted terms (t ∷ before))) (asked terms port before)
    (still-at-most (entry_at terms t.event before) (accepted terms before)) (asked-at-most terms port before))
    (asks-at-most terms (accepted terms before) (issued (sender t.event) before) (handled port before) port
    (entry_at terms t.event before))

-- ---- what a message to the market asks, by its fields

pub enter-limits : (standing : Standing) (m : List ℕ) (limits : Limits)
    → limits_in (ask_of_enter standing m) ≡ Some limits
    → (said.enter_shares m ≡ limits.total) × (said.enter_minimum m ≡ limits.minimum)
enter-limits standing m limits e = by_side (side_of_letter (said.enter_side m))
    (life_time_of_seconds (said.enter_time_in_force m)) refl refl
  where
    stands : Bool
    stands =
        bytes_eq (said.enter_firm m) standing.firm
        && (said.enter_customer m == standing.customer
        && (said.enter_sweep m == slice_index (codes "N") 0 && said.enter_cross m == slice_index (codes "N") 0))

    none : ◌≡◌ {A = Option Limits} None (Some limits)
        → (said.enter_shares m ≡ limits.total) × (said.enter_minimum m ≡ limits.minimum)
    none x = absurd (cc)

    by_standing : (s : ℕ) (l : LifeTime) (b : Bool) → side_of_letter (said.enter_side m) ≡ Some s
        → life_time_of_seconds (said.enter_time_in_force m) ≡ Some l → stands ≡ b
        → (said.enter_shares m ≡ limits.total) × (said.enter_minimum m ≡ limits.minimum)
    by_standing s l true is_s is_l is_b =
        let x : Some (record {
          total = said.enter_shares m;
          limit = said.enter_price m;
          life_time = l;
          minimum =
              said.enter_minimum m;
          display = said.enter_display m;
        }) ≡ Some limits = rw (is_s, is_l, is_b) at e in
        let same : record {
          total = said.enter_shares m;
          limit = said.enter_price m;
          life_time = l;
          minimum =
              said.enter_minimum m;
          display = said.enter_display m;
        } ≡ limits = cc in
        (ap (λ (y : Limits). y.total) same, ap (λ (y : Limits). y.minimum) same)
    by_standing s l false is_s is_l is_b = none (rw (is_s, is_l, is_b) at e)

    by_side : (s : Option ℕ) (l : Option LifeTime) → side_of_letter (said.enter_side m) ≡ s
        → life_time_of_seconds (said.enter_time_in_force m) ≡ l
        → (said.enter_shares m ≡ limits.total) × (said.enter_minimum m ≡ limits.minimum)
    by_side None l is_s is_l = none (rw is_s at e)
    by_side (Some s) None is_s is_l = none (rw (is_s, is_l) at e)
    by_side (Some s) (Some l) is_s is_l = by_standing s l stands is_s is_l refl

replace-limits : (order_of : List ℕ → Option ℕ) (m : List ℕ) (limits : Limits)
    → limits_in (ask_of_replace order_of m) ≡ Some limits → said.replace_shares m ≡ limits.total
replace-limits order_of m limits e = by_order (order_of (said.token m))
    (life_time_of_seconds (said.replace_time_in_force m)) refl refl
  where
    none : ◌≡◌ {A = Option Limits} None (Some limits) → said.replace_shares m ≡ limits.total
    none x = absurd (cc)

    by_sweep : (k : ℕ) (l : LifeTime) (b : Bool) → order_of (said.token m) ≡ Some k → life_time_of_seconds (said.replace_time_in_force m) ≡ Some l → (said.replace_sweep m == slice_index (codes "N") 0) ≡ b → said.replace_shares m ≡ limits.total
    by_sweep k l true is_k is_l is_b =
        let x : Some (record {
          total = said.replace_shares m;
          limit = said.replace_price m;
          life_time = l;
          minimum =
              said.replace_minimum m;
          display = said.replace_display m;
        }) ≡ Some limits = rw (is_k, is_l, is_b) at e in
        let same : record {
          total = said.replace_shares m;
          limit = said.replace_price m;
          life_time = l;
          minimum =
              said.replace_minimum m;
          display = said.replace_display m;
        } ≡ limits = cc in
        ap (λ (y : Limits). y.total) same
    by_sweep k l false is_k is_l is_b = none (rw (is_k, is_l, is_b) at e)

    by_order : (k : Option ℕ) (l : Option LifeTime) → order_of (said.token m) ≡ k
        → life_time_of_seconds (said.replace_time_in_force m) ≡ l → said.replace_shares m ≡ limits.total
    by_order None l is_k is_l = none (rw is_k at e)
    by_order (Some k) None is_k is_l = none (rw (is_k, is_l) at e)
    by_order (Some k) (Some l) is_k is_l = by_sweep k l (said.replace_sweep m == slice_index (codes "N") 0) is_k is_l refl

and-false : (b : Bool) → (b && false) ≡ false
and-false true = refl
and-false false = refl

-- bytes that begin with another type are no Enter Order
no-enter : (bytes : List ℕ) → (slice_index bytes 0 == 79) ≡ false → is_message enter_order_layout bytes ≡ false
no-enter [] differ = refl
no-enter (b ∷ bytes) differ = rw differ (and-false (nat_le 1 (length (b ∷ bytes))))

-- ---- a run of the market

module _ (terms : List Terms) (port : ℕ) (h : OrderHistory) (always : AlwaysOfOrders terms port h) where
  abbrev A : List Entry
  A = accepted terms h

  most-of : Option Entry → ℕ
  most-of None = 0
  most-of (Some new) = greatest_total new.order A

  abbrev limit : List ℕ → ℕ
  limit token = most-of (order_of_token terms port A token)

  -- of the order that a token leads to
  within-order : (token : List ℕ) (new : Entry) (n : ℕ) → order_of_token terms port A token ≡ Some new
      → n ≤ greatest_total new.order A → n ≤ limit token
  unfolding most-of
  within-order token new n is le = rw is le

  small-message : (message : Inbound) (choice : Choice) → WasAsked terms port h message
      → IsSmall (leads terms port A) limit (Comes message choice)
  small-message (ask.Enter order) choice w =
      let is = enter-said w.asks.said order w.says.tokens in
      let o = of-order terms port w.asks h always w.there in
      let lead = subst (TokensLead terms port A o.new) is o.tokens in
      let most : AsksAtMost (greatest_total w.asks.order A) (SaysNew order.token) w.asks.ask =
      subst (λ (s : Said). AsksAtMost (greatest_total w.asks.order A) s w.asks.ask) is
      (each-in (IsAtMost A) w.asks (asked terms port h) (asked-at-most terms port h) w.there) in
      let written = SaysEnterOrder-written order in
      let own : limits_in (ask_of_enter w.standing (inbound_bytes (ask.Enter order))) ≡ Some most.0 =
      rw written.is_one at (ap limits_in w.says.ask ∙ most.1) in
      let shares : order.shares ≡ most.0.total = sym written.shares
      ∙ (enter-limits w.standing (inbound_bytes (ask.Enter order)) most.0 own).0 in
      let number : o.new.order ≡ w.asks.order = number-of w.asks.order A o.new o.found in
      within-order order.token o.new order.shares lead.0.mine
      (subst (λ (n : ℕ). n ≤ greatest_total o.new.order A) (sym shares)
      (subst (λ (k : List ℕ). most.0.total ≤ greatest_total k A) (sym number) most.2))
  small-message (ask.Replace request) choice w =
      let is = replace-said w.asks.said request w.says.tokens in
      let o = of-order terms port w.asks h always w.there in
      let lead = subst (TokensLead terms port A o.new) is o.tokens in
      let most : AsksAtMost (greatest_total w.asks.order A)
      (SaysReplace request.token request.replacement_token) w.asks.ask =
      subst (λ (s : Said). AsksAtMost (greatest_total w.asks.order A) s w.asks.ask) is
      (each-in (IsAtMost A) w.asks (asked terms port h) (asked-at-most terms port h) w.there) in
      let written = SaysReplace-written request in
      let other : is_message enter_order_layout (inbound_bytes (ask.Replace request)) ≡ false =
      no-enter (inbound_bytes (ask.Replace request)) (ap (λ (b : ℕ). b == 79) written.type) in
      let own : limits_in (ask_of_replace w.order_of (inbound_bytes (ask.Replace request))) ≡ Some most.0 =
      rw (other, written.is_one) at (ap limits_in w.says.ask ∙ most.1) in
      let shares : request.shares ≡ most.0.total = sym written.shares
      ∙ replace-limits w.order_of (inbound_bytes (ask.Replace request)) most.0 own in
      let number : o.new.order ≡ w.asks.order = number-of w.asks.order A o.new o.found in
      λ root leads_root.
      let first : token_of o.new ≡ root = (let g : Some (token_of o.new) ≡ Some root =
      ap (option_map token_of) (sym lead.0.mine) ∙ leads_root in cc) in
      subst (λ (t : List ℕ). request.shares ≤ limit t) first
      (within-order (token_of o.new) o.new request.shares o.first.mine
      (subst (λ (n : ℕ). n ≤ greatest_total o.new.order A) (sym shares)
      (subst (λ (k : List ℕ). most.0.total ≤ greatest_total k A) (sym number) most.2)))
  small-message (ask.Cancel request) choice w = tt

  small-move : (v : Move) → CameAsked terms port h v → IsSmall (leads terms port A) limit v
  small-move (Comes message choice) w = small-message message choice w
  small-move (Acts choice) w = tt

  within-book : (moves : List Move) → Each (CameAsked terms port h) moves
      → Each (StaysWithin terms port A) (ran moves).machine.book
  unfolding most-of
  within-book moves came =
      each-all (IsWithin limit) (StaysWithin terms port A) (ran moves).machine.book (λ c within new is. rw is at within)
      (ran-within (leads terms port A) (WasAsked terms port h) limit moves (known-moves terms port h always moves came)
      (each-all (CameAsked terms port h) (IsSmall (leads terms port A) limit) moves small-move came))

pub stays-within : (terms : List Terms) (port : ℕ) (h : OrderHistory) (s : TableState) (moves : List Move)
    → length h < 2 ^ 59 → TurnsLeave terms h s → Each (CameAsked terms port h) moves
    → Each (StaysWithin terms port (accepted terms h)) (ran moves).machine.book
stays-within terms port h s moves short leaves came =
    within-book terms port h (always-of-orders terms h s short leaves port) moves came
