-- After each turn the list of what is asked and not answered has, on each port, what the law reads from all turns.
use Rattle.std.proofs.Common.{◌≡◌, ◌≢◌, ℕ, ◌-◌, ◌*◌, Bool, true, false, List, [], ◌∷◌, length, refl, sym, ap, ◌∙◌}
use Rattle.std.proofs.Common.{subst, bytes_eq, Option, Some, None, Result, Ok, Err, eq-eqb, eqb-true, ne_eqb}
use Rattle.std.specs.Prelude.{◌==◌, ◌&&◌, ◌||◌, not, if◌then◌else◌, filter, option_and_then, option_map}
use Rattle.std.specs.List.{find}
use Rattle.order_law.specs.ouch_codec.declared.outbound.Outbound.{Outbound}
use Rattle.order_law.specs.ouch_codec.declared.outbound.Outbound.TheVariants as market
use Rattle.order_law.specs.ouch_codec.declared.refusal.DecodeRefusal.{DecodeRefusal}
use Rattle.order_law.specs.ouch_codec.declared.outbound.replaced.Replaced.{Replaced}
use Rattle.fix_fields.specs.Field.{Message}
use Rattle.order_law.specs.Life.{Life, is_closed, is_dead}
use Rattle.order_law.specs.History.{Asked, Entry, OrderHistory, Terms, OrderTurn, accepted, answers, handled, issued}
use Rattle.order_law.specs.History.{life_of, new_of, next_tokens, orders_numbered, outstanding}
use Rattle.order_law.specs.History.{is_answered as is_law_answered}
use Rattle.order_law.specs.Told.{reports_in}
use Rattle.order_law.specs.Lawful.{order_token}
use Rattle.order_law.specs.Headline.{Each}
use Rattle.order_machine.specs.OrderRecord.{OrderRecord, ToldTrade, after_broken, after_message, after_replaced}
use Rattle.order_machine.specs.OrderRecord.{record_life, replacements, stands_told}
use Rattle.order_machine.specs.Table.{TableState, by_number, record_by_token, has_number, put}
use Rattle.order_machine.specs.Machine.{GivenByEvent, payload_fault, faulty, heard_on, market_step, silent}
use Rattle.order_machine.specs.Outstanding.{OnPort, is_answered, is_on, on_port, still_asked, still_asked_on}
use Rattle.order_machine.specs.Outstanding.{unanswered_by}
use Rattle.order_machine.proofs.Texts.{eq-is, eq-true, eq-turned}
use Rattle.order_machine.proofs.Lists.{Each-filter, found-passes}
use Rattle.order_machine.proofs.Leads.{same_some}
use Rattle.order_machine.proofs.Moves.{filter-all}
use Rattle.order_machine.proofs.Fits.{life-of, next-own, own}
use Rattle.order_machine.proofs.Holds.{FitsIn, port_of}
use Rattle.order_machine.proofs.Hearing.{append-nothing, heard_turn}
use Rattle.order_machine.proofs.Finding.{Each-found}
use Rattle.order_machine.proofs.Placed.{number-put_other, number-put_own}
use Rattle.order_machine.proofs.Linked.{IsTable, number-leads, token-fits, token-port}
use Rattle.order_machine.proofs.OnPorts.{each-all, each-both, filter-each, kept-members, on-filter}

-- its order was accepted, of a client on this port
pub record IsPlaced (terms : List Terms) (entries : List Entry) (port : ℕ) (a : Asked) : Type 0 where
  pub new : Entry
  pub known : new_of a.order entries ≡ Some new
  pub at_home : port_of terms new ≡ port

abbrev pub ArePlaced : List Terms → OrderHistory → Type 0
ArePlaced terms h = (p : ℕ) → Each (IsPlaced terms (accepted terms h) p) (outstanding terms p h)

-- what a history and the list that it leaves keep
pub record Asking (terms : List Terms) (h : OrderHistory) (asked : List OnPort) : Type 0 where
  pub placed : ArePlaced terms h
  pub same : (p : ℕ) → on_port p asked ≡ outstanding terms p h

-- ---- the order of what is asked

record IsRecorded (terms : List Terms) (h : OrderHistory) (s : TableState) (port : ℕ) (a : Asked) : Type 0 where
  order : OrderRecord
  found : by_number s a.order ≡ Some order
  fits : FitsIn terms h order
  at_home : port_of terms order.new ≡ port
  named : order.new.order ≡ a.order

recorded : (terms : List Terms) (h : OrderHistory) (s : TableState) → IsTable terms h s → (port : ℕ) (a : Asked)
    → IsPlaced terms (accepted terms h) port a → IsRecorded terms h s port a
recorded terms h s t port a k = by_order (by_number s a.order) refl (number-leads terms h s t a.order ∙ k.known)
  where
    by_order : (x : Option OrderRecord) → by_number s a.order ≡ x
        → option_map (λ (o : OrderRecord). o.new) x ≡ Some k.new → IsRecorded terms h s port a
    by_order None e is = absurd (cc)
    by_order (Some o) e is = record {
      order = o;
      found = e;
      fits = Each-found (FitsIn terms h) (has_number a.order) s.orders o t.fit e;
      at_home = ap (port_of terms) (same_some o.new k.new is) ∙ k.at_home;
      named = eq-is o.new.order a.order (found-passes (has_number a.order) s.orders o e);
    }

-- the replaces that are asked for the order of a token are its pending ones
pub next-pending : (terms : List Terms) (before : OrderHistory) (s : TableState) (t : IsTable terms before s) (port : ℕ)
    (m : Outbound) (token : List ℕ) (o : OrderRecord) → record_by_token s port token ≡ Some o
    → next_tokens o.new.order (outstanding terms port before) ≡ replacements o.replaces
next-pending terms before s t port m token o on =
    let fits : FitsIn terms before o = token-fits terms before s t port m token o on in
    ap (λ (p : ℕ). next_tokens o.new.order (outstanding terms p before))
    (sym (token-port terms before s t port m token o on))
    ∙ next-own terms o (outstanding terms (port_of terms o.new) before) fits.asked_so

-- a message changes nothing of the new order
if-new : (b : Bool) (x y : OrderRecord) (e : Entry) → x.new ≡ e → y.new ≡ e → (if b then x else y).new ≡ e
if-new true x y e same same' = same
if-new false x y e same same' = same'

replaced-new : (m : Replaced) (o : OrderRecord) (rs : List Entry) → (after_replaced m o rs).new ≡ o.new
replaced-new m o [] = refl
replaced-new m o (q ∷ qs) = if-new (is_dead m.order_state) _ _ o.new refl refl

broken-new : (o : OrderRecord) (x : Option ToldTrade) → (after_broken o x).new ≡ o.new
broken-new o None = refl
broken-new o (Some t) = refl

pub after_message-new : (n : ℕ) (m : Outbound) (o : OrderRecord) → (after_message n m o).new ≡ o.new
after_message-new n (market.Accepted m) o = if-new (is_dead m.order_state) _ _ o.new refl refl
after_message-new n (market.Replaced m) o = replaced-new m o o.replaces
after_message-new n (market.Canceled m) o = if-new (o.unfilled - m.decrement == 0) _ _ o.new refl refl
after_message-new n (market.Executed m) o = if-new (o.unfilled - m.shares == 0) _ _ o.new refl refl
after_message-new n (market.Broken m) o = broken-new o (find (stands_told m.match_number) o.trades)
after_message-new n (market.Rejected m) o = if-new _ _ _ o.new refl refl
after_message-new n (market.CancelReject m) o = refl
after_message-new n (market.CancelPending m) o = refl
after_message-new n (market.SystemEvent m) o = refl
after_message-new n market.Skipped o = refl

-- ---- a payload that is no fault

module _ (terms : List Terms) (before : OrderHistory) (s : TableState) (t : IsTable terms before s) (port : ℕ) (m : Outbound) (client : ℕ) (bodies : List Message) (sends : List (List ℕ)) where
  abbrev A : List Entry
  A = accepted terms before

  abbrev turn : OrderTurn
  turn = heard_turn port (Ok m) client bodies sends None

  -- the law's test of what a port was asked
  abbrev still : ℕ → Asked → Bool
  still p a = not (is_law_answered m (outstanding terms p before) a
      || is_closed (life_of a.order A (handled p (turn ∷ before))).stage)

  -- an order of a port that stays as it is
  abbrev Stays : ℕ → Type 0
  Stays p = (x : OrderRecord) × FitsIn terms before x × FitsIn terms (turn ∷ before) x × (port_of terms x.new ≡ p)

  abbrev IsKept : ℕ → Asked → Type 0
  IsKept p a = (k : Stays p) → bytes_eq a.order k.0.new.order ≡ true → still p a ≡ true

  own-same : (x : OrderRecord) → FitsIn terms before x → FitsIn terms (turn ∷ before) x
      → own x.new.order (filter (still (port_of terms x.new)) (outstanding terms (port_of terms x.new) before))
      ≡ own x.new.order (outstanding terms (port_of terms x.new) before)
  own-same x f g = ap (own x.new.order) (sym
      (append-nothing (filter (still (port_of terms x.new)) (outstanding terms (port_of terms x.new) before))))
      ∙ g.asked_so ∙ sym f.asked_so

  -- all that is asked of it stays
  kept : (p : ℕ) → Each (IsKept p) (outstanding terms p before)
  kept p = each-all (λ (k : Stays p) (a : Asked). bytes_eq a.order k.0.new.order ≡ true → still p a ≡ true)
      (outstanding terms p before)
      (λ k. kept-members k.0.new.order (still p) (outstanding terms p before)
      (subst (λ (r : ℕ). own k.0.new.order (filter (still r) (outstanding terms r before))
      ≡ own k.0.new.order (outstanding terms r before)) k.3 (own-same k.0 k.1 k.2)))

  abbrev IsMember : ℕ → Asked → Type 0
  IsMember p a = IsPlaced terms A p a × IsKept p a

  module _ (placed : ArePlaced terms before) where
    members : (p : ℕ) → Each (IsMember p) (outstanding terms p before)
    members p = each-both (IsPlaced terms A p) (IsKept p) (outstanding terms p before) (placed p) (kept p)

    -- what stays has its order still
    placed-then : ArePlaced terms (turn ∷ before)
    placed-then p = subst (Each (IsPlaced terms A p))
        (sym (append-nothing (filter (still p) (outstanding terms p before))))
        (Each-filter (IsPlaced terms A p) (still p) (outstanding terms p before) (placed p))

    -- where each order stays as it is
    pub all-stay : IsTable terms (turn ∷ before) s → (p : ℕ)
        → outstanding terms p (turn ∷ before) ≡ outstanding terms p before
    all-stay after p =
        append-nothing (filter (still p) (outstanding terms p before))
        ∙ filter-each (IsMember p) (still p) (λ (a : Asked). true) (outstanding terms p before) stays (members p)
        ∙ filter-all (outstanding terms p before)
      where
        stays : (a : Asked) → IsMember p a → still p a ≡ true
        stays a k =
            let r = recorded terms before s t p a k.0 in
            k.1 (
              r.order,
              r.fits,
              Each-found (FitsIn terms (turn ∷ before))
                  (has_number a.order) s.orders r.order after.fit r.found,
              r.at_home,
            )
            (eq-true a.order r.order.new.order (sym r.named))

    -- where one order of the port is this one then, with replaces pending before that ask for these tokens
    module _ (q : OrderRecord) (next : List (List ℕ)) (next-so : next_tokens q.new.order (outstanding terms port before) ≡ next) (at_port : port_of terms q.new ≡ port) (fit : Each (FitsIn terms (turn ∷ before)) (put q s.orders)) where
      -- the machine's test
      abbrev keeps : Asked → Bool
      keeps a = not (bytes_eq a.order q.new.order && (answers m next a.said || is_closed q.stage))

      other-stays : (p : ℕ) (a : Asked) → IsMember p a → bytes_eq q.new.order a.order ≡ false → still p a ≡ true
      other-stays p a k apart =
          let r = recorded terms before s t p a k.0 in
          k.1 (
            r.order,
            r.fits,
            Each-found (FitsIn terms (turn ∷ before)) (has_number a.order)
                (put q s.orders) r.order fit (number-put_other q a.order apart s.orders ∙ r.found),
            r.at_home,
          )
          (eq-true a.order r.order.new.order (sym r.named))

      own-fits : (p : ℕ) (a : Asked) → IsMember p a → q.new.order ≡ a.order → FitsIn terms (turn ∷ before) q
      own-fits p a k mine =
          let r = recorded terms before s t p a k.0 in
          Each-found (FitsIn terms (turn ∷ before)) (has_number q.new.order) (put q s.orders) q fit
          (number-put_own q s.orders r.order (subst (λ (i : List ℕ). find (has_number i) s.orders ≡ Some r.order)
          (sym mine) r.found))

      own-home : (p : ℕ) (a : Asked) → IsMember p a → q.new.order ≡ a.order → port ≡ p
      own-home p a k mine =
          let f = own-fits p a k mine in
          sym at_port ∙ ap (port_of terms) (same_some q.new k.0.new
          (sym f.known ∙ ap (λ (i : List ℕ). new_of i A) mine ∙ k.0.known)) ∙ k.0.at_home

      own-life : (a : Asked) → IsMember port a → q.new.order ≡ a.order
          → is_closed (life_of a.order A (handled port (turn ∷ before))).stage ≡ is_closed q.stage
      own-life a k mine =
          let f = own-fits port a k mine in
          ap (λ (l : Life). is_closed l.stage)
          (subst (λ (i : List ℕ). life_of i A (handled port (turn ∷ before)) ≡ record_life q) mine
          (subst (λ (r : ℕ). life_of q.new.order A (handled r (turn ∷ before)) ≡ record_life q) at_port
          (life-of terms A (orders_numbered (turn ∷ before)) (issued q.new.client (turn ∷ before))
          (handled (port_of terms q.new) (turn ∷ before)) (outstanding terms (port_of terms q.new) (turn ∷ before))
          (reports_in (turn ∷ before)) (1_000_000 * length (turn ∷ before)) q f)))

      -- on its port both tests are one
      same-here : (a : Asked) → IsMember port a → still port a ≡ keeps a
      same-here a k = by_order (bytes_eq q.new.order a.order) refl
        where
          by_order : (b : Bool) → bytes_eq q.new.order a.order ≡ b → still port a ≡ keeps a
          by_order true mine =
              let same = eq-is q.new.order a.order mine in
              let here : bytes_eq a.order q.new.order ≡ true = eq-true a.order q.new.order (sym same) in
              ap (λ (ts : List (List ℕ)). not (answers m ts a.said
              || is_closed (life_of a.order A (handled port (turn ∷ before))).stage))
              (ap (λ (i : List ℕ). next_tokens i (outstanding terms port before)) (sym same) ∙ next-so)
              ∙ ap (λ (c : Bool). not (answers m next a.said || c)) (own-life a k same)
              ∙ sym (ap (λ (b : Bool). not (b && (answers m next a.said || is_closed q.stage))) here)
          by_order false other =
              other-stays port a k other ∙ sym (ap (λ (b : Bool). not
              (b && (answers m next a.said || is_closed q.stage))) (eq-turned q.new.order a.order other))

      -- and all that another one is asked stays
      same-elsewhere : (p : ℕ) → port ≢ p → (a : Asked) → IsMember p a → still p a ≡ true
      same-elsewhere p apart a k = by_order (bytes_eq q.new.order a.order) refl
        where
          by_order : (b : Bool) → bytes_eq q.new.order a.order ≡ b → still p a ≡ true
          by_order true mine = absurd (apart (own-home p a k (eq-is q.new.order a.order mine)))
          by_order false other = other-stays p a k other

      module _ (asked : List OnPort) (same : (p : ℕ) → on_port p asked ≡ outstanding terms p before) where
        abbrev HasRest : ℕ → Type 0
        HasRest p = on_port p (unanswered_by port m next q asked) ≡ outstanding terms p (turn ∷ before)

        rest-here : HasRest port
        rest-here =
            on-filter port (λ (x : OnPort). not (is_answered port m next q x)) keeps (λ x here. rw here refl) asked
            ∙ ap (filter keeps) (same port)
            ∙ sym (filter-each (IsMember port) (still port) keeps (outstanding terms port before) same-here
            (members port))
            ∙ sym (append-nothing (filter (still port) (outstanding terms port before)))

        rest-elsewhere : (p : ℕ) → port ≢ p → HasRest p
        rest-elsewhere p apart =
            on-filter p (λ (x : OnPort). not (is_answered port m next q x)) (λ (a : Asked). true) passes asked
            ∙ ap (filter (λ (a : Asked). true)) (same p)
            ∙ sym (filter-each (IsMember p) (still p) (λ (a : Asked). true) (outstanding terms p before)
            (same-elsewhere p apart) (members p))
            ∙ sym (append-nothing (filter (still p) (outstanding terms p before)))
          where
            passes : (x : OnPort) → is_on p x ≡ true → not (is_answered port m next q x) ≡ true
            passes x here = let off = ne_eqb x.port port (λ e. apart (sym e ∙ eqb-true x.port p here)) in rw off refl

        pub rest : (p : ℕ) → HasRest p
        rest p = by_port (port == p) refl
          where
            by_port : (b : Bool) → (port == p) ≡ b → HasRest p
            by_port true here = subst HasRest (eqb-true port p here) rest-here
            by_port false away = rest-elsewhere p (λ e.
                (let on : (port == p) ≡ true = eq-eqb port p e in let x : true ≡ false = sym on ∙ away in cc))

-- ---- a payload

module _ (terms : List Terms) (before : OrderHistory) (s : TableState) (port : ℕ) (heard : Result Outbound DecodeRefusal) (sends : List (List ℕ)) where
  abbrev turn_of : GivenByEvent → OrderTurn
  turn_of g = heard_turn port heard g.client g.bodies sends g.fault

  -- where the table that is given is that of the lists, the list is theirs too
  abbrev pub LeavesRest : GivenByEvent → List OnPort → Type 0
  LeavesRest g rest = IsTable terms (turn_of g ∷ before) g.state → Asking terms (turn_of g ∷ before) rest

module _ (terms : List Terms) (before : OrderHistory) (s : TableState) (t : IsTable terms before s) (port : ℕ) (sends : List (List ℕ)) (asked : List OnPort) (was : Asking terms before asked) where
  silent-rest : (m : Outbound) → LeavesRest terms before s port (Ok m) sends (silent s) asked
  silent-rest m after = record {
    placed = placed-then terms before s t port m 0 [] sends was.placed;
    same = λ p. was.same p ∙ sym (all-stay terms before s t port m 0 [] sends was.placed after p);
  }

  same-asked : (heard : Result Outbound DecodeRefusal) (n p : ℕ)
      → outstanding terms p (heard_turn port heard 0 [] sends (Some n) ∷ before) ≡ outstanding terms p before
  same-asked (Ok m) n p = append-nothing (outstanding terms p before)
  same-asked (Err refusal) n p = append-nothing (outstanding terms p before)

  faulty-rest : (heard : Result Outbound DecodeRefusal) (n : ℕ)
      → LeavesRest terms before s port heard sends (faulty s n) asked
  faulty-rest heard n after = record {
    placed = λ p. subst (Each (IsPlaced terms (accepted terms before) p)) (sym (same-asked heard n p)) (was.placed p);
    same = λ p. was.same p ∙ sym (same-asked heard n p);
  }

  next-then : (m : Outbound) (token : List ℕ) (o : OrderRecord) → record_by_token s port token ≡ Some o
      → next_tokens (after_message s.exec_ids m o).new.order (outstanding terms port before) ≡ replacements o.replaces
  next-then m token o on =
      ap (λ (e : Entry). next_tokens e.order (outstanding terms port before)) (after_message-new s.exec_ids m o)
      ∙ next-pending terms before s t port m token o on

  heard-rest : (m : Outbound) (token : List ℕ) (x : Option OrderRecord) → record_by_token s port token ≡ x
      → LeavesRest terms before s port (Ok m) sends (heard_on s m x) (still_asked_on s port m x asked)
  heard-rest m token None on = silent-rest m
  heard-rest m token (Some o) on = λ after. record {
    placed = placed-then terms before s t port m (heard_on s m (Some o)).client
        (heard_on s m (Some o)).bodies sends was.placed;
    same = rest terms before s t port m (heard_on s m (Some o)).client (heard_on s m (Some o)).bodies sends was.placed
        (after_message s.exec_ids m o) (replacements o.replaces) (next-then m token o on)
        (ap (port_of terms) (after_message-new s.exec_ids m o) ∙ token-port terms before s t port m token o on)
        after.fit asked was.same;
  }

  handled-rest : (m : Outbound) (x : Option (List ℕ))
      → LeavesRest terms before s port (Ok m) sends (heard_on s m (option_and_then (record_by_token s port) x))
      (still_asked_on s port m (option_and_then (record_by_token s port) x) asked)
  handled-rest m None = silent-rest m
  handled-rest m (Some token) = heard-rest m token (record_by_token s port token) refl

  by_fault-rest : (heard : Result Outbound DecodeRefusal) (x : Option ℕ) → payload_fault s port heard ≡ x
      → LeavesRest terms before s port heard sends (Rattle.order_machine.specs.Machine.given_by_fault s port heard x)
      (still_asked s port heard x asked)
  by_fault-rest (Ok m) None e = handled-rest m (order_token m)
  by_fault-rest (Ok m) (Some n) e = faulty-rest (Ok m) n
  by_fault-rest (Err refusal) None e = absurd (cc)
  by_fault-rest (Err refusal) (Some n) e = faulty-rest (Err refusal) n

  pub market-rest : (heard : Result Outbound DecodeRefusal)
      → LeavesRest terms before s port heard sends (market_step s port heard)
      (still_asked s port heard (payload_fault s port heard) asked)
  market-rest heard = by_fault-rest heard (payload_fault s port heard) refl
