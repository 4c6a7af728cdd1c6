-- What comes to a market's machine, with what it asks: the Cancel Orders of one request find at most one token live.
use Rattle.std.proofs.Common.{◌≡◌, ◌<◌, ◌^◌, ◌==◌, ℕ, Bool, true, false, List, [], ◌∷◌, length, map, refl, sym, ap, ◌∙◌}
use Rattle.std.proofs.Common.{subst, bytes_eq, Option, Some, None, is_some, ◌⊎◌, inl, inr, ⊎_elim, nat_lt}
use Rattle.std.proofs.lemmas.Bool.{cond-true}
use Rattle.std.specs.Prelude.{if◌then◌else◌, option_map}
use Rattle.std.specs.List.{find, list_all}
use Rattle.std.specs.Str.Parse.{digits_value}
use Rattle.fix_fields.specs.Field.{Message, text}
use Rattle.order_law.specs.ouch_codec.declared.inbound.Inbound.{Inbound}
use Rattle.order_law.specs.ouch_codec.declared.inbound.Inbound.TheVariants as ask
use Rattle.order_law.specs.ouch_codec.declared.inbound.cancel.Cancel.{Cancel}
use Rattle.order_law.specs.ouch_codec.CancelParts.{SaysCancel-written}
use Rattle.order_law.specs.ouch_codec.Inbound.{inbound_bytes}
use Rattle.order_law.specs.ouch_codec.Parts.{type_of}
use Rattle.order_law.specs.ouch_codec.Values.{is_byte}
use Rattle.order_law.specs.ouch_codec.declared.outbound.Outbound.{Outbound}
use Rattle.order_law.specs.Asks.{Ask, New, Change, Limits, Standing, ask_of_bytes, asked_by_new, asked_by_request}
use Rattle.order_law.specs.Asks.{limits_of}
use Rattle.order_law.specs.Chain.{chain}
use Rattle.order_law.specs.Life.{first_token, live}
use Rattle.order_law.specs.Verdicts.{is_replace}
use Rattle.order_law.specs.History.{Asked, Entry, OrderHistory, Said, SaysNew, SaysReplace, SaysCancel, Terms, accepted}
use Rattle.order_law.specs.History.{asks, asks_of, entry_at, handled, is_new_order, issued, last_token, life_of, new_of}
use Rattle.order_law.specs.History.{pending_tokens, terms_of, token_of}
use Rattle.order_law.specs.Headline.{Each, HasTokens, Says}
use Rattle.order_machine.specs.Runs.{TurnsLeave}
use Rattle.order_machine.specs.Table.{TableState}
use Rattle.soup_packets.specs.declared.packet.Packet.{Packet}
use Rattle.soup_packets.specs.Spelling.{packet_bytes}
use Rattle.market_law.specs.declared.choice.Choice.{Choice}
use Rattle.market_law.specs.Machine.{BookOrder, Machine, inbound, is_live_as, is_token_used, live_order, tokens_of}
use Rattle.market_law.specs.Run.{Move, Comes, ran}
use Rattle.market_law.proofs.Basics.{and-parts, each-all, each-join, eq-is, eq-same, is-false, not-both}
use Rattle.market_law.proofs.Books.{live-holds}
use Rattle.market_law.proofs.Runs.{ran-Sound}
use Rattle.market_law.proofs.Says.{IsPlaced, found-passes, ran-told}
use Rattle.market_law.proofs.Sound.{AreApart, IsApart, filled, holds, root-in}
use Rattle.market_sim.specs.Sim.{IsReadAs}
use Rattle.world_law.specs.Asked.{AlwaysOfOrders, CameAsked, IsIn, IsOfOrder, TokensLead, WasAsked, asked, leads}
use Rattle.world_law.specs.Asked.{sender}
use Rattle.world_law.proofs.Homes.{always-of-orders}
use Rattle.world_law.proofs.Members.{each-in}
use Rattle.world_law.proofs.NoFault.{known-moves}
use Rattle.world_law.proofs.Terms.{enter-said, replace-said}
use Rattle.world_law.proofs.Turns.{of-order}
use Rattle.world_law.specs.Promises.{FindsLive}
use Rattle.world_law.specs.World.{Arrival, Carried}
use Rattle.world_law.proofs.Naming.{asks-as-asked, gives}
use Rattle.world_law.proofs.NeverLive.{AsksAsAsked, IsDecided, IsShut, Never, decided-never, enter-decides}
use Rattle.world_law.proofs.NeverLive.{never-kept, never-shut, replace-decides, shut-none}
use Rattle.world_law.proofs.Queues.{Needs, FromIt, OfRequest}
use Rattle.world_law.proofs.Readable.{change-read, new-read}

-- ---- a Cancel Order that says what is asked says a cancel of its token

no-type : (m : List ℕ) (n k : ℕ) → type_of m ≡ n → (type_of m == k) ≡ true → (n == k) ≡ false → ⊥
no-type m n k is e differ = let x : (n == k) ≡ true = ap (λ t. t == k) (sym is) ∙ e in cc

cancel-said : (s : Said) (request : Cancel) → HasTokens s (inbound_bytes (ask.Cancel request))
    → s ≡ SaysCancel request.token
cancel-said (SaysNew token) request h = absurd
    (no-type (inbound_bytes (ask.Cancel request)) 88 79 (SaysCancel-written request).type h.0 refl)
cancel-said (SaysReplace from to) request h =
    absurd (no-type (inbound_bytes (ask.Cancel request)) 88 85 (SaysCancel-written request).type h.0 refl)
cancel-said (SaysCancel token) request h = ap SaysCancel (sym h.1 ∙ (SaysCancel-written request).token)

-- ---- a new order that was asked asks for a new one, a replace for a change

pub record AsksNew (a : Asked) : Type 0 where
  pub side : ℕ
  pub symbol : List ℕ
  pub limits : Limits
  pub capacity : ℕ
  pub asks : a.ask ≡ Some (New side symbol limits capacity)

pub record AsksChange (a : Asked) : Type 0 where
  pub order : ℕ
  pub limits : Limits
  pub asks : a.ask ≡ Some (Change order limits)

pub record AsksSo (a : Asked) : Type 0 where
  pub new : (token : List ℕ) → a.said ≡ SaysNew token → AsksNew a
  pub change : (from to : List ℕ) → a.said ≡ SaysReplace from to → AsksChange a

asks-so : (ts : List Terms) (e : Entry) (entries : List Entry) (sent : List Message) (messages : List Outbound)
    → Each AsksSo (asks ts e entries sent messages)
asks-so ts e entries sent messages =
    by_kind (is_new_order e.message) (is_replace e.message) refl
    (last_token (live (life_of e.order entries messages)) (pending_tokens e.client (chain e.order sent) entries))
    (live (life_of e.order entries messages) ∷ pending_tokens e.client (chain e.order sent) entries)
  where
    request : Option Ask
    request = asked_by_request (digits_value 10 e.order) e.message

    made : Said → Option Ask → Asked
    made what x = record { order = e.order; id = text 11 e.message; said = what; ask = x }

    cancels : (tokens : List (List ℕ)) → Each AsksSo (map (λ (token : List ℕ). made (SaysCancel token) request) tokens)
    cancels [] = tt
    cancels (token ∷ tokens) = (
      record {
        new = λ t is. absurd (let f : SaysCancel token ≡ SaysNew t = is in cc);
        change = λ from to is. absurd (let f : SaysCancel token ≡ SaysReplace from to = is in cc);
      },
      cancels tokens,
    )

    by_kind : (n r : Bool) → is_replace e.message ≡ r → (from : List ℕ) (tokens : List (List ℕ))
        → Each AsksSo
        (if n then made (SaysNew (token_of e)) (Some (asked_by_new (terms_of ts e.client).capacity e.message)) ∷ []
        else (if r then made (SaysReplace from (token_of e)) request ∷ [] else map
        (λ (token : List ℕ). made (SaysCancel token) request) tokens))
    by_kind true r is from tokens = (
      record {
        new = λ t is. record { side = _; symbol = _; limits = _; capacity = _; asks = refl };
        change = λ old to is. absurd (let f : SaysNew (token_of e) ≡ SaysReplace old to = is in cc);
      },
      tt,
    )
    by_kind false true is from tokens = (
      record {
        new = λ t is. absurd (let f : SaysReplace from (token_of e) ≡ SaysNew t = is in cc);
        change = λ old to same. record {
          order = digits_value 10 e.order;
          limits = limits_of e.message;
          asks =
              cond-true (is_replace e.message) _ _ is;
        };
      },
      tt,
    )
    by_kind false false is from tokens = cancels tokens

pub asked-so : (ts : List Terms) (port : ℕ) (h : OrderHistory) → Each AsksSo (asked ts port h)
asked-so ts port [] = tt
asked-so ts port (t ∷ before) = each-join AsksSo (asked ts port before)
    (asks_of ts port (entry_at ts t.event before) (accepted ts before) (issued (sender t.event) before)
    (handled port before)) (asked-so ts port before) (by_entry (entry_at ts t.event before))
  where
    on_port : (e : Entry) (b : Bool) → Each AsksSo
        (if b then asks ts e (accepted ts before) (issued (sender t.event) before) (handled port before) else [])
    on_port e true = asks-so ts e (accepted ts before) (issued (sender t.event) before) (handled port before)
    on_port e false = tt

    by_entry : (x : Option Entry) → Each AsksSo
        (asks_of ts port x (accepted ts before) (issued (sender t.event) before) (handled port before))
    by_entry None = tt
    by_entry (Some e) = on_port e ((terms_of ts e.client).port == port)

-- ---- what is on its way says what it asks

-- an unsequenced packet with a message that says what was asked
pub record SaysIt (ts : List Terms) (port : ℕ) (h : OrderHistory) (bytes : List ℕ) (y : Asked) : Type 0 where
  pub there : IsIn y (asked ts port h)
  pub packet : Packet
  pub is_packet : packet_bytes packet ≡ bytes
  pub kind : packet.kind ≡ 85
  pub standing : Standing
  pub order_of : List ℕ → Option ℕ
  pub says : Says standing order_of y packet.payload

abbrev pub CarriesIt : List Terms → ℕ → OrderHistory → Carried → Type 0
CarriesIt ts port h x = (y : Asked) → x.asks ≡ Some y → SaysIt ts port h x.bytes y

-- what the packets ask, one behind the other
abbrev pub and_asked : Option Asked → List Asked → List Asked
and_asked None ys = ys
and_asked (Some y) ys = y ∷ ys

abbrev pub asks_in : List Carried → List Asked
asks_in [] = []
asks_in (x ∷ xs) = and_asked x.asks (asks_in xs)

pub in-carried : (ts : List Terms) (port : ℕ) (h : OrderHistory) (y : Asked) (xs : List Carried)
    → Each (CarriesIt ts port h) xs → IsIn y (asks_in xs) → IsIn y (asked ts port h)
in-carried ts port h y [] each i = absurd i
in-carried ts port h y (x ∷ xs) each i = by_asks x.asks refl i (in-carried ts port h y xs each.1)
  where
    by_asks : (o : Option Asked) → x.asks ≡ o → IsIn y (and_asked o (asks_in xs))
        → (IsIn y (asks_in xs) → IsIn y (asked ts port h)) → IsIn y (asked ts port h)
    by_asks None is i rest = rest i
    by_asks (Some z) is i rest = ⊎_elim (λ same. subst (λ (w : Asked). IsIn w (asked ts port h)) same
        (each.0 z is).there) rest i

-- ---- what isn't read

-- A message in bytes that says what was asked, and isn't read, asks for no token.
pub unread-gives : (ts : List Terms) (port : ℕ) (h : OrderHistory) (y : Asked) → IsIn y (asked ts port h)
    → (payload : List ℕ) → list_all is_byte payload ≡ true → (standing : Standing) (order_of : List ℕ → Option ℕ)
    → ask_of_bytes standing order_of payload ≡ y.ask → IsReadAs payload None → gives y.said ≡ None
unread-gives ts port h y there payload bytes standing order_of says unread = by_said y.said refl
  where
    so : AsksSo y
    so = each-in AsksSo y (asked ts port h) (asked-so ts port h) there

    by_said : (x : Said) → y.said ≡ x → gives y.said ≡ None
    by_said (SaysNew token) is =
        let k = so.new token is in
        let r = new-read standing order_of payload bytes k.side k.symbol k.limits k.capacity (says ∙ k.asks) in
        absurd (unread (ask.Enter r.0) r.1)
    by_said (SaysReplace from to) is =
        let k = so.change from to is in
        let r = change-read standing order_of payload bytes k.order k.limits (says ∙ k.asks) in
        absurd (unread (ask.Replace r.0) r.1)
    by_said (SaysCancel token) is = ap gives is

-- ---- what came

-- the token that a Cancel Order found live: no other token of its request will ever be
pub record IsFixed (asks : List Asked) (m : Machine) (a : Arrival) : Type 0 where
  pub there : IsIn a.asks asks
  pub others : (t : List ℕ) → FindsLive a t → (z : Asked) → IsIn z asks → z.order ≡ a.asks.order → z.id ≡ a.asks.id
      → (u : List ℕ) → z.said ≡ SaysCancel u → (u ≡ t) ⊎ Never asks m u

abbrev pub FindsOne : List Arrival → Type 0
FindsOne arrived = (a b : Arrival) (t u : List ℕ) → IsIn a arrived → IsIn b arrived → a.asks.order ≡ b.asks.order
    → a.asks.id ≡ b.asks.id → FindsLive a t → FindsLive b u → t ≡ u

-- two orders of the book that have had one token are the same
one-order : (cs : List BookOrder) (r : List ℕ) (c d : BookOrder) → AreApart cs → IsIn c cs → IsIn d cs
    → holds r c ≡ true → holds r d ≡ true → c ≡ d
one-order [] r c d apart i j h k = absurd i
one-order (x ∷ xs) r c d apart i j h k =
    ⊎_elim
    (λ e. ⊎_elim (λ f. sym e ∙ f) (λ l. absurd
    (each-in (IsApart x) d xs apart.0 l r (subst (λ (y : BookOrder). holds r y ≡ true) (sym e) h) k)) j)
    (λ l. ⊎_elim (λ f. absurd (each-in (IsApart x) c xs apart.0 l r
    (subst (λ (y : BookOrder). holds r y ≡ true) (sym f) k) h)) (λ n. one-order xs r c d apart.1 l n h k) j) i

find-in : (p : BookOrder → Bool) (xs : List BookOrder) (x : BookOrder) → find p xs ≡ Some x → IsIn x xs
find-in p [] x e = absurd (cc)
find-in p (y ∷ ys) x e = by_test (p y) e (λ f. find-in p ys x f)
  where
    by_test : (b : Bool) → (if b then Some y else find p ys) ≡ Some x → (find p ys ≡ Some x → IsIn x ys)
        → IsIn x (y ∷ ys)
    by_test true f later = inl (let same : y ≡ x = cc in same)
    by_test false f later = inr (later f)

each-member : (P : BookOrder → Type 0) (xs : List BookOrder) → ((x : BookOrder) → IsIn x xs → P x) → Each P xs
each-member P [] f = tt
each-member P (x ∷ xs) f = (f x (inl refl), each-member P xs (λ y i. f y (inr i)))

module _ (ts : List Terms) (h : OrderHistory) (s : TableState) (short : length h < 2 ^ 59) (leaves : TurnsLeave ts h s) (port : ℕ) (before : List Move) (came : Each (CameAsked ts port h) before) where
  abbrev AS : List Asked
  AS = asked ts port h

  abbrev m : Machine
  m = (ran before).machine

  always : AlwaysOfOrders ts port h
  always = always-of-orders ts h s short leaves port

  placed : Each (IsPlaced (leads ts port (accepted ts h)) (WasAsked ts port h)) (ran before).machine.book
  placed = (ran-told (leads ts port (accepted ts h)) (WasAsked ts port h) before
      (known-moves ts port h always before came)).placed

  -- of one order one token is live
  one-live : (t u root : List ℕ) → leads ts port (accepted ts h) t ≡ Some root
      → leads ts port (accepted ts h) u ≡ Some root → (c : BookOrder) → live_order (ran before).machine t ≡ Some c
      → bytes_eq u t ≡ false → IsShut (ran before).machine u
  one-live t u root on_t on_u c found other =
      each-member (λ (d : BookOrder). is_live_as u d ≡ false) (ran before).machine.book
      (λ d j. is-false (is_live_as u d) (λ live. clash d j live))
    where
      first : (d : BookOrder) (v : List ℕ) → is_live_as v d ≡ true → bytes_eq v (first_token (tokens_of d)) ≡ true
      first d v live = (and-parts (bytes_eq v (first_token (tokens_of d))) (nat_lt 0 d.unfilled) live).0

      own : (d : BookOrder) (v : List ℕ) → IsIn d (ran before).machine.book → is_live_as v d ≡ true
          → leads ts port (accepted ts h) v ≡ Some root → holds root d ≡ true
      own d v i live on =
          let has : holds v d ≡ true = live-holds (tokens_of d) v (filled d) (first d v live) in
          let there : Some d.entered.token ≡ Some root =
          sym ((each-in (IsPlaced (leads ts port (accepted ts h)) (WasAsked ts port h)) d
          (ran before).machine.book placed i).leads v has) ∙ on in
          let same : d.entered.token ≡ root = cc in
          subst (λ (r : List ℕ). holds r d ≡ true) same (root-in d)

      clash : (d : BookOrder) → IsIn d (ran before).machine.book → is_live_as u d ≡ true → ⊥
      clash d j live =
          let is_live : is_live_as t c ≡ true = (found-passes
          (λ (x : BookOrder). IsPlaced (leads ts port (accepted ts h)) (WasAsked ts port h) x) (is_live_as t)
          (ran before).machine.book c found placed).1 in
          let i = find-in (is_live_as t) (ran before).machine.book c found in
          let same : c ≡ d = one-order (ran before).machine.book root c d (ran-Sound before).apart i j
          (own c t i is_live on_t) (own d u j live on_u) in
          let both : u ≡ t = eq-is u (first_token (tokens_of d)) (first d u live)
          ∙ ap (λ (x : BookOrder). first_token (tokens_of x)) (sym same)
          ∙ sym (eq-is t (first_token (tokens_of c)) (first c t is_live)) in
          not-both (bytes_eq u t) (ap (λ (v : List ℕ). bytes_eq v t) both ∙ eq-same t) other

  cancel-leads : (y : Asked) → IsIn y (asked ts port h) → (t : List ℕ) → y.said ≡ SaysCancel t
      → (new : Entry) × ((o : IsOfOrder ts port (accepted ts h) y)
      × (leads ts port (accepted ts h) t ≡ Some (token_of o.new)))
  cancel-leads y i t says =
      let o = of-order ts port y h always i in
      let k = subst (TokensLead ts port (accepted ts h) o.new) says o.tokens in
      (o.new, (o, ap (option_map token_of) k.mine))

  -- the order of two that are asked of one OrderID is the same
  same-root : (y z : Asked) (i : IsIn y (asked ts port h)) (j : IsIn z (asked ts port h)) → y.order ≡ z.order
      → token_of (of-order ts port y h always i).new ≡ token_of (of-order ts port z h always j).new
  same-root y z i j same =
      let g : Some (of-order ts port y h always i).new ≡ Some (of-order ts port z h always j).new =
      sym (of-order ts port y h always i).found ∙ ap (λ (k : List ℕ). new_of k (accepted ts h)) same
      ∙ (of-order ts port z h always j).found in
      let e : (of-order ts port y h always i).new ≡ (of-order ts port z h always j).new = cc in
      ap token_of e

  -- a cancel that comes, and what it needs is settled: it fixes the others of its request
  pub fixes : (y : Asked) → IsIn y (asked ts port h)
      → ((u : List ℕ) → Needs (asked ts port h) y u → IsDecided (asked ts port h) (ran before).machine u)
      → IsFixed (asked ts port h) (ran before).machine (record { asks = y; before = (ran before).machine })
  fixes y i settled = record {
    there = i;
    others =
        λ t finds z j same_order same_id u says. by_same t finds z j same_order same_id u says (bytes_eq u t) refl;
  }
    where
      by_live : (t : List ℕ) (x : Option BookOrder) → live_order (ran before).machine t ≡ x → is_some x ≡ true
          → (c : BookOrder) × (live_order (ran before).machine t ≡ Some c)
      by_live t None e some = absurd (cc)
      by_live t (Some c) e some = (c, e)

      by_same : (t : List ℕ) → FindsLive (record { asks = y; before = (ran before).machine }) t → (z : Asked)
          → IsIn z (asked ts port h) → z.order ≡ y.order → z.id ≡ y.id → (u : List ℕ) → z.said ≡ SaysCancel u
          → (b : Bool) → bytes_eq u t ≡ b
          → (u ≡ t) ⊎ Never (asked ts port h) (ran before).machine u
      by_same t finds z j same_order same_id u says true same = inl (eq-is u t same)
      by_same t finds z j same_order same_id u says false other =
          let c = by_live t (live_order (ran before).machine t) refl finds.1 in
          let ky = subst (TokensLead ts port (accepted ts h) (of-order ts port y h always i).new) finds.0
          (of-order ts port y h always i).tokens in
          let kz = subst (TokensLead ts port (accepted ts h) (of-order ts port z h always j).new) says
          (of-order ts port z h always j).tokens in
          let root : List ℕ = token_of (of-order ts port y h always i).new in
          let on_u : leads ts port (accepted ts h) u ≡ Some (token_of (of-order ts port y h always i).new) =
          ap (option_map token_of) kz.mine ∙ ap Some (same-root z y j i same_order) in
          inr (decided-never (asked ts port h) (ran before).machine u
          (settled u (OfRequest t finds.0 z j same_order same_id says))
          (one-live t u (token_of (of-order ts port y h always i).new)
          (ap (option_map token_of) ky.mine) on_u c.0 c.1 other))

  as-asked : (v : Move) → CameAsked ts port h v → AsksAsAsked (asked ts port h) v
  as-asked v w = asks-as-asked ts h s short leaves port v w

  -- what is fixed stays so
  pub fixed-kept : (v : Move) → CameAsked ts port h v → (arrived : List Arrival)
      → Each (IsFixed (asked ts port h) (ran before).machine) arrived
      → Each (IsFixed (asked ts port h) (ran (v ∷ before)).machine) arrived
  fixed-kept v w arrived each = each-all (IsFixed (asked ts port h) (ran before).machine)
      (IsFixed (asked ts port h) (ran (v ∷ before)).machine) arrived
      (λ a k. record {
        there = k.there;
        others = λ t finds z j o i u says. ⊎_elim (λ e. inl e)
            (λ n. inr (record {
              depth = n.depth;
              is =
                  never-kept (asked ts port h) (ran before).machine v (as-asked v w) n.depth u n.is;
            }))
            (k.others t finds z j o i u says);
      }) each

  -- one more comes
  pub finds-more : (y : Asked) → IsIn y (asked ts port h) → (arrived : List Arrival)
      → Each (IsFixed (asked ts port h) (ran before).machine) arrived → FindsOne arrived
      → FindsOne (record { asks = y; before = (ran before).machine } ∷ arrived)
  finds-more y i arrived each one a b t u ia ib same_order same_id finds_a finds_b = by_a ia
    where
      new : Arrival
      new = record { asks = y; before = (ran before).machine }

      cancels : (p q : List ℕ) → SaysCancel p ≡ SaysCancel q → p ≡ q
      cancels p q e = cc

      -- an older one, and this one
      with_new : (c : Arrival) (p q : List ℕ) → IsIn c arrived → FindsLive c p
          → FindsLive (record { asks = y; before = (ran before).machine }) q → y.order ≡ c.asks.order → y.id ≡ c.asks.id
          → q ≡ p
      with_new c p q ic finds_c finds_new so si = ⊎_elim (λ e. e)
          (λ n. absurd (let shut : live_order (ran before).machine q ≡ None =
          shut-none (ran before).machine q (never-shut (asked ts port h) (ran before).machine n.depth q n.is) in
          let f : is_some (live_order (ran before).machine q) ≡ false = ap (λ (x : Option BookOrder). is_some x) shut in
          not-both (is_some (live_order (ran before).machine q)) finds_new.1 f))
          ((each-in (IsFixed (asked ts port h) (ran before).machine) c arrived each ic).others p finds_c y i so si q
          finds_new.0)

      by_b : (ib : IsIn b (record { asks = y; before = (ran before).machine } ∷ arrived)) → IsIn a arrived → t ≡ u
      by_b (inl e) ja = sym (with_new a t u ja finds_a (subst (λ (x : Arrival). FindsLive x u) (sym e) finds_b)
          (ap (λ (x : Arrival). x.asks.order) e ∙ sym same_order) (ap (λ (x : Arrival). x.asks.id) e ∙ sym same_id))
      by_b (inr jb) ja = one a b t u ja jb same_order same_id finds_a finds_b

      by_a : IsIn a (record { asks = y; before = (ran before).machine } ∷ arrived) → t ≡ u
      by_a (inr ja) = by_b ib ja
      by_a (inl e) = by_new ib
        where
          by_new : IsIn b (record { asks = y; before = (ran before).machine } ∷ arrived) → t ≡ u
          by_new (inr jb) = with_new b u t jb finds_b (subst (λ (x : Arrival). FindsLive x t) (sym e) finds_a)
              (ap (λ (x : Arrival). x.asks.order) e ∙ same_order) (ap (λ (x : Arrival). x.asks.id) e ∙ same_id)
          by_new (inl f) = cancels t u (sym finds_a.0 ∙ ap (λ (x : Arrival). x.asks.said) (sym e ∙ f) ∙ finds_b.0)

  -- ---- a message that asks comes

  -- it decides the token that it asks for
  pub comes-decides : (y : Asked) → IsIn y (asked ts port h)
      → ((u : List ℕ) → Needs (asked ts port h) y u → IsDecided (asked ts port h) (ran before).machine u)
      → (message : Inbound) (choice : Choice) → HasTokens y.said (inbound_bytes message)
      → (u : List ℕ) → gives y.said ≡ Some u → IsDecided (asked ts port h)
      (ran (Comes message choice ∷ before)).machine u
  comes-decides y i settled (ask.Enter order) choice tokens u e =
      let is = enter-said y.said order tokens in
      let f : Some order.token ≡ Some u = sym (ap gives is) ∙ e in
      let same : order.token ≡ u = cc in
      inl (subst (λ (v : List ℕ). is_token_used (inbound (ran before).machine (ask.Enter order) choice).machine v
      ≡ true) same (enter-decides (ran before).machine order choice))
  comes-decides y i settled (ask.Replace request) choice tokens u e =
      let is = replace-said y.said request tokens in
      let f : Some request.replacement_token ≡ Some u = sym (ap gives is) ∙ e in
      let same : request.replacement_token ≡ u = cc in
      subst (IsDecided (asked ts port h) (inbound (ran before).machine (ask.Replace request) choice).machine) same
      (replace-decides (asked ts port h) (ran before).machine (ran before).said (ran-Sound before) request choice y i is
      (settled request.token (FromIt request.replacement_token is)))
  comes-decides y i settled (ask.Cancel request) choice tokens u e =
      let is = cancel-said y.said request tokens in
      absurd (let f : ◌≡◌ {A = Option (List ℕ)} None (Some u) = sym (ap gives is) ∙ e in cc)
