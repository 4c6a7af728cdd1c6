-- The tokens of all that a port was ever asked lead to its orders: in every run of the machine, and for good.
use Rattle.std.proofs.Common.{◌≡◌, ℕ, ◌+◌, ◌<◌, ◌≤◌, ◌^◌, Bool, true, false, List, [], ◌∷◌, ◌++◌, map, length, refl}
use Rattle.std.proofs.Common.{sym, ap, ◌∙◌, subst, arith, bytes_eq, Option, Some, None}
use Rattle.std.specs.Prelude.{◌&&◌, ◌==◌, if◌then◌else◌, is_some, option_and_then, option_to_list, filter, unwrap_or}
use Rattle.std.specs.List.{find}
use Rattle.tokens.specs.TokenText.{token_text}
use Rattle.order_law.specs.declared.stage.Stage.{Stage}
use Rattle.order_law.specs.declared.stage.Stage.TheVariants.{Waiting, Working, Closed}
use Rattle.fix_fields.specs.Field.{character}
use Rattle.order_law.specs.Asks.{asked_by_new}
use Rattle.order_law.specs.Life.{Life}
use Rattle.order_law.specs.Verdicts.{Verdict, Accepted, Refused, is_replace}
use Rattle.order_law.specs.History.{Asked, Came, Heard, Entry, OrderEvent, OrderHistory, OrderTurn, Said, SaysNew}
use Rattle.order_law.specs.History.{SaysReplace, SaysCancel, Terms, accepted, asks_of, entry_at, given_tokens, handled}
use Rattle.order_law.specs.History.{is_new_order, issued, new_of, orders_numbered, outstanding, terms_of, token_of}
use Rattle.order_law.specs.History.{verdict}
use Rattle.order_law.specs.Lawful.{has_token, order_of_token}
use Rattle.order_law.specs.Headline.{Each}
use Rattle.order_machine.specs.OrderRecord.{Cancelling, OrderRecord, asked_as, asked_cancel, cancel_asked, live_token}
use Rattle.order_machine.specs.OrderRecord.{new_asked, replaces_asked}
use Rattle.order_machine.specs.Runs.{TurnsLeave}
use Rattle.order_machine.specs.Table.{TableState}
use Rattle.order_machine.proofs.Texts.{and-false, and-parts, eq-is, eq-other, eq-true, token-same, not-both}
use Rattle.order_machine.proofs.Lists.{Each-map, found-passes}
use Rattle.order_machine.proofs.Fits.{IsHome, own}
use Rattle.order_machine.proofs.Holds.{FitsIn, Holds, IsEntry, each-find, port_of, record-of}
use Rattle.order_machine.proofs.Linked.{IsTable}
use Rattle.order_machine.proofs.OnPorts.{each-all, each-append, each-both}
use Rattle.order_machine.proofs.Unanswered.{ArePlaced, IsPlaced}
use Rattle.order_machine.proofs.Running.{Leaves-Holding}
use Rattle.order_machine.proofs.AllAsked.{LeavesAsked-some, LeavesAsked-Asking}
use Rattle.world_law.specs.Asked.{IsIn, sender, asked, LeadsHome, TokensLead, IsOfOrder, AlwaysOfOrders}
use Rattle.world_law.proofs.Members.{each-in}
use Rattle.market_law.proofs.Basics.{each-parts}
use Rattle.order_machine.proofs.Executed.{count-more}
use Rattle.order_machine.proofs.Placed.{AreDistinct}
use Rattle.world_law.proofs.Lives.{root-in}

abbrev pub TokensHome : List Terms → List Entry → Entry → Said → Type 0
TokensHome terms A new (SaysNew token) = IsHome terms A new token × (token_of new ≡ token)
TokensHome terms A new (SaysReplace from to) = IsHome terms A new from × IsHome terms A new to
TokensHome terms A new (SaysCancel token) = IsHome terms A new token

abbrev pub OwnAsk : List Terms → Entry → Asked → Type 0
OwnAsk terms new a = (token : List ℕ) → a.said ≡ SaysNew token
    → a.ask ≡ Some (asked_by_new (terms_of terms new.client).capacity new.message)

pub record IsHomely (terms : List Terms) (port : ℕ) (A : List Entry) (a : Asked) : Type 0 where
  pub new : Entry
  pub found : new_of a.order A ≡ Some new
  pub on_port : port_of terms new ≡ port
  pub first : IsHome terms A new (token_of new)
  pub tokens : TokensHome terms A new a.said
  pub own_ask : OwnAsk terms new a

-- what holds of each new order holds of one that is found
each-new : (P : Entry → Type 0) (k : List ℕ) (xs : List Entry) (new : Entry)
    → Each P (filter (λ (e : Entry). is_new_order e.message) xs) → new_of k xs ≡ Some new → P new
each-new P k [] new each e = absurd (cc)
each-new P k (y ∷ ys) new each e = by_new (is_new_order y.message) (bytes_eq y.order k) each e
    (λ rest f. each-new P k ys new rest f)
  where
    by_new : (n b : Bool) → Each P (if n then y ∷ filter (λ (e : Entry). is_new_order e.message) ys else filter
        (λ (e : Entry). is_new_order e.message) ys) → (if b && n then Some y else new_of k ys) ≡ Some new
        → (Each P (filter (λ (e : Entry). is_new_order e.message) ys) → new_of k ys ≡ Some new → P new) → P new
    by_new true true each e later = subst P (let g : Some y ≡ Some new = e in cc) each.0
    by_new true false each e later = later each.1 e
    by_new false true each e later = later each e
    by_new false false each e later = later each e

-- ---- what is outstanding

each-own : (Q : Asked → Type 0) (order : List ℕ) (asked : List Asked) → Each Q (own order asked)
    → Each (λ (a : Asked). bytes_eq a.order order ≡ true → Q a) asked
each-own Q order [] each = tt
each-own Q order (a ∷ asked) each = by_own (bytes_eq a.order order) refl each (each-own Q order asked)
  where
    by_own : (b : Bool) → bytes_eq a.order order ≡ b → Each Q (if b then a ∷ own order asked else own order asked)
        → (Each Q (own order asked) → Each (λ (x : Asked). bytes_eq x.order order ≡ true → Q x) asked)
        → Each (λ (x : Asked). bytes_eq x.order order ≡ true → Q x) (a ∷ asked)
    by_own true mine each rest = (λ e. each.0, rest each.1)
    by_own false other each rest = (λ e. absurd (not-both (bytes_eq a.order order) e other), rest each)

module _ (terms : List Terms) (h : OrderHistory) where
  abbrev A : List Entry
  A = accepted terms h

  abbrev P : Entry → Asked → Type 0
  P new a = IsHome terms A new (token_of new) × TokensHome terms A new a.said × OwnAsk terms new a

  news-home : (new : Entry) (stage : Stage) → IsHome terms A new (token_of new)
      → Each (P new) (new_asked terms new stage)
  news-home new Waiting home = ((home, (home, refl), λ token e. refl), tt)
  news-home new Working home = tt
  news-home new Closed home = tt

  replaces-home : (new : Entry) (from : List ℕ) (qs : List Entry) → IsHome terms A new (token_of new)
      → IsHome terms A new from → Each (λ (q : Entry). IsHome terms A new (token_of q)) qs
      → Each (P new) (replaces_asked new from qs)
  replaces-home new from [] first home tos = tt
  replaces-home new from (q ∷ qs) first home tos =
      ((first, (home, tos.0), λ token e. absurd (cc)), replaces-home new (token_of q) qs first tos.0 tos.1)

  cancels-home : (new q : Entry) (tokens : List (List ℕ)) → IsHome terms A new (token_of new)
      → Each (IsHome terms A new) tokens → Each (P new) (map (λ token. asked_cancel new q token) tokens)
  cancels-home new q [] first each = tt
  cancels-home new q (token ∷ tokens) first each =
      ((first, each.0, λ token e. absurd (cc)), cancels-home new q tokens first each.1)

  cancel-home : (new : Entry) (x : Option Cancelling) → IsHome terms A new (token_of new)
      → ((c : Cancelling) → x ≡ Some c → Each (IsHome terms A new) c.tokens) → Each (P new) (cancel_asked new x)
  cancel-home new None first homes = tt
  cancel-home new (Some c) first homes = cancels-home new c.request c.tokens first (homes c refl)

  -- the first token of a life is among its tokens
  pub first-home : (o : OrderRecord) → FitsIn terms h o → IsHome terms A o.new (token_of o.new)
  first-home o f =
      let there : IsIn (token_of o.new) o.tokens =
      subst (λ (l : Life). IsIn (token_of o.new) l.tokens) f.lives
      (root-in (token_of o.new) (character 54 o.new.message) (handled (port_of terms o.new) h)) in
      each-in (IsHome terms A o.new) (token_of o.new) o.tokens f.holds.live there

  record-home : (o : OrderRecord) → FitsIn terms h o → Each (P o.new) (asked_as terms o)
  record-home o f =
      each-append (P o.new) (new_asked terms o.new o.stage)
      (replaces_asked o.new (live_token o) o.replaces ++ cancel_asked o.new o.cancel)
      (news-home o.new o.stage (first-home o f))
      (each-append (P o.new) (replaces_asked o.new (live_token o) o.replaces) (cancel_asked o.new o.cancel)
      (replaces-home o.new (live_token o) o.replaces (first-home o f) f.holds.front
      (Each-map _ (λ (q : Entry). IsHome terms A o.new (token_of q)) o.replaces (λ q k. k.0) f.holds.replaces))
      (cancel-home o.new o.cancel (first-home o f) (λ c e. (f.holds.cancel c e).0)))

  abbrev OnPortNow : ℕ → Type 0
  OnPortNow p = (o : OrderRecord) × FitsIn terms h o × (port_of terms o.new ≡ p)

  members : (p : ℕ) (o : OrderRecord) → FitsIn terms h o → port_of terms o.new ≡ p
      → Each (λ (a : Asked). bytes_eq a.order o.new.order ≡ true → P o.new a) (outstanding terms p h)
  members p o f home =
      subst (λ (r : ℕ). Each (λ (a : Asked). bytes_eq a.order o.new.order ≡ true → P o.new a) (outstanding terms r h))
      home
      (each-own (P o.new) o.new.order (outstanding terms (port_of terms o.new) h)
      (subst (Each (P o.new)) (sym f.asked_so) (record-home o f)))

  abbrev HomeEach : ℕ → Asked → Type 0
  HomeEach p a = (k : OnPortNow p) → bytes_eq a.order k.0.new.order ≡ true → P k.0.new a

  all-members : (p : ℕ) → Each (HomeEach p) (outstanding terms p h)
  all-members p = each-all (λ (k : OnPortNow p) (a : Asked). bytes_eq a.order k.0.new.order ≡ true → P k.0.new a)
      (outstanding terms p h) (λ k. members p k.0 k.1 k.2)

  by-record : Holds terms h → (p : ℕ) (a : Asked) → IsPlaced terms A p a × HomeEach p a → IsHomely terms p A a
  by-record holds p a known =
      let placed = known.0 in
      let r = record-of terms h a.order A placed.new holds.records placed.known in
      let number_is : placed.new.order ≡ a.order =
      eq-is placed.new.order a.order
      (and-parts (bytes_eq placed.new.order a.order) (is_new_order placed.new.message)
      (found-passes (λ (y : Entry). bytes_eq y.order a.order && is_new_order y.message) A placed.new
      placed.known)).0 in
      let of : P r.order.new a = known.1 (r.order, r.fits, ap (port_of terms) r.same ∙ placed.at_home)
      (eq-true a.order r.order.new.order (sym (ap (λ (e : Entry). e.order) r.same ∙ number_is))) in
      let mine : P placed.new a = subst (λ (e : Entry). P e a) r.same of in
      record {
        new = placed.new;
        found = placed.known;
        on_port = placed.at_home;
        first = mine.0;
        tokens =
            mine.1;
        own_ask = mine.2;
      }

  outstanding-home : Holds terms h → ArePlaced terms h → (p : ℕ) → Each (IsHomely terms p A) (outstanding terms p h)
  outstanding-home holds placed p =
      Each-map (λ (a : Asked). IsPlaced terms A p a × HomeEach p a) (IsHomely terms p A) (outstanding terms p h)
      (λ a known. by-record holds p a known)
      (each-both (IsPlaced terms A p) (HomeEach p) (outstanding terms p h) (placed p) (all-members p))

-- ---- one more turn

abbrev pub token_in : Option Entry → Option ℕ
token_in x = option_and_then (λ (e : Entry). e.token) x

same_number : (m n : ℕ) → Some m ≡ Some n → m ≡ n
same_number m n e = cc

-- what is accepted next has the next token
pub next-token : (terms : List Terms) (t : OrderEvent) (before : OrderHistory) (n : ℕ)
    → token_in (entry_at terms t before) ≡ Some n → n ≡ given_tokens (accepted terms before) + 1
next-token terms (Heard p m) before n e = absurd (cc)
next-token terms (Came client m port) before n e =
    by_verdict (verdict terms (issued client before) (accepted terms before) port m) refl
  where
    by_kind : (b r : Bool) → is_new_order m ≡ b → is_replace m ≡ r
        → verdict terms (issued client before) (accepted terms before) port m ≡ Accepted
        → n ≡ given_tokens (accepted terms before) + 1
    by_kind true r new kind v = let x : Some (given_tokens (accepted terms before) + 1) ≡ Some n = rw (v, new) at e in
        sym (same_number _ n x)
    by_kind false true new kind v = let x : Some (given_tokens (accepted terms before) + 1) ≡ Some n =
        rw (v, new, kind) at e in sym (same_number _ n x)
    by_kind false false new kind v = let x : ◌≡◌ {A = Option ℕ} None (Some n) = rw (v, new, kind) at e in absurd (cc)

    by_verdict : (w : Verdict) → verdict terms (issued client before) (accepted terms before) port m ≡ w
        → n ≡ given_tokens (accepted terms before) + 1
    by_verdict Accepted v = by_kind (is_new_order m) (is_replace m) refl refl v
    by_verdict (Refused code why) v = let x : ◌≡◌ {A = Option ℕ} None (Some n) = rw v at e in absurd (cc)

module _ (terms : List Terms) (t : OrderTurn) (before : OrderHistory) (old s : TableState) (T0 : IsTable terms before old) (T1 : IsTable terms (t ∷ before) s) where
  abbrev A0 : List Entry
  A0 = accepted terms before

  abbrev next : Option Entry
  next = entry_at terms t.event before

  -- an order that is known stays the same
  new-kept-by : (x : Option Entry) → entry_at terms t.event before ≡ x → (k : List ℕ) (new : Entry)
      → new_of k A0 ≡ Some new → new_of k (option_to_list x ++ A0) ≡ Some new
  new-kept-by None is_e k new f = f
  new-kept-by (Some e) is_e k new f = by_new (is_new_order e.message) (bytes_eq e.order k) refl refl
    where
      distinct : AreDistinct (filter (λ (y : Entry). is_new_order y.message) (e ∷ A0))
      distinct = subst (λ (x : Option Entry). AreDistinct
          (filter (λ (y : Entry). is_new_order y.message) (option_to_list x ++ A0))) is_e T1.distinct

      apart : is_new_order e.message ≡ true → bytes_eq e.order k ≡ true → ⊥
      apart is_n here =
          let each : AreDistinct (e ∷ filter (λ (y : Entry). is_new_order y.message) A0) = rw is_n at distinct in
          let differs : bytes_eq e.order new.order ≡ false =
          each-new (λ (y : Entry). bytes_eq e.order y.order ≡ false) k A0 new each.0 f in
          let both : (bytes_eq new.order k && is_new_order new.message) ≡ true =
          found-passes (λ (y : Entry). bytes_eq y.order k && is_new_order y.message) A0 new f in
          let same : new.order ≡ k = eq-is new.order k
          (and-parts (bytes_eq new.order k) (is_new_order new.message) both).0 in
          not-both (bytes_eq e.order new.order) (ap (bytes_eq e.order) same ∙ here) differs

      by_new : (n b : Bool) → is_new_order e.message ≡ n → bytes_eq e.order k ≡ b → new_of k (e ∷ A0) ≡ Some new
      by_new true true is_n is_b = absurd (apart is_n is_b)
      by_new true false is_n is_b = rw is_b f
      by_new false true is_n is_b = rw (is_n, is_b) f
      by_new false false is_n is_b = rw is_b f

  pub new-kept : (k : List ℕ) (new : Entry) → new_of k A0 ≡ Some new → new_of k (accepted terms (t ∷ before)) ≡ Some new
  new-kept k new f = new-kept-by (entry_at terms t.event before) refl k new f

  -- a token that was given leads where it led
  token-kept-by : (x : Option Entry) → entry_at terms t.event before ≡ x → (q : ℕ) (token : List ℕ) (number : ℕ)
      → token ≡ token_text number → number ≤ given_tokens A0
      → order_of_token terms q (option_to_list x ++ A0) token ≡ order_of_token terms q A0 token
  token-kept-by None is_e q token number is_text is_given = refl
  token-kept-by (Some e) is_e q token number is_text is_given = by_found (find (has_token terms q token) A0) refl
    where
      entry : IsEntry terms (accepted terms (t ∷ before)) (orders_numbered (t ∷ before)) e
      entry = (subst (λ (x : Option Entry). Each
          (IsEntry terms (accepted terms (t ∷ before)) (orders_numbered (t ∷ before))) (option_to_list x ++ A0)) is_e
          T1.held.entries).0

      other : (y : Option ℕ) → e.token ≡ y → (is_some y
          && ((terms_of terms e.client).port == q && bytes_eq (token_text (unwrap_or y 0)) token)) ≡ false
      other None is_y = refl
      other (Some n) is_y =
          let fresh : n ≡ given_tokens A0 + 1 = next-token terms t.event before n (ap token_in is_e ∙ is_y) in
          let few : n ≤ given_tokens (accepted terms (t ∷ before)) = (entry.is_given n is_y).1 in
          let apart : bytes_eq (token_text n) token ≡ false =
          eq-other (token_text n) token (λ same. (let alike : n ≡ number =
          token-same n number (omega (arith, few, T1.held.short)) (omega (arith, is_given, T0.held.short))
          (same ∙ is_text) in omega (arith, alike, fresh, is_given))) in
          rw (apart, and-false ((terms_of terms e.client).port == q)) refl

      none : has_token terms q token e ≡ false
      none = other e.token refl

      by_found : (x : Option Entry) → find (has_token terms q token) A0 ≡ x
          → order_of_token terms q (e ∷ A0) token ≡ order_of_token terms q A0 token
      by_found None f = rw (none, f) refl
      by_found (Some y) f =
          let i = each-find (IsEntry terms A0 (orders_numbered before)) (has_token terms q token) A0 y T0.held.entries f
          in
          let now : new_of y.order (e ∷ A0) ≡ Some i.new = new-kept-by (Some e) is_e y.order i.new i.found in
          rw (none, f) (now ∙ sym i.found)

  home-kept : (new : Entry) (token : List ℕ) → IsHome terms A0 new token
      → IsHome terms (accepted terms (t ∷ before)) new token
  home-kept new token k = record {
    mine = token-kept-by (entry_at terms t.event before) refl (port_of terms new) token k.number k.is_text k.is_given
        ∙ k.mine;
    elsewhere = λ q apart. token-kept-by (entry_at terms t.event before) refl q token k.number k.is_text k.is_given
        ∙ k.elsewhere q apart;
    number = k.number;
    is_text = k.is_text;
    is_given = omega (arith, k.is_given, more (entry_at terms t.event before));
  }
    where
      more : (x : Option Entry) → given_tokens A0 ≤ given_tokens (option_to_list x ++ A0)
      more None = omega arith
      more (Some e) = omega (arith, count-more (λ (y : Entry). is_some y.token) e A0)

  tokens-kept : (new : Entry) (s : Said) → TokensHome terms A0 new s
      → TokensHome terms (accepted terms (t ∷ before)) new s
  tokens-kept new (SaysNew token) k = (home-kept new token k.0, k.1)
  tokens-kept new (SaysReplace from to) k = (home-kept new from k.0, home-kept new to k.1)
  tokens-kept new (SaysCancel token) k = home-kept new token k

  homely-kept : (port : ℕ) (a : Asked) → IsHomely terms port A0 a → IsHomely terms port (accepted terms (t ∷ before)) a
  homely-kept port a k = record {
    new = k.new;
    found = new-kept a.order k.new k.found;
    on_port = k.on_port;
    first =
        home-kept k.new (token_of k.new) k.first;
    tokens = tokens-kept k.new a.said k.tokens;
    own_ask = k.own_ask;
  }

  -- what is asked now
  newly : (port : ℕ) → Each (IsHomely terms port (accepted terms (t ∷ before))) (outstanding terms port (t ∷ before))
      → Each (IsHomely terms port (accepted terms (t ∷ before)))
      (asks_of terms port (entry_at terms t.event before) A0 (issued (sender t.event) before) (handled port before))
  newly port each = by_event t.event each
    where
      by_event : (e : OrderEvent) → Each (IsHomely terms port (accepted terms (t ∷ before)))
          (outstanding terms port (record t { event = e } ∷ before))
          → Each (IsHomely terms port (accepted terms (t ∷ before)))
          (asks_of terms port (entry_at terms e before) A0 (issued (sender e) before) (handled port before))
      by_event (Came client m p) each = (each-parts (IsHomely terms port (accepted terms (t ∷ before)))
          (outstanding terms port before) _ each).1
      by_event (Heard p m) each = tt

-- ---- runs

leads-home : (terms : List Terms) (port : ℕ) (A : List Entry) (new : Entry) (token : List ℕ) → port_of terms new ≡ port
    → IsHome terms A new token → LeadsHome terms port A token new
leads-home terms port A new token on k = record {
  mine = subst (λ (p : ℕ). order_of_token terms p A token ≡ Some new) on k.mine;
  elsewhere = λ q apart. k.elsewhere q (λ same. apart (same ∙ on));
}

tokens-lead : (terms : List Terms) (port : ℕ) (A : List Entry) (new : Entry) (s : Said) → port_of terms new ≡ port
    → TokensHome terms A new s → TokensLead terms port A new s
tokens-lead terms port A new (SaysNew token) on k = (leads-home terms port A new token on k.0, k.1)
tokens-lead terms port A new (SaysReplace from to) on k =
    (leads-home terms port A new from on k.0, leads-home terms port A new to on k.1)
tokens-lead terms port A new (SaysCancel token) on k = leads-home terms port A new token on k

of-order-homely : (terms : List Terms) (port : ℕ) (A : List Entry) (a : Asked) → IsHomely terms port A a
    → IsOfOrder terms port A a
of-order-homely terms port A a k = record {
  new = k.new;
  found = k.found;
  on_port = k.on_port;
  first =
      leads-home terms port A k.new (token_of k.new) k.on_port k.first;
  tokens =
      tokens-lead terms port A k.new a.said k.on_port k.tokens;
  own = k.own_ask;
}

pub placed-of : (terms : List Terms) (h : OrderHistory) (s : TableState) → length h < 2 ^ 59 → TurnsLeave terms h s
    → ArePlaced terms h
placed-of terms h s short leaves = let some = LeavesAsked-some terms h s leaves in
    (LeavesAsked-Asking terms h s some.0 short some.1).placed

pub asked-homely : (terms : List Terms) (h : OrderHistory) (s : TableState) → length h < 2 ^ 59 → TurnsLeave terms h s
    → (port : ℕ) → Each (IsHomely terms port (accepted terms h)) (asked terms port h)
unfolding TurnsLeave
asked-homely terms [] s short leaves port = tt
asked-homely terms (t ∷ before) s short leaves port =
    let T0 = (Leaves-Holding terms before leaves.0 (omega arith) leaves.1).table in
    let T1 = (Leaves-Holding terms (t ∷ before) s short leaves).table in
    let earlier = asked-homely terms before leaves.0 (omega arith) leaves.1 port in
    each-append (IsHomely terms port (accepted terms (t ∷ before))) (asked terms port before) _
    (Each-map (IsHomely terms port (accepted terms before)) (IsHomely terms port (accepted terms (t ∷ before)))
    (asked terms port before) (λ a k. homely-kept terms t before leaves.0 s T0 T1 port a k) earlier)
    (newly terms t before leaves.0 s T0 T1 port
    (outstanding-home terms (t ∷ before) T1.held (placed-of terms (t ∷ before) s short leaves) port))

-- the tokens of all that was ever asked lead to its orders, after every turn
pub always-of-orders : (terms : List Terms) (h : OrderHistory) (s : TableState) → length h < 2 ^ 59
    → TurnsLeave terms h s → (port : ℕ) → AlwaysOfOrders terms port h
unfolding TurnsLeave
always-of-orders terms [] s short leaves port = tt
always-of-orders terms (t ∷ before) s short leaves port =
    let T0 = (Leaves-Holding terms before leaves.0 (omega arith) leaves.1).table in
    let T1 = (Leaves-Holding terms (t ∷ before) s short leaves).table in (
      Each-map (IsHomely terms port (accepted terms (t ∷ before))) (IsOfOrder terms port (accepted terms (t ∷ before)))
          (asked terms port (t ∷ before)) (λ a k. of-order-homely terms port (accepted terms (t ∷ before)) a k)
          (asked-homely terms (t ∷ before) s short leaves port),
      new-kept terms t before leaves.0 s T0 T1,
      always-of-orders terms before leaves.0 (omega arith) leaves.1 port,
    )
