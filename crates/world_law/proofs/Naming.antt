-- What a port was asked, by its tokens and by its requests: each token is asked for by one message, and each request
-- asks at one moment.
use Rattle.std.proofs.Common.{◌≡◌, ◌+◌, ◌<◌, ◌≤◌, ◌^◌, ◌==◌, ℕ, Bool, true, false, List, [], ◌∷◌, ◌++◌, length, map}
use Rattle.std.proofs.Common.{refl, sym, ap, ◌∙◌, subst, arith, bytes_eq, Option, Some, None, ◌⊎◌, inl, inr, eqb-true}
use Rattle.std.specs.Prelude.{◌||◌, if◌then◌else◌, is_some, option_to_list, unwrap_or}
use Rattle.tokens.specs.TokenText.{token_text}
use Rattle.fix_fields.specs.Field.{Message, text}
use Rattle.order_law.specs.ouch_codec.declared.inbound.Inbound.TheVariants as ask
use Rattle.order_law.specs.ouch_codec.declared.outbound.Outbound.{Outbound}
use Rattle.std.specs.Str.Parse.{digits_value}
use Rattle.order_law.specs.Asks.{Ask, asked_by_new, asked_by_request}
use Rattle.order_law.specs.Chain.{chain}
use Rattle.order_law.specs.Life.{live}
use Rattle.order_law.specs.Verdicts.{Port, Verdict, Accepted, Refused, is_replace}
use Rattle.order_law.specs.History.{Asked, Came, Heard, Entry, OrderEvent, OrderHistory, OrderTurn, Said, SaysNew}
use Rattle.order_law.specs.History.{SaysReplace, SaysCancel, Terms, accepted, asks, asks_of, entry_at, given_tokens}
use Rattle.order_law.specs.History.{handled, is_new_order, issued, last_token, life_of, orders_numbered, pending_tokens}
use Rattle.order_law.specs.History.{terms_of, token_of, verdict}
use Rattle.order_law.specs.Headline.{Each}
use Rattle.order_machine.specs.Runs.{TurnsLeave}
use Rattle.order_machine.specs.Table.{TableState}
use Rattle.order_machine.proofs.Texts.{token-same}
use Rattle.order_machine.proofs.Fits.{IsHome}
use Rattle.order_machine.proofs.Holds.{IsEntry}
use Rattle.order_machine.proofs.Linked.{IsTable}
use Rattle.order_machine.proofs.Running.{Leaves-Holding}
use Rattle.market_law.specs.Run.{Move, Comes, Acts}
use Rattle.market_law.proofs.Basics.{eq-is, is-false, not-both}
use Rattle.world_law.specs.Asked.{CameAsked, IsIn, asked, sender}
use Rattle.world_law.proofs.Homes.{IsHomely, TokensHome, asked-homely, next-token, token_in}
use Rattle.world_law.proofs.Members.{each-in, in-parts}
use Rattle.world_law.proofs.Terms.{enter-said, replace-said}
use Rattle.world_law.proofs.NeverLive.{AsksAsAsked}

-- the token that a message asks for
abbrev pub gives : Said → Option (List ℕ)
gives (SaysNew token) = Some token
gives (SaysReplace from to) = Some to
gives (SaysCancel token) = None

-- ---- what one accepted message asks

-- a new order its own token, a replace its own in place of this one, a cancel that of these
pub data Shape (e : Entry) (front : List ℕ) (tokens : List (List ℕ)) (a : Asked) : Type 0 where
  AsNew : is_new_order e.message ≡ true → a.said ≡ SaysNew (token_of e) → Shape e front tokens a
  AsReplace : is_new_order e.message ≡ false → is_replace e.message ≡ true → a.said ≡ SaysReplace front (token_of e)
      → Shape e front tokens a
  AsCancel : is_new_order e.message ≡ false → is_replace e.message ≡ false → (token : List ℕ) → IsIn token tokens
      → a.said ≡ SaysCancel token → Shape e front tokens a

pub record AskedBy (e : Entry) (front : List ℕ) (tokens : List (List ℕ)) (a : Asked) : Type 0 where
  pub order : a.order ≡ e.order
  pub id : a.id ≡ text 11 e.message
  pub shape : Shape e front tokens a

pub asks-by : (ts : List Terms) (e : Entry) (entries : List Entry) (sent : List Message) (messages : List Outbound)
    → Each (AskedBy e (last_token (live (life_of e.order entries messages))
    (pending_tokens e.client (chain e.order sent) entries))
    (live (life_of e.order entries messages) ∷ pending_tokens e.client (chain e.order sent) entries))
    (asks ts e entries sent messages)
asks-by ts e entries sent messages =
    by_kind (is_new_order e.message) (is_replace e.message) refl refl
    (last_token (live (life_of e.order entries messages)) (pending_tokens e.client (chain e.order sent) entries))
    (live (life_of e.order entries messages) ∷ pending_tokens e.client (chain e.order sent) entries)
    (asked_by_request (digits_value 10 e.order) e.message)
  where
    made : Said → Option Ask → Asked
    made what x = record { order = e.order; id = text 11 e.message; said = what; ask = x }

    cancels : is_new_order e.message ≡ false → is_replace e.message ≡ false
        → (front : List ℕ) (all tokens : List (List ℕ)) (request : Option Ask)
        → ((u : List ℕ) → IsIn u tokens → IsIn u all)
        → Each (AskedBy e front all) (map (λ (token : List ℕ). made (SaysCancel token) request) tokens)
    cancels is_n is_r front all [] request there = tt
    cancels is_n is_r front all (token ∷ tokens) request there = (
      record { order = refl; id = refl; shape = AsCancel is_n is_r token (there token (inl refl)) refl },
      cancels
          is_n is_r front all tokens request (λ u i. there u (inr i)),
    )

    by_kind : (n r : Bool) → is_new_order e.message ≡ n → is_replace e.message ≡ r
        → (front : List ℕ) (tokens : List (List ℕ)) (request : Option Ask)
        → Each (AskedBy e front tokens)
        (if n then made (SaysNew (token_of e)) (Some (asked_by_new (terms_of ts e.client).capacity e.message)) ∷ []
        else (if r then made (SaysReplace front (token_of e)) request ∷ [] else map
        (λ (token : List ℕ). made (SaysCancel token) request) tokens))
    by_kind true r is_n is_r front tokens request = (record { order = refl; id = refl; shape = AsNew is_n refl }, tt)
    by_kind false true is_n is_r front tokens request =
        (record { order = refl; id = refl; shape = AsReplace is_n is_r refl }, tt)
    by_kind false false is_n is_r front tokens request = cancels is_n is_r front tokens tokens request (λ u i. i)

-- the token that a replace goes from, and those that a cancel is of
abbrev pub tokens_at : List Terms → ℕ → OrderEvent → OrderHistory → Entry → List (List ℕ)
tokens_at ts port ev before e = live (life_of e.order (accepted ts before) (handled port before)) ∷ pending_tokens
    e.client (chain e.order (issued (sender ev) before)) (accepted ts before)

abbrev pub front_at : List Terms → ℕ → OrderEvent → OrderHistory → Entry → List ℕ
front_at ts port ev before e = last_token (live (life_of e.order (accepted ts before) (handled port before)))
    (pending_tokens e.client (chain e.order (issued (sender ev) before)) (accepted ts before))

-- what is asked by an event, by what is accepted
pub record NewlyAsked (ts : List Terms) (port : ℕ) (ev : OrderEvent) (before : OrderHistory) (a : Asked) : Type 0 where
  pub entry : Entry
  pub is : entry_at ts ev before ≡ Some entry
  pub on_port : (terms_of ts entry.client).port ≡ port
  pub by : AskedBy entry (front_at ts port ev before entry) (tokens_at ts port ev before entry) a

pub newly-asked : (ts : List Terms) (port : ℕ) (ev : OrderEvent) (before : OrderHistory) (a : Asked)
    → IsIn a (asks_of ts port (entry_at ts ev before) (accepted ts before) (issued (sender ev) before)
    (handled port before)) → NewlyAsked ts port ev before a
newly-asked ts port ev before a i = by_entry (entry_at ts ev before) refl i
  where
    by_port : (e : Entry) → entry_at ts ev before ≡ Some e → (b : Bool) → ((terms_of ts e.client).port == port) ≡ b
        → IsIn a (if b then asks ts e (accepted ts before) (issued (sender ev) before) (handled port before) else [])
        → NewlyAsked ts port ev before a
    by_port e is true on i = record {
      entry = e;
      is = is;
      on_port = eqb-true (terms_of ts e.client).port port on;
      by = each-in (AskedBy e (front_at ts port ev before e) (tokens_at ts port ev before e)) a
          (asks ts e (accepted ts before) (issued (sender ev) before) (handled port before))
          (asks-by ts e (accepted ts before) (issued (sender ev) before) (handled port before)) i;
    }
    by_port e is false on i = absurd i

    by_entry : (x : Option Entry) → entry_at ts ev before ≡ x
        → IsIn a (asks_of ts port x (accepted ts before) (issued (sender ev) before) (handled port before))
        → NewlyAsked ts port ev before a
    by_entry None is i = absurd i
    by_entry (Some e) is i = by_port e is ((terms_of ts e.client).port == port) refl i

-- ---- an accepted message is its event's own

pub record IsOwnEntry (client : ℕ) (m : Message) (e : Entry) : Type 0 where
  pub client_is : e.client ≡ client
  pub message_is : e.message ≡ m
  pub has_token : (is_new_order m || is_replace m) ≡ true → is_some e.token ≡ true

pub entry-own : (ts : List Terms) (client : ℕ) (m : Message) (port : Port) (before : OrderHistory) (e : Entry)
    → entry_at ts (Came client m port) before ≡ Some e → IsOwnEntry client m e
entry-own ts client m port before e is = by_verdict_is
    (verdict ts (issued client before) (accepted ts before) port m) refl
  where
    same : (x : Entry) → Some x ≡ Some e → x ≡ e
    same x f = cc

    from : (x : Entry) → x.client ≡ client → x.message ≡ m
        → ((is_new_order m || is_replace m) ≡ true → is_some x.token ≡ true) → Some x ≡ Some e → IsOwnEntry client m e
    from x c k h f = subst (IsOwnEntry client m) (same x f) (record { client_is = c; message_is = k; has_token = h })

    by_kind : (n r : Bool) → is_new_order m ≡ n → is_replace m ≡ r
        → verdict ts (issued client before) (accepted ts before) port m ≡ Accepted → IsOwnEntry client m e
    by_kind true r new kind v = from _ refl refl (λ h. refl) (rw (v, new) at is)
    by_kind false true new kind v = from _ refl refl (λ h. refl) (rw (v, new, kind) at is)
    by_kind false false new kind v = from _ refl refl
        (λ h. absurd (not-both (is_new_order m || is_replace m) h (rw (new, kind) refl))) (rw (v, new, kind) at is)

    by_verdict_is : (x : Verdict) → verdict ts (issued client before) (accepted ts before) port m ≡ x
        → IsOwnEntry client m e
    by_verdict_is Accepted v = by_kind (is_new_order m) (is_replace m) refl refl v
    by_verdict_is (Refused code why) v = absurd (let x : ◌≡◌ {A = Option Entry} None (Some e) = rw v at is in cc)

-- one of a payload's events accepts nothing
pub entry-came : (ts : List Terms) (ev : OrderEvent) (before : OrderHistory) (e : Entry)
    → entry_at ts ev before ≡ Some e → (client : ℕ) × ((m : Message) × ((port : Port) × (ev ≡ Came client m port)))
entry-came ts (Came client m port) before e is = (client, (m, (port, refl)))
entry-came ts (Heard p heard) before e is = absurd (cc)

-- ---- one more turn

module _ (ts : List Terms) (t : OrderTurn) (before : OrderHistory) (old s : TableState) (T0 : IsTable ts before old) (T1 : IsTable ts (t ∷ before) s) (port : ℕ) where
  abbrev A0 : List Entry
  A0 = accepted ts before

  -- no token that was given is that of what is accepted now
  fresh : (e : Entry) → entry_at ts t.event before ≡ Some e → is_some e.token ≡ true → (new : Entry) (token : List ℕ)
      → IsHome ts (accepted ts before) new token → token ≡ token_of e → ⊥
  fresh e is_e has new token home same = by_token e.token refl
    where
      entry : IsEntry ts (accepted ts (t ∷ before)) (orders_numbered (t ∷ before)) e
      entry = (subst (λ (x : Option Entry). Each (IsEntry ts (accepted ts (t ∷ before)) (orders_numbered (t ∷ before)))
          (option_to_list x ++ accepted ts before)) is_e T1.held.entries).0

      by_token : (x : Option ℕ) → e.token ≡ x → ⊥
      by_token None is_x = (let f : false ≡ true = ap is_some (sym is_x) ∙ has in cc)
      by_token (Some n) is_x =
          let next : n ≡ given_tokens (accepted ts before) + 1 =
          next-token ts t.event before n (ap token_in is_e ∙ is_x) in
          let few : n ≤ given_tokens (accepted ts (t ∷ before)) = (entry.is_given n is_x).1 in
          let texts : token_text home.number ≡ token_text n = sym home.is_text ∙ same
          ∙ ap (λ (x : Option ℕ). token_text (unwrap_or x 0)) is_x in
          let alike : home.number ≡ n = token-same home.number n (omega (arith, home.is_given, T0.held.short))
          (omega (arith, few, T1.held.short)) texts in
          omega (arith, alike, next, home.is_given)

  given-home : (new : Entry) (said : Said) (u : List ℕ) → TokensHome ts (accepted ts before) new said
      → gives said ≡ Some u → IsHome ts (accepted ts before) new u
  given-home new (SaysNew token) u k e = subst (IsHome ts (accepted ts before) new)
      (let same : token ≡ u = cc in same) k.0
  given-home new (SaysReplace from to) u k e =
      subst (IsHome ts (accepted ts before) new) (let same : to ≡ u = cc in same) k.1
  given-home new (SaysCancel token) u k e = absurd (cc)

  -- the token that a newly asked message asks for is that of what is accepted
  given-own : (a : Asked) (u : List ℕ) (k : NewlyAsked ts port t.event before a) → gives a.said ≡ Some u
      → (u ≡ token_of k.entry) × (is_some k.entry.token ≡ true)
  given-own a u k e = by_shape k.by.shape
    where
      came : (client : ℕ) × ((m : Message) × ((p : Port) × (t.event ≡ Came client m p)))
      came = entry-came ts t.event before k.entry k.is

      own : IsOwnEntry came.0 came.1.0 k.entry
      own = entry-own ts came.0 came.1.0 came.1.1.0 before k.entry
          (ap (λ (ev : OrderEvent). entry_at ts ev before) (sym came.1.1.1) ∙ k.is)

      kind : (n r : Bool) → is_new_order k.entry.message ≡ n → is_replace k.entry.message ≡ r → (n || r) ≡ true
          → is_some k.entry.token ≡ true
      kind n r is_n is_r e = own.has_token (ap (λ (m : Message). is_new_order m || is_replace m) (sym own.message_is)
          ∙ ap (λ (b : Bool). b || is_replace k.entry.message) is_n ∙ ap (λ (b : Bool). n || b) is_r ∙ e)

      by_shape : Shape k.entry (front_at ts port t.event before k.entry) (tokens_at ts port t.event before k.entry) a
          → (u ≡ token_of k.entry) × (is_some k.entry.token ≡ true)
      by_shape (AsNew is_n says) = (
        let f : Some (token_of k.entry) ≡ Some u = sym (ap gives says) ∙ e in
            let same : u ≡ token_of k.entry = cc in same,
        kind true (is_replace k.entry.message) is_n refl refl,
      )
      by_shape (AsReplace is_n is_r says) = (
        let f : Some (token_of k.entry) ≡ Some u = sym (ap gives says) ∙ e in
            let same : u ≡ token_of k.entry = cc in same,
        kind false true is_n is_r refl,
      )
      by_shape (AsCancel is_n is_r token there says) =
          absurd (let f : ◌≡◌ {A = Option (List ℕ)} None (Some u) = sym (ap gives says) ∙ e in cc)

  -- it was never asked for before
  pub given-new : (a b : Asked) (u : List ℕ) → IsHomely ts port (accepted ts before) a → gives a.said ≡ Some u
      → (k : NewlyAsked ts port t.event before b) → gives b.said ≡ Some u → ⊥
  given-new a b u homely e k f =
      let own = given-own b u k f in
      fresh k.entry k.is own.1 homely.new u (given-home homely.new a.said u homely.tokens e) own.0

-- two messages that one accepted message asks ask for a token alike
given-together : (e : Entry) (front : List ℕ) (tokens : List (List ℕ)) (a b : Asked) (u : List ℕ)
    → Shape e front tokens a → Shape e front tokens b → gives a.said ≡ Some u → gives b.said ≡ Some u → a.said ≡ b.said
given-together e front tokens a b u (AsNew n x) (AsNew n' y) f g = x ∙ sym y
given-together e front tokens a b u (AsNew n x) (AsReplace n' r y) f g = absurd (not-both (is_new_order e.message) n n')
given-together e front tokens a b u (AsNew n x) (AsCancel n' r t i y) f g =
    absurd (not-both (is_new_order e.message) n n')
given-together e front tokens a b u (AsReplace n r x) (AsNew n' y) f g = absurd (not-both (is_new_order e.message) n' n)
given-together e front tokens a b u (AsReplace n r x) (AsReplace n' r' y) f g = x ∙ sym y
given-together e front tokens a b u (AsReplace n r x) (AsCancel n' r' t i y) f g =
    absurd (not-both (is_replace e.message) r r')
given-together e front tokens a b u (AsCancel n r t i x) shape f g =
    absurd (let h : ◌≡◌ {A = Option (List ℕ)} None (Some u) = sym (ap gives x) ∙ f in cc)

-- each token is asked for by one message
pub given-once : (ts : List Terms) (h : OrderHistory) (s : TableState) → length h < 2 ^ 59 → TurnsLeave ts h s
    → (port : ℕ) (a b : Asked) (u : List ℕ) → IsIn a (asked ts port h) → IsIn b (asked ts port h)
    → gives a.said ≡ Some u → gives b.said ≡ Some u → a.said ≡ b.said
unfolding TurnsLeave
given-once ts [] s short leaves port a b u i j e f = absurd i
given-once ts (t ∷ before) s short leaves port a b u i j e f =
    by_places (in-parts a (asked ts port before) _ i) (in-parts b (asked ts port before) _ j)
    (λ x y. given-once ts before leaves.0 (omega arith) leaves.1 port a b u x y e f)
  where
    T0 : IsTable ts before leaves.0
    T0 = (Leaves-Holding ts before leaves.0 (omega arith) leaves.1).table

    T1 : IsTable ts (t ∷ before) s
    T1 = (Leaves-Holding ts (t ∷ before) s short leaves).table

    abbrev_now : List Asked
    abbrev_now = asks_of ts port (entry_at ts t.event before) (accepted ts before) (issued (sender t.event) before)
        (handled port before)

    homely : (x : Asked) → IsIn x (asked ts port before) → IsHomely ts port (accepted ts before) x
    homely x k = each-in (IsHomely ts port (accepted ts before)) x (asked ts port before)
        (asked-homely ts before leaves.0 (omega arith) leaves.1 port) k

    together : NewlyAsked ts port t.event before a → NewlyAsked ts port t.event before b → a.said ≡ b.said
    together x y =
        let same : x.entry ≡ y.entry = (let g : Some x.entry ≡ Some y.entry = sym x.is ∙ y.is in cc) in
        given-together y.entry (front_at ts port t.event before y.entry)
        (tokens_at ts port t.event before y.entry) a b u
        (subst (λ (entry : Entry). Shape entry (front_at ts port t.event before entry)
        (tokens_at ts port t.event before entry) a) same x.by.shape) y.by.shape e f

    by_places : IsIn a (asked ts port before) ⊎ IsIn a abbrev_now → IsIn b (asked ts port before) ⊎ IsIn b abbrev_now
        → (IsIn a (asked ts port before) → IsIn b (asked ts port before) → a.said ≡ b.said) → a.said ≡ b.said
    by_places (inl x) (inl y) earlier = earlier x y
    by_places (inl x) (inr y) earlier = absurd
        (given-new ts t before leaves.0 s T0 T1 port a b u (homely a x) e (newly-asked ts port t.event before b y) f)
    by_places (inr x) (inl y) earlier = absurd
        (given-new ts t before leaves.0 s T0 T1 port b a u (homely b y) f (newly-asked ts port t.event before a x) e)
    by_places (inr x) (inr y) earlier = together (newly-asked ts port t.event before a x)
        (newly-asked ts port t.event before b y)

-- so what comes asks for each token as it was asked
pub asks-as-asked : (ts : List Terms) (h : OrderHistory) (s : TableState) → length h < 2 ^ 59 → TurnsLeave ts h s
    → (port : ℕ) (v : Move) → CameAsked ts port h v → AsksAsAsked (asked ts port h) v
asks-as-asked ts h s short leaves port (Comes (ask.Enter order) choice) w by from u there says = record {
  no_enter = λ order' choice' is. is-false (bytes_eq u order'.token)
      (λ same. (let k : order'.token ≡ order.token = (ap token_of_move (sym is)) in
      let clash = given-once ts h s short leaves port by w.asks u there w.there (ap gives says)
      (ap gives (enter-said w.asks.said order w.says.tokens) ∙ ap Some (sym k ∙ sym (eq-is u order'.token same))) in
      let f : SaysReplace from u ≡ SaysNew order.token = sym says ∙ clash ∙ enter-said w.asks.said order w.says.tokens
      in cc));
  only = λ request choice' is same. absurd (let f : Comes (ask.Enter order) choice
      ≡ Comes (ask.Replace request) choice' = is in cc);
}
  where
    token_of_move : Move → List ℕ
    token_of_move (Comes (ask.Enter o) c) = o.token
    token_of_move (Comes (ask.Replace r) c) = []
    token_of_move (Comes (ask.Cancel r) c) = []
    token_of_move (Acts c) = []
asks-as-asked ts h s short leaves port (Comes (ask.Replace request) choice) w by from u there says = record {
  no_enter = λ order choice' is. absurd (let f : Comes (ask.Replace request) choice ≡ Comes (ask.Enter order) choice' =
      is in cc);
  only = λ request' choice' is same. (let k : request'.token ≡ request.token = ap from_of_move (sym is) in
      let l : request'.replacement_token ≡ request.replacement_token = ap to_of_move (sym is) in
      let alike = given-once ts h s short leaves port by w.asks u there w.there (ap gives says)
      (ap gives (replace-said w.asks.said request w.says.tokens)
      ∙ ap Some (sym l ∙ sym (eq-is u request'.replacement_token same))) in
      let f : SaysReplace from u ≡ SaysReplace request.token request.replacement_token = sym says ∙ alike
      ∙ replace-said w.asks.said request w.says.tokens in
      let g : from ≡ request.token = cc in
      k ∙ sym g);
}
  where
    from_of_move : Move → List ℕ
    from_of_move (Comes (ask.Enter o) c) = []
    from_of_move (Comes (ask.Replace r) c) = r.token
    from_of_move (Comes (ask.Cancel r) c) = []
    from_of_move (Acts c) = []

    to_of_move : Move → List ℕ
    to_of_move (Comes (ask.Enter o) c) = []
    to_of_move (Comes (ask.Replace r) c) = r.replacement_token
    to_of_move (Comes (ask.Cancel r) c) = []
    to_of_move (Acts c) = []
asks-as-asked ts h s short leaves port (Comes (ask.Cancel request) choice) w by from u there says = record {
  no_enter = λ order choice' is. absurd (let f : Comes (ask.Cancel request) choice ≡ Comes (ask.Enter order) choice' =
      is in cc);
  only = λ request' choice' is same. absurd
      (let f : Comes (ask.Cancel request) choice ≡ Comes (ask.Replace request') choice' = is in cc);
}
asks-as-asked ts h s short leaves port (Acts choice) w by from u there says = record {
  no_enter = λ order choice' is. absurd (let f : Acts choice ≡ Comes (ask.Enter order) choice' = is in cc);
  only = λ request' choice' is same. absurd (let f : Acts choice ≡ Comes (ask.Replace request') choice' = is in cc);
}
