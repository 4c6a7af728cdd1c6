-- A client's message keeps what every told history keeps, and each order true.
use Rattle.std.proofs.Common.{◌≡◌, ◌≢◌, ℕ, ◌+◌, ◌*◌, ◌<◌, ◌≤◌, ◌^◌, Bool, true, false, List, [], ◌∷◌, ◌++◌, length}
use Rattle.std.proofs.Common.{map, reverse, refl, sym, ap, ◌∙◌, subst, arith, decimal, codes, bytes_eq, Option, Some}
use Rattle.std.proofs.Common.{None, eqb-true, eq-eqb, ne_eqb}
use Rattle.std.specs.Prelude.{◌&&◌, ◌==◌, if◌then◌else◌, is_some}
use Rattle.std.specs.List.{count_by, find, list_any}
use Rattle.order_law.specs.ouch_codec.declared.outbound.Outbound.{Outbound}
use Rattle.fix_fields.specs.Field.{Message, is, text}
use Rattle.order_law.specs.Life.{Life, after, born, is_closed, is_live, is_of, life}
use Rattle.order_law.specs.Reading.{is_report}
use Rattle.order_law.specs.Chain.{chain, is_used, orders}
use Rattle.order_law.specs.History.{Asked, Entry, Heard, OrderHistory, Terms, OrderTurn, accepted, answers}
use Rattle.order_law.specs.History.{given_tokens, handled, is_new_order, issued, last_token, life_of, new_of}
use Rattle.order_law.specs.History.{orders_numbered}
use Rattle.order_law.specs.History.{outstanding, pending_tokens, terms_of, token_of}
use Rattle.order_law.specs.Told.{reports_in}
use Rattle.order_law.specs.Headline.{Each, IsTrueToMarket, ReadsWell, old_ids}
use Rattle.order_machine.specs.OrderRecord.{OrderRecord}
use Rattle.order_machine.proofs.Texts.{eq-decimal_other, eq-is, eq-same}
use Rattle.order_machine.proofs.Lists.{Each-map}
use Rattle.order_machine.proofs.Due.{IsUnread, IsUnread-others, Reads, Reads-others, ReadsWell-others}
use Rattle.order_machine.proofs.Executed.{count-more}
use Rattle.order_machine.proofs.Leads.{same_some}
use Rattle.order_machine.proofs.Fits.{own}
use Rattle.order_machine.proofs.Holds.{HasRecord, Holds, IsEntry, FitsIn, Still, StillBeside, news, orders_of, port_of}
use Rattle.order_machine.proofs.Holds.{quiet-Fits, true-of}
use Rattle.order_machine.proofs.Hearing.{append-nothing}
use Rattle.order_machine.proofs.Texts.{or-true}
use Rattle.order_law.specs.Verdicts.{Port, is_replace}
use Rattle.order_law.specs.History.{Came, asks, asks_of, entry_at, by_id, verdict}
use Rattle.order_law.specs.Headline.{SaysOf}
use Rattle.order_machine.proofs.Pushing.{IsNext, entry-kept, given-less, new-kept, pushed-Fits}

abbrev pub coming_turn : ℕ → Message → Port → List Message → List (List ℕ) → OrderTurn
coming_turn client m port bodies sends = record
    { event = Came client m port; client = client; bodies = bodies; sends = sends; fault = None }

pub numbered-came : (client : ℕ) (m : Message) (port : Port) (bodies : List Message) (sends : List (List ℕ))
    (before : OrderHistory) → orders_numbered (coming_turn client m port bodies sends ∷ before)
    ≡ (if is_new_order m then 1 else 0) + orders_numbered before
numbered-came client m port bodies sends before = count-more _ (coming_turn client m port bodies sends) before

one-at-most : (b : Bool) → (if b then 1 else 0) ≤ 1
one-at-most true = omega arith
one-at-most false = omega arith

module _ (terms : List Terms) (before : OrderHistory) (client : ℕ) (m : Message) (port : Port) (r : Message) (sends : List (List ℕ)) (H : Holds terms before) where
  abbrev t : OrderTurn
  t = coming_turn client m port (r ∷ []) sends

  abbrev A : List Entry
  A = accepted terms before

  abbrev OneMore : (List Message → Type 0) → ℕ → Type 0
  OneMore P c = (client ≡ c → P (r ∷ issued c before)) → P (issued c before) → P (issued c (t ∷ before))

  -- what holds of a client's list with and without the body holds after the turn
  pub issued-now : (P : List Message → Type 0) (c : ℕ) → OneMore P c
  issued-now P c mine others = by_client (client == c) refl
    where
      by_client : (b : Bool) → (client == c) ≡ b
          → P (if b then reverse (r ∷ []) ++ issued c before else issued c before)
      by_client true e = mine (eqb-true client c e)
      by_client false e = others

  pub used-now : (c : ℕ) (id : List ℕ) → is_used id (issued c before) ≡ true → is_used id (issued c (t ∷ before)) ≡ true
  used-now c id used = issued-now (λ xs. is_used id xs ≡ true) c (λ mine. rw used (or-true (is 11 id r))) used

  pub issued-own : issued client (t ∷ before) ≡ r ∷ issued client before
  issued-own = rw (eq-eqb client client refl) refl

  count-now : orders_numbered before ≤ orders_numbered (t ∷ before)
  count-now = omega (arith, numbered-came client m port (r ∷ []) sends before)

  few-now : orders_numbered (t ∷ before) ≤ length (t ∷ before)
  few-now = omega (arith, H.few, numbered-came client m port (r ∷ []) sends before, one-at-most (is_new_order m))

  -- what the body does to an order of the client
  pub record IsTold (x : OrderRecord) : Type 0 where
    pub reads : Reads (r ∷ issued x.new.client before) x
    pub says : SaysOf x.new.order x.new.message (old_ids x.new.client A) (issued x.new.client before) r

  -- a message that isn't accepted
  module _ (none : entry_at terms (Came client m port) before ≡ None) (enters_none : (is_report r && is 150 (codes "A") r) ≡ false)
      (fresh : (n : ℕ) → orders_numbered (t ∷ before) < n → n < 10 ^ 64 → is 37 (decimal n) r ≡ false)
      (tells : (x : OrderRecord) → FitsIn terms before x → client ≡ x.new.client → IsTold x) where
    pub fits-still : Still terms t before
    fits-still x f = rw none (quiet-Fits terms A (orders_numbered before) (orders_numbered (t ∷ before))
        (issued x.new.client before) (issued x.new.client (t ∷ before)) (handled (port_of terms x.new) before)
        (handled (port_of terms x.new) before)
        (outstanding terms (port_of terms x.new) before) (outstanding terms (port_of terms x.new) before ++ [])
        (reports_in before) (reports_in (t ∷ before)) (1_000_000 * length before)
        (1_000_000 * length (t ∷ before)) x f count-now
        (issued-now (λ xs. Reads xs x) x.new.client (λ mine. (tells x f mine).reads) f.reads)
        (used-now x.new.client) refl refl (ap (own x.new.order)
        (append-nothing (outstanding terms (port_of terms x.new) before))) (omega arith) (omega arith))

    records-still : Each (HasRecord terms (t ∷ before)) (news A)
    records-still = Each-map (HasRecord terms before) (HasRecord terms (t ∷ before)) (news A)
        (λ e h. record { order = h.order; same = h.same; fits = fits-still h.order h.fits }) H.records

    true-still : Each (IsTrueToMarket terms t before) (news A)
    true-still = Each-map (HasRecord terms before) (IsTrueToMarket terms t before) (news A)
        (λ e h. true-of terms t before e (record { order = h.order; same = h.same; fits = fits-still h.order h.fits })
        (λ own_turn. subst (λ (x : Entry). ReadsWell x.order x.message (old_ids x.client (accepted terms (t ∷ before)))
        (issued x.client before) (r ∷ [])) h.same
        (rw none ((tells h.order h.fits (own_turn ∙ ap (λ (x : Entry). x.client) (sym h.same))).says, tt)))) H.records

    pub refused-Holds : Holds terms (t ∷ before)
        × Each (IsTrueToMarket terms t before) (news (accepted terms (t ∷ before))) × Still terms t before
    refused-Holds = (
      record {
        entries = rw none (Each-map (IsEntry terms A (orders_numbered before))
            (IsEntry terms A (orders_numbered (t ∷ before))) A
            (λ e i. record {
              new = i.new;
              found = i.found;
              same_client = i.same_client;
              is_given = i.is_given;
              number =
                  i.number;
              order_is = i.order_is;
              is_numbered = omega (arith, i.is_numbered, count-now);
            }) H.entries);
        short = rw none H.short;
        records = rw none records-still;
        listed = λ c. rw none (issued-now (λ xs. orders xs ≡ orders_of c A) c (λ mine. rw enters_none (H.listed c))
            (H.listed c));
        unread = λ n c above small. issued-now (λ xs. IsUnread (decimal n) xs) c
            (λ mine. IsUnread-others (decimal n) (r ∷ []) (issued c before) (fresh n above small, tt)
            (H.unread n c (omega (arith, above, count-now)) small))
            (H.unread n c (omega (arith, above, count-now)) small);
        unheard = λ n p side above most. H.unheard n p side (rw none at above) most;
        unasked = λ n p above small. rw none (ap (own (decimal n)) (append-nothing (outstanding terms p before))
            ∙ H.unasked n p (omega (arith, above, count-now)) small);
        few = few-now;
      },
      rw none true-still,
      fits-still,
    )

none-if : (b : Bool) → b ≡ false → ◌≡◌ {A = ℕ} (if b then 1 else 0) 0
none-if true h = absurd (cc)
none-if false h = refl

-- ---- what an accepted message asks is of its order

asks-order : (terms : List Terms) (e : Entry) (entries : List Entry) (sent : List Message) (messages : List Outbound)
    → Each (λ (a : Asked). a.order ≡ e.order) (asks terms e entries sent messages)
asks-order terms e entries sent messages = by_kind (is_new_order e.message) (is_replace e.message)
  where
    live_one : List ℕ
    live_one = Rattle.order_law.specs.Life.live (life_of e.order entries messages)

    pending : List (List ℕ)
    pending = pending_tokens e.client (chain e.order sent) entries

    request : Option Rattle.order_law.specs.Asks.Ask
    request = Rattle.order_law.specs.Asks.asked_by_request
        (Rattle.std.specs.Str.Parse.digits_value 10 e.order) e.message

    each-cancel : (ts : List (List ℕ)) → Each (λ (a : Asked). a.order ≡ e.order)
        (map (λ token. record {
          order = e.order;
          id = text 11 e.message;
          said =
              Rattle.order_law.specs.History.SaysCancel token;
          ask = request;
        }) ts)
    each-cancel [] = tt
    each-cancel (token ∷ ts) = (refl, each-cancel ts)

    by_kind : (n g : Bool) → Each (λ (a : Asked). a.order ≡ e.order)
        (if n then record {
          order = e.order;
          id = text 11 e.message;
          said =
              Rattle.order_law.specs.History.SaysNew (token_of e);
          ask =
              Some (Rattle.order_law.specs.Asks.asked_by_new (terms_of terms e.client).capacity e.message);
        } ∷ []
        else (if g then record {
          order = e.order;
          id = text 11 e.message;
          said =
              Rattle.order_law.specs.History.SaysReplace (last_token live_one pending) (token_of e);
          ask = request;
        } ∷ []
        else map (λ token. record {
          order = e.order;
          id = text 11 e.message;
          said =
              Rattle.order_law.specs.History.SaysCancel token;
          ask = request;
        }) (live_one ∷ pending)))
    by_kind true g = (refl, tt)
    by_kind false true = (refl, tt)
    by_kind false false = (refl, each-cancel pending)

own-none : (order k : List ℕ) (asked : List Asked) → Each (λ (a : Asked). a.order ≡ order) asked
    → bytes_eq order k ≡ false → own k asked ≡ []
own-none order k [] each apart = refl
own-none order k (a ∷ asked) each apart = rw (each.0, apart) (own-none order k asked each.1 apart)

pub own-append : (k : List ℕ) (xs ys : List Asked) → own k (xs ++ ys) ≡ own k xs ++ own k ys
own-append k [] ys = refl
own-append k (a ∷ xs) ys = by_test (bytes_eq a.order k) (own-append k xs ys)
  where
    by_test : (b : Bool) → own k (xs ++ ys) ≡ own k xs ++ own k ys
        → (if b then a ∷ own k (xs ++ ys) else own k (xs ++ ys)) ≡ (if b then a ∷ own k xs else own k xs) ++ own k ys
    by_test true e = ap (λ zs. a ∷ zs) e
    by_test false e = e

-- ---- a message that is accepted

module _ (terms : List Terms) (before : OrderHistory) (client : ℕ) (m : Message) (port : Port) (r : Message)
    (sends : List (List ℕ)) (H : Holds terms before)
    (en : Entry) (taken : entry_at terms (Came client m port) before ≡ Some en) (own_client : en.client ≡ client)
    (next : IsNext terms before en)
    (addressed : text 37 r ≡ en.order) where
  abbrev u : OrderTurn
  u = coming_turn client m port (r ∷ []) sends

  abbrev E : List Entry
  E = accepted terms before

  abbrev asked-next : ℕ → List Asked
  asked-next p = outstanding terms p before ++ asks_of terms p (Some en) E (issued client before) (handled p before)

  none-else : (p : ℕ) (k : List ℕ) → bytes_eq en.order k ≡ false
      → own k (asked-next p) ≡ own k (outstanding terms p before)
  none-else p k apart = own-append k (outstanding terms p before)
      (asks_of terms p (Some en) E (issued client before) (handled p before))
      ∙ rw (by_port ((terms_of terms en.client).port == p)) (append-nothing (own k (outstanding terms p before)))
    where
      by_port : (b : Bool) → own k (if b then asks terms en E (issued client before) (handled p before) else []) ≡ []
      by_port true = own-none en.order k (asks terms en E (issued client before) (handled p before))
          (asks-order terms en E (issued client before) (handled p before)) apart
      by_port false = refl

  off-other : (k : List ℕ) → bytes_eq en.order k ≡ false → is 37 k r ≡ false
  off-other k apart = rw addressed apart

  pub beside-fits : StillBeside en.order terms u before
  beside-fits x f apart = rw taken (pushed-Fits terms before en H next (orders_numbered (u ∷ before))
      (issued x.new.client (u ∷ before)) (asked-next (port_of terms x.new)) (reports_in (u ∷ before))
      (1_000_000 * length (u ∷ before)) x f
      (count-now terms before client m port r sends H)
      (issued-now terms before client m port r sends H (λ xs. Reads xs x) x.new.client
      (λ mine. Reads-others x (r ∷ []) (issued x.new.client before) (off-other x.new.order apart, tt) f.reads)
      f.reads)
      (used-now terms before client m port r sends H x.new.client) (none-else (port_of terms x.new) x.new.order apart)
      (omega arith) (omega arith))

  module _ (own_new : Entry) (found : new_of en.order (en ∷ E) ≡ Some own_new) (its_client : own_new.client ≡ en.client)
      (n : ℕ) (order_is : en.order ≡ decimal n) (is_few : n ≤ orders_numbered (u ∷ before)) (small : n < 10 ^ 64)
      (mine : HasRecord terms (u ∷ before) own_new)
      (own_well : ReadsWell own_new.order own_new.message (old_ids own_new.client (accepted terms (u ∷ before)))
      (issued own_new.client before) (r ∷ []))
      (enters_own : (is_report r && is 150 (codes "A") r) ≡ is_new_order en.message) where
    abbrev Both : Entry → Type 0
    Both e = HasRecord terms (u ∷ before) e × IsTrueToMarket terms u before e

    own-both : Both own_new
    own-both = (mine, true-of terms u before own_new mine (λ own_turn. own_well))

    each-order : (e : Entry) → HasRecord terms before e → Both e
    each-order e h = by_order (bytes_eq en.order h.order.new.order) refl
      where
        by_order : (b : Bool) → bytes_eq en.order h.order.new.order ≡ b → Both e
        by_order true same =
            let orders_same : en.order ≡ h.order.new.order = eq-is en.order h.order.new.order same in
            let kept : new_of h.order.new.order (en ∷ E) ≡ Some h.order.new =
            new-kept terms before en H next h.order.new.order h.fits.number h.fits.order_is h.fits.is_numbered
            ∙ h.fits.known in
            let it : own_new ≡ e = same_some own_new h.order.new
            (sym found ∙ ap (λ (k : List ℕ). new_of k (en ∷ E)) orders_same ∙ kept) ∙ h.same in
            subst Both it own-both
        by_order false apart =
            let has : HasRecord terms (u ∷ before) e =
            record { order = h.order; same = h.same; fits = beside-fits h.order h.fits apart } in (
              has,
              true-of terms u before e has (λ own_turn. subst
                  (λ (x : Entry). ReadsWell x.order x.message (old_ids x.client (accepted terms (u ∷ before)))
                  (issued x.client before) (r ∷ [])) h.same
                  (ReadsWell-others h.order.new.order h.order.new.message
                  (old_ids h.order.new.client (accepted terms (u ∷ before))) (issued h.order.new.client before)
                  (r ∷ []) (off-other h.order.new.order apart, tt))),
            )

    old-both : Each Both (news E)
    old-both = Each-map (HasRecord terms before) Both (news E) each-order H.records

    all-both : Each Both (news (en ∷ E))
    all-both = by_new (is_new_order en.message) refl
      where
        by_new : (b : Bool) → is_new_order en.message ≡ b → Each Both (if b then en ∷ news E else news E)
        by_new true new =
            let own = eq-same en.order in
            let it : own_new ≡ en = same_some own_new en (sym found ∙ rw (own, new) refl) in
            (subst Both it own-both, old-both)
        by_new false old = old-both

    same-orders : (c : ℕ) → orders (issued c (u ∷ before)) ≡ orders_of c (en ∷ E)
    same-orders c = by_new (is_new_order en.message) refl (en.client == c) refl
      where
        by_new : (b : Bool) → is_new_order en.message ≡ b → (d : Bool) → (en.client == c) ≡ d
            → orders (issued c (u ∷ before)) ≡ orders_of c (en ∷ E)
        by_new false old d is_d = rw old (issued-now terms before client m port r sends H (λ xs. orders xs ≡ orders_of c E) c (λ own_c. (let off : (is_report r && is 150 (codes "A") r) ≡ false = enters_own ∙ old in rw off (H.listed c))) (H.listed c))
        by_new true new true is_d =
            let on : (is_report r && is 150 (codes "A") r) ≡ true = enters_own ∙ new in
            let here : client ≡ c = sym own_client ∙ eqb-true en.client c is_d in
            let all : issued c (u ∷ before) ≡ r ∷ issued c before = rw (eq-eqb client c here) refl in
            rw (new, is_d, all) (rw on (ap (λ ks. text 37 r ∷ ks) (H.listed c) ∙ ap (λ k. k ∷ orders_of c E) addressed))
        by_new true new false is_d =
            let apart : client ≢ c = λ same. (let x : (en.client == c) ≡ true = eq-eqb en.client c (own_client ∙ same)
            in let y : true ≡ false = sym x ∙ is_d in cc) in
            let none : issued c (u ∷ before) ≡ issued c before = rw (ne_eqb client c apart) refl in
            rw (new, is_d, none) (H.listed c)

    entry-new : IsEntry terms (en ∷ E) (orders_numbered (u ∷ before)) en
    entry-new = record {
      new = own_new;
      found = found;
      same_client = its_client;
      is_given = λ j is_j. (omega (arith, next.token j is_j), token-few j is_j);
      number = n;
      order_is = order_is;
      is_numbered = is_few;
    }
      where
        one_if : (b : Bool) → b ≡ true → ◌≡◌ {A = ℕ} (if b then 1 else 0) 1
        one_if true h = refl
        one_if false h = absurd (cc)

        token-few : (j : ℕ) → en.token ≡ Some j → j ≤ given_tokens (en ∷ E)
        token-few j is_j = omega (
          arith,
          next.token j is_j,
          count-more (λ (e : Entry). is_some e.token) en E,
          one_if
              (is_some en.token) (rw is_j refl),
        )

    room-now : given_tokens (en ∷ E) ≤ 9_999_999_999_999
    room-now = by_token en.token refl
      where
        by_token : (x : Option ℕ) → en.token ≡ x → given_tokens (en ∷ E) ≤ 9_999_999_999_999
        by_token None is_x = omega (
          arith,
          H.short,
          count-more (λ (e : Entry). is_some e.token) en E,
          none-if
              (is_some en.token) (rw is_x refl),
        )
        by_token (Some j) is_x = omega (
          arith,
          next.room j is_x,
          next.token j is_x,
          count-more
              (λ (e : Entry). is_some e.token) en E,
          one-at-most (is_some en.token),
        )

    pub taken-Holds : Holds terms (u ∷ before)
        × Each (IsTrueToMarket terms u before) (news (accepted terms (u ∷ before)))
    taken-Holds = (
      record {
        entries = rw taken (
          entry-new,
          Each-map (IsEntry terms E (orders_numbered before))
              (IsEntry terms (en ∷ E) (orders_numbered (u ∷ before))) E
              (entry-kept terms before en H next (orders_numbered (u ∷ before))
              (count-now terms before client m port r sends H)) H.entries,
        );
        short = rw taken room-now;
        records = rw taken (Each-map Both (HasRecord terms (u ∷ before)) (news (en ∷ E)) (λ e b. b.0) all-both);
        listed = λ c. rw taken (same-orders c);
        unread = λ k c above k_small. issued-now terms before client m port r sends H (λ xs. IsUnread (decimal k) xs) c
            (λ own_c. IsUnread-others (decimal k) (r ∷ []) (issued c before)
            (off-other (decimal k) (fresh k above k_small), tt)
            (H.unread k c (omega (arith, above, count-now terms before client m port r sends H)) k_small))
            (H.unread k c (omega (arith, above, count-now terms before client m port r sends H)) k_small);
        unheard = λ k p side above most. (let more : given_tokens (en ∷ E) < k = rw taken at above in
            H.unheard k p side (omega (arith, more, given-less terms before en H next)) most);
        unasked = λ k p above k_small. rw taken (none-else p (decimal k) (fresh k above k_small)
            ∙ H.unasked k p (omega (arith, above, count-now terms before client m port r sends H)) k_small);
        few = few-now terms before client m port r sends H;
      },
      rw taken (Each-map Both (IsTrueToMarket terms u before) (news (en ∷ E)) (λ e b. b.1) all-both),
    )
      where
        fresh : (k : ℕ) → orders_numbered (u ∷ before) < k → k < 10 ^ 64 → bytes_eq en.order (decimal k) ≡ false
        fresh k above k_small = rw order_is (eq-decimal_other n k
            (λ same. (omega (arith, same, is_few, above))) small k_small)
