-- A client's message keeps the table as the lists have it, and asks what the law asks.
use Rattle.std.proofs.Common.{◌≡◌, ℕ, ◌+◌, ◌*◌, ◌<◌, ◌≤◌, ◌^◌, Bool, true, false, List, [], ◌∷◌, ◌++◌, length, map}
use Rattle.std.proofs.Common.{reverse, refl, sym, ap, ◌∙◌, subst, arith, decimal, codes, bytes_eq, Option, Some, None}
use Rattle.std.proofs.Common.{eq-eqb}
use Rattle.std.specs.Prelude.{◌&&◌, ◌||◌, ◌==◌, if◌then◌else◌, is_some, filter, option_and_then, option_map}
use Rattle.std.specs.List.{count_by, find, list_any}
use Rattle.std.proofs.lemmas.List.Folds.{list_any-append}
use Rattle.order_law.specs.declared.stage.Stage.TheVariants.{Waiting}
use Rattle.fix_fields.specs.Field.{Message, text}
use Rattle.order_law.specs.Reading.{is_report, reading}
use Rattle.order_law.specs.Chain.{chain, is_used, named}
use Rattle.order_law.specs.Verdicts.{Accepted, Named, Port, Refused, Verdict, is_replace}
use Rattle.order_law.specs.History.{Asked, Came, Entry, last_token, OrderEvent, OrderHistory, Terms, OrderTurn}
use Rattle.order_law.specs.History.{accepted, asks_of, entry_at, given_tokens, handled, is_new_order, issued, new_of}
use Rattle.order_law.specs.History.{orders_numbered, outstanding, standing_of, terms_of, token_of, verdict}
use Rattle.order_law.specs.Told.{Shown, Told, accepted_new, accepted_request, newly_shown, plain, refusing_report}
use Rattle.order_law.specs.Told.{refused_request, report, reports_in, shown_in, shown, told_by_verdict}
use Rattle.order_law.specs.Told.{told_accepted_as}
use Rattle.order_law.specs.Told as law
use Rattle.order_law.specs.Headline.{Each}
use Rattle.order_machine.specs.OrderRecord.{OrderRecord, after_request, asked_replace, at, cancel_asked, entered}
use Rattle.order_machine.specs.OrderRecord.{live_token, new_asked, replacements, shown_as}
use Rattle.order_machine.specs.Told.{IsTold}
use Rattle.order_machine.specs.Table.{GivenToken, TableState, UsedId, record_by_id, has_used, is_named, is_same_id}
use Rattle.order_machine.specs.Table.{named_as, put, token_given, used_by, with_token}
use Rattle.order_machine.specs.Machine.{GivenByEvent, accept_new, accept_on, entry_of_new, entry_of_request, refuse_new}
use Rattle.order_machine.specs.Machine.{refuse_request, request_asked, verdict_in}
use Rattle.order_machine.proofs.Texts.{eq-decimal_other}
use Rattle.order_machine.proofs.Lists.{Each-filter, Each-map}
use Rattle.order_machine.proofs.Executed.{count-more}
use Rattle.order_machine.proofs.Finding.{Each-found}
use Rattle.order_machine.proofs.Leads.{same_some}
use Rattle.order_machine.proofs.Fits.{shown-is}
use Rattle.order_machine.proofs.Holds.{FitsIn, IsEntry, Still, StillBeside, news, port_of}
use Rattle.order_machine.proofs.Coming.{coming_turn, numbered-came}
use Rattle.order_machine.proofs.Came.{beside-new, fits-new, known-refused, new-refused, taken-new, unknown-refused}
use Rattle.order_machine.proofs.Verdicts.{request-says}
use Rattle.order_machine.proofs.Truth as truth
use Rattle.order_machine.proofs.Truth.{Next, RequestOf, turn-next}
use Rattle.order_machine.proofs.Linked.{HasOwnToken, IsTable, given-tokens, id-leads, named-so, verdict-same}
use Rattle.order_machine.proofs.Placed.{AreDistinct, Each-put, entries-put}

-- ---- ids

or-last : (a b c : Bool) → a ≡ b → (a || (c || false)) ≡ (c || b)
or-last true true true e = refl
or-last true true false e = refl
or-last true false c e = absurd (cc)
or-last false true c e = absurd (cc)
or-last false false true e = refl
or-last false false false e = refl

or-nothing : (a b : Bool) → a ≡ b → (a || (false || false)) ≡ b
or-nothing true b e = e
or-nothing false b e = e

-- the client's id is used then, and everybody else's are as before
used-push : (used : List UsedId) (client : ℕ) (m : Message) (port : Port) (r : Message) (sends : List (List ℕ))
    (before : OrderHistory) → text 11 r ≡ text 11 m
    → ((c : ℕ) (id : List ℕ) → has_used used c id ≡ is_used id (issued c before))
    → (c : ℕ) (id : List ℕ) → has_used (used ++ used_by client m ∷ []) c id
    ≡ is_used id (issued c (coming_turn client m port (r ∷ []) sends ∷ before))
used-push used client m port r sends before same known c id =
    list_any-append (is_same_id c id) used (used_by client m ∷ []) ∙ by_client (client == c)
  where
    by_client : (b : Bool) → (has_used used c id || ((b && bytes_eq (text 11 m) id) || false))
        ≡ is_used id (if b then reverse (r ∷ []) ++ issued c before else issued c before)
    by_client true = rw same (or-last (has_used used c id) (is_used id (issued c before)) (bytes_eq (text 11 m) id)
        (known c id))
    by_client false = or-nothing (has_used used c id) (is_used id (issued c before)) (known c id)

-- ---- tokens

token-pushed : (terms : List Terms) (e : Entry) (tokens : List GivenToken) (es : List Entry)
    → tokens ≡ map (token_given terms) (filter (λ (x : Entry). is_some x.token) es)
    → with_token terms e tokens ≡ map (token_given terms) (filter (λ (x : Entry). is_some x.token) (e ∷ es))
token-pushed terms e tokens es same = by_token (is_some e.token)
  where
    by_token : (b : Bool) → (if b then token_given terms e ∷ tokens else tokens)
        ≡ map (token_given terms) (if b then e ∷ filter (λ (x : Entry). is_some x.token) es else filter
        (λ (x : Entry). is_some x.token) es)
    by_token true = ap (λ ts. token_given terms e ∷ ts) same
    by_token false = same

one-if : (b : Bool) → b ≡ true → ◌≡◌ {A = ℕ} (if b then 1 else 0) 1
one-if true h = refl
one-if false h = absurd (cc)

none-if : (b : Bool) → b ≡ false → ◌≡◌ {A = ℕ} (if b then 1 else 0) 0
none-if true h = absurd (cc)
none-if false h = refl

module _ (terms : List Terms) (before : OrderHistory) (s : TableState) (t : IsTable terms before s) (short : length before < 2 ^ 59) (client : ℕ) (m : Message) (port : Port) (sends : List (List ℕ)) where
  abbrev A : List Entry
  A = accepted terms before

  abbrev event : OrderEvent
  event = Came client m port

  abbrev turn : List Message → OrderTurn
  turn bodies = coming_turn client m port bodies sends

  -- what a step has to do: the table that it gives is that of the lists, and it asks what they ask
  abbrev pub Steps : GivenByEvent → Type 0
  Steps g = IsTable terms (turn g.bodies ∷ before) g.state
      × (law.told terms event before ≡ record { client = client; bodies = g.bodies })
      × (g.asks ≡ asks_of terms (terms_of terms client).port (entry_at terms event before) A (issued client before)
      (handled (terms_of terms client).port before))

  reports_small : reports_in before < 10 ^ 64
  reports_small = omega (arith, t.few)

  next : (bodies : List Message) → law.told terms event before ≡ record { client = client; bodies = bodies }
      → Next terms (turn bodies) before
  next bodies tells = turn-next terms (turn bodies) before t.held short reports_small
      (record { tells = tells; fault = refl })

  told-now : (bodies : List Message) → law.told terms event before ≡ record { client = client; bodies = bodies }
      → IsTold terms (turn bodies ∷ before)
  told-now bodies tells = (record { tells = tells; fault = refl }, t.is_told)

  law-is : (w : Verdict) → verdict_in s client port m ≡ w → verdict terms (issued client before) A port m ≡ w
  law-is w v = sym (verdict-same terms before s t client m port) ∙ v

  -- ---- a message that is refused

  module _ (code : ℕ) (why : List ℕ) (r : Message) (v : verdict_in s client port m ≡ Refused code why)
      (tells : law.told terms event before ≡ record { client = client; bodies = r ∷ [] })
      (still : Still terms (turn (r ∷ [])) before) (own_id : text 11 r ≡ text 11 m) (order_ids exec_ids : ℕ)
      (orders_so : order_ids ≡ orders_numbered (turn (r ∷ []) ∷ before))
      (reports_so : exec_ids ≡ reports_in (turn (r ∷ []) ∷ before))
      (few : reports_in (turn (r ∷ []) ∷ before) ≤ 2 * length (turn (r ∷ []) ∷ before)) where
    none : entry_at terms event before ≡ None
    none = let w = law-is (Refused code why) v in rw w refl

    same_entries : accepted terms (turn (r ∷ []) ∷ before) ≡ A
    same_entries = let w = law-is (Refused code why) v in rw w refl

    refused-Table : IsTable terms (turn (r ∷ []) ∷ before)
        (record s { used = s.used ++ used_by client m ∷ []; order_ids = order_ids; exec_ids = exec_ids })
    refused-Table = record {
      same_terms = t.same_terms;
      held = (next (r ∷ []) tells).0;
      listed = t.listed ∙ ap news (sym same_entries);
      fit = Each-map (FitsIn terms before) (FitsIn terms (turn (r ∷ []) ∷ before)) s.orders still t.fit;
      distinct = subst (λ (es : List Entry). AreDistinct (news es)) (sym same_entries) t.distinct;
      tokens = t.tokens ∙ ap (λ (es : List Entry). map (token_given terms) (filter (λ (x : Entry). is_some x.token) es))
          (sym same_entries);
      replaces = subst (λ (es : List Entry). Each HasOwnToken es) (sym same_entries) t.replaces;
      used = used-push s.used client m port r sends before own_id t.used;
      order_ids = orders_so;
      exec_ids = reports_so;
      few = few;
      is_told = told-now (r ∷ []) tells;
    }

    refused-asks : [] ≡ asks_of terms (terms_of terms client).port (entry_at terms event before) A
        (issued client before) (handled (terms_of terms client).port before)
    refused-asks = rw none refl

  -- ---- a new order that is refused

  module _ (code : ℕ) (why : List ℕ) (v : verdict_in s client port m ≡ Refused code why) (new : is_new_order m ≡ true) where
    abbrev r_new : Message
    r_new = refusing_report (s.exec_ids + 1) (s.order_ids + 1) m code why

    same_new : refusing_report (reports_in before + 1) (orders_numbered before + 1) m code why ≡ r_new
    same_new =
        ap (λ (n : ℕ). refusing_report (n + 1) (orders_numbered before + 1) m code why) (sym t.exec_ids)
        ∙ ap (λ (n : ℕ). refusing_report (s.exec_ids + 1) (n + 1) m code why) (sym t.order_ids)

    tells_new : law.told terms event before ≡ record { client = client; bodies = r_new ∷ [] }
    tells_new =
        ap (λ (bodies : List Message). record { client = client; bodies = bodies })
        (ap (told_by_verdict terms client m port before) (law-is (Refused code why) v) ∙ rw new refl
        ∙ ap (λ (x : Message). x ∷ []) same_new)

    still_new : Still terms (turn (r_new ∷ [])) before
    still_new = subst (λ (x : Message). Still terms (turn (x ∷ [])) before) same_new
        (new-refused terms before client m port sends t.held short code why (law-is (Refused code why) v) new).2

    reports_new : s.exec_ids + 1 ≡ reports_in (turn (r_new ∷ []) ∷ before)
    reports_new = let one = count-more is_report r_new [] in omega (arith, t.exec_ids, one)

    pub refuse_new-Steps : Steps (refuse_new s client m code why)
    refuse_new-Steps = (
      refused-Table code why r_new v tells_new still_new refl (s.order_ids + 1) (s.exec_ids + 1)
          (let one = one-if (is_new_order m) new in let more = numbered-came client m port (r_new ∷ []) sends before in
          omega (arith, t.order_ids, one, more)) reports_new (omega (arith, t.few, t.exec_ids, reports_new)),
      tells_new,
      refused-asks code why r_new v tells_new still_new refl (s.order_ids + 1) (s.exec_ids + 1)
          (let one = one-if (is_new_order m) new in let more = numbered-came client m port (r_new ∷ []) sends before in
          omega (arith, t.order_ids, one, more)) reports_new (omega (arith, t.few, t.exec_ids, reports_new)),
    )

  -- ---- a request that is refused

  shown-so : (o : OrderRecord) → FitsIn terms before o → shown_in terms before (Some o.new.order) ≡ Some (shown_as o)
  shown-so o f = let known = f.known in rw known
      (ap Some (shown-is terms before (orders_numbered before) (outstanding terms (port_of terms o.new) before)
      (reports_in before) (1_000_000 * length before) o f))

  named-shown : (x : Option OrderRecord) → record_by_id s client (text 41 m) ≡ x
      → shown_in terms before (named (text 41 m) (issued client before)) ≡ option_map shown_as x
  named-shown x e = ap (shown_in terms before)
      (id-leads terms before s t client (text 41 m) ∙ ap (option_map (λ (o : OrderRecord). o.new.order)) e)
      ∙ by_found x e
    where
      by_found : (y : Option OrderRecord) → record_by_id s client (text 41 m) ≡ y
          → shown_in terms before (option_map (λ (o : OrderRecord). o.new.order) y) ≡ option_map shown_as y
      by_found None f = refl
      by_found (Some o) f = shown-so o (Each-found (FitsIn terms before)
          (is_named client (text 41 m)) s.orders o t.fit f)

  module _ (code : ℕ) (why : List ℕ) (v : verdict_in s client port m ≡ Refused code why) (old : is_new_order m ≡ false) where
    tells_old : (x : Option OrderRecord) → record_by_id s client (text 41 m) ≡ x
        → law.told terms event before ≡ record {
          client = client;
          bodies =
              refused_request m (option_map shown_as x) code why;
        }
    tells_old x e =
        ap (λ (bodies : List Message). record { client = client; bodies = bodies })
        (ap (told_by_verdict terms client m port before) (law-is (Refused code why) v) ∙ rw old refl
        ∙ ap (λ (y : Option Shown). refused_request m y code why) (named-shown x e))

    count_old : (bodies : List Message) → orders_numbered (turn bodies ∷ before) ≡ 0 + orders_numbered before
    count_old bodies = numbered-came client m port bodies sends before
        ∙ ap (λ n. n + orders_numbered before) (none-if (is_new_order m) old)

    one_reject : (r : Message) → is_report r ≡ false → reports_in (turn (r ∷ []) ∷ before) ≡ reports_in before
    one_reject r none = let one = count-more is_report r [] in let zero = none-if (is_report r) none in
        omega (arith, one, zero)

    abbrev Refuses : Option OrderRecord → Type 0
    Refuses x = IsTable terms (turn (refused_request m (option_map shown_as x) code why) ∷ before)
        (record s { used = s.used ++ used_by client m ∷ [] })
        × (law.told terms event before ≡ record {
          client = client;
          bodies =
              refused_request m (option_map shown_as x) code why;
        })
        × ([] ≡ asks_of terms (terms_of terms client).port (entry_at terms event before) A (issued client before)
        (handled (terms_of terms client).port before))

    by_one : (x : Option OrderRecord) (r : Message) → record_by_id s client (text 41 m) ≡ x
        → refused_request m (option_map shown_as x) code why ≡ r ∷ [] → text 11 r ≡ text 11 m → is_report r ≡ false
        → Still terms (turn (r ∷ [])) before → Refuses x
    by_one x r e one own_id none still =
        let tells : law.told terms event before ≡ record { client = client; bodies = r ∷ [] } = tells_old x e
        ∙ ap (λ (bodies : List Message). record { client = client; bodies = bodies }) one in
        let orders_so : s.order_ids ≡ orders_numbered (turn (r ∷ []) ∷ before) =
        (let more = count_old (r ∷ []) in omega (arith, t.order_ids, more)) in
        let reports_so : s.exec_ids ≡ reports_in (turn (r ∷ []) ∷ before) =
        (let more = one_reject r none in omega (arith, t.exec_ids, more)) in
        let few : reports_in (turn (r ∷ []) ∷ before) ≤ 2 * length (turn (r ∷ []) ∷ before) =
        (let more = one_reject r none in omega (arith, t.few, more)) in (
          subst (λ (bodies : List Message). IsTable terms (turn bodies ∷ before)
              (record s { used = s.used ++ used_by client m ∷ [] })) (sym one)
              (refused-Table code why r v tells still own_id s.order_ids s.exec_ids orders_so reports_so few),
          tells_old x e,
          refused-asks code why r v tells still own_id s.order_ids s.exec_ids orders_so reports_so few,
        )

    by_named : (x : Option OrderRecord) → record_by_id s client (text 41 m) ≡ x → Refuses x
    by_named None e =
        by_one None (law.reject (codes "NONE") (codes "8") m code why) e refl refl refl (unknown-refused terms before client m port sends t.held short code why (law-is (Refused code why) v) old).2
    by_named (Some o) e =
        let f = Each-found (FitsIn terms before) (is_named client (text 41 m)) s.orders o t.fit e in
        let is_shown : shown terms before o.new ≡ shown_as o =
        shown-is terms before (orders_numbered before) (outstanding terms (port_of terms o.new) before)
        (reports_in before) (1_000_000 * length before) o f in
        by_one (Some o) (law.reject o.new.order (law.status_of (shown_as o)) m code why) e refl refl refl
        (subst (λ (x : Shown). Still terms (turn (law.reject x.order (law.status_of x) m code why ∷ [])) before)
        is_shown
        (known-refused terms before client m port sends t.held short code why (law-is (Refused code why) v) old o.new
        (record { order = o; same = refl; fits = f })).2)

    pub refuse_request-Steps : Steps (refuse_request s client m code why)
    refuse_request-Steps = by_named (record_by_id s client (text 41 m)) refl

  -- ---- a new order that is accepted

  module _ (v : verdict_in s client port m ≡ Accepted) (new : is_new_order m ≡ true) where
    abbrev en : Entry
    en = record {
      client = client;
      message = m;
      order = decimal (orders_numbered before + 1);
      token =
          Some (given_tokens A + 1);
    }

    same_entry : en ≡ entry_of_new s client m
    same_entry =
        ap (λ (n : ℕ). record {
          client = client;
          message = m;
          order = decimal (n + 1);
          token =
              Some (given_tokens A + 1);
        }) (sym t.order_ids)
        ∙ ap (λ (n : ℕ). record {
          client = client;
          message = m;
          order = decimal (s.order_ids + 1);
          token =
              Some (n + 1);
        }) (sym (given-tokens terms before s t))

    taken : entry_at terms event before ≡ Some en
    taken = taken-new terms before client m port sends t.held short (law-is Accepted v) new

    abbrev a_new : Message
    a_new = report (reports_in before + 1) (plain (codes "A")) (newly_shown en)

    tells_a : law.told terms event before ≡ record { client = client; bodies = a_new ∷ [] }
    tells_a =
        ap (λ (bodies : List Message). record { client = client; bodies = bodies })
        (ap (told_by_verdict terms client m port before) (law-is Accepted v)
        ∙ ap (told_accepted_as terms m before) taken ∙ rw new refl)

    more_entries : accepted terms (turn (a_new ∷ []) ∷ before) ≡ en ∷ A
    more_entries = rw taken refl

    news-more : news (en ∷ A) ≡ en ∷ news A
    news-more = rw new refl

    apart : (n : ℕ) → n ≤ orders_numbered before → bytes_eq en.order (decimal n) ≡ false
    apart n few = eq-decimal_other (orders_numbered before + 1) n (λ same. (omega (arith, same, few)))
        (omega (arith, t.held.few)) (omega (arith, few, t.held.few))

    beside : StillBeside en.order terms (turn (a_new ∷ [])) before
    beside = beside-new terms before client m port sends t.held short (law-is Accepted v) new

    accepted-Table : IsTable terms (turn (a_new ∷ []) ∷ before) (record s {
      orders = entered en ∷ s.orders;
      tokens = with_token s.terms en s.tokens;
      used = s.used ++ used_by client m ∷ [];
      order_ids = s.order_ids + 1;
      exec_ids = s.exec_ids + 1;
    })
    accepted-Table = record {
      same_terms = t.same_terms;
      held = (next (a_new ∷ []) tells_a).0;
      listed = ap (λ es. en ∷ es) t.listed ∙ sym news-more ∙ ap news (sym more_entries);
      fit = (
        fits-new terms before client m port sends t.held short (law-is Accepted v) new,
        Each-map (FitsIn terms before) (FitsIn terms (turn (a_new ∷ []) ∷ before)) s.orders
            (λ x f. beside x f (ap (bytes_eq en.order) f.order_is ∙ apart f.number f.is_numbered)) t.fit,
      );
      distinct = subst (λ (es : List Entry). AreDistinct (news es)) (sym more_entries)
          (subst AreDistinct (sym news-more) (
            Each-filter (λ (x : Entry). bytes_eq en.order x.order ≡ false) (λ (x : Entry). is_new_order x.message) A
                (Each-map (IsEntry terms A (orders_numbered before)) (λ (x : Entry). bytes_eq en.order x.order ≡ false) A
                (λ x i. ap (bytes_eq en.order) i.order_is ∙ apart i.number i.is_numbered) t.held.entries),
            t.distinct,
          ));
      tokens = ap (λ (ts : List Terms). with_token ts en s.tokens) t.same_terms
          ∙ token-pushed terms en s.tokens A t.tokens
          ∙ ap (λ (es : List Entry). map (token_given terms) (filter (λ (x : Entry). is_some x.token) es))
          (sym more_entries);
      replaces = subst (λ (es : List Entry). Each HasOwnToken es) (sym more_entries) (λ kind. refl, t.replaces);
      used = used-push s.used client m port a_new sends before refl t.used;
      order_ids = let one = one-if (is_new_order m) new in let more =
          numbered-came client m port (a_new ∷ []) sends before in omega (arith, t.order_ids, one, more);
      exec_ids = let one = count-more is_report a_new [] in omega (arith, t.exec_ids, one);
      few = let one = count-more is_report a_new [] in omega (arith, t.few, one);
      is_told = told-now (a_new ∷ []) tells_a;
    }

    new-asks : new_asked s.terms en Waiting ≡ asks_of terms (terms_of terms client).port (entry_at terms event before) A
        (issued client before) (handled (terms_of terms client).port before)
    new-asks = ap (λ (ts : List Terms). new_asked ts en Waiting) t.same_terms
        ∙ rw (taken, eq-eqb (terms_of terms client).port (terms_of terms client).port refl, new) refl

    abbrev Accepts : Entry → ℕ → Type 0
    Accepts e n = IsTable terms (turn (accepted_new (n + 1) e) ∷ before) (record s {
      orders = entered e ∷ s.orders;
      tokens = with_token s.terms e s.tokens;
      used = s.used ++ used_by client m ∷ [];
      order_ids = s.order_ids + 1;
      exec_ids = s.exec_ids + 1;
    }) × (law.told terms event before ≡ record { client = client; bodies = accepted_new (n + 1) e })
        × (new_asked s.terms e Waiting ≡ asks_of terms (terms_of terms client).port (entry_at terms event before) A
        (issued client before) (handled (terms_of terms client).port before))

    pub accept_new-Steps : Steps (accept_new s client m)
    accept_new-Steps = subst (λ (e : Entry). Accepts e s.exec_ids) same_entry
        (subst (Accepts en) (sym t.exec_ids) (accepted-Table, tells_a, new-asks))

-- ---- a request that is accepted, on its order

pub after_request-new : (q : Entry) (o : OrderRecord) → (after_request q o).new ≡ o.new
after_request-new q o = by_kind (is_replace q.message)
  where
    by_kind : (b : Bool) → (if b then at o (o.replaces ++ q ∷ []) o.cancel else at o o.replaces
        (Some (record { request = q; tokens = live_token o ∷ replacements o.replaces }))).new ≡ o.new
    by_kind true = refl
    by_kind false = refl

-- one report, with the request's own id
record IsOneReport (m : Message) (bodies : List Message) : Type 0 where
  pub r : Message
  pub one : bodies ≡ r ∷ []
  pub own_id : text 11 r ≡ text 11 m
  pub reports : is_report r ≡ true

one-report : (n : ℕ) (q : Entry) (s : Shown) → IsOneReport q.message (accepted_request n q (Some s))
one-report n q s = by_kind (is_replace q.message)
  where
    by_kind : (b : Bool) → IsOneReport q.message (if b then law.accepted_replace n q s else law.accepted_cancel n q s)
    by_kind true = record { r = report n (law.on_request (codes "E") q) (law.with_request q s); one = refl; own_id = refl; reports = refl }
    by_kind false = record { r = report n (law.on_request (codes "6") q) (law.with_request q s); one = refl; own_id = refl; reports = refl }

module _ (terms : List Terms) (before : OrderHistory) (s : TableState) (t : IsTable terms before s)
    (short : length before < 2 ^ 59) (m : Message) (port : Port) (sends : List (List ℕ))
    (o : OrderRecord) (here : record_by_id s o.new.client (text 41 m) ≡ Some o) (v : verdict_in s o.new.client port m ≡ Accepted) (old : is_new_order m ≡ false) where
  abbrev c : ℕ
  c = o.new.client

  abbrev E : List Entry
  E = accepted terms before

  f : FitsIn terms before o
  f = Each-found (FitsIn terms before) (is_named c (text 41 m)) s.orders o t.fit here

  law_v : verdict terms (issued c before) E port m ≡ Accepted
  law_v = law-is terms before s t short c m port sends Accepted v

  is_named_so : named (text 41 m) (issued c before) ≡ Some o.new.order
  is_named_so = id-leads terms before s t c (text 41 m) ∙ ap (option_map (λ (x : OrderRecord). x.new.order)) here

  says : RequestOf terms before m port c
  says = request-says (issued c before) (option_and_then (standing_of terms (issued c before) E)
      (named (text 41 m) (issued c before))) port (given_tokens E) m (rw old at law_v)

  stands : says.n ≡ named_as s o
  stands = same_some says.n (named_as s o) (sym says.is_n
      ∙ (named-so terms before s t c (text 41 m) ∙ ap (option_map (named_as s)) here))

  reading_so : says.n.reading ≡ reading o.new.order (issued c before)
  reading_so = ap (λ (x : Named). x.reading) stands ∙ sym f.reads.read_so

  chain_so : says.n.chain ≡ chain o.new.order (issued c before)
  chain_so = ap (λ (x : Named). x.chain) stands ∙ sym f.reads.chained_so

  abbrev q : Entry
  q = truth.entry terms before m port sends t.held short o f law_v old is_named_so says reading_so chain_so

  same_entry' : q ≡ entry_of_request s c m o
  same_entry' = ap (λ (n : ℕ). record {
    client = c;
    message = m;
    order = o.new.order;
    token =
        if is_replace m then Some (n + 1) else None;
  }) (sym (given-tokens terms before s t))

  taken' : entry_at terms (Came c m port) before ≡ Some q
  taken' = rw (law_v, old, is_named_so) refl

  abbrev bodies : List Message
  bodies = accepted_request (reports_in before + 1) q (Some (shown_as o))

  tells' : law.told terms (Came c m port) before ≡ record { client = c; bodies = bodies }
  tells' = ap (λ (rs : List Message). record { client = c; bodies = rs })
      (truth.told-as terms before m port sends t.held short o f law_v old is_named_so says reading_so chain_so)

  abbrev w : OrderTurn
  w = coming_turn c m port bodies sends

  fits : FitsIn terms (w ∷ before) (after_request q o) × StillBeside o.new.order terms w before
  fits = subst (truth.Then terms before m port sends t.held short o f law_v old is_named_so says reading_so chain_so)
      (truth.told-as terms before m port sends t.held short o f law_v old is_named_so says reading_so chain_so)
      (truth.accepted-fits terms before m port sends t.held short o f law_v old is_named_so says reading_so chain_so)

  abbrev p : OrderRecord
  p = after_request q o

  p-new : p.new ≡ o.new
  p-new = after_request-new q o

  same-known : (x : OrderRecord) → FitsIn terms before x → x.new.order ≡ p.new.order → x.new ≡ p.new
  same-known x g same = same_some x.new o.new
      (sym g.known ∙ ap (λ (k : List ℕ). new_of k E) (same ∙ ap (λ (e : Entry). e.order) p-new) ∙ f.known) ∙ sym p-new

  more_entries' : accepted terms (w ∷ before) ≡ q ∷ E
  more_entries' = rw taken' refl

  news-same : news (q ∷ E) ≡ news E
  news-same = rw old refl

  one : IsOneReport m bodies
  one = one-report (reports_in before + 1) q (shown_as o)

  issued-one : (x : ℕ) (id : List ℕ) → has_used (s.used ++ used_by c m ∷ []) x id ≡ is_used id (issued x (w ∷ before))
  issued-one x id = subst (λ (rs : List Message). has_used (s.used ++ used_by c m ∷ []) x id
      ≡ is_used id (issued x (coming_turn c m port rs sends ∷ before))) (sym one.one)
      (used-push s.used c m port one.r sends before one.own_id t.used x id)

  one-more : reports_in (w ∷ before) ≡ 1 + reports_in before
  one-more = ap (λ (rs : List Message). count_by is_report rs + reports_in before) one.one
      ∙ (let more = count-more is_report one.r [] in let yes_one = one-if (is_report one.r) one.reports in
      omega (arith, more, yes_one))

  request-Table : IsTable terms (w ∷ before)
      (record s {
        orders = put p s.orders;
        tokens = with_token s.terms q s.tokens;
        used =
            s.used ++ used_by c m ∷ [];
        exec_ids = s.exec_ids + 1;
      })
  request-Table = record {
    same_terms = t.same_terms;
    held = (next terms before s t short c m port sends bodies tells').0;
    listed = entries-put (FitsIn terms before) p s.orders same-known t.fit ∙ t.listed ∙ sym news-same
        ∙ ap news (sym more_entries');
    fit = Each-put (FitsIn terms before) (FitsIn terms (w ∷ before)) p fits.0
        (λ x g apart. fits.1 x g (ap (λ (e : Entry). bytes_eq e.order x.new.order) (sym p-new) ∙ apart)) s.orders
        (subst AreDistinct (sym t.listed) t.distinct) t.fit;
    distinct = subst (λ (es : List Entry). AreDistinct (news es)) (sym more_entries')
        (subst AreDistinct (sym news-same) t.distinct);
    tokens = ap (λ (ts : List Terms). with_token ts q s.tokens) t.same_terms ∙ token-pushed terms q s.tokens E t.tokens
        ∙ ap (λ (es : List Entry). map (token_given terms) (filter (λ (x : Entry). is_some x.token) es))
        (sym more_entries');
    replaces = subst (λ (es : List Entry). Each HasOwnToken es) (sym more_entries') (λ kind. rw kind refl, t.replaces);
    used = issued-one;
    order_ids = let more = numbered-came c m port bodies sends before in let zero = none-if (is_new_order m) old in
        omega (arith, t.order_ids, more, zero);
    exec_ids = omega (arith, t.exec_ids, one-more);
    few = omega (arith, t.few, one-more);
    is_told = told-now terms before s t short c m port sends bodies tells';
  }

  request-asks : request_asked q o ≡ asks_of terms (terms_of terms c).port (entry_at terms (Came c m port) before) E
      (issued c before) (handled (terms_of terms c).port before)
  request-asks = sym (ap (λ (x : Option Entry). asks_of terms (terms_of terms c).port x E (issued c before)
      (handled (terms_of terms c).port before)) taken'
      ∙ rw (eq-eqb (terms_of terms c).port (terms_of terms c).port refl, old) (by_kind (is_replace m)))
    where
      live-so : Rattle.order_law.specs.Life.live
          (Rattle.order_law.specs.History.life_of o.new.order E (handled (port_of terms o.new) before)) ≡ live_token o
      live-so = ap Rattle.order_law.specs.Life.live
          (Rattle.order_machine.proofs.Fits.life-of terms E (orders_numbered before) (issued c before)
          (handled (port_of terms o.new) before) (outstanding terms (port_of terms o.new) before) (reports_in before)
          (1_000_000 * length before) o f)

      tokens-so : Rattle.order_law.specs.History.pending_tokens c (chain o.new.order (issued c before)) E
          ≡ replacements o.replaces
      tokens-so = ap (λ (x : Rattle.order_law.specs.Chain.Chain). Rattle.order_law.specs.History.pending_tokens c x E)
          f.reads.chained_so
          ∙ Rattle.order_machine.proofs.Fits.tokens-are terms E (orders_numbered before) (issued c before)
          (handled (port_of terms o.new) before) (outstanding terms (port_of terms o.new) before)
          (reports_in before) (1_000_000 * length before) o f

      by_kind : (b : Bool)
          → (if b then record {
            order = o.new.order;
            id = text 11 m;
            said =
                Rattle.order_law.specs.History.SaysReplace
                (last_token (Rattle.order_law.specs.Life.live
                (Rattle.order_law.specs.History.life_of o.new.order E (handled (port_of terms o.new) before)))
                (Rattle.order_law.specs.History.pending_tokens c (chain o.new.order (issued c before)) E))
                (token_of q);
            ask = Rattle.order_law.specs.Asks.asked_by_request
                (Rattle.std.specs.Str.Parse.digits_value 10 o.new.order) m;
          } ∷ []
          else map (λ token. record {
            order = o.new.order;
            id = text 11 m;
            said =
                Rattle.order_law.specs.History.SaysCancel token;
            ask =
                Rattle.order_law.specs.Asks.asked_by_request (Rattle.std.specs.Str.Parse.digits_value 10 o.new.order) m;
          })
          (Rattle.order_law.specs.Life.live (Rattle.order_law.specs.History.life_of o.new.order E
          (handled (port_of terms o.new) before)) ∷ Rattle.order_law.specs.History.pending_tokens c
          (chain o.new.order (issued c before)) E))
          ≡ (if b then asked_replace o.new (last_token (live_token o) (replacements o.replaces)) q ∷ [] else
          cancel_asked o.new (Some (record { request = q; tokens = live_token o ∷ replacements o.replaces })))
      by_kind true = rw (live-so, tokens-so) refl
      by_kind false = rw (live-so, tokens-so) refl

  abbrev Asks : Entry → ℕ → Type 0
  Asks e n = IsTable terms (coming_turn c m port (accepted_request (n + 1) e (Some (shown_as o))) sends ∷ before)
      (record s {
        orders = put (after_request e o) s.orders;
        tokens = with_token s.terms e s.tokens;
        used =
            s.used ++ used_by c m ∷ [];
        exec_ids = s.exec_ids + 1;
      })
      × (law.told terms (Came c m port) before ≡ record
      { client = c; bodies = accepted_request (n + 1) e (Some (shown_as o)) })
      × (request_asked e o ≡ asks_of terms (terms_of terms c).port (entry_at terms (Came c m port) before) E
      (issued c before) (handled (terms_of terms c).port before))

  pub accept_on-Steps : Steps terms before s t short c m port sends (accept_on s c m (Some o))
  accept_on-Steps = subst (λ (e : Entry). Asks e s.exec_ids) same_entry'
      (subst (Asks q) (sym t.exec_ids) (request-Table, tells', request-asks))
