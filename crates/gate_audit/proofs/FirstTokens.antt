-- In every history of the order level that has the headline, the orders that reports open are the accepted new orders,
-- each with its
-- own token: by the reports as many tokens were given as by the accepted messages.
use Rattle.std.proofs.Common.{◌≡◌, ℕ, ◌+◌, Bool, true, false, List, [], ◌∷◌, ◌++◌, map, reverse, refl, sym, ap, ◌∙◌}
use Rattle.std.proofs.Common.{subst, arith, codes, Option, Some, None, append_assoc}
use Rattle.std.specs.Prelude.{◌||◌, ◌&&◌, if◌then◌else◌, option_and_then, unwrap_or}
use Rattle.std.proofs.lemmas.List.{reverse-append}
use Rattle.gate_law.specs.fix_fields.Field.{Message, character, is, text}
use Rattle.order_law.specs.Reading.{is_report}
use Rattle.order_law.specs.Verdicts.{Accepted, Named, Port, Refused, Verdict, is_replace}
use Rattle.order_law.specs.Chain.{named}
use Rattle.order_law.specs.History.{Came, Entry, OrderEvent, Heard, OrderHistory, Terms, OrderTurn, accepted}
use Rattle.order_law.specs.History.{given_tokens, is_new_order, issued, new_of, standing_of, token_of}
use Rattle.order_law.specs.Headline.{Each, Headline, said_in}
use Rattle.order_law.specs.Told as law
use Rattle.order_law.specs.Told.{Shown, Told, told, told_accepted_as, told_by_verdict, reports_in, shown, shown_in}
use Rattle.gate_core.proofs.order_machine.Executed.{count-more}
use Rattle.gate_core.proofs.order_machine.Verdicts.{RequestSays, request-says}
use Rattle.gate_audit.specs.Read.{opens_new_order}
use Rattle.gate_audit.specs.Pairs.{OpenedOrder, SaidToClient, gives_token, opened_order_at, opened_orders, said_to}
use Rattle.gate_audit.specs.Pairs.{tokens_given}
use Rattle.gate_audit.proofs.Entries.{heard-accepted, new-accepted, new_entry, news, none-accepted, request-accepted}
use Rattle.gate_audit.proofs.Entries.{request_entry, taken-new, taken-request, verdict_at}
use Rattle.gate_audit.proofs.NoTokens.{GivesNone, market-none, refused-none}
use Rattle.gate_audit.proofs.Said.{said_turns}

-- an accepted new order, as the report of it opens it
abbrev pub started : Entry → OpenedOrder
started new = record {
  client = new.client;
  order = new.order;
  id = text 11 new.message;
  side =
      character 54 new.message;
  root = token_of new;
}

pub record IsTold (terms : List Terms) (h : OrderHistory) : Type 0 where
  pub count : tokens_given (said_turns h) ≡ given_tokens (accepted terms h)
  pub same : opened_orders (said_turns h) ≡ map started (news (accepted terms h))

-- ---- bodies that give no token

abbrev onto_said : ℕ → List Message → List SaidToClient → List SaidToClient
onto_said c [] all = all
onto_said c (r ∷ rs) all = onto_said c rs (said_to c r ∷ all)

onto-reverse : (c : ℕ) (rs : List Message) (all : List SaidToClient)
    → reverse (map (said_to c) rs) ++ all ≡ onto_said c rs all
onto-reverse c [] all = refl
onto-reverse c (r ∷ rs) all =
    let turned : reverse (map (said_to c) (r ∷ rs)) ≡ reverse (map (said_to c) rs) ++ said_to c r ∷ [] =
    reverse-append (said_to c r ∷ []) (map (said_to c) rs) in
    ap (λ xs. xs ++ all) turned ∙ append_assoc (reverse (map (said_to c) rs)) (said_to c r ∷ []) all
    ∙ onto-reverse c rs (said_to c r ∷ all)

more-count : (x : SaidToClient) (all : List SaidToClient) (b : Bool) → gives_token x.report ≡ b
    → tokens_given (x ∷ all) ≡ (if b then 1 else 0) + tokens_given all
more-count x all b is_b = count-more (λ (y : SaidToClient). gives_token y.report) x all
    ∙ ap (λ (g : Bool). (if g then 1 else 0) + tokens_given all) is_b

quiet-count : (c : ℕ) (rs : List Message) (all : List SaidToClient) → Each GivesNone rs
    → tokens_given (onto_said c rs all) ≡ tokens_given all
quiet-count c [] all none = refl
quiet-count c (r ∷ rs) all none =
    let one : tokens_given (said_to c r ∷ all) ≡ 0 + tokens_given all = more-count (said_to c r) all false none.0 in
    let rest = quiet-count c rs (said_to c r ∷ all) none.1 in omega (arith, one, rest)

narrower : (a b c : Bool) → (a && (b || c)) ≡ false → (a && b) ≡ false
narrower false b c e = refl
narrower true true c e = e
narrower true false c e = refl

opens-none : (r : Message) → gives_token r ≡ false → opens_new_order r ≡ false
opens-none r none = narrower (is_report r) (is 150 (codes "A") r) (is 150 (codes "E") r) none

quiet-opened : (c : ℕ) (rs : List Message) (all : List SaidToClient) → Each GivesNone rs
    → opened_orders (onto_said c rs all) ≡ opened_orders all
quiet-opened c [] all none = refl
quiet-opened c (r ∷ rs) all none = quiet-opened c rs (said_to c r ∷ all) none.1 ∙ rw (opens-none r none.0) refl

-- a turn that gives no token
quiet-told : (terms : List Terms) (t : OrderTurn) (before : OrderHistory) → Each GivesNone t.bodies
    → given_tokens (accepted terms (t ∷ before)) ≡ given_tokens (accepted terms before)
    → map started (news (accepted terms (t ∷ before))) ≡ map started (news (accepted terms before))
    → IsTold terms before → IsTold terms (t ∷ before)
quiet-told terms t before none same_count same_news told = record {
  count = ap tokens_given (onto-reverse t.client t.bodies (said_turns before))
      ∙ quiet-count t.client t.bodies (said_turns before) none ∙ told.count ∙ sym same_count;
  same = ap opened_orders (onto-reverse t.client t.bodies (said_turns before))
      ∙ quiet-opened t.client t.bodies (said_turns before) none ∙ told.same ∙ sym same_news;
}

-- ---- a client's message

module _ (terms : List Terms) (t : OrderTurn) (before : OrderHistory) (client : ℕ) (m : Message) (port : Port) (is_e : t.event ≡ Came client m port) (tells : told terms (Came client m port) before ≡ said_in t) (earlier : IsTold terms before) where
  abbrev A : List Entry
  A = accepted terms before

  abbrev S : List SaidToClient
  S = said_turns before

  abbrev own_verdict : Verdict
  own_verdict = verdict_at terms before client m port

  is_client : t.client ≡ client
  is_client = ap (λ (x : Told). x.client) (sym tells)

  is_bodies : t.bodies ≡ told_by_verdict terms client m port before own_verdict
  is_bodies = ap (λ (x : Told). x.bodies) (sym tells)

  -- one body alone
  now-said : (r : Message) → t.bodies ≡ r ∷ [] → said_turns (t ∷ before) ≡ said_to client r ∷ S
  now-said r is_r = ap (λ (c : ℕ). reverse (map (said_to c) t.bodies) ++ S) is_client
      ∙ ap (λ (rs : List Message). reverse (map (said_to client) rs) ++ S) is_r

  count-said : (r : Message) → t.bodies ≡ r ∷ [] → gives_token r ≡ true
      → tokens_given (said_turns (t ∷ before)) ≡ 1 + given_tokens A
  count-said r is_r gives = ap tokens_given (now-said r is_r) ∙ more-count (said_to client r) S true gives
      ∙ ap (λ (n : ℕ). 1 + n) earlier.count

  -- a new order that is accepted opens its order, with its token
  new-told : own_verdict ≡ Accepted → is_new_order m ≡ true → IsTold terms (t ∷ before)
  new-told v new = record { count = count-said r own_bodies refl ∙ sym count_now; same = opened_now }
    where
      entry : Entry
      entry = new_entry terms before client m

      r : Message
      r = law.report (reports_in before + 1) (law.plain (codes "A")) (law.newly_shown entry)

      own_bodies : t.bodies ≡ r ∷ []
      own_bodies = is_bodies ∙ (ap (told_by_verdict terms client m port before) v
          ∙ (ap (told_accepted_as terms m before) (taken-new terms t before client m port is_e v new) ∙ rw new refl))

      accepted_now : accepted terms (t ∷ before) ≡ entry ∷ A
      accepted_now = new-accepted terms t before client m port is_e v new

      count_now : given_tokens (accepted terms (t ∷ before)) ≡ 1 + given_tokens A
      count_now = ap given_tokens accepted_now ∙ count-more _ entry A

      number : tokens_given (said_to client r ∷ S) ≡ given_tokens A + 1
      number = (let it : tokens_given (said_to client r ∷ S) ≡ 1 + given_tokens A =
          more-count (said_to client r) S true refl ∙ ap (λ (n : ℕ). 1 + n) earlier.count in omega (arith, it))

      opened_now : opened_orders (said_turns (t ∷ before)) ≡ map started (news (accepted terms (t ∷ before)))
      opened_now =
          let left : opened_orders (said_to client r ∷ S)
          ≡ opened_order_at (tokens_given (said_to client r ∷ S)) (said_to client r) ∷ opened_orders S = refl in
          let right : map started (news (entry ∷ A)) ≡ started entry ∷ map started (news A) = rw new refl in
          ap opened_orders (now-said r own_bodies) ∙ left
          ∙ ap (λ (n : ℕ). opened_order_at n (said_to client r) ∷ opened_orders S) number
          ∙ ap (λ (os : List OpenedOrder). started entry ∷ os) earlier.same
          ∙ sym right ∙ ap (λ (es : List Entry). map started (news es)) (sym accepted_now)

  -- the order that an accepted request names is known
  shown-known : (n : Named) (x : Option (List ℕ))
      → option_and_then (standing_of terms (issued client before) A) x ≡ Some n
      → (s : Shown) × (shown_in terms before (Some (unwrap_or x [])) ≡ Some s)
  shown-known n None e = absurd (cc)
  shown-known n (Some k) e = by_new (new_of k A) refl
    where
      by_new : (x : Option Entry) → new_of k A ≡ x → (s : Shown) × (shown_in terms before (Some k) ≡ Some s)
      by_new None is_x = absurd (let none : ◌≡◌ {A = Option Named} None (Some n) = rw is_x at e in cc)
      by_new (Some new) is_x = (shown terms before new, rw is_x refl)

  -- a replace that is accepted gives a token and opens no order; a cancel gives none
  request-told : own_verdict ≡ Accepted → is_new_order m ≡ false → IsTold terms (t ∷ before)
  request-told v old = by_kind (is_replace m) refl
    where
      entry : Entry
      entry = request_entry terms before client m

      says : RequestSays (issued client before)
          (option_and_then (standing_of terms (issued client before) A) (named (text 41 m) (issued client before)))
          (given_tokens A) m
      says = request-says (issued client before)
          (option_and_then (standing_of terms (issued client before) A) (named (text 41 m) (issued client before))) port
          (given_tokens A) m (rw old at v)

      its_order : (s : Shown) × (shown_in terms before (Some entry.order) ≡ Some s)
      its_order = shown-known says.n (named (text 41 m) (issued client before)) says.is_n

      own_bodies : t.bodies ≡ law.accepted_request (reports_in before + 1) entry (Some its_order.0)
      own_bodies =
          let asked : told_accepted_as terms m before (Some entry)
          ≡ law.accepted_request (reports_in before + 1) entry (shown_in terms before (Some entry.order)) =
          rw old refl in
          is_bodies ∙ ap (told_by_verdict terms client m port before) v
          ∙ ap (told_accepted_as terms m before) (taken-request terms t before client m port is_e v old)
          ∙ asked ∙ ap (law.accepted_request (reports_in before + 1) entry) its_order.1

      accepted_now : accepted terms (t ∷ before) ≡ entry ∷ A
      accepted_now = request-accepted terms t before client m port is_e v old

      news_now : map started (news (accepted terms (t ∷ before))) ≡ map started (news A)
      news_now = (let same : map started (news (entry ∷ A)) ≡ map started (news A) = rw old refl in
          ap (λ (es : List Entry). map started (news es)) accepted_now ∙ same)

      by_kind : (b : Bool) → is_replace m ≡ b → IsTold terms (t ∷ before)
      by_kind true replaces = record {
        count = count-said r is_r refl ∙ sym count_now;
        same = ap opened_orders (now-said r is_r) ∙ earlier.same ∙ sym news_now;
      }
        where
          r : Message
          r = law.report (reports_in before + 1) (law.on_request (codes "E") entry) (law.with_request entry its_order.0)

          is_r : t.bodies ≡ r ∷ []
          is_r = own_bodies ∙ ap (λ (b : Bool). if b then law.accepted_replace
              (reports_in before + 1) entry its_order.0 else law.accepted_cancel
              (reports_in before + 1) entry its_order.0) replaces

          count_now : given_tokens (accepted terms (t ∷ before)) ≡ 1 + given_tokens A
          count_now = ap given_tokens accepted_now ∙ count-more _ entry A ∙ rw replaces refl
      by_kind false cancels = quiet-told terms t before none count_now news_now earlier
        where
          r : Message
          r = law.report (reports_in before + 1) (law.on_request (codes "6") entry) (law.with_request entry its_order.0)

          is_r : t.bodies ≡ r ∷ []
          is_r = own_bodies ∙ ap (λ (b : Bool). if b then law.accepted_replace
              (reports_in before + 1) entry its_order.0 else law.accepted_cancel
              (reports_in before + 1) entry its_order.0) cancels

          none : Each GivesNone t.bodies
          none = subst (Each GivesNone) (sym is_r) (refl, tt)

          count_now : given_tokens (accepted terms (t ∷ before)) ≡ given_tokens A
          count_now =
              let none_more : given_tokens (entry ∷ A) ≡ 0 + given_tokens A = count-more _ entry A ∙ rw cancels refl in
              ap given_tokens accepted_now ∙ omega (arith, none_more)

  refused-told : (code : ℕ) (why : List ℕ) → own_verdict ≡ Refused code why → IsTold terms (t ∷ before)
  refused-told code why v =
      quiet-told terms t before (subst (Each GivesNone)
      (sym (is_bodies ∙ ap (told_by_verdict terms client m port before) v))
      (refused-none terms client m port before code why))
      (ap given_tokens same_accepted) (ap (λ (es : List Entry). map started (news es)) same_accepted) earlier
    where
      same_accepted : accepted terms (t ∷ before) ≡ A
      same_accepted = none-accepted terms t before client m port is_e code why v

  came-told : IsTold terms (t ∷ before)
  came-told = by_verdict own_verdict refl (is_new_order m) refl
    where
      by_verdict : (v : Verdict) → own_verdict ≡ v → (b : Bool) → is_new_order m ≡ b → IsTold terms (t ∷ before)
      by_verdict Accepted v true new = new-told v new
      by_verdict Accepted v false old = request-told v old
      by_verdict (Refused code why) v b is_b = refused-told code why v

-- ---- a turn, and a history

turn-told : (terms : List Terms) (t : OrderTurn) (before : OrderHistory) → told terms t.event before ≡ said_in t
    → IsTold terms before → IsTold terms (t ∷ before)
turn-told terms t before tells earlier = by_event t.event refl tells
  where
    by_event : (e : OrderEvent) → t.event ≡ e → told terms e before ≡ said_in t → IsTold terms (t ∷ before)
    by_event (Came client m port) is_e tells = came-told terms t before client m port is_e tells earlier
    by_event (Heard p heard) is_e tells =
        let same_accepted : accepted terms (t ∷ before) ≡ accepted terms before =
        heard-accepted terms t before p heard is_e in
        quiet-told terms t before (subst (Each GivesNone) (ap (λ (x : Told). x.bodies) tells)
        (market-none terms p heard before))
        (ap given_tokens same_accepted) (ap (λ (es : List Entry). map started (news es)) same_accepted) earlier

pub headline-told : (terms : List Terms) (h : OrderHistory) → Headline terms h → IsTold terms h
headline-told terms [] headline = record { count = refl; same = refl }
headline-told terms (t ∷ before) headline =
    turn-told terms t before headline.0.tells (headline-told terms before headline.1)
