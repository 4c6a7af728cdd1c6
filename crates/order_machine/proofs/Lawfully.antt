-- A lawful message on an order keeps what every told history keeps, and each order true.
use Rattle.std.proofs.Common.{◌≡◌, ◌≢◌, ℕ, ◌+◌, ◌*◌, ◌<◌, ◌≤◌, ◌^◌, Bool, true, false, List, [], ◌∷◌, ◌++◌, length}
use Rattle.std.proofs.Common.{map, reverse, refl, sym, ap, ◌∙◌, subst, arith, decimal, bytes_eq, Option, Some}
use Rattle.std.proofs.Common.{None, Ok, eqb-true, eq-eqb, ne_eqb}
use Rattle.std.specs.Prelude.{◌&&◌, ◌||◌, ◌==◌, not, if◌then◌else◌, is_some}
use Rattle.std.specs.List.{count_by, find, list_any}
use Rattle.tokens.specs.TokenText.{token_text}
use Rattle.order_law.specs.ouch_codec.declared.outbound.Outbound.{Outbound}
use Rattle.order_law.specs.ouch_codec.declared.outbound.Outbound.TheVariants as market
use Rattle.fix_fields.specs.Field.{Message, character, is}
use Rattle.order_law.specs.Life.{Life, after, is_closed, life}
use Rattle.order_law.specs.Reading.{is_report}
use Rattle.order_law.specs.Chain.{chain, is_used, orders}
use Rattle.order_law.specs.History.{Asked, Entry, Heard, OrderHistory, Terms, OrderTurn, accepted, answers}
use Rattle.order_law.specs.History.{given_tokens, handled, is_new_order, issued, life_of, new_of, orders_numbered}
use Rattle.order_law.specs.History.{is_answered, next_tokens, outstanding, pending_tokens, terms_of, token_of}
use Rattle.order_law.specs.Lawful.{has_token, judgement, order_of_token, order_token}
use Rattle.order_law.specs.Told.{Told, answers_last_cancel, price_after, priced, reports_in, told, told_by, told_on}
use Rattle.order_law.specs.Told.{told_of_entry}
use Rattle.order_law.specs.Headline.{Each, IsTrueToMarket, ReadsWell, old_ids}
use Rattle.order_machine.specs.OrderRecord.{after_message, OrderRecord, asked_as, fill_of, record_life, replacements}
use Rattle.order_machine.specs.OrderRecord.{shown_as}
use Rattle.order_machine.proofs.Texts.{and-parts, eq-decimal_other, eq-is, eq-other, eq-same, token-same}
use Rattle.order_machine.proofs.Lists.{Each-map, found-passes}
use Rattle.order_machine.proofs.Due.{IsUnread, IsUnread-others, Others, Reads, Reads-others, ReadsWell-others}
use Rattle.order_machine.proofs.Leads.{onto, same_some}
use Rattle.order_machine.proofs.Moves.{Keeps, Moves, answers_last, unanswered}
use Rattle.order_machine.proofs.Addressed.{IsOn, on-others, onto-reverse, orders-onto, others-onto, told-on, used-onto}
use Rattle.order_machine.proofs.Fits.{IsFound, IsHome, IsUsed, life-of, named, next-own, own, shown-is, tokens-are}
use Rattle.std.proofs.Common.{ℕ}
use Rattle.order_machine.proofs.Holds.{FitsIn, HasRecord, Holds, IsEntry, Keeps-more, Of-used, PassesOver, news}
use Rattle.order_machine.proofs.Holds.{orders_of, port_of, true-of, each-find}
use Rattle.order_machine.proofs.Untouched.{apart-home, born-passes, other-untouched, tokens_in}
use Rattle.order_machine.proofs.Judged.{IsLawful}
use Rattle.order_machine.proofs.Row.{oldest-is, row-moves}
use Rattle.order_machine.proofs.Hearing.{asked-as, asked-now, closed-asked, untouched-fits, heard_turn, numbered-heard}
use Rattle.order_law.specs.Lawful.{is_first, row_holds, same_terms, works_as}
use Rattle.order_law.specs.Reading.{Reading, reading, Fill}
use Rattle.order_law.specs.Told.{Shown, shown}
use Rattle.order_law.specs.History.{is_cancel_said}
use Rattle.std.specs.Prelude.{unwrap_or}
use Rattle.order_machine.proofs.Texts.{eq-true}

-- ---- whose order a token is

pub record IsToken (terms : List Terms) (before : OrderHistory) (port : ℕ) (token : List ℕ) (new : Entry) : Type 0 where
  pub entry : Entry
  pub found : new_of entry.order (accepted terms before) ≡ Some new
  pub on_port : port_of terms new ≡ port
  pub number : ℕ
  pub is_text : token ≡ token_text number
  pub is_given : number ≤ given_tokens (accepted terms before)
  pub order : ℕ
  pub order_is : new.order ≡ decimal order
  pub is_numbered : order ≤ orders_numbered before

token-number : (e : Entry) → is_some e.token ≡ true → (n : ℕ) × (e.token ≡ Some n)
token-number e some = by_token e.token refl some
  where
    by_token : (x : Option ℕ) → e.token ≡ x → is_some x ≡ true → (n : ℕ) × (e.token ≡ Some n)
    by_token None is some = absurd (cc)
    by_token (Some n) is some = (n, is)

pub token-of : (terms : List Terms) (before : OrderHistory) (port : ℕ) (token : List ℕ) (new : Entry)
    → Holds terms before → order_of_token terms port (accepted terms before) token ≡ Some new
    → IsToken terms before port token new
token-of terms before port token new H on = by_found (find (has_token terms port token) (accepted terms before)) refl on
  where
    entry-token : (e : Entry) → new_of e.order (accepted terms before) ≡ Some new → has_token terms port token e ≡ true
        → IsEntry terms (accepted terms before) (orders_numbered before) e → IsToken terms before port token new
    entry-token e found has i =
        let parts = and-parts (is_some e.token) ((terms_of terms e.client).port == port && bytes_eq (token_of e) token)
        has in
        let rest = and-parts ((terms_of terms e.client).port == port) (bytes_eq (token_of e) token) parts.1 in
        let n = token-number e parts.0 in
        let same_new : i.new ≡ new = same_some i.new new (sym i.found ∙ found) in
        let own_order : new.order ≡ e.order = eq-is new.order e.order
        (and-parts (bytes_eq new.order e.order) (is_new_order new.message)
        (found-passes (λ (x : Entry). bytes_eq x.order e.order && is_new_order x.message)
        (accepted terms before) new found)).0 in
        record {
          entry = e;
          found = found;
          on_port = ap (λ (x : Entry). (terms_of terms x.client).port) (sym same_new)
              ∙ ap (λ (c : ℕ). (terms_of terms c).port) i.same_client
              ∙ eqb-true (terms_of terms e.client).port port rest.0;
          number = n.0;
          is_text = sym (eq-is (token_of e) token rest.1) ∙ ap (λ (x : Option ℕ). token_text (unwrap_or x 0)) n.1;
          is_given = (i.is_given n.0 n.1).1;
          order = i.number;
          order_is = own_order ∙ i.order_is;
          is_numbered = i.is_numbered;
        }

    by_found : (x : Option Entry) → find (has_token terms port token) (accepted terms before) ≡ x
        → order_of_token terms port (accepted terms before) token ≡ Some new → IsToken terms before port token new
    by_found None f on = absurd (let x : ◌≡◌ {A = Option Entry} None (Some new) = rw f at on in cc)
    by_found (Some e) f on = entry-token e (rw f at on)
        (found-passes (has_token terms port token) (accepted terms before) e f)
        (each-find (IsEntry terms (accepted terms before) (orders_numbered before)) (has_token terms port token)
        (accepted terms before) e H.entries f)

-- ---- cancels of an order, among all that is asked

any-own : (P : Asked → Bool) (k : List ℕ) (asked : List Asked)
    → list_any (λ (a : Asked). bytes_eq a.order k && P a) asked ≡ list_any P (own k asked)
any-own P k [] = refl
any-own P k (a ∷ asked) = by_test (bytes_eq a.order k) (any-own P k asked)
  where
    by_test : (b : Bool) → list_any (λ (a : Asked). bytes_eq a.order k && P a) asked ≡ list_any P (own k asked)
        → ((b && P a) || list_any (λ (a : Asked). bytes_eq a.order k && P a) asked)
        ≡ list_any P (if b then a ∷ own k asked else own k asked)
    by_test true e = ap (λ (r : Bool). P a || r) e
    by_test false e = e

any-same : (P Q : Asked → Bool) (xs : List Asked) → ((a : Asked) → P a ≡ Q a) → list_any P xs ≡ list_any Q xs
any-same P Q [] same = refl
any-same P Q (x ∷ xs) same = rw (same x, any-same P Q xs same) refl

-- of the order's own, what answers it is told by the tokens of its replaces
own-answer : (k : List ℕ) (m : Outbound) (asked : List Asked) (a : Asked)
    → ((bytes_eq a.order k && is_cancel_said a.said) && not (is_answered m asked a))
    ≡ (bytes_eq a.order k && (is_cancel_said a.said && not (answers m (next_tokens k asked) a.said)))
own-answer k m asked a = by_order (bytes_eq a.order k) refl
  where
    by_order : (b : Bool) → bytes_eq a.order k ≡ b
        → ((b && is_cancel_said a.said) && not (is_answered m asked a))
        ≡ (b && (is_cancel_said a.said && not (answers m (next_tokens k asked) a.said)))
    by_order true same = ap (λ (i : List ℕ). is_cancel_said a.said && not (answers m (next_tokens i asked) a.said))
        (eq-is a.order k same)
    by_order false other = refl

last-cancel : (k : List ℕ) (m : Outbound) (asked : List Asked)
    → answers_last_cancel k m asked ≡ answers_last m (next_tokens k asked) (own k asked)
last-cancel k m asked =
    let first = any-own (λ (a : Asked). is_cancel_said a.said) k asked in
    let second = any-same (λ (a : Asked). (bytes_eq a.order k && is_cancel_said a.said) && not (is_answered m asked a))
    (λ (a : Asked). bytes_eq a.order k && (is_cancel_said a.said && not (answers m (next_tokens k asked) a.said)))
    asked (own-answer k m asked) ∙ any-own (λ (a : Asked). is_cancel_said a.said
    && not (answers m (next_tokens k asked) a.said)) k asked in
    rw (first, second) refl

-- ---- what is issued

abbrev issued_then : ℕ → List Message → ℕ → List Message → List Message
issued_then client bodies c sent = if client == c then reverse bodies ++ sent else sent

pub record IsIssued (new : Entry) (bodies B : List Message) (client : ℕ) : Type 0 where
  pub all : bodies ≡ B
  pub mine : (sent : List Message) → issued_then client bodies new.client sent ≡ onto B sent
  pub others : (c : ℕ) → new.client ≢ c → (sent : List Message) → issued_then client bodies c sent ≡ sent

told-issued : (new : Entry) (B : List Message) (client : ℕ) (bodies : List Message)
    → told_of_entry new B ≡ record { client = client; bodies = bodies } → IsIssued new bodies B client
told-issued new [] client bodies e =
    let none : bodies ≡ [] = ap (λ (x : Told). x.bodies) (sym e) in
    record {
      all = none;
      mine = λ sent. rw none (nothing (client == new.client) sent);
      others =
          λ c apart sent. rw none (nothing (client == c) sent);
    }
  where
    nothing : (b : Bool) (sent : List Message) → (if b then reverse [] ++ sent else sent) ≡ sent
    nothing true sent = refl
    nothing false sent = refl
told-issued new (r ∷ rs) client bodies e =
    let all : bodies ≡ r ∷ rs = ap (λ (x : Told). x.bodies) (sym e) in
    let to : client ≡ new.client = ap (λ (x : Told). x.client) (sym e) in
    record {
      all = all;
      mine = λ sent. rw (eq-eqb client new.client to, all) (onto-reverse (r ∷ rs) sent);
      others = λ c apart sent. rw (ne_eqb client c (λ same. apart (sym to ∙ same))) refl;
    }

-- ---- the turn

module _ (terms : List Terms) (before : OrderHistory) (port : ℕ) (m : Outbound) (token : List ℕ) (client : ℕ)
    (bodies : List Message) (sends : List (List ℕ)) (H : Holds terms before)
    (has : order_token m ≡ Some token) (judged : judgement terms port (Ok m) before ≡ None)
    (tells : told terms (Heard port (Ok m)) before ≡ record { client = client; bodies = bodies })
    (short : length before < 2 ^ 59) (reports_small : reports_in before < 10 ^ 64)
    (l : IsLawful terms port m token before) (o : OrderRecord) (f : FitsIn terms before o) (own_port : port_of terms o.new ≡ port) (same_new : o.new ≡ l.new) where
  abbrev t : OrderTurn
  t = heard_turn port (Ok m) client bodies sends None

  abbrev A : List Entry
  A = accepted terms before

  lived-on : life_of o.new.order A (handled port before) ≡ record_life o
  lived-on = subst (λ (p : ℕ). life_of o.new.order A (handled p before) ≡ record_life o) own_port
      (life-of terms A (orders_numbered before) (issued o.new.client before) (handled (port_of terms o.new) before)
      (outstanding terms (port_of terms o.new) before) (reports_in before) (1_000_000 * length before) o f)

  row : row_holds m (record_life o) o.new (replacements o.replaces) ≡ true
  row =
      let first : row_holds m (life_of o.new.order A (handled port before)) o.new
      (pending_tokens o.new.client (chain o.new.order (issued o.new.client before)) A) ≡ true =
      subst (λ (e : Entry). row_holds m (life_of e.order A (handled port before)) e
      (pending_tokens e.client (chain e.order (issued e.client before)) A) ≡ true) (sym same_new) l.row in
      let second : row_holds m (record_life o) o.new
      (pending_tokens o.new.client (chain o.new.order (issued o.new.client before)) A) ≡ true =
      ap (λ (x : Life). row_holds m x o.new (pending_tokens o.new.client
      (chain o.new.order (issued o.new.client before)) A)) (sym lived-on) ∙ first in
      let tokens : pending_tokens o.new.client (chain o.new.order (issued o.new.client before)) A
      ≡ replacements o.replaces = ap (λ (y : Rattle.order_law.specs.Chain.Chain). pending_tokens o.new.client y A)
      f.reads.chained_so ∙ tokens-are terms A (orders_numbered before) (issued o.new.client before)
      (handled (port_of terms o.new) before) (outstanding terms (port_of terms o.new) before) (reports_in before)
      (1_000_000 * length before) o f in
      ap (λ (ts : List (List ℕ)). row_holds m (record_life o) o.new ts) (sym tokens) ∙ second

  -- the order that the message is on
  pub on' : order_of_token terms port A token ≡ Some o.new
  on' = l.on ∙ ap Some (sym same_new)

  abbrev Leads : List ℕ → Type 0
  Leads x = order_of_token terms port A x ≡ Some o.new

  -- what holds of a pending replace
  abbrev IsKnown : Entry → Type 0
  IsKnown q = IsHome terms A o.new (token_of q) × IsFound A o.new q
      × IsUsed (issued o.new.client before) (Rattle.fix_fields.specs.Field.text 11 q.message)

  -- each of its tokens leads to that order
  on-all : Each Leads (tokens_in m)
  on-all = by_message m has row
    where
      one : (x : List ℕ) → x ≡ token → Leads x
      one x same = subst Leads (sym same) on'

      by_message : (k : Outbound) → order_token k ≡ Some token
          → row_holds k (record_life o) o.new (replacements o.replaces) ≡ true → Each Leads (tokens_in k)
      by_message (market.Replaced k) has may =
          let parts = and-parts (works_as (record_life o) k.previous_token)
          (is_first k.token (replacements o.replaces) && same_terms k.side k.stock o.new) may in
          let asked = oldest-is o.replaces k.token (and-parts (is_first k.token (replacements o.replaces))
          (same_terms k.side k.stock o.new) parts.1).0 in
          let homes = subst (Each IsKnown) asked.2 f.holds.replaces in
          let home = homes.0.0 in (
            ap (order_of_token terms port A) asked.3
                ∙ subst (λ (p : ℕ). order_of_token terms p A (token_of asked.0) ≡ Some o.new) own_port home.mine,
            (one k.previous_token (cc), tt),
          )
      by_message (market.Accepted k) has may = (one k.token (cc), tt)
      by_message (market.Canceled k) has may = (one k.token (cc), tt)
      by_message (market.Executed k) has may = (one k.token (cc), tt)
      by_message (market.Broken k) has may = (one k.token (cc), tt)
      by_message (market.Rejected k) has may = (one k.token (cc), tt)
      by_message (market.CancelPending k) has may = (one k.token (cc), tt)
      by_message (market.CancelReject k) has may = (one k.token (cc), tt)
      by_message (market.SystemEvent k) has may = tt
      by_message market.Skipped has may = tt

  abbrev pub B : List Message
  B = told_by (reports_in before) m (record_life o) (answers_last m (replacements o.replaces) (asked_as terms o))
      (map fill_of o.trades) (shown_as o)

  asked-own : answers_last_cancel o.new.order m (outstanding terms port before)
      ≡ answers_last m (replacements o.replaces) (asked_as terms o)
  asked-own =
      (let mine : own o.new.order (outstanding terms port before) ≡ asked_as terms o =
      subst (λ (p : ℕ). own o.new.order (outstanding terms p before) ≡ asked_as terms o) own_port f.asked_so in
      last-cancel o.new.order m (outstanding terms port before)
      ∙ ap (answers_last m (next_tokens o.new.order (outstanding terms port before))) mine
      ∙ ap (λ (next : List (List ℕ)). answers_last m next (asked_as terms o))
      (next-own terms o (outstanding terms port before) mine))

  fills-own : (reading o.new.order (issued o.new.client before)).fills ≡ map fill_of o.trades
  fills-own = ap (λ (x : Reading). x.fills) f.reads.read_so

  shown-own : shown terms before o.new ≡ shown_as o
  shown-own = shown-is terms before (orders_numbered before) (outstanding terms (port_of terms o.new) before)
      (reports_in before) (1_000_000 * length before) o f

  told-all : told_by (reports_in before) m (life_of o.new.order A (handled port before))
      (answers_last_cancel o.new.order m (outstanding terms port before))
      (reading o.new.order (issued o.new.client before)).fills (shown terms before o.new) ≡ B
  told-all =
      ap (λ (x : Life). told_by (reports_in before) m x
      (answers_last_cancel o.new.order m (outstanding terms port before))
      (reading o.new.order (issued o.new.client before)).fills (shown terms before o.new)) lived-on
      ∙ ap (λ (b : Bool). told_by (reports_in before) m (record_life o) b
      (reading o.new.order (issued o.new.client before)).fills (shown terms before o.new)) asked-own
      ∙ ap (λ (fs : List Fill). told_by (reports_in before) m (record_life o)
      (answers_last m (replacements o.replaces) (asked_as terms o)) fs (shown terms before o.new)) fills-own
      ∙ ap (λ (s : Shown). told_by (reports_in before) m (record_life o)
      (answers_last m (replacements o.replaces) (asked_as terms o)) (map fill_of o.trades) s) shown-own

  pub told-to : told_of_entry o.new B ≡ record { client = client; bodies = bodies }
  told-to =
      let on_order : told_on terms port m before (order_of_token terms port A token) ≡ told_of_entry o.new B =
      ap (told_on terms port m before) on' ∙ ap (told_of_entry o.new) told-all in
      let by_row : told terms (Heard port (Ok m)) before
      ≡ told_on terms port m before (order_of_token terms port A token) = rw (judged, has) refl in
      sym on_order ∙ sym by_row ∙ tells

  said : IsIssued o.new bodies B client
  said = told-issued o.new B client bodies told-to

  pub issued-mine : issued o.new.client (t ∷ before) ≡ onto B (issued o.new.client before)
  issued-mine = said.mine (issued o.new.client before)

  pub issued-other : (c : ℕ) → o.new.client ≢ c → issued c (t ∷ before) ≡ issued c before
  issued-other c apart = said.others c apart (issued c before)

  on-order : Each (IsOn o.new.order) B
  on-order = told-on (reports_in before) m (record_life o) (answers_last m (replacements o.replaces) (asked_as terms o))
      (map fill_of o.trades) (shown_as o)

  -- ---- the order itself

  abbrev Homes : List ℕ → Type 0
  Homes = IsHome terms A o.new

  abbrev MovesTo : OrderRecord → Type 0
  MovesTo p = Moves Homes (IsFound A o.new) (IsUsed (issued o.new.client before)) terms (old_ids o.new.client A)
      (issued o.new.client before) (reports_in before) (1_000_000 * length before) 1_000_000 m o p

  abbrev next : OrderRecord
  next = after_message (reports_in before) m o

  moves : MovesTo next
  moves = row-moves Homes (IsFound A o.new) (IsUsed (issued o.new.client before)) terms (old_ids o.new.client A)
      (issued o.new.client before) (reports_in before) (1_000_000 * length before) o
      reports_small (omega arith) f.keeps
      (named terms A (orders_numbered before) (issued o.new.client before) (handled (port_of terms o.new) before)
      (outstanding terms (port_of terms o.new) before) (reports_in before) (1_000_000 * length before) o f) f.reads
      m row

  handled-own : handled (port_of terms o.new) (t ∷ before) ≡ m ∷ handled (port_of terms o.new) before
  handled-own = rw (eq-eqb port (port_of terms o.new) (sym own_port)) refl

  count-same : orders_numbered (t ∷ before) ≡ 0 + orders_numbered before
  count-same = numbered-heard port (Ok m) client bodies sends None before

  module _ (q : OrderRecord) (M : MovesTo (record q { new = o.new })) where
    abbrev p : OrderRecord
    p = record q { new = o.new }

    life-now : life_of o.new.order A (handled (port_of terms o.new) (t ∷ before)) ≡ record_life p
    life-now = rw f.known (ap (life (token_of o.new) (character 54 o.new.message)) handled-own
        ∙ ap (λ (x : Life). after x m) f.lives ∙ M.lives)

    reports-now : count_by is_report B + reports_in before ≤ reports_in (t ∷ before)
    reports-now = let same : count_by is_report bodies ≡ count_by is_report B = ap (count_by is_report) said.all in
        omega (arith, same)

    keeps-now : Keeps (reports_in (t ∷ before)) (1_000_000 * length (t ∷ before)) p
    keeps-now = Keeps-more (reports_in (t ∷ before)) (1_000_000 * length before + 1_000_000) (reports_in (t ∷ before))
        (1_000_000 * length (t ∷ before)) p (omega arith) (omega arith) (M.keeps (reports_in (t ∷ before)) reports-now)

    moved-fits : FitsIn terms (t ∷ before) p
    moved-fits = record {
      reads = subst (λ (xs : List Message). Reads xs p) (sym issued-mine) M.leads.reads;
      lives = ap (life (token_of o.new) (character 54 o.new.message)) handled-own ∙ ap (λ (x : Life). after x m) f.lives
          ∙ M.lives;
      priced = ap (price_after o.new A) handled-own
          ∙ ap (λ (x : Life). priced m x (price_after o.new A (handled (port_of terms o.new) before)))
          (life-of terms A (orders_numbered before) (issued o.new.client before)
          (handled (port_of terms o.new) before) (outstanding terms (port_of terms o.new) before)
          (reports_in before) (1_000_000 * length before) o f)
          ∙ ap (λ (n : ℕ). priced m (record_life o) n) f.priced ∙ M.price;
      asked_so = asked-as terms before port m client bodies sends H o p (port_of terms o.new) f.asked_so life-now
          (λ e. closed-asked terms (reports_in (t ∷ before)) (1_000_000 * length (t ∷ before)) p keeps-now e) M.asked;
      keeps = keeps-now;
      holds = Of-used Homes (IsFound A o.new) (IsUsed (issued o.new.client before))
          (IsUsed (issued o.new.client (t ∷ before))) p
          (λ id used. subst (λ (xs : List Message). is_used id xs ≡ true) (sym issued-mine)
          (used-onto id B (issued o.new.client before) used)) (M.kept f.holds);
      known = f.known;
      is_new = f.is_new;
      number = f.number;
      order_is = f.order_is;
      is_numbered = omega (arith, f.is_numbered, count-same);
    }

    own-record : HasRecord terms (t ∷ before) o.new
    own-record = record { order = p; same = refl; fits = moved-fits }

    own-well : ReadsWell o.new.order o.new.message (old_ids o.new.client (accepted terms (t ∷ before)))
        (issued o.new.client before) bodies
    own-well = subst (λ (xs : List Message). ReadsWell o.new.order o.new.message (old_ids o.new.client A)
        (issued o.new.client before) xs) (sym said.all) M.leads.well

  -- ---- other orders

  -- what holds of a client's list and stays so with bodies on this order holds after the turn
  issued-keeps : (P : List Message → Type 0) (c : ℕ) (k : List ℕ) → bytes_eq o.new.order k ≡ false
      → ((r : Message) (xs : List Message) → is 37 k r ≡ false → P xs → P (r ∷ xs)) → P (issued c before)
      → P (issued c (t ∷ before))
  issued-keeps P c k apart more old = by_client (o.new.client == c) refl
    where
      by_client : (b : Bool) → (o.new.client == c) ≡ b → P (issued c (t ∷ before))
      by_client true e =
          let same : o.new.client ≡ c = eqb-true o.new.client c e in
          subst (λ (d : ℕ). P (issued d (t ∷ before))) same
          (subst P (sym issued-mine) (others-onto k B (issued o.new.client before)
          (on-others o.new.order k B apart on-order) P more
          (subst (λ (d : ℕ). P (issued d before)) (sym same) old)))
      by_client false e = subst P (sym (issued-other c
          (λ same. (let yes_it : (o.new.client == c) ≡ true = eq-eqb o.new.client c same in let x : true ≡ false =
          sym yes_it ∙ e in cc)))) old

  module _ (x : OrderRecord) (g : FitsIn terms before x) (apart : bytes_eq o.new.order x.new.order ≡ false) where
    other-reads : Reads (issued x.new.client (t ∷ before)) x
    other-reads = issued-keeps (λ xs. Reads xs x) x.new.client x.new.order apart
        (λ r xs off reads. Reads-others x (r ∷ []) xs (off, tt) reads) g.reads

    other-used : (id : List ℕ) → is_used id (issued x.new.client before) ≡ true
        → is_used id (issued x.new.client (t ∷ before)) ≡ true
    other-used id used = issued-keeps (λ xs. is_used id xs ≡ true) x.new.client x.new.order apart
        (λ r xs off e. rw e (Rattle.order_machine.proofs.Texts.or-true (is 11 id r))) used

    pub other-fits : FitsIn terms (t ∷ before) x
    other-fits = untouched-fits terms before port m client bodies sends H x g
        (other-untouched terms A (issued x.new.client before) x g.holds g.keeps.first g.keeps.left m
        (λ y home. Each-map Leads (λ (own_token : List ℕ). bytes_eq own_token y ≡ false) (tokens_in m)
        (λ own_token on. apart-home terms A port own_token o.new x.new on apart y home) on-all))
        other-reads other-used

    other-well : ReadsWell x.new.order x.new.message (old_ids x.new.client (accepted terms (t ∷ before)))
        (issued x.new.client before) bodies
    other-well = ReadsWell-others x.new.order x.new.message (old_ids x.new.client A) (issued x.new.client before) bodies
        (subst (Others x.new.order) (sym said.all) (on-others o.new.order x.new.order B apart on-order))

  -- ---- numbers that aren't given yet

  fresh-order : (n : ℕ) → orders_numbered before < n → n < 10 ^ 64 → bytes_eq o.new.order (decimal n) ≡ false
  fresh-order n above small = rw f.order_is
      (eq-decimal_other f.number n (λ same. (omega (arith, same, f.is_numbered, above)))
      (omega (arith, f.is_numbered, above, small)) small)

  fresh-token : (n : ℕ) → given_tokens A < n → n ≤ 9_999_999_999_999 → (token : List ℕ)
      → IsToken terms before port token o.new → bytes_eq token (token_text n) ≡ false
  fresh-token n above most token k = eq-other token (token_text n)
      (λ same. (let alike : k.number ≡ n = token-same k.number n (omega (arith, k.is_given, H.short)) most
      (sym k.is_text ∙ same) in omega (arith, alike, k.is_given, above)))

  born-on : (n side : ℕ) → given_tokens A < n → n ≤ 9_999_999_999_999 → PassesOver (token_text n) side m
  born-on n side above most = born-passes m (token_text n) side
      (Each-map Leads (λ (own_token : List ℕ). bytes_eq own_token (token_text n) ≡ false) (tokens_in m)
      (λ own_token on. fresh-token n above most own_token (token-of terms before port own_token o.new H on)) on-all)

  still-unheard : (n p side : ℕ) → given_tokens A < n → n ≤ 9_999_999_999_999
      → Each (PassesOver (token_text n) side) (handled p (t ∷ before))
  still-unheard n p side above most = by_port (port == p)
    where
      by_port : (b : Bool) → Each (PassesOver (token_text n) side)
          (if b && true then m ∷ handled p before else handled p before)
      by_port true = (born-on n side above most, H.unheard n p side above most)
      by_port false = H.unheard n p side above most

  still-unasked : (n p : ℕ) → orders_numbered before < n → n < 10 ^ 64
      → own (decimal n) (outstanding terms p (t ∷ before)) ≡ []
  still-unasked n p above small = asked-now terms before port m client bodies sends H (decimal n) p
      (is_closed (life_of (decimal n) A (handled p (t ∷ before))).stage) refl
      ∙ by_closed (is_closed (life_of (decimal n) A (handled p (t ∷ before))).stage)
    where
      by_closed : (b : Bool) → (if b then [] else unanswered m (next_tokens (decimal n) (outstanding terms p before))
          (own (decimal n) (outstanding terms p before))) ≡ []
      by_closed true = refl
      by_closed false = rw (H.unasked n p above small) refl

  -- ---- all of it

  abbrev Both : Entry → Type 0
  Both e = HasRecord terms (t ∷ before) e × IsTrueToMarket terms t before e

  -- the record says the order's own message still
  back : next ≡ record next { new = o.new }
  back = ap (λ (x : Entry). record next { new = x }) moves.same

  still-moves : MovesTo (record next { new = o.new })
  still-moves = subst MovesTo back moves

  pub next-new : next.new ≡ o.new
  next-new = moves.same

  pub own-fits : FitsIn terms (t ∷ before) next
  own-fits = subst (FitsIn terms (t ∷ before)) (sym back) (moved-fits next still-moves)

  each-order : (e : Entry) → HasRecord terms before e → Both e
  each-order e r = by_order (bytes_eq o.new.order r.order.new.order) refl
    where
      mine : HasRecord terms (t ∷ before) o.new
      mine = own-record next still-moves

      by_order : (b : Bool) → bytes_eq o.new.order r.order.new.order ≡ b → Both e
      by_order true same =
          let orders_same : o.new.order ≡ r.order.new.order = eq-is o.new.order r.order.new.order same in
          let it : o.new ≡ e = same_some o.new r.order.new
          (sym f.known ∙ ap (λ (k : List ℕ). new_of k A) orders_same ∙ r.fits.known) ∙ r.same in
          subst Both it (mine, true-of terms t before o.new mine (λ own_turn. own-well next still-moves))
      by_order false apart =
          let has : HasRecord terms (t ∷ before) e =
          record { order = r.order; same = r.same; fits = other-fits r.order r.fits apart } in (
            has,
            true-of terms t before e has (λ own_turn. subst
                (λ (x : Entry). ReadsWell x.order x.message (old_ids x.client (accepted terms (t ∷ before)))
                (issued x.client before) bodies) r.same (other-well r.order r.fits apart)),
          )

  all-orders : Each Both (news A)
  all-orders = Each-map (HasRecord terms before) Both (news A) each-order H.records

  pub lawful-Holds : Holds terms (t ∷ before) × Each (IsTrueToMarket terms t before) (news A)
  lawful-Holds = (
    record {
      entries = Each-map (IsEntry terms A (orders_numbered before)) (IsEntry terms A (orders_numbered (t ∷ before))) A
          (λ e i. record {
            new = i.new;
            found = i.found;
            same_client = i.same_client;
            is_given = i.is_given;
            number =
                i.number;
            order_is = i.order_is;
            is_numbered = omega (arith, i.is_numbered, count-same);
          }) H.entries;
      short = H.short;
      records = Each-map Both (HasRecord terms (t ∷ before)) (news A) (λ e b. b.0) all-orders;
      listed = same-orders;
      unread = λ n c above small. issued-keeps (λ xs. IsUnread (decimal n) xs) c (decimal n)
          (fresh-order n (omega (arith, above, count-same)) small)
          (λ r xs off u. IsUnread-others (decimal n) (r ∷ []) xs (off, tt) u)
          (H.unread n c (omega (arith, above, count-same)) small);
      unheard = still-unheard;
      unasked = λ n p above small. still-unasked n p (omega (arith, above, count-same)) small;
      few = omega (arith, H.few, count-same);
    },
    Each-map Both (IsTrueToMarket terms t before) (news A) (λ e b. b.1) all-orders,
  )
    where
      same-orders : (c : ℕ) → orders (issued c (t ∷ before)) ≡ orders_of c A
      same-orders c = by_client (o.new.client == c) refl
        where
          by_client : (b : Bool) → (o.new.client == c) ≡ b → orders (issued c (t ∷ before)) ≡ orders_of c A
          by_client true e =
              let same : o.new.client ≡ c = eqb-true o.new.client c e in
              subst (λ (d : ℕ). orders (issued d (t ∷ before)) ≡ orders_of d A) same
              (ap orders issued-mine ∙ orders-onto o.new.order B (issued o.new.client before) on-order
              ∙ H.listed o.new.client)
          by_client false e = ap orders (issued-other c
              (λ same. (let yes_it : (o.new.client == c) ≡ true = eq-eqb o.new.client c same in let x : true ≡ false =
              sym yes_it ∙ e in cc))) ∙ H.listed c
