-- A cancel or replace that is accepted keeps what every told history keeps.
use Rattle.std.proofs.Common.{◌≡◌, ◌≢◌, ℕ, ◌+◌, ◌*◌, ◌<◌, ◌≤◌, ◌^◌, Bool, true, false, List, [], ◌∷◌, ◌++◌, length, map}
use Rattle.std.proofs.Common.{refl, sym, ap, ◌∙◌, append_assoc, subst, suc, arith, codes, bytes_eq, Option, Some, None}
use Rattle.std.proofs.Common.{eqb-true, eq-eqb}
use Rattle.std.specs.Prelude.{◌&&◌, ◌||◌, ◌==◌, nat_le, not, if◌then◌else◌, is_some, filter}
use Rattle.std.proofs.lemmas.Bool.Decides.{nat_tests}
use Rattle.std.specs.List.{count_by, find, list_any}
use Rattle.tokens.specs.TokenText.{token_text}
use Rattle.fix_fields.specs.Field.{Message, is, text}
use Rattle.order_law.specs.Life.{Life, after, born, is_closed, is_live, is_of, life}
use Rattle.order_law.specs.Reading.{is_report}
use Rattle.order_law.specs.Chain.{chain, is_used}
use Rattle.order_law.specs.History.{Asked, Entry, OrderHistory, Terms, OrderTurn, accepted, given_tokens, handled}
use Rattle.order_law.specs.History.{is_new_order, issued, life_of, new_of, orders_numbered, outstanding, pending_tokens}
use Rattle.order_law.specs.History.{token_of}
use Rattle.order_law.specs.Told.{Told, answers_last_cancel, nobody, price_after, reports_in, told, told_by, told_on}
use Rattle.order_law.specs.Told.{told_of_entry}
use Rattle.order_law.specs.Headline.{Each, IsTrueToMarket, old_ids}
use Rattle.order_machine.specs.OrderRecord.{Cancelling, OrderRecord, asked_as, at, replacements, shown_as}
use Rattle.order_machine.proofs.Texts.{eq-other, eq-same, or-true, token-same}
use Rattle.order_machine.proofs.Lists.{Each-append, Each-map, append-nothing, length-push}
use Rattle.order_machine.proofs.Due.{IsSound, Reads, ReadsWith, chained_with, shown_with}
use Rattle.order_machine.proofs.Leads.{AreApart, same_some, tells-at}
use Rattle.order_machine.proofs.Endings.{cancel-id}
use Rattle.order_machine.proofs.AskedReplaces.{AreDistinct, one-asked}
use Rattle.order_machine.proofs.Moves.{Keeps}
use Rattle.order_machine.proofs.Fits.{IsFound, IsHome, IsUsed, life-of, own, shown-is, tokens-are}
use Rattle.order_machine.proofs.Holds.{HasRecord, Holds, FitsIn, StillBeside, Keeps-more, news, port_of}
use Rattle.order_machine.proofs.Reports.{Tells, asked_cancel-Reads, asked_replace-Reads, report-tells}
use Rattle.order_machine.proofs.Sound.{asked-sound}
use Rattle.order_law.specs.Verdicts.{Accepted, Port, is_replace, most_pending}
use Rattle.order_law.specs.History.{Came, asks, asks_of, entry_at, last_token, verdict}
use Rattle.order_law.specs.Chain.{named as named_order}
use Rattle.order_law.specs.Told.{Shown, accepted_new, newly_shown, on_request, plain, refusing_report, refused_request}
use Rattle.order_law.specs.Told.{reject, report, shown, shown_in, status_of, told_accepted_as, told_by_verdict}
use Rattle.std.specs.Prelude.{option_and_then, option_map}
use Rattle.order_machine.proofs.Pushing.{IsNext, home-kept, new-kept, next-home}
use Rattle.order_machine.proofs.Coming as coming
use Rattle.order_machine.proofs.Coming.{IsTold, coming_turn, numbered-came}
use Rattle.order_law.specs.declared.stage.Stage.TheVariants.{Closed}
use Rattle.order_law.specs.Chain.{Chain, has_pending_cancel, replaces}
use Rattle.order_law.specs.Told as told
use Rattle.order_law.specs.Headline.{has_due_ids, is_id_of}
use Rattle.order_machine.specs.OrderRecord.{asked_replace, cancel_asked, cancel_entry, asked_cancel, chained}
use Rattle.order_machine.specs.OrderRecord.{live_token, new_asked, pending, replaces_asked, request_of}
use Rattle.order_machine.proofs.Pushing.{found-kept, price-kept}
use Rattle.std.proofs.Common.{◌⊎◌, inl, inr, ⊎_elim}
use Rattle.order_law.specs.Told.{told_accepted_as, told_by_verdict}

-- the order that a request names is one of its client's
pub named-member : (terms : List Terms) (h : OrderHistory) (P : List ℕ → Bool) (c : ℕ) (k : List ℕ) (es : List Entry)
    → Each (HasRecord terms h) es → find P (map (λ (e : Entry). e.order) (filter (λ (e : Entry). e.client == c) es))
    ≡ Some k
    → (e : Entry) × HasRecord terms h e × (e.order ≡ k) × (e.client ≡ c)
named-member terms h P c k [] each found = absurd (cc)
named-member terms h P c k (e ∷ es) each found =
    by_client (e.client == c) refl found (λ f. named-member terms h P c k es each.1 f)
  where
    by_found : (b : Bool) → e.client ≡ c → (if b then Some e.order else find P
        (map (λ (x : Entry). x.order) (filter (λ (x : Entry). x.client == c) es))) ≡ Some k
        → (find P (map (λ (x : Entry). x.order) (filter (λ (x : Entry). x.client == c) es)) ≡ Some k
        → (e : Entry) × HasRecord terms h e × (e.order ≡ k) × (e.client ≡ c))
        → (e : Entry) × HasRecord terms h e × (e.order ≡ k) × (e.client ≡ c)
    by_found true mine f later = (e, each.0, same_some e.order k f, mine)
    by_found false mine f later = later f

    by_client : (b : Bool) → (e.client == c) ≡ b
        → find P (map (λ (x : Entry). x.order) (if b then e ∷ filter (λ (x : Entry). x.client == c) es else filter
        (λ (x : Entry). x.client == c) es)) ≡ Some k
        → (find P (map (λ (x : Entry). x.order) (filter (λ (x : Entry). x.client == c) es)) ≡ Some k
        → (e : Entry) × HasRecord terms h e × (e.order ≡ k) × (e.client ≡ c))
        → (e : Entry) × HasRecord terms h e × (e.order ≡ k) × (e.client ≡ c)
    by_client true is_c f later = by_found (P e.order) (eqb-true e.client c is_c) f later
    by_client false is_c f later = later f

pub or-both : (a b : Bool) → (a || b) ≡ false → (a ≡ false) × (b ≡ false)
or-both true b e = absurd (cc)
or-both false b e = (refl, e)

-- ---- what hasn't to wait

abbrev AreReplaces : List Entry → Type 0
AreReplaces rs = Each (λ (q : Entry). is_replace q.message ≡ true) rs

abbrev NoReplace : Option Cancelling → Type 0
NoReplace c = (x : Cancelling) → c ≡ Some x → is_replace x.request.message ≡ false

-- no cancel is pending
pub no-cancel : (o : OrderRecord) → IsSound o → has_pending_cancel (chained o) ≡ false → o.cancel ≡ None
no-cancel o sound none = by_requests o.replaces o.cancel sound.cancels none
  where
    by_requests : (rs : List Entry) (c : Option Cancelling) → NoReplace c
        → has_pending_cancel (record { current = o.id; pending = map request_of (rs ++ cancel_entry c) }) ≡ false
        → c ≡ None
    by_requests [] None kinds e = refl
    by_requests [] (Some c) kinds e = absurd (let x : true ≡ false = rw (kinds c refl) at e in cc)
    by_requests (q ∷ rs) c kinds e = by_requests rs c kinds (or-both (not (is_replace q.message)) _ e).1

-- fewer replaces than may be pending
pub few-replaces : (o : OrderRecord) → IsSound o → nat_le most_pending (length (replaces (chained o))) ≡ false
    → length o.replaces < most_pending
few-replaces o sound few = fewer (length o.replaces)
    (ap (nat_le most_pending) (sym (counted o.replaces o.cancel sound.replaces sound.cancels)) ∙ few)
  where
    counted : (rs : List Entry) (c : Option Cancelling) → AreReplaces rs → NoReplace c
        → length (replaces (record { current = o.id; pending = map request_of (rs ++ cancel_entry c) })) ≡ length rs
    counted [] None are kinds = refl
    counted [] (Some c) are kinds = rw (kinds c refl) refl
    counted (q ∷ rs) c are kinds = rw are.0 (ap suc (counted rs c are.1 kinds))

    fewer : (n : ℕ) → nat_le 4 n ≡ false → n < 4
    fewer n e = grind (arith, nat_tests)

-- ---- one more request

-- it is apart from those before it, where its id is another than each of theirs
apart-more : (q : Entry) (qs : List Entry)
    → Each (λ (p : Entry). bytes_eq (text 11 q.message) (text 11 p.message) ≡ false) qs → AreApart qs
    → AreApart (qs ++ q ∷ [])
apart-more q [] others apart = (tt, tt)
apart-more q (p ∷ qs) others apart = (
  Each-append
      (λ (x : Entry). bytes_eq (text 11 x.message) (text 11 p.message) ≡ false) qs (q ∷ []) apart.0
      (others.0, tt),
  apart-more q qs others.1 apart.1,
)

-- and its token too
distinct-more : (q : Entry) (qs : List Entry) → Each (λ (p : Entry). bytes_eq (token_of p) (token_of q) ≡ false) qs
    → AreDistinct (replacements qs) → AreDistinct (replacements (qs ++ q ∷ []))
distinct-more q [] others apart = (tt, tt)
distinct-more q (p ∷ qs) others apart = (more qs apart.0, distinct-more q qs others.1 apart.1)
  where
    more : (rs : List Entry) → Each (λ (x : List ℕ). bytes_eq (token_of p) x ≡ false) (replacements rs)
        → Each (λ (x : List ℕ). bytes_eq (token_of p) x ≡ false) (replacements (rs ++ q ∷ []))
    more [] each = (others.0, tt)
    more (r ∷ rs) each = (each.0, more rs each.1)

-- a pending replace that was accepted last is known by its id
replace-id : (o : OrderRecord) (rs : List Entry) (q : Entry) → is_replace q.message ≡ true
    → is_id_of (replaces (chained_with o (rs ++ q ∷ []))) (text 11 q.message) ≡ true
replace-id o [] q is = let own = eq-same (text 11 q.message) in rw (is, own) refl
replace-id o (p ∷ rs) q is = by_kind (is_replace p.message) (replace-id o rs q is)
  where
    by_kind : (b : Bool) → is_id_of (replaces (chained_with o (rs ++ q ∷ []))) (text 11 q.message) ≡ true
        → is_id_of (if b then request_of p ∷ replaces (chained_with o (rs ++ q ∷ [])) else replaces
        (chained_with o (rs ++ q ∷ []))) (text 11 q.message) ≡ true
    by_kind true e = rw e (or-true (bytes_eq (text 11 p.message) (text 11 q.message)))
    by_kind false e = e

-- a used id isn't an unused one
unused-other : (sent : List Message) (id fresh : List ℕ) → is_used id sent ≡ true → is_used fresh sent ≡ false
    → bytes_eq fresh id ≡ false
unused-other sent id fresh used unused = eq-other fresh id
    (λ same. (let x : true ≡ false = sym used ∙ (ap (λ (i : List ℕ). is_used i sent) (sym same) ∙ unused) in cc))

accept-replace : (n : ℕ) (q : Entry) (s : Shown) → is_replace q.message ≡ true
    → told.accepted_request n q (Some s) ≡ told.accepted_replace n q s
accept-replace n q s kind = rw kind refl

accept-cancel : (n : ℕ) (q : Entry) (s : Shown) → is_replace q.message ≡ false
    → told.accepted_request n q (Some s) ≡ told.accepted_cancel n q s
accept-cancel n q s kind = rw kind refl

module _ (terms : List Terms) (before : OrderHistory) (m : Message) (port : Port) (sends : List (List ℕ))
    (H : Holds terms before) (short : length before < 2 ^ 59) (o : OrderRecord) (f : FitsIn terms before o)
    (v : verdict terms (issued o.new.client before) (accepted terms before) port m ≡ Accepted)
    (no_new : is_new_order m ≡ false)
    (is_named : named_order (text 41 m) (issued o.new.client before) ≡ Some o.new.order)
    (unused : is_used (text 11 m) (issued o.new.client before) ≡ false) (lives_on : is_closed o.stage ≡ false)
    (no_c : o.cancel ≡ None)
    (room : is_replace m ≡ true → given_tokens (accepted terms before) < 9_999_999_999_999)
    (next_token : Option ℕ) (token_is : next_token ≡ (if is_replace m then Some (given_tokens (accepted terms before) + 1) else None)) where
  abbrev client : ℕ
  client = o.new.client

  abbrev A : List Entry
  A = accepted terms before

  abbrev en : Entry
  en = record { client = client; message = m; order = o.new.order; token = next_token }

  taken : entry_at terms (Came client m port) before ≡ Some en
  taken = rw (v, no_new, is_named, token_is) refl

  not_closed : o.stage ≢ Closed
  not_closed e = let x : is_closed Closed ≡ false = ap is_closed (sym e) ∙ lives_on in cc

  shown-so : shown_in terms before (Some o.new.order) ≡ Some (shown_as o)
  shown-so = let known = f.known in rw known
      (ap Some (shown-is terms before (orders_numbered before) (outstanding terms (port_of terms o.new) before)
      (reports_in before) (1_000_000 * length before) o f))

  pub told-so : told_by_verdict terms client m port before (verdict terms (issued client before) A port m)
      ≡ told.accepted_request (reports_in before + 1) en (Some (shown_as o))
  told-so = ap (told_by_verdict terms client m port before) v ∙ ap (told_accepted_as terms m before) taken
      ∙ rw no_new (ap (told.accepted_request (reports_in before + 1) en) shown-so)

  small_total : o.total < 10 ^ 64
  small_total = omega (arith, f.keeps.sound.total lives_on, f.keeps.small)

  old-en : text 41 m ≡ old_ids client (en ∷ A) (text 11 m)
  old-en = let id = eq-same (text 11 m) in rw (eq-eqb client client refl, id) refl

  found-en : IsFound (en ∷ A) o.new en
  found-en = let id = eq-same (text 11 m) in rw (eq-eqb client client refl, id) refl

  live-so : Rattle.order_law.specs.Life.live (life_of o.new.order A (handled (port_of terms o.new) before))
      ≡ live_token o
  live-so = ap Rattle.order_law.specs.Life.live
      (life-of terms A (orders_numbered before) (issued client before) (handled (port_of terms o.new) before)
      (outstanding terms (port_of terms o.new) before) (reports_in before) (1_000_000 * length before) o f)

  tokens-so : pending_tokens client (chain o.new.order (issued client before)) A ≡ replacements o.replaces
  tokens-so = ap (λ (x : Chain). pending_tokens client x A) f.reads.chained_so
      ∙ tokens-are terms A (orders_numbered before) (issued client before) (handled (port_of terms o.new) before)
      (outstanding terms (port_of terms o.new) before) (reports_in before) (1_000_000 * length before) o f

  next-en : IsNext terms before en
  next-en = record {
    order = λ e. absurd (let x : true ≡ false = sym e ∙ no_new in cc);
    token = λ n e. by_kind (is_replace m) refl n (sym token_is ∙ e);
    room = λ n e. by_room (is_replace m) refl n (sym token_is ∙ e);
    unused = unused;
    few = omega (arith, H.few);
  }
    where
      by_kind : (b : Bool) → is_replace m ≡ b → (n : ℕ) → (if b then Some (given_tokens A + 1) else None) ≡ Some n
          → n ≡ given_tokens A + 1
      by_kind true is_g n e = sym (same_some (given_tokens A + 1) n e)
      by_kind false is_f n e = absurd (cc)

      by_room : (b : Bool) → is_replace m ≡ b → (n : ℕ) → (if b then Some (given_tokens A + 1) else None) ≡ Some n
          → n ≤ 9_999_999_999_999
      by_room true is_g n e = let it : given_tokens A + 1 ≡ n = same_some (given_tokens A + 1) n e in
          omega (arith, room is_g, it)
      by_room false is_f n e = absurd (cc)

  asks-own : (asked : List Asked) → asks terms en A (issued client before) (handled (port_of terms o.new) before)
      ≡ asked → own o.new.order asked ≡ asked
      → own o.new.order (outstanding terms (port_of terms o.new) before
      ++ asks_of terms (port_of terms o.new) (Some en) A (issued client before)
      (handled (port_of terms o.new) before)) ≡ asked_as terms o ++ asked
  asks-own asked is_asked all_own =
      coming.own-append o.new.order (outstanding terms (port_of terms o.new) before)
      (asks_of terms (port_of terms o.new) (Some en) A (issued client before)
      (handled (port_of terms o.new) before))
      ∙ rw (f.asked_so, eq-eqb (port_of terms o.new) (port_of terms o.new) refl, is_asked, all_own) refl

  -- without a cancel all that is pending is replaces
  pending-is : pending o ≡ o.replaces
  pending-is = rw no_c (append-nothing o.replaces)

  reads-so : ReadsWith (issued client before) o o.replaces
  reads-so = subst (ReadsWith (issued client before) o) pending-is f.reads

  -- what is known of a pending replace then: it is this message, or its id was used before
  abbrev IsKnown : Entry → Type 0
  IsKnown q = IsHome terms (en ∷ A) o.new (token_of q) × IsFound (en ∷ A) o.new q
      × ((q ≡ en) ⊎ IsUsed (issued client before) (text 11 q.message))

  replaces-known : Each IsKnown o.replaces
  replaces-known = Each-map _ IsKnown o.replaces
      (λ q h. (
        home-kept terms before en H next-en o.new (token_of q) h.0,
        found-kept terms before en H next-en client
            (text 11 q.message) h.2 ∙ h.1,
        inr h.2,
      )) f.holds.replaces

  -- its id is another than each of theirs
  ids-apart : Each (λ (p : Entry). bytes_eq (text 11 m) (text 11 p.message) ≡ false) o.replaces
  ids-apart = Each-map _ (λ (p : Entry). bytes_eq (text 11 m) (text 11 p.message) ≡ false) o.replaces
      (λ q h. unused-other (issued client before) (text 11 q.message) (text 11 m) h.2 unused) f.holds.replaces

  apart-now : AreApart (o.replaces ++ en ∷ [])
  apart-now = apart-more en o.replaces ids-apart (subst AreApart pending-is f.keeps.apart)

  -- what is asked of the order is asked in parts, and then this
  asked-behind : (asked : List Asked) → asked_as terms o ++ asked
      ≡ new_asked terms o.new o.stage ++ (replaces_asked o.new (live_token o) o.replaces ++ asked)
  asked-behind asked =
      ap (λ (c : Option Cancelling). (new_asked terms o.new o.stage
      ++ (replaces_asked o.new (live_token o) o.replaces ++ cancel_asked o.new c)) ++ asked) no_c
      ∙ ap (λ (rs : List Asked). (new_asked terms o.new o.stage ++ rs) ++ asked)
      (append-nothing (replaces_asked o.new (live_token o) o.replaces))
      ∙ append_assoc (new_asked terms o.new o.stage) (replaces_asked o.new (live_token o) o.replaces) asked

  -- whatever is asked, and however it is told
  module _ (a : Message) (rs : List Entry) (c : Option Cancelling) (addressed : text 37 a ≡ o.new.order) (enters_none : (is_report a && is 150 (codes "A") a) ≡ false)
      (tells : Tells (old_ids client (en ∷ A)) (issued client before) a (at o rs c) (pending (at o rs c)))
      (own_id : text 11 a ≡ text 11 m)
      (keeps : (reports limit : ℕ) → reports_in before ≤ reports → 1_000_000 * length before ≤ limit
      → Keeps reports limit (at o rs c))
      (replaces_so : Each IsKnown rs)
      (cancel_so : (d : Cancelling) → c ≡ Some d
      → Each (IsHome terms (en ∷ A) o.new) d.tokens × IsFound (en ∷ A) o.new d.request × (d.request ≡ en))
      (asked_so : own o.new.order (outstanding terms (port_of terms o.new) before ++ asks_of terms (port_of terms o.new) (Some en) A (issued client before) (handled (port_of terms o.new) before)) ≡ asked_as terms (at o rs c)) where
    abbrev w : OrderTurn
    w = coming_turn client m port (a ∷ []) sends

    abbrev p : OrderRecord
    p = at o rs c

    known-now : new_of o.new.order (en ∷ A) ≡ Some o.new
    known-now = new-kept terms before en H next-en o.new.order f.number f.order_is f.is_numbered ∙ f.known

    used-own : is_used (text 11 m) (issued client (w ∷ before)) ≡ true
    used-own = subst (λ (xs : List Message). is_used (text 11 m) xs ≡ true)
        (sym (coming.issued-own terms before client m port a sends H))
        (let id = eq-same (text 11 m) in rw (own_id, id) refl)

    fits-now : FitsIn terms (w ∷ before) p
    fits-now = rw taken (record {
      reads = subst (λ (xs : List Message). Reads xs p)
          (sym (coming.issued-own terms before client m port a sends H)) tells.reads;
      lives = f.lives;
      priced = coming-price ∙ f.priced;
      asked_so = asked_so;
      keeps = keeps (reports_in (w ∷ before)) (1_000_000 * length (w ∷ before)) (omega arith) (omega arith);
      holds = record {
        front = home-kept terms before en H next-en o.new (live_token o) f.holds.front;
        live = Each-map (IsHome terms A o.new) (IsHome terms (en ∷ A) o.new) o.tokens
            (λ token h. home-kept terms before en H next-en o.new token h) f.holds.live;
        replaces = Each-map IsKnown _ rs (λ q known. (known.0, known.1, used-replace q known.2)) replaces_so;
        cancel = λ d e. (
          (cancel_so d e).0,
          (cancel_so d e).1,
          subst
              (λ (x : Entry). is_used (text 11 x.message) (issued client (w ∷ before)) ≡ true)
              (sym (cancel_so d e).2) used-own,
        );
        id = coming.used-now terms before client m port a sends H client o.id f.holds.id;
      };
      known = known-now;
      is_new = f.is_new;
      number = f.number;
      order_is = f.order_is;
      is_numbered = omega (arith, f.is_numbered, numbered-came client m port (a ∷ []) sends before);
    })
      where
        used-replace : (q : Entry) → (q ≡ en) ⊎ IsUsed (issued client before) (text 11 q.message)
            → is_used (text 11 q.message) (issued client (w ∷ before)) ≡ true
        used-replace q which = ⊎_elim (λ e. subst
            (λ (x : Entry). is_used (text 11 x.message) (issued client (w ∷ before)) ≡ true) (sym e) used-own)
            (λ used. coming.used-now terms before client m port a sends H client (text 11 q.message) used) which

        coming-price : price_after o.new (en ∷ A) (handled (port_of terms o.new) before)
            ≡ price_after o.new A (handled (port_of terms o.new) before)
        coming-price = price-kept terms before en H next-en o.new
            (new-kept terms before en H next-en o.new.order f.number f.order_is f.is_numbered)
            (handled (port_of terms o.new) before)

    pub asked-fits : FitsIn terms (w ∷ before) p × StillBeside o.new.order terms w before
    asked-fits = (fits-now, coming.beside-fits terms before client m port a sends H en taken refl next-en addressed)

    pub asked-Holds : Holds terms (w ∷ before)
        × Each (IsTrueToMarket terms w before) (news (accepted terms (w ∷ before)))
    asked-Holds = coming.taken-Holds terms before client m port a sends H en taken refl next-en addressed o.new
        known-now refl f.number f.order_is (omega
        (arith, f.is_numbered, numbered-came client m port (a ∷ []) sends before)) (omega (arith, f.is_numbered, H.few))
        (record { order = p; same = refl; fits = fits-now }) (rw taken (tells.says, tt)) (enters_none ∙ sym no_new)

  -- ---- a replace

  module _ (kind : is_replace m ≡ true) (few : length o.replaces < most_pending) where
    abbrev g : OrderRecord
    g = at o (o.replaces ++ en ∷ []) o.cancel

    abbrev e_report : Message
    e_report = report (reports_in before + 1) (on_request (codes "E") en) (shown_as g)

    pending-g : pending g ≡ o.replaces ++ en ∷ []
    pending-g = rw no_c (append-nothing (o.replaces ++ en ∷ []))

    pub replace-told : told.accepted_request (reports_in before + 1) en (Some (shown_as o)) ≡ e_report ∷ []
    replace-told = accept-replace (reports_in before + 1) en (shown_as o) kind ∙ ap (λ (ps : List Entry). report (reports_in before + 1) (on_request (codes "E") en) (record (shown_as g) { pending = ps }) ∷ []) (ap (λ (ps : List Entry). ps ++ en ∷ []) pending-is ∙ sym pending-g)

    replace-ids : (old_id : List ℕ → List ℕ) → old_id (text 11 m) ≡ text 41 m → has_due_ids (report (reports_in before + 1) (on_request (codes "E") en) (shown_with o (o.replaces ++ en ∷ []))) (chain o.new.order (issued client before)) (chained_with o (o.replaces ++ en ∷ [])) old_id ≡ true
    replace-ids old_id is_old = let id = replace-id o o.replaces en kind in let old = eq-same (text 41 m) in
        rw (id, is_old, old) refl

    replace-tells : Tells (old_ids client (en ∷ A)) (issued client before) e_report g (pending g)
    replace-tells =
        subst (λ (qs : List Entry). Tells (old_ids client (en ∷ A)) (issued client before) (report (reports_in before + 1) (on_request (codes "E") en) (shown_with o qs)) g qs) (sym pending-g)
        (tells-at o (o.replaces ++ en ∷ []) o.cancel (o.replaces ++ en ∷ []) (old_ids client (en ∷ A))
        (issued client before) _
        (report-tells (reports_in before + 1) (on_request (codes "E") en) o (o.replaces ++ en ∷ []) (old_ids client (en ∷ A)) (issued client before) f.keeps.sound
        (asked_replace-Reads (reports_in before + 1) en o.replaces o
        (issued client before) kind lives_on small_total reads-so)
        (replace-ids (old_ids client (en ∷ A)) (sym old-en))))

    abbrev replace_ask : Asked
    replace_ask = asked_replace o.new (last_token (live_token o) (replacements o.replaces)) en

    replace-asks : asks terms en A (issued client before) (handled (port_of terms o.new) before) ≡ replace_ask ∷ []
    replace-asks = rw (no_new, kind, live-so, tokens-so) refl

    replace-own : own o.new.order (replace_ask ∷ []) ≡ replace_ask ∷ []
    replace-own = let own_order = eq-same o.new.order in rw own_order refl

    is_token : next_token ≡ Some (given_tokens A + 1)
    is_token = token_is ∙ (rw kind refl)

    replace-home : IsHome terms (en ∷ A) o.new (token_of en)
    replace-home =
        subst (IsHome terms (en ∷ A) o.new) (ap (λ (x : Option ℕ). token_text (Rattle.std.specs.Prelude.unwrap_or x 0))
        (sym is_token))
        (next-home terms before en H next-en o.new (given_tokens A + 1) is_token refl
        (new-kept terms before en H next-en o.new.order f.number f.order_is f.is_numbered ∙ f.known))

    -- its token is another than each of theirs
    tokens-apart : Each (λ (p : Entry). bytes_eq (token_of p) (token_of en) ≡ false) o.replaces
    tokens-apart = Each-map _ (λ (p : Entry). bytes_eq (token_of p) (token_of en) ≡ false) o.replaces
        (λ q h. fresh q h.0) f.holds.replaces
      where
        fresh : (q : Entry) → IsHome terms A o.new (token_of q) → bytes_eq (token_of q) (token_of en) ≡ false
        fresh q h = eq-other (token_of q) (token_of en) (λ same. (
            let new_one : token_of en ≡ token_text (given_tokens A + 1) =
            ap (λ (x : Option ℕ). token_text (Rattle.std.specs.Prelude.unwrap_or x 0)) is_token in
            let alike : h.number ≡ given_tokens A + 1 =
            token-same h.number (given_tokens A + 1) (omega (arith, h.is_given, H.short)) (omega (arith, room kind))
            (sym h.is_text ∙ same ∙ new_one) in
            omega (arith, alike, h.is_given)))

    replace-keeps : (reports limit : ℕ) → reports_in before ≤ reports → 1_000_000 * length before ≤ limit
        → Keeps reports limit g
    replace-keeps reports limit more more' = let k =
        Keeps-more (reports_in before) (1_000_000 * length before) reports limit o more more' f.keeps in record {
          sound = asked-sound o (o.replaces ++ en ∷ []) o.cancel
              (Each-append (λ (q : Entry). is_replace q.message ≡ true) o.replaces (en ∷ []) f.keeps.sound.replaces
              (kind, tt)) f.keeps.sound.cancels f.keeps.sound;
          apart = subst AreApart (sym pending-g) apart-now;
          current = Each-append (λ (q : Entry). bytes_eq (text 11 q.message) o.id ≡ false) o.replaces
              (en ∷ []) f.keeps.current (unused-other (issued client before) o.id (text 11 m) f.holds.id unused, tt);
          tokens_apart = distinct-more en o.replaces tokens-apart f.keeps.tokens_apart;
          few = (let longer = length-push o.replaces en in omega (arith, longer, few));
          first = k.first;
          over_replace = λ e. absurd (not_closed e);
          over_cancel = k.over_cancel;
          left = k.left;
          idle = k.idle;
          rejected = k.rejected;
          none_waiting = k.none_waiting;
          none_closed = k.none_closed;
          small = k.small;
          numbered = k.numbered;
        }

    replace-asked : (asked_as terms o ++ replace_ask ∷ []) ≡ asked_as terms g
    replace-asked =
        asked-behind (replace_ask ∷ [])
        ∙ ap (λ (rs : List Asked). new_asked terms o.new o.stage ++ rs)
        (sym (one-asked o.new (live_token o) o.replaces en)
        ∙ sym (append-nothing (replaces_asked o.new (live_token o) (o.replaces ++ en ∷ []))))
        ∙ ap (λ (c : Option Cancelling). new_asked terms o.new o.stage
        ++ (replaces_asked o.new (live_token o) (o.replaces ++ en ∷ []) ++ cancel_asked o.new c)) (sym no_c)

    known-then : Each IsKnown (o.replaces ++ en ∷ [])
    known-then = Each-append IsKnown o.replaces (en ∷ []) replaces-known ((replace-home, found-en, inl refl), tt)

    no-cancel-then : (d : Cancelling) → o.cancel ≡ Some d
        → Each (IsHome terms (en ∷ A) o.new) d.tokens × IsFound (en ∷ A) o.new d.request × (d.request ≡ en)
    no-cancel-then d e = absurd (let x : ◌≡◌ {A = Option Cancelling} None (Some d) = sym no_c ∙ e in cc)

    pub replace-Holds : Holds terms (coming_turn client m port (e_report ∷ []) sends ∷ before)
        × Each (IsTrueToMarket terms (coming_turn client m port (e_report ∷ []) sends) before)
        (news (accepted terms (coming_turn client m port (e_report ∷ []) sends ∷ before)))
    replace-Holds = asked-Holds e_report (o.replaces ++ en ∷ []) o.cancel refl refl replace-tells refl replace-keeps
        known-then no-cancel-then (asks-own (replace_ask ∷ []) replace-asks replace-own ∙ replace-asked)

    pub replace-fits : FitsIn terms (coming_turn client m port (e_report ∷ []) sends ∷ before) g
        × StillBeside o.new.order terms (coming_turn client m port (e_report ∷ []) sends) before
    replace-fits = asked-fits e_report (o.replaces ++ en ∷ []) o.cancel refl refl replace-tells refl replace-keeps
        known-then no-cancel-then (asks-own (replace_ask ∷ []) replace-asks replace-own ∙ replace-asked)

  -- ---- a cancel

  module _ (kind : is_replace m ≡ false) where
    abbrev c_next : Cancelling
    c_next = record { request = en; tokens = live_token o ∷ replacements o.replaces }

    abbrev k_order : OrderRecord
    k_order = at o o.replaces (Some c_next)

    abbrev c_report : Message
    c_report = report (reports_in before + 1) (on_request (codes "6") en) (shown_as k_order)

    pub cancel-told : told.accepted_request (reports_in before + 1) en (Some (shown_as o)) ≡ c_report ∷ []
    cancel-told = accept-cancel (reports_in before + 1) en (shown_as o) kind ∙ ap (λ (ps : List Entry). report (reports_in before + 1) (on_request (codes "6") en) (record (shown_as k_order) { pending = ps ++ en ∷ [] }) ∷ []) pending-is

    cancel-ids : (old_id : List ℕ → List ℕ) → old_id (text 11 m) ≡ text 41 m
        → has_due_ids c_report (chain o.new.order (issued client before))
        (chained_with o (o.replaces ++ en ∷ [])) old_id ≡ true
    cancel-ids old_id is_old = let id = cancel-id o o.replaces en f.keeps.sound.replaces kind in let old =
        eq-same (text 41 m) in rw (id, is_old, old) refl

    cancel-tells : Tells (old_ids client (en ∷ A)) (issued client before) c_report k_order (o.replaces ++ en ∷ [])
    cancel-tells =
        tells-at o o.replaces (Some c_next) (o.replaces ++ en ∷ []) (old_ids client (en ∷ A))
        (issued client before) c_report
        (report-tells (reports_in before + 1) (on_request (codes "6") en) o (o.replaces ++ en ∷ []) (old_ids client (en ∷ A)) (issued client before) f.keeps.sound
        (asked_cancel-Reads (reports_in before + 1) en o.replaces o
        (issued client before) kind lives_on small_total reads-so)
        (cancel-ids (old_ids client (en ∷ A)) (sym old-en)))

    cancel-asks : asks terms en A (issued client before) (handled (port_of terms o.new) before)
        ≡ cancel_asked o.new (Some c_next)
    cancel-asks = rw (no_new, kind, live-so, tokens-so) refl

    cancel-own : (ts : List (List ℕ)) → own o.new.order (map (λ token. asked_cancel o.new en token) ts)
        ≡ map (λ token. asked_cancel o.new en token) ts
    cancel-own [] = refl
    cancel-own (token ∷ ts) = let own_order = eq-same o.new.order in
        rw own_order (ap (λ xs. asked_cancel o.new en token ∷ xs) (cancel-own ts))

    tokens-home : (rs : List Entry) → Each IsKnown rs → Each (IsHome terms (en ∷ A) o.new) (replacements rs)
    tokens-home [] known = tt
    tokens-home (q ∷ rs) known = (known.0.0, tokens-home rs known.1)

    cancel-keeps : (reports limit : ℕ) → reports_in before ≤ reports → 1_000_000 * length before ≤ limit
        → Keeps reports limit k_order
    cancel-keeps reports limit more more' = let k =
        Keeps-more (reports_in before) (1_000_000 * length before) reports limit o more more' f.keeps in record {
          sound = asked-sound o o.replaces (Some c_next) f.keeps.sound.replaces
              (λ c is_c. ap (λ (x : Cancelling). is_replace x.request.message) (sym (same_some c_next c is_c)) ∙ kind)
              f.keeps.sound;
          apart = apart-now;
          current = k.current;
          tokens_apart = k.tokens_apart;
          few = k.few;
          first = k.first;
          over_replace = k.over_replace;
          over_cancel = λ e. absurd (not_closed e);
          left = λ c is_c none. (let it : c_next ≡ c = same_some c_next c is_c in
              let bad : (live_token o ∷ replacements o.replaces) ≡ [] = ap (λ (x : Cancelling). x.tokens) it ∙ none in cc);
          idle = k.idle;
          rejected = k.rejected;
          none_waiting = k.none_waiting;
          none_closed = k.none_closed;
          small = k.small;
          numbered = k.numbered;
        }

    cancel-then : (d : Cancelling) → ◌≡◌ {A = Option Cancelling} (Some c_next) (Some d)
        → Each (IsHome terms (en ∷ A) o.new) d.tokens × IsFound (en ∷ A) o.new d.request × (d.request ≡ en)
    cancel-then d e = let it : c_next ≡ d = same_some c_next d e in (
      subst (λ (x : Cancelling). Each (IsHome terms (en ∷ A) o.new) x.tokens) it (
        home-kept terms before en H next-en o.new
            (live_token o) f.holds.front,
        tokens-home o.replaces replaces-known,
      ),
      subst (λ (x : Cancelling). IsFound (en ∷ A) o.new x.request) it found-en,
      ap (λ (x : Cancelling). x.request) (sym it),
    )

    pub cancel-Holds : Holds terms (coming_turn client m port (c_report ∷ []) sends ∷ before)
        × Each (IsTrueToMarket terms (coming_turn client m port (c_report ∷ []) sends) before)
        (news (accepted terms (coming_turn client m port (c_report ∷ []) sends ∷ before)))
    cancel-Holds = asked-Holds c_report o.replaces
        (Some c_next) refl refl cancel-tells refl cancel-keeps replaces-known cancel-then
        (asks-own (cancel_asked o.new (Some c_next)) cancel-asks (cancel-own (live_token o ∷ replacements o.replaces))
        ∙ asked-behind (cancel_asked o.new (Some c_next)))

    pub cancel-fits : FitsIn terms (coming_turn client m port (c_report ∷ []) sends ∷ before) k_order
        × StillBeside o.new.order terms (coming_turn client m port (c_report ∷ []) sends) before
    cancel-fits = asked-fits c_report o.replaces
        (Some c_next) refl refl cancel-tells refl cancel-keeps replaces-known cancel-then
        (asks-own (cancel_asked o.new (Some c_next)) cancel-asks (cancel-own (live_token o ∷ replacements o.replaces))
        ∙ asked-behind (cancel_asked o.new (Some c_next)))
