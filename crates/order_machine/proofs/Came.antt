-- Each client's message keeps what every told history keeps.
use Rattle.std.proofs.Common.{◌≡◌, ℕ, ◌+◌, ◌*◌, ◌<◌, ◌≤◌, ◌^◌, Bool, true, false, List, [], ◌∷◌, ◌++◌, length, refl}
use Rattle.std.proofs.Common.{sym, ap, ◌∙◌, subst, arith, decimal, codes, bytes_eq, Option, Some, None, eq-eqb}
use Rattle.std.specs.Prelude.{if◌then◌else◌}
use Rattle.tokens.specs.TokenText.{token_text}
use Rattle.order_law.specs.ouch_codec.declared.outbound.Outbound.{Outbound}
use Rattle.fix_fields.specs.Field.{Message, character, is, text}
use Rattle.order_law.specs.Life.{Life, after, born, life}
use Rattle.order_law.specs.Chain.{is_used}
use Rattle.order_law.specs.History.{Entry, OrderHistory, Terms, OrderTurn, accepted, given_tokens, handled}
use Rattle.order_law.specs.History.{is_new_order, issued, life_of, new_of, orders_numbered, outstanding, token_of}
use Rattle.order_law.specs.Told.{price_after, priced, reports_in}
use Rattle.order_law.specs.Headline.{Each, IsTrueToMarket, old_ids}
use Rattle.order_machine.specs.OrderRecord.{Cancelling, OrderRecord, asked_as, cancel_entry, pending, shown_as}
use Rattle.order_machine.proofs.Texts.{eq-decimal_other, eq-is, eq-other, eq-same}
use Rattle.order_machine.proofs.Due.{Reads, Reads-others, ReadsWell-others}
use Rattle.order_machine.proofs.Leads.{same_some}
use Rattle.order_machine.proofs.Moves.{Of}
use Rattle.order_machine.proofs.Fits.{IsFound, IsHome, IsUsed, own, shown-is}
use Rattle.order_machine.proofs.Holds.{Still, StillBeside, HasRecord, Holds, FitsIn, PassesOver, news, port_of}
use Rattle.order_machine.proofs.Reports.{AreOthers, Tells, entered-Reads, report-tells}
use Rattle.order_machine.proofs.Lists.{Each-append, Each-map}
use Rattle.order_machine.proofs.Sound.{entered-sound}
use Rattle.order_machine.proofs.Rejects.{refused-tells}
use Rattle.order_law.specs.Asks.{limit_of}
use Rattle.order_law.specs.Verdicts.{Accepted, Port, Refused, Verdict, has_to_wait, is_replace}
use Rattle.order_law.specs.History.{Came, asks_of, entry_at, standing_of, verdict}
use Rattle.order_law.specs.Chain.{named as named_order}
use Rattle.order_law.specs.Told.{Shown, newly_shown, plain, refusing_report, reject, report, shown, status_of}
use Rattle.std.specs.Prelude.{option_and_then}
use Rattle.order_machine.specs.OrderRecord.{entered}
use Rattle.order_machine.proofs.Pushing.{IsNext, next-home}
use Rattle.order_machine.proofs.Verdicts.{NewSays, new-says, none-apart, refused-unused}
use Rattle.order_machine.proofs.Coming as coming
use Rattle.order_machine.proofs.Coming.{IsTold, coming_turn, numbered-came}

-- ---- a new order that is refused

module _ (terms : List Terms) (before : OrderHistory) (client : ℕ) (m : Message) (port : Port) (sends : List (List ℕ))
    (H : Holds terms before) (short : length before < 2 ^ 59)
    (code : ℕ) (why : List ℕ) (v : verdict terms (issued client before) (accepted terms before) port m ≡ Refused code why) where
  abbrev r : Message
  r = refusing_report (reports_in before + 1) (orders_numbered before + 1) m code why

  none-taken : entry_at terms (Came client m port) before ≡ None
  none-taken = rw v refl

  off : (k : List ℕ) (n : ℕ) → k ≡ decimal n → n ≤ orders_numbered before → is 37 k r ≡ false
  off k n is_n few = rw is_n (eq-decimal_other (orders_numbered before + 1) n (λ same. (omega (arith, same, few)))
      (omega (arith, H.few)) (omega (arith, few, H.few)))

  pub new-refused : is_new_order m ≡ true → Holds terms (coming_turn client m port (r ∷ []) sends ∷ before)
      × Each (IsTrueToMarket terms (coming_turn client m port (r ∷ []) sends) before)
      (news (accepted terms (coming_turn client m port (r ∷ []) sends ∷ before)))
      × Still terms (coming_turn client m port (r ∷ []) sends) before
  new-refused new = coming.refused-Holds terms before client m port r sends H none-taken refl
      (λ n above small. eq-decimal_other (orders_numbered before + 1) n (λ same. (omega (arith, same, above, count)))
      (omega (arith, H.few)) small)
      (λ x f mine. record {
        reads = Reads-others x (r ∷ []) (issued x.new.client before)
            (off x.new.order f.number f.order_is f.is_numbered, tt) f.reads;
        says = (ReadsWell-others x.new.order x.new.message (old_ids x.new.client (accepted terms before))
            (issued x.new.client before) (r ∷ []) (off x.new.order f.number f.order_is f.is_numbered, tt)).0;
      })
    where
      one_if : (b : Bool) → b ≡ true → ◌≡◌ {A = ℕ} (if b then 1 else 0) 1
      one_if true h = refl
      one_if false h = absurd (cc)

      count : orders_numbered (coming_turn client m port (r ∷ []) sends ∷ before) ≡ 1 + orders_numbered before
      count = numbered-came client m port (r ∷ []) sends before
          ∙ ap (λ n. n + orders_numbered before) (one_if (is_new_order m) new)

-- ---- a request that is refused

-- an id that isn't used isn't pending
not-pending : (terms : List Terms) (entries : List Entry) (sent : List Message) (o : OrderRecord) (id : List ℕ)
    → is_used id sent ≡ false → Of (IsHome terms entries o.new) (IsFound entries o.new) (IsUsed sent) o
    → AreOthers id (pending o)
not-pending terms entries sent o id unused holds =
    Each-append (IsOther) o.replaces (cancel_entry o.cancel)
    (Each-map _ IsOther o.replaces (λ q h. apart q h.2) holds.replaces)
    (of-cancel o.cancel (λ c e. apart c.request (holds.cancel c e).2))
  where
    IsOther : Entry → Type 0
    IsOther q = bytes_eq (text 11 q.message) id ≡ false

    of-cancel : (c : Option Cancelling) → ((x : Cancelling) → c ≡ Some x
        → bytes_eq (text 11 x.request.message) id ≡ false) → AreOthers id (cancel_entry c)
    of-cancel None is = tt
    of-cancel (Some c) is = (is c refl, tt)

    clash : (i : List ℕ) → i ≡ id → is_used i sent ≡ true → ⊥
    clash i same used = let x : true ≡ false = sym used ∙ (ap (λ (j : List ℕ). is_used j sent) same ∙ unused) in cc

    apart : (q : Entry) → IsUsed sent (text 11 q.message) → bytes_eq (text 11 q.message) id ≡ false
    apart q used = eq-other (text 11 q.message) id (λ same. clash (text 11 q.message) same used)

module _ (terms : List Terms) (before : OrderHistory) (client : ℕ) (m : Message) (port : Port) (sends : List (List ℕ))
    (H : Holds terms before) (short : length before < 2 ^ 59)
    (code : ℕ) (why : List ℕ) (v : verdict terms (issued client before) (accepted terms before) port m ≡ Refused code why) (no_new : is_new_order m ≡ false) where
  abbrev A : List Entry
  A = accepted terms before

  none-taken' : entry_at terms (Came client m port) before ≡ None
  none-taken' = rw v refl

  abbrev n : Message
  n = reject (codes "NONE") (codes "8") m code why

  pub unknown-refused : Holds terms (coming_turn client m port (n ∷ []) sends ∷ before)
      × Each (IsTrueToMarket terms (coming_turn client m port (n ∷ []) sends) before)
      (news (accepted terms (coming_turn client m port (n ∷ []) sends ∷ before)))
      × Still terms (coming_turn client m port (n ∷ []) sends) before
  unknown-refused = coming.refused-Holds terms before client m port n sends H none-taken' refl
      (λ k above small. none-apart k small)
      (λ x f mine. (let off : is 37 x.new.order n ≡ false =
      rw f.order_is (none-apart f.number (omega (arith, f.is_numbered, H.few))) in record {
        reads = Reads-others x (n ∷ []) (issued x.new.client before) (off, tt) f.reads;
        says = (ReadsWell-others x.new.order x.new.message (old_ids x.new.client A) (issued x.new.client before)
            (n ∷ []) (off, tt)).0;
      }))

  own-verdict : Rattle.order_law.specs.Verdicts.verdict_of_request (issued client before)
      (option_and_then (standing_of terms (issued client before) A) (named_order (text 41 m) (issued client before)))
      port (given_tokens A) m ≡ Refused code why
  own-verdict = rw no_new at v

  module _ (e : Entry) (h : HasRecord terms before e) where
    abbrev s : Shown
    s = shown terms before e

    abbrev x : Message
    x = reject s.order (status_of s) m code why

    reject-off : (k : List ℕ) → bytes_eq e.order k ≡ false → is 37 k x ≡ false
    reject-off k apart = apart

    pub known-refused : Holds terms (coming_turn client m port (x ∷ []) sends ∷ before)
        × Each (IsTrueToMarket terms (coming_turn client m port (x ∷ []) sends) before)
        (news (accepted terms (coming_turn client m port (x ∷ []) sends ∷ before)))
        × Still terms (coming_turn client m port (x ∷ []) sends) before
    known-refused = coming.refused-Holds terms before client m port x sends H none-taken' refl fresh
        (λ y f mine. by_order y f mine (bytes_eq e.order y.new.order) refl)
      where
        fresh : (k : ℕ) → orders_numbered (coming_turn client m port (x ∷ []) sends ∷ before) < k → k < 10 ^ 64
            → is 37 (decimal k) x ≡ false
        fresh k above small =
            let order : e.order ≡ decimal h.fits.number = ap (λ (q : Entry). q.order) (sym h.same) ∙ h.fits.order_is in
            rw order (eq-decimal_other h.fits.number k
            (λ same. (omega (
              arith,
              same,
              above,
              h.fits.is_numbered,
              numbered-came client m port
                  (x ∷ []) sends before,
            ))) (omega (arith, h.fits.is_numbered, H.few)) small)

        own-tells : (y : OrderRecord) → FitsIn terms before y → y.new ≡ e → client ≡ y.new.client
            → Tells (old_ids y.new.client A) (issued y.new.client before) x y (pending y)
        own-tells y f is_e mine =
            let shown_so : s ≡ shown_as y = ap (shown terms before) (sym is_e)
            ∙ shown-is terms before (orders_numbered before) (outstanding terms (port_of terms y.new) before)
            (reports_in before) (1_000_000 * length before) y f in
            subst (λ (z : Shown). Tells (old_ids y.new.client A) (issued y.new.client before)
            (reject z.order (status_of z) m code why) y (pending y)) (sym shown_so)
            (refused-tells m code why y (pending y) (old_ids y.new.client A) (issued y.new.client before) f.keeps.sound f.reads (bytes_eq (decimal code) (codes "6")) refl
            (λ other. not-pending terms A (issued y.new.client before) y (text 11 m)
            (subst (λ (c : ℕ). is_used (text 11 m) (issued c before) ≡ false) mine
            (refused-unused (issued client before) (option_and_then (standing_of terms (issued client before) A)
            (named_order (text 41 m) (issued client before))) port (given_tokens A) m code why own-verdict other))
            f.holds))

        by_order : (y : OrderRecord) → FitsIn terms before y → client ≡ y.new.client → (b : Bool)
            → bytes_eq e.order y.new.order ≡ b → IsTold terms before client m port x sends H y
        by_order y f mine true same =
            let known_e : new_of e.order A ≡ Some e =
            subst (λ (q : Entry). new_of q.order A ≡ Some q) h.same h.fits.known in
            let it : y.new ≡ e = same_some y.new e (sym f.known
            ∙ ap (λ (k : List ℕ). new_of k A) (sym (eq-is e.order y.new.order same)) ∙ known_e) in
            let both = own-tells y f it mine in
            record { reads = both.reads; says = both.says }
        by_order y f mine false apart = record {
          reads = Reads-others y (x ∷ []) (issued y.new.client before) (apart, tt) f.reads;
          says = (ReadsWell-others y.new.order y.new.message (old_ids y.new.client A) (issued y.new.client before)
              (x ∷ []) (apart, tt)).0;
        }

-- ---- a new order that is accepted

born-life : (root : List ℕ) (side : ℕ) (ms : List Outbound) → Each (PassesOver root side) ms
    → life root side ms ≡ born root side
born-life root side [] each = refl
born-life root side (m ∷ ms) each = ap (λ (l : Life). after l m) (born-life root side ms each.1) ∙ each.0.0

born-price : (new : Entry) (entries : List Entry) (ms : List Outbound) → new_of new.order entries ≡ Some new
    → Each (PassesOver (token_of new) (character 54 new.message)) ms → price_after new entries ms ≡ limit_of new.message
born-price new entries [] known each = refl
born-price new entries (m ∷ ms) known each =
    let lived' : life_of new.order entries ms ≡ born (token_of new) (character 54 new.message) =
    rw known (born-life (token_of new) (character 54 new.message) ms each.1) in
    ap (λ (l : Life). priced m l (price_after new entries ms)) lived' ∙ each.0.1 (price_after new entries ms)
    ∙ born-price new entries ms known each.1

module _ (terms : List Terms) (before : OrderHistory) (client : ℕ) (m : Message) (port : Port) (sends : List (List ℕ))
    (H : Holds terms before) (short : length before < 2 ^ 59)
    (v : verdict terms (issued client before) (accepted terms before) port m ≡ Accepted) (new : is_new_order m ≡ true) where
  abbrev D : List Entry
  D = accepted terms before

  abbrev en : Entry
  en = record {
    client = client;
    message = m;
    order = decimal (orders_numbered before + 1);
    token =
        Some (given_tokens D + 1);
  }

  abbrev a : Message
  a = report (reports_in before + 1) (plain (codes "A")) (newly_shown en)

  abbrev w : OrderTurn
  w = coming_turn client m port (a ∷ []) sends

  pub taken-new : entry_at terms (Came client m port) before ≡ Some en
  taken-new = rw (v, new) refl

  says-new : NewSays (issued client before) (given_tokens D) m
  says-new = new-says (issued client before) port (given_tokens D) m (rw new at v)

  next-new : IsNext terms before en
  next-new = record {
    order = λ e. refl;
    token = λ n e. sym (same_some (given_tokens D + 1) n e);
    room = λ n e. (let it : given_tokens D + 1 ≡ n = same_some (given_tokens D + 1) n e in
        omega (arith, says-new.token, it));
    unused = says-new.unused;
    few = omega (arith, H.few);
  }

  own-known : new_of en.order (en ∷ D) ≡ Some en
  own-known = let own = eq-same (decimal (orders_numbered before + 1)) in rw (own, new) refl

  count-new : orders_numbered (w ∷ before) ≡ 1 + orders_numbered before
  count-new = numbered-came client m port (a ∷ []) sends before
      ∙ ap (λ n. n + orders_numbered before) (one_if (is_new_order m) new)
    where
      one_if : (b : Bool) → b ≡ true → ◌≡◌ {A = ℕ} (if b then 1 else 0) 1
      one_if true h = refl
      one_if false h = absurd (cc)

  home-new : IsHome terms (en ∷ D) en (token_text (given_tokens D + 1))
  home-new = next-home terms before en H next-new en (given_tokens D + 1) refl refl own-known

  passes : Each (PassesOver (token_of en) (character 54 m)) (handled (port_of terms en) before)
  passes = H.unheard (given_tokens D + 1) (port_of terms en) (character 54 m) (omega arith)
      (omega (arith, says-new.token))

  asked-new : own en.order (outstanding terms (port_of terms en) before
      ++ asks_of terms (port_of terms en) (Some en) D (issued client before) (handled (port_of terms en) before))
      ≡ asked_as terms (entered en)
  asked-new =
      coming.own-append en.order (outstanding terms (port_of terms en) before)
      (asks_of terms (port_of terms en) (Some en) D (issued client before) (handled (port_of terms en) before))
      ∙ (let own_order = eq-same (decimal (orders_numbered before + 1)) in
      rw (
        H.unasked (orders_numbered before + 1) (port_of terms en) (omega arith) (omega (arith, H.few)),
        eq-eqb
            (port_of terms en) (port_of terms en) refl,
        new,
        own_order,
      ) refl)

  reads-new : Reads (a ∷ issued client before) (entered en)
  reads-new = entered-Reads (reports_in before + 1) en (issued client before) (omega (arith, says-new.most))
      (H.unread (orders_numbered before + 1) client (omega arith) (omega (arith, H.few)))

  tells-new : (old_id : List ℕ → List ℕ) → Tells old_id (issued client before) a (entered en) []
  tells-new old_id = report-tells (reports_in before + 1) (plain (codes "A")) (entered en) [] old_id (issued client before) (entered-sound en) reads-new (let id = eq-same (text 11 m) in rw id refl)

  pub fits-new : FitsIn terms (w ∷ before) (entered en)
  fits-new = rw taken-new (record {
    reads = subst (λ (xs : List Message). Reads xs (entered en))
        (sym (coming.issued-own terms before client m port a sends H)) reads-new;
    lives = born-life (token_of en) (character 54 m) (handled (port_of terms en) before) passes;
    priced = born-price en (en ∷ D) (handled (port_of terms en) before) own-known passes;
    asked_so = asked-new;
    keeps = record {
      sound = entered-sound en;
      apart = tt;
      current = tt;
      tokens_apart = tt;
      few = omega arith;
      first = λ e. refl;
      over_replace = λ e. refl;
      over_cancel = λ e. refl;
      left = λ c e. absurd (cc);
      idle = λ e. refl;
      rejected = λ e. refl;
      none_waiting = λ e. refl;
      none_closed = λ e. refl;
      small = omega (arith, says-new.most);
      numbered = tt;
    };
    holds = record {
      front = home-new;
      live = (home-new, tt);
      replaces = tt;
      cancel = λ c e. absurd (cc);
      id = subst (λ (xs : List Message). is_used (text 11 m) xs ≡ true)
          (sym (coming.issued-own terms before client m port a sends H)) (let id = eq-same (text 11 m) in rw id refl);
    };
    known = own-known;
    is_new = new;
    number = orders_numbered before + 1;
    order_is = refl;
    is_numbered = omega (arith, count-new);
  })

  pub beside-new : StillBeside en.order terms w before
  beside-new = coming.beside-fits terms before client m port a sends H en taken-new refl next-new refl

  pub new-taken : Holds terms (w ∷ before) × Each (IsTrueToMarket terms w before) (news (accepted terms (w ∷ before)))
  new-taken = coming.taken-Holds terms before client m port a sends H en taken-new refl next-new refl en own-known refl
      (orders_numbered before + 1) refl (omega (arith, count-new)) (omega (arith, H.few))
      (record { order = entered en; same = refl; fits = fits-new })
      ((tells-new (old_ids client (accepted terms (w ∷ before)))).says, tt) (sym new)
