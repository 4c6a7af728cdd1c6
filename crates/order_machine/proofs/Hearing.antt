-- A message of the market keeps what every told history keeps, and each order true.
use Rattle.std.proofs.Common.{◌≡◌, ℕ, ◌+◌, ◌*◌, ◌<◌, ◌≤◌, ◌^◌, Bool, true, false, List, [], ◌∷◌, ◌++◌, length, reverse}
use Rattle.std.proofs.Common.{refl, sym, ap, ◌∙◌, subst, arith, decimal, Option, Some, None, Result, Ok, Err}
use Rattle.std.specs.Prelude.{◌&&◌, ◌||◌, ◌==◌, not, if◌then◌else◌, filter}
use Rattle.tokens.specs.TokenText.{token_text}
use Rattle.order_law.specs.ouch_codec.declared.outbound.Outbound.{Outbound}
use Rattle.order_law.specs.ouch_codec.declared.outbound.Outbound.TheVariants as market
use Rattle.order_law.specs.ouch_codec.declared.refusal.DecodeRefusal.{DecodeRefusal}
use Rattle.fix_fields.specs.Field.{Message, character}
use Rattle.order_law.specs.Life.{Life, after, born, is_closed, life}
use Rattle.order_law.specs.Chain.{is_used, orders}
use Rattle.order_law.specs.History.{Asked, Heard, OrderHistory, Terms, OrderTurn, accepted, given_tokens, is_answered}
use Rattle.order_law.specs.History.{handled, issued, life_of, next_tokens, orders_numbered, outstanding, token_of}
use Rattle.order_law.specs.Told.{price_after, priced, reports_in}
use Rattle.order_law.specs.Headline.{Each, IsTrueToMarket}
use Rattle.order_machine.specs.OrderRecord.{OrderRecord, asked_as, record_life, replacements}
use Rattle.order_machine.proofs.Lists.{Each-map}
use Rattle.order_machine.proofs.Due.{IsUnread, Reads}
use Rattle.order_machine.proofs.Executed.{count-more}
use Rattle.order_machine.proofs.Moves.{Keeps, unanswered}
use Rattle.order_machine.proofs.Fits.{life-of, next-own, own, own-after}
use Rattle.order_machine.proofs.Untouched.{IsUntouched}
use Rattle.order_machine.proofs.Holds.{FitsIn, HasRecord, Holds, IsEntry, PassesOver, Still, news, port_of, quiet-Fits}
use Rattle.order_machine.proofs.Holds.{true-of}
use Rattle.order_machine.proofs.Untouched.{tokenless-untouched}
use Rattle.order_law.specs.declared.stage.Stage.{Stage}
use Rattle.order_law.specs.declared.stage.Stage.TheVariants.{Waiting, Working, Closed}
use Rattle.order_law.specs.Lawful.{order_token}

pub append-nothing : {A : Type 0} (xs : List A) → xs ++ [] ≡ xs
append-nothing [] = refl
append-nothing (x ∷ xs) = ap (λ ys. x ∷ ys) (append-nothing xs)

-- nothing is asked of an order that is closed
pub closed-asked : (terms : List Terms) (reports limit : ℕ) (o : OrderRecord) → Keeps reports limit o
    → is_closed o.stage ≡ true → asked_as terms o ≡ []
closed-asked terms reports limit o k over = by_stage o.stage refl over
  where
    by_stage : (s : Stage) → o.stage ≡ s → is_closed s ≡ true → asked_as terms o ≡ []
    by_stage Waiting e over = absurd (cc)
    by_stage Working e over = absurd (cc)
    by_stage Closed e over = rw (k.over_replace e, k.over_cancel e, e) refl

abbrev pub heard_turn : ℕ → Result Outbound DecodeRefusal → ℕ → List Message → List (List ℕ) → Option ℕ → OrderTurn
heard_turn port m client bodies sends fault =
    record { event = Heard port m; client = client; bodies = bodies; sends = sends; fault = fault }

pub numbered-heard : (port : ℕ) (m : Result Outbound DecodeRefusal) (client : ℕ) (bodies : List Message)
    (sends : List (List ℕ)) (fault : Option ℕ) (before : OrderHistory)
    → orders_numbered (heard_turn port m client bodies sends fault ∷ before) ≡ 0 + orders_numbered before
numbered-heard port m client bodies sends fault before =
    count-more _ (heard_turn port m client bodies sends fault) before

-- ---- a message that is handled

module _ (terms : List Terms) (before : OrderHistory) (port : ℕ) (m : Outbound) (client : ℕ) (bodies : List Message) (sends : List (List ℕ)) (H : Holds terms before) where
  abbrev t : OrderTurn
  t = heard_turn port (Ok m) client bodies sends None

  -- what is then asked for an order
  pub asked-now : (k : List ℕ) (p : ℕ) (c : Bool)
      → is_closed (life_of k (accepted terms before) (handled p (t ∷ before))).stage ≡ c
      → own k (outstanding terms p (t ∷ before))
      ≡ (if c then [] else unanswered m (next_tokens k (outstanding terms p before))
      (own k (outstanding terms p before)))
  asked-now k p c is_c = ap (own k) (append-nothing (filter still (outstanding terms p before)))
      ∙ own-after k (accepted terms before) (handled p (t ∷ before)) m (outstanding terms p before) c is_c
      (outstanding terms p before)
    where
      still : Asked → Bool
      still a = not (is_answered m (outstanding terms p before) a
          || is_closed (life_of a.order (accepted terms before) (handled p (t ∷ before))).stage)

  pub asked-as : (o p : OrderRecord) (port' : ℕ) → own o.new.order (outstanding terms port' before) ≡ asked_as terms o
      → life_of o.new.order (accepted terms before) (handled port' (t ∷ before)) ≡ record_life p
      → (is_closed p.stage ≡ true → asked_as terms p ≡ [])
      → (is_closed p.stage ≡ false → unanswered m (replacements o.replaces) (asked_as terms o) ≡ asked_as terms p)
      → own o.new.order (outstanding terms port' (t ∷ before)) ≡ asked_as terms p
  asked-as o p port' was lives over goes_on =
      asked-now o.new.order port' (is_closed p.stage) (ap (λ (l : Life). is_closed l.stage) lives)
      ∙ by_closed (is_closed p.stage) refl
    where
      by_closed : (c : Bool) → is_closed p.stage ≡ c
          → (if c then [] else unanswered m (next_tokens o.new.order (outstanding terms port' before))
          (own o.new.order (outstanding terms port' before))) ≡ asked_as terms p
      by_closed true e = sym (over e)
      by_closed false e =
          ap (unanswered m (next_tokens o.new.order (outstanding terms port' before))) was
          ∙ ap (λ (next : List (List ℕ)). unanswered m next (asked_as terms o))
          (next-own terms o (outstanding terms port' before) was)
          ∙ goes_on e

  -- an order that hears nothing of it
  module _ (o : OrderRecord) (f : FitsIn terms before o) (untouched : IsUntouched terms m o) where
    abbrev p : ℕ
    p = port_of terms o.new

    same-life : (b : Bool) → life (token_of o.new) (character 54 o.new.message)
        (if b && true then m ∷ handled p before else handled p before)
        ≡ life (token_of o.new) (character 54 o.new.message) (handled p before)
    same-life true = ap (λ (l : Life). after l m) f.lives ∙ untouched.lives ∙ sym f.lives
    same-life false = refl

    same-price : (b : Bool) → price_after o.new (accepted terms before)
        (if b && true then m ∷ handled p before else handled p before)
        ≡ price_after o.new (accepted terms before) (handled p before)
    same-price true = ap (λ (l : Life). priced m l (price_after o.new (accepted terms before) (handled p before)))
        (life-of terms (accepted terms before) (orders_numbered before) (issued o.new.client before) (handled p before)
        (outstanding terms p before) (reports_in before) (1_000_000 * length before) o f)
        ∙ untouched.price (price_after o.new (accepted terms before) (handled p before))
    same-price false = refl

    same-asked : own o.new.order (outstanding terms p (t ∷ before)) ≡ own o.new.order (outstanding terms p before)
    same-asked =
        asked-as o o p f.asked_so (rw f.known (same-life (port == p) ∙ f.lives))
        (closed-asked terms (reports_in before) (1_000_000 * length before) o f.keeps) (λ e. untouched.asked)
        ∙ sym f.asked_so

    pub untouched-fits : Reads (issued o.new.client (t ∷ before)) o
        → ((id : List ℕ) → is_used id (issued o.new.client before) ≡ true
        → is_used id (issued o.new.client (t ∷ before)) ≡ true) → FitsIn terms (t ∷ before) o
    untouched-fits reads used = quiet-Fits terms (accepted terms before) (orders_numbered before)
        (orders_numbered (t ∷ before)) (issued o.new.client before) (issued o.new.client (t ∷ before))
        (handled p before) (handled p (t ∷ before)) (outstanding terms p before) (outstanding terms p (t ∷ before))
        (reports_in before) (reports_in (t ∷ before)) (1_000_000 * length before)
        (1_000_000 * length (t ∷ before)) o f same_count reads used (same-life (port == p))
        (same-price (port == p)) same-asked (omega arith) (omega arith)
      where
        same_count : orders_numbered before ≤ orders_numbered (t ∷ before)
        same_count = omega (arith, numbered-heard port (Ok m) client bodies sends None before)

-- a message without a token changes no order
tokenless-life : (m : Outbound) → order_token m ≡ None → (l : Life)
    → (after l m ≡ l) × ((before : ℕ) → priced m l before ≡ before)
tokenless-life (market.SystemEvent m) none l = (refl, λ before. refl)
tokenless-life market.Skipped none l = (refl, λ before. refl)
tokenless-life (market.Accepted m) none l = absurd (cc)
tokenless-life (market.Replaced m) none l = absurd (cc)
tokenless-life (market.Canceled m) none l = absurd (cc)
tokenless-life (market.Executed m) none l = absurd (cc)
tokenless-life (market.Broken m) none l = absurd (cc)
tokenless-life (market.Rejected m) none l = absurd (cc)
tokenless-life (market.CancelPending m) none l = absurd (cc)
tokenless-life (market.CancelReject m) none l = absurd (cc)

-- ---- nobody is told anything

module _ (terms : List Terms) (before : OrderHistory) (port : ℕ) (m : Result Outbound DecodeRefusal) (sends : List (List ℕ)) (fault : Option ℕ) (H : Holds terms before) where
  abbrev quiet : OrderTurn
  quiet = heard_turn port m 0 [] sends fault

  pub same-issued : (c : ℕ) → issued c (quiet ∷ before) ≡ issued c before
  same-issued c = by_test (0 == c)
    where
      by_test : (b : Bool) → (if b then reverse [] ++ issued c before else issued c before) ≡ issued c before
      by_test true = refl
      by_test false = refl

  same-reads : (o : OrderRecord) → FitsIn terms before o → Reads (issued o.new.client (quiet ∷ before)) o
  same-reads o f = subst (λ (xs : List Message). Reads xs o) (sym (same-issued o.new.client)) f.reads

  same-used : (c : ℕ) (id : List ℕ) → is_used id (issued c before) ≡ true
      → is_used id (issued c (quiet ∷ before)) ≡ true
  same-used c id e = ap (is_used id) (same-issued c) ∙ e

  -- where each order stays as it is
  pub quiet-Holds : ((o : OrderRecord) → FitsIn terms before o → FitsIn terms (quiet ∷ before) o)
      → ((n p side : ℕ) → given_tokens (accepted terms before) < n → n ≤ 9_999_999_999_999
      → Each (PassesOver (token_text n) side) (handled p (quiet ∷ before)))
      → ((n p : ℕ) → orders_numbered before < n → n < 10 ^ 64
      → own (decimal n) (outstanding terms p (quiet ∷ before)) ≡ [])
      → Holds terms (quiet ∷ before) × Each (IsTrueToMarket terms quiet before) (news (accepted terms before))
      × Still terms quiet before
  quiet-Holds same unheard unasked = (
    record {
      entries = Each-map (IsEntry terms (accepted terms before) (orders_numbered before))
          (IsEntry terms (accepted terms before) (orders_numbered (quiet ∷ before))) (accepted terms before)
          (λ e i. record {
            new = i.new;
            found = i.found;
            same_client = i.same_client;
            is_given = i.is_given;
            number =
                i.number;
            order_is = i.order_is;
            is_numbered = omega (arith, i.is_numbered, count);
          }) H.entries;
      short = H.short;
      records = records;
      listed = λ c. ap orders (same-issued c) ∙ H.listed c;
      unread = λ n c above small. subst (λ (xs : List Message). IsUnread (decimal n) xs) (sym (same-issued c))
          (H.unread n c (omega (arith, above, count)) small);
      unheard = unheard;
      unasked = λ n p above small. unasked n p (omega (arith, above, count)) small;
      few = omega (arith, H.few, count);
    },
    Each-map (HasRecord terms (quiet ∷ before)) (IsTrueToMarket terms quiet before) (news (accepted terms before))
        (λ e r. true-of terms quiet before e r (λ mine. tt)) records,
    same,
  )
    where
      count : orders_numbered (quiet ∷ before) ≡ 0 + orders_numbered before
      count = numbered-heard port m 0 [] sends fault before

      records : Each (HasRecord terms (quiet ∷ before)) (news (accepted terms before))
      records = Each-map (HasRecord terms before) (HasRecord terms (quiet ∷ before)) (news (accepted terms before))
          (λ e r. record { order = r.order; same = r.same; fits = same r.order r.fits }) H.records

-- a payload that is a fault
pub fault-Holds : (terms : List Terms) (before : OrderHistory) (port : ℕ) (heard : Result Outbound DecodeRefusal)
    (sends : List (List ℕ)) (n : ℕ) → Holds terms before
    → Holds terms (heard_turn port heard 0 [] sends (Some n) ∷ before)
    × Each (IsTrueToMarket terms (heard_turn port heard 0 [] sends (Some n)) before) (news (accepted terms before))
    × Still terms (heard_turn port heard 0 [] sends (Some n)) before
fault-Holds terms before port heard sends n H =
    quiet-Holds terms before port heard sends (Some n) H same
    (λ k p side above most. subst (Each (PassesOver (token_text k) side)) (sym (same-handled heard p))
    (H.unheard k p side above most)) (λ k p above small. ap (own (decimal k)) (same-asked heard p)
    ∙ H.unasked k p above small)
  where
    q : Result Outbound DecodeRefusal → OrderTurn
    q h = heard_turn port h 0 [] sends (Some n)

    same-handled : (h : Result Outbound DecodeRefusal) (p : ℕ) → handled p (q h ∷ before) ≡ handled p before
    same-handled (Err refusal) p = refl
    same-handled (Ok m) p = by_test (port == p)
      where
        by_test : (b : Bool) → (if b && false then m ∷ handled p before else handled p before) ≡ handled p before
        by_test true = refl
        by_test false = refl

    same-asked : (h : Result Outbound DecodeRefusal) (p : ℕ)
        → outstanding terms p (q h ∷ before) ≡ outstanding terms p before
    same-asked (Err refusal) p = append-nothing (outstanding terms p before)
    same-asked (Ok m) p = append-nothing (outstanding terms p before)

    same : Still terms (q heard) before
    same o f = quiet-Fits terms (accepted terms before) (orders_numbered before) (orders_numbered (q heard ∷ before))
        (issued o.new.client before) (issued o.new.client (q heard ∷ before)) (handled (port_of terms o.new) before)
        (handled (port_of terms o.new) (q heard ∷ before))
        (outstanding terms (port_of terms o.new) before) (outstanding terms (port_of terms o.new) (q heard ∷ before))
        (reports_in before) (reports_in (q heard ∷ before)) (1_000_000 * length before)
        (1_000_000 * length (q heard ∷ before)) o f
        (omega (arith, numbered-heard port heard 0 [] sends (Some n) before))
        (same-reads terms before port heard sends (Some n) H o f)
        (same-used terms before port heard sends (Some n) H o.new.client)
        (ap (life (token_of o.new) (character 54 o.new.message)) (same-handled heard (port_of terms o.new)))
        (ap (price_after o.new (accepted terms before)) (same-handled heard (port_of terms o.new)))
        (ap (own o.new.order) (same-asked heard (port_of terms o.new))) (omega arith) (omega arith)

-- a message without a token
pub tokenless-Holds : (terms : List Terms) (before : OrderHistory) (port : ℕ) (m : Outbound) (sends : List (List ℕ))
    → Holds terms before
    → order_token m ≡ None
    → Holds terms (heard_turn port (Ok m) 0 [] sends None ∷ before)
    × Each (IsTrueToMarket terms (heard_turn port (Ok m) 0 [] sends None) before) (news (accepted terms before))
    × Still terms (heard_turn port (Ok m) 0 [] sends None) before
tokenless-Holds terms before port m sends H none = quiet-Holds terms before port (Ok m) sends None H
    (λ o f. untouched-fits terms before port m 0 [] sends H o f (tokenless-untouched terms m o none)
    (same-reads terms before port (Ok m) sends None H o f)
    (same-used terms before port (Ok m) sends None H o.new.client))
    (λ k p side above most. same-life k p side above most (port == p))
    (λ k p above small. asked-now terms before port m 0 [] sends H (decimal k) p
    (is_closed (life_of (decimal k) (accepted terms before) (handled p (q ∷ before))).stage) refl
    ∙ by_closed k p above small (is_closed (life_of (decimal k) (accepted terms before)
    (handled p (q ∷ before))).stage))
  where
    q : OrderTurn
    q = heard_turn port (Ok m) 0 [] sends None

    same-life : (k p side : ℕ) → given_tokens (accepted terms before) < k → k ≤ 9_999_999_999_999 → (f : Bool)
        → Each (PassesOver (token_text k) side) (if f && true then m ∷ handled p before else handled p before)
    same-life k p side above most true = (
      tokenless-life m none
          (born (token_text k) side),
      H.unheard k p side above most,
    )
    same-life k p side above most false = H.unheard k p side above most

    by_closed : (k p : ℕ) → orders_numbered before < k → k < 10 ^ 64 → (f : Bool)
        → (if f then [] else unanswered m (next_tokens (decimal k) (outstanding terms p before))
        (own (decimal k) (outstanding terms p before))) ≡ []
    by_closed k p above small true = refl
    by_closed k p above small false = rw (H.unasked k p above small) refl
