-- What the market said of an order goes by the messages on its shelf.
use Rattle.std.proofs.Common.{◌≡◌, ◌<◌, ◌+◌, ◌-◌, ◌*◌, ℕ, Bool, true, false, List, [], ◌∷◌, length, reverse}
use Rattle.std.proofs.Common.{get_or, refl, sym, ap, arith, ◌∙◌, subst, eqb-true, eq-eqb, Option, Some, None, inl, inr}
use Rattle.std.specs.Prelude.{◌==◌, ◌&&◌, ◌⊎◌, filter, if◌then◌else◌, bytes_eq}
use Rattle.std.specs.List.{find, list_all, list_any}
use Rattle.std.specs.Cmp.Lexicographic.{bytes_decides}
use Rattle.std.proofs.lemmas.Bool.{and_parts, false_from_ne_true, or_cases}
use Rattle.std.proofs.lemmas.List.{reverse-append}
use Rattle.std.proofs.lemmas.List.Folds.{list_all-append}
use Rattle.ouch_codec.specs.declared.outbound.Outbound.{Outbound}
use Rattle.ouch_codec.specs.declared.outbound.Outbound.TheVariants as market
use Rattle.order_law.specs.declared.stage.Stage.TheVariants.{Closed}
use Rattle.order_law.specs.declared.trade.Trade.{Trade}
use Rattle.order_law.specs.Life.{Life, after, broken, decreased, first_token, is_dead, is_live, is_of}
use Rattle.order_law.specs.Life.{is_waiting, life, opened, settled, stands_as, traded}
use Rattle.order_accounts.specs.Places.{lead}
use Rattle.order_accounts.specs.Shelved.{AreBelow, HasMessages, message_at, picked, stays}
use Rattle.order_accounts.proofs.Shelving.{filter-reverse, picked-places, places-below}

-- ---- the tokens that a message leaves

-- whichever comes of a test has these tokens
either : (tokens : List (List ℕ)) (b : Bool) (x y : Life) → x.tokens ≡ tokens → y.tokens ≡ tokens
    → (if b then x else y).tokens ≡ tokens
either tokens true x y first second = first
either tokens false x y first second = second

settled-tokens : (l : Life) → (settled l).tokens ≡ l.tokens
settled-tokens l = either l.tokens (l.unfilled == 0) (record l { stage = Closed }) l refl refl

opened-tokens : (shares : ℕ) (over : Bool) (l : Life) → (opened shares over l).tokens ≡ l.tokens
opened-tokens shares true l = refl
opened-tokens shares false l = refl

broken-tokens : (n : ℕ) (l : Life) → (broken n l).tokens ≡ l.tokens
broken-tokens n l = by_trade (find (stands_as n) l.trades) refl
  where
    by_trade : (x : Option Trade) → find (stands_as n) l.trades ≡ x → (broken n l).tokens ≡ l.tokens
    by_trade None is = rw is refl
    by_trade (Some trade) is = rw is refl

-- the tokens behind a message: of a Replaced of the live token a new one in front
abbrev given : Life → Outbound → List (List ℕ)
given l (market.Replaced m) = if is_live l m.previous_token then m.token ∷ l.tokens else l.tokens
given l (market.SystemEvent m) = l.tokens
given l (market.Accepted m) = l.tokens
given l (market.Canceled m) = l.tokens
given l (market.Executed m) = l.tokens
given l (market.Broken m) = l.tokens
given l (market.Rejected m) = l.tokens
given l (market.CancelPending m) = l.tokens
given l (market.CancelReject m) = l.tokens
given l market.Skipped = l.tokens

tokens-given : (l : Life) (m : Outbound) → (after l m).tokens ≡ given l m
tokens-given l (market.Replaced m) = by_test (is_live l m.previous_token)
  where
    by_test : (b : Bool) → (if b then opened m.shares (is_dead m.order_state)
        (record l { tokens = m.token ∷ l.tokens }) else l).tokens ≡ (if b then m.token ∷ l.tokens else l.tokens)
    by_test true = opened-tokens m.shares (is_dead m.order_state) (record l { tokens = m.token ∷ l.tokens })
    by_test false = refl
tokens-given l (market.SystemEvent m) = refl
tokens-given l (market.Accepted m) = either l.tokens (is_live l m.token && is_waiting l.stage)
    (opened m.shares (is_dead m.order_state) l) l (opened-tokens m.shares (is_dead m.order_state) l) refl
tokens-given l (market.Canceled m) = either l.tokens (is_live l m.token) (decreased m.decrement l) l
    (settled-tokens (record l { unfilled = l.unfilled - m.decrement; cancelled = l.cancelled + m.decrement })) refl
tokens-given l (market.Executed m) = either l.tokens (is_live l m.token) (traded m.match_number m.shares m.price l) l
    (settled-tokens (record l {
      unfilled = l.unfilled - m.shares;
      executed = l.executed + m.shares;
      value = l.value + m.shares * m.price;
      trades = record { match_number = m.match_number; shares = m.shares; price = m.price; is_broken = false } ∷
          l.trades;
    })) refl
tokens-given l (market.Broken m) = either l.tokens (is_of l m.token) (broken m.match_number l) l
    (broken-tokens m.match_number l) refl
tokens-given l (market.Rejected m) = either l.tokens (is_live l m.token && is_waiting l.stage)
    (record l { stage = Closed }) l refl refl
tokens-given l (market.CancelPending m) = refl
tokens-given l (market.CancelReject m) = refl
tokens-given l market.Skipped = refl

-- ---- where an order's tokens lead

module _ (leads : List ℕ) (root : List ℕ) (side : ℕ) where
  -- all of them where its first one leads
  record Led (tokens : List (List ℕ)) : Type 0 where
    first : lead leads (first_token tokens) ≡ lead leads root
    all : (t : List ℕ) → list_any (bytes_eq t) tokens ≡ true → lead leads t ≡ lead leads root

  -- and the messages on its shelf
  abbrev near : Outbound → Bool
  near m = message_at leads (lead leads root) m

  led-born : Led (root ∷ [])
  led-born = record {
    first = refl;
    all = λ t known. by_token t (or_cases (bytes_eq t root) false known);
  }
    where
      by_token : (t : List ℕ) → (bytes_eq t root ≡ true) ⊎ (false ≡ true) → lead leads t ≡ lead leads root
      by_token t (inl same) = ap (lead leads) ((bytes_decides t root).0 same)
      by_token t (inr never) = absurd (let bad : false ≡ true = never in cc)

  led-more : (token : List ℕ) (tokens : List (List ℕ)) → lead leads token ≡ lead leads root → Led tokens
      → Led (token ∷ tokens)
  led-more token tokens leads_there led = record {
    first = leads_there;
    all = λ t known. by_token t (or_cases (bytes_eq t token) (list_any (bytes_eq t) tokens) known);
  }
    where
      by_token : (t : List ℕ) → (bytes_eq t token ≡ true) ⊎ (list_any (bytes_eq t) tokens ≡ true)
          → lead leads t ≡ lead leads root
      by_token t (inl same) = ap (lead leads) ((bytes_decides t token).0 same) ∙ leads_there
      by_token t (inr earlier) = led.all t earlier

  -- a token that leads elsewhere is not the live one, and never was
  not-live : (l : Life) (t : List ℕ) → Led l.tokens → (lead leads t == lead leads root) ≡ false → is_live l t ≡ false
  not-live l t led away = false_from_ne_true (is_live l t)
      (λ is. let same : lead leads t ≡ lead leads root = ap (lead leads) ((bytes_decides t (first_token l.tokens)).0 is)
      ∙ led.first in
      let there : (lead leads t == lead leads root) ≡ true = eq-eqb (lead leads t) (lead leads root) same in cc)

  not-of : (l : Life) (t : List ℕ) → Led l.tokens → (lead leads t == lead leads root) ≡ false → is_of l t ≡ false
  not-of l t led away = false_from_ne_true (is_of l t)
      (λ is. let same : lead leads t ≡ lead leads root = led.all t is in
      let there : (lead leads t == lead leads root) ≡ true = eq-eqb (lead leads t) (lead leads root) same in cc)

  -- a message on another shelf makes nothing of the order
  untouched : (l : Life) (m : Outbound) → Led l.tokens → near m ≡ false → after l m ≡ l
  untouched l (market.Accepted m) led away = rw (not-live l m.token led away) refl
  untouched l (market.Replaced m) led away = rw (not-live l m.previous_token led away) refl
  untouched l (market.Executed m) led away = rw (not-live l m.token led away) refl
  untouched l (market.Canceled m) led away = rw (not-live l m.token led away) refl
  untouched l (market.Broken m) led away = rw (not-of l m.token led away) refl
  untouched l (market.Rejected m) led away = rw (not-live l m.token led away) refl
  untouched l (market.SystemEvent m) led away = refl
  untouched l (market.CancelPending m) led away = refl
  untouched l (market.CancelReject m) led away = refl
  untouched l market.Skipped led away = refl

  -- one on its shelf leaves tokens that lead there
  led-given : (l : Life) (m : Outbound) → Led l.tokens → near m ≡ true → stays leads m ≡ true → Led (given l m)
  led-given l (market.Replaced m) led there stay = by_test (is_live l m.previous_token)
    where
      token_there : lead leads m.token ≡ lead leads root
      token_there = eqb-true (lead leads m.token) (lead leads m.previous_token) stay
          ∙ eqb-true (lead leads m.previous_token) (lead leads root) there

      by_test : (b : Bool) → Led (if b then m.token ∷ l.tokens else l.tokens)
      by_test true = led-more m.token l.tokens token_there led
      by_test false = led
  led-given l (market.SystemEvent m) led there stay = led
  led-given l (market.Accepted m) led there stay = led
  led-given l (market.Canceled m) led there stay = led
  led-given l (market.Executed m) led there stay = led
  led-given l (market.Broken m) led there stay = led
  led-given l (market.Rejected m) led there stay = led
  led-given l (market.CancelPending m) led there stay = led
  led-given l (market.CancelReject m) led there stay = led
  led-given l market.Skipped led there stay = led

  record Alike (heard : List Outbound) : Type 0 where
    same : life root side (filter near heard) ≡ life root side heard
    led : Led (life root side heard).tokens

  alike : (heard : List Outbound) → list_all (stays leads) heard ≡ true → Alike heard
  alike [] all = record { same = refl; led = led-born }
  alike (m ∷ earlier) all =
      let parts = and_parts (stays leads m) (list_all (stays leads) earlier) all in
      by_place (near m) refl parts.0 (alike earlier parts.1)
    where
      kept : near m ≡ true → filter near (m ∷ earlier) ≡ m ∷ filter near earlier
      kept at = rw at refl

      dropped : near m ≡ false → filter near (m ∷ earlier) ≡ filter near earlier
      dropped at = rw at refl

      by_place : (there : Bool) → near m ≡ there → stays leads m ≡ true → Alike earlier → Alike (m ∷ earlier)
      by_place true at stay was = record {
        same = ap (life root side) (kept at) ∙ ap (λ (l : Life). after l m) was.same;
        led = subst Led (sym (tokens-given (life root side earlier) m))
            (led-given (life root side earlier) m was.led at stay);
      }
      by_place false at stay was =
          let none : after (life root side earlier) m ≡ life root side earlier =
          untouched (life root side earlier) m was.led at in
          record {
            same = ap (life root side) (dropped at) ∙ (was.same ∙ sym none);
            led = subst (λ (l : Life). Led l.tokens) (sym none) was.led;
          }

all-reversed : {X : Type 0} (p : X → Bool) (xs : List X) → list_all p xs ≡ true → list_all p (reverse xs) ≡ true
all-reversed p [] all = refl
all-reversed p (x ∷ xs) all =
    let parts = and_parts (p x) (list_all p xs) all in
    ap (list_all p) (reverse-append (x ∷ []) xs)
    ∙ (list_all-append p (reverse xs) (x ∷ []) ∙ rw (all-reversed p xs parts.1, parts.0) refl)

-- the messages that stand at the places on its shelf
pub on-shelf : (leads : List ℕ) (heard : List Outbound) (shelves : List (List ℕ)) (root : List ℕ) (side : ℕ)
    → lead leads root < length leads → HasMessages leads heard shelves
    → life root side (reverse (picked heard (get_or shelves (lead leads root) []))) ≡ life root side (reverse heard)
on-shelf leads heard shelves root side inside has =
    let within : lead leads root < length shelves = subst (λ (n : ℕ). lead leads root < n) (sym has.same) inside in
    let is : reverse (picked heard (get_or shelves (lead leads root) []))
    ≡ filter (message_at leads (lead leads root)) (reverse heard) =
    ap (λ (ks : List ℕ). reverse (picked heard ks)) (has.shelved (lead leads root) within)
    ∙ (ap reverse (picked-places (message_at leads (lead leads root)) heard)
    ∙ sym (filter-reverse (message_at leads (lead leads root)) heard)) in
    ap (life root side) is ∙ (alike leads root side (reverse heard) (all-reversed (stays leads) heard has.stay)).same

pub shelf-below : (leads : List ℕ) (heard : List Outbound) (shelves : List (List ℕ)) (k : ℕ) → k < length leads
    → HasMessages leads heard shelves → AreBelow (length heard) (get_or shelves k [])
shelf-below leads heard shelves k inside has =
    let within : k < length shelves = subst (λ (n : ℕ). k < n) (sym has.same) inside in
    subst (AreBelow (length heard)) (sym (has.shelved k within))
    (places-below (message_at leads k) 0 (length heard) heard (omega arith))
