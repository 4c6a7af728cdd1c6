-- What a machine and all that it said keep: the book of each chain is the life of what was said.
use Rattle.std.proofs.Common.{◌≡◌, ◌≢◌, ℕ, Bool, true, false, List, [], ◌∷◌, ◌++◌, refl, sym, ap, ◌∙◌, subst, bytes_eq}
use Rattle.std.proofs.Common.{Some, ◌⊎◌, ⊎_elim}
use Rattle.std.specs.Prelude.{if◌then◌else◌, nat_le}
use Rattle.std.specs.List.{list_any, find}
use Rattle.order_law.specs.declared.stage.Stage.TheVariants.{Closed}
use Rattle.order_law.specs.declared.trade.Trade.{Trade}
use Rattle.order_law.specs.ouch_codec.declared.inbound.enter_order.EnterOrder.{EnterOrder}
use Rattle.order_law.specs.ouch_codec.declared.inbound.replace.Replace.{Replace}
use Rattle.order_law.specs.ouch_codec.declared.outbound.Outbound.{Outbound}
use Rattle.order_law.specs.ouch_codec.declared.outbound.Outbound.TheVariants as market
use Rattle.order_law.specs.Life.{Life, born, first_token, is_of, is_live, after, life}
use Rattle.market_law.specs.Machine.{Machine, BookOrder, is_token_used, change, tokens_by, tokens_of, live_of, live_by}
use Rattle.market_law.specs.Run.{life_in_book}
use Rattle.market_law.proofs.Basics.{Each, eq-same, eq-is, or-right, not-both, is-false, or-false, each-all, each-both}
use Rattle.market_law.proofs.Basics.{each-join, each-parts}

abbrev pub holds : List ℕ → BookOrder → Bool
holds t c = list_any (bytes_eq t) (tokens_of c)

pub filled-by : (order : EnterOrder) (rs : List Replace) → tokens_by order rs ≢ []
filled-by order [] e = cc
filled-by order (r ∷ rs) e = cc

-- an order has a token
pub filled : (c : BookOrder) → tokens_of c ≢ []
filled c = filled-by c.entered c.replacements

live-first-by : (order : EnterOrder) (rs : List Replace) → (live_by order rs).bytes ≡ first_token (tokens_by order rs)
live-first-by order [] = refl
live-first-by order (r ∷ rs) = refl

-- messages are on its first one
pub live-first : (c : BookOrder) → (live_of c).bytes ≡ first_token (tokens_of c)
live-first c = live-first-by c.entered c.replacements

root-in-by : (order : EnterOrder) (rs : List Replace) → list_any (bytes_eq order.token) (tokens_by order rs) ≡ true
root-in-by order [] = rw (eq-same order.token) refl
root-in-by order (r ∷ rs) = or-right (bytes_eq order.token r.replacement_token) _ (root-in-by order rs)

pub root-in : (c : BookOrder) → holds c.entered.token c ≡ true
root-in c = root-in-by c.entered c.replacements

first-in-by : (ts : List (List ℕ)) → ts ≢ [] → list_any (bytes_eq (first_token ts)) ts ≡ true
first-in-by [] filled = absurd (filled refl)
first-in-by (u ∷ us) filled = rw (eq-same u) refl

pub live-in : (c : BookOrder) → holds (live_of c).bytes c ≡ true
live-in c = rw (live-first c) (first-in-by (tokens_of c) (filled c))

pub live-is : (c : BookOrder) → bytes_eq (live_of c).bytes (first_token (tokens_of c)) ≡ true
live-is c = rw (live-first c) (eq-same (first_token (tokens_of c)))

-- no token is of both
abbrev pub IsApart : BookOrder → BookOrder → Type 0
IsApart c d = (t : List ℕ) → holds t c ≡ true → holds t d ≡ true → ⊥

abbrev pub AreApart : List BookOrder → Type 0
AreApart [] = Unit {0}
AreApart (c ∷ cs) = Each (IsApart c) cs × AreApart cs

-- of a token that no chain has
abbrev pub vacant : Bool → List ℕ → ℕ → Life
vacant true t side = record (born t side) { stage = Closed }
vacant false t side = born t side

abbrev pub is_match : Machine → ℕ → Bool
is_match m k = nat_le k m.matches

pub record IsChain (m : Machine) (said : List Outbound) (c : BookOrder) : Type 0 where
  pub known : (t : List ℕ) → holds t c ≡ true → is_token_used m t ≡ true
  pub matched : Each (λ (x : Trade). is_match m x.match_number ≡ true) c.trades
  pub book : (side : ℕ) → life c.entered.token side said ≡ life_in_book side c

pub record IsSound (m : Machine) (said : List Outbound) : Type 0 where
  pub each : Each (IsChain m said) m.book
  pub apart : AreApart m.book
  pub outside : (t : List ℕ) → Each (λ c. holds t c ≡ false) m.book → (side : ℕ)
      → life t side said ≡ vacant (is_token_used m t) t side

-- ---- a message leaves the other orders as they are

abbrev pub IsAbout : List ℕ → Outbound → Type 0
IsAbout t (market.SystemEvent m) = Unit {0}
IsAbout t (market.Accepted m) = m.token ≡ t
IsAbout t (market.Replaced m) = m.previous_token ≡ t
IsAbout t (market.Canceled m) = m.token ≡ t
IsAbout t (market.Executed m) = m.token ≡ t
IsAbout t (market.Broken m) = m.token ≡ t
IsAbout t (market.Rejected m) = m.token ≡ t
IsAbout t (market.CancelPending m) = Unit {0}
IsAbout t (market.CancelReject m) = Unit {0}
IsAbout t market.Skipped = Unit {0}

pub not-first : (ts : List (List ℕ)) (t : List ℕ) → ts ≢ [] → list_any (bytes_eq t) ts ≡ false
    → bytes_eq t (first_token ts) ≡ false
not-first [] t filled e = absurd (filled refl)
not-first (u ∷ us) t filled e = (or-false (bytes_eq t u) (list_any (bytes_eq t) us) e).0

pub untouched : (l : Life) (a : Outbound) (t : List ℕ) → IsAbout t a → l.tokens ≢ [] → is_of l t ≡ false → after l a ≡ l
untouched l (market.SystemEvent m) t e filled out = refl
untouched l (market.Accepted m) t e filled out = let n : is_live l m.token ≡ false =
    rw e (not-first l.tokens t filled out) in rw n refl
untouched l (market.Replaced m) t e filled out = let n : is_live l m.previous_token ≡ false =
    rw e (not-first l.tokens t filled out) in rw n refl
untouched l (market.Canceled m) t e filled out = let n : is_live l m.token ≡ false =
    rw e (not-first l.tokens t filled out) in rw n refl
untouched l (market.Executed m) t e filled out = let n : is_live l m.token ≡ false =
    rw e (not-first l.tokens t filled out) in rw n refl
untouched l (market.Broken m) t e filled out = let n : is_of l m.token ≡ false = rw e out in rw n refl
untouched l (market.Rejected m) t e filled out = let n : is_live l m.token ≡ false =
    rw e (not-first l.tokens t filled out) in rw n refl
untouched l (market.CancelPending m) t e filled out = refl
untouched l (market.CancelReject m) t e filled out = refl
untouched l market.Skipped t e filled out = refl

vacant-filled : (b : Bool) (t : List ℕ) (side : ℕ) → (vacant b t side).tokens ≢ []
vacant-filled true t side e = cc
vacant-filled false t side e = cc

vacant-other : (b : Bool) (t u : List ℕ) (side : ℕ) → bytes_eq u t ≡ false → is_of (vacant b t side) u ≡ false
vacant-other true t u side e = rw e refl
vacant-other false t u side e = rw e refl

pub vacant-untouched : (b : Bool) (u : List ℕ) (side : ℕ) (a : Outbound) (t : List ℕ) → IsAbout t a
    → bytes_eq t u ≡ false → after (vacant b u side) a ≡ vacant b u side
vacant-untouched b u side a t about e = untouched (vacant b u side) a t about (vacant-filled b u side)
    (vacant-other b u t side e)

-- ---- chains before and behind one

pub apart-before : (b : List BookOrder) (c : BookOrder) (d : List BookOrder) → AreApart (b ++ c ∷ d)
    → Each (IsApart c) b
apart-before [] c d e = tt
apart-before (x ∷ xs) c d e = ((λ t h k. (each-parts (IsApart x) xs (c ∷ d) e.0).1.0 t k h), apart-before xs c d e.1)

pub apart-behind : (b : List BookOrder) (c : BookOrder) (d : List BookOrder) → AreApart (b ++ c ∷ d)
    → Each (IsApart c) d
apart-behind [] c d e = e.0
apart-behind (x ∷ xs) c d e = apart-behind xs c d e.1

pub apart-again : (b : List BookOrder) (c c' : BookOrder) (d : List BookOrder) → AreApart (b ++ c ∷ d)
    → Each (IsApart c') b → Each (IsApart c') d → AreApart (b ++ c' ∷ d)
apart-again [] c c' d e before behind = (behind, e.1)
apart-again (x ∷ xs) c c' d e before behind =
    let p = each-parts (IsApart x) xs (c ∷ d) e.0 in (
      each-join (IsApart x) xs (c' ∷ d) p.0 ((λ t h k. before.0 t k h), p.1.1),
      apart-again xs c c' d e.1 before.1
          behind,
    )

pub record Split (p : BookOrder → Bool) (f : BookOrder → BookOrder) (cs : List BookOrder) (c : BookOrder) : Type 0 where
  pub before : List BookOrder
  pub behind : List BookOrder
  pub was : cs ≡ before ++ c ∷ behind
  pub now : change p f cs ≡ before ++ f c ∷ behind
  pub passes : p c ≡ true

pub split : (p : BookOrder → Bool) (f : BookOrder → BookOrder) (cs : List BookOrder) (c : BookOrder)
    → find p cs ≡ Some c → Split p f cs c
split p f [] c e = absurd (cc)
split p f (x ∷ xs) c e = by_test (p x) refl e (λ found. split p f xs c found)
  where
    by_test : (b : Bool) → p x ≡ b → (if b then Some x else find p xs) ≡ Some c → (find p xs ≡ Some c → Split p f xs c)
        → Split p f (x ∷ xs) c
    by_test true is found later =
        let same : x ≡ c = cc in
        record {
          before = [];
          behind = xs;
          was = ap (λ y. y ∷ xs) same;
          now = rw is (ap (λ y. f y ∷ xs) same);
          passes =
              subst (λ y. p y ≡ true) same is;
        }
    by_test false is found later =
        let s = later found in
        record {
          before = x ∷ s.before;
          behind = s.behind;
          was = ap (λ ys. x ∷ ys) s.was;
          now =
              rw is (ap (λ ys. x ∷ ys) s.now);
          passes = s.passes;
        }

-- ---- one chain becomes another, and a message says so

module _ (m m' : Machine) (said : List Outbound) (a : Outbound) (t : List ℕ) (about : IsAbout t a)
    (b : List BookOrder) (c c' : BookOrder) (d : List BookOrder) (was : m.book ≡ b ++ c ∷ d)
    (now : m'.book ≡ b ++ c' ∷ d)
    (in_it : holds t c ≡ true)
    (more : (u : List ℕ) → is_token_used m u ≡ true → is_token_used m' u ≡ true)
    (more_matches : (k : ℕ) → is_match m k ≡ true → is_match m' k ≡ true)
    (same_used : (u : List ℕ) → holds u c' ≡ false → is_token_used m' u ≡ is_token_used m u)
    (tokens : (u : List ℕ) → holds u c' ≡ true → (holds u c ≡ true) ⊎ (is_token_used m u ≡ false))
    (kept : (u : List ℕ) → holds u c ≡ true → holds u c' ≡ true)
    (step : IsChain m said c → IsChain m' (a ∷ said) c') where
  abbrev Both : BookOrder → Type 0
  Both x = IsChain m said x × IsApart c x

  other-chain : (x : BookOrder) → Both x → IsChain m' (a ∷ said) x
  other-chain x k = record {
    known = λ u h. more u (k.0.known u h);
    matched = each-all (λ (y : Trade). is_match m y.match_number ≡ true)
        (λ (y : Trade). is_match m' y.match_number ≡ true) x.trades (λ y e. more_matches y.match_number e) k.0.matched;
    book = λ side. ap (λ l. after l a) (k.0.book side)
        ∙ untouched (life_in_book side x) a t about (filled x) (is-false (holds t x) (λ h. k.1 t in_it h));
  }

  other-apart : (x : BookOrder) → Both x → IsApart c' x
  other-apart x k u h h' = ⊎_elim (λ old. k.1 u old h') (λ unused. not-both (is_token_used m u) (k.0.known u h') unused)
      (tokens u h)

  pub changed-Sound : IsSound m said → IsSound m' (a ∷ said)
  changed-Sound s =
      let e = each-parts (IsChain m said) b (c ∷ d) (subst (Each (IsChain m said)) was s.each) in
      let q : AreApart (b ++ c ∷ d) = subst AreApart was s.apart in
      let before = each-both (IsChain m said) (IsApart c) b e.0 (apart-before b c d q) in
      let behind = each-both (IsChain m said) (IsApart c) d e.1.1 (apart-behind b c d q) in
      record {
        each = subst (Each (IsChain m' (a ∷ said))) (sym now)
            (each-join (IsChain m' (a ∷ said)) b (c' ∷ d) (each-all Both (IsChain m' (a ∷ said)) b other-chain before)
            (step e.1.0, each-all Both (IsChain m' (a ∷ said)) d other-chain behind));
        apart = subst AreApart (sym now)
            (apart-again b c c' d q (each-all Both (IsApart c') b other-apart before)
            (each-all Both (IsApart c') d other-apart behind));
        outside = λ u none side. out u (each-parts (λ x. holds u x ≡ false) b (c' ∷ d)
            (subst (Each (λ x. holds u x ≡ false)) now none)) side;
      }
    where
      out : (u : List ℕ) → Each (λ x. holds u x ≡ false) b × Each (λ x. holds u x ≡ false) (c' ∷ d) → (side : ℕ)
          → life u side (a ∷ said) ≡ vacant (is_token_used m' u) u side
      out u none side =
          let not_in : holds u c ≡ false = is-false (holds u c) (λ h. not-both (holds u c') (kept u h) none.1.0) in
          let old = each-join (λ x. holds u x ≡ false) b (c ∷ d) none.0 (not_in, none.1.1) in
          let differ : bytes_eq t u ≡ false = is-false (bytes_eq t u)
          (λ h. not-both (holds u c) (subst (λ w. holds w c ≡ true) (eq-is t u h) in_it) not_in) in
          ap (λ l. after l a) (s.outside u (subst (Each (λ x. holds u x ≡ false)) (sym was) old) side)
          ∙ vacant-untouched (is_token_used m u) u side a t about differ
          ∙ ap (λ x. vacant x u side) (sym (same_used u none.1.0))
