-- What a message makes of a life's tokens and stage.
use Rattle.std.proofs.Common.{◌≡◌, ℕ, Bool, true, false, List, [], ◌∷◌, refl, sym, ap, ◌∙◌, subst, Option, Some, None}
use Rattle.std.proofs.Common.{◌⊎◌, inl, inr, ⊎_elim}
use Rattle.std.specs.Prelude.{◌&&◌, ◌==◌, if◌then◌else◌}
use Rattle.std.specs.List.{find}
use Rattle.order_law.specs.ouch_codec.declared.outbound.Outbound.{Outbound}
use Rattle.order_law.specs.ouch_codec.declared.outbound.Outbound.TheVariants as market
use Rattle.order_law.specs.ouch_codec.declared.outbound.replaced.Replaced.{Replaced}
use Rattle.order_law.specs.declared.stage.Stage.{Stage}
use Rattle.order_law.specs.declared.stage.Stage.TheVariants.{Waiting, Working, Closed}
use Rattle.order_law.specs.declared.trade.Trade.{Trade}
use Rattle.order_law.specs.Life.{Life, after, life, opened, traded, decreased, broken, settled, is_of, is_live}
use Rattle.order_law.specs.Life.{is_waiting, is_working, is_closed, is_dead, stands_as}
use Rattle.world_law.specs.Asked.{IsIn}

-- ---- tokens

opened-tokens : (q : ℕ) (d : Bool) (l : Life) → (opened q d l).tokens ≡ l.tokens
opened-tokens q true l = refl
opened-tokens q false l = refl

settled-tokens : (l : Life) → (settled l).tokens ≡ l.tokens
settled-tokens l = by_test (l.unfilled == 0)
  where
    by_test : (b : Bool) → (if b then record l { stage = Closed } else l).tokens ≡ l.tokens
    by_test true = refl
    by_test false = refl

broken-tokens : (k : ℕ) (l : Life) → (broken k l).tokens ≡ l.tokens
broken-tokens k l = by_found (find (stands_as k) l.trades) refl
  where
    by_found : (x : Option Trade) → find (stands_as k) l.trades ≡ x → (broken k l).tokens ≡ l.tokens
    by_found None e = rw e refl
    by_found (Some y) e = rw e refl

if-tokens : (b : Bool) (l k : Life) → k.tokens ≡ l.tokens → (if b then k else l).tokens ≡ l.tokens
if-tokens true l k e = e
if-tokens false l k e = refl

-- it is a Replaced of the live token, which puts its token before the others
pub record IsRenewed (l : Life) (m : Outbound) : Type 0 where
  pub by : Replaced
  pub is : m ≡ market.Replaced by
  pub was_live : is_live l by.previous_token ≡ true
  pub tokens : (after l m).tokens ≡ by.token ∷ l.tokens

-- any other message leaves the tokens
pub tokens-after : (l : Life) (m : Outbound) → ((after l m).tokens ≡ l.tokens) ⊎ IsRenewed l m
tokens-after l (market.Accepted m) = inl (if-tokens (is_live l m.token && is_waiting l.stage) l
    (opened m.shares (is_dead m.order_state) l) (opened-tokens m.shares (is_dead m.order_state) l))
tokens-after l (market.Replaced m) = by_live (is_live l m.previous_token) refl
  where
    moved : Life
    moved = opened m.shares (is_dead m.order_state) (record l { tokens = m.token ∷ l.tokens })

    moved-tokens : moved.tokens ≡ m.token ∷ l.tokens
    moved-tokens = opened-tokens m.shares (is_dead m.order_state) (record l { tokens = m.token ∷ l.tokens })

    by_live : (b : Bool) → is_live l m.previous_token ≡ b
        → ((after l (market.Replaced m)).tokens ≡ l.tokens) ⊎ IsRenewed l (market.Replaced m)
    by_live true e = inr (record { by = m; is = refl; was_live = e; tokens = rw e moved-tokens })
    by_live false e = inl (rw e refl)
tokens-after l (market.Canceled m) = inl (if-tokens (is_live l m.token) l (decreased m.decrement l) (settled-tokens _))
tokens-after l (market.Executed m) = inl (if-tokens (is_live l m.token) l (traded m.match_number m.shares m.price l)
    (settled-tokens _))
tokens-after l (market.Broken m) = inl (if-tokens (is_of l m.token) l (broken m.match_number l)
    (broken-tokens m.match_number l))
tokens-after l (market.Rejected m) = inl (if-tokens (is_live l m.token && is_waiting l.stage) l
    (record l { stage = Closed }) refl)
tokens-after l (market.CancelPending m) = inl refl
tokens-after l (market.CancelReject m) = inl refl
tokens-after l (market.SystemEvent m) = inl refl
tokens-after l market.Skipped = inl refl

-- a token of an order stays one of its tokens
after-has : (root : List ℕ) (l : Life) (m : Outbound) → IsIn root l.tokens → IsIn root (after l m).tokens
after-has root l m i = ⊎_elim (λ same. subst (IsIn root) (sym same) i) (λ k. subst (IsIn root) (sym k.tokens) (inr i))
    (tokens-after l m)

pub root-in : (root : List ℕ) (side : ℕ) (M : List Outbound) → IsIn root (life root side M).tokens
root-in root side [] = inl refl
root-in root side (m ∷ M) = after-has root (life root side M) m (root-in root side M)

-- ---- stages

settled-closed : (l : Life) → is_closed l.stage ≡ true → is_closed (settled l).stage ≡ true
settled-closed l e = by_test (l.unfilled == 0)
  where
    by_test : (b : Bool) → is_closed (if b then record l { stage = Closed } else l).stage ≡ true
    by_test true = refl
    by_test false = e

broken-stage : (k : ℕ) (l : Life) → (broken k l).stage ≡ l.stage
broken-stage k l = by_found (find (stands_as k) l.trades) refl
  where
    by_found : (x : Option Trade) → find (stands_as k) l.trades ≡ x → (broken k l).stage ≡ l.stage
    by_found None e = rw e refl
    by_found (Some y) e = rw e refl

if-closed : (b : Bool) (l k : Life) → is_closed k.stage ≡ true → is_closed l.stage ≡ true
    → is_closed (if b then k else l).stage ≡ true
if-closed true l k e f = e
if-closed false l k e f = f

closed-waits : (s : Stage) → is_closed s ≡ true → is_waiting s ≡ false
closed-waits Waiting e = absurd (cc)
closed-waits Working e = absurd (cc)
closed-waits Closed e = refl

pub works-closed : (s : Stage) → is_working s ≡ true → is_closed s ≡ false
works-closed Waiting e = absurd (cc)
works-closed Working e = refl
works-closed Closed e = absurd (cc)

and-false : (b : Bool) → (b && false) ≡ false
and-false true = refl
and-false false = refl

-- an order that is closed stays closed, but for a Replaced of its live token
pub closed-stays : (l : Life) (m : Outbound)
    → ((by : Replaced) → m ≡ market.Replaced by → is_live l by.previous_token ≡ true → ⊥)
    → is_closed l.stage ≡ true → is_closed (after l m).stage ≡ true
closed-stays l (market.Accepted m) none c = rw (closed-waits l.stage c, and-false (is_live l m.token)) c
closed-stays l (market.Replaced m) none c = by_live (is_live l m.previous_token) refl
  where
    by_live : (b : Bool) → is_live l m.previous_token ≡ b → is_closed (after l (market.Replaced m)).stage ≡ true
    by_live true e = absurd (none m refl e)
    by_live false e = rw e c
closed-stays l (market.Canceled m) none c =
    if-closed (is_live l m.token) l (decreased m.decrement l) (settled-closed _ c) c
closed-stays l (market.Executed m) none c =
    if-closed (is_live l m.token) l (traded m.match_number m.shares m.price l) (settled-closed _ c) c
closed-stays l (market.Broken m) none c =
    if-closed (is_of l m.token) l (broken m.match_number l) (ap is_closed (broken-stage m.match_number l) ∙ c) c
closed-stays l (market.Rejected m) none c =
    if-closed (is_live l m.token && is_waiting l.stage) l (record l { stage = Closed }) refl c
closed-stays l (market.CancelPending m) none c = c
closed-stays l (market.CancelReject m) none c = c
closed-stays l (market.SystemEvent m) none c = c
closed-stays l market.Skipped none c = c
