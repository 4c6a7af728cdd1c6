-- What a message of the market makes of an order: life, bodies, what is outstanding, price, each as the lists have it.
use Rattle.std.proofs.Common.{◌≡◌, ◌≢◌, ℕ, ◌+◌, ◌-◌, ◌≤◌, Bool, true, false, List, [], ◌∷◌, map, refl, sym, ap, ◌∙◌}
use Rattle.std.proofs.Common.{subst, Option, Some, None}
use Rattle.std.specs.Prelude.{◌&&◌, not, if◌then◌else◌, filter, length}
use Rattle.std.specs.List.{count_by, list_any}
use Rattle.order_law.specs.ouch_codec.declared.outbound.Outbound.{Outbound}
use Rattle.order_law.specs.declared.stage.Stage.TheVariants.{Waiting, Closed}
use Rattle.fix_fields.specs.Field.{Message, text}
use Rattle.order_law.specs.Life.{after, first_token, is_closed}
use Rattle.order_law.specs.Reading.{is_report}
use Rattle.order_law.specs.History.{Asked, Entry, SaysCancel, Terms, answers, is_cancel_said, token_of}
use Rattle.order_law.specs.Told.{priced, told_by}
use Rattle.order_law.specs.Verdicts.{most_pending}
use Rattle.order_law.specs.Headline.{Each}
use Rattle.order_machine.specs.OrderRecord.{Cancelling, OrderRecord, ToldTrade, asked_as, asked_cancel, fill_of}
use Rattle.order_machine.specs.OrderRecord.{unanswered_tokens, leaves, live_token, record_life, shown_as}
use Rattle.order_machine.proofs.Due.{IsSound}
use Rattle.order_machine.proofs.Leads.{AreApart, Leads}
use Rattle.order_machine.proofs.Reports.{AreOthers}
use Rattle.order_machine.proofs.AskedReplaces.{AreDistinct}
use Rattle.order_machine.specs.OrderRecord.{pending, replacements}

-- trades were told under rising numbers, the newest first
abbrev pub AreNumbered : ℕ → List ToldTrade → Type 0
AreNumbered reports [] = Unit {0}
AreNumbered reports (t ∷ ts) = (1 ≤ t.number) × (t.number ≤ reports) × AreNumbered (t.number - 1) ts

-- what each order keeps from turn to turn: so many reports were issued, and no order comes to more shares than the
-- limit
pub record Keeps (reports limit : ℕ) (o : OrderRecord) : Type 0 where
  pub sound : IsSound o
  pub apart : AreApart (pending o)
  pub current : AreOthers o.id o.replaces
  pub tokens_apart : AreDistinct (replacements o.replaces)
  pub few : length o.replaces ≤ most_pending
  pub first : o.stage ≡ Waiting → o.tokens ≡ token_of o.new ∷ []
  pub over_replace : o.stage ≡ Closed → o.replaces ≡ []
  pub over_cancel : o.stage ≡ Closed → o.cancel ≡ None
  pub left : (c : Cancelling) → o.cancel ≡ Some c → c.tokens ≢ []
  pub idle : o.stage ≡ Waiting → o.trades ≡ []
  pub rejected : o.is_refused ≡ true → o.trades ≡ []
  pub none_waiting : o.stage ≡ Waiting → o.unfilled ≡ 0
  pub none_closed : o.stage ≡ Closed → o.unfilled ≡ 0
  pub small : o.executed + leaves o ≤ limit
  pub numbered : AreNumbered reports o.trades

-- a message answers the last Cancel Order of what is asked for an order
abbrev pub answers_last : Outbound → List (List ℕ) → List Asked → Bool
answers_last m next asked =
    list_any (λ (a : Asked). is_cancel_said a.said) asked
    && not (list_any (λ (a : Asked). is_cancel_said a.said && not (answers m next a.said)) asked)

abbrev pub unanswered : Outbound → List (List ℕ) → List Asked → List Asked
unanswered m next asked = filter (λ (a : Asked). not (answers m next a.said)) asked

-- what is said of each token of an order, of each pending request and of each id that it goes by
pub record Of (P : List ℕ → Type 0) (Q : Entry → Type 0) (R : List ℕ → Type 0) (o : OrderRecord) : Type 0 where
  pub front : P (live_token o)
  pub live : Each P o.tokens
  pub replaces : Each (λ (q : Entry). P (token_of q) × Q q × R (text 11 q.message)) o.replaces
  pub cancel : (c : Cancelling) → o.cancel ≡ Some c → Each P c.tokens × Q c.request × R (text 11 c.request.message)
  pub id : R o.id

-- of an order without requests
pub Of-unasked : (P : List ℕ → Type 0) (Q : Entry → Type 0) (R : List ℕ → Type 0) (o p : OrderRecord)
    → p.tokens ≡ o.tokens → p.id ≡ o.id → p.replaces ≡ [] → p.cancel ≡ None → Of P Q R o → Of P Q R p
Of-unasked P Q R o p same same_id no_r no_c k = record {
  front = subst (λ (ts : List (List ℕ)). P (first_token ts)) (sym same) k.front;
  live = subst (λ (ts : List (List ℕ)). Each P ts) (sym same) k.live;
  replaces = subst (Each (λ (q : Entry). P (token_of q) × Q q × R (text 11 q.message))) (sym no_r) tt;
  cancel = λ c e. absurd (let x : ◌≡◌ {A = Option Cancelling} None (Some c) = sym no_c ∙ e in cc);
  id = subst R (sym same_id) k.id;
}

-- a message makes this of an order
pub record Moves (P : List ℕ → Type 0) (Q : Entry → Type 0) (R : List ℕ → Type 0) (terms : List Terms) (old_id : List ℕ → List ℕ) (sent : List Message) (reports limit more : ℕ) (m : Outbound) (o p : OrderRecord) : Type 0 where
  pub same : p.new ≡ o.new
  pub kept : Of P Q R o → Of P Q R p
  pub lives : after (record_life o) m ≡ record_life p
  pub leads : Leads o.new old_id sent (told_by reports m (record_life o)
      (answers_last m (replacements o.replaces) (asked_as terms o)) (map fill_of o.trades) (shown_as o)) p (pending p)
  pub asked : is_closed p.stage ≡ false → unanswered m (replacements o.replaces) (asked_as terms o) ≡ asked_as terms p
  pub price : priced m (record_life o) o.price ≡ p.price
  pub keeps : (after : ℕ) → count_by is_report
      (told_by reports m (record_life o) (answers_last m (replacements o.replaces) (asked_as terms o))
      (map fill_of o.trades) (shown_as o)) + reports ≤ after → Keeps after (limit + more) p

-- ---- what is asked

pub filter-all : {A : Type 0} (xs : List A) → filter (λ (x : A). true) xs ≡ xs
filter-all [] = refl
filter-all (x ∷ xs) = ap (λ ys. x ∷ ys) (filter-all xs)

pub unanswered-cancels : (m : Outbound) (next : List (List ℕ)) (new q : Entry) (tokens : List (List ℕ))
    → unanswered m next (map (λ token. asked_cancel new q token) tokens)
    ≡ map (λ token. asked_cancel new q token) (unanswered_tokens m next tokens)
unanswered-cancels m next new q [] = refl
unanswered-cancels m next new q (token ∷ tokens) =
    by_test (answers m next (SaysCancel token)) (unanswered-cancels m next new q tokens)
  where
    by_test : (b : Bool) → unanswered m next (map (λ token. asked_cancel new q token) tokens)
        ≡ map (λ token. asked_cancel new q token) (unanswered_tokens m next tokens)
        → (if not b then asked_cancel new q token ∷ unanswered m next
        (map (λ token. asked_cancel new q token) tokens) else unanswered m next
        (map (λ token. asked_cancel new q token) tokens))
        ≡ map (λ token. asked_cancel new q token)
        (if not b then token ∷ unanswered_tokens m next tokens else unanswered_tokens m next tokens)
    by_test true e = e
    by_test false e = ap (λ xs. asked_cancel new q token ∷ xs) e
