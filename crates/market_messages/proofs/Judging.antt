-- The step of a message, by the orders that its tokens lead to.
use Rattle.std.proofs.Common.{◌≡◌, ℕ, ◌+◌, Bool, true, false, List, [], map, refl, sym, ap, ◌∙◌, subst, arith, Option}
use Rattle.std.proofs.Common.{Some, None, Result, Ok, Err}
use Rattle.std.specs.Prelude.{if◌then◌else◌, is_some, option_and_then, option_map, IfOk}
use Rattle.std.specs.declared.alloc.AllocError.{AllocError}
use Rattle.orders.specs.fix_types.Application.{body_fields}
use Rattle.ouch_codec.specs.declared.outbound.Outbound.{Outbound}
use Rattle.ouch_codec.specs.declared.outbound.Outbound.TheVariants as market
use Rattle.orders.specs.order_law.Lawful.{judged_on, judged_token, order_token, row_fault, token_fault}
use Rattle.order_machine.specs.Machine.{given_by_fault, payload_fault, faulty, heard_on, is_lawful_in, market_step}
use Rattle.order_machine.specs.Machine.{silent, tells}
use Rattle.order_machine.specs.OrderRecord.{OrderRecord, after_message}
use Rattle.order_machine.specs.Table.{TableState, by_number, record_by_token}
use Rattle.orders.specs.Changes.{changed_by}
use Rattle.order_table.specs.Held.{Held, found}
use Rattle.market_messages.specs.declared.heard.Heard.{Heard}
use Rattle.market_messages.specs.Meets.{IsHeard, is_lawful}
use Rattle.market_messages.specs.declared.judged.Judged.{Judged}
use Rattle.market_messages.specs.declared.judged.Judged.TheVariants.{Faulty, Silent, Told}
use Rattle.market_messages.specs.declared.market_fault.MarketFault.TheVariants.{NotLawful, OutsideProfile, Undecodable}
use Rattle.market_messages.specs.declared.market_fault.MarketFault.TheVariants.{UnknownToken}
use Rattle.market_messages.specs.Turns.{IsJudged, Steps, changes_to}
use Rattle.market_messages.specs.Rows.{IsJudgedOf, IsPassedOver, knows_new_token}
use Rattle.market_messages.proofs.Found.{by_token-held, found-by_number, put-same}

-- ---- what is told

heard-told : (s : TableState) (m : Outbound) (o : OrderRecord) (h : Heard) → IsHeard s.exec_ids m o h
    → heard_on s m (Some o) ≡ changes_to s o (changed_by h.change o) (map body_fields h.bodies.items)
heard-told s m o h is =
    ap (changes_to s o (after_message s.exec_ids m o)) (sym is.told)
    ∙ ap (λ (p : OrderRecord). changes_to s o p (map body_fields h.bodies.items)) (sym is.now)

changes-nothing : (s : TableState) (o : OrderRecord) → by_number s o.new.order ≡ Some o → changes_to s o o [] ≡ silent s
changes-nothing s o here =
    ap (λ (os : List OrderRecord). tells (record s { orders = os; exec_ids = s.exec_ids + 0 }) 0 [] [])
    (put-same o s.orders here)
    ∙ ap (λ (n : ℕ). tells (record s { exec_ids = n }) 0 [] []) (none s.exec_ids)
  where
    none : (n : ℕ) → n + 0 ≡ n
    none n = omega arith

heard-quiet : (s : TableState) (m : Outbound) (o : OrderRecord) → IsPassedOver s.exec_ids m o
    → by_number s o.new.order ≡ Some o → heard_on s m (Some o) ≡ silent s
heard-quiet s m o is here =
    ap (changes_to s o (after_message s.exec_ids m o)) is.told
    ∙ ap (λ (p : OrderRecord). changes_to s o p []) is.now
    ∙ changes-nothing s o here

-- ---- the step of a message that is judged on the order of one token

module _ (s : TableState) (port : ℕ) (m : Outbound) (token : List ℕ) (has : order_token m ≡ Some token) (fault : payload_fault s port (Ok m) ≡ judged_on (is_lawful_in s port m token)) where
  -- it isn't lawful of its order, or is
  unlawful : (o : OrderRecord) → record_by_token s port token ≡ Some o → is_lawful m o ≡ false
      → market_step s port (Ok m) ≡ faulty s row_fault
  unlawful o on not_so = ap (given_by_fault s port (Ok m))
      (fault ∙ ap (λ (x : Option OrderRecord). judged_on (option_map (is_lawful m) x)) on
      ∙ ap (λ (b : Bool). judged_on (Some b)) not_so)

  lawful : (o : OrderRecord) → record_by_token s port token ≡ Some o → is_lawful m o ≡ true
      → market_step s port (Ok m) ≡ heard_on s m (Some o)
  lawful o on so =
      ap (given_by_fault s port (Ok m)) (fault ∙ ap
      (λ (x : Option OrderRecord). judged_on (option_map (is_lawful m) x)) on
      ∙ ap (λ (b : Bool). judged_on (Some b)) so)
      ∙ ap (λ (t : Option (List ℕ)). heard_on s m (option_and_then (record_by_token s port) t)) has
      ∙ ap (heard_on s m) on

  -- an answer of what the message comes to on its order is one of the table
  judged-of : (o : OrderRecord) → record_by_token s port token ≡ Some o → (j : Judged) → IsJudgedOf s.exec_ids m o j
      → IsJudged s port (Ok m) j
  judged-of o on Silent is = lawful o on is.lawful ∙ heard-quiet s m o is (found-by_number s port token o on)
  judged-of o on (Faulty NotLawful) is = unlawful o on is
  judged-of o on (Faulty Undecodable) is = absurd is
  judged-of o on (Faulty UnknownToken) is = absurd is
  judged-of o on (Faulty OutsideProfile) is = absurd is
  judged-of o on (Told order_id client next h) is = record {
    order = o;
    found = ap (by_number s) (sym is.of_order) ∙ found-by_number s port token o on;
    of_token = ap (option_and_then (record_by_token s port)) has ∙ on;
    of_client = is.of_client;
    of_replaces = is.of_replaces;
    fits = is.is_heard.fits;
    gives = lawful o on is.is_heard.lawful ∙ heard-told s m o h is.is_heard;
  }

-- of every state with this table the message is judged on the order of this token
pub record IsOn (port : ℕ) (m : Outbound) (held : Held) (token : List ℕ) : Type 0 where
  pub has : order_token m ≡ Some token
  pub fault : (s : TableState) → s.orders ≡ held.orders → s.tokens ≡ held.tokens
      → payload_fault s port (Ok m) ≡ judged_on (is_lawful_in s port m token)

pub steps-found : (issued port : ℕ) (m : Outbound) (held : Held) (token : List ℕ) → IsOn port m held token
    → (o : OrderRecord) → found held port token ≡ Some o
    → (r : Result Judged AllocError) → IfOk r (IsJudgedOf issued m o) → IfOk r (Steps issued port (Ok m) held)
steps-found issued port m held token is o on (Ok j) meets = λ s same_orders same_tokens same_ids.
    judged-of s port m token is.has (is.fault s same_orders same_tokens) o
    (by_token-held s held port token same_orders same_tokens ∙ on) j
    (subst (λ (n : ℕ). IsJudgedOf n m o j) (sym same_ids) meets)
steps-found issued port m held token is o on (Err e) meets = tt

-- ---- the fault of a message: its own token, then that of its order

-- what is_some says stays through a map
some-map : {A B : Type 0} (f : A → B) (x : Option A) → is_some (option_map f x) ≡ is_some x
some-map f None = refl
some-map f (Some a) = refl

module _ (s : TableState) (port : ℕ) (held : Held) (same_orders : s.orders ≡ held.orders) (same_tokens : s.tokens ≡ held.tokens) where
  -- as it is where its new token is known
  abbrev on_order : Outbound → Option ℕ
  on_order m = judged_token (is_lawful_in s port m) (order_token m)

  fault-known : (m : Outbound) → payload_fault s port (Ok m)
      ≡ (if knows_new_token held port m then on_order m else Some token_fault)
  fault-known (market.Replaced m) =
      ap (λ (b : Bool). if b then on_order (market.Replaced m) else Some token_fault)
      (some-map (is_lawful (market.Replaced m)) (record_by_token s port m.token)
      ∙ ap (λ (x : Option OrderRecord). is_some x) (by_token-held s held port m.token same_orders same_tokens))
  fault-known (market.SystemEvent m) = refl
  fault-known (market.Accepted m) = refl
  fault-known (market.Canceled m) = refl
  fault-known (market.Executed m) = refl
  fault-known (market.Broken m) = refl
  fault-known (market.Rejected m) = refl
  fault-known (market.CancelPending m) = refl
  fault-known (market.CancelReject m) = refl
  fault-known market.Skipped = refl

  fault-by : (m : Outbound) (b : Bool) → knows_new_token held port m ≡ b
      → payload_fault s port (Ok m) ≡ (if b then on_order m else Some token_fault)
  fault-by m b known = fault-known m ∙ ap (λ (b : Bool). if b then on_order m else Some token_fault) known

module _ (port : ℕ) (m : Outbound) (held : Held) where
  pub is-on : (token : List ℕ) → knows_new_token held port m ≡ true → order_token m ≡ Some token
      → IsOn port m held token
  is-on token known has = record {
    has = has;
    fault = λ s same_orders same_tokens. fault-by s port held same_orders same_tokens m true known
        ∙ ap (judged_token (is_lawful_in s port m)) has;
  }
