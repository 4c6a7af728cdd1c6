-- What a market said of what it was asked is no fault, where all that it said before is handled.
use Rattle.std.proofs.Common.{◌≡◌, ℕ, Bool, true, false, List, [], refl, sym, ap, ◌∙◌, subst, Option, Some, None, inl}
use Rattle.std.proofs.Common.{inr, Ok}
use Rattle.std.specs.Prelude.{◌&&◌, ◌||◌, is_some, option_map, unwrap_or}
use Rattle.order_law.specs.ouch_codec.declared.inbound.Inbound.TheVariants as ask
use Rattle.order_law.specs.ouch_codec.declared.inbound.enter_order.EnterOrder.{EnterOrder}
use Rattle.order_law.specs.ouch_codec.declared.side.Side.{Side}
use Rattle.order_law.specs.ouch_codec.declared.outbound.Outbound.{Outbound}
use Rattle.order_law.specs.ouch_codec.declared.outbound.Outbound.TheVariants as market
use Rattle.order_law.specs.ouch_codec.declared.outbound.accepted.Accepted.{Accepted}
use Rattle.order_law.specs.ouch_codec.declared.outbound.replaced.Replaced.{Replaced}
use Rattle.order_law.specs.ouch_codec.declared.outbound.rejected.Rejected.{Rejected}
use Rattle.order_law.specs.ouch_codec.Letters.{side_letter}
use Rattle.order_law.specs.ouch_codec.Parts.{unpadded}
use Rattle.fix_fields.specs.Field.{text, character}
use Rattle.order_law.specs.Asks.{side_of_letter}
use Rattle.order_law.specs.Chain.{chain}
use Rattle.order_law.specs.Life.{Life, life, is_waiting, is_live, is_working}
use Rattle.order_law.specs.History.{Terms, OrderHistory, Entry, SaysReplace, accepted, handled, issued, life_of}
use Rattle.order_law.specs.History.{pending_tokens, side_of, token_of}
use Rattle.order_law.specs.Lawful.{is_first, is_lawful_on, judgement, order_of_token, works_as}
use Rattle.market_law.specs.Said.{IsSaid, OnReplace}
use Rattle.market_law.proofs.Basics.{eq-same, and-parts}
use Rattle.world_law.specs.Asked.{leads, WasAsked, TokensLead, AlwaysOfOrders}
use Rattle.world_law.proofs.Lives.{works-closed}
use Rattle.world_law.proofs.Turns.{of-order}
use Rattle.world_law.proofs.Oldest.{AreOldest}
use Rattle.world_law.proofs.Lawful.{led, life-led, life-lawful, accepted-lawful, replaced-lawful, on-led}
use Rattle.world_law.proofs.Terms.{enter-said, replace-said, enter-terms}

module _ (terms : List Terms) (port : ℕ) (h : OrderHistory) (always : AlwaysOfOrders terms port h) where
  abbrev A : List Entry
  A = accepted terms h

  abbrev M : List Outbound
  M = handled port h

  abbrev root_in : List ℕ → Option (List ℕ)
  root_in = leads terms port A

  -- an Enter Order that was asked is the order's that its token leads to
  pub entered : (order : EnterOrder) → WasAsked terms port h (ask.Enter order) → (new : Entry)
      → order_of_token terms port A order.token ≡ Some new
      → (side_of_letter (side_letter order.side) ≡ Some (character 54 new.message))
      × (unpadded order.stock ≡ text 55 new.message)
  entered order w new f =
      let is = enter-said w.asks.said order w.says.tokens in
      let o = of-order terms port w.asks h always w.there in
      let lead = subst (TokensLead terms port A o.new) is o.tokens in
      let same : o.new ≡ new = (let g : Some o.new ≡ Some new = sym lead.0.mine ∙ f in cc) in
      let says = enter-terms w.standing w.order_of order _ _ _ _ (w.says.ask ∙ o.own order.token is) in (
        says.0 ∙ ap (λ (e : Entry). Some (character 54 e.message)) same,
        says.1
            ∙ ap (λ (e : Entry). text 55 e.message) same,
      )

  -- side, stock and token of a message
  abbrev side_in : Outbound → Option Side
  side_in (market.Accepted m) = Some m.side
  side_in (market.Replaced m) = Some m.side
  side_in other = None

  abbrev stock_in : Outbound → List ℕ
  stock_in (market.Accepted m) = m.stock
  stock_in (market.Replaced m) = m.stock
  stock_in other = []

  abbrev token_in : Outbound → List ℕ
  token_in (market.Accepted m) = m.token
  token_in (market.Replaced m) = m.token
  token_in other = []

  or-true : (b : Bool) → (b || true) ≡ true
  or-true true = refl
  or-true false = refl

  -- the order that a replace which was asked is of
  record IsReplaceOf (from to root : List ℕ) : Type 0 where
    new : Entry
    leads_from : order_of_token terms port A from ≡ Some new
    leads_to : order_of_token terms port A to ≡ Some new
    leads_first : order_of_token terms port A root ≡ Some new
    is_root : token_of new ≡ root
    pending : is_first to (pending_tokens new.client (chain new.order (issued new.client h)) A) ≡ true

  module _ (oldest : AreOldest terms port h) where
    -- the replace that a market answers is the oldest pending one
    is-replace : (from to : List ℕ) (r : OnReplace root_in (WasAsked terms port h) from to M)
        → IsReplaceOf from to r.root
    is-replace from to r =
        let is : r.was_asked.asks.said ≡ SaysReplace from to =
        replace-said r.was_asked.asks.said r.request r.was_asked.says.tokens
        ∙ ap (λ t. SaysReplace t r.request.replacement_token) r.is_from ∙ ap (SaysReplace from) r.is_to in
        let o = of-order terms port r.was_asked.asks h always r.was_asked.there in
        let lead = subst (TokensLead terms port A o.new) is o.tokens in
        let root_is : token_of o.new ≡ r.root = (let g : Some (token_of o.new) ≡ Some r.root =
        ap (option_map token_of) (sym lead.1.mine) ∙ r.leads_to in cc) in
        let lives : life_of r.was_asked.asks.order A M ≡ life r.root (side_of r.was_asked.asks.order A) M =
        ap (λ (x : Option Entry). life (unwrap_or (option_map token_of x) []) (side_of r.was_asked.asks.order A) M)
        o.found
        ∙ ap (λ (root : List ℕ). life root (side_of r.was_asked.asks.order A) M) root_is in
        let works : works_as (life_of r.was_asked.asks.order A M) from ≡ true = ap (λ (l : Life). works_as l from) lives
        ∙ r.works (side_of r.was_asked.asks.order A) in
        record {
          new = o.new;
          leads_from = lead.0.mine;
          leads_to = lead.1.mine;
          leads_first = ap (order_of_token terms port A) (sym root_is) ∙ o.first.mine;
          is_root = root_is;
          pending = oldest r.was_asked.asks from to is r.was_asked.there o.new o.found o.on_port r.unnamed works;
        }

    -- an Accepted
    of-accepted : (m : Accepted) → IsSaid root_in (WasAsked terms port h) (market.Accepted m) M
        → is_lawful_on terms port h (market.Accepted m) m.token ≡ Some true
    of-accepted m is =
        let to = led terms port A m.token m.token is.0.0 in
        let answer = is.1.2 in
        let same_token : m.token ≡ is.1.0.token = ap token_in answer in
        let same_side : Some m.side ≡ Some is.1.0.side = ap side_in answer in
        let same_stock : m.stock ≡ is.1.0.stock = ap stock_in answer in
        let own = entered is.1.0 is.1.1 to.0 (ap (order_of_token terms port A) (sym same_token) ∙ to.1) in
        let side_is : m.side ≡ is.1.0.side = cc in
        accepted-lawful terms port h m to.0 to.1 is.0
        (ap (λ (s : Side). side_of_letter (side_letter s)) side_is ∙ own.0) (ap unpadded same_stock ∙ own.1)

    -- a Replaced
    of-replaced : (m : Replaced) → IsSaid root_in (WasAsked terms port h) (market.Replaced m) M
        → (is_some (is_lawful_on terms port h (market.Replaced m) m.token) ≡ true)
        × (is_lawful_on terms port h (market.Replaced m) m.previous_token ≡ Some true)
    of-replaced m is =
        let x = is-replace m.previous_token m.token is.0 in
        let answer = is.1.is_answer in
        let same_side : Some m.side ≡ Some is.1.order.side = ap side_in answer in
        let same_stock : m.stock ≡ is.1.order.stock = ap stock_in answer in
        let side_is : m.side ≡ is.1.order.side = cc in
        let own = entered is.1.order is.1.was_entered x.new
        (ap (order_of_token terms port A) is.1.is_root ∙ x.leads_first) in
        let to = x.leads_to in (
          rw to refl,
          replaced-lawful terms port h m x.new is.0.root x.leads_from x.is_root is.0.works x.pending
              (ap (λ (s : Side). side_of_letter (side_letter s)) side_is ∙ own.0) (ap unpadded same_stock ∙ own.1),
        )

    -- a Rejected, of an order that waits or of a replace
    of-rejected : (m : Rejected) → IsSaid root_in (WasAsked terms port h) (market.Rejected m) M
        → is_lawful_on terms port h (market.Rejected m) m.token ≡ Some true
    of-rejected m (inl first) =
        let to = led terms port A m.token m.token first.0 in
        let lives = life-led terms port h m.token m.token to.0 to.1 to.2 ∙ first.1 (side_of to.0.order A) in
        on-led terms port h (market.Rejected m) m.token to.0 to.1 (rw (lives, eq-same m.token) refl)
    of-rejected m (inr (from, r)) =
        let x = is-replace from m.token r in
        let lives = life-led terms port h m.token r.root x.new x.leads_to x.is_root in
        let open_still = works-closed (life r.root (side_of x.new.order A) M).stage
        (and-parts (is_live (life r.root (side_of x.new.order A) M) from)
        (is_working (life r.root (side_of x.new.order A) M).stage) (r.works (side_of x.new.order A))).1 in
        let there = x.pending in
        on-led terms port h (market.Rejected m) m.token x.new x.leads_to
        (rw (lives, there, open_still) (or-true (is_live (life r.root (side_of x.new.order A) M) m.token
        && is_waiting (life r.root (side_of x.new.order A) M).stage)))

    -- what the market says next is no fault when it comes
    pub judged-lawful : (m : Outbound) → IsSaid root_in (WasAsked terms port h) m M
        → judgement terms port (Ok m) h ≡ None
    judged-lawful (market.SystemEvent m) is = refl
    judged-lawful (market.Accepted m) is = let row = of-accepted m is in rw row refl
    judged-lawful (market.Replaced m) is = let rows = of-replaced m is in rw (rows.0, rows.1) refl
    judged-lawful (market.Canceled m) is = let row =
        life-lawful terms port h (market.Canceled m) m.token _ is (λ l new pending e. e) in rw row refl
    judged-lawful (market.Executed m) is = let row =
        life-lawful terms port h (market.Executed m) m.token _ is (λ l new pending e. e) in rw row refl
    judged-lawful (market.Broken m) is = let row =
        life-lawful terms port h (market.Broken m) m.token _ is (λ l new pending e. e) in rw row refl
    judged-lawful (market.Rejected m) is = let row = of-rejected m is in rw row refl
    judged-lawful (market.CancelPending m) is = let row =
        life-lawful terms port h (market.CancelPending m) m.token (λ l. works_as l m.token) is (λ l new pending e. refl)
        in rw row refl
    judged-lawful (market.CancelReject m) is = let row =
        life-lawful terms port h (market.CancelReject m) m.token (λ l. works_as l m.token) is (λ l new pending e. e) in
        rw row refl
    judged-lawful market.Skipped is = refl
