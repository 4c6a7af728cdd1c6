-- Whatever came to a market was asked: then what it says is no fault when it is handled, in the order in which it was
-- said.
use Rattle.std.proofs.Common.{◌≡◌, ℕ, ◌<◌, ◌≤◌, ◌^◌, List, [], ◌∷◌, ◌++◌, length, sym, ap, ◌∙◌, subst, Option, Some}
use Rattle.std.proofs.Common.{None, Ok}
use Rattle.std.specs.Prelude.{option_map}
use Rattle.order_law.specs.ouch_codec.declared.inbound.Inbound.{Inbound}
use Rattle.order_law.specs.ouch_codec.declared.inbound.Inbound.TheVariants as ask
use Rattle.order_law.specs.ouch_codec.declared.outbound.Outbound.{Outbound}
use Rattle.market_law.specs.declared.choice.Choice.{Choice}
use Rattle.order_law.specs.History.{Terms, OrderHistory, Entry, accepted, handled, token_of}
use Rattle.order_law.specs.Lawful.{judgement}
use Rattle.order_law.specs.Headline.{Each}
use Rattle.order_machine.specs.Runs.{TurnsLeave}
use Rattle.order_machine.specs.Table.{TableState}
use Rattle.market_law.specs.Run.{Move, Comes, Acts, ran}
use Rattle.market_law.specs.Moves.{IsKnown, times}
use Rattle.market_law.specs.Said.{EachSaid, names}
use Rattle.market_law.proofs.Basics.{each-all}
use Rattle.market_law.proofs.Says.{ran-told}
use Rattle.market_law.proofs.Bounds.{named-once}
use Rattle.world_law.specs.Asked.{WasAsked, leads, TokensLead, AlwaysOfOrders, CameAsked}
use Rattle.world_law.proofs.Turns.{of-order}
use Rattle.world_law.proofs.Terms.{enter-said, replace-said}
use Rattle.world_law.proofs.Judged.{judged-lawful}
use Rattle.world_law.proofs.Homes.{always-of-orders}
use Rattle.world_law.proofs.Oldest.{are-oldest}

each-behind : (lead : List ℕ → Option (List ℕ)) (P : Inbound → Type 0) (xs ys : List Outbound)
    → EachSaid lead P (xs ++ ys) → EachSaid lead P ys
each-behind lead P [] ys e = e
each-behind lead P (x ∷ xs) ys e = each-behind lead P xs ys e.1

module _ (terms : List Terms) (port : ℕ) (h : OrderHistory) (always : AlwaysOfOrders terms port h) where
  abbrev A : List Entry
  A = accepted terms h

  known-message : (message : Inbound) (choice : Choice) → WasAsked terms port h message
      → IsKnown (leads terms port A) (WasAsked terms port h) (Comes message choice)
  known-message (ask.Enter order) choice w =
      let o = of-order terms port w.asks h always w.there in
      let lead = subst (TokensLead terms port A o.new) (enter-said w.asks.said order w.says.tokens) o.tokens in
      (ap (option_map token_of) lead.0.mine ∙ ap Some lead.1, w)
  known-message (ask.Replace request) choice w =
      let o = of-order terms port w.asks h always w.there in
      let lead = subst (TokensLead terms port A o.new) (replace-said w.asks.said request w.says.tokens) o.tokens in
      (ap (option_map token_of) (lead.1.mine ∙ sym lead.0.mine), w)
  known-message (ask.Cancel request) choice w = tt

  known-move : (v : Move) → CameAsked terms port h v → IsKnown (leads terms port A) (WasAsked terms port h) v
  known-move (Comes message choice) w = known-message message choice w
  known-move (Acts choice) w = tt

  pub known-moves : (moves : List Move) → Each (CameAsked terms port h) moves
      → Each (IsKnown (leads terms port A) (WasAsked terms port h)) moves
  known-moves moves came = each-all (CameAsked terms port h)
      (IsKnown (leads terms port A) (WasAsked terms port h)) moves known-move came

  pub told : (moves : List Move) → Each (CameAsked terms port h) moves
      → EachSaid (leads terms port A) (WasAsked terms port h) (ran moves).said
  told moves came = (ran-told (leads terms port A) (WasAsked terms port h) moves (known-moves moves came)).each

pub no-fault : (terms : List Terms) (port : ℕ) (h : OrderHistory) (s : TableState) (moves : List Move)
    (newer : List Outbound) (m : Outbound)
    → length h < 2 ^ 59 → TurnsLeave terms h s → Each (CameAsked terms port h) moves
    → (ran moves).said ≡ newer ++ m ∷ handled port h → judgement terms port (Ok m) h ≡ None
no-fault terms port h s moves newer m short leaves came split =
    let always = always-of-orders terms h s short leaves port in
    let each = each-behind (leads terms port (accepted terms h)) (WasAsked terms port h) newer (m ∷ handled port h)
    (subst (EachSaid (leads terms port (accepted terms h)) (WasAsked terms port h)) split
    (told terms port h always moves came)) in
    judged-lawful terms port h always (are-oldest terms h s short leaves port) m each.0

pub once : (terms : List Terms) (port : ℕ) (h : OrderHistory) (s : TableState) (moves : List Move)
    → length h < 2 ^ 59 → TurnsLeave terms h s → Each (CameAsked terms port h) moves → (u : List ℕ)
    → times (names u) (ran moves).said ≤ 1
once terms port h s moves short leaves came u =
    named-once (leads terms port (accepted terms h)) (WasAsked terms port h) u (ran moves).said
    (told terms port h (always-of-orders terms h s short leaves port) moves came)
