-- An order of which no replace was accepted keeps its first token, whatever its market said; and a fill or kill order
-- is then executed whole or not at all.
use Rattle.std.proofs.Common.{◌≡◌, ℕ, ◌<◌, ◌^◌, Bool, true, false, List, [], ◌∷◌, ◌++◌, length, refl, sym, ap, ◌∙◌}
use Rattle.std.proofs.Common.{subst, bytes_eq, Option, Some, None, ◌⊎◌, inl, inr, ⊎_elim}
use Rattle.std.specs.Prelude.{◌==◌, ◌&&◌, filter, option_map, option_to_list}
use Rattle.std.specs.List.{find}
use Rattle.std.specs.Str.Parse.{digits_value}
use Rattle.order_law.specs.ouch_codec.declared.inbound.Inbound.TheVariants as ask
use Rattle.order_law.specs.ouch_codec.declared.inbound.enter_order.EnterOrder.{EnterOrder}
use Rattle.order_law.specs.ouch_codec.declared.inbound.replace.Replace.{Replace}
use Rattle.order_law.specs.ouch_codec.declared.outbound.Outbound.{Outbound}
use Rattle.order_law.specs.ouch_codec.declared.outbound.Outbound.TheVariants as market
use Rattle.order_law.specs.ouch_codec.EnterOrderParts.{SaysEnterOrder-written}
use Rattle.order_law.specs.ouch_codec.Inbound.{inbound_bytes}
use Rattle.fix_fields.specs.Field.{Message, is, text}
use Rattle.order_law.specs.Asks.{ask_of_enter, asked_by_request, limits_of, minimum_of, total_of}
use Rattle.order_law.specs.Chain.{chain}
use Rattle.order_law.specs.Life.{Life, first_token, life, live}
use Rattle.order_law.specs.Reading.{reading}
use Rattle.order_law.specs.Verdicts.{is_replace}
use Rattle.order_law.specs.History.{Asked, Entry, OrderHistory, Said, SaysCancel, SaysNew, SaysReplace, Terms, accepted}
use Rattle.order_law.specs.History.{asks, asks_of, entry_at, handled, is_new_order, issued, life_of, pending_tokens}
use Rattle.order_law.specs.History.{terms_of, token_of}
use Rattle.order_law.specs.Lawful.{order_of_token}
use Rattle.order_law.specs.Headline.{Each}
use Rattle.market_law.specs.Machine.{BookOrder, tokens_by, tokens_of}
use Rattle.market_law.specs.Moves.{IsAllOrNothing}
use Rattle.market_law.specs.Rows.{has_had, row, row_of_order}
use Rattle.market_law.specs.Run.{Move, ran}
use Rattle.market_law.specs.Said.{EachSaid, IsSaid}
use Rattle.market_law.proofs.Basics.{each-all, each-both}
use Rattle.market_law.proofs.Runs.{ran-Sound}
use Rattle.market_law.proofs.Says.{IsPlaced, ran-told}
use Rattle.market_law.proofs.Sound.{IsChain}
use Rattle.market_law.proofs.Theorems.{whole}
use Rattle.order_machine.specs.Runs.{TurnsLeave}
use Rattle.order_machine.specs.Table.{TableState}
use Rattle.order_machine.proofs.Texts.{eq-is, eq-same}
use Rattle.order_machine.proofs.Fits.{IsHome}
use Rattle.order_machine.proofs.Holds.{HasRecord}
use Rattle.order_machine.proofs.Lists.{Each-map}
use Rattle.order_machine.proofs.OnPorts.{each-append}
use Rattle.order_machine.proofs.Running.{Leaves-Holding}
use Rattle.world_law.specs.Asked.{AlwaysOfOrders, CameAsked, TokensLead, WasAsked, asked, leads, sender}
use Rattle.world_law.specs.FillOrKill.{AllOrNone, IsFillOrKill, is_replaced}
use Rattle.world_law.specs.Rows.{ReadsAsBook}
use Rattle.world_law.proofs.AtRest.{at-rest, each-find}
use Rattle.world_law.proofs.Homes.{always-of-orders, first-home}
use Rattle.world_law.proofs.Known.{number-of, or-right}
use Rattle.world_law.proofs.Lives.{IsRenewed, tokens-after}
use Rattle.world_law.proofs.Members.{each-in}
use Rattle.world_law.proofs.NoFault.{known-moves, told}
use Rattle.world_law.proofs.Terms.{enter-said, replace-said}
use Rattle.world_law.proofs.Totals.{each-if, each-made, enter-limits, limits_in}
use Rattle.world_law.proofs.Turns.{of-order}

-- ---- a replace that is asked was accepted

abbrev AsksReplaced : Bool → Said → Type 0
AsksReplaced replaced (SaysNew token) = Unit {0}
AsksReplaced replaced (SaysReplace from to) = replaced ≡ true
AsksReplaced replaced (SaysCancel token) = Unit {0}

abbrev WasReplaced : List Entry → Asked → Type 0
WasReplaced entries a = AsksReplaced (is_replaced a.order entries) a.said

still-replaced : (x : Option Entry) (entries : List Entry) (a : Asked) → WasReplaced entries a
    → WasReplaced (option_to_list x ++ entries) a
still-replaced None entries a k = k
still-replaced (Some e) entries a k = by_said a.said k
  where
    by_said : (s : Said) → AsksReplaced (is_replaced a.order entries) s
        → AsksReplaced (is_replaced a.order (e ∷ entries)) s
    by_said (SaysNew token) k = tt
    by_said (SaysReplace from to) k = or-right (bytes_eq e.order a.order && is_replace e.message) _ k
    by_said (SaysCancel token) k = tt

module _ (terms : List Terms) (entries : List Entry) (sent : List Message) (messages : List Outbound) where
  entry-replaced : (e : Entry) → Each (WasReplaced (e ∷ entries)) (asks terms e entries sent messages)
  entry-replaced e =
      each-if (WasReplaced (e ∷ entries)) (is_new_order e.message) _ _
      (λ new. (tt, tt))
      (λ other.
      each-if (WasReplaced (e ∷ entries)) (is_replace e.message) _ _
      (λ replaces. (by_own replaces, tt))
      (λ cancels.
      each-made (WasReplaced (e ∷ entries))
      (λ (token : List ℕ). record {
        order = e.order;
        id = text 11 e.message;
        said = SaysCancel token;
        ask =
            asked_by_request (digits_value 10 e.order) e.message;
      })
      (live (life_of e.order entries messages) ∷ pending_tokens e.client (chain e.order sent) entries)
      (λ token. tt)))
    where
      by_own : is_replace e.message ≡ true → is_replaced e.order (e ∷ entries) ≡ true
      by_own replaces = let same = eq-same e.order in rw (same, replaces) refl

  asks-replaced : (port : ℕ) (x : Option Entry)
      → Each (WasReplaced (option_to_list x ++ entries)) (asks_of terms port x entries sent messages)
  asks-replaced port None = tt
  asks-replaced port (Some e) = each-if (WasReplaced (e ∷ entries)) ((terms_of terms e.client).port == port) _ _
      (λ here. entry-replaced e) (λ elsewhere. tt)

asked-replaced : (terms : List Terms) (port : ℕ) (h : OrderHistory)
    → Each (WasReplaced (accepted terms h)) (asked terms port h)
asked-replaced terms port [] = tt
asked-replaced terms port (t ∷ before) =
    each-append (WasReplaced (accepted terms (t ∷ before))) (asked terms port before) _
    (Each-map (WasReplaced (accepted terms before)) (WasReplaced (accepted terms (t ∷ before)))
    (asked terms port before) (still-replaced (entry_at terms t.event before) (accepted terms before))
    (asked-replaced terms port before))
    (asks-replaced terms (accepted terms before) (issued (sender t.event) before) (handled port before) port
    (entry_at terms t.event before))

-- ---- the tokens of an order that wasn't replaced

module _ (terms : List Terms) (port : ℕ) (h : OrderHistory) (always : AlwaysOfOrders terms port h) where
  abbrev A : List Entry
  A = accepted terms h

  module _ (new : Entry) (home : order_of_token terms port A (token_of new) ≡ Some new) where
    -- no replace of it was asked
    no-replace : is_replaced new.order A ≡ false → (request : Replace) → WasAsked terms port h (ask.Replace request)
        → request.token ≡ token_of new → ⊥
    no-replace none request w from =
        let is = replace-said w.asks.said request w.says.tokens in
        let o = of-order terms port w.asks h always w.there in
        let lead = subst (TokensLead terms port A o.new) is o.tokens in
        let same : new ≡ o.new = (let g : Some new ≡ Some o.new = sym home ∙ ap (order_of_token terms port A) (sym from)
        ∙ lead.0.mine in cc) in
        let number : new.order ≡ w.asks.order = ap (λ (e : Entry). e.order) same
        ∙ number-of w.asks.order A o.new o.found in
        let was : is_replaced w.asks.order A ≡ true =
        subst (AsksReplaced (is_replaced w.asks.order A)) is
        (each-in (WasReplaced A) w.asks (asked terms port h) (asked-replaced terms port h) w.there) in
        clash (ap (λ (k : List ℕ). is_replaced k A) number ∙ was)
      where
        clash : is_replaced new.order A ≡ true → ⊥
        clash is = let g : true ≡ false = sym is ∙ none in cc

    tokens-alone : is_replaced new.order A ≡ false → (side : ℕ) (M : List Outbound)
        → EachSaid (leads terms port A) (WasAsked terms port h) M
        → (life (token_of new) side M).tokens ≡ token_of new ∷ []
    tokens-alone none side [] each = refl
    tokens-alone none side (m ∷ M) each = by_tokens (tokens-after (life (token_of new) side M) m)
        (tokens-alone none side M each.1)
      where
        by_tokens : ((life (token_of new) side (m ∷ M)).tokens ≡ (life (token_of new) side M).tokens) ⊎ IsRenewed
            (life (token_of new) side M) m → (life (token_of new) side M).tokens ≡ token_of new ∷ []
            → (life (token_of new) side (m ∷ M)).tokens ≡ token_of new ∷ []
        by_tokens (inl same) was = same ∙ was
        by_tokens (inr r) was =
            let s : IsSaid (leads terms port A) (WasAsked terms port h) (market.Replaced r.by) M =
            subst (λ (x : Outbound). IsSaid (leads terms port A) (WasAsked terms port h) x M) r.is each.0 in
            let live_is : r.by.previous_token ≡ token_of new =
            eq-is r.by.previous_token (token_of new) (ap
            (λ (tokens : List (List ℕ)). bytes_eq r.by.previous_token (first_token tokens)) (sym was) ∙ r.was_live)
            in
            absurd (no-replace none s.0.request s.0.was_asked (s.0.is_from ∙ live_is))

    -- what its Enter Order says: its own message's OrderQty, and its minimum quantity
    entered-limits : (order : EnterOrder) → WasAsked terms port h (ask.Enter order) → order.token ≡ token_of new
        → (order.shares ≡ total_of new.message) × (order.minimum_quantity ≡ minimum_of new.message)
    entered-limits order w token =
        let is = enter-said w.asks.said order w.says.tokens in
        let o = of-order terms port w.asks h always w.there in
        let lead = subst (TokensLead terms port A o.new) is o.tokens in
        let same : o.new ≡ new = (let g : Some o.new ≡ Some new = sym lead.0.mine
        ∙ ap (order_of_token terms port A) token ∙ home in cc) in
        let written = SaysEnterOrder-written order in
        let own : limits_in (ask_of_enter w.standing (inbound_bytes (ask.Enter order)))
        ≡ Some (limits_of o.new.message) = rw written.is_one at (ap limits_in (w.says.ask ∙ o.own order.token is))
        in
        let limits = enter-limits w.standing (inbound_bytes (ask.Enter order)) (limits_of o.new.message) own in (
          sym written.shares ∙ limits.0 ∙ ap (λ (e : Entry). total_of e.message) same,
          sym written.minimum ∙ limits.1 ∙ ap (λ (e : Entry). minimum_of e.message) same,
        )

-- an order of the book with one token wasn't replaced
one-token : (order : EnterOrder) (rs : List Replace) (t : List ℕ) → tokens_by order rs ≡ t ∷ [] → rs ≡ []
one-token order [] t e = refl
one-token order (r ∷ []) t e = absurd (cc)
one-token order (r ∷ (q ∷ qs)) t e = absurd (cc)

-- ---- executed whole or not at all

module _ (terms : List Terms) (port : ℕ) (h : OrderHistory) (s : TableState) (moves : List Move)
    (short : length h < 2 ^ 59) (leaves : TurnsLeave terms h s)
    (came : Each (CameAsked terms port h) moves) where
  always-of : AlwaysOfOrders terms port h
  always-of = always-of-orders terms h s short leaves port

  book-whole : (new : Entry) → HasRecord terms h new → IsFillOrKill terms port (accepted terms h) new
      → AllOrNone new (row (ran moves).machine.book (token_of new)).executed
  book-whole new r kind = by_found (find (has_had (token_of new)) (ran moves).machine.book) refl
    where
      home : order_of_token terms port (accepted terms h) (token_of new) ≡ Some new
      home = subst (λ (p : ℕ). order_of_token terms p (accepted terms h) (token_of new) ≡ Some new) kind.0
          (subst (λ (e : Entry). IsHome terms (accepted terms h) e (token_of e)) r.same
          (first-home terms h r.order r.fits)).mine

      placed : Each (IsPlaced (leads terms port (accepted terms h)) (WasAsked terms port h)) (ran moves).machine.book
      placed = (ran-told (leads terms port (accepted terms h)) (WasAsked terms port h) moves
          (known-moves terms port h always-of moves came)).placed

      least : minimum_of new.message ≡ total_of new.message
      least = rw kind.1 refl

      by_found : (x : Option BookOrder) → find (has_had (token_of new)) (ran moves).machine.book ≡ x
          → AllOrNone new (row_of_order x).executed
      by_found None e = inl refl
      by_found (Some c) e =
          let k = each-find (IsPlaced (leads terms port (accepted terms h)) (WasAsked terms port h))
          (has_had (token_of new)) (ran moves).machine.book c placed e in
          let chained = each-find (IsChain (ran moves).machine (ran moves).said) (has_had (token_of new))
          (ran moves).machine.book c (ran-Sound moves).each e in
          let fits = each-find IsAllOrNothing (has_had (token_of new)) (ran moves).machine.book c (whole moves) e in
          let entered_by : c.entered.token ≡ token_of new =
          (let g : Some c.entered.token ≡ Some (token_of new) = sym (k.0.leads (token_of new) k.1)
          ∙ ap (option_map token_of) home in cc) in
          let limits = entered-limits terms port h always-of new home c.entered k.0.was_entered entered_by in
          let tokens : tokens_of c ≡ token_of new ∷ [] =
          ap (λ (l : Life). l.tokens) (sym (chained.0.book 0))
          ∙ ap (λ (t : List ℕ). (life t 0 (ran moves).said).tokens) entered_by
          ∙ tokens-alone terms port h always-of new home kind.2 0 (ran moves).said
          (told terms port h always-of moves came) in
          ⊎_elim (λ none. inl none) (λ all. inr (all ∙ limits.0))
          (fits.0 (one-token c.entered c.replacements (token_of new) tokens) (limits.1 ∙ least ∙ sym limits.0))

  pub books-whole : Each (λ (new : Entry). IsFillOrKill terms port (accepted terms h) new
      → AllOrNone new (row (ran moves).machine.book (token_of new)).executed)
      (filter (λ (e : Entry). is_new_order e.message) (accepted terms h))
  books-whole =
      each-all (HasRecord terms h) (λ (new : Entry). IsFillOrKill terms port (accepted terms h) new
      → AllOrNone new (row (ran moves).machine.book (token_of new)).executed)
      (filter (λ (e : Entry). is_new_order e.message) (accepted terms h))
      (λ new r kind. book-whole new r kind)
      (Leaves-Holding terms h s short leaves).table.held.records

  -- once all that the market said is handled, so is each reading
  pub readings-whole : (ran moves).said ≡ handled port h
      → Each (λ (new : Entry). IsFillOrKill terms port (accepted terms h) new
      → AllOrNone new (reading new.order (issued new.client h)).executed)
      (filter (λ (e : Entry). is_new_order e.message) (accepted terms h))
  readings-whole all =
      each-all
      (λ (new : Entry). (IsFillOrKill terms port (accepted terms h) new
      → AllOrNone new (row (ran moves).machine.book (token_of new)).executed)
      × ((terms_of terms new.client).port ≡ port
      → ReadsAsBook (reading new.order (issued new.client h)) (row (ran moves).machine.book (token_of new))))
      (λ (new : Entry). IsFillOrKill terms port (accepted terms h) new
      → AllOrNone new (reading new.order (issued new.client h)).executed)
      (filter (λ (e : Entry). is_new_order e.message) (accepted terms h))
      (λ new both kind. subst (AllOrNone new) (sym (both.1 kind.0).executed) (both.0 kind))
      (each-both (λ (new : Entry). IsFillOrKill terms port (accepted terms h) new
      → AllOrNone new (row (ran moves).machine.book (token_of new)).executed)
      (λ (new : Entry). (terms_of terms new.client).port ≡ port
      → ReadsAsBook (reading new.order (issued new.client h)) (row (ran moves).machine.book (token_of new)))
      (filter (λ (e : Entry). is_new_order e.message) (accepted terms h)) books-whole
      (at-rest terms port h s moves short leaves came all))
