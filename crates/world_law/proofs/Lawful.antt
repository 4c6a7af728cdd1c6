-- What a market said of what it was asked is lawful of its order, by the order level's own table.
use Rattle.std.proofs.Common.{◌≡◌, ℕ, Bool, true, List, [], refl, sym, ap, ◌∙◌, Option, Some, None, bytes_eq, eq-eqb}
use Rattle.std.specs.Prelude.{◌&&◌, option_map, unwrap_or}
use Rattle.std.specs.List.{find}
use Rattle.order_law.specs.ouch_codec.declared.side.Side.{Side}
use Rattle.order_law.specs.ouch_codec.declared.outbound.Outbound.{Outbound}
use Rattle.order_law.specs.ouch_codec.declared.outbound.Outbound.TheVariants as market
use Rattle.order_law.specs.ouch_codec.declared.outbound.accepted.Accepted.{Accepted}
use Rattle.order_law.specs.ouch_codec.declared.outbound.replaced.Replaced.{Replaced}
use Rattle.order_law.specs.ouch_codec.Letters.{side_letter}
use Rattle.order_law.specs.ouch_codec.Parts.{unpadded}
use Rattle.fix_fields.specs.Field.{text, character}
use Rattle.order_law.specs.Asks.{side_of_letter}
use Rattle.order_law.specs.Life.{Life, life}
use Rattle.order_law.specs.Chain.{chain}
use Rattle.order_law.specs.History.{Terms, OrderHistory, Entry, accepted, handled, issued, life_of, new_of}
use Rattle.order_law.specs.History.{pending_tokens, side_of, token_of, is_new_order}
use Rattle.order_law.specs.Lawful.{has_token, is_first, is_lawful_on, order_of_token, row_holds, same_terms, works_as}
use Rattle.market_law.specs.Said.{OnOrder, IsFirst}
use Rattle.market_law.proofs.Basics.{eq-same, eq-is, and-parts}
use Rattle.order_machine.proofs.Lists.{found-passes}
use Rattle.world_law.specs.Asked.{leads, WasAsked}

-- ---- the order that a token leads to

module _ (terms : List Terms) (port : ℕ) (A : List Entry) where
  pub led : (token root : List ℕ) → leads terms port A token ≡ Some root
      → (new : Entry) × (order_of_token terms port A token ≡ Some new) × (token_of new ≡ root)
  led token root e = by_found (order_of_token terms port A token) refl e
    where
      by_found : (x : Option Entry) → order_of_token terms port A token ≡ x → option_map token_of x ≡ Some root
          → (new : Entry) × (order_of_token terms port A token ≡ Some new) × (token_of new ≡ root)
      by_found None f e = absurd (cc)
      by_found (Some new) f e = (new, f, cc)

  -- it is known by its number
  pub self-known : (k : List ℕ) (new : Entry) → new_of k A ≡ Some new → new_of new.order A ≡ Some new
  self-known k new f =
      let both : (bytes_eq new.order k && is_new_order new.message) ≡ true =
      found-passes (λ (e : Entry). bytes_eq e.order k && is_new_order e.message) A new f in
      let same : new.order ≡ k = eq-is new.order k (and-parts (bytes_eq new.order k) (is_new_order new.message) both).0
      in
      ap (λ (i : List ℕ). new_of i A) same ∙ f

  pub led-known : (token : List ℕ) (new : Entry) → order_of_token terms port A token ≡ Some new
      → new_of new.order A ≡ Some new
  led-known token new f = by_found (find (has_token terms port token) A) refl f
    where
      by_found : (x : Option Entry) → find (has_token terms port token) A ≡ x
          → order_of_token terms port A token ≡ Some new → new_of new.order A ≡ Some new
      by_found None g f = absurd (let n : ◌≡◌ {A = Option Entry} None (Some new) = rw g at f in cc)
      by_found (Some e) g f = let n : new_of e.order A ≡ Some new = rw g at f in self-known e.order new n

-- ---- rows

module _ (terms : List Terms) (port : ℕ) (h : OrderHistory) where
  abbrev A : List Entry
  A = accepted terms h

  abbrev M : List Outbound
  M = handled port h

  abbrev tokens_pending : Entry → List (List ℕ)
  tokens_pending new = pending_tokens new.client (chain new.order (issued new.client h)) A

  -- its life, by its first token
  pub life-led : (token root : List ℕ) (new : Entry) → order_of_token terms port A token ≡ Some new
      → token_of new ≡ root → life_of new.order A M ≡ life root (side_of new.order A) M
  life-led token root new f is =
      ap (λ (x : Option Entry). life (unwrap_or (option_map token_of x) []) (side_of new.order A) M)
      (led-known terms port A token new f)
      ∙ ap (λ (r : List ℕ). life r (side_of new.order A) M) is

  -- where the row holds of the order that the token leads to, there is no fault
  pub on-led : (m : Outbound) (token : List ℕ) (new : Entry) → order_of_token terms port A token ≡ Some new
      → row_holds m (life_of new.order A M) new (tokens_pending new) ≡ true
      → is_lawful_on terms port h m token ≡ Some true
  on-led m token new f row = rw f (ap Some row)

  abbrev root_in : List ℕ → Option (List ℕ)
  root_in = leads terms port A

  -- the rows that read the order's life alone
  pub life-lawful : (m : Outbound) (token : List ℕ) (test : Life → Bool)
      → OnOrder root_in (WasAsked terms port h) token test M
      → ((l : Life) (new : Entry) (pending : List (List ℕ)) → test l ≡ true → row_holds m l new pending ≡ true)
      → is_lawful_on terms port h m token ≡ Some true
  life-lawful m token test o row =
      let to : (new : Entry) × (order_of_token terms port A token ≡ Some new) × (token_of new ≡ o.0) =
      led terms port A token o.0 o.1 in
      on-led m token to.0 to.1 (row (life_of to.0.order A M) to.0 (tokens_pending to.0)
      (ap test (life-led token o.0 to.0 to.1 to.2) ∙ o.2 (side_of to.0.order A)))

  -- side and stock are the order's
  same-terms : (side : Side) (stock : List ℕ) (new : Entry)
      → side_of_letter (side_letter side) ≡ Some (character 54 new.message) → unpadded stock ≡ text 55 new.message
      → same_terms side stock new ≡ true
  same-terms side stock new is_side is_stock =
      rw (is_side, is_stock, eq-same (text 55 new.message))
      (eq-eqb (character 54 new.message) (character 54 new.message) refl)

  -- an order that waits
  pub accepted-lawful : (m : Accepted) (new : Entry) → order_of_token terms port A m.token ≡ Some new
      → IsFirst root_in (WasAsked terms port h) m.token M
      → side_of_letter (side_letter m.side) ≡ Some (character 54 new.message) → unpadded m.stock ≡ text 55 new.message
      → is_lawful_on terms port h (market.Accepted m) m.token ≡ Some true
  accepted-lawful m new f first is_side is_stock = on-led (market.Accepted m) m.token new f row
    where
      row : row_holds (market.Accepted m) (life_of new.order A M) new (tokens_pending new) ≡ true
      row =
          let to = led terms port A m.token m.token first.0 in
          let same : to.0 ≡ new = (let g : Some to.0 ≡ Some new = sym to.1 ∙ f in cc) in
          let is_root : token_of new ≡ m.token = ap token_of (sym same) ∙ to.2 in
          let lives = life-led m.token m.token new f is_root ∙ first.1 (side_of new.order A) in
          let terms_same = same-terms m.side m.stock new is_side is_stock in
          rw (lives, eq-same m.token, terms_same) refl

  -- the oldest pending replace
  pub replaced-lawful : (m : Replaced) (new : Entry) (root : List ℕ)
      → order_of_token terms port A m.previous_token ≡ Some new → token_of new ≡ root
      → ((side : ℕ) → works_as (life root side M) m.previous_token ≡ true)
      → is_first m.token (tokens_pending new) ≡ true
      → side_of_letter (side_letter m.side) ≡ Some (character 54 new.message) → unpadded m.stock ≡ text 55 new.message
      → is_lawful_on terms port h (market.Replaced m) m.previous_token ≡ Some true
  replaced-lawful m new root f is works pending is_side is_stock =
      let lives : works_as (life_of new.order A M) m.previous_token ≡ true =
      ap (λ (l : Life). works_as l m.previous_token) (life-led m.previous_token root new f is)
      ∙ works (side_of new.order A) in
      let terms_same = same-terms m.side m.stock new is_side is_stock in
      on-led (market.Replaced m) m.previous_token new f (rw (lives, pending, terms_same) refl)
