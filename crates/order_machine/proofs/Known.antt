-- Each token that a client's message asks about leads to the order that it is asked of.
use Rattle.std.proofs.Common.{◌≡◌, ℕ, ◌<◌, ◌^◌, Bool, true, false, List, [], ◌∷◌, ◌++◌, length, map, refl, sym, ap, ◌∙◌}
use Rattle.std.proofs.Common.{subst, arith, Option, Some, None}
use Rattle.std.specs.Prelude.{if◌then◌else◌, option_map}
use Rattle.std.specs.List.{find}
use Rattle.std.specs.Str.Parse.{digits_value}
use Rattle.fix_fields.specs.Field.{Message, text}
use Rattle.order_law.specs.Verdicts.{Accepted, Port, Refused, Verdict, is_replace}
use Rattle.order_law.specs.History.{Entry, OrderHistory, Terms, accepted, is_new_order, last_token, terms_of, token_of}
use Rattle.order_law.specs.Headline.{Each}
use Rattle.order_machine.specs.OrderRecord.{Cancelling, OrderRecord, after_request, at, cancel_asked, asked_cancel}
use Rattle.order_machine.specs.OrderRecord.{asked_replace, live_token, replacements}
use Rattle.order_machine.specs.Table.{TableState, record_by_id, by_number, has_number, is_named, put}
use Rattle.order_machine.specs.Machine.{GivenByEvent, accept_new, accept_on, accept_request, by_verdict, client_step}
use Rattle.order_machine.specs.Machine.{entry_of_request, refuse_new, refuse_request, request_asked, verdict_in}
use Rattle.order_machine.specs.Runs.{Finds, LeadsTo, TurnsLeave}
use Rattle.order_machine.proofs.Lists.{Each-front, Each-map}
use Rattle.order_machine.proofs.Fits.{IsHome}
use Rattle.order_machine.proofs.Holds.{FitsIn, port_of}
use Rattle.order_machine.proofs.Finding.{Each-found}
use Rattle.order_machine.proofs.Placed.{number-put_own}
use Rattle.order_machine.proofs.Linked.{IsTable, named-client, number-leads}
use Rattle.order_machine.proofs.Stepping.{after_request-new}
use Rattle.order_machine.proofs.Running.{Leaves-Holding, client-goes, leads-to}

-- ---- an order of the table

-- a cancel that is asked of an order
abbrev cancelling : Entry → OrderRecord → Cancelling
cancelling q o = record { request = q; tokens = live_token o ∷ replacements o.replaces }

module _ (terms : List Terms) (h : OrderHistory) (s : TableState) (t : IsTable terms h s) where
  -- an order that fits has its number in the table
  own-number : (o : OrderRecord) → FitsIn terms h o → (x : OrderRecord) × (by_number s o.new.order ≡ Some x)
  own-number o f = by_found (by_number s o.new.order) refl (number-leads terms h s t o.new.order ∙ f.known)
    where
      by_found : (x : Option OrderRecord) → by_number s o.new.order ≡ x
          → option_map (λ (y : OrderRecord). y.new) x ≡ Some o.new
          → (x : OrderRecord) × (by_number s o.new.order ≡ Some x)
      by_found None e is = absurd (cc)
      by_found (Some x) e is = (x, e)

  module _ (order_of : List ℕ → Option ℕ) where
    -- a token of an order leads to its OrderID
    home-leads : (new : Entry) → LeadsTo s (port_of terms new) order_of → (token : List ℕ)
        → IsHome terms (accepted terms h) new token → order_of token ≡ Some (digits_value 10 new.order)
    home-leads new leads token home =
        leads token
        ∙ sym (leads-to terms h s t (port_of terms new) token)
        ∙ ap (option_map (λ (e : Entry). digits_value 10 e.order)) home.mine

    -- tokens of an order lead to it, each in its Cancel Order
    cancels-find : (new q : Entry) → LeadsTo s (port_of terms new) order_of → (tokens : List (List ℕ))
        → Each (IsHome terms (accepted terms h) new) tokens
        → Each (Finds order_of) (map (λ token. asked_cancel new q token) tokens)
    cancels-find new q leads [] each = tt
    cancels-find new q leads (token ∷ tokens) each =
        (home-leads new leads token each.0, cancels-find new q leads tokens each.1)

    -- the last of its tokens and those of its pending replaces
    last-home : (new : Entry) (from : List ℕ) (rs : List Entry) → IsHome terms (accepted terms h) new from
        → Each (λ (r : Entry). IsHome terms (accepted terms h) new (token_of r)) rs
        → IsHome terms (accepted terms h) new (last_token from (replacements rs))
    last-home new from [] home each = home
    last-home new from (r ∷ rs) home each = last-home new (token_of r) rs each.0 each.1

    -- what a request asks of an order, which fits with the request
    request-finds : (q : Entry) (o : OrderRecord) → FitsIn terms h (after_request q o)
        → LeadsTo s (port_of terms o.new) order_of → Each (Finds order_of) (request_asked q o)
    request-finds q o f leads = by_kind (is_replace q.message) f
      where
        by_kind : (b : Bool) → FitsIn terms h (if b then at o (o.replaces ++ q ∷ []) o.cancel else at o o.replaces
            (Some (cancelling q o)))
            → Each (Finds order_of) (if b then asked_replace o.new
            (last_token (live_token o) (replacements o.replaces)) q ∷ [] else cancel_asked o.new
            (Some (cancelling q o)))
        by_kind true f =
            let homes = Each-front _ o.replaces (q ∷ []) f.holds.replaces in (
              home-leads o.new leads _ (last-home o.new (live_token o) o.replaces f.holds.front
                  (Each-map _ (λ (r : Entry). IsHome terms (accepted terms h) o.new (token_of r)) o.replaces
                  (λ r home. home.0) homes)),
              tt,
            )
        by_kind false f = cancels-find o.new q leads (live_token o ∷ replacements o.replaces)
            (f.holds.cancel (cancelling q o) refl).0

-- ---- an order that is put in its place

-- what holds of each order then holds of it
Each-put_own : (P : OrderRecord → Type 0) (p : OrderRecord) (os : List OrderRecord) (x : OrderRecord)
    → find (has_number p.new.order) os ≡ Some x → Each P (put p os) → P p
Each-put_own P p os x found each = Each-found P (has_number p.new.order) (put p os) p each (number-put_own p os x found)

-- ---- a client's message

module _ (terms : List Terms) (before : OrderHistory) (s : TableState) (t : IsTable terms before s) (client : ℕ) (m : Message) (order_of : List ℕ → Option ℕ) where
  -- what it gives: its table has the tokens that it asks about
  abbrev Knows : GivenByEvent → Type 0
  Knows g = (h : OrderHistory) → IsTable terms h g.state → LeadsTo g.state (terms_of s.terms client).port order_of
      → Each (Finds order_of) g.asks

  module _ (o : OrderRecord) (here : record_by_id s client (text 41 m) ≡ Some o) where
    abbrev q : Entry
    q = entry_of_request s client m o

    -- the port of an order that the client names is the client's
    home : (terms_of s.terms client).port ≡ port_of terms o.new
    home = ap (λ (ts : List Terms). (terms_of ts client).port) t.same_terms
        ∙ ap (λ (c : ℕ). (terms_of terms c).port) (sym (named-client terms before s t client (text 41 m) o here))

    -- it has its number in the table, with the request as before
    numbered : (x : OrderRecord) × (find (has_number (after_request q o).new.order) s.orders ≡ Some x)
    numbered =
        let was : (x : OrderRecord) × (by_number s o.new.order ≡ Some x) =
        own-number terms before s t o (Each-found (FitsIn terms before)
        (is_named client (text 41 m)) s.orders o t.fit here) in
        (was.0, ap (λ (e : Entry). find (has_number e.order) s.orders) (after_request-new q o) ∙ was.1)

    -- an accepted request
    accepted-on : Knows (accept_on s client m (Some o))
    accepted-on h after leads =
        request-finds terms h (accept_on s client m (Some o)).state after order_of q o
        (Each-put_own (FitsIn terms h) (after_request q o) s.orders numbered.0 numbered.1 after.fit)
        (subst (λ (port : ℕ). LeadsTo (accept_on s client m (Some o)).state port order_of) home leads)

  -- an accepted request, on the order that its 41 names
  accepted-request : Knows (accept_request s client m)
  accepted-request = by_found (record_by_id s client (text 41 m)) refl
    where
      by_found : (x : Option OrderRecord) → record_by_id s client (text 41 m) ≡ x → Knows (accept_on s client m x)
      by_found None here h after leads = tt
      by_found (Some o) here h after leads = accepted-on o here h after leads

  -- by the verdict
  step-knows : (port : Port) → Knows (client_step s client m port)
  step-knows port = by_w (verdict_in s client port m)
    where
      accepted_by : (b : Bool) → Knows (if b then accept_new s client m else accept_request s client m)
      accepted_by true h after leads = (tt, tt)
      accepted_by false h after leads = accepted-request h after leads

      refused_by : (code : ℕ) (why : List ℕ) (b : Bool)
          → Knows (if b then refuse_new s client m code why else refuse_request s client m code why)
      refused_by code why true h after leads = tt
      refused_by code why false h after leads = tt

      by_w : (w : Verdict) → Knows (by_verdict s client m w)
      by_w Accepted = accepted_by (is_new_order m)
      by_w (Refused code why) = refused_by code why (is_new_order m)

-- ---- runs

-- in every run each token that a client's message asks about leads to its order
pub asked-found : (terms : List Terms) (before : OrderHistory) (s : TableState) (client : ℕ) (m : Message) (port : Port)
    (order_of : List ℕ → Option ℕ)
    → length before < 2 ^ 58 → TurnsLeave terms before s
    → LeadsTo (client_step s client m port).state (terms_of s.terms client).port order_of
    → Each (Finds order_of) (client_step s client m port).asks
asked-found terms before s client m port order_of short leaves leads =
    let long : length before < 2 ^ 59 = omega (arith, short) in
    let table : IsTable terms before s = (Leaves-Holding terms before s long leaves).table in
    step-knows terms before s table client m order_of port _
    (client-goes terms before s table long client m port []).0.0 leads
