-- The token by which a message that is outstanding names its order leads to that order.
use Rattle.std.proofs.Common.{◌≡◌, ℕ, Bool, true, false, List, [], ◌∷◌, ◌++◌, map, refl, sym, ap, ◌∙◌, subst, bytes_eq}
use Rattle.std.proofs.Common.{Option, Some, None}
use Rattle.std.specs.Prelude.{◌&&◌, if◌then◌else◌, option_map}
use Rattle.std.specs.Str.Parse.{digits_value}
use Rattle.order_law.specs.declared.stage.Stage.{Stage}
use Rattle.order_law.specs.declared.stage.Stage.TheVariants.{Waiting, Working, Closed}
use Rattle.order_law.specs.History.{Asked, Entry, OrderHistory, Terms, accepted, is_new_order, outstanding, token_of}
use Rattle.order_law.specs.Headline.{Each, order_number}
use Rattle.order_machine.specs.OrderRecord.{Cancelling, OrderRecord, asked_as, cancel_asked, asked_cancel, live_token}
use Rattle.order_machine.specs.OrderRecord.{new_asked, replaces_asked}
use Rattle.order_machine.proofs.Texts.{and-parts, eq-is, eq-true, not-both}
use Rattle.order_machine.proofs.Lists.{Each-map, found-passes}
use Rattle.order_machine.proofs.Fits.{IsHome, own}
use Rattle.order_machine.proofs.Holds.{FitsIn, Holds, port_of, record-of}
use Rattle.order_machine.proofs.OnPorts.{each-all, each-append, each-both}
use Rattle.order_machine.proofs.Unanswered.{ArePlaced, IsPlaced}
use Rattle.order_machine.specs.Runs.{Finds}

-- what holds of all that is asked of an order holds of each message of it
each-own : (Q : Asked → Type 0) (order : List ℕ) (asked : List Asked) → Each Q (own order asked)
    → Each (λ (a : Asked). bytes_eq a.order order ≡ true → Q a) asked
each-own Q order [] each = tt
each-own Q order (a ∷ asked) each = by_own (bytes_eq a.order order) refl each (each-own Q order asked)
  where
    by_own : (b : Bool) → bytes_eq a.order order ≡ b → Each Q (if b then a ∷ own order asked else own order asked)
        → (Each Q (own order asked) → Each (λ (x : Asked). bytes_eq x.order order ≡ true → Q x) asked)
        → Each (λ (x : Asked). bytes_eq x.order order ≡ true → Q x) (a ∷ asked)
    by_own true mine each rest = (λ e. each.0, rest each.1)
    by_own false other each rest = (λ e. absurd (not-both (bytes_eq a.order order) e other), rest each)

module _ (terms : List Terms) (h : OrderHistory) where
  abbrev A : List Entry
  A = accepted terms h

  abbrev number_at : ℕ → List ℕ → Option ℕ
  number_at port = order_number terms port A

  -- ---- of one order

  home-finds : (new : Entry) (token : List ℕ) → IsHome terms A new token
      → number_at (port_of terms new) token ≡ Some (digits_value 10 new.order)
  home-finds new token home = ap (option_map (λ (e : Entry). digits_value 10 e.order)) home.mine

  new-finds : (order_of : List ℕ → Option ℕ) (new : Entry) (stage : Stage)
      → Each (Finds order_of) (new_asked terms new stage)
  new-finds order_of new Waiting = (tt, tt)
  new-finds order_of new Working = tt
  new-finds order_of new Closed = tt

  replaces-find : (new : Entry) (from : List ℕ) (rs : List Entry) → IsHome terms A new from
      → Each (λ (q : Entry). IsHome terms A new (token_of q)) rs
      → Each (Finds (number_at (port_of terms new))) (replaces_asked new from rs)
  replaces-find new from [] home homes = tt
  replaces-find new from (q ∷ rs) home homes =
      (home-finds new from home, replaces-find new (token_of q) rs homes.0 homes.1)

  cancels-find : (new q : Entry) (tokens : List (List ℕ)) → Each (IsHome terms A new) tokens
      → Each (Finds (number_at (port_of terms new))) (map (λ token. asked_cancel new q token) tokens)
  cancels-find new q [] each = tt
  cancels-find new q (token ∷ tokens) each = (home-finds new token each.0, cancels-find new q tokens each.1)

  cancel-finds : (new : Entry) (x : Option Cancelling)
      → ((c : Cancelling) → x ≡ Some c → Each (IsHome terms A new) c.tokens)
      → Each (Finds (number_at (port_of terms new))) (cancel_asked new x)
  cancel-finds new None homes = tt
  cancel-finds new (Some c) homes = cancels-find new c.request c.tokens (homes c refl)

  record-finds : (o : OrderRecord) → FitsIn terms h o
      → Each (Finds (number_at (port_of terms o.new))) (asked_as terms o)
  record-finds o f =
      each-append (Finds (number_at (port_of terms o.new))) (new_asked terms o.new o.stage)
      (replaces_asked o.new (live_token o) o.replaces ++ cancel_asked o.new o.cancel)
      (new-finds (number_at (port_of terms o.new)) o.new o.stage)
      (each-append (Finds (number_at (port_of terms o.new))) (replaces_asked o.new (live_token o) o.replaces)
      (cancel_asked o.new o.cancel)
      (replaces-find o.new (live_token o) o.replaces f.holds.front
      (Each-map _ (λ (q : Entry). IsHome terms A o.new (token_of q)) o.replaces
      (λ q known. known.0) f.holds.replaces))
      (cancel-finds o.new o.cancel (λ c e. (f.holds.cancel c e).0)))

  -- ---- of all orders of a port

  abbrev OnPortNow : ℕ → Type 0
  OnPortNow p = (o : OrderRecord) × FitsIn terms h o × (port_of terms o.new ≡ p)

  members : (p : ℕ) (o : OrderRecord) → FitsIn terms h o → port_of terms o.new ≡ p
      → Each (λ (a : Asked). bytes_eq a.order o.new.order ≡ true → Finds (number_at p) a) (outstanding terms p h)
  members p o f home =
      subst (λ (r : ℕ). Each (λ (a : Asked). bytes_eq a.order o.new.order ≡ true → Finds (number_at r) a)
      (outstanding terms r h)) home
      (each-own (Finds (number_at (port_of terms o.new))) o.new.order (outstanding terms (port_of terms o.new) h)
      (subst (Each (Finds (number_at (port_of terms o.new)))) (sym f.asked_so) (record-finds o f)))

  abbrev FindsEach : ℕ → Asked → Type 0
  FindsEach p a = (k : OnPortNow p) → bytes_eq a.order k.0.new.order ≡ true → Finds (number_at p) a

  all-members : (p : ℕ) → Each (FindsEach p) (outstanding terms p h)
  all-members p = each-all (λ (k : OnPortNow p) (a : Asked). bytes_eq a.order k.0.new.order ≡ true
      → Finds (number_at p) a) (outstanding terms p h) (λ k. members p k.0 k.1 k.2)

  by-record : Holds terms h → (p : ℕ) (a : Asked) → IsPlaced terms A p a × FindsEach p a → Finds (number_at p) a
  by-record holds p a known =
      let placed = known.0 in
      let r = record-of terms h a.order A placed.new holds.records placed.known in
      known.1 (r.order, r.fits, ap (port_of terms) r.same ∙ placed.at_home)
      (eq-true a.order r.order.new.order (sym (ap (λ (e : Entry). e.order) r.same
      ∙ number-of a placed.new placed.known)))
    where
      number-of : (a : Asked) (new : Entry) → Rattle.order_law.specs.History.new_of a.order A ≡ Some new
          → new.order ≡ a.order
      number-of a new e =
          eq-is new.order a.order
          (and-parts (bytes_eq new.order a.order) (is_new_order new.message)
          (found-passes (λ (y : Entry). bytes_eq y.order a.order && is_new_order y.message) A new e)).0

  pub outstanding-found : Holds terms h → ArePlaced terms h → (p : ℕ)
      → Each (Finds (number_at p)) (outstanding terms p h)
  outstanding-found holds placed p =
      Each-map (λ (a : Asked). IsPlaced terms A p a × FindsEach p a) (Finds (number_at p)) (outstanding terms p h)
      (λ a known. by-record holds p a known)
      (each-both (IsPlaced terms A p) (FindsEach p) (outstanding terms p h) (placed p) (all-members p))
