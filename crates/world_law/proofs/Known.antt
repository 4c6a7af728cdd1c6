-- The record of an order, as the lists of a port have it; and what is asked of an order among all that is asked.
use Rattle.std.proofs.Common.{◌≡◌, ℕ, ◌*◌, Bool, true, false, List, [], ◌∷◌, length, map, refl, sym, ap, ◌∙◌, subst}
use Rattle.std.proofs.Common.{bytes_eq, Option, Some, None, ◌⊎◌, inl, inr, ⊎_elim}
use Rattle.std.specs.Prelude.{◌&&◌, ◌||◌, if◌then◌else◌}
use Rattle.std.specs.List.{filter_map, list_any}
use Rattle.order_law.specs.declared.stage.Stage.{Stage}
use Rattle.order_law.specs.declared.stage.Stage.TheVariants.{Waiting, Working, Closed}
use Rattle.order_law.specs.Chain.{Chain, chain}
use Rattle.order_law.specs.History.{Terms, OrderHistory, Asked, Entry, Said, SaysNew, SaysReplace, SaysCancel, accepted}
use Rattle.order_law.specs.History.{asked_of, from_token, handled, is_new_order, is_replace_said, issued, life_of}
use Rattle.order_law.specs.History.{new_of, next_tokens, orders_numbered, outstanding, pending_tokens, replacement_of}
use Rattle.order_law.specs.History.{token_of}
use Rattle.order_law.specs.Told.{reports_in}
use Rattle.order_law.specs.Lawful.{is_first, order_of_token}
use Rattle.order_law.specs.Headline.{Each}
use Rattle.order_machine.specs.OrderRecord.{Cancelling, OrderRecord, asked_as, asked_cancel, asked_replace}
use Rattle.order_machine.specs.OrderRecord.{cancel_asked, live_token, new_asked, record_life, replacements}
use Rattle.order_machine.specs.OrderRecord.{replaces_asked}
use Rattle.order_machine.proofs.Texts.{and-parts, eq-is, eq-same, eq-true}
use Rattle.order_machine.proofs.Lists.{Each-map, found-passes}
use Rattle.order_machine.proofs.Fits.{IsHome, life-of, next-own, own, tokens-are}
use Rattle.order_machine.proofs.Holds.{FitsIn, Holds, port_of, record-of}
use Rattle.world_law.specs.Asked.{IsIn}
use Rattle.world_law.proofs.Members.{in-filter, in-parts}

pub or-right : (b c : Bool) → c ≡ true → (b || c) ≡ true
or-right true c h = refl
or-right false c h = h

-- ---- the record of an order

pub record Known (terms : List Terms) (h : OrderHistory) (port : ℕ) (k : List ℕ) : Type 0 where
  pub order : OrderRecord
  pub fits : FitsIn terms h order
  pub number_is : order.new.order ≡ k
  pub on_port : port_of terms order.new ≡ port
  pub lives : life_of k (accepted terms h) (handled port h) ≡ record_life order
  pub asked_so : own k (outstanding terms port h) ≡ asked_as terms order
  pub next_so : next_tokens k (outstanding terms port h) ≡ replacements order.replaces

of-record : (terms : List Terms) (h : OrderHistory) (port : ℕ) (k : List ℕ) (o : OrderRecord) → FitsIn terms h o
    → o.new.order ≡ k → port_of terms o.new ≡ port → Known terms h port k
of-record terms h port k o fits number on = record {
  order = o;
  fits = fits;
  number_is = number;
  on_port = on;
  lives = subst (λ (i : List ℕ). life_of i (accepted terms h) (handled port h) ≡ record_life o) number
      (subst (λ (p : ℕ). life_of o.new.order (accepted terms h) (handled p h) ≡ record_life o) on
      (life-of terms (accepted terms h) (orders_numbered h) (issued o.new.client h) (handled (port_of terms o.new) h)
      (outstanding terms (port_of terms o.new) h) (reports_in h) (1_000_000 * length h) o fits));
  asked_so = subst (λ (i : List ℕ). own i (outstanding terms port h) ≡ asked_as terms o) number
      (subst (λ (p : ℕ). own o.new.order (outstanding terms p h) ≡ asked_as terms o) on fits.asked_so);
  next_so = subst (λ (i : List ℕ). next_tokens i (outstanding terms port h) ≡ replacements o.replaces) number
      (subst (λ (p : ℕ). next_tokens o.new.order (outstanding terms p h) ≡ replacements o.replaces) on
      (next-own terms o (outstanding terms (port_of terms o.new) h) fits.asked_so));
}

-- a new order is found by its own number
pub number-of : (k : List ℕ) (entries : List Entry) (new : Entry) → new_of k entries ≡ Some new → new.order ≡ k
number-of k entries new found =
    let both : (bytes_eq new.order k && is_new_order new.message) ≡ true =
    found-passes (λ (y : Entry). bytes_eq y.order k && is_new_order y.message) entries new found in
    eq-is new.order k (and-parts (bytes_eq new.order k) (is_new_order new.message) both).0

pub known : (terms : List Terms) (h : OrderHistory) (port : ℕ) (k : List ℕ) (new : Entry) → Holds terms h
    → new_of k (accepted terms h) ≡ Some new → port_of terms new ≡ port → Known terms h port k
known terms h port k new holds found on =
    let r = record-of terms h k (accepted terms h) new holds.records found in
    of-record terms h port k r.order r.fits (ap (λ (e : Entry). e.order) r.same
    ∙ number-of k (accepted terms h) new found) (ap (port_of terms) r.same ∙ on)

-- what is said of each replace's token is said of any token of them
next-holds : (rs : List Entry) (Q : List ℕ → Type 0) (u : List ℕ) → Each (λ (q : Entry). Q (token_of q)) rs
    → list_any (bytes_eq u) (replacements rs) ≡ true → Q u
next-holds [] Q u each e = absurd (cc)
next-holds (q ∷ rs) Q u each e = by_test (bytes_eq u (token_of q)) refl e (λ f. next-holds rs Q u each.1 f)
  where
    by_test : (b : Bool) → bytes_eq u (token_of q) ≡ b → (b || list_any (bytes_eq u) (replacements rs)) ≡ true
        → (list_any (bytes_eq u) (replacements rs) ≡ true → Q u) → Q u
    by_test true same e later = subst Q (sym (eq-is u (token_of q) same)) each.0
    by_test false other e later = later e

module _ (terms : List Terms) (h : OrderHistory) (port : ℕ) (k : List ℕ) (x : Known terms h port k) where
  -- the tokens of its pending replaces
  pub pending-so : pending_tokens x.order.new.client (chain x.order.new.order (issued x.order.new.client h))
      (accepted terms h) ≡ replacements x.order.replaces
  pending-so =
      ap (λ (c : Chain). pending_tokens x.order.new.client c (accepted terms h)) x.fits.reads.chained_so
      ∙ tokens-are terms (accepted terms h) (orders_numbered h) (issued x.order.new.client h)
      (handled (port_of terms x.order.new) h) (outstanding terms (port_of terms x.order.new) h) (reports_in h)
      (1_000_000 * length h) x.order x.fits

  -- a token of its own leads to it on the port
  pub home-leads : (token : List ℕ) → IsHome terms (accepted terms h) x.order.new token
      → order_of_token terms port (accepted terms h) token ≡ Some x.order.new
  home-leads token home = subst (λ (p : ℕ). order_of_token terms p (accepted terms h) token ≡ Some x.order.new)
      x.on_port home.mine

  -- and so does each token of a pending replace
  pub next-leads : (token : List ℕ) → list_any (bytes_eq token) (replacements x.order.replaces) ≡ true
      → order_of_token terms port (accepted terms h) token ≡ Some x.order.new
  next-leads token e =
      home-leads token (next-holds x.order.replaces (IsHome terms (accepted terms h) x.order.new) token
      (Each-map _ (λ (q : Entry). IsHome terms (accepted terms h) x.order.new (token_of q)) x.order.replaces
      (λ q holds. holds.0) x.fits.holds.replaces) e)

-- ---- what is asked for an order

-- a replace that asks for a token is asked for an order
pub record IsAskedFor (k to : List ℕ) (asked : List Asked) : Type 0 where
  pub asks : Asked
  pub there : IsIn asks asked
  pub order_is : asks.order ≡ k
  pub from : List ℕ
  pub says : asks.said ≡ SaysReplace from to

-- each token that is asked for is asked for by one
pub asked-for : (k to : List ℕ) (asked : List Asked) → list_any (bytes_eq to) (next_tokens k asked) ≡ true
    → IsAskedFor k to asked
asked-for k to [] e = absurd (cc)
asked-for k to (b ∷ asked) e = by_said b.said refl (bytes_eq b.order k) refl e (λ f. behind (asked-for k to asked f))
  where
    behind : IsAskedFor k to asked → IsAskedFor k to (b ∷ asked)
    behind f = record { asks = f.asks; there = inr f.there; order_is = f.order_is; from = f.from; says = f.says }

    rest : List Asked
    rest = asked_of is_replace_said k asked

    by_said : (s : Said) → b.said ≡ s → (mine : Bool) → bytes_eq b.order k ≡ mine
        → list_any (bytes_eq to) (filter_map (λ (a : Asked). replacement_of a.said)
        (if mine && is_replace_said s then b ∷ rest else rest)) ≡ true
        → (list_any (bytes_eq to) (next_tokens k asked) ≡ true → IsAskedFor k to (b ∷ asked))
        → IsAskedFor k to (b ∷ asked)
    by_said s is false mine e later = later e
    by_said (SaysNew t) is true mine e later = later e
    by_said (SaysCancel t) is true mine e later = later e
    by_said (SaysReplace x y) is true mine e later = by_token (bytes_eq to y) refl (rw is at e)
      where
        by_token : (c : Bool) → bytes_eq to y ≡ c → (c || list_any (bytes_eq to) (next_tokens k asked)) ≡ true
            → IsAskedFor k to (b ∷ asked)
        by_token true same f = record {
          asks = b;
          there = inl refl;
          order_is = eq-is b.order k mine;
          from = x;
          says = is
              ∙ ap (SaysReplace x) (sym (eq-is to y same));
        }
        by_token false other f = later f

-- the token of a replace that is there is among those of the replaces
in-tokens : (a : Asked) (to : List ℕ) (xs : List Asked) → replacement_of a.said ≡ Some to → IsIn a xs
    → list_any (bytes_eq to) (filter_map (λ (b : Asked). replacement_of b.said) xs) ≡ true
in-tokens a to [] e i = absurd i
in-tokens a to (x ∷ xs) e i = by_token (replacement_of x.said) refl i (λ k. in-tokens a to xs e k)
  where
    by_token : (o : Option (List ℕ)) → replacement_of x.said ≡ o → IsIn a (x ∷ xs)
        → (IsIn a xs → list_any (bytes_eq to) (filter_map (λ (b : Asked). replacement_of b.said) xs) ≡ true)
        → list_any (bytes_eq to) (filter_map (λ (b : Asked). replacement_of b.said) (x ∷ xs)) ≡ true
    by_token None f i later = rw f (⊎_elim (λ h. absurd
        (let g : ◌≡◌ {A = Option (List ℕ)} None (Some to) = sym f ∙ ap (λ (y : Asked). replacement_of y.said) h ∙ e in
        cc)) later i)
    by_token (Some u) f i later = rw f (⊎_elim
        (λ h. same (let g : Some u ≡ Some to = sym f ∙ ap (λ (y : Asked). replacement_of y.said) h ∙ e in cc))
        (λ k. or-right (bytes_eq to u) _ (later k)) i)
      where
        same : u ≡ to → list_any (bytes_eq to) (u ∷ filter_map (λ (b : Asked). replacement_of b.said) xs) ≡ true
        same h = let q : bytes_eq to u ≡ true = rw h (eq-same to) in rw q refl

pub in-next : (k : List ℕ) (asked : List Asked) (a : Asked) (from to : List ℕ) → IsIn a asked → a.order ≡ k
    → a.said ≡ SaysReplace from to → list_any (bytes_eq to) (next_tokens k asked) ≡ true
in-next k asked a from to i mine is =
    let here : bytes_eq a.order k ≡ true = eq-true a.order k mine in
    let there = in-filter (λ (b : Asked). bytes_eq b.order k && is_replace_said b.said) a asked (rw (here, is) refl) i
    in
    in-tokens a to (asked_of is_replace_said k asked) (ap replacement_of is) there

-- where some of those from a token on pass, the token is among them
pub from-among : (p : List ℕ → Bool) (u : List ℕ) (ts : List (List ℕ)) → list_any p (from_token u ts) ≡ true
    → list_any (bytes_eq u) ts ≡ true
from-among p u [] e = absurd (cc)
from-among p u (t ∷ ts) e = by_test (bytes_eq u t) e (λ f. from-among p u ts f)
  where
    by_test : (b : Bool) → list_any p (if b then t ∷ ts else from_token u ts) ≡ true
        → (list_any p (from_token u ts) ≡ true → list_any (bytes_eq u) ts ≡ true)
        → (b || list_any (bytes_eq u) ts) ≡ true
    by_test true e later = refl
    by_test false e later = later e

-- ---- the place of a replace among those of its order

-- it is the oldest, and goes from where they begin; or it goes from the token of an earlier one
abbrev pub IsPlacedBy : List ℕ → List Entry → List ℕ → List ℕ → Type 0
IsPlacedBy start qs from to = ((is_first to (replacements qs) ≡ true) × (from ≡ start)) ⊎
    (list_any (bytes_eq from) (replacements qs) ≡ true)

same-from : (from to x y : List ℕ) → SaysReplace from to ≡ SaysReplace x y → (from ≡ x) × (to ≡ y)
same-from from to x y e = (cc, cc)

placed-by : (new : Entry) (start : List ℕ) (qs : List Entry) (a : Asked) (from to : List ℕ)
    → a.said ≡ SaysReplace from to → IsIn a (replaces_asked new start qs) → IsPlacedBy start qs from to
placed-by new start [] a from to is i = absurd i
placed-by new start (q ∷ qs) a from to is i = ⊎_elim first (λ k. later (placed-by new (token_of q) qs a from to is k)) i
  where
    first : asked_replace new start q ≡ a → IsPlacedBy start (q ∷ qs) from to
    first h =
        let same = same-from start (token_of q) from to (ap (λ (b : Asked). b.said) h ∙ is) in
        inl (eq-true to (token_of q) (sym same.1), sym same.0)

    later : IsPlacedBy (token_of q) qs from to → IsPlacedBy start (q ∷ qs) from to
    later (inl k) = let here : bytes_eq from (token_of q) ≡ true = eq-true from (token_of q) k.1 in inr (rw here refl)
    later (inr k) = inr (or-right (bytes_eq from (token_of q)) _ k)

-- among all that is asked of its order, it is among the replaces
asked-replace : (terms : List Terms) (o : OrderRecord) (a : Asked) (from to : List ℕ) → a.said ≡ SaysReplace from to
    → IsIn a (asked_as terms o) → IsIn a (replaces_asked o.new (live_token o) o.replaces)
asked-replace terms o a from to is i = ⊎_elim (λ k. absurd (not_new o.stage k))
    (λ k. ⊎_elim (λ m. m) (λ m. absurd (not_cancel o.cancel m))
    (in-parts a (replaces_asked o.new (live_token o) o.replaces) (cancel_asked o.new o.cancel) k))
    (in-parts a (new_asked terms o.new o.stage) _ i)
  where
    not_new : (s : Stage) → IsIn a (new_asked terms o.new s) → ⊥
    not_new Waiting k = ⊎_elim (λ h. (let g : SaysNew (token_of o.new) ≡ SaysReplace from to =
        ap (λ (b : Asked). b.said) h ∙ is in cc)) (λ n. n) k
    not_new Working k = k
    not_new Closed k = k

    not_cancels : (q : Entry) (tokens : List (List ℕ)) → IsIn a (map (λ token. asked_cancel o.new q token) tokens) → ⊥
    not_cancels q [] k = k
    not_cancels q (t ∷ ts) k = ⊎_elim (λ h. (let g : SaysCancel t ≡ SaysReplace from to = ap (λ (b : Asked). b.said) h
        ∙ is in cc)) (λ n. not_cancels q ts n) k

    not_cancel : (c : Option Cancelling) → IsIn a (cancel_asked o.new c) → ⊥
    not_cancel None k = k
    not_cancel (Some c) k = not_cancels c.request c.tokens k

-- the place of a replace that is outstanding
pub place-of : (terms : List Terms) (h : OrderHistory) (port : ℕ) (a : Asked) (x : Known terms h port a.order)
    (from to : List ℕ) → a.said ≡ SaysReplace from to → IsIn a (outstanding terms port h)
    → IsPlacedBy (live_token x.order) x.order.replaces from to
place-of terms h port a x from to is i =
    let mine = in-filter (λ (b : Asked). bytes_eq b.order a.order) a (outstanding terms port h) (eq-same a.order) i in
    placed-by x.order.new (live_token x.order) x.order.replaces a from to is
    (asked-replace terms x.order a from to is (subst (IsIn a) x.asked_so mine))
