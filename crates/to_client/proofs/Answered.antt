-- An order whose pending requests are answered, as it is shown.
use Rattle.std.proofs.Common.{◌≡◌, ℕ, Bool, true, false, List, [], ◌∷◌, ◌++◌, map, refl, subst, sym, ap, ◌∙◌, codes}
use Rattle.std.specs.Prelude.{Option, Some, None, IfSome, filter, if◌then◌else◌, option_to_list}
use Rattle.std.specs.List.{find, list_any}
use Rattle.std.proofs.lemmas.List.{append_assoc, map-append}
use Rattle.orders.specs.fix_types.declared.application.AppBody.{AppBody}
use Rattle.orders.specs.fix_types.declared.application.AppBody.TheVariants as bodies
use Rattle.orders.specs.fix_types.declared.cancel_reject.CancelReject.{CancelReject}
use Rattle.orders.specs.fix_types.CancelReject.{cancel_reject_fields}
use Rattle.orders.specs.fix_types.Application.{body_fields}
use Rattle.order_law.specs.fix_fields.Field.{Message}
use Rattle.order_law.specs.History.{Entry}
use Rattle.order_law.specs.Headline.{Each}
use Rattle.order_law.specs.Verdicts.{is_replace}
use Rattle.order_law.specs.Told as law
use Rattle.to_client.specs.declared.pending.Pending.{Pending}
use Rattle.to_client.specs.declared.shown.Request.{Request}
use Rattle.to_client.specs.declared.shown.Shown.{Shown}
use Rattle.to_client.specs.Pending.{IsPending, each_rejected, rejects_of, without_replaces}
use Rattle.to_client.specs.Shows.{IsAnyRequest, IsRequest, ShowsAny, ShowsAs}

abbrev pub AreReplaces : List Entry → Type 0
AreReplaces rs = Each (λ (q : Entry). is_replace q.message ≡ true) rs

abbrev pub IsCancel : Option Entry → Type 0
IsCancel c = IfSome c (λ (q : Entry). is_replace q.message ≡ false)

abbrev pub of_replaces : List Entry → Bool
of_replaces qs = list_any (λ (q : Entry). is_replace q.message) qs

append-nothing : (qs : List Entry) → qs ++ [] ≡ qs
append-nothing [] = refl
append-nothing (q ∷ qs) = ap (λ (ps : List Entry). q ∷ ps) (append-nothing qs)

-- ---- the lists of them

-- cancels among requests behind replaces are those behind them
any-cancel : (rs later : List Entry) → AreReplaces rs
    → list_any law.is_cancel (rs ++ later) ≡ list_any law.is_cancel later
any-cancel [] later are = refl
any-cancel (q ∷ rs) later are = rw are.0 (any-cancel rs later are.1)

no-cancel : (rs : List Entry) → AreReplaces rs → list_any law.is_cancel rs ≡ false
no-cancel [] are = refl
no-cancel (q ∷ rs) are = rw are.0 (no-cancel rs are.1)

none-of_replace : (c : Option Entry) → IsCancel c → of_replaces (option_to_list c) ≡ false
none-of_replace None is = refl
none-of_replace (Some q) is = rw is refl

any-of_replace : (rs : List Entry) (c : Option Entry) → AreReplaces rs → IsCancel c
    → of_replaces (rs ++ option_to_list c) ≡ of_replaces rs
any-of_replace [] c are is = none-of_replace c is
any-of_replace (q ∷ rs) c are is = rw are.0 refl

filter-replaces : (rs : List Entry) (c : Option Entry) → AreReplaces rs → IsCancel c
    → filter (λ (q : Entry). is_replace q.message) (rs ++ option_to_list c) ≡ rs
filter-replaces [] None are is = refl
filter-replaces [] (Some q) are is = rw is refl
filter-replaces (q ∷ rs) c are is = rw are.0 (ap (λ (qs : List Entry). q ∷ qs) (filter-replaces rs c are.1 is))

pub filter-cancel : (rs : List Entry) (c : Option Entry) → AreReplaces rs → IsCancel c
    → filter law.is_cancel (rs ++ option_to_list c) ≡ option_to_list c
filter-cancel [] None are is = refl
filter-cancel [] (Some q) are is = rw is refl
filter-cancel (q ∷ rs) c are is = rw are.0 (filter-cancel rs c are.1 is)

find-cancel : (rs : List Entry) (c : Option Entry) → AreReplaces rs → IsCancel c
    → find law.is_cancel (rs ++ option_to_list c) ≡ c
find-cancel [] None are is = refl
find-cancel [] (Some q) are is = rw is refl
find-cancel (q ∷ rs) c are is = rw are.0 (find-cancel rs c are.1 is)

-- ---- an order shown with other requests pending

-- it is shown so, where its two marks are those of these requests
shown-with : (x : Shown) (s : law.Shown) (qs ps : List Entry) (cancel replace : Bool)
    → ShowsAs x (record s { pending = qs }) → list_any law.is_cancel ps ≡ cancel → of_replaces ps ≡ replace
    → ShowsAs (record x { has_pending_cancel = cancel; has_pending_replace = replace }) (record s { pending = ps })
shown-with x s qs ps cancel replace shows is_cancel is_replace_so = record {
  order = shows.order;
  id = shows.id;
  symbol = shows.symbol;
  side = shows.side;
  total = shows.total;
  price = shows.price;
  leaves = shows.leaves;
  executed = shows.executed;
  value = shows.value;
  stage = shows.stage;
  is_refused = shows.is_refused;
  cancel = is_cancel;
  replace = is_replace_so;
}

-- with these replaces before what is pending
pub before-shows : (x : Shown) (s : law.Shown) (qs later : List Entry) (some : Bool) → AreReplaces qs
    → of_replaces qs ≡ some → ShowsAs (without_replaces x) (record s { pending = later })
    → ShowsAs (record x { has_pending_replace = some }) (record s { pending = qs ++ later })
before-shows x s qs later some are is_some shows =
    shown-with (without_replaces x) s later (qs ++ later) x.has_pending_cancel some shows
    (any-cancel qs later are ∙ shows.cancel) (any-replaces qs are ∙ is_some)
  where
    any-replaces : (qs : List Entry) → AreReplaces qs → of_replaces (qs ++ later) ≡ of_replaces qs
    any-replaces [] are = shows.replace
    any-replaces (q ∷ qs) are = rw are.0 refl

-- where a test holds
taken : (b : Bool) → b ≡ true → (xs ys : List Message) → xs ≡ ys → (if b then xs else []) ≡ ys
taken true e xs ys same = same
taken false e xs ys same = absurd (cc)

-- ---- as the order is shown

module _ (x : Shown) (pending : Pending) (replaces : List Entry) (cancel : Option Entry) (s : law.Shown) (shows : ShowsAs x s) (is : IsPending pending replaces cancel s) where
  -- without replaces
  pub rest-shows : ShowsAs (without_replaces x) (record s { pending = option_to_list cancel })
  rest-shows = shown-with x s s.pending (option_to_list cancel) x.has_pending_cancel false shows
      (sym (any-cancel replaces (option_to_list cancel) is.are_replaces) ∙ ap (list_any law.is_cancel) (sym is.in_order)
      ∙ shows.cancel) (none-of_replace cancel is.is_cancel_set)

  -- without any
  pub last-shows : ShowsAs (record x { has_pending_replace = false; has_pending_cancel = false })
      (record s { pending = [] })
  last-shows = shown-with x s s.pending [] false false shows refl refl

  kept : filter (λ (q : Entry). is_replace q.message) s.pending ≡ replaces
  kept = ap (filter (λ (q : Entry). is_replace q.message)) is.in_order
      ∙ filter-replaces replaces cancel is.are_replaces is.is_cancel_set

  -- without the cancel
  pub without_cancel-shows : ShowsAs (record x { has_pending_cancel = false }) (law.without_cancel s)
  without_cancel-shows = shown-with x s s.pending (law.without_cancel s).pending false x.has_pending_replace shows
      (ap (list_any law.is_cancel) kept ∙ no-cancel replaces is.are_replaces)
      (ap of_replaces kept ∙ sym (any-of_replace replaces cancel is.are_replaces is.is_cancel_set)
      ∙ ap of_replaces (sym is.in_order) ∙ shows.replace)

  -- ---- what is told

  pub too_late-parts : law.too_late s ≡ each_rejected s replaces (option_to_list cancel) 0 (codes "too late") (codes "too late") ++ rejects_of (record s { pending = [] }) cancel 0 (codes "too late")
  too_late-parts = ap (law.each_too_late s) is.in_order ∙ each replaces
    where
      last : (c : Option Entry) → law.each_too_late s (option_to_list c) ≡ rejects_of (record s { pending = [] }) c 0 (codes "too late")
      last None = refl
      last (Some q) = refl

      each : (rs : List Entry) → law.each_too_late s (rs ++ option_to_list cancel) ≡ each_rejected s rs (option_to_list cancel) 0 (codes "too late") (codes "too late") ++ rejects_of (record s { pending = [] }) cancel 0 (codes "too late")
      each [] = last cancel
      each (q ∷ rs) = ap (λ (ms : List Message). law.answered_no (record s { pending = rs ++ option_to_list cancel }) q 0 (codes "too late") ∷ ms) (each rs)

  -- a shown order's own pending requests don't count in what each is told
  pub replaces_too_late : law.too_late (law.without_cancel s) ≡ each_rejected s replaces [] 0 (codes "too late") (codes "too late")
  replaces_too_late = ap (law.each_too_late (law.without_cancel s)) kept ∙ each replaces
    where
      each : (rs : List Entry) → law.each_too_late (law.without_cancel s) rs ≡ each_rejected s rs [] 0 (codes "too late") (codes "too late")
      each [] = refl
      each (q ∷ rs) =
          ap (λ (ps : List Entry). law.answered_no (record s { pending = ps }) q 0 (codes "too late") ∷ law.each_too_late (law.without_cancel s) rs) (sym (append-nothing rs))
          ∙ ap (λ (ms : List Message). law.answered_no (record s { pending = rs ++ [] }) q 0 (codes "too late") ∷ ms) (each rs)

  pub not_replaced-each : (why : List ℕ) → law.each_not_replaced why s s.pending ≡ each_rejected s replaces (option_to_list cancel) 2 why (codes "earlier replace rejected")
  not_replaced-each why = ap (law.each_not_replaced why s) is.in_order ∙ each replaces is.are_replaces why
    where
      last : (c : Option Entry) → IsCancel c → (why : List ℕ) → law.each_not_replaced why s (option_to_list c) ≡ []
      last None is why = refl
      last (Some q) is why = rw is refl

      each : (rs : List Entry) → AreReplaces rs → (why : List ℕ) → law.each_not_replaced why s (rs ++ option_to_list cancel) ≡ each_rejected s rs (option_to_list cancel) 2 why (codes "earlier replace rejected")
      each [] are why = last cancel is.is_cancel_set why
      each (q ∷ rs) are why = taken (is_replace q.message) are.0 _ _ (ap (λ (ms : List Message). law.answered_no (record s { pending = rs ++ option_to_list cancel }) q 2 why ∷ ms) (each rs are.1 (codes "earlier replace rejected")))

  pub found_cancel : find law.is_cancel s.pending ≡ cancel
  found_cancel = ap (find law.is_cancel) is.in_order ∙ find-cancel replaces cancel is.are_replaces is.is_cancel_set

  no : (c : Option Entry) → map (λ (q : Entry). law.answered_no (law.without_cancel s) q 2 (codes "cancel rejected by market")) (option_to_list c) ≡ rejects_of (law.without_cancel s) c 2 (codes "cancel rejected by market")
  no None = refl
  no (Some q) = refl

  pub rejected : law.cancel_rejected true s ≡ rejects_of (law.without_cancel s) cancel 2 (codes "cancel rejected by market")
  rejected =
      ap (map (λ (q : Entry). law.answered_no (law.without_cancel s) q 2 (codes "cancel rejected by market"))) (ap (filter law.is_cancel) is.in_order ∙ filter-cancel replaces cancel is.are_replaces is.is_cancel_set)
      ∙ no cancel

-- ---- bodies

pub pushed : (bs : List AppBody) (b : AppBody) (cs : List AppBody) → cs ≡ bs ++ b ∷ []
    → map body_fields cs ≡ map body_fields bs ++ body_fields b ∷ []
pushed bs b cs e = ap (map body_fields) e ∙ map-append body_fields bs (b ∷ [])

-- behind two groups of bodies
pub behind : (old first second third : List Message) (xs ys : List Message) → second ≡ old ++ xs → third ≡ second ++ ys
    → third ≡ old ++ (xs ++ ys)
behind old first second third xs ys e f = f ∙ ap (λ ms. ms ++ ys) e ∙ append_assoc old xs ys

-- a reject behind them
pub pushed-reject : (request : Option Request) (r : Request) → request ≡ Some r
    → (q : Option Entry) (s : law.Shown) (x : Shown) (reject : CancelReject) (code : ℕ) (text why : List ℕ) → text ≡ why
    → (bs cs : List AppBody)
    → IsAnyRequest request q → ShowsAs x s
    → ((m : Message) (shown : Option law.Shown) → IsRequest r m → ShowsAny (Some x) shown
    → cancel_reject_fields reject ∷ [] ≡ law.refused_request m shown code text)
    → cs ≡ bs ++ bodies.CancelReject reject ∷ [] → map body_fields cs ≡ map body_fields bs ++ rejects_of s q code why
pushed-reject request r is q s x reject code text why same bs cs asks shows told e =
    by_entry q (subst (λ (any : Option Request). IsAnyRequest any q) is asks)
  where
    by_entry : (q : Option Entry) → IsAnyRequest (Some r) q
        → map body_fields cs ≡ map body_fields bs ++ rejects_of s q code why
    by_entry None asks = absurd asks
    by_entry (Some entry) asks =
        pushed bs (bodies.CancelReject reject) cs e
        ∙ ap (λ (ms : List Message). map body_fields bs ++ ms) (told entry.message (Some s) asks shows)
        ∙ ap (λ (t : List ℕ). map body_fields bs ++ rejects_of s (Some entry) code t) same

-- the report of a cancel, and what is too late
pub cancelled-is : (x : Shown) (pending : Pending) (replaces : List Entry) (cancel : Option Entry) (s : law.Shown)
    → ShowsAs x s → IsPending pending replaces cancel s → (number : ℕ) (why : Option (List ℕ)) (m : Message)
    → m ≡ law.report number (record (law.plain (codes "4")) { request = cancel; why = why }) (law.without_cancel s)
    → m ∷ each_rejected s replaces [] 0 (codes "too late") (codes "too late") ≡ law.cancelled number why s
cancelled-is x pending replaces cancel s shows is number why m told =
    ap (λ (f : Message). f ∷ each_rejected s replaces [] 0 (codes "too late") (codes "too late"))
    (told ∙ ap (λ (q : Option Entry). law.report number (record (law.plain (codes "4")) { request = q; why = why }) (law.without_cancel s)) (sym (found_cancel x pending replaces cancel s shows is)))
    ∙ ap (λ (ms : List Message). law.report number (record (law.plain (codes "4")) { request = find law.is_cancel s.pending; why = why }) (law.without_cancel s) ∷ ms) (sym (replaces_too_late x pending replaces cancel s shows is))
