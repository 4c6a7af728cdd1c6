-- Lists that go in step: what is asked, and what is kept.
use Rattle.std.proofs.Common.{◌≡◌, ℕ, Bool, true, false, List, [], ◌∷◌, ◌++◌, map, refl, sym, ap, ◌∙◌, subst, bytes_eq}
use Rattle.std.specs.Prelude.{◌==◌, ◌&&◌, ◌||◌, not, filter, Option, if◌then◌else◌}
use Rattle.order_law.specs.ouch_codec.declared.inbound.Inbound.{Inbound}
use Rattle.order_law.specs.ouch_codec.Inbound.{inbound_bytes}
use Rattle.order_law.specs.Asks.{Standing}
use Rattle.order_law.specs.ouch_codec.declared.outbound.Outbound.{Outbound}
use Rattle.order_law.specs.Life.{is_closed}
use Rattle.order_law.specs.History.{Asked, Said, answers}
use Rattle.order_law.specs.Headline.{Each, EachWith, Says}
use Rattle.order_machine.specs.OrderRecord.{OrderRecord}
use Rattle.order_machine.specs.Outstanding.{OnPort, asked_on, is_answered, is_on}
use Rattle.outstanding.specs.Kept.{KeptMessage, is_answered_by, is_kept_on, kept_from}
use Rattle.outstanding.specs.Keeping.{AnsweringKeeps, AreKept, IsKept, PortsAreSaid, PushingKeeps, SaysAsked, SaysBy}
use Rattle.outstanding.specs.Keeping.{StandingsMayGrow, always}
use Rattle.outstanding.proofs.Orders.{says-found}
use Rattle.outstanding.proofs.Saying.{said_in-is}
use Rattle.order_machine.specs.Runs.{Finds}

-- ---- in step

pub step-append : {X Y : Type 0} (P : X → Y → Type 0) (xs : List X) (ys : List Y) (more : List X) (others : List Y)
    → EachWith P xs ys → EachWith P more others → EachWith P (xs ++ more) (ys ++ others)
step-append P [] [] more others along behind = behind
step-append P [] (y ∷ ys) more others along behind = absurd along
step-append P (x ∷ xs) [] more others along behind = absurd along
step-append P (x ∷ xs) (y ∷ ys) more others along behind = (along.0, step-append P xs ys more others along.1 behind)

both-pass : {X Y : Type 0} (P : X → Y → Type 0) (x : X) (y : Y) (xs : List X) (ys : List Y) → P x y → EachWith P xs ys
    → (b c : Bool) → b ≡ c
    → EachWith P (if b then x ∷ xs else xs) (if c then y ∷ ys else ys)
both-pass P x y xs ys one rest true true e = (one, rest)
both-pass P x y xs ys one rest true false e = absurd (cc)
both-pass P x y xs ys one rest false true e = absurd (cc)
both-pass P x y xs ys one rest false false e = rest

-- tests that agree on both sides leave both in step
pub step-filter : {X Y : Type 0} (P : X → Y → Type 0) (p : X → Bool) (q : Y → Bool)
    → ((x : X) (y : Y) → P x y → p x ≡ q y)
    → (xs : List X) (ys : List Y) → EachWith P xs ys → EachWith P (filter p xs) (filter q ys)
step-filter P p q agree [] [] along = tt
step-filter P p q agree [] (y ∷ ys) along = absurd along
step-filter P p q agree (x ∷ xs) [] along = absurd along
step-filter P p q agree (x ∷ xs) (y ∷ ys) along =
    both-pass P x y (filter p xs) (filter q ys) along.0 (step-filter P p q agree xs ys along.1) (p x) (q y)
    (agree x y along.0)

-- ---- laws

is_kept-more : (standing_of : List ℕ → Standing) (port : ℕ) (order : List ℕ) (a : Asked) (message : Inbound)
    → a.order ≡ order → SaysAsked standing_of a (inbound_bytes message)
    → IsKept standing_of (record { port = port; asked = a })
    (record { port = port; order = order; bytes = inbound_bytes message })
is_kept-more standing_of port order a message e says = record { port = refl; order = e; says = says }

newly-kept : (standing_of : List ℕ → Standing) (port : ℕ) (order : List ℕ) (asks : List Asked) (messages : List Inbound)
    → Each (λ (a : Asked). a.order ≡ order) asks → EachWith (SaysAsked standing_of) asks (map inbound_bytes messages)
    → AreKept standing_of (asked_on port asks) (kept_from port order messages)
newly-kept standing_of port order [] [] of_order says = tt
newly-kept standing_of port order [] (m ∷ messages) of_order says = absurd says
newly-kept standing_of port order (a ∷ asks) [] of_order says = absurd says
newly-kept standing_of port order (a ∷ asks) (m ∷ messages) of_order says = (
  is_kept-more standing_of port order a m of_order.0 says.0,
  newly-kept standing_of port order asks messages
      of_order.1 says.1,
)

pub pushing-keeps : PushingKeeps
pushing-keeps standing_of asked kept along port order asks messages of_order says =
    step-append (IsKept standing_of) asked kept (asked_on port asks) (kept_from port order messages) along
    (newly-kept standing_of port order asks messages of_order says)

-- a message is answered where what it asks is
answered-alike : (standing_of : List ℕ → Standing) (port : ℕ) (m : Outbound) (next : List (List ℕ)) (o : OrderRecord)
    (q : OnPort) (k : KeptMessage) → IsKept standing_of q k
    → not (is_answered port m next o q) ≡ not (is_answered_by port m next o.new.order (is_closed o.stage) k)
answered-alike standing_of port m next o q k keeps =
    ap (λ (n : ℕ). not (n == port && (bytes_eq q.asked.order o.new.order
    && (answers m next q.asked.said || is_closed o.stage)))) keeps.port
    ∙ ap (λ (order : List ℕ). not (k.port == port
    && (bytes_eq order o.new.order && (answers m next q.asked.said || is_closed o.stage)))) keeps.order
    ∙ ap (λ (s : Said). not (k.port == port &&
    (bytes_eq k.order o.new.order && (answers m next s || is_closed o.stage))))
    (sym (said_in-is q.asked.said k.bytes keeps.says.tokens))

pub answering-keeps : AnsweringKeeps
answering-keeps standing_of asked kept along port m next o =
    step-filter (IsKept standing_of) (λ (q : OnPort). not (is_answered port m next o q))
    (λ (k : KeptMessage). not (is_answered_by port m next o.new.order (is_closed o.stage) k))
    (answered-alike standing_of port m next o) asked kept along

-- what a port is asked, and its own messages
said-along : (standing_of : List ℕ → Standing) (order_of : List ℕ → Option ℕ) (asked : List OnPort)
    (kept : List KeptMessage) → AreKept standing_of asked kept
    → Each (Finds order_of) (map (λ (q : OnPort). q.asked) asked)
    → EachWith (SaysBy standing_of order_of) (map (λ (q : OnPort). q.asked) asked)
    (map (λ (k : KeptMessage). k.bytes) kept)
said-along standing_of order_of [] [] along finds = tt
said-along standing_of order_of [] (k ∷ kept) along finds = absurd along
said-along standing_of order_of (q ∷ asked) [] along finds = absurd along
said-along standing_of order_of (q ∷ asked) (k ∷ kept) along finds = (
  says-found (standing_of q.asked.order) order_of q.asked k.bytes finds.0 along.0.says,
  said-along standing_of
      order_of asked kept along.1 finds.1,
)

port-alike : (standing_of : List ℕ → Standing) (port : ℕ) (q : OnPort) (k : KeptMessage) → IsKept standing_of q k
    → is_on port q ≡ is_kept_on port k
port-alike standing_of port q k keeps = ap (λ (n : ℕ). n == port) keeps.port

pub ports-are-said : PortsAreSaid
ports-are-said standing_of asked kept along port order_of finds =
    said-along standing_of order_of (filter (is_on port) asked) (filter (is_kept_on port) kept)
    (step-filter (IsKept standing_of) (is_on port) (is_kept_on port) (port-alike standing_of port) asked kept along)
    finds

kept-later : (earlier later : List ℕ → Standing) (q : OnPort) (k : KeptMessage) → IsKept earlier q k
    → later q.asked.order ≡ earlier q.asked.order → IsKept later q k
kept-later earlier later q k keeps e = record {
  port = keeps.port;
  order = keeps.order;
  says = subst (λ (s : Standing). Says s (always q.asked.order) q.asked k.bytes) (sym e) keeps.says;
}

pub standings-grow : StandingsMayGrow
standings-grow earlier later [] [] along alike = tt
standings-grow earlier later [] (k ∷ kept) along alike = absurd along
standings-grow earlier later (q ∷ asked) [] along alike = absurd along
standings-grow earlier later (q ∷ asked) (k ∷ kept) along alike =
    (kept-later earlier later q k along.0 alike.0, standings-grow earlier later asked kept along.1 alike.1)
