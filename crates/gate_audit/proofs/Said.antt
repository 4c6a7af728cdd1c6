-- What the batches told, all clients together, is what the order level's turns told: of every history whose batches are
-- those that are
-- given.
use Rattle.std.proofs.Common.{◌≡◌, ◌==◌, ℕ, Bool, true, false, List, [], ◌∷◌, ◌++◌, Option, Some, None, refl, ap, sym}
use Rattle.std.proofs.Common.{◌∙◌, map, reverse, eqb-true, eq-eqb}
use Rattle.std.specs.Prelude.{if◌then◌else◌}
use Rattle.std.proofs.lemmas.List.{append_cancel_right, reverse-reverse}
use Rattle.gate_law.specs.fix_fields.Field.{Message}
use Rattle.order_law.specs.History as orders
use Rattle.gate_law.specs.Settings.{Settings}
use Rattle.gate_law.specs.Events.{Batch, History, is_the_number}
use Rattle.gate_law.specs.Lists.{Lists, turned}
use Rattle.gate_law.specs.Outcome.{Outcome, bodies, outcome}
use Rattle.gate_law.specs.After.{lists_after, is_within_day, lists, order_turns}
use Rattle.gate_law.specs.Due.{Gives}
use Rattle.gate_law.specs.Holds.{IsRun, OfTurn, told_by_batches}
use Rattle.gate_law.proofs.Telling.{runs-tell, turns-after}
use Rattle.gate_audit.specs.Pairs.{SaidToClient, said_to_clients, said_to, told_anyone}

-- what turns told, the newest first
abbrev pub said_turns : orders.OrderHistory → List SaidToClient
said_turns [] = []
said_turns (t ∷ before) = reverse (map (said_to t.client) t.bodies) ++ said_turns before

-- what a client was told with one list of bodies more
abbrev told_more : Bool → List Message → List Message → List Message
told_more is_for more before = if is_for then reverse more ++ before else before

reverse-empty : {X : Type 0} (xs : List X) → reverse xs ≡ [] → xs ≡ []
reverse-empty xs e = sym (reverse-reverse xs) ∙ ap reverse e

none-added : {X : Type 0} (xs ys : List X) → reverse xs ++ ys ≡ ys → xs ≡ []
none-added xs ys e = reverse-empty xs (append_cancel_right (reverse xs) [] ys e)

same-added : {X : Type 0} (xs ys zs : List X) → reverse xs ++ zs ≡ reverse ys ++ zs → xs ≡ ys
same-added xs ys zs e = sym (reverse-reverse xs) ∙ ap reverse (append_cancel_right (reverse xs) (reverse ys) zs e)
    ∙ reverse-reverse ys

-- A turn that tells each client what a batch of one client told it has that client and these bodies, or both tell
-- nobody anything.
module _ (bs : List Message) (v : Lists) where
  abbrev Told : Option ℕ → Option orders.OrderTurn → Type 0
  Told client turn = (c : ℕ) → told_more (is_the_number c client) bs (orders.issued c v.turns)
      ≡ orders.issued c (turned turn v).turns

  abbrev Same : Option ℕ → Option orders.OrderTurn → Type 0
  Same client turn = reverse (told_anyone client bs) ++ said_turns v.turns ≡ said_turns (turned turn v).turns

  said-nothing : (n : ℕ) → bs ≡ [] → reverse (map (said_to n) bs) ++ said_turns v.turns ≡ said_turns v.turns
  said-nothing n none = ap (λ (ms : List Message). reverse (map (said_to n) ms) ++ said_turns v.turns) none

  turn-nothing : (t : orders.OrderTurn) → t.bodies ≡ [] → said_turns v.turns ≡ said_turns (t ∷ v.turns)
  turn-nothing t none = ap (λ (ms : List Message). reverse (map (said_to t.client) ms) ++ said_turns v.turns) (sym none)

  -- what each client was told, by its own number
  own-batch : (n : ℕ) (turn : Option orders.OrderTurn) → Told (Some n) turn
      → reverse bs ++ orders.issued n v.turns ≡ orders.issued n (turned turn v).turns
  own-batch n turn told = ap (λ (b : Bool). told_more b bs (orders.issued n v.turns)) (sym (eq-eqb n n refl)) ∙ told n

  own-turn : (t : orders.OrderTurn) → orders.issued t.client (t ∷ v.turns)
      ≡ reverse t.bodies ++ orders.issued t.client v.turns
  own-turn t = ap (λ (b : Bool). told_more b t.bodies (orders.issued t.client v.turns)) (eq-eqb t.client t.client refl)

  other-turn : (t : orders.OrderTurn) (n : ℕ) → (t.client == n) ≡ false
      → orders.issued n (t ∷ v.turns) ≡ orders.issued n v.turns
  other-turn t n other = ap (λ (b : Bool). told_more b t.bodies (orders.issued n v.turns)) other

  one-told : (client : Option ℕ) (turn : Option orders.OrderTurn) → Told client turn → Same client turn
  one-told None None told = refl
  one-told (Some n) None told = said-nothing n (none-added bs (orders.issued n v.turns) (own-batch n None told))
  one-told None (Some t) told = turn-nothing t
      (none-added t.bodies (orders.issued t.client v.turns) (sym (told t.client ∙ own-turn t)))
  one-told (Some n) (Some t) told = by_client (t.client == n) refl
    where
      by_client : (b : Bool) → (t.client == n) ≡ b → Same (Some n) (Some t)
      by_client true same =
          let is_n : t.client ≡ n = eqb-true t.client n same in
          let theirs : orders.issued n (t ∷ v.turns) ≡ reverse t.bodies ++ orders.issued n v.turns =
          ap (λ (b : Bool). told_more b t.bodies (orders.issued n v.turns)) same in
          let bodies_are : bs ≡ t.bodies = same-added bs t.bodies (orders.issued n v.turns)
          (own-batch n (Some t) told ∙ theirs) in
          ap (λ (ms : List Message). reverse (map (said_to n) ms) ++ said_turns v.turns) bodies_are
          ∙ ap (λ (c : ℕ). reverse (map (said_to c) t.bodies) ++ said_turns v.turns) (sym is_n)
      by_client false other =
          let apart : (n == t.client) ≡ false = turned-test n t.client other in
          let silent : t.bodies ≡ [] = none-added t.bodies (orders.issued t.client v.turns)
          (sym (ap (λ (b : Bool). told_more b bs (orders.issued t.client v.turns)) (sym apart) ∙ told t.client
          ∙ own-turn t)) in
          let quiet : bs ≡ [] = none-added bs (orders.issued n v.turns)
          (own-batch n (Some t) told ∙ other-turn t n other) in
          said-nothing n quiet ∙ turn-nothing t silent
        where
          turned-test : (a b : ℕ) → (b == a) ≡ false → (a == b) ≡ false
          turned-test a b e = by_test (a == b) refl
            where
              by_test : (x : Bool) → (a == b) ≡ x → (a == b) ≡ false
              by_test true is = (let back : true ≡ false = sym (eq-eqb b a (sym (eqb-true a b is))) ∙ e in cc)
              by_test false is = is

pub said-same : (s : Settings) (h : History) → IsRun s h → said_to_clients h ≡ said_turns (order_turns s h)
said-same s [] run = refl
said-same s (t ∷ before) run = by_limit (is_within_day before) run.0 (runs-tell s (t ∷ before) run)
    (runs-tell s before run.1) (said-same s before run.1)
  where
    v : Lists
    v = lists s before

    o : Outcome
    o = outcome s t.event t.batch v

    by_limit : (w : Bool) → OfTurn w (Gives s t.event t.batch v) t.batch
        → ((c : ℕ) → told_by_batches c (t ∷ before)
        ≡ orders.issued c (if w then lists_after s t.event t.batch v else v).turns)
        → ((c : ℕ) → told_by_batches c before ≡ orders.issued c v.turns)
        → said_to_clients before ≡ said_turns v.turns
        → said_to_clients (t ∷ before) ≡ said_turns (if w then lists_after s t.event t.batch v else v).turns
    by_limit true g now earlier is =
        let told : Told (bodies t.batch) v t.batch.client o.turn =
        λ c. ap (λ (ms : List Message). told_more (is_the_number c t.batch.client) (bodies t.batch) ms)
        (sym (earlier c)) ∙ now c ∙ ap (orders.issued c) (turns-after o t.batch v) in
        ap (λ (all : List SaidToClient). reverse (told_anyone t.batch.client (bodies t.batch)) ++ all) is
        ∙ one-told (bodies t.batch) v t.batch.client o.turn told
        ∙ ap said_turns (sym (turns-after o t.batch v))
    by_limit false none now earlier is = ap (λ (b : Batch). reverse (told_anyone b.client (bodies b))
        ++ said_to_clients before) none ∙ is
