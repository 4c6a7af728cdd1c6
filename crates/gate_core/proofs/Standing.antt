-- How the parts stand: the same is known of it as of the parts.
use Rattle.std.proofs.Common.{◌≡◌, ℕ, zero, suc, ◌+◌, ◌-◌, ◌≤◌, List, [], ◌∷◌, map, length, get_or, Option, Some, None}
use Rattle.std.proofs.Common.{refl, sym, ap, ◌∙◌, subst, arith}
use Rattle.std.proofs.lemmas.List.{length-map}
use Rattle.std.proofs.lemmas.Option.{get_or_from_slice_get, same_Some, slice_get-map}
use Rattle.std.specs.Prelude.{option_map, slice_get}
use Rattle.soup_session.specs.Calls.{next_of}
use Rattle.order_core.specs.State.{core_now, core_of}
use Rattle.order_core.proofs.Standing.{after-by_parts}
use Rattle.gate_law.specs.Settings.{Settings, terms}
use Rattle.gate_law.specs.Lists.{Lists}
use Rattle.gate_sessions.specs.Leaving.{ClientLeaves, PortLeaves}
use Rattle.gate_sessions.specs.Lines.{client_now, client_settled, port_now, port_settled}
use Rattle.gate_core.specs.declared.parts.Parts.{Parts}
use Rattle.gate_core.specs.State.{AreAmong, ArePartsOf, AreSound, HasNumbers, IsShaped, StandAfter, parts_now}
use Rattle.gate_core.specs.State.{parts_settled}
use Rattle.gate_core.specs.Steps.{Grows}

-- ---- lists and what is seen of each of their elements

module _ {X Y : Type 0} (f : X → Y) where
  -- what holds of each element as it is seen holds of all that is seen
  pub each-seen : (P : ℕ → Y → Type 0) (xs : List X) → ((i : ℕ) (x : X) → slice_get xs i ≡ Some x → P i (f x))
      → (i : ℕ) (y : Y) → slice_get (map f xs) i ≡ Some y → P i y
  each-seen P xs each i y at = by_entry (slice_get xs i) refl
    where
      by_entry : (o : Option X) → slice_get xs i ≡ o → P i y
      by_entry None none = absurd (let seen : slice_get (map f xs) i ≡ None = slice_get-map f xs i
          ∙ ap (option_map f) none in cc)
      by_entry (Some x) is = subst (P i) (same_Some (f x) y (sym (slice_get-map f xs i ∙ ap (option_map f) is) ∙ at))
          (each i x is)

  -- and the other way round
  pub each-element : (P : ℕ → Y → Type 0) (xs : List X) → ((i : ℕ) (y : Y) → slice_get (map f xs) i ≡ Some y → P i y)
      → (i : ℕ) (x : X) → slice_get xs i ≡ Some x → P i (f x)
  each-element P xs each i x at = each i (f x) (slice_get-map f xs i ∙ ap (option_map f) at)

  -- a list by its elements
  by-elements : (xs : List X) (ys : List Y) (d : Y) → length xs ≡ length ys
      → ((i : ℕ) (x : X) → slice_get xs i ≡ Some x → f x ≡ get_or ys i d) → map f xs ≡ ys
  by-elements [] [] d same each = refl
  by-elements [] (y ∷ ys) d same each = absurd (omega (arith, same))
  by-elements (x ∷ xs) [] d same each = absurd (omega (arith, same))
  by-elements (x ∷ xs) (y ∷ ys) d same each =
      let first : f x ≡ y = each zero x refl in
      rw (first, by-elements xs ys d (omega (arith, same)) (λ i z at. each (suc i) z at)) refl

  -- what each call keeps of the lines, whatever they were, is the same of all lines together
  pub kept-seen : (old new : List X) → ((was : ℕ → Y) → ((i : ℕ) (x : X) → slice_get old i ≡ Some x → f x ≡ was (i + 1))
      → (i : ℕ) (x : X) → slice_get new i ≡ Some x → f x ≡ was (i + 1))
      → length new ≡ length old → map f new ≡ map f old
  kept-seen [] [] kept same = refl
  kept-seen [] (x ∷ new) kept same = absurd (omega (arith, same))
  kept-seen (o ∷ old) new kept same =
      let all = map f (o ∷ old) in
      let was : ℕ → Y = λ n. get_or all (n - 1) (f o) in
      let at_place : (i : ℕ) → was (i + 1) ≡ get_or all i (f o) =
      λ i. (let less : i + 1 - 1 ≡ i = omega arith in ap (λ (k : ℕ). get_or all k (f o)) less) in
      by-elements new all (f o) (same ∙ sym (length-map (o ∷ old) f))
      (λ i x at. kept was
      (λ k y there. sym (get_or_from_slice_get all k (f y) (f o)
      (slice_get-map f (o ∷ old) k ∙ ap (option_map f) there)) ∙ sym (at_place k))
      i x at ∙ at_place i)

-- ---- the parts

module _ {S H : Type 0} (s : Settings) (v : Lists) (g : Parts S H) where
  pub parts-stand : ArePartsOf s v g → StandAfter s v (parts_now g)
  parts-stand are = record {
    clients = each-seen client_now (λ i c. ClientLeaves s (i + 1) (v.client_calls (i + 1)) c.session)
        g.clients.lines.items are.clients;
    client_links = each-seen client_now (λ i c. c.link ≡ v.client_link (i + 1)) g.clients.lines.items are.client_links;
    ports = each-seen port_now (λ i c. PortLeaves s (i + 1) (v.port_calls (i + 1)) c.port) g.ports.lines.items
        are.ports;
    port_links = each-seen port_now (λ i c. c.link ≡ v.port_link (i + 1)) g.ports.lines.items are.port_links;
    orders = after-by_parts (terms s) v.turns g.orders (core_of (core_now g.orders)) refl refl are.orders;
    client_ports = are.client_ports;
    client_count = length-map g.clients.lines.items client_now ∙ are.client_count;
    port_count = length-map g.ports.lines.items port_now ∙ are.port_count;
    known = are.known;
  }

  pub stand-parts : StandAfter s v (parts_now g) → ArePartsOf s v g
  stand-parts stand = record {
    clients = each-element client_now (λ i c. ClientLeaves s (i + 1) (v.client_calls (i + 1)) c.session)
        g.clients.lines.items stand.clients;
    client_links = each-element client_now (λ i c. c.link ≡ v.client_link (i + 1)) g.clients.lines.items
        stand.client_links;
    ports = each-element port_now (λ i c. PortLeaves s (i + 1) (v.port_calls (i + 1)) c.port) g.ports.lines.items
        stand.ports;
    port_links = each-element port_now (λ i c. c.link ≡ v.port_link (i + 1)) g.ports.lines.items stand.port_links;
    orders = after-by_parts (terms s) v.turns (core_of (core_now g.orders)) g.orders refl refl stand.orders;
    client_ports = stand.client_ports;
    client_count = sym (length-map g.clients.lines.items client_now) ∙ stand.client_count;
    port_count = sym (length-map g.ports.lines.items port_now) ∙ stand.port_count;
    known = stand.known;
  }

module _ {S H : Type 0} (events : ℕ) (g : Parts S H) where
  clients-count : length (map client_now g.clients.lines.items) ≡ length g.clients.lines.items
  clients-count = length-map g.clients.lines.items client_now

  ports-count : length (map port_now g.ports.lines.items) ≡ length g.ports.lines.items
  ports-count = length-map g.ports.lines.items port_now

  pub sound-shaped : AreSound events (parts_now g) → IsShaped g
  sound-shaped sound = record {
    client_ports = sound.client_ports ∙ clients-count;
    among = subst (λ (count : ℕ). AreAmong count g.client_ports.items) ports-count sound.among;
    served = sound.served ∙ clients-count;
    few_clients = omega (arith, clients-count, sound.few_clients);
    few_ports = omega (arith, ports-count, sound.few_ports);
  }

  pub sound-numbers : AreSound events (parts_now g) → HasNumbers events g
  sound-numbers sound = record {
    issued = sound.issued;
    next = each-element port_now (λ i c. next_of c.port ≤ events + 1) g.ports.lines.items sound.next;
  }

  pub parts-sound : IsShaped g → HasNumbers events g → AreSound events (parts_now g)
  parts-sound shaped numbers = record {
    client_ports = shaped.client_ports ∙ sym clients-count;
    among = subst (λ (count : ℕ). AreAmong count g.client_ports.items) (sym ports-count) shaped.among;
    served = shaped.served ∙ sym clients-count;
    few_clients = omega (arith, clients-count, shaped.few_clients);
    few_ports = omega (arith, ports-count, shaped.few_ports);
    issued = numbers.issued;
    next = each-seen port_now (λ i c. next_of c.port ≤ events + 1) g.ports.lines.items numbers.next;
  }

-- ---- what they are put back to

pub stays-settled : {S H : Type 0} (numbers packets : ℕ) (old new : Parts S H) → Grows numbers packets old new
    → parts_settled new ≡ parts_settled old
stays-settled numbers packets old new grows =
    let clients = kept-seen client_settled old.clients.lines.items new.clients.lines.items grows.clients_settled
    grows.clients in
    let ports = kept-seen port_settled old.ports.lines.items new.ports.lines.items grows.ports_settled grows.ports in
    rw (clients, ports, grows.client_ports, grows.orders_settled) refl
