-- A list of steps, one step more; and what markets have of the orders of one client more.
use Rattle.std.proofs.Common.{◌≡◌, ℕ, ◌+◌, ◌<◌, ◌≤◌, true, List, [], ◌∷◌, ◌++◌, length, map, reverse, take}
use Rattle.std.proofs.Common.{get_or, sym, ap, ◌∙◌, arith}
use Rattle.std.proofs.lemmas.Bool.Decides.{nat_tests}
use Rattle.std.specs.List.{All}
use Rattle.std.specs.Prelude.{◌&&◌, nat_le}
use Rattle.std.proofs.lemmas.List.{map-append, reverse-append, take_more}
use Rattle.market_law.specs.declared.row.BookRow.{BookRow}
use Rattle.gate_core.specs.gate_settings.Kept.{IsOnPort}
use Rattle.gate_law.specs.Settings.{Settings, has_port, port_of}
use Rattle.gate_law.specs.Events.{History}
use Rattle.world_law.specs.World as world
use Rattle.world_law.specs.World.{World}
use Rattle.closed_world.specs.declared.step.WorldStep.{WorldStep}
use Rattle.closed_world.specs.Steps.{step_seen}
use Rattle.gate_audit.specs.Pairs.{OpenedOrder, opened_orders, orders_of, said_to_clients}
use Rattle.gate_audit.specs.Passes.{told_whole}
use Rattle.gate_audit.specs.Played.{book_of, books_of}
use Rattle.gate_audit.specs.Read.{for_clients}
use Rattle.gate_audit.proofs.Batches.{for-more}
use Rattle.gate_audit.proofs.Pairing.{on-port}
use Rattle.gate_audit.proofs.Whole.{orders-whole}

pub steps-more : (steps : List WorldStep) (i : ℕ) (step : WorldStep) → i < length steps → step ≡ get_or steps i step
    → reverse (map step_seen (take (i + 1) steps)) ≡ step_seen step ∷ reverse (map step_seen (take i steps))
steps-more steps i step inside is =
    ap (λ (xs : List WorldStep). reverse (map step_seen xs)) (take_more steps i step inside)
    ∙ ap (λ (x : WorldStep). reverse (map step_seen (take i steps ++ x ∷ []))) (sym is)
    ∙ ap (λ (xs : List world.WorldStep). reverse xs) (map-append step_seen (take i steps) (step ∷ []))
    ∙ reverse-append (map step_seen (take i steps)) (step_seen step ∷ [])

pub books-more : (s : Settings) (x : World) (n port : ℕ) (kept : List BookRow) (openings : List OpenedOrder) (h : History)
    → h ≡ x.history → port ≡ port_of s (n + 1) → openings ≡ reverse (opened_orders (told_whole h))
    → kept ≡ for_clients (books_of s x) n
    → kept ++ map (book_of x port) (orders_of (n + 1) openings) ≡ for_clients (books_of s x) (n + 1)
books-more s x n port kept openings h is_history is_port are_openings is_kept =
    ap (λ (ks : List BookRow). ks ++ map (book_of x port) (orders_of (n + 1) openings)) is_kept
    ∙ ap (λ (ks : List BookRow). for_clients (books_of s x) n ++ ks)
    (ap (λ (p : ℕ). map (book_of x p) (orders_of (n + 1) openings)) is_port
    ∙ ap (λ (os : List OpenedOrder). map (book_of x (port_of s (n + 1))) (orders_of (n + 1) os)) are_openings
    ∙ sym (ap (map (book_of x (port_of s (n + 1))))
    (ap (λ (k : History). reverse (orders_of (n + 1) (opened_orders (said_to_clients k)))) (sym is_history)
    ∙ orders-whole h (n + 1))))
    ∙ sym (for-more (books_of s x) n)

both-true : (p n : ℕ) → 1 ≤ p → p ≤ n → (nat_le 1 p && nat_le p n) ≡ true
both-true p n one few = grind (arith, nat_tests)

-- each client has a port
pub known-port : (s : Settings) → All (IsOnPort (length s.ports)) s.clients → (client : ℕ) → 1 ≤ client
    → client ≤ length s.clients → has_port s (port_of s client) ≡ true
known-port s all client some known = let on = on-port s all client some known in
    both-true (port_of s client) (length s.ports) on.0 on.1
