-- A replace that a market answers is the oldest pending one of its order.
use Rattle.std.proofs.Common.{◌≡◌, ℕ, ◌<◌, ◌^◌, true, false, List, length, sym, ap, ◌∙◌, subst, bytes_eq, Some, inl}
use Rattle.std.proofs.Common.{inr}
use Rattle.std.specs.List.{list_any}
use Rattle.order_law.specs.Life.{is_closed, is_live, is_working, live}
use Rattle.order_law.specs.Chain.{chain}
use Rattle.order_law.specs.History.{Terms, terms_of, OrderHistory, Asked, Entry, SaysReplace, accepted, handled, issued}
use Rattle.order_law.specs.History.{life_of, new_of, outstanding, pending_tokens}
use Rattle.order_law.specs.Lawful.{is_first, works_as}
use Rattle.order_machine.specs.OrderRecord.{live_token}
use Rattle.order_machine.specs.Runs.{TurnsLeave}
use Rattle.order_machine.specs.Table.{TableState}
use Rattle.order_machine.proofs.Texts.{and-parts, eq-is, not-both}
use Rattle.order_machine.proofs.Running.{Leaves-Holding}
use Rattle.market_law.specs.Said.{names}
use Rattle.world_law.specs.Asked.{IsIn, asked}
use Rattle.world_law.proofs.Lives.{works-closed}
use Rattle.world_law.proofs.Known.{IsAskedFor, IsPlacedBy, Known, asked-for, known, pending-so, place-of}
use Rattle.world_law.proofs.Fates.{Fate, are-apart, fate}

-- so it is of each replace that was asked, whose token isn't named and whose order works under the token it goes from
abbrev pub AreOldest : List Terms → ℕ → OrderHistory → Type 0
AreOldest terms port h =
    (a : Asked) (from to : List ℕ) → a.said ≡ SaysReplace from to → IsIn a (asked terms port h)
    → (new : Entry) → new_of a.order (accepted terms h) ≡ Some new → (terms_of terms new.client).port ≡ port
    → list_any (names to) (handled port h) ≡ false
    → works_as (life_of a.order (accepted terms h) (handled port h)) from ≡ true
    → is_first to (pending_tokens new.client (chain new.order (issued new.client h)) (accepted terms h)) ≡ true

pub are-oldest : (terms : List Terms) (h : OrderHistory) (s : TableState) → length h < 2 ^ 59 → TurnsLeave terms h s
    → (port : ℕ) → AreOldest terms port h
are-oldest terms h s short leaves port a from to is there new found on unnamed works =
    by_fate (fate terms h s short leaves port a from to is there)
  where
    k : Known terms h port a.order
    k = known terms h port a.order new (Leaves-Holding terms h s short leaves).table.held found on

    parts : (is_live (life_of a.order (accepted terms h) (handled port h)) from ≡ true)
        × (is_working (life_of a.order (accepted terms h) (handled port h)).stage ≡ true)
    parts = and-parts (is_live (life_of a.order (accepted terms h) (handled port h)) from)
        (is_working (life_of a.order (accepted terms h) (handled port h)).stage) works

    lives : live (life_of a.order (accepted terms h) (handled port h)) ≡ from
    lives = sym (eq-is from (live (life_of a.order (accepted terms h) (handled port h))) parts.0)

    same : k.order.new ≡ new
    same = (let g : Some k.order.new ≡ Some new = sym k.fits.known
        ∙ ap (λ (i : List ℕ). new_of i (accepted terms h)) k.number_is ∙ found in cc)

    by_place : IsPlacedBy (live_token k.order) k.order.replaces from to
        → is_first to (pending_tokens new.client (chain new.order (issued new.client h)) (accepted terms h)) ≡ true
    by_place (inl p) =
        subst (λ (e : Entry). is_first to (pending_tokens e.client (chain e.order (issued e.client h))
        (accepted terms h)) ≡ true) same
        (ap (is_first to) (pending-so terms h port a.order k) ∙ p.0)
    by_place (inr p) = absurd
        (let other : IsAskedFor a.order from (outstanding terms port h) =
        asked-for a.order from (outstanding terms port h)
        (subst (λ (ts : List (List ℕ)). list_any (bytes_eq from) ts ≡ true) (sym k.next_so) p) in
        are-apart terms h s short leaves port other.asks other.from from other.there other.says
        (ap (λ (n : List ℕ). live (life_of n (accepted terms h) (handled port h))) other.order_is ∙ lives))

    by_fate : Fate terms port a from to h → is_first to
        (pending_tokens new.client (chain new.order (issued new.client h)) (accepted terms h)) ≡ true
    by_fate (inl i) = by_place (place-of terms h port a k from to is i)
    by_fate (inr (inl named)) = absurd (not-both (list_any (names to) (handled port h)) named unnamed)
    by_fate (inr (inr (inl closed))) = absurd
        (not-both (is_closed (life_of a.order (accepted terms h) (handled port h)).stage) closed
        (works-closed (life_of a.order (accepted terms h) (handled port h)).stage parts.1))
    by_fate (inr (inr (inr barred))) = absurd (barred.isnt_live lives)
