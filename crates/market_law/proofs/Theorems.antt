-- The laws.
use Rattle.std.proofs.Common.{◌≡◌, ℕ, ◌≤◌, List, Option}
use Rattle.order_law.specs.Headline.{Each}
use Rattle.order_law.specs.Life.{life}
use Rattle.order_law.specs.ouch_codec.declared.inbound.Inbound.{Inbound}
use Rattle.market_law.specs.Machine.{BookOrder}
use Rattle.market_law.specs.Run.{Move, life_in_book, ran}
use Rattle.market_law.specs.Moves.{IsAllOrNothing, IsKnown, IsOneOf, IsSmall, IsWithin, times}
use Rattle.market_law.specs.Said.{EachSaid, names}
use Rattle.market_law.proofs.Basics.{each-all}
use Rattle.market_law.proofs.Sound.{IsChain}
use Rattle.market_law.proofs.Runs.{ran-Sound}
use Rattle.market_law.proofs.Says.{ran-told}
use Rattle.market_law.proofs.Bounds.{named-once, ran-within}
use Rattle.market_law.proofs.Whole.{IsWhole, ran-whole, all-or-nothing}

pub books : (vs : List Move) → Each (λ (c : BookOrder). (side : ℕ)
    → life c.entered.token side (ran vs).said ≡ life_in_book side c) (ran vs).machine.book
books vs = each-all (IsChain (ran vs).machine (ran vs).said)
    (λ (c : BookOrder). (side : ℕ) → life c.entered.token side (ran vs).said ≡ life_in_book side c)
    (ran vs).machine.book (λ c k side. k.book side) (ran-Sound vs).each

pub lawful : (root_of : List ℕ → Option (List ℕ)) (asked : List Inbound) (vs : List Move)
    → Each (IsKnown root_of (IsOneOf asked)) vs → EachSaid root_of (IsOneOf asked) (ran vs).said
lawful root_of asked vs ok = (ran-told root_of (IsOneOf asked) vs ok).each

pub once : (root_of : List ℕ → Option (List ℕ)) (asked : List Inbound) (vs : List Move)
    → Each (IsKnown root_of (IsOneOf asked)) vs → (u : List ℕ) → times (names u) (ran vs).said ≤ 1
once root_of asked vs ok u = named-once root_of (IsOneOf asked) u (ran vs).said (lawful root_of asked vs ok)

pub within : (root_of : List ℕ → Option (List ℕ)) (asked : List Inbound) (limit : List ℕ → ℕ) (vs : List Move)
    → Each (IsKnown root_of (IsOneOf asked)) vs → Each (IsSmall root_of limit) vs
    → Each (IsWithin limit) (ran vs).machine.book
within root_of asked limit vs ok small = ran-within root_of (IsOneOf asked) limit vs ok small

pub whole : (vs : List Move) → Each IsAllOrNothing (ran vs).machine.book
whole vs = each-all IsWhole IsAllOrNothing (ran vs).machine.book all-or-nothing (ran-whole vs)
