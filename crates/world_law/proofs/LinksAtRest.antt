-- What the two books have of one another in every world that steps lead to.
use Rattle.std.proofs.Common.{◌≡◌, ◌<◌, ◌^◌, ℕ, suc, true, List, [], ◌∷◌, ◌++◌, length, length-append, filter, sym, ap}
use Rattle.std.proofs.Common.{subst, arith}
use Rattle.order_law.specs.ouch_codec.declared.outbound.Outbound.{Outbound}
use Rattle.order_law.specs.History.{Entry, accepted, handled, is_new_order, issued, token_of}
use Rattle.order_law.specs.Headline.{Each}
use Rattle.order_law.specs.Reading.{reading}
use Rattle.order_machine.specs.Runs.{IsTableRun}
use Rattle.market_law.specs.Machine.{Machine}
use Rattle.market_law.specs.Rows.{row}
use Rattle.market_law.specs.Run.{ran}
use Rattle.gate_law.specs.Settings.{Settings, port_of, terms}
use Rattle.gate_law.specs.Limits.{is_served}
use Rattle.gate_law.specs.Holds.{Holds}
use Rattle.world_law.specs.Rows.{ReadsAsBook}
use Rattle.world_law.specs.FillOrKill.{AllOrNone, IsFillOrKill}
use Rattle.world_law.proofs.Alone.{books-whole, readings-whole}
use Rattle.world_law.proofs.AtRest.{at-rest}
use Rattle.world_law.proofs.Homes.{always-of-orders}
use Rattle.world_law.proofs.NoFault.{once, told}
use Rattle.world_law.proofs.Totals.{stays-within}
use Rattle.world_law.specs.World.{LeadsTo, World, WorldStep}
use Rattle.world_law.specs.Ports.{NoFaults}
use Rattle.world_law.specs.Promises.{AsksOnce, FillsOrKills, IsAtRest, RestsAlike, StayWithin, turns_of}
use Rattle.world_law.proofs.Good.{IsGood, turns-short}
use Rattle.world_law.proofs.Worlds.{worlds-good}

module _ (s : Settings) (steps : List WorldStep) (w : World) (served : is_served s ≡ true) (leads : LeadsTo s steps w) (holds : Holds s w.history) (run : IsTableRun (terms s) (turns_of s w)) where
  all-good : IsGood s w
  all-good = worlds-good s served steps w leads
      (record { run = holds.run; asks = holds.asks; orders = holds.orders; table = run })

  pub no-faults : NoFaults w.history
  no-faults = all-good.no_faults

  short : length (turns_of s w) < 2 ^ 59
  short = let few = turns-short s w.history in omega (arith, few)

  pub asks-once : (p : ℕ) → AsksOnce s w p
  asks-once p = record {
    once = once (terms s) p (turns_of s w) run.0 (w.moves p) short run.1 (all-good.good p).came;
    with_terms = told (terms s) p (turns_of s w) (always-of-orders (terms s) (turns_of s w) run.0 short run.1 p)
        (w.moves p) (all-good.good p).came;
  }

  -- a list before another one that is as long as both has nothing
  none-before : (xs ys zs : List Outbound) → zs ≡ xs ++ ys → length zs ≡ length ys → zs ≡ ys
  none-before [] ys zs is same = is
  none-before (x ∷ xs) ys zs is same = absurd
      (let n : length zs ≡ suc (length (xs ++ ys)) = ap length is in let m = length-append xs ys in
      omega (arith, n, m, same))

  pub rests-alike : (p : ℕ) → RestsAlike s w p
  rests-alike p rest =
      subst (λ (m : Machine). Each (λ (new : Entry). port_of s new.client ≡ p
      → ReadsAsBook (reading new.order (issued new.client (turns_of s w))) (row m.book (token_of new)))
      (filter (λ (e : Entry). is_new_order e.message) (accepted (terms s) (turns_of s w))))
      (sym (all-good.good p).after.book)
      (at-rest (terms s) p (turns_of s w) run.0 (w.moves p) short run.1 (all-good.good p).came
      (none-before (all-good.good p).newer (handled p (turns_of s w)) (ran (w.moves p)).said
      (all-good.good p).split rest))

  -- where a port's market is at rest, all that it said is handled
  all-handled : (p : ℕ) → IsAtRest s w p → (ran (w.moves p)).said ≡ handled p (turns_of s w)
  all-handled p rest = none-before (all-good.good p).newer (handled p (turns_of s w)) (ran (w.moves p)).said
      (all-good.good p).split rest

  pub stay-within : (p : ℕ) → StayWithin s w p
  stay-within p = stays-within (terms s) p (turns_of s w) run.0 (w.moves p) short run.1 (all-good.good p).came

  pub fills-or-kills : (p : ℕ) → FillsOrKills s w p
  fills-or-kills p = record {
    in_book = subst (λ (m : Machine). Each (λ (new : Entry). IsFillOrKill (terms s) p
        (accepted (terms s) (turns_of s w)) new → AllOrNone new (row m.book (token_of new)).executed)
        (filter (λ (e : Entry). is_new_order e.message) (accepted (terms s) (turns_of s w))))
        (sym (all-good.good p).after.book) (books-whole (terms s) p (turns_of s w) run.0 (w.moves p) short run.1
        (all-good.good p).came);
    in_reading = λ rest. readings-whole (terms s) p (turns_of s w) run.0 (w.moves p) short run.1 (all-good.good p).came
        (all-handled p rest);
  }
