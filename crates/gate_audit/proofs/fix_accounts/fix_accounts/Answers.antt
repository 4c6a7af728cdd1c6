use Rattle.std.proofs.Common.{◌≤◌, ◌+◌, ℕ, List, arith, rules}
use Rattle.std.specs.Prelude.{IsErrOf, Err}
use Rattle.order_accounts.specs.declared.reading_fault.ReadingFault.{ReadingFault}
use Rattle.order_accounts.specs.declared.reading_fault.ReadingFault.TheVariants.{TooLarge}
use Rattle.gate_audit.specs.Pairs.{OpenedOrder, orders_of}
use Rattle.gate_audit.specs.Passes.{StayHeld}
use Rattle.gate_audit.proofs.Clients.{fix-more}
use Rattle.gate_audit.proofs.Held.{known-more}
use Rattle.gate_audit.proofs.fix_accounts.fix_accounts.Goals as goal

pub loop-place-init : goal.loop-place-init
loop-place-init c = record {
  read = λ all are. c.in_ok-accounts.ensures.items;
  held = λ all are k some most. absurd (omega (arith, some, most));
}

pub loop-place-preserved : goal.loop-place-preserved
loop-place-preserved c =
    let os : List OpenedOrder = c.args.openings.now in
    let n = c.loop-place.place in
    record {
      read = λ all are. fix-more all n os c.loop-place.accounts.items c.push_own.new.accounts.items
          (c.loop-place.invariant.read all are) (c.in_ok-push_own.ensures.read all are);
      held = λ all are. known-more (λ (k : ℕ). StayHeld all (orders_of k os)) n
          (c.loop-place.invariant.held all are) (c.in_ok-push_own.ensures.held all are);
    }

pub returns-in_err-push_own-clause-large : goal.returns-in_err-push_own-clause-large
returns-in_err-push_own-clause-large c err = λ all are held.
    let n : ℕ = c.loop-place.place in
    let some : 1 ≤ n + 1 = omega arith in
    let most : n + 1 ≤ c.args.clients = omega (arith, c.loop-place-test.true, c.loop-place.auto.place-end) in
    let own_error : IsErrOf {E = ReadingFault} (Err c.in_err-push_own.field-0.0) TooLarge =
    search (rules, c.from_residual-in_err-push_own.ensures, err) in
    c.in_err-push_own.ensures.large own_error all are (held (n + 1) some most)
