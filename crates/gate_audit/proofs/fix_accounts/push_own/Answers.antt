use Rattle.std.proofs.Common.{rules, ◌≡◌, ◌∙◌, ◌++◌, ◌∷◌, [], Bool, true, false, List, ap, refl}
use Rattle.std.specs.Prelude.{◌==◌, IsErrOf, Err}
use Rattle.order_accounts.specs.declared.reading_fault.ReadingFault.{ReadingFault}
use Rattle.order_accounts.specs.declared.reading_fault.ReadingFault.TheVariants.{TooLarge}
use Rattle.order_accounts.specs.Held.{StaysHeld}
use Rattle.order_law.specs.declared.account.Account.{Account}
use Rattle.gate_audit.specs.Pairs.{OpenedOrder, SaidToClient}
use Rattle.gate_audit.specs.Passes.{fix_in, sent_to}
use Rattle.gate_audit.proofs.Lists.{each-filtered}
use Rattle.gate_audit.proofs.Shelved.{each-more, each-same, made-more, made-same}
use Rattle.gate_audit.proofs.fix_accounts.push_own.Goals as goal
use Rattle.gate_audit.proofs.fix_accounts.push_own.Goals.{then-opening-client+in_ok-account+in_ok-push, else-opening-client}

pub loop-opening-preserved : goal.loop-opening-preserved
loop-opening-preserved c =
    let os : List OpenedOrder = c.args.openings.now in
    let i = c.loop-opening.opening-index in
    let o : OpenedOrder = c.opening-item.result in
    let old : List Account = c.args.accounts.now.items in
    let p : OpenedOrder → Bool = λ (x : OpenedOrder). x.client == c.args.client in
    let P : List SaidToClient → OpenedOrder → Type 0 =
    λ all (x : OpenedOrder). StaysHeld x.order (sent_to x.client all) in
    elim c.if-opening-client.branch [
      | then-opening-client+in_ok-account+in_ok-push w ↦
          let own : (o.client == c.args.client) ≡ true = search (rules, w.if-opening-client, c.opening.view_is) in
          record {
            read = λ all are. ap (λ v. v.items) w.accounts-is ∙ (w.in_ok-push.ensures.items
                ∙ (ap (λ (a : Account). c.loop-opening.accounts.items ++ a ∷ [])
                (w.in_ok-account.ensures.read all are)
                ∙ (ap (λ (ys : List Account). ys ++ fix_in all o ∷ []) (c.loop-opening.invariant.read all are)
                ∙ made-more (fix_in all) p os i o old (fix_in all o) c.loop-opening-test.true
                c.opening-item.is own refl)));
            held = λ all are. each-more (P all) p os i o c.loop-opening-test.true c.opening-item.is own
                (w.in_ok-account.ensures.held all are) (c.loop-opening.invariant.held all are);
          }
      | else-opening-client w ↦
          let other : (o.client == c.args.client) ≡ false = search (rules, w.if-opening-client, c.opening.view_is) in
          record {
            read = λ all are. ap (λ v. v.items) w.accounts-is ∙ (c.loop-opening.invariant.read all are
                ∙ made-same (fix_in all) p os i o old c.loop-opening-test.true c.opening-item.is other);
            held = λ all are. each-same (P all) p os i o c.loop-opening-test.true c.opening-item.is other
                (c.loop-opening.invariant.held all are);
          }
    ]

pub returns-in_err-account-clause-large : goal.returns-in_err-account-clause-large
returns-in_err-account-clause-large c err = λ all are held.
    let o : OpenedOrder = c.opening-item.result in
    let own_error : IsErrOf {E = ReadingFault} (Err c.in_err-account.field-0.0) TooLarge =
    search (rules, c.from_residual.ensures, err) in
    let own : (o.client == c.args.client) ≡ true = search (rules, c.if-opening-client.true, c.opening.view_is) in
    c.in_err-account.ensures.large own_error all are
    (each-filtered (λ (x : OpenedOrder). StaysHeld x.order (sent_to x.client all))
    (λ (x : OpenedOrder). x.client == c.args.client) c.args.openings.now c.loop-opening.opening-index o
    c.loop-opening-test.true c.opening-item.is own held)
