use Rattle.std.proofs.Common.{◌≡◌, Bool, true, false, sym, ap, ◌∙◌}
use Rattle.std.specs.Prelude.{◌||◌, not}
use Rattle.std.proofs.lemmas.Bool.{and_parts}
use Rattle.orders.specs.order_law.Lawful.{is_first}
use Rattle.orders.specs.order_law.Life.{is_closed}
use Rattle.order_machine.specs.OrderRecord.{replacements}
use Rattle.market_messages.specs.Meets.{rejects_new, rejects_replace}
use Rattle.market_messages.proofs.RejectedRow.{not_replaced-now, refuse-waits, refused-now}
use Rattle.market_messages.proofs.rejected.on_rejected.Goals as goal

pub returns-then-may_refuse : goal.returns-then-may_refuse
returns-then-may_refuse c =
    let m = c.args.message.now in
    let o = c.args.order.now in
    let may : rejects_new m o ≡ true = sym c.if-may_refuse.ensures in
    record {
      lawful = ap (λ (x : Bool). x || rejects_replace m o) may;
      told = c.in_ok-tell_refused.ensures.told;
      now = refused-now c.args.issued m o may;
      fits = refuse-waits c.args.issued m o may;
    }

pub returns-then-may_reject_replace : goal.returns-then-may_reject_replace
returns-then-may_reject_replace c =
    let m = c.args.message.now in
    let o = c.args.order.now in
    let not_new : rejects_new m o ≡ false = sym c.if-may_refuse.ensures in
    let may : rejects_replace m o ≡ true = sym c.if-may_reject_replace.ensures in
    record {
      lawful = ap (λ (x : Bool). x || rejects_replace m o) not_new ∙ may;
      told = c.in_ok-tell_not_replaced.ensures.told c.args.issued;
      now = not_replaced-now c.args.issued m o not_new
          (and_parts (is_first m.token (replacements o.replaces)) (not (is_closed o.stage)) may).0;
      fits = tt;
    }

pub returns : goal.returns
returns c =
    let m = c.args.message.now in
    let o = c.args.order.now in
    let not_new : rejects_new m o ≡ false = sym c.if-may_refuse.ensures in
    let not_so : rejects_replace m o ≡ false = sym c.if-may_reject_replace.ensures in
    ap (λ (x : Bool). x || rejects_replace m o) not_new ∙ not_so
