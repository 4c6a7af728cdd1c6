use Rattle.std.proofs.Common.{rules, ◌≡◌, true, false, Some, refl, sym, ap, ◌∙◌}
use Rattle.std.specs.Prelude.{option_map}
use Rattle.std.specs.List.{find}
use Rattle.orders.specs.order_law.Life.{is_of}
use Rattle.order_machine.specs.OrderRecord.{record_life, stands_told}
use Rattle.orders.specs.Seen.{told_seen}
use Rattle.market_messages.proofs.BrokenRow.{break-accepted, broken-is-lawful, broken-now, broken-unlawful}
use Rattle.market_messages.proofs.broken.on_broken.Goals as goal

pub returns-then-not-has_had : goal.returns-then-not-has_had
returns-then-not-has_had c =
    let other : is_of (record_life c.args.order.now) c.args.message.now.token ≡ false = (search rules) in
    rw other refl

pub returns-in_default : goal.returns-in_default
returns-in_default c =
    broken-unlawful c.args.message.now c.args.order.now
    (sym c.standing_in.ensures.newest ∙ ap (option_map told_seen) c.in_default.is)

pub returns : goal.returns
returns c =
    let m = c.args.message.now in
    let o = c.args.order.now in
    let t = c.in-Some.told in
    let steady = c.standing_in.ensures.steady in
    let own : is_of (record_life o) m.token ≡ true = (search rules) in
    let here : find (stands_told m.match_number) o.trades ≡ Some (told_seen t) = sym c.standing_in.ensures.newest
    ∙ ap (option_map told_seen) c.in-Some.is in
    record {
      lawful = broken-is-lawful c.args.issued m o t steady own here;
      told = c.in_ok-tell_broken.ensures.told;
      now = broken-now c.args.issued m o t steady own here;
      fits = break-accepted c.args.issued m o t steady own here;
    }
