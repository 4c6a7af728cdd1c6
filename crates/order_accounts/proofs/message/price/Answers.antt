use Rattle.order_law.specs.fix_fields.Field.{text}
use Rattle.order_law.specs.fixed_point.Decimal.{worth}
use Rattle.order_accounts.proofs.Numbers.{counted_ok, counted_none, counted_large}
use Rattle.order_accounts.proofs.message.price.Goals as goal

pub returns-in-Ok : goal.returns-in-Ok
returns-in-Ok c = counted_ok (worth (text c.args.tag c.args.message.now)) c.in-Ok.units
    (rw c.text.ensures at c.in-Ok.ensures)

pub returns-in-Err-NoWorth : goal.returns-in-Err-NoWorth
returns-in-Err-NoWorth c = counted_none (worth (text c.args.tag c.args.message.now))
    (rw (c.text.ensures, c.in-Err-NoWorth.field-0-is) at c.in-Err-NoWorth.ensures)

pub returns-in-Err-TooLarge : goal.returns-in-Err-TooLarge
returns-in-Err-TooLarge c = counted_large (worth (text c.args.tag c.args.message.now))
    (rw (c.text.ensures, c.in-Err-TooLarge.field-0-is) at c.in-Err-TooLarge.ensures)
