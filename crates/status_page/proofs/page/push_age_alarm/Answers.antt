use Rattle.std.specs.Prelude.{codes, string_bytes}
use Rattle.status_page.specs.Page.{age, age_alarm}
use Rattle.status_page.proofs.Joined.{joined3}
use Rattle.status_page.proofs.page.push_age_alarm.Goals as goal

pub returns : goal.returns
unfolding age_alarm
returns c =
    rw (c.in_ok-push_str-2.ensures.bytes, c.in_ok-push_age.ensures, c.in_ok-push_str.ensures.bytes)
    (joined3 (string_bytes c.args.page.now) (codes "<div class=\"alarm\"><b>") (age c.args.shown.now c.args.now) (codes "</b>: memory is refused, or the gateway hangs.</div>\n"))
