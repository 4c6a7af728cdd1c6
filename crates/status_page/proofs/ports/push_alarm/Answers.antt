use Rattle.std.specs.Prelude.{codes, string_bytes}
use Rattle.status_page.specs.Page.{alarm, numbered, standing}
use Rattle.status_page.proofs.Joined.{joined3}
use Rattle.status_page.proofs.ports.push_alarm.Goals as goal

pub returns : goal.returns
unfolding alarm
returns c =
    rw (c.in_ok-push_str.ensures.bytes, c.in_ok-push_standing.ensures, c.in_ok-push_numbered.ensures)
    (joined3 (string_bytes c.args.page.now) (numbered (codes "<div class=\"alarm\"><b>P") c.args.number (codes "</b> at ") c.args.address.now) (standing c.args.state) (codes "</div>\n"))
