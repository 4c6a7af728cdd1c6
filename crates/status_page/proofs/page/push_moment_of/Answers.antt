use Rattle.std.specs.Prelude.{codes, string_bytes}
use Rattle.fix_stamp.specs.Stamp.{stamp_text}
use Rattle.status_page.specs.Page.{counted, moment_of, told}
use Rattle.status_page.proofs.Joined.{joined3}
use Rattle.status_page.proofs.page.push_moment_of.Goals as goal

pub returns : goal.returns
unfolding moment_of
returns c =
    let shown = c.args.shown.now in
    rw (
      c.in_ok-push_str.ensures.bytes,
      c.in_ok-push_count.ensures,
      c.in_ok-push_told.ensures,
      c.stamp.ensures.text,
      c.events.ensures,
    )
    (joined3 (string_bytes c.args.page.now) (told (codes "as it stood at ") (stamp_text shown.at)) (counted (codes " UTC, after ") shown.status.events) (codes " events; "))
