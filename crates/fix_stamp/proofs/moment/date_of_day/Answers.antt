use Rattle.std.proofs.Common.{arith}
use Rattle.jiff_core.proofs.DateTimeLemmas.{civil_nanos-parts, time_nanos_bound}
use Rattle.jiff_core.proofs.SignedLemmas.{signed_arith}
use Rattle.fix_stamp.proofs.moment.date_of_day.Goals as goal

pub returns : goal.returns
returns c =
    let dt = c.to_datetime.result in
    let parts = civil_nanos-parts dt in
    let bound = time_nanos_bound dt.time in
    let shows = c.to_datetime.ensures in
    let moment = rw c.unwrap-moment.ensures at c.from_second.ensures.value in
    rw c.date.ensures (omega (arith, signed_arith, parts, bound, shows, moment))
