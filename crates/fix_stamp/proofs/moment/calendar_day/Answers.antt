use Rattle.std.proofs.Common.{arith}
use Rattle.jiff_core.proofs.SignedLemmas.{signed_arith}
use Rattle.jiff_core.proofs.CalendarLemmas.{days_in_month_bounds}
use Rattle.fix_stamp.proofs.Days.{date_of}
use Rattle.fix_stamp.proofs.moment.calendar_day.Goals as goal

pub returns-clause-year : goal.returns-clause-year
returns-clause-year c =
    let d = date_of c.date_of_day-date.result c.args.days c.date_of_day-date.ensures in
    omega (arith, signed_arith, d.year, c.year.ensures, c.unsigned_abs.ensures.value, c.date_of_day-date.result.year_in)

pub returns-clause-month : goal.returns-clause-month
returns-clause-month c =
    let d = date_of c.date_of_day-date.result c.args.days c.date_of_day-date.ensures in
    omega (
      arith,
      signed_arith,
      d.month,
      c.month.ensures,
      c.unsigned_abs-2.ensures.value,
      c.date_of_day-date.result.month_in,
    )

pub returns-clause-day : goal.returns-clause-day
returns-clause-day c =
    let d = date_of c.date_of_day-date.result c.args.days c.date_of_day-date.ensures in
    omega (
      arith,
      signed_arith,
      d.day,
      c.day.ensures,
      c.unsigned_abs-3.ensures.value,
      c.date_of_day-date.result.day_in,
      days_in_month_bounds,
    )
