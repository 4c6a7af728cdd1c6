use Rattle.std.proofs.Common.{rules}
use Rattle.day_export.proofs.Asked.{said-enter, said-replace, said-cancel, said-nothing}
use Rattle.day_export.proofs.market.cells_of_inbound.Goals as goal

pub returns-in-Some : goal.returns-in-Some
returns-in-Some c =
    rw (said-enter c.in-Some.m c.args.payload.now c.in-Some.ensures.same) c.priced.ensures

pub returns-in-Some-get : goal.returns-in-Some-get
returns-in-Some-get c =
    rw (said-replace c.in-Some-get.m c.args.payload.now c.in-Some-get.ensures.same c.in_default.ensures.spelled.1)
    c.replaced.ensures

pub returns-in-Some-get-2 : goal.returns-in-Some-get-2
returns-in-Some-get-2 c =
    rw (said-cancel c.in-Some-get-2.m c.args.payload.now c.in-Some-get-2.ensures.same c.in_default.ensures.spelled.1
    c.in_default-get.ensures.spelled.1) c.counted.ensures

pub returns : goal.returns
returns c =
    rw (said-nothing c.args.payload.now c.in_default.ensures.spelled.1 c.in_default-get.ensures.spelled.1
    c.in_default-get-2.ensures.spelled.1) (search rules)
