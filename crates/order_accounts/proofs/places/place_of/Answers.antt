use Rattle.order_accounts.proofs.Placing.{placed, unplaced}
use Rattle.order_accounts.proofs.places.place_of.Goals as goal

pub returns-in-Some-clause-place : goal.returns-in-Some-clause-place
returns-in-Some-clause-place c = placed c.args.count c.args.digits.now c.number_of.result c.in-Some.number
    c.number_of.ensures c.in-Some.is

pub returns-in-None-clause-place : goal.returns-in-None-clause-place
returns-in-None-clause-place c = unplaced c.args.count c.args.digits.now c.number_of.result c.number_of.ensures
    c.in-None.is
