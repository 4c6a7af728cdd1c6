use Rattle.fix_types.proofs.WrittenNewOrder.{new_order_passes}
use Rattle.fix_types.proofs.new_order.NewOrderTextWireFieldsTextFault.get.Goals as goal

pub returns-in-Some-clause-read : goal.returns-in-Some-clause-read
returns-in-Some-clause-read c = λ m is e. absurd
    (new_order_passes c.args.fields.now c.in-Some.refusal c.in-Some.ensures m is e)
