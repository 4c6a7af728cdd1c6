use Rattle.std.proofs.Common.{◌∷◌, arith}
use Rattle.std.proofs.lemmas.Result.{IfOk-weaker}
use Rattle.fix_types.specs.Application.{message_fields}
use Rattle.to_market.specs.PortsSeen.{port_seen}
use Rattle.order_machine.proofs.Known.{asked-found}
use Rattle.order_machine.proofs.Numbers.{number-of}
use Rattle.order_machine.proofs.Running.{headline-of}
use Rattle.outstanding.proofs.Asking.{said-of-order}
use Rattle.outstanding.proofs.InTurns.{client-turns}
use Rattle.order_core.specs.Turns.{client_turn}
use Rattle.order_core.proofs.Turns.{client-after, parts-of}
use Rattle.order_core.proofs.order_core.OrderCore.client.Goals as goal

pub returns-clause-after : goal.returns-clause-after
returns-clause-after g c =
    IfOk-weaker c.client_step.result _ _
    (λ out meets terms before short after.
    let leaves = (parts-of terms before c.args.self.now after).0 in
    client-after terms before c.args.self.now c.args.client c.args.message.now c.args.port out c.client_step.new.self
    short
    client-turns said-of-order
    (λ client id o named. number-of terms before c.args.self.now.table client id o short leaves named)
    (λ order_of leads. asked-found terms before c.args.self.now.table c.args.client (message_fields c.args.message.now)
    (port_seen c.args.port) order_of short leaves leads)
    meets after)
    c.client_step.ensures.meets

pub returns-clause-headline : goal.returns-clause-headline
returns-clause-headline g c =
    IfOk-weaker c.client_step.result _ _
    (λ out meets terms before short after.
    let leaves = (parts-of terms before c.args.self.now after).0 in
    let then_after =
    client-after terms before c.args.self.now c.args.client c.args.message.now c.args.port out c.client_step.new.self
    short
    client-turns said-of-order
    (λ client id o named. number-of terms before c.args.self.now.table client id o short leaves named)
    (λ order_of leads. asked-found terms before c.args.self.now.table c.args.client (message_fields c.args.message.now)
    (port_seen c.args.port) order_of short leaves leads)
    meets after in
    headline-of terms (client_turn c.args.client c.args.message.now c.args.port out ∷ before)
    c.client_step.new.self.table (omega (arith, short))
    (parts-of terms (client_turn c.args.client c.args.message.now c.args.port out ∷ before) c.client_step.new.self
    then_after).0)
    c.client_step.ensures.meets
