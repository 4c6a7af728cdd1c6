use Rattle.std.proofs.Common.{◌≡◌, [], ◌∷◌, ◌++◌, ap, arith}
use Rattle.order_machine.specs.OrderRecord.{OrderRecord, at}
use Rattle.to_market.specs.orders.Seen.{replace_seen}
use Rattle.order_core.specs.LedgerState.{clients, ledger_numbers}
use Rattle.order_core.proofs.Stepped.{now-is, one_token, table_of}
use Rattle.order_core.proofs.ledger.OrderLedger.accept_replace.Goals as goal

pub returns-clause-keeps : goal.returns-clause-keeps
returns-clause-keeps g c =
    let tokens = one_token c.self.inside.table c.accept_replace.new.self c.args.order_id c.args.given
    (λ (o : OrderRecord). at o (o.replaces ++ replace_seen o.new.client c.args.order_id c.args.replacing ∷ [])
    o.cancel) c.in_ok-accept_replace.ensures.accepted c.accept_replace.ensures.full c.accept_replace.ensures.unknown
    in
    let before : ledger_numbers (table_of c.self.inside.terms.items c.self.inside.table c.self.inside.used
    c.self.inside.order_ids c.self.inside.exec_ids) ≡ ledger_numbers c.args.self.now.now =
    ap ledger_numbers (now-is c.self.view_is) in
    record { clients = ap clients (now-is c.self.view_is); issued = omega (arith, tokens, before) }
