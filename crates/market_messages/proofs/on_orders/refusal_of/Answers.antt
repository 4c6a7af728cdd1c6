use Rattle.std.proofs.Common.{subst, Err}
use Rattle.market_messages.specs.declared.heard.RowFault.{RowFault}
use Rattle.market_messages.specs.Meets.{MeetsRow}
use Rattle.market_messages.proofs.on_orders.refusal_of.Goals as goal

pub returns-in-NotLawful : goal.returns-in-NotLawful
returns-in-NotLawful c = λ issued m o meets. subst
    (λ (f : RowFault). MeetsRow issued m o (Err f)) c.in-NotLawful.is meets
