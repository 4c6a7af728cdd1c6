use Rattle.std.proofs.Common.{refl, ap}
use Rattle.ouch_codec.specs.declared.outbound.Outbound.TheVariants as market
use Rattle.ouch_codec.specs.LaidOut.{same_written}
use Rattle.ouch_codec.specs.BrokenLaws.{broken_laid_out}
use Rattle.market_book.proofs.saying.broken_trade.Goals as goal

pub returns : goal.returns
returns c = ap market.Broken (same_written broken_laid_out _ _ (rw c.live_token.ensures refl))
