use Rattle.std.proofs.Common.{refl, ap}
use Rattle.ouch_codec.specs.declared.outbound.Outbound.TheVariants as market
use Rattle.ouch_codec.specs.LaidOut.{same_written}
use Rattle.ouch_codec.specs.RejectedLaws.{rejected_laid_out}
use Rattle.market_book.proofs.saying.rejected_replacement.Goals as goal

pub returns : goal.returns
returns c = ap market.Rejected (same_written rejected_laid_out _ _ refl)
