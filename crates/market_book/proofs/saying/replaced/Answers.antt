use Rattle.std.proofs.Common.{refl, ap}
use Rattle.ouch_codec.specs.declared.outbound.Outbound.TheVariants as market
use Rattle.ouch_codec.specs.LaidOut.{same_written}
use Rattle.ouch_codec.specs.ReplacedLaws.{replaced_laid_out}
use Rattle.market_book.proofs.saying.replaced.Goals as goal

pub returns : goal.returns
returns c = λ set. ap market.Replaced (same_written replaced_laid_out _ _ refl)
