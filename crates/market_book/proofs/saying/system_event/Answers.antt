use Rattle.std.proofs.Common.{refl, ap}
use Rattle.ouch_codec.specs.declared.outbound.Outbound.TheVariants as market
use Rattle.ouch_codec.specs.LaidOut.{same_written}
use Rattle.ouch_codec.specs.SystemEventLaws.{system_event_laid_out}
use Rattle.market_book.proofs.saying.system_event.Goals as goal

pub returns : goal.returns
returns c = ap market.SystemEvent (same_written system_event_laid_out _ _ refl)
