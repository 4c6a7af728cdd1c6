-- That a line is over the ends of whom it is of.
use Rattle.gate_events.specs.declared.source.Source.{Source}
use Rattle.gate_events.specs.declared.source.Source.TheVariants as sources
use Rattle.gate_events.specs.declared.source.Recipient.{Recipient}
use Rattle.gate_events.specs.declared.source.Recipient.TheVariants as recipients

-- the source of a client's or port's events
abbrev pub source_of_peer : Recipient → Source
source_of_peer (recipients.Client n) = sources.Client n
source_of_peer (recipients.Port n) = sources.Port n
