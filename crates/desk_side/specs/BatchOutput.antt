-- What a batch tells, apart from the batch. (Own.)
use Rattle.std.specs.Prelude.{◌≡◌, List, [], if◌then◌else◌}
use Rattle.gate_law.specs.Events.{Batch, LinkOut, is_the_number}
use Rattle.gate_events.specs.declared.source.Recipient.{Recipient}
use Rattle.gate_events.specs.declared.source.Recipient.TheVariants as recipients
use Rattle.desk_side.specs.declared.batch_output.BatchOutput.{BatchOutput}

-- it is what this batch tells
abbrev pub IsOutputOf : Batch → BatchOutput → Type 0
IsOutputOf b s = (s.client ≡ b.client) × (s.client_output ≡ b.client_out) × (s.port ≡ b.port)
    × (s.port_output ≡ b.port_out)

-- what one link is told
abbrev pub list_for : Recipient → BatchOutput → List LinkOut
list_for (recipients.Client n) s = if is_the_number n s.client then s.client_output else []
list_for (recipients.Port n) s = if is_the_number n s.port then s.port_output else []
