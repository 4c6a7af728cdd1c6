-- How many steps a link's engine still makes, and the fault with which its link ended.
use Rattle.std.specs.Prelude.{◌≡◌, ℕ, ◌-◌, ◌==◌, Option, Some, None, Result, Ok, Err, if◌then◌else◌}
use Rattle.link_decoders.specs.declared.decode_fault.DecodeFault as decoding
use Rattle.link_io.specs.declared.limit.Limit.{Limit}
use Rattle.link_io.specs.declared.link_fault.LinkFault.{LinkFault}
use Rattle.link_io.specs.declared.link_fault.LinkFault.TheVariants.{ReadFailed, WriteFailed, Malformed, StepLimit}
use Rattle.link_io.specs.declared.link_fault.LinkFault.TheVariants.{NoMemory}

abbrev pub fault_number : LinkFault → ℕ
fault_number ReadFailed = 1
fault_number WriteFailed = 2
fault_number Malformed = 3
fault_number StepLimit = 4
fault_number NoMemory = 5

-- the fault of a link whose decoder made no further event
abbrev pub of_decoding : decoding.DecodeFault → LinkFault
of_decoding decoding.TheVariants.Malformed = Malformed
of_decoding decoding.TheVariants.NoMemory = NoMemory

-- the fault with which a link ends that had this one in a step: none where only memory ran out
abbrev pub end_by : LinkFault → Option LinkFault
end_by ReadFailed = Some ReadFailed
end_by WriteFailed = Some WriteFailed
end_by Malformed = Some Malformed
end_by StepLimit = Some StepLimit
end_by NoMemory = None

abbrev pub end_after : {A : Type 0} → Result A LinkFault → Option LinkFault
end_after (Ok done) = None
end_after (Err fault) = end_by fault

-- what the next step answers without a read, a write, a put or a take: the fault with which the link ended; or that
-- the steps are used up
abbrev pub refusal_of : Option LinkFault → ℕ → Option LinkFault
refusal_of (Some fault) left = Some fault
refusal_of None left = if left == 0 then Some StepLimit else None

abbrev pub refusal : Limit → Option LinkFault
refusal limit = refusal_of limit.over limit.left

-- the limit after a step that answered so
abbrev pub limit_at : Option LinkFault → Limit → Option LinkFault → Limit
limit_at (Some fault) limit end = record { left = limit.left; over = Some fault }
limit_at None limit end = record { left = limit.left - 1; over = end }

abbrev pub limit_after : {A : Type 0} → Limit → Result A LinkFault → Limit
limit_after limit answer = limit_at (refusal limit) limit (end_after answer)

-- a step begins, or is answered at once
abbrev pub Begins : {A : Type 0} → Result A LinkFault → Limit → Limit → Type 0
Begins (Ok begun) old new = (refusal old ≡ None) × (new ≡ record { left = old.left - 1; over = None })
Begins (Err fault) old new = (refusal old ≡ Some fault) × (new ≡ record { left = old.left; over = Some fault })
