-- A message that is answered is marked, so that it can be awaited again; when the messages are settled it is no more.
use Rattle.std.specs.Prelude.{ℕ, Bool, true, false, not, List, map, filter, if◌then◌else◌}
use Rattle.order_law.specs.ouch_codec.declared.inbound.Inbound.{Inbound}
use Rattle.outstanding.specs.declared.asked.AskedMessage.{AskedMessage}
use Rattle.outstanding.specs.declared.asked.Answer.{Answer}
use Rattle.outstanding.specs.declared.asked.Answer.TheVariants.{Awaited, Given, Settled}
use Rattle.outstanding.specs.Kept.{KeptMessage, seen}

abbrev pub awaits : Answer → Bool
awaits Awaited = true
awaits Given = false
awaits Settled = false

abbrev pub was_given : Answer → Bool
was_given Awaited = false
was_given Given = true
was_given Settled = false

abbrev pub was_settled : Answer → Bool
was_settled Awaited = false
was_settled Given = false
was_settled Settled = true

-- it isn't answered
abbrev pub is_unanswered : AskedMessage → Bool
is_unanswered asked = awaits asked.answer

-- it was answered since the messages were settled
abbrev pub is_given : AskedMessage → Bool
is_given asked = was_given asked.answer

-- it was answered before
abbrev pub is_settled : AskedMessage → Bool
is_settled asked = was_settled asked.answer

-- it wasn't answered when the messages were settled
abbrev pub is_held : AskedMessage → Bool
is_held asked = not (is_settled asked)

-- those that aren't answered
abbrev pub unanswered : List AskedMessage → List KeptMessage
unanswered messages = map seen (filter is_unanswered messages)

-- those that weren't when they were settled
abbrev pub held : List AskedMessage → List KeptMessage
held messages = map seen (filter is_held messages)

-- a message with another answer
abbrev pub with_answer : (Answer → Answer) → AskedMessage → AskedMessage
with_answer change asked = record asked { answer = change asked.answer }

-- given, if it is awaited and the test passes
abbrev pub given_if : Bool → Answer → Answer
given_if b Awaited = if b then Given else Awaited
given_if b Given = Given
given_if b Settled = Settled

-- settled, if it is given
abbrev pub settled_now : Answer → Answer
settled_now Awaited = Awaited
settled_now Given = Settled
settled_now Settled = Settled

-- awaited, if it was given since
abbrev pub awaited_again : Answer → Answer
awaited_again Awaited = Awaited
awaited_again Given = Awaited
awaited_again Settled = Settled

-- marked, where it isn't answered and passes a test
abbrev pub marked_by : (KeptMessage → Bool) → AskedMessage → AskedMessage
marked_by test asked = with_answer (given_if (test (seen asked))) asked

-- settled, and awaited again, where it was answered since
abbrev pub settled_one : AskedMessage → AskedMessage
settled_one asked = with_answer settled_now asked

abbrev pub unmarked : AskedMessage → AskedMessage
unmarked asked = with_answer awaited_again asked

-- a message of an order, as it is kept when a port is asked it
abbrev pub asked_of : ℕ → ℕ → Inbound → AskedMessage
asked_of port order_id message =
    record { order_id = order_id; message = message; port = port; answer = Awaited }
