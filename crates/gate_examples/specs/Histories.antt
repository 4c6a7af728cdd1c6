-- Histories of the whole core, event by event. Later turns stand in front of what they follow (`after_turns`).
use Rattle.std.specs.Prelude.{ℕ, List, [], ◌∷◌, ◌++◌, codes}
use Rattle.gate_law.specs.soup_session.declared.port_fault.PortFault.TheVariants.{UnknownToken, SequenceGap}
use Rattle.gate_law.specs.soup_session.declared.port_fault.PortFault.TheVariants.{OtherSession}
use Rattle.gate_law.specs.fix_fields.Field.{Message}
use Rattle.order_examples.specs.Transcript.{enter_message, enter_sale_message, replace_message, cancel_message}
use Rattle.order_examples.specs.Transcript.{accepted_message, executed_message, canceled_message}
use Rattle.gate_law.specs.Events.{ClientUp, ClientMessage, ClientGone, ClientTick, PortUp, PortPacket, PortGone}
use Rattle.gate_law.specs.Events.{PortTick, Close, Batch, empty, Turn, History}
use Rattle.gate_examples.specs.Transcript.{from, to, report_out, login_accepted, sequenced, end, one, wrote, login_out}
use Rattle.gate_examples.specs.Transcript.{blank_session, asked_out, client_batch, port_batch, told_batch}
use Rattle.gate_examples.specs.Transcript.{told_and_asked, port_faulted, turn, after_turns}

-- ---- first: port 1 is up on its link 1, and client 1 is logged on on its link 1

abbrev pub port_is_up : ℕ → List Turn
port_is_up p =
    turn (PortUp p 1 0) (port_batch p (login_out 1 blank_session (codes "1") ∷ []))
    ∷ turn (PortPacket p 1 0 (login_accepted one (codes "1"))) empty
    ∷ []

abbrev pub client_is_on : ℕ → List Turn
client_is_on c =
    turn (ClientUp c 1 0) empty
    ∷ turn (ClientMessage c 1 0 (from c 1 (codes "35=A|98=0|108=30")))
    (client_batch c (wrote 1 (to c 1 (codes "35=A|98=0|108=30")) ∷ []))
    ∷ []

abbrev pub first : History
first = after_turns (port_is_up 1 ++ client_is_on 1) []

-- ---- an order of 300 at 23.45 is entered, and accepted

abbrev pub order_text : List ℕ
order_text = codes "35=D|11=A1|54=1|55=INTC|38=300|40=2|44=23.45|59=0|528=P"

abbrev pub day_entered : History
day_entered =
    turn (ClientMessage 1 1 0 (from 1 2 order_text))
    (told_and_asked 1 1
    (report_out 1 2 (codes "35=8|37=1|11=A1|17=1|150=A|39=A|55=INTC|54=1|38=300|44=23.45|151=300|14=0|6=0") ∷ [])
    1 (asked_out 1 (enter_message 1 300) ∷ []))
    ∷ first

abbrev pub accepted_once : List ℕ
accepted_once = accepted_message 1 300 (codes "INTC    ") (codes "L")

abbrev pub accepted_report : Message
accepted_report = report_out 1 3 (codes "35=8|37=1|11=A1|17=2|150=0|39=0|55=INTC|54=1|38=300|44=23.45|151=300|14=0|6=0")

abbrev pub day_entered_and_accepted : History
day_entered_and_accepted =
    turn (PortPacket 1 1 0 (sequenced accepted_once))
    (told_batch 1 1 (accepted_report ∷ []))
    ∷ day_entered

-- ---- the port's link is lost and comes back: it asks for number 2, since one message was given

abbrev pub link_is_lost : List Turn
link_is_lost =
    turn (PortGone 1 1 0) empty
    ∷ turn (PortUp 1 2 0) (port_batch 1 (login_out 2 one (codes "2") ∷ []))
    ∷ []

-- ---- four messages are unanswered as the link is lost, and are sent again in order

abbrev pub day_four_unanswered : History
day_four_unanswered =
    after_turns (turn (ClientMessage 1 1 0 (from 1 3 (codes "35=D|11=B1|54=2|55=MSFT|38=10|40=2|44=1.5|59=3")))
    (told_and_asked 1 1
    (report_out 1 4 (codes "35=8|37=2|11=B1|17=3|150=A|39=A|55=MSFT|54=2|38=10|44=1.5|151=10|14=0|6=0") ∷ [])
    1 (asked_out 1 (enter_sale_message 2) ∷ []))
    ∷ turn (ClientMessage 1 1 0 (from 1 4 (codes "35=G|41=A1|11=A2|38=500|40=2|44=23.45")))
    (told_and_asked 1 1
    (report_out 1 5 (codes "35=8|37=1|11=A2|41=A1|17=4|150=E|39=E|55=INTC|54=1|38=300|44=23.45|151=300|14=0|6=0") ∷ [])
    1 (asked_out 1 (replace_message 1 3 500) ∷ []))
    ∷ turn (ClientMessage 1 1 0 (from 1 5 (codes "35=F|41=A2|11=A3")))
    (told_and_asked 1 1
    (report_out 1 6 (codes "35=8|37=1|11=A3|41=A2|17=5|150=6|39=6|55=INTC|54=1|38=300|44=23.45|151=300|14=0|6=0") ∷ [])
    1 (asked_out 1 (cancel_message 1) ∷ asked_out 1 (cancel_message 3) ∷ []))
    ∷ []) day_entered_and_accepted

abbrev pub four_asked_again : History
four_asked_again =
    turn (PortPacket 1 2 0 (login_accepted one (codes "2")))
    (port_batch 1 (asked_out 2 (enter_sale_message 2) ∷ asked_out 2 (replace_message 1 3 500)
    ∷ asked_out 2 (cancel_message 1) ∷ asked_out 2 (cancel_message 3) ∷ []))
    ∷ after_turns link_is_lost day_four_unanswered

-- ---- a message that comes again is dropped, and the next one is told

abbrev pub repeat_is_dropped : History
repeat_is_dropped =
    after_turns (turn (PortPacket 1 2 0 (login_accepted one (codes "1"))) empty
    ∷ turn (PortPacket 1 2 0 (sequenced accepted_once)) empty
    ∷ turn (PortPacket 1 2 0 (sequenced (executed_message 1 300 234500 7)))
    (told_batch 1 1
    (report_out 1 4
    (codes "35=8|37=1|11=A1|17=3|150=F|39=2|55=INTC|54=1|38=300|44=23.45|32=300|31=23.45|151=0|14=300|6=23.45")
    ∷ []))
    ∷ []) (after_turns link_is_lost day_entered_and_accepted)

-- a login that leaves numbers out, and one of another session
abbrev pub numbers_are_left_out : History
numbers_are_left_out = turn (PortPacket 1 2 0 (login_accepted one (codes "5"))) (port_faulted 1 2 SequenceGap)
    ∷ after_turns link_is_lost day_entered_and_accepted

abbrev pub session_is_another : History
session_is_another = turn (PortPacket 1 2 0 (login_accepted (codes "SESSION002") (codes "2")))
    (port_faulted 1 2 OtherSession) ∷ after_turns link_is_lost day_entered_and_accepted

-- ---- a cancel while the port is down, or logs in: it is accepted, and sent as the port comes up

abbrev pub cancel_report : Message
cancel_report = report_out 1 4
    (codes "35=8|37=1|11=A2|41=A1|17=3|150=6|39=6|55=INTC|54=1|38=300|44=23.45|151=300|14=0|6=0")

abbrev pub day_cancelled_while_down : History
day_cancelled_while_down =
    after_turns (turn (PortGone 1 1 0) empty
    ∷ turn (ClientMessage 1 1 0 (from 1 3 (codes "35=F|41=A1|11=A2")))
    (told_batch 1 1 (cancel_report ∷ []))
    ∷ []) day_entered_and_accepted

abbrev pub told_while_logging_in : Batch
told_while_logging_in = told_batch 1 1 (cancel_report ∷ [])

abbrev pub cancelled_while_logging_in : History
cancelled_while_logging_in =
    after_turns (turn (PortGone 1 1 0) empty
    ∷ turn (PortUp 1 2 0) (port_batch 1 (login_out 2 one (codes "2") ∷ []))
    ∷ turn (ClientMessage 1 1 0 (from 1 3 (codes "35=F|41=A1|11=A2")))
    told_while_logging_in
    ∷ turn (PortPacket 1 2 0 (login_accepted one (codes "2"))) (port_batch 1 (asked_out 2 (cancel_message 1) ∷ []))
    ∷ []) day_entered_and_accepted

abbrev pub cancel_asked_again : History
cancel_asked_again =
    after_turns (turn (PortUp 1 2 0) (port_batch 1 (login_out 2 one (codes "2") ∷ []))
    ∷ turn (PortPacket 1 2 0 (login_accepted one (codes "2"))) (port_batch 1 (asked_out 2 (cancel_message 1) ∷ []))
    ∷ []) day_cancelled_while_down

-- ---- a port at fault refuses orders from then on, and the other port takes them

abbrev pub day_ordered_on_a_faulted_port : History
day_ordered_on_a_faulted_port =
    after_turns (turn (PortPacket 1 1 0 (sequenced (canceled_message 9 100 (codes "U"))))
    (port_faulted 1 1 UnknownToken)
    ∷ turn (ClientMessage 1 1 0 (from 1 2 order_text))
    (told_batch 1 1
    (report_out 1 2
    (codes "35=8|37=1|11=A1|17=1|150=8|39=8|103=2|55=INTC|54=1|38=300|44=23.45|151=0|14=0|6=0|58=port fault 2")
    ∷ []))
    ∷ turn (ClientMessage 3 1 0 (from 3 2 order_text))
    (told_and_asked 3 1
    (report_out 3 2 (codes "35=8|37=2|11=A1|17=2|150=A|39=A|55=INTC|54=1|38=300|44=23.45|151=300|14=0|6=0") ∷ [])
    2 (asked_out 1 (enter_message 1 300) ∷ []))
    ∷ turn (PortGone 1 1 0) empty
    ∷ turn (PortUp 1 2 0) (port_batch 1 (Close 2 ∷ []))
    ∷ turn (PortPacket 1 2 0 (login_accepted one (codes "2"))) empty
    ∷ []) (after_turns (port_is_up 2 ++ client_is_on 3) first)

-- an ended one likewise
abbrev pub day_ordered_after_the_end : History
day_ordered_after_the_end =
    after_turns (turn (PortPacket 1 1 0 end) (port_batch 1 (Close 1 ∷ []))
    ∷ turn (ClientMessage 1 1 0 (from 1 2 order_text))
    (told_batch 1 1
    (report_out 1 2
    (codes "35=8|37=1|11=A1|17=1|150=8|39=8|103=2|55=INTC|54=1|38=300|44=23.45|151=0|14=0|6=0|58=market session ended")
    ∷ []))
    ∷ turn (PortUp 1 2 0) (port_batch 1 (Close 2 ∷ []))
    ∷ []) first

-- ---- links

-- events of links of before, and of numbers that nobody has
abbrev pub other_links : History
other_links =
    after_turns (turn (PortPacket 1 1 0 (sequenced (executed_message 1 300 234500 7))) empty
    ∷ turn (PortGone 1 1 0) empty
    ∷ turn (ClientMessage 1 2 0 (from 1 3 (codes "35=F|41=A1|11=A2"))) empty
    ∷ turn (ClientGone 1 2 0) empty
    ∷ turn (ClientUp 4 1 0) empty
    ∷ turn (ClientMessage 4 1 0 (from 4 1 (codes "35=A|98=0|108=30"))) empty
    ∷ turn (ClientTick 0 0) empty
    ∷ turn (PortUp 3 1 0) empty
    ∷ turn (PortPacket 3 1 0 end) empty
    ∷ turn (PortTick 3 20000) empty
    ∷ []) (after_turns link_is_lost day_entered_and_accepted)

-- a second link is closed, and the first stays; its own number again is nothing
abbrev pub second_links : History
second_links =
    after_turns (turn (ClientUp 1 2 0) (client_batch 1 (Close 2 ∷ []))
    ∷ turn (ClientUp 1 1 0) empty
    ∷ turn (PortUp 1 2 0) (port_batch 1 (Close 2 ∷ []))
    ∷ turn (PortUp 1 1 0) empty
    ∷ turn (ClientGone 1 2 0) empty
    ∷ turn (PortGone 1 2 0) empty
    ∷ []) day_entered_and_accepted

-- a client that is gone misses a report, which takes its number; silence closes the port's link
abbrev pub client_is_away : History
client_is_away =
    after_turns (turn (ClientGone 1 1 0) empty
    ∷ turn (PortPacket 1 1 0 (sequenced accepted_once))
    (record (told_batch 1 1 (accepted_report ∷ [])) { client_out = [] })
    ∷ turn (PortTick 1 15001) (port_batch 1 (Close 1 ∷ []))
    ∷ turn (PortPacket 1 1 15001 end) empty
    ∷ turn (PortUp 1 2 15001) (port_batch 1 (login_out 2 one (codes "2") ∷ []))
    ∷ []) day_entered

-- a second client's link is up
abbrev pub second_client_is_up : History
second_client_is_up = turn (ClientUp 2 1 0) empty ∷ first
