-- Which application messages are refused at the session level, by a required tag that is missing or a value of
-- another format; and what the others say. (FIX 4.4 Volume 4, "New Order - Single", "Order Cancel Request", "Order
-- Cancel/Replace Request"; the tables are fix_types'.)
use Rattle.std.specs.Prelude.{Option, if◌then◌else◌, codes}
use Rattle.fix_framing.specs.fix_fields.declared.session_refusal.SessionRefusal.{SessionRefusal}
use Rattle.fix_types.specs.Requests.{new_order_refusal, cancel_refusal, replace_refusal}
use Rattle.fix_types.specs.declared.application.AppMsg.{AppMsg}
use Rattle.fix_types.specs.declared.application.AppMsg.TheVariants.{New, Cancel, Replace}
use Rattle.fix_types.specs.NewOrder.{new_order_of}
use Rattle.fix_types.specs.CancelRequest.{cancel_request_of}
use Rattle.fix_types.specs.ReplaceRequest.{replace_request_of}
use Rattle.fix_framing.specs.fix_fields.Field.{Message, is}

-- what an application message is refused with, by its type
abbrev pub application_refusal : Message → Option SessionRefusal
application_refusal m =
    if is 35 (codes "D") m then new_order_refusal m
    else if is 35 (codes "F") m then cancel_refusal m else replace_refusal m

-- the message that the fields of an application message say, by its type
abbrev pub application_of : Message → AppMsg
application_of m =
    if is 35 (codes "D") m then New (new_order_of m)
    else if is 35 (codes "F") m then Cancel (cancel_request_of m) else Replace (replace_request_of m)
