-- Messages of clients and bodies for clients as the fields that they say, each by its own layout (FIX 4.4 Volume 4).
use Rattle.std.specs.Prelude.{List}
use Rattle.fix_values.specs.Field.{Field}
use Rattle.fix_types.specs.declared.application.AppBody.{AppBody}
use Rattle.fix_types.specs.declared.application.AppBody.TheVariants as bodies
use Rattle.fix_types.specs.declared.application.AppMsg.{AppMsg}
use Rattle.fix_types.specs.declared.application.AppMsg.TheVariants as messages
use Rattle.fix_types.specs.NewOrder.{new_order_fields}
use Rattle.fix_types.specs.CancelRequest.{cancel_request_fields}
use Rattle.fix_types.specs.ReplaceRequest.{replace_request_fields}
use Rattle.fix_types.specs.Report.{report_fields}
use Rattle.fix_types.specs.CancelReject.{cancel_reject_fields}

-- a client's message, as fields
abbrev pub message_fields : AppMsg → List Field
message_fields (messages.New order) = new_order_fields order
message_fields (messages.Cancel request) = cancel_request_fields request
message_fields (messages.Replace request) = replace_request_fields request

-- a body for a client, as fields
abbrev pub body_fields : AppBody → List Field
body_fields (bodies.Report report) = report_fields report
body_fields (bodies.CancelReject reject) = cancel_reject_fields reject
