-- How the code's values are seen by the law.
use Rattle.std.specs.Prelude.{ℕ, Bool, Option, Some, None}
use Rattle.fix_types.specs.declared.application.AppBody.{AppBody}
use Rattle.fix_types.specs.Application.{body_fields}
use Rattle.to_market.specs.order_law.Reading.{is_report}

-- a client's number, 0 for nobody
abbrev pub client_seen : Option ℕ → ℕ
client_seen None = 0
client_seen (Some client) = client

-- a body is a report, which has an ExecID
unfoldable pub tells_report : AppBody → Bool
tells_report body = is_report (body_fields body)
