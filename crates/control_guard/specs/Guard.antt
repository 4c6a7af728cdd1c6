-- What becomes of a request to the control endpoint: the first row that holds counts.
--
-- Source: RFC 9110, 7.2 "Host and :authority", 11.6.2 "Authorization"; RFC 6454, 7 "The HTTP Origin Header Field".
use Rattle.std.specs.Prelude.{ℕ, Bool, true, false, not, ◌&&◌, List, ◌++◌, map, codes, bytes_eq, Option, Some}
use Rattle.std.specs.Prelude.{None, option_map, if◌then◌else◌, nat_le, take, drop}
use Rattle.std.specs.Char.{is_ascii_digit}
use Rattle.std.specs.List.{list_all, list_any}
use Rattle.wire_bytes.specs.Digits.{number_of}
use Rattle.control_guard.specs.declared.request.Request.{Request}
use Rattle.control_guard.specs.declared.request.Rules.{Rules}
use Rattle.control_guard.specs.declared.request.Method.{Method}
use Rattle.control_guard.specs.declared.request.Method.TheVariants as methods
use Rattle.control_guard.specs.declared.asked.Act.{Act}
use Rattle.control_guard.specs.declared.asked.Act.TheVariants as acts
use Rattle.control_guard.specs.declared.asked.Asked.{Asked}
use Rattle.control_guard.specs.declared.asked.Asked.TheVariants as askings
use Rattle.control_guard.specs.declared.asked.View.{View}
use Rattle.control_guard.specs.declared.asked.View.TheVariants as views
use Rattle.control_guard.specs.declared.table.Verdict.{Verdict}
use Rattle.control_guard.specs.declared.table.Verdict.TheVariants.{Does, Refused, Shows}
use Rattle.control_guard.specs.declared.table.Refusal.TheVariants as refusals

-- ---- what is asked, by path and query

abbrev pub asked_plainly : List ℕ → Option Asked
asked_plainly path =
    if bytes_eq path (codes "/") then Some (askings.Show views.Page)
    else if bytes_eq path (codes "/status.json") then Some (askings.Show views.Json)
    else if bytes_eq path (codes "/metrics") then Some (askings.Show views.Metrics)
    else if bytes_eq path (codes "/end") then Some (askings.Do acts.End)
    else None

-- a client is disconnected by its number: digits, for 1 to as many as there are
abbrev pub disconnect_in : ℕ → List ℕ → Option Asked
disconnect_in clients digits =
    if list_all is_ascii_digit digits && nat_le 1 (number_of digits)
    && nat_le (number_of digits) clients then Some (askings.Do (acts.Disconnect (number_of digits))) else None

abbrev pub disconnect_of : ℕ → List ℕ → Option Asked
disconnect_of clients query =
    if bytes_eq (take 8 query) (codes "client=C") then disconnect_in clients (drop 8 query) else None

abbrev pub asked_by_query : ℕ → List ℕ → List ℕ → Option Asked
asked_by_query clients path query =
    if bytes_eq path (codes "/end") && bytes_eq query (codes "now") then Some (askings.Do acts.EndNow)
    else if bytes_eq path (codes "/disconnect") then disconnect_of clients query
    else None

abbrev pub asked_at : ℕ → List ℕ → Option (List ℕ) → Option Asked
asked_at clients path None = asked_plainly path
asked_at clients path (Some query) = asked_by_query clients path query

-- ---- who asks

-- a request as it is judged: its fields by their bytes
pub record Sent : Type 0 where
  pub method : Method
  pub path : List ℕ
  pub query : Option (List ℕ)
  pub host : Option (List ℕ)
  pub origin : Option (List ℕ)
  pub token : Option (List ℕ)

-- the endpoint's own names, the token that each request has to give, where there is one, and how many clients there are
pub record Own : Type 0 where
  pub hosts : List (List ℕ)
  pub token : Option (List ℕ)
  pub clients : ℕ

-- one of these is named
abbrev pub names_one : List (List ℕ) → List ℕ → Bool
names_one hosts name = list_any (bytes_eq name) hosts

-- its Host is one of the endpoint's own names: a name that an attacker's DNS gives for this address isn't
abbrev pub is_own_host : List (List ℕ) → Option (List ℕ) → Bool
is_own_host hosts None = false
is_own_host hosts (Some host) = names_one hosts host

-- an Origin is `http://` and a host with its port
abbrev pub is_origin_of : List ℕ → List ℕ → Bool
is_origin_of host origin = bytes_eq origin (codes "http://" ++ host)

-- no page of another site sent it: it has no Origin, or one of the endpoint's own
abbrev pub is_own_origin : List (List ℕ) → Option (List ℕ) → Bool
is_own_origin hosts None = true
is_own_origin hosts (Some origin) = list_any (λ host. is_origin_of host origin) hosts

-- it gives the token, where there is one
abbrev pub gives_token : Option (List ℕ) → Option (List ℕ) → Bool
gives_token None given = true
gives_token (Some wanted) None = false
gives_token (Some wanted) (Some given) = bytes_eq given wanted

-- ---- the table

-- what is done is posted, and by no page of another site
abbrev pub verdict_by : Act → Bool → Method → Verdict
verdict_by act is_own methods.Get = Refused refusals.WrongMethod
verdict_by act is_own methods.Other = Refused refusals.WrongMethod
verdict_by act is_own methods.Post = if is_own then Does act else Refused refusals.ForeignOrigin

abbrev pub verdict_to_act : Act → Own → Sent → Verdict
verdict_to_act act own sent = verdict_by act (is_own_origin own.hosts sent.origin) sent.method

-- what is shown is got. A page of another site may ask for it, as a picture's address, say: a browser doesn't let it
-- read the answer
abbrev pub verdict_to_view : View → Method → Verdict
verdict_to_view view methods.Get = Shows view
verdict_to_view view methods.Post = Refused refusals.WrongMethod
verdict_to_view view methods.Other = Refused refusals.WrongMethod

-- where its host and its token are right
abbrev pub verdict_on : Own → Sent → Option Asked → Verdict
verdict_on own sent None = Refused refusals.NoSuchPath
verdict_on own sent (Some (askings.Show view)) = verdict_to_view view sent.method
verdict_on own sent (Some (askings.Do act)) = verdict_to_act act own sent

abbrev pub verdict : Own → Sent → Verdict
verdict own sent =
    if not (is_own_host own.hosts sent.host) then Refused refusals.ForeignHost
    else if not (gives_token own.token sent.token) then Refused refusals.NoToken
    else verdict_on own sent (asked_at own.clients sent.path sent.query)

-- ---- as the code has them

-- a request's fields by their bytes
abbrev pub sent_of : Request → Sent
sent_of r = record {
  method = r.method;
  path = r.path.now;
  query = option_map (λ t. t.now) r.query;
  host = option_map (λ t. t.now) r.host;
  origin = option_map (λ t. t.now) r.origin;
  token = option_map (λ t. t.now) r.token;
}

abbrev pub own_of : Rules → Own
own_of r = record {
  hosts = map (λ v. v.items) r.hosts.items;
  token = option_map (λ v. v.items) r.token;
  clients = r.clients;
}
