-- Computed: a request for each row of the table, and its neighbours.
use Rattle.std.specs.Prelude.{◌≡◌, refl, List, ℕ, [], ◌∷◌, codes, Some, None}
use Rattle.control_guard.specs.Guard.{Own, Sent, verdict}
use Rattle.control_guard.specs.declared.request.Method.TheVariants.{Get, Post, Other}
use Rattle.control_guard.specs.declared.asked.Act.TheVariants.{Disconnect, End, EndNow}
use Rattle.control_guard.specs.declared.asked.View.TheVariants as views
use Rattle.control_guard.specs.declared.table.Verdict.TheVariants.{Does, Refused, Shows}
use Rattle.control_guard.specs.declared.table.Refusal.TheVariants.{ForeignHost, NoToken, ForeignOrigin, NoSuchPath}
use Rattle.control_guard.specs.declared.table.Refusal.TheVariants.{WrongMethod}

-- an endpoint at port 9100 of this machine, without a token and with one
abbrev hosts : List (List ℕ)
hosts = codes "127.0.0.1:9100" ∷ codes "localhost:9100" ∷ []

abbrev without_token : Own
without_token = record { hosts = hosts; token = None; clients = 12 }

abbrev with_token : Own
with_token = record { hosts = hosts; token = Some (codes "0123456789abcdef"); clients = 12 }

-- `curl -X POST http://127.0.0.1:9100/end`
abbrev end : Sent
end = record {
  method = Post;
  path = codes "/end";
  query = None;
  host = Some (codes "127.0.0.1:9100");
  origin = None;
  token = None;
}

an_end_is_done : verdict without_token end ≡ Does End
an_end_is_done = refl

an_end_at_once_is_done :
    verdict without_token (record end { query = Some (codes "now") }) ≡ Does EndNow
an_end_at_once_is_done = refl

the_other_name_is_own : verdict without_token (record end { host = Some (codes "localhost:9100") }) ≡ Does End
the_other_name_is_own = refl

-- a name that an attacker's DNS gives, one that begins like an own one, one without the port, and none
a_foreign_name : verdict without_token (record end { host = Some (codes "evil.example:9100") }) ≡ Refused ForeignHost
a_foreign_name = refl

a_longer_name : verdict without_token (record end { host = Some (codes "127.0.0.1:91000") }) ≡ Refused ForeignHost
a_longer_name = refl

a_name_without_its_port : verdict without_token (record end { host = Some (codes "127.0.0.1") }) ≡ Refused ForeignHost
a_name_without_its_port = refl

no_name : verdict without_token (record end { host = None }) ≡ Refused ForeignHost
no_name = refl

-- tokens
a_token_is_given : verdict with_token (record end { token = Some (codes "0123456789abcdef") }) ≡ Does End
a_token_is_given = refl

another_token : verdict with_token (record end { token = Some (codes "0123456789abcdeF") }) ≡ Refused NoToken
another_token = refl

a_shorter_token : verdict with_token (record end { token = Some (codes "0123456789abcde") }) ≡ Refused NoToken
a_shorter_token = refl

no_token_given : verdict with_token end ≡ Refused NoToken
no_token_given = refl

a_token_that_nobody_asked_for : verdict without_token (record end { token = Some (codes "x") }) ≡ Does End
a_token_that_nobody_asked_for = refl

-- paths and methods
no_such_path : verdict without_token (record end { path = codes "/stop" }) ≡ Refused NoSuchPath
no_such_path = refl

an_end_with_another_query :
    verdict without_token (record end { query = Some (codes "later") }) ≡ Refused NoSuchPath
an_end_with_another_query = refl

an_end_that_is_got : verdict without_token (record end { method = Get }) ≡ Refused WrongMethod
an_end_that_is_got = refl

an_end_by_another_method : verdict without_token (record end { method = Other }) ≡ Refused WrongMethod
an_end_by_another_method = refl

-- pages of other sites
an_own_page_ends : verdict without_token (record end { origin = Some (codes "http://localhost:9100") }) ≡ Does End
an_own_page_ends = refl

another_site_ends :
    verdict without_token (record end { origin = Some (codes "http://evil.example") }) ≡ Refused ForeignOrigin
another_site_ends = refl

another_port_of_this_machine_ends :
    verdict without_token (record end { origin = Some (codes "http://localhost:8080") }) ≡ Refused ForeignOrigin
another_port_of_this_machine_ends = refl

-- a browser sends `Basic` by itself: with the token too another site's page ends nothing
another_site_ends_with_the_token :
    verdict with_token
    (record end { origin = Some (codes "http://evil.example"); token = Some (codes "0123456789abcdef") })
    ≡ Refused ForeignOrigin
another_site_ends_with_the_token = refl

another_name_with_the_token :
    verdict with_token (record end { host = Some (codes "evil.example:9100"); token = Some (codes "0123456789abcdef") })
    ≡ Refused ForeignHost
another_name_with_the_token = refl

-- the first row that holds counts
a_foreign_name_before_all :
    verdict with_token (record end { host = None; method = Get; path = codes "/stop" }) ≡ Refused ForeignHost
a_foreign_name_before_all = refl

a_token_before_the_path : verdict with_token (record end { method = Get; path = codes "/stop" }) ≡ Refused NoToken
a_token_before_the_path = refl

a_path_before_the_method : verdict without_token (record end { method = Get; path = codes "/stop" }) ≡ Refused NoSuchPath
a_path_before_the_method = refl

a_method_before_the_origin :
    verdict without_token (record end { method = Get; origin = Some (codes "http://evil.example") })
    ≡ Refused WrongMethod
a_method_before_the_origin = refl

-- what is shown
abbrev page : Sent
page = record end { method = Get; path = codes "/" }

the_page_is_shown : verdict without_token page ≡ Shows views.Page
the_page_is_shown = refl

the_status_is_shown : verdict without_token (record page { path = codes "/status.json" }) ≡ Shows views.Json
the_status_is_shown = refl

metrics_are_shown : verdict without_token (record page { path = codes "/metrics" }) ≡ Shows views.Metrics
metrics_are_shown = refl

a_page_that_is_posted : verdict without_token (record page { method = Post }) ≡ Refused WrongMethod
a_page_that_is_posted = refl

a_page_with_a_query : verdict without_token (record page { query = Some (codes "x") }) ≡ Refused NoSuchPath
a_page_with_a_query = refl

a_page_without_the_token : verdict with_token page ≡ Refused NoToken
a_page_without_the_token = refl

a_page_by_a_foreign_name : verdict without_token (record page { host = Some (codes "evil.example:9100") })
    ≡ Refused ForeignHost
a_page_by_a_foreign_name = refl

-- a picture on another site's page: it is sent, and a browser doesn't let that page read it
a_page_for_another_site : verdict without_token (record page { origin = Some (codes "http://evil.example") })
    ≡ Shows views.Page
a_page_for_another_site = refl

-- clients, of which there are twelve
abbrev disconnect : List ℕ → Sent
disconnect client = record end { path = codes "/disconnect"; query = Some client }

the_first_client : verdict without_token (disconnect (codes "client=C1")) ≡ Does (Disconnect 1)
the_first_client = refl

the_last_client : verdict without_token (disconnect (codes "client=C12")) ≡ Does (Disconnect 12)
the_last_client = refl

one_client_too_many : verdict without_token (disconnect (codes "client=C13")) ≡ Refused NoSuchPath
one_client_too_many = refl

no_client_has_the_number_0 : verdict without_token (disconnect (codes "client=C0")) ≡ Refused NoSuchPath
no_client_has_the_number_0 = refl

no_number : verdict without_token (disconnect (codes "client=C")) ≡ Refused NoSuchPath
no_number = refl

a_number_and_more : verdict without_token (disconnect (codes "client=C1x")) ≡ Refused NoSuchPath
a_number_and_more = refl

a_port : verdict without_token (disconnect (codes "client=P1")) ≡ Refused NoSuchPath
a_port = refl

nobody_is_named : verdict without_token (record end { path = codes "/disconnect" }) ≡ Refused NoSuchPath
nobody_is_named = refl

a_disconnect_that_is_got : verdict without_token (record (disconnect (codes "client=C1")) { method = Get })
    ≡ Refused WrongMethod
a_disconnect_that_is_got = refl

another_site_disconnects :
    verdict without_token (record (disconnect (codes "client=C1")) { origin = Some (codes "http://evil.example") })
    ≡ Refused ForeignOrigin
another_site_disconnects = refl
