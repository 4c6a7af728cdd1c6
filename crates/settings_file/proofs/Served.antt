-- What isn't refused of a file is served by the core.
use Rattle.std.proofs.Common.{◌≡◌, ◌≤◌, ◌+◌, ◌-◌, ℕ, zero, suc, Bool, true, false, List, [], ◌∷◌, ◌++◌, length}
use Rattle.std.proofs.Common.{replicate, refl, sym, ap, subst, ◌∙◌, arith}
use Rattle.std.specs.Prelude.{Option, None, Some, is_some, unwrap_or, option_and_then, map, ◌||◌, ◌==◌, nat_le, codes}
use Rattle.std.specs.Prelude.{bytes_eq, cond, if◌then◌else◌}
use Rattle.std.specs.Option.{option_or}
use Rattle.std.specs.List.{list_all, list_any}
use Rattle.std.proofs.lemmas.Bool.{true≢false, false≢true, and_parts, and_from, or_parts, not-true, not_from_false}
use Rattle.std.proofs.lemmas.Bool.{leb-true, le-leb}
use Rattle.std.proofs.lemmas.List.{length-append, length-map, length-replicate}
use Rattle.std.proofs.lemmas.List.Folds.{list_all-append, list_any-append}
use Rattle.wire_law.specs.Printable.{is_printable}
use Rattle.gate_settings.specs.soup_session.Table as port
use Rattle.gate_law.specs.Settings.{ClientSettings, Settings}
use Rattle.gate_law.specs.Limits.{is_between, is_byte_of, is_client, is_each_own, is_name, is_port, is_served}
use Rattle.gate_settings.specs.Seen.{settings_of}
use Rattle.toml.specs.Data.{Data}
use Rattle.settings_file.specs.Rules.{Rule, text_in, where_it_holds, kept_text, first_broken, is_this, is_text_of}
use Rattle.settings_file.specs.Rules.{own_name, own_address, address, user, password, port_name, firm, letter}
use Rattle.settings_file.specs.Rules.{is_letter_of, port_rules, client_rules, gateway_rules, are_tables, tables_at}
use Rattle.settings_file.specs.Rules.{first_refused, refused_among, refused_port, refused_client}
use Rattle.settings_file.specs.Rules.{Refused, in_table, number_behind}
use Rattle.settings_file.specs.declared.fault.SettingsTable.{SettingsTable}
use Rattle.settings_file.specs.declared.fault.SettingsTable.TheVariants.{Top, Port, Client}
use Rattle.settings_file.specs.File.{WhatIsNotRefusedIsServed, text_at, login_at, number_of_name, padded_firm}
use Rattle.settings_file.specs.File.{first_byte, client_at, file_settings}

-- ---- rules that are kept

-- nothing is refused in a table where no key is
no-key : (of : SettingsTable) (key : Option (List ℕ)) → in_table of key ≡ None → key ≡ None
no-key of None h = refl
no-key of (Some k) h = absurd (true≢false (ap is_some h))

neither : {X : Type 0} (a b : Option X) → option_or a b ≡ None → (a ≡ None) × (b ≡ None)
neither None b h = (refl, h)
neither (Some x) b h = absurd (true≢false (ap is_some h))

-- a rule lets the text of its key pass
abbrev Keeps : Rule → Data → Type 0
Keeps r t = (text_in r.key t ≡ Some (text_at r.key t)) × (r.holds (text_at r.key t) ≡ true)

lets_pass : (holds : List ℕ → Bool) (text : List ℕ) (b : Bool) → holds text ≡ b
    → is_some (cond b (Some text) None) ≡ true → holds text ≡ true
lets_pass holds text true is h = is
lets_pass holds text false is h = absurd (false≢true h)

of_text : (holds : List ℕ → Bool) (found : Option (List ℕ))
    → is_some (option_and_then (where_it_holds holds) found) ≡ true
    → (found ≡ Some (unwrap_or found [])) × (holds (unwrap_or found []) ≡ true)
of_text holds None h = absurd (false≢true h)
of_text holds (Some text) h = (refl, lets_pass holds text (holds text) refl h)

kept-or-broken : (b : Bool) (key : List ℕ) (others : Option (List ℕ)) → (if b then others else Some key) ≡ None
    → (b ≡ true) × (others ≡ None)
kept-or-broken true key others h = (refl, h)
kept-or-broken false key others h = absurd (true≢false (ap is_some h))

-- where the rules are kept, the first is, and the others are
kept : (r : Rule) (rs : List Rule) (t : Data) → first_broken (r ∷ rs) t ≡ None → Keeps r t × (first_broken rs t ≡ None)
kept r rs t h =
    let p = kept-or-broken (is_some (kept_text t r)) r.key (first_broken rs t) h in
    (of_text r.holds (text_in r.key t) p.0, p.1)

-- ---- ports

port-served : (earlier : List Data) (t : Data) → refused_port earlier t ≡ None → is_port (login_at t) ≡ true
port-served earlier t h =
    let rules = (neither (first_broken (port_rules earlier) t) _ (no-key (Port (number_behind earlier)) _ h)).0 in
    let name = kept (own_name (codes "name") earlier) (address (codes "address") ∷ user ∷ password ∷ []) t rules in
    let place = kept (address (codes "address")) (user ∷ password ∷ []) t name.1 in
    let who = kept user (password ∷ []) t place.1 in
    let secret = kept password [] t who.1 in
    and_from _ _ who.0.1 secret.0.1

ports-served : (earlier ts : List Data) → first_refused refused_port earlier ts ≡ None
    → list_all is_port (map login_at ts) ≡ true
ports-served earlier [] h = refl
ports-served earlier (t ∷ ts) h =
    let p = neither (refused_port earlier t) _ h in
    and_from _ _ (port-served earlier t p.0) (ports-served (earlier ++ t ∷ []) ts p.1)

-- ---- a client

one-or-behind : (b : Bool) (n k : ℕ) → (b ≡ false → (1 ≤ n) × (n ≤ k))
    → (1 ≤ (if b then 1 else n + 1)) × ((if b then 1 else n + 1) ≤ suc k)
one-or-behind true n k h = (omega arith, omega arith)
one-or-behind false n k h = let p = h refl in (omega (arith, p.0), omega (arith, p.1))

found-behind : (a b : Bool) → (a || b) ≡ true → a ≡ false → b ≡ true
found-behind true b h isnt = absurd (true≢false isnt)
found-behind false b h isnt = h

-- a name that a port has is that of one of them
number-within : (ports : List Data) (name : List ℕ) → is_text_of (codes "name") ports name ≡ true
    → (1 ≤ number_of_name ports name) × (number_of_name ports name ≤ length ports)
number-within [] name h = absurd (false≢true h)
number-within (t ∷ ts) name h =
    one-or-behind (is_this name (text_in (codes "name") t)) (number_of_name ts name) (length ts)
    (λ isnt. number-within ts name (found-behind (is_this name (text_in (codes "name") t)) (is_text_of (codes "name") ts name) h isnt))

spaces : (n : ℕ) → list_all is_printable (replicate n 32) ≡ true
spaces zero = refl
spaces (suc n) = spaces n

padded-length : (text : List ℕ) → length text ≤ 4 → length (padded_firm text) ≡ 4
padded-length text h =
    length-append text (replicate (4 - length text) 32)
    ∙ ap (λ n. length text + n) (length-replicate (4 - length text) 32)
    ∙ omega (arith, h)

padded-printable : (text : List ℕ) → list_all is_printable text ≡ true → list_all is_printable (padded_firm text) ≡ true
padded-printable text h = list_all-append is_printable text (replicate (4 - length text) 32)
    ∙ rw (h, spaces (4 - length text)) refl

is-letter : (letters text : List ℕ) → is_letter_of letters text ≡ true → is_byte_of letters (first_byte text) ≡ true
is-letter letters [] h = absurd (false≢true h)
is-letter letters (b ∷ bs) h = (and_parts (is_byte_of letters b) _ (and_parts (length (b ∷ bs) == 1) _ h).1).0

-- a client's rules but for the first
abbrev behind_comp : List Data → List Data → List Rule
behind_comp ports earlier =
    own_address (codes "listen") earlier
    ∷ port_name ports
    ∷ firm
    ∷ letter (codes "capacity") (codes "APR")
    ∷ letter (codes "customer") (codes "RN ")
    ∷ []

client-served : (s : Settings) (ports earlier : List Data) (t : Data) → length s.ports ≡ length ports
    → refused_client ports earlier t ≡ None
    → is_client s (client_at ports t) ≡ true
client-served s ports earlier t beside h =
    let rules = (neither (first_broken (client_rules ports earlier) t) _ (no-key (Client (number_behind earlier)) _ h)).0 in
    let for_whom = letter (codes "capacity") (codes "APR") in
    let whose = letter (codes "customer") (codes "RN ") in
    let comp = kept (own_name (codes "comp") earlier) (behind_comp ports earlier) t rules in
    let listen = kept (own_address (codes "listen") earlier) (port_name ports ∷ firm ∷ for_whom ∷ whose ∷ []) t comp.1 in
    let on = kept (port_name ports) (firm ∷ for_whom ∷ whose ∷ []) t listen.1 in
    let by = kept firm (for_whom ∷ whose ∷ []) t on.1 in
    let capacity = kept for_whom (whose ∷ []) t by.1 in
    let customer = kept whose [] t capacity.1 in
    let text = text_at (codes "firm") t in
    let number = number-within ports (text_at (codes "port") t) on.0.1 in
    let length_printable = and_parts (is_between 1 4 (length text)) _ by.0.1 in
    let short = leb-true (length text) 4 (and_parts (nat_le 1 (length text)) _ length_printable.0).1 in
    and_from _ _ (and_parts (is_name (text_at (codes "comp") t)) _ comp.0.1).0
    (and_from _ _ (and_from _ _ (le-leb 1 _ number.0) (le-leb _ _ (subst (λ n. number_of_name ports (text_at (codes "port") t) ≤ n) (sym beside) number.1)))
    (and_from _ _ (ap (λ n. n == 4) (padded-length text short))
    (and_from _ _ (padded-printable text length_printable.1)
    (and_from _ _ (is-letter (codes "APR") (text_at (codes "capacity") t) capacity.0.1) (is-letter (codes "RN ") (text_at (codes "customer") t) customer.0.1)))))

clients-served : (s : Settings) (ports earlier ts : List Data) → length s.ports ≡ length ports
    → first_refused (refused_client ports) earlier ts ≡ None
    → list_all (is_client s) (map (client_at ports) ts) ≡ true
clients-served s ports earlier [] beside h = refl
clients-served s ports earlier (t ∷ ts) beside h =
    let p = neither (refused_client ports earlier t) _ h in
    and_from _ _ (client-served s ports earlier t beside p.0) (clients-served s ports (earlier ++ t ∷ []) ts beside p.1)

-- ---- names of clients, each its own

abbrev name_at : Data → List ℕ
name_at = text_at (codes "comp")

abbrev names : List Data → List Data → List (List ℕ)
names ports ts = map (λ (c : ClientSettings). c.comp) (map (client_at ports) ts)

-- these tables have this name: a text that none of them has is another one
abbrev HaveName : List ℕ → List Data → Type 0
HaveName name ts = (text : List ℕ) → is_text_of (codes "comp") ts text ≡ false → bytes_eq name text ≡ false

have-more : (name : List ℕ) (ts : List Data) (t : Data) → HaveName name ts → HaveName name (ts ++ t ∷ [])
have-more name ts t have text h =
    have text (or_parts (is_text_of (codes "comp") ts text) _ (sym (list_any-append (λ u. is_this text (text_in (codes "comp") u)) ts (t ∷ [])) ∙ h)).0

have-own : (ts : List Data) (t : Data) → text_in (codes "comp") t ≡ Some (name_at t) → HaveName (name_at t) (ts ++ t ∷ [])
have-own ts t is text h =
    sym (ap (is_this text) is)
    ∙ (or_parts (is_this text (text_in (codes "comp") t)) false (or_parts (is_text_of (codes "comp") ts text) _ (sym (list_any-append (λ u. is_this text (text_in (codes "comp") u)) ts (t ∷ [])) ∙ h)).1).0

-- the name of a table that isn't refused: there, and of none of the earlier ones
own : (ports earlier : List Data) (t : Data) → refused_client ports earlier t ≡ None
    → (text_in (codes "comp") t ≡ Some (name_at t)) × (is_text_of (codes "comp") earlier (name_at t) ≡ false)
own ports earlier t h =
    let rules = (neither (first_broken (client_rules ports earlier) t) _ (no-key (Client (number_behind earlier)) _ h)).0 in
    let comp = (kept (own_name (codes "comp") earlier) (behind_comp ports earlier) t rules).0 in
    (comp.0, not-true _ (and_parts (is_name (name_at t)) _ comp.1).1)

-- who comes later has another name
later : (ports earlier ts : List Data) (name : List ℕ) → HaveName name earlier
    → first_refused (refused_client ports) earlier ts ≡ None
    → list_any (bytes_eq name) (names ports ts) ≡ false
later ports earlier [] name have h = refl
later ports earlier (t ∷ ts) name have h =
    let p = neither (refused_client ports earlier t) _ h in
    rw (have (name_at t) (own ports earlier t p.0).1)
    (later ports (earlier ++ t ∷ []) ts name (have-more name earlier t have) p.1)

each-own : (ports earlier ts : List Data) → first_refused (refused_client ports) earlier ts ≡ None
    → is_each_own (names ports ts) ≡ true
each-own ports earlier [] h = refl
each-own ports earlier (t ∷ ts) h =
    let p = neither (refused_client ports earlier t) _ h in
    and_from _ _
    (not_from_false _ (later ports (earlier ++ t ∷ []) ts (name_at t)
    (have-own earlier t (own ports earlier t p.0).0) p.1))
    (each-own ports (earlier ++ t ∷ []) ts p.1)

-- ---- the whole

counted : (b : Bool) (refused : Refused) (found : Option Refused) → (if b then found else Some refused) ≡ None
    → (b ≡ true) × (found ≡ None)
counted true refused found h = (refl, h)
counted false refused found h = absurd (true≢false (ap is_some h))

pub what_is_not_refused_is_served : WhatIsNotRefusedIsServed
what_is_not_refused_is_served file h =
    let ports = tables_at (codes "port") file in
    let clients = tables_at (codes "client") file in
    let s = (file_settings file).settings in
    let a = neither (in_table Top (first_broken gateway_rules file)) _ h in
    let b = neither (refused_among (codes "port") 16 refused_port ports) _ a.1 in
    let c = neither (refused_among (codes "client") 64 (refused_client ports) clients) _ b.1 in
    let comp = (kept (own_name (codes "comp") []) [] file (no-key Top _ a.0)).0 in
    let p = counted (are_tables 16 ports) (record { table = Top; key = codes "port" }) (first_refused refused_port [] ports) b.0 in
    let q = counted (are_tables 64 clients) (record { table = Top; key = codes "client" }) (first_refused (refused_client ports) [] clients) c.0 in
    and_from _ _ (and_parts (is_name (text_at (codes "comp") file)) _ comp.1).0
    (and_from _ _ (ap (is_between 1 16) (length-map ports login_at)
    ∙ (and_parts (is_between 1 16 (length ports)) _ p.0).0)
    (and_from _ _ (ports-served [] ports p.1)
    (and_from _ _ (ap (is_between 1 64) (length-map clients (client_at ports))
    ∙ (and_parts (is_between 1 64 (length clients)) _ q.0).0)
    (and_from _ _ (clients-served s ports [] clients (length-map ports login_at) q.1)
    (each-own ports [] clients q.1)))))

-- the same settings, from what they were read as
pub served-as : (comp comp2 : List ℕ) (ports ports2 : List port.LoginTerms) (clients clients2 : List ClientSettings)
    → comp ≡ comp2 → ports ≡ ports2
    → clients ≡ clients2 → is_served (settings_of comp2 ports2 clients2) ≡ true
    → is_served (settings_of comp ports clients) ≡ true
served-as comp comp2 ports ports2 clients clients2 e f g h = rw (e, f, g) h
