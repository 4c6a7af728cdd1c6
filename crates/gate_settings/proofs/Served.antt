-- What each client of settings that are served has.
use Rattle.std.proofs.Common.{◌≡◌, ◌<◌, ℕ, true, List, [], ◌∷◌, All, length, refl, arith}
use Rattle.std.specs.Prelude.{nat_le, map, get_or}
use Rattle.std.specs.List.{list_all}
use Rattle.std.proofs.lemmas.Bool.{and_parts, leb-true}
use Rattle.std.proofs.lemmas.Bool.Decides.{nat_tests}
use Rattle.std.proofs.lemmas.List.Sums.{AllPass-from_list_all}
use Rattle.to_market.specs.wire_law.Printable.{is_visible}
use Rattle.gate_law.specs.fix_fields.Field.{IsValue, is_inside}
use Rattle.gate_law.specs.Settings.{ClientSettings, Settings, has_port}
use Rattle.gate_law.specs.Limits.{is_between, is_client, is_each_own, is_name, is_port, is_served}
use Rattle.gate_settings.specs.Kept.{IsNamed, IsOnPort}

-- a byte that is seen is no SOH
inside : (byte : ℕ) → is_visible byte ≡ true → is_inside byte ≡ true
inside byte h = grind (arith, nat_tests)

inside-visible : (bytes : List ℕ) → list_all is_visible bytes ≡ true → IsValue bytes
inside-visible [] h = refl
inside-visible (b ∷ bs) h =
    let p = and_parts (is_visible b) (list_all is_visible bs) h in
    rw (inside b p.0, inside-visible bs p.1) refl

-- a name may be a field's value
pub named : (name : List ℕ) → is_name name ≡ true → IsValue name
named name h = inside-visible name (and_parts (is_between 1 20 (length name)) (list_all is_visible name) h).1

-- all clients are served
clients-served : (s : Settings) → is_served s ≡ true → list_all (is_client s) s.clients ≡ true
clients-served s h =
    let own = is_each_own (map (λ (c : ClientSettings). c.comp) s.clients) in
    let clients = list_all (is_client s) s.clients in
    let a = and_parts (is_name s.comp) _ h in
    let b = and_parts (is_between 1 16 (length s.ports)) _ a.1 in
    let c = and_parts (list_all is_port s.ports) _ b.1 in
    let d = and_parts (is_between 1 64 (length s.clients)) _ c.1 in
    (and_parts clients own d.1).0

on_port : (s : Settings) (c : ClientSettings) → is_client s c ≡ true → IsOnPort (length s.ports) c
on_port s c h =
    let a = and_parts (is_name c.comp) _ h in
    let b = and_parts (has_port s c.terms.port) _ a.1 in
    let p = and_parts (nat_le 1 c.terms.port) (nat_le c.terms.port (length s.ports)) b.0 in
    (leb-true 1 c.terms.port p.0, leb-true c.terms.port (length s.ports) p.1)

-- of each of them
client-served : (s : Settings) → is_served s ≡ true → (k : ℕ) (d : ClientSettings) → k < length s.clients
    → is_client s (get_or s.clients k d) ≡ true
client-served s h k d below = AllPass-from_list_all (is_client s) s.clients (clients-served s h) k d below

pub clients-on_ports : (s : Settings) → is_served s ≡ true → All (IsOnPort (length s.ports)) s.clients
clients-on_ports s h k d below = on_port s (get_or s.clients k d) (client-served s h k d below)

pub clients-named : (s : Settings) → is_served s ≡ true → All IsNamed s.clients
clients-named s h k d below =
    let client = get_or s.clients k d in
    named client.comp (and_parts (is_name client.comp) _ (client-served s h k d below)).0
