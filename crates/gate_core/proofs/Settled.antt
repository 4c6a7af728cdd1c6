-- What each client of the settings brings, by its place.
use Rattle.std.proofs.Common.{◌≡◌, ℕ, zero, suc, ◌+◌, ◌-◌, ◌<◌, ◌≤◌, refl, false, List, [], ◌∷◌, ◌++◌, map, length}
use Rattle.std.proofs.Common.{get_or, Some, None, ap, ◌∙◌, subst, sym, arith}
use Rattle.std.proofs.lemmas.Bool.Decides.{nat_tests}
use Rattle.std.proofs.lemmas.List.{length_push}
use Rattle.std.proofs.lemmas.Option.{none-some, same_Some, slice_get-map, slice_get_read, get_or_from_slice_get}
use Rattle.std.specs.Prelude.{Option, slice_get, option_map, unwrap_or, ◌==◌}
use Rattle.gate_sessions.specs.order_law.History.{Terms, terms_of}
use Rattle.gate_law.specs.Settings.{ClientSettings, Settings, client_name, port_of}
use Rattle.gate_settings.specs.Kept.{IsOnPort}
use Rattle.gate_sessions.specs.declared.client_line.ClientLine.{ClientLine}
use Rattle.gate_sessions.specs.Leaving.{ClientLeaves}
use Rattle.gate_sessions.specs.Lines.{ClientsLeave, ClientLinks}
use Rattle.gate_core.specs.State.{ArePortsOf, AreAmong}

-- what holds of each element and its place holds with one element more
pub each-and-one : {X : Type 0} (P : ℕ → X → Type 0) (xs : List X) (y : X)
    → ((i : ℕ) (x : X) → slice_get xs i ≡ Some x → P i x) → P (length xs) y
    → (i : ℕ) (x : X) → slice_get (xs ++ y ∷ []) i ≡ Some x → P i x
each-and-one P [] y each last zero x at = subst (P 0) (same_Some y x at) last
each-and-one P [] y each last (suc i) x at = absurd (none-some x at)
each-and-one P (z ∷ xs) y each last zero x at = each zero x at
each-and-one P (z ∷ xs) y each last (suc i) x at = each-and-one (λ k. P (suc k)) xs y (λ k. each (suc k)) last i x at

-- the next element stands at the place after those passed
pub stands-next : {X : Type 0} (xs items : List X) (n i : ℕ) (x : X) → items ≡ xs → n ≡ i → i < length items
    → x ≡ get_or items i x → slice_get xs n ≡ Some x
stands-next {X = X} xs items n i x are is below x_is =
    subst (λ (ys : List X). slice_get ys n ≡ Some x) are
    (subst (λ (k : ℕ). slice_get items k ≡ Some x) (sym is)
    (slice_get_read items (length items) i x refl below x_is))

-- the name of the client at a place
pub name-at : (s : Settings) (i : ℕ) (client : ClientSettings) → slice_get s.clients i ≡ Some client
    → client_name s (i + 1) ≡ client.comp
name-at s i client at =
    let names : List (List ℕ) = map (λ (c : ClientSettings). c.comp) s.clients in
    let one_less : i + 1 - 1 ≡ i = omega arith in
    rw one_less
    (get_or_from_slice_get names i client.comp []
    (slice_get-map (λ (c : ClientSettings). c.comp) s.clients i
    ∙ ap (option_map (λ (c : ClientSettings). c.comp)) at))

-- what is known of it
terms-at : (clients : List ClientSettings) (i : ℕ) (client : ClientSettings) → slice_get clients i ≡ Some client
    → terms_of (map (λ (c : ClientSettings). c.terms) clients) (i + 1) ≡ client.terms
terms-at [] i client at = absurd (none-some client at)
terms-at (c ∷ clients) zero client at = ap (λ (o : Option ClientSettings). (unwrap_or o client).terms) at
terms-at (c ∷ clients) (suc i) client at =
    let not_first : (suc i + 1 == 1) ≡ false = grind (arith, nat_tests) in
    let one_less : suc i + 1 - 1 ≡ i + 1 = omega arith in
    rw (not_first, one_less) (terms-at clients i client at)

-- and its port
pub port-at : (s : Settings) (i : ℕ) (client : ClientSettings) → slice_get s.clients i ≡ Some client
    → client.terms.port ≡ port_of s (i + 1)
port-at s i client at = ap (λ (t : Terms). t.port) (sym (terms-at s.clients i client at))

-- ---- one more

-- so there is one more of them
pub one-more : {X : Type 0} (xs new : List X) (x : X) (n : ℕ) → new ≡ xs ++ x ∷ [] → length xs ≡ n → length new ≡ n + 1
one-more xs new x n more count = ap length more ∙ length_push xs x ∙ ap (λ (k : ℕ). k + 1) count

-- ports are still those of the clients
pub ports-more : (s : Settings) (ports new : List ℕ) (p : ℕ) (client : ClientSettings)
    → slice_get s.clients (length ports) ≡ Some client
    → p ≡ client.terms.port → new ≡ ports ++ p ∷ [] → ArePortsOf s ports → ArePortsOf s new
ports-more s ports new p client at is more are =
    subst (ArePortsOf s) (sym more) (each-and-one (λ i q. q ≡ port_of s (i + 1)) ports p are
    (is ∙ port-at s (length ports) client at))

-- and still among so many
pub among-more : (count : ℕ) (ports new : List ℕ) (p : ℕ) (client : ClientSettings) → IsOnPort count client
    → p ≡ client.terms.port → new ≡ ports ++ p ∷ [] → AreAmong count ports → AreAmong count new
among-more count ports new p client is_on is more among =
    subst (AreAmong count) (sym more) (each-and-one (λ i q. (1 ≤ q) × (q ≤ count)) ports p among
    (subst (λ (q : ℕ). (1 ≤ q) × (q ≤ count)) (sym is) is_on))

-- lines are still those of sessions that had no call
pub clients-more : (s : Settings) (lines new : List ClientLine) (line : ClientLine) (client : ClientSettings)
    → slice_get s.clients (length lines) ≡ Some client
    → ((c : ℕ) → client_name s c ≡ client.comp → ClientLeaves s c [] line.session.session) → new ≡ lines ++ line ∷ []
    → ClientsLeave s (λ c. []) lines → ClientsLeave s (λ c. []) new
clients-more s lines new line client at leaves more leave =
    subst (ClientsLeave s (λ c. [])) (sym more)
    (each-and-one (λ i l. ClientLeaves s (i + 1) [] l.session.session) lines line leave
    (leaves (length lines + 1) (name-at s (length lines) client at)))

-- and still have no link
pub client-links-more : (lines new : List ClientLine) (line : ClientLine) → line.link ≡ None → new ≡ lines ++ line ∷ []
    → ClientLinks (λ c. None) lines → ClientLinks (λ c. None) new
client-links-more lines new line is more links =
    subst (ClientLinks (λ c. None)) (sym more) (each-and-one (λ i l. l.link ≡ None) lines line links is)
