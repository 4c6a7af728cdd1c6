-- What a batch of one's own parts says, and what links it closes.
use Rattle.std.proofs.Common.{◌≡◌, ◌==◌, ℕ, Bool, true, false, not, List, [], ◌∷◌, ◌++◌, map, length, Option, Some}
use Rattle.std.proofs.Common.{None, refl, sym, ap, ◌∙◌, eqb-true, eq-eqb}
use Rattle.std.proofs.lemmas.List.{map-append}
use Rattle.std.proofs.lemmas.Simd.{map-map}
use Rattle.std.proofs.Math.Dec.{eqb-suc-zero}
use Rattle.std.specs.Prelude.{◌&&◌, if◌then◌else◌}
use Rattle.session_law.specs.declared.frame.Out.{Out}
use Rattle.session_law.specs.Frames.{ToldLink, told_of_out}
use Rattle.soup_session.specs.declared.port_turn.PortOut.{PortOut}
use Rattle.fix_fields.specs.Field.{Message}
use Rattle.gate_law.specs.Settings.{Settings, client_name}
use Rattle.gate_law.specs.Events.{LinkOut, is_the_number}
use Rattle.gate_law.specs.Sessions.{to_client, to_port, to_link, port_line}
use Rattle.gate_law.specs.After.{unless_closed}
use Rattle.gate_sessions.specs.Links.{outs_told_on, unlinked}
use Rattle.gate_events.specs.declared.batch.LinkOut as batch
use Rattle.gate_events.specs.Seen.{link_out_seen}

-- ---- what goes to a link

pub told-to-client : (s : Settings) (c : ℕ) (link : Option ℕ) (outs : List Out)
    → outs_told_on link (map (told_of_out s.comp (client_name s c)) outs) ≡ to_client s c link outs
told-to-client s c None outs = refl
told-to-client s c (Some link) outs = map-map (to_link link) (told_of_out s.comp (client_name s c)) outs

to-client-append : (s : Settings) (c : ℕ) (link : Option ℕ) (xs ys : List Out)
    → to_client s c link (xs ++ ys) ≡ to_client s c link xs ++ to_client s c link ys
to-client-append s c None xs ys = refl
to-client-append s c (Some link) xs ys = map-append
    (λ (out : Out). to_link link (told_of_out s.comp (client_name s c) out)) xs ys

-- a client's link is told what its session said in one call, and what it is told of others
pub client-told : (s : Settings) (c : ℕ) (link : Option ℕ) (outs : List LinkOut) (first : List ToldLink)
    (rest : List LinkOut) (xs ys : List Out)
    → outs ≡ outs_told_on link first ++ rest → first ≡ map (told_of_out s.comp (client_name s c)) xs
    → rest ≡ outs_told_on link (map (told_of_out s.comp (client_name s c)) ys)
    → outs ≡ to_client s c link (xs ++ ys)
client-told s c link outs first rest xs ys are is_first is_rest =
    are
    ∙ ap (λ (x : List ToldLink). outs_told_on link x ++ rest) is_first
    ∙ ap (λ (y : List LinkOut). outs_told_on link (map (told_of_out s.comp (client_name s c)) xs) ++ y) is_rest
    ∙ ap (λ (x : List LinkOut). x ++ outs_told_on link (map (told_of_out s.comp (client_name s c)) ys))
    (told-to-client s c link xs)
    ∙ ap (λ (y : List LinkOut). to_client s c link xs ++ y) (told-to-client s c link ys)
    ∙ sym (to-client-append s c link xs ys)

-- nothing more is nothing on a link
pub nothing-on : (link : Option ℕ) → [] ≡ outs_told_on link []
nothing-on None = refl
nothing-on (Some link) = refl

-- of a port's link too
pub nothing-on-port : (link : Option ℕ) → [] ≡ to_port link []
nothing-on-port None = refl
nothing-on-port (Some link) = refl

pub to-port-append : (link : Option ℕ) (xs ys : List PortOut)
    → to_port link (xs ++ ys) ≡ to_port link xs ++ to_port link ys
to-port-append None xs ys = refl
to-port-append (Some link) xs ys = map-append (port_line link) xs ys

-- and a port's
pub port-told : (link : Option ℕ) (outs : List LinkOut) (first rest xs ys : List PortOut)
    → outs ≡ to_port link first ++ to_port link rest → first ≡ xs → rest ≡ ys → outs ≡ to_port link (xs ++ ys)
port-told link outs first rest xs ys are is_first is_rest =
    are
    ∙ ap (λ (x : List PortOut). to_port link x ++ to_port link rest) is_first
    ∙ ap (λ (y : List PortOut). to_port link xs ++ to_port link y) is_rest
    ∙ sym (to-port-append link xs ys)

-- where its session said this in one call, and nothing else is to be told
pub port-told-alone : (link : Option ℕ) (outs : List LinkOut) (first : List PortOut) (rest : List batch.LinkOut)
    → outs ≡ to_port link first ++ map link_out_seen rest → rest ≡ [] → outs ≡ to_port link first ++ to_port link []
port-told-alone link outs first rest are none =
    are
    ∙ ap (λ (xs : List batch.LinkOut). to_port link first ++ map link_out_seen xs) none
    ∙ ap (λ (xs : List LinkOut). to_port link first ++ xs) (nothing-on-port link)

-- what its session said in one call, and what it is told of others
pub port-told-with : (link : Option ℕ) (outs : List LinkOut) (first : List PortOut) (rest : List LinkOut)
    (xs ys : List PortOut)
    → outs ≡ to_port link first ++ rest → first ≡ xs → rest ≡ to_port link ys → outs ≡ to_port link (xs ++ ys)
port-told-with link outs first rest xs ys are is_first is_rest =
    are
    ∙ ap (λ (x : List PortOut). to_port link x ++ rest) is_first
    ∙ ap (λ (y : List LinkOut). to_port link xs ++ y) is_rest
    ∙ sym (to-port-append link xs ys)

-- ---- the one whom a batch names

numbers : (m n : ℕ) → (n == m) ≡ (m == n)
numbers m n = by_test (m == n) (n == m) refl refl
  where
    by_test : (a b : Bool) → (m == n) ≡ a → (n == m) ≡ b → b ≡ a
    by_test true true is other = refl
    by_test false false is other = refl
    by_test true false is other = sym other ∙ eq-eqb n m (sym (eqb-true m n is))
    by_test false true is other = sym (sym is ∙ eq-eqb m n (sym (eqb-true n m other)))

pub same : {X : Type 0} (b : Bool) (x : X) → (if b then x else x) ≡ x
same true x = refl
same false x = refl

and-false : (b : Bool) → (b && false) ≡ false
and-false true = refl
and-false false = refl

abbrev is_named : Bool → Bool → ℕ → Option ℕ
is_named a b n = if not (a && b) then Some n else None

-- a link that is closed is that of the one whom the batch names
pub named-client : (n m : ℕ) (reports : List Message) (outs : List LinkOut) (links : ℕ → Option ℕ)
    → (if is_the_number m (is_named (length reports == 0) (length outs == 0) n) then unless_closed outs
    (links m) else links m) ≡ unlinked n outs links m
named-client n m reports [] links =
    same (is_the_number m (is_named (length reports == 0) true n)) (links m) ∙ sym (same (m == n) (links m))
named-client n m reports (o ∷ os) links =
    ap (λ (w : Bool). if is_the_number m (is_named (length reports == 0) w n) then unless_closed (o ∷ os)
    (links m) else links m) (eqb-suc-zero (length os))
    ∙ ap (λ (w : Bool). if is_the_number m (if not w then Some n else None) then unless_closed (o ∷ os)
    (links m) else links m) (and-false (length reports == 0))
    ∙ ap (λ (w : Bool). if w then unless_closed (o ∷ os) (links m) else links m) (numbers m n)

-- and of a port
pub named-port : (n m : ℕ) (is_no_fault : Bool) (outs : List LinkOut) (links : ℕ → Option ℕ)
    → (if is_the_number m (is_named (length outs == 0) is_no_fault n) then unless_closed outs (links m) else links m)
    ≡ unlinked n outs links m
named-port n m is_no_fault [] links =
    same (is_the_number m (is_named true is_no_fault n)) (links m) ∙ sym (same (m == n) (links m))
named-port n m is_no_fault (o ∷ os) links =
    ap (λ (w : Bool). if is_the_number m (is_named w is_no_fault n) then unless_closed (o ∷ os) (links m) else links m)
    (eqb-suc-zero (length os))
    ∙ ap (λ (w : Bool). if w then unless_closed (o ∷ os) (links m) else links m) (numbers m n)
