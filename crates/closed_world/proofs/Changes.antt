-- What each part of a step makes of the world's ports.
use Rattle.std.proofs.Common.{◌≡◌, ℕ, ◌+◌, ◌<◌, ◌==◌, Bool, true, false, List, [], ◌∷◌, ◌++◌, length, map, drop, get_or}
use Rattle.std.proofs.Common.{slice_set, Option, Some, None, refl, sym, ap, ◌∙◌, subst, arith}
use Rattle.std.proofs.lemmas.Bool.{eq-eqb, eqb-true}
use Rattle.std.proofs.lemmas.List.{map-append}
use Rattle.std.specs.Prelude.{option_map, if◌then◌else◌}
use Rattle.std.specs.List.{flat_map, list_any}
use Rattle.gate_law.specs.order_law.History.{Asked}
use Rattle.market_law.specs.order_law.ouch_codec.declared.inbound.Inbound.{Inbound}
use Rattle.soup_packets.specs.declared.packet.Packet.{Packet}
use Rattle.market_sim.specs.declared.event.SimEvent.{SimEvent}
use Rattle.market_sim.specs.Sim.{SimState, sim_step}
use Rattle.gate_law.specs.After.{is_close}
use Rattle.gate_law.specs.Events.{LinkOut, Write, Close}
use Rattle.world_law.specs.World as world
use Rattle.world_law.specs.World.{Carried, World, at_port, carried, connected, ended, for_link, goes_out}
use Rattle.world_law.specs.World.{market_steps, told_connection, with_connection}
use Rattle.closed_world.specs.Lines.{Line, Way, ended_line, line_seen, market_line, opened_line, said_on, told_line}
use Rattle.closed_world.specs.Lines.{told_on, with_way, with_written, written_to}
use Rattle.closed_world.specs.declared.port_line.PortLine.{PortLine}
use Rattle.closed_world.proofs.LinePlaces.{each-set, place-within}
use Rattle.closed_world.specs.Worlds.{AreLines, line_at, way_of}

-- ---- by numbers

pub at-itself : {A : Type 0} (p : ℕ) (x : A) (f : ℕ → A) → at_port p x f p ≡ x
at-itself p x f = rw (eq-eqb p p refl) refl

pub at-other : {A : Type 0} (p q : ℕ) (x : A) (f : ℕ → A) → (q ≡ p → ⊥) → at_port p x f q ≡ f q
at-other {A = A} p q x f ne = by_test (q == p) refl
  where
    by_test : (b : Bool) → (q == p) ≡ b → (if b then x else f q) ≡ f q
    by_test true is = absurd (ne (eqb-true q p is))
    by_test false is = refl

-- a port by its three parts
pub is-line : (x : World) (p : ℕ) (l : Line) → x.markets p ≡ l.market
    → option_map way_of (x.connections p) ≡ l.connection → x.links p ≡ l.links → line_at x p ≡ l
is-line x p l market connection links = same-fields (x.markets p) l.market
    (option_map way_of (x.connections p)) l.connection (x.links p) l.links market connection links
  where
    same-fields : (m n : SimState) (c d : Option Way) (j k : ℕ) → m ≡ n → c ≡ d → j ≡ k
        → (let one : Line = record { market = m; connection = c; links = j } in let other : Line =
        record { market = n; connection = d; links = k } in one ≡ other)
    same-fields m n c d j k market connection links = cc

-- ---- one port is this line, and each other one stays

pub record Changes (p : ℕ) (x y : World) (l : Line) : Type 0 where
  pub there : line_at y p ≡ l
  pub others : (q : ℕ) → (q ≡ p → ⊥) → line_at y q ≡ line_at x q

pub changes-then : (p : ℕ) (x y z : World) (l m : Line) → Changes p x y l → Changes p y z m → Changes p x z m
changes-then p x y z l m first second = record
    { there = second.there; others = λ q ne. second.others q ne ∙ first.others q ne }

pub changes-none : (p : ℕ) (x : World) → Changes p x x (line_at x p)
changes-none p x = record { there = refl; others = λ q ne. refl }

pub connected-changes : (p : ℕ) (x : World) → Changes p x (connected p x) (opened_line (line_at x p))
connected-changes p x = record {
  there = is-line (connected p x) p (opened_line (line_at x p))
      (at-itself p _ x.markets) (ap (option_map way_of) (at-itself p _ x.connections)) (at-itself p _ x.links);
  others = λ q ne. is-line (connected p x) q (line_at x q)
      (at-other p q _ x.markets ne) (ap (option_map way_of) (at-other p q _ x.connections ne))
      (at-other p q _ x.links ne);
}

pub ended-changes : (p : ℕ) (x : World) → Changes p x (ended p x) (ended_line (line_at x p))
ended-changes p x = record {
  there = is-line (ended p x) p (ended_line (line_at x p)) (at-itself p _ x.markets)
      (ap (option_map way_of) (at-itself p _ x.connections)) refl;
  others = λ q ne. is-line (ended p x) q (line_at x q) (at-other p q _ x.markets ne)
      (ap (option_map way_of) (at-other p q _ x.connections ne)) refl;
}

pub connection-changes : (p : ℕ) (c : world.Connection) (x : World)
    → Changes p x (with_connection p c x) (with_way (Some (way_of c)) (line_at x p))
connection-changes p c x = record {
  there = is-line (with_connection p c x) p (with_way (Some (way_of c)) (line_at x p)) refl
      (ap (option_map way_of) (at-itself p (Some c) x.connections)) refl;
  others = λ q ne. is-line (with_connection p c x) q (line_at x q) refl
      (ap (option_map way_of) (at-other p q (Some c) x.connections ne)) refl;
}

goes-out : (packets : List Packet) (c : Option world.Connection)
    → option_map way_of (goes_out packets c) ≡ said_on packets (option_map way_of c)
goes-out packets None = refl
goes-out packets (Some c) = refl

pub market-changes : (p : ℕ) (e : SimEvent) (read : Option Inbound) (asks : Option Asked) (x : World)
    → Changes p x (market_steps p e read asks x) (market_line (sim_step (x.markets p) e read) (line_at x p))
market-changes p e read asks x = record {
  there = is-line (market_steps p e read asks x) p (market_line (sim_step (x.markets p) e read) (line_at x p))
      (at-itself p _ x.markets) (ap (option_map way_of) (at-itself p _ x.connections)
      ∙ goes-out (sim_step (x.markets p) e read).packets (x.connections p)) refl;
  others = λ q ne. is-line (market_steps p e read asks x) q (line_at x q) (at-other p q _ x.markets ne)
      (ap (option_map way_of) (at-other p q _ x.connections ne)) refl;
}

-- ---- what a batch tells

carried-bytes : (link : ℕ) (outs : List LinkOut) (asks : List Asked)
    → map (λ (x : Carried). x.bytes) (carried link outs asks) ≡ flat_map (written_to link) outs
carried-bytes link [] asks = refl
carried-bytes link (Close other ∷ outs) asks = carried-bytes link outs asks
carried-bytes link (Write other bytes ∷ outs) asks = by_link (other == link) (carried-bytes link outs (drop 1 asks))
  where
    by_link : (b : Bool) → map (λ (x : Carried). x.bytes) (carried link outs (drop 1 asks))
        ≡ flat_map (written_to link) outs
        → map (λ (x : Carried). x.bytes) (for_link b bytes asks ++ carried link outs (drop 1 asks))
        ≡ (if b then bytes ∷ [] else []) ++ flat_map (written_to link) outs
    by_link true rest = ap (λ (ys : List (List ℕ)). bytes ∷ ys) rest
    by_link false rest = rest

written-way : (c : world.Connection) (outs : List LinkOut) (asks : List Asked)
    → way_of (record c { to_market = c.to_market ++ carried c.link outs asks }) ≡ with_written outs (way_of c)
written-way c outs asks =
    ap (λ (ys : List (List ℕ)). let w : Way = record { link = c.link; to_market = ys; to_core = c.to_core } in w)
    (map-append (λ (x : Carried). x.bytes) c.to_market (carried c.link outs asks)
    ∙ ap (λ (ys : List (List ℕ)). map (λ (x : Carried). x.bytes) c.to_market ++ ys) (carried-bytes c.link outs asks))

pub told-changes : (p : ℕ) (outs : List LinkOut) (asks : List Asked) (x : World)
    → Changes p x (told_connection p outs asks (x.connections p) x) (told_line outs (line_at x p))
told-changes p outs asks x = by_connection (x.connections p) refl
  where
    by_connection : (c : Option world.Connection) → x.connections p ≡ c
        → Changes p x (told_connection p outs asks c x) (told_on outs (option_map way_of c) (line_at x p))
    by_connection None is = changes-none p x
    by_connection (Some c) is = by_close (list_any (is_close (Some c.link)) outs)
      where
        by_close : (b : Bool) → Changes p x
            (if b then ended p x else with_connection p
            (record c { to_market = c.to_market ++ carried c.link outs asks }) x)
            (if b then ended_line (line_at x p) else with_way (Some (with_written outs (way_of c))) (line_at x p))
        by_close true = ended-changes p x
        by_close false = subst (λ (w : Way). Changes p x
            (with_connection p (record c { to_market = c.to_market ++ carried c.link outs asks }) x)
            (with_way (Some w) (line_at x p)))
            (written-way c outs asks) (connection-changes p
            (record c { to_market = c.to_market ++ carried c.link outs asks }) x)

-- ---- the code's ports

-- the port at a place is another
pub changed-lines : (x y : World) (p : ℕ) (l : Line) (ports : List PortLine) (place : ℕ) (new d : PortLine)
    → Changes p x y l → p ≡ place + 1 → place < length ports → d ≡ get_or ports place d
    → (line_seen d ≡ line_at x p → line_seen new ≡ l) → AreLines x ports → AreLines y (slice_set ports place new)
changed-lines x y p l ports place new d changes number inside is made lines =
    each-set (λ i (k : PortLine). line_seen k ≡ line_at x (i + 1))
    (λ i (k : PortLine). line_seen k ≡ line_at y (i + 1)) ports place new d inside lines
    (λ was. made (ap line_seen is ∙ (was ∙ ap (line_at x) (sym number))) ∙ (sym changes.there ∙ ap (line_at y) number))
    (λ i k ne was. was ∙ sym (changes.others (i + 1) (λ e. ne (same-place i e))))
  where
    same-place : (i : ℕ) → i + 1 ≡ p → i ≡ place
    same-place i e = omega (arith, e, number)

-- as it was
pub same-set : (x : World) (p : ℕ) (ports : List PortLine) (place : ℕ) (new d : PortLine) → p ≡ place + 1
    → place < length ports → d ≡ get_or ports place d
    → line_seen new ≡ line_seen d → AreLines x ports → AreLines x (slice_set ports place new)
same-set x p ports place new d number inside is same lines =
    changed-lines x x p (line_at x p) ports place new d (changes-none p x) number inside is (λ was. same ∙ was) lines

-- a port that isn't there
pub untold-lines : (x y : World) (p : ℕ) (l : Line) (ports : List PortLine) → Changes p x y l
    → ((i : ℕ) → i < length ports → i + 1 ≡ p → ⊥) → AreLines x ports → AreLines y ports
untold-lines x y p l ports changes none lines i line e = lines i line e
    ∙ sym (changes.others (i + 1) (none i (place-within ports i line e)))
