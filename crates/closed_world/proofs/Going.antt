-- Steps, taken by the code's world.
use Rattle.std.proofs.Common.{◌≡◌, ℕ, ◌+◌, ◌<◌, ◌≤◌, Bool, true, false, List, [], ◌∷◌, ◌++◌, length, map, get_or}
use Rattle.std.proofs.Common.{slice_set, Option, Some, None, refl, sym, ap, ◌∙◌, subst, arith}
use Rattle.std.specs.Prelude.{◌&&◌, nat_le, is_some, option_map, if◌then◌else◌}
use Rattle.std.specs.List.{list_all, list_any}
use Rattle.std.proofs.lemmas.Bool.Decides.{nat_tests}
use Rattle.std.proofs.lemmas.List.{length-set}
use Rattle.gate_law.specs.Settings.{Settings, has_port}
use Rattle.gate_law.specs.After.{is_close, lists}
use Rattle.gate_law.specs.Events.{Batch, Event, History, LinkOut, PortUp, PortPacket, PortGone}
use Rattle.gate_law.specs.order_law.History.{Asked}
use Rattle.gate_journal.specs.Kept.{turns}
use Rattle.gate_core.specs.Core.{CoreState, IsAfter}
use Rattle.market_law.specs.declared.choice.Choice.{Choice}
use Rattle.market_law.specs.order_law.ouch_codec.declared.inbound.Inbound.{Inbound}
use Rattle.market_law.specs.order_law.ouch_codec.Values.{is_byte}
use Rattle.soup_packets.specs.declared.packet.Packet.{Packet}
use Rattle.soup_packets.specs.Spelling.{packet_bytes}
use Rattle.market_sim.specs.declared.event.SimEvent.TheVariants as sims
use Rattle.market_sim.specs.Sim.{ReadsEvent, sim_step}
use Rattle.gate_law.specs.soup_session.Table.{later}
use Rattle.world_law.specs.World as world
use Rattle.world_law.specs.World.{Carried, ConnectOf, CoreGets, ForPort, LoseOf, ToCoreOf, ToMarketOf, World}
use Rattle.world_law.specs.World.{asked_by_event, carried, connected, core_steps, ended, market_steps}
use Rattle.world_law.specs.World.{told_connection, told_port, with_connection}
use Rattle.closed_world.specs.Lines.{ArePackets, Delivers, DeliversOn, Line, NothingToCore, TakesToCore, Way, line_seen}
use Rattle.closed_world.specs.Lines.{market_line, told_line, with_way}
use Rattle.closed_world.specs.declared.port_line.PortLine.{PortLine}
use Rattle.closed_world.specs.declared.world.ClosedWorld.{ClosedWorld}
use Rattle.closed_world.specs.Worlds.{AreLines, Gets, Goes, IsAsWorld, IsStepped, IsWorld, after_turn, line_at, way_of}
use Rattle.closed_world.proofs.LinePlaces.{at-place}
use Rattle.closed_world.proofs.Written.{batch-packets}
use Rattle.closed_world.proofs.Changes.{Changes, changed-lines, changes-none, changes-then, connection-changes}
use Rattle.closed_world.proofs.Changes.{market-changes, told-changes, untold-lines}
use Rattle.closed_world.proofs.Standing.{core-holds}

-- what the last batch wrote are packets
pub told-packets : (s : Settings) (e : Event) (b : Batch) (h : History) (c : CoreState)
    → IsAfter s (record { event = e; batch = b } ∷ h) c → ArePackets b.port_out
told-packets s e b h c after = batch-packets s e b h (core-holds s (record { event = e; batch = b } ∷ h) c after)

pub told-packets-of : (s : Settings) (e : Event) (b : Batch) (x : World) (outs : List LinkOut) (w : ClosedWorld)
    → outs ≡ b.port_out → IsAsWorld s (after_turn e b x) w → ArePackets outs
told-packets-of s e b x outs w are same = subst ArePackets (sym are) (told-packets s e b x.history w.core same.core)

-- the core has stepped an event
pub stepped-same : (s : Settings) (x : World) (e : Event) (b : Batch) (old new : ClosedWorld) → IsStepped e old new b
    → IsAsWorld s x old → IsAsWorld s (after_turn e b x) new
stepped-same s x e b old new stepped same = record {
  core = stepped.core s x.history same.core;
  history = stepped.history ∙ ap (λ (h : History). record { event = e; batch = b } ∷ h) same.history;
  moment = stepped.moment ∙ same.moment;
  count = ap (λ ports. length ports.items) stepped.ports ∙ same.count;
  lines = subst (λ ports. AreLines x ports.items) (sym stepped.ports) same.lines;
}

-- ---- which ports there are

pub is-port : (s : Settings) (p count : ℕ) → count ≡ length s.ports → true ≡ (nat_le 1 p && nat_le p count)
    → has_port s p ≡ true
is-port s p count same known = sym (known ∙ ap (λ n. nat_le 1 p && nat_le p n) same)

pub is-no-port : (s : Settings) (p count : ℕ) → count ≡ length s.ports → false ≡ (nat_le 1 p && nat_le p count)
    → has_port s p ≡ false
is-no-port s p count same known = sym (known ∙ ap (λ n. nat_le 1 p && nat_le p n) same)

pub no-place : (p count : ℕ) → false ≡ (nat_le 1 p && nat_le p count) → (i : ℕ) → i < count → i + 1 ≡ p → ⊥
no-place p count known i inside is = both p count (omega arith) (omega arith) known
  where
    both : (p count : ℕ) → 1 ≤ p → p ≤ count → false ≡ (nat_le 1 p && nat_le p count) → ⊥
    both p count one few known = grind (arith, nat_tests)

pub for-port : (b : Bool) (does : Type 0) (x after : World) → b ≡ true → does → ForPort b does x after
for-port true does x after is done = done
for-port false does x after is done = absurd (cc)

pub no-port : (b : Bool) (does : Type 0) (x : World) → b ≡ false → ForPort b does x x
no-port true does x is = absurd (cc)
no-port false does x is = refl

-- ---- a connection opens

pub connect-off : (s : Settings) (x : World) (p : ℕ) (w : ClosedWorld) → has_port s p ≡ false → IsAsWorld s x w
    → Goes s (world.Connect p) x w
connect-off s x p w is same = record {
  after = x;
  happens =
      no-port (has_port s p) (ConnectOf s p (x.connections p) x x) x is;
  same = same;
}

pub connect-busy : (s : Settings) (x : World) (p : ℕ) (w : ClosedWorld) → has_port s p ≡ true
    → is_some (option_map way_of (x.connections p)) ≡ true → IsAsWorld s x w → Goes s (world.Connect p) x w
connect-busy s x p w is busy same = record {
  after = x;
  happens = for-port (has_port s p) (ConnectOf s p (x.connections p) x x) x x is (by_connection (x.connections p) busy);
  same = same;
}
  where
    by_connection : (c : Option world.Connection) → is_some (option_map way_of c) ≡ true → ConnectOf s p c x x
    by_connection None e = absurd (cc)
    by_connection (Some c) e = refl

pub connect-opens : (s : Settings) (x : World) (p : ℕ) (w : ClosedWorld) → has_port s p ≡ true
    → option_map way_of (x.connections p) ≡ None
    → Gets s (PortUp p (x.links p + 1) x.now) (connected p x) w → Goes s (world.Connect p) x w
connect-opens s x p w is none got = record {
  after = got.after;
  happens = for-port (has_port s p) (ConnectOf s p (x.connections p) x got.after) x got.after is
      (by_connection (x.connections p) none);
  same = got.same;
}
  where
    by_connection : (c : Option world.Connection) → option_map way_of c ≡ None → ConnectOf s p c x got.after
    by_connection None e = got.gets
    by_connection (Some c) e = absurd (cc)

-- ---- a connection ends

pub lose-off : (s : Settings) (x : World) (p : ℕ) (w : ClosedWorld) → has_port s p ≡ false → IsAsWorld s x w
    → Goes s (world.Lose p) x w
lose-off s x p w is same = record {
  after = x;
  happens =
      no-port (has_port s p) (LoseOf s p (x.connections p) x x) x is;
  same = same;
}

pub lose-none : (s : Settings) (x : World) (p : ℕ) (w : ClosedWorld) → has_port s p ≡ true
    → option_map way_of (x.connections p) ≡ None → IsAsWorld s x w → Goes s (world.Lose p) x w
lose-none s x p w is none same = record {
  after = x;
  happens = for-port (has_port s p) (LoseOf s p (x.connections p) x x) x x is (by_connection (x.connections p) none);
  same = same;
}
  where
    by_connection : (c : Option world.Connection) → option_map way_of c ≡ None → LoseOf s p c x x
    by_connection None e = refl
    by_connection (Some c) e = absurd (cc)

pub lose-some : (s : Settings) (x : World) (p link : ℕ) (w : ClosedWorld) (c : Way) → has_port s p ≡ true
    → option_map way_of (x.connections p) ≡ Some c → link ≡ c.link
    → Gets s (PortGone p link x.now) (ended p x) w → Goes s (world.Lose p) x w
lose-some s x p link w c is some same_link got = record {
  after = got.after;
  happens = for-port (has_port s p) (LoseOf s p (x.connections p) x got.after) x got.after is
      (by_connection (x.connections p) some);
  same = got.same;
}
  where
    by_connection : (d : Option world.Connection) → option_map way_of d ≡ Some c → LoseOf s p d x got.after
    by_connection None e = absurd (cc)
    by_connection (Some d) e =
        let links : link ≡ d.link = cc in
        subst (λ (n : ℕ). CoreGets s (PortGone p n x.now) (ended p x) got.after) links got.gets

-- ---- a packet is delivered to the core

pub core-off : (s : Settings) (x : World) (p : ℕ) (w : ClosedWorld) → has_port s p ≡ false → IsAsWorld s x w
    → Goes s (world.ToCore p) x w
core-off s x p w is same = record {
  after = x;
  happens =
      no-port (has_port s p) (ToCoreOf s p (x.connections p) x x) x is;
  same = same;
}

pub core-none : (s : Settings) (x : World) (p : ℕ) (w : ClosedWorld) → has_port s p ≡ true
    → NothingToCore (option_map way_of (x.connections p)) → IsAsWorld s x w → Goes s (world.ToCore p) x w
core-none s x p w is none same = record {
  after = x;
  happens = for-port (has_port s p) (ToCoreOf s p (x.connections p) x x) x x is (by_connection (x.connections p) none);
  same = same;
}
  where
    by_connection : (c : Option world.Connection) → NothingToCore (option_map way_of c) → ToCoreOf s p c x x
    by_connection None e = refl
    by_connection (Some c) e = rw e refl

-- the connection with what is left on its way to the core
pub record LeftToCore (s : Settings) (x : World) (p : ℕ) (packet : Packet) (rest : List Packet) (link : ℕ) (c : Way) : Type 0 where
  pub conn : world.Connection
  pub rests : Changes p x (with_connection p conn x) (with_way (Some (record c { to_core = rest })) (line_at x p))
  pub goes : (after : World) → CoreGets s (PortPacket p link x.now packet) (with_connection p conn x) after
      → ToCoreOf s p (x.connections p) x after

pub left-to-core : (s : Settings) (x : World) (p : ℕ) (packet : Packet) (rest : List Packet) (link : ℕ) (c : Way)
    → option_map way_of (x.connections p) ≡ Some c → c.to_core ≡ packet ∷ rest → link ≡ c.link
    → LeftToCore s x p packet rest link c
left-to-core s x p packet rest link c some front same_link = by_connection (x.connections p) refl some
  where
    by_parts : (l : ℕ) (to_market : List Carried) (to_core : List Packet)
        → x.connections p ≡ Some (record { link = l; to_market = to_market; to_core = to_core })
        → way_of (record { link = l; to_market = to_market; to_core = to_core }) ≡ c
        → LeftToCore s x p packet rest link c
    by_parts l to_market to_core is e =
        let links : link ≡ l = cc in
        let fronts : to_core ≡ packet ∷ rest = cc in
        let ways : map (λ (y : Carried). y.bytes) to_market ≡ c.to_market = cc in
        let way : way_of (record { link = l; to_market = to_market; to_core = rest }) ≡ record c { to_core = rest } = cc
        in
        record {
          conn = record { link = l; to_market = to_market; to_core = rest };
          rests = subst (λ (z : Way). Changes p x (with_connection p
              (record { link = l; to_market = to_market; to_core = rest }) x) (with_way (Some z) (line_at x p))) way
              (connection-changes p (record { link = l; to_market = to_market; to_core = rest }) x);
          goes = λ after got. subst (λ (d : Option world.Connection). ToCoreOf s p d x after) (sym is)
              (rw fronts (subst (λ (n : ℕ). CoreGets s (PortPacket p n x.now packet)
              (with_connection p (record { link = l; to_market = to_market; to_core = rest }) x) after) links got));
        }

    by_connection : (d : Option world.Connection) → x.connections p ≡ d → option_map way_of d ≡ Some c
        → LeftToCore s x p packet rest link c
    by_connection None is e = absurd (cc)
    by_connection (Some d) is e = let same : way_of d ≡ c = cc in by_parts d.link d.to_market d.to_core is same

pub core-some : (s : Settings) (x : World) (p : ℕ) (w : ClosedWorld) (packet : Packet) (rest : List Packet) (link : ℕ)
    (c : Way) (left : LeftToCore s x p packet rest link c)
    → has_port s p ≡ true → Gets s (PortPacket p link x.now packet) (with_connection p left.conn x) w
    → Goes s (world.ToCore p) x w
core-some s x p w packet rest link c left is got = record {
  after = got.after;
  happens = for-port (has_port s p) (ToCoreOf s p (x.connections p) x got.after) x got.after is
      (left.goes got.after got.gets);
  same = got.same;
}

-- ---- a packet is delivered to a market

pub market-off : (s : Settings) (x : World) (p : ℕ) (choice : Choice) (w : ClosedWorld) → has_port s p ≡ false
    → IsAsWorld s x w → Goes s (world.ToMarket p choice) x w
market-off s x p choice w is same = record
    { after = x; happens = no-port (has_port s p) (ToMarketOf p choice (x.connections p) x x) x is; same = same }

-- the world that a delivery makes, by what it makes of the port
pub record Delivered (x : World) (p : ℕ) (choice : Choice) (c : Option world.Connection) (new : Line) : Type 0 where
  pub after : World
  pub goes : ToMarketOf p choice c x after
  pub changes : Changes p x after new
  pub history : after.history ≡ x.history
  pub moment : after.now ≡ x.now

packet-delivered : (x : World) (p : ℕ) (choice : Choice) (link : ℕ) (one : Carried) (rest : List Carried)
    (to_core : List Packet) (new : Line)
    → (packet : Packet) (read : Option Inbound) → packet_bytes packet ≡ one.bytes
    → list_all is_byte packet.payload ≡ true → ReadsEvent (sims.Packet packet choice) read
    → new ≡ market_line (sim_step (x.markets p) (sims.Packet packet choice) read)
    (with_way (Some (way_of (record { link = link; to_market = rest; to_core = to_core }))) (line_at x p))
    → Delivered x p choice (Some (record { link = link; to_market = one ∷ rest; to_core = to_core })) new
packet-delivered x p choice link one rest to_core new packet read spelled in_bytes reads made =
    let left : world.Connection = record { link = link; to_market = rest; to_core = to_core } in
    let y : World = with_connection p left x in
    let first : Changes p x y (with_way (Some (way_of left)) (line_at x p)) = connection-changes p left x in
    let second : Changes p y (market_steps p (sims.Packet packet choice) read one.asks y)
    (market_line (sim_step (y.markets p) (sims.Packet packet choice) read) (line_at y p)) =
    market-changes p (sims.Packet packet choice) read one.asks y in
    record {
      after = market_steps p (sims.Packet packet choice) read one.asks y;
      goes = record {
        packet = packet;
        is_packet = spelled;
        are_bytes = in_bytes;
        read = read;
        is_read =
            reads;
        is_after = refl;
      };
      changes = subst (λ (l : Line). Changes p x (market_steps p (sims.Packet packet choice) read one.asks y) l)
          (ap (market_line (sim_step (x.markets p) (sims.Packet packet choice) read)) first.there ∙ sym made)
          (changes-then p x y (market_steps p (sims.Packet packet choice) read one.asks y) _ _ first second);
      history = refl;
      moment = refl;
    }

on-connection : (x : World) (p : ℕ) (choice : Choice) (link : ℕ) (to_market : List Carried) (to_core : List Packet)
    (new : Line)
    → x.connections p ≡ Some (record { link = link; to_market = to_market; to_core = to_core })
    → DeliversOn choice (way_of (record { link = link; to_market = to_market; to_core = to_core }))
    (map (λ (y : Carried). y.bytes) to_market) (line_at x p) new
    → Delivered x p choice (Some (record { link = link; to_market = to_market; to_core = to_core })) new
on-connection x p choice link [] to_core new is made = record {
  after = x;
  goes = refl;
  changes = subst (λ (l : Line). Changes p x x l) (same ∙ sym made) (changes-none p x);
  history = refl;
  moment = refl;
}
  where
    same : line_at x p ≡ with_way (Some (way_of (record { link = link; to_market = []; to_core = to_core })))
        (line_at x p)
    same = ap (λ (c : Option world.Connection). with_way (option_map way_of c) (line_at x p)) is
on-connection x p choice link (one ∷ rest) to_core new is made =
    packet-delivered x p choice link one rest to_core new made.0 made.1 made.2 made.3 made.4 made.5

pub delivered : (x : World) (p : ℕ) (choice : Choice) (new : Line)
    → Delivers choice (option_map way_of (x.connections p)) (line_at x p) new
    → Delivered x p choice (x.connections p) new
delivered x p choice new made = by_connection (x.connections p) refl made
  where
    by_connection : (c : Option world.Connection) → x.connections p ≡ c
        → Delivers choice (option_map way_of c) (line_at x p) new → Delivered x p choice c new
    by_connection None is same = record {
      after = x;
      goes = refl;
      changes = subst (λ (l : Line). Changes p x x l) (sym same) (changes-none p x);
      history = refl;
      moment = refl;
    }
    by_connection (Some c) is made = on-connection x p choice c.link c.to_market c.to_core new is made

pub market-goes : (s : Settings) (x : World) (p : ℕ) (choice : Choice) (w : ClosedWorld) (new : Line)
    (d : Delivered x p choice (x.connections p) new)
    → has_port s p ≡ true → IsAsWorld s d.after w → Goes s (world.ToMarket p choice) x w
market-goes s x p choice w new d is same = record {
  after = d.after;
  happens = for-port (has_port s p) (ToMarketOf p choice (x.connections p) x d.after) x d.after is d.goes;
  same = same;
}

-- ---- a market acts

pub act-off : (s : Settings) (x : World) (p : ℕ) (choice : Choice) (w : ClosedWorld) → has_port s p ≡ false
    → IsAsWorld s x w → Goes s (world.Act p choice) x w
act-off s x p choice w is same = record {
  after = x;
  happens = no-port (has_port s p) (x ≡ market_steps p (sims.Act choice) None None x) x is;
  same = same;
}

pub act-on : (s : Settings) (x : World) (p : ℕ) (choice : Choice) (w : ClosedWorld) → has_port s p ≡ true
    → IsAsWorld s (market_steps p (sims.Act choice) None None x) w → Goes s (world.Act p choice) x w
act-on s x p choice w is same =
    let after : World = market_steps p (sims.Act choice) None None x in
    record { after = after; happens = for-port (has_port s p) (after ≡ after) x after is refl; same = same }

-- ---- an event from without

pub client-not : (s : Settings) (x : World) (e : Event) (w : ClosedWorld) → world.is_clients e ≡ false → IsAsWorld s x w
    → Goes s (world.Client e) x w
client-not s x e w is same = record { after = x; happens = rw is refl; same = same }

-- a world at the event's moment, if that is later
abbrev pub later_world : World → Event → World
later_world x e = record x { now = later x.now (world.moment_of e) }

pub client-gets : (s : Settings) (x : World) (e : Event) (w : ClosedWorld) → world.is_clients e ≡ true
    → Gets s e (later_world x e) w → Goes s (world.Client e) x w
client-gets s x e w is got = record { after = got.after; happens = rw is got.gets; same = got.same }

-- ---- the code's world after a change

pub as-after : (s : Settings) (x y : World) (old new : ClosedWorld) → y.history ≡ x.history → y.now ≡ x.now
    → new.core ≡ old.core → new.history ≡ old.history → new.moment ≡ old.moment
    → length new.ports.items ≡ length old.ports.items
    → (AreLines x old.ports.items → AreLines y new.ports.items) → IsAsWorld s x old → IsAsWorld s y new
as-after s x y old new history moment core kept now count lines same = record {
  core = subst (λ (c : CoreState). IsAfter s y.history c) (sym core)
      (subst (λ (h : History). IsAfter s h old.core) (sym history) same.core);
  history = ap turns kept ∙ (same.history ∙ sym history);
  moment = now ∙ (same.moment ∙ sym moment);
  count = count ∙ same.count;
  lines = lines same.lines;
}

told-history : (p : ℕ) (outs : List LinkOut) (asks : List Asked) (c : Option world.Connection) (x : World)
    → (told_connection p outs asks c x).history ≡ x.history
told-history p outs asks None x = refl
told-history p outs asks (Some c) x = by_close (list_any (is_close (Some c.link)) outs)
  where
    by_close : (b : Bool) → (if b then ended p x else with_connection p
        (record c { to_market = c.to_market ++ carried c.link outs asks }) x).history ≡ x.history
    by_close true = refl
    by_close false = refl

told-moment : (p : ℕ) (outs : List LinkOut) (asks : List Asked) (c : Option world.Connection) (x : World)
    → (told_connection p outs asks c x).now ≡ x.now
told-moment p outs asks None x = refl
told-moment p outs asks (Some c) x = by_close (list_any (is_close (Some c.link)) outs)
  where
    by_close : (b : Bool) → (if b then ended p x else with_connection p
        (record c { to_market = c.to_market ++ carried c.link outs asks }) x).now ≡ x.now
    by_close true = refl
    by_close false = refl

-- one port is another
pub port-changed : (s : Settings) (x y : World) (p : ℕ) (l : Line) (old new : ClosedWorld) (place : ℕ)
    (line d : PortLine) → Changes p x y l → y.history ≡ x.history → y.now ≡ x.now
    → p ≡ place + 1 → place < length old.ports.items → d ≡ get_or old.ports.items place d
    → (line_seen d ≡ line_at x p → line_seen line ≡ l)
    → new.core ≡ old.core → new.history ≡ old.history → new.moment ≡ old.moment
    → new.ports.items ≡ slice_set old.ports.items place line
    → IsAsWorld s x old → IsAsWorld s y new
port-changed s x y p l old new place line d changes history moment number inside is made core kept now ports same =
    as-after s x y old new history moment core kept now
    (ap (λ (ls : List PortLine). length ls) ports ∙ length-set old.ports.items place line)
    (λ lines. subst (AreLines y) (sym ports) (changed-lines x y p l old.ports.items place line d changes number inside
    is made lines)) same

-- a port is as it was
pub port-same : (s : Settings) (x : World) (p : ℕ) (old new : ClosedWorld) (place : ℕ) (line d : PortLine)
    → p ≡ place + 1 → place < length old.ports.items → d ≡ get_or old.ports.items place d → line_seen line ≡ line_seen d
    → new.core ≡ old.core → new.history ≡ old.history → new.moment ≡ old.moment
    → new.ports.items ≡ slice_set old.ports.items place line
    → IsAsWorld s x old → IsAsWorld s x new
port-same s x p old new place line d number inside is stays core kept now ports same =
    port-changed s x x p (line_at x p) old new place line d (changes-none p x) refl refl number inside is
    (λ was. stays ∙ was) core kept now ports same

-- a port was told what a batch writes to it
pub port-told : (s : Settings) (x : World) (p : ℕ) (outs : List LinkOut) (asks : List Asked) (old new : ClosedWorld)
    (place : ℕ) (line d : PortLine)
    → p ≡ place + 1 → place < length old.ports.items → d ≡ get_or old.ports.items place d
    → line_seen line ≡ told_line outs (line_seen d)
    → new.core ≡ old.core → new.history ≡ old.history → new.moment ≡ old.moment
    → new.ports.items ≡ slice_set old.ports.items place line
    → IsAsWorld s x old → IsAsWorld s (told_connection p outs asks (x.connections p) x) new
port-told s x p outs asks old new place line d number inside is told core kept now ports same =
    port-changed s x (told_connection p outs asks (x.connections p) x) p
    (told_line outs (line_at x p)) old new place line d (told-changes p outs asks x)
    (told-history p outs asks (x.connections p) x) (told-moment p outs asks (x.connections p) x) number inside is
    (λ was. told ∙ ap (told_line outs) was) core kept now ports same

-- a port that isn't there was
pub nobody-told : (s : Settings) (x : World) (p count : ℕ) (outs : List LinkOut) (asks : List Asked) (w : ClosedWorld)
    → count ≡ length w.ports.items → false ≡ (nat_le 1 p && nat_le p count)
    → IsAsWorld s x w → IsAsWorld s (told_connection p outs asks (x.connections p) x) w
nobody-told s x p count outs asks w counted known same =
    as-after s x (told_connection p outs asks (x.connections p) x) w w (told-history p outs asks (x.connections p) x)
    (told-moment p outs asks (x.connections p) x) refl refl refl refl
    (untold-lines x (told_connection p outs asks (x.connections p) x) p (told_line outs (line_at x p)) w.ports.items
    (told-changes p outs asks x) (λ i inside. no-place p count known i (omega (arith, inside, counted)))) same

pub tell-some : (s : Settings) (x : World) (e : Event) (b : Batch) (p : ℕ) (outs : List LinkOut) (w : ClosedWorld)
    → b.port ≡ Some p → outs ≡ b.port_out
    → IsAsWorld s (told_connection p outs (asked_by_event s e (lists s x.history) p) (x.connections p)
    (after_turn e b x)) w → IsAsWorld s (core_steps s e b x) w
tell-some s x e b p outs w is are same =
    subst (λ (q : Option ℕ). IsAsWorld s (told_port s e (lists s x.history) b.port_out q (after_turn e b x)) w) (sym is)
    (subst (λ (os : List LinkOut). IsAsWorld s
    (told_connection p os (asked_by_event s e (lists s x.history) p) (x.connections p) (after_turn e b x)) w) are
    same)

pub tell-none : (s : Settings) (x : World) (e : Event) (b : Batch) (w : ClosedWorld) → b.port ≡ None
    → IsAsWorld s (after_turn e b x) w → IsAsWorld s (core_steps s e b x) w
tell-none s x e b w is same = subst (λ (q : Option ℕ). IsAsWorld s
    (told_port s e (lists s x.history) b.port_out q (after_turn e b x)) w) (sym is) same

pub batch-gets : (s : Settings) (x : World) (e : Event) (b : Batch) (w : ClosedWorld)
    → IsAsWorld s (core_steps s e b x) w → Gets s e x w
batch-gets s x e b w same = record {
  after = core_steps s e b x;
  gets = record { batch = b; is_after = refl };
  same =
      same;
}

-- time has passed
pub later-same : (s : Settings) (x : World) (e : Event) (old new : ClosedWorld) → new.core ≡ old.core
    → new.history ≡ old.history → new.ports ≡ old.ports
    → new.moment ≡ later old.moment (world.moment_of e) → IsAsWorld s x old → IsAsWorld s (later_world x e) new
later-same s x e old new core kept ports now same = record {
  core = subst (λ (c : CoreState). IsAfter s x.history c) (sym core) same.core;
  history = ap turns kept ∙ same.history;
  moment = now ∙ ap (λ n. later n (world.moment_of e)) same.moment;
  count = ap (λ ports. length ports.items) ports ∙ same.count;
  lines = subst (λ ports. AreLines x ports.items) (sym ports) same.lines;
}

-- the step before and this one
pub one-more : (s : Settings) (step : world.WorldStep) (steps : List world.WorldStep) (old new : ClosedWorld)
    → ((x : World) → IsAsWorld s x old → Goes s step x new) → IsWorld s steps old → IsWorld s (step ∷ steps) new
one-more s step steps old new goes before =
    let gone : Goes s step before.x new = goes before.x before.same in
    record { x = gone.after; leads = (before.x, before.leads, gone.happens); same = gone.same }

-- the port at a place
pub line-there : (s : Settings) (x : World) (p : ℕ) (w : ClosedWorld) (place : ℕ) (d : PortLine) → p ≡ place + 1
    → place < length w.ports.items → d ≡ get_or w.ports.items place d
    → IsAsWorld s x w → line_seen d ≡ line_at x p
line-there s x p w place d number inside is same =
    at-place (λ i (k : PortLine). line_seen k ≡ line_at x (i + 1)) w.ports.items place d is inside same.lines
    ∙ ap (line_at x) (sym number)

-- the same event of the same port at the same moment
pub gets-same : (s : Settings) (y : World) (w : ClosedWorld) (make : ℕ → ℕ → ℕ → Event) (a b k l m n : ℕ) → a ≡ b
    → k ≡ l → m ≡ n → Gets s (make a k m) y w → Gets s (make b l n) y w
gets-same s y w make a b k l m n e f g got =
    subst (λ (z : ℕ). Gets s (make b l z) y w) g
    (subst (λ (z : ℕ). Gets s (make b z m) y w) f (subst (λ (z : ℕ). Gets s (make z k m) y w) e got))

-- no packet was taken
pub none-taken : (old new : Line) (t : Option (ℕ × Packet)) → TakesToCore old new t
    → ((taken : ℕ × Packet) → t ≡ Some taken → ⊥) → NothingToCore old.connection × (new ≡ old)
none-taken old new None takes none = takes
none-taken old new (Some taken) takes none = absurd (none taken refl)
