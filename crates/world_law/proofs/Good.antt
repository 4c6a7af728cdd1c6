-- What holds of each port of a world, and that it is kept where the gateway steps an event.
use Rattle.std.proofs.Common.{◌≡◌, ◌≤◌, ◌<◌, ◌+◌, ◌^◌, ◌==◌, ℕ, suc, Bool, true, false, not, List, [], ◌∷◌, ◌++◌}
use Rattle.std.proofs.Common.{length, refl, sym, ap, ◌∙◌, subst, arith, Option, Some, None, is_some, nat_lt}
use Rattle.std.proofs.lemmas.Bool.{cond-true, cond-false, eqb-true}
use Rattle.std.proofs.lemmas.Bool.Decides.{nat_tests}
use Rattle.std.specs.Prelude.{◌&&◌, if◌then◌else◌, Ok, Err}
use Rattle.std.specs.List.{list_any}
use Rattle.soup_session.proofs.Closes.{ends_by_close}
use Rattle.order_law.specs.ouch_codec.declared.outbound.Outbound.{Outbound}
use Rattle.order_law.specs.History.{Asked, Came, Heard, OrderEvent, OrderHistory, OrderTurn, Terms, handled}
use Rattle.order_law.specs.Headline.{Each, Headline}
use Rattle.order_machine.specs.Runs.{IsTableRun, TurnsLeave}
use Rattle.market_law.specs.Run.{Move, ran}
use Rattle.market_law.proofs.Basics.{each-join}
use Rattle.market_sim.specs.declared.event.SimEvent.TheVariants as sims
use Rattle.market_sim.specs.declared.link.SimLink.{SimLink}
use Rattle.market_sim.specs.Sim.{SimState, sim_step}
use Rattle.gate_law.specs.Settings.{Settings, terms}
use Rattle.gate_law.specs.Events.{Event, Batch, History, LinkOut, Turn, empty, is_for_port}
use Rattle.gate_law.specs.Lists.{Lists, turned}
use Rattle.gate_law.specs.Outcome.{outcome}
use Rattle.gate_law.specs.After.{is_close, is_within_day, lists, lists_after, order_turns}
use Rattle.gate_law.specs.Due.{Gives, due_port, port_named}
use Rattle.gate_law.specs.Promises.{Asks}
use Rattle.gate_law.specs.Holds.{EachTurn, Holds, IsRun, OfTurn}
use Rattle.gate_law.proofs.Counted.{turns-few}
use Rattle.gate_law.proofs.Steps.{holds-first, holds-past, holds-step}
use Rattle.gate_law.proofs.Telling.{turns-after}
use Rattle.world_law.specs.Asked.{CameAsked}
use Rattle.world_law.proofs.Kept.{came-kept}
use Rattle.world_law.proofs.Writing.{written-asked}
use Rattle.world_law.specs.Moves.{IsAfterMoves}
use Rattle.world_law.specs.World.{Carried, Connection, World, asked_by_event, carried, core_steps}
use Rattle.world_law.specs.Ports.{NoFaults}
use Rattle.world_law.proofs.InStep.{told, told_link}
use Rattle.world_law.proofs.Core.{StepIn}
use Rattle.world_law.proofs.Events.{Goes}
use Rattle.world_law.proofs.Lines.{LineFor, LineKind, PacketFor, carried-for, due-kinds, kept-packets, lines-for}
use Rattle.world_law.proofs.Parts.{ToldAt, Untold, core-keeps, core-other, core-own, market-link, no-outs}
use Rattle.world_law.proofs.Parts.{told_market}

-- ---- a port of a world

abbrev pub packets_on : Option Connection → List Carried
packets_on None = []
packets_on (Some c) = c.to_market

-- All that came to its market, and is on its way there, was asked of it; its market is a run of the machine; what the
-- machine said is what is
-- handled and, after that, what isn't; and within the day the two ends of its connection are in step.
pub record GoodAt (s : Settings) (h : History) (p : ℕ) (moves : List Move) (market : SimState) (connection : Option Connection) : Type 0 where
  pub came : Each (CameAsked (terms s) p (order_turns s h)) moves
  pub after : IsAfterMoves moves market
  pub way : Each (PacketFor (terms s) p (order_turns s h)) (packets_on connection)
  pub newer : List Outbound
  pub split : (ran moves).said ≡ newer ++ handled p (order_turns s h)
  pub in_step : is_within_day h ≡ true → StepIn s (lists s h) p
      (length (handled p (order_turns s h))) newer market.link connection

pub good-same : (s : Settings) (h : History) (p : ℕ) (moves moves' : List Move) (market market' : SimState)
    (connection connection' : Option Connection) → moves' ≡ moves → market' ≡ market → connection' ≡ connection
    → GoodAt s h p moves market connection → GoodAt s h p moves' market' connection'
good-same s h p moves moves' market market' connection connection' same_moves same_market same_connection k =
    subst (λ ms. GoodAt s h p ms market' connection') (sym same_moves)
    (subst (λ m. GoodAt s h p moves m connection') (sym same_market)
    (subst (GoodAt s h p moves market) (sym same_connection) k))

abbrev pub Good : Settings → World → Type 0
Good s w = (p : ℕ) → GoodAt s w.history p (w.moves p) (w.markets p) (w.connections p)

pub record IsGood (s : Settings) (w : World) : Type 0 where
  pub good : Good s w
  pub no_faults : NoFaults w.history

-- ---- a history that is kept

pub record Lawful (s : Settings) (h : History) : Type 0 where
  pub run : IsRun s h
  pub asks : EachTurn s (Asks s) h
  pub orders : Headline (terms s) (order_turns s h)
  pub table : IsTableRun (terms s) (order_turns s h)

-- the lists after one event more
module _ (s : Settings) (h : History) (t : Turn) where
  pub day : is_within_day h ≡ true → lists s (t ∷ h) ≡ lists_after s t.event t.batch (lists s h)
  day on = cond-true (is_within_day h) _ _ on

  pub past : is_within_day h ≡ false → lists s (t ∷ h) ≡ lists s h
  past off = cond-false (is_within_day h) _ _ off

  pub one-more : is_within_day h ≡ true → order_turns s (t ∷ h)
      ≡ (turned (outcome s t.event t.batch (lists s h)).turn (lists s h)).turns
  one-more on = ap (λ (v : Lists). v.turns) (day on)
      ∙ turns-after (outcome s t.event t.batch (lists s h)) t.batch (lists s h)

  -- what one turn more keeps
  pub grown : (P : OrderHistory → Type 0) → P (order_turns s h)
      → ((x : OrderTurn) → P (order_turns s h) → P (x ∷ order_turns s h)) → P (order_turns s (t ∷ h))
  grown P k more = by_day (is_within_day h) refl
    where
      by_turn : (x : Option OrderTurn) → P (turned x (lists s h)).turns
      by_turn None = k
      by_turn (Some x) = more x k

      by_day : (c : Bool) → is_within_day h ≡ c → P (order_turns s (t ∷ h))
      by_day true on = subst P (sym (one-more on)) (by_turn (outcome s t.event t.batch (lists s h)).turn)
      by_day false off = subst P (sym (ap (λ (v : Lists). v.turns) (past off))) k

  -- what held before one turn more
  pub shrunk : (P : OrderHistory → Type 0) → ((x : OrderTurn) (before : OrderHistory) → P (x ∷ before) → P before)
      → P (order_turns s (t ∷ h)) → P (order_turns s h)
  shrunk P less k = by_day (is_within_day h) refl
    where
      by_turn : (x : Option OrderTurn) → P (turned x (lists s h)).turns → P (order_turns s h)
      by_turn None k = k
      by_turn (Some x) k = less x (order_turns s h) k

      by_day : (c : Bool) → is_within_day h ≡ c → P (order_turns s h)
      by_day true on = by_turn (outcome s t.event t.batch (lists s h)).turn (subst P (one-more on) k)
      by_day false off = subst P (ap (λ (v : Lists). v.turns) (past off)) k

  pub earlier : Lawful s (t ∷ h) → Lawful s h
  unfolding TurnsLeave
  earlier k = record {
    run = k.run.1;
    asks = k.asks.1;
    orders = shrunk (Headline (terms s)) (λ x before headline. headline.1) k.orders;
    table = shrunk (IsTableRun (terms s)) (λ x before table. (table.1.0, table.1.1)) k.table;
  }

pub on-day : (P : Type 0) (b : Batch) (c : Bool) → c ≡ true → OfTurn c P b → P
on-day P b true e x = x
on-day P b false e x = absurd (cc)

pub off-day : (P : Type 0) (b : Batch) (c : Bool) → c ≡ false → OfTurn c P b → b ≡ empty
off-day P b true e x = absurd (cc)
off-day P b false e x = x

pub holds-of : (s : Settings) (h : History) → Lawful s h → Holds s h
holds-of s [] k = holds-first s k.orders
holds-of s (t ∷ h) k = by_day (is_within_day h) refl (holds-of s h (earlier s h t k))
  where
    by_day : (c : Bool) → is_within_day h ≡ c → Holds s h → Holds s (t ∷ h)
    by_day true on was = holds-step ends_by_close s h t.event t.batch on was
        (on-day (Gives s t.event t.batch (lists s h)) t.batch (is_within_day h) on k.run.0)
        (on-day (Asks s t.event t.batch (lists s h)) t.batch (is_within_day h) on k.asks.0) k.orders
    by_day false off was =
        subst (λ (b : Batch). Holds s (record { event = t.event; batch = b } ∷ h))
        (sym (off-day (Gives s t.event t.batch (lists s h)) t.batch (is_within_day h) off k.run.0))
        (holds-past s h t.event off was)

-- ---- so few turns

below : (m k : ℕ) → nat_lt m k ≡ true → m < k
below m k e = grind (arith, nat_tests)

pub turns-short : (s : Settings) (h : History) → length (order_turns s h) ≤ 2 ^ 48
turns-short s [] = omega arith
turns-short s (t ∷ h) = by_day (is_within_day h) refl (turns-short s h)
  where
    by_day : (c : Bool) → is_within_day h ≡ c → length (order_turns s h) ≤ 2 ^ 48
        → length (order_turns s (t ∷ h)) ≤ 2 ^ 48
    by_day true on was = let few : length (order_turns s (t ∷ h)) ≤ suc (length h) = turns-few s (t ∷ h) in
        let left : length h < 2 ^ 48 = below (length h) (2 ^ 48) on in omega (arith, few, left)
    by_day false off was = subst (λ (v : Lists). length v.turns ≤ 2 ^ 48) (sym (past s h t off)) was

pub handled-few : (p : ℕ) (h : OrderHistory) → length (handled p h) ≤ length h
handled-few p [] = omega arith
handled-few p (t ∷ before) = by_event t.event t.fault (handled-few p before)
  where
    by_test : (c : Bool) (m : Outbound) → length (handled p before) ≤ length before
        → length (if c then m ∷ handled p before else handled p before) ≤ suc (length before)
    by_test true m few = omega (arith, few)
    by_test false m few = omega (arith, few)

    by_event : (e : OrderEvent) (f : Option ℕ) → length (handled p before) ≤ length before
        → length (handled p (record t { event = e; fault = f } ∷ before)) ≤ suc (length before)
    by_event (Came client m port) f few = omega (arith, few)
    by_event (Heard q (Ok m)) f few = by_test (q == p && not (is_some f)) m few
    by_event (Heard q (Err refusal)) f few = omega (arith, few)

pub room : (s : Settings) (h : History) (p : ℕ) → length (handled p (order_turns s h)) + 1 < 2 ^ 63
room s h p = let few = handled-few p (order_turns s h) in let short = turns-short s h in omega (arith, few, short)

-- ---- one event more

within-earlier : (t : Turn) (h : History) → is_within_day (t ∷ h) ≡ true → is_within_day h ≡ false → ⊥
within-earlier t h on off = apart (length h) (2 ^ 48) on off
  where
    apart : (n k : ℕ) → nat_lt (suc n) k ≡ true → nat_lt n k ≡ false → ⊥
    apart n k e f = grind (arith, nat_tests)

pub core-good : (s : Settings) (h : History) (t : Turn) (q : ℕ) (moves : List Move) (m m' : SimState)
    (x x' : Option Connection) → Lawful s (t ∷ h) → (before : GoodAt s h q moves m x) → IsAfterMoves moves m'
    → Each (PacketFor (terms s) q (order_turns s (t ∷ h))) (packets_on x')
    → (is_within_day h ≡ true → StepIn s (lists s h) q (length (handled q (order_turns s h))) before.newer m.link x
    → Goes s t.event t.batch (lists s h) q before.newer m'.link x')
    → GoodAt s (t ∷ h) q moves m' x'
core-good s h t q moves m m' x x' lawful before after way does = by_day (is_within_day h) refl
  where
    came : Each (CameAsked (terms s) q (order_turns s (t ∷ h))) moves
    came = grown s h t (λ turns. Each (CameAsked (terms s) q turns) moves) before.came
        (λ y k. came-kept (terms s) q y (order_turns s h) moves k)

    by_day : (c : Bool) → is_within_day h ≡ c → GoodAt s (t ∷ h) q moves m' x'
    by_day true on =
        let goes = does on (before.in_step on) in
        record {
          came = came;
          after = after;
          way = way;
          newer = goes.left;
          split = before.split ∙ goes.split ∙ ap (λ (v : Lists). goes.left ++ handled q v.turns) (sym (day s h t on));
          in_step = λ within. subst (λ (v : Lists). StepIn s v q (length (handled q v.turns)) goes.left m'.link x')
              (sym (day s h t on)) goes.step;
        }
    by_day false off = record {
      came = came;
      after = after;
      way = way;
      newer = before.newer;
      split = before.split ∙ ap (λ (v : Lists). before.newer ++ handled q v.turns) (sym (past s h t off));
      in_step = λ within. absurd (within-earlier t h within off);
    }

-- ---- its batch

module _ (s : Settings) (h : History) (t : Turn) (lawful : Lawful s (t ∷ h)) where
  abbrev named : ℕ
  named = port_named s t.event

  pub port-due : t.batch.port ≡ due_port s t.event t.batch
  port-due = by_day (is_within_day h) refl
    where
      by_day : (c : Bool) → is_within_day h ≡ c → t.batch.port ≡ due_port s t.event t.batch
      by_day true on = (on-day (Gives s t.event t.batch (lists s h)) t.batch (is_within_day h) on lawful.run.0).port
      by_day false off = subst (λ (b : Batch). b.port ≡ due_port s t.event b)
          (sym (off-day (Gives s t.event t.batch (lists s h)) t.batch (is_within_day h) off lawful.run.0)) refl

  -- what it writes is for the market
  pub lines : Each (LineFor (terms s) named (order_turns s (t ∷ h))) t.batch.port_out
  lines = by_day (is_within_day h) refl
    where
      none : t.batch.port_out ≡ [] → Each (LineFor (terms s) named (order_turns s (t ∷ h))) t.batch.port_out
      none is = subst (Each (LineFor (terms s) named (order_turns s (t ∷ h)))) (sym is) tt

      by_day : (c : Bool) → is_within_day h ≡ c
          → Each (LineFor (terms s) named (order_turns s (t ∷ h))) t.batch.port_out
      by_day true on = by_for (is_for_port t.batch) refl
        where
          g : Gives s t.event t.batch (lists s h)
          g = on-day (Gives s t.event t.batch (lists s h)) t.batch (is_within_day h) on lawful.run.0

          by_for : (f : Bool) → is_for_port t.batch ≡ f
              → Each (LineFor (terms s) named (order_turns s (t ∷ h))) t.batch.port_out
          by_for true is =
              lines-for (terms s) named (order_turns s (t ∷ h)) t.batch.port_out
              (subst (Each LineKind) (sym g.port_out) (due-kinds s (outcome s t.event t.batch (lists s h)) (lists s h)))
              (written-asked s h t.event t.batch named on (holds-of s (t ∷ h) lawful)
              (g.port ∙ cond-true (is_for_port t.batch) _ _ is))
          by_for false is = none (no-outs t.batch is)
      by_day false off = none (ap (λ (b : Batch). b.port_out)
          (off-day (Gives s t.event t.batch (lists s h)) t.batch (is_within_day h) off lawful.run.0))

  -- it has no fault past the most events
  pub no-fault-past : is_within_day h ≡ false → t.batch.fault ≡ None
  no-fault-past off = ap (λ (b : Batch). b.fault)
      (off-day (Gives s t.event t.batch (lists s h)) t.batch (is_within_day h) off lawful.run.0)

told-way : (ts : List Terms) (p : ℕ) (h : OrderHistory) (outs : List LinkOut) (asks : List Asked)
    (x : Option Connection) → Each (PacketFor ts p h) (packets_on x) → Each (LineFor ts p h) outs
    → Each (PacketFor ts p h) (packets_on (told outs asks x))
told-way ts p h outs asks None way k = tt
told-way ts p h outs asks (Some c) way k = by_close (list_any (is_close (Some c.link)) outs)
  where
    by_close : (b : Bool) → Each (PacketFor ts p h)
        (packets_on (if b then None else Some (record c { to_market = c.to_market ++ carried c.link outs asks })))
    by_close true = tt
    by_close false = each-join (PacketFor ts p h) c.to_market (carried c.link outs asks) way
        (carried-for ts p h c.link outs asks k)

told-after : (moves : List Move) (outs : List LinkOut) (x : Option Connection) (m : SimState) → IsAfterMoves moves m
    → IsAfterMoves moves (told_market outs x m)
told-after moves outs None m k = k
told-after moves outs (Some c) m k = by_close (list_any (is_close (Some c.link)) outs)
  where
    by_close : (b : Bool) → IsAfterMoves moves (if b then (sim_step m sims.Gone None).state else m)
    by_close true = record { book = k.book; kept = k.kept }
    by_close false = k

-- ---- a world in which the gateway steps an event; `w` is how the event leaves it before the batch

module _ (s : Settings) (e : Event) (b : Batch) (w : World) where
  abbrev t : Turn
  t = record { event = e; batch = b }

  abbrev after : World
  after = core_steps s e b w

  abbrev its_port : ℕ
  its_port = port_named s e

  abbrev asks : List Asked
  asks = asked_by_event s e (lists s w.history) (port_named s e)

  abbrev GoodAfter : ℕ → Type 0
  GoodAfter q = GoodAt s (t ∷ w.history) q (after.moves q) (after.markets q) (after.connections q)

  -- of the port that the event names, where it had this market and this connection
  pub own-good : Lawful s (t ∷ w.history) → (m : SimState) (x : Option Connection)
      → (before : GoodAt s w.history its_port (w.moves its_port) m x)
      → IsAfterMoves (w.moves its_port) (w.markets its_port)
      → Each (PacketFor (terms s) its_port (order_turns s w.history)) (packets_on (w.connections its_port))
      → (is_within_day w.history ≡ true → StepIn s (lists s w.history) its_port
      (length (handled its_port (order_turns s w.history))) before.newer m.link x
      → Goes s e b (lists s w.history) its_port before.newer
      (told_link b.port_out (w.connections its_port) (w.markets its_port).link)
      (told b.port_out asks (w.connections its_port)))
      → GoodAfter its_port
  own-good lawful m x before is_after way does =
      good-same s (t ∷ w.history) its_port (w.moves its_port) (after.moves its_port)
      (told_market b.port_out (w.connections its_port) (w.markets its_port)) (after.markets its_port)
      (told b.port_out asks (w.connections its_port)) (after.connections its_port)
      (ap (λ (f : ℕ → List Move). f its_port) (core-keeps s e b w).moves) its_parts.market its_parts.connection
      (core-good s w.history t its_port (w.moves its_port) m
      (told_market b.port_out (w.connections its_port) (w.markets its_port)) x
      (told b.port_out asks (w.connections its_port)) lawful before
      (told-after (w.moves its_port) b.port_out (w.connections its_port) (w.markets its_port) is_after)
      (told-way (terms s) its_port (order_turns s (t ∷ w.history)) b.port_out asks (w.connections its_port)
      (grown s w.history t (λ turns. Each (PacketFor (terms s) its_port turns) (packets_on (w.connections its_port)))
      way (λ y k. kept-packets (terms s) its_port y (order_turns s w.history)
      (packets_on (w.connections its_port)) k))
      (lines s w.history t lawful))
      (λ on k. subst (λ (link : SimLink). Goes s e b (lists s w.history) its_port before.newer link
      (told b.port_out asks (w.connections its_port)))
      (sym (market-link b.port_out (w.connections its_port) (w.markets its_port))) (does on k)))
    where
      its_parts : ToldAt its_port b.port_out asks (w.connections its_port) w after
      its_parts = core-own s e b w (port-due s w.history t lawful) asks refl

  -- of another one
  pub other-good : Lawful s (t ∷ w.history) → (q : ℕ) → (q == its_port) ≡ false
      → (before : GoodAt s w.history q (w.moves q) (w.markets q) (w.connections q))
      → (is_within_day w.history ≡ true → StepIn s (lists s w.history) q
      (length (handled q (order_turns s w.history))) before.newer (w.markets q).link (w.connections q)
      → Goes s e b (lists s w.history) q before.newer (w.markets q).link (w.connections q))
      → GoodAfter q
  other-good lawful q other before does =
      good-same s (t ∷ w.history) q (w.moves q) (after.moves q) (w.markets q) (after.markets q) (w.connections q)
      (after.connections q)
      (ap (λ (f : ℕ → List Move). f q) (core-keeps s e b w).moves) its_parts.market its_parts.connection
      (core-good s w.history t q (w.moves q) (w.markets q) (w.markets q) (w.connections q)
      (w.connections q) lawful before before.after
      (grown s w.history t (λ turns. Each (PacketFor (terms s) q turns) (packets_on (w.connections q))) before.way
      (λ y k. kept-packets (terms s) q y (order_turns s w.history) (packets_on (w.connections q)) k)) does)
    where
      its_parts : Untold q w after
      its_parts = core-other s e b w (port-due s w.history t lawful) q other

  pub all-good : GoodAfter its_port → ((q : ℕ) → (q == its_port) ≡ false → GoodAfter q) → Good s after
  all-good own others q = subst (λ (h : History). GoodAt s h q (after.moves q) (after.markets q) (after.connections q))
      (sym (core-keeps s e b w).history) (by_port (q == its_port) refl)
    where
      by_port : (c : Bool) → (q == its_port) ≡ c → GoodAfter q
      by_port true same = subst GoodAfter (sym (eqb-true q its_port same)) own
      by_port false other = others q other

  -- that no fault is new
  pub no-more-faults : Lawful s (t ∷ w.history) → (is_within_day w.history ≡ true → b.fault ≡ None) → NoFaults w.history
      → NoFaults after.history
  no-more-faults lawful within before = subst NoFaults (sym (core-keeps s e b w).history)
      (by_day (is_within_day w.history) refl, before)
    where
      by_day : (c : Bool) → is_within_day w.history ≡ c → b.fault ≡ None
      by_day true on = within on
      by_day false off = no-fault-past s w.history t lawful off
