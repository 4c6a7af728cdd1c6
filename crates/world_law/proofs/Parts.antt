-- The parts of a world after the gateway steps an event.
use Rattle.std.proofs.Common.{◌≡◌, ◌==◌, ℕ, Bool, true, false, not, List, [], ◌∷◌, ◌++◌, length, refl, sym, ap, ◌∙◌}
use Rattle.std.proofs.Common.{subst, Option, Some, None, is_some, eq-eqb}
use Rattle.std.proofs.Math.Dec.{eqb-suc-zero}
use Rattle.std.proofs.lemmas.Bool.{cond-true, cond-false}
use Rattle.std.specs.Prelude.{◌&&◌, if◌then◌else◌}
use Rattle.std.specs.List.{list_any}
use Rattle.order_law.specs.History.{Asked}
use Rattle.market_sim.specs.declared.event.SimEvent.TheVariants as sims
use Rattle.market_sim.specs.declared.link.SimLink.TheVariants.{NoLink}
use Rattle.market_sim.specs.Sim.{SimState, sim_step}
use Rattle.gate_law.specs.Settings.{Settings}
use Rattle.gate_law.specs.Events.{Event, Batch, LinkOut, is_for_port}
use Rattle.gate_law.specs.Lists.{Lists}
use Rattle.gate_law.specs.After.{is_close, lists}
use Rattle.gate_law.specs.Due.{due_port, port_named}
use Rattle.world_law.specs.World.{Connection, World, asked_by_event, at_port, core_steps, ended, told_connection}
use Rattle.world_law.specs.World.{told_port, with_connection, carried}
use Rattle.world_law.proofs.InStep.{told, told_link, none-told}

pub at-own : {A : Type 0} (p : ℕ) (x : A) (f : ℕ → A) → at_port p x f p ≡ x
at-own p x f = cond-true (p == p) _ _ (eq-eqb p p refl)

pub at-other : {A : Type 0} (p q : ℕ) (x : A) (f : ℕ → A) → (q == p) ≡ false → at_port p x f q ≡ f q
at-other p q x f other = cond-false (q == p) _ _ other

-- what a batch makes of a market: one whose connection it closes has no link
abbrev pub told_market : List LinkOut → Option Connection → SimState → SimState
told_market outs None m = m
told_market outs (Some c) m = if list_any (is_close (Some c.link)) outs then (sim_step m sims.Gone None).state else m

pub market-link : (outs : List LinkOut) (x : Option Connection) (m : SimState)
    → (told_market outs x m).link ≡ told_link outs x m.link
market-link outs None m = refl
market-link outs (Some c) m = by_close (list_any (is_close (Some c.link)) outs)
  where
    by_close : (b : Bool) → (if b then (sim_step m sims.Gone None).state else m).link ≡ (if b then NoLink else m.link)
    by_close true = refl
    by_close false = refl

market-untold : (x : Option Connection) (m : SimState) → told_market [] x m ≡ m
market-untold None m = refl
market-untold (Some c) m = refl

-- ---- a port that something is told

pub record ToldAt (p : ℕ) (outs : List LinkOut) (asks : List Asked) (x : Option Connection) (w after : World) : Type 0 where
  pub connection : after.connections p ≡ told outs asks x
  pub market : after.markets p ≡ told_market outs x (w.markets p)

told-own : (p : ℕ) (outs : List LinkOut) (asks : List Asked) (x : Option Connection) (w : World) → w.connections p ≡ x
    → ToldAt p outs asks x w (told_connection p outs asks x w)
told-own p outs asks None w e = record { connection = e; market = refl }
told-own p outs asks (Some c) w e = by_close (list_any (is_close (Some c.link)) outs) refl
  where
    more : Connection
    more = record c { to_market = c.to_market ++ carried c.link outs asks }

    by_close : (b : Bool) → list_any (is_close (Some c.link)) outs ≡ b
        → ToldAt p outs asks (Some c) w (if b then ended p w else with_connection p more w)
    by_close true is = record {
      connection = at-own p None w.connections ∙ ap (λ (z : Bool). if z then None else Some more) (sym is);
      market = at-own p (sim_step (w.markets p) sims.Gone None).state w.markets
          ∙ ap (λ (z : Bool). if z then (sim_step (w.markets p) sims.Gone None).state else w.markets p) (sym is);
    }
    by_close false is = record {
      connection = at-own p (Some more) w.connections ∙ ap (λ (z : Bool). if z then None else Some more) (sym is);
      market = ap (λ (z : Bool). if z then (sim_step (w.markets p) sims.Gone None).state else w.markets p) (sym is);
    }

-- the others stay
pub record Untold (q : ℕ) (w after : World) : Type 0 where
  pub connection : after.connections q ≡ w.connections q
  pub market : after.markets q ≡ w.markets q

told-other : (p q : ℕ) (outs : List LinkOut) (asks : List Asked) (x : Option Connection) (w : World) → (q == p) ≡ false
    → Untold q w (told_connection p outs asks x w)
told-other p q outs asks None w other = record { connection = refl; market = refl }
told-other p q outs asks (Some c) w other = by_close (list_any (is_close (Some c.link)) outs)
  where
    by_close : (b : Bool) → Untold q w (if b then ended p w else with_connection p
        (record c { to_market = c.to_market ++ carried c.link outs asks }) w)
    by_close true = record {
      connection = at-other p q None w.connections other;
      market =
          at-other p q (sim_step (w.markets p) sims.Gone None).state w.markets other;
    }
    by_close false = record { connection = at-other p q _ w.connections other; market = refl }

-- what no batch changes
pub record Keeps (w after : World) : Type 0 where
  pub history : after.history ≡ w.history
  pub moves : after.moves ≡ w.moves

told-keeps : (p : ℕ) (outs : List LinkOut) (asks : List Asked) (x : Option Connection) (w : World)
    → Keeps w (told_connection p outs asks x w)
told-keeps p outs asks None w = record { history = refl; moves = refl }
told-keeps p outs asks (Some c) w = by_close (list_any (is_close (Some c.link)) outs)
  where
    by_close : (b : Bool) → Keeps w (if b then ended p w else with_connection p
        (record c { to_market = c.to_market ++ carried c.link outs asks }) w)
    by_close true = record { history = refl; moves = refl }
    by_close false = record { history = refl; moves = refl }

-- ---- a batch

-- one that is for no port writes nothing to one
pub no-outs : (b : Batch) → is_for_port b ≡ false → b.port_out ≡ []
no-outs b none = by_outs b.port_out none
  where
    by_outs : (outs : List LinkOut) → not ((length outs == 0) && not (is_some b.fault)) ≡ false → outs ≡ []
    by_outs [] e = refl
    by_outs (x ∷ outs) e = absurd (let f : true ≡ false =
        ap (λ (z : Bool). not (z && not (is_some b.fault))) (sym (eqb-suc-zero (length outs))) ∙ e in cc)

module _ (s : Settings) (e : Event) (b : Batch) (w : World) (named : b.port ≡ due_port s e b) where
  abbrev turned_world : World
  turned_world = record w { history = record { event = e; batch = b } ∷ w.history }

  abbrev v : Lists
  v = lists s w.history

  -- the port that its event names
  pub core-own : (asks : List Asked) → asks ≡ asked_by_event s e (lists s w.history) (port_named s e)
      → ToldAt (port_named s e) b.port_out asks (w.connections (port_named s e)) w (core_steps s e b w)
  core-own asks is =
      subst (λ (port : Option ℕ). ToldAt (port_named s e) b.port_out asks (w.connections (port_named s e)) w
      (told_port s e (lists s w.history) b.port_out port turned_world)) (sym named) (by_for (is_for_port b) refl)
    where
      by_for : (f : Bool) → is_for_port b ≡ f → ToldAt (port_named s e) b.port_out asks
          (w.connections (port_named s e)) w (told_port s e (lists s w.history) b.port_out
          (if f then Some (port_named s e) else None) turned_world)
      by_for true f =
          let k = told-own (port_named s e) b.port_out asks (w.connections (port_named s e)) turned_world refl in
          subst (λ (xs : List Asked). ToldAt (port_named s e) b.port_out asks (w.connections (port_named s e)) w
          (told_connection (port_named s e) b.port_out xs (w.connections (port_named s e)) turned_world)) is
          (record { connection = k.connection; market = k.market })
      by_for false f =
          let none = no-outs b f in
          record {
            connection = sym (ap (λ (outs : List LinkOut). told outs asks (w.connections (port_named s e))) none
                ∙ none-told asks (w.connections (port_named s e)));
            market = sym (ap (λ (outs : List LinkOut). told_market outs (w.connections (port_named s e))
                (w.markets (port_named s e))) none ∙ market-untold (w.connections (port_named s e))
                (w.markets (port_named s e)));
          }

  pub core-other : (q : ℕ) → (q == port_named s e) ≡ false → Untold q w (core_steps s e b w)
  core-other q other = subst (λ (port : Option ℕ). Untold q w
      (told_port s e (lists s w.history) b.port_out port turned_world)) (sym named) (by_for (is_for_port b))
    where
      by_for : (f : Bool) → Untold q w (told_port s e (lists s w.history) b.port_out
          (if f then Some (port_named s e) else None) turned_world)
      by_for true =
          let k = told-other (port_named s e) q b.port_out (asked_by_event s e (lists s w.history) (port_named s e))
          (w.connections (port_named s e)) turned_world other in
          record { connection = k.connection; market = k.market }
      by_for false = record { connection = refl; market = refl }

pub core-keeps : (s : Settings) (e : Event) (b : Batch) (w : World)
    → Keeps (record w { history = record { event = e; batch = b } ∷ w.history }) (core_steps s e b w)
core-keeps s e b w = by_port b.port
  where
    by_port : (port : Option ℕ) → Keeps (record w { history = record { event = e; batch = b } ∷ w.history })
        (told_port s e (lists s w.history) b.port_out port
        (record w { history = record { event = e; batch = b } ∷ w.history }))
    by_port None = record { history = refl; moves = refl }
    by_port (Some p) = told-keeps p b.port_out (asked_by_event s e (lists s w.history) p) (w.connections p)
        (record w { history = record { event = e; batch = b } ∷ w.history })
