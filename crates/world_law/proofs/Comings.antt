-- What becomes of a port as its link comes up or is gone, and as time passes.
use Rattle.std.proofs.Common.{◌≡◌, ◌-◌, ◌==◌, ℕ, Bool, true, false, not, List, [], ◌∷◌, ◌++◌, Option, Some, None, refl}
use Rattle.std.proofs.Common.{ap, sym, subst, ◌∙◌, eq-eqb, inl, inr, nat_lt}
use Rattle.std.proofs.lemmas.Bool.{cases_Bool, cond-true, cond-false}
use Rattle.std.specs.Prelude.{if◌then◌else◌, ◌&&◌, ◌||◌, ◌⊎◌}
use Rattle.soup_packets.specs.Spelling.{packet_bytes}
use Rattle.soup_session.specs.declared.port_state.PortState.{PortState}
use Rattle.soup_session.specs.declared.port_state.PortState.TheVariants.{Down, LoggingIn, Up, Ended, Faulted}
use Rattle.soup_session.specs.States.{is_down, is_up, is_open}
use Rattle.soup_session.specs.Writing.{heartbeat}
use Rattle.soup_session.specs.Table as table
use Rattle.soup_session.specs.Table.{PortCall, OnUp, OnGone, OnTick, PortAnswer, PortStanding, standing, answer}
use Rattle.gate_law.specs.Settings.{Settings, has_port, port_terms}
use Rattle.gate_law.specs.Events.{PortUp, PortGone, PortTick, LinkOut, Write, Close, Batch}
use Rattle.gate_law.specs.Lists.{Lists}
use Rattle.gate_law.specs.Sessions.{port_answer, port_outs, to_port}
use Rattle.gate_law.specs.Outcome.{Outcome, Stays, Comes, of_port, outcome}
use Rattle.gate_law.specs.Outcome.{Goes as gone}
use Rattle.gate_law.specs.After.{unless_closed}
use Rattle.gate_law.specs.Due.{Gives}
use Rattle.order_law.specs.History.{handled}
use Rattle.world_law.specs.Ports.{PortAfter, StandsAs, TickLeaves, login_due, port_standing}
use Rattle.world_law.proofs.Ports.{own-after, stands-same}

module _ (s : Settings) (p : ℕ) (v : Lists) (b : Batch) (has : has_port s p ≡ true) where
  -- ---- a link comes up

  comes : (link at : ℕ) → v.port_link p ≡ None
      → outcome s (PortUp p link at) b v ≡ of_port p (Comes link) (OnUp at ∷ [])
  comes link at none = rw (has, none) refl

  -- the session logs in, for the next payload that it wants
  logs-in : (at : ℕ) → (port_standing s v p).state ≡ Down
      → answer (port_terms s p) (v.port_calls p) (OnUp at)
      ≡ table.says (login_due s v p) (record (table.sent_now
      (table.heard_now (table.passed at (port_standing s v p)))) { state = LoggingIn })
  logs-in at down = cond-true (is_down (port_standing s v p).state) _ _ (ap is_down down)

  pub up-after : (link at : ℕ) → Gives s (PortUp p link at) b v → v.port_link p ≡ None
      → (port_standing s v p).state ≡ Down
      → PortAfter s (PortUp p link at) b v p (Write link (packet_bytes (login_due s v p)) ∷ []) (Some link)
      (record (port_standing s v p) { state = LoggingIn }) (handled p v.turns)
      × (b.fault ≡ None)
  unfolding port_answer
  up-after link at g none down = (
    own-after s (PortUp p link at) b v g (of_port p (Comes link) (OnUp at ∷ [])) (comes link at none) refl
        (Write link (packet_bytes (login_due s v p)) ∷ []) (Some link)
        (record (port_standing s v p) { state = LoggingIn }) (handled p v.turns)
        (ap (λ (l : Option ℕ). to_port l (port_outs s p (v.port_calls p) (OnUp at ∷ [])))
        (cond-true (p == p) _ _ (eq-eqb p p refl))
        ∙ ap (λ (a : PortAnswer). to_port (Some link) (a.outs ++ [])) (logs-in at down))
        (cond-true (p == p) _ _ (eq-eqb p p refl))
        (subst (λ (a : PortAnswer). StandsAs a.after (record (port_standing s v p) { state = LoggingIn }))
        (sym (logs-in at down)) (record { state = refl; session = refl; arrived = refl; number = refl }))
        refl,
    g.fault ∙ ap (λ (o : Outcome). o.fault) (comes link at none),
  )

  -- ---- it is gone

  goes : (link at : ℕ) → v.port_link p ≡ Some link → outcome s (PortGone p link at) b v ≡ of_port p gone (OnGone ∷ [])
  goes link at current = rw (has, current, eq-eqb link link refl) refl

  pub gone-after : (link at : ℕ) → Gives s (PortGone p link at) b v → v.port_link p ≡ Some link
      → is_open (port_standing s v p).state ≡ true
      → PortAfter s (PortGone p link at) b v p [] None (record (port_standing s v p) { state = Down })
      (handled p v.turns) × (b.fault ≡ None)
  gone-after link at g current opened = (
    own-after s (PortGone p link at) b v g (of_port p gone (OnGone ∷ [])) (goes link at current) refl [] None
        (record (port_standing s v p) { state = Down }) (handled p v.turns)
        (ap (λ (l : Option ℕ). to_port l (port_outs s p (v.port_calls p) (OnGone ∷ [])))
        (cond-true (p == p) _ _ (eq-eqb p p refl)))
        (cond-true (p == p) _ _ (eq-eqb p p refl))
        (subst (λ (x : PortStanding). StandsAs x (record (port_standing s v p) { state = Down }))
        (sym (cond-true (is_open (port_standing s v p).state) _ _ opened))
        (stands-same (record (port_standing s v p) { state = Down })))
        refl,
    g.fault ∙ ap (λ (o : Outcome). o.fault) (goes link at current),
  )

  -- ---- time passes

  ticks : (at : ℕ) → outcome s (PortTick p at) b v ≡ of_port p Stays (OnTick at ∷ [])
  ticks at = rw has refl

  -- by what the session answers
  tick-by : (at : ℕ) → Gives s (PortTick p at) b v
      → (current now : Option ℕ) (outs : List LinkOut) (a : PortAnswer) (x : PortStanding)
      → answer (port_terms s p) (v.port_calls p) (OnTick at) ≡ a → v.port_link p ≡ current
      → to_port current (a.outs ++ []) ≡ outs → unless_closed outs current ≡ now → StandsAs a.after x
      → PortAfter s (PortTick p at) b v p outs now x (handled p v.turns)
  unfolding port_answer
  tick-by at g current now outs a x is linked lines closed stands =
      own-after s (PortTick p at) b v g (of_port p Stays (OnTick at ∷ [])) (ticks at) refl outs now x
      (handled p v.turns)
      (ap (λ (l : Option ℕ). to_port l (port_outs s p (v.port_calls p) (OnTick at ∷ []))) linked
      ∙ ap (λ (y : PortAnswer). to_port current (y.outs ++ [])) is ∙ lines)
      (ap (λ (l : Option ℕ). unless_closed outs l) linked ∙ closed)
      (subst (λ (y : PortAnswer). StandsAs y.after x) (sym is) stands)
      refl

  tick-fault : (at : ℕ) → Gives s (PortTick p at) b v → b.fault ≡ None
  tick-fault at g = g.fault ∙ ap (λ (o : Outcome). o.fault) (ticks at)

  pub tick-after : (link at : ℕ) → Gives s (PortTick p at) b v → v.port_link p ≡ Some link
      → TickLeaves s p at b v link × (b.fault ≡ None)
  tick-after link at g linked = (by_open (cases_Bool (not (is_open x.state))), tick-fault at g)
    where
      x : PortStanding
      x = table.passed at (port_standing s v p)

      later : PortAnswer
      later = if is_up x.state && nat_lt 1_000 (x.now - x.sent) then table.says heartbeat
          (table.sent_now x) else table.quiet_answer x

      heard : PortAnswer
      heard = if nat_lt 15_000 (x.now - x.heard) then table.closes Down x else later

      quiet : answer (port_terms s p) (v.port_calls p) (OnTick at) ≡ table.quiet_answer x → TickLeaves s p at b v link
      quiet is = inl (tick-by at g (Some link) (Some link) [] (table.quiet_answer x)
          (port_standing s v p) is linked refl refl
          (record { state = refl; session = refl; arrived = refl; number = refl }))

      up-of : (state : PortState) (w : Bool) → (is_up state && w) ≡ true → state ≡ Up
      up-of Up w e = refl
      up-of Down w e = absurd (cc)
      up-of LoggingIn w e = absurd (cc)
      up-of Ended w e = absurd (cc)
      up-of (Faulted fault) w e = absurd (cc)

      beats : (is_up x.state && nat_lt 1_000 (x.now - x.sent)) ≡ true
          → answer (port_terms s p) (v.port_calls p) (OnTick at) ≡ table.says heartbeat (table.sent_now x)
          → TickLeaves s p at b v link
      beats up is = inr (inl (
        up-of x.state (nat_lt 1_000 (x.now - x.sent)) up,
        tick-by at g (Some link) (Some link) (Write link (packet_bytes heartbeat) ∷ [])
            (table.says heartbeat (table.sent_now x)) (port_standing s v p) is linked refl refl
            (record { state = refl; session = refl; arrived = refl; number = refl }),
      ))

      closes : answer (port_terms s p) (v.port_calls p) (OnTick at) ≡ table.closes Down x → TickLeaves s p at b v link
      closes is = inr (inr (tick-by at g (Some link) None (Close link ∷ []) (table.closes Down x)
          (record (port_standing s v p) { state = Down }) is linked refl
          (cond-true ((link == link) || false) _ _ (ap (λ (w : Bool). w || false) (eq-eqb link link refl)))
          (record { state = refl; session = refl; arrived = refl; number = refl })))

      by_sent : answer (port_terms s p) (v.port_calls p) (OnTick at) ≡ later
          → ((is_up x.state && nat_lt 1_000 (x.now - x.sent)) ≡ true) ⊎
          ((is_up x.state && nat_lt 1_000 (x.now - x.sent)) ≡ false) → TickLeaves s p at b v link
      by_sent is (inl due) = beats due (is ∙ cond-true (is_up x.state && nat_lt 1_000 (x.now - x.sent)) _ _ due)
      by_sent is (inr none) = quiet (is ∙ cond-false (is_up x.state && nat_lt 1_000 (x.now - x.sent)) _ _ none)

      by_heard : answer (port_terms s p) (v.port_calls p) (OnTick at) ≡ heard
          → (nat_lt 15_000 (x.now - x.heard) ≡ true) ⊎ (nat_lt 15_000 (x.now - x.heard) ≡ false)
          → TickLeaves s p at b v link
      by_heard is (inl late) = closes (is ∙ cond-true (nat_lt 15_000 (x.now - x.heard)) _ _ late)
      by_heard is (inr not_late) = by_sent (is ∙ cond-false (nat_lt 15_000 (x.now - x.heard)) _ _ not_late)
          (cases_Bool (is_up x.state && nat_lt 1_000 (x.now - x.sent)))

      by_open : (not (is_open x.state) ≡ true) ⊎ (not (is_open x.state) ≡ false) → TickLeaves s p at b v link
      by_open (inl shut) = quiet (cond-true (not (is_open x.state)) _ _ shut)
      by_open (inr opened) = by_heard (cond-false (not (is_open x.state)) _ _ opened)
          (cases_Bool (nat_lt 15_000 (x.now - x.heard)))

  -- where there is no link nothing comes of it
  pub idle-after : (at : ℕ) → Gives s (PortTick p at) b v → v.port_link p ≡ None
      → is_open (port_standing s v p).state ≡ false
      → PortAfter s (PortTick p at) b v p [] None (port_standing s v p) (handled p v.turns) × (b.fault ≡ None)
  idle-after at g none shut = (
    tick-by at g None None [] (table.quiet_answer (table.passed at (port_standing s v p))) (port_standing s v p)
        (cond-true (not (is_open (port_standing s v p).state)) _ _ (ap not shut)) none refl refl
        (record { state = refl; session = refl; arrived = refl; number = refl }),
    tick-fault at g,
  )
