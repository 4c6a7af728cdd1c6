-- Ticks that are put one after another.
use Rattle.std.proofs.Common.{◌≡◌, ⊎_elim, ℕ, suc, ◌+◌, ◌++◌, List, [], ◌∷◌, Option, Result, Ok, Err, refl, sym, ap}
use Rattle.std.proofs.Common.{◌∙◌, subst, append_assoc, append-nil, arith, inl, inr}
use Rattle.std.specs.Prelude.{IfErr, OnOk}
use Rattle.std.proofs.KnownBytes.{Appends-nil, Appends-trans}
use Rattle.link_io.specs.Events.{Event, ClientTick, PortTick}
use Rattle.gate_workers.specs.Moments.{Tells}
use Rattle.gate_workers.specs.TickersWork.{PutsBehind, PutsTicks, PutsUnless, client_ticks, port_ticks, rounds}

module _ (gave_back : Event → Type 0) where
  -- these, and then those
  unless_both : (events more put also : List Event) → PutsUnless gave_back events put → PutsUnless gave_back more also
      → PutsUnless gave_back (events ++ more) (put ++ also)
  unless_both [] more put also none rest =
      subst (λ (es : List Event). PutsUnless gave_back more (es ++ also)) (sym none) rest
  unless_both (e ∷ events) more put also first rest = ⊎_elim
      (λ (one : (behind : List Event) × (put ≡ e ∷ behind) × PutsUnless gave_back events behind).
      inl (one.0 ++ also, ap (λ (es : List Event). es ++ also) one.1, unless_both events more one.0 also one.2 rest))
      (λ (back : gave_back e × PutsUnless gave_back events put).
      inr (back.0, unless_both events more put also back.1 rest))
      first

  pub behind_none : (x : List Event) → PutsBehind gave_back [] x x
  behind_none x = ([], sym (append-nil x), refl)

  pub behind_both : (events more x y z : List Event) → PutsBehind gave_back events x y → PutsBehind gave_back more y z
      → PutsBehind gave_back (events ++ more) x z
  behind_both events more x y z (put, first, unless) (also, then, unless_too) = (
    put ++ also,
    then ∙ (ap (λ (es : List Event). es ++ also) first ∙ append_assoc x put also),
    unless_both events more put also unless unless_too,
  )

  pub clients_none : (at : ℕ) (x : List Event) → PutsBehind gave_back (client_ticks at 0) x x
  unfolding client_ticks
  clients_none at x = behind_none x

  pub ports_none : (at : ℕ) (x : List Event) → PutsBehind gave_back (port_ticks at 0) x x
  unfolding port_ticks
  ports_none at x = behind_none x

  -- an event that was put, or given back
  pub behind_offer : {E : Type 0} (event : Event) (r : Result Unit E) (back : E → Type 0) (x y z : List Event)
      → OnOk r (y ≡ x ++ event ∷ []) → IfErr r (λ e. back e × (y ≡ x)) → IfErr r (λ e. gave_back event) → z ≡ y
      → PutsBehind gave_back (event ∷ []) x z
  behind_offer event (Ok done) back x y z put given gave same = (event ∷ [], same ∙ put, inl ([], refl, refl))
  behind_offer event (Err e) back x y z put given gave same =
      ([], same ∙ (given.1 ∙ sym (append-nil x)), inr (gave, refl))

  -- a client's, a port's tick more
  pub client_more : (at i next number : ℕ) (x y z : List Event) → next ≡ i + 1 → number ≡ i + 1
      → PutsBehind gave_back (client_ticks at i) x y → PutsBehind gave_back (ClientTick number at ∷ []) y z
      → PutsBehind gave_back (client_ticks at next) x z
  unfolding client_ticks
  client_more at i next number x y z is numbered before one =
      let after : next ≡ suc i = omega (arith, is) in
      let same : number ≡ suc i = omega (arith, numbered) in
      subst (λ (n : ℕ). PutsBehind gave_back (client_ticks at n) x z) (sym after)
      (behind_both (client_ticks at i) (ClientTick (suc i) at ∷ []) x y z before
      (subst (λ (n : ℕ). PutsBehind gave_back (ClientTick n at ∷ []) y z) same one))

  pub port_more : (at i next number : ℕ) (x y z : List Event) → next ≡ i + 1 → number ≡ i + 1
      → PutsBehind gave_back (port_ticks at i) x y → PutsBehind gave_back (PortTick number at ∷ []) y z
      → PutsBehind gave_back (port_ticks at next) x z
  unfolding port_ticks
  port_more at i next number x y z is numbered before one =
      let after : next ≡ suc i = omega (arith, is) in
      let same : number ≡ suc i = omega (arith, numbered) in
      subst (λ (n : ℕ). PutsBehind gave_back (port_ticks at n) x z) (sym after)
      (behind_both (port_ticks at i) (PortTick (suc i) at ∷ []) x y z before
      (subst (λ (n : ℕ). PutsBehind gave_back (PortTick n at ∷ []) y z) same one))

  -- a round more
  rounds_more : (clients ports : ℕ) (moments : List ℕ) (at : ℕ) → rounds clients ports (moments ++ at ∷ [])
      ≡ rounds clients ports moments ++ (client_ticks at clients ++ port_ticks at ports)
  unfolding rounds
  rounds_more clients ports [] at = append-nil (client_ticks at clients ++ port_ticks at ports)
  rounds_more clients ports (m ∷ moments) at =
      ap (λ (es : List Event). (client_ticks m clients ++ port_ticks m ports) ++ es)
      (rounds_more clients ports moments at)
      ∙ sym (append_assoc (client_ticks m clients ++ port_ticks m ports) (rounds clients ports moments)
      (client_ticks at clients ++ port_ticks at ports))

  pub ticks_none : (clients ports : ℕ) (t : Option (List ℕ)) (x : List Event)
      → PutsTicks gave_back clients ports t t x x
  unfolding rounds
  ticks_none clients ports t x = ([], Appends-nil t, behind_none x)

  pub ticks_more : (clients ports at : ℕ) (t u v p : Option (List ℕ)) (w x y z : List Event)
      → PutsTicks gave_back clients ports t u w x → Tells u v (at ∷ []) → PutsBehind gave_back (client_ticks at clients) x y
      → PutsBehind gave_back (port_ticks at ports) y z → p ≡ v → PutsTicks gave_back clients ports t p w z
  ticks_more clients ports at t u v p w x y z (moments, tells, puts) now of_clients of_ports silent = (
    moments ++ at ∷ [],
    subst (λ (o : Option (List ℕ)). Tells t o (moments ++ at ∷ [])) (sym silent)
        (Appends-trans t u v moments (at ∷ []) tells now),
    subst (λ (es : List Event). PutsBehind gave_back es w z) (sym (rounds_more clients ports moments at))
        (behind_both (rounds clients ports moments) (client_ticks at clients ++ port_ticks at ports) w x z puts
        (behind_both (client_ticks at clients) (port_ticks at ports) x y z of_clients of_ports)),
  )
