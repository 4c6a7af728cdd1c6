-- A round keeps what was kept, and releases nothing that waits beside a ring.
use Rattle.std.proofs.Common.{◌≡◌, ℕ, List, [], ◌∷◌, length, Result, Ok, Err, IfOk, OnErr, sym, subst}
use Rattle.desk_steps.specs.Agreeing.{DeskState}
use Rattle.desk_steps.specs.Recorded.{Recorded}
use Rattle.desk_steps.specs.Settling.{HistoryGoesOn, ProducersHold}
use Rattle.desk_steps.specs.Turning.{Does, RoundIsRefused, Rounds, StepsFirst, Went}
use Rattle.desk_steps.specs.declared.turned.Did.{Did}
use Rattle.desk_steps.specs.declared.turned.Did.TheVariants.{Idle, Dropped, Held, Stepped, Refused}
use Rattle.desk_steps.specs.declared.turned.Turned.{Turned}
use Rattle.desk_steps.proofs.Draining.{goes-further, goes-nowhere, step-goes}
use Rattle.desk_steps.proofs.Holding.{drops-hold, holds-none, holds-twice, looks-hold, steps-hold}

-- what a desk was goes on
pub record Onward (s t : DeskState) : Type 0 where
  pub history : HistoryGoesOn s.recorded t.recorded
  pub producers : ProducersHold s.side.producers t.side.producers

nowhere : (s : DeskState) → Onward s s
nowhere s = record { history = goes-nowhere s.recorded; producers = holds-none s.side.producers }

pub onward-twice : (s m t : DeskState) → Onward s m → Onward m t → Onward s t
onward-twice s m t p q = record {
  history = goes-further s.recorded m.recorded t.recorded p.history q.history;
  producers = holds-twice s.side.producers m.side.producers t.side.producers p.producers q.producers;
}

-- what stays of the history
stays : (r q : Recorded) → q ≡ r → HistoryGoesOn r q
stays r q same = subst (HistoryGoesOn r) (sym same) (goes-nowhere r)

does-on : (k : ℕ) (did : Did) (s t : DeskState) → Does k did s t → Onward s t
does-on k Idle s t d = record {
  history = stays s.recorded t.recorded d.0.recorded;
  producers =
      looks-hold s.side.producers t.side.producers d.0.producers;
}
does-on k Held s t d = record {
  history = stays s.recorded t.recorded d.0.recorded;
  producers =
      looks-hold s.side.producers t.side.producers d.0.producers;
}
does-on k Refused s t d = record {
  history = stays s.recorded t.recorded d.0.recorded;
  producers =
      looks-hold s.side.producers t.side.producers d.0.producers;
}
does-on k Dropped s t d =
    onward-twice s d.0 t
    (record {
      history = stays s.recorded d.0.recorded d.1.recorded;
      producers =
          looks-hold s.side.producers d.0.side.producers d.1.producers;
    })
    (record { history = stays d.0.recorded t.recorded d.2.recorded; producers = drops-hold k d.0 t d.2 })
does-on k Stepped s t d =
    let x : StepsFirst k d.0 t = d.2 in
    onward-twice s d.0 t
    (record {
      history = stays s.recorded d.0.recorded d.1.recorded;
      producers =
          looks-hold s.side.producers d.0.side.producers d.1.producers;
    })
    (record { history = step-goes x.event x.output d.0.recorded t.recorded x.step; producers = steps-hold k d.0 t x })

went-on : (s : DeskState) (dids : List Did) (t : DeskState) → Went s dids t → Onward s t
went-on s [] t w = subst (Onward s) (sym w) (nowhere s)
went-on s (did ∷ dids) t w = onward-twice s w.0 t (went-on s dids w.0 w.1) (does-on (length dids) did w.0 t w.2)

pub round-on : {E : Type 0} (result : Result Turned E) (s t : DeskState) → IfOk result (λ turned. Rounds turned s t)
    → OnErr result (RoundIsRefused s t) → Onward s t
round-on (Ok turned) s t ok err = went-on s ok.dids t ok.went
round-on (Err e) s t ok err = went-on s err.dids t err.went
