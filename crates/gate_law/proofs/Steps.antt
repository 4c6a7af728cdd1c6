-- What every history promises, from its last event.
use Rattle.std.proofs.Common.{◌≡◌, Bool, true, false, [], ◌∷◌, refl, ap, sym, subst, ◌∙◌}
use Rattle.std.proofs.lemmas.Bool.{cond-true, cond-false}
use Rattle.order_law.specs.History.{OrderHistory as OrderHistory, issued as order_issued}
use Rattle.order_law.specs.Headline.{Headline}
use Rattle.gate_law.specs.Settings.{Settings, terms}
use Rattle.gate_law.specs.Events.{Event, Batch, empty, History}
use Rattle.gate_law.specs.Lists.{Lists, turned}
use Rattle.gate_law.specs.Outcome.{outcome}
use Rattle.gate_law.specs.After.{lists, order_turns, is_within_day}
use Rattle.gate_law.specs.Due.{Gives}
use Rattle.gate_law.specs.Promises.{Asks}
use Rattle.gate_law.specs.Holds.{Holds, IsRun, OfTurn}
use Rattle.gate_law.proofs.Telling.{runs-tell, turns-after}
use Rattle.gate_law.proofs.Links.{EndsAll, links-current}
use Rattle.gate_law.proofs.Faults.{faults-close}
use Rattle.gate_law.proofs.Targets.{targets-kept}
use Rattle.gate_law.proofs.Sent.{all-sent}

pub holds-first : (s : Settings) → Headline (terms s) [] → Holds s []
holds-first s orders = record {
  run = tt;
  asks = tt;
  orders = orders;
  sent = all-sent s [] tt tt orders;
  reads =
      λ client. refl;
  faults = tt;
  targets = tt;
}

-- a fact of an event that is stepped
of-turn : (w : Bool) (P : Type 0) (b : Batch) → w ≡ true → P → OfTurn w P b
of-turn true P b e p = p
of-turn false P b e p = absurd (cc)

pub holds-past : (s : Settings) (h : History) (e : Event) → is_within_day h ≡ false → Holds s h
    → Holds s (record { event = e; batch = empty } ∷ h)
holds-past s h e late was = record {
  run = (of-late (is_within_day h) _ late, was.run);
  asks = (of-late (is_within_day h) _ late, was.asks);
  orders = unchanged;
  sent = all-sent s (record { event = e; batch = empty } ∷ h) (of-late (is_within_day h) _ late, was.run)
      (of-late (is_within_day h) _ late, was.asks) unchanged;
  reads = λ client. was.reads client ∙ ap (λ (v : Lists). order_issued client v.turns) (sym same);
  faults = (of-late (is_within_day h) _ late, was.faults);
  targets = (of-late (is_within_day h) _ late, was.targets);
}
  where
    of-late : (w : Bool) (P : Type 0) → w ≡ false → OfTurn w P empty
    of-late true P e = absurd (cc)
    of-late false P e = refl

    same : lists s (record { event = e; batch = empty } ∷ h) ≡ lists s h
    same = cond-false (is_within_day h) _ _ late

    unchanged : Headline (terms s) (order_turns s (record { event = e; batch = empty } ∷ h))
    unchanged = subst (λ (v : Lists). Headline (terms s) v.turns) (sym same) was.orders

pub holds-step : EndsAll → (s : Settings) (h : History) (e : Event) (b : Batch) → is_within_day h ≡ true → Holds s h
    → Gives s e b (lists s h) → Asks s e b (lists s h)
    → Headline (terms s) (order_turns s (record { event = e; batch = b } ∷ h))
    → Holds s (record { event = e; batch = b } ∷ h)
holds-step ends s h e b is was g asks orders = record {
  run = run;
  asks = (of-turn (is_within_day h) _ b is asks, was.asks);
  orders = orders;
  sent = all-sent s (record { event = e; batch = b } ∷ h) run (of-turn (is_within_day h) _ b is asks, was.asks) orders;
  reads = runs-tell s (record { event = e; batch = b } ∷ h) run;
  faults = (
    of-turn (is_within_day h) _ b is
        (faults-close ends s e b (lists s h) g (links-current ends s h was.run)),
    was.faults,
  );
  targets = (of-turn (is_within_day h) _ b is (targets-kept s b (lists s h) e g turns), was.targets);
}
  where
    run : IsRun s (record { event = e; batch = b } ∷ h)
    run = (of-turn (is_within_day h) _ b is g, was.run)

    turns : Headline (terms s) (turned (outcome s e b (lists s h)).turn (lists s h)).turns
    turns = subst (λ (told : OrderHistory). Headline (terms s) told)
        (ap (λ (v : Lists). v.turns) (cond-true (is_within_day h) _ _ is)
        ∙ turns-after (outcome s e b (lists s h)) b (lists s h)) orders
