-- What a desk with a journal keeps, whatever is done with it.
use Rattle.std.specs.Prelude.{◌⊎◌}
use Rattle.std.proofs.Common.{inl, inr, ◌≡◌, ℕ, true, Option, Some, None, List, [], ◌∷◌, slice_get, refl, sym, ap, ◌∙◌}
use Rattle.std.proofs.Common.{subst}
use mathlib.Core.List.{IsPrefix}
use Rattle.gate_events.specs.Sources.{lists_to}
use Rattle.gate_law.specs.Events as law
use Rattle.journal_pages.specs.declared.version.Version.TheVariants.{Two}
use Rattle.gate_journal.specs.Cut.{IsMoreOf}
use Rattle.gate_journal.specs.Day.{day_records}
use Rattle.gate_journal.specs.Kept.{Kept, kept_in, lists_kept}
use Rattle.gate_events.specs.declared.source.Recipient.{Recipient}
use Rattle.desk_rings.specs.Rings.{Done, NamedInlet, NamedOutlet}
use Rattle.desk_rings.specs.CoreEnds.{AllReleased, AllStage, ProducerMayRelease, ProducerMayStage, OutletProducerState}
use Rattle.desk_rings.specs.CoreEnds.{ProducersMayRelease}
use Rattle.desk_rings.specs.CoreEnds.{ProducersMayStage}
use Rattle.desk_side.specs.Side.{SideState}
use Rattle.desk_steps.specs.Agreeing.{Agrees, DeskState}
use Rattle.desk_steps.specs.Recorded.{Recorded}
use Rattle.desk_steps.specs.Settling.{AreReleased, ProducerHolds, ProducersHold}
use Rattle.desk_steps.proofs.Onward.{Onward}
use Rattle.desk_steps.proofs.Draining.{more-twice}
use Rattle.desk_side.proofs.Moves.{come-to, prefix-same, prefix-trans}
use Rattle.journal_log.specs.declared.host_file.HostFile.{HostFile}
use Rattle.journal_log.specs.Seen.{host_may_leave, host_seen}
use Rattle.journal_log.specs.Kept.{HasAll, HasDay, StandsAt, TurnLogState}
use Rattle.journal_log.proofs.Keeping.{all-has}
use Rattle.desk_steps.specs.Ahead.{AreOutputFrom, Ends, HasStill, IsEnded, IsWrittenAhead, KeepsAhead, OutputIsKept}

-- ---- steps

output-same : (history : List (List ℕ)) (w v : OutletProducerState) → v.name ≡ w.name → v.released ≡ w.released
    → IsPrefix w.released (lists_to w.name.to (kept_in history).batches)
    → IsPrefix v.released (lists_to v.name.to (kept_in history).batches)
output-same history w v name released output = rw (name, released) output

ahead-same : (w v : OutletProducerState) → v.sent ≡ w.sent → v.released ≡ w.released → IsPrefix w.released w.sent
    → IsPrefix v.released v.sent
ahead-same w v sent released ahead = rw (sent, released) ahead

output-on : (history : List (List ℕ)) (old new : List OutletProducerState) → ProducersHold old new
    → AreOutputFrom history old
    → AreOutputFrom history new
output-on history old new holds output d v at =
    let w = come-to ProducerHolds old new holds.count holds.each d v at in
    let was = output d w.0 w.1 in (
      w.2.1 ∙ was.0,
      output-same history w.0 v w.2.0 (w.2.2 was.0) was.1,
      prefix-trans v.released w.0.sent v.sent (subst (λ z. IsPrefix z w.0.sent) (sym (w.2.2 was.0)) was.2) w.2.3,
    )

pub ahead-on : (journal : Option (TurnLogState HostFile)) (s t : DeskState) → Onward s t → KeepsAhead journal s
    → KeepsAhead journal t
ahead-on None s t on ahead = tt
ahead-on (Some log) s t on ahead = record {
  history = ahead.history;
  has = ahead.has;
  more = more-twice ahead.history s.recorded.kept.pages t.recorded.kept.pages ahead.more on.history.pages;
  output = output-on ahead.history s.side.producers t.side.producers on.producers ahead.output;
}

-- ---- a journal that has all

kept-output : (kept : Kept) (to : _) (lists : List (List law.LinkOut)) → kept ≡ kept_in kept.pages
    → IsPrefix lists (lists_kept to kept) → IsPrefix lists (lists_to to (kept_in kept.pages).batches)
kept-output kept to lists same prefix = subst (λ (k : Kept). IsPrefix lists (lists_to to k.batches)) same prefix

module _ (inlets : List NamedInlet) (outlets : List NamedOutlet) (r : Recorded) (s t : SideState)
    (log : TurnLogState HostFile)
    (agrees : Agrees inlets outlets (record { recorded = r; side = s })) (same : r.kept ≡ kept_in r.kept.pages)
    (has : HasDay host_seen host_may_leave r.kept.pages log) where
  all-more : IsMoreOf r.kept.pages r.kept.pages
  all-more = record { records = []; same = refl }

  -- what was sent is what the history tells
  sent-output : (d : ℕ) (w v : OutletProducerState) → slice_get s.producers d ≡ Some w → v.name ≡ w.name
      → v.sent ≡ w.sent
      → IsPrefix v.sent (lists_to v.name.to (kept_in r.kept.pages).batches)
  sent-output d w v at name sent = rw (name, sent) (kept-output r.kept w.name.to w.sent same (agrees.to_all d w at).0)

  pub released-ahead : (history : List (List ℕ)) → AreOutputFrom history s.producers
      → ProducersMayRelease s.producers t.producers
      → AllReleased t.producers → IsWrittenAhead log (record { recorded = r; side = t })
  released-ahead history output release all = record {
    history = r.kept.pages;
    has = has;
    more = all-more;
    output = λ d v at.
        let w = come-to ProducerMayRelease s.producers t.producers release.count release.each d v at in (
          w.2.4 ∙ (output d w.0 w.1).0,
          rw (all d v at) (sent-output d w.0 v w.1 w.2.0 w.2.1),
          subst (λ z. IsPrefix z v.sent) (sym (all d v at)) (prefix-same v.sent),
        );
  }

  pub staged-ahead : ProducersMayStage s.producers t.producers → AllStage t.producers
      → IsWrittenAhead log (record { recorded = r; side = t })
  staged-ahead stage all = record {
    history = r.kept.pages;
    has = has;
    more = all-more;
    output = λ d v at.
        let w = come-to ProducerMayStage s.producers t.producers stage.count stage.each d v at in
        let is = all d v at in (
          is.0,
          prefix-trans v.released v.sent (lists_to v.name.to (kept_in r.kept.pages).batches) is.1
              (sent-output d w.0 v w.1 w.2.0 w.2.1),
          is.1,
        );
  }

-- producers that may stage, of a desk that has a journal or none
pub may-stage-ahead : (journal : Option (TurnLogState HostFile)) (r : Recorded) (s t : SideState)
    → ProducersMayStage s.producers t.producers
    → KeepsAhead journal (record { recorded = r; side = s }) → KeepsAhead journal (record { recorded = r; side = t })
may-stage-ahead None r s t stage ahead = tt
may-stage-ahead (Some log) r s t stage ahead = record {
  history = ahead.history;
  has = ahead.has;
  more = ahead.more;
  output = λ d v at.
      let w = come-to ProducerMayStage s.producers t.producers stage.count stage.each d v at in
      let was = ahead.output d w.0 w.1 in
      (w.2.5 was.0, output-same ahead.history w.0 v w.2.0 w.2.4 was.1, ahead-same w.0 v w.2.1 w.2.4 was.2);
}

-- ---- the journal alone

-- a journal that was to end
pub ends-ahead : (inlets : List NamedInlet) (outlets : List NamedOutlet) (r : Recorded) (s : SideState)
    (old new : Option (TurnLogState HostFile)) → Agrees inlets outlets (record { recorded = r; side = s })
    → HasStill r.kept old new
    → KeepsAhead old (record { recorded = r; side = s }) → KeepsAhead new (record { recorded = r; side = s })
ends-ahead inlets outlets r s None None agrees still ahead = tt
ends-ahead inlets outlets r s None (Some new) agrees still ahead = absurd still
ends-ahead inlets outlets r s (Some old) None agrees still ahead = absurd still
ends-ahead inlets outlets r s (Some old) (Some new) agrees still ahead =
    by_has (still.1 ahead.history ahead.has ahead.more)
  where
    by_has : HasDay host_seen host_may_leave ahead.history new ⊎ HasDay host_seen host_may_leave r.kept.pages new
        → IsWrittenAhead new (record { recorded = r; side = s })
    by_has (inl has) = record { history = ahead.history; has = has; more = ahead.more; output = ahead.output }
    by_has (inr has) = record {
      history = r.kept.pages;
      has = has;
      more = record { records = []; same = refl };
      output = λ d w at.
          let was = ahead.output d w at in (
            was.0,
            prefix-trans w.released w.sent (lists_to w.name.to (kept_in r.kept.pages).batches) was.2
                (sent-output inlets outlets r s s new agrees still.0 has d w w at refl refl),
            was.2,
          );
    }

pub ends-once : (r : Recorded) (s : SideState) (old new : Option (TurnLogState HostFile)) → Ends r.kept old new
    → KeepsAhead old (record { recorded = r; side = s }) → IsEnded r.kept new
ends-once r s None None ends ahead = tt
ends-once r s None (Some new) ends ahead = absurd ends
ends-once r s (Some old) None ends ahead = absurd ends
ends-once r s (Some old) (Some new) ends ahead = ends ahead.history ahead.has ahead.more

pub begun-day : (history : List (List ℕ)) (log : TurnLogState HostFile) → StandsAt history log
    → HasAll host_seen host_may_leave history log.file → HasDay host_seen host_may_leave history log
begun-day history log mark all = record {
  mark = mark;
  has =
      all-has host_seen host_may_leave history log.file log.shut all;
}

-- ---- the end

-- what finished outlets took is released still
pub released-on : (history : List (List ℕ)) (finished : List Done) (old new : List OutletProducerState)
    → AreOutputFrom history old
    → ProducersMayRelease old new → AllReleased new → AreReleased finished old → AreReleased finished new
released-on history finished old new output release all took i d to lists at =
    let was = took i d to lists at in
    let w = was.0 in
    let own = output d w was.1 in
    let v = release.each d w was.1 in (
      v.0,
      v.1,
      ap (λ (n : NamedOutlet). n.to) v.2.0 ∙ was.2,
      λ so. subst (λ z. IsPrefix lists z) (sym (all d v.0 v.1 ∙ v.2.1))
          (prefix-trans lists w.released w.sent (was.3 own.0) own.2),
    )

pub kept-tells : (finished : List Done) (journal : Option (TurnLogState HostFile)) (s : DeskState)
    → KeepsAhead journal s → AreReleased finished s.side.producers → OutputIsKept finished journal
kept-tells finished None s ahead took = tt
kept-tells finished (Some log) s ahead took = record {
  history = ahead.history;
  left = ahead.has.has.left;
  output = λ i d to lists at.
      let was = took i d to lists at in
      let own = ahead.output d was.0 was.1 in
      let tells = prefix-trans lists was.0.released (lists_to was.0.name.to (kept_in ahead.history).batches)
      (was.3 own.0) own.1 in
      subst (λ (z : Recipient). IsPrefix lists (lists_to z (kept_in ahead.history).batches)) was.2 tells;
}
