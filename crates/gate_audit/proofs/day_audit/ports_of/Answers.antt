use Rattle.std.proofs.Common.{◌≡◌, ◌∙◌, ◌<◌, ◌+◌, ◌∷◌, [], ℕ, List, ap, get_or, length, sym, subst, arith}
use Rattle.std.proofs.lemmas.List.{get_or_default, length-append}
use Rattle.gate_core.specs.soup_session.Table.{LoginTerms}
use Rattle.gate_law.specs.Settings.{Settings, port_terms}
use Rattle.gate_audit.specs.declared.messages.HandledSoFar.{HandledSoFar}
use Rattle.gate_audit.specs.Called.{AreHandled, IsHandled}
use Rattle.gate_audit.proofs.Ports.{handled-push}
use Rattle.gate_audit.proofs.day_audit.ports_of.Goals as goal

pub loop-place-preserved : goal.loop-place-preserved
loop-place-preserved c =
    let s : Settings = c.args.settings.now in
    let n = c.loop-place.place in
    let xs : List HandledSoFar = c.loop-place.ports.items in
    let y : HandledSoFar = c.new.result in
    let none : LoginTerms = record { user = []; password = [] } in
    let inside : n < length s.ports = omega (
      arith,
      c.loop-place-test.true,
      c.loop-place.auto.place-end,
      ap (λ (ps : List LoginTerms). length ps) c.ports-place-end.ensures.ports,
    ) in
    let terms : c.index-ports-place.result ≡ port_terms s (n + 1) =
    c.index-ports-place.is
    ∙ (ap (λ (ps : List LoginTerms). get_or ps n c.index-ports-place.result) c.ports.ensures.ports
    ∙ (get_or_default s.ports n c.index-ports-place.result none inside
    ∙ ap (λ (i : ℕ). get_or s.ports i none) (omega arith))) in
    let own : IsHandled (port_terms s (n + 1)) (n + 1) [] y =
    subst (λ (p : ℕ). IsHandled (port_terms s (n + 1)) p [] y) c.at_place.ensures
    (subst (λ (t : LoginTerms). IsHandled t c.at_place.result [] y) terms c.new.ensures) in
    let more = length-append xs (y ∷ []) in
    record {
      handled = subst (AreHandled s [] 0) (sym c.in_ok-push.ensures.items)
          (handled-push s [] 0 xs y (n + 1) (omega (arith, c.loop-place.invariant.many)) c.loop-place.invariant.handled
          own);
      many = ap (λ (ps : List HandledSoFar). length ps) c.in_ok-push.ensures.items
          ∙ omega (arith, more, c.loop-place.invariant.many);
    }
