-- A client that is sent numbers again was written to, if there are any.
use Rattle.std.proofs.Common.{◌≡◌, ℕ, ◌+◌, ◌-◌, ◌<◌, ◌≤◌, Bool, true, false, List, [], ◌∷◌, ◌++◌, length, take, drop}
use Rattle.std.proofs.Common.{map, refl, sym, ap, ◌∙◌, arith, append-nil, Option, Some, None, nat_lt, if◌then◌else◌}
use Rattle.std.proofs.Common.{min}
use Rattle.std.specs.Prelude.{nat_le}
use Rattle.std.proofs.lemmas.List.{length-take, length-drop}
use Rattle.std.proofs.lemmas.Bool.{ltb-true, ltb-false}
use Rattle.std.proofs.lemmas.Bool.Decides.{nat_tests}
use Rattle.session_law.specs.declared.phase.Phase.{Phase}
use Rattle.session_law.specs.declared.frame.Frame.{Frame}
use Rattle.session_law.specs.declared.frame.Out.{Out}
use Rattle.session_law.specs.declared.frame.Out.TheVariants.{Write}
use Rattle.session_law.specs.Session.{State, Slot, Given, again, gap_fill, resent, resend, on_resent, on_written}
use Rattle.session_law.specs.Session.{sent_again}
use Rattle.fix_session.specs.declared.draft.Draft.{Draft}
use Rattle.fix_session.specs.declared.draft.Resend.{Resend}
use Rattle.fix_session.specs.Made.{made, resent_outs}

-- a frame in front
in-front : (now at start n : ℕ) (c : Bool) (f : Frame) (fs : List Frame) (phase : Phase)
    → on_resent now ((if c then gap_fill at start n ∷ [] else []) ++ f ∷ fs) phase ≡ on_written now phase
in-front now at start n true f fs phase = refl
in-front now at start n false f fs phase = refl

some-resent : (now at start n : ℕ) (slots : List Slot) (phase : Phase) → start < n + length slots
    → on_resent now (resent at start n slots) phase ≡ on_written now phase
some-resent now at start n [] phase lt = by_test (nat_lt start n) refl
  where
    by_test : (c : Bool) → nat_lt start n ≡ c
        → on_resent now (if c then gap_fill at start n ∷ [] else []) phase ≡ on_written now phase
    by_test true e = refl
    by_test false e = absurd (let wrong : ⊥ = omega (arith, ltb-false start n e, lt) in wrong)
some-resent now at start n (None ∷ slots) phase lt = some-resent now at start (n + 1) slots phase (omega (arith, lt))
some-resent now at start n (Some k ∷ slots) phase lt =
    in-front now at start n (nat_lt start n) (again at n k) (resent at (n + 1) (n + 1) slots) phase

none-resent : (now at n : ℕ) (phase : Phase) → on_resent now (resent at n n []) phase ≡ phase
none-resent now at n phase = by_test (nat_lt n n) refl
  where
    by_test : (c : Bool) → nat_lt n n ≡ c → on_resent now (if c then gap_fill at n n ∷ [] else []) phase ≡ phase
    by_test true e = absurd (let wrong : ⊥ = omega (arith, ltb-true n n e) in wrong)
    by_test false e = refl

pub phase-resent : (now at : ℕ) (given : List Slot) (from to : ℕ) (phase : Phase) → 1 ≤ from → to ≤ length given
    → (if nat_le from to then on_written now phase else phase) ≡ on_resent now (resend at given from to) phase
phase-resent now at given from to phase one most = by_test (nat_le from to) refl
  where
    by_test : (c : Bool) → nat_le from to ≡ c
        → (if c then on_written now phase else phase) ≡ on_resent now (resend at given from to) phase
    by_test true e =
        let low : from ≤ to = grind (arith, nat_tests, e) in
        let size : length (take (to + 1 - from) (drop (from - 1) given))
        ≡ min (to + 1 - from) (length given - (from - 1)) = length-take (to + 1 - from) (drop (from - 1) given)
        ∙ ap (λ n. min (to + 1 - from) n) (length-drop (from - 1) given) in
        sym (some-resent now at from from (take (to + 1 - from) (drop (from - 1) given)) phase
        (omega (arith, size, low, one, most)))
    by_test false e =
        let high : to < from = grind (arith, nat_tests, e) in
        let none : to + 1 - from ≡ 0 = omega (arith, high) in
        sym (ap (λ n. on_resent now (resent at from from (take n (drop (from - 1) given))) phase) none
        ∙ none-resent now at from phase)

-- numbers that are sent again before all else
pub sent : (s : State) (d : Draft) (phase : Phase) (from to : ℕ) → (made s d).state.given ≡ s.given → d.resends ≡ None
    → d.outs.items ≡ [] → 1 ≤ from → to ≤ length s.given
    → phase ≡ (if nat_le from to then on_written d.latest d.phase else d.phase)
    → made s (record d { phase = phase; resends = Some (record { from = from; to = to }) })
    ≡ sent_again (made s d) (Some (record { from = from; to = to }))
sent s d phase from to given alone silent one most is =
    let there = (made s d).state.given in
    let frames = resend d.latest there from to in
    let with : Phase → List Out → Given = λ p outs. record {
      state = record s { phase = p; expected = d.expected; given = there; latest = d.latest };
      outs = outs;
      app =
          None;
    } in
    let many : to ≤ length there = omega (arith, ap (λ (g : List Slot). length g) given, most) in
    let now : phase ≡ on_resent d.latest frames d.phase = is
    ∙ phase-resent d.latest d.latest there from to d.phase one many in
    let none : resent_outs d.latest s.given d.resends ++ d.outs.items ≡ [] =
    ap (λ (r : Option Resend). resent_outs d.latest s.given r ++ d.outs.items) alone ∙ silent in
    let outs : map Write (resend d.latest s.given from to) ++ d.outs.items
    ≡ (resent_outs d.latest s.given d.resends ++ d.outs.items) ++ map Write frames =
    ap (λ (l : List Out). map Write (resend d.latest s.given from to) ++ l) silent
    ∙ append-nil (map Write (resend d.latest s.given from to))
    ∙ ap (λ (g : List Slot). map Write (resend d.latest g from to)) (sym given)
    ∙ sym (ap (λ (l : List Out). l ++ map Write frames) none) in
    ap (λ (p : Phase). with p (map Write (resend d.latest s.given from to) ++ d.outs.items)) now
    ∙ ap (λ (l : List Out). with (on_resent d.latest frames d.phase) l) outs
