-- What rows make of the expected number.
use Rattle.std.proofs.Common.{length, ◌≡◌, ℕ, ◌+◌, ◌==◌, Bool, true, false, ◌&&◌, List, [], ◌∷◌, ◌++◌, refl}
use Rattle.std.proofs.Common.{◌∙◌, Some, None, Option, is_some, is_none, unwrap_or, if◌then◌else◌, nat_lt}
use Rattle.std.proofs.Common.{bytes_eq, codes}
use Rattle.fix_framing.proofs.fix_fields.Tags.{and_parts}
use Rattle.fix_framing.specs.fix_fields.declared.session_refusal.SessionRefusal.{SessionRefusal}
use Rattle.fix_framing.specs.fix_fields.Field.{Message, text, is, has}
use Rattle.fix_framing.specs.fix_fields.Fault.{first_fault}
use Rattle.session_law.specs.Messages.{short_number}
use Rattle.session_law.specs.Formats.{application_refusal}
use Rattle.session_law.specs.Session.{State, Act, Answer, Grow, Expect, Say, Test, AskAgain, SayUnsupported, Deliver}
use Rattle.session_law.specs.Session.{Shut}
use Rattle.session_law.specs.Table.{answer_by, message_number, is_type, is_plain_reset, is_from, resend_rows}
use Rattle.session_law.specs.Table.{resend_answer, ask_again, asked_number, expected_rows, logged_on_rows, fault_acts}
use Rattle.session_law.specs.Table.{refused_acts, reject_act, log_out}
use Rattle.session_law.specs.Expected.{by_message, is_gap_fill}
use Rattle.session_law.proofs.Rows.{Firsts, first-holds, and-right, below, above, same, other, or-parts, not-gap}
use Rattle.session_law.proofs.Rows.{faultless}

abbrev pub move : Act → ℕ → ℕ
move Grow e = e + 1
move (Expect n) e = n
move (Say kind body) e = e
move Test e = e
move (AskAgain n) e = e
move (SayUnsupported body) e = e
move (Deliver m) e = e
move Shut e = e

abbrev pub moves : List Act → ℕ → ℕ
moves [] e = e
moves (a ∷ done) e = moves done (move a e)

moves-append : (a b : List Act) (e : ℕ) → moves (a ++ b) e ≡ moves b (moves a e)
moves-append [] b e = refl
moves-append (x ∷ a) b e = moves-append a b (move x e)

-- ---- a resend, and a gap

abbrev Stays : Answer → Type 0
Stays a = (a.logon ≡ None) × ((e : ℕ) → moves a.acts e ≡ e)

resend-stays : (s : State) (m : Message) → Stays (resend_answer (length s.given) m)
unfolding Firsts
resend-stays s m = first-holds Stays (resend_rows (length s.given) m) (
  λ _. (refl, λ e. refl),
  λ _. (
    λ _. (refl, λ e. refl),
    λ _. (
      λ _. (refl, λ e. refl),
      λ _. (
        λ _. (refl, λ e. refl),
        λ _.
            (λ _. (refl, λ e. refl), λ _. (λ _. (refl, λ e. refl), λ _. (refl, λ e. refl))),
      ),
    ),
  ),
)

asks-stay : (c : Bool) (n e : ℕ) → moves (if c then [] else AskAgain n ∷ []) e ≡ e
asks-stay true n e = refl
asks-stay false n e = refl

names-move : (c : Bool) (m : Message) (tag e : ℕ) → moves ((if c then Grow ∷ [] else []) ++ reject_act m tag 9 ∷ log_out (codes "CompID problem")) e ≡ (if c then e + 1 else e)
names-move true m tag e = refl
names-move false m tag e = refl

-- ---- the expected number

fault-moves : (o : Option SessionRefusal) (m : Message) (b : Bool) (x e : ℕ) → is_some o ≡ true
    → moves (fault_acts m o) (e + 1) ≡ (if is_none o && b then x else e + 1)
fault-moves None m b x e h = absurd (cc)
fault-moves (Some r) m b x e h = refl

refused-stays : (o : Option SessionRefusal) (m : Message) (e : ℕ) → moves (refused_acts m o) e ≡ e
refused-stays None m e = refl
refused-stays (Some r) m e = refl

abbrev Takes : Message → ℕ → Answer → Type 0
Takes m e a = (a.logon ≡ None) × (moves a.acts (e + 1)
    ≡ (if is_gap_fill m then unwrap_or (short_number 36 m) 0 else e + 1))

-- a message of another type
no-gap : (m : Message) (x e : ℕ) → is_type (codes "4") m ≡ false → e ≡ (if is_gap_fill m then x else e)
no-gap m x e four = rw (not-gap (is_none (first_fault m)) (is_type (codes "4") m) (is_from (message_number m + 1) (short_number 36 m)) four) refl

typed : (m : Message) (x : List ℕ) → is_type x m ≡ true → bytes_eq x (codes "4") ≡ false → is_type (codes "4") m ≡ false
typed m x h k = other (text 35 m) x (codes "4") h k

expected-moves : (s : State) (m : Message) (e : ℕ) → Takes m e (answer_by (expected_rows (length s.given) m))
unfolding Firsts
expected-moves s m e =
    let to = unwrap_or (short_number 36 m) 0 in
    first-holds (Takes m e) (expected_rows (length s.given) m) (
      λ h. (refl, fault-moves (first_fault m) m (is_type (codes "4") m && is_from (message_number m + 1) (short_number 36 m)) to e h),
      λ n1. (
        λ h. (refl, no-gap m to (e + 1) (or-parts (is_type (codes "0") m) (is_type (codes "3") m) (is_type (codes "j") m) (is_type (codes "4") m ≡ false) h (λ k. typed m (codes "0") k refl) (λ k. typed m (codes "3") k refl) (λ k. typed m (codes "j") k refl))),
        λ _. (
          λ h. (refl, no-gap m to (e + 1) (typed m (codes "1") (and_parts (is_type (codes "1") m) (has 112 m) h).0 refl)),
          λ _. (
            λ h. (refl, no-gap m to (e + 1) (typed m (codes "1") h refl)),
            λ _. (
              λ h. ((resend-stays s m).0, (resend-stays s m).1 (e + 1) ∙ no-gap m to (e + 1) (typed m (codes "2") h refl)),
              λ _. (
                λ h. (refl, rw (faultless (first_fault m) n1, h) refl),
                λ n6. (
                  λ h. (refl, rw (faultless (first_fault m) n1, n6) refl),
                  λ n7. (
                    λ _. (refl, no-gap m to (e + 1) n7),
                    λ _. (
                      λ _. (refl, no-gap m to (e + 1) n7),
                      λ _. (
                        λ _. (refl, refused-stays (application_refusal m) m (e + 1) ∙ no-gap m to (e + 1) n7),
                        λ _. (
                          λ _. (refl, no-gap m to (e + 1) n7),
                          λ _. (
                            λ _. (refl, no-gap m to (e + 1) n7),
                            λ no. absurd (cc),
                          ),
                        ),
                      ),
                    ),
                  ),
                ),
              ),
            ),
          ),
        ),
      ),
    )

abbrev pub Moves : State → Message → ℕ → Answer → Type 0
Moves s m e a = (a.logon ≡ None) × (moves a.acts e ≡ by_message s.gate s.client m e)

pub logged-on-moves : (s : State) (m : Message) (e : ℕ)
    → Moves s m e (answer_by (logged_on_rows s m (message_number m) e))
unfolding Firsts
logged-on-moves s m e =
    let n = message_number m in
    let plain_reset = is_plain_reset m in
    let from = is_from e (short_number 36 m) in
    first-holds (Moves s m e) (logged_on_rows s m n e) (
      λ h. (refl, rw h refl),
      λ n1. (
        λ h. (refl, names-move (n == e) m (if is 49 s.client m then 56 else 49) e ∙ rw (n1, h) refl),
        λ n2. (
          λ h. let p = and_parts plain_reset from h in (refl, rw (n1, n2, p.0, p.1) refl),
          λ n3. (
            λ h. let low = and-right plain_reset from n3 h in (refl, rw (n1, n2, h, low) refl),
            λ n4. (
              λ h. let ne = below n e (and_parts (nat_lt n e) (is 43 (codes "Y") m) h).0 in (refl, rw (n1, n2, n4, ne) refl),
              λ _. (
                λ h. let ne = below n e h in (refl, rw (n1, n2, n4, ne) refl),
                λ n6. (
                  λ h. let ne = above n e (and_parts (nat_lt e n) (is_type (codes "5") m) h).0 in (refl, rw (n1, n2, n4, ne) refl),
                  λ _. (
                    λ h. let ne = above n e (and_parts (nat_lt e n) (is_type (codes "2") m) h).0 in (
                      (resend-stays s m).0,
                      moves-append (resend_answer (length s.given) m).acts (ask_again s n) e
                          ∙ asks-stay (Rattle.std.specs.Prelude.nat_le s.expected (asked_number s.phase)) n
                          (moves (resend_answer (length s.given) m).acts e) ∙ (resend-stays s m).1 e
                          ∙ rw (n1, n2, n4, ne) refl,
                    ),
                    λ _. (
                      λ h. let ne = above n e h in (
                        refl,
                        asks-stay
                            (Rattle.std.specs.Prelude.nat_le s.expected (asked_number s.phase)) n e
                            ∙ rw (n1, n2, n4, ne) refl,
                      ),
                      λ n9. (
                        λ _. let eq = same n e n6 n9 in let t = expected-moves s m e in
                            (t.0, t.1 ∙ rw (n1, n2, n4, eq) refl),
                        λ no. absurd (cc),
                      ),
                    ),
                  ),
                ),
              ),
            ),
          ),
        ),
      ),
    )
