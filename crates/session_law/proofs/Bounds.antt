-- How far one call moves the numbers, by what each row does.
use Rattle.std.proofs.Common.{length, ◌≡◌, ℕ, ◌≤◌, ◌<◌, ◌+◌, ◌^◌, ◌==◌, Bool, true, false, not, ◌&&◌, List, [], ◌∷◌}
use Rattle.std.proofs.Common.{◌++◌, fold, refl, sym, ap, ◌∙◌, subst, arith, Some, None, Option, unwrap_or}
use Rattle.std.proofs.Common.{if◌then◌else◌, codes, max, nat_le}
use Rattle.std.specs.Char.{is_ascii_digit}
use Rattle.std.specs.List.{list_all}
use Rattle.std.specs.Option.{option_and_then}
use Rattle.std.proofs.lemmas.Bool.Decides.{nat_tests}
use Rattle.std.proofs.lemmas.List.{length-append}
use Rattle.std.proofs.lemmas.Str.Parse.{digits_value_short}
use Rattle.fix_framing.proofs.wire_bytes.Numbers.{own}
use Rattle.fix_framing.specs.fix_fields.Field.{first_value, Message, is}
use Rattle.fix_framing.specs.wire_bytes.Digits.{number_of}
use Rattle.fix_framing.specs.fix_fields.declared.session_refusal.SessionRefusal.{SessionRefusal}
use Rattle.session_law.specs.declared.phase.Phase.{Phase}
use Rattle.session_law.specs.declared.phase.Phase.TheVariants.{Down, AwaitingLogon, LoggedOn}
use Rattle.session_law.specs.declared.phase.Logged.{Logged}
use Rattle.fix_framing.specs.fix_fields.Fault.{first_fault}
use Rattle.session_law.specs.Messages.{short_number, number_in}
use Rattle.session_law.specs.Formats.{application_refusal}
use Rattle.session_law.specs.Session.{State, Slot, Given, Act, Grow, Expect, Say, Test, AskAgain, SayUnsupported}
use Rattle.session_law.specs.Session.{Deliver, Shut, Logon, Range, Answer, perform, logon_opened, sent_again, answered}
use Rattle.session_law.specs.Table as table
use Rattle.session_law.specs.Table.{message_number, answer_by, resend_rows, resend_answer, ask_again, expected_rows}
use Rattle.session_law.specs.Table.{logged_on_rows, logon_rows, message_rows, tick_rows, waiting_rows, silence_rows}
use Rattle.session_law.specs.Table.{reject_act, log_out, refused_acts, fault_acts, asked_number, is_from}
use Rattle.session_law.specs.Table.{is_plain_reset}
use Rattle.session_law.specs.Runs.{Call, OnLink, OnMessage, OnTick, Issue, step, by_rows, heard, at_moment}
use Rattle.session_law.specs.Expected.{by_logon, by_message, is_gap_fill, is_named_to}
use Rattle.session_law.specs.Bounds.{MovesLittle, most_taken}
use Rattle.session_law.proofs.Rows.{Firsts, first-holds, tick-quiet}
use Rattle.session_law.proofs.Moves.{move, moves, logged-on-moves}
use Rattle.session_law.proofs.Expects.{ByLogon, logon-moves, tick-still}

-- ---- a number has at most 18 digits

in-small : (value : List ℕ) → unwrap_or (number_in value) 0 < 10 ^ 18
in-small value = by-test (nat_le 1 (length value)) (nat_le (length value) 18) (list_all is_ascii_digit value) refl refl
  where
    by-test : (some short digits : Bool) → nat_le (length value) 18 ≡ short → list_all is_ascii_digit value ≡ digits
        → unwrap_or (if some && (short && digits) then Some (number_of value) else None) 0 < 10 ^ 18
    by-test false short digits h k = omega arith
    by-test true false digits h k = omega arith
    by-test true true false h k = omega arith
    by-test true true true h k = digits_value_short own value 18 k (grind (arith, nat_tests))

option-small : (o : Option (List ℕ)) → unwrap_or (option_and_then number_in o) 0 < 10 ^ 18
option-small None = omega arith
option-small (Some value) = in-small value

pub number-small : (tag : ℕ) (m : Message) → unwrap_or (short_number tag m) 0 < 10 ^ 18
number-small tag m = option-small (first_value tag m)

-- ---- the expected number

pick : (c : Bool) (x y k : ℕ) → (c ≡ true → x ≤ k) → (c ≡ false → y ≤ k) → (if c then x else y) ≤ k
pick true x y k f g = f refl
pick false x y k f g = g refl

one-more : (m : Message) (e k : ℕ) → 10 ^ 18 ≤ k → (message_number m == e) ≡ true → e + 1 ≤ k
one-more m e k h same = let small = number-small 34 m in grind (arith, nat_tests)

not-not : (c : Bool) → not c ≡ false → c ≡ true
not-not true h = refl
not-not false h = absurd (cc)

message-small : (gate client : List ℕ) (m : Message) (e k : ℕ) → e ≤ k → 10 ^ 18 ≤ k → by_message gate client m e ≤ k
message-small gate client m e k low high =
    let n = message_number m in
    let new = unwrap_or (short_number 36 m) 0 in
    let small = number-small 36 m in
    let to : new ≤ k = omega arith in
    let filled = if is_gap_fill m then new else e + 1 in
    let counted = if not (n == e) then e else filled in
    let moved = if is_from e (short_number 36 m) then new else e in
    let behind = if is_plain_reset m then moved else counted in
    let unnamed = if n == e then e + 1 else e in
    pick (n == 0) e (if not (is_named_to gate client m) then unnamed else behind) k (λ _. low)
    (λ _. pick (not (is_named_to gate client m)) unnamed behind k
    (λ _. pick (n == e) (e + 1) e k (one-more m e k high) (λ _. low))
    (λ _. pick (is_plain_reset m) moved counted k
    (λ _. pick (is_from e (short_number 36 m)) new e k (λ _. to) (λ _. low))
    (λ _. pick (not (n == e)) e filled k (λ _. low)
    (λ h. pick (is_gap_fill m) new (e + 1) k (λ _. to) (λ _. one-more m e k high (not-not (n == e) h))))))

logon-small : (m : Message) (e k : ℕ) → e ≤ k → 10 ^ 18 ≤ k → by_logon m e ≤ k
logon-small m e k low high =
    let one : 1 ≤ k = omega arith in
    let from = if table.resets m then 1 else e in
    pick (message_number m == from) (from + 1) from k (one-more m from k high)
    (λ _. pick (table.resets m) 1 e k (λ _. one) (λ _. low))

-- what stands as acts begin
abbrev begun : Option Logon → ℕ → ℕ
begun None e = e
begun (Some l) e = if l.resets then 1 else e

act-expected : (g : Given) (a : Act) → (perform g a).state.expected ≡ move a g.state.expected
act-expected g Grow = refl
act-expected g (Expect n) = refl
act-expected g (Say kind body) = refl
act-expected g Test = refl
act-expected g (AskAgain n) = refl
act-expected g (SayUnsupported body) = refl
act-expected g (Deliver m) = refl
act-expected g Shut = refl

acts-expected : (acts : List Act) (g : Given) → (fold perform g acts).state.expected ≡ moves acts g.state.expected
acts-expected [] g = refl
acts-expected (a ∷ acts) g = acts-expected acts (perform g a) ∙ ap (moves acts) (act-expected g a)

begun-expected : (s : State) (logon : Option Logon) (resends : Option Range)
    → (sent_again (logon_opened s logon) resends).state.expected ≡ begun logon s.expected
begun-expected s None None = refl
begun-expected s None (Some r) = refl
begun-expected s (Some l) None = refl
begun-expected s (Some l) (Some r) = refl

answered-expected : (s : State) (a : Answer) → (answered s a).state.expected ≡ moves a.acts (begun a.logon s.expected)
answered-expected s a = acts-expected a.acts (sent_again (logon_opened s a.logon) a.resends)
    ∙ ap (moves a.acts) (begun-expected s a.logon a.resends)

by-logon-small : (m : Message) (e k : ℕ) (logon : Option Logon) (acts : List Act) → e ≤ k → 10 ^ 18 ≤ k
    → ByLogon m e logon acts → moves acts (begun logon e) ≤ k
by-logon-small m e k None acts low high h = subst (λ (n : ℕ). n ≤ k) (sym h) low
by-logon-small m e k (Some l) acts low high h = subst (λ (n : ℕ). n ≤ k) (sym h) (logon-small m e k low high)

-- ---- numbers that are taken

abbrev uses : Act → ℕ
uses Grow = 0
uses (Expect n) = 0
uses (Say kind body) = 1
uses Test = 1
uses (AskAgain n) = 1
uses (SayUnsupported body) = 1
uses (Deliver m) = 0
uses Shut = 0

abbrev used : List Act → ℕ
used [] = 0
used (a ∷ acts) = uses a + used acts

abbrev counts : Option Logon → ℕ
counts None = 0
counts (Some l) = 1

one-slot : (slots : List Slot) (slot : Slot) → length (slots ++ slot ∷ []) ≡ length slots + 1
one-slot slots slot = length-append slots (slot ∷ [])

act-given : (g : Given) (a : Act) → length (perform g a).state.given ≡ length g.state.given + uses a
act-given g Grow = omega arith
act-given g (Expect n) = omega arith
act-given g (Say kind body) = one-slot g.state.given None
act-given g Test = one-slot g.state.given None
act-given g (AskAgain n) = one-slot g.state.given None
act-given g (SayUnsupported body) = one-slot g.state.given _
act-given g (Deliver m) = omega arith
act-given g Shut = omega arith

acts-given : (acts : List Act) (g : Given) → length (fold perform g acts).state.given ≡ length g.state.given + used acts
acts-given [] g = omega arith
acts-given (a ∷ acts) g = acts-given acts (perform g a) ∙ ap (λ (n : ℕ). n + used acts) (act-given g a) ∙ omega arith

logon-given : (c : Bool) (slots : List Slot) (slot : Slot)
    → length ((if c then [] else slots) ++ slot ∷ []) ≤ length slots + 1
logon-given true slots slot = omega arith
logon-given false slots slot = omega (arith, one-slot slots slot)

begun-given : (s : State) (logon : Option Logon) (resends : Option Range)
    → length (sent_again (logon_opened s logon) resends).state.given ≤ length s.given + counts logon
begun-given s None None = omega arith
begun-given s None (Some r) = omega arith
begun-given s (Some l) None = logon-given l.resets s.given None
begun-given s (Some l) (Some r) = logon-given l.resets s.given None

abbrev Few : ℕ → Answer → Type 0
Few most a = counts a.logon + used a.acts ≤ most

answered-given : (s : State) (a : Answer) (most : ℕ) → Few most a
    → length (answered s a).state.given ≤ length s.given + most
answered-given s a most few =
    let all = acts-given a.acts (sent_again (logon_opened s a.logon) a.resends) in
    let first = begun-given s a.logon a.resends in
    omega arith

-- ---- by row

none : {most : ℕ} → 0 ≤ most
none {most} = omega arith

one : 1 ≤ 1
one = omega arith

one-of-two : 1 ≤ 2
one-of-two = omega arith

two : 2 ≤ 2
two = omega arith

resend-few : (last : ℕ) (m : Message) → Few 1 (resend_answer last m)
unfolding Firsts
resend-few last m = first-holds (Few 1) (resend_rows last m)
    (λ _. one, λ _. (λ _. one, λ _. (λ _. one, λ _. (λ _. one, λ _. (λ _. none, λ _. (λ _. one, λ _. none))))))

fault-few : (m : Message) (o : Option SessionRefusal) → 0 + used (fault_acts m o) ≤ 1
fault-few m None = none
fault-few m (Some r) = one

refused-few : (m : Message) (o : Option SessionRefusal) → 0 + used (refused_acts m o) ≤ 1
refused-few m None = none
refused-few m (Some r) = one

expected-few : (last : ℕ) (m : Message) → Few 1 (answer_by (expected_rows last m))
unfolding Firsts
expected-few last m = first-holds (Few 1) (expected_rows last m) (
  λ _. fault-few m (first_fault m),
  λ _. (
    λ _. none,
    λ _. (
      λ _. one,
      λ _. (
        λ _. one,
        λ _. (
          λ _. resend-few last m,
          λ _. (
            λ _. none,
            λ _. (
              λ _. one,
              λ _. (
                λ _. one,
                λ _. (
                  λ _. one,
                  λ _. (
                    λ _. refused-few m (application_refusal m),
                    λ _.
                        (λ _. one, λ _. (λ _. one, λ _. none)),
                  ),
                ),
              ),
            ),
          ),
        ),
      ),
    ),
  ),
)

names-few : (c : Bool) (m : Message) (tag : ℕ) → 0 + used ((if c then Grow ∷ [] else []) ++ reject_act m tag 9 ∷ log_out (codes "CompID problem")) ≤ 2
names-few true m tag = two
names-few false m tag = two

ask-few : (c : Bool) (n : ℕ) → used (if c then [] else AskAgain n ∷ []) ≤ 1
ask-few true n = none
ask-few false n = one

used-append : (a b : List Act) → used (a ++ b) ≡ used a + used b
used-append [] b = omega arith
used-append (x ∷ a) b = ap (λ (n : ℕ). uses x + n) (used-append a b) ∙ omega arith

gap-few : (s : State) (n : ℕ) (a : Answer) → Few 1 a → Few 2 (table.with_acts a (ask_again s n))
gap-few s n a few =
    let asks = ask-few (nat_le s.expected (asked_number s.phase)) n in
    let all = used-append a.acts (ask_again s n) in
    omega arith

ask-of-two : (s : State) (n : ℕ) → 0 + used (ask_again s n) ≤ 2
ask-of-two s n = let asks = ask-few (nat_le s.expected (asked_number s.phase)) n in omega arith

taken-few : (a : Answer) → Few 1 a → Few 2 (table.after_acts (Grow ∷ []) a)
taken-few a few = omega arith

logged-on-few : (s : State) (m : Message) (n e : ℕ) → Few 2 (answer_by (logged_on_rows s m n e))
unfolding Firsts
logged-on-few s m n e = first-holds (Few 2) (logged_on_rows s m n e) (
  λ _. one-of-two,
  λ _. (
    λ _. names-few (n == e) m (if is 49 s.client m then 56 else 49),
    λ _. (
      λ _. none,
      λ _. (
        λ _. one-of-two,
        λ _. (
          λ _. none,
          λ _. (
            λ _. one-of-two,
            λ _. (
              λ _. one-of-two,
              λ _. (
                λ _. gap-few s n (resend_answer (length s.given) m) (resend-few (length s.given) m),
                λ _. (
                  λ _. ask-of-two s n,
                  λ _. (
                    λ _. taken-few (answer_by (expected_rows (length s.given) m))
                        (expected-few (length s.given) m),
                    λ _. none,
                  ),
                ),
              ),
            ),
          ),
        ),
      ),
    ),
  ),
)

logon-few : (s : State) (m : Message) (n e : ℕ) → Few 2 (answer_by (logon_rows s m n e))
unfolding Firsts
logon-few s m n e = first-holds (Few 2) (logon_rows s m n e)
    (λ _. none, λ _. (λ _. none, λ _. (λ _. one-of-two, λ _. (λ _. one-of-two, λ _. (λ _. two, λ _. none)))))

waiting-few : (since now : ℕ) → Few 1 (answer_by (waiting_rows since now))
unfolding Firsts
waiting-few since now = first-holds (Few 1) (waiting_rows since now) (λ _. none, λ _. none)

silence-few : (l : Logged) (now : ℕ) → Few 1 (answer_by (silence_rows l now))
unfolding Firsts
silence-few l now = first-holds (Few 1) (silence_rows l now)
    (λ _. none, λ _. (λ _. one, λ _. (λ _. one, λ _. (λ _. one, λ _. none))))

tick-few : (s : State) (p : Phase) → Few 1 (answer_by (tick_rows s p))
tick-few s Down = none
tick-few s (AwaitingLogon since) = waiting-few since s.latest
tick-few s (LoggedOn l) = silence-few l s.latest

-- ---- a call

most-of : (e : ℕ) → (e ≤ max e (10 ^ 18)) × (10 ^ 18 ≤ max e (10 ^ 18))
most-of e = (omega arith, omega arith)

pub logged-on-little : (s : State) (at : ℕ) (m : Message)
    → MovesLittle 2 s (by_rows (heard (at_moment at s)) (logged_on_rows s m (message_number m) s.expected)).state
logged-on-little s at m =
    let a = answer_by (logged_on_rows s m (message_number m) s.expected) in
    let k = logged-on-moves s m s.expected in
    let most = most-of s.expected in
    record {
      expected = subst (λ (n : ℕ). n ≤ max s.expected (10 ^ 18))
          (sym (answered-expected (heard (at_moment at s)) a
          ∙ ap (λ (l : Option Logon). moves a.acts (begun l s.expected)) k.0 ∙ k.1))
          (message-small s.gate s.client m s.expected (max s.expected (10 ^ 18)) most.0 most.1);
      given = answered-given (heard (at_moment at s)) a 2 (logged-on-few s m (message_number m) s.expected);
    }

pub logon-little : (s : State) (at : ℕ) (m : Message)
    → MovesLittle 2 s (by_rows (heard (at_moment at s))
    (logon_rows s m (message_number m) (if table.resets m then 1 else s.expected))).state
logon-little s at m =
    let a = answer_by (logon_rows s m (message_number m) (if table.resets m then 1 else s.expected)) in
    let most = most-of s.expected in
    record {
      expected = subst (λ (n : ℕ). n ≤ max s.expected (10 ^ 18)) (sym (answered-expected (heard (at_moment at s)) a))
          (by-logon-small m s.expected (max s.expected (10 ^ 18)) a.logon a.acts most.0 most.1 (logon-moves s m));
      given = answered-given (heard (at_moment at s)) a 2
          (logon-few s m (message_number m) (if table.resets m then 1 else s.expected));
    }

same-little : (most : ℕ) (s new : State) → new.expected ≡ s.expected → length new.given ≤ length s.given + most
    → MovesLittle most s new
same-little most s new same few = record {
  expected = subst (λ (n : ℕ). n ≤ max s.expected (10 ^ 18)) (sym same) (most-of s.expected).0;
  given = few;
}

message-little : (s : State) (at : ℕ) (m : Message) (p : Phase)
    → MovesLittle 2 s (by_rows (heard (at_moment at s)) (message_rows s m p)).state
message-little s at m Down = same-little 2 s (heard (at_moment at s)) refl (omega arith)
message-little s at m (AwaitingLogon since) = logon-little s at m
message-little s at m (LoggedOn l) = logged-on-little s at m

tick-little : (s : State) (at : ℕ) → MovesLittle 1 s (step s at OnTick).state
tick-little s at =
    let st = at_moment at s in
    let a = answer_by (tick_rows st s.phase) in
    same-little 1 s (answered st a).state
    (answered-expected st a ∙ ap (λ (l : Option Logon). moves a.acts (begun l s.expected)) (tick-quiet st s.phase).1
    ∙ tick-still st s.phase s.expected)
    (answered-given st a 1 (tick-few st s.phase))

pub step-little : (s : State) (at : ℕ) (call : Call) → MovesLittle (most_taken call) s (step s at call).state
step-little s at (OnLink up) = same-little 0 s (step s at (OnLink up)).state refl (omega arith)
step-little s at (OnMessage m) = message-little s at m s.phase
step-little s at OnTick = tick-little s at
step-little s at (Issue kind body) = same-little 1 s (step s at (Issue kind body)).state refl
    (omega (arith, one-slot s.given (Some (record { kind = kind; body = body; at = max s.latest at }))))
