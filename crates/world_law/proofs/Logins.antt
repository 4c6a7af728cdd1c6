-- A number that is padded left with spaces is read as the number: by the market, and by the session.
use Rattle.std.proofs.Common.{◌≡◌, ℕ, zero, suc, ◌+◌, ◌-◌, ◌<◌, ◌≤◌, ◌^◌, Bool, true, false, List, [], ◌∷◌, ◌++◌}
use Rattle.std.proofs.Common.{length, take, drop, replicate, refl, sym, ap, ◌∙◌, subst, arith, decimal, Some, ◌⊎◌, inl}
use Rattle.std.proofs.Common.{inr, eqb-true, eq-eqb, length-append, append_assoc}
use Rattle.std.proofs.lemmas.List.{length-replicate}
use Rattle.std.proofs.lemmas.Bool.Decides.{nat_tests}
use Rattle.std.proofs.lemmas.Fmt.{decimal_nonempty, digits_decimal, digits_value-decimal, length-decimal-le}
use Rattle.std.specs.Prelude.{◌&&◌, ◌==◌, nat_le, nat_lt}
use Rattle.std.specs.Char.{is_ascii_digit}
use Rattle.std.specs.List.{list_all}
use Rattle.wire_bytes.specs.Digits.{number_of}
use Rattle.wire_bytes.proofs.Numbers.{own}
use Rattle.soup_session.specs.Reading.{field_number, is_login_number, without_leading_spaces}
use Rattle.soup_session.specs.Reading.{said_of}
use Rattle.soup_session.specs.Table.{blank}
use Rattle.soup_session.specs.Writing.{login, padded_right}
use Rattle.soup_session.specs.declared.said.Said.TheVariants.{Accepted}
use Rattle.market_sim.specs.Numbers.{behind_spaces, is_number_asked, number_asked, padded_number}
use Rattle.market_sim.specs.Sim.{accepts_login, is_session_here, login_number, market_session}

-- ---- the digits of a number

module _ (n : ℕ) (some : 1 ≤ n) (small : n < 2 ^ 63) where
  below : n < 2 ^ 64
  below = omega (arith, small)

  are-digits : list_all is_ascii_digit (decimal n) ≡ true
  are-digits = digits_decimal {P = λ ds. list_all is_ascii_digit ds ≡ true} {v = number_of} own n below

  value : number_of (decimal n) ≡ n
  value = digits_value-decimal {P = λ ds. list_all is_ascii_digit ds ≡ true} {v = number_of} own n below

  pub few-digits : length (decimal n) ≤ 20
  few-digits = length-decimal-le 20 n (omega arith) (omega arith) below

  filled : (length (decimal n) == 0) ≡ false
  filled = let some_digit = decimal_nonempty n below in grind (arith, nat_tests, some_digit)

  at-least : (m : ℕ) → 1 ≤ m → nat_le 1 m ≡ true
  at-least m h = grind (arith, nat_tests)

  under : (m k : ℕ) → m < k → nat_lt m k ≡ true
  under m k h = grind (arith, nat_tests)

  -- digits begin with no space
  no-space : (ds : List ℕ) → list_all is_ascii_digit ds ≡ true
      → (behind_spaces ds ≡ ds) × (without_leading_spaces ds ≡ ds)
  no-space [] e = (refl, refl)
  no-space (c ∷ cs) e = by_test (c == 32) refl
    where
      isnt : c ≡ 32 → ⊥
      isnt is = let f : (is_ascii_digit 32 && list_all is_ascii_digit cs) ≡ true =
          ap (λ d. is_ascii_digit d && list_all is_ascii_digit cs) (sym is) ∙ e in cc

      by_test : (b : Bool) → (c == 32) ≡ b → (behind_spaces (c ∷ cs) ≡ c ∷ cs)
          × (without_leading_spaces (c ∷ cs) ≡ c ∷ cs)
      by_test true t = absurd (isnt (eqb-true c 32 t))
      by_test false t = (rw t refl, rw t refl)

  behind : (k : ℕ) → (behind_spaces (replicate k 32 ++ decimal n) ≡ decimal n)
      × (without_leading_spaces (replicate k 32 ++ decimal n) ≡ decimal n)
  behind zero = no-space (decimal n) are-digits
  behind (suc k) = behind k

  pub asked-number : number_asked (padded_number n) ≡ Some n
  asked-number =
      let bare = (behind (20 - length (decimal n))).0 in
      let asks : is_number_asked (decimal n) ≡ true =
      rw (filled, are-digits, value, at-least n some, under n (2 ^ 64) below) refl in
      rw (bare, asks) (ap Some value)

  pub login-number : field_number (padded_number n) ≡ Some n
  login-number =
      let bare = (behind (20 - length (decimal n))).1 in
      let asks : is_login_number (decimal n) ≡ true =
      rw (filled, are-digits, value, at-least n some, under n (2 ^ 63) small) refl in
      rw (bare, asks) (ap Some value)

-- ---- fields of a payload

drop-front : {A : Type 0} (xs ys : List A) (n : ℕ) → length xs ≡ n → drop n (xs ++ ys) ≡ ys
drop-front [] ys zero e = refl
drop-front [] ys (suc n) e = absurd (omega (arith, e))
drop-front (x ∷ xs) ys zero e = absurd (omega (arith, e))
drop-front (x ∷ xs) ys (suc n) e = drop-front xs ys n (omega (arith, e))

take-front : {A : Type 0} (xs ys : List A) (n : ℕ) → length xs ≡ n → take n (xs ++ ys) ≡ xs
take-front [] ys zero e = refl
take-front [] ys (suc n) e = absurd (omega (arith, e))
take-front (x ∷ xs) ys zero e = absurd (omega (arith, e))
take-front (x ∷ xs) ys (suc n) e = ap (λ zs. x ∷ zs) (take-front xs ys n (omega (arith, e)))

padded-length : (n : ℕ) (text : List ℕ) → length text ≤ n → length (padded_right n text) ≡ n
padded-length n text short = omega (
  arith,
  length-append text (replicate (n - length text) 32),
  length-replicate {A = ℕ}
      (n - length text) 32,
)

number-length : (n : ℕ) → length (decimal n) ≤ 20 → length (padded_number n) ≡ 20
number-length n short = omega (
  arith,
  length-append (replicate (20 - length (decimal n)) 32)
      (decimal n),
  length-replicate {A = ℕ} (20 - length (decimal n)) 32,
)

module _ (u p s f : List ℕ) (u_is : length u ≡ 6) (p_is : length p ≡ 10) (s_is : length s ≡ 10) where
  front : u ++ (p ++ (s ++ f)) ≡ (u ++ p) ++ (s ++ f)
  front = sym (append_assoc u p (s ++ f))

  front-is : length (u ++ p) ≡ 16
  front-is = omega (arith, length-append u p)

  pub session-in : take 10 (drop 16 (u ++ (p ++ (s ++ f)))) ≡ s
  session-in = ap (λ xs. take 10 (drop 16 xs)) front ∙ ap (take 10) (drop-front (u ++ p) (s ++ f) 16 front-is)
      ∙ take-front s f 10 s_is

  pub field-in : drop 26 (u ++ (p ++ (s ++ f))) ≡ f
  field-in =
      ap (drop 26) (front ∙ sym (append_assoc (u ++ p) s f))
      ∙ drop-front ((u ++ p) ++ s) f 26 (omega (arith, length-append (u ++ p) s, front-is, s_is))

  pub length-in : length f ≡ 20 → length (u ++ (p ++ (s ++ f))) ≡ 46
  length-in f_is = omega (arith, length-append u (p ++ (s ++ f)), length-append p (s ++ f), length-append s f)

-- ---- the two logins

here : (session : List ℕ) → (session ≡ blank) ⊎ (session ≡ market_session)
    → (length session ≡ 10) × (is_session_here session ≡ true)
here session (inl is) = subst (λ (x : List ℕ). (length x ≡ 10) × (is_session_here x ≡ true)) (sym is) (refl, refl)
here session (inr is) = subst (λ (x : List ℕ). (length x ≡ 10) × (is_session_here x ≡ true)) (sym is) (refl, refl)

at-most : (m n : ℕ) → m ≤ n → nat_le m n ≡ true
at-most m n h = grind (arith, nat_tests)

pub login-asks : (user password session : List ℕ) (number count : ℕ) → length user ≤ 6 → length password ≤ 10
    → (session ≡ blank) ⊎ (session ≡ market_session) → 1 ≤ number → number ≤ count + 1 → number < 2 ^ 63
    → login_number count (login (padded_right 6 user) (padded_right 10 password) session number).payload ≡ Some number
login-asks user password session number count user_short password_short is some few small =
    let known = here session is in
    let u_is = padded-length 6 user user_short in
    let p_is = padded-length 10 password password_short in
    let whole = eq-eqb _ 46 (length-in (padded_right 6 user) (padded_right 10 password) session
    (padded_number number) u_is p_is known.0 (number-length number (few-digits number some small))) in
    let its_session = session-in (padded_right 6 user) (padded_right 10 password) session
    (padded_number number) u_is p_is known.0 in
    let its_field = field-in (padded_right 6 user) (padded_right 10 password) session
    (padded_number number) u_is p_is known.0 in
    let its_number = asked-number number some small in
    let here_is = known.1 in
    rw (whole, its_session, here_is, its_field, its_number, at-most number (count + 1) few) refl

pub login-accepted : (number : ℕ) → 1 ≤ number → number < 2 ^ 63
    → said_of (accepts_login number) ≡ Accepted market_session (Some number)
login-accepted number some small =
    let whole : (length (market_session ++ padded_number number) == 30) ≡ true =
    eq-eqb _ 30 (omega (
      arith,
      length-append market_session (padded_number number),
      number-length number
          (few-digits number some small),
    )) in
    let its_number = login-number number some small in
    rw (whole, its_number) refl
