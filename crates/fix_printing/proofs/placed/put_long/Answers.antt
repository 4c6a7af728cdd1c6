use Rattle.std.proofs.Common.{◌≡◌, ◌≤◌, ◌+◌, ◌-◌, ◌++◌, ◌∷◌, [], ℕ, List, length, take, drop, decimal, arith, rules, ap}
use Rattle.std.proofs.Common.{◌∙◌, refl, append_assoc, length-append}
use Rattle.std.proofs.lemmas.Fmt.{length-decimal-le}
use Rattle.std.proofs.lemmas.List.{take-take, take_at, length-take-le}
use Rattle.fix_printing.proofs.Placing.{first-put}
use Rattle.fix_printing.proofs.placed.put_long.Goals as goal

pub write_digits-first-requires : goal.write_digits-first-requires
write_digits-first-requires c = search (rules, length-decimal-le 20)

-- of the twenty bytes that are written the first are the digits
digits-put : (before after buffer rest : List ℕ) (start first number : ℕ) → first + length (decimal number) ≡ 20
    → drop first buffer ≡ decimal number ++ rest → 20 ≤ length rest → start ≤ length before
    → take (start + length (take (first + 20 - first) (drop first buffer))) after
    ≡ take start before ++ take (first + 20 - first) (drop first buffer)
    → take (start + 20 - first) after ≡ take start before ++ decimal number
digits-put before after buffer rest start first number ends is more fits written =
    let digits : List ℕ = decimal number in
    let bytes : List ℕ = take (first + 20 - first) (drop first buffer) in
    let there : length (drop first buffer) ≡ length digits + length rest = ap length is ∙ length-append digits rest in
    let size : length bytes ≡ first + 20 - first =
    length-take-le (first + 20 - first) (drop first buffer) (omega (arith, there, more)) in
    let same : take (length digits) bytes ≡ digits =
    take-take (length digits) (first + 20 - first) (drop first buffer) (omega (arith, ends))
    ∙ ap (λ (l : List ℕ). take (length digits) l) is ∙ take_at digits rest (length digits) refl in
    let place : start + 20 - first ≡ start + length digits = omega (arith, ends) in
    ap (λ n. take n after) place ∙ first-put before after bytes start (length digits) fits
    (omega (arith, size, ends)) written ∙ ap (λ (l : List ℕ). take start before ++ l) same

pub returns-clause-written : goal.returns-clause-written
returns-clause-written c =
    let value = digits-put c.args.text.now c.put.new.text c.write_digits-first.new.buf _ c.args.at
    c.write_digits-first.result c.args.number c.write_digits-first.ensures.start
    c.write_digits-first.ensures.written (omega arith) (omega (arith, c.requires.room)) c.put.ensures.written in
    let end : c.args.at + 21 - c.write_digits-first.result ≡ c.args.at + 20 - c.write_digits-first.result + 1 =
    omega (arith, c.write_digits-first.ensures.start) in
    ap (λ n. take n c.put-2.new.text) end ∙ c.put-2.ensures.written ∙ ap (λ (l : List ℕ). l ++ c.args.last ∷ []) value
    ∙ append_assoc (take c.args.at c.args.text.now) (decimal c.args.number) (c.args.last ∷ [])
