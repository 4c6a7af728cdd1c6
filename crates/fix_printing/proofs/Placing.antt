-- Fields written into a text that has room for them.
use Rattle.std.proofs.Common.{◌≡◌, ◌≤◌, ◌+◌, true, ℕ, List, [], ◌∷◌, ◌++◌, length, take, drop, refl, sym, ap, ◌∙◌}
use Rattle.std.proofs.Common.{arith, append_assoc, decimal}
use Rattle.std.specs.List.{list_all}
use Rattle.std.proofs.lemmas.List.{take-take, take_at, length-take-le}
use Rattle.std.proofs.Math.Seq.{take-append-add}
use Rattle.fix_fields.specs.Field.{Field, is_inside}
use Rattle.fix_fields.specs.Printed.{PrintsFields, fields_in}
use Rattle.fix_fields.proofs.Printing.{printed-field, printed-both}

-- of bytes that were written at a place the first
pub first-put : (before after bytes : List ℕ) (start count : ℕ) → start ≤ length before → count ≤ length bytes
    → take (start + length bytes) after ≡ take start before ++ bytes
    → take (start + count) after ≡ take start before ++ take count bytes
first-put before after bytes start count s k e =
    let size : length (take start before) ≡ start = length-take-le start before s in
    sym (take-take (start + count) (start + length bytes) after (omega (arith, k)))
    ∙ ap (λ (l : List ℕ). take (start + count) l) e
    ∙ ap (λ n. take (n + count) (take start before ++ bytes)) (sym size)
    ∙ take-append-add (take start before) bytes count

-- a tag, a value and SOH, one after another
pub field-put : (front tagged valued all digits value : List ℕ) → tagged ≡ front ++ (digits ++ 61 ∷ [])
    → valued ≡ tagged ++ value → all ≡ valued ++ 1 ∷ [] → all ≡ front ++ (digits ++ 61 ∷ (value ++ 1 ∷ []))
field-put front tagged valued all digits value t v a = rw (a, v, t) (simp append_assoc)

-- a tag, and its value and SOH at once
pub number-put : (front tagged all digits value : List ℕ) → tagged ≡ front ++ (digits ++ 61 ∷ [])
    → all ≡ tagged ++ value → all ≡ front ++ (digits ++ 61 ∷ value)
number-put front tagged all digits value t a = rw (a, t) (simp append_assoc)

-- a tag, digits and a point, digits behind it and SOH, one after another
pub decimal-put : (front tagged pointed valued all digits whole fraction : List ℕ)
    → tagged ≡ front ++ (digits ++ 61 ∷ []) → pointed ≡ tagged ++ (whole ++ 46 ∷ []) → valued ≡ pointed ++ fraction
    → all ≡ valued ++ 1 ∷ []
    → all ≡ front ++ (digits ++ 61 ∷ ((whole ++ 46 ∷ fraction) ++ 1 ∷ []))
decimal-put front tagged pointed valued all digits whole fraction t p v a = rw (a, v, p, t) (simp append_assoc)

-- a list that was lent and comes back
pub put-back : (lent items : List ℕ) (len : ℕ) → len ≡ length items → length lent ≡ length items
    → take len (lent ++ drop (length lent) items) ≡ lent
put-back lent items len l m = take_at lent (drop (length lent) items) len (m ∙ sym l)

-- the front of a text is these fields
pub record Holds (text : List ℕ) (size : ℕ) (fs : List Field) : Type 0 where
  pub fits : size ≤ length text
  pub prints : PrintsFields (take size text)
  pub same : fields_in (take size text) ≡ fs

-- the text after a field was written
pub field-behind : (old items lent back value : List ℕ) (size end len tag : ℕ) → PrintsFields (take size old)
    → take size items ≡ take size old → lent ≡ items → len ≡ length items → length back ≡ length lent
    → end ≤ length back → take end back ≡ take size lent ++ (decimal tag ++ 61 ∷ (value ++ 1 ∷ [])) → 1 ≤ tag
    → tag ≤ 999_999_999 → list_all is_inside value ≡ true
    → Holds (take len (back ++ drop (length back) items)) end
    (fields_in (take size old) ++ record { tag = tag; value = value } ∷ [])
field-behind old items lent back value size end len tag is kept l n m within written low high inside =
    let whole : take len (back ++ drop (length back) items) ≡ back = put-back back items len n (m ∙ ap length l) in
    let text : take end back ≡ take size old ++ (decimal tag ++ 61 ∷ (value ++ 1 ∷ [])) =
    written ∙ ap (λ (t : List ℕ). take size t ++ (decimal tag ++ 61 ∷ (value ++ 1 ∷ []))) l
    ∙ ap (λ (t : List ℕ). t ++ (decimal tag ++ 61 ∷ (value ++ 1 ∷ []))) kept in
    let one = printed-field (take size old) (decimal tag) value tag is refl low high inside in
    rw whole (record { fits = within; prints = rw text one.prints; same = rw text one.same })

-- the text after another was written
pub text-behind : (old items lent back more : List ℕ) (size len : ℕ) → PrintsFields (take size old)
    → take size items ≡ take size old → lent ≡ items → len ≡ length items → length back ≡ length lent
    → size + length more ≤ length back → take (size + length more) back ≡ take size lent ++ more → PrintsFields more
    → Holds (take len (back ++ drop (length back) items)) (size + length more)
    (fields_in (take size old) ++ fields_in more)
text-behind old items lent back more size len is kept l n m within written also =
    let whole : take len (back ++ drop (length back) items) ≡ back = put-back back items len n (m ∙ ap length l) in
    let text : take (size + length more) back ≡ take size old ++ more = written
    ∙ ap (λ (t : List ℕ). take size t ++ more) l ∙ ap (λ (t : List ℕ). t ++ more) kept in
    let both = printed-both (take size old) more is also in
    rw whole (record { fits = within; prints = rw text both.prints; same = rw text both.same })
