-- For any layout: what the bytes of a row say at the offset of a field is the field's own value.
use Rattle.std.proofs.Common.{◌≡◌, true, false, ℕ, ◌+◌, ◌*◌, ◌^◌, ◌<◌, zero, suc, List, [], ◌∷◌, ◌++◌, take, drop}
use Rattle.std.proofs.Common.{reverse, replicate, fold, get_or, refl, sym, ap, ◌∙◌, arith}
use Rattle.std.specs.Prelude.{◌==◌, slice_index}
use Rattle.std.specs.Int.{w32, to_be_bytes}
use Rattle.std.specs.List.{list_all}
use Rattle.std.proofs.lemmas.Bool.Decides.{nat_tests}
use Rattle.std.proofs.lemmas.List.{take_at, drop_at, drop-drop, get_or-take, get_or-drop, reverse-append}
use Rattle.std.proofs.lemmas.List.{reverse-reverse, replicate_more}
use Rattle.std.proofs.lemmas.List.Folds.{list_all-append}
use Rattle.std.proofs.lemmas.Nat.{from_be_bytes-to_be_bytes_4}
use Rattle.wire_law.specs.Printable.{is_visible}
use Rattle.ouch_codec.specs.declared.layout.Kind.{Kind}
use Rattle.ouch_codec.specs.Layout.{width, written_field, RowValues, AreValues, spelled}
use Rattle.ouch_codec.specs.LayoutLaws.{length-field}
use Rattle.ouch_codec.specs.MessageLaws.{both}
use Rattle.ouch_codec.specs.Parts.{bytes_at, number_at, byte_at, text_at, unpadded, without_spaces}

-- where the field of this place in a layout begins
abbrev pub offset_of : List Kind → ℕ → ℕ
offset_of [] place = 0
offset_of (kind ∷ kinds) zero = 0
offset_of (kind ∷ kinds) (suc place) = width kind + offset_of kinds place

-- how many bytes it takes
abbrev pub width_of : List Kind → ℕ → ℕ
width_of [] place = 0
width_of (kind ∷ kinds) zero = width kind
width_of (kind ∷ kinds) (suc place) = width_of kinds place

-- the bytes that it has in a row
abbrev pub part : (kinds : List Kind) → RowValues kinds → ℕ → List ℕ
part [] row place = []
part (kind ∷ kinds) row zero = written_field kind row.0
part (kind ∷ kinds) row (suc place) = part kinds row.1 place

-- at its offset stands the field
pub bytes_at-spelled : (kinds : List Kind) (row : RowValues kinds) (place : ℕ) → AreValues kinds row
    → bytes_at (offset_of kinds place) (width_of kinds place) (spelled kinds row) ≡ part kinds row place
bytes_at-spelled [] row place known = refl
bytes_at-spelled (kind ∷ kinds) row zero known = take_at (written_field kind row.0) (spelled kinds row.1) (width kind)
    (length-field kind row.0 known.0)
bytes_at-spelled (kind ∷ kinds) row (suc place) known =
    ap (take (width_of kinds place)) (sym (drop-drop (offset_of kinds place) (width kind)
    (written_field kind row.0 ++ spelled kinds row.1))
    ∙ ap (drop (offset_of kinds place)) (drop_at (written_field kind row.0) (spelled kinds row.1) (width kind)
    (length-field kind row.0 known.0)))
    ∙ bytes_at-spelled kinds row.1 place known.1

-- a field of one byte is read as the byte
pub byte_at-one : (offset b : ℕ) (message : List ℕ) → bytes_at offset 1 message ≡ b ∷ [] → byte_at offset message ≡ b
byte_at-one offset b message e =
    sym (get_or-take 1 (drop offset message) 0 0 (omega arith) ∙ get_or-drop offset message 0 0
    ∙ ap (λ i. get_or message i 0) (omega arith)) ∙ ap (λ (bs : List ℕ). slice_index bs 0) e

-- bytes of a number are read as the number
pub number_at-four : (offset n : ℕ) (message : List ℕ) → n < 2 ^ 32 → bytes_at offset 4 message ≡ to_be_bytes w32 n
    → number_at offset 4 message ≡ n
number_at-four offset n message below e =
    ap (λ (bs : List ℕ). fold (λ n byte. 256 * n + byte) 0 bs) e ∙ omega (arith, from_be_bytes-to_be_bytes_4 n below)

-- a text is read without the spaces behind it
pub text_at-unpadded : (offset count : ℕ) (message text : List ℕ) → bytes_at offset count message ≡ text
    → text_at offset count message ≡ unpadded text
text_at-unpadded offset count message text e = ap unpadded e

one_more : (n : ℕ) → replicate {A = ℕ} (n + 1) 32 ≡ replicate (suc n) 32
one_more n = let e : n + 1 ≡ suc n = omega arith in rw e refl

reverse-spaces : (n : ℕ) → reverse {A = ℕ} (replicate n 32) ≡ replicate n 32
reverse-spaces zero = refl
reverse-spaces (suc n) = reverse-append {A = ℕ} (32 ∷ []) (replicate n 32)
    ∙ ap (λ (bs : List ℕ). bs ++ 32 ∷ []) (reverse-spaces n) ∙ replicate_more n 32 ∙ one_more n

without_spaces-skips : (n : ℕ) (bytes : List ℕ) → without_spaces (replicate n 32 ++ bytes) ≡ without_spaces bytes
without_spaces-skips zero bytes = refl
without_spaces-skips (suc n) bytes = without_spaces-skips n bytes

visible_no_space : (byte : ℕ) → is_visible byte ≡ true → (byte == 32) ≡ false
visible_no_space byte visible = grind (arith, nat_tests)

without_spaces-visible : (bytes : List ℕ) → list_all is_visible bytes ≡ true → without_spaces bytes ≡ bytes
without_spaces-visible [] visible = refl
without_spaces-visible (byte ∷ bytes) visible = rw
    (visible_no_space byte (both (is_visible byte) (list_all is_visible bytes) visible).0) refl

visible-reverse : (bytes : List ℕ) → list_all is_visible bytes ≡ true → list_all is_visible (reverse bytes) ≡ true
visible-reverse [] visible = refl
visible-reverse (byte ∷ bytes) visible =
    let parts = both (is_visible byte) (list_all is_visible bytes) visible in
    ap (list_all is_visible) (reverse-append (byte ∷ []) bytes)
    ∙ list_all-append is_visible (reverse bytes) (byte ∷ []) ∙ rw (visible-reverse bytes parts.1, parts.0) refl

-- a symbol that is padded right with spaces is read without them
pub unpadded-padded : (symbol : List ℕ) (n : ℕ) → list_all is_visible symbol ≡ true
    → unpadded (symbol ++ replicate n 32) ≡ symbol
unpadded-padded symbol n visible =
    ap (λ (bs : List ℕ). reverse (without_spaces bs))
    (reverse-append symbol (replicate n 32) ∙ ap (λ (bs : List ℕ). bs ++ reverse symbol) (reverse-spaces n))
    ∙ ap reverse (without_spaces-skips n (reverse symbol)
    ∙ without_spaces-visible (reverse symbol) (visible-reverse symbol visible))
    ∙ reverse-reverse symbol
