-- How a text that is read and cut piece by piece comes to its lines.
use Rattle.std.proofs.Common.{◌≡◌, ◌≢◌, ℕ, Bool, true, false, cond, List, [], ◌∷◌, ◌++◌, Option, None, Some, option_map}
use Rattle.std.proofs.Common.{refl, sym, ap, subst, ◌∙◌, append_assoc, append-nil, ne_eqb}
use Rattle.std.proofs.lemmas.List.Elements.{All-head, All-tail, All-append}
use Rattle.std.specs.List.{onto_first}
use Rattle.std.specs.Io.KnownBytes.{Consumes, IsAtEnd, prepend_known}
use Rattle.std.proofs.KnownBytes.{Consumes-trans}
use Rattle.wire_streams.specs.Pieces.{HasNoNewline, TakesLine, ReadsPiece}
use Rattle.wire_streams.specs.Unread.{GivesLine, lines_of}

-- a text with no newline is one line
pub one-line : (text : List ℕ) → HasNoNewline text → lines_of text ≡ text ∷ []
one-line [] none = refl
one-line (x ∷ xs) none =
    ap (λ b. cond b ([] ∷ lines_of xs) (onto_first x (lines_of xs))) (ne_eqb x 10 (All-head (λ b. b ≢ 10) x xs none))
    ∙ ap (onto_first x) (one-line xs (All-tail (λ b. b ≢ 10) x xs none))

-- the first line is what stands before the first newline
pub first-line : (text rest : List ℕ) → HasNoNewline text → lines_of (text ++ 10 ∷ rest) ≡ text ∷ lines_of rest
first-line [] rest none = refl
first-line (x ∷ xs) rest none =
    ap (λ b. cond b ([] ∷ lines_of (xs ++ 10 ∷ rest)) (onto_first x (lines_of (xs ++ 10 ∷ rest))))
    (ne_eqb x 10 (All-head (λ b. b ≢ 10) x xs none))
    ∙ ap (onto_first x) (first-line xs rest (All-tail (λ b. b ≢ 10) x xs none))

-- what is taken of a piece is taken of the stream
pub taken-part : (start known : Option (List ℕ)) (piece line rest longer : List ℕ)
    → Consumes start (prepend_known piece known) line → TakesLine piece line rest longer false
    → Consumes start (prepend_known rest known) longer
taken-part start known piece line rest longer taken (part, is, none, cut) =
    subst (λ l. Consumes start (prepend_known rest known) l) (sym is)
    (Consumes-trans start (prepend_known piece known) (prepend_known rest known) line part taken (passed known))
  where
    passed : (k : Option (List ℕ)) → Consumes (prepend_known piece k) (prepend_known rest k) part
    passed None = tt
    passed (Some xs) = ap (λ l. l ++ xs) cut.0 ∙ ap (λ l. part ++ (l ++ xs)) (sym cut.1)

-- and where it has no newline, nothing of the piece is left
pub emptied : (start known : Option (List ℕ)) (piece line rest longer : List ℕ)
    → Consumes start (prepend_known piece known) line → TakesLine piece line rest longer false
    → Consumes start (prepend_known [] known) longer
emptied start known piece line rest longer taken takes =
    subst (λ l. Consumes start (prepend_known l known) longer) takes.3.1
    (taken-part start known piece line rest longer taken takes)

-- a line that grows by what is cut has no newline
pub longer-none : (piece line rest longer : List ℕ) (whole : Bool) → HasNoNewline line
    → TakesLine piece line rest longer whole → HasNoNewline longer
longer-none piece line rest longer whole before (part, is, none, cut) =
    subst HasNoNewline (sym is) (All-append (λ b. b ≢ 10) line part before none)

-- what is read stands behind it
pub read-more : (start known later : Option (List ℕ)) (line piece : List ℕ)
    → Consumes start (prepend_known [] known) line → Consumes known later piece
    → Consumes start (prepend_known piece later) line
read-more None known later line piece taken read = tt
read-more (Some xs) None later line piece taken read = absurd taken
read-more (Some xs) (Some ys) None line piece taken read = absurd read
read-more (Some xs) (Some ys) (Some zs) line piece taken read = taken ∙ ap (λ l. line ++ l) read

-- a line that ends at a newline is given
pub gives-whole : (was is : Bool) (start known : Option (List ℕ)) (piece line rest longer : List ℕ) → was ≡ false
    → is ≡ false
    → Consumes start (prepend_known piece known) line → HasNoNewline line → TakesLine piece line rest longer true
    → GivesLine (cond was (Some []) (option_map lines_of start))
    (cond is (Some []) (option_map lines_of (prepend_known rest known))) (Some longer)
gives-whole was is start known piece line rest longer before after taken none takes =
    subst (λ (b : Bool). GivesLine (cond b (Some []) (option_map lines_of start))
    (cond is (Some []) (option_map lines_of (prepend_known rest known))) (Some longer)) (sym before)
    (subst (λ (b : Bool). GivesLine (option_map lines_of start)
    (cond b (Some []) (option_map lines_of (prepend_known rest known))) (Some longer)) (sym after)
    (given start known taken))
  where
    given : (start known : Option (List ℕ)) → Consumes start (prepend_known piece known) line
        → GivesLine (option_map lines_of start) (option_map lines_of (prepend_known rest known)) (Some longer)
    given None known taken = tt
    given (Some xs) None taken = absurd taken
    given (Some xs) (Some ys) taken =
        ap lines_of (taken ∙ ap (λ l. line ++ (l ++ ys)) takes.3
        ∙ ap (λ l. line ++ l) (append_assoc takes.0 (10 ∷ rest) ys)
        ∙ sym (append_assoc line takes.0 (10 ∷ (rest ++ ys))) ∙ ap (λ l. l ++ 10 ∷ (rest ++ ys)) (sym takes.1))
        ∙ first-line longer (rest ++ ys) (longer-none piece line rest longer true none takes)

-- the last line is given
pub gives-last : (was is : Bool) (start known later : Option (List ℕ)) (line piece : List ℕ) → was ≡ false → is ≡ true
    → Consumes start (prepend_known [] known) line → HasNoNewline line → ReadsPiece known later piece false
    → GivesLine (cond was (Some []) (option_map lines_of start))
    (cond is (Some []) (option_map lines_of (prepend_known piece later))) (Some line)
gives-last was is start known later line piece before after taken none read =
    subst (λ (b : Bool). GivesLine (cond b (Some []) (option_map lines_of start))
    (cond is (Some []) (option_map lines_of (prepend_known piece later))) (Some line)) (sym before)
    (subst (λ (b : Bool). GivesLine (option_map lines_of start)
    (cond b (Some []) (option_map lines_of (prepend_known piece later))) (Some line)) (sym after)
    (given start later (read-more start known later line piece taken read.0) read.1))
  where
    given : (start later : Option (List ℕ)) → Consumes start (prepend_known piece later) line → IsAtEnd later
        → GivesLine (option_map lines_of start) (Some []) (Some line)
    given None later taken end = tt
    given (Some xs) None taken end = absurd taken
    given (Some xs) (Some ys) taken end =
        ap lines_of (taken ∙ ap (λ l. line ++ (l ++ ys)) read.2 ∙ ap (λ l. line ++ l) end ∙ append-nil line)
        ∙ one-line line none
