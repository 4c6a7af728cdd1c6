-- Bytes that go out in several writes.
use Rattle.std.proofs.Common.{◌≡◌, ℕ, ◌++◌, List, [], take, drop, Option, Some, None, Result, Ok, Err, refl, sym, ◌∙◌}
use Rattle.std.proofs.Common.{ap, append_assoc, take-append-drop}
use Rattle.std.specs.Io.KnownBytes.{Appends, Keeps, WriteAppends}
use Rattle.std.proofs.KnownBytes.{Appends-nil, Appends-trans, Keeps-trans}
use Rattle.link_io.specs.Writing.{HasSent}

pub sent_none : (bytes : List ℕ) (s : Option (List ℕ)) → HasSent bytes bytes s s
sent_none bytes s = ([], Appends-nil s, refl)

pub sent_more : (n : ℕ) (bytes rest left : List ℕ) (a b c : Option (List ℕ)) → HasSent bytes rest a b
    → Appends b c (take n rest)
    → left ≡ drop n rest → HasSent bytes left a c
sent_more n bytes rest left a b c (written, so_far, whole) more behind = (
  written ++ take n rest,
  Appends-trans a b c written (take n rest) so_far more,
  whole ∙ (ap (λ (l : List ℕ). written ++ l) (sym (take-append-drop n rest))
      ∙ (sym (append_assoc written (take n rest) (drop n rest))
      ∙ ap (λ (l : List ℕ). (written ++ take n rest) ++ l) (sym behind))),
)

-- a write behind some that failed
kept_appends : (a b c : Option (List ℕ)) (bytes : List ℕ) → Keeps a b → Appends b c bytes → Appends a c bytes
kept_appends None b c bytes kept more = tt
kept_appends (Some x) None c bytes kept more = absurd kept
kept_appends (Some x) (Some y) None bytes kept more = absurd more
kept_appends (Some x) (Some y) (Some z) bytes kept more = more ∙ ap (λ (l : List ℕ). l ++ bytes) kept

pub kept_writes : {E : Type 0} (a b c : Option (List ℕ)) (r : Result ℕ E) (bytes : List ℕ) → Keeps a b
    → WriteAppends b c r bytes → WriteAppends a c r bytes
kept_writes a b c (Ok n) bytes kept writes = kept_appends a b c (take n bytes) kept writes
kept_writes a b c (Err e) bytes kept writes = Keeps-trans a b c kept writes
