use Rattle.std.proofs.Common.{◌≡◌, ◌∙◌, ℕ, suc, ◌+◌, ◌<◌, List, ◌∷◌, ap, arith, drop, get_or, length, sym}
use Rattle.std.proofs.Math.Seq.{drop-cons}
use Rattle.stderr_queue.specs.Shown.{appended, cut, shown_byte}
use Rattle.stderr_queue.specs.Line.{line_text}
use Rattle.stderr_queue.proofs.line.LineWrite.write_str.Goals as goal

-- a byte more is cut
cut-next : (text bytes : List ℕ) (i : ℕ) → i < length bytes
    → cut text (drop i bytes) ≡ cut (appended text (shown_byte (get_or bytes i 0))) (drop (i + 1) bytes)
cut-next text bytes i lt =
    let on : suc i ≡ i + 1 = omega arith in
    ap (cut text) (drop-cons bytes i 0 lt) ∙ ap
    (λ n. cut (appended text (shown_byte (get_or bytes i 0))) (drop n bytes)) on

pub loop-byte-preserved : goal.loop-byte-preserved
loop-byte-preserved c =
    let i = c.loop-byte.byte-index in
    let bytes = c.as_bytes-byte-items.result.now in
    ap (λ text. cut text (drop (i + 1) bytes)) c.push.ensures
    ∙ (sym (cut-next (line_text c.loop-byte.self) bytes i (omega arith)) ∙ c.loop-byte.invariant)
