-- A body in the text of what is printed before, with and behind it.
use Rattle.std.proofs.Common.{◌≡◌, ◌+◌, ℕ, List, ◌++◌, length, refl, sym, ap, ◌∙◌, arith, subst}
use Rattle.std.specs.Prelude.{slice_range}
use Rattle.std.specs.List.{list_all}
use Rattle.std.proofs.lemmas.List.{length-append}
use Rattle.std.proofs.lemmas.List.Folds.{list_all-append}
use Rattle.std.proofs.lemmas.Grind.{flat_map-append}
use Rattle.fix_framing.specs.fix_fields.Field.{AreFields, Message, field_text, fields_text, is_field}
use Rattle.fix_framing.specs.fix_fields.Printed.{PrintsFields, fields_in}
use Rattle.fix_framing.proofs.fix_fields.Printing.{printed-is}
use Rattle.fix_framing.proofs.fix_fields.Tags.{and_parts}
use Rattle.session_writing.specs.Issued.{IsPart, report_part}
use Rattle.session_writing.proofs.Keeping.{range-append, range-further, whole}

-- a body stands in the text of all, between what stands before and behind it
pub record StandsAs (report : Message) (start end : ℕ) (body : Message) : Type 0 where
  pub part : IsPart report start end
  pub same : fields_in (report_part report start end) ≡ body

part-is : (front body issue : Message) → report_part ((front ++ body) ++ issue) (length (fields_text front))
    (length (fields_text (front ++ body))) ≡ fields_text body
part-is front body issue =
    let f = fields_text front in
    let b = fields_text body in
    let both : fields_text (front ++ body) ≡ f ++ b = flat_map-append field_text front body in
    let all : fields_text ((front ++ body) ++ issue) ≡ fields_text (front ++ body) ++ fields_text issue =
    flat_map-append field_text (front ++ body) issue in
    let size : length (fields_text (front ++ body)) ≡ length f + length b = ap length both ∙ length-append f b in
    ap (λ (t : List ℕ). slice_range t (length f) (length (fields_text (front ++ body)))) all
    ∙ range-append (fields_text (front ++ body)) (fields_text issue) (length f) (length (fields_text (front ++ body)))
    (omega (arith, size)) (omega arith)
    ∙ ap (λ (t : List ℕ). slice_range t (length f) (length (fields_text (front ++ body)))) both
    ∙ ap (λ (n : ℕ). slice_range (f ++ b) (length f) n) size
    ∙ ap (λ (n : ℕ). slice_range (f ++ b) n (length f + length b)) (omega arith)
    ∙ range-further f b 0 (length b)
    ∙ whole b

stands : (front body issue : Message) → AreFields (front ++ body)
    → StandsAs ((front ++ body) ++ issue) (length (fields_text front)) (length (fields_text (front ++ body))) body
stands front body issue good =
    let both = and_parts (list_all is_field front) (list_all is_field body)
    (sym (list_all-append is_field front body) ∙ good) in
    let printed = printed-is (fields_text body) body both.1 refl in
    let part = part-is front body issue in
    let size : length (fields_text (front ++ body)) ≡ length (fields_text front) + length (fields_text body) =
    ap length (flat_map-append field_text front body) ∙ length-append (fields_text front) (fields_text body) in
    let more : length (fields_text ((front ++ body) ++ issue))
    ≡ length (fields_text (front ++ body)) + length (fields_text issue) =
    ap length (flat_map-append field_text (front ++ body) issue)
    ∙ length-append (fields_text (front ++ body)) (fields_text issue) in
    record {
      part = record {
        ordered = omega (arith, size);
        ends = omega (arith, more);
        prints = subst (λ (t : List ℕ). PrintsFields t) (sym part) printed.prints;
      };
      same = ap fields_in part ∙ printed.same;
    }

-- the same, of what the code has
pub body-stands : (front body issue both report : Message) (start end : ℕ) → both ≡ front ++ body
    → report ≡ both ++ issue → AreFields both
    → start ≡ length (fields_text front) → end ≡ length (fields_text both) → StandsAs report start end body
body-stands front body issue both report start end both_is report_is good start_is end_is =
    rw (start_is, end_is, report_is, both_is) (stands front body issue (rw both_is at good))
