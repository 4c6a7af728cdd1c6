use Rattle.std.proofs.Common.{◌≡◌, ℕ, List, ◌++◌, length, sym, ap, ◌∙◌, decimal}
use Rattle.fix_fields.specs.Field.{Field, fields_text}
use Rattle.fix_framing.specs.Frame.{frame_text, counted_text, trailer, head}
use Rattle.fix_framing.proofs.writing.frame_of_text.Goals as goal

-- the buffer after all writes
written : (front body made all : List ℕ) (fields : List Field) → front ≡ head (decimal (length body))
    → body ≡ fields_text fields → made ≡ front ++ body → all ≡ made ++ trailer made → all ≡ frame_text fields
unfolding frame_text counted_text
written front body made all fields f b m a =
    let whole : made ≡ head (decimal (length (fields_text fields))) ++ fields_text fields =
    m ∙ ap (λ (l : List ℕ). l ++ body) f ∙ ap (λ (l : List ℕ). head (decimal (length l)) ++ l) b in
    a ∙ ap (λ (l : List ℕ). l ++ trailer l) whole

pub returns : goal.returns
returns c fields printed =
    let body = c.args.body.now in
    let made = c.in_ok-extend_from_slice.ensures.items in
    let trailer-is = c.trailer-trailer.ensures ∙ ap (λ (l : List ℕ). trailer l) c.as_slice.ensures.value in
    written c.in_ok-text.text.items body c.extend_from_slice.new.self.items c.extend_from_slice-2.new.self.items fields
    c.in_ok-text.ensures (sym printed) made
    (c.in_ok-extend_from_slice-2.ensures.items
    ∙ ap (λ (l : List ℕ). c.extend_from_slice.new.self.items ++ l) trailer-is)
