use Rattle.std.proofs.Common.{◌≡◌, ◌++◌, ◌∷◌, ◌∙◌, List, ℕ, Vec, sym, ap, append_assoc}
use Rattle.std.specs.declared.alloc.Global.{Global}
use Rattle.journal_pages.specs.declared.version.Version.TheVariants.{Two}
use Rattle.desk_steps.specs.gate_journal.Cut.{texts}
use Rattle.journal_file.specs.File.{sized_page, sized_pages}
use Rattle.desk.proofs.replaying.note_pages.Goals as goal

pub loop-page-preserved : goal.loop-page-preserved
loop-page-preserved c =
    let written : List ℕ = c.loop-page.written in
    let page : Vec ℕ Global = c.in-Some.page.now in
    let behind : List (Vec ℕ Global) = c.in-Some.behind.now in
    let rest : c.loop-page.rest.now ≡ page ∷ behind = c.in-Some.ensures.cases.0 in
    ap (λ (l : List ℕ). l ++ sized_pages Two (texts behind))
    (c.in_ok-push.ensures ∙ ap (λ (l : List ℕ). written ++ sized_page Two l) c.as_slice.ensures.value)
    ∙ append_assoc written (sized_page Two page.items) (sized_pages Two (texts behind))
    ∙ ap (λ (l : List (Vec ℕ Global)). written ++ sized_pages Two (texts l)) (sym rest) ∙ c.loop-page.invariant
