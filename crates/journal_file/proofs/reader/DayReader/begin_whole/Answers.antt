use Rattle.std.proofs.Common.{◌≡◌, ◌++◌, List, ℕ, refl, sym, ap, subst, ◌∙◌}
use Rattle.std.specs.Prelude.{◌⊎◌}
use Rattle.gate_journal.specs.Kept.{kept_in}
use Rattle.journal_file.specs.Reader.{Reading}
use Rattle.journal_file.specs.Said.{IsNoFile, IsNoMemory}
use Rattle.journal_file.proofs.Streaming.{seen-unseen, whole-given}
use Rattle.journal_file.proofs.reader.DayReader.begin_whole.Goals as goal

pub returns-in-Err-clause-refused : goal.returns-in-Err-clause-refused
returns-in-Err-clause-refused c =
    let r : Reading = c.args.self.now in
    let is = seen-unseen r _ _ _ _ _ _ c.self.view_is c.requires c.self.invariant in
    let file : c.left.result.now ≡ r.read = c.left.ensures ∙ ap (λ (x : Reading). x.left) c.self.view_is ∙ sym is.same in (
      refl,
      c.refusal.ensures r.read
          (subst (λ (t : List ℕ). IsNoMemory c.in-Err.number c.in-Err.fault ⊎ IsNoFile t c.in-Err.number
          c.in-Err.fault) file c.in-Err.ensures.read),
    )

pub returns-clause-given : goal.returns-clause-given
returns-clause-given c =
    let r : Reading = c.args.self.now in
    let is = seen-unseen r _ _ _ _ _ _ c.self.view_is c.requires c.self.invariant in
    whole-given r.yielded c.note_pages.new.noted.pages c.into_pages-part.result is.none_yielded
    (c.pages.ensures.same ∙ ap kept_in c.pages.ensures.pages)
    (c.note_pages.ensures ∙ ap (λ (ps : List (List ℕ)). c.self.inside.yielded.pages ++ ps) c.pages.ensures.pages
    ∙ ap (λ (x : Reading). x.yielded ++ c.into_pages-part.result.pages) c.self.view_is)
    c.into_pages-part.ensures.day
