use Rattle.std.proofs.Common.{◌++◌, List, ℕ, Vec, sym, ap, ◌∙◌}
use Rattle.std.specs.declared.alloc.Global.{Global}
use Rattle.journal_pages.specs.declared.version.Version.TheVariants.{Two}
use Rattle.journal_days.specs.Cut.{texts}
use Rattle.journal_days.specs.Day.{are_pages}
use Rattle.gate_journal.specs.Kept.{kept_in}
use Rattle.journal_file.specs.Reader.{Reading}
use Rattle.journal_file.proofs.Streaming.{given, go-along, held-pages, in-mode, whole-along}
use Rattle.journal_file.proofs.reader.DayReader.give.Goals as goal

pub returns-clause-given : goal.returns-clause-given
returns-clause-given c =
    let held : List (List ℕ) = texts c.self.inside.held.items in
    let is = in-mode c.self.inside.mode c.self.inside.window.read c.self.inside.window.left c.self.inside.judge held
    c.self.inside.yielded.pages (ap (λ (r : Reading). r.mode) c.self.view_is ∙ c.requires.pages) c.self.invariant in
    let whole = whole-along c.self.inside.judge c.args.self.now.taken (ap (λ (r : Reading). r.taken) c.self.view_is)
    c.requires.whole in
    go-along c.self.inside.yielded.pages c.args.self.now.yielded (c.self.inside.yielded.pages ++ held) c.note_pages.new.noted.pages
    (kept_in held) c.of_judged.result (ap (λ (r : Reading). r.yielded) c.self.view_is)
    (sym (c.of_judged.ensures ∙ ap (λ (v : Vec (Vec ℕ Global) Global). kept_in (texts v.items)) c.replace-held.ensures.value))
    (sym (c.note_pages.ensures ∙ ap (λ (ps : List (Vec ℕ Global)). c.self.inside.yielded.pages ++ texts ps)
    (c.as_slice.ensures.value ∙ ap (λ (v : Vec (Vec ℕ Global) Global). v.items) c.replace-held.ensures.value)))
    (given c.self.inside.window.read c.self.inside.window.left c.self.inside.judge held c.self.inside.yielded.pages is whole)

pub of_judged-requires : goal.of_judged-requires
of_judged-requires c =
    let held : List (List ℕ) = texts c.self.inside.held.items in
    let is = in-mode c.self.inside.mode c.self.inside.window.read c.self.inside.window.left c.self.inside.judge held
    c.self.inside.yielded.pages (ap (λ (r : Reading). r.mode) c.self.view_is ∙ c.requires.pages) c.self.invariant in
    let whole = whole-along c.self.inside.judge c.args.self.now.taken (ap (λ (r : Reading). r.taken) c.self.view_is)
    c.requires.whole in
    ap (λ (v : Vec (Vec ℕ Global) Global). are_pages Two (texts v.items)) c.replace-held.ensures.value
    ∙ held-pages c.self.inside.window.read c.self.inside.window.left c.self.inside.judge held
    c.self.inside.yielded.pages is whole
