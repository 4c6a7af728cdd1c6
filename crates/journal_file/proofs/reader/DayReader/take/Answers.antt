use Rattle.std.proofs.Common.{◌≡◌, ◌≤◌, ◌++◌, ◌∷◌, [], List, ℕ, None, length, drop, take, refl, sym, ap, subst, ◌∙◌}
use Rattle.journal_days.specs.Begun.{begun_fault}
use Rattle.journal_days.specs.Cut.{texts}
use Rattle.journal_days.specs.Day.{version_of}
use Rattle.journal_file.specs.Reader.{IsReading, Reading}
use Rattle.journal_file.specs.declared.reader.Mode.{Mode}
use Rattle.journal_file.specs.declared.reader.Mode.TheVariants.{Pages}
use Rattle.journal_file.proofs.Streaming.{front-behind, front-page, in-mode, pages-along, took, wrong-along, wrong-by}
use Rattle.journal_file.proofs.Streaming.{wrong-page}
use Rattle.journal_file.proofs.reader.DayReader.take.Goals as goal

some : (page : List ℕ) (size : ℕ) → length page ≡ size → 1 ≤ size → 1 ≤ length page
some page size e is = subst (λ (n : ℕ). 1 ≤ n) (sym e) is

pub returns-in-Err-clause-refused : goal.returns-in-Err-clause-refused
returns-in-Err-clause-refused c =
    let front = c.requires.front in
    let held : List (List ℕ) = texts c.self.inside.held.items in
    let left : c.self.inside.window.left ≡ c.args.self.now.left = ap (λ (r : Reading). r.left) c.self.view_is in
    let is = in-mode c.self.inside.mode c.self.inside.window.read c.self.inside.window.left c.self.inside.judge held
    c.self.inside.yielded.pages (ap (λ (r : Reading). r.mode) c.self.view_is ∙ c.requires.pages) c.self.invariant in
    let page : c.split_at-2.result.0.now ≡ front.page =
    c.split_at-2.ensures.front ∙ ap (take c.args.size) (c.split_at.ensures.back ∙ ap (drop 16) c.left.ensures)
    ∙ front-page c.self.inside.window.left front.page front.behind c.args.size (left ∙ front.same) front.sized in
    wrong-by c.self.inside.window.read c.self.inside.judge front.page c.in-Err.fault
    (wrong-along c.self.inside.judge c.self.inside.judge c.split_at-2.result.0.now front.page c.in-Err.fault refl page c.in-Err.ensures.2)
    (λ n why found more. wrong-page c.self.inside.window.read c.self.inside.window.left c.self.inside.judge held
    c.self.inside.yielded.pages is front.page front.behind n why (left ∙ front.same)
    (some front.page c.args.size front.sized c.requires.some) found more)

pub invariant_of-self-2 : goal.invariant_of-self-2
invariant_of-self-2 c =
    let front = c.requires.front in
    let held : List (List ℕ) = texts c.self.inside.held.items in
    let left : c.self.inside.window.left ≡ c.args.self.now.left = ap (λ (r : Reading). r.left) c.self.view_is in
    let mode : c.self.inside.mode ≡ Pages = ap (λ (r : Reading). r.mode) c.self.view_is ∙ c.requires.pages in
    let is = in-mode c.self.inside.mode c.self.inside.window.read c.self.inside.window.left c.self.inside.judge held
    c.self.inside.yielded.pages mode c.self.invariant in
    let page : c.split_at-2.result.0.now ≡ front.page =
    c.split_at-2.ensures.front ∙ ap (take c.args.size) (c.split_at.ensures.back ∙ ap (drop 16) c.left.ensures)
    ∙ front-page c.self.inside.window.left front.page front.behind c.args.size (left ∙ front.same) front.sized in
    let well = c.in_default.ensures in
    let judged : c.hold.new.judge ≡ c.self.inside.judge ++ front.page ∷ [] =
    well.0 ∙ ap (λ (p : List ℕ). c.self.inside.judge ++ p ∷ []) page in
    let kept : texts c.hold.new.held.items ≡ held ++ front.page ∷ [] =
    well.2 ∙ ap (λ (p : List ℕ). held ++ p ∷ []) page in
    let none : begun_fault (version_of (c.self.inside.judge ++ front.page ∷ [])) (c.self.inside.judge ++ front.page ∷ [])
    ≡ None = ap (λ (ps : List (List ℕ)). begun_fault (version_of ps) ps) (sym judged) ∙ well.1 in
    let behind : c.pass.new.self.left ≡ front.behind = c.pass.ensures.left
    ∙ front-behind c.self.inside.window.left front.page front.behind c.args.size (left ∙ front.same) front.sized in
    subst (λ (m : Mode). IsReading m c.pass.new.self.read c.pass.new.self.left c.hold.new.judge
    (texts c.hold.new.held.items) c.self.inside.yielded.pages) (sym mode)
    (pages-along _ _ _ _ _ _ _ _ _ _ (sym c.pass.ensures.read) (sym behind) (sym judged) (sym kept) refl
    (took c.self.inside.window.read c.self.inside.window.left c.self.inside.judge held c.self.inside.yielded.pages is
    front.page front.behind (left ∙ front.same) (some front.page c.args.size front.sized c.requires.some) none))
