use Rattle.std.proofs.Common.{◌≡◌, [], ℕ, None, Some, true, false, length, sym, ap, subst, ◌∙◌}
use Rattle.std.specs.Prelude.{min}
use Rattle.journal_days.specs.Day.{day_fault, version_of}
use Rattle.journal_file.specs.declared.ending.Ending.TheVariants.{GoesOn, Torn}
use Rattle.journal_file.specs.declared.fault.FileFault.TheVariants as whys
use Rattle.journal_pages.specs.declared.version.Version.TheVariants.{Two}
use Rattle.journal_file.specs.Endings.{is_unfinished}
use Rattle.journal_file.specs.Reader.{Reading}
use Rattle.journal_file.specs.Said.{IsNoFile}
use Rattle.journal_file.proofs.Files.{no-error}
use Rattle.journal_file.proofs.Streaming.{broken, is-none, is-some, open-at-end, says, seen-pages, told-at-end}
use Rattle.journal_file.proofs.reader.DayReader.ending.Goals as goal

pub returns-then-not-is_unfinished : goal.returns-then-not-is_unfinished
returns-then-not-is_unfinished c =
    let r : Reading = c.args.self.now in
    let is = seen-pages r _ _ _ _ _ _ c.self.view_is c.requires.pages c.self.invariant in
    let lasting : is_unfinished Two r.left ≡ false =
    ap (is_unfinished Two) (sym (c.left-left.ensures ∙ ap (λ (x : Reading). x.left) c.self.view_is))
    ∙ sym c.is_unfinished.ensures ∙ c.if-not-is_unfinished.true in
    let count : min (length r.taken) 4_294_967_295 ≡ c.count.result =
    ap (λ (x : Reading). min (length x.taken) 4_294_967_295) (sym c.self.view_is) ∙ sym c.count.ensures in
    subst (λ (n : ℕ). IsNoFile r.read n c.args.fault) count
    (broken r.read r.left r.taken r.held r.yielded is c.args.fault c.requires.front lasting)

pub returns-in-Err : goal.returns-in-Err
returns-in-Err c =
    let r : Reading = c.args.self.now in
    let is = seen-pages r _ _ _ _ _ _ c.self.view_is c.requires.pages c.self.invariant in
    let un : is_unfinished Two r.left ≡ true =
    ap (is_unfinished Two) (sym (c.left-left.ensures ∙ ap (λ (x : Reading). x.left) c.self.view_is))
    ∙ sym c.is_unfinished.ensures ∙ c.if-not-is_unfinished.false in
    let why : day_fault (version_of r.taken) r.taken ≡ Some (c.in-Err.fault.0, c.in-Err.fault.1) =
    ap (λ (x : Reading). day_fault (version_of x.taken) x.taken) (sym c.self.view_is) ∙ c.in-Err.ensures in
    told-at-end r.read c.in-Err.fault.0 (whys.Page c.in-Err.fault.1) c.wrong_page.result c.wrong_page.ensures
    (open-at-end r.read r.left r.taken r.held r.yielded is c.in-Err.fault.0 c.in-Err.fault.1 un why)

pub returns-then-is_empty : goal.returns-then-is_empty
returns-then-is_empty c =
    let r : Reading = c.args.self.now in
    let is = seen-pages r _ _ _ _ _ _ c.self.view_is c.requires.pages c.self.invariant in
    let left : c.left-left.result.now ≡ r.left = c.left-left.ensures ∙ ap (λ (x : Reading). x.left) c.self.view_is in
    let un : is_unfinished Two r.left ≡ true =
    ap (is_unfinished Two) (sym left) ∙ sym c.is_unfinished.ensures ∙ c.if-not-is_unfinished.false in
    let day : day_fault (version_of r.taken) r.taken ≡ None =
    ap (λ (x : Reading). day_fault (version_of x.taken) x.taken) (sym c.self.view_is)
    ∙ no-error _ c.end.result c.in_default.not-Err c.end.ensures in
    let none : r.left ≡ [] = sym left ∙ is-none c.left-left.result.now (sym c.is_empty.ensures ∙ c.if-is_empty.true) in
    says r.read r.left r.taken r.held r.yielded is GoesOn day c.requires.whole (none, un)

pub returns : goal.returns
returns c =
    let r : Reading = c.args.self.now in
    let is = seen-pages r _ _ _ _ _ _ c.self.view_is c.requires.pages c.self.invariant in
    let left : c.left-left.result.now ≡ r.left = c.left-left.ensures ∙ ap (λ (x : Reading). x.left) c.self.view_is in
    let un : is_unfinished Two r.left ≡ true =
    ap (is_unfinished Two) (sym left) ∙ sym c.is_unfinished.ensures ∙ c.if-not-is_unfinished.false in
    let day : day_fault (version_of r.taken) r.taken ≡ None =
    ap (λ (x : Reading). day_fault (version_of x.taken) x.taken) (sym c.self.view_is)
    ∙ no-error _ c.end.result c.in_default.not-Err c.end.ensures in
    says r.read r.left r.taken r.held r.yielded is (Torn (length c.left-left.result.now)) day c.requires.whole
    (is-some (length c.left-left.result.now) (sym c.is_empty.ensures ∙ c.if-is_empty.false), ap length left, un)
