use Rattle.std.proofs.Common.{◌≡◌, ◌++◌, List, ℕ, None, Some, Bool, length, sym, ap}
use Rattle.std.proofs.Common.{subst, ◌∙◌, arith}
use Rattle.std.specs.Prelude.{min}
use Rattle.journal_days.specs.Day.{day_fault, version_of}
use Rattle.journal_file.specs.declared.ending.Ending.TheVariants.{Over}
use Rattle.journal_file.specs.declared.fault.FileFault.TheVariants as whys
use Rattle.journal_pages.specs.declared.fault.PageFault.TheVariants as pages
use Rattle.gate_journal.specs.Kept.{kept_in}
use Rattle.journal_file.specs.Reader.{HasMore, Reading}
use Rattle.journal_file.specs.Said.{IsNoFile, Says}
use Rattle.journal_file.proofs.Files.{no-error}
use Rattle.journal_file.proofs.Streaming.{behind-long, ends, front-end, more-behind-end, open-before-end}
use Rattle.journal_file.proofs.Streaming.{over-says, refused-here, seen-pages, told-by}
use Rattle.journal_file.proofs.reader.DayReader.over.Goals as goal

pub returns-in-Err : goal.returns-in-Err
returns-in-Err g c =
    let r : Reading = c.args.self.now in
    let is = seen-pages r _ _ _ _ _ _ c.self.view_is c.requires.pages c.self.invariant in
    let why : day_fault (version_of r.taken) r.taken ≡ Some (c.in-Err.fault.0, c.in-Err.fault.1) =
    ap (λ (x : Reading). day_fault (version_of x.taken) x.taken) (sym c.self.view_is) ∙ c.in-Err.ensures in
    refused-here _ r c.wrong_page.result
    (told-by r.read c.in-Err.fault.0 (whys.Page c.in-Err.fault.1) c.wrong_page.result c.wrong_page.ensures
    (open-before-end r.read r.left r.taken r.held r.yielded is c.requires.front.behind c.in-Err.fault.0 c.in-Err.fault.1
    (front-end r.left c.requires.front) why))

pub returns-then-left-gt16 : goal.returns-then-left-gt16
returns-then-left-gt16 g c =
    let r : Reading = c.args.self.now in
    let is = seen-pages r _ _ _ _ _ _ c.self.view_is c.requires.pages c.self.invariant in
    let left : c.left.result.now ≡ r.left = c.left.ensures ∙ ap (λ (x : Reading). x.left) c.self.view_is in
    let front = front-end r.left c.requires.front in
    let all = behind-long r.left c.requires.front.behind front in
    let long : length c.left.result.now ≡ length r.left = ap length left in
    let day : day_fault (version_of r.taken) r.taken ≡ None =
    ap (λ (x : Reading). day_fault (version_of x.taken) x.taken) (sym c.self.view_is)
    ∙ no-error _ c.end.result c.in_default.not-Err c.end.ensures in
    let count : min (length r.taken) 4_294_967_295 ≡ c.count.result =
    ap (λ (x : Reading). min (length x.taken) 4_294_967_295) (sym c.self.view_is) ∙ sym c.count.ensures in
    refused-here _ r c.wrong_page-then-left-gt16.result
    (told-by r.read c.count.result (whys.Page pages.Head) c.wrong_page-then-left-gt16.result
    c.wrong_page-then-left-gt16.ensures
    (subst (λ (n : ℕ). (more : List ℕ) → IsNoFile (r.read ++ more) n (whys.Page pages.Head)) count
    (more-behind-end r.read r.left r.taken r.held r.yielded is c.requires.front.behind front
    (omega (arith, all, long, c.if-left-gt16.true)) day)))

pub returns : goal.returns
returns g c =
    let r : Reading = c.args.self.now in
    let is = seen-pages r _ _ _ _ _ _ c.self.view_is c.requires.pages c.self.invariant in
    let left : c.left.result.now ≡ r.left = c.left.ensures ∙ ap (λ (x : Reading). x.left) c.self.view_is in
    let long : length c.left.result.now ≡ length r.left = ap length left in
    let day : day_fault (version_of r.taken) r.taken ≡ None =
    ap (λ (x : Reading). day_fault (version_of x.taken) x.taken) (sym c.self.view_is)
    ∙ no-error _ c.end.result c.in_default.not-Err c.end.ensures in
    let none = subst (λ (b : Bool). HasMore (g.R.Read.remaining c.args.input.now) (g.R.Read.remaining
    c.read_more.new.input) r c.read_more.new.self b) c.if-has_more.false c.in-Ok.ensures in
    ends _ _ r c.read_more.new.self Over none.0 none.1 none.2
    (subst (λ (x : Reading). Says x.read (kept_in x.yielded) Over) (sym none.0)
    (over-says r c.requires.front.behind is (front-end r.left c.requires.front)
    (omega (arith, long, c.if-left-gt16.false)) day c.requires.whole))
