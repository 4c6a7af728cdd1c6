use Rattle.std.proofs.Common.{◌≡◌, ◌≤◌, ◌++◌, List, ℕ, Some, length, sym, ap, subst, ◌∙◌, rules}
use Rattle.std.specs.Prelude.{min}
use Rattle.journal_pages.specs.declared.version.Version.TheVariants.{Two}
use Rattle.journal_file.specs.Endings.{torn_limit}
use Rattle.journal_file.specs.File.{front_fault}
use Rattle.journal_file.specs.declared.fault.FileFault.TheVariants as whys
use Rattle.journal_file.specs.declared.read_fault.ReadFault.TheVariants.{NoFile}
use Rattle.journal_file.specs.Reader.{Reading}
use Rattle.journal_file.specs.Said.{IsNoFile}
use Rattle.journal_file.proofs.Streaming.{damaged, refused-here, seen-pages, sum-stays}
use Rattle.journal_file.proofs.reader.DayReader.broken.Goals as goal

pub returns-then-left-ge-TORN_LIMIT : goal.returns-then-left-ge-TORN_LIMIT
returns-then-left-ge-TORN_LIMIT g c =
    let r : Reading = c.args.self.now in
    let is = seen-pages r _ _ _ _ _ _ c.self.view_is c.requires.pages c.self.invariant in
    let left : c.left.result.now ≡ r.left = c.left.ensures ∙ ap (λ (x : Reading). x.left) c.self.view_is in
    let count : min (length r.taken) 4_294_967_295 ≡ c.count.result =
    ap (λ (x : Reading). min (length x.taken) 4_294_967_295) (sym c.self.view_is) ∙ sym c.count.ensures in
    let sum : c.args.fault ≡ whys.Sum = search rules in
    let why : (more : List ℕ) → front_fault Two (r.left ++ more) ≡ Some c.args.fault =
    λ more. sum-stays r.left more (c.requires.front ∙ ap Some sum) ∙ ap Some (sym sum) in
    refused-here _ r (NoFile c.count.result c.args.fault)
    (subst (λ (n : ℕ). (more : List ℕ) → IsNoFile (r.read ++ more) n c.args.fault) count
    (damaged r.read r.left r.taken r.held r.yielded is c.args.fault why
    (subst (λ (l : List ℕ). torn_limit ≤ length l) left c.if-left-ge-TORN_LIMIT.true)))
