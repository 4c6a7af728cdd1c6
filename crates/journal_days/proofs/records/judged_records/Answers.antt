use Rattle.std.proofs.Common.{sym, ap, subst, drop, ◌∙◌}
use Rattle.journal_pages.specs.Judged.{AreRecords}
use Rattle.journal_pages.proofs.Judged.{page-are}
use Rattle.journal_days.proofs.records.judged_records.Goals as goal

pub of_judged-requires : goal.of_judged-requires
of_judged-requires c =
    subst AreRecords
    (sym (c.split_at.ensures.back ∙ ap (λ n. drop n c.args.page.now) c.front_size.ensures))
    (page-are c.args.version c.args.page.now c.requires)
