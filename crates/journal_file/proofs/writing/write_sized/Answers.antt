use Rattle.std.proofs.Common.{ap, ◌∙◌}
use Rattle.std.specs.Int.{w64, to_be_bytes}
use Rattle.journal_file.proofs.Grown.{page-written}
use Rattle.journal_file.proofs.writing.write_sized.Goals as goal

pub returns : goal.returns
returns g c =
    page-written _ _ _ _ c.to_be_bytes-size.result c.to_be_bytes.result c.args.page.now c.to_be_bytes-size.ensures
    (c.to_be_bytes.ensures ∙ ap (to_be_bytes w64) c.sum_of.ensures) c.in_ok-write_all.ensures.bytes
    c.in_ok-write_all-2.ensures.bytes c.in_ok-write_all-3.ensures.bytes
