use Rattle.std.proofs.Common.{sym, ap, ◌∙◌}
use Rattle.std.specs.Int.{w32, to_be_bytes}
use Rattle.journal_pages.specs.Seen.{record_of}
use Rattle.journal_pages.proofs.Put.{head-put}
use Rattle.journal_pages.proofs.head.RecordHead.bytes.Goals as goal

pub returns : goal.returns
returns c = λ payload size.
    head-put (record_of c.args.self.now payload) c.number-kind.result c.to_be_bytes-source.result
    c.to_be_bytes-link.result c.to_be_bytes-at.result c.to_be_bytes-length.result
    c.number-kind.ensures c.to_be_bytes-source.ensures c.to_be_bytes-link.ensures c.to_be_bytes-at.ensures
    (c.to_be_bytes-length.ensures ∙ ap (to_be_bytes w32) (sym size))
