use Rattle.std.proofs.Common.{ap, sym, ◌∙◌}
use Rattle.journal_days.specs.Cut.{texts}
use Rattle.journal_log.specs.Since.{bytes_since}
use Rattle.journal_log.proofs.Recent.{all-pieces, since-texts}
use Rattle.journal_log.proofs.pieces.Pieces.since.Goals as goal

pub returns-then-count-eq0 : goal.returns-then-count-eq0
returns-then-count-eq0 c =
    all-pieces (texts c.args.pages.now)
    ∙ ap (λ n. bytes_since n c.args.bytes (texts c.args.pages.now)) (sym c.if-count-eq0.true)

pub returns : goal.returns
returns c =
    since-texts c.args.count c.args.bytes c.args.pages.now c.pages_behind.result.now c.if-count-eq0.false
    c.pages_behind.ensures
