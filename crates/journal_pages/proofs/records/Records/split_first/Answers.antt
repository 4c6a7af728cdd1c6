use Rattle.std.proofs.Common.{List, ℕ, ◌∷◌, sym, ap, ◌∙◌, arith}
use Rattle.journal_pages.specs.Record.{records_in}
use Rattle.journal_pages.specs.Seen.{record_seen}
use Rattle.journal_pages.proofs.Listed.{no-more, one-more}
use Rattle.journal_pages.proofs.records.Records.split_first.Goals as goal

pub overflow_add-size : goal.overflow_add-size
overflow_add-size c = let few = c.in-Ok.ensures.within in omega (arith, few)

pub split_at-requires : goal.split_at-requires
split_at-requires c = let few = c.in-Ok.ensures.within in omega (arith, few)

pub returns-in-Ok : goal.returns-in-Ok
returns-in-Ok c =
    one-more c.args.self.rest.now (record_seen c.in-Ok.first) c.in-Ok.ensures.front
    ∙ ap (λ (l : List ℕ). record_seen c.in-Ok.first ∷ records_in l) (sym c.split_at.ensures.back)

pub returns-in-Err : goal.returns-in-Err
returns-in-Err c = no-more c.args.self.rest.now _ c.in-Err.ensures.front
