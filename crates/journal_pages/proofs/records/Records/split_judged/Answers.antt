use Rattle.std.proofs.Common.{ℕ, List, ◌∷◌, length, sym, ap, subst, ◌∙◌}
use Rattle.journal_pages.specs.Judged.{AreRecords}
use Rattle.journal_pages.specs.Record.{records_in}
use Rattle.journal_pages.specs.Seen.{record_seen}
use Rattle.journal_pages.proofs.Judged.{are-behind, has-first, some-bytes}
use Rattle.journal_pages.proofs.Listed.{one-more}
use Rattle.journal_pages.proofs.records.Records.split_judged.Goals as goal

pub known_front-first-requires : goal.known_front-first-requires
known_front-first-requires c =
    has-first c.args.self.rest.now
    (some-bytes (length c.args.self.rest.now) (sym c.is_empty.ensures ∙ c.if-is_empty.false))
    (c.args.self.judged c.requires)

pub invariant_of-result : goal.invariant_of-result
invariant_of-result c = record {
  judged = λ _. subst AreRecords (sym c.split_at.ensures.back) (are-behind c.args.self.rest.now
      (record_seen c.known_front-first.result) c.known_front-first.ensures.front (c.args.self.judged c.requires));
}

pub returns : goal.returns
returns c =
    one-more c.args.self.rest.now (record_seen c.known_front-first.result) c.known_front-first.ensures.front
    ∙ ap (λ (l : List ℕ). record_seen c.known_front-first.result ∷ records_in l) (sym c.split_at.ensures.back)
