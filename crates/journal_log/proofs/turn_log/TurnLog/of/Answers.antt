use Rattle.journal_log.proofs.turn_log.TurnLog.of.Goals as goal

pub returns-clause-mark : goal.returns-clause-mark
returns-clause-mark g c = record {
  day = c.mark_of.ensures.mark.day;
  pages = c.mark_of.ensures.mark.pages;
  bytes = c.mark_of.ensures.mark.bytes;
  records = c.mark_of.ensures.mark.records;
}
