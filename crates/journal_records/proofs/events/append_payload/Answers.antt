use Rattle.std.proofs.Common.{List, ℕ, ap, ◌∙◌}
use Rattle.std.proofs.lemmas.Result.{on_ok_weaker}
use Rattle.journal_pages.specs.Record.{Record}
use Rattle.journal_pages.specs.Seen.{record_of}
use Rattle.journal_days.specs.Cut.{record_text, with_text}
use Rattle.journal_records.proofs.events.append_payload.Goals as goal

pub returns-clause-ok : goal.returns-clause-ok
returns-clause-ok c =
    let out : List (List ℕ) = c.args.out.now in
    on_ok_weaker c.append_writable.result
    (λ e. e ∙ ap (λ (p : List ℕ). with_text out (record_text (record_of c.event_head-head.result p))) c.requires.payload
    ∙ ap (λ (r : Record). with_text out (record_text r)) c.event_head-head.ensures)
    c.append_writable.ensures.ok
