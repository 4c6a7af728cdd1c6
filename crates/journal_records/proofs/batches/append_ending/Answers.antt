use Rattle.std.proofs.Common.{List, ◌∷◌, [], ◌++◌, ◌∙◌}
use Rattle.journal_pages.specs.Record.{Record}
use Rattle.journal_records.specs.Parts.{end_record, fault_records}
use Rattle.journal_records.proofs.More.{both-parts, more-by, more-same}
use Rattle.journal_records.proofs.batches.append_ending.Goals as goal

pub returns-in_err-append_fault-clause-kept : goal.returns-in_err-append_fault-clause-kept
returns-in_err-append_fault-clause-kept c =
    more-same c.args.out.now c.append_fault.new.out c.in_err-append_fault.ensures.err

pub returns-in_err-append_end-clause-kept : goal.returns-in_err-append_end-clause-kept
returns-in_err-append_end-clause-kept c =
    more-by c.args.out.now c.append_end.new.out (fault_records c.args.at c.args.port c.args.fault)
    (c.in_err-append_end.ensures.err ∙ c.in_ok-append_fault.ensures.ok)

pub returns-clause-kept : goal.returns-clause-kept
returns-clause-kept c =
    let fault : List Record = fault_records c.args.at c.args.port c.args.fault in
    more-by c.args.out.now c.append_end.new.out (fault ++ end_record c.args.at ∷ [])
    (both-parts c.args.out.now c.append_fault.new.out c.append_end.new.out fault
    (end_record c.args.at ∷ []) c.in_ok-append_fault.ensures.ok c.in_ok-append_end.ensures.ok)

pub returns-clause-ok : goal.returns-clause-ok
returns-clause-ok c =
    both-parts c.args.out.now c.append_fault.new.out c.append_end.new.out
    (fault_records c.args.at c.args.port c.args.fault) (end_record c.args.at ∷ [])
    c.in_ok-append_fault.ensures.ok c.in_ok-append_end.ensures.ok
