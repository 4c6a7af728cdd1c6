use Rattle.gate_law.specs.Events.{Batch}
use Rattle.gate_events.specs.Seen.{batch_seen}
use Rattle.journal_records.specs.Parts.{client_records, named_number, port_records}
use Rattle.journal_records.proofs.More.{both-parts, more-both}
use Rattle.journal_records.proofs.Behind.{first-writable, later-writable}
use Rattle.journal_records.proofs.batches.append_batch.Goals as goal

pub returns-in_err-append_port_part-clause-kept : goal.returns-in_err-append_port_part-clause-kept
returns-in_err-append_port_part-clause-kept c =
    more-both c.args.out.now c.append_client_part.new.out c.append_port_part.new.out
    c.in_ok-append_client_part.ensures.kept c.in_err-append_port_part.ensures.kept

pub returns-clause-kept : goal.returns-clause-kept
returns-clause-kept c =
    more-both c.args.out.now c.append_client_part.new.out c.append_port_part.new.out
    c.in_ok-append_client_part.ensures.kept c.in_ok-append_port_part.ensures.kept

pub returns-clause-ok : goal.returns-clause-ok
returns-clause-ok c =
    let b : Batch = batch_seen c.args.batch.now in
    both-parts c.args.out.now c.append_client_part.new.out c.append_port_part.new.out
    (client_records c.args.at (named_number b.client) b.reports b.client_out)
    (port_records c.args.at (named_number b.port) b.port_out b.fault)
    c.in_ok-append_client_part.ensures.ok c.in_ok-append_port_part.ensures.ok

pub append_client_part-requires : goal.append_client_part-requires
append_client_part-requires c = first-writable _ _ c.requires

pub append_port_part-requires : goal.append_port_part-requires
append_port_part-requires c =
    let b : Batch = batch_seen c.args.batch.now in
    later-writable (client_records c.args.at (named_number b.client) b.reports b.client_out) _ c.requires
