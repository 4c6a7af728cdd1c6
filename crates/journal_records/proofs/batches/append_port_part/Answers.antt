use Rattle.std.proofs.Common.{List, ℕ, ◌++◌, ◌∷◌, [], ap, ◌∙◌, sym, subst}
use Rattle.std.specs.Prelude.{map}
use Rattle.gate_law.specs.Events.{Batch}
use Rattle.gate_events.specs.declared.batch.LinkOut.{LinkOut}
use Rattle.gate_events.specs.Seen.{batch_seen, link_out_seen}
use Rattle.journal_pages.specs.declared.kind.RecordKind.TheVariants as kinds
use Rattle.journal_days.specs.Cut.{with_records}
use Rattle.journal_records.specs.Parts.{end_record, fault_records, out_record, port_records}
use Rattle.journal_records.proofs.More.{both-parts, more-both}
use Rattle.journal_records.proofs.Behind.{first-writable, later-writable}
use Rattle.journal_pages.specs.Ordered.{AreWritable}
use Rattle.journal_records.proofs.batches.append_port_part.Goals as goal

pub returns-in_err-append_ending-clause-kept : goal.returns-in_err-append_ending-clause-kept
returns-in_err-append_ending-clause-kept c =
    more-both c.args.out.now c.append_outs.new.out c.append_ending.new.out c.in_ok-append_outs.ensures.kept
    c.in_err-append_ending.ensures.kept

pub returns-clause-kept : goal.returns-clause-kept
returns-clause-kept c =
    more-both c.args.out.now c.append_outs.new.out c.append_ending.new.out c.in_ok-append_outs.ensures.kept
    c.in_ok-append_ending.ensures.kept

pub returns-clause-ok : goal.returns-clause-ok
returns-clause-ok c =
    let out : List (List ℕ) = c.args.out.now in
    let b : Batch = batch_seen c.args.batch.now in
    let n : ℕ = c.port_of-port.result in
    let at : ℕ = c.args.at in
    both-parts out c.append_outs.new.out c.append_ending.new.out
    (map (out_record kinds.PortWrite kinds.PortClose at n) (map link_out_seen c.as_slice.result.now))
    (fault_records at n b.fault ++ end_record at ∷ [])
    c.in_ok-append_outs.ensures.ok c.in_ok-append_ending.ensures.ok
    ∙ ap (λ (os : List LinkOut). with_records out (port_records at n (map link_out_seen os) b.fault))
    c.as_slice.ensures.value
    ∙ ap (λ m. with_records out (port_records at m b.port_out b.fault)) c.port_of-port.ensures

pub append_outs-requires : goal.append_outs-requires
append_outs-requires c =
    let b : Batch = batch_seen c.args.batch.now in
    let n : ℕ = c.port_of-port.result in
    let at : ℕ = c.args.at in
    subst (λ (os : List LinkOut).
    AreWritable (map (out_record kinds.PortWrite kinds.PortClose at n) (map link_out_seen os)))
    (sym c.as_slice.ensures.value)
    (subst (λ m. AreWritable (map (out_record kinds.PortWrite kinds.PortClose at m) b.port_out))
    (sym c.port_of-port.ensures) (first-writable _ _ c.requires))

pub append_ending-requires : goal.append_ending-requires
append_ending-requires c =
    let b : Batch = batch_seen c.args.batch.now in
    let at : ℕ = c.args.at in
    subst (λ m. AreWritable (fault_records at m b.fault ++ end_record at ∷ [])) (sym c.port_of-port.ensures)
    (later-writable _ _ c.requires)
