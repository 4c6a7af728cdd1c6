use Rattle.std.proofs.Common.{◌≡◌, List, ℕ, [], length, Option, Some, sym, ap, subst, ◌∙◌, arith}
use Rattle.std.specs.Option.{IfSome}
use Rattle.std.specs.Prelude.{unwrap_or}
use Rattle.journal_pages.specs.fix_fields.Field.{Message}
use Rattle.journal_pages.specs.fix_fields.Reading.{fields_of}
use Rattle.journal_pages.proofs.fix_fields.Reading.{fields_of-found}
use Rattle.journal_pages.specs.Seen.{record_seen}
use Rattle.journal_records.proofs.Rows.{frame-of}
use Rattle.journal_records.proofs.reading.frame_of.Goals as goal

pub known-view-requires : goal.known-view-requires
known-view-requires c = (frame-of (record_seen c.args.record.now) c.args.record.now.sound c.requires).fields

pub unwrap-requires : goal.unwrap-requires
unwrap-requires c =
    let payload : List ℕ = c.args.record.now.payload.now in
    let fields : Message = c.in_ok-fields.fields in
    let found : fields_of payload ≡ Some fields = c.known-view.ensures
    ∙ ap (λ (fs : Message). Some fs) (sym c.in_ok-fields.ensures) in
    let text = ap length (fields_of-found payload fields found).spelled in
    let few = (frame-of (record_seen c.args.record.now) c.args.record.now.sound c.requires).few in
    c.of-made.ensures.in_limit.1 (omega (arith, text, few))

pub returns : goal.returns
returns c =
    let payload : List ℕ = c.args.record.now.payload.now in
    let fields : Message = c.in_ok-fields.fields in
    let found : fields_of payload ≡ Some fields = c.known-view.ensures
    ∙ ap (λ (fs : Message). Some fs) (sym c.in_ok-fields.ensures) in
    let made : c.unwrap.result ≡ fields = subst
    (λ (o : Option Message). IfSome o (λ frame. frame ≡ fields)) c.unwrap.ensures c.of-made.ensures.value in
    made ∙ ap (λ (o : Option Message). unwrap_or o []) (sym found)
