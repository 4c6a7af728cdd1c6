use Rattle.std.proofs.Common.{ℕ, [], length, arith, length-append}
use Rattle.std.specs.List.{flat_map}
use Rattle.std.proofs.lemmas.List.{at_drop_more}
use Rattle.ouch_codec.proofs.field.put_fields.Goals as goal

pub put_at-requires : goal.put_at-requires
put_at-requires c =
    let next = at_drop_more (λ fields. length (flat_map (λ field. field.now) fields)) c.args.fields.now
    c.loop-field.field-index (record { ref_ptr = (0, 0); now = [] }) (omega arith) in
    omega (arith, next, length-append {A = ℕ})
