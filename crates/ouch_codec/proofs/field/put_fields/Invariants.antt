use Rattle.std.proofs.Common.{◌≡◌, ◌+◌, length, take, drop}
use Rattle.std.specs.List.{flat_map}
use Rattle.ouch_codec.proofs.field.put_fields.Given as goal

abbrev pub invariant-loop-field : goal.invariant-loop-field
invariant-loop-field l = record {
  room : l.at + length (flat_map (λ field. field.now) (drop l.field-index l.fields)) ≡ length l.out;
  written : take l.at l.out ≡ flat_map (λ field. field.now) (take l.field-index l.fields);
}
