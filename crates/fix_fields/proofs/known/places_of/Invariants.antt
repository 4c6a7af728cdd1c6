use Rattle.std.proofs.Common.{vec_capacity, ◌≡◌, ◌-◌, ◌≤◌, length, take, true}
use Rattle.std.specs.List.{list_all}
use Rattle.fix_fields.specs.Field.{AreFields, fields_text}
use Rattle.fix_fields.specs.Spans.{fields_at, is_within}
use Rattle.fix_fields.proofs.Ending.{HasRoom}
use Rattle.fix_fields.proofs.Splitting.{Remaining}
use Rattle.fix_fields.proofs.known.places_of.Given as goal

abbrev pub invariant-loop-at : goal.invariant-loop-at
invariant-loop-at l = record {
  within : l.at ≤ length l.text;
  places : list_all (is_within (length l.text)) l.spans.items ≡ true;
  fields : AreFields (fields_at l.text l.spans.items);
  spelled : fields_text (fields_at l.text l.spans.items) ≡ take l.at l.text;
  remaining : Remaining l.text l.at;
  room : HasRoom l.text l.at l.spans.items (vec_capacity l.spans);
}

abbrev pub decreases-loop-at : goal.decreases-loop-at
decreases-loop-at l = length l.text - l.at
