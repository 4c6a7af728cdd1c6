use Rattle.fix_fields.proofs.TagPlaces.{front_there, soh_there}
use Rattle.fix_fields.proofs.known.known_front.Goals as goal

pub next_soh-end-requires : goal.next_soh-end-requires
next_soh-end-requires c = soh_there c.args.text.now c.args.at c.known_tag-place.result c.known_tag-place.ensures
    c.requires

pub returns : goal.returns
returns c =
    let there = soh_there c.args.text.now c.args.at c.known_tag-place.result c.known_tag-place.ensures c.requires in
    front_there c.args.text.now c.args.at c.next_soh-end.result c.known_tag-place.result c.known_tag-place.ensures
    (rw c.next_soh-end.ensures there) c.next_soh-end.ensures
