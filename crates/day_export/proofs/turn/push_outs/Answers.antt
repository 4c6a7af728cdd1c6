use Rattle.std.proofs.Common.{◌≡◌, List, ℕ, ◌++◌, OnOk, subst, sym}
use Rattle.gate_events.specs.Seen.{link_out_seen}
use Rattle.day_export.specs.Rows.{out_row}
use Rattle.day_export.proofs.Turns.{flat_map-map}
use Rattle.day_export.proofs.turn.push_outs.Goals as goal

pub returns : goal.returns
returns c =
    subst (λ (t : List ℕ). OnOk c.push_each.result (c.push_each.new.text.items ≡ c.args.text.now.items ++ t))
    (sym (flat_map-map (out_row c.args.format c.args.head) link_out_seen c.args.outs.now)) c.push_each.ensures
