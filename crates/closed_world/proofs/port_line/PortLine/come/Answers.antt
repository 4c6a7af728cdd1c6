use Rattle.std.proofs.Common.{◌≡◌, ◌∙◌, true, ap, sym}
use Rattle.std.proofs.lemmas.Result.{IfOk-weaker}
use Rattle.std.specs.List.{list_all}
use Rattle.market_law.specs.order_law.ouch_codec.Values.{is_byte}
use Rattle.closed_world.proofs.port_line.PortLine.come.Goals as goal

pub returns : goal.returns
returns c =
    let bytes : list_all is_byte c.args.packet.payload ≡ true = ap (list_all is_byte) (sym c.as_slice.ensures.bytes)
    ∙ c.are_bytes.ensures in
    IfOk-weaker c.comes.result _ _ (λ u made. (made.0, bytes, made.1, made.2)) c.comes.ensures
