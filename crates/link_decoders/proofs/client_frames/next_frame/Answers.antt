use Rattle.link_decoders.proofs.Framing.{next_given, next_malformed}
use Rattle.link_decoders.proofs.client_frames.next_frame.Goals as goal

pub returns-in-Ok : goal.returns-in-Ok
returns-in-Ok c = next_given c.in-Ok.fields c.args.framer.now c.next.new.self c.in-Ok.ensures

pub returns-in-Err-TooLong : goal.returns-in-Err-TooLong
returns-in-Err-TooLong c =
    next_malformed c.args.framer.now c.next.new.self (rw c.in-Err-TooLong.field-0-is at c.in-Err-TooLong.ensures)
