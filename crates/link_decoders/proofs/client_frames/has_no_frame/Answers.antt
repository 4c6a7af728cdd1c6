use Rattle.link_decoders.proofs.Framing.{next_idle}
use Rattle.link_decoders.proofs.client_frames.has_no_frame.Goals as goal

pub returns : goal.returns
returns c = λ idle. next_idle c.args.framer.now (c.is_idle.ensures.0 idle)
