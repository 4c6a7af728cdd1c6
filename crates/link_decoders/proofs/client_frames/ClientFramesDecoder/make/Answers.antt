use Rattle.std.proofs.Common.{rules, ◌≡◌, sym}
use Rattle.link_decoders.proofs.Framing.{makes_frame}
use Rattle.link_decoders.proofs.client_frames.ClientFramesDecoder.make.Goals as goal

pub returns-clause-makes : goal.returns-clause-makes
returns-clause-makes c =
    let same : c.unwrap-frame.result ≡ c.in-Some.fields = search rules in
    makes_frame c.args.self.now (record {
      client = c.self.inside.client;
      link = c.self.inside.link;
      framer =
          c.self.inside.framer;
    }) c.args.at c.next_frame.new.framer
    c.in-Some.fields c.unwrap-frame.result (rw c.in-Some.is at c.in_ok-fields.ensures) (sym c.self.view_is) same
