use Rattle.std.proofs.Common.{◌≡◌, ◌∙◌, ap, ℕ}
use Rattle.link_io.specs.Events as law
use Rattle.link_decoders.specs.Decoding.{AreAllOfFrames, FramesOfLink, MadeOfFrames}
use Rattle.gate_workers.proofs.Run.{read-of, whole_link}
use Rattle.gate_workers.proofs.reader.client_reader.Goals as goal

pub returns-clause-reads : goal.returns-clause-reads
returns-clause-reads g c =
    whole_link MadeOfFrames AreAllOfFrames (λ (f : FramesOfLink). (f.client ≡ c.args.client) × (f.link ≡ c.args.link))
    (law.ClientUp c.args.client c.args.link) (law.ClientGone c.args.client c.args.link)
    c.read_all-end.result c.now_ms-at.result c.now_ms-at-2.result c.new-reader.result _ _ _ _ _ _ _ _ _
    _ _ _ c.new-reader.ensures.begins c.new-reader.ensures.fresh c.now_ms-at.ensures.tells c.put.ensures.put
    c.put.ensures.silent
    (read-of MadeOfFrames AreAllOfFrames _ _ c.read_all-end.result c.new-reader.result _ _ _ _ _ _
    (λ (f : FramesOfLink) e. (
      ap (λ (p : ℕ × ℕ). p.0) e ∙ c.new-reader.ensures.source.0,
      ap (λ (p : ℕ × ℕ). p.1) e
          ∙ c.new-reader.ensures.source.1,
    )) c.read_all-end.ensures.reads)
    c.now_ms-at-2.ensures.tells c.put-2.ensures.put c.put-2.ensures.silent
