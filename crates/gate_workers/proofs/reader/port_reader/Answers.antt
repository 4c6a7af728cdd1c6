use Rattle.std.proofs.Common.{◌≡◌, ◌∙◌, ap, ℕ}
use Rattle.link_io.specs.Events as law
use Rattle.link_decoders.specs.Decoding.{AreAllOfPackets, PacketsOfLink, MadeOfPackets}
use Rattle.gate_workers.proofs.Run.{read-of, whole_link}
use Rattle.gate_workers.proofs.reader.port_reader.Goals as goal

pub returns-clause-reads : goal.returns-clause-reads
returns-clause-reads g c =
    whole_link MadeOfPackets AreAllOfPackets (λ (f : PacketsOfLink). (f.port ≡ c.args.port) × (f.link ≡ c.args.link))
    (law.PortUp c.args.port c.args.link) (law.PortGone c.args.port c.args.link)
    c.read_all-end.result c.now_ms-at.result c.now_ms-at-2.result c.new-reader.result _ _ _ _ _ _ _ _ _
    _ _ _ c.new-reader.ensures.begins c.new-reader.ensures.fresh c.now_ms-at.ensures.tells c.put.ensures.put
    c.put.ensures.silent
    (read-of MadeOfPackets AreAllOfPackets _ _ c.read_all-end.result c.new-reader.result _ _ _ _ _ _
    (λ (f : PacketsOfLink) e. (
      ap (λ (p : ℕ × ℕ). p.0) e ∙ c.new-reader.ensures.source.0,
      ap (λ (p : ℕ × ℕ). p.1) e
          ∙ c.new-reader.ensures.source.1,
    )) c.read_all-end.ensures.reads)
    c.now_ms-at-2.ensures.tells c.put-2.ensures.put c.put-2.ensures.silent
