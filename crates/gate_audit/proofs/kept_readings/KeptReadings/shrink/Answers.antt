use Rattle.gate_audit.proofs.Keeping.{kept-same}
use Rattle.gate_audit.proofs.kept_readings.KeptReadings.shrink.Goals as goal

pub returns : goal.returns
returns c = λ all are. kept-same all c.args.self.now (record { readings = c.shrink_to_fit.new.self })
    c.shrink_to_fit.ensures.entries.2 are
