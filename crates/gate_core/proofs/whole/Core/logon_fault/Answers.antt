use Rattle.gate_law.specs.After.{lists}
use Rattle.gate_core.proofs.Fields.{fields-of}
use Rattle.gate_core.proofs.Naming.{parts-of}
use Rattle.gate_core.proofs.whole.Core.logon_fault.Goals as goal

pub returns : goal.returns
returns g c s before is = c.logon_fault.ensures s (lists s before)
    (parts-of s before _ (fields-of s before (record { parts = c.self.inside.parts; events = c.self.inside.events }) _
    c.args.self.now c.self.view_is is))
