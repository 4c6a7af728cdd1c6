use Rattle.gate_settings.specs.Seen.{settings_of}
use Rattle.gate_settings.proofs.Served.{clients-named, clients-on_ports}
use Rattle.gate_settings.proofs.settings.Settings.clients.Goals as goal

pub returns-clause-ports : goal.returns-clause-ports
returns-clause-ports c =
    rw (c.as_slice.ensures.value, ← c.self.view_is)
    (clients-on_ports (settings_of c.self.inside.comp c.self.inside.ports.items c.self.inside.clients.items)
    c.self.invariant)

pub returns-clause-names : goal.returns-clause-names
returns-clause-names c =
    rw c.as_slice.ensures.value
    (clients-named (settings_of c.self.inside.comp c.self.inside.ports.items c.self.inside.clients.items)
    c.self.invariant)
