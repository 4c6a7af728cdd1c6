use Rattle.gate_cases.proofs.desks.writers.show_writer.Given as goal

-- the rings of the parts
abbrev pub ghosts-run_writer : goal.ghosts-run_writer
ghosts-run_writer g a = record { inlets = a.parts.inlets; outlets = a.parts.outlets }
