use Rattle.gate_cases.proofs.desks.steps.show_steps.Given as goal

-- the rings of the parts
abbrev pub ghosts-run_steps : goal.ghosts-run_steps
ghosts-run_steps g a = record { inlets = a.parts.inlets; outlets = a.parts.outlets }
