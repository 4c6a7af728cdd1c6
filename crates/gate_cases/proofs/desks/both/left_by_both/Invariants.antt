use Rattle.gate_cases.proofs.desks.both.left_by_both.Given as goal

-- the rings of the parts
abbrev pub ghosts-left_in : goal.ghosts-left_in
ghosts-left_in g a = record { inlets = a.parts.inlets; outlets = a.parts.outlets }
