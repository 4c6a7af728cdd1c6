use Rattle.gateway_run.proofs.running.run_shown.Given as goal

-- the rings of the parts
abbrev pub ghosts-run_desk : goal.ghosts-run_desk
ghosts-run_desk g a = record { inlets = a.parts.inlets; outlets = a.parts.outlets }
