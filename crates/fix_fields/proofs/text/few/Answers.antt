use Rattle.fix_fields.proofs.text.few.Goals as goal

pub returns-clause-there : goal.returns-clause-there
returns-clause-there c = c.requires
