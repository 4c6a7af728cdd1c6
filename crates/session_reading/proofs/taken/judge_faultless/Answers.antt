use Rattle.session_reading.proofs.taken.judge_faultless.Goals as goal

pub returns-then-is_app_type-clause-fits : goal.returns-then-is_app_type-clause-fits
returns-then-is_app_type-clause-fits c = c.judge_application.ensures.fits c.args.last
