use Rattle.fix_stamp.specs.Stamp.{stamp_text}
use Rattle.fix_stamp.proofs.Stamps.{stamp_text-inside}
use Rattle.fix_stamp.proofs.moment.stamp.Goals as goal

pub returns-clause-text : goal.returns-clause-text
unfolding stamp_text
returns-clause-text c = cc

pub returns-clause-value : goal.returns-clause-value
returns-clause-value c = stamp_text-inside c.args.ms
