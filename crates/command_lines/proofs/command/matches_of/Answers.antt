use Rattle.command_lines.proofs.Parsing.{found-by, refused-by}
use Rattle.command_lines.proofs.command.matches_of.Goals as goal

pub returns-clause-found : goal.returns-clause-found
returns-clause-found g c = found-by _ _ _ c.in_ok-command.ensures c.try_get_matches_from.ensures.matches

pub returns-clause-refused : goal.returns-clause-refused
returns-clause-refused g c = refused-by _ _ _ c.in_ok-command.ensures c.try_get_matches_from.ensures.kinds
