use Rattle.std.proofs.Common.{◌≤◌, length, rules}
use Rattle.settings_file.proofs.Served.{what_is_not_refused_is_served}
use Rattle.settings_file.proofs.reading.read.Goals as goal

pub returns-in-Ok-clause-law : goal.returns-in-Ok-clause-law
returns-in-Ok-clause-law c = what_is_not_refused_is_served

pub returns-in-None-clause-law : goal.returns-in-None-clause-law
returns-in-None-clause-law c = what_is_not_refused_is_served

pub returns-in-Some-clause-law : goal.returns-in-Some-clause-law
returns-in-Some-clause-law c = what_is_not_refused_is_served

pub returns-in-Some-clause-toml : goal.returns-in-Some-clause-toml
returns-in-Some-clause-toml c =
    let place = c.in-Some.span.start in
    let within : place ≤ length c.args.text.now = search rules in
    λ no. (place, within, c.line_at.ensures)
