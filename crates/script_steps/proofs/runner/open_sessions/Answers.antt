use Rattle.std.proofs.Common.{◌++◌}
use Rattle.script_lines.specs.declared.client.Client.TheVariants as client
use Rattle.script_lines.specs.declared.port.Port.TheVariants as port
use Rattle.script_steps.specs.Standing.{IsStep, RunSoFar, logs_in_lines, logs_on_lines}
use Rattle.script_steps.proofs.Stepping.{folds-append}
use Rattle.script_steps.proofs.runner.open_sessions.Goals as goal

pub returns : goal.returns
returns g c =
    let cold : RunSoFar = record { runner = c.args.runner.now; kept = c.args.kept.now } in
    let first : RunSoFar = record { runner = c.log_on.new.runner; kept = c.log_on.new.kept } in
    let second : RunSoFar = record { runner = c.log_on-2.new.runner; kept = c.log_on-2.new.kept } in
    let third : RunSoFar = record { runner = c.log_on-3.new.runner; kept = c.log_on-3.new.kept } in
    let fourth : RunSoFar = record { runner = c.log_in.new.runner; kept = c.log_in.new.kept } in
    let warm : RunSoFar = record { runner = c.log_in-2.new.runner; kept = c.log_in-2.new.kept } in
    let ports = folds-append IsStep third (logs_in_lines port.First) fourth
    (logs_in_lines port.Second) warm c.in_ok-log_in.ensures c.in_ok-log_in-2.ensures in
    let from_third = folds-append IsStep second (logs_on_lines client.Third) third
    (logs_in_lines port.First ++ logs_in_lines port.Second) warm c.in_ok-log_on-3.ensures ports in
    let from_second = folds-append IsStep first (logs_on_lines client.Second) second
    (logs_on_lines client.Third ++ (logs_in_lines port.First ++ logs_in_lines port.Second)) warm
    c.in_ok-log_on-2.ensures from_third in
    folds-append IsStep cold (logs_on_lines client.First) first
    (logs_on_lines client.Second ++ (logs_on_lines client.Third
    ++ (logs_in_lines port.First ++ logs_in_lines port.Second))) warm c.in_ok-log_on.ensures from_second
