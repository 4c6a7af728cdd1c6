-- What a command line asks for, as contracts see it.
use Rattle.std.specs.Prelude.{option_map}
use Rattle.command_lines.specs.Command.{Asking, Audits, AuditsDay, Demonstrates, Ends, EndsDay, Exports, Keeps}
use Rattle.command_lines.specs.Command.{Plays, Runs, Serves, ServesDemonstration}
use Rattle.command_lines.specs.declared.asking.Asked.{Asked}
use Rattle.command_lines.specs.declared.asking.Asked.TheVariants as asked

unfoldable pub asked_seen : Asked → Asking
asked_seen (asked.Audit script) = Audits script.now
asked_seen (asked.AuditDay journal settings so_far) = AuditsDay journal.now settings.now so_far
asked_seen (asked.Keep script) = Keeps script.now
asked_seen (asked.Run settings links journal sync) = Runs settings.now (option_map (λ text. text.now) links)
    (option_map (λ text. text.now) journal) (option_map (λ text. text.now) sync)
asked_seen (asked.Serve settings journal sync) = Serves settings.now (option_map (λ text. text.now) journal)
    (option_map (λ text. text.now) sync)
asked_seen (asked.End settings at_once) = Ends settings.now at_once
asked_seen (asked.EndDay journal settings) = EndsDay journal.now settings.now
asked_seen (asked.Export journal format) = Exports journal.now (option_map (λ text. text.now) format)
asked_seen asked.Demo = Demonstrates
asked_seen asked.ServedDemo = ServesDemonstration
asked_seen (asked.World seed steps clients ports) = Plays seed.now steps.now (option_map (λ text. text.now) clients)
    (option_map (λ text. text.now) ports)
