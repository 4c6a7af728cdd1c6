-- The command line of `gateway`: `audit --script FILE` or `audit --journal FILE --settings FILE [--so-far]`, `journal
-- --script FILE`, `run --settings FILE [--links N] [--journal FILE] [--sync WHEN]`, `serve --settings FILE [--journal
-- FILE] [--sync WHEN]`, `end --settings FILE [--now] [--journal FILE]`, `export --journal FILE [--format FORMAT]`,
-- `demo [--serve]`, `world --seed N --steps K [--clients C] [--ports P]`, and nothing else but a call for help or
-- `--version`.
use Rattle.std.specs.Prelude.{ℕ, Bool, true, false, List, Option, Some, None, codes, if◌then◌else◌, option_and_then}
use Rattle.std.specs.Prelude.{option_map, nat_le, ◌&&◌, ◌==◌, ◌-◌, length, not, take, drop}
use Rattle.std.specs.Char.{is_ascii_digit}
use Rattle.std.specs.List.{list_all}
use Rattle.std.specs.Str.{bytes_eq}
use Rattle.wire_bytes.specs.Digits.{number_of}
use Rattle.clap.specs.Simple.{new_shape}
use Rattle.clap.specs.Words.{App, Row, Rule, Text, Kinds, fault_of, first_of, new_app, new_rule, subcommand_of}
use Rattle.clap.specs.Words.{with_rule, with_subcommand}
use Rattle.clap.specs.declared.builder.action.ArgAction.TheVariants.{Set, SetTrue}
use Rattle.command_lines.specs.declared.asking.Syncs.{Syncs}
use Rattle.command_lines.specs.declared.asking.Syncs.TheVariants.{Each, Every, Never}
use Rattle.clap.specs.declared.error.kind.ErrorKind.{ErrorKind}
use Rattle.clap.specs.declared.error.kind.ErrorKind.TheVariants as kinds

-- an option with a value, as `--script FILE`
abbrev pub value_rule : Text → Rule
value_rule name = record (new_rule name) {
  long = Some name;
  action = Some Set;
  value_names = 1;
}

-- the same, where it has to be given
abbrev pub required_rule : Text → Rule
required_rule name = record (value_rule name) { required = true }

-- an option that is given or not, as `--now`
abbrev pub flag_rule : Text → Rule
flag_rule name = record (new_rule name) { long = Some name; action = Some SetTrue }

-- `audit --script FILE`, or `audit --journal FILE --settings FILE [--so-far]`
abbrev pub audit : App
audit =
    with_rule
    (with_rule
    (with_rule (with_rule (new_app (codes "audit")) (value_rule (codes "script"))) (value_rule (codes "journal")))
    (value_rule (codes "settings")))
    (flag_rule (codes "so-far"))

-- `journal --script FILE`
abbrev pub journal : App
journal = with_rule (new_app (codes "journal")) (required_rule (codes "script"))

-- `run --settings FILE [--links N] [--journal FILE] [--sync WHEN]`
abbrev pub runs : App
runs =
    with_rule
    (with_rule
    (with_rule (with_rule (new_app (codes "run")) (required_rule (codes "settings"))) (value_rule (codes "links")))
    (value_rule (codes "journal")))
    (value_rule (codes "sync"))

-- `serve --settings FILE [--journal FILE] [--sync WHEN]`
abbrev pub serves : App
serves =
    with_rule
    (with_rule (with_rule (new_app (codes "serve")) (required_rule (codes "settings"))) (value_rule (codes "journal")))
    (value_rule (codes "sync"))

-- `end --settings FILE [--now] [--journal FILE]`
abbrev pub ends : App
ends =
    with_rule
    (with_rule (with_rule (new_app (codes "end")) (required_rule (codes "settings"))) (flag_rule (codes "now")))
    (value_rule (codes "journal"))

-- `export --journal FILE [--format NAME]`
abbrev pub exports : App
exports =
    with_rule (with_rule (new_app (codes "export")) (required_rule (codes "journal"))) (value_rule (codes "format"))

-- `demo [--serve]`
abbrev pub demo : App
demo = with_rule (new_app (codes "demo")) (flag_rule (codes "serve"))

-- `world --seed N --steps K [--clients C] [--ports P]`
abbrev pub world : App
world =
    with_rule
    (with_rule
    (with_rule (with_rule (new_app (codes "world")) (required_rule (codes "seed"))) (required_rule (codes "steps")))
    (value_rule (codes "clients")))
    (value_rule (codes "ports"))

-- `gateway`, which nothing may follow but a subcommand, or `--version`; alone it asks for help
abbrev pub alone : App
alone = record (new_app (codes "gateway")) {
  top = record
      (new_shape (codes "gateway")) { subcommand_required = true; arg_required_else_help = true; has_version = true };
}

-- a command with a subcommand more
abbrev pub with_command : App → App → App
with_command command more = with_subcommand command more.top

-- `gateway` with its subcommands
abbrev pub gateway : App
gateway =
    with_command
    (with_command
    (with_command
    (with_command (with_command (with_command (with_command (with_command alone runs) serves) ends) demo) audit)
    exports)
    journal)
    world

-- the subcommand that `clap` finds in the words of a command line, with its arguments, and why it refuses them
unfoldable pub gateway_found : List Text → Option (Text × List Row)
gateway_found words = subcommand_of gateway words

unfoldable pub gateway_faults : List Text → Kinds
gateway_faults words = fault_of gateway words

-- what a command line asks for: the audit of a script's file; that of the day in a journal's file, by the settings in a
-- file, be it over alone or so far; the day of a script's file as a journal; a gateway by the settings in a file, with
-- so many links, or until it is told to end, and a file for its journal, which is synced at such moments; the end of
-- the gateway that is served by the settings in a file, at once or not; the end of a stopped day in a journal's file,
-- by the settings in a file; the messages of a journal's file, in a format; the demonstration, or one that is served
-- until it is told to end; or the closed world of a seed, with so many steps, clients and ports
pub data Asking : Type 0 where
  Audits : (script : Text) → Asking
  AuditsDay : (journal : Text) (settings : Text) (so_far : Bool) → Asking
  Keeps : (script : Text) → Asking
  Runs : (settings : Text) (links : Option Text) (journal : Option Text) (sync : Option Text) → Asking
  Serves : (settings : Text) (journal : Option Text) (sync : Option Text) → Asking
  Ends : (settings : Text) (at_once : Bool) → Asking
  EndsDay : (journal : Text) (settings : Text) → Asking
  Exports : (journal : Text) (format : Option Text) → Asking
  Demonstrates : Asking
  ServesDemonstration : Asking
  Plays : (seed steps : Text) (clients ports : Option Text) → Asking

-- a flag is given
abbrev pub is_said : Option Text → Bool
is_said None = false
is_said (Some text) = bytes_eq text (codes "true")

-- What a subcommand asks for, by its name and its arguments. An audit is of a script alone, or of a journal with its
-- settings; of anything else it is none.
abbrev pub lone_asked : Text → Bool → Option Asking
lone_asked script true = None
lone_asked script false = Some (Audits script)

abbrev pub bare_asked : Text → Option Text → Bool → Option Asking
bare_asked script None so_far = lone_asked script so_far
bare_asked script (Some _) so_far = None

abbrev pub journal_asked : Text → List Row → Option Asking
journal_asked journal rows = option_map
    (λ (settings : Text). AuditsDay journal settings (is_said (first_of (codes "so-far") rows)))
    (first_of (codes "settings") rows)

abbrev pub script_asked : Text → Option Text → List Row → Option Asking
script_asked script None rows =
    bare_asked script (first_of (codes "settings") rows) (is_said (first_of (codes "so-far") rows))
script_asked script (Some _) rows = None

abbrev pub day_asked : Option Text → List Row → Option Asking
day_asked None rows = None
day_asked (Some journal) rows = journal_asked journal rows

abbrev pub audit_of : Option Text → Option Text → List Row → Option Asking
audit_of None journal rows = day_asked journal rows
audit_of (Some script) journal rows = script_asked script journal rows

abbrev pub audit_asked : List Row → Option Asking
audit_asked rows = audit_of (first_of (codes "script") rows) (first_of (codes "journal") rows) rows

abbrev pub keep_asked : List Row → Option Asking
keep_asked rows = option_map Keeps (first_of (codes "script") rows)

abbrev pub run_asked : List Row → Option Asking
run_asked rows = option_map
    (λ (file : Text).
    Runs file (first_of (codes "links") rows) (first_of (codes "journal") rows) (first_of (codes "sync") rows))
    (first_of (codes "settings") rows)

abbrev pub serve_asked : List Row → Option Asking
serve_asked rows = option_map
    (λ (file : Text). Serves file (first_of (codes "journal") rows) (first_of (codes "sync") rows))
    (first_of (codes "settings") rows)

abbrev pub end_by : Text → Option Text → List Row → Option Asking
end_by settings None rows = Some (Ends settings (is_said (first_of (codes "now") rows)))
end_by settings (Some journal) rows = Some (EndsDay journal settings)

abbrev pub end_in : Option Text → List Row → Option Asking
end_in None rows = None
end_in (Some settings) rows = end_by settings (first_of (codes "journal") rows) rows

abbrev pub end_asked : List Row → Option Asking
end_asked rows = end_in (first_of (codes "settings") rows) rows

abbrev pub demo_asked : List Row → Option Asking
demo_asked rows = if is_said (first_of (codes "serve") rows) then Some ServesDemonstration else Some Demonstrates

abbrev pub export_asked : List Row → Option Asking
export_asked rows =
    option_map (λ (file : Text). Exports file (first_of (codes "format") rows)) (first_of (codes "journal") rows)

abbrev pub steps_asked : Text → List Row → Option Asking
steps_asked seed rows = option_map
    (λ (steps : Text). Plays seed steps (first_of (codes "clients") rows) (first_of (codes "ports") rows))
    (first_of (codes "steps") rows)

abbrev pub with_seed_asked : Option Text → List Row → Option Asking
with_seed_asked None rows = None
with_seed_asked (Some seed) rows = steps_asked seed rows

abbrev pub world_asked : List Row → Option Asking
world_asked rows = with_seed_asked (first_of (codes "seed") rows) rows

unfoldable pub asking_of : Text → List Row → Option Asking
asking_of name rows =
    if bytes_eq name (codes "audit") then audit_asked rows
    else if bytes_eq name (codes "journal") then keep_asked rows
    else if bytes_eq name (codes "run") then run_asked rows
    else if bytes_eq name (codes "serve") then serve_asked rows
    else if bytes_eq name (codes "end") then end_asked rows
    else if bytes_eq name (codes "demo") then demo_asked rows
    else if bytes_eq name (codes "export") then export_asked rows
    else if bytes_eq name (codes "world") then world_asked rows
    else None

abbrev pub asked_in : Option (Text × List Row) → Option Asking
asked_in = option_and_then (λ p. asking_of p.0 p.1)

-- what the words ask for
abbrev pub asked_of : List Text → Option Asking
asked_of words = asked_in (gateway_found words)

-- the version is asked for
abbrev pub is_version : ErrorKind → Bool
is_version kinds.DisplayVersion = true
is_version other = false

-- how many links of each client are served: digits, for 1 to 1,000; 1 where nothing is said
abbrev pub links_in : Text → Option ℕ
links_in digits =
    if list_all is_ascii_digit digits && nat_le 1 (number_of digits)
    && nat_le (number_of digits) 1000 then Some (number_of digits) else None

unfoldable pub links_of : Option Text → Option ℕ
links_of None = Some 1
links_of (Some digits) = links_in digits

-- a number that was said: digits, one at least, for one from the least to the most
abbrev pub number_between : ℕ → ℕ → Text → Option ℕ
number_between least most digits =
    if not (length digits == 0) && list_all is_ascii_digit digits && nat_le least (number_of digits)
    && nat_le (number_of digits) most then Some (number_of digits) else None

-- when a journal is synced: with each write, where nothing is said; each so many milliseconds, for 1 to 60,000; or
-- never
abbrev pub every_of : Text → Option Syncs
every_of digits = option_map Every (number_between 1 60000 digits)

abbrev pub every_in : Text → Option Syncs
every_in text =
    if bytes_eq (drop (length text - 2) text) (codes "ms") then every_of (take (length text - 2) text) else None

abbrev pub syncs_in : Text → Option Syncs
syncs_in text =
    if bytes_eq text (codes "each") then Some Each
    else if bytes_eq text (codes "never") then Some Never
    else every_in text

unfoldable pub syncs_of : Option Text → Option Syncs
syncs_of None = Some Each
syncs_of (Some text) = syncs_in text
