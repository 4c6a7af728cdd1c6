-- Computed: what command lines ask for, and which are refused.
use Rattle.std.specs.Prelude.{◌≡◌, refl, true, false, List, [], ◌∷◌, Some, None, codes}
use Rattle.clap.specs.Words.{Text, Kinds}
use Rattle.clap.specs.declared.error.kind.ErrorKind.TheVariants as kind
use Rattle.clap.proofs.OnLiterals.{clap_on_literals}
use Rattle.command_lines.specs.declared.asking.Syncs.TheVariants.{Each, Every, Never}
use Rattle.command_lines.specs.Command.{Asking, Audits, AuditsDay, Demonstrates, Ends, EndsDay, Keeps, Plays, Runs}
use Rattle.command_lines.specs.Command.{Serves, ServesDemonstration, asking_of, asked_of, gateway_found}
use Rattle.command_lines.specs.Command.{gateway_faults, links_of, number_between, syncs_of}

abbrev line : List Text → List Text
line words = codes "gateway" ∷ words

abbrev Asks : List Text → Asking → Type 0
Asks words asking = (asked_of (line words) ≡ Some asking) × (gateway_faults (line words) ≡ [])

-- nothing is asked for, though `clap` refuses nothing
abbrev Vainly : List Text → Type 0
Vainly words = (asked_of (line words) ≡ None) × (gateway_faults (line words) ≡ [])

abbrev Refuses : List Text → Kinds → Type 0
Refuses words kinds = gateway_faults (line words) ≡ kinds

a_script : Asks (codes "audit" ∷ codes "--script" ∷ codes "a.script" ∷ []) (Audits (codes "a.script"))
unfolding clap_on_literals gateway_found gateway_faults asking_of
a_script = (refl, refl)

in_one_word : Asks (codes "audit" ∷ codes "--script=a.script" ∷ []) (Audits (codes "a.script"))
unfolding clap_on_literals gateway_found gateway_faults asking_of
in_one_word = (refl, refl)

a_gateway : Asks (codes "run" ∷ codes "--settings" ∷ codes "a.toml" ∷ []) (Runs (codes "a.toml") None None None)
unfolding clap_on_literals gateway_found gateway_faults asking_of
a_gateway = (refl, refl)

a_gateway_of_two_links : Asks (codes "run" ∷ codes "--links" ∷ codes "2" ∷ codes "--settings" ∷ codes "a.toml" ∷ [])
    (Runs (codes "a.toml") (Some (codes "2")) None None)
unfolding clap_on_literals gateway_found gateway_faults asking_of
a_gateway_of_two_links = (refl, refl)

a_gateway_with_a_journal :
    Asks (codes "run" ∷ codes "--settings" ∷ codes "a.toml" ∷ codes "--journal" ∷ codes "a.day" ∷ [])
    (Runs (codes "a.toml") None (Some (codes "a.day")) None)
unfolding clap_on_literals gateway_found gateway_faults asking_of
a_gateway_with_a_journal = (refl, refl)

a_gateway_until_it_is_told_to_end : Asks (codes "serve" ∷ codes "--settings" ∷ codes "a.toml" ∷ [])
    (Serves (codes "a.toml") None None)
unfolding clap_on_literals gateway_found gateway_faults asking_of
a_gateway_until_it_is_told_to_end = (refl, refl)

a_gateway_that_is_served_with_a_journal :
    Asks (codes "serve" ∷ codes "--journal" ∷ codes "a.day" ∷ codes "--settings" ∷ codes "a.toml" ∷ [])
    (Serves (codes "a.toml") (Some (codes "a.day")) None)
unfolding clap_on_literals gateway_found gateway_faults asking_of
a_gateway_that_is_served_with_a_journal = (refl, refl)

an_end : Asks (codes "end" ∷ codes "--settings" ∷ codes "a.toml" ∷ []) (Ends (codes "a.toml") false)
unfolding clap_on_literals gateway_found gateway_faults asking_of
an_end = (refl, refl)

an_end_at_once :
    Asks (codes "end" ∷ codes "--settings" ∷ codes "a.toml" ∷ codes "--now" ∷ []) (Ends (codes "a.toml") true)
unfolding clap_on_literals gateway_found gateway_faults asking_of
an_end_at_once = (refl, refl)

a_journal_that_is_synced_later :
    Asks
    (codes "run" ∷ codes "--settings" ∷ codes "a.toml" ∷ codes "--journal" ∷ codes "a.day" ∷ codes "--sync"
    ∷ codes "100ms" ∷ [])
    (Runs (codes "a.toml") None (Some (codes "a.day")) (Some (codes "100ms")))
unfolding clap_on_literals gateway_found gateway_faults asking_of
a_journal_that_is_synced_later = (refl, refl)

a_served_journal_that_is_never_synced :
    Asks
    (codes "serve" ∷ codes "--sync" ∷ codes "never" ∷ codes "--settings" ∷ codes "a.toml" ∷ codes "--journal"
    ∷ codes "a.day" ∷ [])
    (Serves (codes "a.toml") (Some (codes "a.day")) (Some (codes "never")))
unfolding clap_on_literals gateway_found gateway_faults asking_of
a_served_journal_that_is_never_synced = (refl, refl)

the_end_of_a_stopped_day :
    Asks (codes "end" ∷ codes "--journal" ∷ codes "a.day" ∷ codes "--settings" ∷ codes "a.toml" ∷ [])
    (EndsDay (codes "a.day") (codes "a.toml"))
unfolding clap_on_literals gateway_found gateway_faults asking_of
the_end_of_a_stopped_day = (refl, refl)

-- a stopped day awaits nobody anyhow
the_end_of_a_stopped_day_at_once :
    Asks
    (codes "end" ∷ codes "--now" ∷ codes "--settings" ∷ codes "a.toml" ∷ codes "--journal" ∷ codes "a.day" ∷ [])
    (EndsDay (codes "a.day") (codes "a.toml"))
unfolding clap_on_literals gateway_found gateway_faults asking_of
the_end_of_a_stopped_day_at_once = (refl, refl)

the_end_of_a_day_without_settings :
    Refuses (codes "end" ∷ codes "--journal" ∷ codes "a.day" ∷ []) (kind.MissingRequiredArgument ∷ [])
unfolding clap_on_literals gateway_faults
the_end_of_a_day_without_settings = refl

links_of_a_gateway_that_is_served :
    Refuses (codes "serve" ∷ codes "--links" ∷ codes "2" ∷ codes "--settings" ∷ codes "a.toml" ∷ [])
    (kind.UnknownArgument ∷ [])
unfolding clap_on_literals gateway_faults
links_of_a_gateway_that_is_served = refl

an_end_of_nothing : Refuses (codes "end" ∷ codes "--now" ∷ []) (kind.MissingRequiredArgument ∷ [])
unfolding clap_on_literals gateway_faults
an_end_of_nothing = refl

a_day : Asks (codes "audit" ∷ codes "--settings" ∷ codes "a.toml" ∷ codes "--journal" ∷ codes "a.day" ∷ [])
    (AuditsDay (codes "a.day") (codes "a.toml") false)
unfolding clap_on_literals gateway_found gateway_faults asking_of
a_day = (refl, refl)

a_day_so_far :
    Asks
    (codes "audit" ∷ codes "--so-far" ∷ codes "--settings" ∷ codes "a.toml" ∷ codes "--journal" ∷ codes "a.day" ∷ [])
    (AuditsDay (codes "a.day") (codes "a.toml") true)
unfolding clap_on_literals gateway_found gateway_faults asking_of
a_day_so_far = (refl, refl)

a_script_so_far : Vainly (codes "audit" ∷ codes "--script" ∷ codes "a.script" ∷ codes "--so-far" ∷ [])
unfolding clap_on_literals gateway_found gateway_faults asking_of
a_script_so_far = (refl, refl)

a_script_as_a_day : Asks (codes "journal" ∷ codes "--script" ∷ codes "a.script" ∷ []) (Keeps (codes "a.script"))
unfolding clap_on_literals gateway_found gateway_faults asking_of
a_script_as_a_day = (refl, refl)

a_demonstration : Asks (codes "demo" ∷ []) Demonstrates
unfolding clap_on_literals gateway_found gateway_faults asking_of
a_demonstration = (refl, refl)

a_demonstration_until_it_is_told_to_end : Asks (codes "demo" ∷ codes "--serve" ∷ []) ServesDemonstration
unfolding clap_on_literals gateway_found gateway_faults asking_of
a_demonstration_until_it_is_told_to_end = (refl, refl)

a_world : Asks (codes "world" ∷ codes "--seed" ∷ codes "7" ∷ codes "--steps" ∷ codes "300" ∷ [])
    (Plays (codes "7") (codes "300") None None)
unfolding clap_on_literals gateway_found gateway_faults asking_of
a_world = (refl, refl)

a_world_of_two_ports :
    Asks
    (codes "world" ∷ codes "--ports" ∷ codes "2" ∷ codes "--seed" ∷ codes "7" ∷ codes "--clients" ∷ codes "3"
    ∷ codes "--steps" ∷ codes "300" ∷ [])
    (Plays (codes "7") (codes "300") (Some (codes "3")) (Some (codes "2")))
unfolding clap_on_literals gateway_found gateway_faults asking_of
a_world_of_two_ports = (refl, refl)

a_world_without_steps : Refuses (codes "world" ∷ codes "--seed" ∷ codes "7" ∷ []) (kind.MissingRequiredArgument ∷ [])
unfolding clap_on_literals gateway_faults
a_world_without_steps = refl

a_missing_file : Refuses (codes "audit" ∷ codes "--script" ∷ []) (kind.InvalidValue ∷ [])
unfolding clap_on_literals gateway_faults
a_missing_file = refl

no_option : Refuses (codes "journal" ∷ []) (kind.MissingRequiredArgument ∷ [])
unfolding clap_on_literals gateway_faults
no_option = refl

-- an audit of nothing; of a journal without settings; of a script with settings, or with a journal
no_audit : Vainly (codes "audit" ∷ [])
unfolding clap_on_literals gateway_found gateway_faults asking_of
no_audit = (refl, refl)

no_settings_of_a_day : Vainly (codes "audit" ∷ codes "--journal" ∷ codes "a.day" ∷ [])
unfolding clap_on_literals gateway_found gateway_faults asking_of
no_settings_of_a_day = (refl, refl)

settings_of_a_script :
    Vainly (codes "audit" ∷ codes "--script" ∷ codes "a.script" ∷ codes "--settings" ∷ codes "a.toml" ∷ [])
unfolding clap_on_literals gateway_found gateway_faults asking_of
settings_of_a_script = (refl, refl)

a_script_and_a_journal :
    Vainly (codes "audit" ∷ codes "--script" ∷ codes "a.script" ∷ codes "--journal" ∷ codes "a.day" ∷ [])
unfolding clap_on_literals gateway_found gateway_faults asking_of
a_script_and_a_journal = (refl, refl)

no_settings : Refuses (codes "run" ∷ codes "--links" ∷ codes "2" ∷ []) (kind.MissingRequiredArgument ∷ [])
unfolding clap_on_literals gateway_faults
no_settings = refl

no_subcommand : Refuses [] (kind.DisplayHelpOnMissingArgumentOrSubcommand ∷ [])
unfolding clap_on_literals gateway_faults
no_subcommand = refl

another_option : Refuses (codes "audit" ∷ codes "--file" ∷ codes "a.script" ∷ []) (kind.UnknownArgument ∷ [])
unfolding clap_on_literals gateway_faults
another_option = refl

a_demonstration_of_a_file : Refuses (codes "demo" ∷ codes "a.toml" ∷ []) (kind.UnknownArgument ∷ [])
unfolding clap_on_literals gateway_faults
a_demonstration_of_a_file = refl

settings_of_a_demonstration : Refuses (codes "demo" ∷ codes "--settings" ∷ codes "a.toml" ∷ [])
    (kind.UnknownArgument ∷ [])
unfolding clap_on_literals gateway_faults
settings_of_a_demonstration = refl

twice : Refuses (codes "audit" ∷ codes "--script" ∷ codes "a" ∷ codes "--script" ∷ codes "b" ∷ [])
    (kind.ArgumentConflict ∷ [])
unfolding clap_on_literals gateway_faults
twice = refl

a_second_file : Refuses (codes "audit" ∷ codes "--script" ∷ codes "a" ∷ codes "b" ∷ []) (kind.UnknownArgument ∷ [])
unfolding clap_on_literals gateway_faults
a_second_file = refl

another_subcommand : Refuses (codes "audits" ∷ codes "--script" ∷ codes "a" ∷ [])
    (kind.UnknownArgument ∷ kind.InvalidSubcommand ∷ [])
unfolding clap_on_literals gateway_faults
another_subcommand = refl

without_subcommand : Refuses (codes "--script" ∷ codes "a" ∷ []) (kind.UnknownArgument ∷ [])
unfolding clap_on_literals gateway_faults
without_subcommand = refl

help_of_gateway : Refuses (codes "--help" ∷ []) (kind.DisplayHelp ∷ [])
unfolding clap_on_literals gateway_faults
help_of_gateway = refl

the_version : Refuses (codes "--version" ∷ []) (kind.DisplayVersion ∷ [])
unfolding clap_on_literals gateway_faults
the_version = refl

-- a subcommand has none of its own
the_version_of_serve : Refuses (codes "serve" ∷ codes "--version" ∷ []) (kind.UnknownArgument ∷ [])
unfolding clap_on_literals gateway_faults
the_version_of_serve = refl

help_of_audit : Refuses (codes "audit" ∷ codes "--help" ∷ []) (kind.DisplayHelp ∷ [])
unfolding clap_on_literals gateway_faults
help_of_audit = refl

help_as_subcommand : Refuses (codes "help" ∷ codes "audit" ∷ []) (kind.DisplayHelp ∷ kind.InvalidSubcommand ∷ [])
unfolding clap_on_literals gateway_faults
help_as_subcommand = refl

-- links
one_link_where_nothing_is_said : links_of None ≡ Some 1
unfolding links_of
one_link_where_nothing_is_said = refl

the_fewest : links_of (Some (codes "1")) ≡ Some 1
unfolding links_of
the_fewest = refl

the_most : links_of (Some (codes "1000")) ≡ Some 1000
unfolding links_of
the_most = refl

too_many : links_of (Some (codes "1001")) ≡ None
unfolding links_of
too_many = refl

none_at_all : links_of (Some (codes "0")) ≡ None
unfolding links_of
none_at_all = refl

no_number : links_of (Some (codes "x")) ≡ None
unfolding links_of
no_number = refl

no_digits : links_of (Some []) ≡ None
unfolding links_of
no_digits = refl

a_sign : links_of (Some (codes "+1")) ≡ None
unfolding links_of
a_sign = refl

-- numbers in their range
the_least_number : number_between 1 64 (codes "1") ≡ Some 1
the_least_number = refl

the_greatest_number : number_between 1 64 (codes "64") ≡ Some 64
the_greatest_number = refl

a_number_below : number_between 1 64 (codes "0") ≡ None
a_number_below = refl

a_number_above : number_between 1 64 (codes "65") ≡ None
a_number_above = refl

a_number_without_digits : number_between 0 64 [] ≡ None
a_number_without_digits = refl

a_number_with_a_letter : number_between 0 64 (codes "1x") ≡ None
a_number_with_a_letter = refl

-- moments of a sync
with_each_write_where_nothing_is_said : syncs_of None ≡ Some Each
unfolding syncs_of
with_each_write_where_nothing_is_said = refl

with_each_write : syncs_of (Some (codes "each")) ≡ Some Each
unfolding syncs_of
with_each_write = refl

at_no_moment : syncs_of (Some (codes "never")) ≡ Some Never
unfolding syncs_of
at_no_moment = refl

each_millisecond : syncs_of (Some (codes "1ms")) ≡ Some (Every 1)
unfolding syncs_of
each_millisecond = refl

each_minute : syncs_of (Some (codes "60000ms")) ≡ Some (Every 60000)
unfolding syncs_of
each_minute = refl

beyond_a_minute : syncs_of (Some (codes "60001ms")) ≡ None
unfolding syncs_of
beyond_a_minute = refl

each_nothing : syncs_of (Some (codes "0ms")) ≡ None
unfolding syncs_of
each_nothing = refl

a_number_without_its_unit : syncs_of (Some (codes "100")) ≡ None
unfolding syncs_of
a_number_without_its_unit = refl

a_unit_without_its_number : syncs_of (Some (codes "ms")) ≡ None
unfolding syncs_of
a_unit_without_its_number = refl

a_unit_of_one_letter : syncs_of (Some (codes "s")) ≡ None
unfolding syncs_of
a_unit_of_one_letter = refl

another_word : syncs_of (Some (codes "always")) ≡ None
unfolding syncs_of
another_word = refl

no_word : syncs_of (Some []) ≡ None
unfolding syncs_of
no_word = refl
