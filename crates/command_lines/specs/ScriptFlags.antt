-- The command line of `gate_script`: three flags, each at most once, and nothing else but a call for help.
use Rattle.std.specs.Prelude.{◌≡◌, ◌≤◌, ℕ, Bool, true, false, refl, List, [], ◌∷◌, Option, Some, None, codes}
use Rattle.std.specs.Str.{bytes_eq}
use Rattle.clap.specs.Words.{App, Row, Rule, Text, fault_of, Kinds, matches_of, new_app, new_rule, first_of, with_rule}
use Rattle.clap.specs.declared.builder.action.ArgAction.TheVariants.{SetTrue}
use Rattle.clap.specs.declared.error.kind.ErrorKind.{ErrorKind}
use Rattle.clap.specs.declared.error.kind.ErrorKind.TheVariants as kind
use Rattle.clap.proofs.OnLiterals.{clap_on_literals}
use Rattle.gate_lines.specs.declared.flags.Flags.{Flags}

-- `--name`
abbrev pub flag_rule : Text → Rule
flag_rule name = record (new_rule name) { long = Some name; action = Some SetTrue }

-- `gate_script [--num] [--raw] [--cold]`
abbrev pub gate_script : App
gate_script = with_rule (with_rule (with_rule (new_app (codes "gate_script")) (flag_rule (codes "num")))
    (flag_rule (codes "raw"))) (flag_rule (codes "cold"))

-- what `clap` finds in the words of a command line, and why it refuses them
unfoldable pub script_found : List Text → List Row
script_found words = matches_of gate_script words

unfoldable pub script_faults : List Text → Kinds
script_faults words = fault_of gate_script words

-- the value of a flag that was given
abbrev pub is_true : Option Text → Bool
is_true None = false
is_true (Some value) = bytes_eq value (codes "true")

-- the flag was given, by what was found of it
abbrev pub is_given : Text → List Row → Bool
is_given name rows = is_true (first_of name rows)

abbrev pub flags_in : List Row → Flags
flags_in rows = record {
  num = is_given (codes "num") rows;
  raw = is_given (codes "raw") rows;
  cold = is_given (codes "cold") rows;
}

-- the status of a program whose command line isn't one to run by: the help is no mistake
abbrev pub error_status : ErrorKind → ℕ
error_status kind.DisplayHelp = 0
error_status kind.OutOfMemory = 1
error_status other = 2

-- what is told of a command line that gave this error: its status, and of the help 1 where it can't be written
abbrev pub IsToldAs : ErrorKind → ℕ → Type 0
IsToldAs kind.DisplayHelp status = status ≤ 1
IsToldAs other status = status ≡ error_status other

-- a command line that is refused
abbrev pub IsMistake : List Text → Type 0
IsMistake words = (fault : ErrorKind) × (script_faults words ≡ fault ∷ []) × (error_status fault ≡ 2)

-- Computed: each flag, alone and with others, in any order, and nothing.
abbrev line : List Text → List Text
line words = codes "gate_script" ∷ words

abbrev flags : Bool → Bool → Bool → Flags
flags num raw cold = record { num = num; raw = raw; cold = cold }

abbrev Reads : List Text → Flags → Type 0
Reads words wanted = (flags_in (script_found (line words)) ≡ wanted) × (script_faults (line words) ≡ [])

abbrev Refuses : List Text → ErrorKind → Type 0
Refuses words fault = script_faults (line words) ≡ fault ∷ []

nothing : Reads [] (flags false false false)
unfolding clap_on_literals script_found script_faults
nothing = (refl, refl)

all : Reads (codes "--cold" ∷ codes "--num" ∷ codes "--raw" ∷ []) (flags true true true)
unfolding clap_on_literals script_found script_faults
all = (refl, refl)

num : Reads (codes "--num" ∷ []) (flags true false false)
unfolding clap_on_literals script_found script_faults
num = (refl, refl)

raw : Reads (codes "--raw" ∷ []) (flags false true false)
unfolding clap_on_literals script_found script_faults
raw = (refl, refl)

cold : Reads (codes "--cold" ∷ []) (flags false false true)
unfolding clap_on_literals script_found script_faults
cold = (refl, refl)

two : Reads (codes "--raw" ∷ codes "--num" ∷ []) (flags true true false)
unfolding clap_on_literals script_found script_faults
two = (refl, refl)

twice : Refuses (codes "--num" ∷ codes "--num" ∷ []) kind.ArgumentConflict
unfolding clap_on_literals script_faults
twice = refl

a_file : Refuses (codes "script" ∷ []) kind.UnknownArgument
unfolding clap_on_literals script_faults
a_file = refl

another : Refuses (codes "--num" ∷ codes "--numbers" ∷ []) kind.UnknownArgument
unfolding clap_on_literals script_faults
another = refl

in_capitals : Refuses (codes "--NUM" ∷ []) kind.UnknownArgument
unfolding clap_on_literals script_faults
in_capitals = refl

with_a_value : Refuses (codes "--raw=1" ∷ []) kind.TooManyValues
unfolding clap_on_literals script_faults
with_a_value = refl

asked_for_help : Refuses (codes "--cold" ∷ codes "--help" ∷ codes "script" ∷ []) kind.DisplayHelp
unfolding clap_on_literals script_faults
asked_for_help = refl
