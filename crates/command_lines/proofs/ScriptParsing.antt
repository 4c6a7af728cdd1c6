-- What `clap` says of a command with these flags, in the words of `specs/Command.antt`.
use Rattle.std.proofs.Common.{◌≡◌, true, List, Result, refl, ap, ◌∙◌, IfOk, subst}
use Rattle.std.proofs.lemmas.Result.{IfOk-weaker}
use Rattle.clap.specs.Words.{App, FailsBy, HasMatchesOf, Text, fault_of, found_of, is_simple, is_simple_and_free}
use Rattle.clap.specs.Words.{matches_of, rows_of}
use Rattle.clap.specs.declared.error.Error.{Error}
use Rattle.clap.specs.declared.parser.matches.ArgMatches.{ArgMatches}
use Rattle.clap.proofs.OnLiterals.{clap_on_literals}
use Rattle.command_lines.specs.ScriptFlags.{gate_script, script_found, script_faults}

simple : is_simple gate_script ≡ true
unfolding clap_on_literals
simple = refl

free : is_simple_and_free gate_script ≡ true
unfolding clap_on_literals
free = refl

pub found-by : (a : App) (words : List Text) (r : Result ArgMatches Error) → a ≡ gate_script
    → IfOk r (HasMatchesOf a words) → IfOk r (λ m. rows_of (found_of m) ≡ script_found words)
unfolding script_found
found-by a words r is ok = IfOk-weaker r _ _
    (λ m h. (h (ap is_simple is ∙ simple)).0 ∙ ap (λ (x : App). matches_of x words) is) ok

pub refused-by : (a : App) (words : List Text) (r : Result ArgMatches Error) → a ≡ gate_script
    → (is_simple_and_free a ≡ true → FailsBy (fault_of a words) r) → FailsBy (script_faults words) r
unfolding script_faults
refused-by a words r is fails = subst (λ (x : App). FailsBy (fault_of x words) r) is
    (fails (ap is_simple_and_free is ∙ free))
