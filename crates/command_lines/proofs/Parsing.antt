-- What `clap` says of `gateway`'s command line, in the words of `specs/Command.antt`.
use Rattle.std.proofs.Common.{◌≡◌, true, List, Result, refl, ap, ◌∙◌, IfOk, subst}
use Rattle.std.proofs.lemmas.Result.{IfOk-weaker}
use Rattle.clap.specs.Words.{App, FailsBy, HasMatchesOf, Text, fault_of, is_simple, is_simple_and_free, subcommand_of}
use Rattle.clap.specs.Words.{subcommand_rows_of}
use Rattle.clap.specs.declared.error.Error.{Error}
use Rattle.clap.specs.declared.parser.matches.ArgMatches.{ArgMatches}
use Rattle.clap.proofs.OnLiterals.{clap_on_literals}
use Rattle.command_lines.specs.Command.{gateway, gateway_found, gateway_faults}

simple : is_simple gateway ≡ true
unfolding clap_on_literals
simple = refl

free : is_simple_and_free gateway ≡ true
unfolding clap_on_literals
free = refl

pub found-by : (a : App) (words : List Text) (r : Result ArgMatches Error) → a ≡ gateway → IfOk r (HasMatchesOf a words)
    → IfOk r (λ m. subcommand_rows_of m ≡ gateway_found words)
unfolding gateway_found
found-by a words r is ok = IfOk-weaker r _ _
    (λ m h. (h (ap is_simple is ∙ simple)).1 ∙ ap (λ (x : App). subcommand_of x words) is) ok

pub refused-by : (a : App) (words : List Text) (r : Result ArgMatches Error) → a ≡ gateway
    → (is_simple_and_free a ≡ true → FailsBy (fault_of a words) r) → FailsBy (gateway_faults words) r
unfolding gateway_faults
refused-by a words r is fails = subst (λ (x : App). FailsBy (fault_of x words) r) is
    (fails (ap is_simple_and_free is ∙ free))
