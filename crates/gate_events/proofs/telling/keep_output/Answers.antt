use Rattle.std.proofs.Common.{◌≤◌, ◌++◌, ◌∷◌, [], List, length, sym, ap, ◌∙◌, arith}
use Rattle.std.proofs.lemmas.Bool.Decides.{nat_tests}
use Rattle.gate_law.specs.Events.{LinkOut}
use Rattle.gate_events.proofs.Sources.{output-kept}
use Rattle.gate_events.proofs.telling.keep_output.Goals as goal

pub returns : goal.returns
returns c =
    let lists = c.args.lists.now.items in
    let some : 1 ≤ length c.output-output.result.now = grind (arith, nat_tests, c.is_empty.ensures, c.if-is_empty.false)
    in
    c.in_ok-push.ensures.items
    ∙ ap (λ (output : List LinkOut). lists ++ output ∷ []) c.in_ok-copied.ensures
    ∙ ap (λ (more : List (List LinkOut)). lists ++ more)
    (sym (output-kept c.output-output.result.now _ c.output-output.ensures some))
