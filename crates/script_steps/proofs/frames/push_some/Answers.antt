use Rattle.std.proofs.Common.{[], ◌∷◌, ◌∙◌, ap, sym, ◌++◌, take, drop, arith}
use Rattle.std.proofs.lemmas.List.{append_assoc}
use Rattle.fix_fields.specs.Lent.{lent}
use Rattle.script_steps.proofs.Parts.{tag-at, value-at, part-more}
use Rattle.script_steps.proofs.frames.push_some.Goals as goal

pub push-requires-clause-tag : goal.push-requires-clause-tag
push-requires-clause-tag c = tag-at c.args.fields.now c.loop-i.i _ c.text-text.ensures.fields c.at-field.ensures

pub push-requires-clause-value : goal.push-requires-clause-value
push-requires-clause-value c = value-at c.args.fields.now c.loop-i.i _ c.text-text.ensures.fields c.at-field.ensures

pub loop-i-preserved : goal.loop-i-preserved
loop-i-preserved c =
    let before = c.args.body.now in
    let part = drop c.args.from (take c.loop-i.i c.args.fields.now) in
    let field = lent c.at-field.result in
    c.in_ok-push.ensures.ok
    ∙ ap (λ fields. fields ++ field ∷ []) c.loop-i.invariant
    ∙ append_assoc before part (field ∷ [])
    ∙ ap (λ fields. before ++ fields) (sym (part-more c.args.fields.now c.args.from c.loop-i.i field
    (omega (arith, c.loop-i.auto.i)) c.at-field.ensures))
