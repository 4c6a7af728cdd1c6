use Rattle.std.proofs.Common.{List, arith, sym, ap, ◌∙◌}
use Rattle.std.specs.Prelude.{is_some, Option}
use Rattle.std.proofs.lemmas.List.{take_all}
use Rattle.fix_fields.specs.Field.{Field}
use Rattle.fix_fields.proofs.Ending.{not_ended}
use Rattle.fix_fields.proofs.Reading.{fields_of-is, fields_of-none}
use Rattle.fix_fields.proofs.Splitting.{none_stands, still_remaining, read_more}
use Rattle.fix_fields.proofs.view.are_fields.Goals as goal

pub returns-then-not-is_ended : goal.returns-then-not-is_ended
returns-then-not-is_ended c = ap (λ (f : Option (List Field)). is_some f)
    (sym (not_ended c.args.text.now c.is_ended.result c.if-not-is_ended.true c.is_ended.ensures.fields))

pub returns-in_default : goal.returns-in_default
returns-in_default c = ap (λ (f : Option (List Field)). is_some f)
    (sym (fields_of-none c.args.text.now (none_stands c.args.text.now c.loop-at.at c.loop-at-test.true
    c.loop-at.invariant.remaining c.in_default.ensures)))

pub loop-at-preserved : goal.loop-at-preserved
loop-at-preserved c =
    let text = c.args.text.now in
    let at = c.loop-at.at in
    let span = c.in-Some.span in
    let front = c.in-Some.ensures in
    record {
      within = omega (arith, front.ends);
      read = read_more text at span c.loop-at.invariant.within front c.loop-at.invariant.read;
      remaining = still_remaining text at span c.loop-at-test.true front c.loop-at.invariant.remaining;
    }

pub returns : goal.returns
returns c =
    let text = c.args.text.now in
    let read = c.loop-at.invariant.read in
    let all = take_all c.loop-at.at text c.loop-at-test.false in
    ap (λ (f : Option (List Field)). is_some f) (sym (fields_of-is text read.fields read.good (read.spelled ∙ all)))
