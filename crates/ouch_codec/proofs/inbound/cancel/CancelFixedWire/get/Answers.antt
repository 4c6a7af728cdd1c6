use Rattle.std.proofs.Common.{arith, refl, sym, ◌∙◌}
use Rattle.std.proofs.lemmas.Bool.{false≢true}
use Rattle.ouch_codec.specs.Layout.{IsMessage, ◌⨾◌}
use Rattle.ouch_codec.specs.Layouts.{cancel_layout}
use Rattle.ouch_codec.specs.CancelLaws.{cancel_of}
use Rattle.ouch_codec.proofs.Reading.{AreBytes, row_at, AreValues-row_at, spelled-row_at, message-in_sets}
use Rattle.ouch_codec.proofs.Reading.{in_sets-message, no_message, nothing, no_value}
use Rattle.ouch_codec.proofs.inbound.cancel.CancelFixedWire.get.Goals as goal

pub returns-then-not-is_of_type-clause-spelled : goal.returns-then-not-is_of_type-clause-spelled
returns-then-not-is_of_type-clause-spelled c =
    nothing _ (λ message.
    let in_sets = in_sets-message cancel_layout c.args.b.now message in
    false≢true (sym c.if-not-is_of_type.true ∙ c.is_of_type.ensures.1 (in_sets.0, in_sets.1.0)))

pub returns-in_err-text_at-clause-spelled : goal.returns-in_err-text_at-clause-spelled
returns-in_err-text_at-clause-spelled c =
    no_value _ _ c.from_residual.ensures (no_message cancel_layout 1 c.args.b.now c.in_err-text_at.ensures)

pub returns-in_err-intended_shares_at-clause-spelled : goal.returns-in_err-intended_shares_at-clause-spelled
returns-in_err-intended_shares_at-clause-spelled c =
    no_value _ _ c.from_residual-in_err-intended_shares_at.ensures
    (no_message cancel_layout 2 c.args.b.now c.in_err-intended_shares_at.ensures)

pub invariant_of-result : goal.invariant_of-result
invariant_of-result c =
    let b = c.args.b.now in
    let below : AreBytes b = λ i. omega (arith, c.type_inv.b i) in
    let of_type = c.is_of_type.ensures.0 c.if-not-is_of_type.false in
    let message : IsMessage cancel_layout b =
    message-in_sets cancel_layout b of_type.0
    (of_type.1 ⨾ c.in_ok-text_at.ensures.0 ⨾ c.in_ok-intended_shares_at.ensures.0 ⨾ tt) in
    let read = cancel_of (row_at cancel_layout 0 b) (AreValues-row_at cancel_layout 0 b below message) in
    record {
      token_set = rw c.in_ok-text_at.ensures.1 read.token_set;
      shares_set = rw c.in_ok-intended_shares_at.ensures.1 read.shares_set;
    }

pub returns : goal.returns
returns c =
    let b = c.args.b.now in
    let below : AreBytes b = λ i. omega (arith, c.type_inv.b i) in
    let of_type = c.is_of_type.ensures.0 c.if-not-is_of_type.false in
    let message : IsMessage cancel_layout b =
    message-in_sets cancel_layout b of_type.0
    (of_type.1 ⨾ c.in_ok-text_at.ensures.0 ⨾ c.in_ok-intended_shares_at.ensures.0 ⨾ tt) in
    record {
      spelled = (λ some. message, λ is. refl);
      same = rw (c.in_ok-text_at.ensures.1, c.in_ok-intended_shares_at.ensures.1)
          (spelled-row_at cancel_layout 0 b below message);
    }
