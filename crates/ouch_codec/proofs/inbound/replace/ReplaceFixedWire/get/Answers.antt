use Rattle.std.proofs.Common.{arith, refl, sym, ◌∙◌}
use Rattle.std.proofs.lemmas.Bool.{false≢true}
use Rattle.ouch_codec.specs.Layout.{IsMessage, ◌⨾◌}
use Rattle.ouch_codec.specs.Layouts.{replace_layout}
use Rattle.ouch_codec.specs.ReplaceLaws.{replace_of}
use Rattle.ouch_codec.proofs.Reading.{AreBytes, row_at, AreValues-row_at, spelled-read, message-in_sets}
use Rattle.ouch_codec.proofs.Reading.{in_sets-message, no_message, nothing, no_value}
use Rattle.ouch_codec.proofs.inbound.replace.ReplaceFixedWire.get.Goals as goal

pub returns-then-not-is_of_type-clause-spelled : goal.returns-then-not-is_of_type-clause-spelled
returns-then-not-is_of_type-clause-spelled c =
    nothing _ (λ message.
    let in_sets = in_sets-message replace_layout c.args.b.now message in
    false≢true (sym c.if-not-is_of_type.true ∙ c.is_of_type.ensures.1 (in_sets.0, in_sets.1.0)))

pub returns-in_err-text_at-clause-spelled : goal.returns-in_err-text_at-clause-spelled
returns-in_err-text_at-clause-spelled c =
    no_value _ _ c.from_residual.ensures (no_message replace_layout 1 c.args.b.now c.in_err-text_at.ensures)

pub returns-in_err-text_at-2-clause-spelled : goal.returns-in_err-text_at-2-clause-spelled
returns-in_err-text_at-2-clause-spelled c =
    no_value _ _ c.from_residual-in_err-text_at-2.ensures
    (no_message replace_layout 2 c.args.b.now c.in_err-text_at-2.ensures)

pub returns-in_err-shares_at-clause-spelled : goal.returns-in_err-shares_at-clause-spelled
returns-in_err-shares_at-clause-spelled c =
    no_value _ _ c.from_residual-in_err-shares_at.ensures
    (no_message replace_layout 3 c.args.b.now c.in_err-shares_at.ensures)

pub returns-in_err-printable_at-clause-spelled : goal.returns-in_err-printable_at-clause-spelled
returns-in_err-printable_at-clause-spelled c =
    no_value _ _ c.from_residual-in_err-printable_at.ensures
    (no_message replace_layout 6 c.args.b.now c.in_err-printable_at.ensures)

pub returns-in_err-printable_at-2-clause-spelled : goal.returns-in_err-printable_at-2-clause-spelled
returns-in_err-printable_at-2-clause-spelled c =
    no_value _ _ c.from_residual-in_err-printable_at-2.ensures
    (no_message replace_layout 7 c.args.b.now c.in_err-printable_at-2.ensures)

pub invariant_of-result : goal.invariant_of-result
invariant_of-result c =
    let b = c.args.b.now in
    let below : AreBytes b = λ i. omega (arith, c.type_inv.b i) in
    let of_type = c.is_of_type.ensures.0 c.if-not-is_of_type.false in
    let message : IsMessage replace_layout b =
    message-in_sets replace_layout b of_type.0
    (of_type.1 ⨾ c.in_ok-text_at.ensures.0 ⨾ c.in_ok-text_at-2.ensures.0 ⨾ c.in_ok-shares_at.ensures.0 ⨾ refl ⨾ refl
    ⨾ c.in_ok-printable_at.ensures.0 ⨾ c.in_ok-printable_at-2.ensures.0 ⨾ refl ⨾ tt) in
    let read = replace_of (row_at replace_layout 0 b) (AreValues-row_at replace_layout 0 b below message) in
    record {
      token_set = rw c.in_ok-text_at.ensures.1 read.token_set;
      replacement_token_set = rw c.in_ok-text_at-2.ensures.1 read.replacement_token_set;
      shares_set = rw c.in_ok-shares_at.ensures.1 read.shares_set;
      price_set = rw c.number_at.ensures read.price_set;
      time_in_force_set = rw c.number_at-2.ensures read.time_in_force_set;
      display_set = rw c.in_ok-printable_at.ensures.1 read.display_set;
      intermarket_sweep_set = rw c.in_ok-printable_at-2.ensures.1 read.intermarket_sweep_set;
      minimum_quantity_set = rw c.number_at-3.ensures read.minimum_quantity_set;
    }

pub returns : goal.returns
returns c =
    let b = c.args.b.now in
    let below : AreBytes b = λ i. omega (arith, c.type_inv.b i) in
    let of_type = c.is_of_type.ensures.0 c.if-not-is_of_type.false in
    let message : IsMessage replace_layout b =
    message-in_sets replace_layout b of_type.0
    (of_type.1 ⨾ c.in_ok-text_at.ensures.0 ⨾ c.in_ok-text_at-2.ensures.0 ⨾ c.in_ok-shares_at.ensures.0 ⨾ refl ⨾ refl
    ⨾ c.in_ok-printable_at.ensures.0 ⨾ c.in_ok-printable_at-2.ensures.0 ⨾ refl ⨾ tt) in
    record {
      spelled = (λ some. message, λ is. refl);
      same = spelled-read replace_layout (tt ⨾ c.in_ok-text_at.field-0 ⨾ c.in_ok-text_at-2.field-0 ⨾
          c.in_ok-shares_at.field-0 ⨾ c.number_at.result ⨾ c.number_at-2.result ⨾ c.in_ok-printable_at.field-0 ⨾
          c.in_ok-printable_at-2.field-0 ⨾ c.number_at-3.result ⨾ tt) b below message
          (refl ⨾ c.in_ok-text_at.ensures.1 ⨾ c.in_ok-text_at-2.ensures.1 ⨾ c.in_ok-shares_at.ensures.1 ⨾
          c.number_at.ensures ⨾ c.number_at-2.ensures ⨾ c.in_ok-printable_at.ensures.1 ⨾
          c.in_ok-printable_at-2.ensures.1 ⨾ c.number_at-3.ensures ⨾ tt);
    }
