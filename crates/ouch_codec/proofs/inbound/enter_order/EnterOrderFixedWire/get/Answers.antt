use Rattle.std.proofs.Common.{arith, refl, sym, ◌∙◌}
use Rattle.std.proofs.lemmas.Bool.{false≢true}
use Rattle.ouch_codec.specs.Layout.{IsMessage, ◌⨾◌}
use Rattle.ouch_codec.specs.Layouts.{enter_order_layout}
use Rattle.ouch_codec.specs.EnterOrderLaws.{enter_order_of}
use Rattle.ouch_codec.proofs.Reading.{AreBytes, row_at, AreValues-row_at, spelled-read, message-in_sets}
use Rattle.ouch_codec.proofs.Reading.{in_sets-message, no_message, nothing, no_value}
use Rattle.ouch_codec.proofs.inbound.enter_order.EnterOrderFixedWire.get.Goals as goal

pub returns-then-not-is_of_type-clause-spelled : goal.returns-then-not-is_of_type-clause-spelled
returns-then-not-is_of_type-clause-spelled c =
    nothing _ (λ message.
    let in_sets = in_sets-message enter_order_layout c.args.b.now message in
    false≢true (sym c.if-not-is_of_type.true ∙ c.is_of_type.ensures.1 (in_sets.0, in_sets.1.0)))

pub returns-in_err-text_at-clause-spelled : goal.returns-in_err-text_at-clause-spelled
returns-in_err-text_at-clause-spelled c =
    no_value _ _ c.from_residual.ensures (no_message enter_order_layout 1 c.args.b.now c.in_err-text_at.ensures)

pub returns-in_err-side_at-clause-spelled : goal.returns-in_err-side_at-clause-spelled
returns-in_err-side_at-clause-spelled c =
    no_value _ _ c.from_residual-in_err-side_at.ensures
    (no_message enter_order_layout 2 c.args.b.now c.in_err-side_at.ensures)

pub returns-in_err-shares_at-clause-spelled : goal.returns-in_err-shares_at-clause-spelled
returns-in_err-shares_at-clause-spelled c =
    no_value _ _ c.from_residual-in_err-shares_at.ensures
    (no_message enter_order_layout 3 c.args.b.now c.in_err-shares_at.ensures)

pub returns-in_err-text_at-2-clause-spelled : goal.returns-in_err-text_at-2-clause-spelled
returns-in_err-text_at-2-clause-spelled c =
    no_value _ _ c.from_residual-in_err-text_at-2.ensures
    (no_message enter_order_layout 4 c.args.b.now c.in_err-text_at-2.ensures)

pub returns-in_err-text_at-3-clause-spelled : goal.returns-in_err-text_at-3-clause-spelled
returns-in_err-text_at-3-clause-spelled c =
    no_value _ _ c.from_residual-in_err-text_at-3.ensures
    (no_message enter_order_layout 7 c.args.b.now c.in_err-text_at-3.ensures)

pub returns-in_err-printable_at-clause-spelled : goal.returns-in_err-printable_at-clause-spelled
returns-in_err-printable_at-clause-spelled c =
    no_value _ _ c.from_residual-in_err-printable_at.ensures
    (no_message enter_order_layout 8 c.args.b.now c.in_err-printable_at.ensures)

pub returns-in_err-printable_at-2-clause-spelled : goal.returns-in_err-printable_at-2-clause-spelled
returns-in_err-printable_at-2-clause-spelled c =
    no_value _ _ c.from_residual-in_err-printable_at-2.ensures
    (no_message enter_order_layout 9 c.args.b.now c.in_err-printable_at-2.ensures)

pub returns-in_err-printable_at-3-clause-spelled : goal.returns-in_err-printable_at-3-clause-spelled
returns-in_err-printable_at-3-clause-spelled c =
    no_value _ _ c.from_residual-in_err-printable_at-3.ensures
    (no_message enter_order_layout 10 c.args.b.now c.in_err-printable_at-3.ensures)

pub returns-in_err-printable_at-4-clause-spelled : goal.returns-in_err-printable_at-4-clause-spelled
returns-in_err-printable_at-4-clause-spelled c =
    no_value _ _ c.from_residual-in_err-printable_at-4.ensures
    (no_message enter_order_layout 12 c.args.b.now c.in_err-printable_at-4.ensures)

pub returns-in_err-printable_at-5-clause-spelled : goal.returns-in_err-printable_at-5-clause-spelled
returns-in_err-printable_at-5-clause-spelled c =
    no_value _ _ c.from_residual-in_err-printable_at-5.ensures
    (no_message enter_order_layout 13 c.args.b.now c.in_err-printable_at-5.ensures)

pub invariant_of-result : goal.invariant_of-result
invariant_of-result c =
    let b = c.args.b.now in
    let below : AreBytes b = λ i. omega (arith, c.type_inv.b i) in
    let of_type = c.is_of_type.ensures.0 c.if-not-is_of_type.false in
    let message : IsMessage enter_order_layout b =
    message-in_sets enter_order_layout b of_type.0
    (of_type.1 ⨾ c.in_ok-text_at.ensures.0 ⨾ c.in_ok-side_at.ensures.0 ⨾ c.in_ok-shares_at.ensures.0 ⨾
    c.in_ok-text_at-2.ensures.0 ⨾ refl ⨾ refl ⨾ c.in_ok-text_at-3.ensures.0 ⨾ c.in_ok-printable_at.ensures.0 ⨾
    c.in_ok-printable_at-2.ensures.0 ⨾ c.in_ok-printable_at-3.ensures.0 ⨾ refl ⨾ c.in_ok-printable_at-4.ensures.0 ⨾
    c.in_ok-printable_at-5.ensures.0 ⨾ tt) in
    let read = enter_order_of (row_at enter_order_layout 0 b) (AreValues-row_at enter_order_layout 0 b below message) in
    record {
      token_set = rw c.in_ok-text_at.ensures.1 read.token_set;
      shares_set = rw c.in_ok-shares_at.ensures.1 read.shares_set;
      stock_set = rw c.in_ok-text_at-2.ensures.1 read.stock_set;
      price_set = rw c.number_at.ensures read.price_set;
      time_in_force_set = rw c.number_at-2.ensures read.time_in_force_set;
      firm_set = rw c.in_ok-text_at-3.ensures.1 read.firm_set;
      display_set = rw c.in_ok-printable_at.ensures.1 read.display_set;
      capacity_set = rw c.in_ok-printable_at-2.ensures.1 read.capacity_set;
      intermarket_sweep_set = rw c.in_ok-printable_at-3.ensures.1 read.intermarket_sweep_set;
      minimum_quantity_set = rw c.number_at-3.ensures read.minimum_quantity_set;
      cross_type_set = rw c.in_ok-printable_at-4.ensures.1 read.cross_type_set;
      customer_type_set = rw c.in_ok-printable_at-5.ensures.1 read.customer_type_set;
    }

pub returns : goal.returns
returns c =
    let b = c.args.b.now in
    let below : AreBytes b = λ i. omega (arith, c.type_inv.b i) in
    let of_type = c.is_of_type.ensures.0 c.if-not-is_of_type.false in
    let message : IsMessage enter_order_layout b =
    message-in_sets enter_order_layout b of_type.0
    (of_type.1 ⨾ c.in_ok-text_at.ensures.0 ⨾ c.in_ok-side_at.ensures.0 ⨾ c.in_ok-shares_at.ensures.0 ⨾
    c.in_ok-text_at-2.ensures.0 ⨾ refl ⨾ refl ⨾ c.in_ok-text_at-3.ensures.0 ⨾ c.in_ok-printable_at.ensures.0 ⨾
    c.in_ok-printable_at-2.ensures.0 ⨾ c.in_ok-printable_at-3.ensures.0 ⨾ refl ⨾ c.in_ok-printable_at-4.ensures.0 ⨾
    c.in_ok-printable_at-5.ensures.0 ⨾ tt) in
    record {
      spelled = (λ some. message, λ is. refl);
      same = spelled-read enter_order_layout (tt ⨾ c.in_ok-text_at.field-0 ⨾ c.in_ok-side_at.field-0 ⨾
          c.in_ok-shares_at.field-0 ⨾ c.in_ok-text_at-2.field-0 ⨾ c.number_at.result ⨾ c.number_at-2.result ⨾
          c.in_ok-text_at-3.field-0 ⨾ c.in_ok-printable_at.field-0 ⨾ c.in_ok-printable_at-2.field-0 ⨾
          c.in_ok-printable_at-3.field-0 ⨾ c.number_at-3.result ⨾ c.in_ok-printable_at-4.field-0 ⨾
          c.in_ok-printable_at-5.field-0 ⨾ tt) b below message
          (refl ⨾ c.in_ok-text_at.ensures.1 ⨾ c.in_ok-side_at.ensures.1 ⨾ c.in_ok-shares_at.ensures.1 ⨾
          c.in_ok-text_at-2.ensures.1 ⨾ c.number_at.ensures ⨾ c.number_at-2.ensures ⨾ c.in_ok-text_at-3.ensures.1 ⨾
          c.in_ok-printable_at.ensures.1 ⨾ c.in_ok-printable_at-2.ensures.1 ⨾ c.in_ok-printable_at-3.ensures.1 ⨾
          c.number_at-3.ensures ⨾ c.in_ok-printable_at-4.ensures.1 ⨾ c.in_ok-printable_at-5.ensures.1 ⨾ tt);
    }
