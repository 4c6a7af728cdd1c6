use Rattle.std.proofs.Common.{sym, arith}
use Rattle.wire_bytes.proofs.Numbers.{all_digits_more}
use Rattle.fixed_point.proofs.Numbers.{read_on_step, read_on_whole, read_on_none}
use Rattle.fixed_point.proofs.digits.read_on.Goals as goal

pub returns-then-not-is_ascii_digit-clause-value : goal.returns-then-not-is_ascii_digit-clause-value
returns-then-not-is_ascii_digit-clause-value c =
    read_on_none c.args.start c.loop-byte.byte-index c.args.digits.now (omega arith)
    (sym c.if-not-is_ascii_digit.ensures.value)

pub loop-byte-preserved : goal.loop-byte-preserved
loop-byte-preserved c =
    let i = c.loop-byte.byte-index in
    let ds = c.args.digits.now in
    record {
      digits = all_digits_more ds i (omega arith) c.loop-byte.invariant.digits
          (sym c.if-not-is_ascii_digit.ensures.value);
      number = read_on_step c.args.start c.loop-byte.number c.min-number.result c.from.result i ds
          (omega arith) c.loop-byte.invariant.number c.min-number.ensures c.from.ensures;
    }

pub returns-clause-value : goal.returns-clause-value
returns-clause-value c =
    read_on_whole c.args.start c.loop-byte.number c.loop-byte.byte-index c.args.digits.now (omega arith)
    (omega arith) c.loop-byte.invariant.digits c.loop-byte.invariant.number
