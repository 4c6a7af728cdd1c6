-- A message fits into a packet.
use Rattle.std.proofs.Common.{◌≡◌, ℕ, ◌≤◌, length, arith}
use Rattle.gate_law.specs.order_law.ouch_codec.declared.inbound.Inbound.{Inbound}
use Rattle.gate_law.specs.order_law.ouch_codec.declared.inbound.Inbound.TheVariants.{Enter, Replace, Cancel}
use Rattle.gate_law.specs.order_law.ouch_codec.Inbound.{inbound_bytes}
use Rattle.gate_law.specs.order_law.ouch_codec.LaidOut.{length-written}
use Rattle.gate_law.specs.order_law.ouch_codec.EnterOrderLaws.{enter_order_laid_out}
use Rattle.gate_law.specs.order_law.ouch_codec.ReplaceLaws.{replace_laid_out}
use Rattle.gate_law.specs.order_law.ouch_codec.CancelLaws.{cancel_laid_out}

at-most : (n width : ℕ) → n ≡ width → width ≤ 65_534 → n ≤ 65_534
at-most n width is few = omega arith

pub inbound-fits : (m : Inbound) → length (inbound_bytes m) ≤ 65_534
inbound-fits (Enter m) = at-most _ 49 (length-written enter_order_laid_out m) (omega arith)
inbound-fits (Replace m) = at-most _ 47 (length-written replace_laid_out m) (omega arith)
inbound-fits (Cancel m) = at-most _ 19 (length-written cancel_laid_out m) (omega arith)
