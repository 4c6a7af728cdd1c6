use Rattle.std.proofs.Common.{sym, ap, ◌∙◌, ◌++◌, append-nil}
use Rattle.gate_lines.proofs.ToMarket.{shown-enter, shown-replace, shown-cancel, shown-nothing}
use Rattle.gate_lines.proofs.messages.push_message.Goals as goal

pub returns-in-Some : goal.returns-in-Some
returns-in-Some c =
    rw (shown-enter c.in-Some.order c.args.bytes.now c.in-Some.ensures.same) c.push_enter_order.ensures

pub returns-in-Some-get : goal.returns-in-Some-get
returns-in-Some-get c =
    rw (shown-replace c.in-Some-get.replace c.args.bytes.now c.in-Some-get.ensures.same c.in_default.ensures.spelled.1)
    c.push_replace.ensures

pub returns-in-Some-get-2 : goal.returns-in-Some-get-2
returns-in-Some-get-2 c =
    rw (shown-cancel c.in-Some-get-2.cancel c.args.bytes.now c.in-Some-get-2.ensures.same c.in_default.ensures.spelled.1
    c.in_default-get.ensures.spelled.1) c.push_cancel.ensures

pub returns : goal.returns
returns c =
    let none = shown-nothing c.args.bytes.now c.in_default.ensures.spelled.1 c.in_default-get.ensures.spelled.1
    c.in_default-get-2.ensures.spelled.1 in
    sym (ap (λ text. c.args.text.now.items ++ text) none ∙ append-nil c.args.text.now.items)
