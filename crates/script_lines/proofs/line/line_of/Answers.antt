-- A line that begins with a name is the name, and what stands behind it.
use Rattle.std.specs.Prelude.{codes}
use Rattle.script_lines.specs.declared.client.Client.TheVariants as client
use Rattle.script_lines.specs.declared.port.Port.TheVariants as port
use Rattle.script_lines.proofs.Begins.{begins}
use Rattle.script_lines.proofs.Behind.{client_said, port_said}
use Rattle.script_lines.proofs.line.line_of.Goals as goal

pub returns-in-Some-strip_prefix-clause-said : goal.returns-in-Some-strip_prefix-clause-said
returns-in-Some-strip_prefix-clause-said c =
    let prefix = c.in-Some-strip_prefix.ensures.cases in
    client_said client.First c.args.text.now c.in-Some-strip_prefix.rest.now _
    (begins 3 (codes "C1 ") c.args.text.now c.in-Some-strip_prefix.rest.now prefix.0 prefix.1) prefix.1 c.client_line.ensures.said

pub returns-in-Some-strip_prefix-2-clause-said : goal.returns-in-Some-strip_prefix-2-clause-said
returns-in-Some-strip_prefix-2-clause-said c =
    let prefix = c.in-Some-strip_prefix-2.ensures.cases in
    client_said client.Second c.args.text.now c.in-Some-strip_prefix-2.rest.now _
    (begins 3 (codes "C2 ") c.args.text.now c.in-Some-strip_prefix-2.rest.now prefix.0 prefix.1) prefix.1 c.client_line-in-Some-strip_prefix-2.ensures.said

pub returns-in-Some-strip_prefix-3-clause-said : goal.returns-in-Some-strip_prefix-3-clause-said
returns-in-Some-strip_prefix-3-clause-said c =
    let prefix = c.in-Some-strip_prefix-3.ensures.cases in
    client_said client.Third c.args.text.now c.in-Some-strip_prefix-3.rest.now _
    (begins 3 (codes "C3 ") c.args.text.now c.in-Some-strip_prefix-3.rest.now prefix.0 prefix.1) prefix.1 c.client_line-in-Some-strip_prefix-3.ensures.said

pub returns-in-Some-strip_prefix-4-clause-said : goal.returns-in-Some-strip_prefix-4-clause-said
returns-in-Some-strip_prefix-4-clause-said c =
    let prefix = c.in-Some-strip_prefix-4.ensures.cases in
    port_said port.First c.args.text.now c.in-Some-strip_prefix-4.rest.now _
    (begins 3 (codes "P1 ") c.args.text.now c.in-Some-strip_prefix-4.rest.now prefix.0 prefix.1) prefix.1 c.port_line.ensures.said

pub returns-in-Some-strip_prefix-5-clause-said : goal.returns-in-Some-strip_prefix-5-clause-said
returns-in-Some-strip_prefix-5-clause-said c =
    let prefix = c.in-Some-strip_prefix-5.ensures.cases in
    port_said port.Second c.args.text.now c.in-Some-strip_prefix-5.rest.now _
    (begins 3 (codes "P2 ") c.args.text.now c.in-Some-strip_prefix-5.rest.now prefix.0 prefix.1) prefix.1 c.port_line-in-Some-strip_prefix-5.ensures.said
