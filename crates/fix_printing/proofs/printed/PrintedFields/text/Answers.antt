use Rattle.std.proofs.Common.{List, ℕ, take, ap, ◌∙◌, sym, subst}
use Rattle.fix_fields.specs.Field.{Field, AreFields, fields_text}
use Rattle.fix_fields.specs.Printed.{PrintsFields, fields_in}
use Rattle.fix_fields.proofs.Printing.{spelled-in}
use Rattle.fix_printing.proofs.printed.PrintedFields.text.Goals as goal

pub returns-clause-text : goal.returns-clause-text
returns-clause-text c =
    ap (λ (l : List ℕ). take c.self.inside.size l) c.deref.ensures.value
    ∙ sym (spelled-in (take c.self.inside.size c.self.inside.text.items) c.self.invariant.1).spelled
    ∙ ap (λ (fs : List Field). fields_text fs) c.self.view_is

pub returns-clause-fields : goal.returns-clause-fields
returns-clause-fields c = subst (λ (fs : List Field). AreFields fs) c.self.view_is
    (spelled-in (take c.self.inside.size c.self.inside.text.items) c.self.invariant.1).fields

pub returns-clause-prints : goal.returns-clause-prints
returns-clause-prints c = subst (λ (l : List ℕ). PrintsFields (take c.self.inside.size l))
    (sym c.deref.ensures.value) c.self.invariant.1

pub returns-clause-same : goal.returns-clause-same
returns-clause-same c = ap (λ (l : List ℕ). fields_in (take c.self.inside.size l)) c.deref.ensures.value
    ∙ c.self.view_is
