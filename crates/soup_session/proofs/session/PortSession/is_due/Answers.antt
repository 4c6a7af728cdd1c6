use Rattle.std.proofs.Common.{◌≡◌, ◌∙◌, Option, Some, None, ap, length, nat_lt, refl, subst, sym}
use Rattle.std.specs.Prelude.{is_some, option_to_list}
use Rattle.soup_session.specs.Table.{OnTick}
use Rattle.soup_session.specs.Calls.{CallsLeave, PortHeld}
use Rattle.soup_session.proofs.Kept.{answers_call}
use Rattle.soup_session.proofs.session.PortSession.is_due.Goals as goal

some-listed : {X : Type 0} (o : Option X) → is_some o ≡ nat_lt 0 (length (option_to_list o))
some-listed None = refl
some-listed (Some x) = refl

pub returns : goal.returns
returns c = λ terms before l.
    c.is_some.ensures ∙ (some-listed c.on_tick.result.out ∙ ap (λ xs. nat_lt 0 (length xs))
    (answers_call terms before c.self.inside.port (OnTick c.args.at) c.on_tick.result
    (record { out = c.on_tick.result.out; is_delivered = c.on_tick.result.is_delivered }) c.on_tick.ensures refl refl
    (subst (λ (h : PortHeld). CallsLeave terms before h.port) (sym c.self.view_is) l)).outs)
