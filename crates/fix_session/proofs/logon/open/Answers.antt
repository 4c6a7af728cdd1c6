use Rattle.std.proofs.Common.{◌∙◌, ap, refl}
use Rattle.session_law.specs.declared.kind.Kind.TheVariants as kinds
use Rattle.fix_fields.specs.Field.{Message, text}
use Rattle.session_law.specs.Session.{Given, Logon, said, quiet, logged, reset}
use Rattle.session_law.specs.Runs.{heard, at_moment}
use Rattle.fix_session.proofs.logon.open.Goals as goal

pub returns-clause-opened : goal.returns-clause-opened
returns-clause-opened c =
    let l : Logon = record { interval_text = text 108 c.args.m.now; interval = c.args.interval; resets = c.args.resets }
    in
    let begun = quiet (logged l (reset c.args.resets (heard (at_moment c.args.at c.args.session.now.session)))) in
    c.in_ok-say.ensures
    ∙ ap (λ (g : Given). said kinds.Logon c.in_ok-body.body g) (c.opened_at-draft.ensures.made l refl refl)
    ∙ ap (λ (b : Message). said kinds.Logon b begun) (c.in_ok-body.ensures c.args.interval)
