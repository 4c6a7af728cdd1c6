use Rattle.std.proofs.lemmas.Result.{on_ok_weaker}
use Rattle.journal_records.proofs.Fits.{turn-writable}
use Rattle.journal_records.proofs.turns.append_turn.Goals as goal

pub returns-clause-turn : goal.returns-clause-turn
returns-clause-turn c = on_ok_weaker c.append_whole.result
    (λ e. c.turn_fits.ensures.fits c.if-not-turn_fits.false) c.append_whole.ensures.ok

pub append_whole-requires : goal.append_whole-requires
append_whole-requires c = turn-writable _ _ (c.turn_fits.ensures.fits c.if-not-turn_fits.false)
