use Rattle.std.proofs.Common.{◌≡◌, ◌-◌, true, length, take, drop, sym, ap, ◌∙◌}
use Rattle.std.proofs.lemmas.List.{take_rest}
use Rattle.market_sim.specs.Numbers.{number_asked}
use Rattle.market_sim.specs.Sim as spec
use Rattle.market_sim.proofs.sim.login_number.Goals as goal

pub returns-clause-number : goal.returns-clause-number
returns-clause-number c =
    let p = c.args.payload.now in
    let size = c.if-payload-ne46.false in
    let here : spec.is_session_here (take 10 (drop 16 p)) ≡ true = sym c.is_session_here.ensures
    ∙ c.if-not-is_session_here.false in
    let whole : take (length p - 26) (drop 26 p) ≡ drop 26 p = take_rest p 26 in
    let known : c.known_number.result ≡ spec.known_number c.args.count (number_asked (drop 26 p)) =
    c.known_number.ensures.number ∙ ap (spec.known_number c.args.count) (c.number_asked.ensures ∙ ap number_asked whole)
    in
    rw (size, here) known
