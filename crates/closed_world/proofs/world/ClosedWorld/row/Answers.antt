use Rattle.std.proofs.Common.{◌≡◌, ◌+◌, ◌<◌, ◌∙◌, true, false, length, ap, sym, arith}
use Rattle.market_law.specs.Rows.{row}
use Rattle.closed_world.specs.Lines.{Line}
use Rattle.closed_world.proofs.Going.{is-port, line-there}
use Rattle.closed_world.proofs.world.ClosedWorld.row.Goals as goal

pub returns-in-Some-clause-row : goal.returns-in-Some-clause-row
returns-in-Some-clause-row c =
    let counted : c.len.result ≡ length c.args.self.now.ports.items = c.len.ensures ∙ c.args.self.now.ports.ok.0 in
    let inside : c.in-Some.place < length c.args.self.now.ports.items =
    omega (arith, c.in-Some.ensures.place.1, counted) in
    λ s x same has.
    c.row.ensures ∙ ap (λ (l : Line). row l.market.book.book c.args.token.now)
    (line-there s x c.args.port c.args.self.now c.in-Some.place c.index.result.now c.in-Some.ensures.place.0 inside
    c.index.ensures same)

pub returns-in-Some-clause-none : goal.returns-in-Some-clause-none
returns-in-Some-clause-none c =
    let counted : c.len.result ≡ length c.args.self.now.ports.items = c.len.ensures ∙ c.args.self.now.ports.ok.0 in
    λ s x same none.
    absurd (let both : false ≡ true = sym none
    ∙ is-port s c.args.port c.len.result (counted ∙ same.count) c.in-Some.ensures.known in cc)
