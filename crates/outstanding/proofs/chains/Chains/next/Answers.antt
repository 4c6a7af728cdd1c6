use Rattle.std.proofs.Common.{◌≡◌, get_or, length, sym, subst, arith}
use Rattle.std.specs.Prelude.{vec_len}
use Rattle.std.proofs.lemmas.List.{get_or_read_under}
use Rattle.outstanding.specs.Chaining.{Reaches, bucket}
use Rattle.outstanding.proofs.Chaining.{chained-goes_on, get-there, older-below}
use Rattle.outstanding.proofs.chains.Chains.next.Goals as goal

pub past_settled-reach-requires-clause-inside : goal.past_settled-reach-requires-clause-inside
past_settled-reach-requires-clause-inside c =
    let chains = c.args.self.now in
    let xs = c.args.messages.now in
    let is_read : c.index.result.now ≡ get_or chains.older.items c.args.place 0 =
    get_or_read_under chains.older.items c.args.place (length xs) c.index.result.now 0 c.index.ensures
    c.requires.inside (sym c.requires.chained.long) in
    omega (
      arith,
      older-below (vec_len chains.heads) chains.heads.items chains.older.items xs c.requires.chained
          c.args.place c.index.result.now c.requires.inside is_read,
      c.requires.inside,
    )

pub returns-clause-chained : goal.returns-clause-chained
returns-clause-chained c =
    let chains = c.args.self.now in
    let n = vec_len chains.heads in
    let xs = c.args.messages.now in
    let p = c.args.place in
    let is_read : c.index.result.now ≡ get_or chains.older.items p 0 =
    get_or_read_under chains.older.items p (length xs) c.index.result.now 0 c.index.ensures
    c.requires.inside (sym c.requires.chained.long) in
    let it = get-there xs p c.requires.inside in
    chained-goes_on n chains.heads.items chains.older.items xs c.requires.chained p c.past_settled-reach.result it.0
    it.1
    (c.past_settled-reach.ensures.reach (bucket n it.0.order_id) p
    (subst (λ r. Reaches n xs (bucket n it.0.order_id) r p) (sym is_read) (c.requires.chained.goes_on p it.0 it.1)))

pub returns-clause-reach : goal.returns-clause-reach
returns-clause-reach c = λ x at.
    let chains = c.args.self.now in
    let n = vec_len chains.heads in
    let xs = c.args.messages.now in
    let p = c.args.place in
    let is_read : c.index.result.now ≡ get_or chains.older.items p 0 =
    get_or_read_under chains.older.items p (length xs) c.index.result.now 0 c.index.ensures
    c.requires.inside (sym c.requires.chained.long) in
    c.past_settled-reach.ensures.reach (bucket n x.order_id) p
    (subst (λ r. Reaches n xs (bucket n x.order_id) r p) (sym is_read) (c.requires.chained.goes_on p x at))

pub returns-clause-below : goal.returns-clause-below
returns-clause-below c =
    let chains = c.args.self.now in
    let xs = c.args.messages.now in
    let is_read : c.index.result.now ≡ get_or chains.older.items c.args.place 0 =
    get_or_read_under chains.older.items c.args.place (length xs) c.index.result.now 0 c.index.ensures
    c.requires.inside (sym c.requires.chained.long) in
    omega (
      arith,
      older-below (vec_len chains.heads) chains.heads.items chains.older.items xs c.requires.chained
          c.args.place c.index.result.now c.requires.inside is_read,
      c.past_settled-reach.ensures.below,
    )
