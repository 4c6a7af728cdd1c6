use Rattle.std.proofs.Common.{◌≡◌, ◌≤◌, ◌-◌, ◌∙◌, true, get_or, sym, arith, length, slice_get}
use Rattle.std.specs.Prelude.{Some, vec_len}
use Rattle.std.proofs.lemmas.List.{get_or_read_under}
use Rattle.std.proofs.lemmas.Option.{slice_get_read}
use Rattle.outstanding.specs.Marks.{is_settled}
use Rattle.outstanding.proofs.Chaining.{older-below, reaches-on}
use Rattle.outstanding.proofs.chains.Chains.past_settled.Goals as goal

pub loop-reach-preserved : goal.loop-reach-preserved
loop-reach-preserved c =
    let chains = c.args.self.now in
    let n = vec_len chains.heads in
    let p = c.loop-reach.reach - 1 in
    let inside : p ≤ length c.args.messages.now = omega arith in
    let is_read : c.index-reach.result.now ≡ get_or chains.older.items p 0 =
    get_or_read_under chains.older.items p (vec_len chains.older) c.index-reach.result.now 0
    c.index-reach.ensures (omega (arith, c.requires.chained.long)) (omega arith) in
    let below : c.index-reach.result.now ≤ p =
    older-below n chains.heads.items chains.older.items c.args.messages.now c.requires.chained p
    c.index-reach.result.now (omega arith) is_read in
    let at : slice_get c.args.messages.now p ≡ Some c.index-messages-place.result =
    slice_get_read c.args.messages.now (length c.args.messages.now) p c.index-messages-place.result (omega arith)
    (omega arith) c.index-messages-place.is in
    let settled : is_settled c.index-messages-place.result ≡ true =
    sym c.is_settled.ensures ∙ c.if-not-is_settled.false in (
      omega arith,
      λ b k reach. reaches-on n chains.heads.items chains.older.items c.args.messages.now c.requires.chained
          c.loop-reach.reach c.index-reach.result.now c.index-messages-place.result (omega arith) at settled is_read b k
          (c.loop-reach.invariant.1 b k reach),
    )
