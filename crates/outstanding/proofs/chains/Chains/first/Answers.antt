use Rattle.std.proofs.Common.{◌<◌, ◌∙◌, length, sym, ap, subst, arith}
use Rattle.std.specs.Prelude.{vec_len}
use Rattle.std.proofs.lemmas.List.{get_or_read_under}
use Rattle.outstanding.specs.Chaining.{Reaches, bucket}
use Rattle.outstanding.proofs.Chaining.{chained-begins}
use Rattle.outstanding.proofs.chains.Chains.first.Goals as goal

pub returns-clause-chained : goal.returns-clause-chained
returns-clause-chained c =
    let chains = c.args.self.now in
    let n = vec_len chains.heads in
    let xs = c.args.messages.now in
    let b = c.bucket_of-bucket.result in
    let inside : b < n = omega (arith, c.bucket_of-bucket.ensures.inside, c.len.ensures) in
    chained-begins n chains.heads.items chains.older.items xs c.requires.chained b c.past_settled-reach.result inside
    (c.past_settled-reach.ensures.reach b (length xs)
    (subst (λ r. Reaches n xs b r (length xs))
    (sym (get_or_read_under chains.heads.items b n c.index.result.now 0 c.index.ensures inside
    (sym c.requires.chained.wide))) (c.requires.chained.begins b inside)))

pub returns-clause-reach : goal.returns-clause-reach
returns-clause-reach c =
    let chains = c.args.self.now in
    let n = vec_len chains.heads in
    let xs = c.args.messages.now in
    let b = c.bucket_of-bucket.result in
    let inside : b < n = omega (arith, c.bucket_of-bucket.ensures.inside, c.len.ensures) in
    subst (λ d. Reaches n xs d c.past_settled-reach.result (length xs))
    (c.bucket_of-bucket.ensures.bucket ∙ ap (λ m. bucket m c.args.order_id) c.len.ensures)
    (c.past_settled-reach.ensures.reach b (length xs)
    (subst (λ r. Reaches n xs b r (length xs))
    (sym (get_or_read_under chains.heads.items b n c.index.result.now 0 c.index.ensures inside
    (sym c.requires.chained.wide))) (c.requires.chained.begins b inside)))
