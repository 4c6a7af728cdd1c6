use Rattle.std.proofs.Common.{◌∙◌, sym, ap, arith}
use Rattle.std.specs.Prelude.{vec_len}
use Rattle.std.proofs.lemmas.List.{get_or_read_under}
use Rattle.outstanding.specs.Chaining.{bucket}
use Rattle.outstanding.proofs.Chaining.{chained-linked}
use Rattle.outstanding.proofs.chains.Chains.link.Goals as goal

pub returns-clause-chained : goal.returns-clause-chained
returns-clause-chained c = λ xs x same chained.
    let chains = c.args.self.now in
    chained-linked (vec_len chains.heads) chains.heads.items chains.older.items c.push_reserved.new.self.items xs x
    chained (omega (arith, same)) c.bucket_of-bucket.result c.len-2.result c.index.result.now
    (omega (arith, c.bucket_of-bucket.ensures.inside, c.len.ensures))
    (c.bucket_of-bucket.ensures.bucket ∙ ap (λ n. bucket n c.args.order_id) c.len.ensures
    ∙ ap (bucket (vec_len chains.heads)) (sym same))
    (omega (arith, c.len-2.ensures, c.push_reserved.ensures.len, chained.long))
    (get_or_read_under chains.heads.items c.bucket_of-bucket.result (vec_len chains.heads) c.index.result.now 0
    c.index.ensures (omega (arith, c.bucket_of-bucket.ensures.inside, c.len.ensures)) (sym chained.wide))
    c.push_reserved.ensures.items
