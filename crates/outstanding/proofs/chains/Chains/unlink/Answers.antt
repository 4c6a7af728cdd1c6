use Rattle.std.proofs.Common.{◌∙◌, sym, ap, arith}
use Rattle.std.specs.Prelude.{vec_len}
use Rattle.outstanding.specs.Chaining.{bucket}
use Rattle.outstanding.proofs.Chaining.{chained-unlinked}
use Rattle.outstanding.proofs.chains.Chains.unlink.Goals as goal

pub returns-clause-chained : goal.returns-clause-chained
returns-clause-chained c = λ xs x same chained.
    let chains = c.args.self.now in
    chained-unlinked (vec_len chains.heads) chains.heads.items chains.older.items c.take_last.new.self.items xs x
    c.bucket_of-bucket.result c.take_last.result
    (omega (arith, c.bucket_of-bucket.ensures.inside, c.len.ensures))
    (c.bucket_of-bucket.ensures.bucket ∙ ap (λ n. bucket n c.args.order_id) c.len.ensures
    ∙ ap (bucket (vec_len chains.heads)) (sym same))
    c.take_last.ensures.items chained
