use Rattle.order_accounts.proofs.Shelving.{put-there}
use Rattle.order_accounts.proofs.shelves.Shelves.put.Goals as goal

pub returns-clause-put : goal.returns-clause-put
returns-clause-put g c =
    put-there _ c.self.inside.shelves.items c.args.place c.index_mut.result.now c.push.new.self c.args.item
    c.args.self.now c.self.view_is c.requires c.index_mut.ensures.value c.in_ok-push.ensures.items
