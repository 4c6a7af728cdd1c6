use Rattle.std.proofs.Common.{rules, ◌≡◌, ◌∙◌, ◌++◌, ◌∷◌, [], Bool, true, false, List, ap}
use Rattle.std.specs.Prelude.{◌==◌}
use Rattle.market_law.specs.declared.row.BookRow.{BookRow}
use Rattle.market_law.specs.Rows.{row}
use Rattle.gate_audit.specs.Pairs.{OpenedOrder}
use Rattle.gate_audit.specs.Played.{book_of}
use Rattle.gate_audit.proofs.Shelved.{made-more, made-same}
use Rattle.gate_audit.proofs.played.push_rows.Goals as goal
use Rattle.gate_audit.proofs.played.push_rows.Goals.{then-opening-client+in_ok-push, else-opening-client}

pub loop-opening-preserved : goal.loop-opening-preserved
loop-opening-preserved c =
    let os : List OpenedOrder = c.args.openings.now in
    let i = c.loop-opening.opening-index in
    let o : OpenedOrder = c.opening-item.result in
    let old = c.args.books.now.items in
    let p : OpenedOrder → Bool = λ (x : OpenedOrder). x.client == c.args.client in
    elim c.if-opening-client.branch [
      | then-opening-client+in_ok-push w ↦
          let own : (o.client == c.args.client) ≡ true = search (rules, w.if-opening-client, c.opening.view_is) in
          λ s x same has.
          ap (λ v. v.items) w.books-is ∙ (w.in_ok-push.ensures.items
          ∙ (ap (λ (ys : List BookRow). ys ++ w.row.result ∷ []) (c.loop-opening.invariant s x same has)
          ∙ made-more (book_of x c.args.port) p os i o old w.row.result c.loop-opening-test.true c.opening-item.is own
          (w.row.ensures.row s x same has ∙ ap (row (x.markets c.args.port).book.book)
          (w.bytes.ensures.bytes ∙ ap (λ (z : OpenedOrder). z.root) c.opening.view_is))))
      | else-opening-client w ↦
          let other : (o.client == c.args.client) ≡ false = search (rules, w.if-opening-client, c.opening.view_is) in
          λ s x same has.
          ap (λ v. v.items) w.books-is ∙ (c.loop-opening.invariant s x same has
          ∙ made-same (book_of x c.args.port) p os i o old c.loop-opening-test.true c.opening-item.is other)
    ]
