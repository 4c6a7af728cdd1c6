use Rattle.std.proofs.Common.{◌≡◌, List, ap, ◌∙◌, slice_set, subst, sym}
use Rattle.std.specs.Prelude.{◌==◌}
use Rattle.undo_index.specs.Undoing.{Undoable}
use Rattle.order_table.specs.declared.sums.Sums.{Sums}
use Rattle.order_table.specs.Sums.{IsExchanged, sums_at}
use Rattle.order_table.proofs.Summed.{exchanged-at, exchanged_for}
use Rattle.order_table.proofs.client_sums.ClientSums.exchange.Goals as goal

pub returns-clause-now : goal.returns-clause-now
returns-clause-now c = λ other.
    let kept = c.args.self.now.now in
    let client = c.args.client in
    let was = c.args.was in
    let becomes = c.args.becomes in
    let written : c.change.new.self.now ≡ slice_set kept client (exchanged_for was becomes (sums_at kept client)) =
    c.change.ensures.now
    ∙ ap (λ (u : Undoable Sums). slice_set u.now client (exchanged_for was becomes c.of-sums.result)) c.self.view_is
    ∙ ap (λ (s : Sums). slice_set kept client (exchanged_for was becomes s)) c.of-sums.ensures in
    subst (λ (now : List Sums). IsExchanged (client == other) was becomes (sums_at kept other) (sums_at now other))
    (sym written) (exchanged-at kept client was becomes other c.requires.inside c.requires.within)
