use Rattle.std.proofs.Common.{◌≡◌, ◌∙◌, ◌<◌, ℕ, List, [], ap, get_or, length, reverse, subst, sym}
use Rattle.std.proofs.lemmas.Result.{IfOk-weaker}
use Rattle.ouch_codec.specs.declared.outbound.Outbound.{Outbound}
use Rattle.order_law.specs.Life.{life}
use Rattle.order_accounts.specs.Places.{lead}
use Rattle.order_accounts.specs.Shelved.{AreBelow, picked}
use Rattle.order_accounts.proofs.LivedAlike.{on-shelf, shelf-below}
use Rattle.order_accounts.proofs.messages.MessageShelves.life.Goals as goal

pub those_at-requires : goal.those_at-requires
those_at-requires c =
    let leads : List ℕ = c.self.inside.chains in
    subst (λ (n : ℕ). AreBelow n c.shelf-shelf.result.now)
    (ap (λ (ms : List Outbound). length ms) c.self.view_is)
    (subst (AreBelow (length c.self.inside.heard.items)) (sym c.shelf-shelf.ensures)
    (shelf-below leads c.self.inside.heard.items c.self.inside.shelves c.lead.result c.lead.ensures.within
    (c.self.invariant c.if-self.true)))

pub returns-in_ok-near : goal.returns-in_ok-near
returns-in_ok-near c =
    let leads : List ℕ = c.self.inside.chains in
    let root = c.args.root.now in
    let shelf : c.shelf-shelf.result.now ≡ get_or c.self.inside.shelves (lead leads root) [] =
    c.shelf-shelf.ensures ∙ ap (λ (k : ℕ). get_or c.self.inside.shelves k []) c.lead.ensures.place in
    let near : c.as_slice.result.now
    ≡ picked c.self.inside.heard.items (get_or c.self.inside.shelves (lead leads root) []) =
    c.as_slice.ensures.value ∙ (c.in_ok-near.ensures
    ∙ (ap (λ (ms : List Outbound). picked ms c.shelf-shelf.result.now) (sym c.self.view_is)
    ∙ ap (picked c.self.inside.heard.items) shelf)) in
    let same : life root c.args.side (reverse c.as_slice.result.now)
    ≡ life root c.args.side (reverse c.args.self.now) =
    ap (λ (ms : List Outbound). life root c.args.side (reverse ms)) near
    ∙ (on-shelf leads c.self.inside.heard.items c.self.inside.shelves root c.args.side
    (subst (λ (k : ℕ). k < length leads) c.lead.ensures.place c.lead.ensures.within)
    (c.self.invariant c.if-self.true)
    ∙ ap (λ (ms : List Outbound). life root c.args.side (reverse ms)) c.self.view_is) in
    IfOk-weaker c.life_of.result (λ l. l ≡ life root c.args.side (reverse c.as_slice.result.now))
    (λ l. l ≡ life root c.args.side (reverse c.args.self.now)) (λ l is. is ∙ same) c.life_of.ensures
