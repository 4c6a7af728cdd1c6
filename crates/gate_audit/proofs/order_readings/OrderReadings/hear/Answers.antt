use Rattle.std.proofs.Common.{◌<◌, ℕ, List, length, map, subst, sym}
use Rattle.order_accounts.specs.Shelved.{AreBelow, HasOrders, IsNear}
use Rattle.order_accounts.proofs.Shelving.{below-at}
use Rattle.gate_law.specs.fix_fields.Field.{Message, text}
use Rattle.gate_audit.specs.Read.{ReadOrder}
use Rattle.gate_audit.specs.Passes.{AreRead, HasHeld, hears, order_id}
use Rattle.gate_audit.proofs.Decoded.{on-ok-both}
use Rattle.gate_audit.proofs.Rereading.{each-at, heard-by-all, held-each, near-below, read-more, still-there}
use Rattle.gate_audit.proofs.order_readings.OrderReadings.hear.Goals as goal

pub hear_at-requires : goal.hear_at-requires
hear_at-requires c =
    near-below c.self.inside.orders.items c.text.result.now c.near-near.result.now
    (c.near-near.ensures (map order_id c.self.inside.orders.items) c.self.invariant)

pub invariant_of-self : goal.invariant_of-self
invariant_of-self c =
    subst (λ (keys : List (List ℕ)). HasOrders keys c.self.inside.places) (sym c.hear_at.ensures.same)
    c.self.invariant

pub returns-clause-read : goal.returns-clause-read
returns-clause-read c =
    let old : List ReadOrder = c.self.inside.orders.items in
    let keys : List (List ℕ) = map order_id old in
    let r : Message = c.args.report.now in
    let near : IsNear (text 37 r) keys c.near-near.result.now =
    subst (λ (t : List ℕ). IsNear t keys c.near-near.result.now) c.text.ensures.text
    (c.near-near.ensures keys c.self.invariant) in
    on-ok-both c.hear_at.result
    (λ heard held os all are. read-more c.args.client r all os old c.hear_at.new.orders.items
    (subst (AreRead os all) (sym c.self.view_is) are)
    (heard-by-all c.args.client r old c.hear_at.new.orders.items c.near-near.result.now near heard) held)
    c.hear_at.ensures.heard c.hear_at.ensures.held

pub returns-clause-large : goal.returns-clause-large
returns-clause-large c = λ os all are err stay.
    let old : List ReadOrder = c.self.inside.orders.items in
    let keys : List (List ℕ) = map order_id old in
    let r : Message = c.args.report.now in
    let places : List ℕ = c.near-near.result.now in
    let near : IsNear (text 37 r) keys places =
    subst (λ (t : List ℕ). IsNear t keys places) c.text.ensures.text
    (c.near-near.ensures keys c.self.invariant) in
    let below : AreBelow (length old) places = near-below old (text 37 r) places near in
    c.hear_at.ensures.large err
    (λ i k o inside is there. each-at (λ (x : ReadOrder). HasHeld (hears c.args.client r x)) old k o
    (subst (λ (n : ℕ). n < length old) (sym is) (below-at (length old) places i k below inside))
    (still-there (hears c.args.client r) old (text 37 r) places near i k o inside is there)
    (held-each c.args.client r all os old (subst (AreRead os all) (sym c.self.view_is) are) stay))
