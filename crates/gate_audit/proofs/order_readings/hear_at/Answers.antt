use Rattle.std.proofs.Common.{◌≡◌, ◌∙◌, ◌<◌, ℕ, List, ap, get_or, length, take, arith}
use Rattle.std.proofs.Math.Seq.{map-set_same}
use Rattle.order_accounts.proofs.Shelving.{below-at}
use Rattle.gate_audit.specs.Read.{ReadOrder}
use Rattle.gate_audit.specs.Passes.{HasHeld, hears, order_id}
use Rattle.gate_audit.proofs.Rereading.{changed-more, each-at, each-set, length-changed-at}
use Rattle.gate_audit.proofs.order_readings.hear_at.Goals as goal

pub index_mut-requires : goal.index_mut-requires
index_mut-requires c =
    let old : List ReadOrder = c.args.orders.now.items in
    let i = c.loop-place.place-index in
    let below = below-at (length old) c.args.places.now i 0 c.requires c.loop-place-test.true in
    let many = ap (λ (os : List ReadOrder). length os) c.loop-place.invariant.heard in
    let same = length-changed-at (hears c.args.client c.args.report.now) (take i c.args.places.now) old in
    omega (arith, below, many, same)

pub loop-place-preserved : goal.loop-place-preserved
loop-place-preserved c =
    let old : List ReadOrder = c.args.orders.now.items in
    let now : List ReadOrder = c.loop-place.orders.items in
    let i = c.loop-place.place-index in
    let k : ℕ = get_or c.args.places.now i 0 in
    let x : ReadOrder = c.index_mut.result.now in
    let f : ReadOrder → ReadOrder = hears c.args.client c.args.report.now in
    let below = below-at (length old) c.args.places.now i 0 c.requires c.loop-place-test.true in
    let many = ap (λ (os : List ReadOrder). length os) c.loop-place.invariant.heard in
    let same = length-changed-at f (take i c.args.places.now) old in
    let within : k < length now = omega (arith, below, many, same) in
    let there : x ≡ get_or now k x = c.index_mut.ensures.value in
    record {
      heard = changed-more f old now c.args.places.now i 0 x c.hear.new.self c.loop-place-test.true within there
          c.in_ok-hear.ensures.heard c.loop-place.invariant.heard;
      same = map-set_same order_id now k c.hear.new.self x (c.hear.ensures.same ∙ ap order_id there)
          ∙ c.loop-place.invariant.same;
      held = λ each. each-set HasHeld now k c.hear.new.self (c.loop-place.invariant.held each)
          (c.in_ok-hear.ensures.held (each-at HasHeld now k x within there (c.loop-place.invariant.held each)));
    }

pub returns-in_err-hear-clause-same : goal.returns-in_err-hear-clause-same
returns-in_err-hear-clause-same c =
    let now : List ReadOrder = c.loop-place.orders.items in
    let k : ℕ = get_or c.args.places.now c.loop-place.place-index 0 in
    let x : ReadOrder = c.index_mut.result.now in
    let there : x ≡ get_or now k x = c.index_mut.ensures.value in
    map-set_same order_id now k c.hear.new.self x (c.hear.ensures.same ∙ ap order_id there)
    ∙ c.loop-place.invariant.same
