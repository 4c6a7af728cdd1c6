use Rattle.std.proofs.Common.{◌≡◌, ◌-◌, ◌*◌, refl, ap, ◌∙◌, arith}
use Rattle.order_law.specs.Reading.{Fill, Reading}
use Rattle.order_accounts.proofs.reading.Reading.take_back.Goals as goal

pub returns-in_default-clause-known : goal.returns-in_default-clause-known
returns-in_default-clause-known c = λ f e.
    let fills : c.as_slice.result.now ≡ c.args.self.now.fills = c.as_slice.ensures.value
    ∙ ap (λ (x : Reading). x.fills) c.self.view_is in
    let none = rw (c.text.ensures, fills) at c.in_default.ensures in
    absurd (cc (none, e))

pub returns-clause-known : goal.returns-clause-known
returns-clause-known c = λ f e.
    let fills : c.as_slice.result.now ≡ c.args.self.now.fills = c.as_slice.ensures.value
    ∙ ap (λ (x : Reading). x.fills) c.self.view_is in
    let some = rw (c.text.ensures, fills) at c.in-Some.ensures in
    let same : c.in-Some.fill.now ≡ f = cc (some, e) in
    let shares : c.fill.inside.shares ≡ f.shares = ap (λ (g : Fill). g.shares) (c.fill.view_is ∙ same) in
    let price : c.fill.inside.price ≡ f.price = ap (λ (g : Fill). g.price) (c.fill.view_is ∙ same) in
    let product : c.fill.inside.shares * c.fill.inside.price ≡ f.shares * f.price = rw (shares, price) refl in
    let executed : c.saturating_sub-self-inside.result ≡ c.self.inside.executed - f.shares = omega arith in
    let value : c.saturating_sub-self-inside-2.result ≡ c.self.inside.value - f.shares * f.price = omega arith in
    rw (executed, value, ← c.self.view_is) refl

pub returns-clause-unknown : goal.returns-clause-unknown
returns-clause-unknown c = λ e.
    let fills : c.as_slice.result.now ≡ c.args.self.now.fills = c.as_slice.ensures.value
    ∙ ap (λ (x : Reading). x.fills) c.self.view_is in
    let some = rw (c.text.ensures, fills) at c.in-Some.ensures in
    absurd (cc (some, e))
