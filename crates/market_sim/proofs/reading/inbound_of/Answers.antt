use Rattle.std.proofs.Common.{◌≡◌, List, ℕ, Option, None, subst}
use Rattle.std.specs.Prelude.{◌↔◌, IsSome}
use Rattle.ouch_codec.specs.declared.inbound.Inbound.{Inbound}
use Rattle.ouch_codec.specs.declared.inbound.Inbound.TheVariants as asked
use Rattle.ouch_codec.specs.Inbound.{inbound_bytes}
use Rattle.ouch_codec.specs.Layout.{IsMessage}
use Rattle.ouch_codec.specs.Layouts.{cancel_layout, enter_order_layout, replace_layout}
use Rattle.ouch_codec.specs.LaidOut.{IsMessage-written}
use Rattle.ouch_codec.specs.EnterOrderLaws.{enter_order_laid_out}
use Rattle.ouch_codec.specs.ReplaceLaws.{replace_laid_out}
use Rattle.ouch_codec.specs.CancelLaws.{cancel_laid_out}
use Rattle.market_sim.proofs.reading.inbound_of.Goals as goal

-- bytes that are of no layout are no message
none : (payload : List ℕ) → (IsMessage enter_order_layout payload → ⊥) → (IsMessage replace_layout payload → ⊥)
    → (IsMessage cancel_layout payload → ⊥) → (message : Inbound) → inbound_bytes message ≡ payload → ⊥
none payload enter replace cancel (asked.Enter m) e =
    enter (subst (IsMessage enter_order_layout) e (IsMessage-written enter_order_laid_out m))
none payload enter replace cancel (asked.Replace m) e =
    replace (subst (IsMessage replace_layout) e (IsMessage-written replace_laid_out m))
none payload enter replace cancel (asked.Cancel m) e =
    cancel (subst (IsMessage cancel_layout) e (IsMessage-written cancel_laid_out m))

absent : {A : Type 0} (read : Option A) (P : Type 0) → (IsSome read ↔ P) → read ≡ None → P → ⊥
absent {A} read P both e p = let some : IsSome {T = A} None = subst IsSome e (both.1 p) in absurd (cc)

pub returns-in-None : goal.returns-in-None
returns-in-None c =
    let payload = c.args.payload.now in
    let enter : IsMessage enter_order_layout payload → ⊥ =
    absent c.get.result (IsMessage enter_order_layout payload) c.get.ensures.spelled c.in_default.is in
    let replace : IsMessage replace_layout payload → ⊥ =
    absent c.get-2.result (IsMessage replace_layout payload) c.get-2.ensures.spelled c.in_default-get.is in
    let cancel : IsMessage cancel_layout payload → ⊥ =
    absent c.get-3.result (IsMessage cancel_layout payload) c.get-3.ensures.spelled c.in-None.is in
    none payload enter replace cancel
