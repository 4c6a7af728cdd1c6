use Rattle.std.proofs.Common.{◌+◌, ℕ, List, Option, Some, None, map, refl, sym, subst}
use Rattle.std.proofs.lemmas.Result.{IfOk-weaker}
use Rattle.soup_session.specs.Table.{OnPacket}
use Rattle.fix_types.specs.declared.application.AppBody.{AppBody}
use Rattle.fix_types.specs.Application.{body_fields}
use Rattle.fix_fields.specs.Field.{Message}
use Rattle.gate_law.specs.Lists.{Lists, port_called}
use Rattle.gate_core.specs.declared.parts.port_payloads.Judged.{Judged}
use Rattle.gate_core.specs.Steps.{PayloadIsJudged, PayloadIsTold}
use Rattle.gate_core.proofs.Growing.{grows-then}
use Rattle.gate_core.proofs.parts.Parts.payload_delivered.Goals as goal

pub returns-in-Told-Some-default-clause-step : goal.returns-in-Told-Some-default-clause-step
returns-in-Told-Some-default-clause-step g c =
    IfOk-weaker c.tell.result _ _
    (λ b step s v link packet given.
    let p = c.args.place + 1 in
    let w : Lists = port_called p (OnPacket packet c.args.at) v in
    let judged : PayloadIsJudged s p c.args.payload.now c.in_ok-client.field-0 w c.judge.new.self =
    c.in_ok-client.ensures.turn s w given.few given.parts in
    let told = subst (λ (j : Judged). PayloadIsJudged s p c.args.payload.now j w c.judge.new.self)
    c.in-Told-Some-default.is judged in
    let to_client = subst (λ (q : Option ℕ). PayloadIsTold s p c.args.payload.now q
    (map body_fields c.in-Told-Some-default.bodies.items) w c.judge.new.self) c.in-Told-Some-default.client-is told
    in
    step s v link packet c.args.payload.now c.args.self.now given
    (subst (λ (xs : List AppBody). PayloadIsTold s p c.args.payload.now (Some c.in-Told-Some-default.client)
    (map body_fields xs) w c.judge.new.self) (sym c.deref.ensures.value) to_client))
    c.tell.ensures.step

pub returns-in-Told-Some-default-clause-grows : goal.returns-in-Told-Some-default-clause-grows
returns-in-Told-Some-default-clause-grows g c = grows-then 3 0 0 0 _ _ _ c.judge.ensures.grows c.tell.ensures.grows

pub returns-in-Told-None-default-clause-step : goal.returns-in-Told-None-default-clause-step
returns-in-Told-None-default-clause-step g c =
    IfOk-weaker c.tell_nobody.result _ _
    (λ b step s v link packet given.
    let p = c.args.place + 1 in
    let w : Lists = port_called p (OnPacket packet c.args.at) v in
    let bs = map body_fields c.in-Told-None-default.bodies.items in
    let judged : PayloadIsJudged s p c.args.payload.now c.in_ok-client.field-0 w c.judge.new.self =
    c.in_ok-client.ensures.turn s w given.few given.parts in
    let told = subst (λ (j : Judged). PayloadIsJudged s p c.args.payload.now j w c.judge.new.self)
    c.in-Told-None-default.is judged in
    let to_nobody = subst (λ (q : Option ℕ). PayloadIsTold s p c.args.payload.now q bs w c.judge.new.self)
    c.in-Told-None-default.client-is told in
    step s v link c.args.at packet c.args.payload.now c.args.self.now given
    (subst (λ (xs : List Message). PayloadIsTold s p c.args.payload.now None xs w c.judge.new.self)
    (to_nobody.nobody refl) to_nobody))
    c.tell_nobody.ensures.step

pub returns-in-Told-None-default-clause-grows : goal.returns-in-Told-None-default-clause-grows
returns-in-Told-None-default-clause-grows g c =
    grows-then 3 0 0 0 _ _ _ c.judge.ensures.grows c.tell_nobody.ensures.grows

pub returns-in-Faulty-clause-step : goal.returns-in-Faulty-clause-step
returns-in-Faulty-clause-step g c =
    IfOk-weaker c.fault.result _ _
    (λ b step s v link packet given.
    let p = c.args.place + 1 in
    let w : Lists = port_called p (OnPacket packet c.args.at) v in
    let judged : PayloadIsJudged s p c.args.payload.now c.in_ok-client.field-0 w c.judge.new.self =
    c.in_ok-client.ensures.turn s w given.few given.parts in
    step s v link c.args.at packet c.args.payload.now c.args.self.now given
    (subst (λ (j : Judged). PayloadIsJudged s p c.args.payload.now j w c.judge.new.self) c.in-Faulty.is judged))
    c.fault.ensures.step

pub returns-in-Faulty-clause-grows : goal.returns-in-Faulty-clause-grows
returns-in-Faulty-clause-grows g c = grows-then 3 0 0 0 _ _ _ c.judge.ensures.grows c.fault.ensures.grows
