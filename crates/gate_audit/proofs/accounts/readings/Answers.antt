use Rattle.std.proofs.Common.{◌≡◌, ◌∙◌, List, [], length, ap}
use Rattle.std.proofs.lemmas.Result.{IfOk-weaker}
use Rattle.gate_law.specs.Events.{History}
use Rattle.gate_law.specs.Settings.{ClientSettings}
use Rattle.gate_law.specs.Holds.{Holds}
use Rattle.gate_journal.specs.Kept.{turns}
use Rattle.gate_audit.specs.Passes.{AreRead, told_whole}
use Rattle.gate_audit.specs.Read as read
use Rattle.gate_audit.specs.Read.{ReadOrder}
use Rattle.gate_audit.proofs.Agreeing.{readings-same, run-agrees}
use Rattle.gate_audit.proofs.Decoded.{if-ok, ok-held}
use Rattle.gate_audit.proofs.Owning.{accepted-are, accepted-unread, all-read-held, orders_accepted, read-held-all}
use Rattle.gate_audit.proofs.Owning.{readings-read}
use Rattle.gate_audit.proofs.accounts.readings.Goals as goal

pub returns-clause-read : goal.returns-clause-read
returns-clause-read c =
    let n = length c.args.settings.now.clients in
    let h : History = turns c.args.history.now in
    let orders : c.in_ok-orders.orders.items ≡ orders_accepted n h =
    accepted-are n (length c.clients-clients.result.now) h c.as_slice.result.now c.in_ok-orders.orders.items
    (c.as_slice.ensures.value ∙ c.in_ok-accepted.ensures.orders)
    (ap (λ (xs : List ClientSettings). length xs) c.clients-clients.ensures.clients) c.in_ok-orders.ensures in
    let unread = accepted-unread n h c.in_ok-orders.orders.items orders in
    IfOk-weaker c.read_all.result
    (λ now. (os : List ReadOrder) → AreRead os [] c.in_ok-orders.orders.items → AreRead os (told_whole h) now.items)
    (λ now. now.items ≡ read.readings n h) (λ now all. readings-read n h now.items (all (orders_accepted n h) unread))
    c.read_all.ensures.read

pub returns-clause-accepted : goal.returns-clause-accepted
returns-clause-accepted c =
    let n = length c.args.settings.now.clients in
    let h : History = turns c.args.history.now in
    let orders : c.in_ok-orders.orders.items ≡ orders_accepted n h =
    accepted-are n (length c.clients-clients.result.now) h c.as_slice.result.now c.in_ok-orders.orders.items
    (c.as_slice.ensures.value ∙ c.in_ok-accepted.ensures.orders)
    (ap (λ (xs : List ClientSettings). length xs) c.clients-clients.ensures.clients) c.in_ok-orders.ensures in
    let unread = accepted-unread n h c.in_ok-orders.orders.items orders in
    IfOk-weaker c.read_all.result
    (λ now. (os : List ReadOrder) → AreRead os [] c.in_ok-orders.orders.items → AreRead os (told_whole h) now.items)
    (λ now. Holds c.args.settings.now h → now.items ≡ read.accepted_readings c.args.settings.now h)
    (λ now all holds. readings-read n h now.items (all (orders_accepted n h) unread)
    ∙ readings-same c.args.settings.now h holds)
    c.read_all.ensures.read

pub returns-clause-agree : goal.returns-clause-agree
returns-clause-agree c = if-ok c.read_all.result (run-agrees c.args.settings.now (turns c.args.history.now))

pub returns-clause-held : goal.returns-clause-held
returns-clause-held c =
    let n = length c.args.settings.now.clients in
    let h : History = turns c.args.history.now in
    let orders : c.in_ok-orders.orders.items ≡ orders_accepted n h =
    accepted-are n (length c.clients-clients.result.now) h c.as_slice.result.now c.in_ok-orders.orders.items
    (c.as_slice.ensures.value ∙ c.in_ok-accepted.ensures.orders)
    (ap (λ (xs : List ClientSettings). length xs) c.clients-clients.ensures.clients) c.in_ok-orders.ensures in
    let unread = accepted-unread n h c.in_ok-orders.orders.items orders in
    ok-held c.read_all.result
    (λ now. (os : List ReadOrder) → AreRead os [] c.in_ok-orders.orders.items → AreRead os (told_whole h) now.items)
    (λ now all. all-read-held n h (all (orders_accepted n h) unread).held) c.read_all.ensures.read

pub returns-clause-large : goal.returns-clause-large
returns-clause-large c err held =
    let n = length c.args.settings.now.clients in
    let h : History = turns c.args.history.now in
    let orders : c.in_ok-orders.orders.items ≡ orders_accepted n h =
    accepted-are n (length c.clients-clients.result.now) h c.as_slice.result.now c.in_ok-orders.orders.items
    (c.as_slice.ensures.value ∙ c.in_ok-accepted.ensures.orders)
    (ap (λ (xs : List ClientSettings). length xs) c.clients-clients.ensures.clients) c.in_ok-orders.ensures in
    let unread = accepted-unread n h c.in_ok-orders.orders.items orders in
    c.read_all.ensures.large err (orders_accepted n h) unread (read-held-all n h held)
