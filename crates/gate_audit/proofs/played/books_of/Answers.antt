use Rattle.std.proofs.Common.{◌≡◌, ◌<◌, ◌+◌, ◌∙◌, List, length, ap, sym, subst, arith, get_or}
use Rattle.std.proofs.Common.{true}
use Rattle.std.specs.List.{All}
use Rattle.gate_core.specs.gate_settings.Kept.{IsOnPort}
use Rattle.gate_law.specs.Settings.{ClientSettings, Settings, has_port, port_of}
use Rattle.order_law.specs.History.{Terms}
use Rattle.gate_journal.specs.Kept.{turns}
use Rattle.gate_audit.specs.Played.{books_of}
use Rattle.gate_audit.specs.Read.{for_clients}
use Rattle.gate_audit.proofs.Pairing.{terms-at}
use Rattle.gate_audit.proofs.Playing.{books-more, known-port}
use Rattle.gate_audit.proofs.played.books_of.Goals as goal

pub loop-place-preserved : goal.loop-place-preserved
loop-place-preserved c =
    let s : Settings = c.args.settings.now in
    let n = c.loop-place.place in
    let inside : n < length s.clients = omega
    (arith, c.loop-place-test.true, c.loop-place.auto.place-end, ap length c.clients-place-end.ensures.clients) in
    let port : c.own.inside.terms.port ≡ port_of s (n + 1) =
    ap (λ (x : ClientSettings). x.terms.port) c.own.view_is
    ∙ ap (λ (x : ClientSettings). x.terms.port) c.index-clients-place.is
    ∙ ap (λ (xs : List ClientSettings). (get_or xs n c.index-clients-place.result).terms.port) c.clients.ensures.clients
    ∙ sym (ap (λ (t : Terms). t.port) (terms-at s.clients n c.index-clients-place.result inside)) in
    let ports : All (IsOnPort (length s.ports)) s.clients =
    subst (λ (cs : List ClientSettings). All (IsOnPort (length s.ports)) cs) c.clients-place-end.ensures.clients
    c.clients-place-end.ensures.ports in
    let has : has_port s c.own.inside.terms.port ≡ true = ap (has_port s) port
    ∙ known-port s ports (n + 1) (omega arith) (omega (arith, inside)) in
    λ x same.
    c.in_ok-push_rows.ensures s x same has
    ∙ books-more s x n c.own.inside.terms.port c.loop-place.books.items c.as_slice.result.now
    (turns c.history.result.now) (c.history.ensures s x same) port
    (c.as_slice.ensures.value ∙ c.in_ok-openings.ensures.opened.orders) (c.loop-place.invariant x same)

pub returns : goal.returns
returns c = λ x same.
    let s : Settings = c.args.settings.now in
    let clients : length c.clients-place-end.result.now ≡ length s.clients =
    ap length c.clients-place-end.ensures.clients in
    let all : c.loop-place.place ≡ length s.clients =
    omega (arith, clients, c.loop-place-test.false, c.loop-place.auto.place-end) in
    c.loop-place.invariant x same ∙ ap (for_clients (books_of s x)) all
