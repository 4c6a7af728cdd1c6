-- A board of lines that a history leaves says how that history leaves them.
use Rattle.std.proofs.Common.{◌≡◌, ℕ, zero, suc, ◌+◌, ◌<◌, ◌++◌, ◌∷◌, [], List, Some, length, get_or, map, refl, sym}
use Rattle.std.proofs.Common.{ap, ◌∙◌, subst}
use Rattle.std.proofs.lemmas.Option.{slice_get_read}
use Rattle.std.specs.Prelude.{slice_get}
use Rattle.std.proofs.lemmas.List.{length-map}
use Rattle.session_law.specs.Session.{State, next_out}
use Rattle.session_law.specs.Table.{is_logged_on}
use Rattle.soup_session.specs.Calls.{CallsLeave}
use Rattle.soup_session.specs.declared.machine.Port.{Port}
use Rattle.gate_sessions.specs.order_law.History.{OrderHistory, issued}
use Rattle.gate_law.specs.Settings.{Settings}
use Rattle.gate_law.specs.Events.{History}
use Rattle.gate_law.specs.Lists.{Lists}
use Rattle.gate_law.specs.After.{lists}
use Rattle.gate_law.specs.Sessions.{port_state}
use Rattle.gate_sessions.specs.declared.client_line.ClientLine.{ClientLine}
use Rattle.gate_sessions.specs.declared.port_line.PortLine.{PortLine}
use Rattle.gate_sessions.specs.Leaving.{ClientLeaves, PortLeaves}
use Rattle.gate_core.specs.declared.board.Board.{Board}
use Rattle.gate_core.specs.declared.board.ClientRow.{ClientRow}
use Rattle.gate_core.specs.Board.{ArePortRows, AreRowsOf, IsBoard, IsClientRow, IsPortRow, client_row_of, port_row_of}
use Rattle.gate_core.proofs.Fields.{CoreFields, FieldsAfter}
use Rattle.gate_core.proofs.Standing.{each-seen}

client-row : (s : Settings) (v : Lists) (n : ℕ) (line : ClientLine)
    → ClientLeaves s n (v.client_calls n) line.session.session
    → line.link ≡ v.client_link n → IsClientRow s v n (client_row_of (issued n v.turns) line)
unfolding ClientLeaves
client-row s v n line leaves link = record {
  link = link;
  on = ap (λ (x : State). is_logged_on x.phase) leaves;
  incoming = ap (λ (x : State). x.expected) leaves;
  outgoing = ap next_out leaves;
  orders = refl;
  executed = refl;
  value = refl;
}

-- ---- rows with one more, of the next line

added : {X : Type 0} (P : ℕ → X → Type 0) (xs : List X) (x : X) → ((i : ℕ) (y : X) → slice_get xs i ≡ Some y → P i y)
    → P (length xs) x
    → (i : ℕ) (y : X) → slice_get (xs ++ x ∷ []) i ≡ Some y → P i y
added P [] x each last zero y at = let same : x ≡ y = cc in subst (P zero) same last
added P [] x each last (suc i) y at = absurd (cc)
added P (z ∷ zs) x each last zero y at = each zero y at
added P (z ∷ zs) x each last (suc i) y at = added (λ j. P (suc j)) zs x (λ j w there. each (suc j) w there) last i y at

pub row-added : (turns : OrderHistory) (lines : List ClientLine) (n : ℕ) (line : ClientLine) (rows : List ClientRow)
    (row : ClientRow)
    → n < length lines → line ≡ get_or lines n line → length rows ≡ n → AreRowsOf turns lines rows
    → row ≡ client_row_of (issued (n + 1) turns) line → AreRowsOf turns lines (rows ++ row ∷ [])
row-added turns lines n line rows row inside is count each own =
    let at : slice_get lines n ≡ Some line = slice_get_read lines (length lines) n line refl inside is in
    added (λ i r. (l : ClientLine) × (slice_get lines i ≡ Some l)
    × (r ≡ client_row_of (issued (i + 1) turns) l)) rows row each
    (subst (λ (k : ℕ). (l : ClientLine) × (slice_get lines k ≡ Some l)
    × (row ≡ client_row_of (issued (k + 1) turns) l)) (sym count) (line, at, own))

port-row : (s : Settings) (v : Lists) (p : ℕ) (line : PortLine) → PortLeaves s p (v.port_calls p) line.session.port
    → line.link ≡ v.port_link p → IsPortRow s v p (port_row_of line)
unfolding PortLeaves CallsLeave port_state
port-row s v p line leaves link = record {
  link = link;
  state = ap (λ (x : Port). x.state) leaves.0.same;
  next = ap (λ (x : Port). x.next) leaves.0.same;
}

module _ {S H : Type 0} (s : Settings) (h : History) (f : CoreFields S H) (after : FieldsAfter s h f) where
  pub board-is : (b : Board) → b.events ≡ f.events → length b.clients.items ≡ length f.parts.clients.lines.items
      → AreRowsOf (lists s h).turns f.parts.clients.lines.items b.clients.items
      → b.ports.items ≡ map port_row_of f.parts.ports.lines.items → IsBoard s h b
  board-is b events count rows ports = record {
    events = events ∙ after.count;
    client_count = count ∙ after.parts.client_count;
    clients = λ i row at.
        let of_line = rows i row at in
        let line = of_line.0 in
        subst (IsClientRow s (lists s h) (i + 1)) (sym of_line.2)
        (client-row s (lists s h) (i + 1) line (after.parts.clients i line of_line.1)
        (after.parts.client_links i line of_line.1));
    port_count = ap length ports ∙ (length-map f.parts.ports.lines.items port_row_of ∙ after.parts.port_count);
    ports = subst (ArePortRows s (lists s h)) (sym ports)
        (each-seen port_row_of (λ i row. IsPortRow s (lists s h) (i + 1) row) f.parts.ports.lines.items
        (λ i line at. port-row s (lists s h) (i + 1) line (after.parts.ports i line at)
        (after.parts.port_links i line at)));
  }
