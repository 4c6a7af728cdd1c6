use Rattle.std.proofs.Common.{◌≡◌, ◌++◌, ◌∷◌, [], ℕ, ◌+◌, length, ap, subst, sym, arith, length-append, ◌∙◌}
use Rattle.gate_sessions.specs.order_law.History.{issued}
use Rattle.gate_core.specs.Board.{AreRowsOf, client_row_of}
use Rattle.gate_core.proofs.Shown.{row-added}
use Rattle.gate_core.proofs.rows.client_rows.Goals as goal

pub loop-line-preserved : goal.loop-line-preserved
loop-line-preserved g c =
    let more : c.push.new.self.items ≡ c.loop-line.rows.items ++ c.client_row.result ∷ [] = c.in_ok-push.ensures.items
    in
    record {
      count = omega (
        arith,
        ap length more,
        length-append c.loop-line.rows.items
            (c.client_row.result ∷ []),
        c.loop-line.invariant.count,
      );
      rows = λ terms before short is.
          subst (AreRowsOf before c.args.lines.now) (sym more)
          (row-added before c.args.lines.now c.loop-line.line-index c.line-item.result c.loop-line.rows.items
          c.client_row.result
          c.loop-line-test.true c.line-item.is c.loop-line.invariant.count
          (c.loop-line.invariant.rows terms before short is)
          (c.client_row.ensures terms before short is
          ∙ ap (λ (k : ℕ). client_row_of (issued (k + 1) before) c.line-item.result)
          (c.len.ensures ∙ (c.loop-line.rows.ok.0 ∙ c.loop-line.invariant.count))));
    }
