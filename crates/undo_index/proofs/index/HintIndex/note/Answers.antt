use Rattle.std.proofs.Common.{◌≡◌, ◌∙◌, List, true, false, cond, refl, sym, ap, subst, true≢false}
use Rattle.std.specs.Prelude.{Option, Some}
use Rattle.undo_index.specs.Undoing.{IsWithin, Undoable}
use Rattle.undo_index.specs.declared.hint.Hint.{Hint}
use Rattle.undo_index.specs.Hints.{Covers, LeadsTo, LedBy, hint_of}
use Rattle.undo_index.specs.Newest.{OnlyAt}
use Rattle.undo_index.proofs.Noting.{noted-covers, noted-keeps, put-over}
use Rattle.undo_index.proofs.index.HintIndex.note.Goals as goal

pub returns-then-not-is_only-clause-leads : goal.returns-then-not-is_only-clause-leads
returns-then-not-is_only-clause-leads g c =
    subst (λ (s : Option Hint). LeadsTo s c.args.place)
    (sym (c.share.ensures.own (record { place = c.args.place; is_only = true }) c.put-was.ensures.there))
    (λ h. refl)

pub returns-then-not-is_only-clause-keeps : goal.returns-then-not-is_only-clause-keeps
returns-then-not-is_only-clause-keeps g c =
    let updates : (q : g.row.K.Denot) → hint_of g.K.PartialEq.eq c.share.new.self q
    ≡ cond (g.K.PartialEq.eq c.args.key q) (Some (record { place = c.args.place; is_only = false }))
    (hint_of g.K.PartialEq.eq c.args.self.now q) =
    λ q.
    c.share.ensures.shared (record { place = c.args.place; is_only = true }) c.put-was.ensures.there q
    ∙ ap (λ (h : Option Hint). cond (g.K.PartialEq.eq c.args.key q)
    (Some (record { place = c.args.place; is_only = false })) h) (c.put-was.ensures.put q)
    ∙ put-over (g.K.PartialEq.eq c.args.key q) (Some (record { place = c.args.place; is_only = false }))
    (Some (record { place = c.args.place; is_only = true })) (hint_of g.K.PartialEq.eq c.args.self.now q) in
    noted-keeps g.K.PartialEq.eq g.T.Keyed.has g.met.T.Keyed.respects_eq c.args.self.now c.share.new.self c.args.key
    c.args.place false updates

pub returns-then-not-is_only-clause-covered : goal.returns-then-not-is_only-clause-covered
returns-then-not-is_only-clause-covered g c = λ was.
    let updates : (q : g.row.K.Denot) → hint_of g.K.PartialEq.eq c.share.new.self q
    ≡ cond (g.K.PartialEq.eq c.args.key q) (Some (record { place = c.args.place; is_only = false }))
    (hint_of g.K.PartialEq.eq c.args.self.now q) =
    λ q.
    c.share.ensures.shared (record { place = c.args.place; is_only = true }) c.put-was.ensures.there q
    ∙ ap (λ (h : Option Hint). cond (g.K.PartialEq.eq c.args.key q)
    (Some (record { place = c.args.place; is_only = false })) h) (c.put-was.ensures.put q)
    ∙ put-over (g.K.PartialEq.eq c.args.key q) (Some (record { place = c.args.place; is_only = false }))
    (Some (record { place = c.args.place; is_only = true })) (hint_of g.K.PartialEq.eq c.args.self.now q) in
    let u : Undoable g.row.T.Denot = g.L.SettledList.lists c.args.list.now in
    let keeps = noted-covers g.K.PartialEq.eq g.T.Keyed.has g.met.T.Keyed.respects_eq c.args.self.now c.share.new.self
    c.args.key c.args.place false updates in
    record {
      now = keeps u.now (λ o. absurd (true≢false (sym o))) was.now;
      settled = keeps u.settled (λ o. absurd (true≢false (sym o))) was.settled;
    }

pub returns-else-not-is_only-clause-covered : goal.returns-else-not-is_only-clause-covered
returns-else-not-is_only-clause-covered g c = λ was.
    let u : Undoable g.row.T.Denot = g.L.SettledList.lists c.args.list.now in
    let alone : c.is_only-is_only.result ≡ true = c.if-not-is_only.false in
    let keeps = noted-covers g.K.PartialEq.eq g.T.Keyed.has g.met.T.Keyed.respects_eq c.args.self.now c.put-was.new.self
    c.args.key c.args.place true c.put-was.ensures.put in
    let led : (xs : List g.row.T.Denot) → Covers g.K.PartialEq.eq g.T.Keyed.has c.args.self.now xs
    → LedBy c.put-was.result (g.T.Keyed.has c.args.key) xs =
    λ xs covers. subst (λ (s : Option Hint). LedBy s (g.T.Keyed.has c.args.key) xs) (sym c.put-was.ensures.was)
    (covers c.args.key) in
    let still : c.is_unchanged.result ≡ true → IsWithin u.settled c.items.result.now =
    λ e. subst (λ (xs : List g.row.T.Denot). IsWithin u.settled xs) (sym c.items.ensures) (c.is_unchanged.ensures e) in
    record {
      now = keeps u.now
          (λ o. subst (λ (xs : List g.row.T.Denot). OnlyAt c.args.place (g.T.Keyed.has c.args.key) xs) c.items.ensures
          (c.is_only-is_only.ensures.now alone (subst
          (λ (xs : List g.row.T.Denot). LedBy c.put-was.result (g.T.Keyed.has c.args.key) xs) (sym c.items.ensures)
          (led u.now was.now))))
          was.now;
      settled = keeps u.settled (λ o. c.is_only-is_only.ensures.any alone u.settled still (led u.settled was.settled))
          was.settled;
    }
