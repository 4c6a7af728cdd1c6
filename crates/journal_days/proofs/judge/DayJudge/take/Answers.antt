use Rattle.std.proofs.Common.{◌≡◌, ◌++◌, ◌∷◌, [], None, Some, Option, List, ℕ, refl, sym, ap, subst, ◌∙◌}
use Rattle.journal_pages.specs.declared.place.Place.{Place}
use Rattle.journal_pages.specs.declared.version.Version.{Version}
use Rattle.journal_pages.specs.Page.{page_fault}
use Rattle.journal_pages.proofs.Listed.{both-none}
use Rattle.journal_days.specs.Begun.{begun_fault}
use Rattle.journal_days.specs.Day.{page_behind, version_of}
use Rattle.journal_days.specs.Judged.{HasJudged}
use Rattle.journal_days.proofs.Begun.{judged, taken}
use Rattle.journal_days.proofs.judge.DayJudge.take.Goals as goal

along : (version : Option Version) (last next number : ℕ) (place : Place) (a b : List (List ℕ)) → a ≡ b
    → HasJudged version last next number place a → HasJudged version last next number place b
along version last next number place a b e has = subst (λ ps. HasJudged version last next number place ps) e has

pub returns-in-Err : goal.returns-in-Err
returns-in-Err c = record {
  taken = (
    refl,
    judged _ _ _ _ _ c.args.self.now c.args.page.now c.version_with-version.result (Some c.in-Err.fault)
        (along _ _ _ _ _ _ _ c.self.view_is c.self.invariant) c.version_with-version.ensures c.in-Err.ensures,
  );
}

pub invariant_of-self : goal.invariant_of-self
invariant_of-self c =
    let page : List ℕ = c.args.page.now in
    let has = taken _ _ _ _ _ c.in-Ok.later c.args.self.now page c.version_with-version.result
    (along _ _ _ _ _ _ _ c.self.view_is c.self.invariant) c.version_with-version.ensures c.in-Ok.ensures.0
    c.in-Ok.ensures.1 in
    let same : c.args.self.now ++ page ∷ [] ≡ c.note.new.self.pages =
    ap (λ (ps : List (List ℕ)). ps ++ page ∷ []) (sym c.self.view_is) ∙ sym c.note.ensures in
    let at : HasJudged (Some c.version_with-version.result) c.self.inside.next c.page_behind-self-inside.result
    c.judged_number_behind-self-inside.result c.in-Ok.later (c.args.self.now ++ page ∷ []) =
    subst (λ (n : ℕ). HasJudged (Some c.version_with-version.result) c.self.inside.next n
    c.judged_number_behind-self-inside.result c.in-Ok.later (c.args.self.now ++ page ∷ []))
    (sym c.page_behind-self-inside.ensures)
    (subst (λ (n : ℕ). HasJudged (Some c.version_with-version.result) c.self.inside.next
    (page_behind c.self.inside.next) n c.in-Ok.later
    (c.args.self.now ++ page ∷ [])) (sym c.judged_number_behind-self-inside.ensures) has) in
    along _ _ _ _ _ _ _ same at

pub returns : goal.returns
returns c =
    let page : List ℕ = c.args.page.now in
    let same : c.note.new.self.pages ≡ c.args.self.now ++ page ∷ [] =
    c.note.ensures ∙ ap (λ (ps : List (List ℕ)). ps ++ page ∷ []) c.self.view_is in
    record {
      taken = (
        same,
        ap (λ (ps : List (List ℕ)). begun_fault (version_of ps) ps) same
            ∙ judged _ _ _ _ _ c.args.self.now page c.version_with-version.result None
            (along _ _ _ _ _ _ _ c.self.view_is c.self.invariant) c.version_with-version.ensures c.in-Ok.ensures.0,
      );
    }

pub judged_number_behind-self-inside-requires : goal.judged_number_behind-self-inside-requires
judged_number_behind-self-inside-requires c =
    (both-none (page_fault c.version_with-version.result c.args.page.now) _ c.in-Ok.ensures.0).0
