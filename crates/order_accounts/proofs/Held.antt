-- Readings that are held after each report.
use Rattle.std.proofs.Common.{◌≡◌, ℕ, suc, ◌<◌, true, List, [], ◌∷◌, ◌++◌, length, get_or, take, drop, reverse, sym}
use Rattle.std.proofs.Common.{ap, ◌∙◌, subst, append_assoc}
use Rattle.std.proofs.Math.Seq.{split_at}
use Rattle.std.proofs.lemmas.List.{reverse-append}
use Rattle.order_law.specs.fix_fields.Field.{Message}
use Rattle.order_law.specs.Reading.{is_report_on, reading, with_report}
use Rattle.order_accounts.specs.Held.{IsHeld, StaysHeld}

stays_in_earlier : (order : List ℕ) (later earlier : List Message) → StaysHeld order (later ++ earlier)
    → StaysHeld order earlier
stays_in_earlier order [] earlier held = held
stays_in_earlier order (r ∷ later) earlier held = stays_in_earlier order later earlier held.1

-- reports, the newest first, cut behind one of them
turned : (reports : List Message) (i : ℕ) (d : Message) → i < length reports
    → reverse reports ≡ reverse (drop (suc i) reports) ++ (get_or reports i d ∷ reverse (take i reports))
turned reports i d inside =
    let r = get_or reports i d in
    let earlier = take i reports in
    let later = drop (suc i) reports in
    ap reverse (split_at reports i d inside)
    ∙ reverse-append earlier (r ∷ later)
    ∙ ap (λ t. t ++ reverse earlier) (reverse-append (r ∷ []) later)
    ∙ append_assoc (reverse later) (r ∷ []) (reverse earlier)

-- what was read is held after a report in their midst
pub held_after : (order : List ℕ) (reports : List Message) (i : ℕ) (r : Message) → i < length reports
    → r ≡ get_or reports i r → is_report_on order r ≡ true → StaysHeld order (reverse reports)
    → IsHeld (with_report (reading order (reverse (take i reports))) r)
held_after order reports i r inside is on held =
    let all = subst (StaysHeld order) (turned reports i r inside) held in
    let here = (stays_in_earlier order (reverse (drop (suc i) reports))
    (get_or reports i r ∷ reverse (take i reports)) all).0 in
    let same = subst (λ (m : Message). IsHeld (reading order (m ∷ reverse (take i reports)))) (sym is) here in
    rw on at same
