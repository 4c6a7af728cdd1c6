use Rattle.std.proofs.Common.{◌≡◌, ◌∙◌, ◌==◌, ◌++◌, List, ℕ, [], true, Bool, length, take, sym, ap, subst, arith}
use Rattle.std.proofs.lemmas.Bool.Decides.{nat_tests}
use Rattle.journal_pages.specs.declared.version.Version.TheVariants.{Two}
use Rattle.journal_file.specs.File.{sized_pages}
use Rattle.journal_log.specs.Seen.{host_may_leave, host_seen}
use Rattle.journal_log.specs.Whole.{HasJust}
use Rattle.journal_log.specs.declared.host_file.HostFile.{HostFile}
use Rattle.journal_log.specs.Kept.{HasAll}
use Rattle.desk.proofs.Again.{IsFront, empty-front, file-has, named-front, same-just}
use Rattle.desk.proofs.replaying.replay.Goals.{then-is_named, else-is_named}
use Rattle.desk.proofs.replaying.replay.Goals as goal

no-size : (n : ℕ) → (n == 0) ≡ true → n ≡ 0
no-size n e = grind (arith, nat_tests)

pub go_on-requires : goal.go_on-requires
go_on-requires g c =
    let told : List (List ℕ) = c.step_file.new.reader.yielded in
    let file : List ℕ = c.step_file.new.reader.read in
    let is : c.step_file.new.written ≡ sized_pages Two told = c.in_ok-ending.ensures.written in
    let front : IsFront file told = elim c.if-is_named.branch [
      | then-is_named w ↦ named-front file told c.in_ok-ending.ending c.in_ok-ending.ensures.says
          (c.is_named.ensures w.if-is_named.true)
      | else-is_named w ↦ empty-front file told
          (ap length (sym is) ∙ sym w.size.ensures ∙ no-size w.size.result (sym w.value-is ∙ c.if-not-size.false))
    ] in
    record { front = ap (λ (l : List ℕ). take (length l) file) is ∙ front.front ∙ sym is }

pub begin_journal-requires : goal.begin_journal-requires
begin_journal-requires g c =
    let told : List (List ℕ) = c.step_file.new.reader.yielded in
    let file : List ℕ = c.step_file.new.reader.read in
    let is : c.step_file.new.written ≡ sized_pages Two told = c.in_ok-ending.ensures.written in
    let front : IsFront file told = elim c.if-is_named.branch [
      | then-is_named w ↦ named-front file told c.in_ok-ending.ending c.in_ok-ending.ensures.says
          (c.is_named.ensures w.if-is_named.true)
      | else-is_named w ↦ empty-front file told
          (ap length (sym is) ∙ sym w.size.ensures ∙ no-size w.size.result (sym w.value-is ∙ c.if-not-size.false))
    ] in
    let same : take (length c.step_file.new.written) file ≡ sized_pages Two told =
    ap (λ (l : List ℕ). take (length l) file) is ∙ front.front in
    let just : HasJust (sized_pages Two told) c.in_ok-go_on.field-0 =
    subst (λ (l : List ℕ). HasJust l c.in_ok-go_on.field-0) same c.in_ok-go_on.ensures in
    let later : HasJust (sized_pages Two told) c.in_ok-file.file =
    same-just (sized_pages Two told) c.in_ok-go_on.field-0 c.in_ok-file.file c.in_ok-file.ensures just in
    record {
      has = subst (λ (f : HostFile). HasAll host_seen host_may_leave c.step_file.new.desk.recorded.kept.pages f)
          (sym c.over.ensures.file)
          (file-has told c.step_file.new.desk.recorded.kept.pages c.in_ok-file.file later front.day
          (sym c.in_ok-ending.ensures.same));
    }
