use Rattle.std.proofs.Common.{◌≡◌, true, None, List, ℕ, ◌++◌, drop, subst, sym, ap, ◌∙◌, arith}
use Rattle.std.specs.List.{flat_map}
use Rattle.journal_pages.specs.Record.{Record, record_bytes, records_in}
use Rattle.journal_pages.specs.Ordered.{AreSound, order_fault}
use Rattle.journal_pages.specs.Seen.{records_ahead}
use Rattle.journal_pages.specs.Page.{is_page, page_fault, page_front, page_number, page_records}
use Rattle.journal_pages.specs.declared.version.Version.TheVariants.{Two}
use Rattle.journal_pages.specs.declared.place.Place.TheVariants.{PageStart}
use Rattle.journal_pages.proofs.Listed.{none-of, page-ordered, page-parts, page-sound}
use Rattle.journal_pages.proofs.page.Page.records.Goals as goal

pub is_spelled-requires : goal.is_spelled-requires
is_spelled-requires c = subst (λ (l : List ℕ). is_page l ≡ true) (sym c.as_slice-text.ensures) c.args.self.now.whole

pub split_at-requires : goal.split_at-requires
split_at-requires c =
    let is : is_page c.as_slice-text.result.now ≡ true =
    subst (λ (l : List ℕ). is_page l ≡ true) (sym c.as_slice-text.ensures) c.args.self.now.whole in
    let parts = page-parts Two c.as_slice-text.result.now (none-of (page_fault Two c.as_slice-text.result.now) is) in
    omega (arith, c.front_size.ensures, parts.long)

pub returns-clause-records : goal.returns-clause-records
returns-clause-records c =
    let text : List ℕ = c.as_slice-text.result.now in
    c.of.ensures ∙ ap records_in (c.split_at.ensures.back ∙ ap (λ n. drop n text) c.front_size.ensures)
    ∙ ap (λ (l : List ℕ). page_records Two l) c.as_slice-text.ensures

pub returns-clause-ordered : goal.returns-clause-ordered
returns-clause-ordered c =
    let text : List ℕ = c.as_slice-text.result.now in
    let is : is_page text ≡ true = subst (λ (l : List ℕ). is_page l ≡ true)
    (sym c.as_slice-text.ensures) c.args.self.now.whole in
    let back : c.split_at.result.1.now ≡ drop 12 text = c.split_at.ensures.back
    ∙ ap (λ n. drop n text) c.front_size.ensures in
    subst (λ (rs : List Record). order_fault PageStart rs ≡ None) (ap records_in (sym back) ∙ sym c.of.ensures)
    (page-ordered Two text (none-of (page_fault Two text) is))

pub returns-clause-sound : goal.returns-clause-sound
returns-clause-sound c =
    let text : List ℕ = c.as_slice-text.result.now in
    let back : c.split_at.result.1.now ≡ drop 12 text = c.split_at.ensures.back
    ∙ ap (λ n. drop n text) c.front_size.ensures in
    subst AreSound (ap records_in (sym back) ∙ sym c.of.ensures) (page-sound Two text)

pub returns-clause-whole : goal.returns-clause-whole
returns-clause-whole c =
    let text : List ℕ = c.as_slice-text.result.now in
    let back : c.split_at.result.1.now ≡ drop 12 text = c.split_at.ensures.back
    ∙ ap (λ n. drop n text) c.front_size.ensures in
    sym c.as_slice-text.ensures ∙ c.is_spelled.ensures
    ∙ ap (λ (l : List ℕ). page_front (page_number text) ++ flat_map record_bytes (records_in l)) (sym back)
    ∙ ap (λ (rs : List Record). page_front (page_number text) ++ flat_map record_bytes rs) (sym c.of.ensures)
    ∙ ap (λ (l : List ℕ). page_front (page_number l) ++ flat_map record_bytes (records_ahead c.of.result))
    c.as_slice-text.ensures
