-- A page as a value: its bytes, which are one by the definition.
use Rattle.std.specs.Prelude.{◌≡◌, ℕ, true, List}
use Rattle.std.proofs.Common.{ap}
use Rattle.std.proofs.Props.{props}
use mathlib.Core.HLevel.{Σ_prop_path}
use Rattle.journal_pages.specs.declared.page.Page.{Page}
use Rattle.journal_pages.specs.Page.{is_page}

abbrev pub bytes_of : Page → List ℕ
bytes_of page = page.bytes

abbrev pub IsPage : List ℕ → Type 0
IsPage bytes = is_page bytes ≡ true

pub IsPage-bytes : (page : Page) → IsPage (bytes_of page)
IsPage-bytes page = page.whole

-- no two pages have the same bytes
pub one_page : (p q : Page) → bytes_of p ≡ bytes_of q → p ≡ q
one_page p q e =
    ap (λ (b : (bytes : List ℕ) × IsPage bytes). record { bytes = b.0; whole = b.1 })
    (Σ_prop_path {A = List ℕ} {B = IsPage} (λ bytes. hlevel props) {u = (p.bytes, p.whole)} {v = (q.bytes, q.whole)} e)
