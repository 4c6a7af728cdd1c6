-- What is read in reports is read in their bodies too: no field of a header or trailer counts.
use Rattle.std.proofs.Common.{◌≡◌, ℕ, Bool, true, false, List, [], ◌∷◌, map, refl, sym, ap, ◌∙◌}
use Rattle.std.specs.Prelude.{◌==◌}
use Rattle.std.proofs.Common.{eqb-true}
use Rattle.gate_law.specs.fix_fields.Field.{first_value, Message}
use Rattle.order_law.specs.Messages.{body_of, is_header}
use Rattle.order_law.specs.Reading.{Reading, is_report_on, reading, with_report}
use Rattle.gate_audit.specs.Read.{opened_in, opened_by, opens_new_order}

pub same-first : (tag : ℕ) → is_header tag ≡ false → (m : Message) → first_value tag (body_of m) ≡ first_value tag m
same-first tag apart [] = refl
same-first tag apart (f ∷ fs) = by_header (is_header f.tag) refl (f.tag == tag) refl (same-first tag apart fs)
  where
    by_header : (h : Bool) → is_header f.tag ≡ h → (b : Bool) → (f.tag == tag) ≡ b
        → first_value tag (body_of fs) ≡ first_value tag fs
        → first_value tag (body_of (f ∷ fs)) ≡ first_value tag (f ∷ fs)
    by_header true is_h true is_b rest = (let x : true ≡ false = sym is_h
        ∙ (ap is_header (eqb-true f.tag tag is_b) ∙ apart) in cc)
    by_header true is_h false is_b rest = rw (is_h, is_b) rest
    by_header false is_h true is_b rest = rw (is_h, is_b) refl
    by_header false is_h false is_b rest = rw (is_h, is_b) rest

same-report : (order : List ℕ) (r : Message) → is_report_on order (body_of r) ≡ is_report_on order r
same-report order r = rw (same-first 35 refl r, same-first 37 refl r) refl

same-with : (x : Reading) (r : Message) → with_report x (body_of r) ≡ with_report x r
same-with x r =
    rw (
      same-first 150 refl r,
      same-first 151 refl r,
      same-first 32 refl r,
      same-first 31 refl r,
      same-first 17 refl r,
      same-first 19 refl r,
      same-first 54 refl r,
      same-first 38 refl r,
    ) refl

pub same-reading : (order : List ℕ) (rs : List Message) → reading order (map body_of rs) ≡ reading order rs
same-reading order [] = refl
same-reading order (r ∷ rs) = rw (same-report order r, same-reading order rs, same-with (reading order rs) r) refl

pub same-opens : (r : Message) → opens_new_order (body_of r) ≡ opens_new_order r
same-opens r = rw (same-first 35 refl r, same-first 150 refl r) refl

same-opened_by : (r : Message) → opened_by (body_of r) ≡ opened_by r
same-opened_by r = rw (same-first 37 refl r, same-first 11 refl r) refl

pub same-opened : (rs : List Message) → opened_in (map body_of rs) ≡ opened_in rs
same-opened [] = refl
same-opened (r ∷ rs) = by_opens (opens_new_order r) refl (same-opened rs)
  where
    by_opens : (b : Bool) → opens_new_order r ≡ b → opened_in (map body_of rs) ≡ opened_in rs
        → opened_in (map body_of (r ∷ rs)) ≡ opened_in (r ∷ rs)
    by_opens true is rest = rw (same-opens r, is, same-opened_by r, rest) refl
    by_opens false is rest = rw (same-opens r, is, rest) refl
