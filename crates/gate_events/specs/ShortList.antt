-- What contracts see of a list.
use Rattle.std.specs.Prelude.{List, refl}
use Rattle.std.specs.Coded.{Coded, code_by, coded_list}

-- the items, in order
pub record ShortList (T : Type 0) : Type 0 where
  pub items : List T

-- a list is stored as its items
abbrev pub short_list_code : {T : Type 0} → Coded T → Coded (ShortList T)
short_list_code {T} code =
    code_by (List T) (coded_list code) (λ l. l.items) (λ xs. record { items = xs }) (λ _. refl)
