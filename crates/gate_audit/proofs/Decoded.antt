-- What holds of a result.
use Rattle.std.specs.Prelude.{Result, Ok, Err, IfOk, OnOk}

-- what holds anyway
pub if-ok : {T E P : Type 0} (r : Result T E) → P → IfOk r (λ x. P)
if-ok (Ok x) is = is
if-ok (Err e) is = tt

pub on-ok : {T E P : Type 0} (r : Result T E) → P → OnOk r P
on-ok (Ok x) is = is
on-ok (Err e) is = tt

pub on-ok-both : {T E P Q R : Type 0} (r : Result T E) → (P → Q → R) → OnOk r P → OnOk r Q → OnOk r R
on-ok-both (Ok x) f p q = f p q
on-ok-both (Err e) f p q = tt

pub ok-held : {T E P : Type 0} (r : Result T E) (Q : T → Type 0) → ((x : T) → Q x → P) → IfOk r Q → OnOk r P
ok-held (Ok x) Q f is = f x is
ok-held (Err e) Q f is = tt
