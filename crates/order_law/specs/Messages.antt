-- What the law reads of a message besides.
use Rattle.std.specs.Prelude.{ℕ, Bool, [], ◌∷◌, not, filter, ◌==◌}
use Rattle.std.specs.List.{list_any}
use Rattle.std.specs.Str.Parse.{digits_value}
use Rattle.fix_fields.specs.Field.{Message, text}

-- the number in the digits of a value, whatever its bytes are
abbrev pub number : ℕ → Message → ℕ
number tag message = digits_value 10 (text tag message)

-- A field of the header or trailer, which a session writes round a body: 8, 9, 49, 56, 34, 52, 43, 122, 60, 10.
-- (FIX 4.4 Volume 2, "Standard Message Header"; 60 is stamped by the session too.)
abbrev pub is_header : ℕ → Bool
is_header tag = list_any (λ t. t == tag) (8 ∷ 9 ∷ 49 ∷ 56 ∷ 34 ∷ 52 ∷ 43 ∷ 122 ∷ 60 ∷ 10 ∷ [])

-- what a message says apart from those
abbrev pub body_of : Message → Message
body_of message = filter (λ f. not (is_header f.tag)) message
