-- The key of a port with the text of a token.
use Rattle.std.specs.Prelude.{ℕ, Bool, ◌&&◌, List, nat_eq}
use Rattle.std.specs.Cmp.Lexicographic.{pointwise}
use Rattle.tokens.specs.declared.token_key.TokenKey.{TokenKey}

abbrev pub token_key : ℕ → List ℕ → TokenKey
token_key port token = record { port = port; text = token }

-- keys are equal
abbrev pub same_token_key : TokenKey → TokenKey → Bool
same_token_key x y = nat_eq x.port y.port && pointwise nat_eq x.text y.text
