-- Tokens of replaces.
use Rattle.std.specs.Prelude.{ℕ, Bool, List, bytes_eq}
use Rattle.ouch_codec.specs.declared.inbound.replace.Replace.{Replace}

-- the replace asks for this token
abbrev pub asks_for : List ℕ → Replace → Bool
asks_for token request = bytes_eq token request.replacement_token
