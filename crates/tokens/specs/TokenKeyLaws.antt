-- Equal keys are the same, and are hashed alike.
use Rattle.std.proofs.Common.{◌≡◌, true, [], ◌∷◌, ◌++◌, ap, eqb-true}
use Rattle.std.specs.Prelude.{nat_eq, bytes_eq}
use Rattle.std.specs.Cmp.Lexicographic.{bytes_decides}
use Rattle.std.specs.Hash as fed
use Rattle.std.proofs.lemmas.Bool.{and_parts}
use Rattle.tokens.specs.declared.token_key.TokenKey.{TokenKey}
use Rattle.tokens.specs.TokenKeys.{same_token_key}

pub same-token-is : (x y : TokenKey) → same_token_key x y ≡ true → x ≡ y
same-token-is x y e =
    let parts = and_parts (nat_eq x.port y.port) (bytes_eq x.text y.text) e in
    (λ j. record { port = eqb-true x.port y.port parts.0 j; text = (bytes_decides x.text y.text).0 parts.1 j })

pub token-hash-alike : (x y : TokenKey) → same_token_key x y ≡ true
    → (fed.u16 x.port ++ x.text ∷ []) ≡ (fed.u16 y.port ++ y.text ∷ [])
token-hash-alike x y e = ap (λ (k : TokenKey). fed.u16 k.port ++ k.text ∷ []) (same-token-is x y e)
