use Rattle.std.proofs.Common.{refl}
use Rattle.tokens.specs.TokenText.{token_text}
use Rattle.tokens.proofs.Digits.{token_number, digits_behind}
use Rattle.tokens.proofs.token.one_number_a_token.Goals as goal

pub returns : goal.returns
returns c = λ m n hm hn e. token_number (token_text m) m n hm.short hn.short (digits_behind (token_text m) m refl) e
