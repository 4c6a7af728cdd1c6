-- Equal keys are the same, and are had alike.
use Rattle.std.proofs.Common.{◌≡◌, true, ap, eqb-true}
use Rattle.std.specs.Prelude.{nat_eq}
use Rattle.std.specs.Str.Parse.{digits_value}
use Rattle.undo_index.specs.KeyLaws.{same-is}
use Rattle.order_machine.specs.OrderRecord.{OrderRecord}
use Rattle.order_machine.specs.Table.{GivenToken}
use Rattle.order_table.specs.declared.keys.NameKey.{NameKey}
use Rattle.order_table.specs.declared.keys.NumberKey.{NumberKey}
use Rattle.tokens.specs.declared.token_key.TokenKey.{TokenKey}
use Rattle.order_table.specs.Keys.{has_name_key, has_number_key, has_token_key, same_name, same_number}
use Rattle.tokens.specs.TokenKeyLaws.{same-token-is}
use Rattle.tokens.specs.TokenKeys.{same_token_key}

pub number-alike :
    (x y : NumberKey) (o : OrderRecord) → same_number x y ≡ true → has_number_key x o ≡ has_number_key y o
number-alike x y o e = ap (λ n. nat_eq n (digits_value 10 o.new.order)) (eqb-true x.number y.number e)

pub same-name-is : (x y : NameKey) → same_name x y ≡ true → x ≡ y
same-name-is x y e = (λ j. record { key = same-is x.key y.key e j })

pub name-alike : (x y : NameKey) (o : OrderRecord) → same_name x y ≡ true → has_name_key x o ≡ has_name_key y o
name-alike x y o e = ap (λ (k : NameKey). has_name_key k o) (same-name-is x y e)

pub token-alike : (x y : TokenKey) (g : GivenToken) → same_token_key x y ≡ true → has_token_key x g ≡ has_token_key y g
token-alike x y g e = ap (λ (k : TokenKey). has_token_key k g) (same-token-is x y e)
