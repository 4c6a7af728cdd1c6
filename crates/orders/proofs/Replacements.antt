-- The tokens of pending replaces, as the order has them and as its record has them.
use Rattle.std.proofs.Common.{◌≡◌, ℕ, suc, ◌-◌, ◌≤◌, Bool, List, [], ◌∷◌, length, get_or, map, refl, sym, ap, ◌∙◌}
use Rattle.std.proofs.Common.{arith}
use Rattle.std.specs.Prelude.{bytes_eq}
use Rattle.std.specs.List.{list_any}
use Rattle.order_machine.specs.History.{last_token}
use Rattle.order_machine.specs.OrderRecord.{replacements}
use Rattle.orders.specs.declared.requests.Replacing.{Replacing}
use Rattle.orders.specs.Seen.{has_token, replace_seen, replacing_token}
use Rattle.orders.proofs.Marks.{any-map}

pub replacements-seen : (client order_id : ℕ) (rs : List Replacing)
    → map replacing_token rs ≡ replacements (map (replace_seen client order_id) rs)
replacements-seen client order_id [] = refl
replacements-seen client order_id (r ∷ rs) = (λ j. r.text_set j ∷ replacements-seen client order_id rs j)

has-seen : (client order_id : ℕ) (rs : List Replacing) (token : List ℕ)
    → has_token rs token ≡ list_any (bytes_eq token) (replacements (map (replace_seen client order_id) rs))
has-seen client order_id rs token = sym (any-map (bytes_eq token) replacing_token rs)
    ∙ ap (list_any (bytes_eq token)) (replacements-seen client order_id rs)

-- the tests on a token are one
pub has-tokens : (client order_id : ℕ) (rs : List Replacing)
    → ◌≡◌ {A = List ℕ → Bool} (has_token rs) (λ token. list_any (bytes_eq token)
    (replacements (map (replace_seen client order_id) rs)))
has-tokens client order_id rs = (λ j token. has-seen client order_id rs token j)

-- the newest one's token
pub last-replacing : (token : List ℕ) (rs : List Replacing) (d : Replacing) → 1 ≤ length rs
    → (get_or rs (length rs - 1) d).token ≡ last_token token (map replacing_token rs)
last-replacing token [] d some = absurd (omega (arith, some))
last-replacing token (r ∷ []) d some = refl
last-replacing token (r ∷ (s ∷ rs)) d some =
    let e : suc (suc (length rs)) - 1 ≡ suc (suc (length rs) - 1) = omega arith in
    rw e (last-replacing r.token (s ∷ rs) d (omega arith))
