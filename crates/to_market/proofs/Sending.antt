-- What goes out of a request says what it asks.
use Rattle.std.proofs.Common.{◌≡◌, ◌-◌, ◌≤◌, ℕ, List, [], ◌∷◌, ◌++◌, codes, drop, get_or, length, map, refl, sym, take}
use Rattle.std.proofs.Common.{ap, ◌∙◌, subst, Some}
use Rattle.std.specs.Prelude.{Option}
use Rattle.std.proofs.lemmas.List.{append_assoc}
use Rattle.std.specs.Str.Parse.{digits_value}
use Rattle.order_law.specs.ouch_codec.declared.inbound.Inbound.{Inbound}
use Rattle.order_law.specs.ouch_codec.declared.inbound.Inbound.TheVariants as inbound
use Rattle.order_law.specs.ouch_codec.declared.inbound.replace.Replace.{Replace}
use Rattle.order_law.specs.ouch_codec.Inbound.{inbound_bytes}
use Rattle.order_law.specs.Asks.{Standing}
use Rattle.order_law.specs.Headline.{Each, EachWith, Says}
use Rattle.tokens.proofs.Digits.{printable-token}
use Rattle.order_law.specs.wire_law.Printable.{ArePrintable}
use Rattle.order_law.specs.History.{last_token, token_of}
use Rattle.order_machine.specs.fix_fields.Field.{Message, text}
use Rattle.order_machine.specs.OrderRecord.{OrderRecord, live_token, replacements}
use Rattle.orders.specs.declared.requests.Replacing.{Replacing}
use Rattle.orders.specs.Seen.{replace_seen, replacing_token}
use Rattle.to_client.proofs.Rejects.{split-of}
use Rattle.to_market.specs.RequestAsks.{cancel_asked_with, replace_asked_with, replace_bytes}
use Rattle.to_market.specs.Asked.{SayCancels, SaysTheCancel, cancels_asked, replaces_asked}
use Rattle.order_machine.specs.Runs.{Finds}

-- a token leads to this order
abbrev pub Leads : (List ℕ → Option ℕ) → List ℕ → OrderRecord → Type 0
Leads order_of token o = order_of token ≡ Some (digits_value 10 o.new.order)

-- ---- cancels

-- one more
pub cancel-pushed : (ts : List (List ℕ)) (xs : List Inbound) (t : List ℕ) (x : Inbound) → SayCancels ts xs
    → SaysTheCancel t x → SayCancels (ts ++ t ∷ []) (xs ++ x ∷ [])
cancel-pushed [] [] t x say says = (says, tt)
cancel-pushed [] (y ∷ ys) t x say says = absurd say
cancel-pushed (s ∷ ts) [] t x say says = absurd say
cancel-pushed (s ∷ ts) (y ∷ ys) t x say says = (say.0, cancel-pushed ts ys t x say.1 says)

-- of the first of these replaces, and of those behind it
pub cancels-pushed : (replaces : List Replacing) (first : Replacing) (old mid new : List Inbound) (x : Inbound)
    → first ≡ get_or replaces 0 first → 1 ≤ length replaces → mid ≡ old ++ x ∷ [] → SaysTheCancel first.token x
    → ((ts : List (List ℕ)) → SayCancels ts mid
    → SayCancels (ts ++ map replacing_token (take (length replaces - 1) (drop 1 replaces))) new)
    → (ts : List (List ℕ)) → SayCancels ts old → SayCancels (ts ++ map replacing_token replaces) new
cancels-pushed replaces first old mid new x is some pushed says more ts say =
    subst (λ (rs : List Replacing). SayCancels (ts ++ map replacing_token rs) new)
    (sym (split-of replaces first is some).all)
    (subst (λ (tokens : List (List ℕ)). SayCancels tokens new)
    (append_assoc ts (first.token ∷ []) (map replacing_token (take (length replaces - 1) (drop 1 replaces))))
    (more (ts ++ first.token ∷ []) (subst (SayCancels (ts ++ first.token ∷ [])) (sym pushed)
    (cancel-pushed ts old first.token x say says))))

pub no-cancels : (replaces : List Replacing) (ts : List (List ℕ)) (xs : List Inbound) → replaces ≡ [] → SayCancels ts xs
    → SayCancels (ts ++ map replacing_token replaces) xs
no-cancels replaces ts xs none say =
    subst (λ (rs : List Replacing). SayCancels (ts ++ map replacing_token rs) xs) (sym none)
    (subst (λ (tokens : List (List ℕ)). SayCancels tokens xs) (sym (append-nothing ts)) say)
  where
    append-nothing : (ks : List (List ℕ)) → ks ++ [] ≡ ks
    append-nothing [] = refl
    append-nothing (k ∷ ks) = ap (λ (js : List (List ℕ)). k ∷ js) (append-nothing ks)

-- the tokens of pending replaces, as the order has them and as its record has them
pub tokens-seen : (client order_id : ℕ) (rs : List Replacing)
    → map replacing_token rs ≡ replacements (map (replace_seen client order_id) rs)
tokens-seen client order_id [] = refl
tokens-seen client order_id (r ∷ rs) = (λ j. r.text_set j ∷ tokens-seen client order_id rs j)

-- what they say is what is asked
pub each-said : (order : List ℕ) (ts : List (List ℕ)) (xs : List Inbound) (m : Message) (standing : Standing) (order_of : List ℕ → Option ℕ) → SayCancels ts xs → text 35 m ≡ codes "F"
    → Each (Finds order_of) (map (λ token. cancel_asked_with order token m) ts)
    → EachWith (Says standing order_of) (map (λ token. cancel_asked_with order token m) ts) (map inbound_bytes xs)
each-said order [] [] m standing order_of say kind finds = tt
each-said order [] (x ∷ xs) m standing order_of say kind finds = absurd say
each-said order (t ∷ ts) [] m standing order_of say kind finds = absurd say
each-said order (t ∷ ts) (x ∷ xs) m standing order_of say kind finds =
    (say.0 m kind order standing order_of finds.0, each-said order ts xs m standing order_of say.1 kind finds.1)

pub cancels-said : (o : OrderRecord) (tokens : List (List ℕ)) (xs : List Inbound) (m : Message) (standing : Standing)
    (order_of : List ℕ → Option ℕ) → tokens ≡ live_token o ∷ replacements o.replaces
    → SayCancels tokens xs → text 35 m ≡ codes "F" → Each (Finds order_of) (cancels_asked o m) → EachWith (Says standing order_of) (cancels_asked o m) (map inbound_bytes xs)
cancels-said o tokens xs m standing order_of are say kind finds =
    each-said o.new.order (live_token o ∷ replacements o.replaces) xs m standing order_of
    (subst (λ (ts : List (List ℕ)). SayCancels ts xs) are say) kind finds

-- the token that an order goes by once its pending replaces are done can be sent
pub printable-last : (client order_id : ℕ) (token : List ℕ) → ArePrintable token → (rs : List Replacing)
    → ArePrintable (last_token token (replacements (map (replace_seen client order_id) rs)))
printable-last client order_id token printable [] = printable
printable-last client order_id token printable (r ∷ rs) =
    printable-last client order_id (token_of (replace_seen client order_id r))
    (printable-token (token_of (replace_seen client order_id r)) r.token_number refl) rs

-- a replace, from the token that the order goes by once its pending replaces are done
pub replace-said : (o : OrderRecord) (live token : List ℕ) (m : Message) (standing : Standing)
    (order_of : List ℕ → Option ℕ) (x : Replace) (items : List Inbound)
    → live ≡ last_token (live_token o) (replacements o.replaces) → items ≡ inbound.Replace x ∷ []
    → Each (Finds order_of) (replaces_asked o token m)
    → (Leads order_of live o → Says standing order_of (replace_asked_with o.new.order live token m) (replace_bytes x))
    → EachWith (Says standing order_of) (replaces_asked o token m) (map inbound_bytes items)
replace-said o live token m standing order_of x items is_live is finds says =
    rw is (
      subst (λ (t : List ℕ). Says standing order_of (replace_asked_with o.new.order t token m) (replace_bytes x))
          is_live (says (ap order_of is_live ∙ finds.0)),
      tt,
    )
