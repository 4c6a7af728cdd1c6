-- Orders and tokens are led to by their keys.
use Rattle.std.proofs.Common.{◌≡◌, ℕ, zero, suc, ◌<◌, ◌-◌, ◌^◌, Bool, true, false, List, [], ◌∷◌, length, refl, sym}
use Rattle.std.proofs.Common.{◌++◌, map}
use Rattle.std.proofs.Common.{ap, ◌∙◌, arith, decimal, subst, slice_get, eq-eqb, eqb-true, true≢false, ◌⊎◌, inl, inr}
use Rattle.std.specs.Prelude.{◌||◌, ◌&&◌, ◌==◌, not, Option, Some, None, bytes_eq, filter, if◌then◌else◌}
use Rattle.std.specs.Cmp.Lexicographic.{bytes_decides}
use Rattle.std.specs.List.{list_any}
use Rattle.std.specs.Str.Parse.{digits_value}
use Rattle.std.proofs.lemmas.Bool.{and_parts}
use Rattle.order_machine.specs.fix_fields.Field.{text}
use Rattle.undo_index.proofs.Keys.{key-of-same}
use Rattle.undo_index.specs.declared.hint.Hint.{Hint}
use Rattle.undo_index.specs.Hints.{Hints, LeadsTo, hint_of}
use Rattle.undo_orders.specs.orders.order_law.Chain.{goes_by}
use Rattle.undo_orders.specs.orders.order_law.History.{Entry, token_of}
use Rattle.order_machine.proofs.Texts.{eq-is, number-decimal}
use Rattle.order_machine.specs.OrderRecord.{Cancelling, OrderRecord, at, cancel_entry, chained, filled, gone}
use Rattle.order_machine.specs.OrderRecord.{live_token, over_if, replacements, request_of}
use Rattle.order_machine.specs.OrderRecord.{put_in_book, reduced, renamed, still_after, unasked, with_tokens}
use Rattle.order_machine.specs.OrderRecord.{with_trade}
use Rattle.order_machine.specs.Table.{GivenToken, has_number, is_named, is_token}
use Rattle.undo_orders.specs.Changes.{changed_by, replaced_as}
use Rattle.undo_orders.specs.Seen.{has_cancel_id, replace_seen}
use Rattle.undo_orders.specs.orders.declared.requests.Replacing.{Replacing}
use Rattle.undo_orders.specs.orders.declared.change.Change.{Change}
use Rattle.undo_orders.specs.orders.declared.change.Change.TheVariants as changes
use Rattle.order_table.specs.declared.keys.NameKey.{NameKey}
use Rattle.order_table.specs.declared.keys.NumberKey.{NumberKey}
use Rattle.tokens.specs.declared.token_key.TokenKey.{TokenKey}
use Rattle.order_table.specs.Keys.{has_name_key, has_number_key, has_token_key, is_key_of_cancel, is_key_of_replace}
use Rattle.order_table.specs.Keys.{is_key_of_replaces, is_key_of_replacing, is_of_replacing}
use Rattle.order_table.specs.Keys.{name_key, same_name, same_number}
use Rattle.order_table.specs.KeyLaws.{same-name-is}
use Rattle.tokens.specs.TokenKeyLaws.{same-token-is}
use Rattle.order_table.specs.Names.{KeepsNames, KeepsNamesBut}
use Rattle.tokens.specs.TokenKeys.{same_token_key, token_key}
use Rattle.order_table.proofs.Counted.{change-new}

-- ---- tests

never : {P : Type 0} → false ≡ true → P
never e = absurd (true≢false (sym e))

or-right : (p q : Bool) → q ≡ true → (p || q) ≡ true
or-right true q e = refl
or-right false q e = e

or-false : (p : Bool) → (p || false) ≡ true → p ≡ true
or-false true e = refl
or-false false e = e

pub or-elim : {P : Type 0} (a b : Bool) → (a ≡ true → P) → (b ≡ true → P) → (a || b) ≡ true → P
or-elim true b f g e = f refl
or-elim false b f g e = g e

or-more : (a b p q : Bool) → (a ≡ true → p ≡ true) → (b ≡ true → q ≡ true) → (a || b) ≡ true → (p || q) ≡ true
or-more a b p q f g e = or-elim a b (λ t. ap (λ c. c || q) (f t)) (λ t. or-right p q (g t)) e

-- ---- numbers

pub number-key : (n : ℕ) (o : OrderRecord) → n < 2 ^ 64 → has_number (decimal n) o ≡ true
    → has_number_key (record { number = n }) o ≡ true
number-key n o small t = eq-eqb n (digits_value 10 o.new.order)
    (sym (ap (digits_value 10) (eq-is o.new.order (decimal n) t) ∙ number-decimal n (omega (arith, small))))

pub number-leads : (h : Hints NumberKey) (o : OrderRecord) (n place : ℕ) → n < 2 ^ 64 → decimal n ≡ o.new.order
    → LeadsTo (hint_of same_number h (record { number = n })) place
    → (k : NumberKey) → has_number_key k o ≡ true → LeadsTo (hint_of same_number h k) place
number-leads h o n place small writes led k t =
    let same : k.number ≡ n = eqb-true k.number (digits_value 10 o.new.order) t ∙ ap (digits_value 10) (sym writes)
    ∙ number-decimal n (omega (arith, small)) in
    subst (λ (m : ℕ). LeadsTo (hint_of same_number h (record { number = m })) place) (sym same) led

-- ---- names

hit : (client : ℕ) (id : List ℕ) (c : ℕ) (own : List ℕ) → c ≡ client → bytes_eq own id ≡ true
    → same_name (name_key client id) (name_key c own) ≡ true
hit client id c own whose t = key-of-same client c id own (sym whose) (sym (eq-is own id t))

pending-key : (client : ℕ) (id : List ℕ) (c : ℕ) (rs : List Entry) (x : Option Cancelling) → c ≡ client
    → list_any (λ q. bytes_eq q.id id) (map request_of (rs ++ cancel_entry x)) ≡ true
    → (is_key_of_replaces (name_key client id) c rs || is_key_of_cancel (name_key client id) c x) ≡ true
pending-key client id c [] None whose t = never t
pending-key client id c [] (Some x) whose t =
    hit client id c (text 11 x.request.message) whose (or-false (bytes_eq (text 11 x.request.message) id) t)
pending-key client id c (q ∷ qs) x whose t =
    let own = is_key_of_replace (name_key client id) c q in
    let rest = is_key_of_replaces (name_key client id) c qs in
    let last = is_key_of_cancel (name_key client id) c x in
    or-elim (bytes_eq (text 11 q.message) id) (list_any (λ r. bytes_eq r.id id) (map request_of (qs ++ cancel_entry x)))
    (λ e. ap (λ b. (b || rest) || last) (hit client id c (text 11 q.message) whose e))
    (λ e. or-more rest last (own || rest) last (or-right own rest) (λ y. y) (pending-key client id c qs x whose e)) t

-- as the order itself has its pending replaces
pub has-any : (id : List ℕ) (client order_id : ℕ) (rs : List Replacing) (x : Option Cancelling)
    → (list_any (is_of_replacing id) rs || has_cancel_id id x)
    ≡ list_any (λ q. bytes_eq q.id id) (map request_of (map (replace_seen client order_id) rs ++ cancel_entry x))
has-any id client order_id [] None = refl
has-any id client order_id [] (Some x) = with-none (bytes_eq (text 11 x.request.message) id)
  where
    with-none : (p : Bool) → p ≡ (p || false)
    with-none true = refl
    with-none false = refl
has-any id client order_id (r ∷ rs) x = regroup (bytes_eq r.message.cl_ord_id id) (list_any (is_of_replacing id) rs)
    (has_cancel_id id x) ∙ ap (λ b. bytes_eq r.message.cl_ord_id id || b) (has-any id client order_id rs x)
  where
    regroup : (p q s : Bool) → ((p || q) || s) ≡ (p || (q || s))
    regroup true q s = refl
    regroup false q s = refl

pub keys-any : (k : NameKey) (client order_id : ℕ) (rs : List Replacing)
    → list_any (is_key_of_replacing k client) rs ≡ is_key_of_replaces k client (map (replace_seen client order_id) rs)
keys-any k client order_id [] = refl
keys-any k client order_id (r ∷ rs) = ap (λ b. same_name k (name_key client r.message.cl_ord_id) || b)
    (keys-any k client order_id rs)

-- the last of three tests
pub third : (p q r : Bool) → p ≡ false → q ≡ false → r ≡ (p || (q || r))
third p q r x y = rw (x, y) refl

pub second : (p q r : Bool) → q ≡ true → (p || (q || r)) ≡ true
second p q r e = or-right p (q || r) (ap (λ b. b || r) e)

pub named-key : (client : ℕ) (id : List ℕ) (o : OrderRecord) → is_named client id o ≡ true
    → has_name_key (name_key client id) o ≡ true
named-key client id o t =
    let parts = and_parts (o.new.client == client) (goes_by id (chained o)) t in
    let whose : o.new.client ≡ client = eqb-true o.new.client client parts.0 in
    or-more (bytes_eq o.id id) (list_any (λ q. bytes_eq q.id id) (chained o).pending)
    (same_name (name_key client id) (name_key o.new.client o.id))
    (is_key_of_replaces (name_key client id) o.new.client o.replaces
    || is_key_of_cancel (name_key client id) o.new.client o.cancel)
    (hit client id o.new.client o.id whose) (pending-key client id o.new.client o.replaces o.cancel whose) parts.1

-- a client's order, each of whose keys is noted: its own id, and those of its pending requests
pub name-leads : (h : Hints NameKey) (client : ℕ) (id : List ℕ) (replaces : List Entry) (cancel : Option Cancelling)
    (place : ℕ) → LeadsTo (hint_of same_name h (name_key client id)) place
    → ((k : NameKey) → is_key_of_replaces k client replaces ≡ true → LeadsTo (hint_of same_name h k) place)
    → ((k : NameKey) → is_key_of_cancel k client cancel ≡ true → LeadsTo (hint_of same_name h k) place)
    → (k : NameKey) → (same_name k (name_key client id)
    || (is_key_of_replaces k client replaces || is_key_of_cancel k client cancel)) ≡ true
    → LeadsTo (hint_of same_name h k) place
name-leads h client id replaces cancel place own by_replace by_cancel k t =
    or-elim (same_name k (name_key client id))
    (is_key_of_replaces k client replaces || is_key_of_cancel k client cancel)
    (λ e. subst (λ (q : NameKey). LeadsTo (hint_of same_name h q) place)
    (sym (same-name-is k (name_key client id) e)) own)
    (or-elim (is_key_of_replaces k client replaces) (is_key_of_cancel k client cancel) (by_replace k) (by_cancel k)) t

-- ---- what a message of the market leaves of them

fewer : (p q r s t : Bool) → (s ≡ true → q ≡ true) → (t ≡ true → r ≡ true) → (p || (s || t)) ≡ true
    → (p || (q || r)) ≡ true
fewer p q r s t f g e = or-more p (s || t) p (q || r) (λ x. x) (or-more s t q r f g) e

still-key : (k : NameKey) (c : ℕ) (is_answered : List ℕ → Bool) (x : Option Cancelling)
    → is_key_of_cancel k c (still_after is_answered x) ≡ true → is_key_of_cancel k c x ≡ true
still-key k c is_answered None t = t
still-key k c is_answered (Some y) t = by_tokens (filter (λ token. not (is_answered token)) y.tokens) t
  where
    by_tokens : (tokens : List (List ℕ)) → is_key_of_cancel k c (with_tokens y.request tokens) ≡ true
        → is_key_of_cancel k c (Some y) ≡ true
    by_tokens [] e = never e
    by_tokens (token ∷ tokens) e = e

-- with no other requests pending
unasked-names : (k : NameKey) (o : OrderRecord) → has_name_key k (unasked o) ≡ true → has_name_key k o ≡ true
unasked-names k o t = fewer (same_name k (name_key o.new.client o.id)) (is_key_of_replaces k o.new.client o.replaces)
    (is_key_of_cancel k o.new.client o.cancel) false false never never t

over-names : (b : Bool) (k : NameKey) (o : OrderRecord) → has_name_key k (over_if b o) ≡ true → has_name_key k o ≡ true
over-names true k o t = unasked-names k o t
over-names false k o t = t

-- under the id of its replace
renamed-names : (own id t u v : Bool) → (u ≡ true → v ≡ true) → (id || (t || u)) ≡ true
    → (own || ((id || t) || v)) ≡ true
renamed-names own id t u v f e =
    or-right own ((id || t) || v)
    (or-elim id (t || u) (λ x. ap (λ b. (b || t) || v) x) (λ x. or-more t u (id || t) v (or-right id t) f x) e)

replaced-names : (k : NameKey) (shares price : ℕ) (is_dead : Bool) (o : OrderRecord) (qs : List Entry) → o.replaces ≡ qs
    → has_name_key k (replaced_as shares price is_dead o qs) ≡ true → has_name_key k o ≡ true
replaced-names k shares price is_dead o [] same t = t
replaced-names k shares price is_dead o (q ∷ qs) same t =
    let left = over-names is_dead k (at (put_in_book shares price (renamed (token_of q) q o)) qs
    (still_after (bytes_eq (live_token o)) o.cancel)) t in
    ap (λ (rs : List Entry). same_name k (name_key o.new.client o.id)
    || (is_key_of_replaces k o.new.client rs || is_key_of_cancel k o.new.client o.cancel)) same
    ∙ renamed-names (same_name k (name_key o.new.client o.id)) (is_key_of_replace k o.new.client q)
    (is_key_of_replaces k o.new.client qs) (is_key_of_cancel k o.new.client
    (still_after (bytes_eq (live_token o)) o.cancel)) (is_key_of_cancel k o.new.client o.cancel)
    (still-key k o.new.client (bytes_eq (live_token o)) o.cancel) left

change-keys : (change : Change) (o : OrderRecord) (k : NameKey) → has_name_key k (changed_by change o) ≡ true
    → has_name_key k o ≡ true
change-keys (changes.Opened shares price is_dead) o k t = over-names is_dead k (put_in_book shares price o) t
change-keys (changes.Replaced shares price is_dead) o k t = replaced-names k shares price is_dead o o.replaces refl t
change-keys (changes.Canceled shares) o k t = by_rest (o.unfilled - shares == 0) t
  where
    by_rest : (b : Bool) → has_name_key k (if b then unasked (gone o) else reduced shares o) ≡ true
        → has_name_key k o ≡ true
    by_rest true e = unasked-names k (gone o) e
    by_rest false e = e
change-keys (changes.Traded d) o k t = by_rest (o.unfilled - d.trade.shares == 0) t
  where
    by_rest : (b : Bool) → has_name_key k (if b then unasked
        (filled d.number d.trade o) else with_trade d.number d.trade o) ≡ true → has_name_key k o ≡ true
    by_rest true e = unasked-names k (filled d.number d.trade o) e
    by_rest false e = e
change-keys (changes.Broken d) o k t = t
change-keys changes.Refused o k t = unasked-names k o t
change-keys changes.NotReplaced o k t =
    let falls = λ (token : List ℕ). list_any (bytes_eq token) (replacements o.replaces) in
    fewer (same_name k (name_key o.new.client o.id)) (is_key_of_replaces k o.new.client o.replaces)
    (is_key_of_cancel k o.new.client o.cancel) false (is_key_of_cancel k o.new.client (still_after falls o.cancel))
    never (still-key k o.new.client falls o.cancel) t
change-keys (changes.NotCanceled token) o k t =
    fewer (same_name k (name_key o.new.client o.id)) (is_key_of_replaces k o.new.client o.replaces)
    (is_key_of_cancel k o.new.client o.cancel) (is_key_of_replaces k o.new.client o.replaces)
    (is_key_of_cancel k o.new.client (still_after (bytes_eq token) o.cancel))
    (λ e. e) (still-key k o.new.client (bytes_eq token) o.cancel) t

pub change-names : (change : Change) (o : OrderRecord) → KeepsNames o (changed_by change o)
change-names change o = record { asked = change-new change o; names = change-keys change o }

-- a request more
any-pushed : {A : Type 0} (test : A → Bool) (xs : List A) (x : A) → list_any test (xs ++ x ∷ []) ≡ true
    → (list_any test xs ≡ true) ⊎ (test x ≡ true)
any-pushed test [] x e = inr (or-false (test x) e)
any-pushed test (y ∷ ys) x e = or-elim (test y) (list_any test (ys ++ x ∷ []))
    (λ t. inl (ap (λ b. b || list_any test ys) t)) (λ t. by_rest (any-pushed test ys x t)) e
  where
    by_rest : (list_any test ys ≡ true) ⊎ (test x ≡ true) → (list_any test (y ∷ ys) ≡ true) ⊎ (test x ≡ true)
    by_rest (inl t) = inl (or-right (test y) (list_any test ys) t)
    by_rest (inr t) = inr t

pub replace-names : (o : OrderRecord) (q : Entry)
    → KeepsNamesBut (name_key o.new.client (text 11 q.message)) o (at o (o.replaces ++ q ∷ []) o.cancel)
replace-names o q = record {
  asked = refl;
  names = λ k t. or-elim (same_name k (name_key o.new.client o.id))
      (is_key_of_replaces k o.new.client (o.replaces ++ q ∷ []) || is_key_of_cancel k o.new.client o.cancel)
      (λ e. inl (ap (λ b. b || (is_key_of_replaces k o.new.client o.replaces
      || is_key_of_cancel k o.new.client o.cancel)) e))
      (or-elim (is_key_of_replaces k o.new.client (o.replaces ++ q ∷ [])) (is_key_of_cancel k o.new.client o.cancel)
      (λ e. by_place k (any-pushed (is_key_of_replace k o.new.client) o.replaces q e))
      (λ e. inl (or-right (same_name k (name_key o.new.client o.id))
      (is_key_of_replaces k o.new.client o.replaces || is_key_of_cancel k o.new.client o.cancel)
      (or-right (is_key_of_replaces k o.new.client o.replaces) (is_key_of_cancel k o.new.client o.cancel) e)))) t;
}
  where
    by_place : (k : NameKey) → (is_key_of_replaces k o.new.client o.replaces ≡ true) ⊎
        (is_key_of_replace k o.new.client q ≡ true)
        → (has_name_key k o ≡ true) ⊎ (k ≡ name_key o.new.client (text 11 q.message))
    by_place k (inl e) = inl (or-right (same_name k (name_key o.new.client o.id))
        (is_key_of_replaces k o.new.client o.replaces || is_key_of_cancel k o.new.client o.cancel)
        (ap (λ b. b || is_key_of_cancel k o.new.client o.cancel) e))
    by_place k (inr e) = inr (same-name-is k (name_key o.new.client (text 11 q.message)) e)

pub cancel-names : (o : OrderRecord) (x : Cancelling)
    → KeepsNamesBut (name_key o.new.client (text 11 x.request.message)) o (at o o.replaces (Some x))
cancel-names o x = record {
  asked = refl;
  names = λ k t. or-elim (same_name k (name_key o.new.client o.id))
      (is_key_of_replaces k o.new.client o.replaces || is_key_of_cancel k o.new.client (Some x))
      (λ e. inl (ap (λ b. b || (is_key_of_replaces k o.new.client o.replaces
      || is_key_of_cancel k o.new.client o.cancel)) e))
      (or-elim (is_key_of_replaces k o.new.client o.replaces) (is_key_of_cancel k o.new.client (Some x))
      (λ e. inl (or-right (same_name k (name_key o.new.client o.id))
      (is_key_of_replaces k o.new.client o.replaces || is_key_of_cancel k o.new.client o.cancel)
      (ap (λ b. b || is_key_of_cancel k o.new.client o.cancel) e)))
      (λ e. inr (same-name-is k (name_key o.new.client (text 11 x.request.message)) e))) t;
}

-- ---- tokens

pub token-key : (port : ℕ) (token : List ℕ) (g : GivenToken) → is_token port token g ≡ true
    → has_token_key (token_key port token) g ≡ true
token-key port token g t =
    let parts = and_parts (g.port == port) (bytes_eq g.text token) t in
    ap (λ (p : ℕ). same_token_key (token_key port token) (token_key p g.text)) (eqb-true g.port port parts.0)
    ∙ ap (λ (text : List ℕ). same_token_key (token_key port token) (token_key port text)) (eq-is g.text token parts.1)
    ∙ itself (token_key port token)
  where
    itself : (k : TokenKey) → same_token_key k k ≡ true
    itself k = λ j. eq-eqb k.port k.port refl j && (bytes_decides k.text k.text).1 refl j

pub token-leads : (h : Hints TokenKey) (g : GivenToken) (place : ℕ)
    → LeadsTo (hint_of same_token_key h (token_key g.port g.text)) place → (k : TokenKey) → has_token_key k g ≡ true
    → LeadsTo (hint_of same_token_key h k) place
token-leads h g place led k t = subst (λ (q : TokenKey). LeadsTo (hint_of same_token_key h q) place)
    (sym (same-token-is k (token_key g.port g.text) t)) led

-- ---- what stands at a place

pub item-at : {A : Type 0} (xs : List A) (i : ℕ) → i < length xs → (x : A) × (slice_get xs i ≡ Some x)
item-at [] i inside = absurd (omega (arith, inside))
item-at (x ∷ xs) zero inside = (x, refl)
item-at (x ∷ xs) (suc i) inside = item-at xs i (omega (arith, inside))

pub same-item : {A : Type 0} (xs : List A) (i : ℕ) (x y : A) → slice_get xs i ≡ Some x → slice_get xs i ≡ Some y → x ≡ y
same-item xs i x y first second = cc

-- by a key that led there, or by the one that was noted
pub led-by-either : {A : Type 0} (hint : NameKey → Option Hint) (has : NameKey → A → Bool) (name : NameKey) (place : ℕ)
    (was : A) → ((k : NameKey) → has k was ≡ true → LeadsTo (hint k) place) → LeadsTo (hint name) place
    → (k : NameKey) → (has k was ≡ true) ⊎ (k ≡ name) → LeadsTo (hint k) place
led-by-either hint has name place was led own k (inl t) = led k t
led-by-either hint has name place was led own k (inr same) =
    subst (λ (q : NameKey). LeadsTo (hint q) place) (sym same) own
