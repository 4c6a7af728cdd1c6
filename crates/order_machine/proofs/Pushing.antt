-- One more accepted message: what was known of the others stays so.
use Rattle.std.proofs.Common.{◌≡◌, ◌≢◌, ℕ, ◌+◌, ◌*◌, ◌<◌, ◌≤◌, ◌^◌, Bool, true, false, List, [], ◌∷◌, length, refl}
use Rattle.std.proofs.Common.{sym, ap, ◌∙◌, subst, arith, decimal, bytes_eq, Option, Some, None, eqb-true, eq-eqb}
use Rattle.std.proofs.Common.{ne_eqb}
use Rattle.std.specs.Prelude.{◌&&◌, ◌==◌, if◌then◌else◌, is_some}
use Rattle.std.specs.List.{find}
use Rattle.tokens.specs.TokenText.{token_text}
use Rattle.order_law.specs.ouch_codec.declared.outbound.Outbound.{Outbound}
use Rattle.fix_fields.specs.Field.{Message, character, is}
use Rattle.order_law.specs.Chain.{is_used}
use Rattle.order_law.specs.History.{Asked, Entry, OrderHistory, Terms, accepted, given_tokens, handled, is_new_order}
use Rattle.order_law.specs.History.{issued, new_of, orders_numbered, outstanding, terms_of, token_of}
use Rattle.order_law.specs.Lawful.{has_token, order_of_token}
use Rattle.order_law.specs.Told.{price_after, reports_in}
use Rattle.order_law.specs.Headline.{Each}
use Rattle.order_machine.specs.OrderRecord.{Cancelling, OrderRecord, ToldTrade, asked_as, fill_of, record_life, read}
use Rattle.order_machine.specs.OrderRecord.{shown_as}
use Rattle.order_machine.proofs.Texts.{eq-decimal_other, eq-is, eq-other, eq-same, token-same}
use Rattle.order_machine.proofs.Lists.{Each-map}
use Rattle.order_machine.proofs.Due.{Reads}
use Rattle.order_machine.proofs.Executed.{count-more}
use Rattle.order_machine.proofs.Moves.{Of}
use Rattle.order_machine.proofs.Fits.{Fits, IsFound, IsHome, IsUsed, own}
use Rattle.order_machine.proofs.Holds.{Holds, IsEntry, FitsIn, Keeps-more, each-find, port_of}
use Rattle.order_law.specs.History.{by_id}
use Rattle.std.specs.Prelude.{unwrap_or}
use Rattle.order_machine.proofs.Texts.{and-false}
use Rattle.order_machine.proofs.Lists.{none-found}

-- what is accepted next: its order has the next number, or it is on an order that is known; its token is the next one
pub record IsNext (terms : List Terms) (before : OrderHistory) (en : Entry) : Type 0 where
  pub order : is_new_order en.message ≡ true → en.order ≡ decimal (orders_numbered before + 1)
  pub token : (n : ℕ) → en.token ≡ Some n → n ≡ given_tokens (accepted terms before) + 1
  pub room : (n : ℕ) → en.token ≡ Some n → n ≤ 9_999_999_999_999
  pub unused : is_used (Rattle.fix_fields.specs.Field.text 11 en.message) (issued en.client before) ≡ false
  pub few : orders_numbered before + 1 < 10 ^ 64

module _ (terms : List Terms) (before : OrderHistory) (en : Entry) (H : Holds terms before) (next : IsNext terms before en) where
  abbrev A : List Entry
  A = accepted terms before

  pub given-less : given_tokens A ≤ given_tokens (en ∷ A)
  given-less = omega (arith, count-more (λ (e : Entry). is_some e.token) en A)

  -- an order that is known by its number
  pub new-kept : (k : List ℕ) (n : ℕ) → k ≡ decimal n → n ≤ orders_numbered before → new_of k (en ∷ A) ≡ new_of k A
  new-kept k n is few = by_new (is_new_order en.message) refl
    where
      by_new : (b : Bool) → is_new_order en.message ≡ b → new_of k (en ∷ A) ≡ new_of k A
      by_new true new =
          let other : bytes_eq en.order k ≡ false =
          rw (next.order new, is) (eq-decimal_other (orders_numbered before + 1) n
          (λ same. (omega (arith, same, few))) (omega (arith, next.few)) (omega (arith, few, next.few))) in
          rw other refl
      by_new false old = rw (old, and-false (bytes_eq en.order k)) refl

  -- a token that was given leads where it led
  pub token-kept : (port : ℕ) (token : List ℕ) (n : ℕ) → token ≡ token_text n → n ≤ given_tokens A
      → order_of_token terms port (en ∷ A) token ≡ order_of_token terms port A token
  token-kept port token n is few = by_found (find (has_token terms port token) A) refl
    where
      other-token : (x : Option ℕ) → en.token ≡ x
          → (is_some x && ((terms_of terms en.client).port == port && bytes_eq (token_text (unwrap_or x 0)) token))
          ≡ false
      other-token None is_x = refl
      other-token (Some j) is_x =
          let fresh = next.token j is_x in
          let other : bytes_eq (token_text j) token ≡ false =
          eq-other (token_text j) token (λ same. (let alike : j ≡ n =
          token-same j n (next.room j is_x) (omega (arith, few, H.short)) (same ∙ is) in
          omega (arith, alike, fresh, few))) in
          rw (other, and-false ((terms_of terms en.client).port == port)) refl

      none : has_token terms port token en ≡ false
      none = other-token en.token refl

      new-same : (e : Entry) → IsEntry terms A (orders_numbered before) e → new_of e.order (en ∷ A) ≡ new_of e.order A
      new-same e i = new-kept e.order i.number i.order_is i.is_numbered

      by_found : (x : Option Entry) → find (has_token terms port token) A ≡ x
          → order_of_token terms port (en ∷ A) token ≡ order_of_token terms port A token
      by_found None f = rw (none, f) refl
      by_found (Some e) f = rw (none, f) (new-same e
          (each-find (IsEntry terms A (orders_numbered before)) (has_token terms port token) A e H.entries f))

  pub home-kept : (new : Entry) (token : List ℕ) → IsHome terms A new token → IsHome terms (en ∷ A) new token
  home-kept new token h = record {
    mine = token-kept (port_of terms new) token h.number h.is_text h.is_given ∙ h.mine;
    elsewhere = λ port apart. token-kept port token h.number h.is_text h.is_given ∙ h.elsewhere port apart;
    number = h.number;
    is_text = h.is_text;
    is_given = omega (arith, h.is_given, given-less);
  }

  -- a used id finds what it found
  pub found-kept : (c : ℕ) (id : List ℕ) → is_used id (issued c before) ≡ true → by_id c id (en ∷ A) ≡ by_id c id A
  found-kept c id used = rw none refl
    where
      none : (en.client == c && is 11 id en.message) ≡ false
      none = by_client (en.client == c) refl
        where
          by_id-same : en.client ≡ c → (b : Bool) → is 11 id en.message ≡ b → b ≡ false
          by_id-same mine true same =
              let it : Rattle.fix_fields.specs.Field.text 11 en.message ≡ id =
              eq-is (Rattle.fix_fields.specs.Field.text 11 en.message) id same in
              let x : true ≡ false = sym (subst (λ (d : ℕ). is_used id (issued d before) ≡ true) (sym mine) used)
              ∙ (ap (λ (i : List ℕ). is_used i (issued en.client before)) (sym it) ∙ next.unused) in cc
          by_id-same mine false same = refl

          by_client : (b : Bool) → (en.client == c) ≡ b → (b && is 11 id en.message) ≡ false
          by_client true e = by_id-same (eqb-true en.client c e) (is 11 id en.message) refl
          by_client false e = refl

  pub entry-kept : (n' : ℕ) → orders_numbered before ≤ n' → (e : Entry) → IsEntry terms A (orders_numbered before) e
      → IsEntry terms (en ∷ A) n' e
  entry-kept n' more e i = record {
    new = i.new;
    found = new-kept e.order i.number i.order_is i.is_numbered ∙ i.found;
    same_client = i.same_client;
    is_given = λ n is. ((i.is_given n is).0, omega (arith, (i.is_given n is).1, given-less));
    number = i.number;
    order_is = i.order_is;
    is_numbered = omega (arith, i.is_numbered, more);
  }

  -- the same messages came to the same price
  pub price-kept : (new : Entry) → new_of new.order (en ∷ A) ≡ new_of new.order A → (ms : List Outbound)
      → price_after new (en ∷ A) ms ≡ price_after new A ms
  price-kept new same [] = refl
  price-kept new same (m ∷ ms) = rw (same, price-kept new same ms) refl

  -- the next token leads to the order of its message, on its client's port alone
  pub next-home : (new : Entry) (n : ℕ) → en.token ≡ Some n → new.client ≡ en.client
      → new_of en.order (en ∷ A) ≡ Some new → IsHome terms (en ∷ A) new (token_text n)
  next-home new n is same_client found = record {
    mine = rw (has (port_of terms new) (ap (λ (c : ℕ). (terms_of terms c).port) (sym same_client))) found;
    elsewhere = λ port apart. (let off = has-not port
        (λ same. apart (sym same ∙ ap (λ (c : ℕ). (terms_of terms c).port) (sym same_client))) in let none =
        nowhere port in rw (off, none) refl);
    number = n;
    is_text = refl;
    is_given = omega (arith, next.token n is, count-more (λ (e : Entry). is_some e.token) en A, one_more);
  }
    where
      one_if : (b : Bool) → b ≡ true → ◌≡◌ {A = ℕ} (if b then 1 else 0) 1
      one_if true h = refl
      one_if false h = absurd (cc)

      one_more : ◌≡◌ {A = ℕ} (if is_some en.token then 1 else 0) 1
      one_more = one_if (is_some en.token) (rw is refl)

      has : (port : ℕ) → (terms_of terms en.client).port ≡ port → has_token terms port (token_text n) en ≡ true
      has port here = let own = eq-same (token_text n) in
          rw (is, eq-eqb (terms_of terms en.client).port port here, own) refl

      has-not : (port : ℕ) → (terms_of terms en.client).port ≢ port → has_token terms port (token_text n) en ≡ false
      has-not port apart = rw (is, ne_eqb (terms_of terms en.client).port port apart) refl

      nowhere : (port : ℕ) → find (has_token terms port (token_text n)) A ≡ None
      nowhere port = none-found (has_token terms port (token_text n)) (IsEntry terms A (orders_numbered before)) A
          (λ e i. off e i e.token refl) H.entries
        where
          off : (e : Entry) → IsEntry terms A (orders_numbered before) e → (x : Option ℕ) → e.token ≡ x
              → has_token terms port (token_text n) e ≡ false
          off e i None is_x = rw is_x refl
          off e i (Some j) is_x =
              let few = (i.is_given j is_x).1 in
              let fresh = next.token n is in
              let other : bytes_eq (token_text j) (token_text n) ≡ false =
              eq-other (token_text j) (token_text n) (λ same.
              (let alike : j ≡ n = token-same j n (omega (arith, few, H.short)) (next.room n is) same in
              omega (arith, alike, few, fresh))) in
              rw (is_x, other, and-false ((terms_of terms e.client).port == port)) refl

  -- an order beside it
  pub pushed-Fits : (n' : ℕ) (sent' : List Message) (asked' : List Asked) (reports' limit' : ℕ) (o : OrderRecord)
      → FitsIn terms before o → orders_numbered before ≤ n'
      → Reads sent' o → ((id : List ℕ) → is_used id (issued o.new.client before) ≡ true → is_used id sent' ≡ true)
      → own o.new.order asked' ≡ own o.new.order (outstanding terms (port_of terms o.new) before)
      → reports_in before ≤ reports' → 1_000_000 * length before ≤ limit'
      → Fits terms (en ∷ A) n' sent' (handled (port_of terms o.new) before) asked' reports' limit' o
  pushed-Fits n' sent' asked' reports' limit' o f more_orders reads used same_asked more more' =
      let same = new-kept o.new.order f.number f.order_is f.is_numbered in
      record {
        reads = reads;
        lives = f.lives;
        priced = price-kept o.new same (handled (port_of terms o.new) before) ∙ f.priced;
        asked_so = same_asked ∙ f.asked_so;
        keeps = Keeps-more (reports_in before) (1_000_000 * length before) reports' limit' o more more' f.keeps;
        holds = holds-kept;
        known = same ∙ f.known;
        is_new = f.is_new;
        number = f.number;
        order_is = f.order_is;
        is_numbered = omega (arith, f.is_numbered, more_orders);
      }
    where
      homes : (ts : List (List ℕ)) → Each (IsHome terms A o.new) ts → Each (IsHome terms (en ∷ A) o.new) ts
      homes ts each = Each-map (IsHome terms A o.new) (IsHome terms (en ∷ A) o.new) ts
          (λ token h. home-kept o.new token h) each

      holds-kept : Of (IsHome terms (en ∷ A) o.new) (IsFound (en ∷ A) o.new) (IsUsed sent') o
      holds-kept = record {
        front = home-kept o.new (Rattle.order_machine.specs.OrderRecord.live_token o) f.holds.front;
        live = homes o.tokens f.holds.live;
        replaces = Each-map _ _ o.replaces (λ q h. (
          home-kept o.new (token_of q) h.0,
          found-kept o.new.client
              (Rattle.fix_fields.specs.Field.text 11 q.message) h.2
              ∙ h.1,
          used (Rattle.fix_fields.specs.Field.text 11 q.message) h.2,
        )) f.holds.replaces;
        cancel = λ c e. (let h = f.holds.cancel c e in (
          homes c.tokens h.0,
          found-kept o.new.client (Rattle.fix_fields.specs.Field.text 11 c.request.message) h.2
              ∙ h.1,
          used (Rattle.fix_fields.specs.Field.text 11 c.request.message) h.2,
        ));
        id = used o.id f.holds.id;
      }
