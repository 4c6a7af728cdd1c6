-- For whom the bodies are that a payload tells.
use Rattle.std.proofs.Common.{◌≡◌, ℕ, Bool, true, false, List, [], ◌∷◌, ◌++◌, Option, Some, None, Result, Ok, Err}
use Rattle.std.proofs.Common.{refl, ap, sym, subst, ◌∙◌, is_some, inl, inr}
use Rattle.std.specs.Prelude.{if◌then◌else◌, ◌⊎◌, option_to_list}
use Rattle.std.specs.List.{find}
use Rattle.order_law.specs.ouch_codec.declared.outbound.Outbound.{Outbound}
use Rattle.order_law.specs.ouch_codec.declared.refusal.DecodeRefusal.{DecodeRefusal}
use Rattle.fix_fields.specs.Field.{Message}
use Rattle.order_law.specs.Verdicts.{Verdict, Accepted, Refused}
use Rattle.order_law.specs.History.{Terms, OrderEvent, Came, Heard, OrderTurn, OrderHistory, Entry, accepted, entry_at}
use Rattle.order_law.specs.History.{is_new_order, issued, verdict}
use Rattle.order_law.specs.Lawful.{has_token, judgement, order_of_token, order_token, token_of_heard}
use Rattle.order_law.specs.Told.{Told, nobody, told, told_on, told_of_entry, on_token}
use Rattle.order_law.specs.Headline.{Each, said_in}
use Rattle.gate_law.specs.Clients.{IsFrom, AreFrom}

-- ---- whose what was accepted is

-- what was accepted, if anything, is of a client of which this holds
abbrev pub IsOf : (ℕ → Type 0) → Option Entry → Type 0
IsOf P None = Unit {0}
IsOf P (Some e) = P e.client

either-of : (P : ℕ → Type 0) (b : Bool) (x y : Entry) → P x.client → P y.client → IsOf P (Some (if b then x else y))
either-of P true x y p q = p
either-of P false x y p q = q

pub entry-of : (P : ℕ → Type 0) (terms : List Terms) (before : OrderHistory) (e : OrderEvent) → IsFrom P e
    → IsOf P (entry_at terms e before)
entry-of P terms before (Heard p m) from = tt
entry-of P terms before (Came client m port) from =
    by_verdict (verdict terms (issued client before) (accepted terms before) port m) refl
  where
    by_verdict : (v : Verdict) → verdict terms (issued client before) (accepted terms before) port m ≡ v
        → IsOf P (entry_at terms (Came client m port) before)
    by_verdict (Refused code why) is = rw is tt
    by_verdict Accepted is = rw is (either-of P (is_new_order m) _ _ from from)

one-more : (P : ℕ → Type 0) (new : Option Entry) (entries : List Entry) → IsOf P new
    → Each (λ (e : Entry). P e.client) entries → Each (λ (e : Entry). P e.client) (option_to_list new ++ entries)
one-more P None entries of each = each
one-more P (Some e) entries of each = (of, each)

accepted-of : (P : ℕ → Type 0) (terms : List Terms) (h : OrderHistory) → AreFrom P h
    → Each (λ (e : Entry). P e.client) (accepted terms h)
accepted-of P terms [] from = tt
accepted-of P terms (t ∷ before) from =
    one-more P (entry_at terms t.event before) (accepted terms before) (entry-of P terms before t.event from.0)
    (accepted-of P terms before from.1)

found-of : (P : ℕ → Type 0) (test : Entry → Bool) (entries : List Entry) (new : Entry)
    → Each (λ (e : Entry). P e.client) entries → find test entries ≡ Some new → P new.client
found-of P test [] new each is = absurd (cc)
found-of P test (e ∷ es) new each is = by_test (test e) is (found-of P test es new each.1)
  where
    by_test : (b : Bool) → (if b then Some e else find test es) ≡ Some new → (find test es ≡ Some new → P new.client)
        → P new.client
    by_test true is later = subst (λ (x : Option Entry). IsOf P x) is each.0
    by_test false is later = later is

-- the order that a token leads to is of such a client
order-of : (P : ℕ → Type 0) (terms : List Terms) (p : ℕ) (token : List ℕ) (before : OrderHistory) (new : Entry)
    → AreFrom P before → order_of_token terms p (accepted terms before) token ≡ Some new → P new.client
order-of P terms p token before new from is = by_found (find (has_token terms p token) (accepted terms before)) refl is
  where
    by_found : (x : Option Entry) → find (has_token terms p token) (accepted terms before) ≡ x
        → order_of_token terms p (accepted terms before) token ≡ Some new → P new.client
    by_found None f is = absurd (let x : ◌≡◌ {A = Option Entry} None (Some new) = rw f at is in cc)
    by_found (Some e) f is = found-of P _ (accepted terms before) new (accepted-of P terms before from) (rw f at is)

-- likewise of the token that a message is on, if it has one
on-of : (P : ℕ → Type 0) (terms : List Terms) (p : ℕ) (token : Option (List ℕ)) (before : OrderHistory) (new : Entry)
    → AreFrom P before → on_token terms p before token ≡ Some new → P new.client
on-of P terms p None before new from is = absurd (cc)
on-of P terms p (Some token) before new from is = order-of P terms p token before new from is

-- ---- what a payload tells

-- some bodies, to the client of the order that its token leads to
record TellsOf (terms : List Terms) (p : ℕ) (m : Result Outbound DecodeRefusal) (before : OrderHistory) (t : Told) : Type 0 where
  new : Entry
  found : on_token terms p before (token_of_heard m) ≡ Some new
  client : t.client ≡ new.client
  some : t.bodies ≡ [] → ⊥

payload-tells : (terms : List Terms) (p : ℕ) (m : Result Outbound DecodeRefusal) (before : OrderHistory)
    → (told terms (Heard p m) before ≡ nobody) ⊎ TellsOf terms p m before (told terms (Heard p m) before)
payload-tells terms p (Err refusal) before = inl refl
payload-tells terms p (Ok m) before = by_row (is_some (judgement terms p (Ok m) before))
  where
    by_bodies : (new : Entry) → on_token terms p before (order_token m) ≡ Some new → (bodies : List Message)
        → (told_of_entry new bodies ≡ nobody) ⊎ TellsOf terms p (Ok m) before (told_of_entry new bodies)
    by_bodies new found [] = inl refl
    by_bodies new found (r ∷ rs) = inr (record { new = new; found = found; client = refl; some = λ none. absurd (cc) })

    by_order : (found : Option Entry) → on_token terms p before (order_token m) ≡ found
        → (told_on terms p m before found ≡ nobody) ⊎ TellsOf terms p (Ok m) before (told_on terms p m before found)
    by_order None is = inl refl
    by_order (Some new) is = by_bodies new is _

    by_row : (w : Bool) → (let t : Told = if w then nobody else told_on terms p m before
        (on_token terms p before (order_token m)) in (t ≡ nobody) ⊎ TellsOf terms p (Ok m) before t)
    by_row true = inl refl
    by_row false = by_order (on_token terms p before (order_token m)) refl

-- none for nobody, or for a client from which a message came
pub told-either : (terms : List Terms) (P : ℕ → Type 0) (before : OrderHistory) (p : ℕ)
    (m : Result Outbound DecodeRefusal) → AreFrom P before
    → (((told terms (Heard p m) before).bodies ≡ []) × ((told terms (Heard p m) before).client ≡ 0)) ⊎
    (P (told terms (Heard p m) before).client)
told-either terms P before p m from = by_told (payload-tells terms p m before)
  where
    by_told : (told terms (Heard p m) before ≡ nobody) ⊎ TellsOf terms p m before (told terms (Heard p m) before)
        → (((told terms (Heard p m) before).bodies ≡ []) × ((told terms (Heard p m) before).client ≡ 0)) ⊎
        (P (told terms (Heard p m) before).client)
    by_told (inl is) = inl (ap (λ (t : Told). t.bodies) is, ap (λ (t : Told). t.client) is)
    by_told (inr of) = inr (subst P (sym of.client) (on-of P terms p (token_of_heard m) before of.new from of.found))

pub told-none : (terms : List Terms) (before : OrderHistory) (p : ℕ) (m : Result Outbound DecodeRefusal) (t : OrderTurn)
    → told terms (Heard p m) before ≡ said_in t → t.bodies ≡ [] → t.client ≡ 0
told-none terms before p m t is none = by_told (payload-tells terms p m before)
  where
    by_told : (told terms (Heard p m) before ≡ nobody) ⊎ TellsOf terms p m before (told terms (Heard p m) before)
        → t.client ≡ 0
    by_told (inl silent) = ap (λ (x : Told). x.client) (sym is ∙ silent)
    by_told (inr of) = absurd (of.some (ap (λ (x : Told). x.bodies) is ∙ none))

pub told-some : (terms : List Terms) (P : ℕ → Type 0) (before : OrderHistory) (p : ℕ)
    (m : Result Outbound DecodeRefusal) (t : OrderTurn) → AreFrom P before → told terms (Heard p m) before ≡ said_in t
    → (t.bodies ≡ [] → ⊥) → P t.client
told-some terms P before p m t from is some = by_told (payload-tells terms p m before)
  where
    by_told : (told terms (Heard p m) before ≡ nobody) ⊎ TellsOf terms p m before (told terms (Heard p m) before)
        → P t.client
    by_told (inl silent) = absurd (some (ap (λ (x : Told). x.bodies) (sym is ∙ silent)))
    by_told (inr of) = subst P (sym of.client ∙ ap (λ (x : Told). x.client) is)
        (on-of P terms p (token_of_heard m) before of.new from of.found)
