-- What an event is accepted as, by its verdict; and each accepted new order is the one that its OrderID leads to.
use Rattle.std.proofs.Common.{◌≡◌, ℕ, ◌+◌, ◌<◌, ◌≤◌, ◌^◌, Bool, true, false, List, [], ◌∷◌, ◌++◌, refl, sym, ap, ◌∙◌}
use Rattle.std.proofs.Common.{subst, arith, bytes_eq, decimal, Option, Some, None}
use Rattle.std.specs.Prelude.{filter, if◌then◌else◌, option_to_list, unwrap_or, Result}
use Rattle.order_accounts.specs.ouch_codec.declared.outbound.Outbound.{Outbound}
use Rattle.order_accounts.specs.ouch_codec.declared.refusal.DecodeRefusal.{DecodeRefusal}
use Rattle.gate_law.specs.fix_fields.Field.{Message, text}
use Rattle.order_law.specs.Verdicts.{Accepted, Port, Refused, Verdict, is_replace}
use Rattle.order_law.specs.Chain.{named}
use Rattle.order_law.specs.History.{Came, Entry, OrderEvent, Heard, OrderHistory, Terms, OrderTurn, accepted, entry_at}
use Rattle.order_law.specs.History.{given_tokens, is_new_order, issued, new_of, orders_numbered, verdict}
use Rattle.order_law.specs.Headline.{Each}
use Rattle.gate_core.proofs.order_machine.Executed.{count-more}
use Rattle.gate_core.proofs.order_machine.Texts.{and-false, eq-decimal_other, eq-same, number-decimal}
use Rattle.std.specs.Str.Parse.{digits_value}
use Rattle.gate_audit.specs.Pairs.{AreByOrder}

abbrev pub news : List Entry → List Entry
news entries = filter (λ (e : Entry). is_new_order e.message) entries

abbrev pub verdict_at : List Terms → OrderHistory → ℕ → Message → Port → Verdict
verdict_at terms before client m port = verdict terms (issued client before) (accepted terms before) port m

-- an accepted message: a new order has the next OrderID, a new order or a replace the next token
abbrev pub new_entry : List Terms → OrderHistory → ℕ → Message → Entry
new_entry terms before client m = record {
  client = client;
  message = m;
  order =
      decimal (orders_numbered before + 1);
  token = Some (given_tokens (accepted terms before) + 1);
}

abbrev pub request_entry : List Terms → OrderHistory → ℕ → Message → Entry
request_entry terms before client m = record {
  client = client;
  message = m;
  order = unwrap_or (named (text 41 m) (issued client before)) [];
  token = if is_replace m then Some (given_tokens (accepted terms before) + 1) else None;
}

module _ (terms : List Terms) (t : OrderTurn) (before : OrderHistory) (client : ℕ) (m : Message) (port : Port) (is_e : t.event ≡ Came client m port) where
  pub taken-new : verdict_at terms before client m port ≡ Accepted → is_new_order m ≡ true
      → entry_at terms (Came client m port) before ≡ Some (new_entry terms before client m)
  taken-new v new = rw (v, new) refl

  pub taken-request : verdict_at terms before client m port ≡ Accepted → is_new_order m ≡ false
      → entry_at terms (Came client m port) before ≡ Some (request_entry terms before client m)
  taken-request v old = rw (v, old) refl

  now-accepted : (x : Option Entry) → entry_at terms (Came client m port) before ≡ x
      → accepted terms (t ∷ before) ≡ option_to_list x ++ accepted terms before
  now-accepted x is_x =
      let here : accepted terms (t ∷ before) ≡ option_to_list (entry_at terms (Came client m port) before)
      ++ accepted terms before = rw is_e refl in
      here ∙ ap (λ (y : Option Entry). option_to_list y ++ accepted terms before) is_x

  pub new-accepted : verdict_at terms before client m port ≡ Accepted → is_new_order m ≡ true
      → accepted terms (t ∷ before) ≡ new_entry terms before client m ∷ accepted terms before
  new-accepted v new = now-accepted (Some (new_entry terms before client m)) (taken-new v new)

  pub request-accepted : verdict_at terms before client m port ≡ Accepted → is_new_order m ≡ false
      → accepted terms (t ∷ before) ≡ request_entry terms before client m ∷ accepted terms before
  request-accepted v old = now-accepted (Some (request_entry terms before client m)) (taken-request v old)

  pub none-accepted : (code : ℕ) (why : List ℕ) → verdict_at terms before client m port ≡ Refused code why
      → accepted terms (t ∷ before) ≡ accepted terms before
  none-accepted code why v = rw (is_e, v) refl

  numbered-now : orders_numbered (t ∷ before) ≡ (if is_new_order m then 1 else 0) + orders_numbered before
  numbered-now = count-more _ t before ∙ rw is_e refl

pub heard-accepted : (terms : List Terms) (t : OrderTurn) (before : OrderHistory) (p : ℕ)
    (heard : Result Outbound DecodeRefusal) → t.event ≡ Heard p heard
    → accepted terms (t ∷ before) ≡ accepted terms before
heard-accepted terms t before p heard is_e = rw is_e refl

numbered-heard : (t : OrderTurn) (before : OrderHistory) (p : ℕ) (heard : Result Outbound DecodeRefusal)
    → t.event ≡ Heard p heard → orders_numbered (t ∷ before) ≡ 0 + orders_numbered before
numbered-heard t before p heard is_e = count-more _ t before ∙ rw is_e refl

-- ---- by its OrderID

-- it has one of so many numbers, and among these it is what its OrderID leads to
pub record IsFound (entries : List Entry) (top : ℕ) (new : Entry) : Type 0 where
  pub number : ℕ
  pub order_is : new.order ≡ decimal number
  pub is_numbered : number ≤ top
  pub found : new_of new.order entries ≡ Some new

each-more : {X : Type 0} (P Q : X → Type 0) → ((x : X) → P x → Q x) → (xs : List X) → Each P xs → Each Q xs
each-more P Q more [] each = tt
each-more P Q more (x ∷ xs) each = (more x each.0, each-more P Q more xs each.1)

same-found : (A : List Entry) (n top : ℕ) → n ≤ top → (e : Entry) → IsFound A n e → IsFound A top e
same-found A n top more e f = record {
  number = f.number;
  order_is = f.order_is;
  is_numbered =
      omega (arith, f.is_numbered, more);
  found = f.found;
}

abbrev pub AllFound : List Terms → OrderHistory → Type 0
AllFound terms h = Each (IsFound (accepted terms h) (orders_numbered h)) (news (accepted terms h))

-- nothing is accepted
quiet-found : (terms : List Terms) (t : OrderTurn) (before : OrderHistory)
    → accepted terms (t ∷ before) ≡ accepted terms before → orders_numbered before ≤ orders_numbered (t ∷ before)
    → AllFound terms before → AllFound terms (t ∷ before)
quiet-found terms t before same more found =
    subst (λ (es : List Entry). Each (IsFound es (orders_numbered (t ∷ before))) (news es)) (sym same)
    (each-more _ _ (same-found (accepted terms before) (orders_numbered before) (orders_numbered (t ∷ before)) more)
    (news (accepted terms before)) found)

-- a request is accepted: it is no new order
request-found : (terms : List Terms) (t : OrderTurn) (before : OrderHistory) (en : Entry)
    → is_new_order en.message ≡ false → accepted terms (t ∷ before) ≡ en ∷ accepted terms before
    → orders_numbered before ≤ orders_numbered (t ∷ before)
    → AllFound terms before → AllFound terms (t ∷ before)
request-found terms t before en old taken more found =
    let kept : Each (IsFound (en ∷ accepted terms before) (orders_numbered (t ∷ before)))
    (news (accepted terms before)) =
    each-more (IsFound (accepted terms before) (orders_numbered before))
    (IsFound (en ∷ accepted terms before) (orders_numbered (t ∷ before))) passed
    (news (accepted terms before)) found in
    subst (λ (es : List Entry). Each (IsFound es (orders_numbered (t ∷ before))) (news es)) (sym taken) (rw old kept)
  where
    passed : (e : Entry) → IsFound (accepted terms before) (orders_numbered before) e
        → IsFound (en ∷ accepted terms before) (orders_numbered (t ∷ before)) e
    passed e f = record {
      number = f.number;
      order_is = f.order_is;
      is_numbered = omega (arith, f.is_numbered, more);
      found = (let kept : new_of e.order (en ∷ accepted terms before) ≡ new_of e.order (accepted terms before) =
          rw (old, and-false (bytes_eq en.order e.order)) refl in kept ∙ f.found);
    }

-- a new order is accepted: its OrderID is none of those before
new-found : (terms : List Terms) (t : OrderTurn) (before : OrderHistory) (en : Entry) → is_new_order en.message ≡ true
    → en.order ≡ decimal (orders_numbered before + 1) → accepted terms (t ∷ before) ≡ en ∷ accepted terms before
    → orders_numbered (t ∷ before) ≡ 1 + orders_numbered before → orders_numbered before + 1 < 10 ^ 64
    → AllFound terms before → AllFound terms (t ∷ before)
new-found terms t before en new order_is taken more few found =
    let kept : Each (IsFound (en ∷ accepted terms before) (orders_numbered (t ∷ before)))
    (news (accepted terms before)) =
    each-more (IsFound (accepted terms before) (orders_numbered before))
    (IsFound (en ∷ accepted terms before) (orders_numbered (t ∷ before))) passed
    (news (accepted terms before)) found in
    subst (λ (es : List Entry). Each (IsFound es (orders_numbered (t ∷ before))) (news es)) (sym taken)
    (rw new (own, kept))
  where
    own : IsFound (en ∷ accepted terms before) (orders_numbered (t ∷ before)) en
    own = record {
      number = orders_numbered before + 1;
      order_is = order_is;
      is_numbered = omega (arith, more);
      found = rw (eq-same en.order, new) refl;
    }

    passed : (e : Entry) → IsFound (accepted terms before) (orders_numbered before) e
        → IsFound (en ∷ accepted terms before) (orders_numbered (t ∷ before)) e
    passed e f =
        let other : bytes_eq en.order e.order ≡ false =
        rw (order_is, f.order_is) (eq-decimal_other (orders_numbered before + 1) f.number
        (λ same. (omega (arith, same, f.is_numbered))) few (omega (arith, few, f.is_numbered))) in
        let kept : new_of e.order (en ∷ accepted terms before) ≡ new_of e.order (accepted terms before) = rw other refl
        in
        record {
          number = f.number;
          order_is = f.order_is;
          is_numbered = omega (arith, f.is_numbered, more);
          found =
              kept ∙ f.found;
        }

pub all-found : (terms : List Terms) (h : OrderHistory) → orders_numbered h < 10 ^ 64 → AllFound terms h
all-found terms [] few = tt
all-found terms (t ∷ before) few = by_event
    (λ (k : orders_numbered before < 10 ^ 64). all-found terms before k) t.event refl
  where
    by_event : (orders_numbered before < 10 ^ 64 → AllFound terms before) → (e : OrderEvent) → t.event ≡ e
        → AllFound terms (t ∷ before)
    by_event earlier (Heard p heard) is_e =
        let same = numbered-heard t before p heard is_e in
        quiet-found terms t before (heard-accepted terms t before p heard is_e) (omega (arith, same))
        (earlier (omega (arith, same, few)))
    by_event earlier (Came client m port) is_e =
        by_verdict (verdict_at terms before client m port) refl (is_new_order m) refl
      where
        counted : (b : Bool) → is_new_order m ≡ b
            → orders_numbered (t ∷ before) ≡ (if b then 1 else 0) + orders_numbered before
        counted b is_b = numbered-now terms t before client m port is_e
            ∙ ap (λ (x : Bool). (if x then 1 else 0) + orders_numbered before) is_b

        counted-more : (b : Bool) → is_new_order m ≡ b → orders_numbered before ≤ orders_numbered (t ∷ before)
        counted-more true is_b = (let same = counted true is_b in omega (arith, same))
        counted-more false is_b = (let same = counted false is_b in omega (arith, same))

        by_verdict : (v : Verdict) → verdict_at terms before client m port ≡ v → (b : Bool) → is_new_order m ≡ b
            → AllFound terms (t ∷ before)
        by_verdict Accepted v true new =
            let same = counted true new in
            new-found terms t before (new_entry terms before client m) new refl
            (new-accepted terms t before client m port is_e v new) same (omega (arith, same, few))
            (earlier (omega (arith, same, few)))
        by_verdict Accepted v false old =
            let more = counted-more false old in
            request-found terms t before (request_entry terms before client m) old
            (request-accepted terms t before client m port is_e v old) more (earlier (omega (arith, more, few)))
        by_verdict (Refused code why) v b is_b =
            let more = counted-more b is_b in
            quiet-found terms t before (none-accepted terms t before client m port is_e code why v) more
            (earlier (omega (arith, more, few)))

-- ---- by OrderID

-- what is accepted next has a greater number than all before
all-less : (A : List Entry) (n : ℕ) → n + 1 < 10 ^ 64 → (es : List Entry) → Each (IsFound A n) es
    → Each (λ (e : Entry). digits_value 10 e.order < digits_value 10 (decimal (n + 1))) es
all-less A n few [] found = tt
all-less A n few (e ∷ es) found =
    let f = found.0 in
    let number : digits_value 10 e.order ≡ f.number = ap (digits_value 10) f.order_is
    ∙ number-decimal f.number (omega (arith, f.is_numbered, few)) in
    let next : digits_value 10 (decimal (n + 1)) ≡ n + 1 = number-decimal (n + 1) few in
    (omega (arith, number, next, f.is_numbered), all-less A n few es found.1)

pub all-by-order : (terms : List Terms) (h : OrderHistory) → orders_numbered h < 10 ^ 64
    → AreByOrder (news (accepted terms h))
all-by-order terms [] few = tt
all-by-order terms (t ∷ before) few = by_event
    (λ (k : orders_numbered before < 10 ^ 64). all-by-order terms before k) t.event refl
  where
    same-order : accepted terms (t ∷ before) ≡ accepted terms before → AreByOrder (news (accepted terms before))
        → AreByOrder (news (accepted terms (t ∷ before)))
    same-order same ordered = subst (λ (es : List Entry). AreByOrder (news es)) (sym same) ordered

    by_event : (orders_numbered before < 10 ^ 64 → AreByOrder (news (accepted terms before))) → (e : OrderEvent)
        → t.event ≡ e → AreByOrder (news (accepted terms (t ∷ before)))
    by_event earlier (Heard p heard) is_e =
        let same = numbered-heard t before p heard is_e in
        same-order (heard-accepted terms t before p heard is_e) (earlier (omega (arith, same, few)))
    by_event earlier (Came client m port) is_e =
        by_verdict (verdict_at terms before client m port) refl (is_new_order m) refl
      where
        counted : (b : Bool) → is_new_order m ≡ b
            → orders_numbered (t ∷ before) ≡ (if b then 1 else 0) + orders_numbered before
        counted b is_b = numbered-now terms t before client m port is_e
            ∙ ap (λ (x : Bool). (if x then 1 else 0) + orders_numbered before) is_b

        fewer : (b : Bool) → is_new_order m ≡ b → orders_numbered before < 10 ^ 64
        fewer true is_b = (let same = counted true is_b in omega (arith, same, few))
        fewer false is_b = (let same = counted false is_b in omega (arith, same, few))

        by_verdict : (v : Verdict) → verdict_at terms before client m port ≡ v → (b : Bool) → is_new_order m ≡ b
            → AreByOrder (news (accepted terms (t ∷ before)))
        by_verdict Accepted v true new =
            let same = counted true new in
            let next : orders_numbered before + 1 < 10 ^ 64 = omega (arith, same, few) in
            let ordered : AreByOrder (new_entry terms before client m ∷ news (accepted terms before)) = (
              all-less (accepted terms before) (orders_numbered before) next (news (accepted terms before))
                  (all-found terms before (fewer true new)),
              earlier (fewer true new),
            ) in
            subst (λ (es : List Entry). AreByOrder (news es))
            (sym (new-accepted terms t before client m port is_e v new)) (rw new ordered)
        by_verdict Accepted v false old =
            subst (λ (es : List Entry). AreByOrder (news es))
            (sym (request-accepted terms t before client m port is_e v old)) (rw old (earlier (fewer false old)))
        by_verdict (Refused code why) v b is_b = same-order (none-accepted terms t before client m port is_e code why v)
            (earlier (fewer b is_b))
