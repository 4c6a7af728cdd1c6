-- The requests that ask: no two of one order have the same ClOrdID.
use Rattle.std.proofs.Common.{◌≡◌, ◌<◌, ◌^◌, ℕ, Bool, true, false, List, [], ◌∷◌, ◌++◌, length, refl, sym, ap, ◌∙◌}
use Rattle.std.proofs.Common.{subst, arith, codes, Option, Some, None, ◌⊎◌, inl, inr, eq-eqb, Ok, Err, Result}
use Rattle.std.proofs.lemmas.List.Folds.{list_any-append}
use Rattle.std.specs.Prelude.{◌||◌, option_to_list}
use Rattle.fix_fields.specs.Field.{Message, text}
use Rattle.order_law.specs.ouch_codec.declared.outbound.Outbound.{Outbound}
use Rattle.order_law.specs.ouch_codec.declared.refusal.DecodeRefusal.{DecodeRefusal}
use Rattle.order_law.specs.Chain.{is_used}
use Rattle.order_law.specs.Verdicts.{Port, Verdict, Accepted, Refused}
use Rattle.order_law.specs.History.{Asked, Came, Heard, Entry, OrderEvent, OrderHistory, OrderTurn, Terms, accepted}
use Rattle.order_law.specs.History.{asks_of, entry_at, handled, is_new_order, issued, new_of, orders_numbered, verdict}
use Rattle.order_law.specs.Headline.{Each}
use Rattle.order_machine.specs.Runs.{TurnsLeave}
use Rattle.order_machine.specs.Machine.{accept_on, by_verdict, given_by_fault, heard_on, order_in, payload_fault}
use Rattle.order_machine.specs.Machine.{table_step, verdict_in}
use Rattle.order_machine.specs.OrderRecord.{OrderRecord}
use Rattle.order_machine.specs.Table.{TableState, UsedId, has_used, is_same_id, record_by_id, used_by}
use Rattle.order_machine.proofs.Holds.{IsEntry}
use Rattle.order_machine.proofs.Linked.{IsTable}
use Rattle.order_machine.proofs.Running.{Leaves-Holding}
use Rattle.market_law.proofs.Basics.{each-all, eq-same, not-both, or-right}
use Rattle.world_law.specs.Asked.{IsIn, asked, sender}
use Rattle.world_law.proofs.Homes.{new-kept}
use Rattle.world_law.proofs.Members.{each-in, in-parts, in-right}
use Rattle.world_law.proofs.Naming.{IsOwnEntry, NewlyAsked, entry-came, entry-own, newly-asked}

-- ---- ids that are used

-- a message that is accepted has an id that wasn't used
not-used : (ts : List Terms) (client : ℕ) (m : Message) (port : Port) (before : OrderHistory) (e : Entry)
    → entry_at ts (Came client m port) before ≡ Some e → is_used (text 11 m) (issued client before) ≡ false
not-used ts client m port before e is = by_used (is_used (text 11 m) (issued client before)) refl
  where
    by_new : (n : Bool) → is_new_order m ≡ n → is_used (text 11 m) (issued client before) ≡ true
        → is_used (text 11 m) (issued client before) ≡ false
    by_new true new used =
        let refused : verdict ts (issued client before) (accepted ts before) port m ≡ Refused 6 (codes "duplicate ClOrdID") = rw (new, used) refl in
        absurd (let x : ◌≡◌ {A = Option Entry} None (Some e) = rw refused at is in cc)
    by_new false new used =
        let refused : verdict ts (issued client before) (accepted ts before) port m ≡ Refused 6 (codes "duplicate ClOrdID") = rw (new, used) refl in
        absurd (let x : ◌≡◌ {A = Option Entry} None (Some e) = rw refused at is in cc)

    by_used : (b : Bool) → is_used (text 11 m) (issued client before) ≡ b
        → is_used (text 11 m) (issued client before) ≡ false
    by_used true used = by_new (is_new_order m) refl used
    by_used false used = used

-- one id more is used
used-last : (xs : List UsedId) (client : ℕ) (m : Message)
    → has_used (xs ++ used_by client m ∷ []) client (text 11 m) ≡ true
used-last xs client m =
    let one : has_used (used_by client m ∷ []) client (text 11 m) ≡ true =
    (let same = eq-eqb client client refl in let text_same = eq-same (text 11 m) in rw (same, text_same) refl) in
    list_any-append (is_same_id client (text 11 m)) xs (used_by client m ∷ [])
    ∙ or-right (has_used xs client (text 11 m)) _ one

used-earlier : (xs ys : List UsedId) (client : ℕ) (id : List ℕ) → has_used xs client id ≡ true
    → has_used (xs ++ ys) client id ≡ true
used-earlier xs ys client id used = list_any-append (is_same_id client id) xs ys
    ∙ ap (λ (b : Bool). b || has_used ys client id) used

module _ (old : TableState) where
  -- a client's message uses its id
  uses-own : (client : ℕ) (m : Message) (port : Port)
      → has_used (table_step old (Came client m port)).state.used client (text 11 m) ≡ true
  uses-own client m port = by_verdict_is (verdict_in old client port m) refl
    where
      unknown : is_new_order m ≡ false → record_by_id old client (text 41 m) ≡ None
          → verdict_in old client port m ≡ Accepted → ⊥
      unknown new none v = by_used (has_used old.used client (text 11 m)) refl
        where
          by_used : (b : Bool) → has_used old.used client (text 11 m) ≡ b → ⊥
          by_used true used = (let x : ◌≡◌ {A = Verdict} (Refused 6 (codes "duplicate ClOrdID")) Accepted = rw (new, used) at v in cc)
          by_used false used = (let x : ◌≡◌ {A = Verdict} (Refused 1 (codes "unknown order")) Accepted = rw (new, used, none) at v in cc)

      by_record : is_new_order m ≡ false → verdict_in old client port m ≡ Accepted → (x : Option OrderRecord)
          → record_by_id old client (text 41 m) ≡ x
          → has_used (accept_on old client m x).state.used client (text 11 m) ≡ true
      by_record new v None none = absurd (unknown new none v)
      by_record new v (Some o) found = used-last old.used client m

      by_new : verdict_in old client port m ≡ Accepted → (n : Bool) → is_new_order m ≡ n
          → has_used (by_verdict old client m Accepted).state.used client (text 11 m) ≡ true
      by_new v true new = rw new (used-last old.used client m)
      by_new v false new = rw new (by_record new v (record_by_id old client (text 41 m)) refl)

      by_refused : (code : ℕ) (why : List ℕ) (n : Bool) → is_new_order m ≡ n
          → has_used (by_verdict old client m (Refused code why)).state.used client (text 11 m) ≡ true
      by_refused code why true new = rw new (used-last old.used client m)
      by_refused code why false new = rw new (used-last old.used client m)

      by_verdict_is : (x : Verdict) → verdict_in old client port m ≡ x
          → has_used (by_verdict old client m x).state.used client (text 11 m) ≡ true
      by_verdict_is Accepted v = by_new v (is_new_order m) refl
      by_verdict_is (Refused code why) v = by_refused code why (is_new_order m) refl

  -- and no id is used no longer
  module _ (client : ℕ) (id : List ℕ) (used : has_used old.used client id ≡ true) where
    keeps-request : (c : ℕ) (m : Message) (x : Option OrderRecord)
        → has_used (accept_on old c m x).state.used client id ≡ true
    keeps-request c m None = used
    keeps-request c m (Some o) = used-earlier old.used _ client id used

    keeps-verdict : (c : ℕ) (m : Message) (x : Verdict) → has_used (by_verdict old c m x).state.used client id ≡ true
    keeps-verdict c m Accepted = by_new (is_new_order m) refl
      where
        by_new : (n : Bool) → is_new_order m ≡ n → has_used (by_verdict old c m Accepted).state.used client id ≡ true
        by_new true new = rw new (used-earlier old.used _ client id used)
        by_new false new = rw new (keeps-request c m (record_by_id old c (text 41 m)))
    keeps-verdict c m (Refused code why) = by_new (is_new_order m) refl
      where
        by_new : (n : Bool) → is_new_order m ≡ n → has_used (by_verdict old c m (Refused code why)).state.used client id
            ≡ true
        by_new true new = rw new (used-earlier old.used _ client id used)
        by_new false new = rw new (used-earlier old.used _ client id used)

    keeps-heard : (m : Outbound) (x : Option OrderRecord) → has_used (heard_on old m x).state.used client id ≡ true
    keeps-heard m None = used
    keeps-heard m (Some o) = used

    keeps-market : (port : ℕ) (heard : Result Outbound DecodeRefusal) (fault : Option ℕ)
        → has_used (given_by_fault old port heard fault).state.used client id ≡ true
    keeps-market port (Err refusal) None = used
    keeps-market port (Ok m) None = keeps-heard m (order_in old port m)
    keeps-market port (Err refusal) (Some fault) = used
    keeps-market port (Ok m) (Some fault) = used

    keeps-used : (ev : OrderEvent) → has_used (table_step old ev).state.used client id ≡ true
    keeps-used (Came c m port) = keeps-verdict c m (verdict_in old c port m)
    keeps-used (Heard port heard) = keeps-market port heard (payload_fault old port heard)

-- ---- the ids of all that was accepted are used

abbrev UsesId : TableState → Entry → Type 0
UsesId s e = has_used s.used e.client (text 11 e.message) ≡ true

used-ids : (ts : List Terms) (h : OrderHistory) (s : TableState) → TurnsLeave ts h s → Each (UsesId s) (accepted ts h)
unfolding TurnsLeave
used-ids ts [] s leaves = tt
used-ids ts (t ∷ before) s leaves = by_entry (entry_at ts t.event before) refl (used-ids ts before leaves.0 leaves.1)
  where
    state_is : s ≡ (table_step leaves.0 t.event).state
    state_is = leaves.2.meets.state

    old_ids : (xs : List Entry) → Each (UsesId leaves.0) xs → Each (UsesId s) xs
    old_ids xs each = each-all (UsesId leaves.0) (UsesId s) xs
        (λ e k. subst (λ (x : TableState). has_used x.used e.client (text 11 e.message) ≡ true) (sym state_is)
        (keeps-used leaves.0 e.client (text 11 e.message) k t.event)) each

    by_entry : (x : Option Entry) → entry_at ts t.event before ≡ x → Each (UsesId leaves.0) (accepted ts before)
        → Each (UsesId s) (option_to_list x ++ accepted ts before)
    by_entry None is each = old_ids (accepted ts before) each
    by_entry (Some e) is each =
        let came = entry-came ts t.event before e is in
        let own : IsOwnEntry came.0 came.1.0 e = entry-own ts came.0 came.1.0 came.1.1.0 before e
        (ap (λ (ev : OrderEvent). entry_at ts ev before) (sym came.1.1.1) ∙ is) in (
          subst (λ (x : TableState). has_used x.used e.client (text 11 e.message) ≡ true) (sym state_is)
              (subst (λ (ev : OrderEvent). has_used (table_step leaves.0 ev).state.used e.client (text 11 e.message)
              ≡ true) (sym came.1.1.1)
              (subst (λ (c : ℕ). has_used (table_step leaves.0 (Came came.0 came.1.0 came.1.1.0)).state.used c
              (text 11 e.message) ≡ true) (sym own.client_is)
              (subst (λ (m : Message). has_used (table_step leaves.0 (Came came.0 came.1.0 came.1.1.0)).state.used
              came.0 (text 11 m) ≡ true) (sym own.message_is) (uses-own leaves.0 came.0 came.1.0 came.1.1.0)))),
          old_ids (accepted ts before) each,
        )

-- ---- who asked

-- an accepted message asked it
pub record AskedOf (entries : List Entry) (a : Asked) : Type 0 where
  pub entry : Entry
  pub there : IsIn entry entries
  pub order : a.order ≡ entry.order
  pub id : a.id ≡ text 11 entry.message

pub asked-of : (ts : List Terms) (h : OrderHistory) (port : ℕ) (a : Asked) → IsIn a (asked ts port h)
    → AskedOf (accepted ts h) a
asked-of ts [] port a i = absurd i
asked-of ts (t ∷ before) port a i = by_place (in-parts a (asked ts port before) _ i) (λ j. asked-of ts before port a j)
  where
    first : (e : Entry) (x : Option Entry) → x ≡ Some e → IsIn e (option_to_list x ++ accepted ts before)
    first e None is = absurd (cc)
    first e (Some y) is = inl (let same : y ≡ e = cc in same)

    by_place : IsIn a (asked ts port before) ⊎ IsIn a
        (asks_of ts port (entry_at ts t.event before) (accepted ts before) (issued (sender t.event) before)
        (handled port before)) → (IsIn a (asked ts port before) → AskedOf (accepted ts before) a)
        → AskedOf (accepted ts (t ∷ before)) a
    by_place (inl j) earlier = let k = earlier j in
        record {
          entry = k.entry;
          there = in-right k.entry (option_to_list (entry_at ts t.event before))
              (accepted ts before) k.there;
          order = k.order;
          id = k.id;
        }
    by_place (inr j) earlier = let k = newly-asked ts port t.event before a j in
        record {
          entry = k.entry;
          there = first k.entry (entry_at ts t.event before) k.is;
          order = k.by.order;
          id =
              k.by.id;
        }

-- a request that asks now has an id that no earlier one of its order had
pub request-new : (ts : List Terms) (t : OrderTurn) (before : OrderHistory) (s : TableState)
    → length (t ∷ before) < 2 ^ 59 → TurnsLeave ts (t ∷ before) s → (port : ℕ) (a b : Asked)
    → IsIn a (asked ts port before) → NewlyAsked ts port t.event before b → a.order ≡ b.order → a.id ≡ b.id → ⊥
unfolding TurnsLeave
request-new ts t before s short leaves port a b i k same_order same_id =
    not-both (is_used (text 11 came.1.0) (issued came.0 before)) is_used_then
    (not-used ts came.0 came.1.0 came.1.1.0 before k.entry entry_is)
  where
    T0 : IsTable ts before leaves.0
    T0 = (Leaves-Holding ts before leaves.0 (omega arith) leaves.1).table

    T1 : IsTable ts (t ∷ before) s
    T1 = (Leaves-Holding ts (t ∷ before) s short leaves).table

    came : (client : ℕ) × ((m : Message) × ((p : Port) × (t.event ≡ Came client m p)))
    came = entry-came ts t.event before k.entry k.is

    entry_is : entry_at ts (Came came.0 came.1.0 came.1.1.0) before ≡ Some k.entry
    entry_is = ap (λ (ev : OrderEvent). entry_at ts ev before) (sym came.1.1.1) ∙ k.is

    own : IsOwnEntry came.0 came.1.0 k.entry
    own = entry-own ts came.0 came.1.0 came.1.1.0 before k.entry entry_is

    of : AskedOf (accepted ts before) a
    of = asked-of ts before port a i

    old : IsEntry ts (accepted ts before) (orders_numbered before) of.entry
    old = each-in (IsEntry ts (accepted ts before) (orders_numbered before)) of.entry
        (accepted ts before) T0.held.entries of.there

    now : IsEntry ts (accepted ts (t ∷ before)) (orders_numbered (t ∷ before)) k.entry
    now = (subst (λ (x : Option Entry). Each (IsEntry ts (accepted ts (t ∷ before)) (orders_numbered (t ∷ before)))
        (option_to_list x ++ accepted ts before)) k.is T1.held.entries).0

    order_is : of.entry.order ≡ k.entry.order
    order_is = sym of.order ∙ same_order ∙ k.by.order

    same_new : old.new ≡ now.new
    same_new = (let g : Some old.new ≡ Some now.new =
        sym (new-kept ts t before leaves.0 s T0 T1 of.entry.order old.new old.found)
        ∙ ap (λ (n : List ℕ). new_of n (accepted ts (t ∷ before))) order_is ∙ now.found in cc)

    client_same : of.entry.client ≡ came.0
    client_same = sym old.same_client ∙ ap (λ (e : Entry). e.client) same_new ∙ now.same_client ∙ own.client_is

    id_same : text 11 of.entry.message ≡ text 11 came.1.0
    id_same = sym of.id ∙ same_id ∙ k.by.id ∙ ap (text 11) own.message_is

    is_used_then : is_used (text 11 came.1.0) (issued came.0 before) ≡ true
    is_used_then =
        sym (T0.used came.0 (text 11 came.1.0))
        ∙ ap (has_used leaves.0.used came.0) (sym id_same)
        ∙ ap (λ (c : ℕ). has_used leaves.0.used c (text 11 of.entry.message)) (sym client_same)
        ∙ each-in (UsesId leaves.0) of.entry (accepted ts before) (used-ids ts before leaves.0 leaves.1) of.there
