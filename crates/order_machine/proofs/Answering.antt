-- A payload of the market keeps the table as the lists have it.
use Rattle.std.proofs.Common.{◌≡◌, ℕ, ◌+◌, ◌<◌, ◌≤◌, ◌^◌, Bool, true, false, List, [], ◌∷◌, ◌++◌, length}
use Rattle.std.proofs.Common.{map, reverse, refl, sym, ap, ◌∙◌, subst, arith, bytes_eq, Option, Some, None, Result, Ok}
use Rattle.std.proofs.Common.{Err, eqb-true, eq-eqb}
use Rattle.std.specs.Prelude.{◌==◌, if◌then◌else◌, option_and_then, option_map}
use Rattle.std.specs.List.{count_by}
use Rattle.order_law.specs.ouch_codec.declared.outbound.Outbound.{Outbound}
use Rattle.order_law.specs.ouch_codec.declared.refusal.DecodeRefusal.{DecodeRefusal}
use Rattle.fix_fields.specs.Field.{Message, text}
use Rattle.order_law.specs.Reading.{is_report}
use Rattle.order_law.specs.Chain.{is_used}
use Rattle.order_law.specs.History.{Entry, Heard, OrderHistory, Terms, OrderTurn, accepted, issued, new_of}
use Rattle.order_law.specs.Lawful.{judgement, order_of_token, order_token}
use Rattle.order_law.specs.Told as law
use Rattle.order_law.specs.Told.{Shown, Told, nobody, reports_in, told_of_entry, told_by}
use Rattle.order_law.specs.Headline.{Each}
use Rattle.order_machine.specs.OrderRecord.{Cancelling, OrderRecord, after_message, asked_as, cancel_entry, fill_of}
use Rattle.order_machine.specs.OrderRecord.{last_of, record_life, replacements, shown_as}
use Rattle.order_machine.specs.Told.{IsTold}
use Rattle.order_machine.specs.Table.{TableState, record_by_token, has_used}
use Rattle.order_machine.specs.Table.{put}
use Rattle.order_machine.specs.Machine.{GivenByEvent, bodies_of, payload_fault, faulty, heard_on, market_step}
use Rattle.order_machine.specs.Machine.{order_in, silent}
use Rattle.order_machine.proofs.Lists.{Each-append, Each-map}
use Rattle.order_machine.proofs.Asked.{last-is}
use Rattle.order_machine.proofs.Leads.{same_some}
use Rattle.order_machine.proofs.Moves.{answers_last}
use Rattle.order_machine.proofs.Fits.{IsUsed}
use Rattle.order_machine.proofs.Holds.{FitsIn, Still, StillBeside, port_of}
use Rattle.order_machine.proofs.Hearing.{fault-Holds, heard_turn, numbered-heard, tokenless-Holds}
use Rattle.order_machine.proofs.Judged.{IsLawful, lawful}
use Rattle.order_machine.proofs.Lawfully as lawfully
use Rattle.order_machine.proofs.Truth.{turn-next}
use Rattle.order_machine.proofs.Linked.{IsTable, fault-same, token-fits, token-leads, token-port}
use Rattle.order_machine.proofs.Placed.{Each-put, entries-put, entries_of}
use Rattle.order_machine.proofs.Ids.{OfShown, told-few, told-ids, used-onto}

-- a payload that is a fault tells nobody anything
fault-told : (terms : List Terms) (before : OrderHistory) (port : ℕ) (heard : Result Outbound DecodeRefusal) (n : ℕ)
    → judgement terms port heard before ≡ Some n → law.told terms (Heard port heard) before ≡ nobody
fault-told terms before port (Err refusal) n judged = refl
fault-told terms before port (Ok m) n judged = rw judged refl

module _ (terms : List Terms) (before : OrderHistory) (s : TableState) (t : IsTable terms before s) (short : length before < 2 ^ 59) (port : ℕ) (heard : Result Outbound DecodeRefusal) (sends : List (List ℕ)) where
  abbrev A : List Entry
  A = accepted terms before

  abbrev turn : ℕ → List Message → Option ℕ → OrderTurn
  turn client bodies fault = heard_turn port heard client bodies sends fault

  -- what a step has to do: the table that it gives is that of the lists, and the fault is the judged one
  abbrev pub Answers : GivenByEvent → Type 0
  Answers g = IsTable terms (turn g.client g.bodies g.fault ∷ before) g.state
      × (law.told terms (Heard port heard) before ≡ record { client = g.client; bodies = g.bodies })
      × (g.fault ≡ judgement terms port heard before)

  reports_small : reports_in before < 10 ^ 64
  reports_small = omega (arith, t.few)

  judged : payload_fault s port heard ≡ judgement terms port heard before
  judged = fault-same terms before s t port heard

  -- ---- where no order is changed and nobody is told anything

  module _ (fault : Option ℕ) (is_judged : judgement terms port heard before ≡ fault) (none : law.told terms (Heard port heard) before ≡ nobody) (still : Still terms (turn 0 [] fault) before) where
    same_issued : (c : ℕ) → issued c (turn 0 [] fault ∷ before) ≡ issued c before
    same_issued c = by_client (0 == c)
      where
        by_client : (b : Bool) → (if b then reverse [] ++ issued c before else issued c before) ≡ issued c before
        by_client true = refl
        by_client false = refl

    told_now : IsTold terms (turn 0 [] fault ∷ before)
    told_now = (record { tells = none; fault = sym is_judged }, t.is_told)

    quiet-Table : IsTable terms (turn 0 [] fault ∷ before) s
    quiet-Table = record {
      same_terms = t.same_terms;
      held = (turn-next terms (turn 0 [] fault) before t.held short reports_small told_now.0).0;
      listed = t.listed;
      fit = Each-map (FitsIn terms before) (FitsIn terms (turn 0 [] fault ∷ before)) s.orders still t.fit;
      distinct = t.distinct;
      tokens = t.tokens;
      replaces = t.replaces;
      used = λ c id. t.used c id ∙ ap (is_used id) (sym (same_issued c));
      order_ids = let more = numbered-heard port heard 0 [] sends fault before in omega (arith, t.order_ids, more);
      exec_ids = omega (arith, t.exec_ids);
      few = omega (arith, t.few);
      is_told = told_now;
    }

  fault-Answers : (n : ℕ) → payload_fault s port heard ≡ Some n → Answers (faulty s n)
  fault-Answers n e =
      let is_judged : judgement terms port heard before ≡ Some n = sym judged ∙ e in
      let none : law.told terms (Heard port heard) before ≡ nobody = fault-told terms before port heard n is_judged in
      (quiet-Table (Some n) is_judged none (fault-Holds terms before port heard sends n t.held).2, none, sym is_judged)

-- ---- a message on an order

module _ (terms : List Terms) (before : OrderHistory) (s : TableState) (t : IsTable terms before s)
    (short : length before < 2 ^ 59) (port : ℕ) (m : Outbound) (token : List ℕ) (sends : List (List ℕ))
    (has : order_token m ≡ Some token) (is_judged : judgement terms port (Ok m) before ≡ None) where
  abbrev E : List Entry
  E = accepted terms before

  abbrev told_turn : ℕ → List Message → Option ℕ → OrderTurn
  told_turn client bodies fault = heard_turn port (Ok m) client bodies sends fault

  few_reports : reports_in before < 10 ^ 64
  few_reports = omega (arith, t.few)

  l : IsLawful terms port m token before
  l = lawful terms port before m token has is_judged

  abbrev what : Told
  what = law.told terms (Heard port (Ok m)) before

  -- an order that a token leads to, where it leads to a new order
  order-at : (new : Entry) → order_of_token terms port E token ≡ Some new
      → (o : OrderRecord) × (record_by_token s port token ≡ Some o) × (o.new ≡ new)
  order-at new on = by_order (record_by_token s port token) refl (token-leads terms before s t port token ∙ on)
    where
      by_order : (x : Option OrderRecord) → record_by_token s port token ≡ x
          → option_map (λ (o : OrderRecord). o.new) x ≡ Some new
          → (o : OrderRecord) × (record_by_token s port token ≡ Some o) × (o.new ≡ new)
      by_order None e is = absurd (cc)
      by_order (Some o) e is = (o, e, same_some o.new new is)

  first : (o : OrderRecord) × (record_by_token s port token ≡ Some o) × (o.new ≡ l.new)
  first = order-at l.new l.on

  abbrev o : OrderRecord
  o = first.0

  f : FitsIn terms before o
  f = token-fits terms before s t port m token o first.1

  own_port : port_of terms o.new ≡ port
  own_port = token-port terms before s t port m token o first.1

  same_new : o.new ≡ l.new
  same_new = first.2

  abbrev B : List Message
  B = lawfully.B terms before port m token what.client what.bodies sends t.held has is_judged refl short few_reports l o
      f own_port same_new

  told-is : what ≡ told_of_entry o.new B
  told-is = sym (lawfully.told-to terms before port m token what.client what.bodies sends t.held has is_judged refl
      short few_reports l o f own_port same_new)

  bodies-same : B ≡ bodies_of s m o
  bodies-same =
      ap (λ (n : ℕ). told_by n m (record_life o) (answers_last m (replacements o.replaces) (asked_as terms o))
      (map fill_of o.trades) (shown_as o)) (sym t.exec_ids)
      ∙ ap (λ (b : Bool). told_by s.exec_ids m (record_life o) b (map fill_of o.trades) (shown_as o))
      (last-is terms m (replacements o.replaces) o f.keeps.left)

  abbrev said : Told
  said = record { client = (told_of_entry o.new (bodies_of s m o)).client; bodies = bodies_of s m o }

  told-all : (rs : List Message) → told_of_entry o.new rs
      ≡ record { client = (told_of_entry o.new rs).client; bodies = rs }
  told-all [] = refl
  told-all (r ∷ rs) = refl

  tells-it : what ≡ said
  tells-it = told-is ∙ ap (told_of_entry o.new) bodies-same ∙ told-all (bodies_of s m o)

  abbrev After : Told → OrderHistory
  After x = told_turn x.client x.bodies None ∷ before

  abbrev p : OrderRecord
  p = after_message s.exec_ids m o

  own-now : FitsIn terms (After said) p
  own-now = subst (λ (x : Told). FitsIn terms (After x) p) tells-it
      (subst (λ (n : ℕ). FitsIn terms (After what) (after_message n m o)) (sym t.exec_ids)
      (lawfully.own-fits terms before port m token what.client what.bodies sends t.held has is_judged refl short
      few_reports l o f own_port same_new))

  others-now : StillBeside o.new.order terms (told_turn said.client said.bodies None) before
  others-now x g apart = subst (λ (y : Told). FitsIn terms (After y) x) tells-it
      (lawfully.other-fits terms before port m token what.client what.bodies sends t.held has is_judged refl short
      few_reports l o f own_port same_new x g apart)

  p-new : p.new ≡ o.new
  p-new = subst (λ (n : ℕ). (after_message n m o).new ≡ o.new) (sym t.exec_ids)
      (lawfully.next-new terms before port m token what.client what.bodies sends t.held has is_judged refl short
      few_reports l o f own_port same_new)

  same-known : (x : OrderRecord) → FitsIn terms before x → x.new.order ≡ p.new.order → x.new ≡ p.new
  same-known x g same = same_some x.new o.new
      (sym g.known ∙ ap (λ (k : List ℕ). new_of k E) (same ∙ ap (λ (e : Entry). e.order) p-new) ∙ f.known) ∙ sym p-new

  -- the ids in the bodies are used already
  abbrev Known : List ℕ → Type 0
  Known = IsUsed (issued o.new.client before)

  shown-known : OfShown Known (shown_as o)
  shown-known = (
    f.holds.id,
    Each-append IsKnown o.replaces (cancel_entry o.cancel)
        (Each-map _ IsKnown o.replaces (λ q h. h.2) f.holds.replaces)
        (of-cancel o.cancel (λ c e. (f.holds.cancel c e).2)),
  )
    where
      IsKnown : Entry → Type 0
      IsKnown q = Known (text 11 q.message)

      of-cancel : (c : Option Cancelling) → ((x : Cancelling) → c ≡ Some x → Known (text 11 x.request.message))
          → Each (λ (q : Entry). Known (text 11 q.message)) (cancel_entry c)
      of-cancel None known = tt
      of-cancel (Some c) known = (known c refl, tt)

  used-now : (c : ℕ) (id : List ℕ) → has_used s.used c id ≡ is_used id (issued c (After said))
  used-now c id = t.used c id ∙ subst (λ (x : Told). is_used id (issued c before) ≡ is_used id (issued c (After x)))
      tells-it (by_client (o.new.client == c) refl)
    where
      by_client : (b : Bool) → (o.new.client == c) ≡ b
          → is_used id (issued c before) ≡ is_used id (issued c (After what))
      by_client true e =
          let same : o.new.client ≡ c = eqb-true o.new.client c e in
          subst (λ (d : ℕ). is_used id (issued d before) ≡ is_used id (issued d (After what))) same
          (sym (ap (is_used id) (lawfully.issued-mine terms before port m token what.client what.bodies sends t.held has
          is_judged refl short few_reports l o f own_port same_new)
          ∙ used-onto id B (issued o.new.client before)
          (told-ids Known (reports_in before) m (record_life o)
          (answers_last m (replacements o.replaces) (asked_as terms o)) (map fill_of o.trades)
          (shown_as o) shown-known)))
      by_client false e = ap (is_used id) (sym (lawfully.issued-other terms before port m token what.client what.bodies
          sends t.held has is_judged refl short few_reports l o f own_port same_new c
          (λ same. (let on : (o.new.client == c) ≡ true = eq-eqb o.new.client c same in let x : true ≡ false = sym on
          ∙ e in cc))))

  told-then : IsTold terms (After said)
  told-then = (record { tells = tells-it; fault = sym is_judged }, t.is_told)

  few_bodies : count_by is_report (bodies_of s m o) ≤ 2
  few_bodies = told-few s.exec_ids m (record_life o) (last_of m (replacements o.replaces) o.cancel)
      (map fill_of o.trades) (shown_as o)

  heard-Table : IsTable terms (After said) (record s
      { orders = put p s.orders; exec_ids = s.exec_ids + count_by is_report (bodies_of s m o) })
  heard-Table = record {
    same_terms = t.same_terms;
    held = (turn-next terms (told_turn said.client said.bodies None) before t.held short few_reports told-then.0).0;
    listed = entries-put (FitsIn terms before) p s.orders same-known t.fit ∙ t.listed;
    fit = Each-put (FitsIn terms before) (FitsIn terms (After said)) p own-now
        (λ x g apart. others-now x g (ap (λ (e : Entry). bytes_eq e.order x.new.order) (sym p-new) ∙ apart)) s.orders
        (subst Rattle.order_machine.proofs.Placed.AreDistinct (sym t.listed) t.distinct) t.fit;
    distinct = t.distinct;
    tokens = t.tokens;
    replaces = t.replaces;
    used = used-now;
    order_ids = let more = numbered-heard port (Ok m) said.client said.bodies sends None before in
        omega (arith, t.order_ids, more);
    exec_ids = omega (arith, t.exec_ids);
    few = omega (arith, t.few, few_bodies);
    is_told = told-then;
  }

  handled-Answers : Answers terms before s t short port (Ok m) sends (heard_on s m (record_by_token s port token))
  handled-Answers = subst (λ (x : Option OrderRecord). Answers terms before s t short port (Ok m) sends
      (heard_on s m x)) (sym first.1) (heard-Table, tells-it, sym is_judged)

module _ (terms : List Terms) (before : OrderHistory) (s : TableState) (t : IsTable terms before s) (short : length before < 2 ^ 59) (port : ℕ) (m : Outbound) (sends : List (List ℕ)) (is_judged : judgement terms port (Ok m) before ≡ None) where
  on-order : Answers terms before s t short port (Ok m) sends (heard_on s m (order_in s port m))
  on-order = by_token_of (order_token m) refl
    where
      by_token_of : (x : Option (List ℕ)) → order_token m ≡ x
          → Answers terms before s t short port (Ok m) sends (heard_on s m (option_and_then (record_by_token s port) x))
      by_token_of (Some token) has = handled-Answers terms before s t short port m token sends has is_judged
      by_token_of None none =
          let nobody_told : law.told terms (Heard port (Ok m)) before ≡ nobody = rw (is_judged, none) refl in (
            quiet-Table terms before s t short port (Ok m) sends None is_judged nobody_told
                (tokenless-Holds terms before port m sends t.held none).2,
            nobody_told,
            sym is_judged,
          )

by_fault-Answers : (terms : List Terms) (before : OrderHistory) (s : TableState) (t : IsTable terms before s)
    (short : length before < 2 ^ 59) (port : ℕ) (heard : Result Outbound DecodeRefusal) (sends : List (List ℕ))
    → (x : Option ℕ) → payload_fault s port heard ≡ x
    → Answers terms before s t short port heard sends (Rattle.order_machine.specs.Machine.given_by_fault s port heard x)
by_fault-Answers terms before s t short port (Ok m) sends None e =
    on-order terms before s t short port m sends (sym (judged terms before s t short port (Ok m) sends) ∙ e)
by_fault-Answers terms before s t short port (Ok m) sends (Some n) e =
    fault-Answers terms before s t short port (Ok m) sends n e
by_fault-Answers terms before s t short port (Err refusal) sends None e = absurd (cc)
by_fault-Answers terms before s t short port (Err refusal) sends (Some n) e =
    fault-Answers terms before s t short port (Err refusal) sends n e

pub market-Answers : (terms : List Terms) (before : OrderHistory) (s : TableState) (t : IsTable terms before s)
    (short : length before < 2 ^ 59) (port : ℕ) (heard : Result Outbound DecodeRefusal) (sends : List (List ℕ))
    → Answers terms before s t short port heard sends (market_step s port heard)
market-Answers terms before s t short port heard sends =
    by_fault-Answers terms before s t short port heard sends (payload_fault s port heard) refl
