-- In every told history each order is true to the market, after each turn.
use Rattle.std.proofs.Common.{◌≡◌, ℕ, ◌+◌, ◌<◌, ◌^◌, Bool, true, false, List, [], ◌∷◌, length, refl, sym, ap}
use Rattle.std.proofs.Common.{◌∙◌, subst, arith, decimal, codes, Option, Some, None, Result, Ok, Err}
use Rattle.std.specs.Prelude.{◌&&◌, if◌then◌else◌}
use Rattle.std.specs.List.{find}
use Rattle.order_law.specs.ouch_codec.declared.outbound.Outbound.{Outbound}
use Rattle.order_law.specs.ouch_codec.declared.refusal.DecodeRefusal.{DecodeRefusal}
use Rattle.fix_fields.specs.Field.{Message, text}
use Rattle.order_law.specs.Life.{is_closed}
use Rattle.order_law.specs.Reading.{is_report}
use Rattle.order_law.specs.Chain.{chain}
use Rattle.order_law.specs.History.{Entry, Heard, OrderHistory, Terms, OrderTurn, accepted, given_tokens, is_new_order}
use Rattle.order_law.specs.History.{issued, new_of, orders_numbered}
use Rattle.order_law.specs.Lawful.{judgement, order_token}
use Rattle.order_law.specs.Told.{Told, answers_last_cancel, nobody, price_after, reports_in, told, told_by, told_on}
use Rattle.order_law.specs.Told.{told_of_entry}
use Rattle.order_law.specs.Headline.{Each, IsTrueToMarket, said_in}
use Rattle.order_machine.specs.OrderRecord.{OrderRecord, after_request, at, live_token, replacements, shown_as}
use Rattle.order_machine.proofs.Fits.{named}
use Rattle.order_machine.specs.Told.{IsTold, IsToldTurn, fault_of}
use Rattle.std.specs.Prelude.{◌++◌, nat_le, option_and_then}
use Rattle.order_machine.proofs.Holds.{FitsIn, HasRecord, Holds, StillBeside, news, port_of, record-of}
use Rattle.order_machine.proofs.Hearing.{fault-Holds, heard_turn, tokenless-Holds}
use Rattle.order_machine.proofs.Lawfully.{lawful-Holds, token-of}
use Rattle.order_machine.proofs.Judged.{lawful}
use Rattle.order_machine.proofs.Coming.{coming_turn}
use Rattle.order_machine.proofs.Came.{known-refused, new-refused, new-taken, taken-new, unknown-refused}
use Rattle.order_law.specs.Told.{told_accepted_as}
use Rattle.order_machine.proofs.Requested as requested
use Rattle.order_machine.proofs.Verdicts.{RequestSays, named-is, request-says}
use Rattle.order_law.specs.Chain.{goes_by, named as named_order, has_pending_cancel, replaces}
use Rattle.order_law.specs.Reading.{Reading}
use Rattle.order_law.specs.Verdicts.{Accepted, Port, Refused, Verdict, is_replace, most_pending, verdict_of_request}
use Rattle.order_law.specs.Verdicts.{Named}
use Rattle.order_law.specs.History.{Came, OrderEvent, standing_of, verdict}
use Rattle.order_law.specs.Told.{Shown, on_request, refused_request, reject, report, shown, shown_in, status_of}
use Rattle.order_law.specs.Told.{told_by_verdict}
use Rattle.order_machine.specs.OrderRecord.{chained}

abbrev pub AllTrue : List Terms → OrderTurn → OrderHistory → Type 0
AllTrue terms t before = Each (IsTrueToMarket terms t before) (news (accepted terms (t ∷ before)))

abbrev pub Next : List Terms → OrderTurn → OrderHistory → Type 0
Next terms t before = Holds terms (t ∷ before) × AllTrue terms t before

-- ---- a payload

-- a turn of a port that tells nobody anything, by its parts
told-nobody : (terms : List Terms) (before : OrderHistory) (port : ℕ) (heard : Result Outbound DecodeRefusal)
    (client : ℕ) (bodies : List Message) (sends : List (List ℕ))
    → told terms (Heard port heard) before ≡ record { client = client; bodies = bodies }
    → told terms (Heard port heard) before ≡ nobody → (fault : Option ℕ)
    → Next terms (heard_turn port heard 0 [] sends fault) before
    → Next terms (heard_turn port heard client bodies sends fault) before
told-nobody terms before port heard client bodies sends tells none fault next =
    let same : nobody ≡ record { client = client; bodies = bodies } = sym none ∙ tells in
    subst (λ (x : Told). Next terms (heard_turn port heard x.client x.bodies sends fault) before) same next

-- a message
module _ (terms : List Terms) (before : OrderHistory) (port : ℕ) (m : Outbound) (client : ℕ) (bodies : List Message)
    (sends : List (List ℕ)) (H : Holds terms before)
    (tells : told terms (Heard port (Ok m)) before ≡ record { client = client; bodies = bodies }) (short : length before < 2 ^ 59) (reports_small : reports_in before < 10 ^ 64) (judged : judgement terms port (Ok m) before ≡ None) where
  handled-next : Next terms (heard_turn port (Ok m) client bodies sends None) before
  handled-next = by_token (order_token m) refl
    where
      by_token : (x : Option (List ℕ)) → order_token m ≡ x
          → Next terms (heard_turn port (Ok m) client bodies sends None) before
      by_token None none = (let next = tokenless-Holds terms before port m sends H none in
          told-nobody terms before port (Ok m) client bodies sends tells (rw (judged, none) refl) None (next.0, next.1))
      by_token (Some token) has =
          let l = lawful terms port before m token has judged in
          let token_leads = token-of terms before port token l.new H l.on in
          let r = record-of terms before token_leads.entry.order
          (accepted terms before) l.new H.records token_leads.found in
          lawful-Holds terms before port m token client bodies sends H has judged tells short reports_small l r.order
          r.fits (ap (port_of terms) r.same ∙ token_leads.on_port) r.same

heard-next : (terms : List Terms) (before : OrderHistory) (port : ℕ) (heard : Result Outbound DecodeRefusal)
    (client : ℕ) (bodies : List Message) (sends : List (List ℕ)) → Holds terms before
    → told terms (Heard port heard) before ≡ record { client = client; bodies = bodies } → length before < 2 ^ 59
    → reports_in before < 10 ^ 64
    → (fault : Option ℕ) → fault ≡ judgement terms port heard before
    → Next terms (heard_turn port heard client bodies sends fault) before
heard-next terms before port (Ok m) client bodies sends H tells short reports_small None judged =
    handled-next terms before port m client bodies sends H tells short reports_small (sym judged)
heard-next terms before port (Ok m) client bodies sends H tells short reports_small (Some n) judged =
    (let next = fault-Holds terms before port (Ok m) sends n H in
    told-nobody terms before port (Ok m) client bodies sends tells (rw (sym judged) refl) (Some n) (next.0, next.1))
heard-next terms before port (Err refusal) client bodies sends H tells short reports_small None judged = absurd (cc)
heard-next terms before port (Err refusal) client bodies sends H tells short reports_small (Some n) judged =
    (let next = fault-Holds terms before port (Err refusal) sends n H in
    told-nobody terms before port (Err refusal) client bodies sends tells refl (Some n) (next.0, next.1))

-- ---- a client's message

module _ (terms : List Terms) (before : OrderHistory) (client : ℕ) (m : Message) (port : Port) (sends : List (List ℕ)) (H : Holds terms before) (short : length before < 2 ^ 59) where
  abbrev A : List Entry
  A = accepted terms before

  abbrev Comes : List Message → Type 0
  Comes bodies = Next terms (coming_turn client m port bodies sends) before

  -- the order that a request names
  named-record : (id k : List ℕ) → named_order id (issued client before) ≡ Some k
      → (e : Entry) × HasRecord terms before e × (e.order ≡ k) × (e.client ≡ client)
  named-record id k named =
      requested.named-member terms before (λ order. goes_by id (chain order (issued client before))) client k
      (news A) H.records
      (ap (λ (ks : List (List ℕ)). find (λ order. goes_by id (chain order (issued client before))) ks)
      (sym (H.listed client)) ∙ named)

  -- a request that is refused, by what it names
  refused-request : (code : ℕ) (why : List ℕ) → verdict terms (issued client before) A port m ≡ Refused code why
      → is_new_order m ≡ false
      → (x : Option (List ℕ)) → named_order (text 41 m) (issued client before) ≡ x
      → Comes (refused_request m (shown_in terms before x) code why)
  refused-request code why v old None named = let next =
      unknown-refused terms before client m port sends H short code why v old in (next.0, next.1)
  refused-request code why v old (Some k) named =
      let found = named-record (text 41 m) k named in
      let known : new_of k A ≡ Some found.0 = subst (λ (i : List ℕ). new_of i A ≡ Some found.0) found.2
      (subst (λ (e : Entry). new_of e.order A ≡ Some e) found.1.same found.1.fits.known) in
      let next = known-refused terms before client m port sends H short code why v old found.0 found.1 in
      rw known (next.0, next.1)

abbrev pub RequestOf : List Terms → OrderHistory → Message → Port → ℕ → Type 0
RequestOf terms before m port client = RequestSays (issued client before)
    (option_and_then (standing_of terms (issued client before) (accepted terms before))
    (named_order (text 41 m) (issued client before))) (given_tokens (accepted terms before)) m

-- a request that is accepted, on its order
module _ (terms : List Terms) (before : OrderHistory) (m : Message) (port : Port) (sends : List (List ℕ))
    (H : Holds terms before) (short : length before < 2 ^ 59) (o : OrderRecord) (f : FitsIn terms before o)
    (v : verdict terms (issued o.new.client before) (accepted terms before) port m ≡ Accepted)
    (old : is_new_order m ≡ false)
    (named : named_order (text 41 m) (issued o.new.client before) ≡ Some o.new.order)
    (says : RequestOf terms before m port o.new.client)
    (reading_so : says.n.reading ≡ Rattle.order_law.specs.Reading.reading o.new.order (issued o.new.client before)) (chain_so : says.n.chain ≡ chain o.new.order (issued o.new.client before)) where
  lives_on : is_closed o.stage ≡ false
  lives_on = ap (λ (x : Reading). x.is_closed) (sym (reading_so ∙ f.reads.read_so)) ∙ says.lives

  may-ask : (Rattle.order_law.specs.Verdicts.has_to_wait (is_replace m) (chained o)) ≡ false
  may-ask = ap (Rattle.order_law.specs.Verdicts.has_to_wait (is_replace m)) (sym (chain_so ∙ f.reads.chained_so))
      ∙ says.may

  parts : (has_pending_cancel (chained o) ≡ false)
      × ((is_replace m && nat_le most_pending (length (replaces (chained o)))) ≡ false)
  parts = requested.or-both (has_pending_cancel (chained o))
      (is_replace m && nat_le most_pending (length (replaces (chained o)))) may-ask

  no_c : o.cancel ≡ None
  no_c = requested.no-cancel o f.keeps.sound parts.0

  few-pending : is_replace m ≡ true → length o.replaces < most_pending
  few-pending kind = requested.few-replaces o f.keeps.sound
      (ap (λ (x : Bool). x && nat_le most_pending (length (replaces (chained o)))) (sym kind) ∙ parts.1)

  abbrev Comes' : List Message → Type 0
  Comes' bodies = Next terms (coming_turn o.new.client m port bodies sends) before

  abbrev pub token : Option ℕ
  token = if is_replace m then Some (given_tokens (accepted terms before) + 1) else None

  abbrev pub entry : Entry
  entry = record { client = o.new.client; message = m; order = o.new.order; token = token }

  pub told-as : told_by_verdict terms o.new.client m port before
      (verdict terms (issued o.new.client before) (accepted terms before) port m)
      ≡ Rattle.order_law.specs.Told.accepted_request (reports_in before + 1) entry (Some (shown_as o))
  told-as = requested.told-so terms before m port sends H short o f v old named says.unused lives_on no_c says.token
      token refl

  abbrev pub BodiesTold : List Message
  BodiesTold = told_by_verdict terms o.new.client m port before
      (verdict terms (issued o.new.client before) (accepted terms before) port m)

  abbrev pub Then : List Message → Type 0
  Then bodies = FitsIn terms (coming_turn o.new.client m port bodies sends ∷ before) (after_request entry o)
      × StillBeside o.new.order terms (coming_turn o.new.client m port bodies sends) before

  fits-then : (bodies : List Message) (p : OrderRecord) → after_request entry o ≡ p
      → FitsIn terms (coming_turn o.new.client m port bodies sends ∷ before) p
      × StillBeside o.new.order terms (coming_turn o.new.client m port bodies sends) before → Then bodies
  fits-then bodies p now fits = (
    subst (FitsIn terms (coming_turn o.new.client m port bodies sends ∷ before))
        (sym now) fits.0,
    fits.1,
  )

  -- the order is as the request makes it, and each other one as it was
  pub accepted-fits : Then BodiesTold
  accepted-fits = by_kind (is_replace m) refl
    where
      by_kind : (b : Bool) → is_replace m ≡ b → Then BodiesTold
      by_kind true kind =
          let now : after_request entry o ≡ at o (o.replaces ++ entry ∷ []) o.cancel = rw kind refl in
          subst Then (sym (told-as ∙ requested.replace-told terms before m port sends H short o f v old named
          says.unused lives_on no_c says.token token refl kind (few-pending kind)))
          (fits-then (report (reports_in before + 1) (on_request (codes "E") entry) (shown_as (at o (o.replaces ++ entry ∷ []) o.cancel)) ∷ []) (at o (o.replaces ++ entry ∷ []) o.cancel) now (requested.replace-fits terms before m port sends H short o f v old named says.unused lives_on no_c says.token token refl kind (few-pending kind)))
      by_kind false kind =
          let now : after_request entry o ≡ at o o.replaces
          (Some (record { request = entry; tokens = live_token o ∷ replacements o.replaces })) = rw kind refl in
          subst Then (sym (told-as ∙ requested.cancel-told terms before m port sends H short o f v old named says.unused
          lives_on no_c says.token token refl kind))
          (fits-then (report (reports_in before + 1) (on_request (codes "6") entry) (shown_as (at o o.replaces (Some (record { request = entry; tokens = live_token o ∷ replacements o.replaces })))) ∷ []) (at o o.replaces (Some (record { request = entry; tokens = live_token o ∷ replacements o.replaces }))) now (requested.cancel-fits terms before m port sends H short o f v old named says.unused lives_on no_c says.token token refl kind))

  accepted-request : Comes' (told_by_verdict terms o.new.client m port before
      (verdict terms (issued o.new.client before) (accepted terms before) port m))
  accepted-request = by_kind (is_replace m) refl
    where
      by_kind : (b : Bool) → is_replace m ≡ b → Comes'
          (told_by_verdict terms o.new.client m port before
          (verdict terms (issued o.new.client before) (accepted terms before) port m))
      by_kind true kind =
          subst Comes' (sym (told-as ∙ requested.replace-told terms before m port sends H short o f v old named
          says.unused lives_on no_c says.token token refl kind (few-pending kind)))
          (requested.replace-Holds terms before m port sends H short o f v old named says.unused lives_on no_c
          says.token token refl kind (few-pending kind))
      by_kind false kind =
          subst Comes' (sym (told-as ∙ requested.cancel-told terms before m port sends H short o f v old named
          says.unused lives_on no_c says.token token refl kind))
          (requested.cancel-Holds terms before m port sends H short o f v old named says.unused lives_on no_c says.token
          token refl kind)

-- ---- a client's message, by its verdict

-- an accepted request on the order that it names
request-next : (terms : List Terms) (before : OrderHistory) (client : ℕ) (m : Message) (port : Port)
    (sends : List (List ℕ)) → Holds terms before → length before < 2 ^ 59 → (o : OrderRecord) → FitsIn terms before o
    → o.new.client ≡ client → (k : List ℕ) → o.new.order ≡ k
    → verdict terms (issued client before) (accepted terms before) port m ≡ Accepted → is_new_order m ≡ false
    → named_order (text 41 m) (issued client before) ≡ Some k → (says : RequestOf terms before m port client)
    → says.n.reading ≡ Rattle.order_law.specs.Reading.reading k (issued client before)
    → says.n.chain ≡ chain k (issued client before)
    → Next terms (coming_turn client m port (told_by_verdict terms client m port before
    (verdict terms (issued client before) (accepted terms before) port m)) sends) before
request-next terms before client m port sends H short o f mine k is_k =
    subst (λ (c : ℕ). verdict terms (issued c before) (accepted terms before) port m ≡ Accepted → is_new_order m ≡ false
    → named_order (text 41 m) (issued c before) ≡ Some k → (says : RequestOf terms before m port c)
    → says.n.reading ≡ Rattle.order_law.specs.Reading.reading k (issued c before)
    → says.n.chain ≡ chain k (issued c before)
    → Next terms (coming_turn c m port (told_by_verdict terms c m port before
    (verdict terms (issued c before) (accepted terms before) port m)) sends) before) mine
    (subst (λ (i : List ℕ). verdict terms (issued o.new.client before) (accepted terms before) port m ≡ Accepted
    → is_new_order m ≡ false → named_order (text 41 m) (issued o.new.client before) ≡ Some i
    → (says : RequestOf terms before m port o.new.client)
    → says.n.reading ≡ Rattle.order_law.specs.Reading.reading i (issued o.new.client before)
    → says.n.chain ≡ chain i (issued o.new.client before)
    → Next terms (coming_turn o.new.client m port
    (told_by_verdict terms o.new.client m port before
    (verdict terms (issued o.new.client before) (accepted terms before) port m)) sends) before) is_k
    (λ v old named says reading_so chain_so. accepted-request terms before m port sends H short o f v old named says
    reading_so chain_so))

module _ (terms : List Terms) (before : OrderHistory) (client : ℕ) (m : Message) (port : Port) (sends : List (List ℕ)) (H : Holds terms before) (short : length before < 2 ^ 59) where
  abbrev ComesBy : List Message → Type 0
  ComesBy bodies = Next terms (coming_turn client m port bodies sends) before

  on-order : verdict terms (issued client before) (accepted terms before) port m ≡ Accepted → is_new_order m ≡ false
      → RequestOf terms before m port client → ComesBy
      (told_by_verdict terms client m port before (verdict terms (issued client before) (accepted terms before) port m))
  on-order v old says =
      let named = named-is terms (issued client before) (accepted terms before) (text 41 m) says.n says.is_n in
      let found = named-record terms before client m port sends H short (text 41 m) named.0 named.1 in
      request-next terms before client m port sends H short found.1.order found.1.fits
      (ap (λ (e : Entry). e.client) found.1.same ∙ found.3) named.0
      (ap (λ (e : Entry). e.order) found.1.same ∙ found.2) v old named.1 says named.2 named.3

  own-verdict : is_new_order m ≡ false → verdict terms (issued client before) (accepted terms before) port m ≡ Accepted
      → verdict_of_request (issued client before)
      (option_and_then (standing_of terms (issued client before) (accepted terms before))
      (named_order (text 41 m) (issued client before))) port (given_tokens (accepted terms before)) m ≡ Accepted
  own-verdict old v = rw old at v

  new-told : is_new_order m ≡ true → verdict terms (issued client before) (accepted terms before) port m ≡ Accepted
      → told_by_verdict terms client m port before Accepted
      ≡ Rattle.order_law.specs.Told.accepted_new (reports_in before + 1)
      (record {
        client = client;
        message = m;
        order = decimal (orders_numbered before + 1);
        token =
            Some (given_tokens (accepted terms before) + 1);
      })
  new-told new v = ap (told_accepted_as terms m before) (taken-new terms before client m port sends H short v new)
      ∙ rw new refl

  refusal-told : (code : ℕ) (why : List ℕ) → is_new_order m ≡ true
      → told_by_verdict terms client m port before (Refused code why)
      ≡ Rattle.order_law.specs.Told.refusing_report (reports_in before + 1) (orders_numbered before + 1) m code why ∷ []
  refusal-told code why new = rw new refl

  reject-told : (code : ℕ) (why : List ℕ) → is_new_order m ≡ false
      → told_by_verdict terms client m port before (Refused code why)
      ≡ refused_request m (shown_in terms before (named_order (text 41 m) (issued client before))) code why
  reject-told code why old = rw old refl

  pub came-next : ComesBy (told_by_verdict terms client m port before
      (verdict terms (issued client before) (accepted terms before) port m))
  came-next = by_new (is_new_order m) refl (verdict terms (issued client before) (accepted terms before) port m) refl
    where
      by_new : (b : Bool) → is_new_order m ≡ b → (w : Verdict)
          → verdict terms (issued client before) (accepted terms before) port m ≡ w
          → ComesBy (told_by_verdict terms client m port before w)
      by_new true new Accepted v = subst ComesBy (sym (new-told new v))
          (new-taken terms before client m port sends H short v new)
      by_new true new (Refused code why) v = (let next =
          new-refused terms before client m port sends H short code why v new in
          subst ComesBy (sym (refusal-told code why new)) (next.0, next.1))
      by_new false old Accepted v = subst (λ (w : Verdict). ComesBy (told_by_verdict terms client m port before w)) v
          (on-order v old (request-says (issued client before)
          (option_and_then (standing_of terms (issued client before) (accepted terms before))
          (named_order (text 41 m) (issued client before))) port (given_tokens (accepted terms before)) m
          (own-verdict old v)))
      by_new false old (Refused code why) v = subst ComesBy (sym (reject-told code why old))
          (refused-request terms before client m port sends H short code why v old
          (named_order (text 41 m) (issued client before)) refl)

-- ---- every told history

pub empty-Holds : (terms : List Terms) → Holds terms []
empty-Holds terms = record {
  entries = tt;
  short = omega arith;
  records = tt;
  listed = λ c. refl;
  unread = λ n c above small. record { read_not = refl; chained_not = refl; refused_not = refl };
  unheard = λ n p side above most. tt;
  unasked = λ n p above small. refl;
  few = omega arith;
}

-- a turn by its parts
same-turn : (t : OrderTurn) (e : OrderEvent) (client : ℕ) (bodies : List Message) (fault : Option ℕ) → t.event ≡ e
    → t.client ≡ client → t.bodies ≡ bodies → t.fault ≡ fault
    → record { event = e; client = client; bodies = bodies; sends = t.sends; fault = fault } ≡ t
same-turn t e client bodies fault is_e is_client is_bodies is_fault =
    rw (sym is_e, sym is_client, sym is_bodies, sym is_fault) refl

pub turn-next : (terms : List Terms) (t : OrderTurn) (before : OrderHistory) → Holds terms before
    → length before < 2 ^ 59 → reports_in before < 10 ^ 64 → IsToldTurn terms t before → Next terms t before
turn-next terms t before H short reports_small told_turn = by_event t.event refl told_turn.tells told_turn.fault
  where
    by_event : (e : OrderEvent) → t.event ≡ e → told terms e before ≡ said_in t → t.fault ≡ fault_of terms e before
        → Next terms t before
    by_event (Came client m port) is_e tells fault =
        let is_client : t.client ≡ client = ap (λ (x : Told). x.client) (sym tells) in
        let is_bodies : t.bodies ≡ told_by_verdict terms client m port before
        (verdict terms (issued client before) (accepted terms before) port m) =
        ap (λ (x : Told). x.bodies) (sym tells) in
        subst (λ (x : OrderTurn). Next terms x before)
        (same-turn t (Came client m port) client (told_by_verdict terms client m port before
        (verdict terms (issued client before) (accepted terms before) port m)) None is_e is_client is_bodies fault)
        (came-next terms before client m port t.sends H short)
    by_event (Heard port heard) is_e tells fault =
        subst (λ (x : OrderTurn). Next terms x before)
        (same-turn t (Heard port heard) t.client t.bodies t.fault is_e refl refl refl)
        (heard-next terms before port heard t.client t.bodies t.sends H tells short reports_small t.fault fault)

pub run-Holds : (terms : List Terms) (h : OrderHistory) → length h < 2 ^ 59 → reports_in h < 10 ^ 64 → IsTold terms h
    → Holds terms h
run-Holds terms [] short reports_small t = empty-Holds terms
run-Holds terms (t ∷ before) short reports_small t_told =
    (turn-next terms t before (run-Holds terms before (omega arith) (omega arith) t_told.1) (omega arith)
    (omega arith) t_told.0).0

-- in every told history each order is true to the market after the last turn
pub orders-true : (terms : List Terms) (t : OrderTurn) (before : OrderHistory) → length (t ∷ before) < 2 ^ 59
    → reports_in (t ∷ before) < 10 ^ 64 → IsTold terms (t ∷ before) → AllTrue terms t before
orders-true terms t before short reports_small t_told =
    (turn-next terms t before (run-Holds terms before (omega arith) (omega arith) t_told.1) (omega arith)
    (omega arith) t_told.0).1
