-- What a port is asked is sent while it is up, one for one.
use Rattle.std.proofs.Common.{◌≡◌, ◌==◌, ℕ, Bool, true, false, not, List, [], ◌∷◌, ◌++◌, Option, Some, None, Result, Ok}
use Rattle.std.proofs.Common.{Err, refl, ap, sym, subst, ◌∙◌, option_map, eq-eqb, inl, inr, length, filter, nat_lt}
use Rattle.std.proofs.Common.{◌-◌}
use Rattle.std.proofs.Math.Dec.{eqb-suc-zero}
use Rattle.std.proofs.lemmas.List.{append-nil}
use Rattle.std.proofs.lemmas.Bool.{eqb-true, eqb-false, ne_eqb, cases_Bool, cond-true, cond-false}
use Rattle.std.specs.Prelude.{if◌then◌else◌, ◌&&◌, ◌⊎◌, is_some}
use Rattle.std.specs.List.{flat_map}
use Rattle.order_law.specs.ouch_codec.declared.outbound.Outbound.{Outbound}
use Rattle.order_law.specs.ouch_codec.declared.refusal.DecodeRefusal.{DecodeRefusal}
use Rattle.order_law.specs.ouch_codec.Values.{decoded}
use Rattle.session_law.specs.fix_types.declared.application.AppMsg.{AppMsg}
use Rattle.session_law.specs.fix_types.Application.{message_fields}
use Rattle.session_law.specs.Runs.{OnMessage}
use Rattle.soup_packets.specs.declared.packet.Packet.{Packet}
use Rattle.soup_session.specs.declared.port_fault.PortFault.{PortFault}
use Rattle.soup_session.specs.Faults.{fault_number}
use Rattle.soup_session.specs.declared.port_state.PortState.{PortState}
use Rattle.soup_session.specs.declared.port_state.PortState.TheVariants.{Down, LoggingIn, Up, Ended, Faulted}
use Rattle.soup_session.specs.States.{is_down, is_up, is_open}
use Rattle.soup_session.specs.Table as table
use Rattle.soup_session.specs.Table.{LoginTerms, PortCall, OnUp, OnPacket, OnGone, OnTick, Send, Fail, PortStanding}
use Rattle.soup_session.specs.Table.{PortAnswer, standing, answer}
use Rattle.fix_fields.specs.Field.{Message}
use Rattle.order_law.specs.History.{Terms, terms_of, Came, Heard, OrderTurn, OrderHistory, Entry, Asked, accepted}
use Rattle.order_law.specs.History.{issued, handled, outstanding, entry_at, asks_of}
use Rattle.order_law.specs.Headline.{EachWith, Says, SaysIn, Sends, Headline, order_number}
use Rattle.gate_law.specs.Settings.{Settings, terms, port_of, port_terms}
use Rattle.gate_law.specs.Events.{Event, ClientUp, ClientMessage, ClientGone, ClientTick, PortUp, PortPacket, PortGone}
use Rattle.gate_law.specs.Events.{PortTick, LinkOut, Batch, Turn, History, is_the_number}
use Rattle.gate_law.specs.Lists.{Lists, turned}
use Rattle.gate_law.specs.Sessions.{client_answer, port_answer, port_state, sends, stands_of}
use Rattle.gate_law.specs.Outcome.{Outcome, nothing, outcome, of_port, of_client, Refused, client_up, port_up, by_app}
use Rattle.gate_law.specs.Outcome.{by_fault, by_payload, told_outcome, by_event, is_stepped, messages, message_in}
use Rattle.gate_law.specs.Outcome.{addressee, bodies}
use Rattle.gate_law.specs.After.{lists, lists_after, order_turns, is_within_day}
use Rattle.gate_law.specs.Due.{Gives}
use Rattle.gate_law.specs.Promises.{Asks, AsksAgain, AsksOnlyThen, comes_up, port_in, delivers_message}
use Rattle.gate_law.specs.Holds.{IsRun, EachTurn, OfTurn}
use Rattle.gate_law.specs.Sent.{sent_by, brings_up, sent_since_up, asked_by, asked_at, asked_since_up, AsksFor}
use Rattle.gate_law.specs.Sent.{IsLeftOf, WasSent, AllSent}
use Rattle.gate_law.proofs.Parts.{called, own-calls, other-calls}
use Rattle.gate_law.proofs.Telling.{turns-after}
use Rattle.gate_law.proofs.Links.{state-sent}
use Rattle.gate_law.proofs.Clients.{IsOf, entry-of}

-- ---- lists

pairs-joined : {X Y : Type 0} (P : X → Y → Type 0) (xs us : List X) (ys vs : List Y) → EachWith P xs ys
    → EachWith P us vs → EachWith P (xs ++ us) (ys ++ vs)
pairs-joined P [] us [] vs these those = those
pairs-joined P [] us (y ∷ ys) vs these those = absurd these
pairs-joined P (x ∷ xs) us [] vs these those = absurd these
pairs-joined P (x ∷ xs) us (y ∷ ys) vs these those = (these.0, pairs-joined P xs us ys vs these.1 those)

pairs-more : {X Y : Type 0} (P Q : X → Y → Type 0) → ((x : X) (y : Y) → P x y → Q x y) → (xs : List X) (ys : List Y)
    → EachWith P xs ys → EachWith Q xs ys
pairs-more P Q f [] [] pairs = tt
pairs-more P Q f [] (y ∷ ys) pairs = absurd pairs
pairs-more P Q f (x ∷ xs) [] pairs = absurd pairs
pairs-more P Q f (x ∷ xs) (y ∷ ys) pairs = (f x y pairs.0, pairs-more P Q f xs ys pairs.1)

left-of-all : {X : Type 0} (xs : List X) → IsLeftOf xs xs
left-of-all [] = tt
left-of-all (x ∷ xs) = inl (refl, left-of-all xs)

left-longer : {X : Type 0} (xs ys us : List X) → IsLeftOf xs ys → IsLeftOf xs (us ++ ys)
left-longer [] ys us is = tt
left-longer (x ∷ xs) ys [] is = is
left-longer (x ∷ xs) ys (u ∷ us) is = inr (left-longer (x ∷ xs) ys us is)

left-joined : {X : Type 0} (xs ys us vs : List X) → IsLeftOf xs ys → IsLeftOf us vs → IsLeftOf (xs ++ us) (ys ++ vs)
left-joined [] ys us vs these those = left-longer us vs ys those
left-joined (x ∷ xs) [] us vs these those = absurd these
left-joined (x ∷ xs) (y ∷ ys) us vs (inl these) those = inl (these.0, left-joined xs ys us vs these.1 those)
left-joined (x ∷ xs) (y ∷ ys) us vs (inr these) those = inr (left-joined (x ∷ xs) ys us vs these those)

left-without : {X : Type 0} (x : X) (xs ys : List X) → IsLeftOf (x ∷ xs) ys → IsLeftOf xs ys
left-without x xs [] is = absurd is
left-without x [] (y ∷ ys) is = tt
left-without x (z ∷ xs) (y ∷ ys) (inl is) = inr is.1
left-without x (z ∷ xs) (y ∷ ys) (inr is) = inr (left-without x (z ∷ xs) ys is)

left-filtered : {X : Type 0} (test : X → Bool) (xs ys : List X) → IsLeftOf xs ys → IsLeftOf (filter test xs) ys
left-filtered test [] ys is = tt
left-filtered test (x ∷ xs) [] is = absurd is
left-filtered test (x ∷ xs) (y ∷ ys) (inr is) = by_test (test x) (left-filtered test (x ∷ xs) ys is)
  where
    by_test : (b : Bool) → IsLeftOf (if b then x ∷ filter test xs else filter test xs) ys
        → IsLeftOf (if b then x ∷ filter test xs else filter test xs) (y ∷ ys)
    by_test true rest = inr rest
    by_test false rest = left-longer (filter test xs) ys (y ∷ []) rest
left-filtered test (x ∷ xs) (y ∷ ys) (inl is) = by_test (test x) (left-filtered test xs ys is.1)
  where
    by_test : (b : Bool) → IsLeftOf (filter test xs) ys
        → IsLeftOf (if b then x ∷ filter test xs else filter test xs) (y ∷ ys)
    by_test true rest = inl (is.0, rest)
    by_test false rest = left-longer (filter test xs) ys (y ∷ []) rest

-- the messages of a batch go to the port that it names
same-if : {X : Type 0} (c : Bool) (x : X) → (if c then x else x) ≡ x
same-if true x = refl
same-if false x = refl

sent-all : (outs : List LinkOut) (w : Bool) (n : ℕ) (named : Option ℕ)
    → named ≡ (if not ((length outs == 0) && w) then Some n else None)
    → (if is_the_number n named then flat_map message_in outs else []) ≡ flat_map message_in outs
sent-all [] w n named is = same-if (is_the_number n named) []
sent-all (x ∷ outs) w n named is =
    ap (λ (c : Option ℕ). if is_the_number n c then flat_map message_in (x ∷ outs) else [])
    (is ∙ ap (λ (c : Bool). if not (c && w) then Some n else None) (eqb-suc-zero (length outs)))
    ∙ cond-true (n == n) _ _ (eq-eqb n n refl)

silent : (p : ℕ) (b : Batch) → messages b ≡ [] → sent_by p b ≡ []
silent p b none = ap (λ (ms : List (List ℕ)). if is_the_number p b.port then ms else []) none
    ∙ same-if (is_the_number p b.port) []

sent-elsewhere : (p q : ℕ) (b : Batch) → b.port ≡ (if not ((length b.port_out == 0) && not (is_some b.fault))
    then Some q else None) → (q == p) ≡ false → sent_by p b ≡ []
sent-elsewhere p q b named apart =
    ap (λ (n : Option ℕ). if is_the_number p n then messages b else []) named
    ∙ by_named (not ((length b.port_out == 0) && not (is_some b.fault)))
  where
    by_named : (w : Bool) → (if is_the_number p (if w then Some q else None) then messages b else []) ≡ []
    by_named true = cond-false (q == p) _ _ apart
    by_named false = refl

-- an event that brings up no port, by which no message is delivered
only-then : (w d : Bool) (s : Settings) (p : ℕ) (b : Batch) (v : Lists) → w ≡ true
    → AsksAgain (w && false) s p (w && d) b v → AsksOnlyThen d b
only-then true d s p b v is asks = asks
only-then false d s p b v is asks = absurd (cc)

-- ---- a port comes up by a packet alone

up-if : (b : Bool) (x y : PortAnswer) (P : Type 0) → (is_up x.after.state ≡ true → P) → (is_up y.after.state ≡ true → P)
    → is_up (if b then x else y).after.state ≡ true → P
up-if true x y P p q up = p up
up-if false x y P p q up = q up

abbrev WasUp : PortStanding → Type 0
WasUp x = is_up x.state ≡ true

raised-by-up : (terms : LoginTerms) (x : PortStanding) → is_up (table.on_up terms x).after.state ≡ true → WasUp x
raised-by-up terms x up = up-if (is_down x.state) _ _ (WasUp x) (λ is. absurd (cc)) (λ is. is) up

raised-by-tick : (x : PortStanding) → is_up (table.on_tick x).after.state ≡ true → WasUp x
raised-by-tick x up =
    up-if (not (is_open x.state)) _ _ (WasUp x) (λ is. is) (λ rest.
    up-if (nat_lt 15_000 (x.now - x.heard)) _ _ (WasUp x) (λ is. absurd (cc)) (λ late.
    up-if (is_up x.state && nat_lt 1_000 (x.now - x.sent)) _ _ (WasUp x) (λ is. is) (λ is. is) late) rest) up

raised-by-gone : (x : PortStanding) (w : Bool) → is_up (if w then record x { state = Down } else x).state ≡ true
    → WasUp x
raised-by-gone x true up = absurd (cc)
raised-by-gone x false up = up

-- ---- one event, by what one port was sent before

module _ (s : Settings) (p : ℕ) (v : Lists) (asked_so_far : List Asked) (sent : List (List ℕ)) where
  abbrev IsUp : Type 0
  IsUp = is_up (port_state s p (v.port_calls p)) ≡ true

  -- what is shown of these turns, where so much was asked and sent since the port came up
  abbrev Shown : OrderHistory → List Asked → List (List ℕ) → Type 0
  Shown turns asks ms = WasSent (outstanding (terms s) p turns) asks ms

  abbrev Prior : Type 0
  Prior = IsUp → Shown v.turns asked_so_far sent

  -- the calls of the port after calls of another or of its own
  abbrev calls_with : ℕ → List PortCall → List PortCall
  calls_with q cs = if p == q then called cs (v.port_calls p) else v.port_calls p

  abbrev IsUpWith : ℕ → List PortCall → Type 0
  IsUpWith q cs = is_up (port_state s p (calls_with q cs)) ≡ true

  -- what is to be shown of an outcome, where so much was asked and sent since the port came up
  abbrev SentAfter : List Asked → List (List ℕ) → Batch → Outcome → Type 0
  SentAfter asks ms b o = IsUpWith o.port o.port_calls
      → Shown (turned o.turn v).turns (asks ++ asked_by (terms s) p o.turn v.turns) (ms ++ sent_by p b)

  raised-if : (c : Bool) (cs : List PortCall) → (is_up (port_state s p (called cs (v.port_calls p))) ≡ true → IsUp)
      → is_up (port_state s p (if c then called cs (v.port_calls p) else v.port_calls p)) ≡ true → IsUp
  raised-if true cs own up = own up
  raised-if false cs own up = up

  -- nothing more is asked, and nothing sent
  still-shown : (turns : OrderHistory) (asks : List Asked) (ms : List (List ℕ)) (b : Batch) → sent_by p b ≡ []
      → Shown turns asks ms → Shown turns (asks ++ []) (ms ++ sent_by p b)
  still-shown turns asks ms b none shown =
      subst (λ (those : List Asked). Shown turns those (ms ++ sent_by p b)) (sym (append-nil asks))
      (subst (Shown turns asks) (sym (ap (λ (more : List (List ℕ)). ms ++ more) none ∙ append-nil ms)) shown)

  -- an outcome of no turn, by which the port doesn't come up
  quiet-sent : (b : Batch) (o : Outcome) → o.turn ≡ None → sent_by p b ≡ [] → (IsUpWith o.port o.port_calls → IsUp)
      → Prior → SentAfter asked_so_far sent b o
  quiet-sent b o none unsent raised prior up =
      subst (λ (t : Option OrderTurn). Shown (turned t v).turns (asked_so_far ++ asked_by (terms s) p t v.turns)
      (sent ++ sent_by p b)) (sym none) (still-shown v.turns asked_so_far sent b unsent (prior (raised up)))

  none-raised : (q : ℕ) → IsUpWith q [] → IsUp
  none-raised q up = raised-if (p == q) [] (λ is. is) up

  up-raised : (q at : ℕ) → IsUpWith q (OnUp at ∷ []) → IsUp
  unfolding port_state
  up-raised q at up = raised-if (p == q) (OnUp at ∷ [])
      (raised-by-up (port_terms s p) (table.passed at (standing (port_terms s p) (v.port_calls p)))) up

  tick-raised : (q at : ℕ) → IsUpWith q (OnTick at ∷ []) → IsUp
  unfolding port_state
  tick-raised q at up = raised-if (p == q) (OnTick at ∷ [])
      (raised-by-tick (table.passed at (standing (port_terms s p) (v.port_calls p)))) up

  gone-raised : (q : ℕ) → IsUpWith q (OnGone ∷ []) → IsUp
  unfolding port_state
  gone-raised q up = raised-if (p == q) (OnGone ∷ [])
      (raised-by-gone (standing (port_terms s p) (v.port_calls p))
      (is_open (standing (port_terms s p) (v.port_calls p)).state)) up

  sends-raised : (q at : ℕ) (ms : List (List ℕ)) → IsUpWith q (sends at ms) → IsUp
  sends-raised q at ms up = raised-if (p == q) (sends at ms)
      (λ is. ap is_up (sym (state-sent s p at ms (v.port_calls p))) ∙ is) up

  -- ---- a client's message

  up-sends : (state : PortState) (P : Asked → List ℕ → Type 0) (asked_all : List Asked) (ms : List (List ℕ))
      → is_up state ≡ true → Sends (stands_of state) P asked_all ms → EachWith P asked_all ms
  up-sends Up P asked_all ms up pairs = pairs
  up-sends Down P asked_all ms up pairs = absurd (cc)
  up-sends LoggingIn P asked_all ms up pairs = absurd (cc)
  up-sends Ended P asked_all ms up pairs = absurd (cc)
  up-sends (Faulted fault) P asked_all ms up pairs = absurd (cc)

  asks-elsewhere : (client : ℕ) (e : Option Entry) (entries : List Entry) (told : List Message) (market : List Outbound)
      → IsOf (λ (n : ℕ). n ≡ client) e → (port_of s client == p) ≡ false
      → asks_of (terms s) p e entries told market ≡ []
  asks-elsewhere client None entries told market own apart = refl
  asks-elsewhere client (Some e) entries told market own apart =
      cond-false ((terms_of (terms s) e.client).port == p) _ _
      (ap (λ (n : ℕ). (terms_of (terms s) n).port == p) own ∙ apart)

  named-sent : (b : Batch) (n : ℕ) (asked_all : List Asked)
      → b.port ≡ (if not ((length b.port_out == 0) && not (is_some b.fault)) then Some n else None)
      → EachWith AsksFor asked_all (messages b) → EachWith AsksFor asked_all (sent_by n b)
  named-sent b n asked_all named pairs = subst (EachWith AsksFor asked_all)
      (sym (sent-all b.port_out (not (is_some b.fault)) n b.port named)) pairs

  -- the turn of a message that came, with what the batch says
  abbrev came : ℕ → Message → Batch → OrderTurn
  came client m b = record {
    event = Came client m (stands_of (port_state s (port_of s client) (v.port_calls (port_of s client))));
    client = client;
    bodies = bodies b;
    sends = messages b;
    fault = None;
  }

  -- what the message asks of a port
  abbrev asked_on : ℕ → ℕ → Message → Batch → List Asked
  asked_on q client m b = asks_of (terms s) q (entry_at (terms s) (came client m b).event v.turns)
      (accepted (terms s) v.turns) (issued client v.turns) (handled q v.turns)

  abbrev NamesPort : ℕ → Batch → Type 0
  NamesPort n b = b.port ≡ (if not ((length b.port_out == 0) && not (is_some b.fault)) then Some n else None)

  own-asked : (client : ℕ) (m : Message) (b : Batch) → NamesPort (port_of s client) b
      → Headline (terms s) (came client m b ∷ v.turns)
      → is_up (port_state s (port_of s client) (v.port_calls (port_of s client))) ≡ true
      → EachWith AsksFor (asked_on (port_of s client) client m b) (sent_by (port_of s client) b)
  own-asked client m b named holds up =
      named-sent b (port_of s client) (asked_on (port_of s client) client m b) named
      (pairs-more
      (Says (terms_of (terms s) client).standing
      (order_number (terms s) (port_of s client) (accepted (terms s) (came client m b ∷ v.turns))))
      AsksFor
      (λ a message says. says.tokens)
      (asked_on (port_of s client) client m b)
      (messages b)
      (up-sends (port_state s (port_of s client) (v.port_calls (port_of s client))) _ _ _ up holds.0.answers.sends))

  new-asked : (client : ℕ) (m : Message) (b : Batch) → NamesPort (port_of s client) b
      → Headline (terms s) (came client m b ∷ v.turns) → IsUp
      → EachWith AsksFor (asked_on p client m b) (sent_by p b)
  new-asked client m b named holds up = by_port (cases_Bool (port_of s client == p))
    where
      by_port : ((port_of s client == p) ≡ true) ⊎ ((port_of s client == p) ≡ false)
          → EachWith AsksFor (asked_on p client m b) (sent_by p b)
      by_port (inl same) =
          let is : port_of s client ≡ p = eqb-true (port_of s client) p same in
          subst (λ (q : ℕ). EachWith AsksFor (asked_on q client m b) (sent_by q b)) is
          (own-asked client m b named holds (subst (λ (q : ℕ). is_up (port_state s q (v.port_calls q)) ≡ true)
          (sym is) up))
      by_port (inr apart) =
          subst (λ (ms : List (List ℕ)). EachWith AsksFor (asked_on p client m b) ms)
          (sym (sent-elsewhere p (port_of s client) b named apart))
          (subst (λ (those : List Asked). EachWith AsksFor those [])
          (sym (asks-elsewhere client (entry_at (terms s) (came client m b).event v.turns) _ _ _
          (entry-of (λ (n : ℕ). n ≡ client) (terms s) v.turns (came client m b).event refl) apart))
          tt)

  app-sent : (client link at : ℕ) (frame : Message) (b : Batch) (app : Option AppMsg) → NamesPort (port_of s client) b
      → AsksOnlyThen (is_some app) b
      → Headline (terms s) (turned (by_app s client at frame b v app).turn v).turns → Prior
      → SentAfter asked_so_far sent b (by_app s client at frame b v app)
  app-sent client link at frame b None named asks holds prior =
      quiet-sent b (by_app s client at frame b v None) refl (silent p b asks) (none-raised 0) prior
  app-sent client link at frame b (Some app) named asks holds prior = λ up.
      let is_up_before : IsUp = sends-raised (port_of s client) at (messages b) up in
      let m : Message = message_fields app in
      let was : Shown v.turns asked_so_far sent = prior is_up_before in
      record {
        one_for_one = pairs-joined AsksFor asked_so_far (asked_on p client m b) sent (sent_by p b) was.one_for_one
            (new-asked client m b named holds is_up_before);
        left = left-joined (outstanding (terms s) p v.turns) asked_so_far (asked_on p client m b)
            (asked_on p client m b) was.left (left-of-all (asked_on p client m b));
      }

  -- ---- a port's packet

  -- the turn of a payload asks nothing, and may leave less outstanding
  heard-left : (q : ℕ) (heard : Result Outbound DecodeRefusal) (client : ℕ) (told : List Message) (fault : Option ℕ)
      (asks : List Asked)
      → IsLeftOf (outstanding (terms s) p v.turns) asks
      → IsLeftOf (outstanding (terms s) p (record
      { event = Heard q heard; client = client; bodies = told; sends = []; fault = fault } ∷ v.turns)) asks
  heard-left q (Err refusal) client told fault asks left =
      subst (λ (those : List Asked). IsLeftOf those asks) (sym (append-nil (outstanding (terms s) p v.turns))) left
  heard-left q (Ok m) client told None asks left =
      subst (λ (those : List Asked). IsLeftOf those asks) (sym (append-nil (filter _ (outstanding (terms s) p v.turns))))
      (left-filtered _ (outstanding (terms s) p v.turns) asks left)
  heard-left q (Ok m) client told (Some n) asks left =
      subst (λ (those : List Asked). IsLeftOf those asks) (sym (append-nil (outstanding (terms s) p v.turns))) left

  -- what was asked and sent since the port came up, where it may come up by this event
  abbrev asked_since : Event → List Asked
  asked_since e = if brings_up s p e v then outstanding (terms s) p v.turns else asked_so_far

  abbrev since : Event → List (List ℕ)
  since e = if brings_up s p e v then [] else sent

  -- before the turn, if any
  abbrev ShownNow : Batch → List Asked → List (List ℕ) → Type 0
  ShownNow b asks ms = Shown v.turns (asks ++ []) (ms ++ sent_by p b)

  -- the port's own state after a packet is that of the session's answer
  answered-up : (packet : Packet) (at : ℕ) → is_up (port_state s p (OnPacket packet at ∷ v.port_calls p)) ≡ true
      → is_up (port_answer s p (v.port_calls p) (OnPacket packet at)).after.state ≡ true
  unfolding port_state port_answer
  answered-up packet at up = up

  -- it comes up: all that is outstanding is sent
  comes-sent : (q link at : ℕ) (packet : Packet) (b : Batch) → NamesPort q b → Asks s (PortPacket q link at packet) b v
      → is_stepped s (PortPacket q link at packet) v ≡ true
      → comes_up s (PortPacket q link at packet) v ≡ true → q ≡ p
      → ShownNow b (outstanding (terms s) p v.turns) []
  comes-sent q link at packet b named asks stepped comes same = record {
    one_for_one = subst (λ (those : List Asked). EachWith AsksFor those (sent_by p b))
        (sym (append-nil (outstanding (terms s) p v.turns)))
        (subst (λ (n : ℕ). EachWith AsksFor (outstanding (terms s) n v.turns) (sent_by n b)) same
        (named-sent b q (outstanding (terms s) q v.turns) named
        (pairs-more (SaysIn (terms s) v.turns q) AsksFor (λ a message says. says.tokens)
        (outstanding (terms s) q v.turns) (messages b)
        (subst (λ (w : Bool). AsksAgain w s q (is_stepped s (PortPacket q link at packet) v
        && delivers_message s (PortPacket q link at packet) v) b v) both asks))));
    left = subst (IsLeftOf (outstanding (terms s) p v.turns))
        (sym (append-nil (outstanding (terms s) p v.turns)))
        (left-of-all (outstanding (terms s) p v.turns));
  }
    where
      both : (is_stepped s (PortPacket q link at packet) v && comes_up s (PortPacket q link at packet) v) ≡ true
      both = rw (stepped, comes) refl

  -- a packet by which no port comes up
  stays-silent : (q link at : ℕ) (packet : Packet) (b : Batch) → Asks s (PortPacket q link at packet) b v
      → comes_up s (PortPacket q link at packet) v ≡ false → sent_by p b ≡ []
  stays-silent q link at packet b asks stays =
      silent p b (by_step (is_stepped s (PortPacket q link at packet) v)
      (subst (λ (w : Bool). AsksAgain (is_stepped s (PortPacket q link at packet) v && w) s q
      (is_stepped s (PortPacket q link at packet) v && false) b v) stays asks))
    where
      by_step : (w : Bool) → AsksAgain (w && false) s q (w && false) b v → messages b ≡ []
      by_step true none = none
      by_step false none = none

  packet-sent : (q link at : ℕ) (packet : Packet) (b : Batch) → NamesPort q b → Asks s (PortPacket q link at packet) b v
      → is_stepped s (PortPacket q link at packet) v ≡ true → Prior
      → IsUpWith q (OnPacket packet at ∷ [])
      → ShownNow b (asked_since (PortPacket q link at packet)) (since (PortPacket q link at packet))
  packet-sent q link at packet b named asks stepped prior up = by_port (cases_Bool (q == p))
    where
      e : Event
      e = PortPacket q link at packet

      Now : Bool → Type 0
      Now w = ShownNow b (if w then outstanding (terms s) p v.turns else asked_so_far) (if w then [] else sent)

      by_brings : (w : Bool) → brings_up s p e v ≡ w → Now w → Now (brings_up s p e v)
      by_brings w is now = subst Now (sym is) now

      never : (c d : Bool) → (c && (false && d)) ≡ false
      never true d = refl
      never false d = refl

      by_port : ((q == p) ≡ true) ⊎ ((q == p) ≡ false) → Now (brings_up s p e v)
      by_port (inr apart) =
          by_brings false (ap (λ (x : Bool). comes_up s e v && (x && is_stepped s e v)) apart
          ∙ never (comes_up s e v) (is_stepped s e v))
          (still-shown v.turns asked_so_far sent b (sent-elsewhere p q b named apart)
          (prior (ap (λ (calls : List PortCall). is_up (port_state s p calls))
          (sym (cond-false (p == q) _ _ (ne_eqb p q (λ same. eqb-false q p apart (sym same))))) ∙ up)))
      by_port (inl same) = by_before (cases_Bool (is_up (port_state s q (v.port_calls q))))
        where
          is : q ≡ p
          is = eqb-true q p same

          by_before : (is_up (port_state s q (v.port_calls q)) ≡ true) ⊎
              (is_up (port_state s q (v.port_calls q)) ≡ false) → Now (brings_up s p e v)
          by_before (inl was) =
              by_brings false (ap (λ (x : Bool). x && ((q == p) && is_stepped s e v)) stays)
              (still-shown v.turns asked_so_far sent b (stays-silent q link at packet b asks stays)
              (prior (subst (λ (n : ℕ). is_up (port_state s n (v.port_calls n)) ≡ true) is was)))
            where
              stays : comes_up s e v ≡ false
              stays = ap (λ (x : Bool). not x
                  && is_up (port_answer s q (v.port_calls q) (OnPacket packet at)).after.state) was
          by_before (inr was_not) = by_brings true brings (comes-sent q link at packet b named asks stepped comes is)
            where
              now : is_up (port_state s p (OnPacket packet at ∷ v.port_calls p)) ≡ true
              now = ap (λ (calls : List PortCall). is_up (port_state s p calls))
                  (sym (cond-true (p == q) _ _ (eq-eqb p q (sym is)))) ∙ up

              comes : comes_up s e v ≡ true
              comes = rw (
                was_not,
                subst (λ (n : ℕ). is_up
                    (port_answer s n (v.port_calls n) (OnPacket packet at)).after.state ≡ true) (sym is)
                    (answered-up packet at now),
              ) refl

              brings : brings_up s p e v ≡ true
              brings = rw (comes, same, stepped) refl

  -- calls behind the packet
  behind-up : (q : ℕ) (c : PortCall) (at : ℕ) (ms : List (List ℕ)) → IsUpWith q (c ∷ sends at ms) → IsUpWith q (c ∷ [])
  behind-up q c at ms up = by_port (p == q) up
    where
      by_port : (w : Bool) → is_up (port_state s p
          (if w then called (c ∷ sends at ms) (v.port_calls p) else v.port_calls p)) ≡ true
          → is_up (port_state s p (if w then called (c ∷ []) (v.port_calls p) else v.port_calls p)) ≡ true
      by_port true is = ap is_up (sym (state-sent s p at ms (c ∷ v.port_calls p))) ∙ is
      by_port false is = is

  behind-fault : (q : ℕ) (packet : Packet) (at : ℕ) (fault : PortFault)
      → IsUpWith q (OnPacket packet at ∷ Fail fault ∷ []) → IsUpWith q (OnPacket packet at ∷ [])
  unfolding port_state
  behind-fault q packet at fault up = by_port (p == q) up
    where
      by_port : (w : Bool) → is_up (port_state s p
          (if w then called (OnPacket packet at ∷ Fail fault ∷ []) (v.port_calls p) else v.port_calls p)) ≡ true
          → is_up (port_state s p (if w then called (OnPacket packet at ∷ []) (v.port_calls p) else v.port_calls p))
          ≡ true
      by_port true is = absurd (cc)
      by_port false is = is

  payload-sent : (q link at : ℕ) (packet : Packet) (b : Batch) (a : PortAnswer) (payload : Option (List ℕ))
      → NamesPort q b → Asks s (PortPacket q link at packet) b v
      → is_stepped s (PortPacket q link at packet) v ≡ true → Prior
      → SentAfter (asked_since (PortPacket q link at packet)) (since (PortPacket q link at packet)) b
      (by_payload q at packet b a payload)
  payload-sent q link at packet b a None named asks stepped prior =
      λ up. packet-sent q link at packet b named asks stepped prior
      (behind-up q (OnPacket packet at) at (messages b) up)
  payload-sent q link at packet b a (Some payload) named asks stepped prior = by_fault_of b.fault
    where
      e : Event
      e = PortPacket q link at packet

      heard : (fault : Option ℕ) → ShownNow b (asked_since e) (since e)
          → Shown (record {
            event = Heard q (decoded payload);
            client = addressee b;
            bodies = bodies b;
            sends = [];
            fault = fault;
          } ∷ v.turns) (asked_since e ++ []) (since e ++ sent_by p b)
      heard fault now = record {
        one_for_one = now.one_for_one;
        left = heard-left q (decoded payload) (addressee b) (bodies b) fault (asked_since e ++ []) now.left;
      }

      by_fault_of : (fault : Option PortFault) → SentAfter (asked_since e) (since e) b
          (record (by_fault q at packet b fault) { turn = (told_outcome q at packet b payload).turn })
      by_fault_of None up = heard (option_map fault_number b.fault)
          (packet-sent q link at packet b named asks stepped prior up)
      by_fault_of (Some fault) up = heard (option_map fault_number b.fault)
          (packet-sent q link at packet b named asks stepped prior (behind-fault q packet at fault up))

  -- ---- an event

  event-sent : (e : Event) (b : Batch) → Gives s e b v → Asks s e b v → is_stepped s e v ≡ true
      → Headline (terms s) (turned (by_event s e b v).turn v).turns → Prior
      → SentAfter (asked_since e) (since e) b (by_event s e b v)
  event-sent (ClientUp client link at) b g asks stepped holds prior = by_link (v.client_link client)
    where
      unsent : sent_by p b ≡ []
      unsent = silent p b (only-then (is_stepped s (ClientUp client link at) v) false s 0 b v stepped asks)

      by_link : (current : Option ℕ) → SentAfter asked_so_far sent b (client_up client link at current)
      by_link None = quiet-sent b (client_up client link at None) refl unsent (none-raised 0) prior
      by_link (Some n) = by_number (n == link)
        where
          by_number : (w : Bool) → SentAfter asked_so_far sent b
              (if w then nothing else of_client client (Refused link) [])
          by_number true = quiet-sent b nothing refl unsent (none-raised 0) prior
          by_number false = quiet-sent b (of_client client (Refused link) []) refl unsent (none-raised 0) prior
  event-sent (ClientMessage client link at frame) b g asks stepped holds prior =
      app-sent client link at frame b (client_answer s client (v.client_calls client) (at, OnMessage frame)).app g.port
      (only-then (is_stepped s (ClientMessage client link at frame) v) _ s 0 b v stepped asks) holds prior
  event-sent (ClientGone client link at) b g asks stepped holds prior =
      quiet-sent b (by_event s (ClientGone client link at) b v) refl
      (silent p b (only-then (is_stepped s (ClientGone client link at) v) false s 0 b v stepped asks))
      (none-raised 0) prior
  event-sent (ClientTick client at) b g asks stepped holds prior =
      quiet-sent b (by_event s (ClientTick client at) b v) refl
      (silent p b (only-then (is_stepped s (ClientTick client at) v) false s 0 b v stepped asks))
      (none-raised 0) prior
  event-sent (PortUp q link at) b g asks stepped holds prior = by_link (v.port_link q)
    where
      unsent : sent_by p b ≡ []
      unsent = silent p b (only-then (is_stepped s (PortUp q link at) v) false s q b v stepped asks)

      by_link : (current : Option ℕ) → SentAfter asked_so_far sent b (port_up q link at current)
      by_link None = quiet-sent b (port_up q link at None) refl unsent (up-raised q at) prior
      by_link (Some n) = by_number (n == link)
        where
          by_number : (w : Bool) → SentAfter asked_so_far sent b (if w then nothing else of_port q (Refused link) [])
          by_number true = quiet-sent b nothing refl unsent (none-raised 0) prior
          by_number false = quiet-sent b (of_port q (Refused link) []) refl unsent (none-raised q) prior
  event-sent (PortPacket q link at packet) b g asks stepped holds prior =
      payload-sent q link at packet b (port_answer s q (v.port_calls q) (OnPacket packet at))
      (port_answer s q (v.port_calls q) (OnPacket packet at)).payload g.port asks stepped prior
  event-sent (PortGone q link at) b g asks stepped holds prior =
      quiet-sent b (by_event s (PortGone q link at) b v) refl
      (silent p b (only-then (is_stepped s (PortGone q link at) v) false s q b v stepped asks)) (gone-raised q) prior
  event-sent (PortTick q at) b g asks stepped holds prior =
      quiet-sent b (by_event s (PortTick q at) b v) refl
      (silent p b (only-then (is_stepped s (PortTick q at) v) false s q b v stepped asks)) (tick-raised q at) prior

  stepped-sent : (e : Event) (b : Batch) → Gives s e b v → Asks s e b v
      → Headline (terms s) (turned (outcome s e b v).turn v).turns → Prior
      → SentAfter (asked_since e) (since e) b (outcome s e b v)
  stepped-sent e b g asks holds prior = by_step (cases_Bool (is_stepped s e v))
    where
      by_step : (is_stepped s e v ≡ true) ⊎ (is_stepped s e v ≡ false)
          → SentAfter (asked_since e) (since e) b (outcome s e b v)
      by_step (inl stepped) =
          let is : outcome s e b v ≡ by_event s e b v = cond-true (is_stepped s e v) _ _ stepped in
          subst (SentAfter (asked_since e) (since e) b) (sym is)
          (event-sent e b g asks stepped (subst (λ (o : Outcome). Headline (terms s) (turned o.turn v).turns) is holds)
          prior)
      by_step (inr stays) =
          subst (SentAfter (asked_since e) (since e) b) (sym (cond-false (is_stepped s e v) _ _ stays))
          (subst (λ (w : Bool). SentAfter (if w then outstanding (terms s) p v.turns else asked_so_far)
          (if w then [] else sent) b nothing) (sym none)
          (quiet-sent b nothing refl (silent p b unsent) (none-raised 0) prior))
        where
          never : (c d : Bool) → (c && (d && false)) ≡ false
          never true true = refl
          never true false = refl
          never false d = refl

          none : brings_up s p e v ≡ false
          none = ap (λ (w : Bool). comes_up s e v && ((port_in e == p) && w)) stays
              ∙ never (comes_up s e v) (port_in e == p)

          unsent : messages b ≡ []
          unsent = subst (λ (w : Bool). AsksAgain (w && comes_up s e v) s (port_in e)
              (w && delivers_message s e v) b v) stays asks

  -- the lists after an event
  after-sent : (e : Event) (b : Batch) → Gives s e b v → Asks s e b v → Headline (terms s) (lists_after s e b v).turns
      → Prior
      → is_up (port_state s p ((lists_after s e b v).port_calls p)) ≡ true
      → Shown (lists_after s e b v).turns (asked_since e ++ asked_at true s p e b v) (since e ++ sent_by p b)
  after-sent e b g asks holds prior up =
      subst (λ (turns : OrderHistory). Shown turns (asked_since e ++ asked_at true s p e b v) (since e ++ sent_by p b))
      (sym turns)
      (stepped-sent e b g asks (subst (Headline (terms s)) turns holds) prior
      (ap (λ (cs : List PortCall). is_up (port_state s p cs)) (sym calls) ∙ up))
    where
      o : Outcome
      o = outcome s e b v

      turns : (lists_after s e b v).turns ≡ (turned o.turn v).turns
      turns = turns-after o b v

      calls : (lists_after s e b v).port_calls p ≡ calls_with o.port o.port_calls
      calls = by_port (cases_Bool (p == o.port))
        where
          by_port : ((p == o.port) ≡ true) ⊎ ((p == o.port) ≡ false)
              → (lists_after s e b v).port_calls p ≡ calls_with o.port o.port_calls
          by_port (inl same) = own-calls o b v p same ∙ sym (cond-true (p == o.port) _ _ same)
          by_port (inr apart) = other-calls o b v p apart ∙ sym (cond-false (p == o.port) _ _ apart)

-- ---- a history

never-up : (s : Settings) (p : ℕ) → is_up (port_state s p []) ≡ true → ⊥
unfolding port_state
never-up s p up = cc

-- the headline of the turns before an outcome's
before-turned : (ts : List Terms) (t : Option OrderTurn) (v : Lists) → Headline ts (turned t v).turns
    → Headline ts v.turns
before-turned ts None v holds = holds
before-turned ts (Some t) v holds = holds.1

before-headline : (s : Settings) (t : Turn) (before : History) → Headline (terms s) (order_turns s (t ∷ before))
    → Headline (terms s) (order_turns s before)
before-headline s t before holds = by_limit (is_within_day before) holds
  where
    by_limit : (w : Bool) → Headline (terms s)
        (if w then lists_after s t.event t.batch (lists s before) else lists s before).turns
        → Headline (terms s) (lists s before).turns
    by_limit true h = before-turned (terms s) (outcome s t.event t.batch (lists s before)).turn (lists s before)
        (subst (Headline (terms s)) (turns-after (outcome s t.event t.batch (lists s before)) t.batch (lists s before))
        h)
    by_limit false h = h

pub all-sent : (s : Settings) (h : History) → IsRun s h → EachTurn s (Asks s) h → Headline (terms s) (order_turns s h)
    → (p : ℕ) → AllSent s p h
all-sent s [] run asks holds p = λ up. absurd (never-up s p up)
all-sent s (t ∷ before) run asks holds p =
    by_limit (is_within_day before) run.0 asks.0 holds
    (all-sent s before run.1 asks.1 (before-headline s t before holds) p)
  where
    v : Lists
    v = lists s before

    by_limit : (w : Bool) → OfTurn w (Gives s t.event t.batch v) t.batch → OfTurn w (Asks s t.event t.batch v) t.batch
        → Headline (terms s) (if w then lists_after s t.event t.batch v else v).turns → AllSent s p before
        → is_up (port_state s p ((if w then lists_after s t.event t.batch v else v).port_calls p)) ≡ true
        → WasSent (outstanding (terms s) p (if w then lists_after s t.event t.batch v else v).turns)
        ((if w && brings_up s p t.event v then outstanding (terms s) p v.turns else asked_since_up s p before)
        ++ asked_at w s p t.event t.batch v)
        ((if w && brings_up s p t.event v then [] else sent_since_up s p before) ++ sent_by p t.batch)
    by_limit true g a h prior up =
        after-sent s p v (asked_since_up s p before) (sent_since_up s p before) t.event t.batch g a h prior up
    by_limit false g a h prior up =
        still-shown s p v (asked_since_up s p before) (sent_since_up s p before) v.turns (asked_since_up s p before)
        (sent_since_up s p before) t.batch (silent p t.batch (ap messages a)) (prior up)
