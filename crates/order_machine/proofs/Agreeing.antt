-- An order that is as the lists have it: reports and messages agree on it, and what is pending is outstanding.
use Rattle.std.proofs.Common.{◌≡◌, ◌≢◌, ℕ, Bool, true, false, List, [], ◌∷◌, ◌++◌, map, refl, sym, ap, ◌∙◌, bytes_eq}
use Rattle.std.proofs.Common.{Option, Some, None}
use Rattle.std.specs.Prelude.{◌&&◌, not, if◌then◌else◌, filter}
use Rattle.order_law.specs.ouch_codec.declared.outbound.Outbound.{Outbound}
use Rattle.order_law.specs.declared.stage.Stage.{Stage}
use Rattle.order_law.specs.declared.stage.Stage.TheVariants.{Waiting, Working, Closed}
use Rattle.fix_fields.specs.Field.{Message, text}
use Rattle.order_law.specs.Reading.{Reading, reading}
use Rattle.order_law.specs.Life.{Life}
use Rattle.order_law.specs.Chain.{Chain, Request, cancels, chain, replaces}
use Rattle.order_law.specs.History.{Asked, Entry, Said, SaysNew, Terms, asked_of, is_cancel_said, is_replace_said}
use Rattle.order_law.specs.History.{life_of, pending_tokens, token_of}
use Rattle.order_law.specs.Verdicts.{is_replace}
use Rattle.order_law.specs.Headline.{Agree, Each, PendingIsOutstanding, each_once, ids_asked}
use Rattle.order_machine.specs.OrderRecord.{Cancelling, OrderRecord, asked_as, asked_cancel, asked_replace}
use Rattle.order_machine.specs.OrderRecord.{cancel_asked}
use Rattle.order_machine.specs.OrderRecord.{cancel_entry, live_token, record_life, new_asked, read, replaces_asked}
use Rattle.order_machine.specs.OrderRecord.{request_of}
use Rattle.order_machine.proofs.Texts.{eq-same}
use Rattle.order_machine.proofs.Fits.{Fits, life-of, next-is, own, tokens-are}
use Rattle.order_machine.proofs.AskedReplaces.{append-nothing}
use Rattle.std.proofs.lemmas.List.Elements.{filter-append}

pub agree-of : (x : Reading) (l : Life) (o : OrderRecord) → x ≡ read o → l ≡ record_life o → Agree x l
agree-of x l o e f = record {
  side = rw (e, f) refl;
  unfilled = rw (e, f) refl;
  executed = rw (e, f) refl;
  cancelled = rw (e, f) refl;
  value = rw (e, f) refl;
  is_closed = rw (e, f) refl;
}

-- ---- what is asked for an order, of one kind

abbrev of_kind : (Said → Bool) → List Asked → List Asked
of_kind kind asked = filter (λ (a : Asked). kind a.said) asked

filter-both : (kind : Said → Bool) (order : List ℕ) (asked : List Asked)
    → asked_of kind order asked ≡ of_kind kind (own order asked)
filter-both kind order [] = refl
filter-both kind order (a ∷ asked) = by_test (bytes_eq a.order order) (filter-both kind order asked)
  where
    by_test : (b : Bool) → asked_of kind order asked ≡ of_kind kind (own order asked)
        → (if b && kind a.said then a ∷ asked_of kind order asked else asked_of kind order asked)
        ≡ of_kind kind (if b then a ∷ own order asked else own order asked)
    by_test true e = ap (λ (xs : List Asked). if kind a.said then a ∷ xs else xs) e
    by_test false e = e

no-replaces : (new q : Entry) (tokens : List (List ℕ))
    → of_kind is_replace_said (map (λ token. asked_cancel new q token) tokens) ≡ []
no-replaces new q [] = refl
no-replaces new q (token ∷ tokens) = no-replaces new q tokens

all-cancels : (new q : Entry) (tokens : List (List ℕ))
    → of_kind is_cancel_said (map (λ token. asked_cancel new q token) tokens)
    ≡ map (λ token. asked_cancel new q token) tokens
all-cancels new q [] = refl
all-cancels new q (token ∷ tokens) = ap (λ xs. asked_cancel new q token ∷ xs) (all-cancels new q tokens)

one-id : (new q : Entry) (tokens : List (List ℕ)) → tokens ≢ []
    → each_once (ids_asked (map (λ token. asked_cancel new q token) tokens)) ≡ text 11 q.message ∷ []
one-id new q [] some = absurd (some refl)
one-id new q (token ∷ []) some = refl
one-id new q (token ∷ other ∷ tokens) some =
    let rest = one-id new q (other ∷ tokens) (λ e. (let x : (other ∷ tokens) ≡ [] = e in cc)) in
    let same = eq-same (text 11 q.message) in
    ap (λ ids. text 11 q.message ∷ filter (λ other. not (bytes_eq (text 11 q.message) other)) ids) rest ∙ rw same refl

-- in its parts
by-parts : (kind : Said → Bool) (terms : List Terms) (o : OrderRecord)
    → of_kind kind (asked_as terms o) ≡ of_kind kind (new_asked terms o.new o.stage)
    ++ (of_kind kind (replaces_asked o.new (live_token o) o.replaces) ++ of_kind kind (cancel_asked o.new o.cancel))
by-parts kind terms o =
    filter-append (λ (a : Asked). kind a.said) (new_asked terms o.new o.stage)
    (replaces_asked o.new (live_token o) o.replaces ++ cancel_asked o.new o.cancel)
    ∙ ap (λ (xs : List Asked). of_kind kind (new_asked terms o.new o.stage) ++ xs)
    (filter-append (λ (a : Asked). kind a.said) (replaces_asked o.new (live_token o) o.replaces)
    (cancel_asked o.new o.cancel))

of-new : (kind : Said → Bool) → ((token : List ℕ) → kind (SaysNew token) ≡ false)
    → (terms : List Terms) (new : Entry) (s : Stage) → of_kind kind (new_asked terms new s) ≡ []
of-new kind none terms new Waiting = rw (none (token_of new)) refl
of-new kind none terms new Working = refl
of-new kind none terms new Closed = refl

each-replace : (new : Entry) (from : List ℕ) (qs : List Entry)
    → of_kind is_replace_said (replaces_asked new from qs) ≡ replaces_asked new from qs
each-replace new from [] = refl
each-replace new from (q ∷ qs) = ap (λ (xs : List Asked). asked_replace new from q ∷ xs)
    (each-replace new (token_of q) qs)

no-cancels : (new : Entry) (from : List ℕ) (qs : List Entry) → of_kind is_cancel_said (replaces_asked new from qs) ≡ []
no-cancels new from [] = refl
no-cancels new from (q ∷ qs) = no-cancels new (token_of q) qs

no-replaces-cancelling : (new : Entry) (c : Option Cancelling) → of_kind is_replace_said (cancel_asked new c) ≡ []
no-replaces-cancelling new None = refl
no-replaces-cancelling new (Some c) = no-replaces new c.request c.tokens

all-cancelling : (new : Entry) (c : Option Cancelling)
    → of_kind is_cancel_said (cancel_asked new c) ≡ cancel_asked new c
all-cancelling new None = refl
all-cancelling new (Some c) = all-cancels new c.request c.tokens

replaces-of : (terms : List Terms) (o : OrderRecord)
    → of_kind is_replace_said (asked_as terms o) ≡ replaces_asked o.new (live_token o) o.replaces
replaces-of terms o =
    by-parts is_replace_said terms o
    ∙ rw (
      of-new is_replace_said (λ token. refl) terms o.new o.stage,
      each-replace o.new
          (live_token o) o.replaces,
      no-replaces-cancelling o.new o.cancel,
    )
    (append-nothing (replaces_asked o.new (live_token o) o.replaces))

cancels-of : (terms : List Terms) (o : OrderRecord)
    → of_kind is_cancel_said (asked_as terms o) ≡ cancel_asked o.new o.cancel
cancels-of terms o =
    by-parts is_cancel_said terms o
    ∙ rw (
      of-new is_cancel_said (λ token. refl) terms o.new o.stage,
      no-cancels o.new
          (live_token o) o.replaces,
      all-cancelling o.new o.cancel,
    ) refl

-- ---- the ids of pending requests

abbrev NoReplace : Option Cancelling → Type 0
NoReplace c = (x : Cancelling) → c ≡ Some x → is_replace x.request.message ≡ false

ids-replaced : (new : Entry) (from id : List ℕ) (rs : List Entry) (c : Option Cancelling)
    → Each (λ (q : Entry). is_replace q.message ≡ true) rs → NoReplace c
    → map (λ (q : Request). q.id) (replaces (record { current = id; pending = map request_of (rs ++ cancel_entry c) }))
    ≡ ids_asked (replaces_asked new from rs)
ids-replaced new from id [] None are none = refl
ids-replaced new from id [] (Some c) are none = rw (none c refl) refl
ids-replaced new from id (q ∷ rs) c are none =
    rw are.0 (ap (λ (ids : List (List ℕ)). text 11 q.message ∷ ids) (ids-replaced new (token_of q) id rs c are.1 none))

ids-cancelled : (new : Entry) (id : List ℕ) (rs : List Entry) (c : Option Cancelling)
    → Each (λ (q : Entry). is_replace q.message ≡ true) rs → NoReplace c
    → ((x : Cancelling) → c ≡ Some x → x.tokens ≢ [])
    → map (λ (q : Request). q.id) (cancels (record { current = id; pending = map request_of (rs ++ cancel_entry c) }))
    ≡ each_once (ids_asked (cancel_asked new c))
ids-cancelled new id [] None are none left = refl
ids-cancelled new id [] (Some c) are none left =
    let own : map (λ (q : Request). q.id) (cancels (record { current = id; pending = map request_of (c.request ∷ []) }))
    ≡ text 11 c.request.message ∷ [] = rw (none c refl) refl in
    own ∙ sym (one-id new c.request c.tokens (left c refl))
ids-cancelled new id (q ∷ rs) c are none left = rw are.0 (ids-cancelled new id rs c are.1 none left)

module _ (terms : List Terms) (entries : List Entry) (numbered : ℕ) (sent : List Message) (messages : List Outbound)
    (asked : List Asked) (reports limit : ℕ) (o : OrderRecord)
    (f : Fits terms entries numbered sent messages asked reports limit o) where
  asked-replaces : asked_of is_replace_said o.new.order asked ≡ replaces_asked o.new (live_token o) o.replaces
  asked-replaces = filter-both is_replace_said o.new.order asked ∙ ap (of_kind is_replace_said) f.asked_so
      ∙ replaces-of terms o

  asked-cancels : asked_of is_cancel_said o.new.order asked ≡ cancel_asked o.new o.cancel
  asked-cancels = filter-both is_cancel_said o.new.order asked ∙ ap (of_kind is_cancel_said) f.asked_so
      ∙ cancels-of terms o

  pub pending-of : PendingIsOutstanding o.new.order (chain o.new.order sent)
      (pending_tokens o.new.client (chain o.new.order sent) entries) asked
  pending-of = record {
    replaces = rw (f.reads.chained_so, asked-replaces)
        (ids-replaced o.new (live_token o) o.id o.replaces o.cancel f.keeps.sound.replaces f.keeps.sound.cancels);
    tokens = ap (λ (x : Chain). pending_tokens o.new.client x entries) f.reads.chained_so
        ∙ tokens-are terms entries numbered sent messages asked reports limit o f
        ∙ sym (next-is terms entries numbered sent messages asked reports limit o f);
    cancels = rw (f.reads.chained_so, asked-cancels)
        (ids-cancelled o.new o.id o.replaces o.cancel f.keeps.sound.replaces f.keeps.sound.cancels f.keeps.left);
  }

  pub agree-so : Agree (reading o.new.order sent) (life_of o.new.order entries messages)
  agree-so = agree-of (reading o.new.order sent) (life_of o.new.order entries messages) o f.reads.read_so
      (life-of terms entries numbered sent messages asked reports limit o f)
