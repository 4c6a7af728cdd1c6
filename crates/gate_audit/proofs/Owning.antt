-- The orders of a client that reports opened, and what is read of them.
use Rattle.std.proofs.Common.{◌≡◌, ℕ, Bool, true, false, List, [], ◌∷◌, map, reverse, refl, sym, ap, subst}
use Rattle.std.proofs.Common.{◌∙◌, eqb-true}
use Rattle.std.specs.Prelude.{◌==◌}
use Rattle.std.proofs.lemmas.List.{reverse-append, reverse-reverse}
use Rattle.gate_law.specs.fix_fields.Field.{Message, text}
use Rattle.gate_law.specs.Events.{History}
use Rattle.gate_law.specs.Holds.{told_by_batches}
use Rattle.order_law.specs.Headline.{Each}
use Rattle.order_law.specs.Messages.{body_of}
use Rattle.order_accounts.specs.Held.{StaysHeld}
use Rattle.gate_audit.specs.Accepted.{accepted_in, as_unread, own_of}
use Rattle.gate_audit.specs.Pairs.{SaidToClient}
use Rattle.gate_audit.specs.Passes.{AreRead, StayRead, read_as, sent_to, told_whole}
use Rattle.gate_audit.specs.Read.{AllReadHeld, AreReadHeld, Opened, ReadOrder, for_clients, opened_by, opened_in}
use Rattle.gate_audit.specs.Read.{opens_new_order, read_by, read_in, readings}
use Rattle.gate_audit.proofs.Agreeing.{for-same}
use Rattle.gate_audit.proofs.Bodies.{same-opened, same-reading}
use Rattle.gate_audit.proofs.Held.{each-held, stays-bodily, stays-whole}
use Rattle.gate_audit.proofs.Lists.{filter-reverse, map-reverse, map-same}
use Rattle.gate_audit.proofs.Rereading.{nothing-read}
use Rattle.gate_audit.proofs.Shelved.{each-append, each-for, each-of-for}
use Rattle.gate_audit.proofs.Whole.{map-for, sent-whole}

-- ---- what is read of a client's own

own-read : (all xs : List SaidToClient) (c : ℕ)
    → map (read_as all) (own_of c (accepted_in xs)) ≡ map (read_in c (sent_to c all)) (opened_in (sent_to c xs))
own-read all [] c = refl
own-read all (x ∷ xs) c =
    by_both (opens_new_order x.report) refl (x.client == c) refl (own-read all xs c)
  where
    by_both : (o : Bool) → opens_new_order x.report ≡ o → (b : Bool) → (x.client == c) ≡ b
        → map (read_as all) (own_of c (accepted_in xs)) ≡ map (read_in c (sent_to c all)) (opened_in (sent_to c xs))
        → map (read_as all) (own_of c (accepted_in (x ∷ xs)))
        ≡ map (read_in c (sent_to c all)) (opened_in (sent_to c (x ∷ xs)))
    by_both true opens true own rest = rw (opens, own, opens)
        (ap (λ (k : ℕ). read_in k (sent_to k all) (opened_by x.report)
        ∷ map (read_as all) (own_of c (accepted_in xs))) (eqb-true x.client c own)
        ∙ ap (λ (os : List ReadOrder). read_in c (sent_to c all) (opened_by x.report) ∷ os) rest)
    by_both true opens false other rest = rw (opens, other) rest
    by_both false none true own rest = rw (none, own, none) rest
    by_both false none false other rest = rw (none, other) rest

same-read : (client : ℕ) (rs : List Message) (o : Opened) → read_in client (map body_of rs) o ≡ read_in client rs o
same-read client rs o = rw (same-reading o.order rs) refl

own-readings : (h : History) (c : ℕ)
    → map (read_as (told_whole h)) (own_of c (reverse (accepted_in (told_whole h))))
    ≡ read_by c (told_by_batches c h)
own-readings h c =
    let all : List SaidToClient = told_whole h in
    let sent : List Message = sent_to c all in
    ap (map (read_as all)) (filter-reverse (λ (o : ReadOrder). o.client == c) (accepted_in all))
    ∙ (map-reverse (read_as all) (own_of c (accepted_in all))
    ∙ (ap (λ (os : List ReadOrder). reverse os) (own-read all all c)
    ∙ (sym (map-reverse (read_in c sent) (opened_in sent))
    ∙ (sym (map-same (read_in c (map body_of sent)) (read_in c sent) (same-read c sent) (reverse (opened_in sent)))
    ∙ (ap (λ (os : List Opened). map (read_in c (map body_of sent)) (reverse os)) (sym (same-opened sent))
    ∙ ap (read_by c) (sym (sent-whole c h)))))))

-- ---- all orders that a history opened, by client

abbrev own_unread : List SaidToClient → ℕ → List ReadOrder
own_unread all c = map as_unread (own_of c (reverse (accepted_in all)))

abbrev pub orders_accepted : ℕ → History → List ReadOrder
orders_accepted n h = for_clients (own_unread (told_whole h)) n

read-unread : (all : List SaidToClient) (os : List ReadOrder)
    → map (read_as all) (map as_unread os) ≡ map (read_as all) os
read-unread all [] = refl
read-unread all (o ∷ os) = ap (λ (xs : List ReadOrder). read_as all o ∷ xs) (read-unread all os)

unread-same : (os : List ReadOrder) → map as_unread os ≡ map (read_as []) (map as_unread os)
unread-same [] = refl
unread-same (o ∷ os) = ap (λ (xs : List ReadOrder). as_unread o ∷ xs) (unread-same os)

pub accepted-unread : (n : ℕ) (h : History) (orders : List ReadOrder) → orders ≡ orders_accepted n h
    → AreRead (orders_accepted n h) [] orders
accepted-unread n h orders are = record {
  read = are ∙ (for-same (own_unread (told_whole h)) (λ c. map (read_as []) (own_unread (told_whole h) c))
      (λ c. unread-same (own_of c (reverse (accepted_in (told_whole h))))) n
      ∙ sym (map-for (read_as []) (own_unread (told_whole h)) n));
  held = nothing-read (orders_accepted n h);
}

pub accepted-are : (n m : ℕ) (h : History) (os orders : List ReadOrder) → os ≡ reverse (accepted_in (told_whole h))
    → m ≡ n → orders ≡ for_clients (λ c. map as_unread (own_of c os)) m → orders ≡ orders_accepted n h
accepted-are n m h os orders are many is =
    is ∙ (ap (λ (xs : List ReadOrder). for_clients (λ c. map as_unread (own_of c xs)) m) are
    ∙ ap (for_clients (own_unread (told_whole h))) many)

pub readings-read : (n : ℕ) (h : History) (now : List ReadOrder)
    → AreRead (orders_accepted n h) (told_whole h) now → now ≡ readings n h
readings-read n h now are =
    are.read
    ∙ (map-for (read_as (told_whole h)) (own_unread (told_whole h)) n
    ∙ for-same (λ c. map (read_as (told_whole h)) (own_unread (told_whole h) c))
    (λ c. read_by c (told_by_batches c h))
    (λ c. read-unread (told_whole h) (own_of c (reverse (accepted_in (told_whole h)))) ∙ own-readings h c) n)

-- ---- numbers that integers hold

own-held : (all xs : List SaidToClient) (c : ℕ) → StayRead all (own_of c (accepted_in xs))
    → AreReadHeld (sent_to c all) (opened_in (sent_to c xs))
own-held all [] c held = tt
own-held all (x ∷ xs) c held =
    by_both (opens_new_order x.report) refl (x.client == c) refl (own-held all xs c) held
  where
    by_both : (o : Bool) → opens_new_order x.report ≡ o → (b : Bool) → (x.client == c) ≡ b
        → (StayRead all (own_of c (accepted_in xs)) → AreReadHeld (sent_to c all) (opened_in (sent_to c xs)))
        → StayRead all (own_of c (accepted_in (x ∷ xs)))
        → AreReadHeld (sent_to c all) (opened_in (sent_to c (x ∷ xs)))
    by_both true opens true own rest held =
        let now = rw (opens, own) at held in
        rw (own, opens)
        ((subst (λ (k : ℕ). StaysHeld (text 37 x.report) (sent_to k all)) (eqb-true x.client c own) now.0, rest now.1))
    by_both true opens false other rest held = (let now = rw (opens, other) at held in rw other (rest now))
    by_both false none true own rest held = (let now = rw none at held in rw (own, none) (rest now))
    by_both false none false other rest held = (let now = rw none at held in rw other (rest now))

held-own : (all xs : List SaidToClient) (c : ℕ) → AreReadHeld (sent_to c all) (opened_in (sent_to c xs))
    → StayRead all (own_of c (accepted_in xs))
held-own all [] c held = tt
held-own all (x ∷ xs) c held =
    by_both (opens_new_order x.report) refl (x.client == c) refl (held-own all xs c) held
  where
    by_both : (o : Bool) → opens_new_order x.report ≡ o → (b : Bool) → (x.client == c) ≡ b
        → (AreReadHeld (sent_to c all) (opened_in (sent_to c xs)) → StayRead all (own_of c (accepted_in xs)))
        → AreReadHeld (sent_to c all) (opened_in (sent_to c (x ∷ xs)))
        → StayRead all (own_of c (accepted_in (x ∷ xs)))
    by_both true opens true own rest held =
        let now = rw (own, opens) at held in
        rw (opens, own)
        ((
          subst (λ (k : ℕ). StaysHeld (text 37 x.report) (sent_to k all)) (sym (eqb-true x.client c own)) now.0,
          rest
              now.1,
        ))
    by_both true opens false other rest held = (let now = rw other at held in rw (opens, other) (rest now))
    by_both false none true own rest held = (let now = rw (own, none) at held in rw none (rest now))
    by_both false none false other rest held = (let now = rw other at held in rw none (rest now))

each-reverse : {X : Type 0} (P : X → Type 0) (xs : List X) → Each P xs → Each P (reverse xs)
each-reverse P [] each = tt
each-reverse P (x ∷ xs) each = subst (Each P) (sym (reverse-append (x ∷ []) xs))
    (each-append P (reverse xs) (x ∷ []) (each-reverse P xs each.1) (each.0, tt))

stays-unread : (all : List SaidToClient) (os : List ReadOrder) → StayRead all (map as_unread os) → StayRead all os
stays-unread all [] held = tt
stays-unread all (o ∷ os) held = (held.0, stays-unread all os held.1)

unread-stays : (all : List SaidToClient) (os : List ReadOrder) → StayRead all os → StayRead all (map as_unread os)
unread-stays all [] held = tt
unread-stays all (o ∷ os) held = (held.0, unread-stays all os held.1)

pub all-read-held : (n : ℕ) (h : History) → StayRead (told_whole h) (orders_accepted n h) → AllReadHeld n h
all-read-held n h held c some known =
    let all : List SaidToClient = told_whole h in
    let sent : List Message = sent_to c all in
    let A : List ReadOrder = accepted_in all in
    let P : ReadOrder → Type 0 = λ (o : ReadOrder). StaysHeld o.order (sent_to o.client all) in
    let own : StayRead all (own_of c (reverse A)) =
    stays-unread all (own_of c (reverse A)) (each-of-for P (own_unread all) n held c some known) in
    let turned : StayRead all (own_of c A) = subst (Each P) (reverse-reverse (own_of c A))
    (each-reverse P (reverse (own_of c A))
    (subst (Each P) (filter-reverse (λ (o : ReadOrder). o.client == c) A) own)) in
    subst (λ (rs : List Message). AreReadHeld rs (reverse (opened_in rs))) (sym (sent-whole c h))
    (subst (λ (os : List Opened). AreReadHeld (map body_of sent) (reverse os)) (sym (same-opened sent))
    (each-reverse (λ (o : Opened). StaysHeld o.order (map body_of sent)) (opened_in sent)
    (each-held sent (map body_of sent) (λ order. stays-bodily order sent) (opened_in sent)
    (own-held all all c turned))))

pub read-held-all : (n : ℕ) (h : History) → AllReadHeld n h → StayRead (told_whole h) (orders_accepted n h)
read-held-all n h held =
    let all : List SaidToClient = told_whole h in
    let A : List ReadOrder = accepted_in all in
    let P : ReadOrder → Type 0 = λ (o : ReadOrder). StaysHeld o.order (sent_to o.client all) in
    each-for P (own_unread all) n
    (λ c some known.
    let sent : List Message = sent_to c all in
    let bodily : AreReadHeld (map body_of sent) (reverse (opened_in sent)) =
    subst (λ (os : List Opened). AreReadHeld (map body_of sent) (reverse os)) (same-opened sent)
    (subst (λ (rs : List Message). AreReadHeld rs (reverse (opened_in rs))) (sent-whole c h) (held c some known)) in
    let whole : AreReadHeld sent (opened_in sent) =
    each-held (map body_of sent) sent (λ order. stays-whole order sent) (opened_in sent)
    (subst (Each (λ (o : Opened). StaysHeld o.order (map body_of sent))) (reverse-reverse (opened_in sent))
    (each-reverse (λ (o : Opened). StaysHeld o.order (map body_of sent)) (reverse (opened_in sent)) bodily)) in
    unread-stays all (own_of c (reverse A))
    (subst (Each P) (sym (filter-reverse (λ (o : ReadOrder). o.client == c) A))
    (each-reverse P (own_of c A) (held-own all all c whole))))
