-- The orders that whole reports open are those that their bodies open, and the pairs that are made of both are the
-- same.
use Rattle.std.proofs.Common.{◌≡◌, ◌≤◌, ◌+◌, ℕ, Bool, true, false, List, [], ◌∷◌, ◌++◌, Option, Some, None, map, reverse}
use Rattle.std.proofs.Common.{length, refl, sym, ap, subst, ◌∙◌, arith, eqb-true}
use Rattle.std.specs.Prelude.{◌==◌, if◌then◌else◌}
use Rattle.order_accounts.specs.Held.{StaysHeld}
use Rattle.std.proofs.lemmas.List.{length-append, length-map, map-append}
use Rattle.order_accounts.specs.ouch_codec.declared.outbound.Outbound.{Outbound}
use Rattle.gate_law.specs.fix_fields.Field.{Message}
use Rattle.order_law.specs.declared.account.Account.{Account}
use Rattle.order_law.specs.Messages.{body_of}
use Rattle.gate_core.proofs.order_machine.Executed.{count-more}
use Rattle.gate_law.specs.Settings.{Settings}
use Rattle.gate_law.specs.Events.{History, is_the_number}
use Rattle.gate_law.specs.Holds.{told_by_batches}
use Rattle.gate_audit.specs.Read.{for_clients, opens_new_order}
use Rattle.gate_audit.specs.Pairs.{AllHeld, AreHeld, OpenedOrder, Pair, SaidToClient, gives_token, handled_for}
use Rattle.gate_audit.specs.Pairs.{opened_order_at, opened_orders, orders_of, pair_in, paired, pairs, pairs_of}
use Rattle.gate_audit.specs.Pairs.{said_to, said_to_clients, tokens_given, told_anyone}
use Rattle.gate_audit.specs.Passes.{StayHeld, fix_in, pairs_with, said_of, sent_to, told_whole}
use Rattle.gate_audit.proofs.Lists.{filter-reverse, map-map, map-reverse, map-same}
use Rattle.gate_audit.proofs.Held.{stays-bodily, stays-whole}
use Rattle.gate_audit.proofs.Agreeing.{for-same}
use Rattle.gate_audit.proofs.Bodies.{same-first, same-opens, same-reading}

-- the same without what a session writes round it
abbrev bodily : SaidToClient → SaidToClient
bodily x = said_to x.client (body_of x.report)

-- ---- what reports open

same-gives : (r : Message) → gives_token (body_of r) ≡ gives_token r
same-gives r = rw (same-first 35 refl r, same-first 150 refl r) refl

same-count : (all : List SaidToClient) → tokens_given (map bodily all) ≡ tokens_given all
same-count [] = refl
same-count (x ∷ all) =
    count-more (λ (y : SaidToClient). gives_token y.report) (bodily x) (map bodily all)
    ∙ ap (λ (b : Bool). (if b then 1 else 0) + tokens_given (map bodily all)) (same-gives x.report)
    ∙ ap (λ (n : ℕ). (if gives_token x.report then 1 else 0) + n) (same-count all)
    ∙ sym (count-more (λ (y : SaidToClient). gives_token y.report) x all)

same-at : (n : ℕ) (x : SaidToClient) → opened_order_at n (bodily x) ≡ opened_order_at n x
same-at n x = rw (same-first 37 refl x.report, same-first 11 refl x.report, same-first 54 refl x.report) refl

same-opened : (all : List SaidToClient) → opened_orders (map bodily all) ≡ opened_orders all
same-opened [] = refl
same-opened (x ∷ all) =
    ap (λ (b : Bool). if b then opened_order_at (tokens_given (map bodily (x ∷ all))) (bodily x) ∷ opened_orders
    (map bodily all) else opened_orders (map bodily all)) (same-opens x.report)
    ∙ ap (λ (o : OpenedOrder). if opens_new_order x.report then o ∷ opened_orders (map bodily all) else opened_orders
    (map bodily all))
    (ap (λ (n : ℕ). opened_order_at n (bodily x)) (same-count (x ∷ all)) ∙ same-at (tokens_given (x ∷ all)) x)
    ∙ ap (λ (os : List OpenedOrder). if opens_new_order x.report then opened_order_at
    (tokens_given (x ∷ all)) x ∷ os else os) (same-opened all)

-- ---- what the batches told

bodily-told : (client : Option ℕ) (reports : List Message)
    → told_anyone client (map body_of reports) ≡ map bodily (told_anyone client reports)
bodily-told None reports = refl
bodily-told (Some n) reports = map-map (said_to n) body_of reports ∙ sym (map-map bodily (said_to n) reports)

-- all that a history told
said-whole : (h : History) → said_to_clients h ≡ map bodily (told_whole h)
said-whole [] = refl
said-whole (t ∷ before) =
    let x : List SaidToClient = told_anyone t.batch.client t.batch.reports in
    ap (λ (xs : List SaidToClient). reverse xs ++ said_to_clients before)
    (bodily-told t.batch.client t.batch.reports)
    ∙ (ap (λ (ys : List SaidToClient). reverse (map bodily x) ++ ys) (said-whole before)
    ∙ (ap (λ (zs : List SaidToClient). zs ++ map bodily (told_whole before)) (sym (map-reverse bodily x))
    ∙ sym (map-append bodily (reverse x) (told_whole before))))

pub same-tokens : (h : History) → tokens_given (said_to_clients h) ≡ tokens_given (told_whole h)
same-tokens h = ap tokens_given (said-whole h) ∙ same-count (told_whole h)

-- the orders of a client, the oldest first
pub orders-whole : (h : History) (c : ℕ) → reverse (orders_of c (opened_orders (said_to_clients h)))
    ≡ orders_of c (reverse (opened_orders (told_whole h)))
orders-whole h c =
    ap (λ (all : List SaidToClient). reverse (orders_of c (opened_orders all))) (said-whole h)
    ∙ ap (λ (x : List OpenedOrder). reverse (orders_of c x)) (same-opened (told_whole h))
    ∙ sym (filter-reverse (λ (o : OpenedOrder). o.client == c) (opened_orders (told_whole h)))

-- ---- what a client was told

sent-anyone : (c : ℕ) (k : Option ℕ) (xs : List Message) (all : List SaidToClient)
    → sent_to c (told_anyone k xs ++ all) ≡ (if is_the_number c k then xs else []) ++ sent_to c all
sent-anyone c None xs all = refl
sent-anyone c (Some k) [] all = by_test (k == c)
  where
    by_test : (b : Bool) → sent_to c all ≡ (if b then [] else []) ++ sent_to c all
    by_test true = refl
    by_test false = refl
sent-anyone c (Some k) (x ∷ xs) all = by_test (k == c) (sent-anyone c (Some k) xs all)
  where
    by_test : (b : Bool) → sent_to c (map (said_to k) xs ++ all) ≡ (if b then xs else []) ++ sent_to c all
        → (if b then x ∷ sent_to c (map (said_to k) xs ++ all) else sent_to c (map (said_to k) xs ++ all))
        ≡ (if b then x ∷ xs else []) ++ sent_to c all
    by_test true rest = ap (λ (ys : List Message). x ∷ ys) rest
    by_test false rest = rest

anyone-reverse : (k : Option ℕ) (xs : List Message) → reverse (told_anyone k xs) ≡ told_anyone k (reverse xs)
anyone-reverse None xs = refl
anyone-reverse (Some k) xs = sym (map-reverse (said_to k) xs)

pub sent-whole : (c : ℕ) (h : History) → told_by_batches c h ≡ map body_of (sent_to c (told_whole h))
sent-whole c [] = refl
sent-whole c (t ∷ before) =
    by_client (is_the_number c t.batch.client) (sent-whole c before)
    ∙ sym (ap (λ (xs : List SaidToClient). map body_of (sent_to c (xs ++ told_whole before)))
    (anyone-reverse t.batch.client t.batch.reports)
    ∙ ap (map body_of) (sent-anyone c t.batch.client (reverse t.batch.reports) (told_whole before)))
  where
    by_client : (b : Bool) → told_by_batches c before ≡ map body_of (sent_to c (told_whole before))
        → (if b then reverse (map body_of t.batch.reports) ++ told_by_batches c before else told_by_batches c before)
        ≡ map body_of ((if b then reverse t.batch.reports else []) ++ sent_to c (told_whole before))
    by_client true rest =
        ap (λ (ys : List Message). reverse (map body_of t.batch.reports) ++ ys) rest
        ∙ (ap (λ (zs : List Message). zs ++ map body_of (sent_to c (told_whole before)))
        (sym (map-reverse body_of t.batch.reports))
        ∙ sym (map-append body_of (reverse t.batch.reports) (sent_to c (told_whole before))))
    by_client false rest = rest

-- ---- pairs

same-pair : (sent : List Message) (ms : List Outbound) (o : OpenedOrder)
    → pair_in (map body_of sent) ms o ≡ pair_in sent ms o
same-pair sent ms o = rw (same-reading o.order sent) refl

-- those of a client, by its whole reports
pairs-whole : (s : Settings) (h : History) (c : ℕ) → pairs_of s h c
    ≡ map (pair_in (sent_to c (told_whole h)) (handled_for s h c))
    (orders_of c (reverse (opened_orders (told_whole h))))
pairs-whole s h c =
    let sent = sent_to c (told_whole h) in
    let os = reverse (opened_orders (told_whole h)) in
    ap (map (pair_in (told_by_batches c h) (handled_for s h c))) (orders-whole h c)
    ∙ ap (λ (rs : List Message). map (pair_in rs (handled_for s h c)) (orders_of c os)) (sent-whole c h)
    ∙ map-same (pair_in (map body_of sent) (handled_for s h c)) (pair_in sent (handled_for s h c))
    (same-pair sent (handled_for s h c)) (orders_of c os)

-- a client's orders, each with what was read of it and what the market said of it
own-pairs : (all : List SaidToClient) (ms : List Outbound) (c : ℕ) (os : List OpenedOrder)
    → pairs_with (orders_of c os) (map (fix_in all) (orders_of c os)) (map (said_of ms) (orders_of c os))
    ≡ map (pair_in (sent_to c all) ms) (orders_of c os)
own-pairs all ms c [] = refl
own-pairs all ms c (o ∷ os) = by_test (o.client == c) refl (own-pairs all ms c os)
  where
    IsPaired : List OpenedOrder → Type 0
    IsPaired own = pairs_with own (map (fix_in all) own) (map (said_of ms) own) ≡ map (pair_in (sent_to c all) ms) own

    by_test : (b : Bool) → (o.client == c) ≡ b → IsPaired (orders_of c os)
        → IsPaired (if b then o ∷ orders_of c os else orders_of c os)
    by_test true is rest =
        ap (λ (k : ℕ). pair_in (sent_to k all) ms o ∷ pairs_with (orders_of c os) (map (fix_in all) (orders_of c os))
        (map (said_of ms) (orders_of c os))) (eqb-true o.client c is)
        ∙ ap (λ (ps : List Pair). pair_in (sent_to c all) ms o ∷ ps) rest
    by_test false is rest = rest

with-append : (os os2 : List OpenedOrder) (xs xs2 ys ys2 : List Account) → length os ≡ length xs
    → length os ≡ length ys
    → pairs_with (os ++ os2) (xs ++ xs2) (ys ++ ys2) ≡ pairs_with os xs ys ++ pairs_with os2 xs2 ys2
with-append [] os2 [] xs2 [] ys2 same also = refl
with-append [] os2 [] xs2 (y ∷ ys) ys2 same also = absurd (omega (arith, also))
with-append [] os2 (x ∷ xs) xs2 ys ys2 same also = absurd (omega (arith, same))
with-append (o ∷ os) os2 [] xs2 ys ys2 same also = absurd (omega (arith, same))
with-append (o ∷ os) os2 (x ∷ xs) xs2 [] ys2 same also = absurd (omega (arith, also))
with-append (o ∷ os) os2 (x ∷ xs) xs2 (y ∷ ys) ys2 same also =
    ap (λ (zs : List Pair). paired o.client o.id x y ∷ zs)
    (with-append os os2 xs xs2 ys ys2 (omega (arith, same)) (omega (arith, also)))

for-length : {X Y : Type 0} (f : ℕ → List X) (g : ℕ → List Y) → ((c : ℕ) → length (f c) ≡ length (g c)) → (n : ℕ)
    → length (for_clients f n) ≡ length (for_clients g n)
for-length f g same ℕ.zero = refl
for-length f g same (ℕ.suc n) =
    let before = for-length f g same n in
    let next = same (ℕ.suc n) in
    length-append (for_clients f n) (f (ℕ.suc n))
    ∙ (omega (arith, before, next) ∙ sym (length-append (for_clients g n) (g (ℕ.suc n))))

for-pairs : (e : ℕ → List OpenedOrder) (f g : ℕ → List Account) → ((c : ℕ) → length (e c) ≡ length (f c))
    → ((c : ℕ) → length (e c) ≡ length (g c)) → (n : ℕ)
    → pairs_with (for_clients e n) (for_clients f n) (for_clients g n)
    ≡ for_clients (λ c. pairs_with (e c) (f c) (g c)) n
for-pairs e f g same also ℕ.zero = refl
for-pairs e f g same also (ℕ.suc n) =
    with-append (for_clients e n) (e (ℕ.suc n)) (for_clients f n) (f (ℕ.suc n)) (for_clients g n) (g (ℕ.suc n))
    (for-length e f same n) (for-length e g also n)
    ∙ ap (λ (ps : List Pair). ps ++ pairs_with (e (ℕ.suc n)) (f (ℕ.suc n)) (g (ℕ.suc n)))
    (for-pairs e f g same also n)

pub map-for : {X Y : Type 0} (made : X → Y) (f : ℕ → List X) (n : ℕ)
    → map made (for_clients f n) ≡ for_clients (λ c. map made (f c)) n
map-for made f ℕ.zero = refl
map-for made f (ℕ.suc n) =
    map-append made (for_clients f n) (f (ℕ.suc n))
    ∙ ap (λ ys. ys ++ map made (f (ℕ.suc n))) (map-for made f n)

-- the accounts of all orders that a history opened, by client
abbrev pub fix_opened : Settings → History → List Account
fix_opened s h = for_clients (λ c. map (fix_in (told_whole h)) (orders_of c (reverse (opened_orders (told_whole h)))))
    (length s.clients)

abbrev pub said_opened : Settings → History → List Account
said_opened s h = for_clients (λ c. map (said_of (handled_for s h c))
    (orders_of c (reverse (opened_orders (told_whole h))))) (length s.clients)

pub pairs-read : (s : Settings) (h : History) (os : List OpenedOrder) (n : ℕ) (fix said : List Account)
    → os ≡ reverse (opened_orders (told_whole h)) → n ≡ length s.clients → fix ≡ fix_opened s h
    → said ≡ said_opened s h → pairs_with (for_clients (λ c. orders_of c os) n) fix said ≡ pairs s h
pairs-read s h os n fix said are_openings is_many are_fix are_said =
    let all = told_whole h in
    let O = reverse (opened_orders all) in
    let e : ℕ → List OpenedOrder = λ c. orders_of c O in
    let f : ℕ → List Account = λ c. map (fix_in all) (orders_of c O) in
    let g : ℕ → List Account = λ c. map (said_of (handled_for s h c)) (orders_of c O) in
    let m = length s.clients in
    ap (λ (xs : List OpenedOrder). pairs_with (for_clients (λ c. orders_of c xs) n) fix said) are_openings
    ∙ (ap (λ (k : ℕ). pairs_with (for_clients e k) fix said) is_many
    ∙ (ap (λ (xs : List Account). pairs_with (for_clients e m) xs said) are_fix
    ∙ (ap (pairs_with (for_clients e m) (for_clients f m)) are_said
    ∙ (for-pairs e f g (λ c. sym (length-map (e c) (fix_in all)))
    (λ c. sym (length-map (e c) (said_of (handled_for s h c)))) m
    ∙ for-same (λ c. pairs_with (e c) (f c) (g c)) (pairs_of s h)
    (λ c. own-pairs all (handled_for s h c) c O ∙ sym (pairs-whole s h c)) m))))

-- ---- numbers that integers hold

each-held : (xs ys : List Message) → ((order : List ℕ) → StaysHeld order xs → StaysHeld order ys)
    → (os : List OpenedOrder) → AreHeld xs os → AreHeld ys os
each-held xs ys same [] held = tt
each-held xs ys same (o ∷ os) held = (same o.order held.0, each-held xs ys same os held.1)

own-held : (all : List SaidToClient) (c : ℕ) (os : List OpenedOrder) → StayHeld all (orders_of c os)
    → AreHeld (sent_to c all) (orders_of c os)
own-held all c [] held = tt
own-held all c (o ∷ os) held = by_test (o.client == c) refl (own-held all c os) held
  where
    by_test : (b : Bool) → (o.client == c) ≡ b
        → (StayHeld all (orders_of c os) → AreHeld (sent_to c all) (orders_of c os))
        → StayHeld all (if b then o ∷ orders_of c os else orders_of c os)
        → AreHeld (sent_to c all) (if b then o ∷ orders_of c os else orders_of c os)
    by_test true is rest held =
        (subst (λ (k : ℕ). StaysHeld o.order (sent_to k all)) (eqb-true o.client c is) held.0, rest held.1)
    by_test false is rest held = rest held

held-own : (all : List SaidToClient) (c : ℕ) (os : List OpenedOrder)
    → AreHeld (sent_to c all) (orders_of c os) → StayHeld all (orders_of c os)
held-own all c [] held = tt
held-own all c (o ∷ os) held = by_test (o.client == c) refl (held-own all c os) held
  where
    by_test : (b : Bool) → (o.client == c) ≡ b
        → (AreHeld (sent_to c all) (orders_of c os) → StayHeld all (orders_of c os))
        → AreHeld (sent_to c all) (if b then o ∷ orders_of c os else orders_of c os)
        → StayHeld all (if b then o ∷ orders_of c os else orders_of c os)
    by_test true is rest held =
        (subst (λ (k : ℕ). StaysHeld o.order (sent_to k all)) (sym (eqb-true o.client c is)) held.0, rest held.1)
    by_test false is rest held = rest held

-- what was read of the orders of each client stays within integers
abbrev pub AllStayHeld : Settings → History → Type 0
AllStayHeld s h = (c : ℕ) → 1 ≤ c → c ≤ length s.clients
    → StayHeld (told_whole h) (orders_of c (reverse (opened_orders (told_whole h))))

pub all-held : (s : Settings) (h : History) → AllStayHeld s h → AllHeld s h
all-held s h held c some known =
    let all = told_whole h in
    let O = reverse (opened_orders all) in
    subst (λ (sent : List Message). AreHeld sent (reverse (orders_of c (opened_orders (said_to_clients h)))))
    (sym (sent-whole c h))
    (subst (AreHeld (map body_of (sent_to c all))) (sym (orders-whole h c))
    (each-held (sent_to c all) (map body_of (sent_to c all)) (λ order. stays-bodily order (sent_to c all))
    (orders_of c O) (own-held all c O (held c some known))))

pub held-all : (s : Settings) (h : History) → AllHeld s h → AllStayHeld s h
held-all s h held c some known =
    let all = told_whole h in
    let O = reverse (opened_orders all) in
    held-own all c O
    (each-held (map body_of (sent_to c all)) (sent_to c all) (λ order. stays-whole order (sent_to c all))
    (orders_of c O)
    (subst (AreHeld (map body_of (sent_to c all))) (orders-whole h c)
    (subst (λ (sent : List Message). AreHeld sent (reverse (orders_of c (opened_orders (said_to_clients h)))))
    (sent-whole c h) (held c some known))))

-- ---- what the code has

pub fix-are : (s : Settings) (h : History) (os : List OpenedOrder) (n : ℕ) (accounts : List Account)
    → os ≡ reverse (opened_orders (told_whole h)) → n ≡ length s.clients
    → accounts ≡ for_clients (λ c. map (fix_in (told_whole h)) (orders_of c os)) n → accounts ≡ fix_opened s h
fix-are s h os n accounts are_openings is_many is =
    is ∙ (ap (λ (xs : List OpenedOrder). for_clients (λ c. map (fix_in (told_whole h)) (orders_of c xs)) n) are_openings
    ∙ ap (for_clients (λ c. map (fix_in (told_whole h)) (orders_of c (reverse (opened_orders (told_whole h))))))
    is_many)

pub said-are : (s : Settings) (h : History) (os : List OpenedOrder) (said : List Account)
    → os ≡ reverse (opened_orders (told_whole h))
    → said ≡ for_clients (λ c. map (said_of (handled_for s h c)) (orders_of c os)) (length s.clients)
    → said ≡ said_opened s h
said-are s h os said are_openings is =
    is ∙ ap (λ (xs : List OpenedOrder). for_clients (λ c. map (said_of (handled_for s h c)) (orders_of c xs))
    (length s.clients)) are_openings

-- of the orders that the code has
pub held-are : (s : Settings) (h : History) (os : List OpenedOrder) (n : ℕ)
    → os ≡ reverse (opened_orders (told_whole h)) → n ≡ length s.clients
    → ((c : ℕ) → 1 ≤ c → c ≤ n → StayHeld (told_whole h) (orders_of c os)) → AllStayHeld s h
held-are s h os n are_openings is_many held =
    subst (λ (xs : List OpenedOrder). (c : ℕ) → 1 ≤ c → c ≤ length s.clients
    → StayHeld (told_whole h) (orders_of c xs)) are_openings
    (subst (λ (k : ℕ). (c : ℕ) → 1 ≤ c → c ≤ k → StayHeld (told_whole h) (orders_of c os)) is_many held)

pub are-held : (s : Settings) (h : History) (os : List OpenedOrder) (n : ℕ)
    → os ≡ reverse (opened_orders (told_whole h)) → n ≡ length s.clients → AllStayHeld s h
    → (c : ℕ) → 1 ≤ c → c ≤ n → StayHeld (told_whole h) (orders_of c os)
are-held s h os n are_openings is_many held =
    subst (λ (k : ℕ). (c : ℕ) → 1 ≤ c → c ≤ k → StayHeld (told_whole h) (orders_of c os)) (sym is_many)
    (subst (λ (xs : List OpenedOrder). (c : ℕ) → 1 ≤ c → c ≤ length s.clients
    → StayHeld (told_whole h) (orders_of c xs)) (sym are_openings) held)
