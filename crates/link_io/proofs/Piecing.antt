-- A list that is joined and written piece by piece.
use Rattle.std.proofs.Common.{◌≡◌, ℕ, ◌+◌, ◌<◌, ◌++◌, List, [], ◌∷◌, length, Option, Result, Ok, Err, refl, sym, ◌∙◌}
use Rattle.std.proofs.Common.{ap, subst, append_assoc, append-nil, arith, drop-drop}
use Rattle.std.specs.Prelude.{map, drop, OnOk}
use Rattle.std.proofs.lemmas.List.{drop-map, length-append}
use Rattle.std.specs.Io.KnownBytes.{Appends}
use Rattle.std.specs.Result.{IsErrAnd}
use Rattle.std.proofs.KnownBytes.{Appends-trans}
use Rattle.gate_law.specs.Events.{LinkOut}
use Rattle.link_io.specs.declared.link_fault.LinkFault.{LinkFault}
use Rattle.link_io.specs.declared.link_fault.LinkFault.TheVariants.{ReadFailed, WriteFailed, Malformed, StepLimit}
use Rattle.link_io.specs.declared.link_fault.LinkFault.TheVariants.{NoMemory}
use Rattle.link_io.specs.Writing.{WriterState, bytes_of_output, link_bytes, next_bytes, unwritten}
use Rattle.link_io.specs.Writing.{HasSent, Joins, Sends, SendsPart}

-- what is behind the next item
pub behind_next : {A B : Type 0} (f : A → B) (n : ℕ) (xs : List A) → map f (drop (n + 1) xs) ≡ drop 1 (map f (drop n xs))
behind_next f n xs = sym (drop-map f 1 (drop n xs) ∙ ap (map f) (drop-drop 1 n xs))

-- the next item, and what is behind it
pub next_whole : (link : ℕ) (bytes : List ℕ) (held : List LinkOut)
    → (bytes ++ next_bytes link held) ++ link_bytes link (drop 1 held) ≡ bytes ++ link_bytes link held
next_whole link bytes [] = append-nil (bytes ++ [])
next_whole link bytes (out ∷ outs) = append_assoc bytes (bytes_of_output link out) (link_bytes link outs)

-- the next item became bytes
pub joins_next : (a b c : WriterState) → b ≡ record a { bytes = a.bytes ++ next_bytes a.link a.held }
    → c ≡ record b { held = drop 1 b.held }
    → Joins a c
joins_next a b c joined passed =
    let is : c ≡ record a { bytes = a.bytes ++ next_bytes a.link a.held; held = drop 1 a.held } =
    passed ∙ ap (λ (w : WriterState). record w { held = drop 1 w.held }) joined in
    record {
      whole = ap unwritten is ∙ next_whole a.link a.bytes a.held;
      number = ap (λ (w : WriterState). w.number) is;
      link = ap (λ (w : WriterState). w.link) is;
      is_taken = ap (λ (w : WriterState). w.is_taken) is;
      is_closing = ap (λ (w : WriterState). w.is_closing) is;
      limit = ap (λ (w : WriterState). w.limit) is;
    }

-- of a writer whose list became bytes nothing else changed
pub joins_left : (a b : WriterState) → Joins a b → b ≡ record a { bytes = b.bytes; held = b.held }
joins_left a b p = λ i. record {
  number = p.number i;
  link = p.link i;
  bytes = b.bytes;
  held = b.held;
  is_taken = p.is_taken i;
  is_closing = p.is_closing i;
  limit = p.limit i;
}

pub nothing_left : (b : WriterState) → b.bytes ≡ [] → b.held ≡ [] → unwritten b ≡ []
nothing_left b empty none =
    ap (λ (l : List ℕ). l ++ link_bytes b.link b.held) empty ∙ ap (λ (h : List LinkOut). link_bytes b.link h) none

-- what was joined went out
pub sent_joined : (a b : WriterState) (s t : Option (List ℕ)) → Appends s t a.bytes → b ≡ record a { bytes = [] }
    → HasSent (unwritten a) (unwritten b) s t
sent_joined a b s t sent is = (a.bytes, sent, ap (λ (w : WriterState). a.bytes ++ unwritten w) (sym is))

pub sent_again : (x y z : List ℕ) (s t u : Option (List ℕ)) → HasSent x y s t → HasSent y z t u → HasSent x z s u
sent_again x y z s t u (w, first, whole) (v, more, behind) = (
  w ++ v,
  Appends-trans s t u w v first more,
  whole ∙ (ap (λ (l : List ℕ). w ++ l) behind ∙ sym (append_assoc w v z)),
)

pub all_sent : (x : List ℕ) (b : WriterState) (s t : Option (List ℕ)) → HasSent x (unwritten b) s t → b.bytes ≡ []
    → b.held ≡ [] → Appends s t x
all_sent x b s t (w, sent, whole) empty none =
    subst (λ (l : List ℕ). Appends s t l)
    (sym (whole ∙ (ap (λ (l : List ℕ). w ++ l) (nothing_left b empty none) ∙ append-nil w))) sent

-- a failure in front of more
failed_in_front : (x y more : List ℕ) (s t : Option (List ℕ)) → x ≡ y ++ more
    → (rest : List ℕ) × HasSent y rest s t × (0 < length rest) → (rest : List ℕ) × HasSent x rest s t × (0 < length rest)
failed_in_front x y more s t whole (rest, (w, sent, part), some) = (
  rest ++ more,
  (
    w,
    sent,
    whole ∙ (ap (λ (l : List ℕ). l ++ more) part ∙ append_assoc w rest more),
  ),
  longer,
)
  where
    longer : 0 < length (rest ++ more)
    longer = let both = some in omega (arith, length-append rest more)

pub sends_front : (A : Type 0) (fault : LinkFault) (a : WriterState) (s t : Option (List ℕ))
    → Sends {A = A} (Err fault) a.bytes s t → Sends {A = A} (Err fault) (unwritten a) s t
sends_front A WriteFailed a s t h = failed_in_front (unwritten a) a.bytes (link_bytes a.link a.held) s t refl h
sends_front A ReadFailed a s t h = absurd h
sends_front A Malformed a s t h = absurd h
sends_front A StepLimit a s t h = absurd h
sends_front A NoMemory a s t h = absurd h

-- a failure behind what went out
pub sends_behind : (A : Type 0) (fault : LinkFault) (x y z : List ℕ) (s t u : Option (List ℕ)) → HasSent x y s t
    → SendsPart {A = A} (Err fault) y z t u → Sends {A = A} (Err fault) x s u
sends_behind A WriteFailed x y z s t u first (rest, more, some) = (rest, sent_again x y rest s t u first more, some)
sends_behind A ReadFailed x y z s t u first h = absurd h
sends_behind A Malformed x y z s t u first h = absurd h
sends_behind A StepLimit x y z s t u first h = absurd h
sends_behind A NoMemory x y z s t u first h = absurd h

-- what a list's next item says went out
pub part_next : {A : Type 0} (r : Result A LinkFault) (a b c : WriterState) (s t : Option (List ℕ)) → a.bytes ≡ []
    → b ≡ a
    → Sends r (next_bytes b.link b.held) s t → OnOk r (c ≡ record b { held = drop 1 b.held })
    → SendsPart r (unwritten a) (unwritten c) s t
part_next (Ok done) a b c s t empty same sent is =
    let next = next_bytes b.link b.held in
    let behind = link_bytes b.link (drop 1 b.held) in
    let none : b.bytes ≡ [] = ap (λ (w : WriterState). w.bytes) same ∙ empty in
    let left : unwritten c ≡ behind = ap unwritten is ∙ ap (λ (l : List ℕ). l ++ behind) none in
    let all : unwritten b ≡ next ++ behind =
    sym (next_whole b.link b.bytes b.held) ∙ ap (λ (l : List ℕ). (l ++ next) ++ behind) none in
    (next, sent, sym (ap unwritten same) ∙ (all ∙ ap (λ (l : List ℕ). next ++ l) (sym left)))
part_next (Err WriteFailed) a b c s t empty same sent is =
    let next = next_bytes b.link b.held in
    let behind = link_bytes b.link (drop 1 b.held) in
    let none : b.bytes ≡ [] = ap (λ (w : WriterState). w.bytes) same ∙ empty in
    let all : unwritten b ≡ next ++ behind =
    sym (next_whole b.link b.bytes b.held) ∙ ap (λ (l : List ℕ). (l ++ next) ++ behind) none in
    failed_in_front (unwritten a) next behind s t (sym (ap unwritten same) ∙ all) sent
part_next (Err ReadFailed) a b c s t empty same sent is = absurd sent
part_next (Err Malformed) a b c s t empty same sent is = absurd sent
part_next (Err StepLimit) a b c s t empty same sent is = absurd sent
part_next (Err NoMemory) a b c s t empty same sent is = absurd sent

-- what was joined of a list went out
pub part_joined : {A : Type 0} (r : Result A LinkFault) (a b c d : WriterState) (s t : Option (List ℕ)) → Joins a b
    → Joins b c
    → Sends r c.bytes s t → OnOk r (d ≡ record c { bytes = [] }) → SendsPart r (unwritten a) (unwritten d) s t
part_joined (Ok done) a b c d s t p q sent is =
    let it = sent_joined c d s t sent is in
    (it.0, it.1, sym (q.whole ∙ p.whole) ∙ it.2)
part_joined (Err WriteFailed) a b c d s t p q sent is =
    failed_in_front (unwritten a) c.bytes (link_bytes c.link c.held) s t (sym (q.whole ∙ p.whole)) sent
part_joined (Err ReadFailed) a b c d s t p q sent is = absurd sent
part_joined (Err Malformed) a b c d s t p q sent is = absurd sent
part_joined (Err StepLimit) a b c d s t p q sent is = absurd sent
part_joined (Err NoMemory) a b c d s t p q sent is = absurd sent

-- the failure that is handed on
pub sends_answered : (A : Type 0) (r : Result A LinkFault) (fault : LinkFault) (x : List ℕ) (s t : Option (List ℕ))
    → IsErrAnd r (λ (f : LinkFault). f ≡ fault) → Sends {A = A} (Err fault) x s t → Sends r x s t
sends_answered A (Ok done) fault x s t is h = absurd is
sends_answered A (Err other) fault x s t is h = subst (λ (f : LinkFault). Sends {A = A} (Err f) x s t) (sym is) h
