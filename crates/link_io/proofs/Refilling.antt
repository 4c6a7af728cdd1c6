-- Lists that are joined and taken, one after another.
use Rattle.std.proofs.Common.{◌≡◌, ℕ, ◌==◌, ◌++◌, Bool, true, false, not, ◌||◌, List, [], ◌∷◌, length, refl, sym, ◌∙◌}
use Rattle.std.proofs.Common.{ap, subst, append_assoc, append-nil, arith, Option, Some, Result, Ok, Err}
use Rattle.std.proofs.lemmas.Bool.Decides.{nat_tests}
use Rattle.std.proofs.lemmas.List.{length-append}
use Rattle.gate_law.specs.Events.{LinkOut}
use Rattle.gate_events.specs.Closing.{is_link_closed}
use Rattle.std.specs.Result.{IsErrAnd}
use Rattle.std.specs.Io.KnownBytes.{Appends}
use Rattle.std.proofs.KnownBytes.{Appends-nil}
use Rattle.link_io.specs.declared.limit.Limit.{Limit}
use Rattle.link_io.specs.declared.writer.Wrote.{Wrote}
use Rattle.link_io.specs.declared.link_fault.LinkFault.{LinkFault}
use Rattle.link_io.specs.declared.link_fault.LinkFault.TheVariants.{ReadFailed, WriteFailed, Malformed, StepLimit}
use Rattle.link_io.specs.declared.link_fault.LinkFault.TheVariants.{NoMemory}
use Rattle.link_io.specs.Writing.{WriterState, unwritten, link_bytes, lists_bytes, do_close, Joins, TakesList, Refills}
use Rattle.link_io.specs.Writing.{HasSent, Sends, Tells, Writes, WritesOnce}
use Rattle.link_io.proofs.Piecing.{nothing_left}

pub joins_none : (a : WriterState) → Joins a a
joins_none a = record { whole = refl; number = refl; link = refl; is_taken = refl; is_closing = refl; limit = refl }

pub joins_again : (a b c : WriterState) → Joins a b → Joins b c → Joins a c
joins_again a b c p q = record {
  whole = q.whole ∙ p.whole;
  number = q.number ∙ p.number;
  link = q.link ∙ p.link;
  is_taken = q.is_taken ∙ p.is_taken;
  is_closing = q.is_closing ∙ p.is_closing;
  limit = q.limit ∙ p.limit;
}

lists_append : (link : ℕ) (xs ys : List (List LinkOut))
    → lists_bytes link (xs ++ ys) ≡ lists_bytes link xs ++ lists_bytes link ys
lists_append link [] ys = refl
lists_append link (x ∷ xs) ys =
    ap (λ (l : List ℕ). link_bytes link x ++ l) (lists_append link xs ys)
    ∙ sym (append_assoc (link_bytes link x) (lists_bytes link xs) (lists_bytes link ys))

or_assoc : (a b c : Bool) → ((a || b) || c) ≡ (a || (b || c))
or_assoc true b c = refl
or_assoc false b c = refl

or_false : (a : Bool) → (a || false) ≡ a
or_false true = refl
or_false false = refl

or_true : (a : Bool) → (a || true) ≡ true
or_true true = refl
or_true false = refl

close_append : (link : ℕ) (xs ys : List (List LinkOut))
    → do_close link (xs ++ ys) ≡ (do_close link xs || do_close link ys)
close_append link [] ys = refl
close_append link (x ∷ xs) ys =
    ap (λ (b : Bool). is_link_closed (Some link) x || b) (close_append link xs ys)
    ∙ sym (or_assoc (is_link_closed (Some link) x) (do_close link xs) (do_close link ys))

nothing_before : (earlier later : List (List LinkOut)) → [] ≡ earlier ++ later → later ≡ []
nothing_before [] later e = sym e
nothing_before (x ∷ earlier) later e = cc

pub refills_none : (a : WriterState) (t : List (List LinkOut)) → Refills a a t t
refills_none a t = record {
  taken = [];
  takes = sym (append-nil t);
  whole = sym (append-nil (unwritten a));
  number = refl;
  link = refl;
  is_taken = sym (or_false a.is_taken);
  is_closing = sym (or_false a.is_closing);
  limit = refl;
  stops = λ earlier later e closed. nothing_before earlier later e;
}

pub joined_refills : (a b c : WriterState) (x y : List (List LinkOut)) → Joins a b → Refills b c x y → Refills a c x y
joined_refills a b c x y p q = record {
  taken = q.taken;
  takes = q.takes;
  whole = q.whole ∙ (ap (λ (l : List ℕ). l ++ lists_bytes b.link q.taken) p.whole
      ∙ ap (λ (n : ℕ). unwritten a ++ lists_bytes n q.taken) p.link);
  number = q.number ∙ p.number;
  link = q.link ∙ p.link;
  is_taken = q.is_taken ∙ ap (λ (v : Bool). v || not (length q.taken == 0)) p.is_taken;
  is_closing = q.is_closing ∙ (ap (λ (v : Bool). v || do_close b.link q.taken) p.is_closing
      ∙ ap (λ (n : ℕ). a.is_closing || do_close n q.taken) p.link);
  limit = q.limit ∙ p.limit;
  stops = λ earlier later e closed. q.stops earlier later e
      (ap (λ (v : Bool). v || do_close b.link earlier) p.is_closing
      ∙ (ap (λ (n : ℕ). a.is_closing || do_close n earlier) p.link ∙ closed));
}

pub refills_joined : (a b c : WriterState) (x y : List (List LinkOut)) → Refills a b x y → Joins b c → Refills a c x y
refills_joined a b c x y p q = record {
  taken = p.taken;
  takes = p.takes;
  whole = q.whole ∙ p.whole;
  number = q.number ∙ p.number;
  link = q.link ∙ p.link;
  is_taken = q.is_taken ∙ p.is_taken;
  is_closing = q.is_closing ∙ p.is_closing;
  limit = q.limit ∙ p.limit;
  stops = p.stops;
}

-- what stands in front of something of a list with one more is a part of the list
snoc_part : (xs : List (List LinkOut)) (x : List LinkOut) (earlier : List (List LinkOut)) (y : List LinkOut)
    (later : List (List LinkOut))
    → xs ++ x ∷ [] ≡ earlier ++ y ∷ later → (more : List (List LinkOut)) × (xs ≡ earlier ++ more)
snoc_part xs x [] y later e = (xs, refl)
snoc_part [] x (z ∷ earlier) y later e = absurd (no_more earlier (tails e))
  where
    tails : x ∷ [] ≡ z ∷ (earlier ++ y ∷ later) → [] ≡ earlier ++ y ∷ later
    tails e = cc

    no_more : (es : List (List LinkOut)) → [] ≡ es ++ y ∷ later → ⊥
    no_more [] e = cc
    no_more (e1 ∷ es) e = cc
snoc_part (w ∷ xs) x (z ∷ earlier) y later e =
    let heads : w ≡ z = cc in
    let rest : xs ++ x ∷ [] ≡ earlier ++ y ∷ later = cc in
    let found = snoc_part xs x earlier y later rest in
    (found.0, both heads found.1)
  where
    both : {l : List (List LinkOut)} → w ≡ z → xs ≡ l → w ∷ xs ≡ z ∷ l
    both h t = cc

-- lists that don't close the link, and one more
open_more : (closing : Bool) (link : ℕ) (xs : List (List LinkOut)) (x : List LinkOut)
    → (closing || do_close link xs) ≡ false
    → (earlier later : List (List LinkOut)) → xs ++ x ∷ [] ≡ earlier ++ later
    → (closing || do_close link earlier) ≡ true → later ≡ []
open_more closing link xs x free earlier [] e closed = refl
open_more closing link xs x free earlier (y ∷ later) e closed =
    let part = snoc_part xs x earlier y later e in
    let all : (closing || (do_close link earlier || do_close link part.0)) ≡ false =
    ap (λ (b : Bool). closing || b) (sym (ap (do_close link) part.1 ∙ close_append link earlier part.0)) ∙ free in
    let wrong : true ≡ false = sym (ap (λ (b : Bool). b || do_close link part.0) closed)
    ∙ (or_assoc closing (do_close link earlier) (do_close link part.0) ∙ all) in
    cc

taken_more : (a : Bool) (xs : List (List LinkOut)) (x : List LinkOut) → true ≡ (a || not (length (xs ++ x ∷ []) == 0))
taken_more a xs x =
    let some : (length (xs ++ x ∷ []) == 0) ≡ false = grind (arith, nat_tests, length-append xs (x ∷ [])) in
    sym (ap (λ (b : Bool). a || not b) some ∙ or_true a)

pub refills_more : (a b c : WriterState) (x y z : List (List LinkOut)) → Refills a b x y → b.held ≡ []
    → b.is_closing ≡ false → TakesList true b c y z
    → Refills a c x z
refills_more a b c x y z p none free (outs, takes, is) =
    let grown : unwritten c ≡ unwritten b ++ link_bytes a.link outs =
    ap unwritten is ∙ (ap (λ (n : ℕ). b.bytes ++ link_bytes n outs) p.link
    ∙ ap (λ (l : List ℕ). l ++ link_bytes a.link outs)
    (sym (ap (λ (h : List LinkOut). b.bytes ++ link_bytes b.link h) none ∙ append-nil b.bytes))) in
    record {
      taken = p.taken ++ outs ∷ [];
      takes = takes ∙ (ap (λ (l : List (List LinkOut)). l ++ outs ∷ []) p.takes ∙ append_assoc x p.taken (outs ∷ []));
      whole = grown ∙ (ap (λ (l : List ℕ). l ++ link_bytes a.link outs) p.whole
          ∙ (append_assoc (unwritten a) (lists_bytes a.link p.taken) (link_bytes a.link outs)
          ∙ ap (λ (l : List ℕ). unwritten a ++ l) (ap (λ (l : List ℕ). lists_bytes a.link p.taken ++ l)
          (sym (append-nil (link_bytes a.link outs)))
          ∙ sym (lists_append a.link p.taken (outs ∷ [])))));
      number = ap (λ (w : WriterState). w.number) is ∙ p.number;
      link = ap (λ (w : WriterState). w.link) is ∙ p.link;
      is_taken = ap (λ (w : WriterState). w.is_taken) is ∙ taken_more a.is_taken p.taken outs;
      is_closing = ap (λ (w : WriterState). w.is_closing) is
          ∙ (ap (λ (v : Bool). v || is_link_closed (Some b.link) outs) p.is_closing
          ∙ (ap (λ (n : ℕ). (a.is_closing || do_close a.link p.taken) || is_link_closed (Some n) outs) p.link
          ∙ (or_assoc a.is_closing (do_close a.link p.taken) (is_link_closed (Some a.link) outs)
          ∙ ap (λ (v : Bool). a.is_closing || v) (ap (λ (v : Bool). do_close a.link p.taken || v)
          (sym (or_false (is_link_closed (Some a.link) outs)))
          ∙ sym (close_append a.link p.taken (outs ∷ []))))));
      limit = ap (λ (w : WriterState). w.limit) is ∙ p.limit;
      stops = open_more a.is_closing a.link p.taken outs (sym p.is_closing ∙ free);
    }

pub refills_nothing : (a b c : WriterState) (x y z : List (List LinkOut)) → Refills a b x y → TakesList false b c y z
    → Refills a c x z
refills_nothing a b c x y z p (is, takes) =
    subst (λ (w : WriterState). Refills a w x z) (sym is)
    (subst (λ (t : List (List LinkOut)). Refills a b x t) (sym takes) p)

-- a list more, where nothing closes the link
pub refills_next : (a b c d : WriterState) (x y z : List (List LinkOut)) → Refills a b x y → b.held ≡ []
    → (b.is_closing ≡ true → ⊥) → TakesList true b c y z
    → Joins c d → Refills a d x z
refills_next a b c d x y z p none free takes joins =
    refills_joined a c d x z (refills_more a b c x y z p none (is_open b.is_closing free) takes) joins
  where
    is_open : (v : Bool) → (v ≡ true → ⊥) → v ≡ false
    is_open true h = absurd (h refl)
    is_open false h = refl

pub writes_refused : (a b : WriterState) (x y : List (List LinkOut)) (s : Option (List ℕ)) → Refills a b x y
    → Writes (Err NoMemory) a b x y s s
writes_refused a b x y s p = record {
  taken = p.taken;
  written = [];
  rest = unwritten b;
  takes = p.takes;
  appends = Appends-nil s;
  whole = sym p.whole;
  number = p.number;
  link = p.link;
  stops = p.stops;
  tells = (refl, refl, p.is_taken, p.is_closing);
}

pub writes_err : (a b c : WriterState) (x y : List (List LinkOut)) (s t : Option (List ℕ)) (fault : LinkFault)
    → Refills a b x y
    → Sends {A = Unit {0}} (Err fault) (unwritten b) s t → c ≡ record b { bytes = c.bytes; held = c.held }
    → Writes (Err fault) a c x y s t
writes_err a b c x y s t WriteFailed p (rest, sent, some) left = record {
  taken = p.taken;
  written = sent.0;
  rest = rest;
  takes = p.takes;
  appends = sent.1;
  whole = sym p.whole ∙ sent.2;
  number = ap (λ (v : WriterState). v.number) left ∙ p.number;
  link = ap (λ (v : WriterState). v.link) left ∙ p.link;
  stops = p.stops;
  tells = some;
}
writes_err a b c x y s t ReadFailed p sent left = absurd sent
writes_err a b c x y s t Malformed p sent left = absurd sent
writes_err a b c x y s t StepLimit p sent left = absurd sent
writes_err a b c x y s t NoMemory p sent left = absurd sent

pub writes_all : (a b c d : WriterState) (x y : List (List LinkOut)) (s t : Option (List ℕ)) (size : ℕ) (w : Wrote)
    → Refills a b x y
    → size ≡ length (unwritten b) → Appends s t (unwritten b) → c ≡ record b { bytes = c.bytes; held = c.held }
    → (c.bytes ≡ []) × (c.held ≡ []) → w ≡ record { bytes = size; taken = c.is_taken; closed = c.is_closing }
    → d ≡ record c { is_taken = false; is_closing = false } → Writes (Ok w) a d x y s t
writes_all a b c d x y s t size w p is sent left (empty, none) says after = record {
  taken = p.taken;
  written = unwritten b;
  rest = [];
  takes = p.takes;
  appends = sent;
  whole = sym p.whole ∙ sym (append-nil (unwritten b));
  number = ap (λ (v : WriterState). v.number) after ∙ (ap (λ (v : WriterState). v.number) left ∙ p.number);
  link = ap (λ (v : WriterState). v.link) after ∙ (ap (λ (v : WriterState). v.link) left ∙ p.link);
  stops = p.stops;
  tells = (
    refl,
    ap (λ (v : Wrote). v.bytes) says ∙ is,
    ap (λ (v : Wrote). v.taken) says ∙ (ap (λ (v : WriterState). v.is_taken) left ∙ p.is_taken),
    ap (λ (v : Wrote). v.closed) says ∙ (ap (λ (v : WriterState). v.is_closing) left ∙ p.is_closing),
    ap unwritten after ∙ nothing_left c empty none,
    ap (λ (v : WriterState). v.is_taken) after,
    ap (λ (v : WriterState). v.is_closing) after,
  );
}

-- one write of what was joined
pub writes_once : (a b c : WriterState) (x y : List (List LinkOut)) (s t : Option (List ℕ)) → Refills a b x y
    → HasSent b.bytes c.bytes s t → c ≡ record b { bytes = c.bytes } → WritesOnce a c x y s t
writes_once a b c x y s t p (w, sent, part) left =
    let behind = link_bytes b.link b.held in
    let rest : c.bytes ++ behind ≡ unwritten c = sym (ap unwritten left) in
    record {
      taken = p.taken;
      written = w;
      takes = p.takes;
      appends = sent;
      whole = sym p.whole ∙ (ap (λ (l : List ℕ). l ++ behind) part
          ∙ (append_assoc w c.bytes behind ∙ ap (λ (l : List ℕ). w ++ l) rest));
      number = ap (λ (v : WriterState). v.number) left ∙ p.number;
      link = ap (λ (v : WriterState). v.link) left ∙ p.link;
      is_taken = ap (λ (v : WriterState). v.is_taken) left ∙ p.is_taken;
      is_closing = ap (λ (v : WriterState). v.is_closing) left ∙ p.is_closing;
      stops = p.stops;
    }

-- the limit is another matter
pub writes_limited : (answer : Result Wrote LinkFault) (a b : WriterState) (l m : Limit) (x y : List (List LinkOut))
    (s t : Option (List ℕ))
    → Writes answer (record a { limit = l }) b x y s t → Writes answer a (record b { limit = m }) x y s t
writes_limited answer a b l m x y s t p = record {
  taken = p.taken;
  written = p.written;
  rest = p.rest;
  takes = p.takes;
  appends = p.appends;
  whole = p.whole;
  number = p.number;
  link = p.link;
  stops = p.stops;
  tells = same_tells answer p.tells;
}
  where
    same_tells : (r : Result Wrote LinkFault)
        → Tells r (p.written ++ p.rest) (a.is_taken || not (length p.taken == 0))
        (a.is_closing || do_close a.link p.taken) p.written p.rest b
        → Tells r (p.written ++ p.rest) (a.is_taken || not (length p.taken == 0))
        (a.is_closing || do_close a.link p.taken) p.written p.rest (record b { limit = m })
    same_tells (Ok w) h = h
    same_tells (Err WriteFailed) h = h
    same_tells (Err NoMemory) h = h
    same_tells (Err ReadFailed) h = h
    same_tells (Err Malformed) h = h
    same_tells (Err StepLimit) h = h

-- what is answered where memory ran out
pub is_refused : (r : Result Wrote LinkFault) → IsErrAnd r (λ (fault : LinkFault). fault ≡ NoMemory) → r ≡ Err NoMemory
is_refused (Ok x) h = absurd h
is_refused (Err fault) h = err_of fault NoMemory h
  where
    err_of : (a b : LinkFault) → a ≡ b → ◌≡◌ {A = Result Wrote LinkFault} (Err a) (Err b)
    err_of a b e = cc
