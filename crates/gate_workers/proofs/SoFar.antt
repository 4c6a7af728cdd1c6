-- A link that is written, step by step, whoever makes them.
use Rattle.std.proofs.Common.{◌≡◌, ℕ, ◌++◌, Bool, true, false, List, [], Option, Some, None, Result, Ok, Err, refl, sym}
use Rattle.std.proofs.Common.{◌∙◌, ap, subst, append_assoc, append-nil}
use Rattle.std.specs.Prelude.{◌||◌, ◌&&◌, ◌==◌, not, if◌then◌else◌}
use Rattle.std.proofs.KnownBytes.{Appends-nil, Appends-trans}
use Rattle.std.proofs.lemmas.Grind.{flat_map-append}
use Rattle.std.proofs.lemmas.List.Folds.{list_any-append}
use Rattle.link_io.specs.Events.{LinkOut}
use Rattle.gate_events.specs.Closing.{is_link_closed}
use Rattle.link_io.specs.declared.limit.Limit.{Limit}
use Rattle.link_io.specs.declared.link_fault.LinkFault.{LinkFault}
use Rattle.link_io.specs.declared.link_fault.LinkFault.TheVariants.{ReadFailed, WriteFailed, Malformed, StepLimit}
use Rattle.link_io.specs.declared.link_fault.LinkFault.TheVariants.{NoMemory}
use Rattle.link_io.specs.declared.writer.Wrote.{Wrote}
use Rattle.link_io.specs.Limits.{end_after, limit_after, refusal}
use Rattle.link_io.specs.Writing.{WriterState, Writes, WritesOnce, do_close, link_bytes, lists_bytes, unwritten}
use Rattle.gate_workers.specs.declared.writer.WriterEnd.{WriterEnd}
use Rattle.gate_workers.specs.declared.writer.WriterEnd.TheVariants.{Closed, Stopped}
use Rattle.gate_workers.specs.WritersWork.{TellsEnd, WritesLink}
use Rattle.gate_workers.specs.Steps.{step_end}
use Rattle.gate_workers.specs.SharedWriters.{WritesSoFar}
use Rattle.gate_workers.proofs.Run.{limit-goes_on, used_up}

-- nothing yet
pub so_far_none : (n : ℕ) (a : WriterState) (x : List (List LinkOut)) (l : Option (List ℕ)) → unwritten a ≡ []
    → a.link ≡ n → a.is_closing ≡ false → a.limit.over ≡ None
    → WritesSoFar n a x x l l
so_far_none n a x l empty link still goes = record {
  taken = [];
  written = [];
  takes = sym (append-nil x);
  appends = Appends-nil l;
  whole = sym empty;
  of_link = link;
  is_closing = still;
  goes_on = goes;
}

-- what was taken and written before, and what a step took and wrote
both-whole : (n : ℕ) (t s : List (List LinkOut)) (w v u r : List ℕ) → lists_bytes n t ≡ w ++ u
    → u ++ lists_bytes n s ≡ v ++ r → lists_bytes n (t ++ s) ≡ (w ++ v) ++ r
both-whole n t s w v u r first second =
    flat_map-append (link_bytes n) t s
    ∙ (ap (λ (bs : List ℕ). bs ++ lists_bytes n s) first
    ∙ (append_assoc w u (lists_bytes n s) ∙ (ap (λ (bs : List ℕ). w ++ bs) second ∙ sym (append_assoc w v r))))

both-close : (n link : ℕ) (closing : Bool) (t s : List (List LinkOut)) → link ≡ n → closing ≡ do_close n t
    → (closing || do_close link s) ≡ do_close n (t ++ s)
both-close n link closing t s is before =
    ap (λ (k : ℕ). closing || do_close k s) is
    ∙ (ap (λ (w : Bool). w || do_close n s) before ∙ sym (list_any-append (is_link_closed (Some n)) t s))

both-takes : (x y z t s : List (List LinkOut)) → y ≡ x ++ t → z ≡ y ++ s → z ≡ x ++ (t ++ s)
both-takes x y z t s first second = second ∙ (ap (λ (w : List (List LinkOut)). w ++ s) first ∙ append_assoc x t s)

-- one write
pub so_far_once : (n : ℕ) (a b : WriterState) (x y z : List (List LinkOut)) (l m k : Option (List ℕ))
    → WritesSoFar n a x y l m → WritesOnce a b y z m k → b.limit ≡ a.limit
    → WritesSoFar n b x z l k
so_far_once n a b x y z l m k h s limit = record {
  taken = h.taken ++ s.taken;
  written = h.written ++ s.written;
  takes = both-takes x y z h.taken s.taken h.takes s.takes;
  appends = Appends-trans l m k h.written s.written h.appends s.appends;
  whole = both-whole n h.taken s.taken h.written s.written (unwritten a) (unwritten b) h.whole
      (subst (λ (j : ℕ). unwritten a ++ lists_bytes j s.taken ≡ s.written ++ unwritten b) h.of_link s.whole);
  of_link = s.link ∙ h.of_link;
  is_closing = s.is_closing ∙ both-close n a.link a.is_closing h.taken s.taken h.of_link h.is_closing;
  goes_on = ap (λ (v : Limit). v.over) limit ∙ h.goes_on;
}

-- one write, or none of a link that is over
pub so_far_tried : (n : ℕ) (a b : WriterState) (x y z : List (List LinkOut)) (l m k : Option (List ℕ))
    → WritesSoFar n a x y l m
    → (refusal a.limit ≡ None → WritesOnce a b y z m k)
    → ((f : LinkFault) → refusal a.limit ≡ Some f → (b ≡ a) × (k ≡ m) × (z ≡ y)) → b.limit ≡ a.limit
    → WritesSoFar n b x z l k
so_far_tried n a b x y z l m k h writes refused limit = by_refusal (refusal a.limit) refl
  where
    by_refusal : (r : Option LinkFault) → refusal a.limit ≡ r → WritesSoFar n b x z l k
    by_refusal None e = so_far_once n a b x y z l m k h (writes e) limit
    by_refusal (Some f) e =
        let same = refused f e in
        subst (λ (b : WriterState). WritesSoFar n b x z l k) (sym same.0)
        (subst (λ (k : Option (List ℕ)). WritesSoFar n a x z l k) (sym same.1)
        (subst (λ (z : List (List LinkOut)). WritesSoFar n a x z l m) (sym same.2) h))

-- ---- a step of the writer

still_open : (w : Wrote) (stop : Bool) → step_end (Ok w) stop ≡ None → w.closed ≡ false
still_open w stop e = by_closed w.closed refl
  where
    by_closed : (b : Bool) → w.closed ≡ b → w.closed ≡ false
    by_closed true q = absurd (let wrong = rw q at e in cc)
    by_closed false q = q

module _ (n : ℕ) (a b : WriterState) (x y z : List (List LinkOut)) (l m k : Option (List ℕ))
    (h : WritesSoFar n a x y l m) where
  module _ (r : Result Wrote LinkFault) (s : Writes r a b y z m k) where
    whole : lists_bytes n (h.taken ++ s.taken) ≡ (h.written ++ s.written) ++ s.rest
    whole = both-whole n h.taken s.taken h.written s.written (unwritten a) s.rest h.whole
        (subst (λ (j : ℕ). unwritten a ++ lists_bytes j s.taken ≡ s.written ++ s.rest) h.of_link s.whole)

    closes : (a.is_closing || do_close a.link s.taken) ≡ do_close n (h.taken ++ s.taken)
    closes = both-close n a.link a.is_closing h.taken s.taken h.of_link h.is_closing

    on_with : s.rest ≡ unwritten b → b.is_closing ≡ do_close n (h.taken ++ s.taken) → b.limit.over ≡ None
        → WritesSoFar n b x z l k
    on_with left closing goes = record {
      taken = h.taken ++ s.taken;
      written = h.written ++ s.written;
      takes = both-takes x y z h.taken s.taken h.takes s.takes;
      appends = Appends-trans l m k h.written s.written h.appends s.appends;
      whole = whole ∙ ap (λ (v : List ℕ). (h.written ++ s.written) ++ v) left;
      of_link = s.link ∙ h.of_link;
      is_closing = closing;
      goes_on = goes;
    }

    over_with : (e : Result WriterEnd LinkFault) → TellsEnd e (do_close n (h.taken ++ s.taken)) s.rest
        → WritesLink n e x z l k
    over_with e tells = record {
      taken = h.taken ++ s.taken;
      written = h.written ++ s.written;
      rest = s.rest;
      takes = both-takes x y z h.taken s.taken h.takes s.takes;
      appends = Appends-trans l m k h.written s.written h.appends s.appends;
      whole = whole;
      tells = tells;
    }

  -- goes on
  wrote_on : (r : Result Wrote LinkFault) (stop : Bool) → step_end r stop ≡ None → Writes r a b y z m k
      → b.limit ≡ limit_after a.limit r → refusal a.limit ≡ None → WritesSoFar n b x z l k
  wrote_on (Ok w) stop e s limit goes =
      let (none, bytes, taken, closed, empty, untold, unclosed) = s.tells in
      on_with (Ok w) s (none ∙ sym empty) (unclosed ∙ (sym (still_open w stop e) ∙ (closed ∙ closes (Ok w) s)))
      (limit-goes_on {A = Wrote} a.limit b.limit (Ok w) refl goes limit)
  wrote_on (Err NoMemory) stop e s limit goes =
      let (none, left, taken, closing) = s.tells in
      on_with (Err NoMemory) s (sym (left ∙ ap (λ (w : List ℕ). w ++ s.rest) none)) (closing ∙ closes (Err NoMemory) s)
      (limit-goes_on {A = Wrote} a.limit b.limit (Err NoMemory) refl goes limit)
  wrote_on (Err WriteFailed) stop e s limit goes = absurd (let wrong = e in cc)
  wrote_on (Err ReadFailed) stop e s limit goes = absurd s.tells
  wrote_on (Err Malformed) stop e s limit goes = absurd s.tells
  wrote_on (Err StepLimit) stop e s limit goes = absurd s.tells

  -- is over
  wrote_over : (r : Result Wrote LinkFault) (stop : Bool) (end : Result WriterEnd LinkFault)
      → step_end r stop ≡ Some end → Writes r a b y z m k → WritesLink n end x z l k
  wrote_over (Ok w) stop end e s = by_closed w.closed refl
    where
      all-written : (is : WriterEnd) → TellsEnd (Ok is) w.closed [] → WritesLink n (Ok is) x z l k
      all-written is tells =
          let (none, bytes, taken, closed, empty, untold, unclosed) = s.tells in
          over_with (Ok w) s (Ok is) (subst (λ (v : List ℕ). TellsEnd (Ok is) (do_close n (h.taken ++ s.taken)) v)
          (sym none)
          (subst (λ (v : Bool). TellsEnd (Ok is) v []) (closed ∙ closes (Ok w) s) tells))

      by_stopped : (v : Bool) → (stop && not w.taken) ≡ v → w.closed ≡ false → WritesLink n end x z l k
      by_stopped true q p =
          let is : Ok Stopped ≡ end = (let same = rw (p, q) at e in cc) in
          subst (λ (v : Result WriterEnd LinkFault). WritesLink n v x z l k) is (all-written Stopped (p, refl))
      by_stopped false q p = absurd (let wrong = rw (p, q) at e in cc)

      by_closed : (v : Bool) → w.closed ≡ v → WritesLink n end x z l k
      by_closed true p =
          let is : Ok Closed ≡ end = (let same = rw p at e in cc) in
          subst (λ (v : Result WriterEnd LinkFault). WritesLink n v x z l k) is (all-written Closed (p, refl))
      by_closed false p = by_stopped (stop && not w.taken) refl p
  wrote_over (Err WriteFailed) stop end e s =
      let is : Err WriteFailed ≡ end = cc in
      subst (λ (v : Result WriterEnd LinkFault). WritesLink n v x z l k) is
      (over_with (Err WriteFailed) s (Err WriteFailed) s.tells)
  wrote_over (Err NoMemory) stop end e s = absurd (let wrong = e in cc)
  wrote_over (Err ReadFailed) stop end e s = absurd s.tells
  wrote_over (Err Malformed) stop end e s = absurd s.tells
  wrote_over (Err StepLimit) stop end e s = absurd s.tells

  limited : WritesLink n (Err StepLimit) x y l m
  limited = record {
    taken = h.taken;
    written = h.written;
    rest = unwritten a;
    takes = h.takes;
    appends = h.appends;
    whole = h.whole;
    tells = tt;
  }

  module _ (r : Result Wrote LinkFault) (stop : Bool) (writes : refusal a.limit ≡ None → Writes r a b y z m k)
      (refused : (f : LinkFault) → refusal a.limit ≡ Some f → (r ≡ Err f) × (k ≡ m) × (z ≡ y)) where
    pub stepped_on : step_end r stop ≡ None → b.limit ≡ limit_after a.limit r → WritesSoFar n b x z l k
    stepped_on e limit = by_refusal (refusal a.limit) refl
      where
        by_refusal : (v : Option LinkFault) → refusal a.limit ≡ v → WritesSoFar n b x z l k
        by_refusal None q = wrote_on r stop e (writes q) limit q
        by_refusal (Some f) q =
            let is : r ≡ Err StepLimit = (refused f q).0 ∙ ap (λ (v : LinkFault). Err v) (used_up a.limit f h.goes_on q)
            in
            absurd (let wrong = rw is at e in cc)

    pub stepped_over : (end : Result WriterEnd LinkFault) → step_end r stop ≡ Some end → WritesLink n end x z l k
    stepped_over end e = by_refusal (refusal a.limit) refl
      where
        by_refusal : (v : Option LinkFault) → refusal a.limit ≡ v → WritesLink n end x z l k
        by_refusal None q = wrote_over r stop end e (writes q)
        by_refusal (Some f) q =
            let same = refused f q in
            let is : r ≡ Err StepLimit = same.0 ∙ ap (λ (v : LinkFault). Err v) (used_up a.limit f h.goes_on q) in
            let ends : Err StepLimit ≡ end = (let reported = rw is at e in cc) in
            subst (λ (v : Result WriterEnd LinkFault). WritesLink n v x z l k) ends
            (subst (λ (v : Option (List ℕ)). WritesLink n (Err StepLimit) x z l v) (sym same.1)
            (subst (λ (v : List (List LinkOut)). WritesLink n (Err StepLimit) x v l m) (sym same.2) limited))

-- what isn't some is none
pub none_of : {A : Type 0} (o : Option A) → ((x : A) → o ≡ Some x → ⊥) → o ≡ None
none_of (Some x) not = absurd (not x refl)
none_of None not = refl
