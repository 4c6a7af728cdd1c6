-- Steps of a reader, one after another.
use Rattle.std.proofs.Common.{◌≡◌, ◌≢◌, ℕ, ◌++◌, Bool, true, false, List, [], ◌∷◌, Option, Some, None, Result, Ok, Err}
use Rattle.std.proofs.Common.{refl, sym, ◌∙◌, ap, subst, append_assoc, append-nil}
use Rattle.std.specs.Prelude.{◌==◌, if◌then◌else◌, is_some}
use Rattle.std.proofs.KnownBytes.{Appends-nil, Appends-trans, Consumes-nil, Consumes-trans}
use Rattle.std.specs.Io.KnownBytes.{Consumes}
use Rattle.link_io.specs.Events as law
use Rattle.link_io.specs.declared.link_fault.LinkFault.{LinkFault}
use Rattle.link_io.specs.declared.link_fault.LinkFault.TheVariants.{ReadFailed, WriteFailed, Malformed, StepLimit}
use Rattle.link_io.specs.declared.link_fault.LinkFault.TheVariants.{NoMemory}
use Rattle.link_io.specs.declared.progress.Progress.{Progress}
use Rattle.link_io.specs.declared.progress.Progress.TheVariants.{Ended}
use Rattle.link_io.specs.declared.limit.Limit.{Limit}
use Rattle.link_io.specs.Limits.{end_after, end_by, limit_after, refusal}
use Rattle.link_io.specs.Reading.{Reading, Gave, Reads}
use Rattle.link_io.proofs.Going.{goes_none, goes_again}
use Rattle.gate_workers.specs.Moments.{Tells}
use Rattle.gate_workers.specs.ReadersWork.{EndsWith, HasRead, HasReadAll, ReadsLink}
use Rattle.gate_workers.proofs.Telling.{comes_later, comes_more, comes_none, put_as_reported}

-- a link that goes on is refused a step only where its steps are used up
pub used_up : (limit : Limit) (f : LinkFault) → limit.over ≡ None → refusal limit ≡ Some f → f ≡ StepLimit
used_up limit f none e = by_left (limit.left == 0) (rw none at e)
  where
    by_left : (b : Bool) → (if b then Some StepLimit else None) ≡ Some f → f ≡ StepLimit
    by_left true e = cc
    by_left false e = absurd (cc)

-- the link is over, or memory ran out
pub over-not_memory : (fault : LinkFault) → is_some (end_by fault) ≡ true → fault ≢ NoMemory
over-not_memory NoMemory e = absurd (cc)
over-not_memory ReadFailed e = λ same. cc
over-not_memory WriteFailed e = λ same. cc
over-not_memory Malformed e = λ same. cc
over-not_memory StepLimit e = λ same. cc

pub not_over-memory : (fault : LinkFault) → is_some (end_by fault) ≡ false → fault ≡ NoMemory
not_over-memory NoMemory e = refl
not_over-memory ReadFailed e = absurd (cc)
not_over-memory WriteFailed e = absurd (cc)
not_over-memory Malformed e = absurd (cc)
not_over-memory StepLimit e = absurd (cc)

-- a step that answered something wasn't refused
pub ok-goes_on : {A : Type 0} (limit : Limit) (r : Result A LinkFault) (x : A) → r ≡ Ok x
    → ((f : LinkFault) → refusal limit ≡ Some f → r ≡ Err f) → refusal limit ≡ None
ok-goes_on limit r x e refused = by_refusal (refusal limit) refl
  where
    by_refusal : (z : Option LinkFault) → refusal limit ≡ z → refusal limit ≡ None
    by_refusal None q = q
    by_refusal (Some f) q = absurd (let w = sym e ∙ refused f q in cc)

-- nor was one in which memory ran out
pub memory-goes_on : {A : Type 0} (limit : Limit) (r : Result A LinkFault) → limit.over ≡ None → r ≡ Err NoMemory
    → ((f : LinkFault) → refusal limit ≡ Some f → r ≡ Err f) → refusal limit ≡ None
memory-goes_on limit r none e refused = by_refusal (refusal limit) refl
  where
    by_refusal : (z : Option LinkFault) → refusal limit ≡ z → refusal limit ≡ None
    by_refusal None q = q
    by_refusal (Some f) q = absurd (let w = sym e
        ∙ (refused f q ∙ ap (λ (f : LinkFault). Err f) (used_up limit f none q)) in cc)

-- the link goes on
pub limit-goes_on : {A : Type 0} (limit new : Limit) (r : Result A LinkFault) → end_after r ≡ None
    → refusal limit ≡ None → new ≡ limit_after limit r → new.over ≡ None
limit-goes_on limit new r ends goes e = ap (λ (l : Limit). l.over) e ∙ rw (goes, ends) refl

-- ---- a reader

module _ {D : Type 0} (made : D → List ℕ → List law.Event → Type 0)
    (are_all : D → Bool → List ℕ → List law.Event → Type 0) where
  pub read_none : (a : Reading D) (x : List law.Event) (t l : Option (List ℕ)) → HasRead made a a x x t t l l
  read_none a x t l = record {
    read = [];
    put = [];
    moments = [];
    consumes = Consumes-nil l;
    puts = sym (append-nil x);
    tells = Appends-nil t;
    as_reported = comes_none a.offered;
    goes = goes_none made are_all 0 a;
  }

  pub read_more : (at : ℕ) (answer : Result Progress LinkFault) (a b c : Reading D) (x y z : List law.Event)
      (t u v l m n : Option (List ℕ))
      → HasRead made a b x y t u l m → Tells u v (at ∷ []) → Reads made are_all at answer b c y z m n
      → HasRead made a c x z t v l n
  read_more at answer a b c x y z t u v l m n h now s = record {
    read = h.read ++ s.read;
    put = h.put ++ s.put;
    moments = h.moments ++ at ∷ [];
    consumes = Consumes-trans l m n h.read s.read h.consumes s.consumes;
    puts = s.puts ∙ (ap (λ (w : List law.Event). w ++ s.put) h.puts ∙ append_assoc x h.put s.put);
    tells = Appends-trans t u v h.moments (at ∷ []) h.tells now;
    as_reported = comes_more h.moments at a.offered b.offered c.offered h.put s.put s.first.0 h.as_reported s.first.1
        s.first.2;
    goes = goes_again made are_all at a b c h.read s.read h.put s.put h.goes s.goes;
  }

  -- a wait for bytes reads none
  pub read_awaited : (a b : Reading D) (x y : List law.Event) (t u l m n : Option (List ℕ))
      → HasRead made a b x y t u l m → Consumes m n [] → HasRead made a b x y t u l n
  read_awaited a b x y t u l m n h none = record {
    read = h.read;
    put = h.put;
    moments = h.moments;
    consumes = subst (Consumes l n) (append-nil h.read) (Consumes-trans l m n h.read [] h.consumes none);
    puts = h.puts;
    tells = h.tells;
    as_reported = h.as_reported;
    goes = h.goes;
  }

  -- a step, a turn and maybe a pause
  pub read_step : (at : ℕ) (answer : Result Progress LinkFault) (a b c : Reading D) (x y z w : List law.Event)
      (t u v p l m n : Option (List ℕ))
      → HasRead made a b x y t u l m → Tells u v (at ∷ [])
      → (refusal b.limit ≡ None → Reads made are_all at answer b c y z m n)
      → refusal b.limit ≡ None → w ≡ z → p ≡ v → HasRead made a c x w t p l n
  read_step at answer a b c x y z w t u v p l m n h now reads goes same silent =
      subst (λ (q : Option (List ℕ)). HasRead made a c x w t q l n) (sym silent)
      (subst (λ (q : List law.Event). HasRead made a c x q t v l n) (sym same)
      (read_more at answer a b c x y z t u v l m n h now (reads goes)))

  module _ (IsOf : D → Type 0) where
    -- with the last step, whose reader this is
    pub read_over : (at : ℕ) (answer : Result Progress LinkFault) (end : Result Unit LinkFault) (a b c : Reading D)
        (x y z : List law.Event) (t u v l m n : Option (List ℕ))
        → HasRead made a b x y t u l m → Tells u v (at ∷ []) → (s : Reads made are_all at answer b c y z m n)
        → IsOf c.decoder
        → ((before : List ℕ) (events : List law.Event) → Gave made before events b
        → EndsWith are_all end (before ++ s.read) (events ++ s.put) c.decoder n)
        → HasReadAll made are_all IsOf end a x z t v l n
    read_over at answer end a b c x y z t u v l m n h now s own ends = record {
      read = h.read ++ s.read;
      put = h.put ++ s.put;
      moments = h.moments ++ at ∷ [];
      consumes = Consumes-trans l m n h.read s.read h.consumes s.consumes;
      puts = s.puts ∙ (ap (λ (w : List law.Event). w ++ s.put) h.puts ∙ append_assoc x h.put s.put);
      tells = Appends-trans t u v h.moments (at ∷ []) h.tells now;
      reading = c;
      as_reported = comes_more h.moments at a.offered b.offered c.offered h.put s.put s.first.0 h.as_reported s.first.1
          s.first.2;
      is_of = own;
      goes = goes_again made are_all at a b c h.read s.read h.put s.put h.goes s.goes;
      ends = λ before events gave.
          subst (λ (r : List ℕ). EndsWith are_all end r (events ++ (h.put ++ s.put)) c.decoder n)
          (append_assoc before h.read s.read)
          (subst (λ (p : List law.Event). EndsWith are_all end ((before ++ h.read) ++ s.read) p c.decoder n)
          (append_assoc events h.put s.put)
          (ends (before ++ h.read) (events ++ h.put) (h.goes before events gave)));
    }

    pub read_to_end : (at : ℕ) (a b c : Reading D) (x y z : List law.Event) (t u v l m n : Option (List ℕ))
        → HasRead made a b x y t u l m → Tells u v (at ∷ []) → Reads made are_all at (Ok Ended) b c y z m n
        → IsOf c.decoder
        → HasReadAll made are_all IsOf (Ok tt) a x z t v l n
    read_to_end at a b c x y z t u v l m n h now s own =
        read_over at (Ok Ended) (Ok tt) a b c x y z t u v l m n h now s own (λ before events gave. (
          s.says.1,
          subst (λ (r : List ℕ). are_all c.decoder false (before ++ r) (events ++ s.put)) (sym s.says.0)
              (s.says.2 before events gave),
        ))

    -- at a fault
    pub read_to_fault : (at : ℕ) (fault : LinkFault) (a b c : Reading D) (x y z : List law.Event)
        (t u v l m n : Option (List ℕ))
        → fault ≢ NoMemory → HasRead made a b x y t u l m → Tells u v (at ∷ [])
        → Reads made are_all at (Err fault) b c y z m n → IsOf c.decoder
        → HasReadAll made are_all IsOf (Err fault) a x z t v l n
    read_to_fault at ReadFailed a b c x y z t u v l m n not h now s own =
        read_over at (Err ReadFailed) (Err ReadFailed) a b c x y z t u v l m n h now s own (λ before events gave.
        subst (λ (r : List ℕ). are_all c.decoder false (before ++ r) (events ++ s.put)) (sym s.says.0)
        (s.says.1 before events gave))
    read_to_fault at Malformed a b c x y z t u v l m n not h now s own =
        read_over at (Err Malformed) (Err Malformed) a b c x y z t u v l m n h now s own s.says
    read_to_fault at NoMemory a b c x y z t u v l m n not h now s own = absurd (not refl)
    read_to_fault at WriteFailed a b c x y z t u v l m n not h now s own = absurd s.says
    read_to_fault at StepLimit a b c x y z t u v l m n not h now s own = absurd s.says

    -- the steps are used up
    pub read_to_limit : (at : ℕ) (a b : Reading D) (x y : List law.Event) (t u v l m : Option (List ℕ))
        → HasRead made a b x y t u l m → Tells u v (at ∷ []) → IsOf b.decoder
        → HasReadAll made are_all IsOf (Err StepLimit) a x y t v l m
    read_to_limit at a b x y t u v l m h now own = record {
      read = h.read;
      put = h.put;
      moments = h.moments ++ at ∷ [];
      consumes = h.consumes;
      puts = h.puts;
      tells = Appends-trans t u v h.moments (at ∷ []) h.tells now;
      reading = b;
      as_reported = comes_later h.moments (at ∷ []) a.offered b.offered h.put h.as_reported;
      is_of = own;
      goes = h.goes;
      ends = λ before events gave. tt;
    }

    -- by whichever
    pub read_fault : (at : ℕ) (fault : LinkFault) (a b c : Reading D) (x y z : List law.Event)
        (t u v l m n : Option (List ℕ))
        → fault ≢ NoMemory → b.limit.over ≡ None
        → HasRead made a b x y t u l m → Tells u v (at ∷ [])
        → (refusal b.limit ≡ None → Reads made are_all at (Err fault) b c y z m n)
        → ((f : LinkFault) → refusal b.limit ≡ Some f → (fault ≡ f) × (n ≡ m) × (z ≡ y))
        → IsOf b.decoder → IsOf c.decoder → HasReadAll made are_all IsOf (Err fault) a x z t v l n
    read_fault at fault a b c x y z t u v l m n not none h now reads refused own own_too =
        by_refusal (refusal b.limit) refl
      where
        by_refusal : (r : Option LinkFault) → refusal b.limit ≡ r
            → HasReadAll made are_all IsOf (Err fault) a x z t v l n
        by_refusal None e = read_to_fault at fault a b c x y z t u v l m n not h now (reads e) own_too
        by_refusal (Some f) e =
            let same = refused f e in
            let is_limit : fault ≡ StepLimit = same.0 ∙ used_up b.limit f none e in
            subst (λ (f : LinkFault). HasReadAll made are_all IsOf (Err f) a x z t v l n) (sym is_limit)
            (subst (λ (n : Option (List ℕ)). HasReadAll made are_all IsOf (Err StepLimit) a x z t v l n) (sym same.1)
            (subst (λ (z : List law.Event). HasReadAll made are_all IsOf (Err StepLimit) a x z t v l m) (sym same.2)
            (read_to_limit at a b x y t u v l m h now own)))

  -- said otherwise whose reader it is
  pub read-of : (IsOf IsOther : D → Type 0) (answer : Result Unit LinkFault) (a : Reading D) (x y : List law.Event)
      (t u l m : Option (List ℕ)) → ((d : D) → IsOf d → IsOther d)
      → HasReadAll made are_all IsOf answer a x y t u l m → HasReadAll made are_all IsOther answer a x y t u l m
  read-of IsOf IsOther answer a x y t u l m other h = record {
    read = h.read;
    put = h.put;
    moments = h.moments;
    consumes = h.consumes;
    puts = h.puts;
    tells = h.tells;
    reading = h.reading;
    as_reported = h.as_reported;
    is_of = other h.reading.decoder h.is_of;
    goes = h.goes;
    ends = h.ends;
  }

  -- from the beginning of a link to its end
  pub whole_link : (IsOf : D → Type 0) (up gone : ℕ → law.Event) (answer : Result Unit LinkFault) (began ended : ℕ)
      (a : Reading D) (x y z w : List law.Event) (s t u v p q l m : Option (List ℕ))
      → Gave made [] [] a → a.offered ≡ None → Tells s t (began ∷ []) → y ≡ x ++ up began ∷ [] → u ≡ t
      → HasReadAll made are_all IsOf answer a y z u v l m
      → Tells v p (ended ∷ []) → w ≡ z ++ gone ended ∷ [] → q ≡ p
      → ReadsLink made are_all IsOf up gone answer x w s q l m
  whole_link IsOf up gone answer began ended a x y z w s t u v p q l m fresh none first up_put silent h last
      gone_put silent_too = record {
        read = h.read;
        events = h.put;
        began = began;
        moments = h.moments;
        ended = ended;
        puts = gone_put ∙ ap (λ (v : List law.Event). v ++ gone ended ∷ [])
            (h.puts ∙ (ap (λ (v : List law.Event). v ++ h.put) up_put ∙ append_assoc x (up began ∷ []) h.put));
        tells = subst (λ (o : Option (List ℕ)). Tells s o (began ∷ h.moments ++ ended ∷ [])) (sym silent_too)
            (Appends-trans s t p (began ∷ []) (h.moments ++ ended ∷ []) first
            (Appends-trans t v p h.moments (ended ∷ [])
            (subst (λ (o : Option (List ℕ)). Tells o v h.moments) silent h.tells) last));
        as_reported = put_as_reported h.moments a.offered h.reading.offered h.put none h.as_reported;
        consumes = h.consumes;
        reading = h.reading;
        is_of = h.is_of;
        gave = h.goes [] [] fresh;
        ends = h.ends [] [] fresh;
      }
