-- Steps of a reader, one after another.
use Rattle.std.proofs.Common.{◌≡◌, ℕ, ◌≤◌, ◌<◌, ◌++◌, Bool, true, false, List, [], ◌∷◌, length, Option, Some, None}
use Rattle.std.proofs.Common.{Result}
use Rattle.std.proofs.Common.{Ok, Err, refl, sym, ◌∙◌, ap, subst, append_assoc, append-nil, arith}
use Rattle.std.specs.Result.{IsErrAnd}
use Rattle.std.specs.Io.KnownBytes.{Consumes}
use Rattle.std.proofs.KnownBytes.{Consumes-nil, Consumes-kept}
use Rattle.gate_law.specs.Events as law
use Rattle.link_io.specs.declared.limit.Limit.{Limit}
use Rattle.link_io.specs.declared.link_fault.LinkFault.{LinkFault}
use Rattle.link_io.specs.declared.link_fault.LinkFault.TheVariants.{ReadFailed, WriteFailed, Malformed, StepLimit}
use Rattle.link_io.specs.declared.link_fault.LinkFault.TheVariants.{NoMemory}
use Rattle.link_io.specs.declared.progress.Progress.{Progress}
use Rattle.link_io.specs.declared.progress.Progress.TheVariants.{Read, Ended, Held}
use Rattle.link_io.specs.Reading.{Reading, AreAt, Gave, ComesFirst, Goes, GoesThrough, Offers, offered_list}
use Rattle.link_io.specs.Reading.{FeedsPiece, MakesNext, SaysPut, HasPut, Puts, SaysRead, Reads}
use Rattle.link_decoders.specs.Making.{MadeAll, event_moment}
use Rattle.link_io.specs.Reading.{HasNothing, PutsMade, PutsNothing}
use Rattle.link_io.specs.Reading.{Fills}

-- what a `?` hands on
pub read_err : (r : Result Progress LinkFault) (fault : LinkFault) → IsErrAnd r (λ (e : LinkFault). e ≡ fault)
    → r ≡ Err fault
read_err (Ok x) fault h = absurd h
read_err (Err e) fault h = cc

pub put_err : (r : Result Bool LinkFault) (fault : LinkFault) → IsErrAnd r (λ (e : LinkFault). e ≡ fault)
    → r ≡ Err fault
put_err (Ok x) fault h = absurd h
put_err (Err e) fault h = cc

module _ {D : Type 0} (made : D → List ℕ → List law.Event → Type 0) (are_all : D → Bool → List ℕ → List law.Event → Type 0) (at : ℕ) where
  pub gave_at : (r : Reading D) (x y : List ℕ) (p q : List law.Event) → x ≡ y → p ≡ q → Gave made x p r
      → Gave made y q r
  gave_at r x y p q e f h = subst (λ (z : List ℕ). Gave made z q r) e
      (subst (λ (z : List law.Event). Gave made x z r) f h)

  all_at : (d : D) (over : Bool) (x y : List ℕ) (p q : List law.Event) → x ≡ y → p ≡ q → are_all d over x p
      → are_all d over y q
  all_at d over x y p q e f h = subst (λ (z : List ℕ). are_all d over z q) e
      (subst (λ (z : List law.Event). are_all d over x z) f h)

  pub goes_none : (a : Reading D) → Goes made [] [] a a
  goes_none a before events h = gave_at a before (before ++ []) events (events ++ []) (sym (append-nil before))
      (sym (append-nil events)) h

  pub goes_again : (a b c : Reading D) (r s : List ℕ) (p q : List law.Event) → Goes made r p a b → Goes made s q b c
      → Goes made (r ++ s) (p ++ q) a c
  goes_again a b c r s p q first second before events h =
      gave_at c ((before ++ r) ++ s) (before ++ (r ++ s)) ((events ++ p) ++ q) (events ++ (p ++ q))
      (append_assoc before r s) (append_assoc events p q)
      (second (before ++ r) (events ++ p) (first before events h))

  pub through_again : (a b c : Reading D) (over : Bool) (r s : List ℕ) (p q : List law.Event) → Goes made r p a b
      → GoesThrough made are_all over s q b c
      → GoesThrough made are_all over (r ++ s) (p ++ q) a c
  through_again a b c over r s p q first second before events h =
      all_at c.decoder over ((before ++ r) ++ s) (before ++ (r ++ s)) ((events ++ p) ++ q) (events ++ (p ++ q))
      (append_assoc before r s) (append_assoc events p q)
      (second (before ++ r) (events ++ p) (first before events h))

  -- what was given back is put
  pub goes_offered : (a b : Reading D) → b ≡ record a { offered = None } → Goes made [] (offered_list a.offered) a b
  goes_offered a b e before events (taken, whole, all) =
      subst (λ (r : Reading D). Gave made (before ++ []) (events ++ offered_list a.offered) r) (sym e) (
        taken,
        append-nil before ∙ whole,
        subst (λ (z : List law.Event). made a.decoder taken z)
            (sym (append-nil (events ++ offered_list a.offered))) all,
      )

  -- bytes are read
  pub goes_read : (a : Reading D) (piece : List ℕ) → a.piece ≡ [] → Goes made piece [] a (record a { piece = piece })
  goes_read a piece none before events (taken, whole, all) =
      let b : Reading D = record a { piece = piece } in
      gave_at b (before ++ piece) (before ++ piece) events (events ++ []) refl (sym (append-nil events))
      (taken, ap (λ (z : List ℕ). z ++ piece) (whole ∙ (ap (λ (z : List ℕ). taken ++ z) none ∙ append-nil taken)), all)

  -- ---- putting

  pub put_none : (a : Reading D) (x : List law.Event) → HasPut made at a a x x
  put_none a x = record {
    put = [];
    puts = sym (append-nil x);
    goes = goes_none a;
    first =
        ([], sym (append-nil (offered_list a.offered)), tt);
  }

  goes_more : (a b c : Reading D) (p : List law.Event) → Goes made [] p a b → Goes made [] [] b c → Goes made [] p a c
  goes_more a b c p first second = subst (λ (z : List law.Event). Goes made [] z a c) (append-nil p)
      (goes_again a b c [] [] p [] first second)

  -- the event that is offered stays
  pub put_same : (a b c : Reading D) (x y : List law.Event) → HasPut made at a b x y → Goes made [] [] b c
      → c.offered ≡ b.offered → HasPut made at a c x y
  put_same a b c x y h goes e = record {
    put = h.put;
    puts = h.puts;
    goes = goes_more a b c h.put h.goes goes;
    first = (h.first.0, ap (λ (o : Option law.Event). h.put ++ offered_list o) e ∙ h.first.1, h.first.2);
  }

  are_at_both : (xs ys : List law.Event) → AreAt at xs → AreAt at ys → AreAt at (xs ++ ys)
  are_at_both [] ys a b = b
  are_at_both (x ∷ xs) ys (a, as_well) b = (a, are_at_both xs ys as_well b)

  first_more : (o : Option law.Event) (p : List law.Event) (m other : Option law.Event) → m ≡ None
      → AreAt at (offered_list other) → ComesFirst at o p m → ComesFirst at o p other
  first_more o p m other e now (more, whole, then_at) = (
    more ++ offered_list other,
    ap (λ (l : List law.Event). l ++ offered_list other)
        (sym (ap (λ (n : Option law.Event). p ++ offered_list n) e ∙ append-nil p) ∙ whole)
        ∙ append_assoc (offered_list o) more (offered_list other),
    are_at_both more (offered_list other) then_at now,
  )

  -- nothing was offered
  pub put_made : (a b c : Reading D) (x y : List law.Event) → HasPut made at a b x y → Goes made [] [] b c
      → b.offered ≡ None → AreAt at (offered_list c.offered) → HasPut made at a c x y
  put_made a b c x y h goes none now = record {
    put = h.put;
    puts = h.puts;
    goes = goes_more a b c h.put h.goes goes;
    first = first_more a.offered h.put b.offered c.offered none now h.first;
  }

  pub put_offered : (a b c : Reading D) (x y z : List law.Event) → HasPut made at a b x y → Offers true b c y z
      → HasPut made at a c x z
  put_offered a b c x y z h (is, puts) = record {
    put = h.put ++ offered_list b.offered;
    puts = puts ∙ (ap (λ (l : List law.Event). l ++ offered_list b.offered) h.puts
        ∙ append_assoc x h.put (offered_list b.offered));
    goes = goes_again a b c [] [] h.put (offered_list b.offered) h.goes (goes_offered b c is);
    first = (
      h.first.0,
      ap (λ (r : Reading D). (h.put ++ offered_list b.offered) ++ offered_list r.offered) is
          ∙ (append-nil (h.put ++ offered_list b.offered) ∙ h.first.1),
      h.first.2,
    );
  }

  put_back : (a b c : Reading D) (x y z : List law.Event) → HasPut made at a b x y → Offers false b c y z
      → HasPut made at a c x z
  put_back a b c x y z h (is, puts, some) =
      subst (λ (l : List law.Event). HasPut made at a c x l) (sym puts)
      (subst (λ (r : Reading D). HasPut made at a r x y) (sym is) h)

  puts_of : (answer : Result Bool LinkFault) (a b : Reading D) (x y : List law.Event) (h : HasPut made at a b x y)
      → SaysPut made are_all answer h.put a b → Puts made are_all at answer a b x y
  puts_of answer a b x y h says = record { put = h.put; puts = h.puts; goes = h.goes; first = h.first; says = says }

  pub puts_back : (a b c : Reading D) (x y z : List law.Event) → HasPut made at a b x y → Offers false b c y z
      → Puts made are_all at (Ok false) a c x z
  puts_back a b c x y z h offers = puts_of (Ok false) a c x z (put_back a b c x y z h offers) offers.2

  through_put : (a b c : Reading D) (over : Bool) (p : List law.Event) → Goes made [] p a b
      → GoesThrough made are_all over [] [] b c
      → GoesThrough made are_all over [] p a c
  through_put a b c over p goes through =
      subst (λ (z : List law.Event). GoesThrough made are_all over [] z a c) (append-nil p)
      (through_again a b c over [] [] p [] goes through)

  puts_from : (answer : Result Bool LinkFault) (a b c : Reading D) (x y : List law.Event) (h : HasPut made at a b x y)
      → Goes made [] [] b c
      → b.offered ≡ None → AreAt at (offered_list c.offered) → SaysPut made are_all answer h.put a c
      → Puts made are_all at answer a c x y
  puts_from answer a b c x y h goes none now says = record {
    put = h.put;
    puts = h.puts;
    goes = goes_more a b c h.put h.goes goes;
    first = first_more a.offered h.put b.offered c.offered none now h.first;
    says = says;
  }

  pub puts_err : (to_make : D → ℕ) (fault : LinkFault) (a b c : Reading D) (x y : List law.Event)
      → HasPut made at a b x y → b.offered ≡ None
      → AreAt at (offered_list c.offered) → MakesNext made are_all to_make (Err fault) b c
      → Puts made are_all at (Err fault) a c x y
  puts_err to_make Malformed a b c x y h none now (goes, through) =
      puts_from (Err Malformed) a b c x y h goes none now (through_put a b c true h.put h.goes through)
  puts_err to_make NoMemory a b c x y h none now goes = puts_from (Err NoMemory) a b c x y h goes none now tt
  puts_err to_make ReadFailed a b c x y h none now next = absurd next
  puts_err to_make WriteFailed a b c x y h none now next = absurd next
  puts_err to_make StepLimit a b c x y h none now next = absurd next

  pub puts_all : (to_make : D → ℕ) (a b c : Reading D) (x y : List law.Event) → HasPut made at a b x y
      → b.offered ≡ None
      → AreAt at (offered_list c.offered) → MakesNext made are_all to_make (Ok false) b c
      → Puts made are_all at (Ok true) a c x y
  puts_all to_make a b c x y h none now (goes, piece, offered, through) =
      puts_from (Ok true) a b c x y h goes none now (offered, piece, through_put a b c false h.put h.goes through)

  -- ---- the next event, made and put at once

  -- the event that is made next
  pub made_next : (to_make : D → ℕ) (a : Reading D) (d : D) (e : law.Event) → a.offered ≡ None → a.piece ≡ []
      → ((taken : List ℕ) (events : List law.Event) → made a.decoder taken events → made d taken (events ++ e ∷ []))
      → to_make d < to_make a.decoder
      → MakesNext made are_all to_make (Ok true) a (record a { decoder = d; offered = Some e })
  made_next to_make a d e none fed makes fewer = (goes, fed, fewer)
    where
      goes : Goes made [] [] a (record a { decoder = d; offered = Some e })
      goes before events (taken, whole, all) = (
        taken,
        append-nil before ∙ whole,
        makes taken (events ++ []) (subst (λ (z : List law.Event). made a.decoder taken z)
            (ap (λ (o : Option law.Event). events ++ offered_list o) none) all),
      )

  pub puts_made : (to_make : D → ℕ) (gone : Bool) (old a new : Reading D) (d : D) (e : law.Event) (x y : List law.Event)
      → a ≡ old → old.offered ≡ None → old.piece ≡ []
      → ((taken : List ℕ) (events : List law.Event) → made a.decoder taken events → made d taken (events ++ e ∷ []))
      → to_make d < to_make a.decoder → event_moment e ≡ at
      → Offers gone (record a { decoder = d; offered = Some e }) new x y
      → PutsMade made are_all to_make at gone old new x y
  puts_made to_make gone old a new d e x y is none fed makes fewer moment offers = record {
    between = record a { decoder = d; offered = Some e };
    makes =
        subst (λ (r : Reading D). MakesNext made are_all to_make (Ok true) r
        (record a { decoder = d; offered = Some e })) is
        (made_next to_make a d e (ap (λ (r : Reading D). r.offered) is ∙ none)
        (ap (λ (r : Reading D). r.piece) is ∙ fed)
        makes fewer);
    moment = (moment, tt);
    offers = offers;
  }

  -- all that is there was made
  all_made : (a : Reading D) → a.offered ≡ None → a.piece ≡ [] → MadeAll made are_all false a.decoder a.decoder
      → GoesThrough made are_all false [] [] a a
  all_made a none fed all before events (taken, whole, so_far) =
      all_at a.decoder false taken (before ++ []) (events ++ offered_list a.offered) (events ++ [])
      (sym (append-nil before ∙ (whole ∙ (ap (λ (z : List ℕ). taken ++ z) fed ∙ append-nil taken))))
      (ap (λ (o : Option law.Event). events ++ offered_list o) none)
      (all taken (events ++ offered_list a.offered) so_far).1

  none_at : (o : Option law.Event) → o ≡ None → AreAt at (offered_list o)
  none_at o none = subst (λ (w : Option law.Event). AreAt at (offered_list w)) (sym none) tt

  pub idle_next : (to_make : D → ℕ) (a : Reading D) (x : List law.Event) → a.offered ≡ None → a.piece ≡ []
      → MadeAll made are_all false a.decoder a.decoder → PutsNothing made are_all to_make at (Ok false) a a x x
  idle_next to_make a x none fed all = record {
    makes = (goes_none a, fed, none, all_made a none fed all);
    moment = none_at a.offered none;
    puts = refl;
  }

  pub puts_idle : (to_make : D → ℕ) (a : Reading D) (x : List law.Event) → HasNothing made are_all to_make a
      → Puts made are_all at (Ok true) a a x x
  puts_idle to_make a x (none, fed, all) = record {
    put = [];
    puts = sym (append-nil x);
    goes = goes_none a;
    first = ([], sym (append-nil (offered_list a.offered)), tt);
    says = (none, fed, all_made a none fed all);
  }

  pub put_on : (to_make : D → ℕ) (a b d : Reading D) (x y z : List law.Event) → HasPut made at a b x y
      → b.offered ≡ None → PutsMade made are_all to_make at true b d y z → HasPut made at a d x z
  put_on to_make a b d x y z h none p = put_offered a p.between d x y z
      (put_made a b p.between x y h p.makes.0 none p.moment) p.offers

  pub puts_given_back : (to_make : D → ℕ) (a b d : Reading D) (x y z : List law.Event) → HasPut made at a b x y
      → b.offered ≡ None → PutsMade made are_all to_make at false b d y z → Puts made are_all at (Ok false) a d x z
  puts_given_back to_make a b d x y z h none p = puts_back a p.between d x y z
      (put_made a b p.between x y h p.makes.0 none p.moment) p.offers

  pub puts_nothing : (to_make : D → ℕ) (a b d : Reading D) (x y z : List law.Event) → HasPut made at a b x y
      → b.offered ≡ None → PutsNothing made are_all to_make at (Ok false) b d y z
      → Puts made are_all at (Ok true) a d x z
  puts_nothing to_make a b d x y z h none n = subst (λ (l : List law.Event). Puts made are_all at (Ok true) a d x l)
      (sym n.puts) (puts_all to_make a b d x y h none n.moment n.makes)

  pub puts_fault : (to_make : D → ℕ) (fault : LinkFault) (a b d : Reading D) (x y z : List law.Event)
      → HasPut made at a b x y → b.offered ≡ None → PutsNothing made are_all to_make at (Err fault) b d y z
      → Puts made are_all at (Err fault) a d x z
  puts_fault to_make fault a b d x y z h none n =
      subst (λ (l : List law.Event). Puts made are_all at (Err fault) a d x l) (sym n.puts)
      (puts_err to_make fault a b d x y h none n.moment n.makes)

  -- ---- reading

  -- what was read and put so far, and then what is put
  reads_of : (answer : Result Bool LinkFault) (says_so : Result Progress LinkFault) (a b : Reading D)
      (x y : List law.Event) (s : Option (List ℕ))
      → (p : Puts made are_all at answer a b x y) → SaysRead made are_all says_so [] p.put a b s
      → Reads made are_all at says_so a b x y s s
  reads_of answer says_so a b x y s p says = record {
    read = [];
    put = p.put;
    at_most = omega arith;
    consumes = Consumes-nil s;
    puts = p.puts;
    goes = p.goes;
    first = p.first;
    says = says;
  }

  pub reads_err : (fault : LinkFault) (a b : Reading D) (x y : List law.Event) (s : Option (List ℕ))
      → Puts made are_all at (Err fault) a b x y
      → Reads made are_all at (Err fault) a b x y s s
  reads_err Malformed a b x y s p = reads_of (Err Malformed) (Err Malformed) a b x y s p p.says
  reads_err NoMemory a b x y s p = reads_of (Err NoMemory) (Err NoMemory) a b x y s p tt
  reads_err ReadFailed a b x y s p = absurd p.says
  reads_err WriteFailed a b x y s p = absurd p.says
  reads_err StepLimit a b x y s p = absurd p.says

  pub reads_held : (a b : Reading D) (x y : List law.Event) (s : Option (List ℕ))
      → Puts made are_all at (Ok false) a b x y
      → Reads made are_all at (Ok Held) a b x y s s
  reads_held a b x y s p = reads_of (Ok false) (Ok Held) a b x y s p p.says

  -- the read failed
  failed : (fault : LinkFault) (a b : Reading D) (piece : List ℕ) (x y : List law.Event) (s t : Option (List ℕ))
      → Puts made are_all at (Ok true) a b x y → Fills (Err fault) piece s t
      → Reads made are_all at (Err fault) a (record b { piece = piece }) x y s t
  failed ReadFailed a b piece x y s t p (none, keeps) = record {
    read = [];
    put = p.put;
    at_most = omega arith;
    consumes = Consumes-kept s s t [] (Consumes-nil s) keeps;
    puts = p.puts;
    goes = subst (λ (z : List law.Event). Goes made [] z a (record b { piece = piece })) (append-nil p.put)
        (goes_again a b (record b { piece = piece }) [] [] p.put [] p.goes
        (subst (λ (l : List ℕ). Goes made [] [] b (record b { piece = l })) (sym none) (goes_read b [] p.says.1)));
    first = p.first;
    says = (refl, p.says.2);
  }
  failed WriteFailed a b piece x y s t p fills = absurd fills
  failed Malformed a b piece x y s t p fills = absurd fills
  failed StepLimit a b piece x y s t p fills = absurd fills
  failed NoMemory a b piece x y s t p fills = absurd fills

  pub reads_failed : (fault : LinkFault) (a b c : Reading D) (piece : List ℕ) (x y : List law.Event)
      (s t : Option (List ℕ))
      → Puts made are_all at (Ok true) a b x y → c ≡ record b { piece = piece } → Fills (Err fault) piece s t
      → Reads made are_all at (Err fault) a c x y s t
  reads_failed fault a b c piece x y s t p e fills =
      subst (λ (r : Reading D). Reads made are_all at (Err fault) a r x y s t) (sym e)
      (failed fault a b piece x y s t p fills)

  no_bytes : (l : List ℕ) → length l ≡ 0 → l ≡ []
  no_bytes [] e = refl
  no_bytes (x ∷ l) e = absurd (omega arith)

  -- the stream is at its end
  at_end : (count : ℕ) (a b : Reading D) (piece : List ℕ) (x y : List law.Event) (s t : Option (List ℕ))
      → Puts made are_all at (Ok true) a b x y → Fills (Ok count) piece s t → count ≡ 0
      → Reads made are_all at (Ok Ended) a (record b { piece = piece }) x y s t
  at_end count a b piece x y s t p (consumes, size, most, end) zero =
      let none : piece ≡ [] = no_bytes piece (size ∙ zero) in
      record {
        read = [];
        put = p.put;
        at_most = omega arith;
        consumes = subst (λ (l : List ℕ). Consumes s t l) none consumes;
        puts = p.puts;
        goes = subst (λ (z : List law.Event). Goes made [] z a (record b { piece = piece })) (append-nil p.put)
            (goes_again a b (record b { piece = piece }) [] [] p.put [] p.goes
            (subst (λ (l : List ℕ). Goes made [] [] b (record b { piece = l })) (sym none) (goes_read b [] p.says.1)));
        first = p.first;
        says = (refl, end zero, p.says.2);
      }

  pub reads_end : (count : ℕ) (a b c : Reading D) (piece : List ℕ) (x y : List law.Event) (s t : Option (List ℕ))
      → Puts made are_all at (Ok true) a b x y → c ≡ record b { piece = piece } → Fills (Ok count) piece s t → count ≡ 0
      → Reads made are_all at (Ok Ended) a c x y s t
  reads_end count a b c piece x y s t p e fills zero =
      subst (λ (r : Reading D). Reads made are_all at (Ok Ended) a r x y s t) (sym e)
      (at_end count a b piece x y s t p fills zero)

  first_again : (o : Option law.Event) (p : List law.Event) (m : Option law.Event) (q : List law.Event)
      (n : Option law.Event)
      → ComesFirst at o p m → m ≡ None → ComesFirst at m q n → ComesFirst at o (p ++ q) n
  first_again o p m q n (more, whole, one) none (later, rest, two) =
      let so_far : p ≡ offered_list o ++ more =
      sym (ap (λ (w : Option law.Event). p ++ offered_list w) none ∙ append-nil p) ∙ whole in
      let behind : (q ++ offered_list n) ≡ later = rest ∙ ap (λ (w : Option law.Event). offered_list w ++ later) none in (
        more ++ later,
        append_assoc p q (offered_list n) ∙ (ap (λ (l : List law.Event). p ++ l) behind
            ∙ (ap (λ (l : List law.Event). l ++ later) so_far ∙ append_assoc (offered_list o) more later)),
        are_at_both more later one two,
      )

  -- bytes were read, and events put before and after
  reads_on : (answer : Result Bool LinkFault) (says_so : Result Progress LinkFault) (count : ℕ) (a b d : Reading D)
      (piece : List ℕ) (x y z : List law.Event)
      (s t : Option (List ℕ)) (p : Puts made are_all at (Ok true) a b x y) → Fills (Ok count) piece s t
      → (q : Puts made are_all at answer (record b { piece = piece }) d y z)
      → SaysRead made are_all says_so piece (p.put ++ q.put) a d t → Reads made are_all at says_so a d x z s t
  reads_on answer says_so count a b d piece x y z s t p (consumes, size, most, end) q says = record {
    read = piece;
    put = p.put ++ q.put;
    at_most = omega (arith, size, most);
    consumes = consumes;
    puts = q.puts ∙ (ap (λ (l : List law.Event). l ++ q.put) p.puts ∙ append_assoc x p.put q.put);
    goes = went piece a b d p.put q.put p.goes p.says.1 q.goes;
    first = first_again a.offered p.put b.offered q.put d.offered p.first p.says.0 q.first;
    says = says;
  }
    where
      went : (piece : List ℕ) (a b d : Reading D) (v w : List law.Event) → Goes made [] v a b → b.piece ≡ []
          → Goes made [] w (record b { piece = piece }) d
          → Goes made piece (v ++ w) a d
      went piece a b d v w first none second =
          subst (λ (l : List ℕ). Goes made l (v ++ w) a d) (append-nil piece)
          (goes_again a (record b { piece = piece }) d piece [] v w
          (subst (λ (z : List law.Event). Goes made piece z a (record b { piece = piece })) (append-nil v)
          (goes_again a b (record b { piece = piece }) [] piece v [] first (goes_read b piece none))) second)

  went_through : (over : Bool) (piece : List ℕ) (a b d : Reading D) (v w : List law.Event) → Goes made [] v a b
      → b.piece ≡ []
      → GoesThrough made are_all over [] w (record b { piece = piece }) d
      → GoesThrough made are_all over piece (v ++ w) a d
  went_through over piece a b d v w first none second =
      subst (λ (l : List ℕ). GoesThrough made are_all over l (v ++ w) a d) (append-nil piece)
      (through_again a (record b { piece = piece }) d over piece [] v w
      (subst (λ (z : List law.Event). Goes made piece z a (record b { piece = piece })) (append-nil v)
      (goes_again a b (record b { piece = piece }) [] piece v [] first (goes_read b piece none))) second)

  from_here : (answer : Result Bool LinkFault) (b c d : Reading D) (piece : List ℕ) (y z : List law.Event)
      → c ≡ record b { piece = piece }
      → Puts made are_all at answer c d y z → Puts made are_all at answer (record b { piece = piece }) d y z
  from_here answer b c d piece y z e q = subst (λ (r : Reading D). Puts made are_all at answer r d y z) e q

  pub reads_on_held : (count : ℕ) (a b c d : Reading D) (piece : List ℕ) (x y z : List law.Event)
      (s t : Option (List ℕ))
      → Puts made are_all at (Ok true) a b x y → c ≡ record b { piece = piece } → Fills (Ok count) piece s t
      → Puts made are_all at (Ok false) c d y z
      → Reads made are_all at (Ok Held) a d x z s t
  reads_on_held count a b c d piece x y z s t p e fills q =
      let here = from_here (Ok false) b c d piece y z e q in
      reads_on (Ok false) (Ok Held) count a b d piece x y z s t p fills here here.says

  pub reads_on_all : (count : ℕ) (a b c d : Reading D) (piece : List ℕ) (x y z : List law.Event) (s t : Option (List ℕ))
      → Puts made are_all at (Ok true) a b x y → c ≡ record b { piece = piece } → Fills (Ok count) piece s t → 1 ≤ count
      → Puts made are_all at (Ok true) c d y z
      → Reads made are_all at (Ok (Read count)) a d x z s t
  reads_on_all count a b c d piece x y z s t p e fills some q =
      let here = from_here (Ok true) b c d piece y z e q in
      reads_on (Ok true) (Ok (Read count)) count a b d piece x y z s t p fills here
      (fills.1, some, went_through false piece a b d p.put here.put p.goes p.says.1 here.says.2)

  pub reads_on_err : (fault : LinkFault) (count : ℕ) (a b c d : Reading D) (piece : List ℕ) (x y z : List law.Event)
      (s t : Option (List ℕ))
      → Puts made are_all at (Ok true) a b x y → c ≡ record b { piece = piece } → Fills (Ok count) piece s t
      → Puts made are_all at (Err fault) c d y z
      → Reads made are_all at (Err fault) a d x z s t
  reads_on_err fault count a b c d piece x y z s t p e fills q =
      by_fault fault (from_here (Err fault) b c d piece y z e q)
    where
      by_fault : (f : LinkFault) → Puts made are_all at (Err f) (record b { piece = piece }) d y z
          → Reads made are_all at (Err f) a d x z s t
      by_fault Malformed q = reads_on (Err Malformed) (Err Malformed) count a b d piece x y z s t p fills q
          (went_through true piece a b d p.put q.put p.goes p.says.1 q.says)
      by_fault NoMemory q = reads_on (Err NoMemory) (Err NoMemory) count a b d piece x y z s t p fills q tt
      by_fault ReadFailed q = absurd q.says
      by_fault WriteFailed q = absurd q.says
      by_fault StepLimit q = absurd q.says

  -- the loop begins
  pub loop_start : (a b c : Reading D) (x y : List law.Event) → Offers true a b x y → FeedsPiece made b c
      → HasPut made at a c x y × (c.offered ≡ None)
  loop_start a b c x y offers feeds = (
    put_same a b c x y (put_offered a a b x x y (put_none a x) offers) feeds.goes feeds.offered,
    feeds.offered ∙ ap (λ (r : Reading D). r.offered) offers.0,
  )

  -- the limit is another matter
  pub reads_limited : (answer : Result Progress LinkFault) (a b : Reading D) (l m : Limit) (x y : List law.Event)
      (s t : Option (List ℕ))
      → Reads made are_all at answer (record a { limit = l }) b x y s t
      → Reads made are_all at answer a (record b { limit = m }) x y s t
  reads_limited answer a b l m x y s t p = record {
    read = p.read;
    put = p.put;
    at_most = p.at_most;
    consumes = p.consumes;
    puts = p.puts;
    goes = p.goes;
    first = p.first;
    says = same_says answer p.read p.put p.says;
  }
    where
      same_says : (r : Result Progress LinkFault) (read : List ℕ) (put : List law.Event)
          → SaysRead made are_all r read put (record a { limit = l }) b t
          → SaysRead made are_all r read put a (record b { limit = m }) t
      same_says (Ok (Read count)) read put h = h
      same_says (Ok Ended) read put h = h
      same_says (Ok Held) read put h = h
      same_says (Err ReadFailed) read put h = h
      same_says (Err Malformed) read put h = h
      same_says (Err NoMemory) read put h = h
      same_says (Err WriteFailed) read put h = h
      same_says (Err StepLimit) read put h = h

  pub reads_at : (answer : Result Progress LinkFault) (a begun b end : Reading D) (l m : Limit) (x y : List law.Event)
      (s t : Option (List ℕ))
      → begun ≡ record a { limit = l } → end ≡ record b { limit = m } → Reads made are_all at answer begun b x y s t
      → Reads made are_all at answer a end x y s t
  reads_at answer a begun b end l m x y s t e f p =
      subst (λ (r : Reading D). Reads made are_all at answer a r x y s t) (sym f)
      (reads_limited answer a b l m x y s t (subst (λ (r : Reading D). Reads made are_all at answer r b x y s t) e p))

  pub reads_refused : (r : Result Progress LinkFault) (fault : LinkFault) (a b : Reading D) (x y : List law.Event)
      (s t : Option (List ℕ))
      → r ≡ Err fault → Reads made are_all at (Err fault) a b x y s t → Reads made are_all at r a b x y s t
  reads_refused r fault a b x y s t e p = subst (λ (q : Result Progress LinkFault). Reads made are_all at q a b x y s t)
      (sym e) p
