-- Links that are read and written one after another, and lines from what their halves have done.
use Rattle.std.proofs.Common.{◌≡◌, ⊎_elim, ℕ, ◌+◌, ◌≤◌, Bool, true, false, List, [], ◌∷◌}
use Rattle.std.proofs.Common.{Option, Some, Result, Ok, Err, refl, sym, ap, ◌∙◌, subst, arith}
use Rattle.std.specs.List.{All, AllZip}
use Rattle.std.proofs.lemmas.Bool.{false≢true}
use Rattle.std.proofs.lemmas.List.Elements.{All-head, All-tail}
use Rattle.gate_law.specs.Events.{LinkOut}
use Rattle.gate_workers.specs.link_io.declared.link_fault.LinkFault.{LinkFault}
use Rattle.gate_workers.specs.declared.writer.WriterEnd.{WriterEnd}
use Rattle.gate_serving.specs.declared.halves.Reads.{Reads}
use Rattle.gate_serving.specs.declared.halves.Writes.{Writes}
use Rattle.gate_serving.specs.declared.line.Line.{Line}
use Rattle.gate_serving.specs.declared.line.Worker.{Worker}
use Rattle.gate_serving.specs.declared.opener.LinkEnd.{LinkEnd}
use Rattle.gate_serving.specs.Faults.{end_fault, first_fault}
use Rattle.gate_serving.specs.Halves.{IsJoined, IsSplit, ReadsDid, WritesDid}
use Rattle.gate_events.specs.declared.source.Recipient.{Recipient}
use Rattle.gate_serving.specs.Lines.{LineRead, LineServed, LineWrittenBy, LinksRead, MayBeDone, ReaderLog, count_opened}
use Rattle.gate_serving.specs.Lines.{line_fault, reads_of}
use Rattle.gate_workers.specs.WritersWork.{OfAStream}

-- ---- links that are read

pub record ReadSoFar
    (reads : ℕ → Result Unit LinkFault → ReaderLog → ReaderLog → Option (List ℕ) → Option (List ℕ) → Type 0)
    (link opened_old opened_new : ℕ) (fault_old fault_new : Option LinkFault) (old new : ReaderLog) : Type 0 where
  pub tries : List (Result LinkEnd LinkFault)
  pub puts : LinksRead reads tries old new
  pub fault : fault_new ≡ line_fault fault_old tries
  pub opened : opened_new ≡ opened_old + count_opened tries
  pub numbers : link ≡ count_opened tries

module _ (reads : ℕ → Result Unit LinkFault → ReaderLog → ReaderLog → Option (List ℕ) → Option (List ℕ) → Type 0) where
  pub none_yet : (o : ℕ) (f : Option LinkFault) (x : ReaderLog) → ReadSoFar reads 0 o o f f x x
  none_yet o f x = record { tries = []; puts = refl; fault = refl; opened = omega arith; numbers = refl }

  -- a link that was read
  pub one_more : (link o p q : ℕ) (f g h : Option LinkFault) (end : LinkEnd) (x y z : ReaderLog)
      → ReadSoFar reads link o p f g x y → q ≡ p + 1 → end.link ≡ link + 1
      → h ≡ first_fault g (end_fault end.reader end.writer)
      → OfAStream (reads (link + 1) end.reader y z) → ReadSoFar reads (link + 1) o q f h x z
  one_more link o p q f g h end x y z s more numbered fault one = record {
    tries = Ok end ∷ s.tries;
    puts = (
      y,
      s.puts,
      numbered ∙ ap (λ (n : ℕ). n + 1) s.numbers,
      subst (λ (n : ℕ). OfAStream (reads (n + 1) end.reader y z)) s.numbers one,
    );
    fault = fault
        ∙ ap (λ (v : Option LinkFault). first_fault v (end_fault end.reader end.writer)) s.fault;
    opened = omega (arith, more, s.opened);
    numbers = omega (arith, s.numbers);
  }

  -- a try that opened nothing
  pub as_many : (link o p q : ℕ) (f g h : Option LinkFault) (found : LinkFault) (x y : ReaderLog)
      → ReadSoFar reads link o p f g x y → q ≡ p → h ≡ first_fault g (Some found)
      → ReadSoFar reads link o q f h x y
  as_many link o p q f g h found x y s same fault = record {
    tries = Err found ∷ s.tries;
    puts = s.puts;
    fault = fault ∙ ap (λ (v : Option LinkFault). first_fault v (Some found)) s.fault;
    opened = same ∙ s.opened;
    numbers = s.numbers;
  }

  pub all_read : (HasEnded : Type 0) (link o p q : ℕ) (f g : Option LinkFault) (x y : ReaderLog)
      → ReadSoFar reads link o p f g x y → q ≡ p
      → HasEnded → LineRead reads true HasEnded o q f g x y
  all_read HasEnded link o p q f g x y s same ended = record {
    tries = s.tries;
    puts = s.puts;
    fault = s.fault;
    opened = omega (arith, s.opened, same);
    whole = λ e. (same ∙ s.opened, ended);
  }

  -- the last link that was opened may be one that nobody read
  pub read_in_part : (HasEnded : Type 0) (link o p q : ℕ) (f g h : Option LinkFault) (x y z : ReaderLog)
      → ReadSoFar reads link o p f g x y → p ≤ q → h ≡ g
      → z ≡ y → LineRead reads false HasEnded o q f h x z
  read_in_part HasEnded link o p q f g h x y z s some fault same = record {
    tries = s.tries;
    puts = subst (λ (v : ReaderLog). LinksRead reads s.tries x v) (sym same) s.puts;
    fault = fault ∙ s.fault;
    opened = omega (arith, s.opened, some);
    whole = λ e. absurd (false≢true e);
  }

  pub none_read : (all_over : Bool) (HasEnded : Type 0) (o : ℕ) (f : Option LinkFault) (x : ReaderLog)
      → all_over ≡ false
      → LineRead reads all_over HasEnded o o f f x x
  none_read all_over HasEnded o f x fresh = record {
    tries = [];
    puts = refl;
    fault = refl;
    opened = omega arith;
    whole = λ e. absurd (false≢true (sym fresh ∙ e));
  }

-- ---- links that are written

module _ {B : Type 0} (has_ended : Result WriterEnd LinkFault → Type 0) where
  pub none_written : (x : B) → LineWrittenBy has_ended x x
  none_written x = ([], refl)

  pub one_written : (end : Result WriterEnd LinkFault) (x y z : B) → LineWrittenBy has_ended x y → has_ended end
      → LineWrittenBy has_ended x z
  one_written end x y z h one = (end ∷ h.0, (y, h.1, one))

-- ---- a line and its halves

module _ {O G C P W K : Type 0} (has_ended : O → Type 0) (opened : O → ℕ) (log : Worker G C → ReaderLog) (was_taken : G → List (List LinkOut)) where
  -- a half that is as it was has read no link
  pub reads_did : (old new : Reads O (Worker G C) P W K) → old.all_over ≡ false
      → MayBeDone (ReadsDid has_ended opened log was_taken) old new
      → ReadsDid has_ended opened log was_taken old new
  reads_did old new fresh may = ⊎_elim
      (λ (same : new ≡ old). subst (λ (n : Reads O (Worker G C) P W K). ReadsDid has_ended opened log was_taken old n)
      (sym same) (
        refl,
        refl,
        none_read (reads_of old.peer) old.all_over (has_ended old.opener) (opened old.opener) old.fault
            (log old.worker) fresh,
        refl,
      ))
      (λ (did : ReadsDid has_ended opened log was_taken old new). did)
      may

module _ {B W K : Type 0} (writer_ended : Result WriterEnd LinkFault → Type 0) where
  pub writes_did : (old new : Writes B W K) → MayBeDone (WritesDid writer_ended) old new
      → WritesDid writer_ended old new
  writes_did old new may = ⊎_elim
      (λ (same : new ≡ old). subst (λ (n : Writes B W K). WritesDid writer_ended old n) (sym same) ([], refl))
      (λ (did : WritesDid writer_ended old new). did)
      may

-- ---- the same of what is equal

module _ {O G C : Type 0} (has_ended : O → Type 0) (opened : O → ℕ) (log : Worker G C → ReaderLog) where
  pub read_as : (over : Bool) (p q : Recipient) (o a e b : O) (f g h k : Option LinkFault) (w x v y : Worker G C)
      → p ≡ q → o ≡ a → b ≡ e → f ≡ g → k ≡ h → w ≡ x → y ≡ v
      → LineRead (reads_of p) over (has_ended e) (opened o) (opened e) f h (log w) (log v)
      → LineRead (reads_of q) over (has_ended b) (opened a) (opened b) g k (log x) (log y)
  read_as over p q o a e b f g h k w x v y pq oa be fg kh wx yv r =
      subst (λ (z : Worker G C). LineRead (reads_of q) over (has_ended b) (opened a) (opened b) g k (log x) (log z))
      (sym yv)
      (subst (λ (z : Worker G C). LineRead (reads_of q) over (has_ended b) (opened a) (opened b) g k (log z) (log v)) wx
      (subst (λ (z : Option LinkFault). LineRead (reads_of q) over (has_ended b) (opened a) (opened b) g z (log w)
      (log v)) (sym kh)
      (subst (λ (z : Option LinkFault). LineRead (reads_of q) over (has_ended b) (opened a) (opened b) z h (log w)
      (log v)) fg
      (subst (λ (z : O). LineRead (reads_of q) over (has_ended z) (opened a) (opened z) f h (log w) (log v)) (sym be)
      (subst (λ (z : O). LineRead (reads_of q) over (has_ended e) (opened z) (opened e) f h (log w) (log v)) oa
      (subst (λ (z : Recipient). LineRead (reads_of z) over (has_ended e) (opened o) (opened e) f h (log w) (log v))
      pq r))))))

module _ {B : Type 0} (writer_ended : Result WriterEnd LinkFault → Type 0) where
  pub written_as : (w x v y : B) → w ≡ x → y ≡ v → LineWrittenBy writer_ended w v → LineWrittenBy writer_ended x y
  written_as w x v y wx yv h =
      subst (λ (z : B). LineWrittenBy writer_ended x z) (sym yv)
      (subst (λ (z : B). LineWrittenBy writer_ended z v) wx h)

-- not all links may be over
pub in_part : (reads : ℕ → Result Unit LinkFault → ReaderLog → ReaderLog → Option (List ℕ) → Option (List ℕ) → Type 0)
    (over : Bool) (HasEnded : Type 0) (o p : ℕ) (f g : Option LinkFault) (x y : ReaderLog)
    → LineRead reads over HasEnded o p f g x y → LineRead reads false HasEnded o p f g x y
in_part reads over HasEnded o p f g x y h = record {
  tries = h.tries;
  puts = h.puts;
  fault = h.fault;
  opened = h.opened;
  whole = λ e. absurd (false≢true e);
}

module _ {O G C B P W K : Type 0} (has_ended : O → Type 0) (opened : O → ℕ) (log : Worker G C → ReaderLog) (g_taken : G → List (List LinkOut)) (writer_ended : Result WriterEnd LinkFault → Type 0) where
  -- what both halves of a line may have done
  abbrev pub HalvesDid : (b c : Reads O (Worker G C) P W K × Writes B W K) → Type 0
  HalvesDid b c = MayBeDone (ReadsDid has_ended opened log g_taken) b.0 c.0
      × MayBeDone (WritesDid writer_ended) b.1 c.1

  served_as : (over : Bool) (a : Line O (Worker G C) B) (b c : Reads O (Worker G C) P W K × Writes B W K)
      (d : Line O (Worker G C) B) → IsSplit a b → HalvesDid b c → IsJoined c d
      → (LineRead (reads_of a.peer) c.0.all_over (has_ended d.opener) (opened a.opener)
      (opened d.opener) a.fault d.fault
      (log a.reader) (log d.reader)
      → LineRead (reads_of a.peer) over (has_ended d.opener) (opened a.opener) (opened d.opener) a.fault d.fault
      (log a.reader) (log d.reader))
      → LineServed has_ended opened log g_taken writer_ended over a d
  served_as over a b c d split did joined so =
      let read = reads_did has_ended opened log g_taken b.0 c.0 split.4 did.0 in
      let did_write = writes_did writer_ended b.1 c.1 did.1 in
      record {
        peer = joined.0 ∙ (read.0 ∙ split.0);
        steps = joined.1 ∙ (read.1 ∙ split.1);
        read = so (read_as has_ended opened log c.0.all_over b.0.peer a.peer b.0.opener a.opener c.0.opener d.opener
            b.0.fault a.fault c.0.fault d.fault b.0.worker a.reader c.0.worker d.reader split.0 split.2 joined.2
            split.6 joined.5 split.3 joined.3 read.2);
        written = written_as writer_ended b.1.worker a.writer c.1.worker d.writer split.5 joined.4 did_write;
        none_taken = ap (λ (z : Worker G C). g_taken z.gate) joined.3
            ∙ (read.3 ∙ ap (λ (z : Worker G C). g_taken z.gate) split.3);
      }

  pub served_whole : (a : Line O (Worker G C) B) (b c : Reads O (Worker G C) P W K × Writes B W K)
      (d : Line O (Worker G C) B) → IsSplit a b → HalvesDid b c → c.0.all_over ≡ true → IsJoined c d
      → LineServed has_ended opened log g_taken writer_ended true a d
  served_whole a b c d split did over joined = served_as true a b c d split did joined
      (λ h. subst (λ (z : Bool). LineRead (reads_of a.peer) z (has_ended d.opener) (opened a.opener) (opened d.opener)
      a.fault d.fault (log a.reader) (log d.reader)) over h)

  pub served_in_part : (a : Line O (Worker G C) B) (b c : Reads O (Worker G C) P W K × Writes B W K)
      (d : Line O (Worker G C) B) → IsSplit a b → HalvesDid b c → Unit {0} → IsJoined c d
      → LineServed has_ended opened log g_taken writer_ended false a d
  served_in_part a b c d split did none joined = served_as false a b c d split did joined
      (λ h. in_part (reads_of a.peer) c.0.all_over (has_ended d.opener) (opened a.opener) (opened d.opener) a.fault
      d.fault (log a.reader) (log d.reader) h)

-- ---- lists, place by place

module _ {A B C D : Type 0} (R : A → B → Type 0) (S : B → C → Type 0) (Q : C → D → Type 0) (P : C → Type 0) (T : A → D → Type 0) (step : (a : A) (b : B) (c : C) (d : D) → R a b → S b c → P c → Q c d → T a d) where
  pub all_through : (ws : List A) (xs : List B) (ys : List C) (zs : List D) → AllZip R ws xs → AllZip S xs ys → All P ys
      → AllZip Q ys zs → AllZip T ws zs
  all_through [] [] [] [] r s p q = tt
  all_through [] [] [] (d ∷ zs) r s p q = absurd q
  all_through [] [] (c ∷ ys) zs r s p q = absurd s
  all_through [] (b ∷ xs) ys zs r s p q = absurd r
  all_through (a ∷ ws) [] ys zs r s p q = absurd r
  all_through (a ∷ ws) (b ∷ xs) [] zs r s p q = absurd s
  all_through (a ∷ ws) (b ∷ xs) (c ∷ ys) [] r s p q = absurd q
  all_through (a ∷ ws) (b ∷ xs) (c ∷ ys) (d ∷ zs) (r, rs) (s, ss) p (q, qs) =
      (step a b c d r s (All-head P c ys p) q, all_through ws xs ys zs rs ss (All-tail P c ys p) qs)

pub all_of_any : {A : Type 0} (ws : List A) → All (λ (a : A). Unit {0}) ws
all_of_any ws k d few = tt
