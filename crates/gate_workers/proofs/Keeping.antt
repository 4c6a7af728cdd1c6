-- What a shared writer keeps.
use Rattle.std.proofs.Common.{◌≡◌, false, ℕ, ◌+◌, ◌++◌, List, [], ◌∷◌, length, Option, Some, None, Result, refl, sym}
use Rattle.std.proofs.Common.{◌∙◌, ap, subst, append_assoc, append-nil, arith}
use Rattle.std.specs.Prelude.{IfSome, IfNone}
use Rattle.link_io.specs.Events.{LinkOut}
use Rattle.link_io.specs.declared.link_fault.LinkFault.{LinkFault}
use Rattle.gate_workers.specs.declared.writer.WriterEnd.{WriterEnd}
use Rattle.gate_workers.specs.WritersWork.{WritesLink}
use Rattle.std.specs.declared.snapshot.Snapshot.{Snapshot}
use Rattle.link_io.specs.Writing.{unwritten}
use Rattle.gate_workers.specs.declared.link.Link.{Link}
use Rattle.gate_workers.specs.declared.stepped.Stepped.{Stepped}
use Rattle.gate_workers.specs.declared.stepped.Stepped.TheVariants.{Taken, Nothing, Over, NoLink}
use Rattle.std.proofs.Math.Logic.{∥∥₁_map}
use Rattle.gate_workers.specs.SharedWriters.{Ends, IsAllWritten, IsWritten, LinksOver, NothingHeld, WriterKept}
use Rattle.gate_workers.specs.SharedWriters.{SameLink, StepsWriter}
use Rattle.gate_workers.specs.SharedWriters.{WasWritten, WritesSoFar}
use Rattle.gate_workers.proofs.SoFar.{so_far_none}

-- before the first link
pub none_over : (x : List (List LinkOut)) → x ≡ [] → LinksOver 0 x
none_over x e = ([], refl, e)

-- one more
pub over_more : (n over : ℕ) (end : Result WriterEnd LinkFault) (x y : List (List LinkOut)) (l m : Option (List ℕ))
    → n ≡ over + 1 → LinksOver over x → WritesLink n end x y l m → LinksOver n y
over_more n over end x y l m is (ends, count, written) link =
    let number : n ≡ length ends + 1 = is ∙ ap (λ (v : ℕ). v + 1) (sym count) in (
      end ∷ ends,
      (let both = number in omega arith),
      (x, y, written, (l, m, subst (λ (v : ℕ). WritesLink v end x y l m) number link), ([], append-nil y)),
    )

-- a list behind the last one is let go
pub over_let_go : (n : ℕ) (x y : List (List LinkOut)) (outs : List LinkOut) → (n ≡ 0 → ⊥) → y ≡ x ++ outs ∷ []
    → LinksOver n x → LinksOver n y
over_let_go n x y outs some e ([], count, written) = absurd (some (sym count))
over_let_go n x y outs some e (end ∷ ends, count, (between, over, before, link, (rest, prefix))) = (
  end ∷ ends,
  count,
  (
    between,
    over,
    before,
    link,
    (
      rest ++ outs ∷ [],
      sym (append_assoc over rest (outs ∷ []))
          ∙ (ap (λ (l : List (List LinkOut)). l ++ outs ∷ []) prefix ∙ sym e),
    ),
  ),
)

module _ {W G : Type 0} (contents : W → Option (List ℕ)) (was_taken : G → List (List LinkOut)) where
  -- nothing of a link is held
  pub all_written : (links : ℕ) (o : Option (Link W G)) (gate : G) → ∥ WriterKept contents was_taken links o gate ∥₁
      → NothingHeld o → ∥ IsAllWritten contents was_taken ∥₁
  all_written links None gate kept nothing = absurd nothing
  all_written links (Some link) gate kept nothing = ∥∥₁_map kept (λ k. (links, link, gate, k, nothing))

  -- a link is opened
  pub kept_opened : (n m : ℕ) (gate : G) (link : Link W G) → m ≡ n + 1 → link.gate_then.value ≡ gate
      → contents link.stream ≡ contents link.stream_then.value
      → unwritten link.writer ≡ [] → link.writer.link ≡ m → link.writer.is_closing ≡ false
      → link.writer.limit.over ≡ None
      → WriterKept contents was_taken n None gate → WriterKept contents was_taken m (Some link) gate
  kept_opened n m gate link is then same empty of still goes over = (
    n,
    is,
    subst (λ (g : G). LinksOver n (was_taken g)) (sym then) over,
    subst (λ (g : G). WritesSoFar m link.writer (was_taken link.gate_then.value) (was_taken g)
        (contents link.stream_then.value) (contents link.stream)) then
        (subst (λ (s : Option (List ℕ)). WritesSoFar m link.writer (was_taken link.gate_then.value)
        (was_taken link.gate_then.value) (contents link.stream_then.value) s) (sym same)
        (so_far_none m link.writer (was_taken link.gate_then.value)
        (contents link.stream_then.value) empty of still goes)),
  )

  -- the link's writer went on
  pub kept_on : (n : ℕ) (old new : Link W G) (gate gate' : G) → new.gate_then ≡ old.gate_then
      → new.stream_then ≡ old.stream_then
      → ((x : List (List LinkOut)) (l : Option (List ℕ))
      → WritesSoFar n old.writer x (was_taken gate) l (contents old.stream)
      → WritesSoFar n new.writer x (was_taken gate') l (contents new.stream))
      → WriterKept contents was_taken n (Some old) gate → WriterKept contents was_taken n (Some new) gate'
  kept_on n old new gate gate' same_gate same_stream goes (over, is, before, so_far) = (
    over,
    is,
    subst (λ (g : Snapshot G). LinksOver over (was_taken g.value)) (sym same_gate) before,
    subst (λ (g : Snapshot G). WritesSoFar n new.writer (was_taken g.value) (was_taken gate')
        (contents new.stream_then.value) (contents new.stream)) (sym same_gate)
        (subst (λ (s : Snapshot W). WritesSoFar n new.writer (was_taken old.gate_then.value) (was_taken gate')
        (contents s.value) (contents new.stream)) (sym same_stream)
        (goes (was_taken old.gate_then.value) (contents old.stream_then.value) so_far)),
  )

  -- the link is over
  pub kept_over : (n : ℕ) (old : Link W G) (stream : W) (end : Result WriterEnd LinkFault) (gate gate' : G)
      → ((x : List (List LinkOut)) (l : Option (List ℕ))
      → WritesSoFar n old.writer x (was_taken gate) l (contents old.stream)
      → WritesLink n end x (was_taken gate') l (contents stream))
      → WriterKept contents was_taken n (Some old) gate → WriterKept contents was_taken n None gate'
  kept_over n old stream end gate gate' ends (over, is, before, so_far) =
      over_more n over end (was_taken old.gate_then.value) (was_taken gate') (contents old.stream_then.value)
      (contents stream) is before
      (ends (was_taken old.gate_then.value) (contents old.stream_then.value) so_far)

  -- so it was written
  pub kept_written : (n : ℕ) (old : Link W G) (stream : W) (end : Result WriterEnd LinkFault) (gate gate' : G)
      → ((x : List (List LinkOut)) (l : Option (List ℕ))
      → WritesSoFar n old.writer x (was_taken gate) l (contents old.stream)
      → WritesLink n end x (was_taken gate') l (contents stream))
      → WriterKept contents was_taken n (Some old) gate
      → WritesLink n end (was_taken old.gate_then.value) (was_taken gate') (contents old.stream_then.value)
      (contents stream)
  kept_written n old stream end gate gate' ends (over, is, before, so_far) =
      ends (was_taken old.gate_then.value) (contents old.stream_then.value) so_far

  -- nothing was taken
  pub kept_same : (n : ℕ) (link : Option (Link W G)) (gate gate' : G) → was_taken gate' ≡ was_taken gate
      → WriterKept contents was_taken n link gate → WriterKept contents was_taken n link gate'
  kept_same n None gate gate' same over = subst (LinksOver n) (sym same) over
  kept_same n (Some link) gate gate' same (over, is, before, so_far) = (
    over,
    is,
    before,
    subst (λ (t : List (List LinkOut)). WritesSoFar n link.writer (was_taken link.gate_then.value) t
        (contents link.stream_then.value) (contents link.stream)) (sym same) so_far,
  )

  -- what lay there was let go
  pub kept_let_go : {A : Type 0} (n : ℕ) (gate gate' : G) (seen : A → List LinkOut) (r : Option A) → (n ≡ 0 → ⊥)
      → IfSome r (λ a. was_taken gate' ≡ was_taken gate ++ seen a ∷ []) → IfNone r (was_taken gate' ≡ was_taken gate)
      → WriterKept contents was_taken n None gate → WriterKept contents was_taken n None gate'
  kept_let_go n gate gate' seen (Some outs) some taken none over =
      over_let_go n (was_taken gate) (was_taken gate') (seen outs) some taken over
  kept_let_go n gate gate' seen None some taken none over = kept_same n None gate gate' none over

pub same_link : {W G : Type 0} (old : Option (Link W G)) (link new : Link W G) → old ≡ Some link
    → new.gate_then ≡ link.gate_then → new.stream_then ≡ link.stream_then → SameLink old (Some new)
same_link old link new is gate stream = subst (λ (o : Option (Link _ _)). SameLink o (Some new)) (sym is) (gate, stream)

-- what came back of a link that is over
pub was_written : {W G : Type 0} (contents : W → Option (List ℕ)) (was_taken : G → List (List LinkOut)) (n : ℕ)
    (end : Result WriterEnd LinkFault) (stream : W) (old new : Option (Link W G)) (gate : G)
    → Ends contents was_taken n end stream old new gate → ∥ WasWritten contents end stream ∥₁
was_written contents was_taken n end stream None new gate h = absurd h
was_written contents was_taken n end stream (Some old) new gate (gone, written) =
    ∥∥₁_map written (λ w. (n, was_taken old.gate_then.value, was_taken gate, contents old.stream_then.value, w))

pub is_written : {W G : Type 0} (contents : W → Option (List ℕ)) (was_taken : G → List (List LinkOut)) (r : Stepped W)
    (n : ℕ) (old new : Option (Link W G)) (gate : G)
    → StepsWriter contents was_taken r n old new gate → IsWritten contents r
is_written contents was_taken Taken n old new gate h = tt
is_written contents was_taken Nothing n old new gate h = tt
is_written contents was_taken NoLink n old new gate h = tt
is_written contents was_taken (Over end stream) n old new gate h =
    was_written contents was_taken n end stream old new gate h
