-- A pass over the turns of a history: what is known of those so far holds of all in the end.
use Rattle.std.proofs.Common.{◌≡◌, List, [], ◌∷◌, ◌++◌, refl, sym, ap, subst, ◌∙◌, reverse, append_assoc}
use Rattle.gate_law.specs.Events as law
use Rattle.gate_law.specs.Events.{History}
use Rattle.gate_events.specs.declared.event.Event.{Event}
use Rattle.gate_journal.specs.Kept.{Kept, kept_turn, turns, turns_onto}
use Rattle.gate_audit.specs.Pairs.{SaidToClient, told_anyone}
use Rattle.gate_audit.specs.Passes.{told_more, told_whole}

-- these events and batches are left of a history, and of the turns before them this holds
pub record SoFar (es : List Event) (bs : List law.Batch) (h : Kept) (P : History → Type 0) : Type 0 where
  pub seen : History
  pub left : turns_onto es bs seen ≡ turns h
  pub is : P seen

pub at-first : (es : List Event) (bs : List law.Batch) (h : Kept) (P : History → Type 0) → es ≡ h.events
    → bs ≡ h.batches → P [] → SoFar es bs h P
at-first es bs h P are_events are_batches is = record {
  seen = [];
  left = ap (λ (xs : List Event). turns_onto xs bs []) are_events
      ∙ ap (λ (xs : List law.Batch). turns_onto h.events xs []) are_batches;
  is = is;
}

pub left-more : (es es2 : List Event) (bs bs2 : List law.Batch) (e : Event) (b : law.Batch) (seen all : History)
    → es ≡ e ∷ es2 → bs ≡ b ∷ bs2 → turns_onto es bs seen ≡ all → turns_onto es2 bs2 (kept_turn e b ∷ seen) ≡ all
left-more es es2 bs bs2 e b seen all event batch left =
    sym (ap (λ (xs : List Event). turns_onto xs bs seen) event
    ∙ ap (λ (xs : List law.Batch). turns_onto (e ∷ es2) xs seen) batch) ∙ left

pub one-more : (es es2 : List Event) (bs bs2 : List law.Batch) (e : Event) (b : law.Batch) (h : Kept)
    (P Q : History → Type 0) → es ≡ e ∷ es2 → bs ≡ b ∷ bs2 → SoFar es bs h P
    → ((seen : History) → P seen → Q (kept_turn e b ∷ seen)) → SoFar es2 bs2 h Q
one-more es es2 bs bs2 e b h P Q event batch so_far more = record {
  seen = kept_turn e b ∷ so_far.seen;
  left = left-more es es2 bs bs2 e b so_far.seen (turns h) event batch so_far.left;
  is = more so_far.seen so_far.is;
}

pub in-the-end : (es : List Event) (bs : List law.Batch) (h : Kept) (P : History → Type 0) → es ≡ [] → SoFar es bs h P
    → P (turns h)
in-the-end es bs h P none so_far =
    subst P (sym (ap (λ (xs : List Event). turns_onto xs bs so_far.seen) none) ∙ so_far.left) so_far.is

-- ---- what was told so far is the end of all that is told

record IsBehind (all later : List SaidToClient) : Type 0 where
  between : List SaidToClient
  whole : all ≡ between ++ later

told-onto : (es : List Event) (bs : List law.Batch) (before : History)
    → IsBehind (told_whole (turns_onto es bs before)) (told_whole before)
told-onto [] bs before = record { between = []; whole = refl }
told-onto (e ∷ es) [] before = record { between = []; whole = refl }
told-onto (e ∷ es) (b ∷ bs) before =
    let rest = told-onto es bs (kept_turn e b ∷ before) in
    let own : List SaidToClient = reverse (told_anyone b.client b.reports) in
    record {
      between = rest.between ++ own;
      whole = rest.whole ∙ sym (append_assoc rest.between own (told_whole before));
    }

-- what holds of what is told, and of each end of it, holds up to and with the next turn
pub up-to-next : (P : List SaidToClient → Type 0)
    → ((xs ys : List SaidToClient) → P (xs ++ ys) → P ys)
    → (es es2 : List Event) (bs bs2 : List law.Batch) (e : Event) (b : law.Batch) (seen all : History)
    → es ≡ e ∷ es2 → bs ≡ b ∷ bs2 → turns_onto es bs seen ≡ all → P (told_whole all) → P (told_more b (told_whole seen))
up-to-next P ends es es2 bs bs2 e b seen all event batch left holds =
    let next = left-more es es2 bs bs2 e b seen all event batch left in
    let behind = told-onto es2 bs2 (kept_turn e b ∷ seen) in
    ends behind.between (told_more b (told_whole seen))
    (subst P behind.whole (subst (λ (h : History). P (told_whole h)) (sym next) holds))
