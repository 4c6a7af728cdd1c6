-- Rejects of replaces that are pending one behind another.
use Rattle.std.proofs.Common.{◌≡◌, ℕ, ◌-◌, ◌≤◌, Bool, true, false, List, [], ◌∷◌, ◌++◌, length, take, drop, get_or}
use Rattle.std.proofs.Common.{refl, subst, sym, ap, ◌∙◌, arith, ne_eqb}
use Rattle.std.specs.Prelude.{◌==◌, not, Option, Some}
use Rattle.std.proofs.lemmas.List.{append_assoc, take_all}
use Rattle.std.specs.List.{list_any}
use Rattle.orders.specs.fix_types.ReplaceRequest.{replace_request_fields}
use Rattle.orders.specs.declared.requests.Replacing.{Replacing}
use Rattle.order_law.specs.fix_fields.Field.{Message}
use Rattle.order_law.specs.History.{Entry}
use Rattle.order_law.specs.Headline.{Each}
use Rattle.order_law.specs.Verdicts.{is_replace}
use Rattle.order_law.specs.Told as law
use Rattle.to_client.specs.declared.shown.Request.{Request}
use Rattle.to_client.specs.declared.shown.Shown.{Shown}
use Rattle.to_client.specs.Pending.{each_rejected, messages_in, messages_of, rejects_of, without_replaces}
use Rattle.to_client.specs.Shows.{IsAnyRequest, IsRequest, ShowsAs}
use Rattle.to_client.proofs.Answered.{before-shows}

-- the first of a list that isn't empty, and those behind it
pub record IsSplit (replaces : List Replacing) (first : Replacing) (rest : List Replacing) : Type 0 where
  pub all : replaces ≡ first ∷ rest

pub split-of : (replaces : List Replacing) (first : Replacing) → first ≡ get_or replaces 0 first → 1 ≤ length replaces
    → IsSplit replaces first (take (length replaces - 1) (drop 1 replaces))
split-of [] first is some = absurd (omega (arith, some))
split-of (r ∷ rest) first is some =
    let same : first ≡ r = is in
    let fewer : length rest ≤ length (r ∷ rest) - 1 = omega arith in
    record {
      all = ap (λ (x : Replacing). x ∷ rest) (sym same)
          ∙ ap (λ (xs : List Replacing). first ∷ xs) (sym (take_all (length (r ∷ rest) - 1) rest fewer));
    }

-- whether replaces are behind it
pub some-behind : (rest : List Replacing) (qs : List Entry) → messages_in rest ≡ messages_of qs
    → Each (λ (q : Entry). is_replace q.message ≡ true) qs
    → list_any (λ (q : Entry). is_replace q.message) qs ≡ not (length rest == 0)
some-behind [] [] same are = refl
some-behind [] (q ∷ qs) same are = absurd (cc)
some-behind (r ∷ rest) [] same are = absurd (cc)
some-behind (r ∷ rest) (q ∷ qs) same are =
    let more : (length (r ∷ rest) == 0) ≡ false = ne_eqb (length (r ∷ rest)) 0 (λ e. omega (arith, e)) in
    rw (are.0, more) refl

-- these bodies are told of replaces, behind the others
abbrev pub TellsEach : Shown → List Replacing → ℕ → List ℕ → List ℕ → List Message → List Message → Type 0
TellsEach x replaces code why further old new = (qs later : List Entry) (s : law.Shown)
    → messages_in replaces ≡ messages_of qs → Each (λ (q : Entry). is_replace q.message ≡ true) qs
    → ShowsAs (without_replaces x) (record s { pending = later })
    → new ≡ old ++ each_rejected s qs later code why further

-- the first is told, and then those behind it
pub told-each : (x : Shown) (replaces : List Replacing) (first : Replacing) (request : Request) (code : ℕ)
    (why further : List ℕ) (is_last : Bool) (old mid new : List Message)
    → first ≡ get_or replaces 0 first → 1 ≤ length replaces → IsRequest request (replace_request_fields first.message)
    → is_last ≡ (length (take (length replaces - 1) (drop 1 replaces)) == 0)
    → ((q : Option Entry) (s : law.Shown) → IsAnyRequest (Some request) q
    → ShowsAs (record x { has_pending_replace = not is_last }) s → mid ≡ old ++ rejects_of s q code why)
    → TellsEach x (take (length replaces - 1) (drop 1 replaces)) code further further mid new
    → TellsEach x replaces code why further old new
told-each x replaces first request code why further is_last old mid new is some asks last one more qs later s same are
    shows =
    by_entries qs (ap messages_in (sym split.all) ∙ same) are
  where
    split : IsSplit replaces first (take (length replaces - 1) (drop 1 replaces))
    split = split-of replaces first is some

    by_entries : (qs : List Entry) → messages_in (first ∷ take (length replaces - 1) (drop 1 replaces)) ≡ messages_of qs
        → Each (λ (q : Entry). is_replace q.message ≡ true) qs → new ≡ old ++ each_rejected s qs later code why further
    by_entries [] same are = absurd (cc)
    by_entries (q ∷ qs) same are =
        let own : replace_request_fields first.message ≡ q.message = cc in
        let rest : messages_in (take (length replaces - 1) (drop 1 replaces)) ≡ messages_of qs = cc in
        let shown : ShowsAs (record x { has_pending_replace = not is_last }) (record s { pending = qs ++ later }) =
        before-shows x s qs later (not is_last) are.1
        (some-behind (take (length replaces - 1) (drop 1 replaces)) qs rest are.1 ∙ ap not (sym last)) shows in
        let first_told = one (Some q) (record s { pending = qs ++ later }) (subst (IsRequest request) own asks) shown in
        more qs later s rest are.1 shows
        ∙ ap (λ (ms : List Message). ms ++ each_rejected s qs later code further further) first_told
        ∙ append_assoc old (law.answered_no (record s { pending = qs ++ later }) q code why ∷ [])
        (each_rejected s qs later code further further)
