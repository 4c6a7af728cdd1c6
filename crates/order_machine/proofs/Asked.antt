-- What of an order's requests a message of the market answers.
use Rattle.std.proofs.Common.{◌≡◌, ◌≢◌, ℕ, Bool, true, false, List, [], ◌∷◌, ◌++◌, map, refl, sym, ap, ◌∙◌, Option}
use Rattle.std.proofs.Common.{Some, None}
use Rattle.std.specs.Prelude.{◌&&◌, ◌||◌, not, if◌then◌else◌}
use Rattle.std.specs.List.{list_any}
use Rattle.std.proofs.lemmas.List.Elements.{filter-append}
use Rattle.std.proofs.lemmas.List.Folds.{list_any-append}
use Rattle.order_law.specs.ouch_codec.declared.outbound.Outbound.{Outbound}
use Rattle.order_law.specs.declared.stage.Stage.{Stage}
use Rattle.order_law.specs.declared.stage.Stage.TheVariants.{Waiting, Working, Closed}
use Rattle.fix_fields.specs.Field.{Message}
use Rattle.order_law.specs.History.{Asked, Entry, Said, SaysCancel, SaysNew, SaysReplace, Terms, answers}
use Rattle.order_law.specs.History.{is_cancel_said, token_of}
use Rattle.order_law.specs.Told as told
use Rattle.order_machine.specs.OrderRecord.{Cancelling, OrderRecord, asked_as, asked_replace, cancel_asked}
use Rattle.order_machine.specs.OrderRecord.{cancel_entry, asked_cancel}
use Rattle.order_machine.specs.OrderRecord.{is_empty, unanswered_tokens, last_of, live_token, new_asked, replaces_asked}
use Rattle.order_machine.specs.OrderRecord.{still_cancelling, with_tokens}
use Rattle.order_machine.proofs.Due.{IsSound, ReadsWith, shown_with}
use Rattle.order_machine.proofs.Leads.{AreApart, AreNamed, Leads, leads-none, same_some}
use Rattle.order_machine.proofs.Endings.{cancel_rejected-leads}
use Rattle.order_machine.proofs.AskedReplaces.{append-nothing}
use Rattle.order_law.specs.Headline.{Each}
use Rattle.order_law.specs.Verdicts.{is_replace}
use Rattle.std.proofs.Common.{subst}
use Rattle.order_machine.proofs.Moves.{answers_last, unanswered, unanswered-cancels}

-- ---- Cancel Orders

-- a message leaves these of a pending cancel
pub cancels-left : (m : Outbound) (next : List (List ℕ)) (new : Entry) (c : Option Cancelling)
    → unanswered m next (cancel_asked new c) ≡ cancel_asked new (still_cancelling m next c)
cancels-left m next new None = refl
cancels-left m next new (Some c) = unanswered-cancels m next new c.request c.tokens
    ∙ same (unanswered_tokens m next c.tokens)
  where
    same : (tokens : List (List ℕ)) → map (λ token. asked_cancel new c.request token) tokens
        ≡ cancel_asked new (with_tokens c.request tokens)
    same [] = refl
    same (token ∷ tokens) = refl

abbrev is_cancel_asked : Asked → Bool
is_cancel_asked a = is_cancel_said a.said

abbrev is_kept : Outbound → List (List ℕ) → Asked → Bool
is_kept m next a = is_cancel_said a.said && not (answers m next a.said)

-- no test on cancels finds anything before them
before-cancels : (P : Asked → Bool) → ((a : Asked) → is_cancel_said a.said ≡ false → P a ≡ false)
    → (terms : List Terms) (o : OrderRecord)
    → list_any P (asked_as terms o) ≡ list_any P (cancel_asked o.new o.cancel)
before-cancels P none terms o =
    list_any-append P (new_asked terms o.new o.stage)
    (replaces_asked o.new (live_token o) o.replaces ++ cancel_asked o.new o.cancel)
    ∙ rw (
      no-new o.stage,
      list_any-append P (replaces_asked o.new (live_token o) o.replaces)
          (cancel_asked o.new o.cancel),
      no-replaces (live_token o) o.replaces,
    ) refl
  where
    no-new : (s : Stage) → list_any P (new_asked terms o.new s) ≡ false
    no-new Waiting = rw (none (record {
      order = o.new.order;
      id =
          Rattle.fix_fields.specs.Field.text 11 o.new.message;
      said = SaysNew (token_of o.new);
      ask =
          Some (Rattle.order_law.specs.Asks.asked_by_new
          (Rattle.order_law.specs.History.terms_of terms o.new.client).capacity o.new.message);
    }) refl) refl
    no-new Working = refl
    no-new Closed = refl

    no-replaces : (from : List ℕ) (rs : List Entry) → list_any P (replaces_asked o.new from rs) ≡ false
    no-replaces from [] = refl
    no-replaces from (q ∷ rs) = rw (none (asked_replace o.new from q) refl) (no-replaces (token_of q) rs)

any-cancel : (new q : Entry) (tokens : List (List ℕ)) → tokens ≢ []
    → list_any is_cancel_asked (map (λ token. asked_cancel new q token) tokens) ≡ true
any-cancel new q [] some = absurd (some refl)
any-cancel new q (token ∷ tokens) some = refl

any-kept : (m : Outbound) (next : List (List ℕ)) (new q : Entry) (tokens : List (List ℕ))
    → not (list_any (is_kept m next) (map (λ token. asked_cancel new q token) tokens))
    ≡ is_empty (unanswered_tokens m next tokens)
any-kept m next new q [] = refl
any-kept m next new q (token ∷ tokens) = by_test (answers m next (SaysCancel token)) (any-kept m next new q tokens)
  where
    by_test : (b : Bool) → not (list_any (is_kept m next) (map (λ token. asked_cancel new q token) tokens))
        ≡ is_empty (unanswered_tokens m next tokens)
        → not (not b || list_any (is_kept m next) (map (λ token. asked_cancel new q token) tokens))
        ≡ is_empty (if not b then token ∷ unanswered_tokens m next tokens else unanswered_tokens m next tokens)
    by_test true e = e
    by_test false e = refl

pub last-is : (terms : List Terms) (m : Outbound) (next : List (List ℕ)) (o : OrderRecord)
    → ((c : Cancelling) → o.cancel ≡ Some c → c.tokens ≢ [])
    → answers_last m next (asked_as terms o) ≡ last_of m next o.cancel
last-is terms m next o left =
    rw (before-cancels is_cancel_asked (λ a e. e) terms o, before-cancels (is_kept m next) (λ a e. rw e refl) terms o)
    (by_cancel o.cancel left)
  where
    by_cancel : (c : Option Cancelling) → ((x : Cancelling) → c ≡ Some x → x.tokens ≢ [])
        → (list_any is_cancel_asked (cancel_asked o.new c) && not (list_any (is_kept m next) (cancel_asked o.new c)))
        ≡ last_of m next c
    by_cancel None left = refl
    by_cancel (Some c) left = rw (
      any-cancel o.new c.request c.tokens
          (left c refl),
      any-kept m next o.new c.request c.tokens,
    ) refl

-- a cancel behind replaces is rejected where its last message is answered, and goes on else
pub cancel-goes_on : (old_id : List ℕ → List ℕ) (m : Outbound) (next : List (List ℕ)) (o : OrderRecord)
    (rs : List Entry) (c : Option Cancelling) (sent : List Message)
    → IsSound o → Each (λ (q : Entry). is_replace q.message ≡ true) rs
    → ((x : Cancelling) → c ≡ Some x → is_replace x.request.message ≡ false)
    → AreApart (rs ++ cancel_entry c) → AreNamed old_id (rs ++ cancel_entry c) → ReadsWith sent o (rs ++ cancel_entry c)
    → Leads o.new old_id sent (told.cancel_rejected (last_of m next c) (shown_with o (rs ++ cancel_entry c))) o
    (rs ++ cancel_entry (still_cancelling m next c))
cancel-goes_on old_id m next o rs None sent sound are is apart named reads = leads-none old_id sent o (rs ++ []) reads
cancel-goes_on old_id m next o rs (Some c) sent sound are is apart named reads =
    by_tokens (unanswered_tokens m next c.tokens)
  where
    by_tokens : (tokens : List (List ℕ)) → Leads o.new old_id sent
        (told.cancel_rejected (is_empty tokens) (shown_with o (rs ++ c.request ∷ []))) o
        (rs ++ cancel_entry (with_tokens c.request tokens))
    by_tokens [] = subst (Leads o.new old_id sent (told.cancel_rejected true (shown_with o (rs ++ c.request ∷ []))) o)
        (sym (append-nothing rs)) (cancel_rejected-leads old_id o sound rs c.request sent are
        (is c refl) apart named reads)
    by_tokens (token ∷ tokens) = leads-none old_id sent o (rs ++ c.request ∷ []) reads

-- ---- all that is asked of an order, part by part

pub asked-parts : (terms : List Terms) (m : Outbound) (next : List (List ℕ)) (o : OrderRecord)
    → unanswered m next (asked_as terms o) ≡ unanswered m next (new_asked terms o.new o.stage)
    ++ (unanswered m next (replaces_asked o.new (live_token o) o.replaces)
    ++ cancel_asked o.new (still_cancelling m next o.cancel))
asked-parts terms m next o =
    filter-append (λ (a : Asked). not (answers m next a.said)) (new_asked terms o.new o.stage)
    (replaces_asked o.new (live_token o) o.replaces ++ cancel_asked o.new o.cancel)
    ∙ ap (λ xs. unanswered m next (new_asked terms o.new o.stage) ++ xs)
    (filter-append (λ (a : Asked). not (answers m next a.said)) (replaces_asked o.new (live_token o) o.replaces)
    (cancel_asked o.new o.cancel)
    ∙ ap (λ xs. unanswered m next (replaces_asked o.new (live_token o) o.replaces) ++ xs)
    (cancels-left m next o.new o.cancel))

-- what answers no replace leaves each
pub replaces-kept : (m : Outbound) (next : List (List ℕ)) (new : Entry)
    → ((from to : List ℕ) → answers m next (SaysReplace from to) ≡ false) → (from : List ℕ) (rs : List Entry)
    → unanswered m next (replaces_asked new from rs) ≡ replaces_asked new from rs
replaces-kept m next new none from [] = refl
replaces-kept m next new none from (q ∷ rs) =
    rw (none from (token_of q)) (ap (λ (asks : List Asked). asked_replace new from q ∷ asks)
    (replaces-kept m next new none (token_of q) rs))

-- what a pending cancel keeps through a message
pub still-request : (m : Outbound) (next : List (List ℕ)) (c : Option Cancelling) (x : Cancelling)
    → still_cancelling m next c ≡ Some x → (y : Cancelling) × (c ≡ Some y) × (x.request ≡ y.request)
    × (x.tokens ≡ unanswered_tokens m next y.tokens)
still-request m next None x e = absurd (cc)
still-request m next (Some c) x e = by_tokens (unanswered_tokens m next c.tokens) refl e
  where
    by_tokens : (tokens : List (List ℕ)) → unanswered_tokens m next c.tokens ≡ tokens
        → with_tokens c.request tokens ≡ Some x → (y : Cancelling) × (◌≡◌ {A = Option Cancelling} (Some c) (Some y))
        × (x.request ≡ y.request) × (x.tokens ≡ unanswered_tokens m next y.tokens)
    by_tokens [] is e = absurd (cc)
    by_tokens (token ∷ tokens) is e = let same = same_some (record { request = c.request; tokens = token ∷ tokens }) x e
        in (
          c,
          refl,
          ap (λ (k : Cancelling). k.request) (sym same),
          ap (λ (k : Cancelling). k.tokens) (sym same)
              ∙ sym is,
        )

pub still-left : (m : Outbound) (next : List (List ℕ)) (c : Option Cancelling) (x : Cancelling)
    → still_cancelling m next c ≡ Some x → x.tokens ≢ []
still-left m next None x e = absurd (cc)
still-left m next (Some c) x e = by_tokens (unanswered_tokens m next c.tokens) e
  where
    by_tokens : (tokens : List (List ℕ)) → with_tokens c.request tokens ≡ Some x → x.tokens ≢ []
    by_tokens [] e = absurd (cc)
    by_tokens (token ∷ tokens) e = λ none. (let same : (token ∷ tokens) ≡ x.tokens =
        ap (λ (k : Cancelling). k.tokens) (same_some (record { request = c.request; tokens = token ∷ tokens }) x e) in
        let bad : (token ∷ tokens) ≡ [] = same ∙ none in cc)
