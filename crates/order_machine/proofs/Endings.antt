-- All of an order is cancelled, or the market rejects a cancel: with any number of replaces before it.
use Rattle.std.proofs.Common.{◌≡◌, ℕ, true, false, List, [], ◌∷◌, ◌++◌, refl, sym, ap, ◌∙◌, subst, codes, bytes_eq}
use Rattle.std.proofs.Common.{Option, Some, None}
use Rattle.std.specs.Prelude.{filter}
use Rattle.std.specs.List.{find}
use Rattle.order_law.specs.declared.stage.Stage.TheVariants.{Working}
use Rattle.fix_fields.specs.Field.{Message, text}
use Rattle.order_law.specs.Chain.{Chain, cancels, chain, has_pending_cancel}
use Rattle.order_law.specs.Verdicts.{is_replace}
use Rattle.order_law.specs.History.{Entry}
use Rattle.order_law.specs.Told as told
use Rattle.order_law.specs.Told.{Occasion, Shown, is_cancel, plain, report}
use Rattle.order_law.specs.Headline.{Each, has_due_ids, is_id_of}
use Rattle.order_machine.specs.OrderRecord.{Cancelling, OrderRecord, cancel_entry, gone, unasked}
use Rattle.order_machine.proofs.Texts.{eq-same, eq-turned}
use Rattle.order_machine.proofs.Due.{IsSound, ReadsWith, chained_with, shown_with}
use Rattle.order_machine.proofs.Reports.{AreOthers, canceled-Reads, canceled_on-Reads, report-tells}
use Rattle.order_machine.proofs.Rejects.{last-rejected, not_used-2}
use Rattle.order_machine.proofs.Sound.{gone-sound}
use Rattle.order_machine.proofs.AskedReplaces.{append-nothing}
use Rattle.order_machine.proofs.Leads.{AreApart, AreNamed, Leads, leads-at, leads-more, leads-one, too_late-leads}

abbrev AreReplaces : List Entry → Type 0
AreReplaces rs = Each (λ (q : Entry). is_replace q.message ≡ true) rs

-- ---- requests in order: replaces, and a cancel behind them

no-cancel : (rs : List Entry) → AreReplaces rs → find is_cancel rs ≡ None
no-cancel [] are = refl
no-cancel (q ∷ rs) are = rw are.0 (no-cancel rs are.1)

the-cancel : (rs : List Entry) (c : Entry) → AreReplaces rs → is_replace c.message ≡ false
    → find is_cancel (rs ++ c ∷ []) ≡ Some c
the-cancel [] c are is = rw is refl
the-cancel (q ∷ rs) c are is = rw are.0 (the-cancel rs c are.1 is)

only-replaces : (rs : List Entry) → AreReplaces rs → filter (λ (q : Entry). is_replace q.message) rs ≡ rs
only-replaces [] are = refl
only-replaces (q ∷ rs) are = rw are.0 (ap (λ qs. q ∷ qs) (only-replaces rs are.1))

without-cancel : (rs : List Entry) (c : Entry) → AreReplaces rs → is_replace c.message ≡ false
    → filter (λ (q : Entry). is_replace q.message) (rs ++ c ∷ []) ≡ rs
without-cancel [] c are is = rw is refl
without-cancel (q ∷ rs) c are is = rw are.0 (ap (λ qs. q ∷ qs) (without-cancel rs c are.1 is))

only-cancel : (rs : List Entry) (c : Entry) → AreReplaces rs → is_replace c.message ≡ false
    → filter is_cancel (rs ++ c ∷ []) ≡ c ∷ []
only-cancel [] c are is = rw is refl
only-cancel (q ∷ rs) c are is = rw are.0 (only-cancel rs c are.1 is)

none-cancelling : (o : OrderRecord) (rs : List Entry) → AreReplaces rs → has_pending_cancel (chained_with o rs) ≡ false
none-cancelling o [] are = refl
none-cancelling o (q ∷ rs) are = rw are.0 (none-cancelling o rs are.1)

cancelling : (o : OrderRecord) (rs : List Entry) (c : Entry) → AreReplaces rs → is_replace c.message ≡ false
    → has_pending_cancel (chained_with o (rs ++ c ∷ [])) ≡ true
cancelling o [] c are is = rw is refl
cancelling o (q ∷ rs) c are is = rw are.0 (cancelling o rs c are.1 is)

pub cancel-id : (o : OrderRecord) (rs : List Entry) (c : Entry) → AreReplaces rs → is_replace c.message ≡ false
    → is_id_of (cancels (chained_with o (rs ++ c ∷ []))) (text 11 c.message) ≡ true
cancel-id o [] c are is = let own = eq-same (text 11 c.message) in rw (is, own) refl
cancel-id o (q ∷ rs) c are is = rw are.0 (cancel-id o rs c are.1 is)

-- the last of apart requests is another than those before it
pub before-others : (rs : List Entry) (c : Entry) → AreApart (rs ++ c ∷ []) → AreOthers (text 11 c.message) rs
before-others [] c apart = tt
before-others (q ∷ rs) c apart = (turned (last-other rs apart.0), before-others rs c apart.1)
  where
    last-other : (rs : List Entry) → AreOthers (text 11 q.message) (rs ++ c ∷ [])
        → bytes_eq (text 11 c.message) (text 11 q.message) ≡ false
    last-other [] others = others.0
    last-other (p ∷ rs) others = last-other rs others.1

    turned : bytes_eq (text 11 c.message) (text 11 q.message) ≡ false
        → bytes_eq (text 11 q.message) (text 11 c.message) ≡ false
    turned e = eq-turned (text 11 c.message) (text 11 q.message) e

pub before-apart : (rs : List Entry) (c : Entry) → AreApart (rs ++ c ∷ []) → AreApart rs
before-apart [] c apart = tt
before-apart (q ∷ rs) c apart = (front rs apart.0, before-apart rs c apart.1)
  where
    front : (rs : List Entry) → AreOthers (text 11 q.message) (rs ++ c ∷ []) → AreOthers (text 11 q.message) rs
    front [] others = tt
    front (p ∷ rs) others = (others.0, front rs others.1)

before-named : (old_id : List ℕ → List ℕ) (rs : List Entry) (c : Entry) → AreNamed old_id (rs ++ c ∷ [])
    → AreNamed old_id rs × (text 41 c.message ≡ old_id (text 11 c.message))
before-named old_id [] c named = (tt, named.0)
before-named old_id (q ∷ rs) c named = let rest = before-named old_id rs c named.1 in ((named.0, rest.0), rest.1)

-- ---- 150=4, and then what is too late

abbrev why_4 : Option Entry → Option (List ℕ) → Occasion
why_4 request why = record (plain (codes "4")) { request = request; why = why }

plain_4-ids : (n : ℕ) (why : Option (List ℕ)) (s : Shown) (before after : Chain) (old_id : List ℕ → List ℕ)
    → has_pending_cancel before ≡ false → after.current ≡ s.id
    → has_due_ids (report n (why_4 None why) s) before after old_id ≡ true
plain_4-ids n None s before after old_id none same = let id = eq-same s.id in rw (none, same, id) refl
plain_4-ids n (Some w) s before after old_id none same = let id = eq-same s.id in rw (none, same, id) refl

module _ (old_id : List ℕ → List ℕ) (n : ℕ) (why : Option (List ℕ)) (o : OrderRecord) (works : o.stage ≡ Working) (sound : IsSound (gone o)) (sent : List Message) where
  pub cancelled-plain : (rs : List Entry) → AreReplaces rs → AreApart rs → AreOthers o.id rs → AreNamed old_id rs
      → ReadsWith sent o rs
      → Leads o.new old_id sent (told.cancelled n why (told.closed (shown_with o rs))) (gone o) []
  cancelled-plain rs are apart others named reads =
      let first = report-tells n (why_4 None why) (gone o) rs old_id sent sound
      (canceled-Reads n why rs o sent works others reads)
      (plain_4-ids n why (shown_with (gone o) rs) (chain o.new.order sent) (chained_with (gone o) rs) old_id
      (ap has_pending_cancel reads.chained_so ∙ none-cancelling o rs are) refl) in
      rw (no-cancel rs are, only-replaces rs are)
      (leads-more old_id sent _ _ (gone o) (gone o) rs [] first
      (too_late-leads old_id (gone o) sound rs rs _ apart named first.reads))

  pub cancelled-on : (rs : List Entry) (c : Entry) → AreReplaces rs → is_replace c.message ≡ false
      → AreApart (rs ++ c ∷ []) → AreNamed old_id (rs ++ c ∷ []) → ReadsWith sent o (rs ++ c ∷ [])
      → Leads o.new old_id sent (told.cancelled n why (told.closed (shown_with o (rs ++ c ∷ [])))) (gone o) []
  cancelled-on rs c are is apart named reads =
      let names = before-named old_id rs c named in
      let first = report-tells n (why_4 (Some c) why) (gone o) rs old_id sent sound
      (canceled_on-Reads n why c rs o sent works (before-others rs c apart) reads)
      (let id = cancel-id o rs c are is in let old = eq-same (old_id (text 11 c.message)) in let some =
      cancelling o rs c are is in rw (reads.chained_so, some, id, names.1, old) refl) in
      rw (the-cancel rs c are is, without-cancel rs c are is)
      (leads-more old_id sent _ _ (gone o) (gone o) rs [] first
      (too_late-leads old_id (gone o) sound rs rs _ (before-apart rs c apart) names.0 first.reads))

-- of an order in the book, with a cancel behind its replaces or none: nothing is pending any more
pub cancelled-leads : (old_id : List ℕ → List ℕ) (n : ℕ) (why : Option (List ℕ)) (o : OrderRecord) → o.stage ≡ Working
    → IsSound o → (sent : List Message) → (rs : List Entry) (c : Option Cancelling)
    → AreReplaces rs → ((x : Cancelling) → c ≡ Some x → is_replace x.request.message ≡ false)
    → AreApart (rs ++ cancel_entry c) → AreOthers o.id rs → AreNamed old_id (rs ++ cancel_entry c)
    → ReadsWith sent o (rs ++ cancel_entry c)
    → Leads o.new old_id sent (told.cancelled n why (told.closed (shown_with o (rs ++ cancel_entry c))))
    (unasked (gone o)) []
cancelled-leads old_id n why o works sound sent rs c are is apart others named reads =
    leads-at o.new old_id sent _ (gone o) [] None [] (by_cancel c is apart named reads)
  where
    same : rs ++ [] ≡ rs
    same = append-nothing rs

    by_cancel : (c : Option Cancelling) → ((x : Cancelling) → c ≡ Some x → is_replace x.request.message ≡ false)
        → AreApart (rs ++ cancel_entry c) → AreNamed old_id (rs ++ cancel_entry c)
        → ReadsWith sent o (rs ++ cancel_entry c)
        → Leads o.new old_id sent (told.cancelled n why (told.closed (shown_with o (rs ++ cancel_entry c)))) (gone o) []
    by_cancel None is apart named reads =
        subst (λ (qs : List Entry). Leads o.new old_id sent (told.cancelled n why (told.closed (shown_with o qs)))
        (gone o) []) (sym same)
        (cancelled-plain old_id n why o works (gone-sound o sound) sent rs are (subst AreApart same apart) others
        (subst (AreNamed old_id) same named) (subst (ReadsWith sent o) same reads))
    by_cancel (Some x) is apart named reads =
        cancelled-on old_id n why o works (gone-sound o sound) sent rs x.request are (is x refl) apart named reads

-- ---- the market rejects a cancel

pub cancel_rejected-leads : (old_id : List ℕ → List ℕ) (o : OrderRecord) (sound : IsSound o) (rs : List Entry)
    (c : Entry) (sent : List Message) → AreReplaces rs → is_replace c.message ≡ false → AreApart (rs ++ c ∷ [])
    → AreNamed old_id (rs ++ c ∷ [])
    → ReadsWith sent o (rs ++ c ∷ []) → Leads o.new old_id sent
    (told.cancel_rejected true (shown_with o (rs ++ c ∷ []))) o rs
cancel_rejected-leads old_id o sound rs c sent are is apart named reads =
    rw (only-cancel rs c are is, without-cancel rs c are is)
    (leads-one old_id sent _ o rs (last-rejected old_id 2 (codes "cancel rejected by market") not_used-2 o sound sent c rs (before-others rs c apart) (before-named old_id rs c named).1 reads))
