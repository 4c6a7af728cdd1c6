-- The bodies of a turn on an order, one after another: what its client has read after them, and that each reads well.
use Rattle.std.proofs.Common.{◌≡◌, ℕ, Bool, true, false, List, [], ◌∷◌, ◌++◌, codes, Option, Some}
use Rattle.std.specs.Prelude.{if◌then◌else◌}
use Rattle.fix_fields.specs.Field.{Message, text}
use Rattle.order_law.specs.Verdicts.{is_replace}
use Rattle.order_law.specs.History.{Entry}
use Rattle.order_law.specs.Told as told
use Rattle.order_law.specs.Headline.{Each, ReadsWell}
use Rattle.order_machine.specs.OrderRecord.{Cancelling, OrderRecord, at}
use Rattle.order_machine.proofs.Due.{IsSound, ReadsWith, shown_with}
use Rattle.order_machine.proofs.Reports.{AreOthers, Tells}
use Rattle.order_machine.proofs.Rejects.{first-rejected, not_used-0, not_used-2}

-- what is sent, with these after it
abbrev pub onto : List Message → List Message → List Message
onto [] sent = sent
onto (r ∷ rs) sent = onto rs (r ∷ sent)

pub record Leads (new : Entry) (old_id : List ℕ → List ℕ) (sent : List Message) (rs : List Message) (o : OrderRecord) (qs : List Entry) : Type 0 where
  pub reads : ReadsWith (onto rs sent) o qs
  pub well : ReadsWell new.order new.message old_id sent rs

pub leads-none : (old_id : List ℕ → List ℕ) (sent : List Message) (o : OrderRecord) (qs : List Entry)
    → ReadsWith sent o qs → Leads o.new old_id sent [] o qs
leads-none old_id sent o qs reads = record { reads = reads; well = tt }

pub leads-one : (old_id : List ℕ → List ℕ) (sent : List Message) (r : Message) (o : OrderRecord) (qs : List Entry)
    → Tells old_id sent r o qs → Leads o.new old_id sent (r ∷ []) o qs
leads-one old_id sent r o qs t = record { reads = t.reads; well = (t.says, tt) }

pub leads-more : (old_id : List ℕ → List ℕ) (sent : List Message) (r : Message) (rs : List Message) (o p : OrderRecord)
    (qs ps : List Entry) → Tells old_id sent r o qs → Leads o.new old_id (r ∷ sent) rs p ps
    → Leads o.new old_id sent (r ∷ rs) p ps
leads-more old_id sent r rs o p qs ps t more = record { reads = more.reads; well = (t.says, more.well) }

-- bodies, and then others
pub leads-on : (old_id : List ℕ → List ℕ) (sent rs more : List Message) (o p : OrderRecord) (qs ps : List Entry)
    → Leads o.new old_id sent rs o qs → Leads o.new old_id (onto rs sent) more p ps
    → Leads o.new old_id sent (rs ++ more) p ps
leads-on old_id sent rs more o p qs ps first rest = both rs sent first.well rest
  where
    both : (rs sent : List Message) → ReadsWell o.new.order o.new.message old_id sent rs
        → Leads o.new old_id (onto rs sent) more p ps → Leads o.new old_id sent (rs ++ more) p ps
    both [] sent well behind = behind
    both (r ∷ rs) sent well behind = let rest = both rs (r ∷ sent) well.1 behind in
        record { reads = rest.reads; well = (well.0, rest.well) }

-- the ids of pending requests are all different
abbrev pub AreApart : List Entry → Type 0
AreApart [] = Unit {0}
AreApart (q ∷ qs) = AreOthers (text 11 q.message) qs × AreApart qs

-- each pending request is known by its id, with the id that it named
abbrev pub AreNamed : (List ℕ → List ℕ) → List Entry → Type 0
AreNamed old_id qs = Each (λ (q : Entry). text 41 q.message ≡ old_id (text 11 q.message)) qs

-- which requests the order itself has pending is said beside it
pub leads-at : (new : Entry) (old_id : List ℕ → List ℕ) (sent bodies : List Message) (o : OrderRecord) (rs : List Entry)
    (c : Option Cancelling) (qs : List Entry) → Leads new old_id sent bodies o qs
    → Leads new old_id sent bodies (at o rs c) qs
leads-at new old_id sent bodies o rs c qs l =
    record {
      reads = record {
        read_so = l.reads.read_so;
        chained_so = l.reads.chained_so;
        refused_so =
            l.reads.refused_so;
      };
      well = l.well;
    }

pub tells-at : (o : OrderRecord) (rs : List Entry) (c : Option Cancelling) (qs : List Entry) (old_id : List ℕ → List ℕ)
    (sent : List Message) (r : Message) → Tells old_id sent r o qs → Tells old_id sent r (at o rs c) qs
tells-at o rs c qs old_id sent r t = record {
  reads = record { read_so = t.reads.read_so; chained_so = t.reads.chained_so; refused_so = t.reads.refused_so };
  says = t.says;
}

pub same_some : {A : Type 0} (a b : A) → ◌≡◌ {A = Option A} (Some a) (Some b) → a ≡ b
same_some a b e = cc

-- ---- what is pending as the order closes is too late

module _ (old_id : List ℕ → List ℕ) (o : OrderRecord) (sound : IsSound o) where
  pub too_late-leads : (x qs : List Entry) (sent : List Message) → AreApart qs → AreNamed old_id qs
      → ReadsWith sent o qs
      → Leads o.new old_id sent (told.each_too_late (shown_with o x) qs) o []
  too_late-leads x [] sent apart named reads = leads-none old_id sent o [] reads
  too_late-leads x (q ∷ qs) sent apart named reads =
      let first = first-rejected old_id 0 (codes "too late") not_used-0 o sound sent q qs apart.0 named.0 reads in
      leads-more old_id sent _ _ o o qs [] first (too_late-leads x qs _ apart.1 named.1 first.reads)

  -- ---- the first replace is rejected, and those behind it fall with it

  pub not_replaced-leads : (x rs later : List Entry) → Each (λ (q : Entry). is_replace q.message ≡ true) rs
      → Each (λ (q : Entry). is_replace q.message ≡ false) later
      → (why : List ℕ) (sent : List Message) → AreApart (rs ++ later) → AreNamed old_id (rs ++ later)
      → ReadsWith sent o (rs ++ later)
      → Leads o.new old_id sent (told.each_not_replaced why (shown_with o x) (rs ++ later)) o later
  not_replaced-leads x [] [] are none why sent apart named reads = leads-none old_id sent o [] reads
  not_replaced-leads x [] (c ∷ later) are none why sent apart named reads =
      rw none.0 (leads-none old_id sent o (c ∷ later) reads)
  not_replaced-leads x (q ∷ rs) later are none why sent apart named reads =
      let first = first-rejected old_id 2 why not_used-2 o sound sent q (rs ++ later) apart.0 named.0 reads in
      let more = leads-more old_id sent _ _ o o (rs ++ later) later first (not_replaced-leads x rs later are.1 none (codes "earlier replace rejected") _ apart.1 named.1 first.reads) in
      by_kind (is_replace q.message) are.0 more
    where
      by_kind : (b : Bool) → b ≡ true → {bodies : List Message} → Leads o.new old_id sent bodies o later
          → Leads o.new old_id sent (if b then bodies else []) o later
      by_kind true e more = more
      by_kind false e more = absurd (cc)
