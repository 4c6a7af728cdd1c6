-- The rows of a day's turns, one after another.
use Rattle.std.proofs.Common.{◌≡◌, ℕ, Option, List, [], ◌∷◌, ◌++◌, length, refl, sym, subst, ap, ◌∙◌, arith}
use Rattle.std.proofs.Common.{append_assoc, append-nil, length-append}
use Rattle.std.specs.List.{flat_map}
use Rattle.std.specs.Prelude.{map}
use Rattle.std.specs.Io.KnownBytes.{Appends, Consumes, IsAtEnd, Keeps}
use Rattle.std.proofs.KnownBytes.{Appends-kept, Appends-nil, Appends-trans, Consumes-nil, Consumes-trans}
use Rattle.gate_journal.specs.gate_law.Events as law
use Rattle.gate_events.specs.declared.event.Event.{Event}
use Rattle.gate_journal.specs.Kept.{GoOnBy, Kept, kept_in}
use Rattle.journal_file.specs.declared.ending.Ending.{Ending}
use Rattle.journal_file.specs.declared.read_fault.ReadFault.{ReadFault}
use Rattle.journal_file.specs.declared.read_fault.ReadFault.TheVariants.{NoFile, NoMemory, Read}
use Rattle.journal_file.specs.Inputs.{IsReadTo}
use Rattle.journal_file.specs.Reader.{IsRefused, ReadsOn}
use Rattle.journal_file.specs.Said.{Says}
use Rattle.day_export.specs.declared.fault.ExportFault.TheVariants.{File}
use Rattle.day_export.specs.declared.format.Format.{Format}
use Rattle.day_export.specs.Files.{IsExport, IsUnexported, ReadsRows}
use Rattle.day_export.specs.Forms.{head_text}
use Rattle.day_export.specs.Rows.{turn_text, turns_text}

-- over what each of a list is made into
pub flat_map-map : {A B C : Type 0} (f : B → List C) (g : A → B) (xs : List A)
    → flat_map f (map g xs) ≡ flat_map (λ x. f (g x)) xs
flat_map-map f g [] = refl
flat_map-map f g (x ∷ xs) = ap (λ l. f (g x) ++ l) (flat_map-map f g xs)

-- ---- turns, one by one

pub record Writes (old now : Option (List ℕ)) (format : Format) (events : List Event) (batches : List law.Batch)
    (left : List Event) (others : List law.Batch) : Type 0 where
  pub rows : List ℕ
  pub written : Appends old now rows
  pub all : rows ++ turns_text format left others ≡ turns_text format events batches

pub writes-begun : (old : Option (List ℕ)) (format : Format) (events : List Event) (batches : List law.Batch)
    (left : List Event) (others : List law.Batch) → left ≡ events → others ≡ batches
    → Writes old old format events batches left others
writes-begun old format events batches left others e b = record {
  rows = [];
  written = Appends-nil old;
  all = ap (λ (es : List Event). turns_text format es others) e
      ∙ ap (λ (bs : List law.Batch). turns_text format events bs) b;
}

pub writes-more : (old now next : Option (List ℕ)) (format : Format) (events : List Event) (batches : List law.Batch)
    (left behind : List Event) (others rest : List law.Batch) (e : Event) (b : law.Batch)
    → Writes old now format events batches left others → left ≡ e ∷ behind → others ≡ b ∷ rest
    → Appends now next (turn_text format e b) → Writes old next format events batches behind rest
writes-more old now next format events batches left behind others rest e b so_far le lb more = record {
  rows = so_far.rows ++ turn_text format e b;
  written = Appends-trans old now next so_far.rows (turn_text format e b) so_far.written more;
  all = append_assoc so_far.rows (turn_text format e b) (turns_text format behind rest)
      ∙ ap (λ (t : List ℕ). so_far.rows ++ t)
      (sym (ap (λ (es : List Event). turns_text format es others) le
      ∙ ap (λ (bs : List law.Batch). turns_text format (e ∷ behind) bs) lb))
      ∙ so_far.all;
}

pub writes-done : (old now : Option (List ℕ)) (format : Format) (events : List Event) (batches : List law.Batch)
    (left : List Event) (others : List law.Batch) → Writes old now format events batches left others → left ≡ []
    → Appends old now (turns_text format events batches)
writes-done old now format events batches left others so_far none =
    subst (Appends old now)
    (sym (append-nil so_far.rows)
    ∙ ap (λ (es : List Event). so_far.rows ++ turns_text format es others) (sym none) ∙ so_far.all)
    so_far.written

-- ---- parts of a day

turns-both : (format : Format) (events more : List Event) (batches others : List law.Batch)
    → length events ≡ length batches
    → turns_text format (events ++ more) (batches ++ others)
    ≡ turns_text format events batches ++ turns_text format more others
turns-both format [] more [] others same = refl
turns-both format [] more (b ∷ batches) others same = absurd (omega (arith, same))
turns-both format (e ∷ events) more [] others same = absurd (omega (arith, same))
turns-both format (e ∷ events) more (b ∷ batches) others same =
    ap (λ (t : List ℕ). turn_text format e b ++ t) (turns-both format events more batches others (omega (arith, same)))
    ∙ sym (append_assoc (turn_text format e b) (turns_text format events batches) (turns_text format more others))

-- the rows of the pages that were given so far
pub record SoFar (known later old now : Option (List ℕ)) (format : Format) (read : List ℕ) (told : List (List ℕ))
    : Type 0 where
  pub consumed : Consumes known later read
  pub count : length (kept_in told).events ≡ length (kept_in told).batches
  pub written : Appends old now (turns_text format (kept_in told).events (kept_in told).batches)

pub begun : (known old : Option (List ℕ)) (format : Format) (read : List ℕ) (told : List (List ℕ)) → read ≡ []
    → told ≡ [] → SoFar known known old old format read told
begun known old format read told er et = record {
  consumed = subst (Consumes known known) (sym er) (Consumes-nil known);
  count = ap (λ (ps : List (List ℕ)). length (kept_in ps).events) et
      ∙ ap (λ (ps : List (List ℕ)). length (kept_in ps).batches) (sym et);
  written = subst (λ (ps : List (List ℕ)). Appends old old
      (turns_text format (kept_in ps).events (kept_in ps).batches)) (sym et) (Appends-nil old);
}

read-on : (known mid later : Option (List ℕ)) (before after : List ℕ) → Consumes known mid before
    → ReadsOn mid later before after → Consumes known later after
read-on known mid later before after first on =
    subst (Consumes known later) (sym on.2) (Consumes-trans known mid later before on.0 first on.1)

pub gone-on : (known mid later old now next : Option (List ℕ)) (format : Format) (before after : List ℕ)
    (told new : List (List ℕ)) (part : Kept) → SoFar known mid old now format before told
    → ReadsOn mid later before after → GoOnBy told part new
    → Appends now next (turns_text format part.events part.batches) → SoFar known later old next format after new
gone-on known mid later old now next format before after told new part so_far on goes more =
    let was = so_far.count in
    let here = goes.count in
    let events : length (kept_in new).events ≡ length ((kept_in told).events ++ part.events) = ap length goes.told in
    let batches : length (kept_in new).batches ≡ length ((kept_in told).batches ++ part.batches) = ap length goes.gave in
    let es = length-append (kept_in told).events part.events in
    let bs = length-append (kept_in told).batches part.batches in
    record {
      consumed = read-on known mid later before after so_far.consumed on;
      count = omega (arith, was, here, events, batches, es, bs);
      written = subst (Appends old next)
          (sym (ap (λ (xs : List Event). turns_text format xs (kept_in new).batches) goes.told
          ∙ ap (λ (ys : List law.Batch). turns_text format ((kept_in told).events ++ part.events) ys) goes.gave
          ∙ turns-both format (kept_in told).events part.events (kept_in told).batches part.batches was))
          (Appends-trans old now next (turns_text format (kept_in told).events (kept_in told).batches)
          (turns_text format part.events part.batches) so_far.written more);
    }

pub ended : (known mid later old now : Option (List ℕ)) (format : Format) (before after : List ℕ)
    (told new : List (List ℕ)) (ending : Ending) → SoFar known mid old now format before told
    → ReadsOn mid later before after → Says after (kept_in new) ending × (new ≡ told) × IsAtEnd later
    → IsReadTo known later (λ file. ReadsRows format file ending old now)
ended known mid later old now format before after told new ending so_far on is = (
  after,
  read-on known mid later before after so_far.consumed on,
  is.2,
  record {
    day = kept_in new;
    says = is.0;
    written = subst (λ (ps : List (List ℕ)). Appends old now
        (turns_text format (kept_in ps).events (kept_in ps).batches)) (sym is.1) so_far.written;
  },
)

pub unread : (known mid later old now : Option (List ℕ)) (format : Format) (before after : List ℕ)
    (told : List (List ℕ)) (fault : ReadFault) → SoFar known mid old now format before told
    → ReadsOn mid later before after → IsRefused later after fault → IsUnexported known later (File fault)
unread known mid later old now format before after told (NoFile n fault) so_far on why =
    (after, read-on known mid later before after so_far.consumed on, why)
unread known mid later old now format before after told NoMemory so_far on why = tt
unread known mid later old now format before after told (Read error) so_far on why = tt

-- ---- a day

pub exported-by : (known later old mid now new : Option (List ℕ)) (format : Format) (ending : Ending)
    → Appends old mid (head_text format) → IsReadTo known later (λ file. ReadsRows format file ending mid now)
    → Keeps now new → IsReadTo known later (λ file. IsExport format file ending old new)
exported-by known later old mid now new format ending head read keeps = (
  read.0,
  read.1,
  read.2,
  record {
    day = read.3.day;
    says = read.3.says;
    written = Appends-kept old now new (head_text format ++ turns_text format read.3.day.events read.3.day.batches)
        (Appends-trans old mid now (head_text format) (turns_text format read.3.day.events read.3.day.batches) head
        read.3.written) keeps;
  },
)
