-- A report that is filled in so is the one that the law writes.
use Rattle.std.proofs.Common.{◌≡◌, ℕ, List, [], ◌∷◌, ◌++◌, refl, sym, ap, ◌∙◌, append_assoc, decimal, codes}
use Rattle.std.proofs.lemmas.List.{append-nil}
use Rattle.std.specs.Prelude.{Option, Some, None, map, option_map, unwrap_or}
use Rattle.std.specs.Fmt.{digits}
use Rattle.order_law.specs.fix_fields.Field.{Field, Message, text}
use Rattle.fixed_point.specs.Price.{price_text}
use Rattle.orders.specs.fix_types.declared.report.Report.{Report}
use Rattle.orders.specs.fix_types.Report.{report_fields, report_slots}
use Rattle.fix_values.specs.Letters.{exec_letter, status_letter}
use Rattle.fix_values.specs.Slots.{FieldSlot, appended, char_text, number_text, slot_fields, value_fields}
use Rattle.order_law.specs.History.{Entry}
use Rattle.order_law.specs.Reading.{average_of}
use Rattle.order_law.specs.Told as law
use Rattle.to_client.specs.declared.occasion.Details.{Details}
use Rattle.to_client.specs.declared.occasion.Occasion.{Occasion}
use Rattle.to_client.specs.declared.occasion.Occasion.TheVariants as occasions
use Rattle.to_client.specs.declared.shown.Request.{Request}
use Rattle.to_client.specs.declared.shown.Shown.{Shown}
use Rattle.to_client.specs.Occasions.{average_of_text, details_of, occasion_seen}
use Rattle.to_client.specs.Shows.{IsAnyRequest, IsOccasion, ShowsAs, id_told, orig_told, report_with}
use Rattle.to_client.proofs.Statuses.{status-shown}

-- slots one after another are their fields one after another
appended-in_order : (fs : List Field) (slots : List FieldSlot)
    → appended fs slots ≡ fs ++ law.in_order (map slot_fields slots)
appended-in_order fs [] = sym (append-nil fs)
appended-in_order fs (s ∷ slots) = appended-in_order (fs ++ slot_fields s) slots
    ∙ append_assoc fs (slot_fields s) (law.in_order (map slot_fields slots))

same_part : (tag : ℕ) (value : Option (List ℕ)) → value_fields tag value ≡ law.optional tag value
same_part tag None = refl
same_part tag (Some value) = refl

-- what a report says, field by field
record Fields : Type 0 where
  order : List ℕ
  id : List ℕ
  orig : Option (List ℕ)
  number : List ℕ
  broken : Option (List ℕ)
  kind : List ℕ
  status : List ℕ
  code : Option (List ℕ)
  restated : Option (List ℕ)
  symbol : List ℕ
  side : List ℕ
  total : List ℕ
  price : List ℕ
  shares : Option (List ℕ)
  at : Option (List ℕ)
  leaves : List ℕ
  executed : List ℕ
  average : List ℕ
  why : Option (List ℕ)

-- in the standard's order
abbrev written : Fields → Message
written f = law.in_order (
    law.told_field 35 (codes "8")
    ∷ law.told_field 37 f.order
    ∷ law.told_field 11 f.id
    ∷ law.optional 41 f.orig
    ∷ law.told_field 17 f.number
    ∷ law.optional 19 f.broken
    ∷ law.told_field 150 f.kind
    ∷ law.told_field 39 f.status
    ∷ law.optional 103 f.code
    ∷ law.optional 378 f.restated
    ∷ law.told_field 55 f.symbol
    ∷ law.told_field 54 f.side
    ∷ law.told_field 38 f.total
    ∷ law.told_field 44 f.price
    ∷ law.optional 32 f.shares
    ∷ law.optional 31 f.at
    ∷ law.told_field 151 f.leaves
    ∷ law.told_field 14 f.executed
    ∷ law.told_field 6 f.average
    ∷ law.optional 58 f.why
    ∷ [])

abbrev fields_in : Report → List ℕ → Fields
fields_in r price = record {
  order = decimal r.order_id;
  id = r.cl_ord_id;
  orig = r.orig_cl_ord_id;
  number = decimal r.exec_id;
  broken = number_text r.exec_ref_id;
  kind = exec_letter r.exec_type ∷ [];
  status = status_letter r.ord_status ∷ [];
  code = number_text r.ord_rej_reason;
  restated = number_text r.exec_restatement_reason;
  symbol = r.symbol;
  side = r.side ∷ [];
  total = r.order_qty;
  price = price;
  shares = number_text r.last_qty;
  at = r.last_px;
  leaves = decimal r.leaves_qty;
  executed = decimal r.cum_qty;
  average = r.avg_px;
  why = r.text;
}

report-written : (r : Report) (price : List ℕ) → r.price ≡ Some price → report_fields r ≡ written (fields_in r price)
report-written r price priced =
    appended-in_order [] (report_slots r)
    ∙ rw (
      priced,
      same_part 41 r.orig_cl_ord_id,
      same_part 19 (number_text r.exec_ref_id),
      same_part 103
          (number_text r.ord_rej_reason),
      same_part 378 (number_text r.exec_restatement_reason),
      same_part 32
          (number_text r.last_qty),
      same_part 31 r.last_px,
      same_part 58 r.text,
    ) refl

-- two that say the same
record Same (f g : Fields) : Type 0 where
  order : f.order ≡ g.order
  id : f.id ≡ g.id
  orig : f.orig ≡ g.orig
  number : f.number ≡ g.number
  broken : f.broken ≡ g.broken
  kind : f.kind ≡ g.kind
  status : f.status ≡ g.status
  code : f.code ≡ g.code
  restated : f.restated ≡ g.restated
  symbol : f.symbol ≡ g.symbol
  side : f.side ≡ g.side
  total : f.total ≡ g.total
  price : f.price ≡ g.price
  shares : f.shares ≡ g.shares
  at : f.at ≡ g.at
  leaves : f.leaves ≡ g.leaves
  executed : f.executed ≡ g.executed
  average : f.average ≡ g.average
  why : f.why ≡ g.why

same_written : (f g : Fields) → Same f g → written f ≡ written g
same_written f g s = rw (
  s.order,
  s.id,
  s.orig,
  s.number,
  s.broken,
  s.kind,
  s.status,
  s.code,
  s.restated,
  s.symbol,
  s.side,
  s.total,
  s.price,
  s.shares,
  s.at,
  s.leaves,
  s.executed,
  s.average,
  s.why,
) refl

-- as the law has it
abbrev fields_of : ℕ → law.Occasion → law.Shown → Fields
fields_of number o s = record {
  order = s.order;
  id = unwrap_or (option_map (λ (q : Entry). text 11 q.message) o.request) s.id;
  orig = option_map (λ (q : Entry). text 41 q.message) o.request;
  number = decimal number;
  broken = o.broken;
  kind = o.exec_type;
  status = law.status_of s;
  code = o.code;
  restated = o.restated;
  symbol = s.symbol;
  side = s.side;
  total = decimal s.total;
  price = price_text s.price;
  shares = option_map (λ n. decimal n) o.shares;
  at = option_map (λ n. price_text n) o.at;
  leaves = decimal s.leaves;
  executed = decimal s.executed;
  average = price_text (average_of s.value s.executed);
  why = o.why;
}

ids : (q : Option Request) (e : Option Entry) (x : Shown) (id : List ℕ) → IsAnyRequest q e → x.cl_ord_id.now ≡ id
    → id_told q x ≡ unwrap_or (option_map (λ (q : Entry). text 11 q.message) e) id
ids None None x id is own = own
ids None (Some e) x id is own = absurd is
ids (Some q) None x id is own = absurd is
ids (Some q) (Some e) x id is own = is.id

origs : (q : Option Request) (e : Option Entry) → IsAnyRequest q e
    → orig_told q ≡ option_map (λ (q : Entry). text 41 q.message) e
origs None None is = refl
origs None (Some e) is = absurd is
origs (Some q) None is = absurd is
origs (Some q) (Some e) is = ap (λ (t : List ℕ). Some t) is.orig

average-shown : (x : Shown) (s : law.Shown) → ShowsAs x s
    → average_of_text x.progress.now ≡ price_text (average_of s.value s.executed)
average-shown x s shows = ap (λ v. price_text (average_of v x.progress.now.executed)) shows.value
    ∙ ap (λ e. price_text (average_of s.value e)) shows.executed

-- the report on an order as it is shown, on this occasion
pub report-told : (number : ℕ) (d : Details) (q : Option Request) (x : Shown) (o : law.Occasion) (s : law.Shown)
    → IsOccasion d q o → ShowsAs x s → report_fields (report_with number d q x) ≡ law.report number o s
report-told number d q x o s is shows =
    report-written (report_with number d q x) (price_text x.progress.now.price) refl
    ∙ same_written (fields_in (report_with number d q x) (price_text x.progress.now.price)) (fields_of number o s)
    (record {
      order = shows.order;
      id = ids q o.request x s.id is.request shows.id;
      orig = origs q o.request is.request;
      number = refl;
      broken = is.broken;
      kind = is.exec_type;
      status = status-shown x s shows;
      code = is.code;
      restated = is.restated;
      symbol = shows.symbol;
      side = shows.side;
      total = ap decimal shows.total;
      price = ap (λ n. price_text n) shows.price;
      shares = ap (λ (v : Option ℕ). number_text v) is.shares;
      at = ap (λ (v : Option ℕ). option_map (λ n. price_text n) v) is.at;
      leaves = ap decimal shows.leaves;
      executed = ap decimal shows.executed;
      average = average-shown x s shows;
      why = is.why;
    })

five : decimal 5 ≡ codes "5"
unfolding digits
five = refl

ninety-nine : decimal 99 ≡ codes "99"
unfolding digits
ninety-nine = refl

-- the occasions without a request
plain : (d : Details) (o : law.Occasion) → exec_letter d.exec_type ∷ [] ≡ o.exec_type → o.request ≡ None
    → number_text d.exec_ref_id ≡ o.broken → number_text d.ord_rej_reason ≡ o.code
    → number_text d.exec_restatement_reason ≡ o.restated
    → d.last_qty ≡ o.shares → d.last_px ≡ o.at → char_text d.reason ≡ o.why → IsOccasion d None o
plain d o kind request broken code restated shares at why = record {
  request = rw request tt;
  exec_type = kind;
  broken = broken;
  code = code;
  restated = restated;
  shares = shares;
  at = at;
  why = why;
}

pub occasion-seen : (occasion : Occasion) → IsOccasion (details_of occasion) None (occasion_seen occasion)
occasion-seen occasions.PendingNew = plain _ _ refl refl refl refl refl refl refl refl
occasion-seen occasions.New = plain _ _ refl refl refl refl refl refl refl refl
occasion-seen (occasions.Trade shares price) = plain _ _ refl refl refl refl refl refl refl refl
occasion-seen (occasions.Restated reason) =
    plain _ _ refl refl refl refl (ap (λ (t : List ℕ). Some t) five) refl refl refl
occasion-seen (occasions.Canceled None) = plain _ _ refl refl refl refl refl refl refl refl
occasion-seen (occasions.Canceled (Some reason)) = plain _ _ refl refl refl refl refl refl refl refl
occasion-seen (occasions.TradeCancel exec_id reason) = plain _ _ refl refl refl refl refl refl refl refl
occasion-seen (occasions.Rejected reason) =
    plain _ _ refl refl refl (ap (λ (t : List ℕ). Some t) ninety-nine) refl refl refl refl
