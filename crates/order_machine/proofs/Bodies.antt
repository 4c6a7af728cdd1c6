-- What stands in a report and in a reject, by tag.
use Rattle.std.proofs.Common.{◌≡◌, ℕ, false, List, [], ◌∷◌, ◌++◌, refl, ◌∙◌, decimal, Option, Some, None}
use Rattle.std.specs.Prelude.{◌==◌, option_map}
use Rattle.fix_fields.specs.Field.{first_value, Message, text}
use Rattle.fixed_point.specs.Price.{price_text}
use Rattle.order_law.specs.Reading.{average_of}
use Rattle.order_law.specs.Headline.{stated}
use Rattle.order_law.specs.History.{Entry}
use Rattle.order_law.specs.Told.{Occasion, Shown, told_field, optional, in_order, report, status_of}

pub skip : (tag t : ℕ) (o : Option (List ℕ)) (rest : Message) → (t == tag) ≡ false
    → first_value tag (optional t o ++ rest) ≡ first_value tag rest
skip tag t None rest other = refl
skip tag t (Some v) rest other = rw other refl

module _ (n : ℕ) (o : Occasion) (s : Shown) where
  abbrev back : Message
  back = in_order (told_field 151 (decimal s.leaves) ∷ told_field 14 (decimal s.executed) ∷ told_field 6
      (price_text (average_of s.value s.executed)) ∷ optional 58 o.why ∷ [])

  abbrev last_parts : Message
  last_parts = optional 32 (option_map (λ n. decimal n) o.shares)
      ++ (optional 31 (option_map (λ n. price_text n) o.at) ++ back)

  abbrev terms_on : Message
  terms_on = told_field 55 s.symbol ++ (told_field 54 s.side
      ++ (told_field 38 (decimal s.total) ++ (told_field 44 (price_text s.price) ++ last_parts)))

  abbrev codes_on : Message
  codes_on = optional 103 o.code ++ (optional 378 o.restated ++ terms_on)

  abbrev kinds_on : Message
  kinds_on = told_field 150 o.exec_type ++ (told_field 39 (status_of s) ++ codes_on)

  abbrev ref_on : Message
  ref_on = told_field 17 (decimal n) ++ (optional 19 o.broken ++ kinds_on)

  abbrev old_id : Option (List ℕ)
  old_id = option_map (λ (q : Entry). text 41 q.message) o.request

  -- past what may stand between the ids and 150
  to_kinds : (tag : ℕ) → (41 == tag) ≡ false → (17 == tag) ≡ false → (19 == tag) ≡ false
      → first_value tag (optional 41 old_id ++ ref_on) ≡ first_value tag kinds_on
  to_kinds tag a b c = skip tag 41 old_id ref_on a ∙ rw b (skip tag 19 o.broken kinds_on c)

  to_terms : (tag : ℕ) → (103 == tag) ≡ false → (378 == tag) ≡ false
      → first_value tag codes_on ≡ first_value tag terms_on
  to_terms tag a b = skip tag 103 o.code (optional 378 o.restated ++ terms_on) a ∙ skip tag 378 o.restated terms_on b

  to_back : (tag : ℕ) → (32 == tag) ≡ false → (31 == tag) ≡ false → first_value tag last_parts ≡ first_value tag back
  to_back tag a b = skip tag 32 (option_map (λ n. decimal n) o.shares)
      (optional 31 (option_map (λ n. price_text n) o.at) ++ back) a
      ∙ skip tag 31 (option_map (λ n. price_text n) o.at) back b

  pub kind-in : first_value 150 (report n o s) ≡ Some o.exec_type
  kind-in = to_kinds 150 refl refl refl

  pub status-in : first_value 39 (report n o s) ≡ Some (status_of s)
  status-in = to_kinds 39 refl refl refl

  pub symbol-in : first_value 55 (report n o s) ≡ Some s.symbol
  symbol-in = to_kinds 55 refl refl refl ∙ to_terms 55 refl refl

  pub side-in : first_value 54 (report n o s) ≡ Some s.side
  side-in = to_kinds 54 refl refl refl ∙ to_terms 54 refl refl

  pub total-in : first_value 38 (report n o s) ≡ Some (decimal s.total)
  total-in = to_kinds 38 refl refl refl ∙ to_terms 38 refl refl

  pub leaves-in : first_value 151 (report n o s) ≡ Some (decimal s.leaves)
  leaves-in = to_kinds 151 refl refl refl ∙ (to_terms 151 refl refl ∙ to_back 151 refl refl)

  pub executed-in : first_value 14 (report n o s) ≡ Some (decimal s.executed)
  executed-in = to_kinds 14 refl refl refl ∙ (to_terms 14 refl refl ∙ to_back 14 refl refl)

  pub average-in : first_value 6 (report n o s) ≡ Some (price_text (average_of s.value s.executed))
  average-in = to_kinds 6 refl refl refl ∙ (to_terms 6 refl refl ∙ to_back 6 refl refl)

-- what a report states is what its order shows
pub stated-in : (n : ℕ) (o : Occasion) (s : Shown)
    → stated (report n o s) ≡ record {
      side = s.side;
      symbol = s.symbol;
      cumulated = decimal s.executed;
      leaves =
          decimal s.leaves;
      average = price_text (average_of s.value s.executed);
      total = decimal s.total;
      status =
          status_of s;
    }
stated-in n o s = rw (
  side-in n o s,
  symbol-in n o s,
  executed-in n o s,
  leaves-in n o s,
  average-in n o s,
  total-in n o
      s,
  status-in n o s,
) refl
