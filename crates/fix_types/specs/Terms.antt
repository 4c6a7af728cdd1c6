-- The texts of the terms of a new order, of a replace and of a report.
use Rattle.std.specs.Prelude.{◌≡◌, ℕ, true, List, Option}
use Rattle.fix_values.specs.Field.{Field, first_value}
use Rattle.fix_values.specs.declared.format.Format.TheVariants as formats
use Rattle.fix_types.specs.declared.terms.Terms.{Terms}
use Rattle.fix_types.specs.declared.report_reading.ReportTexts.{ReportTexts}
use Rattle.fix_values.specs.Texts.{is_float}
use Rattle.fix_values.specs.Formats.{passes}
use Rattle.fix_values.specs.Slots.{text_of}

abbrev pub terms_with : List ℕ → Option (List ℕ) → Option (List ℕ) → Option (List ℕ) → Terms
terms_with quantity price instruction minimum = record {
  order_qty = quantity;
  price = price;
  exec_inst = instruction;
  min_qty = minimum;
}

-- the terms that fields say
abbrev pub terms_said : List Field → Terms
terms_said fs = terms_with (text_of 38 fs) (first_value 44 fs) (first_value 18 fs) (first_value 110 fs)

-- what terms keep
pub record AreTermTexts (t : Terms) : Type 0 where
  pub order_qty : is_float t.order_qty ≡ true
  pub price : passes formats.Float t.price ≡ true
  pub min_qty : passes formats.Float t.min_qty ≡ true

-- the texts that fields say as a report's, but for its ids and its symbol
abbrev pub report_texts_of : List Field → ReportTexts
report_texts_of fs = record {
  order_qty = text_of 38 fs;
  price = first_value 44 fs;
  last_px = first_value 31 fs;
  avg_px = text_of 6 fs;
  text = first_value 58 fs;
}
