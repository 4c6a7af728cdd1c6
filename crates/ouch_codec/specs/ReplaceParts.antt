-- What the bytes of a Replace Order say, by the offsets of its layout, are the fields that it was made of.
use Rattle.std.proofs.Common.{◌≡◌, ℕ, true, List, arith}
use Rattle.std.specs.Prelude.{codes, slice_index}
use Rattle.ouch_codec.specs.declared.inbound.replace.Replace.{Replace}
use Rattle.ouch_codec.specs.Layout.{is_message, spelled}
use Rattle.ouch_codec.specs.Layouts.{replace_layout}
use Rattle.ouch_codec.specs.Rows.{replace_row}
use Rattle.ouch_codec.specs.LaidOut.{written, is_message-written, at_place}
use Rattle.ouch_codec.specs.ReplaceLaws.{replace_laid_out}
use Rattle.ouch_codec.specs.Parts.{type_of}
use Rattle.ouch_codec.specs.PartLaws.{byte_at-one, number_at-four}
use Rattle.ouch_codec.specs.ToMarket as said

-- these bytes are a Replace Order that says the fields of this one
pub record SaysReplace (m : Replace) (bytes : List ℕ) : Type 0 where
  pub is_one : is_message replace_layout bytes ≡ true
  pub type : type_of bytes ≡ slice_index (codes "U") 0
  pub token : said.token bytes ≡ m.token
  pub replacement_token : said.replacement_token bytes ≡ m.replacement_token
  pub shares : said.replace_shares bytes ≡ m.shares
  pub price : said.replace_price bytes ≡ m.price
  pub time_in_force : said.replace_time_in_force bytes ≡ m.time_in_force
  pub display : said.replace_display bytes ≡ m.display
  pub sweep : said.replace_sweep bytes ≡ m.intermarket_sweep
  pub minimum : said.replace_minimum bytes ≡ m.minimum_quantity

-- a Replace Order is written as bytes that say it
pub SaysReplace-written : (m : Replace) → SaysReplace m (spelled replace_layout (replace_row m))
SaysReplace-written m =
    let bytes = written replace_laid_out m in
    let place = at_place replace_laid_out m in
    record {
      is_one = is_message-written replace_laid_out m;
      type = byte_at-one 0 _ bytes (place 0);
      token = place 1;
      replacement_token = place 2;
      shares = number_at-four 29 m.shares bytes (omega (arith, m.shares_set.1)) (place 3);
      price = number_at-four 33 m.price bytes m.price_set (place 4);
      time_in_force = number_at-four 37 m.time_in_force bytes m.time_in_force_set (place 5);
      display = byte_at-one 41 _ bytes (place 6);
      sweep = byte_at-one 42 _ bytes (place 7);
      minimum = number_at-four 43 m.minimum_quantity bytes m.minimum_quantity_set (place 8);
    }
