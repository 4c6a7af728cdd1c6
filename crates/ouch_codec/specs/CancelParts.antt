-- What the bytes of a Cancel Order say, by the offsets of its layout, are the fields that it was made of.
use Rattle.std.proofs.Common.{◌≡◌, ℕ, true, List, arith}
use Rattle.std.specs.Prelude.{codes, slice_index}
use Rattle.ouch_codec.specs.declared.inbound.cancel.Cancel.{Cancel}
use Rattle.ouch_codec.specs.Layout.{is_message, spelled}
use Rattle.ouch_codec.specs.Layouts.{cancel_layout}
use Rattle.ouch_codec.specs.Rows.{cancel_row}
use Rattle.ouch_codec.specs.LaidOut.{written, is_message-written, at_place}
use Rattle.ouch_codec.specs.CancelLaws.{cancel_laid_out}
use Rattle.ouch_codec.specs.Parts.{type_of}
use Rattle.ouch_codec.specs.PartLaws.{byte_at-one, number_at-four}
use Rattle.ouch_codec.specs.ToMarket as said

-- these bytes are a Cancel Order that says the fields of this one
pub record SaysCancel (m : Cancel) (bytes : List ℕ) : Type 0 where
  pub is_one : is_message cancel_layout bytes ≡ true
  pub type : type_of bytes ≡ slice_index (codes "X") 0
  pub token : said.token bytes ≡ m.token
  pub shares : said.cancel_shares bytes ≡ m.shares

-- a Cancel Order is written as bytes that say it
pub SaysCancel-written : (m : Cancel) → SaysCancel m (spelled cancel_layout (cancel_row m))
SaysCancel-written m =
    let bytes = written cancel_laid_out m in
    let place = at_place cancel_laid_out m in
    record {
      is_one = is_message-written cancel_laid_out m;
      type = byte_at-one 0 _ bytes (place 0);
      token = place 1;
      shares = number_at-four 15 m.shares bytes (omega (arith, m.shares_set)) (place 2);
    }
