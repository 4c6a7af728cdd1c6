-- What a Replace Order and a Cancel Order ask by their layouts.
use Rattle.std.proofs.Common.{◌≡◌, Bool, true, false, ℕ, List, [], ◌∷◌, length, refl, sym, ap, ◌∙◌}
use Rattle.std.specs.Prelude.{◌&&◌, ◌==◌, nat_le, Option, Some, bytes_eq, codes, slice_index}
use Rattle.std.specs.Str.Parse.{digits_value}
use Rattle.ouch_codec.specs.declared.inbound.cancel.Cancel.{Cancel}
use Rattle.ouch_codec.specs.declared.inbound.replace.Replace.{Replace}
use Rattle.ouch_codec.specs.Layout.{is_message}
use Rattle.ouch_codec.specs.Layouts as layouts
use Rattle.ouch_codec.specs.CancelParts.{SaysCancel-written}
use Rattle.ouch_codec.specs.ReplaceParts.{SaysReplace-written}
use Rattle.ouch_codec.specs.CancelParts as spelled_cancel
use Rattle.ouch_codec.specs.ReplaceParts as spelled_replace
use Rattle.ouch_codec.specs.ToMarket as said
use Rattle.order_law.specs.Headline.{Says}
use Rattle.order_law.specs.fix_fields.Field.{Message, is, text}
use Rattle.order_law.specs.Asks.{Change, Standing, Stop, ask_of_bytes, asked_by_request, display_of, life_time_of}
use Rattle.order_law.specs.Asks.{life_time_of_seconds, limit_of, limits_of, minimum_of, total_of}
use Rattle.to_market.specs.declared.replace_ask.ReplaceAsk.{ReplaceAsk}
use Rattle.to_market.specs.RequestAsks.{AsksToReplace, cancel_asked_with, cancel_bytes, replace_asked_with}
use Rattle.to_market.specs.RequestAsks.{replace_bytes}

with_false : (x : Bool) → (x && false) ≡ false
with_false true = refl
with_false false = refl

-- bytes that begin with another type are no Enter Order, and no Replace Order
no_enter_order : (bytes : List ℕ) → (slice_index bytes 0 == 79) ≡ false
    → is_message layouts.enter_order_layout bytes ≡ false
no_enter_order [] h = refl
no_enter_order (b ∷ bytes) h = rw h (with_false (nat_le 1 (length (b ∷ bytes))))

no_replace_order : (bytes : List ℕ) → (slice_index bytes 0 == 85) ≡ false
    → is_message layouts.replace_layout bytes ≡ false
no_replace_order [] h = refl
no_replace_order (b ∷ bytes) h = rw h (with_false (nat_le 1 (length (b ∷ bytes))))

-- a Replace Order that has what was asked
pub record Replaces (ask : ReplaceAsk) (live : List ℕ) (message : Replace) : Type 0 where
  pub token : message.token ≡ live
  pub replacement : message.replacement_token ≡ ask.token
  pub shares : message.shares ≡ ask.shares
  pub price : message.price ≡ ask.price
  pub time_in_force : message.time_in_force ≡ ask.time_in_force
  pub display : message.display ≡ ask.display
  pub sweep : message.intermarket_sweep ≡ 78
  pub minimum : message.minimum_quantity ≡ ask.minimum_quantity

ask_of_replaces : (ask : ReplaceAsk) (live : List ℕ) (message : Replace) (m : Message) (order : ℕ) (standing : Standing)
    (order_of : List ℕ → Option ℕ) (bytes : List ℕ)
    → AsksToReplace ask m → Replaces ask live message → spelled_replace.SaysReplace message bytes
    → order_of live ≡ Some order
    → ask_of_bytes standing order_of bytes ≡ Some (Change order (limits_of m))
ask_of_replaces ask live message m order standing order_of bytes asks has says leads =
    let no_enter : is_message layouts.enter_order_layout bytes ≡ false =
    no_enter_order bytes (ap (λ (b : ℕ). b == 79) says.type) in
    let token : order_of (said.token bytes) ≡ Some order = ap order_of (says.token ∙ has.token) ∙ leads in
    let life : life_time_of_seconds (said.replace_time_in_force bytes) ≡ Some (life_time_of m) =
    ap life_time_of_seconds (says.time_in_force ∙ has.time_in_force) ∙ asks.life_time in
    let shares : said.replace_shares bytes ≡ total_of m = says.shares ∙ has.shares ∙ asks.shares in
    let price : said.replace_price bytes ≡ limit_of m = says.price ∙ has.price ∙ asks.price in
    let minimum : said.replace_minimum bytes ≡ minimum_of m = says.minimum ∙ has.minimum ∙ asks.minimum in
    let display : said.replace_display bytes ≡ display_of m = says.display ∙ has.display ∙ asks.display in
    let sweep : said.replace_sweep bytes ≡ 78 = says.sweep ∙ has.sweep in
    rw (no_enter, says.is_one, token, life, sweep, shares, price, minimum, display) refl

asked_by_replace : (order : ℕ) (m : Message) → text 35 m ≡ codes "G" → asked_by_request order m ≡ Some (Change order (limits_of m))
asked_by_replace order m kind =
    let is_g : is 35 (codes "G") m ≡ true = ap (λ (t : List ℕ). bytes_eq t (codes "G")) kind in
    rw is_g refl

asked_by_cancel : (order : ℕ) (m : Message) → text 35 m ≡ codes "F" → asked_by_request order m ≡ Some (Stop order)
asked_by_cancel order m kind =
    let no_g : is 35 (codes "G") m ≡ false = ap (λ (t : List ℕ). bytes_eq t (codes "G")) kind in
    let is_f : is 35 (codes "F") m ≡ true = ap (λ (t : List ℕ). bytes_eq t (codes "F")) kind in
    rw (no_g, is_f) refl

-- its bytes say what a replace asks
pub says_replace : (ask : ReplaceAsk) (live : List ℕ) (message : Replace) (m : Message) (order : List ℕ)
    (standing : Standing) (order_of : List ℕ → Option ℕ)
    → AsksToReplace ask m → Replaces ask live message → order_of live ≡ Some (digits_value 10 order)
    → Says standing order_of (replace_asked_with order live ask.token m) (replace_bytes message)
says_replace ask live message m order standing order_of asks has leads =
    let says = SaysReplace-written message in
    record {
      tokens = (ap (λ (b : ℕ). b == 85) says.type, says.token ∙ has.token, says.replacement_token ∙ has.replacement);
      ask = ask_of_replaces ask live message m (digits_value 10 order) standing order_of
          (replace_bytes message) asks has says leads ∙ sym (asked_by_replace (digits_value 10 order) m asks.kind);
    }

ask_of_cancels : (message : Cancel) (order : ℕ) (standing : Standing) (order_of : List ℕ → Option ℕ) (bytes : List ℕ)
    → message.shares ≡ 0 → spelled_cancel.SaysCancel message bytes → order_of message.token ≡ Some order
    → ask_of_bytes standing order_of bytes ≡ Some (Stop order)
ask_of_cancels message order standing order_of bytes all says leads =
    let no_enter : is_message layouts.enter_order_layout bytes ≡ false =
    no_enter_order bytes (ap (λ (b : ℕ). b == 79) says.type) in
    let no_replace : is_message layouts.replace_layout bytes ≡ false =
    no_replace_order bytes (ap (λ (b : ℕ). b == 85) says.type) in
    let token : order_of (said.token bytes) ≡ Some order = ap order_of says.token ∙ leads in
    let shares : (said.cancel_shares bytes == 0) ≡ true = ap (λ (n : ℕ). n == 0) (says.shares ∙ all) in
    rw (no_enter, no_replace, says.is_one, shares, token) refl

-- its bytes say what a cancel asks
pub says_cancel : (message : Cancel) (m : Message) (order : List ℕ) (standing : Standing) (order_of : List ℕ → Option ℕ)
    → message.shares ≡ 0 → text 35 m ≡ codes "F" → order_of message.token ≡ Some (digits_value 10 order)
    → Says standing order_of (cancel_asked_with order message.token m) (cancel_bytes message)
says_cancel message m order standing order_of all kind leads =
    let says = SaysCancel-written message in
    record {
      tokens = (ap (λ (b : ℕ). b == 88) says.type, says.token);
      ask = ask_of_cancels message (digits_value 10 order) standing order_of (cancel_bytes message) all says leads
          ∙ sym (asked_by_cancel (digits_value 10 order) m kind);
    }
