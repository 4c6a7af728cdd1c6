-- What an Enter Order that is made of an ask asks by its layout.
use Rattle.std.proofs.Common.{◌≡◌, true, ℕ, List, [], ◌∷◌, refl, ap, ◌∙◌, arith}
use Rattle.std.proofs.lemmas.Bool.Decides.{nat_tests}
use Rattle.std.specs.Prelude.{Option, Some, bytes_eq, ◌==◌}
use Rattle.ouch_codec.specs.declared.inbound.enter_order.EnterOrder.{EnterOrder}
use Rattle.ouch_codec.specs.Letters.{side_letter}
use Rattle.ouch_codec.specs.Parts.{unpadded}
use Rattle.ouch_codec.specs.Layout.{spelled}
use Rattle.ouch_codec.specs.Layouts.{enter_order_layout}
use Rattle.ouch_codec.specs.Rows.{enter_order_row}
use Rattle.ouch_codec.specs.EnterOrderParts.{SaysEnterOrder, SaysEnterOrder-written}
use Rattle.order_law.specs.Headline.{Says}
use Rattle.ouch_codec.specs.ToMarket as said
use Rattle.order_law.specs.fix_fields.Field.{Message, text, character}
use Rattle.order_law.specs.Asks.{ask_of_bytes, asked_by_new, side_of_letter, life_time_of_seconds, total_of, limit_of}
use Rattle.order_law.specs.Asks.{minimum_of, display_of, life_time_of, capacity_of}
use Rattle.to_market.specs.declared.client_terms.ClientTerms.{ClientTerms}
use Rattle.to_market.specs.declared.new_ask.NewAsk.{NewAsk}
use Rattle.to_market.specs.NewAsks.{AsksAs, client_standing, asked_with}

-- an Enter Order that has what was asked, and what its client's terms are
pub record Enters (ask : NewAsk) (terms : ClientTerms) (enter : EnterOrder) : Type 0 where
  pub side : enter.side ≡ ask.side
  pub shares : enter.shares ≡ ask.shares
  pub stock : enter.stock ≡ ask.stock
  pub price : enter.price ≡ ask.price
  pub time_in_force : enter.time_in_force ≡ ask.time_in_force
  pub firm : enter.firm ≡ terms.firm
  pub display : enter.display ≡ ask.display
  pub capacity : enter.capacity ≡ ask.capacity
  pub sweep : enter.intermarket_sweep ≡ 78
  pub minimum : enter.minimum_quantity ≡ ask.minimum_quantity
  pub cross : enter.cross_type ≡ 78
  pub customer : enter.customer_type ≡ terms.customer

same_byte : (n : ℕ) → (n == n) ≡ true
same_byte n = grind (arith, nat_tests)

same_bytes : (bs : List ℕ) → bytes_eq bs bs ≡ true
same_bytes [] = refl
same_bytes (b ∷ bs) = rw (same_byte b, same_bytes bs) refl

-- asks what the message asks
pub ask_of_bytes-enters : (ask : NewAsk) (terms : ClientTerms) (enter : EnterOrder) (m : Message) (bytes : List ℕ)
    (order_of : List ℕ → Option ℕ)
    → AsksAs ask terms.capacity m → Enters ask terms enter → SaysEnterOrder enter bytes
    → ask_of_bytes (client_standing terms) order_of bytes ≡ Some (asked_by_new terms.capacity m)
ask_of_bytes-enters ask terms enter m bytes order_of asks enters says =
    let side : side_of_letter (said.enter_side bytes) ≡ Some (character 54 m) =
    ap side_of_letter (says.side ∙ ap side_letter enters.side) ∙ asks.side in
    let life : life_time_of_seconds (said.enter_time_in_force bytes) ≡ Some (life_time_of m) =
    ap life_time_of_seconds (says.time_in_force ∙ enters.time_in_force) ∙ asks.life_time in
    let stock : said.enter_stock bytes ≡ text 55 m = says.stock ∙ ap unpadded enters.stock ∙ asks.symbol in
    let shares : said.enter_shares bytes ≡ total_of m = says.shares ∙ enters.shares ∙ asks.shares in
    let price : said.enter_price bytes ≡ limit_of m = says.price ∙ enters.price ∙ asks.price in
    let minimum : said.enter_minimum bytes ≡ minimum_of m = says.minimum ∙ enters.minimum ∙ asks.minimum in
    let display : said.enter_display bytes ≡ display_of m = says.display ∙ enters.display ∙ asks.display in
    let capacity : said.enter_capacity bytes ≡ capacity_of terms.capacity m = says.capacity ∙ enters.capacity
    ∙ asks.capacity in
    let firm : said.enter_firm bytes ≡ terms.firm = says.firm ∙ enters.firm in
    let customer : said.enter_customer bytes ≡ terms.customer = says.customer ∙ enters.customer in
    let sweep : said.enter_sweep bytes ≡ 78 = says.sweep ∙ enters.sweep in
    let cross : said.enter_cross bytes ≡ 78 = says.cross ∙ enters.cross in
    rw (
      says.is_one,
      side,
      life,
      firm,
      customer,
      sweep,
      cross,
      same_bytes terms.firm,
      same_byte terms.customer,
      stock,
      shares,
      price,
      minimum,
      display,
      capacity,
    ) refl

-- so its bytes say what was asked
pub says_what_is_asked : (ask : NewAsk) (terms : ClientTerms) (enter : EnterOrder) (m : Message) (order : List ℕ)
    (order_of : List ℕ → Option ℕ)
    → AsksAs ask terms.capacity m → Enters ask terms enter
    → Says (client_standing terms) order_of (asked_with order enter.token terms.capacity m)
    (spelled enter_order_layout (enter_order_row enter))
says_what_is_asked ask terms enter m order order_of asks enters =
    let says = SaysEnterOrder-written enter in
    record {
      tokens = (ap (λ (b : ℕ). b == 79) says.type, says.token);
      ask = ask_of_bytes-enters ask terms enter m
          (spelled enter_order_layout (enter_order_row enter)) order_of asks enters says;
    }
