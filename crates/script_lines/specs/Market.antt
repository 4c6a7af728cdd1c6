-- What the words of a market's line say, field by field. A token is given by its number; what a line doesn't say is in
-- `Defaults.antt`. (OUCH 4.2, "Outbound Messages".)
use Rattle.std.specs.Prelude.{◌≡◌, ℕ, ◌-◌, List, [], ◌∷◌, ◌++◌, length, replicate, codes, slice_index}
use Rattle.tokens.specs.TokenText.{token_text}
use Rattle.ouch_codec.specs.declared.side.Side.{Side}
use Rattle.ouch_codec.specs.declared.order_state.OrderState.{OrderState}
use Rattle.ouch_codec.specs.declared.outbound.Outbound.{Outbound}
use Rattle.ouch_codec.specs.declared.outbound.Outbound.TheVariants as outbound
use Rattle.ouch_codec.specs.declared.outbound.system_event.SystemEvent.{SystemEvent}
use Rattle.ouch_codec.specs.declared.outbound.accepted.Accepted.{Accepted}
use Rattle.ouch_codec.specs.declared.outbound.replaced.Replaced.{Replaced}
use Rattle.ouch_codec.specs.declared.outbound.canceled.Canceled.{Canceled}
use Rattle.ouch_codec.specs.declared.outbound.executed.Executed.{Executed}
use Rattle.ouch_codec.specs.declared.outbound.broken.Broken.{Broken}
use Rattle.ouch_codec.specs.declared.outbound.rejected.Rejected.{Rejected}
use Rattle.ouch_codec.specs.declared.outbound.cancel_pending.CancelPending.{CancelPending}
use Rattle.ouch_codec.specs.declared.outbound.cancel_reject.CancelReject.{CancelReject}
use Rattle.ouch_codec.specs.Letters.{side_letter, order_state_letter}
use Rattle.script_lines.specs.Words.{number_in}

-- the byte of a letter
abbrev letter : List ℕ → ℕ
letter text = slice_index text 0

-- `side shares stock price tif state`
pub record AreTerms (side_word shares_word stock_word price_word time_word state_word : List ℕ) (side : Side)
    (shares : ℕ) (stock : List ℕ) (price time_in_force : ℕ) (order_state : OrderState) : Type 0 where
  pub side_said : side_word ≡ side_letter side ∷ []
  pub shares_said : shares ≡ number_in shares_word
  pub stock_said : stock ≡ stock_word ++ replicate (8 - length stock_word) 32
  pub price_said : price ≡ number_in price_word
  pub time_said : time_in_force ≡ number_in time_word
  pub state_said : state_word ≡ order_state_letter order_state ∷ []

abbrev pub SaysTerms : List (List ℕ) → Side → ℕ → List ℕ → ℕ → ℕ → OrderState → Type 0
SaysTerms (a ∷ b ∷ c ∷ d ∷ e ∷ f ∷ []) side shares stock price time_in_force order_state =
    AreTerms a b c d e f side shares stock price time_in_force order_state
SaysTerms words side shares stock price time_in_force order_state = ⊥

-- what a line of an Accepted or a Replaced doesn't say
pub record AreDefaults (timestamp : ℕ) (firm : List ℕ) (display capacity sweep minimum cross weight : ℕ) : Type 0 where
  pub no_time : timestamp ≡ 0
  pub firm_is : firm ≡ codes "FIRM"
  pub shown : display ≡ letter (codes "Y")
  pub as_agent : capacity ≡ letter (codes "A")
  pub no_sweep : sweep ≡ letter (codes "N")
  pub no_minimum : minimum ≡ 0
  pub no_cross : cross ≡ letter (codes "N")
  pub no_weight : weight ≡ letter (codes " ")

-- `event`
abbrev pub SaysSystemEvent : List (List ℕ) → SystemEvent → Type 0
SaysSystemEvent (event ∷ []) m = (m.timestamp ≡ 0) × (event ≡ m.event ∷ [])
SaysSystemEvent words m = ⊥

-- `n side shares stock price tif state`
abbrev pub SaysAccepted : List (List ℕ) → Accepted → Type 0
SaysAccepted [] m = ⊥
SaysAccepted (n ∷ words) m =
    (m.token ≡ token_text (number_in n))
    × (m.order_reference ≡ number_in n)
    × SaysTerms words m.side m.shares m.stock m.price m.time_in_force m.order_state
    × AreDefaults m.timestamp m.firm m.display m.capacity m.intermarket_sweep m.minimum_quantity m.cross_type
    m.bbo_weight

-- `new old side shares stock price tif state`
abbrev pub SaysReplaced : List (List ℕ) → Replaced → Type 0
SaysReplaced (new ∷ old ∷ words) m =
    (m.token ≡ token_text (number_in new))
    × (m.previous_token ≡ token_text (number_in old))
    × (m.order_reference ≡ number_in new)
    × SaysTerms words m.side m.shares m.stock m.price m.time_in_force m.order_state
    × AreDefaults m.timestamp m.firm m.display m.capacity m.intermarket_sweep m.minimum_quantity m.cross_type
    m.bbo_weight
SaysReplaced words m = ⊥

-- `n shares reason`
abbrev pub SaysCanceled : List (List ℕ) → Canceled → Type 0
SaysCanceled (n ∷ shares ∷ reason ∷ []) m =
    (m.timestamp ≡ 0)
    × (m.token ≡ token_text (number_in n))
    × (m.decrement ≡ number_in shares)
    × (reason ≡ m.reason ∷ [])
SaysCanceled words m = ⊥

-- `n shares price match`
abbrev pub SaysExecuted : List (List ℕ) → Executed → Type 0
SaysExecuted (n ∷ shares ∷ price ∷ match_number ∷ []) m =
    (m.timestamp ≡ 0)
    × (m.token ≡ token_text (number_in n))
    × (m.shares ≡ number_in shares)
    × (m.price ≡ number_in price)
    × (m.liquidity ≡ letter (codes "R"))
    × (m.match_number ≡ number_in match_number)
SaysExecuted words m = ⊥

-- `n match reason`
abbrev pub SaysBroken : List (List ℕ) → Broken → Type 0
SaysBroken (n ∷ match_number ∷ reason ∷ []) m =
    (m.timestamp ≡ 0)
    × (m.token ≡ token_text (number_in n))
    × (m.match_number ≡ number_in match_number)
    × (reason ≡ m.reason ∷ [])
SaysBroken words m = ⊥

-- `n reason`
abbrev pub SaysRejected : List (List ℕ) → Rejected → Type 0
SaysRejected (n ∷ reason ∷ []) m = (m.timestamp ≡ 0) × (m.token ≡ token_text (number_in n)) × (reason ≡ m.reason ∷ [])
SaysRejected words m = ⊥

-- `n`
abbrev pub SaysCancelPending : List (List ℕ) → CancelPending → Type 0
SaysCancelPending (n ∷ []) m = (m.timestamp ≡ 0) × (m.token ≡ token_text (number_in n))
SaysCancelPending words m = ⊥

-- `n`
abbrev pub SaysCancelReject : List (List ℕ) → CancelReject → Type 0
SaysCancelReject (n ∷ []) m = (m.timestamp ≡ 0) × (m.token ≡ token_text (number_in n))
SaysCancelReject words m = ⊥

-- a market's line behind the port's name: the letter of the message's type, and its words
abbrev pub SaysMarket : List (List ℕ) → Outbound → Type 0
SaysMarket [] m = ⊥
SaysMarket (name ∷ words) (outbound.SystemEvent m) = (name ≡ codes "S") × SaysSystemEvent words m
SaysMarket (name ∷ words) (outbound.Accepted m) = (name ≡ codes "A") × SaysAccepted words m
SaysMarket (name ∷ words) (outbound.Replaced m) = (name ≡ codes "U") × SaysReplaced words m
SaysMarket (name ∷ words) (outbound.Canceled m) = (name ≡ codes "C") × SaysCanceled words m
SaysMarket (name ∷ words) (outbound.Executed m) = (name ≡ codes "E") × SaysExecuted words m
SaysMarket (name ∷ words) (outbound.Broken m) = (name ≡ codes "B") × SaysBroken words m
SaysMarket (name ∷ words) (outbound.Rejected m) = (name ≡ codes "J") × SaysRejected words m
SaysMarket (name ∷ words) (outbound.CancelPending m) = (name ≡ codes "P") × SaysCancelPending words m
SaysMarket (name ∷ words) (outbound.CancelReject m) = (name ≡ codes "I") × SaysCancelReject words m
SaysMarket (name ∷ words) outbound.Skipped = ⊥
