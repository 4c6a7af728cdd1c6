-- Computed: what a client has executed.
use Rattle.std.specs.Prelude.{◌≡◌, refl, ℕ, List, [], ◌∷◌, codes}
use Rattle.std.specs.Fmt.{digits}
use Rattle.order_machine.specs.Field.{Message}
use Rattle.order_machine.specs.fix_fields.Transcript.{message}
use Rattle.order_machine.specs.fixed_point.Decimal.{amount, amount_of, fraction, quantity, scaled, within, worth}
use Rattle.order_machine.specs.fixed_point.Decimal.{worth_of}
use Rattle.order_core.specs.Executed.{executed_shares, executed_value}

abbrev accepted : List Message
accepted = message (codes "35=8|37=1|11=A1|17=1|150=A|39=A|55=INTC|54=1|38=300|44=23.45|151=300|14=0|6=0") ∷ []

abbrev taken : List Message
taken = message (codes "35=8|37=1|11=A1|17=2|150=0|39=0|55=INTC|54=1|38=300|44=23.45|151=300|14=0|6=0") ∷ accepted

-- 100 shares at 23.44
abbrev traded : List Message
traded = message
    (codes "35=8|37=1|11=A1|17=3|150=F|39=1|55=INTC|54=1|38=300|44=23.45|32=100|31=23.44|151=200|14=100|6=23.44")
    ∷ taken

-- 50 more at 23.45
abbrev traded_again : List Message
traded_again = message
    (codes "35=8|37=1|11=A1|17=4|150=F|39=1|55=INTC|54=1|38=300|44=23.45|32=50|31=23.45|151=150|14=150|6=23.4433")
    ∷ traded

-- the first of both is taken back
abbrev broken : List Message
broken = message
    (codes "35=8|37=1|11=A1|17=5|150=H|39=1|55=INTC|54=1|38=200|44=23.45|19=3|32=100|31=23.44|151=150|14=50|6=23.45")
    ∷ traded_again

-- an order more, of which 7 shares are sold at 0.0001
abbrev second_order : List Message
second_order = message
    (codes "35=8|37=2|11=A2|17=8|150=F|39=2|55=INTC|54=2|38=7|44=0.0001|32=7|31=0.0001|151=0|14=7|6=0.0001")
    ∷ message (codes "35=8|37=2|11=A2|17=7|150=0|39=0|55=INTC|54=2|38=7|44=0.0001|151=7|14=0|6=0")
    ∷ message (codes "35=8|37=2|11=A2|17=6|150=A|39=A|55=INTC|54=2|38=7|44=0.0001|151=7|14=0|6=0") ∷ broken

-- a trade of an order that was never accepted
abbrev unknown : List Message
unknown = message
    (codes "35=8|37=9|11=A9|17=9|150=F|39=2|55=INTC|54=1|38=10|44=1|32=10|31=1|151=0|14=10|6=1") ∷ second_order

of_shares :
    (executed_shares [] ≡ 0)
    × (executed_shares accepted ≡ 0)  -- it was accepted
    × (executed_shares taken ≡ 0)  -- it is in the book
    × (executed_shares traded ≡ 100)
    × (executed_shares traded_again ≡ 150)
    × (executed_shares broken ≡ 50)
    × (executed_shares second_order ≡ 57)  -- of both orders
    × (executed_shares unknown ≡ 57)
unfolding digits quantity amount amount_of within scaled fraction worth worth_of
of_shares = (refl, refl, refl, refl, refl, refl, refl, refl)

of_value :
    (executed_value [] ≡ 0)
    × (executed_value taken ≡ 0)  -- what is open isn't executed
    × (executed_value traded ≡ 23_440_000)  -- at the price of the trade, not at that of the order
    × (executed_value traded_again ≡ 35_165_000)
    × (executed_value broken ≡ 11_725_000)
    × (executed_value second_order ≡ 11_725_007)
    × (executed_value unknown ≡ 11_725_007)
unfolding digits quantity amount amount_of within scaled fraction worth worth_of
of_value = (refl, refl, refl, refl, refl, refl, refl)
