-- The verdict on a new order, by what its rows are judged on.
use Rattle.std.proofs.Common.{◌≡◌, ℕ, Bool, true, false, List, [], ◌∷◌, ◌++◌, refl, ap, ◌∙◌}
use Rattle.std.specs.Prelude.{nat_le}
use Rattle.order_machine.specs.fix_fields.Field.{Message}
use Rattle.order_law.specs.Verdicts.{Port, Row, Verdict, Accepted, Refused, first_row, field_rows, last_token}
use Rattle.order_law.specs.Verdicts.{most_open, port_rows, rows_of_new}
use Rattle.to_market.specs.declared.refusal.Refusal.{Refusal}
use Rattle.to_market.specs.declared.refusal.Refusal.TheVariants as refusals
use Rattle.to_market.specs.FieldRows.{refusal_row}
use Rattle.to_market.specs.Refusals.{refused_by}
use Rattle.to_market.proofs.Rows.{follows, first_row-append}

-- the verdict by: the id is used; the rows on the port; those on the fields; the client's orders; the tokens
abbrev by_rows : (is_used : Bool) (ports fields : Verdict) (is_full is_spent : Bool) → Verdict
by_rows true ports fields is_full is_spent = refused_by refusals.DuplicateClOrdId
by_rows false (Refused code why) fields is_full is_spent = Refused code why
by_rows false Accepted (Refused code why) is_full is_spent = Refused code why
by_rows false Accepted Accepted true is_spent = refused_by refusals.TooManyOpenOrders
by_rows false Accepted Accepted false true = refused_by refusals.NoTokenLeft
by_rows false Accepted Accepted false false = Accepted

abbrev last_rows : (is_full is_spent : Bool) → List Row
last_rows is_full is_spent = refusal_row is_full refusals.TooManyOpenOrders ∷ refusal_row is_spent refusals.NoTokenLeft
    ∷ []

unfoldable table : (is_used : Bool) (ports fields : List Row) (is_full is_spent : Bool) → List Row
table is_used ports fields is_full is_spent =
    refusal_row is_used refusals.DuplicateClOrdId ∷ ports ++ fields ++ last_rows is_full is_spent

as_table : (is_used : Bool) (port : Port) (open_now given : ℕ) (m : Message)
    → rows_of_new is_used port open_now given m
    ≡ table is_used (port_rows port) (field_rows m) (nat_le most_open open_now) (nat_le last_token given)
unfolding table
as_table is_used port open_now given m = refl

judged_last : (ports fields : Verdict) (is_full is_spent : Bool)
    → follows (follows ports fields) (first_row (last_rows is_full is_spent))
    ≡ by_rows false ports fields is_full is_spent
judged_last (Refused code why) fields is_full is_spent = refl
judged_last Accepted (Refused code why) is_full is_spent = refl
judged_last Accepted Accepted true is_spent = refl
judged_last Accepted Accepted false true = refl
judged_last Accepted Accepted false false = refl

judged : (is_used : Bool) (ports fields : List Row) (is_full is_spent : Bool)
    → first_row (table is_used ports fields is_full is_spent)
    ≡ by_rows is_used (first_row ports) (first_row fields) is_full is_spent
unfolding table
judged true ports fields is_full is_spent = refl
judged false ports fields is_full is_spent =
    first_row-append (ports ++ fields) (last_rows is_full is_spent)
    ∙ ap (λ (v : Verdict). follows v (first_row (last_rows is_full is_spent))) (first_row-append ports fields)
    ∙ judged_last (first_row ports) (first_row fields) is_full is_spent

same : (u v : Bool) (p q f g : Verdict) (a b c d : Bool) → u ≡ v → p ≡ q → f ≡ g → a ≡ b → c ≡ d
    → by_rows u p f a c ≡ by_rows v q g b d
same u v p q f g a b c d hu hp hf ha hc = rw (hu, hp, hf, ha, hc) refl

by_tests : (used : Bool) (port : Port) (open_now given : ℕ) (m : Message) (is_used : Bool) (ports fields : Verdict)
    (is_full is_spent : Bool)
    → used ≡ is_used → first_row (port_rows port) ≡ ports → first_row (field_rows m) ≡ fields
    → nat_le most_open open_now ≡ is_full → nat_le last_token given ≡ is_spent
    → first_row (rows_of_new used port open_now given m) ≡ by_rows is_used ports fields is_full is_spent
by_tests used port open_now given m is_used ports fields is_full is_spent hu hp hf ha hc =
    ap first_row (as_table used port open_now given m)
    ∙ judged used (port_rows port) (field_rows m) (nat_le most_open open_now) (nat_le last_token given)
    ∙ same _ is_used _ ports _ fields _ is_full _ is_spent hu hp hf ha hc

-- each row, where those before it don't hold
pub duplicate : (used : Bool) (port : Port) (open_now given : ℕ) (m : Message) → used ≡ true
    → first_row (rows_of_new used port open_now given m) ≡ refused_by refusals.DuplicateClOrdId
duplicate used port open_now given m is_used =
    by_tests used port open_now given m true _ _ _ _ is_used refl refl refl refl

pub by_port : (used : Bool) (port : Port) (open_now given : ℕ) (m : Message) (refusal : Refusal) → used ≡ false
    → first_row (port_rows port) ≡ refused_by refusal
    → first_row (rows_of_new used port open_now given m) ≡ refused_by refusal
by_port used port open_now given m refusal is_new refused =
    by_tests used port open_now given m false (refused_by refusal) _ _ _ is_new refused refl refl refl

-- the id is new, and the port takes orders
pub record Passes (used : Bool) (port : Port) : Type 0 where
  pub is_new : used ≡ false
  pub ports : first_row (port_rows port) ≡ Accepted

pub by_fields : (used : Bool) (port : Port) (open_now given : ℕ) (m : Message) (refusal : Refusal) → Passes used port
    → first_row (field_rows m) ≡ refused_by refusal
    → first_row (rows_of_new used port open_now given m) ≡ refused_by refusal
by_fields used port open_now given m refusal passes refused =
    by_tests used port open_now given m false Accepted
    (refused_by refusal) _ _ passes.is_new passes.ports refused refl refl

pub full : (used : Bool) (port : Port) (open_now given : ℕ) (m : Message) → Passes used port
    → first_row (field_rows m) ≡ Accepted
    → nat_le most_open open_now ≡ true → first_row (rows_of_new used port open_now given m)
    ≡ refused_by refusals.TooManyOpenOrders
full used port open_now given m passes fields is_full =
    by_tests used port open_now given m false Accepted Accepted true _ passes.is_new passes.ports fields is_full refl

pub spent : (used : Bool) (port : Port) (open_now given : ℕ) (m : Message) → Passes used port
    → first_row (field_rows m) ≡ Accepted
    → nat_le most_open open_now ≡ false → nat_le last_token given ≡ true
    → first_row (rows_of_new used port open_now given m) ≡ refused_by refusals.NoTokenLeft
spent used port open_now given m passes fields has_room is_spent =
    by_tests used port open_now given m false Accepted Accepted false true passes.is_new passes.ports fields has_room
    is_spent

pub accepted : (used : Bool) (port : Port) (open_now given : ℕ) (m : Message) → Passes used port
    → first_row (field_rows m) ≡ Accepted
    → nat_le most_open open_now ≡ false → nat_le last_token given ≡ false
    → first_row (rows_of_new used port open_now given m) ≡ Accepted
accepted used port open_now given m passes fields has_room is_left =
    by_tests used port open_now given m false Accepted Accepted false false passes.is_new passes.ports fields has_room
    is_left
