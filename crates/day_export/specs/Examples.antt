-- Computed: which fields are handed on, and how rows are written.
use Rattle.std.specs.Prelude.{◌≡◌, refl, ℕ, true, false, List, [], ◌∷◌, ◌++◌, codes, decimal}
use Rattle.fix_fields.specs.Field.{Field}
use Rattle.fix_stamp.specs.Stamp.{stamp_text}
use Rattle.day_export.specs.declared.format.Format.TheVariants.{Json, Messages}
use Rattle.day_export.specs.declared.row.Head.{Head}
use Rattle.day_export.specs.declared.row.Who.TheVariants as who
use Rattle.day_export.specs.declared.row.Way.TheVariants as way
use Rattle.day_export.specs.Exported.{is_exported, is_of_orders}
use Rattle.day_export.specs.Forms.{message_head, message_row, object_head, object_moment, object_row, member_text}
use Rattle.day_export.specs.Forms.{pair_text, quoted, row_text}
use Rattle.day_export.specs.Market.{asked_said}
use Rattle.day_export.specs.Said.{Said, fields_said}

-- ---- fields

no_username : is_exported 553 ≡ false
no_username = refl

no_password : is_exported 554 ≡ false
no_password = refl

no_new_password : is_exported 925 ≡ false
no_new_password = refl

no_raw_data : is_exported 96 ≡ false
no_raw_data = refl

a_logon_is_no_order : is_of_orders (codes "A") ≡ false
a_logon_is_no_order = refl

a_new_order_is_one : is_of_orders (codes "D") ≡ true
a_new_order_is_one = refl

abbrev field : ℕ → List ℕ → Field
field tag value = record { tag = tag; value = value }

abbrev cell : List ℕ → List ℕ → Said
cell name value = record { name = name; value = value }

-- a password in a new order isn't handed on
a_password_is_left_out :
    fields_said (field 35 (codes "D") ∷ field 554 (codes "SECRET") ∷ field 11 (codes "A1") ∷ [])
    ≡ cell (decimal 35) (codes "D") ∷ cell (decimal 11) (codes "A1") ∷ []
a_password_is_left_out = refl

-- ---- packets to the market

-- whatever it carries
a_login_says_nothing : (high low : ℕ) (login : List ℕ) → asked_said (high ∷ low ∷ 76 ∷ login) ≡ []
unfolding asked_said
a_login_says_nothing high low login = refl

a_heartbeat_says_nothing : asked_said (0 ∷ 1 ∷ 82 ∷ []) ≡ []
unfolding asked_said
a_heartbeat_says_nothing = refl

-- ---- rows

abbrev head : Head
head = record { at = 0; who = who.Client 1; way = way.In }

no_row_of_nothing : row_text Messages head [] ≡ []
unfolding row_text
no_row_of_nothing = refl

abbrev cells : List Said
cells = cell (codes "35") (codes "D") ∷ cell (codes "11") (codes "A1") ∷ []

a_message : row_text Messages head cells
    ≡ stamp_text 0 ++ 32 ∷ [] ++ (67 ∷ decimal 1) ++ codes " < " ++ codes "35=D|11=A1" ++ 10 ∷ []
unfolding row_text message_row message_head pair_text
a_message = refl

an_object : row_text Json head cells
    ≡ codes "{\"at\":\"" ++ stamp_text 0 ++ codes "\",\"who\":\"" ++ (67 ∷ decimal 1) ++ codes "\",\"way\":\""
    ++ codes "in" ++ 34 ∷ [] ++ codes ",\"35\":\"D\",\"11\":\"A1\"" ++ codes "}\n"
unfolding row_text object_row object_head object_moment member_text
an_object = refl

-- a line's end in a value ends no line
a_message_is_a_line : row_text Messages head (cell (codes "58") (codes "a\nb") ∷ [])
    ≡ stamp_text 0 ++ 32 ∷ [] ++ (67 ∷ decimal 1) ++ codes " < " ++ codes "58=a.b" ++ 10 ∷ []
unfolding row_text message_row message_head pair_text
a_message_is_a_line = refl

a_quote_is_two : quoted (34 ∷ []) ≡ 34 ∷ 34 ∷ 34 ∷ 34 ∷ []
a_quote_is_two = refl
