-- Values and rows as they are written.
use Rattle.std.specs.Prelude.{ℕ, ◌==◌, Bool, ◌&&◌, ◌||◌, nat_le, List, [], ◌∷◌, ◌++◌, codes, decimal, map}
use Rattle.std.specs.Prelude.{if◌then◌else◌}
use Rattle.std.specs.List.{flat_map}
use Rattle.fix_stamp.specs.Stamp.{stamp_text}
use Rattle.day_export.specs.declared.format.Format.{Format}
use Rattle.day_export.specs.declared.format.Format.TheVariants.{Csv, Json, Messages}
use Rattle.day_export.specs.declared.row.Head.{Head}
use Rattle.day_export.specs.declared.row.Way.{Way}
use Rattle.day_export.specs.declared.row.Way.TheVariants.{In, Out}
use Rattle.day_export.specs.declared.row.Who.{Who}
use Rattle.day_export.specs.declared.row.Who.TheVariants.{Client, Port}
use Rattle.day_export.specs.Said.{Said, value_of}

-- ---- values

-- printable ASCII
abbrev pub is_shown : ℕ → Bool
is_shown byte = nat_le 32 byte && nat_le byte 126

-- any other byte is a dot: no value ends a line
abbrev pub shown_byte : ℕ → ℕ
shown_byte byte = if is_shown byte then byte else 46

-- between quotes, in which a quote is two; nothing where it is empty (RFC 4180, 2)
abbrev pub quoted_byte : ℕ → List ℕ
quoted_byte byte = if byte == 34 then 34 ∷ 34 ∷ [] else byte ∷ []

abbrev pub quoted : List ℕ → List ℕ
quoted [] = []
quoted (byte ∷ bytes) = 34 ∷ flat_map quoted_byte (byte ∷ bytes) ++ 34 ∷ []

-- in a string of JSON a quote and a backslash stand behind a backslash (RFC 8259, 7)
abbrev pub string_byte : ℕ → List ℕ
string_byte byte = if (byte == 34) || (byte == 92) then 92 ∷ byte ∷ [] else shown_byte byte ∷ []

-- ---- in front of a row

-- `C1`, `P1`
abbrev pub numbered : ℕ → ℕ → List ℕ
numbered letter number = letter ∷ [] ++ decimal number

abbrev pub who_text : Who → List ℕ
who_text (Client number) = numbered 67 number
who_text (Port number) = numbered 80 number

abbrev pub way_name : Way → List ℕ
way_name In = codes "in"
way_name Out = codes "out"

abbrev pub arrow : Way → List ℕ
arrow In = codes " < "
arrow Out = codes " > "

-- ---- csv: a column of each name, behind the moment, who and which way (RFC 4180)

abbrev pub columns : List (List ℕ)
columns =
    codes "35" ∷ codes "34" ∷ codes "150" ∷ codes "39" ∷ codes "37" ∷ codes "11" ∷ codes "41" ∷ codes "17" ∷ codes "55"
    ∷ codes "54" ∷ codes "38" ∷ codes "40" ∷ codes "44" ∷ codes "59" ∷ codes "110" ∷ codes "528" ∷ codes "32"
    ∷ codes "31" ∷ codes "151" ∷ codes "14" ∷ codes "6" ∷ codes "102" ∷ codes "103" ∷ codes "378" ∷ codes "380"
    ∷ codes "434" ∷ codes "371" ∷ codes "372" ∷ codes "373" ∷ codes "58" ∷ codes "ouch" ∷ codes "token"
    ∷ codes "previous" ∷ codes "shares" ∷ codes "price" ∷ codes "match" ∷ []

abbrev pub behind_comma : List ℕ → List ℕ
behind_comma name = 44 ∷ [] ++ name

-- the names of the columns
unfoldable pub columns_text : List ℕ
columns_text = codes "at,who,way" ++ flat_map behind_comma columns ++ 13 ∷ 10 ∷ []

unfoldable pub csv_head : Head → List ℕ
csv_head head = stamp_text head.at ++ 44 ∷ [] ++ who_text head.who ++ 44 ∷ [] ++ way_name head.way

abbrev pub column_of : List Said → List ℕ → List ℕ
column_of cells name = 44 ∷ [] ++ quoted (value_of name cells)

unfoldable pub csv_row : Head → List Said → List ℕ
csv_row head cells = csv_head head ++ flat_map (column_of cells) columns ++ 13 ∷ 10 ∷ []

-- ---- json: an object a line (RFC 8259)

unfoldable pub object_moment : Head → List ℕ
object_moment head = codes "{\"at\":\"" ++ stamp_text head.at ++ codes "\",\"who\":\""

unfoldable pub object_head : Head → List ℕ
object_head head = object_moment head ++ who_text head.who ++ codes "\",\"way\":\"" ++ way_name head.way ++ 34 ∷ []

unfoldable pub member_text : Said → List ℕ
member_text cell = codes ",\"" ++ cell.name ++ codes "\":\"" ++ flat_map string_byte cell.value ++ 34 ∷ []

unfoldable pub object_row : Head → List Said → List ℕ
object_row head cells = object_head head ++ flat_map member_text cells ++ codes "}\n"

-- ---- messages: a line each, with `|` between its fields

unfoldable pub message_head : Head → List ℕ
message_head head = stamp_text head.at ++ 32 ∷ [] ++ who_text head.who ++ arrow head.way

unfoldable pub pair_text : Said → List ℕ
pair_text cell = cell.name ++ 61 ∷ [] ++ map shown_byte cell.value

abbrev pub other_text : Said → List ℕ
other_text cell = 124 ∷ [] ++ pair_text cell

abbrev pub pairs_text : List Said → List ℕ
pairs_text [] = []
pairs_text (cell ∷ cells) = pair_text cell ++ flat_map other_text cells

unfoldable pub message_row : Head → List Said → List ℕ
message_row head cells = message_head head ++ pairs_text cells ++ 10 ∷ []

-- ---- rows

-- what stands before the first
abbrev pub head_text : Format → List ℕ
head_text Csv = columns_text
head_text Json = []
head_text Messages = []

abbrev pub row_of : Format → Head → List Said → List ℕ
row_of Csv head cells = csv_row head cells
row_of Json head cells = object_row head cells
row_of Messages head cells = message_row head cells

-- of a message of which nothing is handed on there is none
unfoldable pub row_text : Format → Head → List Said → List ℕ
row_text format head [] = []
row_text format head (cell ∷ cells) = row_of format head (cell ∷ cells)
