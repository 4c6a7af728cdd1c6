-- Which lines are understood: the tables of all lines, by what they begin with.
use Rattle.std.specs.Prelude.{ℕ, Bool, true, false, ◌||◌, ◌==◌, List, [], ◌∷◌, length, codes, Option, Some, None}
use Rattle.std.specs.Prelude.{if◌then◌else◌}
use Rattle.std.specs.Str.{bytes_eq}
use Rattle.fix_fields.specs.Field.{Field}
use Rattle.fix_fields.specs.Reading.{fields_of}
use Rattle.script_lines.specs.Words.{words_of}
use Rattle.script_lines.specs.Forms.{is_number64, fits_forms}
use Rattle.script_lines.specs.Bars.{with_soh}
use Rattle.script_lines.specs.MarketLines.{Form, begins_row, is_market_line}
use Rattle.script_lines.specs.Hexadecimal.{are_bytes}
use Rattle.script_lines.specs.Login.{login_forms}

-- one of these words, and nothing else
abbrev is_one_of : List (List ℕ) → List ℕ → Bool
is_one_of [] text = false
is_one_of (word ∷ words) text = bytes_eq text word || is_one_of words text

-- anything
abbrev any : Form
any text = true

-- ---- a client's lines, behind its name

-- the first of some fields is MsgType
abbrev are_message : Option (List Field) → Bool
are_message None = false
are_message (Some []) = false
are_message (Some (first ∷ others)) = first.tag == 35

-- what stands behind `msg `
unfoldable pub is_msg_text : List ℕ → Bool
is_msg_text text = are_message (fields_of (with_soh text))

abbrev client_rows : List (List ℕ × Form)
client_rows =
    (codes "msg ", is_msg_text)
    ∷ (codes "raw ", any)
    ∷ []

-- what comes on its link
abbrev pub is_client_input : List ℕ → Bool
is_client_input text = begins_row client_rows text

unfoldable pub is_client_line : List ℕ → Bool
is_client_line text = is_one_of (codes "up" ∷ codes "gone" ∷ codes "tick" ∷ []) text || is_client_input text

-- ---- a port's lines, behind its name

abbrev port_rows : List (List ℕ × Form)
port_rows =
    (codes "login ", λ text. fits_forms login_forms (words_of text))
    ∷ (codes "pkt ", are_bytes)
    ∷ ([], λ text. is_market_line (words_of text))
    ∷ []

-- what comes on its link
abbrev pub is_port_input : List ℕ → Bool
is_port_input text = begins_row port_rows text

unfoldable pub is_port_line : List ℕ → Bool
is_port_line text = is_one_of (codes "up" ∷ codes "gone" ∷ codes "tick" ∷ codes "end" ∷ []) text || is_port_input text

-- ---- all lines

-- a client's name, and what is asked of what stands behind it; a port's name in the same way
abbrev by_name : Form → Form → List (List ℕ × Form)
by_name client port =
    (codes "C1 ", client)
    ∷ (codes "C2 ", client)
    ∷ (codes "C3 ", client)
    ∷ (codes "P1 ", port)
    ∷ (codes "P2 ", port)
    ∷ []

abbrev line_rows : List (List ℕ × Form)
line_rows = (codes "at ", is_number64) ∷ by_name is_client_line is_port_line

-- a line: nothing, or by the rows
abbrev pub is_understood : List ℕ → Bool
is_understood text = if length text == 0 then true else begins_row line_rows text

-- ---- lines whose event holds fields or bytes, for which memory is taken

-- of a client: `msg` and `raw`
abbrev pub client_takes_memory : List ℕ → Bool
client_takes_memory text = begins_row ((codes "msg ", any) ∷ (codes "raw ", any) ∷ []) text

-- of a port: `pkt`
abbrev pub port_takes_memory : List ℕ → Bool
port_takes_memory text = begins_row ((codes "pkt ", any) ∷ []) text

abbrev pub takes_memory : List ℕ → Bool
takes_memory text = begins_row (by_name client_takes_memory port_takes_memory) text
