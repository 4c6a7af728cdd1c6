-- Which words are understood: the table of the market's messages, by the letter of their type, and the form of any
-- table of lines, by what they begin with.
use Rattle.std.specs.Prelude.{◌≡◌, ℕ, Bool, true, false, List, [], ◌∷◌, length, drop, take, codes, if◌then◌else◌}
use Rattle.std.specs.Prelude.{Result, Ok, Err}
use Rattle.std.specs.Str.{bytes_eq}
use Rattle.script_lines.specs.declared.fault.LineFault.{LineFault}
use Rattle.script_lines.specs.declared.fault.LineFault.TheVariants as line_fault
use Rattle.script_lines.specs.Forms.{is_number64, is_number32, is_share_count, is_token_number, is_stock, is_side_word}
use Rattle.script_lines.specs.Forms.{is_state_word, is_printable_word, fits_forms}

-- what a word or a text may be asked
abbrev pub Form : Type 0
Form = List ℕ → Bool

-- ---- the market's messages: the words behind the letter of the type

-- `side shares stock price tif state`
abbrev pub terms_forms : List Form
terms_forms = is_side_word ∷ is_share_count ∷ is_stock ∷ is_number32 ∷ is_number32 ∷ is_state_word ∷ []

-- `event`
abbrev pub system_event_forms : List Form
system_event_forms = is_printable_word ∷ []

-- `n side shares stock price tif state`
abbrev pub accepted_forms : List Form
accepted_forms = is_token_number ∷ terms_forms

-- `new old side shares stock price tif state`
abbrev pub replaced_forms : List Form
replaced_forms = is_token_number ∷ is_token_number ∷ terms_forms

-- `n shares reason`
abbrev pub canceled_forms : List Form
canceled_forms = is_token_number ∷ is_number32 ∷ is_printable_word ∷ []

-- `n shares price match`
abbrev pub executed_forms : List Form
executed_forms = is_token_number ∷ is_number32 ∷ is_number32 ∷ is_number64 ∷ []

-- `n match reason`
abbrev pub broken_forms : List Form
broken_forms = is_token_number ∷ is_number64 ∷ is_printable_word ∷ []

-- `n reason`
abbrev pub rejected_forms : List Form
rejected_forms = is_token_number ∷ is_printable_word ∷ []

-- `n`, of a Cancel Pending and of a Cancel Reject
abbrev pub token_forms : List Form
token_forms = is_token_number ∷ []

-- the row of a letter decides
abbrev pub fits_row : List (List ℕ × List Form) → List ℕ → List (List ℕ) → Bool
fits_row [] name words = false
fits_row (row ∷ rows) name words = if bytes_eq row.0 name then fits_forms row.1 words else fits_row rows name words

abbrev pub market_rows : List (List ℕ × List Form)
market_rows =
    (codes "S", system_event_forms)
    ∷ (codes "A", accepted_forms)
    ∷ (codes "U", replaced_forms)
    ∷ (codes "C", canceled_forms)
    ∷ (codes "E", executed_forms)
    ∷ (codes "B", broken_forms)
    ∷ (codes "J", rejected_forms)
    ∷ (codes "P", token_forms)
    ∷ (codes "I", token_forms)
    ∷ []

-- the words behind a port's name
unfoldable pub is_market_line : List (List ℕ) → Bool
is_market_line [] = false
is_market_line (name ∷ words) = fits_row market_rows name words

-- ---- tables of lines

-- the first row with whose words the text begins decides
abbrev pub begins_row : List (List ℕ × Form) → List ℕ → Bool
begins_row [] text = false
begins_row (row ∷ rows) text =
    if bytes_eq (take (length row.0) text) row.0 then row.1 (drop (length row.0) text) else begins_row rows text

-- what is read is there just where this is so, want of memory aside
abbrev pub IsReadWhere : {T : Type 0} → Bool → Result T LineFault → Type 0
IsReadWhere so (Ok read) = so ≡ true
IsReadWhere so (Err line_fault.NotUnderstood) = so ≡ false
IsReadWhere so (Err line_fault.NoMemory) = Unit {0}
