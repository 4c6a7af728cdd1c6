-- What the words of a line have to be, each by itself.
use Rattle.std.specs.Prelude.{ℕ, ◌^◌, Bool, true, false, ◌&&◌, nat_le, nat_lt, List, [], ◌∷◌, length}
use Rattle.std.specs.Char.{is_ascii_digit}
use Rattle.std.specs.List.{list_all}
use Rattle.wire_law.specs.Printable.{is_printable, is_visible}
use Rattle.ouch_codec.specs.Letters.{is_side, is_order_state}
use Rattle.script_lines.specs.Words.{number_in}

-- decimal digits, one at least, zeros in front allowed, whose number is from the least and below a limit
abbrev pub is_number_from : ℕ → ℕ → List ℕ → Bool
is_number_from least limit word =
    list_all is_ascii_digit word && (nat_lt 0 (length word)
    && (nat_le least (number_in word) && nat_lt (number_in word) limit))

-- a number that 64 bits hold
unfoldable pub is_number64 : List ℕ → Bool
is_number64 word = is_number_from 0 (2 ^ 64) word

-- a number that 32 bits hold
unfoldable pub is_number32 : List ℕ → Bool
is_number32 word = is_number_from 0 (2 ^ 32) word

-- a number of shares that an order may have
unfoldable pub is_share_count : List ℕ → Bool
is_share_count word = is_number_from 1 1_000_000 word

-- a number that has a token
unfoldable pub is_token_number : List ℕ → Bool
is_token_number word = is_number_from 1 (10 ^ 13) word

-- the symbol of a stock: 1 to 8 bytes from 33 to 126
unfoldable pub is_stock : List ℕ → Bool
is_stock word = nat_le 1 (length word) && (nat_le (length word) 8 && list_all is_visible word)

-- one letter of a set
abbrev pub is_letter_in : (ℕ → Bool) → List ℕ → Bool
is_letter_in set (byte ∷ []) = set byte
is_letter_in set word = false

-- a side
unfoldable pub is_side_word : List ℕ → Bool
is_side_word word = is_letter_in is_side word

-- whether an accepted order is on the book
unfoldable pub is_state_word : List ℕ → Bool
is_state_word word = is_letter_in is_order_state word

-- a letter that the market's field may have
unfoldable pub is_printable_word : List ℕ → Bool
is_printable_word word = is_letter_in is_printable word

-- as many words as there are forms, each of its form
abbrev pub fits_forms : List (List ℕ → Bool) → List (List ℕ) → Bool
fits_forms [] [] = true
fits_forms [] (word ∷ words) = false
fits_forms (form ∷ forms) [] = false
fits_forms (form ∷ forms) (word ∷ words) = form word && fits_forms forms words
