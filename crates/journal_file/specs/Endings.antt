-- How a day's file ends, by the bytes behind its last whole page. The form is the gateway's own.
use Rattle.std.specs.Prelude.{◌≡◌, ◌≤◌, ℕ, Bool, true, false, not, ◌&&◌, ◌||◌, nat_lt, List, [], ◌∷◌, length, is_none}
use Rattle.journal_pages.specs.declared.version.Version.{Version}
use Rattle.journal_pages.specs.declared.version.Version.TheVariants.{One, Two}
use Rattle.journal_file.specs.File.{front_fault, sized_page}
use Rattle.journal_file.specs.declared.ending.Ending.{Ending}
use Rattle.journal_file.specs.declared.ending.Ending.TheVariants.{GoesOn, Over, Torn}

-- a whole page of the second form stands in front, or an end of it
abbrev pub stands_in_front : List ℕ → Bool
stands_in_front bytes = is_none (front_fault Two bytes)

-- one stands at some place
abbrev pub stands_somewhere : List ℕ → Bool
stands_somewhere [] = false
stands_somewhere (b ∷ bytes) = stands_in_front (b ∷ bytes) || stands_somewhere bytes

-- a write that was cut short leaves fewer bytes than this: 64 MiB
abbrev pub torn_limit : ℕ
torn_limit = 67_108_864

-- The day may go on in front of these bytes, once they are cut: there are none, or a write that was cut short left
-- them. In the second form a page is written only once the one before it is durable, so that no page and no end
-- stands behind one that was cut short. A file of the first form was written whole at the day's end.
abbrev pub is_unfinished : Version → List ℕ → Bool
is_unfinished One rest = false
is_unfinished Two rest = nat_lt (length rest) torn_limit && not (stands_somewhere rest)

-- these bytes stand behind the last whole page of a file that ends so
abbrev pub EndsBy : Version → List ℕ → Ending → Type 0
EndsBy form rest GoesOn = (rest ≡ []) × (is_unfinished form rest ≡ true)
EndsBy form rest Over = rest ≡ sized_page form []
EndsBy form rest (Torn n) = (1 ≤ n) × (n ≡ length rest) × (is_unfinished form rest ≡ true)
