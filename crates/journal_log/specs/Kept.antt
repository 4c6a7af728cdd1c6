-- What contracts see of a log of turns, and what it has of a history: the history's records, as the pages of a day in
-- its file. (Own.)
use Rattle.std.specs.Prelude.{◌≡◌, ◌%◌, ◌^◌, ℕ, List, Option, None, length}
use Rattle.journal_pages.specs.declared.version.Version.TheVariants.{Two}
use Rattle.journal_days.specs.Cut.{last_size}
use Rattle.journal_days.specs.Day.{day_fault, day_records}
use Rattle.journal_log.specs.Log.{IsEnded, IsSettled, LeavesAtLeast}
use Rattle.journal_log.specs.declared.fault.LogFault.{LogFault}

-- its file, why it takes no more, if it doesn't, and its mark: how many pages of the history it has, how many bytes of
-- the last of them, and how many records
pub record TurnLogState (F : Type 0) : Type 0 where
  pub file : F
  pub shut : Option LogFault
  pub pages : ℕ
  pub bytes : ℕ
  pub records : ℕ

-- the mark stands at the end of a history, the pages of a day
pub record StandsAt {F : Type 0} (history : List (List ℕ)) (log : TurnLogState F) : Type 0 where
  pub day : day_fault Two history ≡ None
  pub pages : log.pages ≡ length history
  pub bytes : log.bytes ≡ last_size history
  pub records : log.records ≡ length (day_records Two history) % 2 ^ 64

-- the mark stands where a history ends that goes on with what the log has
pub record EndsAt {F : Type 0} (history : List (List ℕ)) (log : TurnLogState F) : Type 0 where
  pub pages : length history ≡ log.pages
  pub bytes : last_size history ≡ log.bytes

-- pages of a day with the records of a history, wherever they are cut
pub record AreOf (history pages : List (List ℕ)) : Type 0 where
  pub day : day_fault Two pages ≡ None
  pub same : day_records Two pages ≡ day_records Two history

module _ {F : Type 0} (seen : F → List ℕ) (may_leave : F → List ℕ → Type 0) where
  -- the file is a history, all of it durable
  pub record HasAll (history : List (List ℕ)) (file : F) : Type 0 where
    pub pages : List (List ℕ)
    pub of : AreOf history pages
    pub settled : IsSettled seen may_leave pages file

  -- each crash leaves a file in front of which a history stands, so that it is read from it
  pub record LeavesAll (history : List (List ℕ)) (file : F) : Type 0 where
    pub pages : List (List ℕ)
    pub of : AreOf history pages
    pub left : LeavesAtLeast may_leave pages file

  -- each crash leaves a history; a file that is added to still has nothing else
  pub record HasPages (history : List (List ℕ)) (file : F) (shut : Option LogFault) : Type 0 where
    pub left : LeavesAll history file
    pub all : shut ≡ None → HasAll history file

  -- a log has this history, and its mark stands there
  pub record HasDay (history : List (List ℕ)) (log : TurnLogState F) : Type 0 where
    pub mark : StandsAt history log
    pub has : HasPages history log.file log.shut

  -- the file is a history and an end, all of it durable
  pub record HasEnd (history : List (List ℕ)) (file : F) : Type 0 where
    pub pages : List (List ℕ)
    pub of : AreOf history pages
    pub ended : IsEnded seen may_leave pages file
