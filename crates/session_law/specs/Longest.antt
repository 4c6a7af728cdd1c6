-- The limit of a report's text, which is the gateway's own: fewer than 2^20 bytes.
use Rattle.std.specs.Prelude.{ℕ}

-- the most bytes in which the fields of a report or reject print, from MsgType (35) on
abbrev pub longest_report : ℕ
longest_report = 1_048_575
