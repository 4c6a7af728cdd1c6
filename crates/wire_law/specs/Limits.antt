-- What a number in the market's messages is at most.
use Rattle.std.specs.Prelude.{ℕ}

-- the most shares of one message (OUCH 4.2, "Enter Order Message", shares: below 1,000,000)
abbrev pub most_shares : ℕ
most_shares = 999_999
