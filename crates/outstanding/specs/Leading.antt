-- The chains, as the code has them.
use Rattle.std.specs.Prelude.{List, vec_len}
use Rattle.outstanding.specs.declared.asked.AskedMessage.{AskedMessage}
use Rattle.outstanding.specs.declared.chains.Chains.{Chains}
use Rattle.outstanding.specs.Chaining.{IsChained}

-- the chains of these messages
abbrev pub AreChained : Chains → List AskedMessage → Type 0
AreChained chains xs = IsChained (vec_len chains.heads) chains.heads.items chains.older.items xs
