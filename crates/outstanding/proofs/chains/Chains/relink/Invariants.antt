use Rattle.std.proofs.Common.{◌≡◌, take}
use Rattle.std.specs.Prelude.{vec_len, vec_capacity}
use Rattle.outstanding.specs.Leading.{AreChained}
use Rattle.outstanding.proofs.chains.Chains.relink.Given as goal

-- the chains of those passed so far
abbrev pub invariant-loop-asked : goal.invariant-loop-asked
invariant-loop-asked l = record {
  chained : AreChained l.self (take l.asked-index l.messages);
  heads : vec_len l.self.heads ≡ vec_len l.fn.self.heads;
  room : vec_capacity l.self.older ≡ vec_capacity l.fn.self.older;
  long : vec_len l.self.older ≡ l.asked-index;
}
