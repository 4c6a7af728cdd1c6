-- Why a gateway couldn't run to its end, by why its lines couldn't be served; and its program's status then.
use Rattle.std.specs.Prelude.{ℕ}
use Rattle.gate_serving.specs.declared.serving.ServeFault.{ServeFault}
use Rattle.gate_serving.specs.declared.serving.ServeFault.TheVariants as served
use Rattle.gateway_day.specs.declared.fault.RunFault.{RunFault}
use Rattle.gateway_day.specs.declared.fault.RunFault.TheVariants.{Journal, LinkUp, NoDay, NoMemory, NoThread}
use Rattle.gateway_day.specs.declared.fault.RunFault.TheVariants.{OtherDay, TooLarge, Unread}

abbrev pub run_fault : ServeFault → RunFault
run_fault served.NoMemory = NoMemory
run_fault served.NoThread = NoThread

-- 2 where a journal's day isn't that of these settings
abbrev pub status_of : RunFault → ℕ
status_of NoMemory = 1
status_of NoThread = 1
status_of (OtherDay place) = 2
status_of Unread = 1
status_of (Journal fault) = 1
status_of TooLarge = 1
status_of LinkUp = 1
status_of NoDay = 1
