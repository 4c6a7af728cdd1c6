-- A core with its history may go to another thread where its hasher may.
use denote.RattleType.{RattleType}
use denote.Param.Send.{IsSend, sendable, view_send}
use denote.Param.SendFields.{declared_send}
use Rattle.std.specs.declared.hash.Hasher as Hasher
use Rattle.std.specs.declared.hash.BuildHasher as BuildHasher
use Rattle.std.proofs.Crossing.{crosses}
use Rattle.gate_core.proofs.Sent.{core_send}
use Rattle.gate_journal.specs.contracts.growing_history.GrowingHistory as History
use Rattle.journal_days.specs.contracts.pages.DayPages as Pages
use Rattle.desk_steps.specs.contracts.recorded.RecordedCore as RecordedCore

pages : IsSend Pages.the_row
pages = view_send _ _ _ _ _ (declared_send Pages.TheInside.the_type
    (search (sendable, crosses) depth 100 fits 500000, (search (sendable, crosses) depth 100 fits 500000, tt)))

history : IsSend History.the_row
history = view_send _ _ _ _ _ (declared_send History.TheInside.the_type
    (pages, (search (sendable, crosses) depth 100 fits 500000, (search (sendable, crosses) depth 100 fits 500000, tt))))

module _ (S T : RattleType) (g : BuildHasher.Ghosts S.Denot T.Denot) (h : Hasher.Ghosts T.Denot) (s : IsSend S) where
  pub recorded_send : IsSend (RecordedCore.the_row S T g h)
  recorded_send = view_send _ _ _ _ _ (declared_send (RecordedCore.TheInside.the_type S T g h)
      (search (sendable, crosses) depth 100 fits 500000, (core_send S T g h s, (history, tt))))
