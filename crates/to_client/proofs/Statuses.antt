-- OrdStatus, as it is written and as the law has it.
use Rattle.std.proofs.Common.{◌≡◌, [], ◌∷◌, Bool, true, false, refl, ◌∙◌, codes}
use Rattle.std.specs.Prelude.{◌==◌, if◌then◌else◌}
use Rattle.fix_values.specs.declared.ord_status.OrdStatus.TheVariants as statuses
use Rattle.fix_values.specs.Letters.{status_letter}
use Rattle.order_law.specs.declared.stage.Stage.{Stage}
use Rattle.order_law.specs.declared.stage.Stage.TheVariants.{Waiting, Working, Closed}
use Rattle.order_law.specs.Told as law
use Rattle.orders.specs.declared.progress.Progress.{Progress}
use Rattle.to_client.specs.declared.shown.Shown.{Shown}
use Rattle.to_client.specs.Occasions.{status_at}
use Rattle.to_client.specs.Shows.{ShowsAs, status_with}

-- by the stage, where no request is pending and the order isn't rejected
by_stage : (s : law.Shown) (p : Progress) (stage : Stage) → p.executed ≡ s.executed → p.total ≡ s.total
    → status_letter (status_at stage p) ∷ [] ≡ law.status_in s stage
by_stage s p Waiting executed total = refl
by_stage s p Closed executed total = rw (executed, total) (by_total (s.executed == s.total))
  where
    by_total : (b : Bool) → status_letter (if b then statuses.Filled else statuses.Canceled) ∷ [] ≡ (if b then codes "2" else codes "4")
    by_total true = refl
    by_total false = refl
by_stage s p Working executed total = rw executed (by_some (s.executed == 0))
  where
    by_some : (b : Bool) → status_letter (if b then statuses.New else statuses.PartiallyFilled) ∷ [] ≡ (if b then codes "0" else codes "1")
    by_some true = refl
    by_some false = refl

-- the first of these that holds
by_tests : (refused cancel replace : Bool) (s : law.Shown) (p : Progress) (stage : Stage) → p.executed ≡ s.executed
    → p.total ≡ s.total
    → status_letter (if refused then statuses.Rejected else
    (if cancel then statuses.PendingCancel else (if replace then statuses.PendingReplace else status_at stage p))) ∷
    []
    ≡ (if refused then codes "8" else (if cancel then codes "6" else (if replace then codes "E" else law.status_in s stage)))
by_tests true cancel replace s p stage executed total = refl
by_tests false true replace s p stage executed total = refl
by_tests false false true s p stage executed total = refl
by_tests false false false s p stage executed total = by_stage s p stage executed total

-- an order that isn't rejected has no rejected status by its progress
not_refused : (x : Shown)
    → status_letter (status_with x) ∷ [] ≡ status_letter
    (if x.progress.now.is_refused then statuses.Rejected else
    (if x.has_pending_cancel then statuses.PendingCancel else
    (if x.has_pending_replace then statuses.PendingReplace else status_at x.progress.now.stage x.progress.now))) ∷
    []
not_refused x = by_flag x.progress.now.is_refused
  where
    by_flag : (flag : Bool)
        → status_letter (if flag then statuses.Rejected else
        (if x.has_pending_cancel then statuses.PendingCancel else
        (if x.has_pending_replace then statuses.PendingReplace else
        (if flag then statuses.Rejected else status_at x.progress.now.stage x.progress.now)))) ∷ []
        ≡ status_letter (if flag then statuses.Rejected else
        (if x.has_pending_cancel then statuses.PendingCancel else
        (if x.has_pending_replace then statuses.PendingReplace else status_at x.progress.now.stage x.progress.now)))
        ∷ []
    by_flag true = refl
    by_flag false = refl

pub status-shown : (x : Shown) (s : law.Shown) → ShowsAs x s → status_letter (status_with x) ∷ [] ≡ law.status_of s
status-shown x s shows =
    not_refused x
    ∙ by_tests x.progress.now.is_refused x.has_pending_cancel x.has_pending_replace s x.progress.now
    x.progress.now.stage shows.executed shows.total
    ∙ rw (shows.is_refused, shows.cancel, shows.replace, shows.stage) refl
