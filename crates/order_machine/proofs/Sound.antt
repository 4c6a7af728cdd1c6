-- What each order keeps, it keeps through each change.
use Rattle.std.proofs.Common.{◌≡◌, ℕ, ◌+◌, true, false, List, refl, sym, ap, ◌∙◌, Option, Some}
use Rattle.order_law.specs.declared.stage.Stage.{Stage}
use Rattle.order_law.specs.declared.stage.Stage.TheVariants.{Waiting, Working, Closed}
use Rattle.order_law.specs.declared.trade.Trade.{Trade}
use Rattle.order_law.specs.Life.{is_closed, is_waiting}
use Rattle.order_law.specs.Verdicts.{is_replace}
use Rattle.order_law.specs.History.{Entry}
use Rattle.order_machine.specs.OrderRecord.{Cancelling, OrderRecord, ToldTrade, with_trade_broken}
use Rattle.order_machine.specs.OrderRecord.{entered, filled, gone, leaves, put_in_book, reduced, market_refused}
use Rattle.order_machine.specs.OrderRecord.{put_by_replace, with_trade}
use Rattle.order_machine.specs.OrderRecord.{at}
use Rattle.order_law.specs.Headline.{Each}
use Rattle.order_law.specs.ouch_codec.declared.outbound.replaced.Replaced.{Replaced}
use Rattle.order_machine.proofs.Due.{IsSound}
use Rattle.std.proofs.Common.{arith}

pub entered-sound : (new : Entry) → IsSound (entered new)
entered-sound new = record {
  total = λ e. omega arith;
  refused = λ e. absurd (cc);
  replaces = tt;
  cancels =
      λ c e. absurd (cc);
}

pub opened-sound : (shares price : ℕ) (o : OrderRecord) → o.is_refused ≡ false → IsSound o
    → IsSound (put_in_book shares price o)
opened-sound shares price o live s = record {
  total = λ e. refl;
  refused = λ e. absurd (let x : true ≡ false = sym e ∙ live in cc);
  replaces =
      s.replaces;
  cancels = s.cancels;
}

pub replaced-sound : (m : Replaced) (q : Entry) (o : OrderRecord) → o.is_refused ≡ false → IsSound o
    → IsSound (put_by_replace m q o)
replaced-sound m q o live s = record {
  total = λ e. refl;
  refused =
      λ e. absurd (let x : true ≡ false = sym e ∙ live in cc);
  replaces = tt;
  cancels = s.cancels;
}

pub reduced-sound : (shares : ℕ) (o : OrderRecord) → o.stage ≡ Working → IsSound o → IsSound (reduced shares o)
reduced-sound shares o works s = record {
  total = λ e. rw works refl;
  refused = s.refused;
  replaces =
      s.replaces;
  cancels = s.cancels;
}

pub gone-sound : (o : OrderRecord) → IsSound o → IsSound (gone o)
gone-sound o s = record { total = λ e. absurd (cc); refused = λ e. refl; replaces = s.replaces; cancels = s.cancels }

pub traded-sound : (n : ℕ) (t : Trade) (o : OrderRecord) → o.stage ≡ Working → IsSound o → IsSound (with_trade n t o)
traded-sound n t o works s = record {
  total = λ e. rw works refl;
  refused = s.refused;
  replaces = s.replaces;
  cancels =
      s.cancels;
}

pub filled-sound : (n : ℕ) (t : Trade) (o : OrderRecord) → IsSound o → IsSound (filled n t o)
filled-sound n t o s = record {
  total = λ e. absurd (cc);
  refused = λ e. refl;
  replaces = s.replaces;
  cancels =
      s.cancels;
}

pub broken-sound : (t : ToldTrade) (o : OrderRecord) → is_waiting o.stage ≡ false → IsSound o
    → IsSound (with_trade_broken t o)
broken-sound t o accepted s = record {
  total = by_stage o.stage refl;
  refused = s.refused;
  replaces =
      s.replaces;
  cancels = s.cancels;
}
  where
    by_stage : (st : Stage) → o.stage ≡ st → is_closed o.stage ≡ false
        → (with_trade_broken t o).total ≡ (with_trade_broken t o).executed + leaves (with_trade_broken t o)
    by_stage Waiting e is_live = absurd (let x : is_waiting Waiting ≡ false = ap is_waiting (sym e) ∙ accepted in cc)
    by_stage Working e is_live = rw e refl
    by_stage Closed e is_live = absurd (let x : is_closed Closed ≡ false = ap is_closed (sym e) ∙ is_live in cc)

pub refused-sound : (o : OrderRecord) → IsSound o → IsSound (market_refused o)
refused-sound o s = record { total = λ e. absurd (cc); refused = λ e. refl; replaces = s.replaces; cancels = s.cancels }

-- whatever requests are pending, it is sound of itself: the requests are of their kinds
pub asked-sound : (o : OrderRecord) (rs : List Entry) (c : Option Cancelling)
    → Each (λ (q : Entry). is_replace q.message ≡ true) rs
    → ((x : Cancelling) → c ≡ Some x → is_replace x.request.message ≡ false) → IsSound o → IsSound (at o rs c)
asked-sound o rs c are is s = record { total = s.total; refused = s.refused; replaces = are; cancels = is }
