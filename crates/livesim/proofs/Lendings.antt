-- What a session leaves that has worked beside workers is told of a closure's call.
use Rattle.std.proofs.Common.{◌≡◌, ℕ, sym, subst}
use Rattle.std.specs.Borrow.{Bor, MutBor}
use Rattle.book_turn.specs.Known.{Known}
use Rattle.book_turn.specs.declared.holder.Holder.{Holder}
use Rattle.book_turn.specs.declared.turn.Turn.{Turn}
use Rattle.worker_scope.specs.Scope.{HasWorked, HasWorkedAlone}
use Rattle.livesim.specs.Lent.{HasCalled}

module _ {D R O A B : Type 0} (does : Known D R O → Known D R O → A → Type 0) (tells : Known D R O → Known D R O → B → Type 0) (a : A) (b : B)
    (told : (v w : Known D R O) → does v w a → tells v w b) where
  pub alone_told : (v w : Known D R O) → HasWorkedAlone does v w a → HasWorkedAlone tells v w b
  alone_told v w h = record { after = h.after; did = told v h.after h.did; goes = h.goes; closed = h.closed }

  pub worked_told : (count lost : ℕ) (v w : Known D R O) → HasWorked does count lost v w a → HasWorked tells count lost v w b
  worked_told count lost v w h = record {
    before = h.before;
    started = h.started;
    behind = h.behind;
    worked = alone_told h.before h.behind h.worked;
    all_joined = h.all_joined;
  }

-- a call is told of what the closure is now
module _ {B D R O A F : Type 0} {s : ℕ} (step : Bor (Turn B D R O) → MutBor (Holder B s D R O) → A → MutBor (Holder B s D R O) → F → Type 0) where
  pub called_as : (v w : Known D R O) (a : A) (f g : F) → g ≡ f → HasCalled step v w a f → HasCalled step v w a g
  called_as v w a f g same h = subst (λ (x : F). HasCalled step v w a x) (sym same) h
