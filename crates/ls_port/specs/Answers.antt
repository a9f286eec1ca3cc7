-- What a read of a shelf adds to its answers.
use Rattle.std.specs.Prelude.{◌≡◌, ℕ, List, [], ◌∷◌, ◌++◌, ⊤, None, Some, Result, Ok, Err, Vec}
use Rattle.std.specs.Global.{Global}
use Rattle.std.specs.declared.option.Option.{Option}
use Rattle.ls_port.specs.declared.shelf_answer.ShelfAnswer.{ShelfAnswer}
use Rattle.ls_port.specs.declared.shelf_answer.ShelfAnswer.TheVariants.{Given, Failed}
use Rattle.ls_port.specs.declared.shelf_refusal.ShelfRefusal.{ShelfRefusal}
use Rattle.ls_port.specs.declared.shelf_refusal.ShelfRefusal.TheVariants.{Failed as ShelfFailed, NoMemory as ShelfFull}

-- known answers stay as they were
abbrev pub KeepsAnswers : Option (List ShelfAnswer) → Option (List ShelfAnswer) → Type 0
KeepsAnswers None new = ⊤
KeepsAnswers (Some xs) None = ⊥
KeepsAnswers (Some xs) (Some ys) = ys ≡ xs

-- known answers grow by this one
abbrev pub AddsAnswer : Option (List ShelfAnswer) → Option (List ShelfAnswer) → ShelfAnswer → Type 0
AddsAnswer None new answer = ⊤
AddsAnswer (Some xs) None answer = ⊥
AddsAnswer (Some xs) (Some ys) answer = ys ≡ xs ++ answer ∷ []

-- what a read of this name adds: what it gave, that it failed, or nothing for want of memory
abbrev pub ReadAdds : Option (List ShelfAnswer) → Option (List ShelfAnswer) → Result (Vec ℕ Global) ShelfRefusal → List ℕ → Type 0
ReadAdds old new (Ok text) name = AddsAnswer old new (Given name text.items)
ReadAdds old new (Err ShelfFailed) name = AddsAnswer old new (Failed name)
ReadAdds old new (Err ShelfFull) name = KeepsAnswers old new
