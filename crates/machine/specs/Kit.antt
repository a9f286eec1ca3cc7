use Rattle.std.specs.Prelude.{◌≡◌, List, [], ◌++◌, Bool, true, ◌↔◌}

-- What a machine does, for definitions that speak of any machine: D are machines, S states, R rows, O operations.
-- `seg` folds one cycle for each row of a list; `carried` goes from the first machine to the second.
pub record Kit (D S R O : Type 0) : Type 0 where
  pub start : D → S
  pub seg : D → List R → S → S
  pub carried : D → D → O → S → S
  pub alike : D → S → S → Bool

-- The laws of a machine. `fits` says which states are its own, `valid` which operations lead from one machine to another.
pub record Laws {D S R O : Type 0} (k : Kit D S R O) (fits : D → S → Type 0) (valid : D → D → O → Type 0) : Type 0 where
  pub seg_none : (m : D) (s : S) → k.seg m [] s ≡ s
  pub seg_more : (m : D) (xs ys : List R) (s : S) → k.seg m (xs ++ ys) s ≡ k.seg m ys (k.seg m xs s)
  pub start_fits : (m : D) → fits m (k.start m)
  pub seg_fits : (m : D) (xs : List R) (s : S) → fits m s → fits m (k.seg m xs s)
  pub carried_fits : (m n : D) (ops : O) (s : S) → valid m n ops → fits m s → fits n (k.carried m n ops s)
  pub alike_is : (m : D) (x y : S) → fits m x → fits m y → (k.alike m x y ≡ true) ↔ (x ≡ y)
