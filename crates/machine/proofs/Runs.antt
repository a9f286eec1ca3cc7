-- The rows of a list of runs, and where its runs begin.
use Rattle.std.proofs.Common.{◌≡◌, ℕ, zero, suc, ◌+◌, ◌-◌, ◌<◌, ◌≤◌, List, [], ◌∷◌, ◌++◌, length, take, drop, get_or, set, replicate, refl, sym, subst, inl, inr, eq-or-lt_of_le, ◌∙◌, ap, arith, length-append, append_assoc, append-nil, drop-drop, take-add, add-one}
use Rattle.std.proofs.lemmas.List.{length-replicate, drop-replicate, drop-append-le, replicate-append-replicate, take_all}
use Rattle.std.proofs.Math.Seq.{drop-append-add}
use Rattle.std.specs.List.{remove}
use Rattle.std.specs.Prelude.{Result, Ok, Err, OnOk, is_err, false}
use Rattle.std.proofs.lemmas.Grind.{take_at_read}
use Rattle.ls_text.specs.declared.no_memory.NoMemory.{NoMemory}
use Rattle.machine.specs.declared.row_run.RowRun.{RowRun}
use Rattle.machine.specs.Rows.{expanded, between, IsGapless, begins_at, IsWithRun, IsWithRuns}

module _ {R : Type 0} where
  pub end_is : (a : ℕ) (rs : List (RowRun R)) (b : ℕ) → IsGapless a rs b → b ≡ a + length (expanded rs)
  end_is a [] b h = omega (arith, h)
  end_is a (r ∷ rs) b h =
      omega (arith, h.0, h.1, end_is r.end rs b h.2, length-append (replicate (r.end - r.start) r.row.value) (expanded rs), length-replicate (r.end - r.start) r.row.value)

  pub begins_zero : (a : ℕ) (rs : List (RowRun R)) → begins_at a rs 0 ≡ a
  begins_zero a [] = refl
  begins_zero a (r ∷ rs) = refl

  pub begins_past : (a : ℕ) (rs : List (RowRun R)) (b i : ℕ) → IsGapless a rs b → length rs ≤ i → begins_at a rs i ≡ b
  begins_past a [] b i h le = h
  begins_past a (r ∷ rs) b zero h le = absurd (omega arith)
  begins_past a (r ∷ rs) b (suc i) h le = begins_past r.end rs b i h.2 (omega arith)

  pub begins_rises : (a : ℕ) (rs : List (RowRun R)) (b i : ℕ) → IsGapless a rs b → begins_at a rs i ≤ begins_at a rs (suc i)
  begins_rises a [] b i h = omega arith
  begins_rises a (r ∷ rs) b zero h = omega (arith, h.0, h.1, begins_zero r.end rs)
  begins_rises a (r ∷ rs) b (suc i) h = begins_rises r.end rs b i h.2

  pub start_at : (a : ℕ) (rs : List (RowRun R)) (b i : ℕ) (g : RowRun R) → IsGapless a rs b → i < length rs → g ≡ get_or rs i g → g.start ≡ begins_at a rs i
  start_at a [] b i g h lt is = absurd (omega arith)
  start_at a (r ∷ rs) b zero g h lt is = ap (λ (x : RowRun R). x.start) is ∙ h.0
  start_at a (r ∷ rs) b (suc i) g h lt is = start_at r.end rs b i g h.2 (omega arith) is

  pub end_at : (a : ℕ) (rs : List (RowRun R)) (b i : ℕ) (g : RowRun R) → IsGapless a rs b → i < length rs → g ≡ get_or rs i g → g.end ≡ begins_at a rs (suc i)
  end_at a [] b i g h lt is = absurd (omega arith)
  end_at a (r ∷ rs) b zero g h lt is = ap (λ (x : RowRun R). x.end) is ∙ sym (begins_zero r.end rs)
  end_at a (r ∷ rs) b (suc i) g h lt is = end_at r.end rs b i g h.2 (omega arith) is

  pub start_after : (a : ℕ) (rs : List (RowRun R)) (b i : ℕ) (g : RowRun R) → IsGapless a rs b → i < length rs → g ≡ get_or rs i g → a ≤ g.start
  start_after a [] b i g h lt is = absurd (omega arith)
  start_after a (r ∷ rs) b zero g h lt is = omega (arith, ap (λ (x : RowRun R). x.start) is, h.0)
  start_after a (r ∷ rs) b (suc i) g h lt is = omega (arith, h.0, h.1, start_after r.end rs b i g h.2 (omega arith) is)

  -- a part of equal rows, then the rest
  pub equal_part : (n p q : ℕ) (x : R) (rest : List R) → p ≤ q → q ≤ n → drop p (replicate n x ++ rest) ≡ replicate (q - p) x ++ drop q (replicate n x ++ rest)
  equal_part n p q x rest le within =
      let len : length (replicate n x) ≡ n = length-replicate n x in
      let count : (q - p) + (n - q) ≡ n - p = omega arith in
      let first : drop p (replicate n x ++ rest) ≡ replicate (n - p) x ++ rest =
      drop-append-le p (replicate n x) rest (omega (arith, len)) ∙ ap (λ (l : List R). l ++ rest) (drop-replicate p n x) in
      let last : drop q (replicate n x ++ rest) ≡ replicate (n - q) x ++ rest =
      drop-append-le q (replicate n x) rest (omega (arith, len)) ∙ ap (λ (l : List R). l ++ rest) (drop-replicate q n x) in
      let joined : replicate (q - p) x ++ replicate (n - q) x ≡ replicate (n - p) x =
      replicate-append-replicate (q - p) (n - q) x ∙ ap (λ (i : ℕ). replicate i x) count in
      first ∙ ap (λ (l : List R). l ++ rest) (sym joined) ∙ append_assoc (replicate (q - p) x) (replicate (n - q) x) rest
      ∙ ap (λ (l : List R). replicate (q - p) x ++ l) (sym last)

  pub past_part : (n p k : ℕ) (x : R) (rest : List R) → p ≡ n + k → drop p (replicate n x ++ rest) ≡ drop k rest
  past_part n p k x rest e =
      let len : p ≡ length (replicate n x) + k = omega (arith, e, length-replicate n x) in
      ap (λ (i : ℕ). drop i (replicate n x ++ rest)) len ∙ drop-append-add (replicate n x) rest k

  -- from a cycle within a run on: equal rows up to a later one, then the rows from there on
  pub piece : (a : ℕ) (rs : List (RowRun R)) (b i : ℕ) (g : RowRun R) → IsGapless a rs b → i < length rs → g ≡ get_or rs i g
      → (at stop : ℕ) → g.start ≤ at → at ≤ stop → stop ≤ g.end
      → drop (at - a) (expanded rs) ≡ replicate (stop - at) g.row.value ++ drop (stop - a) (expanded rs)
  piece a [] b i g h lt is at stop from le within = absurd (omega arith)
  piece a (r ∷ rs) b zero g h lt is at stop from le within =
      let start : g.start ≡ a = ap (λ (x : RowRun R). x.start) is ∙ h.0 in
      let length' : r.end - r.start ≡ g.end - a = omega (arith, h.0, ap (λ (x : RowRun R). x.end) is) in
      let count : (stop - a) - (at - a) ≡ stop - at = omega (arith, start) in
      equal_part (r.end - r.start) (at - a) (stop - a) r.row.value (expanded rs) (omega arith) (omega (arith, length'))
      ∙ ap (λ (i : ℕ). replicate i r.row.value ++ drop (stop - a) (expanded (r ∷ rs))) count
      ∙ ap (λ (x : RowRun R). replicate (stop - at) x.row.value ++ drop (stop - a) (expanded (r ∷ rs))) (sym is)
  piece a (r ∷ rs) b (suc i) g h lt is at stop from le within =
      let after : r.end ≤ g.start = start_after r.end rs b i g h.2 (omega arith) is in
      let n = r.end - r.start in
      past_part n (at - a) (at - r.end) r.row.value (expanded rs) (omega (arith, h.0, h.1, after))
      ∙ piece r.end rs b i g h.2 (omega arith) is at stop from le within
      ∙ ap (λ (l : List R). replicate (stop - at) g.row.value ++ l) (sym (past_part n (stop - a) (stop - r.end) r.row.value (expanded rs) (omega (arith, h.0, h.1, after))))

  pub some_run : (a : ℕ) (rs : List (RowRun R)) (b cycle : ℕ) → IsGapless a rs b → a ≤ cycle → cycle < b → 0 < length rs
  some_run a [] b cycle h le lt = absurd (omega (arith, h))
  some_run a (r ∷ rs) b cycle h le lt = omega arith

  pub index_within : (a : ℕ) (rs : List (RowRun R)) (b i at : ℕ) → IsGapless a rs b → begins_at a rs i ≤ at → at < b → i < length rs
  index_within a [] b i at h le lt = absurd (omega (arith, h))
  index_within a (r ∷ rs) b zero at h le lt = omega arith
  index_within a (r ∷ rs) b (suc i) at h le lt = omega (arith, index_within r.end rs b i at h.2 le lt)

  -- the list of runs with one more
  pub expanded-snoc : (rs : List (RowRun R)) (r : RowRun R) → expanded (rs ++ r ∷ []) ≡ expanded rs ++ replicate (r.end - r.start) r.row.value
  expanded-snoc [] r = append-nil (replicate (r.end - r.start) r.row.value)
  expanded-snoc (x ∷ xs) r =
      ap (λ (l : List R). replicate (x.end - x.start) x.row.value ++ l) (expanded-snoc xs r)
      ∙ sym (append_assoc (replicate (x.end - x.start) x.row.value) (expanded xs) (replicate (r.end - r.start) r.row.value))

  pub gapless-snoc : (a : ℕ) (rs : List (RowRun R)) (b : ℕ) (r : RowRun R) → IsGapless a rs b → r.start ≡ b → r.start ≤ r.end → IsGapless a (rs ++ r ∷ []) r.end
  gapless-snoc a [] b r h starts le = (omega (arith, h, starts), le, refl)
  gapless-snoc a (x ∷ xs) b r h starts le = (h.0, h.1, gapless-snoc x.end xs b r h.2 starts le)

  -- the front of equal rows
  pub take_front : (n : ℕ) (x : R) (rest : List R) → take n (replicate n x ++ rest) ≡ replicate n x
  take_front zero x rest = refl
  take_front (suc n) x rest = ap (λ (l : List R). x ∷ l) (take_front n x rest)

  -- rows up to a cycle, and those of the piece after it
  pub between-more : (first : ℕ) (rows : List R) (a at stop : ℕ) (x : R) → first ≤ a → a ≤ at → at ≤ stop
      → drop (at - first) rows ≡ replicate (stop - at) x ++ drop (stop - first) rows
      → between (first, rows) a at ++ replicate (stop - at) x ≡ between (first, rows) a stop
  between-more first rows a at stop x from le more e =
      let n : (at - first) - (a - first) ≡ at - a = omega arith in
      let m : (stop - first) - (a - first) ≡ (at - a) + (stop - at) = omega arith in
      let here : drop (at - a) (drop (a - first) rows) ≡ replicate (stop - at) x ++ drop (stop - first) rows =
      drop-drop (at - a) (a - first) rows ∙ ap (λ (i : ℕ). drop i rows) (omega arith) ∙ e in
      let taken : take (stop - at) (drop (at - a) (drop (a - first) rows)) ≡ replicate (stop - at) x =
      ap (λ (l : List R). take (stop - at) l) here ∙ take_front (stop - at) x (drop (stop - first) rows) in
      ap (λ (i : ℕ). take i (drop (a - first) rows) ++ replicate (stop - at) x) n
      ∙ ap (λ (l : List R). take (at - a) (drop (a - first) rows) ++ l) (sym taken)
      ∙ sym (take-add (at - a) (stop - at) (drop (a - first) rows))
      ∙ ap (λ (i : ℕ). take i (drop (a - first) rows)) (sym m)

  pub gapless_whole : (a : ℕ) (rs rs' : List (RowRun R)) (b : ℕ) → rs' ≡ rs → IsGapless a rs b → IsGapless a rs' (a + length (expanded rs'))
  gapless_whole a rs rs' b e h =
      let at_rs : IsGapless a rs (a + length (expanded rs)) = subst (λ (x : ℕ). IsGapless a rs x) (end_is a rs b h) h in
      subst (λ (x : List (RowRun R)). IsGapless a x (a + length (expanded x))) (sym e) at_rs

  pub gapless_view : (a : ℕ) (rs rs' : List (RowRun R)) (b : ℕ) (rows : ℕ × List R) → rs' ≡ rs → (a, expanded rs) ≡ rows → IsGapless a rs b
      → IsGapless rows.0 rs' (rows.0 + length rows.1)
  gapless_view a rs rs' b rows e shown h =
      let here : (a, expanded rs') ≡ rows = ap (λ (l : List (RowRun R)). (a, expanded l)) e ∙ shown in
      subst (λ (r : ℕ × List R). IsGapless r.0 rs' (r.0 + length r.1)) here (gapless_whole a rs rs' b e h)

  pub begins_within : (a : ℕ) (rs : List (RowRun R)) (b i : ℕ) → IsGapless a rs b → begins_at a rs i ≤ b
  begins_within a [] b i h = omega (arith, h)
  begins_within a (r ∷ rs) b zero h = omega (arith, h.0, h.1, end_is r.end rs b h.2)
  begins_within a (r ∷ rs) b (suc i) h = begins_within r.end rs b i h.2

  -- a run ends where the next one begins, and no later than all rows do
  pub run_ends : (a : ℕ) (rs rs' : List (RowRun R)) (e : ℕ) (rows : ℕ × List R) (i : ℕ) (g : RowRun R)
      → rs' ≡ rs → IsGapless a rs e → (a, expanded rs) ≡ rows → i < length rs' → g ≡ get_or rs' i g
      → (g.end ≡ begins_at a rs' (i + 1)) × (g.end ≤ rows.0 + length rows.1)
  run_ends a rs rs' e rows i g same h shown lt is =
      let h' : IsGapless a rs' e = subst (λ (x : List (RowRun R)). IsGapless a x e) (sym same) h in
      let next : g.end ≡ begins_at a rs' (i + 1) = end_at a rs' e i g h' lt is ∙ ap (λ (x : ℕ). begins_at a rs' x) (sym (add-one i)) in
      let end : e ≡ rows.0 + length rows.1 = end_is a rs e h ∙ ap (λ (r : ℕ × List R). r.0 + length r.1) shown in
      (next, omega (arith, next, begins_within a rs' e (i + 1) h', end))

  -- the rows from a cycle on are that of its run, and then the rest
  pub row_here : (a : ℕ) (rs rs' : List (RowRun R)) (e : ℕ) (rows : ℕ × List R) (cycle i b : ℕ) (g : RowRun R) (row : R)
      → rs' ≡ rs → IsGapless a rs e → (a, expanded rs) ≡ rows → i < length rs' → g ≡ get_or rs' i g
      → begins_at a rs' i ≤ cycle → cycle < begins_at a rs' (i + 1) → cycle < b → row ≡ g.row.value
      → between rows cycle b ≡ row ∷ between rows (cycle + 1) b
  row_here a rs rs' e rows cycle i b g row same h shown lt is from before less value =
      let h' : IsGapless a rs' e = subst (λ (x : List (RowRun R)). IsGapless a x e) (sym same) h in
      let shown' : (a, expanded rs') ≡ rows = ap (λ (x : List (RowRun R)). (a, expanded x)) same ∙ shown in
      let P : ℕ × List R → Type 0 = λ r. between r cycle b ≡ row ∷ between r (cycle + 1) b in
      let start = start_at a rs' e i g h' lt is in
      let stop = end_at a rs' e i g h' lt is in
      let next : begins_at a rs' (i + 1) ≡ begins_at a rs' (suc i) = ap (λ (x : ℕ). begins_at a rs' x) (add-one i) in
      let after = start_after a rs' e i g h' lt is in
      let p = piece a rs' e i g h' lt is cycle (suc cycle) (omega (arith, start)) (omega arith) (omega (arith, stop, next)) in
      let one : suc cycle - cycle ≡ 1 = omega arith in
      let shape : drop (cycle - a) (expanded rs') ≡ g.row.value ∷ drop (suc cycle - a) (expanded rs') =
      p ∙ ap (λ (x : ℕ). replicate x g.row.value ++ drop (suc cycle - a) (expanded rs')) one in
      let count : (b - a) - (cycle - a) ≡ suc ((b - a) - (suc cycle - a)) = omega (arith, start, after) in
      let here : P (a, expanded rs') =
      ap (λ (l : List R). take ((b - a) - (cycle - a)) l) shape
      ∙ ap (λ (x : ℕ). take x (g.row.value ∷ drop (suc cycle - a) (expanded rs'))) count
      ∙ ap (λ (x : R). x ∷ take ((b - a) - (suc cycle - a)) (drop (suc cycle - a) (expanded rs'))) (sym value)
      ∙ ap (λ (x : ℕ). row ∷ between (a, expanded rs') x b) (sym (add-one cycle)) in
      subst P shown' here

  -- what one turn of the copying loop keeps
  pub record Copied (a b start index at : ℕ) (runs part : List (RowRun R)) : Type 0 where
    pub from : a ≤ at
    pub within : at ≤ b
    pub here : at < b → (index < length runs) × (begins_at start runs index ≤ at) × (at ≤ begins_at start runs (suc index))
    pub gapless : IsGapless a part at
    pub rows : expanded part ≡ between (start, expanded runs) a at

  pub copied_none : (a b start index : ℕ) (runs part : List (RowRun R)) → a ≤ b → index < length runs
      → begins_at start runs index ≤ a → a < begins_at start runs (index + 1) → part ≡ [] → Copied a b start index a runs part
  copied_none a b start index runs part le lt begun ends none =
      let next : begins_at start runs (index + 1) ≡ begins_at start runs (suc index) = ap (λ (x : ℕ). begins_at start runs x) (add-one index) in
      let zeroed : (a - start) - (a - start) ≡ 0 = omega arith in
      record {
        from = omega arith;
        within = le;
        here = λ _. (lt, begun, omega (arith, ends, next));
        gapless = subst (λ (x : List (RowRun R)). IsGapless a x a) (sym none) refl;
        rows = ap (λ (x : List (RowRun R)). expanded x) none ∙ sym (ap (λ (n : ℕ). take n (drop (a - start) (expanded runs))) zeroed);
      }

  pub copied_more : (a b start index at stop : ℕ) (runs part part' : List (RowRun R)) (g r : RowRun R)
      → IsGapless start runs (start + length (expanded runs)) → start ≤ a → b ≤ start + length (expanded runs)
      → at < b → Copied a b start index at runs part → g ≡ get_or runs index g
      → stop ≤ g.end → stop ≤ b → (stop < b → stop ≡ g.end)
      → r.start ≡ at → r.end ≡ stop → r.row.value ≡ g.row.value → part' ≡ part ++ r ∷ []
      → Copied a b start (index + 1) stop runs part'
  copied_more a b start index at stop runs part part' g r h first last less k is upto within either rs re rv new =
      let e = start + length (expanded runs) in
      let lt = (k.here less).0 in
      let starts = start_at start runs e index g h lt is in
      let stops = end_at start runs e index g h lt is in
      let next : begins_at start runs (index + 1) ≡ begins_at start runs (suc index) = ap (λ (x : ℕ). begins_at start runs x) (add-one index) in
      let rises = begins_rises start runs e (suc index) h in
      let le : at ≤ stop =
      (elim (eq-or-lt_of_le within) [
        | inl eq ↦ omega (arith, eq, less)
        | inr lt' ↦ omega (arith, either lt', stops, (k.here less).2)
      ]) in
      let p = piece start runs e index g h lt is at stop (omega (arith, starts, (k.here less).1)) le upto in
      let p' : drop (at - start) (expanded runs) ≡ replicate (stop - at) r.row.value ++ drop (stop - start) (expanded runs) =
      p ∙ ap (λ (x : R). replicate (stop - at) x ++ drop (stop - start) (expanded runs)) (sym rv) in
      let count : r.end - r.start ≡ stop - at = omega (arith, rs, re) in
      let row : expanded part' ≡ between (start, expanded runs) a stop =
      ap (λ (x : List (RowRun R)). expanded x) new ∙ expanded-snoc part r
      ∙ ap (λ (n : ℕ). expanded part ++ replicate n r.row.value) count
      ∙ ap (λ (l : List R). l ++ replicate (stop - at) r.row.value) k.rows
      ∙ between-more start (expanded runs) a at stop r.row.value first k.from le p' in
      let joined : IsGapless a (part ++ r ∷ []) stop = subst (λ (x : ℕ). IsGapless a (part ++ r ∷ []) x) re (gapless-snoc a part at r k.gapless rs (omega (arith, rs, re, le))) in
      record {
        from = omega (arith, k.from, le);
        within = within;
        here = λ l. (
          index_within start runs e (index + 1) stop h (omega (arith, next, stops, either l)) (omega (arith, l, last)),
          omega (arith, next, stops, either l),
          omega (arith, either l, stops, next, rises, ap (λ (x : ℕ). begins_at start runs (suc x)) (add-one index)),
        );
        gapless = subst (λ (x : List (RowRun R)). IsGapless a x stop) (sym new) joined;
        rows = row;
      }

  -- lists of runs behind one another

  pub expanded-append : (xs ys : List (RowRun R)) → expanded (xs ++ ys) ≡ expanded xs ++ expanded ys
  expanded-append [] ys = refl
  expanded-append (x ∷ xs) ys =
      ap (λ (l : List R). replicate (x.end - x.start) x.row.value ++ l) (expanded-append xs ys)
      ∙ sym (append_assoc (replicate (x.end - x.start) x.row.value) (expanded xs) (expanded ys))

  pub gapless-append : (a : ℕ) (xs ys : List (RowRun R)) (b c : ℕ) → IsGapless a xs b → IsGapless b ys c → IsGapless a (xs ++ ys) c
  gapless-append a [] ys b c h i = subst (λ (x : ℕ). IsGapless x ys c) (sym h) i
  gapless-append a (x ∷ xs) ys b c h i = (h.0, h.1, gapless-append x.end xs ys b c h.2 i)

  pub with_none : (old new : List (RowRun R)) → new ≡ old → IsWithRuns old [] new
  with_none old new e = record { added = []; items = e ∙ sym (append-nil old); rows = refl; gapless = λ a b h. h }

  gapless_split : (a : ℕ) (rs : List (RowRun R)) (b : ℕ) (r : RowRun R) → IsGapless a (rs ++ r ∷ []) b → IsGapless a rs r.start × (r.start ≤ r.end) × (r.end ≡ b)
  gapless_split a [] b r g = (sym g.0, g.1, g.2)
  gapless_split a (x ∷ xs) b r g = let s = gapless_split x.end xs b r g.2 in ((g.0, g.1, s.0), s.1, s.2)

  pub with_more : (old runs mid new : List (RowRun R)) (r : RowRun R) → IsWithRuns old runs mid → IsWithRun mid r new → IsWithRuns old (runs ++ r ∷ []) new
  with_more old runs mid new r h one =
      record {
        added = h.added ++ one.added ∷ [];
        items = one.items ∙ ap (λ (l : List (RowRun R)). l ++ one.added ∷ []) h.items ∙ append_assoc old h.added (one.added ∷ []);
        rows = expanded-snoc h.added one.added
            ∙ ap (λ (l : List R). l ++ replicate (one.added.end - one.added.start) one.added.row.value) h.rows
            ∙ ap (λ (n : ℕ). expanded runs ++ replicate n one.added.row.value) (omega (arith, one.start, one.end))
            ∙ ap (λ (x : R). expanded runs ++ replicate (r.end - r.start) x) one.row
            ∙ sym (expanded-snoc runs r);
        gapless = λ a b g.
            let s = gapless_split a runs b r g in
            subst (λ (x : ℕ). IsGapless a (h.added ++ one.added ∷ []) x) (one.end ∙ s.2)
            (gapless-snoc a h.added r.start one.added (h.gapless a r.start s.0) one.start (omega (arith, one.start, one.end, s.1)));
      }

  pub with_next : (old runs mid new : List (RowRun R)) (i : ℕ) (g : RowRun R) (r : Result (Unit {0}) NoMemory) → i < length runs → g ≡ get_or runs i g
      → is_err r ≡ false → IsWithRuns old (take i runs) mid → OnOk r (IsWithRun mid g new) → IsWithRuns old (take (i + 1) runs) new
  with_next old runs mid new i g (Ok x) lt is ok h one =
      let t : take (i + 1) runs ≡ take i runs ++ get_or runs i g ∷ [] = (take_at_read runs i g lt).1 in
      let t' : take (i + 1) runs ≡ take i runs ++ g ∷ [] = t ∙ ap (λ (x : RowRun R). take i runs ++ x ∷ []) (sym is) in
      subst (λ (l : List (RowRun R)). IsWithRuns old l new) (sym t') (with_more old (take i runs) mid new g h one)
  with_next old runs mid new i g (Err x) lt is ok h one = absurd cc

  pub appended_rows : (old new runs runs' : List (RowRun R)) (rows : ℕ × List R) (s : ℕ) (r : Result (Unit {0}) NoMemory) → runs' ≡ runs → (s, expanded runs) ≡ rows
      → OnOk r (IsWithRuns old runs' new) → OnOk r (expanded new ≡ expanded old ++ rows.1)
  appended_rows old new runs runs' rows s (Ok x) e shown h =
      ap (λ (l : List (RowRun R)). expanded l) h.items ∙ expanded-append old h.added ∙ ap (λ (l : List R). expanded old ++ l) (h.rows ∙ ap (λ (l : List (RowRun R)). expanded l) e ∙ ap (λ (p : ℕ × List R). p.1) shown)
  appended_rows old new runs runs' rows s (Err x) e shown h = tt

  pub appended_gapless : (old new runs runs' : List (RowRun R)) (rows : ℕ × List R) (s b : ℕ) (r : Result (Unit {0}) NoMemory) → runs' ≡ runs → (s, expanded runs) ≡ rows → IsGapless s runs b
      → OnOk r (IsWithRuns old runs' new) → OnOk r ((a : ℕ) → IsGapless a old rows.0 → IsGapless a new (rows.0 + length rows.1))
  appended_gapless old new runs runs' rows s b (Ok x) e shown g h = λ a begun.
      let start : s ≡ rows.0 = ap (λ (p : ℕ × List R). p.0) shown in
      let whole : IsGapless s runs' (s + length (expanded runs')) = gapless_whole s runs runs' b e g in
      let end : s + length (expanded runs') ≡ rows.0 + length rows.1 =
      ap (λ (l : List (RowRun R)). s + length (expanded l)) e ∙ ap (λ (p : ℕ × List R). p.0 + length p.1) shown in
      let here : IsGapless a old s = subst (λ (x : ℕ). IsGapless a old x) (sym start) begun in
      let joined : IsGapless a (old ++ h.added) (s + length (expanded runs')) = gapless-append a old h.added s _ here (h.gapless s _ whole) in
      let at_end : IsGapless a (old ++ h.added) (rows.0 + length rows.1) = subst (λ (x : ℕ). IsGapless a (old ++ h.added) x) end joined in
      subst (λ (l : List (RowRun R)). IsGapless a l (rows.0 + length rows.1)) (sym h.items) at_end
  appended_gapless old new runs runs' rows s b (Err x) e shown g h = tt

  -- two runs with one row, as one

  abbrev pub as_one : RowRun R → RowRun R → RowRun R
  as_one r s = record { start = r.start; end = s.end; row = r.row }

  -- the second of two runs taken out, and the first one lengthened
  pub merged : (i a : ℕ) (rs : List (RowRun R)) (b : ℕ) (r t s u : RowRun R) → suc i < length rs → r ≡ get_or rs i r → t ≡ get_or rs (suc i) t → s ≡ get_or rs (suc i) s → r.row.value ≡ t.row.value
      → u ≡ get_or (remove rs (suc i)) i u → IsGapless a rs b
      → IsGapless a (set (remove rs (suc i)) i (as_one u s)) b × (expanded (set (remove rs (suc i)) i (as_one u s)) ≡ expanded rs)
  merged i a [] b r t s u lt is other next row left h = absurd (omega arith)
  merged zero a (x ∷ []) b r t s u lt is other next row left h = absurd (omega arith)
  merged zero a (x ∷ y ∷ zs) b r t s u lt is other next row left h =
      let first : u.start ≡ x.start = ap (λ (g : RowRun R). g.start) left in
      let last : s.end ≡ y.end = ap (λ (g : RowRun R). g.end) next in
      let one : x.row.value ≡ u.row.value = ap (λ (g : RowRun R). g.row.value) (sym left) in
      let two : y.row.value ≡ u.row.value = ap (λ (g : RowRun R). g.row.value) (sym other) ∙ sym row ∙ ap (λ (g : RowRun R). g.row.value) is ∙ one in
      let n = x.end - x.start in
      let m = y.end - y.start in
      let v = u.row.value in
      let count : s.end - u.start ≡ n + m = omega (arith, first, last, h.1, h.2.0, h.2.1) in
      let split : replicate (s.end - u.start) v ≡ replicate n v ++ replicate m v =
      ap (λ (k : ℕ). replicate k v) count ∙ sym (replicate-append-replicate n m v) in (
        (omega (arith, first, h.0), omega (arith, first, last, h.1, h.2.0, h.2.1), subst (λ (g : ℕ). IsGapless g zs b) (sym last) h.2.2),
        ap (λ (l : List R). l ++ expanded zs) split
            ∙ append_assoc (replicate n v) (replicate m v) (expanded zs)
            ∙ ap (λ (w : R). replicate n v ++ (replicate m w ++ expanded zs)) (sym two)
            ∙ ap (λ (w : R). replicate n w ++ (replicate m y.row.value ++ expanded zs)) (sym one),
      )
  merged (suc i) a (x ∷ xs) b r t s u lt is other next row left h =
      let ih = merged i x.end xs b r t s u (omega arith) is other next row left h.2 in
      ((h.0, h.1, ih.0), ap (λ (l : List R). replicate (x.end - x.start) x.row.value ++ l) ih.1)

  -- the same by the second one's place
  pub merged_at : (at a : ℕ) (rs mid : List (RowRun R)) (b : ℕ) (r t s u : RowRun R) → 0 < at → at < length rs → r ≡ get_or rs (at - 1) r → t ≡ get_or rs at t → s ≡ get_or rs at s → r.row.value ≡ t.row.value
      → mid ≡ remove rs at → u ≡ get_or mid (at - 1) u → IsGapless a rs b
      → IsGapless a (set mid (at - 1) (as_one u s)) b × (expanded (set mid (at - 1) (as_one u s)) ≡ expanded rs)
  merged_at zero a rs mid b r t s u some lt is other next row middle left h = absurd (omega arith)
  merged_at (suc i) a rs mid b r t s u some lt is other next row middle left h =
      let before : suc i - 1 ≡ i = omega arith in
      let is' : r ≡ get_or rs i r = is ∙ ap (λ (k : ℕ). get_or rs k r) before in
      let left' : u ≡ get_or (remove rs (suc i)) i u =
      left ∙ ap (λ (k : ℕ). get_or mid k u) before ∙ ap (λ (l : List (RowRun R)). get_or l i u) middle in
      let P : List (RowRun R) → Type 0 = λ l. IsGapless a l b × (expanded l ≡ expanded rs) in
      let same : set (remove rs (suc i)) i (as_one u s) ≡ set mid (suc i - 1) (as_one u s) =
      ap (λ (l : List (RowRun R)). set l i (as_one u s)) (sym middle) ∙ ap (λ (k : ℕ). set mid k (as_one u s)) (sym before) in
      subst P same (merged i a rs b r t s u lt is' other next row left' h)

  -- a list of runs that has the rows of another one, cycle by cycle

  abbrev pub HasRowsOf : List (RowRun R) → List (RowRun R) → Type 0
  HasRowsOf runs new = (a b : ℕ) → IsGapless a runs b → IsGapless a new b × (expanded new ≡ expanded runs)

  -- one run more, and then a list with the same rows
  pub rows_of_more : (runs old mid new : List (RowRun R)) (i : ℕ) (g : RowRun R) → i < length runs → g ≡ get_or runs i g
      → HasRowsOf (take i runs) old → IsWithRun old g mid
      → ((a b : ℕ) → IsGapless a mid b → expanded new ≡ expanded mid) → ((a b : ℕ) → IsGapless a mid b → IsGapless a new b)
      → HasRowsOf (take (i + 1) runs) new
  rows_of_more runs old mid new i g lt is had one rows gapless =
      let t : take (i + 1) runs ≡ take i runs ++ g ∷ [] =
      (take_at_read runs i g lt).1 ∙ ap (λ (x : RowRun R). take i runs ++ x ∷ []) (sym is) in
      subst (λ (l : List (RowRun R)). HasRowsOf l new) (sym t) (λ a b h.
      let s = gapless_split a (take i runs) b g h in
      let before = had a g.start s.0 in
      let ends : one.added.end ≡ b = one.end ∙ s.2 in
      let joined : IsGapless a (old ++ one.added ∷ []) one.added.end = gapless-snoc a old g.start one.added before.0 one.start (omega (arith, one.start, one.end, s.1)) in
      let here : IsGapless a mid b =
      subst (λ (l : List (RowRun R)). IsGapless a l b) (sym one.items) (subst (λ (x : ℕ). IsGapless a (old ++ one.added ∷ []) x) ends joined) in
      let count : one.added.end - one.added.start ≡ g.end - g.start = omega (arith, one.start, one.end) in
      let same : expanded mid ≡ expanded (take i runs ++ g ∷ []) =
      ap (λ (l : List (RowRun R)). expanded l) one.items ∙ expanded-snoc old one.added
      ∙ ap (λ (l : List R). l ++ replicate (one.added.end - one.added.start) one.added.row.value) before.1
      ∙ ap (λ (n : ℕ). expanded (take i runs) ++ replicate n one.added.row.value) count
      ∙ ap (λ (x : R). expanded (take i runs) ++ replicate (g.end - g.start) x) one.row
      ∙ sym (expanded-snoc (take i runs) g) in
      (gapless a b here, rows a b here ∙ same))

  pub rows_of_all : (runs new : List (RowRun R)) (n : ℕ) → length runs ≤ n → HasRowsOf (take n runs) new → HasRowsOf runs new
  rows_of_all runs new n le h = subst (λ (l : List (RowRun R)). HasRowsOf l new) (take_all n runs le) h
