-- Lists of the signals of blocks, of which one grows; and the signals of a block of a list that grows.
use Rattle.std.proofs.Common.{◌≡◌, ◌≢◌, ℕ, zero, suc, ◌+◌, ◌<◌, ◌≤◌, ◌==◌, Bool, true, false, cond, List, [], ◌∷◌, ◌++◌, length, get_or, set, map, append-nil, refl, sym, ◌∙◌, ap, eqb-true, arith}
use Rattle.std.specs.Prelude.{Option}
use Rattle.std.specs.Global.{Global}
use Rattle.std.specs.declared.vec.Vec.{Vec}
use Rattle.std.proofs.lemmas.Bool.{eqb-false}
use Rattle.std.proofs.lemmas.List.{map-append}
use Rattle.typed_ir.proofs.Cases.{by_cases}
use Rattle.gen_unroll.specs.declared.block_signal.BlockSignal.{BlockSignal}
use Rattle.gen_unroll.specs.Signals.{NamedSignal}
use Rattle.gen_unroll.specs.Reaches.{same_block}
use Rattle.gen_unroll.specs.Numbers.{NumberedSignal, in_block_from}
use Rattle.gen_unroll.specs.Rows.{row_in}
use Rattle.gen_unroll.specs.SignalViews.{numbered_of}

abbrev pub Row : Type 0
Row = Vec BlockSignal Global

-- an empty row more
pub row_more : (rows : List Row) (r : Row) → r.items ≡ [] → (b : ℕ) → row_in (rows ++ r ∷ []) b ≡ row_in rows b
row_more [] r e zero = ap (map numbered_of) e
row_more [] r e (suc b) = refl
row_more (x ∷ xs) r e zero = refl
row_more (x ∷ xs) r e (suc b) = row_more xs r e b

row_same : (rows : List Row) (k : ℕ) (r : Row) → k < length rows → row_in (set rows k r) k ≡ map numbered_of r.items
row_same [] k r h = absurd (omega (arith, h))
row_same (x ∷ xs) zero r h = refl
row_same (x ∷ xs) (suc k) r h = row_same xs k r (omega (arith, h))

row_other : (rows : List Row) (k b : ℕ) (r : Row) → k ≢ b → row_in (set rows k r) b ≡ row_in rows b
row_other [] k b r h = refl
row_other (x ∷ xs) zero zero r h = absurd (h refl)
row_other (x ∷ xs) zero (suc b) r h = refl
row_other (x ∷ xs) (suc k) zero r h = refl
row_other (x ∷ xs) (suc k) (suc b) r h = row_other xs k b r (λ e. h (ap suc e))

row_found : (rows : List Row) (k : ℕ) (d : Row) → k < length rows → row_in rows k ≡ map numbered_of (get_or rows k d).items
row_found [] k d h = absurd (omega (arith, h))
row_found (x ∷ xs) zero d h = refl
row_found (x ∷ xs) (suc k) d h = row_found xs k d (omega (arith, h))

pub row_read : (rows : List Row) (k : ℕ) (r : Row) → k < length rows → r ≡ get_or rows k r → row_in rows k ≡ map numbered_of r.items
row_read rows k r h is = row_found rows k r h ∙ ap (λ (z : Row). map numbered_of z.items) (sym is)

pub row_none : (rows : List Row) (k : ℕ) → length rows ≤ k → row_in rows k ≡ []
row_none [] k h = refl
row_none (x ∷ xs) zero h = absurd (omega (arith, h))
row_none (x ∷ xs) (suc k) h = row_none xs k (omega (arith, h))

-- one signal more in one row
pub row_pushed : (rows : List Row) (k : ℕ) (x : BlockSignal) (d new : Row) → k < length rows → new.items ≡ (get_or rows k d).items ++ x ∷ []
    → (b : ℕ) → row_in (set rows k new) b ≡ row_in rows b ++ cond (k == b) (numbered_of x ∷ []) []
row_pushed rows k x d new h more b = by_cases (k == b)
    (λ here. ap (row_in (set rows k new)) (sym (eqb-true k b here)) ∙ row_same rows k new h ∙ ap (map numbered_of) more
    ∙ map-append numbered_of (get_or rows k d).items (x ∷ [])
    ∙ ap (λ zs. zs ++ numbered_of x ∷ []) (sym (row_found rows k d h) ∙ ap (row_in rows) (eqb-true k b here))
    ∙ ap (λ t. row_in rows b ++ cond t (numbered_of x ∷ []) []) (sym here))
    (λ there. row_other rows k b new (eqb-false k b there) ∙ sym (append-nil (row_in rows b))
    ∙ ap (λ t. row_in rows b ++ cond t (numbered_of x ∷ []) []) (sym there))

-- ---- those of a block, with one signal more

pub in_block_last : (k : ℕ) (b : Option ℕ) (xs : List NamedSignal) (x : NamedSignal) (n : ℕ) → n ≡ k + length xs
    → in_block_from k b (xs ++ x ∷ []) ≡ in_block_from k b xs ++ cond (same_block b x.block) (record { number = n; signal = x } ∷ []) []
in_block_last k b [] x n is =
    let same : k ≡ n = omega (arith, is) in
    ap (λ (m : ℕ). cond (same_block b x.block) (record { number = m; signal = x } ∷ []) []) same
in_block_last k b (y ∷ ys) x n is = by (same_block b y.block) (in_block_last (suc k) b ys x n (omega (arith, is)))
  where
    by : (t : Bool) → in_block_from (suc k) b (ys ++ x ∷ []) ≡ in_block_from (suc k) b ys ++ cond (same_block b x.block) (record { number = n; signal = x } ∷ []) []
        → cond t (record { number = k; signal = y } ∷ in_block_from (suc k) b (ys ++ x ∷ [])) (in_block_from (suc k) b (ys ++ x ∷ []))
        ≡ cond t (record { number = k; signal = y } ∷ in_block_from (suc k) b ys) (in_block_from (suc k) b ys) ++ cond (same_block b x.block) (record { number = n; signal = x } ∷ []) []
    by true rest = ap (λ (zs : List NumberedSignal). record { number = k; signal = y } ∷ zs) rest
    by false rest = rest
