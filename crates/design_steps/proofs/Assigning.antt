-- Assignments to one part, and to more.
use Rattle.std.proofs.Common.{◌≡◌, ℕ, ◌+◌, List, [], ◌∷◌, ◌++◌, length, get_or, append_assoc, refl, ap, ◌∙◌, arith}
use Rattle.word_steps.specs.declared.step.Step.{Step}
use Rattle.typed_ir.specs.declared.lane.Lane.{Lane}
use Rattle.typed_ir.specs.declared.target.Target.{Target}
use Rattle.typed_ir.specs.Stmts.{Fixed}
use Rattle.typed_ir.specs.Sized.{Sized, width_of}
use Rattle.typed_ir.specs.Targets.{target_of, targets_of}
use Rattle.design_steps.specs.Plans.{Plan}
use Rattle.design_steps.specs.Expressions.{code}
use Rattle.design_steps.specs.Statements.{one_code, parts_code, assign_code}
use Rattle.design_steps.specs.Nodes.{parts_of}

pub one_target : (l : Plan) (h : ℕ → ℕ) (ts : List Target) (e : Sized) (mark : ℕ) (x : Target) → length ts ≡ 1 → x ≡ get_or ts 0 x
    → one_code l h (target_of x) e mark ≡ assign_code l h (targets_of ts) e mark
one_target l h [] e mark x one is = absurd (omega (arith, one))
one_target l h (t ∷ []) e mark x one is = ap (λ z. one_code l h (target_of z) e mark) is
one_target l h (t ∷ u ∷ ts) e mark x one is = absurd (omega (arith, one))

pub more_targets : (l : Plan) (h : ℕ → ℕ) (ts : List Target) (e : Sized) (mark : ℕ) → (length ts ≡ 0 → ⊥) → (length ts ≡ 1 → ⊥)
    → code l e mark mark ++ parts_code l h (targets_of ts) (width_of e) mark (mark + 1) ≡ assign_code l h (targets_of ts) e mark
more_targets l h [] e mark some more = absurd (some refl)
more_targets l h (t ∷ []) e mark some more = absurd (more refl)
more_targets l h (t ∷ u ∷ ts) e mark some more = refl

-- the same of lanes
pub one_lane : (l : Plan) (h : ℕ → ℕ) (ls : List Lane) (e : Sized) (mark : ℕ) (x : Lane) → length ls ≡ 1 → x ≡ get_or ls 0 x
    → one_code l h (Fixed x) e mark ≡ assign_code l h (parts_of ls) e mark
one_lane l h [] e mark x one is = absurd (omega (arith, one))
one_lane l h (t ∷ []) e mark x one is = ap (λ z. one_code l h (Fixed z) e mark) is
one_lane l h (t ∷ u ∷ ts) e mark x one is = absurd (omega (arith, one))

more_lanes : (l : Plan) (h : ℕ → ℕ) (ls : List Lane) (e : Sized) (mark : ℕ) → (length ls ≡ 0 → ⊥) → (length ls ≡ 1 → ⊥)
    → code l e mark mark ++ parts_code l h (parts_of ls) (width_of e) mark (mark + 1) ≡ assign_code l h (parts_of ls) e mark
more_lanes l h [] e mark some more = absurd (some refl)
more_lanes l h (t ∷ []) e mark some more = absurd (more refl)
more_lanes l h (t ∷ u ∷ ts) e mark some more = refl

-- the steps of all parts behind those of the value
pub all_targets : (l : Plan) (h : ℕ → ℕ) (ts : List Target) (e : Sized) (mark : ℕ) (old mid new : List Step) (width second : ℕ)
    → (length ts ≡ 0 → ⊥) → (length ts ≡ 1 → ⊥) → width ≡ width_of e → second ≡ mark + 1 → mid ≡ old ++ code l e mark mark
    → new ≡ mid ++ parts_code l h (targets_of ts) width mark second → new ≡ old ++ assign_code l h (targets_of ts) e mark
all_targets l h ts e mark old mid new width second some more wide next first is =
    is
    ∙ ap (λ xs. xs ++ parts_code l h (targets_of ts) width mark second) first
    ∙ append_assoc old (code l e mark mark) (parts_code l h (targets_of ts) width mark second)
    ∙ ap (λ k. old ++ (code l e mark mark ++ parts_code l h (targets_of ts) k mark second)) wide
    ∙ ap (λ k. old ++ (code l e mark mark ++ parts_code l h (targets_of ts) (width_of e) mark k)) next
    ∙ ap (λ xs. old ++ xs) (more_targets l h ts e mark some more)

pub all_lanes : (l : Plan) (h : ℕ → ℕ) (ls : List Lane) (e : Sized) (mark : ℕ) (old mid new : List Step) (width second : ℕ)
    → (length ls ≡ 0 → ⊥) → (length ls ≡ 1 → ⊥) → width ≡ width_of e → second ≡ mark + 1 → mid ≡ old ++ code l e mark mark
    → new ≡ mid ++ parts_code l h (parts_of ls) width mark second → new ≡ old ++ assign_code l h (parts_of ls) e mark
all_lanes l h ls e mark old mid new width second some more wide next first is =
    is
    ∙ ap (λ xs. xs ++ parts_code l h (parts_of ls) width mark second) first
    ∙ append_assoc old (code l e mark mark) (parts_code l h (parts_of ls) width mark second)
    ∙ ap (λ k. old ++ (code l e mark mark ++ parts_code l h (parts_of ls) k mark second)) wide
    ∙ ap (λ k. old ++ (code l e mark mark ++ parts_code l h (parts_of ls) (width_of e) mark k)) next
    ∙ ap (λ xs. old ++ xs) (more_lanes l h ls e mark some more)
