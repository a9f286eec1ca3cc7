-- Constants that are put into a pool, one after another.
use Rattle.std.proofs.Common.{Bool, true, false, ◌≡◌, ℕ, ◌+◌, ◌*◌, ◌/◌, ◌<◌, ◌≤◌, ◌==◌, ◌||◌, cond, List, [], ◌∷◌, ◌++◌, map, length, get_or, drop, Result, Ok, Err, OnOk, refl, sym, ap, ◌∙◌, subst, inl, inr}
use Rattle.std.specs.List.{list_any}
use Rattle.std.proofs.Math.Nat.{mul_comm, mul-div_cancel}
use Rattle.std.proofs.lemmas.Bool.{eqb-true}
use Rattle.indexmap.specs.IndexSet.{insert_key}
use Rattle.typed_ir.specs.declared.arm.Arm.{Arm as Arm'}
use Rattle.typed_ir.specs.declared.lane.Lane.{Lane}
use Rattle.typed_ir.specs.Orders.{Member}
use Rattle.typed_ir.specs.Stmts.{SizedStmt}
use Rattle.typed_ir.specs.Statements.{stmt_of, arm_of, item_of, arms_before}
use Rattle.typed_ir.proofs.Cases.{by_cases}
use Rattle.typed_ir.proofs.Lists.{drop_read, each_append, each_weaker, each_left, each_right}
use Rattle.typed_ir.proofs.Listed.{arm_is}
use Rattle.typed_ir.proofs.Members.{member_left, member_right}
use Rattle.design_steps.specs.Statements.{target_constants, item_constants, stmt_constants, arm_constants}
use Rattle.design_steps.specs.Nodes.{parts_of}
use Rattle.design_steps.specs.Pooled.{Holds}

pub holds_none : (xs : List ℕ) → Holds xs xs []
holds_none xs = record { kept = λ v m. m; there = tt }

pub holds_both : (old mid new ps qs : List ℕ) → Holds old mid ps → Holds mid new qs → Holds old new (ps ++ qs)
holds_both old mid new ps qs h k = record {
  kept = λ v m. k.kept v (h.kept v m);
  there = each_append (λ v. Member v new) ps qs (each_weaker (λ v. Member v mid) (λ v. Member v new) ps k.kept h.there) k.there;
}

-- what was put in first, and what was put in then
pub holds_first : (old mid new ps qs : List ℕ) → Holds old mid ps → Holds mid new qs → Holds old new ps
holds_first old mid new ps qs h k = record {
  kept = λ v m. k.kept v (h.kept v m);
  there = each_weaker (λ v. Member v mid) (λ v. Member v new) ps k.kept h.there;
}

pub holds_then : (old mid new ps qs : List ℕ) → Holds old mid ps → Holds mid new qs → Holds old new qs
holds_then old mid new ps qs h k = record { kept = λ v m. k.kept v (h.kept v m); there = k.there }

-- the same where the second call may fail
pub both_ok : {A E : Type 0} (r : Result A E) (old mid new ps qs : List ℕ) → Holds old mid ps → OnOk r (Holds mid new qs) → OnOk r (Holds old new (ps ++ qs))
both_ok (Ok x) old mid new ps qs h k = holds_both old mid new ps qs h k
both_ok (Err e) old mid new ps qs h k = tt

pub first_ok : {A E : Type 0} (r : Result A E) (old mid new ps qs : List ℕ) → Holds old mid ps → OnOk r (Holds mid new qs) → OnOk r (Holds old new ps)
first_ok (Ok x) old mid new ps qs h k = holds_first old mid new ps qs h k
first_ok (Err e) old mid new ps qs h k = tt

pub then_ok : {A E : Type 0} (r : Result A E) (old mid new ps qs : List ℕ) → Holds old mid ps → OnOk r (Holds mid new qs) → OnOk r (Holds old new qs)
then_ok (Ok x) old mid new ps qs h k = holds_then old mid new ps qs h k
then_ok (Err e) old mid new ps qs h k = tt

-- the same where the second ones were put in first
pub holds_front : (old mid new ps qs : List ℕ) → Holds mid new ps → Holds old mid qs → Holds old new (ps ++ qs)
holds_front old mid new ps qs h k = record {
  kept = λ v m. h.kept v (k.kept v m);
  there = each_append (λ v. Member v new) ps qs h.there (each_weaker (λ v. Member v mid) (λ v. Member v new) qs h.kept k.there);
}

found_in : (v : ℕ) (xs : List ℕ) → list_any (λ x. v == x) xs ≡ true → Member v xs
found_in v [] h = cc
found_in v (x ∷ xs) h = by_cases (v == x)
    (λ yes. inl (eqb-true v x yes))
    (λ no. inr (found_in v xs (ap (λ b. b || list_any (λ y. v == y) xs) (sym no) ∙ h)))

pub holds_one : (value : ℕ) (old new : List ℕ) → new ≡ insert_key (λ x y. x == y) old value → Holds old new (value ∷ [])
holds_one value old new is = subst (λ xs. Holds old xs (value ∷ [])) (sym is) (inserted (list_any (λ x. value == x) old) refl)
  where
    inserted : (b : Bool) → list_any (λ x. value == x) old ≡ b → Holds old (cond b old (old ++ value ∷ [])) (value ∷ [])
    inserted true e = record { kept = λ v m. m; there = (found_in value old e, tt) }
    inserted false e = record { kept = λ v m. member_left v old (value ∷ []) m; there = (member_right value old (value ∷ []) (inl refl), tt) }

-- one more of a list, the last one first
pub holds_next : {A : Type 0} (needs : A → List ℕ) (all : List A → List ℕ) → ((x : A) (xs : List A) → all (x ∷ xs) ≡ needs x ++ all xs)
    → (list : List A) (k : ℕ) (x : A) (old mid new : List ℕ) → k < length list → x ≡ get_or list k x
    → Holds mid new (needs x) → Holds old mid (all (drop (k + 1) list)) → Holds old new (all (drop k list))
holds_next needs all cons list k x old mid new h is one rest =
    subst (λ zs. Holds old new (all zs)) (sym (drop_read list k x h is))
    (subst (λ cs. Holds old new cs) (sym (cons x (drop (k + 1) list))) (holds_front old mid new (needs x) (all (drop (k + 1) list)) one rest))

-- one more arm
pub holds_arm : (arms : List Arm') (otherwise : SizedStmt) (k : ℕ) (x : Arm') (old mid new : List ℕ) → k < length arms → x ≡ get_or arms k x
    → Holds mid new (item_constants (map item_of x.items.items) ++ stmt_constants (stmt_of x.body))
    → Holds old mid (arm_constants (arms_before (map arm_of (drop (k + 1) arms)) otherwise))
    → Holds old new (arm_constants (arms_before (map arm_of (drop k arms)) otherwise))
holds_arm arms otherwise k x old mid new h is one rest =
    let items = item_constants (map item_of x.items.items) in
    let body = stmt_constants (stmt_of x.body) in
    let others = arms_before (map arm_of (drop (k + 1) arms)) otherwise in
    let own = holds_front old mid new (items ++ body) (arm_constants others) one rest in
    let front = each_left (λ v. Member v new) (items ++ body) (arm_constants others) own.there in
    subst (λ zs. Holds old new (arm_constants (arms_before (map arm_of zs) otherwise))) (sym (drop_read arms k x h is))
    (subst (λ a. Holds old new (arm_constants a)) (sym (arm_is x others))
    (record {
      kept = own.kept;
      there = each_append (λ v. Member v new) items (body ++ arm_constants others) (each_left (λ v. Member v new) items body front)
          (each_append (λ v. Member v new) body (arm_constants others) (each_right (λ v. Member v new) items body front)
          (each_right (λ v. Member v new) (items ++ body) (arm_constants others) own.there));
    }))

lanes_none : (lanes : List Lane) → target_constants (parts_of lanes) ≡ []
lanes_none [] = refl
lanes_none (lane ∷ lanes) = lanes_none lanes

-- lanes have no constants of their own
pub holds_drive : (old new ps : List ℕ) (lanes : List Lane) → Holds old new ps → Holds old new (ps ++ target_constants (parts_of lanes))
holds_drive old new ps lanes h = subst (λ qs. Holds old new (ps ++ qs)) (sym (lanes_none lanes)) (holds_both old new new ps [] h (holds_none new))

-- the width of what is repeated
pub part_width : (width count w : ℕ) → width ≡ count * w → 1 ≤ count → width / count ≡ w
part_width width count w product some = ap (λ z. z / count) (product ∙ mul_comm count w) ∙ mul-div_cancel w some
