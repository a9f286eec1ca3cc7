-- After a cycle the environment is ready for the next one.
use Rattle.std.proofs.Common.{◌≡◌, ℕ, suc, ◌-◌, ◌/◌, ◌^◌, min, ℤ, pos, Bool, true, false, ◌==◌, cond, ◌⊎◌, inl, inr, List, [], ◌∷◌, map, refl, sym, ◌∙◌, ap, subst, nat_lt}
use Rattle.std.specs.Prelude.{negsuc}
use Rattle.std.proofs.lemmas.Bool.{eqb-true, eqb-false, ne_eqb, cond-true, cond-false}
use Rattle.typed_ir.specs.declared.span.Span.{Span}
use Rattle.typed_ir.specs.declared.update.Update.{Update}
use Rattle.typed_ir.specs.Valuations.{Valuation, look, placed}
use Rattle.typed_ir.specs.Sized.{value_of, width_of, place_of}
use Rattle.typed_ir.specs.declared.reach.Reach.{Reach}
use Rattle.typed_ir.specs.Stmts.{SizedTarget, Fixed, Moving, SizedStmt, SizedArms, Skip, Assign, Later, Then, If, Case, Arm, Default, moved, update_of, updates_of, all_applied, matches_any, pending, pending_arms, exec, span_of, later_targets, later_arm_targets}
use Rattle.typed_ir.specs.Orders.{Member, Each}
use Rattle.typed_ir.specs.Cycles.{Flat, fill, base, wires, step, all_pending, Satisfies, WritesRegisters, IsReady}
use Rattle.typed_ir.proofs.Cases.{by_cases}
use Rattle.typed_ir.proofs.Members.{member_later}
use Rattle.typed_ir.proofs.Locals.{node_laws}
use Rattle.typed_ir.proofs.Settled.{round-outside}
use Rattle.typed_ir.proofs.Lists.{each_append, each_left, each_right}

moved_signals : (P : ℕ → Type 0) (reach : Reach) (z : ℤ) (x : ℕ) → P reach.signal → Each (λ (u : Update). P u.span.signal) (moved reach z x)
moved_signals P reach (pos low) x h = go (nat_lt low reach.total)
  where
    go : (b : Bool) → Each (λ (u : Update). P u.span.signal) (cond b (record { span = record { signal = reach.signal; low = low; width = min reach.width (reach.total - low) }; value = x } ∷ []) [])
    go true = (h, tt)
    go false = tt
moved_signals P reach (negsuc below) x h = go (nat_lt (suc below) reach.width)
  where
    go : (b : Bool) → Each (λ (u : Update). P u.span.signal) (cond b (record { span = record { signal = reach.signal; low = 0; width = min (reach.width - suc below) reach.total }; value = x / 2 ^ suc below } ∷ []) [])
    go true = (h, tt)
    go false = tt

update_signals : (P : ℕ → Type 0) (t : SizedTarget) (x : ℕ) (env : Valuation) → P (span_of t).signal → Each (λ (u : Update). P u.span.signal) (update_of t x env)
update_signals P (Fixed lane) x env h = (h, tt)
update_signals P (Moving reach index) x env h = moved_signals P reach (place_of reach.below reach.signed (width_of index) (value_of index env)) (x / 2 ^ reach.shift) h

updates_signals : (P : ℕ → Type 0) (ts : List SizedTarget) (x : ℕ) (env : Valuation) → Each (λ (p : Span). P p.signal) (map span_of ts)
    → Each (λ (u : Update). P u.span.signal) (updates_of ts x env)
updates_signals P [] x env h = tt
updates_signals P (t ∷ ts) x env h =
    each_append (λ (u : Update). P u.span.signal) (update_of t x env) (updates_of ts x env) (update_signals P t x env h.0) (updates_signals P ts x env h.1)

chosen : (P : ℕ → Type 0) (t : Bool) (us vs : List Update) → Each (λ (u : Update). P u.span.signal) us → Each (λ (u : Update). P u.span.signal) vs
    → Each (λ (u : Update). P u.span.signal) (cond t us vs)
chosen P true us vs x y = x
chosen P false us vs x y = y

mutual
  pub pending_signals : (P : ℕ → Type 0) (st : SizedStmt) (env : Valuation) → Each (λ (p : Span). P p.signal) (later_targets st) → Each (λ (u : Update). P u.span.signal) (pending st env)
  pending_signals P Skip env h = tt
  pending_signals P (Assign parts e) env h = tt
  pending_signals P (Later parts e) env h = updates_signals P parts (value_of e env) env h
  pending_signals P (Then a b) env h =
      each_append (λ (u : Update). P u.span.signal) (pending a env) (pending b (exec a env))
      (pending_signals P a env (each_left (λ (p : Span). P p.signal) (later_targets a) (later_targets b) h))
      (pending_signals P b (exec a env) (each_right (λ (p : Span). P p.signal) (later_targets a) (later_targets b) h))
  pending_signals P (If c a b) env h =
      chosen P (value_of c env == 0) (pending b env) (pending a env) (pending_signals P b env (each_right (λ (p : Span). P p.signal) (later_targets a) (later_targets b) h))
      (pending_signals P a env (each_left (λ (p : Span). P p.signal) (later_targets a) (later_targets b) h))
  pending_signals P (Case e arms) env h = pending_arms_signals P arms (value_of e env) env h

  pending_arms_signals : (P : ℕ → Type 0) (arms : SizedArms) (subject : ℕ) (env : Valuation) → Each (λ (p : Span). P p.signal) (later_arm_targets arms)
      → Each (λ (u : Update). P u.span.signal) (pending_arms arms subject env)
  pending_arms_signals P (Arm items body rest) subject env h =
      chosen P (matches_any subject items env) (pending body env) (pending_arms rest subject env) (pending_signals P body env (each_left (λ (p : Span). P p.signal) (later_targets body) (later_arm_targets rest) h))
      (pending_arms_signals P rest subject env (each_right (λ (p : Span). P p.signal) (later_targets body) (later_arm_targets rest) h))
  pending_arms_signals P (Default otherwise) subject env h = pending_signals P otherwise env h

pub all_signals : (registers : List ℕ) (sts : List SizedStmt) (env : Valuation) → WritesRegisters registers sts
    → Each (λ (u : Update). Member u.span.signal registers) (all_pending sts env)
all_signals registers [] env h = tt
all_signals registers (st ∷ sts) env h =
    each_append (λ (u : Update). Member u.span.signal registers) (pending st env) (all_pending sts env)
    (pending_signals (λ s. Member s registers) st env h.0) (all_signals registers sts env h.1)

-- updates of registers leave every other signal
pub applied_others : (registers : List ℕ) (us : List Update) (env : Valuation) (s : ℕ) → Each (λ (u : Update). Member u.span.signal registers) us
    → (Member s registers → ⊥) → all_applied us env s ≡ env s
applied_others registers [] env s h ne = refl
applied_others registers (u ∷ us) env s h ne =
    applied_others registers us (placed u.span u.value env) s h.1 ne
    ∙ by_cases (s == u.span.signal)
    (λ yes. absurd (ne (subst (λ z. Member z registers) (sym (eqb-true s u.span.signal yes)) h.0)))
    (λ no. cond-false (s == u.span.signal) _ (env s) no)

pub member_or : (s : ℕ) (xs : List ℕ) → Member s xs ⊎ (Member s xs → ⊥)
member_or s [] = inr (λ m. m)
member_or s (x ∷ xs) = by_cases (s == x)
    (λ yes. inl (inl (eqb-true s x yes)))
    (λ no. elim (member_or s xs) as (λ _. (Member s (x ∷ xs) ⊎ (Member s (x ∷ xs) → ⊥)))
    [ inl m ↦ inl (inr m) | inr n ↦ inr (neither s x xs (eqb-false s x no) n) ])
  where
    neither : (s x : ℕ) (xs : List ℕ) → (s ≡ x → ⊥) → (Member s xs → ⊥) → Member s (x ∷ xs) → ⊥
    neither s x xs a b (inl e) = a e
    neither s x xs a b (inr m) = b m

-- registers filled from an environment have what it has
pub fill-map : (rs : List ℕ) (f env : Valuation) (s : ℕ) → Member s rs → fill rs (map f rs) env s ≡ f s
fill-map [] f env s m = absurd m
fill-map (r ∷ rs) f env s m = by_cases (s == r)
    (λ yes. cond-true (s == r) (f r) (fill rs (map f rs) env s) yes ∙ ap f (sym (eqb-true s r yes)))
    (λ no. cond-false (s == r) (f r) (fill rs (map f rs) env s) no ∙ fill-map rs f env s (member_later s r rs (eqb-false s r no) m))

pub fill-other : (rs xs : List ℕ) (env : Valuation) (s : ℕ) → (Member s rs → ⊥) → fill rs xs env s ≡ env s
fill-other [] xs env s n = refl
fill-other (r ∷ rs) [] env s n = refl
fill-other (r ∷ rs) (x ∷ xs) env s n =
    cond-false (s == r) x (fill rs xs env s) (ne_eqb s r (λ e. n (inl e))) ∙ fill-other rs xs env s (λ m. n (inr m))

-- so the next cycle, under the same inputs, begins with no write at all
pub next_ready : (design : Flat) (state inputs : List ℕ) → WritesRegisters design.registers design.clocked
    → Satisfies design state inputs (wires design state inputs)
    → IsReady design (step design state inputs) inputs (all_applied (all_pending design.clocked (wires design state inputs)) (wires design state inputs))
unfolding step
next_ready design state inputs only h s i free =
    let v = wires design state inputs in
    let us = all_pending design.clocked v in
    let after = all_applied us v in
    let rs = design.registers in
    let rest = fill design.inputs inputs (λ t. 0) in
    elim (member_or s rs) as (λ _. look after s i ≡ look (fill rs (map after rs) rest) s i) [
      | inl m ↦ ap (λ n. look (λ t. n) s i) (sym (fill-map rs after rest s m))
      | inr n ↦ ap (λ x. look (λ t. x) s i) (applied_others rs us v s (all_signals rs design.clocked v only) n)
          ∙ ap (λ e. look e s i) (sym h) ∙ round-outside node_laws design.nodes v (base design state inputs) s i free
          ∙ ap (λ x. look (λ t. x) s i) (fill-other rs state rest s n ∙ sym (fill-other rs (map after rs) rest s n))
    ]
