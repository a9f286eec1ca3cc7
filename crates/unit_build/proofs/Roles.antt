-- The registers of a unit are just the variables that no combinational block writes, and its data inputs are declared as inputs.
use Rattle.std.proofs.Common.{◌≡◌, ℕ, zero, suc, ◌<◌, ◌&&◌, inl, inr, Bool, true, false, cond, not, filter, List, [], ◌∷◌, length, refl, sym, ◌∙◌, ap, subst, arith, true≢false}
use Rattle.std.specs.Prelude.{Option, slice_get}
use Rattle.ls_text.specs.declared.name_id.NameId.{NameId}
use Rattle.typed_ir.specs.Orders.{Member, at_or}
use Rattle.typed_ir.specs.declared.signal_declaration.SignalDeclaration.{SignalDeclaration}
use Rattle.typed_ir.specs.declared.signal_kind.SignalKind.{SignalKind}
use Rattle.typed_ir.specs.declared.signal_kind.SignalKind.TheVariants as kind
use Rattle.typed_ir.specs.Items.{PlacedItem}
use Rattle.typed_ir.proofs.Members.{member_filtered}
use Rattle.gen_unroll.specs.Numbers.{SignalTable}
use Rattle.gen_unroll.specs.Signals.{NamedSignal}
use Rattle.gen_unroll.proofs.Numbered.{input_at, input_from}
use Rattle.gen_unroll.specs.UnitLists.{declarations_of, is_input, data_inputs, is_variable, is_register_at, is_register}
use Rattle.driver_rules.specs.Driven.{is_input_kind, HasRoles}
use Rattle.driver_rules.specs.Driven.{is_input as is_declared_input}
use Rattle.driver_rules.specs.Targets.{is_variable_kind, is_settled}
use Rattle.module_registry.specs.declared.build_job.BuildJob.{BuildJob}
use Rattle.statement_rules.specs.DeclaredValues.{InitialValue}
use Rattle.unit_build.specs.Building.{placed}

-- ---- numbers that meet a test

member_kept : (test : ℕ → Bool) (ks : List ℕ) (s : ℕ) → Member s ks → test s ≡ true → Member s (filter test ks)
member_kept test [] s m h = absurd m
member_kept test (k ∷ ks) s (inl e) h = subst (λ (b : Bool). Member s (cond b (k ∷ filter test ks) (filter test ks))) (sym (sym (ap test e) ∙ h)) (inl e)
member_kept test (k ∷ ks) s (inr m) h = by (test k) (member_kept test ks s m h)
  where
    by : (b : Bool) → Member s (filter test ks) → Member s (cond b (k ∷ filter test ks) (filter test ks))
    by true rest = inr rest
    by false rest = rest

-- ---- registers

kinds_same : (k : SignalKind) → is_variable k ≡ is_variable_kind k
kinds_same kind.Input = refl
kinds_same kind.Net = refl
kinds_same kind.Variable = refl

-- a register is a variable by its declaration
register_same : (xs : List NamedSignal) (s : ℕ) (settled : Bool)
    → is_register_at settled (slice_get xs s) ≡ (at_or (λ (d : SignalDeclaration). is_variable_kind d.kind) false (declarations_of xs) s && not settled)
register_same [] s settled = refl
register_same (x ∷ xs) zero settled = ap (λ (b : Bool). b && not settled) (kinds_same x.kind)
register_same (x ∷ xs) (suc s) settled = register_same xs s settled

-- the number of a register is that of a signal
pub register_there : (xs : List NamedSignal) (s : ℕ) (settled : Bool) → is_register_at settled (slice_get xs s) ≡ true → s < length xs
register_there [] s settled h = absurd (true≢false (sym h))
register_there (x ∷ xs) zero settled h = omega arith
register_there (x ∷ xs) (suc s) settled h = let rest = register_there xs s settled h in omega (arith, rest)

-- ---- inputs

inputs_same : (k : SignalKind) → is_input k ≡ is_input_kind k
inputs_same kind.Input = refl
inputs_same kind.Net = refl
inputs_same kind.Variable = refl

abbrev declared_input : List NamedSignal → ℕ → Bool
declared_input xs s = at_or (λ (d : SignalDeclaration). is_input_kind d.kind) false (declarations_of xs) s

at_declared : (xs : List NamedSignal) (k : ℕ) → input_at xs k ≡ true → declared_input xs k ≡ true
at_declared [] k h = absurd (true≢false (sym h))
at_declared (x ∷ xs) zero h = sym (inputs_same x.kind) ∙ h
at_declared (x ∷ xs) (suc k) h = at_declared xs k h

input_declared : (clock : Option NameId) (xs : List NamedSignal) (s : ℕ) → Member s (data_inputs clock xs) → is_declared_input (declarations_of xs) s ≡ true
input_declared clock xs s m =
    let h = input_from 0 clock xs s m in
    let is = h.is in
    let same : s ≡ h.place = omega (arith, is) in
    ap (declared_input xs) same ∙ at_declared xs h.place h.seen

-- ---- both

-- where each signal is among the declared ones
pub has_roles : (job : BuildJob) (t : SignalTable) (items : List PlacedItem) (initials : List InitialValue) → (all : (s : ℕ) → s < length t.signals → Member s t.declared)
    → HasRoles (placed job t items initials)
has_roles job t items initials all = record {
  only = λ s m. sym (register_same t.signals s (is_settled items s)) ∙ (member_filtered (is_register (is_settled items) t.signals) t.declared s m).1;
  all = λ s h.
      let is = register_same t.signals s (is_settled items s) ∙ h in
      member_kept (is_register (is_settled items) t.signals) t.declared s (all s (register_there t.signals s (is_settled items s) is)) is;
  inputs = λ s m. input_declared job.clock t.signals s m;
}
