-- A value that has to be constant reads no signal, and what a variable has at the beginning.
use Rattle.std.proofs.Common.{◌≡◌, ℕ, ◌%◌, ◌^◌, Bool, [], sym, ap, ap₂, ◌∙◌, IsTrue}
use Rattle.typed_ir.specs.Sized.{Sized, fits_signals, value_of}
use Rattle.verilog_ast.specs.Expressions.{Expression}
use Rattle.width_rules.specs.declared.due.Due.TheVariants.{ConstantOnly}
use Rattle.width_rules.specs.Scopes.{Scope}
use Rattle.width_rules.specs.Sizes.{name_length, no_signals}
use Rattle.width_rules.specs.Opened.{Opened, closed, open_of}
use Rattle.width_rules.specs.Faults.{faults}
use Rattle.width_rules.proofs.Lengths.{whole_is}
use Rattle.width_rules.proofs.Opening.{pushed}
use Rattle.width_rules.proofs.Reading.{no_reads, due_constant}
use Rattle.statement_rules.specs.Statements.{assigned}
use Rattle.statement_rules.specs.DeclaredValues.{DeclaredValue, InitialValue, signal_in, initial_value}

-- at any length and sign
pub reads_none : (scope : Scope) (x : Expression) (o : Opened) (l : ℕ) (t : Bool) (z : Sized) → faults scope ConstantOnly x ≡ []
    → o ≡ open_of scope x → z ≡ closed o l t → IsTrue (fits_signals z [])
reads_none scope x o l t z h form is =
    (ap (λ (p : Sized). fits_signals p []) (pushed scope x o l t z form is) ∙ no_reads scope x (due_constant scope x h) l t)

abbrev pub initial_with : ℕ → ℕ → InitialValue
initial_with s v = record { signal = s; value = v }

-- the value is cut to the width that was found
pub begins : (scope : Scope) (x : DeclaredValue) (s v w : ℕ) → s ≡ signal_in (scope x.name.name.0) → w ≡ name_length (scope x.name.name.0)
    → v ≡ value_of (assigned scope w x.value) no_signals % 2 ^ w → initial_with s v ≡ initial_value scope x
begins scope x s v w signal wide is =
    ap₂ initial_with signal (is ∙ ap (λ (n : ℕ). value_of (assigned scope n x.value) no_signals % 2 ^ n) (wide ∙ sym (whole_is scope x.name)))
