-- What names with values and values at the beginning of the code mean.
use Rattle.verilog_ast.specs.Views.{expression_of}
use Rattle.statement_rules.specs.declared.declared_value.DeclaredValue.{DeclaredValue as Written}
use Rattle.statement_rules.specs.declared.initial_value.InitialValue.{InitialValue as Initial}
use Rattle.statement_rules.specs.DeclaredValues.{DeclaredValue, InitialValue}

abbrev pub declared_value_of : Written → DeclaredValue
declared_value_of x = record { kind = x.kind; name = x.name; value = expression_of x.value.now }

abbrev pub initial_of : Initial → InitialValue
initial_of x = record { signal = x.signal; value = x.value }
