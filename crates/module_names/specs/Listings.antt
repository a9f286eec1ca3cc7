-- Names in an order.
use Rattle.std.specs.Prelude.{ℕ, Bool, true, false, ◌==◌, if◌then◌else◌, List, [], ◌∷◌}
use Rattle.verilog_ast.specs.declared.identifier.Identifier.{Identifier}

abbrev pub is_listed : ℕ → List Identifier → Bool
is_listed name [] = false
is_listed name (n ∷ ns) = if name == n.name.0 then true else is_listed name ns

-- the names behind the first one
abbrev pub names_behind : List Identifier → List Identifier
names_behind [] = []
names_behind (n ∷ ns) = ns
