-- The names in reach of a scope of the code, and those around its blocks.
use Rattle.std.specs.Prelude.{List}
use Rattle.width_rules.specs.declared.scope.Scope.{Scope as Names}
use Rattle.width_rules.specs.Scopes.{Scope}
use Rattle.width_rules.specs.Found.{found, uncovered}

abbrev pub scope_of : Names → Scope
scope_of names = found names.names.entries

-- the names in reach around each open block, from the innermost block on
abbrev pub around : Names → List Scope
around names = uncovered names.covered.items (scope_of names)
