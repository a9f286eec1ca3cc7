-- Modules without those of which one of the same name stands before.
use Rattle.std.specs.Prelude.{List, [], ◌∷◌, ◌++◌, Option, Some, None}
use Rattle.verilog_ast.specs.declared.module.Module.{Module}
use Rattle.unit_jobs.specs.Jobs.{module_called}

-- one more where none of its name was found
abbrev pub one_if_none : Option Module → List Module → Module → List Module
one_if_none None ms m = ms ++ m ∷ []
one_if_none (Some other) ms m = ms

abbrev pub with_module : List Module → Module → List Module
with_module ms m = one_if_none (module_called m.body.name.name.0 ms) ms m

-- these, and of further ones the first of each name
abbrev pub first_modules : List Module → List Module → List Module
first_modules ms [] = ms
first_modules ms (n ∷ ns) = first_modules (with_module ms n) ns
