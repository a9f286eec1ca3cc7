use Rattle.std.proofs.Common.{◌≡◌, ◌++◌, drop}
use Rattle.verilog_ast.specs.Views.{declarations_of}
use Rattle.module_names.specs.Views.{modules_of}
use Rattle.elaborate.specs.Elaborated.{named_once}
use Rattle.elaborate.proofs.designing.add_all.Given as goal

abbrev pub invariant-loop-one : goal.invariant-loop-one
invariant-loop-one l = record {
  left : named_once (modules_of l.modules) (declarations_of (drop l.one-index l.all)) ≡ named_once (modules_of l.initial.modules) (declarations_of l.all);
  all : modules_of l.modules ++ declarations_of (drop l.one-index l.all) ≡ modules_of l.initial.modules ++ declarations_of l.all;
}
