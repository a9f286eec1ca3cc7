-- Rows of shapes: of each instance those that stand in it.
use Rattle.std.specs.Prelude.{ℕ, suc, List, [], ◌∷◌, ◌++◌, map, Result, Ok, if◌then◌else◌}
use Rattle.std.specs.Global.{Global}
use Rattle.std.specs.declared.vec.Vec.{Vec}
use Rattle.ls_text.specs.declared.fault.Fault.{Fault}
use Rattle.typed_ir.specs.declared.child_shape.ChildShape.{ChildShape}
use Rattle.typed_ir.specs.declared.instance.Instance.{Instance}
use Rattle.typed_ir.specs.Shapes.{children_of, shape_of, stands_in}
use Rattle.verilog_ast.specs.declared.module.Module.{Module}
use Rattle.ls_text.specs.Answers.{◌>>=◌}
use Rattle.unit_jobs.specs.Jobs.{InstanceJob, instance_job}

-- the shapes of those that stand in the k-th, one after another
abbrev pub shapes_in : ℕ → List Instance → List ChildShape
shapes_in k [] = []
shapes_in k (x ∷ xs) = (if stands_in k x.place.parent then shape_of x ∷ [] else []) ++ shapes_in k xs

abbrev pub row_of : Vec ChildShape Global → List ChildShape
row_of r = r.items

-- from the k-th instance on, of each the shapes of those of all that stand in it
abbrev pub rows_from : (all : List Instance) → ℕ → List Instance → List (List ChildShape)
rows_from all k [] = []
rows_from all k (x ∷ xs) = map shape_of (children_of k all) ∷ rows_from all (suc k) xs

-- the jobs of instances with these rows
abbrev pub jobs_in_rows : (texts : List (List ℕ)) → List Module → List (List ChildShape) → List Instance → Result (List InstanceJob) Fault
jobs_in_rows texts ms [] xs = Ok []
jobs_in_rows texts ms (r ∷ rs) [] = Ok []
jobs_in_rows texts ms (r ∷ rs) (x ∷ xs) =
    instance_job texts ms x r >>= λ j. jobs_in_rows texts ms rs xs >>= λ js. Ok (j ∷ js)

-- these jobs, and behind them those that follow, or the first fault
abbrev pub jobs_behind : List InstanceJob → Result (List InstanceJob) Fault → Result (List InstanceJob) Fault
jobs_behind done rest = rest >>= λ js. Ok (done ++ js)
