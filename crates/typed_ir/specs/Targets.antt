-- What a part left of an assignment means.
use Rattle.std.specs.Prelude.{List, map}
use Rattle.typed_ir.specs.Stmts.{SizedTarget, Fixed, Moving}
use Rattle.typed_ir.specs.Forms.{sized}
use Rattle.typed_ir.specs.declared.target.Target.{Target}
use Rattle.typed_ir.specs.declared.target.Target.TheVariants.{Fixed as Fixed', Moving as Moving'}

abbrev pub target_of : Target → SizedTarget
target_of (Fixed' lane) = Fixed lane
target_of (Moving' reach index) = Moving reach (sized index.form)

abbrev pub targets_of : List Target → List SizedTarget
targets_of ts = map target_of ts
