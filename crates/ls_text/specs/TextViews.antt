-- What texts and names of the code mean.
use Rattle.std.specs.Prelude.{ℕ, List}
use Rattle.std.specs.Global.{Global}
use Rattle.std.specs.declared.vec.Vec.{Vec}
use Rattle.ls_text.specs.declared.name_id.NameId.{NameId}
use Rattle.ls_text.specs.Texts.{text_at}

abbrev pub text_items : Vec ℕ Global → List ℕ
text_items t = t.items

abbrev pub text_of : List (List ℕ) → NameId → List ℕ
text_of texts name = text_at texts name.0
