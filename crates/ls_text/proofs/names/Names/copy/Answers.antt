use Rattle.std.proofs.Common.{Vec, Global, ◌≡◌, ℕ, ◌∙◌}
use Rattle.std.specs.Prelude.{vec_len}
use Rattle.ls_text.proofs.Tables.{copied}
use Rattle.ls_text.proofs.names.Names.copy.Goals as goal

pub returns : goal.returns
returns c =
    let Same : ℕ → ℕ → Type 0 = λ x y. y ≡ x in
    let AsLong : Vec ℕ Global → Vec ℕ Global → Type 0 = λ x y. vec_len y ≡ vec_len x in
    copied Same AsLong c.self.inside.texts.keys c.in_ok-clone.field-0.keys (λ x y same. same) c.in_ok-clone.ensures.cases ∙ c.self.view_is
