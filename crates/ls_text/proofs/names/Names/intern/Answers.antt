use Rattle.std.proofs.Common.{◌≡◌, ℕ, List, true, sym, ap, ◌∙◌, subst}
use Rattle.std.specs.Str.{bytes_eq}
use Rattle.ls_text.specs.Texts.{IsIdOf, interned}
use Rattle.ls_text.proofs.Tables.{id_at, found_passes, known, inserted}
use Rattle.ls_text.proofs.names.Names.intern.Goals as goal

found : (c : goal.In-Some) → bytes_eq c.args.text.now c.in-Some.field-0-1.now.items ≡ true
found c =
    found_passes (λ k. bytes_eq c.args.text.now k.items) c.self.inside.texts.keys c.in-Some.index c.in-Some.field-0-1.now
    (sym c.in-Some.ensures.index) c.in-Some.ensures.stored

pub returns-in-Some-clause-id : goal.returns-in-Some-clause-id
returns-in-Some-clause-id c =
    let Is : List (List ℕ) → Type 0 = λ t. IsIdOf t c.args.text.now c.in-Some.index in
    subst Is c.self.view_is
    (id_at c.self.inside.texts.keys c.args.text.now c.in-Some.index c.in-Some.field-0-1.now c.len-count.ensures.unique c.in-Some.ensures.stored (found c))

pub returns-in-Some-clause-table : goal.returns-in-Some-clause-table
returns-in-Some-clause-table c =
    let Stays : List (List ℕ) → Type 0 = λ t. t ≡ interned t c.args.text.now in
    subst Stays c.self.view_is (known c.self.inside.texts.keys c.args.text.now c.in-Some.index c.in-Some.field-0-1.now c.in-Some.ensures.stored (found c))

pub returns-clause-id : goal.returns-clause-id
returns-clause-id c =
    let s = c.in_ok-index.ensures.stored in
    id_at c.insert_full.new.self.keys c.args.text.now c.in_ok-index.index s.0 c.insert_full.ensures.unique s.1
    (ap (λ t. bytes_eq t s.0.items) (sym c.in_ok-copy.ensures.items) ∙ s.2)

pub returns-clause-table : goal.returns-clause-table
returns-clause-table c =
    inserted c.self.inside.texts.keys c.insert_full.new.self.keys c.in_ok-copy.copy c.args.text.now c.in_ok-copy.ensures.items c.in_ok-index.ensures.keys
    ∙ ap (λ t. interned t c.args.text.now) c.self.view_is
