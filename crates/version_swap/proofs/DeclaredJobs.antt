-- What a name is declared as behind one more declaration.
use Rattle.std.proofs.Common.{◌≡◌, ℕ, Bool, true, false, ◌==◌, if◌then◌else◌, [], ◌∷◌, Ok, refl, sym, ◌∙◌, ap, true≢false}
use Rattle.std.specs.Prelude.{Option, Some, None}
use Rattle.std.proofs.lemmas.Bool.{cond-true, cond-false, eqb-true, eq-eqb, and_parts, and_from}
use Rattle.verilog_ast.specs.declared.identifier.Identifier.{Identifier}
use Rattle.verilog_ast.specs.declared.port_net.PortNet.{PortNet}
use Rattle.verilog_ast.specs.Expressions.{Expression}
use Rattle.ls_text.specs.Answers.{◌>>=◌}
use Rattle.gen_unroll.proofs.Answered.{err_or_ok, ok_same, first_step, past_need}
use Rattle.gen_unroll.specs.Reaches.{same_block}
use Rattle.elaborate.specs.Tables.{NameIn, Declaration, Table, is_same_name, declared_as, with_declaration, name_in, once, declare}
use Rattle.elaborate.specs.Tables.{completes, completed_kind, net_over, initial, declare_net}

-- ---- names

same_blocks : (a b : Option ℕ) → same_block a b ≡ true → a ≡ b
same_blocks None None h = refl
same_blocks None (Some n) h = absurd (true≢false (sym h))
same_blocks (Some m) None h = absurd (true≢false (sym h))
same_blocks (Some m) (Some n) h = ap Some (eqb-true m n h)

block_itself : (a : Option ℕ) → same_block a a ≡ true
block_itself None = refl
block_itself (Some n) = eq-eqb n n refl

same_names : (a b : NameIn) → is_same_name a b ≡ true → a ≡ b
same_names a b h =
    let parts = and_parts (same_block a.block b.block) (a.name == b.name) h in
    ap (λ (o : Option ℕ). record { block = o; name = a.name }) (same_blocks a.block b.block parts.0)
    ∙ ap (λ (n : ℕ). record { block = b.block; name = n }) (eqb-true a.name b.name parts.1)

name_itself : (a : NameIn) → is_same_name a a ≡ true
name_itself a = and_from (same_block a.block a.block) (a.name == a.name) (block_itself a.block) (eq-eqb a.name a.name refl)

-- ---- one more declaration

pub declared_same : (n : NameIn) (d : Declaration) (t : Table) → declared_as n (with_declaration n d t) ≡ Some d
declared_same n d [] = cond-true (is_same_name n n) (Some d) None (name_itself n)
declared_same n d (x ∷ xs) = by (is_same_name n x.0) refl (declared_same n d xs)
  where
    by : (b : Bool) → is_same_name n x.0 ≡ b → declared_as n (with_declaration n d xs) ≡ Some d
        → declared_as n (if b then (x.0, d) ∷ xs else x ∷ with_declaration n d xs) ≡ Some d
    by true is rest = cond-true (is_same_name n x.0) (Some d) (declared_as n xs) is
    by false is rest = cond-false (is_same_name n x.0) (Some x.1) (declared_as n (with_declaration n d xs)) is ∙ rest

pub declared_other : (q n : NameIn) (d : Declaration) (t : Table) → is_same_name q n ≡ false
    → declared_as q (with_declaration n d t) ≡ declared_as q t
declared_other q n d [] other = cond-false (is_same_name q n) (Some d) None other
declared_other q n d (x ∷ xs) other = by (is_same_name n x.0) refl (declared_other q n d xs other)
  where
    by : (b : Bool) → is_same_name n x.0 ≡ b → declared_as q (with_declaration n d xs) ≡ declared_as q xs
        → declared_as q (if b then (x.0, d) ∷ xs else x ∷ with_declaration n d xs) ≡ declared_as q (x ∷ xs)
    by true is rest =
        let none : is_same_name q x.0 ≡ false = ap (is_same_name q) (sym (same_names n x.0 is)) ∙ other in
        cond-false (is_same_name q x.0) (Some d) (declared_as q xs) none ∙ sym (cond-false (is_same_name q x.0) (Some x.1) (declared_as q xs) none)
    by false is rest = ap (λ (o : Option Declaration). if is_same_name q x.0 then Some x.1 else o) rest

-- ---- declarations that were taken

pub record IsDeclared (key : NameIn) (d : Declaration) (t u : Table) : Type 0 where
  pub fresh : declared_as key t ≡ None
  pub after : u ≡ with_declaration key d t

once_so : (o : Option Declaration) (n : Identifier) (t u : Table) → (once o n >>= λ _. Ok t) ≡ Ok u → (o ≡ None) × (u ≡ t)
once_so None n t u h = (refl, sym (ok_same t u h))
once_so (Some d) n t u h = err_or_ok _ u h

pub declared_once : (here : Option ℕ) (n : Identifier) (d : Declaration) (t u : Table) → declare here n d t ≡ Ok u → IsDeclared (name_in here n) d t u
unfolding declare
declared_once here n d t u h =
    let parts = once_so (declared_as (name_in here n) t) n (with_declaration (name_in here n) d t) u h in
    record { fresh = parts.0; after = parts.1 }

-- what a name is behind `wire` or `reg`
abbrev pub IsOver : Option Declaration → PortNet → (d x : Declaration) → Type 0
IsOver None by d x = x ≡ d
IsOver (Some port) by d x = x ≡ record port { kind = completed_kind port.kind by }

pub record IsNetOver (key : NameIn) (by : PortNet) (d : Declaration) (t u : Table) : Type 0 where
  pub put : Declaration
  pub over : IsOver (declared_as key t) by d put
  pub after : u ≡ with_declaration key put t

over_so : (o : Option Declaration) (n : Identifier) (by : PortNet) (d x : Declaration) → net_over o n by d ≡ Ok x → IsOver o by d x
over_so None n by d x h = sym (ok_same d x h)
over_so (Some port) n by d x h =
    sym (ok_same (record port { kind = completed_kind port.kind by }) x
    (past_need (completes port d) _ (Ok (record port { kind = completed_kind port.kind by })) x h).1)

pub net_declared : (here : Option ℕ) (n : Identifier) (by : PortNet) (d : Declaration) (value : Option Expression) (t u : Table)
    → declare_net here n by d value t ≡ Ok u
    → IsNetOver (name_in here n) by d t u
unfolding declare_net
net_declared here n by d value t u h =
    let over = first_step (net_over (declared_as (name_in here n) t) n by d)
    (λ x. initial value n x.kind >>= λ _. Ok (with_declaration (name_in here n) x t)) u h in
    let done = first_step (initial value n over.value.kind) (λ _. Ok (with_declaration (name_in here n) over.value t)) u over.second in
    record {
      put = over.value;
      over = over_so (declared_as (name_in here n) t) n by d over.value over.first;
      after = sym (ok_same (with_declaration (name_in here n) over.value t) u done.second);
    }
