-- Tables of declarations under other names.
use Rattle.std.proofs.Common.{◌≡◌, ℕ, Bool, true, false, ◌&&◌, if◌then◌else◌, [], ◌∷◌, Option, Some, None, Ok, refl, ◌∙◌, ap, ap₂}
use Rattle.std.specs.Option.{option_map}
use Rattle.ls_text.specs.declared.name_id.NameId.{NameId}
use Rattle.verilog_ast.specs.declared.identifier.Identifier.{Identifier}
use Rattle.verilog_ast.specs.declared.port_net.PortNet.{PortNet}
use Rattle.verilog_ast.specs.Expressions.{Expression}
use Rattle.verilog_ast.specs.Renamed.{renamed_identifier}
use Rattle.verilog_ast.specs.Renaming.{expression_as}
use Rattle.elaborate.specs.declared.declaration_kind.DeclarationKind.{DeclarationKind}
use Rattle.gen_unroll.specs.Reaches.{same_block}
use Rattle.elaborate.specs.Tables.{NameIn, Declaration, Table, is_same_name, declared_as, with_declaration, name_in, once, declare, is_input, completes, net_over, initial, declare_net}
use Rattle.elaborate.specs.Findings.{name_in_as, entry_as, table_as}
use Rattle.elaborate.specs.Renaming.{KeepsApart, found_as, answer_as}
use Rattle.elaborate.proofs.RenamedAnswers.{value_so, if_answer}
use Rattle.elaborate.proofs.RenamedNames.{same_number}

same_is_name : (f : NameId → NameId) (a b : NameIn) → KeepsApart f → is_same_name (name_in_as f a) (name_in_as f b) ≡ is_same_name a b
same_is_name f a b apart = ap (λ (c : Bool). same_block a.block b.block && c) (same_number f a.name b.name apart)

pub same_declared : (f : NameId → NameId) (n : NameIn) (t : Table) → KeepsApart f → declared_as (name_in_as f n) (table_as f t) ≡ declared_as n t
same_declared f n [] apart = refl
same_declared f n (x ∷ xs) apart =
    ap₂ (λ (b : Bool) (o : Option Declaration). if b then Some x.1 else o) (same_is_name f n x.0 apart) (same_declared f n xs apart)

placed : (f : NameId → NameId) (b : Bool) (d : Declaration) (x : NameIn × Declaration) (xs ys : Table)
    → (if b then (name_in_as f x.0, d) ∷ table_as f xs else entry_as f x ∷ table_as f ys) ≡ table_as f (if b then (x.0, d) ∷ xs else x ∷ ys)
placed f true d x xs ys = refl
placed f false d x xs ys = refl

same_with : (f : NameId → NameId) (n : NameIn) (d : Declaration) (t : Table) → KeepsApart f → with_declaration (name_in_as f n) d (table_as f t) ≡ table_as f (with_declaration n d t)
same_with f n d [] apart = refl
same_with f n d (x ∷ xs) apart =
    ap₂ (λ (b : Bool) (ys : Table). if b then (name_in_as f x.0, d) ∷ table_as f xs else entry_as f x ∷ ys) (same_is_name f n x.0 apart) (same_with f n d xs apart)
    ∙ placed f (is_same_name n x.0) d x xs (with_declaration n d xs)

-- ---- declarations

once_moves : (f : NameId → NameId) (o : Option Declaration) (n : Identifier) → once o (renamed_identifier f n) ≡ answer_as f (once o n)
once_moves f None n = refl
once_moves f (Some d) n = refl

same_once : (f : NameId → NameId) (here : Option ℕ) (n : Identifier) (t : Table) → KeepsApart f
    → once (declared_as (name_in here (renamed_identifier f n)) (table_as f t)) (renamed_identifier f n) ≡ answer_as f (once (declared_as (name_in here n) t) n)
same_once f here n t apart =
    ap (λ (o : Option Declaration). once o (renamed_identifier f n)) (same_declared f (name_in here n) t apart) ∙ once_moves f (declared_as (name_in here n) t) n

pub same_declare : (f : NameId → NameId) (here : Option ℕ) (n : Identifier) (d : Declaration) (t : Table) → KeepsApart f
    → declare here (renamed_identifier f n) d (table_as f t) ≡ found_as f (table_as f) (declare here n d t)
unfolding declare
same_declare f here n d t apart =
    value_so f (table_as f) _ _ _ _ (same_once f here n t apart) (λ _. ap Ok (same_with f (name_in here n) d t apart))

-- ---- nets

net_over_moves : (f : NameId → NameId) (o : Option Declaration) (n : Identifier) (by : PortNet) (d : Declaration)
    → net_over o (renamed_identifier f n) by d ≡ answer_as f (net_over o n by d)
net_over_moves f None n by d = refl
net_over_moves f (Some port) n by d = if_answer f (completes port d) _ _ _ _ _ refl refl refl

same_over : (f : NameId → NameId) (here : Option ℕ) (n : Identifier) (by : PortNet) (d : Declaration) (t : Table) → KeepsApart f
    → net_over (declared_as (name_in here (renamed_identifier f n)) (table_as f t)) (renamed_identifier f n) by d ≡ answer_as f (net_over (declared_as (name_in here n) t) n by d)
same_over f here n by d t apart =
    ap (λ (o : Option Declaration). net_over o (renamed_identifier f n) by d) (same_declared f (name_in here n) t apart)
    ∙ net_over_moves f (declared_as (name_in here n) t) n by d

pub same_initial : (f : NameId → NameId) (value : Option Expression) (n : Identifier) (k : DeclarationKind)
    → initial (option_map (expression_as f) value) (renamed_identifier f n) k ≡ answer_as f (initial value n k)
same_initial f None n k = refl
same_initial f (Some e) n k = if_answer f (is_input k) _ _ _ _ _ refl refl refl

pub same_declare_net : (f : NameId → NameId) (here : Option ℕ) (n : Identifier) (by : PortNet) (d : Declaration) (value : Option Expression) (t : Table) → KeepsApart f
    → declare_net here (renamed_identifier f n) by d (option_map (expression_as f) value) (table_as f t) ≡ found_as f (table_as f) (declare_net here n by d value t)
unfolding declare_net
same_declare_net f here n by d value t apart =
    value_so f (table_as f) _ _ _ _ (same_over f here n by d t apart)
    (λ x. value_so f (table_as f) _ _ _ _ (same_initial f value n x.kind) (λ _. ap Ok (same_with f (name_in here n) x t apart)))
