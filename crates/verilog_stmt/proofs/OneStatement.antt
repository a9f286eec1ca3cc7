-- A statement is read in one way: two readings that begin at the same tokens have the same tree and leave the same tokens.
use Rattle.std.proofs.Common.{◌≡◌, List, ◌∷◌, Option, Some, refl, sym, ap, ap₂}
use Rattle.ls_text.specs.declared.place.Place.{Place}
use Rattle.verilog_lex.specs.declared.token.Token.{Token}
use Rattle.verilog_lex.specs.declared.kind.Kind.{Kind}
use Rattle.verilog_lex.specs.declared.kind.Kind.TheVariants as k
use Rattle.verilog_ast.specs.declared.identifier.Identifier.{Identifier}
use Rattle.verilog_ast.specs.declared.expression.Expr.{Expr}
use Rattle.verilog_ast.specs.declared.target.Lhs.{Lhs}
use Rattle.verilog_ast.specs.declared.target.Lhs.TheVariants as target
use Rattle.verilog_ast.specs.declared.sign.Sign.{Sign}
use Rattle.verilog_ast.specs.declared.case_kind.CaseKind.{CaseKind}
use Rattle.verilog_ast.specs.declared.statement.Stmt.{Stmt}
use Rattle.verilog_ast.specs.declared.statement.Stmt.TheVariants as statement
use Rattle.verilog_ast.specs.declared.statement.Arm.{Arm}
use Rattle.verilog_ast.specs.declared.statement.Arm.TheVariants as arm
use Rattle.verilog_ast.specs.declared.label.Label.{Label}
use Rattle.verilog_ast.specs.declared.label.Label.TheVariants as label
use Rattle.verilog_ast.proofs.Equal.{ap₃, ap₄}
use Rattle.verilog_expr.specs.Tokens.{next, identifier_of, pattern_of}
use Rattle.verilog_expr.specs.Grammar.{begins_statement, begins_arm}
use Rattle.verilog_stmt.specs.Statements.{Spells, ATarget, Braces, TargetsBehind, OtherTargets, AStatement, Statements, AnIf, Alternative, ACase, AnArm, ArmsBehind, OtherArms, OptionalColon, ALabel, LabelsBehind, OtherLabels, OptionalLabel, AnAssignment, ASign}
use Rattle.verilog_stmt.specs.Statements.{target_name, target_braces, braces, targets_behind, no_target, another_target, empty, block, if_, case_, casez_, assign_name, assign_braces, no_statement, another_statement, branch, if_alone, if_else, choice, arms_behind, no_arm, another_arm, default, matching, colon, no_colon, case_label, casez_value, casez_pattern, labels_behind, no_other_label, another_label, no_label, a_label, assigns, blocking, nonblocking}
use Rattle.verilog_expr.proofs.OneToken.{kind_of, same_token, two_kinds, no_kind, no_beginning}
use Rattle.verilog_expr.proofs.SameReadings.{same_expression, same_select}

-- ---- targets

mutual
  pub one_target : {x y : Lhs} {s q r p : List Token} → Spells (ATarget x) s r → Spells (ATarget y) q p → s ≡ q → (x ≡ y) × (r ≡ p)
  one_target (target_name t x) (target_name t' x') same =
      let a = same_token t t' same in let b = same_select x x' (ap identifier_of a.0) a.1 in (ap target.Reference b.0, b.1)
  one_target (target_name t x) (target_braces t' xs') same = two_kinds (kind_of t) (kind_of t') same (λ is. cc)
  one_target (target_braces t xs) (target_name t' x') same = two_kinds (kind_of t) (kind_of t') same (λ is. cc)
  one_target (target_braces t xs) (target_braces t' xs') same =
      let a = same_token t t' same in let b = one_braces xs xs' a.1 in
      (ap₂ (λ (t : Token) (xs : List Lhs). target.Concatenation t.at xs) a.0 b.0, b.1)

  one_braces : {x y : List Lhs} {s q r p : List Token} → Spells (Braces x) s r → Spells (Braces y) q p → s ≡ q → (x ≡ y) × (r ≡ p)
  one_braces (braces x xs t) (braces x' xs' t') same =
      let a = one_target x x' same in let b = one_targets_behind xs xs' a.0 a.1 in let c = same_token t t' b.1 in (b.0, c.1)

  one_targets_behind : {x y : Lhs} {u v : List Lhs} {s q r p : List Token} → Spells (TargetsBehind x u) s r → Spells (TargetsBehind y v) q p
      → x ≡ y → s ≡ q → (u ≡ v) × (r ≡ p)
  one_targets_behind (targets_behind xs) (targets_behind xs') is same =
      let a = one_other_targets xs xs' same in (ap₂ (λ (x : Lhs) (xs : List Lhs). x ∷ xs) is a.0, a.1)

  one_other_targets : {x y : List Lhs} {s q r p : List Token} → Spells (OtherTargets x) s r → Spells (OtherTargets y) q p → s ≡ q
      → (x ≡ y) × (r ≡ p)
  one_other_targets (no_target free) (no_target free') same = (refl, same)
  one_other_targets (no_target free) (another_target t' x' xs') same = no_kind (kind_of t') free (sym same)
  one_other_targets (another_target t x xs) (no_target free') same = no_kind (kind_of t) free' same
  one_other_targets (another_target t x xs) (another_target t' x' xs') same =
      let a = same_token t t' same in let b = one_target x x' a.1 in let c = one_other_targets xs xs' b.1 in
      (ap₂ (λ (x : Lhs) (xs : List Lhs). x ∷ xs) b.0 c.0, c.1)

-- ---- signs and labels

one_sign : {g : Sign} {s q r p : List Token} → Spells (ASign g) s r → Spells (ASign g) q p → s ≡ q → r ≡ p
one_sign (blocking t) (blocking t') same = (same_token t t' same).1
one_sign (nonblocking t) (nonblocking t') same = (same_token t t' same).1

one_assignment : {g : Sign} {x y : Lhs} {u v : Stmt} {s q r p : List Token} → Spells (AnAssignment g x u) s r
    → Spells (AnAssignment g y v) q p → x ≡ y → s ≡ q → (u ≡ v) × (r ≡ p)
one_assignment (assigns g y t) (assigns g' y' t') is same =
    let a = one_sign g g' same in let b = same_expression y y' a in let c = same_token t t' b.1 in (ap₂ statement.Assign is b.0, c.1)

one_optional_colon : {s q r p : List Token} → Spells OptionalColon s r → Spells OptionalColon q p → s ≡ q → r ≡ p
one_optional_colon (colon t) (colon t') same = (same_token t t' same).1
one_optional_colon (colon t) (no_colon free') same = no_kind (kind_of t) free' same
one_optional_colon (no_colon free) (colon t') same = no_kind (kind_of t') free (sym same)
one_optional_colon (no_colon free) (no_colon free') same = same

one_optional_label : {x y : Option Identifier} {s q r p : List Token} → Spells (OptionalLabel x) s r → Spells (OptionalLabel y) q p → s ≡ q
    → (x ≡ y) × (r ≡ p)
one_optional_label (no_label free) (no_label free') same = (refl, same)
one_optional_label (no_label free) (a_label t' u') same = no_kind (kind_of t') free (sym same)
one_optional_label (a_label t u) (no_label free') same = no_kind (kind_of t) free' same
one_optional_label (a_label t u) (a_label t' u') same =
    let a = same_token t t' same in let b = same_token u u' a.1 in (ap (λ (u : Token). Some (identifier_of u)) b.0, b.1)

one_label : {which : CaseKind} {x y : Label} {s q r p : List Token} → Spells (ALabel which x) s r → Spells (ALabel which y) q p → s ≡ q
    → (x ≡ y) × (r ≡ p)
one_label (case_label x) (case_label x') same = let a = same_expression x x' same in (ap label.Expr a.0, a.1)
one_label (casez_value free x) (casez_value free' x') same = let a = same_expression x x' same in (ap label.Expr a.0, a.1)
one_label (casez_value free x) (casez_pattern t') same = no_kind (kind_of t') free (sym same)
one_label (casez_pattern t) (casez_value free' x') same = no_kind (kind_of t) free' same
one_label (casez_pattern t) (casez_pattern t') same = let a = same_token t t' same in (ap (λ (t : Token). label.Pattern t.at (pattern_of t)) a.0, a.1)

one_other_labels : {which : CaseKind} {x y : List Label} {s q r p : List Token} → Spells (OtherLabels which x) s r
    → Spells (OtherLabels which y) q p → s ≡ q → (x ≡ y) × (r ≡ p)
one_other_labels (no_other_label free) (no_other_label free') same = (refl, same)
one_other_labels (no_other_label free) (another_label t' x' xs') same = no_kind (kind_of t') free (sym same)
one_other_labels (another_label t x xs) (no_other_label free') same = no_kind (kind_of t) free' same
one_other_labels (another_label t x xs) (another_label t' x' xs') same =
    let a = same_token t t' same in let b = one_label x x' a.1 in let c = one_other_labels xs xs' b.1 in
    (ap₂ (λ (x : Label) (xs : List Label). x ∷ xs) b.0 c.0, c.1)

one_labels_behind : {which : CaseKind} {x y : Label} {u v : List Label} {s q r p : List Token} → Spells (LabelsBehind which x u) s r
    → Spells (LabelsBehind which y v) q p → x ≡ y → s ≡ q → (u ≡ v) × (r ≡ p)
one_labels_behind (labels_behind xs) (labels_behind xs') is same =
    let a = one_other_labels xs xs' same in (ap₂ (λ (x : Label) (xs : List Label). x ∷ xs) is a.0, a.1)

-- ---- statements

-- the kind of the first token
abbrev first_kind : {g : Sign} {x : Stmt} {s r : List Token} → Spells (AStatement g x) s r → Kind
first_kind (empty t) = k.Semicolon
first_kind (block t l xs u) = k.Begin
first_kind (if_ t x) = k.If
first_kind (case_ t x) = k.Case
first_kind (casez_ t x) = k.Casez
first_kind (assign_name t y x) = k.Word
first_kind (assign_braces t ys x) = k.LeftBrace

first_is : {g : Sign} {x : Stmt} {s r : List Token} (h : Spells (AStatement g x) s r) → next s ≡ first_kind h
first_is (empty t) = kind_of t
first_is (block t l xs u) = kind_of t
first_is (if_ t x) = kind_of t
first_is (case_ t x) = kind_of t
first_is (casez_ t x) = kind_of t
first_is (assign_name t y x) = kind_of t
first_is (assign_braces t ys x) = kind_of t

mutual
  pub one_statement : {g : Sign} {x y : Stmt} {s q r p : List Token} → Spells (AStatement g x) s r → Spells (AStatement g y) q p → s ≡ q
      → (x ≡ y) × (r ≡ p)
  one_statement (empty t) (empty t') same = let a = same_token t t' same in (ap (λ (t : Token). statement.Empty t.at) a.0, a.1)
  one_statement (block t l xs u) (block t' l' xs' u') same =
      let a = same_token t t' same in let b = one_optional_label l l' a.1 in let c = one_statements xs xs' b.1 in let d = same_token u u' c.1 in
      (ap₃ (λ (t : Token) (l : Option Identifier) (xs : List Stmt). statement.Block t.at l xs) a.0 b.0 c.0, d.1)
  one_statement (if_ t x) (if_ t' x') same = let a = same_token t t' same in one_if x x' (ap (λ (t : Token). t.at) a.0) a.1
  one_statement (case_ t x) (case_ t' x') same = let a = same_token t t' same in one_case x x' (ap (λ (t : Token). t.at) a.0) a.1
  one_statement (casez_ t x) (casez_ t' x') same = let a = same_token t t' same in one_case x x' (ap (λ (t : Token). t.at) a.0) a.1
  one_statement (assign_name t y x) (assign_name t' y' x') same =
      let a = same_token t t' same in let b = same_select y y' (ap identifier_of a.0) a.1 in one_assignment x x' (ap target.Reference b.0) b.1
  one_statement (assign_braces t ys x) (assign_braces t' ys' x') same =
      let a = same_token t t' same in let b = one_braces ys ys' a.1 in
      one_assignment x x' (ap₂ (λ (t : Token) (ys : List Lhs). target.Concatenation t.at ys) a.0 b.0) b.1
  one_statement x y same = two_kinds (first_is x) (first_is y) same (λ is. cc)

  one_statements : {g : Sign} {x y : List Stmt} {s q r p : List Token} → Spells (Statements g x) s r → Spells (Statements g y) q p → s ≡ q
      → (x ≡ y) × (r ≡ p)
  one_statements (no_statement free) (no_statement free') same = (refl, same)
  one_statements (no_statement free) (another_statement go' x' xs') same = no_beginning begins_statement go' free (sym same)
  one_statements (another_statement go x xs) (no_statement free') same = no_beginning begins_statement go free' same
  one_statements (another_statement go x xs) (another_statement go' x' xs') same =
      let a = one_statement x x' same in let b = one_statements xs xs' a.1 in (ap₂ (λ (x : Stmt) (xs : List Stmt). x ∷ xs) a.0 b.0, b.1)

  one_if : {g : Sign} {x y : Place} {u v : Stmt} {s q r p : List Token} → Spells (AnIf g x u) s r → Spells (AnIf g y v) q p → x ≡ y → s ≡ q
      → (u ≡ v) × (r ≡ p)
  one_if (branch t x u y z) (branch t' x' u' y' z') is same =
      let a = same_token t t' same in let b = same_expression x x' a.1 in let c = same_token u u' b.1 in let d = one_statement y y' c.1 in
      one_alternative z z' is b.0 d.0 d.1

  one_alternative : {g : Sign} {x y : Place} {u v : Expr} {m n i j : Stmt} {s q r p : List Token}
      → Spells (Alternative g x u m i) s r → Spells (Alternative g y v n j) q p → x ≡ y → u ≡ v → m ≡ n → s ≡ q → (i ≡ j) × (r ≡ p)
  one_alternative (if_alone free) (if_alone free') at test body same = (ap₃ statement.If at test body, same)
  one_alternative (if_alone free) (if_else t' z') _ _ _ same = no_kind (kind_of t') free (sym same)
  one_alternative (if_else t z) (if_alone free') _ _ _ same = no_kind (kind_of t) free' same
  one_alternative (if_else t z) (if_else t' z') at test body same =
      let a = same_token t t' same in let b = one_statement z z' a.1 in (ap₄ statement.IfElse at test body b.0, b.1)

  one_case : {g : Sign} {which : CaseKind} {x y : Place} {u v : Stmt} {s q r p : List Token} → Spells (ACase g which x u) s r
      → Spells (ACase g which y v) q p → x ≡ y → s ≡ q → (u ≡ v) × (r ≡ p)
  one_case (choice {which =
      which} t x u y ys v) (choice t' x' u' y' ys' v') is same = let a = same_token t t' same in let b = same_expression x x' a.1 in
      let c = same_token u u' b.1 in let d = one_arm y y' c.1 in let e = one_arms_behind ys ys' d.0 d.1 in let f = same_token v v' e.1 in
      (ap₃ (λ (at : Place) (x : Expr) (ys : List Arm). statement.Case at which x ys) is b.0 e.0, f.1)

  one_arm : {g : Sign} {which : CaseKind} {x y : Arm} {s q r p : List Token} → Spells (AnArm g which x) s r → Spells (AnArm g which y) q p → s ≡ q
      → (x ≡ y) × (r ≡ p)
  one_arm (default t e x) (default t' e' x') same =
      let a = same_token t t' same in let b = one_optional_colon e e' a.1 in let c = one_statement x x' b in
      (ap₂ (λ (t : Token) (x : Stmt). arm.Default t.at x) a.0 c.0, c.1)
  one_arm (default t e x) (matching free' l' ls' t' x') same = no_kind (kind_of t) free' same
  one_arm (matching free l ls t x) (default t' e' x') same = no_kind (kind_of t') free (sym same)
  one_arm (matching free l ls t x) (matching free' l' ls' t' x') same =
      let a = one_label l l' same in let b = one_labels_behind ls ls' a.0 a.1 in let c = same_token t t' b.1 in let d = one_statement x x' c.1 in
      (ap₂ arm.Match b.0 d.0, d.1)

  one_arms_behind : {g : Sign} {which : CaseKind} {x y : Arm} {u v : List Arm} {s q r p : List Token} → Spells (ArmsBehind g which x u) s r
      → Spells (ArmsBehind g which y v) q p → x ≡ y → s ≡ q → (u ≡ v) × (r ≡ p)
  one_arms_behind (arms_behind xs) (arms_behind xs') is same =
      let a = one_other_arms xs xs' same in (ap₂ (λ (x : Arm) (xs : List Arm). x ∷ xs) is a.0, a.1)

  one_other_arms : {g : Sign} {which : CaseKind} {x y : List Arm} {s q r p : List Token} → Spells (OtherArms g which x) s r
      → Spells (OtherArms g which y) q p → s ≡ q → (x ≡ y) × (r ≡ p)
  one_other_arms (no_arm free) (no_arm free') same = (refl, same)
  one_other_arms (no_arm {which = which} free) (another_arm go' x' xs') same = no_beginning (begins_arm which) go' free (sym same)
  one_other_arms (another_arm {which = which} go x xs) (no_arm free') same = no_beginning (begins_arm which) go free' same
  one_other_arms (another_arm go x xs) (another_arm go' x' xs') same =
      let a = one_arm x x' same in let b = one_other_arms xs xs' a.1 in (ap₂ (λ (x : Arm) (xs : List Arm). x ∷ xs) a.0 b.0, b.1)
