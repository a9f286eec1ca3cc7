-- The items of a case that the walk keeps, closed at a length and a sign, are those of the definition.
use Rattle.std.proofs.Common.{◌≡◌, ◌<◌, ℕ, ◌+◌, Bool, ◌&&◌, List, [], ◌∷◌, ◌++◌, max, map, drop, length, get_or, refl, sym, ◌∙◌, ap, ap₂, append_assoc, arith}
use Rattle.std.proofs.Math.Bool.{and_assoc}
use Rattle.std.specs.Prelude.{Option, Some, None}
use Rattle.typed_ir.specs.declared.arm.Arm.{Arm as SizedArm}
use Rattle.typed_ir.specs.Sized.{Sized}
use Rattle.typed_ir.specs.Stmts as s
use Rattle.typed_ir.specs.Stmts.{SizedItem, SizedStmt, SizedArms}
use Rattle.typed_ir.specs.Statements.{arm_of, arms_before, sequence_of}
use Rattle.typed_ir.proofs.Listed.{arm_is}
use Rattle.verilog_ast.specs.declared.label.Label.{Label}
use Rattle.verilog_ast.specs.declared.statement.Arm.{Arm}
use Rattle.verilog_ast.specs.Expressions.{Expression}
use Rattle.verilog_ast.specs.Views.{label_of, arm_of as seen, statements_of}
use Rattle.verilog_ast.specs.Statements.{CaseLabel, DontCare, Compared, Statement, Block, If, IfElse, Case, Assignment, Null, Default, Match, NoStatement, Statements}
use Rattle.width_rules.specs.declared.writer.Writer.{Writer}
use Rattle.width_rules.specs.Scopes.{Scope}
use Rattle.width_rules.specs.Signs.{is_signed}
use Rattle.width_rules.specs.Sizes.{length as bits}
use Rattle.width_rules.specs.Opened.{Opened, closed, open_of}
use Rattle.statement_rules.specs.Statements.{label_at, label_length, label_signed, labels_length, labels_signed, items_length, items_signed, item_before, default_or, sized_statement, sized_arms, sized_default}
use Rattle.statement_rules.specs.Cases.{OpenedArm, sized_arm, open_label, closed_label, closed_arm, arms_from, open_item, open_items, earlier_or, with_default, otherwise_or, sized_case}
use Rattle.width_rules.proofs.Opening.{opens}
use Rattle.statement_rules.proofs.Walks.{head_is}

label_closes : (scope : Scope) (l : ℕ) (t : Bool) (x : CaseLabel) → closed_label l t (open_label scope x) ≡ label_at scope l t x
label_closes scope l t (DontCare at x) = refl
label_closes scope l t (Compared x) = ap (λ (y : Sized). record { ignored = 0; item = y }) (opens scope x l t)

labels_close : (scope : Scope) (l : ℕ) (t : Bool) (xs : List CaseLabel) → map (closed_label l t) (map (open_label scope) xs) ≡ map (label_at scope l t) xs
labels_close scope l t [] = refl
labels_close scope l t (x ∷ xs) = ap₂ (λ (y : SizedItem) (ys : List SizedItem). y ∷ ys) (label_closes scope l t x) (labels_close scope l t xs)

-- one more item before the others
item_closes : (scope : Scope) (by : Writer) (l : ℕ) (t : Bool) (o : SizedStmt) (x : Statement) (rest : List OpenedArm) (r : SizedArms)
    → arms_from (map (closed_arm l t) rest) o ≡ r
    → arms_from (map (closed_arm l t) (open_item scope by x ++ rest)) o ≡ item_before scope l t x (sized_statement scope by x) r
item_closes scope by l t o (Match ls body) rest r h =
    ap₂ (λ (is : List SizedItem) (more : SizedArms). s.Arm is (sized_statement scope by body) more) (labels_close scope l t ls) h
item_closes scope by l t o (Block at label body) rest r h = h
item_closes scope by l t o (If at c x) rest r h = h
item_closes scope by l t o (IfElse at c x y) rest r h = h
item_closes scope by l t o (Case at kind x items) rest r h = h
item_closes scope by l t o (Assignment written x) rest r h = h
item_closes scope by l t o (Null at) rest r h = h
item_closes scope by l t o (Default at body) rest r h = h
item_closes scope by l t o NoStatement rest r h = h
item_closes scope by l t o (Statements x xs) rest r h = h

pub items_close : (scope : Scope) (by : Writer) (l : ℕ) (t : Bool) (o : SizedStmt) (x : Statement)
    → arms_from (map (closed_arm l t) (open_items scope by x)) o ≡ sized_arms scope by l t o x
items_close scope by l t o (Statements x xs) = item_closes scope by l t o x (open_items scope by xs) (sized_arms scope by l t o xs) (items_close scope by l t o xs)
items_close scope by l t o (Match ls body) = refl
items_close scope by l t o (Block at label body) = refl
items_close scope by l t o (If at c x) = refl
items_close scope by l t o (IfElse at c x y) = refl
items_close scope by l t o (Case at kind x items) = refl
items_close scope by l t o (Assignment written x) = refl
items_close scope by l t o (Null at) = refl
items_close scope by l t o (Default at body) = refl
items_close scope by l t o NoStatement = refl

-- ---- the default

earlier : (before : Option SizedStmt) (body rest : SizedStmt) → otherwise_or (earlier_or before body) rest ≡ otherwise_or before body
earlier None body rest = refl
earlier (Some x) body rest = refl

pub default_next : (before : Option SizedStmt) (x : Statement) (body rest : SizedStmt)
    → otherwise_or (with_default before x body) rest ≡ otherwise_or before (default_or x body rest)
default_next before (Default at x) body rest = earlier before body rest
default_next before (Match ls x) body rest = refl
default_next before (Block at label x) body rest = refl
default_next before (If at c x) body rest = refl
default_next before (IfElse at c x y) body rest = refl
default_next before (Case at kind x items) body rest = refl
default_next before (Assignment written x) body rest = refl
default_next before (Null at) body rest = refl
default_next before NoStatement body rest = refl
default_next before (Statements x xs) body rest = refl

-- ---- arms of the code

pub arms_are : (xs : List SizedArm) (o : SizedStmt) → arms_before (map arm_of xs) o ≡ arms_from (map sized_arm xs) o
arms_are [] o = refl
arms_are (x ∷ xs) o = ap (arm_of x) (arms_are xs o) ∙ arm_is x (arms_from (map sized_arm xs) o)

-- ---- a case by what the code found

pub case_closes : (scope : Scope) (by : Writer) (x : Expression) (items : Statement) (form : Opened) (n m : ℕ) (a b : Bool) (arms : List OpenedArm) (o : SizedStmt)
    → form ≡ open_of scope x → n ≡ bits scope x → m ≡ items_length scope items → a ≡ is_signed scope x → b ≡ items_signed scope items
    → arms ≡ open_items scope by items → o ≡ sized_default scope by items
    → s.Case (closed form (max n m) (a && b)) (arms_from (map (closed_arm (max n m) (a && b)) arms) o) ≡ sized_case scope by x items
case_closes scope by x items form n m a b arms o form_is n_is m_is a_is b_is arms_is o_is =
    let l = max (bits scope x) (items_length scope items) in
    let t = is_signed scope x && items_signed scope items in
    ap₂ (λ (k : ℕ) (sign : Bool). s.Case (closed form k sign) (arms_from (map (closed_arm k sign) arms) o)) (ap₂ max n_is m_is) (ap₂ (λ (p q : Bool). p && q) a_is b_is)
    ∙ ap₂ (λ (f : Opened) (more : SizedArms). s.Case (closed f l t) more) form_is (ap₂ (λ (some : List OpenedArm) (d : SizedStmt). arms_from (map (closed_arm l t) some) d) arms_is o_is)
    ∙ ap₂ s.Case (opens scope x l t) (items_close scope by l t (sized_default scope by items) items)

-- ---- one more item, for the walk over them

pub arm_kept : (scope : Scope) (by : Writer) (xs : List Arm) (k : ℕ) (x : Arm) (old new : List OpenedArm) → k < length xs → x ≡ get_or xs k x
    → new ≡ old ++ open_item scope by (seen x)
    → new ++ open_items scope by (statements_of (map seen (drop (k + 1) xs))) ≡ old ++ open_items scope by (statements_of (map seen (drop k xs)))
arm_kept scope by xs k x old new h is more =
    ap (λ (zs : List OpenedArm). zs ++ open_items scope by (statements_of (map seen (drop (k + 1) xs)))) more
    ∙ append_assoc old (open_item scope by (seen x)) (open_items scope by (statements_of (map seen (drop (k + 1) xs))))
    ∙ ap (λ (ys : List Statement). old ++ open_items scope by (statements_of ys)) (sym (head_is seen xs k x h is))

longer : (a b c : ℕ) → max (max a b) c ≡ max a (max b c)
longer a b c = omega arith

pub arm_longest : (scope : Scope) (xs : List Arm) (k : ℕ) (x : Arm) (old new : ℕ) → k < length xs → x ≡ get_or xs k x → new ≡ max old (items_length scope (seen x))
    → max new (items_length scope (statements_of (map seen (drop (k + 1) xs)))) ≡ max old (items_length scope (statements_of (map seen (drop k xs))))
arm_longest scope xs k x old new h is more =
    let rest = items_length scope (statements_of (map seen (drop (k + 1) xs))) in
    ap (λ (n : ℕ). max n rest) more ∙ longer old (items_length scope (seen x)) rest
    ∙ ap (λ (ys : List Statement). max old (items_length scope (statements_of ys))) (sym (head_is seen xs k x h is))

pub arm_signs : (scope : Scope) (xs : List Arm) (k : ℕ) (x : Arm) (old new : Bool) → k < length xs → x ≡ get_or xs k x → new ≡ (old && items_signed scope (seen x))
    → (new && items_signed scope (statements_of (map seen (drop (k + 1) xs)))) ≡ (old && items_signed scope (statements_of (map seen (drop k xs))))
arm_signs scope xs k x old new h is more =
    let rest = items_signed scope (statements_of (map seen (drop (k + 1) xs))) in
    ap (λ (b : Bool). b && rest) more ∙ and_assoc old (items_signed scope (seen x)) rest
    ∙ ap (λ (ys : List Statement). old && items_signed scope (statements_of ys)) (sym (head_is seen xs k x h is))

pub arm_default : (scope : Scope) (by : Writer) (xs : List Arm) (k : ℕ) (x : Arm) (old new : Option SizedStmt) → k < length xs → x ≡ get_or xs k x
    → new ≡ with_default old (seen x) (sized_statement scope by (seen x))
    → otherwise_or new (sized_default scope by (statements_of (map seen (drop (k + 1) xs)))) ≡ otherwise_or old (sized_default scope by (statements_of (map seen (drop k xs))))
arm_default scope by xs k x old new h is more =
    let rest = sized_default scope by (statements_of (map seen (drop (k + 1) xs))) in
    ap (λ (o : Option SizedStmt). otherwise_or o rest) more ∙ default_next old (seen x) (sized_statement scope by (seen x)) rest
    ∙ ap (λ (ys : List Statement). otherwise_or old (sized_default scope by (statements_of ys))) (sym (head_is seen xs k x h is))

-- ---- one more label

pub label_longest : (scope : Scope) (xs : List Label) (k : ℕ) (x : Label) (old n : ℕ) → k < length xs → x ≡ get_or xs k x → n ≡ label_length scope (label_of x)
    → max (max old n) (labels_length scope (map label_of (drop (k + 1) xs))) ≡ max old (labels_length scope (map label_of (drop k xs)))
label_longest scope xs k x old n h is n_is =
    let rest = labels_length scope (map label_of (drop (k + 1) xs)) in
    longer old n rest ∙ ap (λ (m : ℕ). max old (max m rest)) n_is
    ∙ ap (λ (ys : List CaseLabel). max old (labels_length scope ys)) (sym (head_is label_of xs k x h is))

pub label_signs : (scope : Scope) (xs : List Label) (k : ℕ) (x : Label) (old b : Bool) → k < length xs → x ≡ get_or xs k x → b ≡ label_signed scope (label_of x)
    → ((old && b) && labels_signed scope (map label_of (drop (k + 1) xs))) ≡ (old && labels_signed scope (map label_of (drop k xs)))
label_signs scope xs k x old b h is b_is =
    let rest = labels_signed scope (map label_of (drop (k + 1) xs)) in
    and_assoc old b rest ∙ ap (λ (c : Bool). old && (c && rest)) b_is
    ∙ ap (λ (ys : List CaseLabel). old && labels_signed scope ys) (sym (head_is label_of xs k x h is))

-- ---- statements one after another

pub sequence_is : (scope : Scope) (by : Writer) (xs : List Statement) → sequence_of (map (sized_statement scope by) xs) ≡ sized_statement scope by (statements_of xs)
sequence_is scope by [] = refl
sequence_is scope by (x ∷ xs) = ap (s.Then (sized_statement scope by x)) (sequence_is scope by xs)
