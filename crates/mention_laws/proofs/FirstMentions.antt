-- Among the targets of a statement is the first one in its text, where no case has a second default.
use Rattle.std.proofs.Common.{◌≡◌, ℕ, suc, ◌+◌, ◌≤◌, ◌==◌, Bool, true, false, cond, List, [], ◌∷◌, ◌++◌, length, refl, sym, ◌∙◌, ap, ap₂, subst, append_assoc, arith}
use Rattle.std.specs.Prelude.{Option, Some, None, slice_get}
use Rattle.std.specs.List.{find}
use Rattle.std.proofs.lemmas.List.Folds.{find_at}
use Rattle.std.proofs.lemmas.Bool.{eq-eqb, ne_eqb, cond-true, cond-false}
use Rattle.std.proofs.lemmas.Option.{none-some}
use Rattle.ls_text.proofs.Lists.{some_is_none}
use Rattle.typed_ir.specs.Orders.{Each}
use Rattle.typed_ir.specs.declared.mention.Mention.{Mention}
use Rattle.verilog_ast.specs.declared.identifier.Identifier.{Identifier}
use Rattle.verilog_ast.specs.Expressions.{Expression, Whole, BitSelect, PartSelect, UpwardSelect, DownwardSelect, Target, Reference, Joined, NoTarget, Targets}
use Rattle.verilog_ast.specs.Statements.{CaseLabel, DontCare, Compared, Statement, Block, If, IfElse, Case, Assignment, Null, Default, Match, NoStatement, Statements}
use Rattle.width_rules.specs.declared.writer.Writer.{Writer}
use Rattle.width_rules.specs.Scopes.{Scope}
use Rattle.width_rules.proofs.Reading.{left_none, right_none}
use Rattle.statement_rules.specs.Statements.{item_faults, arm_faults}
use Rattle.statement_rules.specs.Written.{IsReference, IsTargetWritten, AreTargetsWritten, IsStatementWritten}
use Rattle.width_rules.specs.Forms.{first_number}
use Rattle.width_rules.specs.Mentions.{writing, numbered, labels_names, count, mentions, arm_mentions, default_mentions}
use Rattle.width_rules.specs.Names.{reference_name, target_names}
use Rattle.mention_laws.specs.Placed.{AreStatements, AreItems}
use Rattle.mention_laws.specs.Shown.{either, first_part, first_written}

-- ---- the first mention with a number

abbrev pub mention_at : ℕ → List Mention → Option Mention
mention_at k ms = find (λ (m : Mention). m.order == k) ms

pub at_first : (ms : List Mention) → slice_get ms (first_number ms) ≡ mention_at 0 ms
at_first ms = sym (find_at (λ (m : Mention). m.order == 0) ms)

in_front : (k : ℕ) (ms ns : List Mention) (m : Mention) → mention_at k ms ≡ Some m → mention_at k (ms ++ ns) ≡ Some m
in_front k [] ns m h = absurd (none-some m h)
in_front k (x ∷ xs) ns m h = by (x.order == k) (in_front k xs ns m) h
  where
    by : (b : Bool) → (mention_at k xs ≡ Some m → mention_at k (xs ++ ns) ≡ Some m) → cond b (Some x) (mention_at k xs) ≡ Some m
        → cond b (Some x) (mention_at k (xs ++ ns)) ≡ Some m
    by true rest h = h
    by false rest h = rest h

-- ---- numbers from k on

abbrev AreFrom : ℕ → List Mention → Type 0
AreFrom k ms = Each (λ (m : Mention). k ≤ m.order) ms

both_from : (k : ℕ) (ms ns : List Mention) → AreFrom k ms → AreFrom k ns → AreFrom k (ms ++ ns)
both_from k [] ns a b = b
both_from k (m ∷ ms) ns a b = (a.0, both_from k ms ns a.1 b)

later_from : (k l : ℕ) (ms : List Mention) → k ≤ l → AreFrom l ms → AreFrom k ms
later_from k l [] le a = tt
later_from k l (m ∷ ms) le a = let first = a.0 in (omega (arith, le, first), later_from k l ms le a.1)

behind : (k : ℕ) (ns ms : List Mention) → AreFrom (suc k) ns → mention_at k (ns ++ ms) ≡ mention_at k ms
behind k [] ms a = refl
behind k (x ∷ xs) ms a =
    let first = a.0 in
    cond-false (x.order == k) (Some x) (mention_at k (xs ++ ms)) (ne_eqb x.order k (λ h. omega (arith, h, first))) ∙ behind k xs ms a.1

numbered_from : (k : ℕ) (ns : List Identifier) → AreFrom k (numbered k ns)
numbered_from k [] = tt
numbered_from k (n ∷ ns) = (omega arith, later_from k (k + 1) (numbered (k + 1) ns) (omega arith) (numbered_from (k + 1) ns))

-- ---- a text with n targets, from number k on, of which this is the first

pub record Names (k : ℕ) (m : Mention) (x : Expression) : Type 0 where
  pub number : m.order ≡ k
  pub name : reference_name x ≡ record { at = m.at; name = m.name } ∷ []

pub data Begins (k n : ℕ) (ms : List Mention) (r : Option Expression) : Type 0 where
  nothing : n ≡ 0 → ms ≡ [] → r ≡ None → Begins k n ms r
  found : (x : Expression) (m : Mention) → 1 ≤ n → AreFrom k ms → mention_at k ms ≡ Some m → r ≡ Some x → Names k m x → Begins k n ms r

all_from : (k l n : ℕ) (ms : List Mention) (r : Option Expression) → k ≤ l → Begins l n ms r → AreFrom k ms
all_from k l n ms r le (nothing a b c) = subst (AreFrom k) (sym b) tt
all_from k l n ms r le (found x m a b c d e) = later_from k l ms le b

renamed : (k l : ℕ) (m : Mention) (x : Expression) → l ≡ k → Names l m x → Names k m x
renamed k l m x is h = record { number = h.number ∙ is; name = h.name }

-- one text behind another; and where what it lists stands before what the first one lists
pub join : (k n m : ℕ) (ms ns : List Mention) (r q : Option Expression)
    → Begins k n ms r → Begins (k + n) m ns q → Begins k (n + m) (ms ++ ns) (either r q)
join k n m ms ns r q (nothing a b c) (nothing d e f) =
    nothing (omega (arith, a, d)) (ap₂ (λ (xs ys : List Mention). xs ++ ys) b e) (ap₂ either c f)
join k n m ms ns r q (nothing a b c) (found x y d e f g h) =
    let same : k + n ≡ k = omega (arith, a) in
    found x y (omega (arith, d)) (subst (λ (xs : List Mention). AreFrom k (xs ++ ns)) (sym b) (later_from k (k + n) ns (omega arith) e))
    (subst (λ (xs : List Mention). mention_at k (xs ++ ns) ≡ Some y) (sym b) (subst (λ j. mention_at j ns ≡ Some y) same f))
    (ap₂ either c g) (renamed k (k + n) y x same h)
join k n m ms ns r q (found x y a b c d e) rest =
    found x y (omega (arith, a)) (both_from k ms ns b (all_from k (k + n) m ns q (omega arith) rest)) (in_front k ms ns y c)
    (ap (λ (o : Option Expression). either o q) d) e

pub join_before : (k n m : ℕ) (ms ns : List Mention) (r q : Option Expression)
    → Begins k n ms r → Begins (k + n) m ns q → Begins k (n + m) (ns ++ ms) (either r q)
join_before k n m ms ns r q (nothing a b c) (nothing d e f) =
    nothing (omega (arith, a, d)) (ap₂ (λ (xs ys : List Mention). xs ++ ys) e b) (ap₂ either c f)
join_before k n m ms ns r q (nothing a b c) (found x y d e f g h) =
    let same : k + n ≡ k = omega (arith, a) in
    let none : AreFrom k ms = subst (AreFrom k) (sym b) tt in
    found x y (omega (arith, d)) (both_from k ns ms (later_from k (k + n) ns (omega arith) e) none)
    (in_front k ns ms y (subst (λ j. mention_at j ns ≡ Some y) same f)) (ap₂ either c g) (renamed k (k + n) y x same h)
join_before k n m ms ns r q (found x y a b c d e) rest =
    found x y (omega (arith, a)) (both_from k ns ms (all_from k (k + n) m ns q (omega arith) rest) b)
    (behind k ns ms (all_from (suc k) (k + n) m ns q (omega (arith, a)) rest) ∙ c) (ap (λ (o : Option Expression). either o q) d) e

none_there : (k : ℕ) → Begins k 0 [] None
none_there k = nothing refl refl refl

-- ---- the names of a target

data Starts (ns : List Identifier) (r : Option Expression) : Type 0 where
  no_name : ns ≡ [] → r ≡ None → Starts ns r
  one_name : (n : Identifier) (rest : List Identifier) (x : Expression) → ns ≡ n ∷ rest → r ≡ Some x → reference_name x ≡ n ∷ [] → Starts ns r

both_start : (ms ns : List Identifier) (r q : Option Expression) → Starts ms r → Starts ns q → Starts (ms ++ ns) (either r q)
both_start ms ns r q (no_name a b) (no_name c d) = no_name (ap₂ (λ (xs ys : List Identifier). xs ++ ys) a c) (ap₂ either b d)
both_start ms ns r q (no_name a b) (one_name n rest x c d e) =
    one_name n rest x (ap₂ (λ (xs ys : List Identifier). xs ++ ys) a c) (ap₂ either b d) e
both_start ms ns r q (one_name n rest x a b c) other =
    one_name n (rest ++ ns) x (ap (λ (xs : List Identifier). xs ++ ns) a) (ap (λ (o : Option Expression). either o q) b) c

numbered_begin : (k : ℕ) (ns : List Identifier) (r : Option Expression) → Starts ns r → Begins k (length ns) (numbered k ns) r
numbered_begin k ns r (no_name a b) = nothing (ap length a) (ap (numbered k) a) b
numbered_begin k ns r (one_name n rest x a b c) =
    let many : length ns ≡ suc (length rest) = ap length a in
    let m : Mention = record { name = n.name; at = n.at; order = k } in
    found x m (omega (arith, many)) (numbered_from k ns)
    (ap (λ (xs : List Identifier). mention_at k (numbered k xs)) a
    ∙ cond-true (k == k) (Some m) (mention_at k (numbered (k + 1) rest)) (eq-eqb k k refl))
    b (record { number = refl; name = c })

reference_starts : (x : Expression) → IsReference x → Starts (reference_name x) (Some x)
reference_starts (Whole n) w = one_name n [] (Whole n) refl refl refl
reference_starts (BitSelect n x) w = one_name n [] (BitSelect n x) refl refl refl
reference_starts (PartSelect n x y) w = one_name n [] (PartSelect n x y) refl refl refl
reference_starts (UpwardSelect n x y) w = one_name n [] (UpwardSelect n x y) refl refl refl
reference_starts (DownwardSelect n x y) w = one_name n [] (DownwardSelect n x y) refl refl refl
reference_starts other w = absurd w

mutual
  target_starts : (t : Target) → IsTargetWritten t → Starts (target_names t) (first_part t)
  target_starts (Reference x) w = reference_starts x w
  target_starts (Joined at ts) w = targets_start ts w
  target_starts NoTarget w = absurd w
  target_starts (Targets t ts) w = absurd w

  targets_start : (t : Target) → AreTargetsWritten t → Starts (target_names t) (first_part t)
  targets_start NoTarget w = no_name refl refl
  targets_start (Targets t ts) w =
      both_start (target_names t) (target_names ts) (first_part t) (first_part ts) (target_starts t w.0) (targets_start ts w.1)
  targets_start (Reference x) w = absurd w
  targets_start (Joined at ts) w = absurd w

-- ---- statements

no_labels : (ls : List CaseLabel) → labels_names writing ls ≡ []
no_labels [] = refl
no_labels (DontCare at x ∷ ls) = no_labels ls
no_labels (Compared x ∷ ls) = no_labels ls

labels_begin : (k : ℕ) (ls : List CaseLabel) → Begins k (length (labels_names writing ls)) (numbered k (labels_names writing ls)) None
labels_begin k ls = numbered_begin k (labels_names writing ls) None (no_name (no_labels ls) refl)

mutual
  pub statement_begins : (scope : Scope) (by : Writer) (k : ℕ) (x : Statement) → AreStatements x → IsStatementWritten x → item_faults scope by x ≡ []
      → Begins k (count writing x) (mentions writing k x) (first_written x)
  statement_begins scope by k (Block at label body) p q h = statement_begins scope by k body p q h
  statement_begins scope by k (If at c x) p q h =
      join k 0 (count writing x) [] (mentions writing (k + 0) x) None (first_written x) (none_there k) (statement_begins scope by (k + 0) x p q.1 h)
  statement_begins scope by k (IfElse at c x y) p q h =
      let n : ℕ = k + 0 in
      let m : ℕ = n + count writing x in
      join k 0 (count writing x + count writing y) [] (mentions writing n x ++ mentions writing m y) None
      (either (first_written x) (first_written y)) (none_there k)
      (join n (count writing x) (count writing y) (mentions writing n x) (mentions writing m y) (first_written x) (first_written y)
      (statement_begins scope by n x p.0 q.1.0 (left_none (item_faults scope by x) (item_faults scope by y) h))
      (statement_begins scope by m y p.1 q.1.1 (right_none (item_faults scope by x) (item_faults scope by y) h)))
  statement_begins scope by k (Case at kind x items) p q h =
      let n : ℕ = k + 0 in
      join k 0 (count writing items) [] (arm_mentions writing n items ++ default_mentions writing n items) None (first_written items) (none_there k)
      (items_begin scope by n items p q.1 h)
  statement_begins scope by k (Assignment t x) p q h = numbered_begin k (target_names t) (first_part t) (target_starts t q.0)
  statement_begins scope by k (Null at) p q h = none_there k
  statement_begins scope by k (Default at body) p q h = absurd p
  statement_begins scope by k (Match ls body) p q h = absurd p
  statement_begins scope by k NoStatement p q h = none_there k
  statement_begins scope by k (Statements x xs) p q h =
      let n : ℕ = k + count writing x in
      join k (count writing x) (count writing xs) (mentions writing k x) (mentions writing n xs) (first_written x) (first_written xs)
      (statement_begins scope by k x p.0 q.0 (left_none (item_faults scope by x) (item_faults scope by xs) h))
      (statement_begins scope by n xs p.1 q.1 (right_none (item_faults scope by x) (item_faults scope by xs) h))

  -- the items of a case: those with labels, and then the default
  items_begin : (scope : Scope) (by : Writer) (k : ℕ) (x : Statement) → AreItems x → IsStatementWritten x → arm_faults scope by false x ≡ []
      → Begins k (count writing x) (arm_mentions writing k x ++ default_mentions writing k x) (first_written x)
  items_begin scope by k NoStatement p q h = none_there k
  items_begin scope by k (Statements (Match ls body) xs) p q h =
      let labels : ℕ = length (labels_names writing ls) in
      let n : ℕ = labels + count writing body in
      let own : List Mention = numbered k (labels_names writing ls) ++ mentions writing (k + labels) body in
      subst (λ (ms : List Mention). Begins k (n + count writing xs) ms (either (first_written body) (first_written xs)))
      (sym (append_assoc own (arm_mentions writing (k + n) xs) (default_mentions writing (k + n) xs)))
      (join k n (count writing xs) own (arm_mentions writing (k + n) xs ++ default_mentions writing (k + n) xs)
      (first_written body) (first_written xs)
      (join k labels (count writing body) (numbered k (labels_names writing ls)) (mentions writing (k + labels) body)
      None (first_written body) (labels_begin k ls)
      (statement_begins scope by (k + labels) body p.0 q.0.1 (left_none (item_faults scope by body) (arm_faults scope by false xs) h)))
      (items_begin scope by (k + n) xs p.1 q.1 (right_none (item_faults scope by body) (arm_faults scope by false xs) h)))
  items_begin scope by k (Statements (Default at body) xs) p q h =
      let n : ℕ = count writing body in
      join_before k n (count writing xs) (mentions writing k body) (arm_mentions writing (k + n) xs) (first_written body) (first_written xs)
      (statement_begins scope by k body p.0 q.0 (left_none (item_faults scope by body) (arm_faults scope by true xs) h))
      (arms_begin scope by (k + n) xs p.1 q.1 (right_none (item_faults scope by body) (arm_faults scope by true xs) h))
  items_begin scope by k (Statements (Block at label body) xs) p q h = absurd p.0
  items_begin scope by k (Statements (If at c x) xs) p q h = absurd p.0
  items_begin scope by k (Statements (IfElse at c x y) xs) p q h = absurd p.0
  items_begin scope by k (Statements (Case at kind x items) xs) p q h = absurd p.0
  items_begin scope by k (Statements (Assignment u x) xs) p q h = absurd p.0
  items_begin scope by k (Statements (Null at) xs) p q h = absurd p.0
  items_begin scope by k (Statements NoStatement xs) p q h = absurd p.0
  items_begin scope by k (Statements (Statements x ys) xs) p q h = absurd p.0
  items_begin scope by k (Block at label body) p q h = absurd p
  items_begin scope by k (If at c x) p q h = absurd p
  items_begin scope by k (IfElse at c x y) p q h = absurd p
  items_begin scope by k (Case at kind x items) p q h = absurd p
  items_begin scope by k (Assignment u x) p q h = absurd p
  items_begin scope by k (Null at) p q h = absurd p
  items_begin scope by k (Default at body) p q h = absurd p
  items_begin scope by k (Match ls body) p q h = absurd p

  -- those behind a default
  arms_begin : (scope : Scope) (by : Writer) (k : ℕ) (x : Statement) → AreItems x → IsStatementWritten x → arm_faults scope by true x ≡ []
      → Begins k (count writing x) (arm_mentions writing k x) (first_written x)
  arms_begin scope by k NoStatement p q h = none_there k
  arms_begin scope by k (Statements (Match ls body) xs) p q h =
      let labels : ℕ = length (labels_names writing ls) in
      let n : ℕ = labels + count writing body in
      join k n (count writing xs) (numbered k (labels_names writing ls) ++ mentions writing (k + labels) body) (arm_mentions writing (k + n) xs)
      (first_written body) (first_written xs)
      (join k labels (count writing body) (numbered k (labels_names writing ls)) (mentions writing (k + labels) body)
      None (first_written body) (labels_begin k ls)
      (statement_begins scope by (k + labels) body p.0 q.0.1 (left_none (item_faults scope by body) (arm_faults scope by true xs) h)))
      (arms_begin scope by (k + n) xs p.1 q.1 (right_none (item_faults scope by body) (arm_faults scope by true xs) h))
  arms_begin scope by k (Statements (Default at body) xs) p q h = some_is_none _ _ h
  arms_begin scope by k (Statements (Block at label body) xs) p q h = absurd p.0
  arms_begin scope by k (Statements (If at c x) xs) p q h = absurd p.0
  arms_begin scope by k (Statements (IfElse at c x y) xs) p q h = absurd p.0
  arms_begin scope by k (Statements (Case at kind x items) xs) p q h = absurd p.0
  arms_begin scope by k (Statements (Assignment u x) xs) p q h = absurd p.0
  arms_begin scope by k (Statements (Null at) xs) p q h = absurd p.0
  arms_begin scope by k (Statements NoStatement xs) p q h = absurd p.0
  arms_begin scope by k (Statements (Statements x ys) xs) p q h = absurd p.0
  arms_begin scope by k (Block at label body) p q h = absurd p
  arms_begin scope by k (If at c x) p q h = absurd p
  arms_begin scope by k (IfElse at c x y) p q h = absurd p
  arms_begin scope by k (Case at kind x items) p q h = absurd p
  arms_begin scope by k (Assignment u x) p q h = absurd p
  arms_begin scope by k (Null at) p q h = absurd p
  arms_begin scope by k (Default at body) p q h = absurd p
  arms_begin scope by k (Match ls body) p q h = absurd p
