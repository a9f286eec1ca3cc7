-- What the reads and the targets of a statement mention: in the order of the sized statement, in which a case has its default last, each
-- with its number in the order of the text (IEEE Std 1364-2005, 9.2, 9.4, 9.5, 9.8).
use Rattle.std.specs.Prelude.{ℕ, ◌+◌, List, [], ◌∷◌, ◌++◌, length}
use Rattle.verilog_ast.specs.declared.identifier.Identifier.{Identifier}
use Rattle.verilog_ast.specs.Expressions.{Expression, Target}
use Rattle.verilog_ast.specs.Statements.{CaseLabel, DontCare, Compared, Statement, Block, If, IfElse, Case, Assignment, Null, Default, Match, NoStatement, Statements}
use Rattle.typed_ir.specs.declared.mention.Mention.{Mention}
use Rattle.width_rules.specs.Scopes.{Scope}
use Rattle.width_rules.specs.declared.asked.Asked.{Asked}
use Rattle.width_rules.specs.declared.asked.Asked.TheVariants as asked
use Rattle.width_rules.specs.Names.{expression_names, index_names, target_names}

-- names with their numbers, from a first one on
abbrev pub numbered : ℕ → List Identifier → List Mention
numbered k [] = []
numbered k (n ∷ ns) = record { name = n.name; at = n.at; order = k } ∷ numbered (k + 1) ns

-- which names are listed, of an expression that is read and of an assignment
pub record Listing : Type 0 where
  pub expression : Expression → List Identifier
  pub assignment : Target → Expression → List Identifier

-- those that are read: of an assignment by the indices left of it, and then by its value
abbrev pub reading : Scope → Listing
reading scope = record {
  expression = expression_names scope;
  assignment = λ t x. index_names scope t ++ expression_names scope x;
}

-- those that are written
abbrev pub writing : Listing
writing = record { expression = λ x. []; assignment = λ t x. target_names t }

abbrev pub listing_of : Scope → Asked → Listing
listing_of scope asked.Reads = reading scope
listing_of scope asked.Targets = writing

-- ---- labels of a case

abbrev pub label_names : Listing → CaseLabel → List Identifier
label_names w (DontCare at x) = []
label_names w (Compared x) = w.expression x

abbrev pub labels_names : Listing → List CaseLabel → List Identifier
labels_names w [] = []
labels_names w (l ∷ ls) = label_names w l ++ labels_names w ls

-- ---- statements

-- how many names a statement lists
abbrev pub count : Listing → Statement → ℕ
count w (Block at label body) = count w body
count w (If at c x) = length (w.expression c) + count w x
count w (IfElse at c x y) = length (w.expression c) + (count w x + count w y)
count w (Case at kind x items) = length (w.expression x) + count w items
count w (Assignment t x) = length (w.assignment t x)
count w (Null at) = 0
count w (Default at body) = count w body
count w (Match ls body) = length (labels_names w ls) + count w body
count w NoStatement = 0
count w (Statements x xs) = count w x + count w xs

-- one of these for an item with labels and for any other
abbrev pub match_or : {A : Type 0} → Statement → A → A → A
match_or (Match ls body) this rest = this
match_or other this rest = rest

-- the same for a default
abbrev pub default_or : {A : Type 0} → Statement → A → A → A
default_or (Default at body) this rest = this
default_or other this rest = rest

abbrev mutual
  -- the names that a statement lists, with their numbers from a first one on
  pub mentions : Listing → ℕ → Statement → List Mention
  mentions w k (Block at label body) = mentions w k body
  mentions w k (If at c x) = numbered k (w.expression c) ++ mentions w (k + length (w.expression c)) x
  mentions w k (IfElse at c x y) =
      numbered k (w.expression c) ++ (mentions w (k + length (w.expression c)) x ++ mentions w (k + length (w.expression c) + count w x) y)
  mentions w k (Case at kind x items) =
      numbered k (w.expression x) ++ (arm_mentions w (k + length (w.expression x)) items ++ default_mentions w (k + length (w.expression x)) items)
  mentions w k (Assignment t x) = numbered k (w.assignment t x)
  mentions w k (Null at) = []
  mentions w k (Default at body) = mentions w k body
  mentions w k (Match ls body) = numbered k (labels_names w ls) ++ mentions w (k + length (labels_names w ls)) body
  mentions w k NoStatement = []
  mentions w k (Statements x xs) = mentions w k x ++ mentions w (k + count w x) xs

  -- those of the items of a case that have labels; a default is counted too
  pub arm_mentions : Listing → ℕ → Statement → List Mention
  arm_mentions w k (Statements x xs) = match_or x (mentions w k x) [] ++ arm_mentions w (k + count w x) xs
  arm_mentions w k other = []

  -- those of its first default
  pub default_mentions : Listing → ℕ → Statement → List Mention
  default_mentions w k (Statements x xs) = default_or x (mentions w k x) (default_mentions w (k + count w x) xs)
  default_mentions w k other = []

-- ---- both lists of a statement

abbrev pub reads_count : Scope → Statement → ℕ
reads_count scope x = count (reading scope) x

abbrev pub targets_count : Statement → ℕ
targets_count x = count writing x

abbrev pub statement_reads : Scope → ℕ → Statement → List Mention
statement_reads scope k x = mentions (reading scope) k x

abbrev pub statement_targets : ℕ → Statement → List Mention
statement_targets k x = mentions writing k x
