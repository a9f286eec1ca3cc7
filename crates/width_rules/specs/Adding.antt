-- What the walks add to a list, and what is left to add within a loop.
use Rattle.std.specs.Prelude.{◌≡◌, ℕ, ◌+◌, List, ◌++◌, length, Option, Some, None}
use Rattle.std.specs.declared.vec.Vec.{Vec}
use Rattle.std.specs.Global.{Global}
use Rattle.std.specs.Option.{option_map}
use Rattle.verilog_ast.specs.declared.identifier.Identifier.{Identifier}
use Rattle.verilog_ast.specs.Statements.{Statement, Default}
use Rattle.typed_ir.specs.declared.mention.Mention.{Mention}
use Rattle.width_rules.specs.Mentions.{numbered}

-- names went to the list, with their numbers from the first one on
pub record Notes (old new : List Mention) (from next : ℕ) (names : List Identifier) : Type 0 where
  pub list : new ≡ old ++ numbered from names
  pub counts : next ≡ from + length names

-- mentions went to the list, and so many were counted
pub record Tells (old new : List Mention) (from next : ℕ) (more : List Mention) (counted : ℕ) : Type 0 where
  pub list : new ≡ old ++ more
  pub counts : next ≡ from + counted

-- with these still to come, all names go to the list
pub record NamesLeft (old now : List Mention) (from next : ℕ) (all left : List Identifier) : Type 0 where
  pub kept : now ++ numbered next left ≡ old ++ numbered from all
  pub counts : next + length left ≡ from + length all

-- the same of mentions
pub record MentionsLeft (old now : List Mention) (from next : ℕ) (all : List Mention) (counted : ℕ) (left : List Mention) (more : ℕ) : Type 0 where
  pub kept : now ++ left ≡ old ++ all
  pub counts : next + more ≡ from + counted

-- ---- the default of a case so far: the first one stays

abbrev pub otherwise_of : Option (Vec Mention Global) → Option (List Mention)
otherwise_of x = option_map (λ v. v.items) x

abbrev pub earlier_or : Option (List Mention) → List Mention → Option (List Mention)
earlier_or None x = Some x
earlier_or (Some before) x = Some before

-- where one more item has these mentions
abbrev pub with_default : Option (List Mention) → Statement → List Mention → Option (List Mention)
with_default before (Default at body) ms = earlier_or before ms
with_default before other ms = before

abbrev pub otherwise_or : Option (List Mention) → List Mention → List Mention
otherwise_or None x = x
otherwise_or (Some before) x = before
