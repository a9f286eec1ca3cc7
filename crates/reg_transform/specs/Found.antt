-- What maps and sets of the code give names and keys of registers.
use Rattle.std.specs.Prelude.{ℕ, Bool, ◌&&◌, ◌==◌, if◌then◌else◌, List, [], ◌∷◌, Option, Some, None}
use Rattle.std.specs.List.{list_any}
use Rattle.std.specs.Option.{option_map}
use Rattle.ls_text.specs.declared.name_id.NameId.{NameId}
use Rattle.reg_transform.specs.Registers.{RegisterName, is_same}
use Rattle.reg_transform.specs.declared.qualified_name.QualifiedName.{QualifiedName}
use Rattle.reg_transform.specs.declared.register_key.RegisterKey.{RegisterKey}
use Rattle.reg_transform.specs.declared.old_values.OldValues.{OldValues}
use Rattle.reg_transform.specs.declared.changes.Changes.{Changes}
use Rattle.reg_transform.specs.declared.greatest_values.GreatestValues.{GreatestValues}

abbrev pub name_of : QualifiedName → RegisterName
name_of q = record { in_module = q.in_module.0; name = q.name.0 }

-- a register of an instance: the number of the instance's path, and its name
pub record Key : Type 0 where
  pub number : ℕ
  pub called : RegisterName

abbrev pub key_of : RegisterKey → Key
key_of k = record { number = k.instance; called = name_of k.called }

abbrev pub same_key : Key → Key → Bool
same_key x y = (x.number == y.number) && is_same x.called y.called

-- what these entries give a key
abbrev pub found : {K S V : Type 0} → (K → S) → (S → S → Bool) → List (K × V) → S → Option V
found view same [] key = None
found view same (e ∷ es) key = if same (view e.0) key then Some e.1 else found view same es key

abbrev pub value_in : OldValues → Key → Option ℕ
value_in values key = found key_of same_key values.by_key.entries key

abbrev pub created_in : Changes → RegisterName → Option ℕ
created_in changes name = found name_of is_same changes.created.entries name

abbrev pub renamed_in : Changes → RegisterName → Option ℕ
renamed_in changes name = option_map (λ (n : NameId). n.0) (found name_of is_same changes.renamed.entries name)

abbrev pub greatest_in : GreatestValues → RegisterName → Option ℕ
greatest_in values name = found name_of is_same values.by_name.entries name

-- whether the name is among these
abbrev pub is_among : List QualifiedName → RegisterName → Bool
is_among names name = list_any (λ (k : QualifiedName). is_same (name_of k) name) names
