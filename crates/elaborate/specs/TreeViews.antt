-- What the tree of the code means, with the texts of its names.
use Rattle.std.specs.Prelude.{◌≡◌, ℕ, List, map}
use Rattle.ls_text.specs.declared.name_id.NameId.{NameId}
use Rattle.ls_text.specs.Texts.{text_at}
use Rattle.typed_ir.specs.declared.instance.Instance.{Instance}
use Rattle.typed_ir.specs.declared.instance_tree.InstanceTree.{InstanceTree}
use Rattle.gen_unroll.specs.Values.{constant_of}
use Rattle.elaborate.specs.declared.limits.Limits.{Limits}
use Rattle.elaborate.specs.Elaborated.{Standing}
use Rattle.elaborate.specs.Trees.{TreeInstance, seen_as}
use Rattle.clock_rules.specs.Views.{clock_view}
use Rattle.elaborate.specs.Views.{port_of}

abbrev pub instance_view : (texts : List (List ℕ)) → Instance → TreeInstance
instance_view texts i = record {
  parent = i.place.parent;
  name = text_at texts i.place.name.0;
  instantiated = i.of_module.0;
  parameters = map constant_of i.parameters;
  clock = clock_view i.clock;
  ports = map port_of i.ports;
}

abbrev pub tree_view : (texts : List (List ℕ)) → InstanceTree → List TreeInstance
tree_view texts t = map (instance_view texts) t.instances.items

-- an instance of this name, and all else as it stands
pub record IsSeen (name : NameId) (s : Standing) (i : Instance) : Type 0 where
  pub named : i.place.name ≡ name
  pub same : (texts : List (List ℕ)) → instance_view texts i ≡ seen_as (text_at texts i.place.name.0) s

-- what the language allows
abbrev pub language_limits : Limits
language_limits = record { modules = 4096; instances = 65536; top_ports = 256; turns = 65536; levels = 63 }
