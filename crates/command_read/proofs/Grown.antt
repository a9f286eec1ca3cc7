-- What commands and blocks say by a table of names that has grown.
use Rattle.std.proofs.Common.{◌≡◌, ℕ, ◌<◌, List, [], ◌∷◌, map, length, Option, Some, None, IfSome, refl, ap, ◌∙◌}
use Rattle.std.proofs.lemmas.List.Elements.{All-head, All-tail, All-weaker}
use Rattle.std.specs.List.{All}
use Rattle.std.specs.Option.{option_map}
use Rattle.ls_text.specs.Texts.{Grows, text_at}
use Rattle.ls_text.specs.TextViews.{text_of}
use Rattle.ls_text.proofs.Growth.{grown_id, grown_text}
use Rattle.ls_text.specs.declared.name_id.NameId.{NameId}
use Rattle.reg_ops.specs.declared.reg_op.RegOp.{RegOp}
use Rattle.reg_ops.specs.declared.reg_op.RegOp.TheVariants.{Rename, Create, Delete}
use Rattle.reg_ops.specs.Operations.{Operation, Renames, Creates, Deletes, operation, HasNames}
use Rattle.command_read.specs.declared.port_value.PortValue.{PortValue}
use Rattle.command_read.specs.declared.file_line.FileLine.{FileLine}
use Rattle.command_read.specs.declared.load_line.LoadLine.{LoadLine}
use Rattle.command_read.specs.declared.op_line.OpLine.{OpLine}
use Rattle.command_read.specs.declared.open_text.OpenText.{OpenText}
use Rattle.command_read.specs.declared.draft.Draft.{Draft}
use Rattle.command_read.specs.Asking.{GivenFile, LoadedFile, LineOperation, Block}
use Rattle.command_read.specs.Spoken.{setting, given_file, loaded_file, line_operation, open_file, drafted, IsWithin, AreFilesWithin, AreLoadsWithin, AreOpsWithin, IsDraftWithin}

-- what holds of each element makes two maps the same
pub same_map : {X Y : Type 0} (P : X → Type 0) (f g : X → Y) (xs : List X) → ((x : X) → P x → g x ≡ f x) → All P xs → map g xs ≡ map f xs
same_map P f g [] same all = refl
same_map P f g (x ∷ xs) same all =
    ap (λ y. y ∷ map g xs) (same x (All-head P x xs all)) ∙ ap (λ ys. f x ∷ ys) (same_map P f g xs same (All-tail P x xs all))

-- what follows for each element follows for all
pub all_so : {X : Type 0} (P Q : X → Type 0) (xs : List X) → ((x : X) → P x → Q x) → All P xs → All Q xs
all_so P Q xs so all = All-weaker P Q so xs all

module _ (old new : List (List ℕ)) (g : Grows old new) where
  pub grown_settings : (vs : List PortValue) → All (λ (v : PortValue). v.port.0 < length old) vs → map (setting new) vs ≡ map (setting old) vs
  grown_settings vs all =
      same_map (λ (v : PortValue). v.port.0 < length old) (setting old) (setting new) vs
      (λ v within. ap (λ (t : List ℕ). (t, v.value)) (grown_text old new v.port.0 g within)) all

  pub grown_ports : (vs : List PortValue) → All (λ (v : PortValue). v.port.0 < length old) vs → All (λ (v : PortValue). v.port.0 < length new) vs
  grown_ports vs all =
      all_so (λ (v : PortValue). v.port.0 < length old) (λ (v : PortValue). v.port.0 < length new) vs (λ v within. grown_id old new v.port.0 g within) all

  pub grown_operation : (op : RegOp) → HasNames (length old) op → operation new op ≡ operation old op
  grown_operation (Rename m from to) within =
      ap (λ t. Renames t (text_at new from.0) (text_at new to.0)) (grown_text old new m.0 g within.0)
      ∙ ap (λ t. Renames (text_at old m.0) t (text_at new to.0)) (grown_text old new from.0 g within.1)
      ∙ ap (λ t. Renames (text_at old m.0) (text_at old from.0) t) (grown_text old new to.0 g within.2)
  grown_operation (Create m reg value) within =
      ap (λ t. Creates t (text_at new reg.0) value) (grown_text old new m.0 g within.0)
      ∙ ap (λ t. Creates (text_at old m.0) t value) (grown_text old new reg.0 g within.1)
  grown_operation (Delete m reg) within =
      ap (λ t. Deletes t (text_at new reg.0)) (grown_text old new m.0 g within.0)
      ∙ ap (λ t. Deletes (text_at old m.0) t) (grown_text old new reg.0 g within.1)

  pub grown_names : (op : RegOp) → HasNames (length old) op → HasNames (length new) op
  grown_names (Rename m from to) within =
      (grown_id old new m.0 g within.0, grown_id old new from.0 g within.1, grown_id old new to.0 g within.2)
  grown_names (Create m reg value) within = (grown_id old new m.0 g within.0, grown_id old new reg.0 g within.1)
  grown_names (Delete m reg) within = (grown_id old new m.0 g within.0, grown_id old new reg.0 g within.1)

  grown_some : (name : Option NameId) → IsWithin (length old) name → option_map (text_of new) name ≡ option_map (text_of old) name
  grown_some None within = refl
  grown_some (Some id) within = ap Some (grown_text old new id.0 g within)

  pub still_some : (name : Option NameId) → IsWithin (length old) name → IsWithin (length new) name
  still_some None within = tt
  still_some (Some id) within = grown_id old new id.0 g within

  pub grown_text_read : (t : Option OpenText) → IfSome t (λ (x : OpenText). x.name.0 < length old) → option_map (open_file new) t ≡ option_map (open_file old) t
  grown_text_read None within = refl
  grown_text_read (Some t) within = ap (λ n. Some (record { line = t.line; name = n; text = t.text.items })) (grown_text old new t.name.0 g within)

  still_read : (t : Option OpenText) → IfSome t (λ (x : OpenText). x.name.0 < length old) → IfSome t (λ (x : OpenText). x.name.0 < length new)
  still_read None within = tt
  still_read (Some t) within = grown_id old new t.name.0 g within

  grown_given : (fs : List FileLine) → AreFilesWithin (length old) fs → map (given_file new) fs ≡ map (given_file old) fs
  grown_given fs all =
      same_map (λ (f : FileLine). f.file.name.0 < length old) (given_file old) (given_file new) fs
      (λ f within. ap (λ (t : List ℕ). record { line = f.line; name = t; text = f.file.text }) (grown_text old new f.file.name.0 g within)) all

  grown_loaded : (ls : List LoadLine) → AreLoadsWithin (length old) ls → map (loaded_file new) ls ≡ map (loaded_file old) ls
  grown_loaded ls all =
      same_map (λ (l : LoadLine). l.name.0 < length old) (loaded_file old) (loaded_file new) ls
      (λ l within. ap (λ (t : List ℕ). record { line = l.line; name = t }) (grown_text old new l.name.0 g within)) all

  grown_ops : (os : List OpLine) → AreOpsWithin (length old) os → map (line_operation new) os ≡ map (line_operation old) os
  grown_ops os all =
      same_map (λ (o : OpLine). HasNames (length old) o.op) (line_operation old) (line_operation new) os
      (λ o within. ap (λ (p : Operation). record { line = o.line; op = p }) (grown_operation o.op within)) all

  -- a block says the same
  pub grown_drafted : (d : Draft) → IsDraftWithin (length old) d → drafted new d ≡ drafted old d
  grown_drafted d all =
      let made : Option (List ℕ) → Option (List ℕ) → List GivenFile → List LoadedFile → List LineOperation → Block
      = λ t c fs ls os. record { line = d.line; top = t; clock = c; files = fs; loads = ls; ops = os } in
      let fs = d.files.given.items in
      let ls = d.files.loaded.items in
      ap (λ t. made t (option_map (text_of new) d.clock) (map (given_file new) fs) (map (loaded_file new) ls) (map (line_operation new) d.ops.items)) (grown_some d.top all.tops)
      ∙ ap (λ c. made (option_map (text_of old) d.top) c (map (given_file new) fs) (map (loaded_file new) ls) (map (line_operation new) d.ops.items)) (grown_some d.clock all.clocks)
      ∙ ap (λ xs. made (option_map (text_of old) d.top) (option_map (text_of old) d.clock) xs (map (loaded_file new) ls) (map (line_operation new) d.ops.items)) (grown_given fs all.given)
      ∙ ap (λ xs. made (option_map (text_of old) d.top) (option_map (text_of old) d.clock) (map (given_file old) fs) xs (map (line_operation new) d.ops.items)) (grown_loaded ls all.loaded)
      ∙ ap (λ xs. made (option_map (text_of old) d.top) (option_map (text_of old) d.clock) (map (given_file old) fs) (map (loaded_file old) ls) xs) (grown_ops d.ops.items all.operations)

  -- and its names are ones of the later table
  pub grown_within : (d : Draft) → IsDraftWithin (length old) d → IsDraftWithin (length new) d
  grown_within d all = record {
    tops = still_some d.top all.tops;
    clocks = still_some d.clock all.clocks;
    given = all_so (λ (f : FileLine). f.file.name.0 < length old) (λ (f : FileLine). f.file.name.0 < length new) d.files.given.items (λ f within. grown_id old new f.file.name.0 g within) all.given;
    loaded = all_so (λ (l : LoadLine). l.name.0 < length old) (λ (l : LoadLine). l.name.0 < length new) d.files.loaded.items (λ l within. grown_id old new l.name.0 g within) all.loaded;
    operations = all_so (λ (o : OpLine). HasNames (length old) o.op) (λ (o : OpLine). HasNames (length new) o.op) d.ops.items (λ o within. grown_names o.op within) all.operations;
    named = still_read d.text all.named;
  }
