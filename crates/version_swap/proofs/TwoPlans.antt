-- Two readings of one version's files, step by step: what the one finds by its table of names, the other finds by its own.
use Rattle.std.proofs.Common.{◌≡◌, ◌∙◌, ℕ, ◌<◌, List, [], ◌∷◌, All, length, map, refl, sym, ap, ap₂}
use Rattle.std.specs.Prelude.{Option, Some, None, Result, Ok, Err, slice_index}
use Rattle.std.specs.List.{AllZip}
use Rattle.std.specs.Option.{option_map}
use Rattle.std.proofs.lemmas.List.Elements.{All-nil, All-head, All-tail, All-weaker}
use Rattle.ls_text.specs.declared.fault.Fault.{Fault}
use Rattle.ls_text.specs.declared.name_id.NameId.{NameId}
use Rattle.ls_text.specs.declared.refusal.Refusal.TheVariants as refusal
use Rattle.ls_text.specs.declared.source_file.SourceFile.{SourceFile}
use Rattle.ls_text.specs.Readings.{TextFault, fault_view}
use Rattle.ls_text.specs.Texts.{Grows, HasEachOnce}
use Rattle.ls_text.proofs.Growth.{grown_id, grown_text, grows_on, grows_none}
use Rattle.ls_text.proofs.Cases.{same_ok, same_err}
use Rattle.typed_ir.specs.Cycles.{Signal, Flat}
use Rattle.verilog_lex.specs.declared.token.Token.{Token}
use Rattle.verilog_lex.specs.Views.{said}
use Rattle.verilog_ast.specs.declared.module.Module.{Module}
use Rattle.verilog_ast.specs.Items.{ModuleDeclaration}
use Rattle.verilog_ast.specs.Renaming.{declaration_as}
use Rattle.verilog_ast.specs.Views.{declarations_of}
use Rattle.verilog_expr.specs.Shown.{at_fault}
use Rattle.module_names.specs.Modules.{module_named}
use Rattle.typed_ir.specs.declared.instance.Instance.{Instance}
use Rattle.elaborate.specs.Elaborated.{Standing, elaborated}
use Rattle.elaborate.specs.TreeViews.{language_limits}
use Rattle.module_registry.specs.declared.build_job.BuildJob.{BuildJob}
use Rattle.module_registry.specs.Building.{Built, built_all}
use Rattle.module_registry.specs.Jobs.{job_text}
use Rattle.unit_build.specs.Building.{built}
use Rattle.width_rules.specs.Renaming.{fault_as}
use Rattle.elaborate.specs.Findings.{standing_as}
use Rattle.elaborate.specs.Renaming.{number_as, found_as}
use Rattle.elaborate.proofs.RenamedDesigns.{same_elaborated}
use Rattle.elaborate.proofs.RenamedModules.{same_named}
use Rattle.verilog_parse.proofs.RenamedText.{same_fault, not_both}
use Rattle.version_swap.specs.RenamedFindings.{unit_signal_as}
use Rattle.version_swap.specs.RenamedUnits.{built_as}
use Rattle.version_swap.specs.Copies.{Copies}
use Rattle.version_swap.specs.Flat.{flat}
use Rattle.version_swap.specs.FlatRenaming.{flat_as}
use Rattle.version_swap.specs.JobsUnder.{IsJobUnder}
use Rattle.link.specs.Faults.{IsLinkFault, HasNoLinkFault}
use Rattle.link.specs.Names.{node_text}
use Rattle.state_layout.specs.Words.{register_widths}
use Rattle.version_swap.specs.FirstKeys.{first_jobs}
use Rattle.version_swap.specs.Founds.{AreModules, IsReadFault, at_text, at_grammar, IsTop, HasModules, AreFound}
use Rattle.version_swap.specs.OnePlan.{file_text as text, IsSameName, IsSameTop, IsSameDesign, nameless, path_texts, own_text, module_text}
use Rattle.version_swap.specs.Plans.{AreCopies}
use Rattle.version_swap.specs.Texts.{file_tokens}
use Rattle.version_swap.proofs.AlikeModules.{itself, name_same, tokens_same, declarations_same, spellings_same, modules_stay}
use Rattle.version_swap.proofs.FilesAlike.{tokens_alike}
use Rattle.version_swap.proofs.FlatAlike.{IsSignalIn, flat_alike, flat_in}
use Rattle.version_swap.proofs.GrownCopies.{copies_grown}
use Rattle.version_swap.proofs.GrownFirsts.{first_grown, first_under, texts_grown}
use Rattle.version_swap.proofs.GrownFound.{FoundIn, tokens_of, found_here, found_grown}
use Rattle.version_swap.proofs.JointTable.{Joint, begins_once, joint}
use Rattle.version_swap.proofs.LinkAlike.{names_grown, names_spelled, own_grown, own_spelled, node_grown, node_spelled, one_fault, not_linked}
use Rattle.version_swap.proofs.MovedNames.{moved, IsBelow, stay, moved_apart, shown_below, view_grown, view_spelled}
use Rattle.version_swap.proofs.NamedTokens.{are_tokens}
use Rattle.version_swap.proofs.ShownFault.{same_view}
use Rattle.version_swap.proofs.StayingDesigns.{elaborated_top, elaborated_stays}
use Rattle.version_swap.proofs.StayingJobs.{unit_shows}
use Rattle.version_swap.proofs.TwinJobs.{IsTwin, twins_first, twins_built, twin_texts}
use Rattle.version_swap.proofs.TwoFound.{all_same, listed_so, twins}

err_or_ok : {A P : Type 0} (r : Result A TextFault) (f : TextFault) (x : A) → r ≡ Err f → r ≡ Ok x → P
err_or_ok r f x one other = absurd cc

-- a fault under other names, or none
moved_fault : {A : Type 0} (h : NameId → NameId) (g : A → A) (r q : Result A Fault) (e d : Fault) → r ≡ found_as h g q → r ≡ Err e → q ≡ Err d
    → e ≡ fault_as h d
moved_fault h g (Ok x) q e d same one other = absurd cc
moved_fault h g (Err c) (Ok y) e d same one other = absurd cc
moved_fault h g (Err c) (Err b) e d same one other =
    let left : c ≡ e = cc in
    let right : b ≡ d = cc in
    let between : c ≡ fault_as h b = cc in
    sym left ∙ between ∙ ap (fault_as h) right

fault_and_none : {A P : Type 0} (h : NameId → NameId) (g : A → A) (r q : Result A Fault) (e : Fault) (x : A) → r ≡ found_as h g q → r ≡ Err e
    → q ≡ Ok x → P
fault_and_none h g (Ok y) q e x same one other = absurd cc
fault_and_none h g (Err c) (Ok y) e x same one other = absurd cc
fault_and_none h g (Err c) (Err b) e x same one other = absurd cc

none_and_fault : {A P : Type 0} (h : NameId → NameId) (g : A → A) (r q : Result A Fault) (x : A) (e : Fault) → r ≡ found_as h g q → r ≡ Ok x
    → q ≡ Err e → P
none_and_fault h g (Err c) q x e same one other = absurd cc
none_and_fault h g (Ok y) (Ok z) x e same one other = absurd cc
none_and_fault h g (Ok y) (Err c) x e same one other = absurd cc

-- ---- modules stay where the names of their table do

module _ {texts : List (List ℕ)} {files : List SourceFile} {ms : List Module} (h : AreModules texts files ms) (table : List (List ℕ))
    (grows : Grows texts table) where
  pub fixed : map (declaration_as (moved (length table))) (declarations_of ms) ≡ declarations_of ms
  fixed =
      modules_stay texts (moved (length table)) ms h.tokens (λ n below. stay (length table) n (grown_id texts table n.0 grows below))
      (tokens_of h).named h.stands

  -- a fault of elaboration shows names of the table
  pub tree_shows : (top clock : ℕ) (f : Fault) → elaborated language_limits (declarations_of ms) top clock ≡ Err f
      → All (IsBelow (length table)) f.names
  tree_shows top clock f is =
      shown_below (length table) (map (standing_as (moved (length table)))) (elaborated language_limits (declarations_of ms) top clock) f
      (elaborated_stays (moved (length table)) (moved_apart (length table)) language_limits (declarations_of ms) fixed top clock) is

-- ---- two readings

module _ (names others : List (List ℕ)) (files again : List SourceFile) (once : HasEachOnce names) (also : HasEachOnce others)
    (same : map text files ≡ map text again) where
  abbrev j : Joint names others
  j = joint names others once also

  read_same : file_tokens files ≡ file_tokens again
  read_same = tokens_alike files again same

  said_same : (old new : List (List ℕ)) (s q : List Token) → file_tokens files ≡ Ok (map (said old) s) → file_tokens again ≡ Ok (map (said new) q)
      → map (said old) s ≡ map (said new) q
  said_same old new s q one other =
      same_ok (file_tokens files) (map (said old) s) (map (said new) q) one (read_same ∙ other)

  -- ---- faults of the texts

  pub one_read_fault : (f g : TextFault) → IsReadFault names files f → IsReadFault others again g → f ≡ g
  one_read_fault f g (at_text is) (at_text other) = same_err (file_tokens files) f g is (read_same ∙ other)
  one_read_fault f g (at_text is) (at_grammar {tokens = q} read refused) =
      err_or_ok (file_tokens files) f (map (said others) q) is (read_same ∙ read)
  one_read_fault f g (at_grammar {tokens = s} read refused) (at_text is) =
      err_or_ok (file_tokens files) g (map (said names) s) (read_same ∙ is) read
  one_read_fault f g (at_grammar {tokens = s} {f = x} read (at_fault {f = a} run shown))
      (at_grammar {tokens = q} {f = y} other (at_fault {f = b} ran seen)) =
      let told = said_same names others s q read other in
      let retold = tokens_same j names others (grows_none names) (grows_none others) s q (are_tokens names files s read).named
      (are_tokens others again q other).named told in
      same_view names others s q a b x y told (same_fault itself j.name s q a b retold run ran) shown seen

  pub fault_or_modules : {P : Type 0} (texts : List (List ℕ)) (ns : List Module) (f : TextFault) → IsReadFault names files f
      → AreModules texts again ns
      → Grows texts others → P
  fault_or_modules texts ns f (at_text is) h grows = err_or_ok (file_tokens files) f (map (said texts) h.tokens) is (read_same ∙ h.read)
  fault_or_modules texts ns f (at_grammar {tokens = s} read (at_fault {f = a} run shown)) h grows =
      let retold = tokens_same j names texts (grows_none names) grows s h.tokens (are_tokens names files s read).named (tokens_of h).named
      (said_same names texts s h.tokens read h.read) in
      absurd (not_both j.name itself texts ns h.tokens s a (sym retold) h.stands run)

  pub modules_or_fault : {P : Type 0} (texts : List (List ℕ)) (ms : List Module) (f : TextFault) → AreModules texts files ms → Grows texts names
      → IsReadFault others again f → P
  modules_or_fault texts ms f h grows (at_text is) = err_or_ok (file_tokens files) f (map (said texts) h.tokens) (read_same ∙ is) h.read
  modules_or_fault texts ms f h grows (at_grammar {tokens = q} read (at_fault {f = a} run shown)) =
      let retold = tokens_same j texts others grows (grows_none others) h.tokens q (tokens_of h).named (are_tokens others again q read).named
      (said_same texts others h.tokens q h.read read) in
      absurd (not_both itself j.name texts ms h.tokens q a retold h.stands run)

  -- ---- the instances of a design

  module _ (top up : Option NameId) (clock net : NameId) (tops : IsSameTop names others top up) (clocks : IsSameName names others clock net) where
    named_same : (m n : NameId) → IsSameName names others m n → m.0 ≡ number_as j.name n.0
    named_same m n is = ap (λ (k : NameId). k.0) (name_same j names others (grows_none names) (grows_none others) m n is.here is.there is.text)

    module _ {texts words : List (List ℕ)} {ms ns : List Module} {n m : ℕ} (h : HasModules texts files top ms n) (grows : Grows texts names)
        (d : HasModules words again up ns m) (also_grows : Grows words others) where
      said_alike : map (said texts) h.modules.tokens ≡ map (said words) d.modules.tokens
      said_alike = said_same texts words h.modules.tokens d.modules.tokens h.modules.read d.modules.read

      pub trees : declarations_of ms ≡ map (declaration_as j.name) (declarations_of ns)
      trees =
          declarations_same j texts words grows also_grows ms ns h.modules.tokens d.modules.tokens (tokens_of h.modules).named
          (tokens_of d.modules).named said_alike h.modules.stands d.modules.stands

      pub spelled : map (λ (x : Module). x.spelling) ms ≡ map (λ (x : Module). x.spelling) ns
      spelled =
          spellings_same j texts words grows also_grows ms ns h.modules.tokens d.modules.tokens (tokens_of h.modules).named
          (tokens_of d.modules).named said_alike h.modules.stands d.modules.stands

      top_found : (t u : Option NameId) → IsSameTop names others t u → IsTop t (declarations_of ms) n → IsTop u (declarations_of ns) m
          → module_named n (declarations_of ms) ≡ module_named (number_as j.name m) (declarations_of ms)
      top_found None None is here there =
          here
          ∙ sym (ap (module_named (number_as j.name m)) trees ∙ same_named j.name m (declarations_of ns) j.apart
          ∙ ap (option_map (declaration_as j.name)) there)
      top_found None (Some u) is here there = absurd is
      top_found (Some t) None is here there = absurd is
      top_found (Some t) (Some u) is here there =
          ap (λ (k : ℕ). module_named k (declarations_of ms)) (here ∙ named_same t u is ∙ ap (number_as j.name) (sym there))

      pub alike : elaborated language_limits (declarations_of ms) n clock.0
          ≡ elaborated language_limits (declarations_of ms) (number_as j.name m) (number_as j.name net.0)
      alike =
          elaborated_top language_limits (declarations_of ms) n (number_as j.name m) clock.0 (top_found top up tops h.is_top d.is_top)
          ∙ ap (elaborated language_limits (declarations_of ms) (number_as j.name m)) (named_same clock net clocks)

      pub elaborated_so : elaborated language_limits (declarations_of ms) n clock.0
          ≡ found_as j.name (map (standing_as j.name)) (elaborated language_limits (declarations_of ns) m net.0)
      elaborated_so =
          alike
          ∙ ap (λ (ds : List ModuleDeclaration). elaborated language_limits ds (number_as j.name m) (number_as j.name net.0)) trees
          ∙ same_elaborated j.name language_limits (declarations_of ns) m net.0 j.apart

      -- a fault that shows names of the first table
      viewed_alike : (e x : Fault) → All (IsBelow (length names)) e.names → e ≡ fault_as j.name x → fault_view names e ≡ fault_view others x
      viewed_alike e x below is =
          sym (view_grown names j.table e j.grows below) ∙ ap (fault_view j.table) is ∙ view_spelled j.name others j.table x j.spells

      pub one_tree_fault : (e x : Fault) → elaborated language_limits (declarations_of ms) n clock.0 ≡ Err e
          → elaborated language_limits (declarations_of ns) m net.0 ≡ Err x → fault_view names e ≡ fault_view others x
      one_tree_fault e x is other =
          viewed_alike e x (tree_shows h.modules names grows n clock.0 e is)
          (moved_fault j.name (map (standing_as j.name)) (elaborated language_limits (declarations_of ms) n clock.0)
          (elaborated language_limits (declarations_of ns) m net.0) e x elaborated_so is other)

      pub fault_or_tree : {P : Type 0} (e : Fault) (all : List Standing) → elaborated language_limits (declarations_of ms) n clock.0 ≡ Err e
          → elaborated language_limits (declarations_of ns) m net.0 ≡ Ok all → P
      fault_or_tree e all =
          fault_and_none j.name (map (standing_as j.name)) (elaborated language_limits (declarations_of ms) n clock.0)
          (elaborated language_limits (declarations_of ns) m net.0) e all elaborated_so

      pub tree_or_fault : {P : Type 0} (all : List Standing) (e : Fault) → elaborated language_limits (declarations_of ms) n clock.0 ≡ Ok all
          → elaborated language_limits (declarations_of ns) m net.0 ≡ Err e → P
      tree_or_fault all e =
          none_and_fault j.name (map (standing_as j.name)) (elaborated language_limits (declarations_of ms) n clock.0)
          (elaborated language_limits (declarations_of ns) m net.0) all e elaborated_so

    -- ---- units

    module _ {words told : List (List ℕ)} {xs ys : List Instance} {js ks : List BuildJob} (h : AreFound words files top clock xs js)
        (grows : Grows words names) (d : AreFound told again up net ys ks) (also_grows : Grows told others) where
      first_grows : Grows h.texts names
      first_grows = grows_on h.texts h.known names h.grown (grows_on h.known words names h.grows grows)

      second_grows : Grows d.texts others
      second_grows = grows_on d.texts d.known others d.grown (grows_on d.known told others d.grows also_grows)

      to_joint : Grows words j.table
      to_joint = grows_on words names j.table grows j.grows

      own : FoundIn words h.ms h.top clock.0 xs js h.all
      own = found_here h (begins_once words names grows once)

      own_too : FoundIn told d.ms d.top net.0 ys ks d.all
      own_too = found_here d (begins_once told others also_grows also)

      here : FoundIn j.table h.ms h.top clock.0 xs js h.all
      here = found_grown to_joint own

      there : FoundIn others d.ms d.top net.0 ys ks d.all
      there = found_grown also_grows own_too

      same_trees : declarations_of h.ms ≡ map (declaration_as j.name) (declarations_of d.ms)
      same_trees = trees h.has first_grows d.has second_grows

      same_spelled : map (λ (x : Module). x.spelling) h.ms ≡ map (λ (x : Module). x.spelling) d.ms
      same_spelled = spelled h.has first_grows d.has second_grows

      same_alike : elaborated language_limits (declarations_of h.ms) h.top clock.0
          ≡ elaborated language_limits (declarations_of h.ms) (number_as j.name d.top) (number_as j.name net.0)
      same_alike = alike h.has first_grows d.has second_grows

      fixed_here : map (declaration_as (moved (length words))) (declarations_of h.ms) ≡ declarations_of h.ms
      fixed_here = fixed h.has.modules words (grows_on h.texts h.known words h.grown h.grows)

      fixed_there : map (declaration_as (moved (length told))) (declarations_of d.ms) ≡ declarations_of d.ms
      fixed_there = fixed d.has.modules told (grows_on d.texts d.known told d.grown d.grows)

      firsts_here : first_jobs j.table [] js ≡ first_jobs words [] js
      firsts_here = first_grown words j.table to_joint [] js (All-nil (λ (k : BuildJob). IsJobUnder words k)) own.under

      firsts_there : first_jobs others [] ks ≡ first_jobs told [] ks
      firsts_there = first_grown told others also_grows [] ks (All-nil (λ (k : BuildJob). IsJobUnder told k)) own_too.under

      first_twins : AllZip (IsTwin j.name) (first_jobs others [] ks) (first_jobs j.table [] js)
      first_twins = twins_first j.name others j.table j.spells [] [] ks js tt (twins j here there same_trees same_spelled same_alike)

      units_so : built_all built (first_jobs words [] js) ≡ found_as j.name (map (built_as j.name)) (built_all built (first_jobs told [] ks))
      units_so =
          ap (built_all built) (sym firsts_here)
          ∙ twins_built j.name j.apart (first_jobs others [] ks) (first_jobs j.table [] js) first_twins
          ∙ ap (λ (bs : List BuildJob). found_as j.name (map (built_as j.name)) (built_all built bs)) firsts_there

      pub one_unit_fault : (e x : Fault) → built_all built (first_jobs words [] js) ≡ Err e → built_all built (first_jobs told [] ks) ≡ Err x
          → fault_view names e ≡ fault_view others x
      one_unit_fault e x is other =
          let below = All-weaker (IsBelow (length words)) (IsBelow (length names))
          (λ (n : NameId) (lt : n.0 < length words). grown_id words names n.0 grows lt)
          e.names (unit_shows words own fixed_here e is) in
          viewed_alike h.has first_grows d.has second_grows e x below
          (moved_fault j.name (map (built_as j.name)) (built_all built (first_jobs words [] js))
          (built_all built (first_jobs told [] ks)) e x units_so is
          other)

      pub fault_or_units : {P : Type 0} (e : Fault) (us : List Built) → built_all built (first_jobs words [] js) ≡ Err e
          → built_all built (first_jobs told [] ks) ≡ Ok us → P
      fault_or_units e us =
          fault_and_none j.name (map (built_as j.name)) (built_all built (first_jobs words [] js))
          (built_all built (first_jobs told [] ks)) e us units_so

      pub units_or_fault : {P : Type 0} (us : List Built) (e : Fault) → built_all built (first_jobs words [] js) ≡ Ok us
          → built_all built (first_jobs told [] ks) ≡ Err e → P
      units_or_fault us e =
          none_and_fault j.name (map (built_as j.name)) (built_all built (first_jobs words [] js))
          (built_all built (first_jobs told [] ks)) us e units_so

      pub same_keys : map (job_text words) (first_jobs words [] js) ≡ map (job_text told) (first_jobs told [] ks)
      same_keys =
          sym (texts_grown words j.table to_joint (first_jobs words [] js)
          (first_under words j.table to_joint [] js (All-nil (λ (k : BuildJob). IsJobUnder words k)) own.under))
          ∙ ap (map (job_text j.table)) (sym firsts_here)
          ∙ twin_texts j.name others j.table j.spells (first_jobs others [] ks) (first_jobs j.table [] js) first_twins
          ∙ ap (map (job_text others)) firsts_there
          ∙ texts_grown told others also_grows (first_jobs told [] ks)
          (first_under told others also_grows [] ks (All-nil (λ (k : BuildJob). IsJobUnder told k)) own_too.under)

    -- ---- copies

    module _ {words told keys chain : List (List ℕ)} {copies rest : Copies} (h : AreCopies words files top clock keys copies)
        (grows : Grows words names) (d : AreCopies told again up net chain rest) (also_grows : Grows told others) where
      own_copies : FoundIn words h.found.ms h.found.top clock.0 h.xs h.js h.found.all
      own_copies = own h.found grows d.found also_grows

      other_copies : FoundIn told d.found.ms d.found.top net.0 d.xs d.js d.found.all
      other_copies = own_too h.found grows d.found also_grows

      grows_to : Grows words j.table
      grows_to = to_joint h.found grows d.found also_grows

      pub flats : flat copies ≡ flat_as j.name (flat rest)
      flats =
          let first = here h.found grows d.found also_grows in
          let second = there h.found grows d.found also_grows in
          let tree = same_trees h.found grows d.found also_grows in
          let spelling = same_spelled h.found grows d.found also_grows in
          let found = same_alike h.found grows d.found also_grows in
          flat_alike j.name others j.table j.apart j.spells j.once first (declarations_of d.found.ms) d.xs d.found.all tree
          (all_same j first second tree spelling found) (listed_so j first second tree spelling found) copies rest
          (copies_grown grows_to own_copies copies h.are_copies) (copies_grown also_grows other_copies rest d.are_copies)

      signals_here : All (IsSignalIn words) (flat copies).signals
      signals_here =
          flat_in (begins_once words names grows once) own_copies
          (fixed_here h.found grows d.found also_grows) copies h.are_copies

      signals_there : All (IsSignalIn told) (flat rest).signals
      signals_there =
          flat_in (begins_once told others also_grows also) other_copies
          (fixed_there h.found grows d.found also_grows) rest d.are_copies

      nodes_same : (flat copies).nodes ≡ (flat rest).nodes
      nodes_same = ap (λ (x : Flat). x.nodes) flats

      called_same : (k : ℕ) → node_text words (flat copies) k ≡ node_text told (flat rest) k
      called_same k =
          sym (node_grown words j.table (flat copies) k grows_to signals_here)
          ∙ ap (λ (x : Flat). node_text j.table x k) flats
          ∙ node_spelled j.name others j.table (flat rest) k j.spells
          ∙ node_grown told others (flat rest) k also_grows signals_there

      pub one_link_fault : (e x : Fault) → IsLinkFault 1048576 words names (flat copies) (refusal.Fault e)
          → IsLinkFault 1048576 told others (flat rest) (refusal.Fault x) → fault_view names e ≡ fault_view others x
      one_link_fault = one_fault 1048576 words names told others (flat copies) (flat rest) nodes_same called_same

      pub fault_or_linked : (e : Fault) → IsLinkFault 1048576 words names (flat copies) (refusal.Fault e)
          → HasNoLinkFault 1048576 (flat rest) → ⊥
      fault_or_linked = not_linked 1048576 words names told others (flat copies) (flat rest) nodes_same called_same

      pub linked_or_fault : (e : Fault) → HasNoLinkFault 1048576 (flat copies)
          → IsLinkFault 1048576 told others (flat rest) (refusal.Fault e) → ⊥
      linked_or_fault e none fault =
          not_linked 1048576 told others words names (flat rest) (flat copies) (sym nodes_same) (λ k. sym (called_same k)) e fault none

      -- ---- registers

      widths_as : (xs : List Signal) → map (λ (x : Signal). x.width) (map (unit_signal_as j.name) xs) ≡ map (λ (x : Signal). x.width) xs
      widths_as [] = refl
      widths_as (x ∷ xs) = ap (λ (ws : List ℕ). x.width ∷ ws) (widths_as xs)

      pub widths_same : register_widths (flat copies) ≡ register_widths (flat rest)
      widths_same =
          ap register_widths flats
          ∙ ap (λ (ws : List ℕ). map (λ (r : ℕ). slice_index ws r) (flat rest).registers) (widths_as (flat rest).signals)

      -- ---- the design

      nameless_as : (xs : List Signal) → map nameless (map (unit_signal_as j.name) xs) ≡ map nameless xs
      nameless_as [] = refl
      nameless_as (x ∷ xs) = ap (λ (ys : List Signal). nameless x ∷ ys) (nameless_as xs)

      paths_as : (xs : List Signal) → map (path_texts j.table) (map (unit_signal_as j.name) xs) ≡ map (path_texts others) xs
      paths_as [] = refl
      paths_as (x ∷ xs) =
          ap₂ (λ (t : List (List ℕ)) (ts : List (List (List ℕ))). t ∷ ts) (names_spelled j.name others j.table x.path j.spells) (paths_as xs)

      own_as : (xs : List Signal) → map (own_text j.table) (map (unit_signal_as j.name) xs) ≡ map (own_text others) xs
      own_as [] = refl
      own_as (x ∷ xs) =
          ap₂ (λ (t : List ℕ) (ts : List (List ℕ)). t ∷ ts) (own_spelled j.name others j.table x.path j.spells) (own_as xs)

      modules_as : (xs : List Signal) → map (module_text j.table) (map (unit_signal_as j.name) xs) ≡ map (module_text others) xs
      modules_as [] = refl
      modules_as (x ∷ xs) =
          ap₂ (λ (t : List ℕ) (ts : List (List ℕ)). t ∷ ts) (j.spells (record { 0 = x.in_module })) (modules_as xs)

      paths_grown : (table : List (List ℕ)) → Grows words table → (xs : List Signal) → All (IsSignalIn words) xs
          → map (path_texts table) xs ≡ map (path_texts words) xs
      paths_grown table grown [] within = refl
      paths_grown table grown (x ∷ xs) within =
          ap₂ (λ (t : List (List ℕ)) (ts : List (List (List ℕ))). t ∷ ts)
          (names_grown words table x.path grown (All-head (IsSignalIn words) x xs within).path)
          (paths_grown table grown xs (All-tail (IsSignalIn words) x xs within))

      own_texts_grown : (table : List (List ℕ)) → Grows words table → (xs : List Signal) → All (IsSignalIn words) xs
          → map (own_text table) xs ≡ map (own_text words) xs
      own_texts_grown table grown [] within = refl
      own_texts_grown table grown (x ∷ xs) within =
          ap₂ (λ (t : List ℕ) (ts : List (List ℕ)). t ∷ ts) (own_grown words table x.path grown (All-head (IsSignalIn words) x xs within).path)
          (own_texts_grown table grown xs (All-tail (IsSignalIn words) x xs within))

      modules_grown : (table : List (List ℕ)) → Grows words table → (xs : List Signal) → All (IsSignalIn words) xs
          → map (module_text table) xs ≡ map (module_text words) xs
      modules_grown table grown [] within = refl
      modules_grown table grown (x ∷ xs) within =
          ap₂ (λ (t : List ℕ) (ts : List (List ℕ)). t ∷ ts)
          (grown_text words table x.in_module grown (All-head (IsSignalIn words) x xs within).in_module)
          (modules_grown table grown xs (All-tail (IsSignalIn words) x xs within))

      signals_so : (flat copies).signals ≡ map (unit_signal_as j.name) (flat rest).signals
      signals_so = ap (λ (x : Flat). x.signals) flats

      pub one_design : IsSameDesign names others (record { design = flat copies; keys = keys })
          (record { design = flat rest; keys = chain })
      one_design = record {
        keys = h.texts ∙ same_keys h.found grows d.found also_grows ∙ sym d.texts;
        signals = ap (map nameless) signals_so ∙ nameless_as (flat rest).signals;
        paths = paths_grown names grows (flat copies).signals signals_here
            ∙ sym (paths_grown j.table grows_to (flat copies).signals signals_here)
            ∙ ap (map (path_texts j.table)) signals_so ∙ paths_as (flat rest).signals;
        own = own_texts_grown names grows (flat copies).signals signals_here
            ∙ sym (own_texts_grown j.table grows_to (flat copies).signals signals_here)
            ∙ ap (map (own_text j.table)) signals_so ∙ own_as (flat rest).signals;
        modules = modules_grown names grows (flat copies).signals signals_here
            ∙ sym (modules_grown j.table grows_to (flat copies).signals signals_here)
            ∙ ap (map (module_text j.table)) signals_so ∙ modules_as (flat rest).signals;
        registers = ap (λ (x : Flat). x.registers) flats;
        inputs = ap (λ (x : Flat). x.inputs) flats;
        nodes = nodes_same;
        clocked = ap (λ (x : Flat). x.clocked) flats;
      }
