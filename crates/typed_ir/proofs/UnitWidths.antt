-- The widths of a linked design agree where those of its units do.
use Rattle.std.proofs.Common.{◌≡◌, ℕ, zero, suc, ◌+◌, true, List, [], ◌∷◌, ◌++◌, map, length, slice_index, append_assoc, append-nil, refl, sym, ◌∙◌, ap, ap₂, arith, inl, inr, subst, ◌<◌}
use Rattle.std.proofs.lemmas.Bool.{and_from}
use Rattle.std.proofs.lemmas.List.{length-append, length-map, map-append, get_or-append-add, get_or_append_left}
use Rattle.typed_ir.specs.Stmts.{is_sized, is_legal, is_clocked, SizedStmt}
use Rattle.typed_ir.specs.Nodes.{FlatNode, are_lanes, is_legal_node, are_legal}
use Rattle.typed_ir.specs.Orders.{Each, Member}
use Rattle.typed_ir.specs.Cycles.{Signal}
use Rattle.typed_ir.specs.Shifts.{shifted_stmt}
use Rattle.typed_ir.specs.Trees.{UnitNode, Own, Into, From, SizedUnit, Instances, Nothing, One, signals_in, firsts, copied_out, node_there, signal_there, signals_at, nodes_at, flat_of_tree, unit_widths, kid_widths, is_legal_unit_node, AreLegal, blocks_at, is_legal_block, top_inputs, AreSound}
use Rattle.typed_ir.proofs.Cases.{and_left, and_right}
use Rattle.typed_ir.proofs.Lists.{each_append, each_map}
use Rattle.typed_ir.proofs.Fitting.{Holds, node_fits, joint_fits, stmt_fits, clocked_shifted}
use Rattle.typed_ir.proofs.Counted.{nodes_given, kid_at, registers_range}

widths_in : Instances → List ℕ
widths_in Nothing = []
widths_in (One name u within after) = unit_widths u ++ (widths_in within ++ widths_in after)

widths_long : (tree : Instances) → length (widths_in tree) ≡ signals_in tree
unfolding widths_in
widths_long Nothing = refl
widths_long (One name u within after) =
    length-append (unit_widths u) (widths_in within ++ widths_in after)
    ∙ ap₂ (λ a b. a + b) (length-map u.signals (λ (x : Signal). x.width))
    (length-append (widths_in within) (widths_in after) ∙ ap₂ (λ a b. a + b) (widths_long within) (widths_long after))
    ∙ omega arith

widths_given : (path : List ℕ) (first : ℕ) (tree : Instances) → map (λ (x : Signal). x.width) (copied_out signals_at path first tree) ≡ widths_in tree
unfolding widths_in
widths_given path first Nothing = refl
widths_given path first (One name u within after) =
    map-append (λ (x : Signal). x.width) (map (signal_there (path ++ name ∷ [])) u.signals) _
    ∙ ap₂ (λ (a b : List ℕ). a ++ b) (same (path ++ name ∷ []) u.signals)
    (map-append (λ (x : Signal). x.width) (copied_out signals_at (path ++ name ∷ []) (first + length u.signals) within) _
    ∙ ap₂ (λ (a b : List ℕ). a ++ b) (widths_given (path ++ name ∷ []) (first + length u.signals) within)
    (widths_given path (first + length u.signals + signals_in within) after))
  where
    same : (path : List ℕ) (xs : List Signal) → map (λ (x : Signal). x.width) (map (signal_there path) xs) ≡ map (λ (x : Signal). x.width) xs
    same path [] = refl
    same path (x ∷ xs) = ap (λ zs. x.width ∷ zs) (same path xs)

holds_at : (whole before part rest : List ℕ) (first : ℕ) → length before ≡ first → whole ≡ before ++ (part ++ rest) → Holds first whole part
holds_at whole before part rest first long is = record {
  there = λ s h. omega (arith, ap length is ∙ length-append before (part ++ rest) ∙ ap (λ n. length before + n) (length-append part rest), long, h);
  same = λ s h. ap (λ zs. slice_index zs (first + s)) is ∙ ap (λ n. slice_index (before ++ (part ++ rest)) (n + s)) (sym long)
      ∙ get_or-append-add before (part ++ rest) s 0 ∙ get_or_append_left part rest 0 s h;
}

no_widths : (first : ℕ) (whole : List ℕ) → Holds first whole []
no_widths first whole = record { there = λ s h. absurd (omega (arith, h)); same = λ s h. absurd (omega (arith, h)) }

-- where a list goes on after an instance, and after those in it
after_own : (whole before w i a rest : List ℕ) → whole ≡ before ++ ((w ++ (i ++ a)) ++ rest) → whole ≡ before ++ (w ++ ((i ++ a) ++ rest))
after_own whole before w i a rest e = e ∙ ap (λ zs. before ++ zs) (append_assoc w (i ++ a) rest)

after_within : (whole before w i a rest : List ℕ) → whole ≡ before ++ ((w ++ (i ++ a)) ++ rest) → whole ≡ (before ++ w) ++ (i ++ (a ++ rest))
after_within whole before w i a rest e =
    after_own whole before w i a rest e ∙ ap (λ zs. before ++ (w ++ zs)) (append_assoc i a rest) ∙ sym (append_assoc before w (i ++ (a ++ rest)))

after_all : (whole before w i a rest : List ℕ) → whole ≡ before ++ ((w ++ (i ++ a)) ++ rest) → whole ≡ ((before ++ w) ++ i) ++ (a ++ rest)
after_all whole before w i a rest e = after_within whole before w i a rest e ∙ sym (append_assoc (before ++ w) i (a ++ rest))

second_long : (before : List ℕ) (u : SizedUnit) (first : ℕ) → length before ≡ first → length (before ++ unit_widths u) ≡ first + length u.signals
second_long before u first long =
    length-append before (unit_widths u) ∙ ap₂ (λ a b. a + b) long (length-map u.signals (λ (x : Signal). x.width))

third_long : (before : List ℕ) (u : SizedUnit) (within : Instances) (first : ℕ) → length before ≡ first
    → length ((before ++ unit_widths u) ++ widths_in within) ≡ first + length u.signals + signals_in within
third_long before u within first long =
    length-append (before ++ unit_widths u) (widths_in within) ∙ ap₂ (λ a b. a + b) (second_long before u first long) (widths_long within)

kid_holds : (whole before rest : List ℕ) (first : ℕ) (tree : Instances) (c : ℕ) → length before ≡ first → whole ≡ before ++ (widths_in tree ++ rest)
    → Holds (kid_at first tree c) whole (kid_widths tree c)
unfolding widths_in
kid_holds whole before rest first Nothing c long is = no_widths _ whole
kid_holds whole before rest first (One name u within after) zero long is =
    holds_at whole before (unit_widths u) ((widths_in within ++ widths_in after) ++ rest) first long
    (after_own whole before (unit_widths u) (widths_in within) (widths_in after) rest is)
kid_holds whole before rest first (One name u within after) (suc c) long is =
    kid_holds whole ((before ++ unit_widths u) ++ widths_in within) rest (first + length u.signals + signals_in within) after c
    (third_long before u within first long) (after_all whole before (unit_widths u) (widths_in within) (widths_in after) rest is)

unit_node_legal : (first : ℕ) (kid : ℕ → ℕ) (whole own : List ℕ) (kids : ℕ → List ℕ) → Holds first whole own → ((c : ℕ) → Holds (kid c) whole (kids c))
    → (x : UnitNode) → is_legal_unit_node own kids x ≡ true → is_legal_node (node_there first kid x) whole ≡ true
unit_node_legal first kid whole own kids here there (Own node) h = node_fits first whole own here node h
unit_node_legal first kid whole own kids here there (Into c form lanes e) h =
    joint_fits form (kid c) first whole (kids c) own (there c) here lanes e (and_left (are_lanes lanes (kids c)) (is_sized e own) h)
    (and_right (are_lanes lanes (kids c)) (is_sized e own) h)
unit_node_legal first kid whole own kids here there (From c form lanes e) h =
    joint_fits form first (kid c) whole own (kids c) here (there c) lanes e (and_left (are_lanes lanes own) (is_sized e (kids c)) h)
    (and_right (are_lanes lanes own) (is_sized e (kids c)) h)

legal_append : (whole : List ℕ) (xs ys : List FlatNode) → are_legal xs whole ≡ true → are_legal ys whole ≡ true → are_legal (xs ++ ys) whole ≡ true
legal_append whole [] ys h k = k
legal_append whole (x ∷ xs) ys h k =
    and_from (is_legal_node x whole) (are_legal (xs ++ ys) whole) (and_left (is_legal_node x whole) (are_legal xs whole) h)
    (legal_append whole xs ys (and_right (is_legal_node x whole) (are_legal xs whole) h) k)

legal_map : (whole own : List ℕ) (kids : ℕ → List ℕ) (f : UnitNode → FlatNode) (xs : List UnitNode)
    → ((x : UnitNode) → is_legal_unit_node own kids x ≡ true → is_legal_node (f x) whole ≡ true)
    → Each (λ x. is_legal_unit_node own kids x ≡ true) xs → are_legal (map f xs) whole ≡ true
legal_map whole own kids f [] h all = refl
legal_map whole own kids f (x ∷ xs) h all =
    and_from (is_legal_node (f x) whole) (are_legal (map f xs) whole) (h x all.0) (legal_map whole own kids f xs h all.1)

legal_given : (whole before rest path : List ℕ) (first : ℕ) (tree : Instances) → length before ≡ first → whole ≡ before ++ (widths_in tree ++ rest)
    → AreLegal tree → are_legal (nodes_given path first tree) whole ≡ true
unfolding widths_in
legal_given whole before rest path first Nothing long is legal = refl
legal_given whole before rest path first (One name u within after) long is legal =
    let here = path ++ name ∷ [] in
    let second = first + length u.signals in
    let third = first + length u.signals + signals_in within in
    let one = after_within whole before (unit_widths u) (widths_in within) (widths_in after) rest is in
    let two = after_all whole before (unit_widths u) (widths_in within) (widths_in after) rest is in
    legal_append whole (nodes_at (record { path = here; first = first; kids = firsts second within }) u) _
    (legal_map whole (unit_widths u) (kid_widths within) (node_there first (slice_index (firsts second within))) u.nodes
    (unit_node_legal first (slice_index (firsts second within)) whole (unit_widths u) (kid_widths within)
    (holds_at whole before (unit_widths u) ((widths_in within ++ widths_in after) ++ rest) first long
    (after_own whole before (unit_widths u) (widths_in within) (widths_in after) rest is))
    (λ c. kid_holds whole (before ++ unit_widths u) (widths_in after ++ rest) second within c (second_long before u first long) one))
    legal.0.nodes)
    (legal_append whole (nodes_given here second within) _
    (legal_given whole (before ++ unit_widths u) (widths_in after ++ rest) here second within (second_long before u first long) one legal.1)
    (legal_given whole ((before ++ unit_widths u) ++ widths_in within) rest path third after (third_long before u within first long) two legal.2))

pub flat_legal : (tree : Instances) → AreLegal tree → are_legal (flat_of_tree tree).nodes (map (λ (x : Signal). x.width) (flat_of_tree tree).signals) ≡ true
flat_legal tree legal =
    ap (are_legal (nodes_given [] 0 tree)) (widths_given [] 0 tree)
    ∙ legal_given (widths_in tree) [] [] [] 0 tree refl (sym (append-nil (widths_in tree))) legal

-- ---- clocked blocks, registers and inputs

block_legal : (first : ℕ) (whole own : List ℕ) → Holds first whole own → (st : SizedStmt) → is_legal_block own st ≡ true → is_legal_block whole (shifted_stmt first st) ≡ true
block_legal first whole own here st h =
    and_from (is_legal (shifted_stmt first st) whole) (is_clocked (shifted_stmt first st))
    (stmt_fits first whole own here st (and_left (is_legal st own) (is_clocked st) h))
    (clocked_shifted first st ∙ and_right (is_legal st own) (is_clocked st) h)

blocks_given : (whole before rest path : List ℕ) (first : ℕ) (tree : Instances) → length before ≡ first → whole ≡ before ++ (widths_in tree ++ rest)
    → AreLegal tree → Each (λ st. is_legal_block whole st ≡ true) (copied_out blocks_at path first tree)
unfolding widths_in
blocks_given whole before rest path first Nothing long is legal = tt
blocks_given whole before rest path first (One name u within after) long is legal =
    let here = path ++ name ∷ [] in
    let second = first + length u.signals in
    let third = first + length u.signals + signals_in within in
    let P = λ (st : SizedStmt). is_legal_block whole st ≡ true in
    each_append P (map (shifted_stmt first) u.clocked) _
    (each_map P (λ st. is_legal_block (unit_widths u) st ≡ true) (shifted_stmt first) u.clocked
    (block_legal first whole (unit_widths u) (holds_at whole before (unit_widths u) ((widths_in within ++ widths_in after) ++ rest) first long
    (after_own whole before (unit_widths u) (widths_in within) (widths_in after) rest is))) legal.0.blocks)
    (each_append P (copied_out blocks_at here second within) _
    (blocks_given whole (before ++ unit_widths u) (widths_in after ++ rest) here second within (second_long before u first long)
    (after_within whole before (unit_widths u) (widths_in within) (widths_in after) rest is) legal.1)
    (blocks_given whole ((before ++ unit_widths u) ++ widths_in within) rest path third after (third_long before u within first long)
    (after_all whole before (unit_widths u) (widths_in within) (widths_in after) rest is) legal.2))

pub flat_clocked : (tree : Instances) → AreLegal tree
    → Each (λ st. is_legal_block (map (λ (x : Signal). x.width) (flat_of_tree tree).signals) st ≡ true) (flat_of_tree tree).clocked
flat_clocked tree legal =
    subst (λ ws. Each (λ st. is_legal_block ws st ≡ true) (copied_out blocks_at [] 0 tree)) (sym (widths_given [] 0 tree))
    (blocks_given (widths_in tree) [] [] [] 0 tree refl (sym (append-nil (widths_in tree))) legal)

all_members : (P : ℕ → Type 0) (xs : List ℕ) → ((s : ℕ) → Member s xs → P s) → Each P xs
all_members P [] h = tt
all_members P (x ∷ xs) h = (h x (inl refl), all_members P xs (λ s m. h s (inr m)))

signals_long : (tree : Instances) → length (flat_of_tree tree).signals ≡ signals_in tree
signals_long tree =
    sym (length-map (flat_of_tree tree).signals (λ (x : Signal). x.width)) ∙ ap (λ (ws : List ℕ). length ws) (widths_given [] 0 tree) ∙ widths_long tree

pub flat_registers : (tree : Instances) → AreSound tree → Each (λ s. s < length (flat_of_tree tree).signals) (flat_of_tree tree).registers
flat_registers tree sound = all_members (λ s. s < length (flat_of_tree tree).signals) (flat_of_tree tree).registers
    (λ s m. let r = registers_range [] 0 s tree sound m in omega (arith, r.to, signals_long tree))

pub flat_inputs : (tree : Instances) → AreSound tree → Each (λ s. s < length (flat_of_tree tree).signals) (flat_of_tree tree).inputs
flat_inputs tree sound = all_members (λ s. s < length (flat_of_tree tree).signals) (flat_of_tree tree).inputs (λ s m. omega (arith, there tree sound s m, signals_long tree))
  where
    there : (tree : Instances) → AreSound tree → (s : ℕ) → Member s (top_inputs tree) → s < signals_in tree
    there Nothing sound s m = absurd m
    there (One name u within after) sound s m = omega (arith, sound.0.unit.inputs_there s m)
