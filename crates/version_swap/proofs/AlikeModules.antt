-- Tokens that say the same stand for the same modules, by the names of one table, with the same spellings; and what leaves the names of the table
-- as they are leaves the modules as they are.
use Rattle.std.proofs.Common.{◌≡◌, ◌≢◌, ◌∙◌, ℕ, ◌+◌, ◌<◌, suc, List, [], ◌∷◌, ◌++◌, All, length, map, refl, sym, ap, ap₂, arith}
use Rattle.std.proofs.lemmas.List.{length-append, length-map, map-append}
use Rattle.std.proofs.lemmas.List.Elements.{All-head, All-tail}
use Rattle.ls_text.specs.declared.name_id.NameId.{NameId}
use Rattle.ls_text.specs.Texts.{Grows, text_at}
use Rattle.ls_text.proofs.Growth.{grown_id, grown_text, grows_on}
use Rattle.ls_text.proofs.Tables.{same_id}
use Rattle.ls_text.proofs.Lists.{same_first, same_others}
use Rattle.verilog_lex.specs.declared.kind.Kind.{Kind}
use Rattle.verilog_lex.specs.declared.kind.Kind.TheVariants as k
use Rattle.verilog_lex.specs.declared.literal.Literal.{Literal}
use Rattle.verilog_lex.specs.declared.token.Token.{Token}
use Rattle.verilog_lex.specs.Tokens.{Said}
use Rattle.verilog_lex.specs.Views.{said, IsNamed}
use Rattle.verilog_ast.specs.declared.module.Module.{Module}
use Rattle.verilog_ast.specs.Items.{ModuleDeclaration}
use Rattle.verilog_ast.specs.NamesWithin.{names_in_declaration}
use Rattle.verilog_ast.specs.Renaming.{declaration_as}
use Rattle.verilog_ast.specs.Views.{declarations_of}
use Rattle.verilog_expr.specs.Renamed.{retoken, retokens}
use Rattle.verilog_expr.proofs.OneToken.{no_kind}
use Rattle.verilog_expr.proofs.RenamedTokens.{at_next}
use Rattle.verilog_spelling.specs.Spellings.{number_text, pattern_text, text_of_kind, token_text, spaced, spelling}
use Rattle.verilog_parse.specs.Files.{SpellsAll, no_module, another_module, Stands}
use Rattle.verilog_parse.proofs.OneModule.{one_module}
use Rattle.verilog_parse.proofs.RenamedModule.{module_so}
use Rattle.verilog_parse.proofs.RenamedText.{same_declarations}
use Rattle.version_swap.proofs.FixedNames.{AreFixed, fixed_declaration}
use Rattle.version_swap.proofs.JointTable.{Joint}

-- ---- names that stay what they are

abbrev pub itself : NameId → NameId
itself n = n

free : (ns : List NameId) → AreFixed itself ns
free [] = tt
free (n ∷ ns) = (refl, free ns)

all_itself : (ds : List ModuleDeclaration) → map (declaration_as itself) ds ≡ ds
all_itself [] = refl
all_itself (d ∷ ds) =
    ap₂ (λ (e : ModuleDeclaration) (es : List ModuleDeclaration). e ∷ es) (fixed_declaration itself d (free (names_in_declaration d)))
    (all_itself ds)

-- the numbers of a table stay
abbrev pub Stay : ℕ → (NameId → NameId) → Type 0
Stay count f = (n : NameId) → n.0 < count → f n ≡ n

token_stays : (count : ℕ) (f : NameId → NameId) (t : Token) → Stay count f → IsNamed count t → retoken f t ≡ retoken itself t
token_stays count f t stay named =
    ap (λ (n : NameId). record { kind = t.kind; at = t.at; text = n; literal = t.literal }) (stay t.text named)

tokens_stay : (count : ℕ) (f : NameId → NameId) (s : List Token) → Stay count f → All (IsNamed count) s → retokens f s ≡ retokens itself s
tokens_stay count f [] stay named = refl
tokens_stay count f (t ∷ s) stay named =
    ap₂ (λ (u : Token) (us : List Token). u ∷ us) (token_stays count f t stay (All-head (IsNamed count) t s named))
    (tokens_stay count f s stay (All-tail (IsNamed count) t s named))

pub modules_stay : (names : List (List ℕ)) (f : NameId → NameId) (ms : List Module) (s : List Token) → Stay (length names) f
    → All (IsNamed (length names)) s → Stands names ms s → map (declaration_as f) (declarations_of ms) ≡ declarations_of ms
modules_stay names f ms s stay named stands =
    same_declarations f itself names names ms ms s s (tokens_stay (length names) f s stay named) stands stands ∙ all_itself (declarations_of ms)

-- ---- spellings

abbrev told_kind : Kind → List ℕ → Literal → List ℕ
told_kind k.Number text l = number_text l
told_kind k.Wild text l = pattern_text l
told_kind _ text l = text

abbrev told_text : Said → List ℕ
told_text w = told_kind w.kind w.text w.literal

told_so : (kind : Kind) (names : List (List ℕ)) (t : Token) → text_of_kind kind names t ≡ told_kind kind (text_at names t.text.0) t.literal
told_so k.Number names t = refl
told_so k.Wild names t = refl
told_so _ names t = refl

token_alike : (names other : List (List ℕ)) (t u : Token) → said names t ≡ said other u → token_text names t ≡ token_text other u
token_alike names other t u same = told_so t.kind names t ∙ ap told_text same ∙ sym (told_so u.kind other u)

spaced_alike : (names other : List (List ℕ)) (s q : List Token) → map (said names) s ≡ map (said other) q → spaced names s ≡ spaced other q
spaced_alike names other [] [] same = refl
spaced_alike names other [] (u ∷ q) same = absurd cc
spaced_alike names other (t ∷ s) [] same = absurd cc
spaced_alike names other (t ∷ s) (u ∷ q) same =
    ap₂ (λ (x y : List ℕ). 32 ∷ (x ++ y))
    (token_alike names other t u (same_first (said names t) (said other u) (map (said names) s) (map (said other) q) same))
    (spaced_alike names other s q (same_others (said names t) (said other u) (map (said names) s) (map (said other) q) same))

spelling_alike : (names other : List (List ℕ)) (s q : List Token) → map (said names) s ≡ map (said other) q → spelling names s ≡ spelling other q
spelling_alike names other [] [] same = refl
spelling_alike names other [] (u ∷ q) same = absurd cc
spelling_alike names other (t ∷ s) [] same = absurd cc
spelling_alike names other (t ∷ s) (u ∷ q) same =
    ap₂ (λ (x y : List ℕ). x ++ y)
    (token_alike names other t u (same_first (said names t) (said other u) (map (said names) s) (map (said other) q) same))
    (spaced_alike names other s q (same_others (said names t) (said other u) (map (said names) s) (map (said other) q) same))

-- two cuts of one list, as long behind
cut_alike : {A : Type 0} (xs ys zs ws : List A) → (xs ++ zs) ≡ (ys ++ ws) → length zs ≡ length ws → (xs ≡ ys) × (zs ≡ ws)
cut_alike [] [] zs ws same long = (refl, same)
cut_alike [] (y ∷ ys) zs ws same long =
    let count : length zs ≡ suc (length ys + length ws) = ap length same ∙ ap suc (length-append ys ws) in
    absurd (omega (arith, long, count))
cut_alike (x ∷ xs) [] zs ws same long =
    let count : suc (length xs + length zs) ≡ length ws = ap suc (sym (length-append xs zs)) ∙ ap length same in
    absurd (omega (arith, long, count))
cut_alike {A} (x ∷ xs) (y ∷ ys) zs ws same long =
    let rest = cut_alike xs ys zs ws (same_others x y (xs ++ zs) (ys ++ ws) same) long in
    (ap₂ (λ (z : A) (more : List A). z ∷ more) (same_first x y (xs ++ zs) (ys ++ ws) same) rest.0, rest.1)

abbrev pub spelling_of : Module → List ℕ
spelling_of m = m.spelling

module _ (f g : NameId → NameId) (names other : List (List ℕ)) where
  as_long : (s q : List Token) → retokens f s ≡ retokens g q → length (map (said names) s) ≡ length (map (said other) q)
  as_long s q same =
      length-map s (said names) ∙ sym (length-map s (retoken f)) ∙ ap length same ∙ length-map q (retoken g) ∙ sym (length-map q (said other))

  all_spelled : {xs ys : List Module} {s r q p : List Token} → SpellsAll names xs s r → SpellsAll other ys q p → retokens f s ≡ retokens g q
      → map (said names) s ≡ map (said other) q → map spelling_of xs ≡ map spelling_of ys
  all_spelled (no_module none) (no_module also) same told = refl
  all_spelled (no_module {s = s} none) (another_module {s = q} is y ys) same told =
      no_kind (sym (at_next g q (λ (kind : Kind). k.Module ≡ kind) is)) (at_next f s (λ (kind : Kind). kind ≢ k.Module) none) (sym same)
  all_spelled (another_module {s = s} is x xs) (no_module {s = q} none) same told =
      no_kind (sym (at_next f s (λ (kind : Kind). k.Module ≡ kind) is)) (at_next g q (λ (kind : Kind). kind ≢ k.Module) none) same
  all_spelled (another_module {a = a} is x xs) (another_module {a = b} also y ys) same told =
      let behind = (one_module (module_so f x.tree) (module_so g y.tree) same).1 in
      let cut = cut_alike (map (said names) x.own) (map (said other) y.own) (map (said names) a) (map (said other) b)
      (sym (map-append (said names) x.own a) ∙ ap (map (said names)) (sym x.cut) ∙ told ∙ ap (map (said other)) y.cut
      ∙ map-append (said other) y.own b)
      (as_long a b behind) in
      ap₂ (λ (t : List ℕ) (ts : List (List ℕ)). t ∷ ts) (x.text ∙ spelling_alike names other x.own y.own cut.0 ∙ sym y.text)
      (all_spelled xs ys behind cut.1)

-- ---- two readings of one text

module _ {names others : List (List ℕ)} (j : Joint names others) (old new : List (List ℕ)) (left : Grows old names)
    (right : Grows new others) where
  pub name_same : (m n : NameId) → m.0 < length old → n.0 < length new → text_at old m.0 ≡ text_at new n.0 → m ≡ j.name n
  name_same m n here there same =
      let grown = grows_on old names j.table left j.grows in
      same_id m (j.name n)
      (j.once m.0 (j.name n).0 (grown_id old j.table m.0 grown here) (j.within n (grown_id new others n.0 right there))
      (grown_text old j.table m.0 grown here ∙ same ∙ sym (grown_text new others n.0 right there) ∙ sym (j.spells n)))

  token_same : (t u : Token) → IsNamed (length old) t → IsNamed (length new) u → said old t ≡ said new u → retoken itself t ≡ retoken j.name u
  token_same t u here there same =
      let kind : t.kind ≡ u.kind = ap (λ (w : Said). w.kind) same in
      let at : t.at ≡ u.at = ap (λ (w : Said). w.at) same in
      let literal : t.literal ≡ u.literal = ap (λ (w : Said). w.literal) same in
      let text : t.text ≡ j.name u.text = name_same t.text u.text here there (ap (λ (w : Said). w.text) same) in
      λ i. record { kind = kind i; at = at i; text = text i; literal = literal i }

  pub tokens_same : (s q : List Token) → All (IsNamed (length old)) s → All (IsNamed (length new)) q → map (said old) s ≡ map (said new) q
      → retokens itself s ≡ retokens j.name q
  tokens_same [] [] here there same = refl
  tokens_same [] (u ∷ q) here there same = absurd cc
  tokens_same (t ∷ s) [] here there same = absurd cc
  tokens_same (t ∷ s) (u ∷ q) here there same =
      let first = same_first (said old t) (said new u) (map (said old) s) (map (said new) q) same in
      let rest = same_others (said old t) (said new u) (map (said old) s) (map (said new) q) same in
      ap₂ (λ (v : Token) (vs : List Token). v ∷ vs)
      (token_same t u (All-head (IsNamed (length old)) t s here) (All-head (IsNamed (length new)) u q there) first)
      (tokens_same s q (All-tail (IsNamed (length old)) t s here) (All-tail (IsNamed (length new)) u q there) rest)

  pub declarations_same : (ms ns : List Module) (s q : List Token) → All (IsNamed (length old)) s → All (IsNamed (length new)) q
      → map (said old) s ≡ map (said new) q → Stands old ms s → Stands new ns q
      → declarations_of ms ≡ map (declaration_as j.name) (declarations_of ns)
  declarations_same ms ns s q here there same stands also =
      sym (all_itself (declarations_of ms))
      ∙ same_declarations itself j.name old new ms ns s q (tokens_same s q here there same) stands also

  pub spellings_same : (ms ns : List Module) (s q : List Token) → All (IsNamed (length old)) s → All (IsNamed (length new)) q
      → map (said old) s ≡ map (said new) q → Stands old ms s → Stands new ns q → map spelling_of ms ≡ map spelling_of ns
  spellings_same ms ns s q here there same stands also =
      all_spelled itself j.name old new stands.tree also.tree (tokens_same s q here there same) same
