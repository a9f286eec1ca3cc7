-- Lexemes have one list of groups, and their tokens are those of the groups.
use Rattle.std.proofs.Common.{◌≡◌, ◌≤◌, ℕ, zero, suc, Bool, List, [], ◌∷◌, length, Option, Some, None, Result, refl, sym, ap, subst, ◌∙◌, arith}
use Rattle.std.proofs.lemmas.Option.{none-some}
use Rattle.ls_text.specs.Readings.{TextFault, ◌>>=◌}
use Rattle.verilog_lex.specs.Forms.{Form, Gap, Letters, Digits, Part, Sign, Unfit, part_of}
use Rattle.verilog_lex.specs.Lexemes.{Lexeme}
use Rattle.verilog_lex.specs.Tokens.{Said, first_part, token_at, taken, with_front, tokens_from, lexeme_tokens}
use Rattle.verilog_lex.specs.Groups.{Group, IsDecimal, IsGroup, Groups, group_tokens}

abbrev PartOf : Type 0
PartOf = Bool × ℕ × List ℕ

abbrev token_then : Lexeme → Option PartOf → Result (List Said) TextFault → Result (List Said) TextFault
token_then l part rest = token_at l.at l.form part >>= λ t. with_front (t ∷ []) rest

-- a lexeme that takes no based part
alone : (l : Lexeme) (part : Option PartOf) (rest : List Lexeme) → (IsDecimal l.form → part ≡ None)
    → token_then l part (tokens_from (taken l.form part) rest) ≡ token_then l None (tokens_from 0 rest)
alone l part rest none = by l.form none
  where
    by : (form : Form) → (IsDecimal form → part ≡ None)
        → (token_at l.at form part >>= λ t. with_front (t ∷ []) (tokens_from (taken form part) rest)) ≡ (token_at l.at form None >>= λ t. with_front (t ∷ []) (tokens_from 0 rest))
    by Gap none = refl
    by (Letters text) none = refl
    by (Digits digits) none = ap (λ o. token_at l.at (Digits digits) o >>= λ t. with_front (t ∷ []) (tokens_from (taken (Digits digits) o) rest)) (none (digits, refl))
    by (Part own) none = refl
    by (Sign kind text) none = refl
    by Unfit none = refl

-- a plain decimal that takes the based part behind it
joined : (l next : Lexeme) (part : PartOf) (rest : List Lexeme) → IsDecimal l.form → next.form ≡ Part part
    → tokens_from 0 (l ∷ next ∷ rest) ≡ token_then l (Some part) (tokens_from 0 rest)
joined l next part rest decimal is =
    ap (λ o. token_then l o (tokens_from (taken l.form o) (next ∷ rest))) (ap part_of is)
    ∙ ap (λ f. token_then l (Some part) (tokens_from (taken f (Some part)) (next ∷ rest))) decimal.1

pub group_lexemes : (ls : List Lexeme) (gs : List Group) → Groups ls gs → lexeme_tokens ls ≡ group_tokens gs
unfolding lexeme_tokens
group_lexemes ls [] is = ap (tokens_from 0) is
group_lexemes ls (g ∷ gs) is = by g.part is.1 ∙ ap (token_then g.lexeme g.part) (group_lexemes is.0 gs is.2)
  where
    by : (part : Option PartOf) → IsGroup g.lexeme part ls is.0 → tokens_from 0 ls ≡ token_then g.lexeme part (tokens_from 0 is.0)
    by None group = ap (tokens_from 0) group.0 ∙ alone g.lexeme (first_part is.0) is.0 group.1
    by (Some part) group = ap (tokens_from 0) group.1 ∙ joined g.lexeme group.0 part is.0 group.2 group.3

part_is : (form : Form) (part : PartOf) → part_of form ≡ Some part → form ≡ Part part
part_is Gap part is = absurd (none-some part is)
part_is (Letters text) part is = absurd (none-some part is)
part_is (Digits digits) part is = absurd (none-some part is)
part_is (Part own) part is = cc
part_is (Sign kind text) part is = absurd (none-some part is)
part_is Unfit part is = absurd (none-some part is)

abbrev Here : Lexeme → List Lexeme → Type 0
Here l ls = (part : Option PartOf) × (rest : List Lexeme) × IsGroup l part (l ∷ ls) rest × (length rest ≤ length ls)

group_here : (l : Lexeme) (ls : List Lexeme) → Here l ls
group_here l ls = by l.form refl (first_part ls) refl
  where
    single : (IsDecimal l.form → first_part ls ≡ None) → Here l ls
    single none = (None, ls, (refl, none), omega arith)

    other : (form : Form) → l.form ≡ form → (IsDecimal form → ⊥) → Here l ls
    other form is apart = single (λ d. absurd (apart (d.0, sym is ∙ d.1)))

    joins : (ls : List Lexeme) (digits : List ℕ) (part : PartOf) → l.form ≡ Digits digits → first_part ls ≡ Some part → Here l ls
    joins [] digits part is behind = absurd (none-some part behind)
    joins (next ∷ rest) digits part is behind =
        (Some part, rest, (next, refl, (digits, is), part_is next.form part behind), omega arith)

    by : (form : Form) → l.form ≡ form → (behind : Option PartOf) → first_part ls ≡ behind → Here l ls
    by (Digits digits) is (Some part) behind = joins ls digits part is behind
    by (Digits digits) is None behind = single (λ d. behind)
    by Gap is o behind = other Gap is (λ d. absurd cc)
    by (Letters text) is o behind = other (Letters text) is (λ d. absurd cc)
    by (Part own) is o behind = other (Part own) is (λ d. absurd cc)
    by (Sign kind text) is o behind = other (Sign kind text) is (λ d. absurd cc)
    by Unfit is o behind = other Unfit is (λ d. absurd cc)

-- lexemes have their groups
pub has_groups : (ls : List Lexeme) → (gs : List Group) × Groups ls gs
has_groups ls = within (length ls) ls (omega arith)
  where
    within : (n : ℕ) (ls : List Lexeme) → length ls ≤ n → (gs : List Group) × Groups ls gs
    within n [] most = ([], refl)
    within zero (l ∷ ls) most = absurd (omega (arith, most))
    within (suc n) (l ∷ ls) most =
        let here : Here l ls = group_here l ls in
        let fewer : length here.1 ≤ length ls = here.3 in
        let later : (gs : List Group) × Groups here.1 gs = within n here.1 (omega (arith, most, fewer)) in
        (record { lexeme = l; part = here.0 } ∷ later.0, (here.1, here.2, later.1))

-- and only these
group_only : (l m : Lexeme) (p q : Option PartOf) (ls xs ys : List Lexeme) → IsGroup l p ls xs → IsGroup m q ls ys → (l ≡ m) × (p ≡ q) × (xs ≡ ys)
group_only l m None None ls xs ys is are = let same : l ∷ xs ≡ m ∷ ys = sym is.0 ∙ are.0 in (cc, refl, cc)
group_only l m (Some p) (Some q) ls xs ys is are =
    let same : l ∷ is.0 ∷ xs ≡ m ∷ are.0 ∷ ys = sym is.1 ∙ are.1 in
    let next : is.0 ≡ are.0 = cc in
    let parts : Part p ≡ Part q = sym is.3 ∙ ap (λ (x : Lexeme). x.form) next ∙ are.3 in
    (cc, cc, cc)
group_only l m (Some p) None ls xs ys is are =
    let same : l ∷ is.0 ∷ xs ≡ m ∷ ys = sym is.1 ∙ are.0 in
    let first : m ≡ l = cc in
    let rest : ys ≡ is.0 ∷ xs = cc in
    let none : first_part ys ≡ None = are.1 (is.2.0, ap (λ (x : Lexeme). x.form) first ∙ is.2.1) in
    absurd (none-some p (sym none ∙ ap first_part rest ∙ ap part_of is.3))
group_only l m None (Some q) ls xs ys is are =
    let same : m ∷ are.0 ∷ ys ≡ l ∷ xs = sym are.1 ∙ is.0 in
    let first : l ≡ m = cc in
    let rest : xs ≡ are.0 ∷ ys = cc in
    let none : first_part xs ≡ None = is.1 (are.2.0, ap (λ (x : Lexeme). x.form) first ∙ are.2.1) in
    absurd (none-some q (sym none ∙ ap first_part rest ∙ ap part_of are.3))

no_group : (l : Lexeme) (p : Option PartOf) (ls xs : List Lexeme) → ls ≡ [] → IsGroup l p ls xs → ⊥
no_group l None ls xs none is = let some : [] ≡ l ∷ xs = sym none ∙ is.0 in absurd cc
no_group l (Some p) ls xs none is = let some : [] ≡ l ∷ is.0 ∷ xs = sym none ∙ is.1 in absurd cc

pub only_groups : (ls : List Lexeme) (gs hs : List Group) → Groups ls gs → Groups ls hs → gs ≡ hs
only_groups ls [] [] is are = refl
only_groups ls [] (h ∷ hs) is are = absurd (no_group h.lexeme h.part ls are.0 is are.1)
only_groups ls (g ∷ gs) [] is are = absurd (no_group g.lexeme g.part ls is.0 are is.1)
only_groups ls (g ∷ gs) (h ∷ hs) is are =
    let same : (g.lexeme ≡ h.lexeme) × (g.part ≡ h.part) × (is.0 ≡ are.0) = group_only g.lexeme h.lexeme g.part h.part ls is.0 are.0 is.1 are.1 in
    let first : g ≡ h = ap (λ l. record { lexeme = l; part = g.part }) same.0 ∙ ap (λ p. record { lexeme = h.lexeme; part = p }) same.1 in
    ap (λ x. x ∷ gs) first ∙ ap (λ xs. h ∷ xs) (only_groups is.0 gs hs is.2 (subst (λ r. Groups r hs) (sym same.2) are.2))
