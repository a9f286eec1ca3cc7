-- An attribute runs to the first `*)` behind its opening.
use Rattle.std.proofs.Common.{◌≡◌, ◌≢◌, ◌⊎◌, inl, inr, ⊎_elim, ℕ, suc, ◌+◌, Bool, true, false, true≢false, not, ◌&&◌, cond, eqb, ltb, List, [], ◌∷◌, ◌++◌, codes, length, take, drop, get_or, Some, None, refl, sym, ap, subst, ◌∙◌, arith, append_assoc, length-append, take-append-drop, drop_at}
use Rattle.std.specs.List.{prefix_len}
use Rattle.std.proofs.lemmas.Bool.{and_parts, and_from, cases_eq, lt-ltb, eqb-true, eqb-false, ne_eqb, not-true, not_from_false}
use Rattle.ls_text.specs.Bytes.{is_space, through_pair}
use Rattle.verilog_lex.specs.Forms.{Gap, Unfit}
use Rattle.verilog_lex.specs.Cuts.{opens_attribute, to_its_end, attribute_at}
use Rattle.verilog_lex.specs.Stretches.{EndsAt, Occurs, OpensAttribute, IsAttribute}
use Rattle.verilog_lex.proofs.Runs.{run_len, run_all, run_ends}

-- the pair doesn't stand in the text, with its first byte before it where that was seen
abbrev NoPair : Bool → List ℕ → Type 0
NoPair seen text = Occurs (codes "*)") (cond seen (42 ∷ text) text) → ⊥

occurs_later : (b : ℕ) (text : List ℕ) → Occurs (codes "*)") text → Occurs (codes "*)") (b ∷ text)
occurs_later b text o = (b ∷ o.0, o.1, ap (λ t. b ∷ t) o.2)

occurs_cases : (b : ℕ) (text : List ℕ) → Occurs (codes "*)") (b ∷ text)
    → ((after : List ℕ) × (b ∷ text ≡ codes "*)" ++ after)) ⊎ Occurs (codes "*)") text
occurs_cases b text o = by o.0 o.1 o.2
  where
    by : (before after : List ℕ) → b ∷ text ≡ before ++ (codes "*)" ++ after) → ((after : List ℕ) × (b ∷ text ≡ codes "*)" ++ after)) ⊎ Occurs (codes "*)") text
    by [] after e = inl (after, e)
    by (c ∷ before) after e = inr (before, after, cc)

no_pair_in_nothing : Occurs (codes "*)") [] → ⊥
no_pair_in_nothing o = by o.0 o.1 o.2
  where
    by : (before after : List ℕ) → [] ≡ before ++ (codes "*)" ++ after) → ⊥
    by [] after e = absurd cc
    by (c ∷ before) after e = absurd cc

begins : (b : ℕ) (text : List ℕ) → ((after : List ℕ) × (b ∷ text ≡ codes "*)" ++ after)) ⊎ ((after : List ℕ) → b ∷ text ≡ codes "*)" ++ after → ⊥)
begins b [] = inr (λ after e. absurd cc)
begins b (c ∷ text) = by (cases_eq b 42) (cases_eq c 41)
  where
    by : (b ≡ 42) ⊎ (b ≡ 42 → ⊥) → (c ≡ 41) ⊎ (c ≡ 41 → ⊥)
        → ((after : List ℕ) × (b ∷ c ∷ text ≡ codes "*)" ++ after)) ⊎ ((after : List ℕ) → b ∷ c ∷ text ≡ codes "*)" ++ after → ⊥)
    by (inl first) (inl second) = inl (text, cc)
    by (inl first) (inr apart) = inr (λ after e. apart cc)
    by (inr apart) second = inr (λ after e. apart cc)

-- what stands before the first pair, and what behind it; or there is none
pub first_pair : (text : List ℕ) → ((inside : List ℕ) × (rest : List ℕ) × (text ≡ inside ++ (codes "*)" ++ rest)) × (Occurs (codes "*)") inside → ⊥))
    ⊎ (Occurs (codes "*)") text → ⊥)
first_pair [] = inr no_pair_in_nothing
first_pair (b ∷ text) = by (begins b text) (first_pair text)
  where
    First : List ℕ → Type 0
    First t = (inside : List ℕ) × (rest : List ℕ) × (t ≡ inside ++ (codes "*)" ++ rest)) × (Occurs (codes "*)") inside → ⊥)

    still : ((after : List ℕ) → b ∷ text ≡ codes "*)" ++ after → ⊥) → (inside rest : List ℕ) → text ≡ inside ++ (codes "*)" ++ rest)
        → (Occurs (codes "*)") inside → ⊥) → Occurs (codes "*)") (b ∷ inside) → ⊥
    still apart inside rest e none o =
        ⊎_elim (λ (f : (after : List ℕ) × (b ∷ inside ≡ codes "*)" ++ after)). apart (f.0 ++ (codes "*)" ++ rest)) (ap (λ t. b ∷ t) e ∙ ap (λ t. t ++ (codes "*)" ++ rest)) f.1)) none (occurs_cases b inside o)

    by : ((after : List ℕ) × (b ∷ text ≡ codes "*)" ++ after)) ⊎ ((after : List ℕ) → b ∷ text ≡ codes "*)" ++ after → ⊥)
        → First text ⊎ (Occurs (codes "*)") text → ⊥) → First (b ∷ text) ⊎ (Occurs (codes "*)") (b ∷ text) → ⊥)
    by (inl f) later = inl ([], f.0, f.1, no_pair_in_nothing)
    by (inr apart) (inl f) = inl (b ∷ f.0, f.1, ap (λ t. b ∷ t) f.2, still apart f.0 f.1 f.2 f.3)
    by (inr apart) (inr none) = inr (λ o. ⊎_elim (λ (f : (after : List ℕ) × (b ∷ text ≡ codes "*)" ++ after)). apart f.0 f.1) none (occurs_cases b text o))

not_met : (seen : Bool) (b : ℕ) (text : List ℕ) → NoPair seen (b ∷ text) → (seen && eqb b 41) ≡ false
not_met false b text none = refl
not_met true b text none = ne_eqb b 41 (λ e. none ([], text, ap (λ c. 42 ∷ c ∷ text) e))

not_later : (seen : Bool) (b : ℕ) (text : List ℕ) → NoPair seen (b ∷ text) → NoPair (eqb b 42) text
not_later seen b text none = by (eqb b 42) refl
  where
    widen : (seen : Bool) → Occurs (codes "*)") (b ∷ text) → Occurs (codes "*)") (cond seen (42 ∷ b ∷ text) (b ∷ text))
    widen true o = occurs_later 42 (b ∷ text) o
    widen false o = o

    by : (t : Bool) → eqb b 42 ≡ t → NoPair t text
    by true is o = none (widen seen (subst (λ c. Occurs (codes "*)") (c ∷ text)) (sym (eqb-true b 42 is)) o))
    by false is o = none (widen seen (occurs_later b text o))

through_first : (seen : Bool) (n : ℕ) (inside rest : List ℕ) → NoPair seen inside
    → through_pair 42 41 seen n (inside ++ (codes "*)" ++ rest)) ≡ Some (n + (length inside + 2))
through_first true n [] rest none = ap Some (omega arith)
through_first false n [] rest none = ap Some (omega arith)
through_first seen n (b ∷ inside) rest none =
    ap (λ t. cond t (Some (n + 1)) (through_pair 42 41 (eqb b 42) (n + 1) (inside ++ (codes "*)" ++ rest)))) (not_met seen b inside none)
    ∙ through_first (eqb b 42) (n + 1) inside rest (not_later seen b inside none)
    ∙ ap Some (let same : n + 1 + (length inside + 2) ≡ n + (suc (length inside) + 2) = omega arith in same)

through_none : (seen : Bool) (n : ℕ) (text : List ℕ) → NoPair seen text → through_pair 42 41 seen n text ≡ None
through_none seen n [] none = refl
through_none seen n (b ∷ text) none =
    ap (λ t. cond t (Some (n + 1)) (through_pair 42 41 (eqb b 42) (n + 1) text)) (not_met seen b text none)
    ∙ through_none (eqb b 42) (n + 1) text (not_later seen b text none)

pub opens_from : (text : List ℕ) → OpensAttribute text → opens_attribute text ≡ true
unfolding opens_attribute
opens_from text o = subst (λ t. opens_attribute t ≡ true) (sym o.spelled) (there o.gap o.next o.after (run_len is_space o.gap (o.next ∷ o.after) o.spaces o.visible) o.other)
  where
    there : (gap : List ℕ) (next : ℕ) (after : List ℕ) → prefix_len is_space (gap ++ next ∷ after) ≡ length gap → next ≢ 41 → opens_attribute (codes "(*" ++ (gap ++ next ∷ after)) ≡ true
    there gap next after len other =
        let behind : drop (prefix_len is_space (gap ++ next ∷ after)) (gap ++ next ∷ after) ≡ next ∷ after =
        ap (λ n. drop n (gap ++ next ∷ after)) len ∙ drop_at gap (next ∷ after) (length gap) refl in
        ap (λ l. ltb 0 (length l) && not (eqb (get_or l 0 0) 41)) behind
        ∙ and_from _ _ (lt-ltb 0 (suc (length after)) (omega arith)) (not_from_false _ (ne_eqb next 41 other))

pub opens_to : (text : List ℕ) → opens_attribute text ≡ true → OpensAttribute text
unfolding opens_attribute
opens_to [] is = absurd (true≢false (sym is))
opens_to (b ∷ []) is = absurd (true≢false (sym (and_parts (eqb b 40) false is).1))
opens_to (b ∷ c ∷ text) is =
    let first : (eqb b 40 ≡ true) × _ = and_parts (eqb b 40) _ is in
    let second : (eqb c 42 ≡ true) × _ = and_parts (eqb c 42) _ first.1 in
    by (drop (prefix_len is_space text) text) refl (run_ends is_space text) (eqb-true b 40 first.0) (eqb-true c 42 second.0) second.1
  where
    by : (next : List ℕ) → drop (prefix_len is_space text) text ≡ next → EndsAt is_space next → b ≡ 40 → c ≡ 42
        → (ltb 0 (length next) && not (eqb (get_or next 0 0) 41)) ≡ true → OpensAttribute (b ∷ c ∷ text)
    by [] behind ends first second more = absurd (true≢false (sym more))
    by (next ∷ after) behind ends first second more =
        let parts : _ × (not (eqb next 41) ≡ true) = and_parts _ (not (eqb next 41)) more in
        record {
          gap = take (prefix_len is_space text) text;
          next = next;
          after = after;
          spelled = ap (λ x. x ∷ c ∷ text) first ∙ ap (λ x. 40 ∷ x ∷ text) second
              ∙ ap (λ t. 40 ∷ 42 ∷ t) (sym (take-append-drop (prefix_len is_space text) text) ∙ ap (λ t. take (prefix_len is_space text) text ++ t) behind);
          spaces = run_all is_space text;
          visible = ends;
          other = eqb-false next 41 (not-true _ parts.1);
        }

pub attribute_cut : (bytes rest : List ℕ) → IsAttribute bytes rest → attribute_at (bytes ++ rest) ≡ (Gap, length bytes)
unfolding attribute_at
attribute_cut bytes rest a =
    ap (λ bs. to_its_end (through_pair 42 41 false 0 (drop 2 (bs ++ rest)))) a.spelled
    ∙ ap (λ t. to_its_end (through_pair 42 41 false 0 t)) (append_assoc a.inside (codes "*)") rest)
    ∙ ap to_its_end (through_first false 0 a.inside rest a.first)
    ∙ ap (λ n. (Gap, n)) (count (length bytes) (length (a.inside ++ codes "*)")) (length a.inside) (ap length a.spelled) (length-append a.inside (codes "*)")))
  where
    count : (n m k : ℕ) → n ≡ suc (suc m) → m ≡ k + 2 → 2 + (0 + (k + 2)) ≡ n
    count n m k whole part = omega (arith, whole, part)

-- where a text opens an attribute, it has it, or its first byte begins no token
pub attribute_or : (text : List ℕ) → OpensAttribute text
    → ((bytes : List ℕ) × (rest : List ℕ) × (text ≡ bytes ++ rest) × IsAttribute bytes rest) ⊎ (attribute_at text ≡ (Unfit, 1))
unfolding attribute_at
attribute_or text o = by (first_pair (o.gap ++ o.next ∷ o.after))
  where
    Inside : Type 0
    Inside = (inside : List ℕ) × (rest : List ℕ) × (o.gap ++ o.next ∷ o.after ≡ inside ++ (codes "*)" ++ rest)) × (Occurs (codes "*)") inside → ⊥)

    by : Inside ⊎ (Occurs (codes "*)") (o.gap ++ o.next ∷ o.after) → ⊥)
        → ((bytes : List ℕ) × (rest : List ℕ) × (text ≡ bytes ++ rest) × IsAttribute bytes rest) ⊎ (attribute_at text ≡ (Unfit, 1))
    by (inl f) =
        let bytes : List ℕ = codes "(*" ++ (f.0 ++ codes "*)") in
        let whole : text ≡ bytes ++ f.1 = o.spelled ∙ ap (λ t. codes "(*" ++ t) (f.2 ∙ sym (append_assoc f.0 (codes "*)") f.1)) in
        inl (bytes, f.1, whole, record { opens = subst OpensAttribute whole o; inside = f.0; spelled = refl; first = f.3 })
    by (inr none) =
        inr (ap (λ t. to_its_end (through_pair 42 41 false 0 (drop 2 t))) o.spelled ∙ ap to_its_end (through_none false 0 (o.gap ++ o.next ∷ o.after) none))
