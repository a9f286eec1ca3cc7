-- The rest of a file is passed head by head.
use Rattle.std.proofs.Common.{◌≡◌, ℕ, zero, suc, ◌+◌, ◌-◌, ◌<◌, ◌≤◌, false, cond, ltb, List, [], ◌∷◌, length, drop, refl, sym, ap, ◌∙◌, arith}
use Rattle.std.proofs.lemmas.Bool.{lt-ltb}
use Rattle.std.proofs.lemmas.List.{length-drop}
use Rattle.verilog_pre.specs.Heads.{head_of, passed, stays_from, stays_open}

skips : (depth k : ℕ) (bs : List ℕ) → stays_from depth k bs ≡ stays_from depth 0 (drop k bs)
skips depth zero bs = refl
skips depth (suc k) [] = refl
skips depth (suc k) (b ∷ bs) = skips depth k bs

-- behind a head it goes on with the rest
pub stays_on : (depth next : ℕ) (text rest : List ℕ) (n : ℕ) → 0 < length text → 0 < depth → 0 < n → passed depth text (head_of text) ≡ (next, n)
    → rest ≡ drop n text → stays_open depth text ≡ stays_open next rest
unfolding stays_open
stays_on depth next [] rest n some open_ more is behind = absurd (omega arith)
stays_on depth next (b ∷ bs) rest zero some open_ more is behind = absurd (omega arith)
stays_on depth next (b ∷ bs) rest (suc k) some open_ more is behind =
    ap (λ t. cond t (stays_from (passed depth (b ∷ bs) (head_of (b ∷ bs))).0 ((passed depth (b ∷ bs) (head_of (b ∷ bs))).1 - 1) bs) false) (lt-ltb 0 depth open_)
    ∙ ap (λ p. stays_from p.0 (p.1 - 1) bs) is
    ∙ ap (λ j. stays_from next j bs) (let same : suc k - 1 ≡ k = omega arith in same)
    ∙ skips next k bs
    ∙ ap (stays_from next 0) (sym behind)

-- where none is open none stays open
pub none_stays : (depth : ℕ) (text : List ℕ) → depth ≡ 0 → stays_open depth text ≡ false
unfolding stays_open
none_stays depth text none = ap (λ d. stays_from d 0 text) none ∙ shut text
  where
    shut : (text : List ℕ) → stays_from 0 0 text ≡ false
    shut [] = refl
    shut (b ∷ bs) = refl

-- at the end all that are open stay open
pub stays_at_end : (depth : ℕ) → stays_open depth [] ≡ ltb 0 depth
unfolding stays_open
stays_at_end depth = refl

pub behind_size : (n : ℕ) (text rest : List ℕ) → rest ≡ drop n text → n ≤ length text → length rest + n ≡ length text
behind_size n text rest behind within =
    let size : length rest ≡ length (drop n text) = ap length behind in
    let left : length (drop n text) ≡ length text - n = length-drop n text in
    omega (arith, size, left, within)
