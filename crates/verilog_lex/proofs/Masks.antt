-- The bits that wildcard digits cover, modulo a number.
use Rattle.std.proofs.Common.{◌≡◌, ◌<◌, ℕ, suc, ◌+◌, ◌*◌, ◌%◌, ◌/◌, Bool, true, false, cond, eqb, List, [], ◌∷◌, length, drop, get_or, refl, sym, ap, ◌∙◌, arith, drop-cons}
use Rattle.std.proofs.Math.Nat.{add-mul, mul_assoc, mod-add-div, mod-add-mod, mod-mod, add-mul-mod_self_left}
use Rattle.verilog_lex.specs.Numbers.{covered, covered_from}

pub added : (w a d : ℕ) → (a % w + d) % w ≡ (a + d) % w
added w a d = mod-add-mod a w d

times : (w n r d : ℕ) → (n % w * r + d) % w ≡ (n * r + d) % w
times w n r d =
    let split : n * r ≡ n % w * r + w * (n / w * r) =
    ap (λ x. x * r) (sym (mod-add-div n w)) ∙ add-mul (n % w) (w * (n / w)) r ∙ ap (λ x. n % w * r + x) (mul_assoc w (n / w) r) in
    let same : n * r + d ≡ n % w * r + d + w * (n / w * r) = omega (arith, split) in
    sym (ap (λ x. x % w) same ∙ add-mul-mod_self_left (n % w * r + d) w (n / w * r))

same_mod : (w radix n m : ℕ) (cs : List ℕ) → n % w ≡ m % w → covered_from radix n cs % w ≡ covered_from radix m cs % w
same_mod w radix n m [] is = is
same_mod w radix n m (c ∷ cs) is =
    at (eqb c 95) (same_mod w radix n m cs is) (same_mod w radix (n * radix + covered radix c) (m * radix + covered radix c) cs next)
  where
    next : (n * radix + covered radix c) % w ≡ (m * radix + covered radix c) % w
    next = sym (times w n radix (covered radix c)) ∙ ap (λ x. (x * radix + covered radix c) % w) is ∙ times w m radix (covered radix c)

    at : (t : Bool) → covered_from radix n cs % w ≡ covered_from radix m cs % w
        → covered_from radix (n * radix + covered radix c) cs % w ≡ covered_from radix (m * radix + covered radix c) cs % w
        → cond t (covered_from radix n cs) (covered_from radix (n * radix + covered radix c) cs) % w
        ≡ cond t (covered_from radix m cs) (covered_from radix (m * radix + covered radix c) cs) % w
    at true same more = same
    at false same more = more

one_more : (w radix n c : ℕ) (cs : List ℕ)
    → covered_from radix (cond (eqb c 95) n ((n * radix + covered radix c) % w)) cs % w ≡ covered_from radix n (c ∷ cs) % w
one_more w radix n c cs = at (eqb c 95)
  where
    at : (t : Bool) → covered_from radix (cond t n ((n * radix + covered radix c) % w)) cs % w
        ≡ cond t (covered_from radix n cs) (covered_from radix (n * radix + covered radix c) cs) % w
    at true = refl
    at false = same_mod w radix ((n * radix + covered radix c) % w) (n * radix + covered radix c) cs (mod-mod (n * radix + covered radix c) w)

pub mask_step : (w radix n b next i : ℕ) (ds : List ℕ) (all : ℕ) → i < length ds → get_or ds i 0 ≡ b
    → next ≡ cond (eqb b 95) n ((n * radix + covered radix b) % w) → covered_from radix n (drop i ds) % w ≡ all
    → covered_from radix next (drop (i + 1) ds) % w ≡ all
mask_step w radix n b next i ds all within at is so_far =
    let one : suc i ≡ i + 1 = omega arith in
    let here : drop i ds ≡ b ∷ drop (i + 1) ds =
    drop-cons ds i 0 within ∙ ap (λ x. x ∷ drop (suc i) ds) at ∙ ap (λ k. b ∷ drop k ds) one in
    ap (λ x. covered_from radix x (drop (i + 1) ds) % w) is
    ∙ one_more w radix n b (drop (i + 1) ds)
    ∙ ap (λ xs. covered_from radix n xs % w) (sym here)
    ∙ so_far
