-- Places of words that are moved one to one, so that registers stand side by side, and their next values do too.
use Rattle.std.specs.Prelude.{ℕ, ◌+◌, ◌-◌, ◌*◌, ◌&&◌, nat_le, nat_lt, List, [], ◌∷◌, length, get_or, if◌then◌else◌}
use Rattle.std.specs.List.{swap, range_with_len}
use Rattle.typed_ir.specs.Valuations.{Valuation}
use Rattle.word_steps.specs.declared.step.Step.{Step}
use Rattle.word_steps.specs.Walks.{env_of, writes}

-- where a place is moved to; what lies behind the table stays
abbrev pub moved : List ℕ → ℕ → ℕ
moved table k = get_or table k k

-- a step over words that are moved; where it passes over steps, `c` is no place
abbrev pub moved_step : List ℕ → Step → Step
moved_step table s = record {
  op = s.op;
  width = s.width;
  low = s.low;
  wide = s.wide;
  to = moved table s.to;
  a = moved table s.a;
  b = moved table s.b;
  c = if writes s.op then moved table s.c else s.c;
}

-- what words hold, by the places before they were moved
abbrev pub env_by : List ℕ → List ℕ → Valuation
env_by table words = λ k. env_of words (moved table k)

-- the own places of registers, one above their numbers, in the place of those from `own` on, and those of their next values, n places above,
-- in the place of those from `next` on
abbrev pub gather : List ℕ → ℕ → ℕ → ℕ → List ℕ → List ℕ
gather table n own next [] = table
gather table n own next (r ∷ rs) = gather (swap (swap table (r + 1) own) (r + 1 + n) next) n (own + 1) (next + 1) rs

-- of n signals: registers stand behind all that is laid out of signals, and their next values behind these
abbrev pub gathered : ℕ → List ℕ → List ℕ
gathered n rs = gather (range_with_len 0 (3 * n + 2 * length rs + 1)) n (3 * n + 1) (3 * n + length rs + 1) rs

-- so many words from one place on, copied to another
abbrev pub block : ℕ → ℕ → ℕ → Valuation → Valuation
block from to count w = λ k. if nat_le to k && nat_lt k (to + count) then w (from + (k - to)) else w k
