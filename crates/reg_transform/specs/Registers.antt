-- Registers of a design, by plain numbers.
use Rattle.std.specs.Prelude.{ℕ, Bool, ◌&&◌, ◌==◌, List, map}

-- the name of a register: the module that declares it, and what it is called within that, by the numbers of their names
pub record RegisterName : Type 0 where
  pub in_module : ℕ
  pub name : ℕ

-- a register of one instance: the numbers of the instances' names, the top's first, its module and own name, and its number of bits
pub record Register : Type 0 where
  pub path : List ℕ
  pub in_module : ℕ
  pub name : ℕ
  pub width : ℕ

abbrev pub called : Register → RegisterName
called r = record { in_module = r.in_module; name = r.name }

abbrev pub widths_of : List Register → List ℕ
widths_of rs = map (λ (r : Register). r.width) rs

abbrev pub is_same : RegisterName → RegisterName → Bool
is_same x y = (x.in_module == y.in_module) && (x.name == y.name)
