-- A design without a table of names: what its signals are called are texts.
use Rattle.std.specs.Prelude.{ℕ, List, [], ◌∷◌, ◌++◌, map, slice_index_or, Result, Ok, Err}
use Rattle.ls_text.specs.Readings.{TextFault}
use Rattle.typed_ir.specs.Cycles.{Flat}
use Rattle.version_swap.specs.OnePlan.{nameless, path_texts, own_text, module_text}
use Rattle.version_swap.specs.Plans.{DesignOfTexts}

pub record Spelled : Type 0 where
  -- its signals have no names
  pub flat : Flat
  -- of its signals, in their order: their paths, which are what the instances that they stand in are called and then they themselves; what they are
  -- called within their instances; and the modules that declare them
  pub paths : List (List (List ℕ))
  pub own : List (List ℕ)
  pub modules : List (List ℕ)
  -- the texts of its keys, in the order of the first instance that has each
  pub keys : List (List ℕ)

-- the same design without the names of its signals
abbrev pub nameless_flat : Flat → Flat
nameless_flat design = record {
  signals = map nameless design.signals;
  registers = design.registers;
  inputs = design.inputs;
  nodes = design.nodes;
  clocked = design.clocked;
}

abbrev pub spelled : (names : List (List ℕ)) → DesignOfTexts → Spelled
spelled names d = record {
  flat = nameless_flat d.design;
  paths = map (path_texts names) d.design.signals;
  own = map (own_text names) d.design.signals;
  modules = map (module_text names) d.design.signals;
  keys = d.keys;
}

-- a path as it is written: a point between two names (12.5)
abbrev pub dotted : List (List ℕ) → List ℕ
dotted [] = []
dotted (x ∷ []) = x
dotted (x ∷ y ∷ ys) = x ++ 46 ∷ dotted (y ∷ ys)

-- what texts come to: a design, or their first fault
abbrev pub Answer : Type 0
Answer = Result Spelled TextFault

-- the same of texts that were read under a table of names
abbrev pub spelled_answer : (names : List (List ℕ)) → Result DesignOfTexts TextFault → Answer
spelled_answer names (Ok d) = Ok (spelled names d)
spelled_answer names (Err fault) = Err fault

-- what the data inputs of the top are called, in order
abbrev pub input_texts : Spelled → List (List ℕ)
input_texts design = map (λ (s : ℕ). slice_index_or design.own s []) design.flat.inputs
