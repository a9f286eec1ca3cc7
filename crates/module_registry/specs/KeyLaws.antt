-- Equality of keys is one, and equal keys are hashed alike.
use Rattle.std.specs.Prelude.{IsTrue}
use Rattle.std.proofs.Common.{◌≡◌, rules}
use Rattle.std.specs.Hash as fed
use Rattle.std.specs.Cmp.{IsEquivalence}
use Rattle.std.specs.Cmp.Rules.{comparing, hashing}
use Rattle.module_registry.specs.Keys.{KeyData, same}

pub same_laws : IsEquivalence same
same_laws = search (comparing, rules)

pub same_fed : (x y : KeyData) → IsTrue (same x y) → fed.slice fed.u8 x.digest ≡ fed.slice fed.u8 y.digest
same_fed = search (hashing, rules)
