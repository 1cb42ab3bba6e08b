-- What an owner has got and wants.
use Rattle.std.specs.Prelude.{Option, List}
use Rattle.lock_needs.specs.declared.need.Need.{Need}
use Rattle.lock_needs.specs.declared.party.OpenWant.{OpenWant}

-- the needs that an owner has got, and its open want
pub record Party : Type 0 where
  pub needs : List Need
  pub opened : Option OpenWant
