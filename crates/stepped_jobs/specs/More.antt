-- What is known more.
use Rattle.std.specs.Prelude.{◌≡◌, ℕ, true, is_some}
use Rattle.std.specs.Ordering.{nat_cmp}
use Rattle.std.specs.FinMap.Entries.{find}
use Rattle.rdb_types.specs.declared.keys.Dbkey.{Dbkey}
use Rattle.rdb_types.specs.Order.{dbkey_order}
use Rattle.line_view.specs.Held.{Held}

-- Each line and each area that was known is known still, and the rooms are the same. What stands there may be other.
pub record KnowsMore (old new : Held) : Type 0 where
  pub lines : (key : Dbkey) → is_some (find dbkey_order key old.lines) ≡ true → is_some (find dbkey_order key new.lines) ≡ true
  pub areas : (area : ℕ) → is_some (find nat_cmp area old.areas) ≡ true → is_some (find nat_cmp area new.areas) ≡ true
  pub rooms : new.rooms ≡ old.rooms
