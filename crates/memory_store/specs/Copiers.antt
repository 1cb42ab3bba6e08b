-- Who began a backup last.
use Rattle.std.specs.Prelude.{ℕ, List, Option, Some, None, slice_get}
use Rattle.rdb_types.specs.declared.session.Session.{Session}

abbrev pub number_of : Option (Option Session) → Option ℕ
number_of (Some (Some s)) = Some s.number
number_of _ = None

abbrev pub copier_in : List (Option Session) → ℕ → Option ℕ
copier_in by n = number_of (slice_get by n)
