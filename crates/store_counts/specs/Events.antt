-- Events that count nothing: no transaction begins, no need is got, no writes are committed, and no transaction ends for which the store has set slots aside.
use Rattle.std.specs.Prelude.{◌≡◌, true, false, List, [], ◌∷◌}
use Rattle.rdb_account.specs.Events.{Event, Began, Wanted, Got, Demoted, Said, Committed, RolledBack, Died, Recovered}
use Rattle.line_store.specs.Seats.{set_aside}
use Rattle.line_store.specs.Shelves.{Shelf}

abbrev pub CountsNothing : Shelf → Event → Type 0
CountsNothing h (Began s kind) = ⊥
CountsNothing h (Wanted s n a) = Unit {0}
CountsNothing h (Got s n) = ⊥
CountsNothing h (Demoted s n from to) = Unit {0}
CountsNothing h (Said s i c r) = Unit {0}
CountsNothing h (Committed s m) = ⊥
CountsNothing h (RolledBack s) = set_aside (h.seat s) ≡ 0
CountsNothing h (Died s c) = Unit {0}
CountsNothing h (Recovered s true m) = ⊥
CountsNothing h (Recovered s false m) = set_aside (h.seat s) ≡ 0

abbrev pub CountNothing : Shelf → List Event → Type 0
CountNothing h [] = Unit {0}
CountNothing h (e ∷ es) = CountsNothing h e × CountNothing h es
