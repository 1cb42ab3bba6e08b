-- Entries that are put into a map one after another.
use Rattle.std.specs.Prelude.{List, [], ◌∷◌}
use Rattle.std.specs.declared.cmp.Ordering.{Ordering}
use Rattle.std.specs.FinMap.Entries.{put}

abbrev pub put_all : {K V : Type 0} → (K → K → Ordering) → List (K × V) → List (K × V) → List (K × V)
put_all order held [] = held
put_all order held (e ∷ es) = put_all order (put order e.0 e.1 held) es
