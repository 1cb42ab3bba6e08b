-- Some line is written.
use Rattle.std.specs.Prelude.{List, [], ◌∷◌}
use Rattle.line_view.specs.declared.writes.Write.{Write}

abbrev pub WriteSome : List Write → Type 0
WriteSome [] = ⊥
WriteSome (w ∷ ws) = Unit {0}
