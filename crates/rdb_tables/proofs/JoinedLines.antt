-- Lines that are printed piece by piece.
use Rattle.std.proofs.Common.{◌≡◌, List, [], ◌++◌, refl, ap, append_assoc, append-nil}
use Rattle.rdb_types.specs.declared.values.Scaled.{Scaled}
use Rattle.rdb_meaning.specs.Execution.{Line, line, no_line, joined}

pub joined_assoc : (vs ws : List Scaled) (l : Line) → joined (line (vs ++ ws)) l ≡ joined (line vs) (joined (line ws) l)
joined_assoc vs ws (line xs) = ap line (append_assoc vs ws xs)
joined_assoc vs ws no_line = refl

pub joined_nothing : (vs : List Scaled) → joined (line vs) (line []) ≡ line vs
joined_nothing vs = ap line (append-nil vs)
