-- The map behind writes.
use Rattle.std.proofs.Common.{◌≡◌, ℕ, false, cond, List, [], ◌∷◌, ◌++◌, Option, refl, ap, ◌∙◌}
use Rattle.std.specs.Ordering.{is_eq}
use Rattle.std.specs.List.{AllByRecursion}
use Rattle.ordered_entries.specs.rdb_types.declared.keys.Dbkey.{Dbkey}
use Rattle.ordered_entries.specs.rdb_types.Order.{dbkey_order}
use Rattle.line_view.specs.declared.writes.Write.{Write}
use Rattle.line_view.specs.Knowledge.{Lines, line_in, laid}
use Rattle.line_view.specs.Writes.{laid_all}
use Rattle.line_view.proofs.FullMap.{laid_found}

-- each write is on a line of this kind
abbrev pub WriteOn : (Dbkey → Type 0) → List Write → Type 0
WriteOn P = AllByRecursion (λ w. P w.key)

pub same_line : (lines : Lines) (key at : Dbkey) (image : Option (List ℕ)) → is_eq (dbkey_order at key) ≡ false → line_in at (laid key image lines) ≡ line_in at lines
same_line lines key at image apart = laid_found at key image lines ∙ ap (λ b. cond b image (line_in at lines)) apart

pub laid_in_turn : (xs ys : List Write) (lines : Lines) → laid_all (xs ++ ys) lines ≡ laid_all ys (laid_all xs lines)
laid_in_turn [] ys lines = refl
laid_in_turn (x ∷ xs) ys lines = laid_in_turn xs ys (laid x.key x.image lines)

pub written_last : (writes before : List Write) (key : Dbkey) (image : Option (List ℕ)) (lines : Lines) → writes ≡ before ++ record { key = key; image = image } ∷ [] → laid_all writes lines ≡ laid key image (laid_all before lines)
written_last writes before key image lines is = ap (λ ws. laid_all ws lines) is ∙ laid_in_turn before (record { key = key; image = image } ∷ []) lines
