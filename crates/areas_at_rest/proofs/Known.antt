-- A view over the lines of an area knows all of it.
use Rattle.std.proofs.Common.{◌≡◌, ℕ, true, List, Option, Some, None, is_some, refl, ap, cond}
use Rattle.std.specs.Prelude.{option_map}
use Rattle.std.proofs.lemmas.Bool.{eq-eqb}
use Rattle.rdb_types.specs.declared.keys.Dbkey.{Dbkey}
use Rattle.line_view.specs.Knowledge.{Lines, keys_of}
use Rattle.line_view.specs.Held.{ordered}
use Rattle.relation_rows.specs.Stored.{IsLineKnown, IsAreaKnown}
use Rattle.line_faults.proofs.Learnt.{all_ordered, all_from_in, found_in}
use Rattle.lines_at_rest.specs.View.{knows}

pub view_knows : (area : ℕ) (lines : Lines) → IsAreaKnown (knows (record { area = area; lines = lines })) area
view_knows area lines =
    let known = knows (record { area = area; lines = lines }) in (
      ordered (keys_of lines),
      ap (λ b. cond b (Some (ordered (keys_of lines))) None) (eq-eqb area area refl),
      all_ordered (IsLineKnown known) (keys_of lines) (all_from_in (IsLineKnown known) (keys_of lines) (λ key there. ap (λ (o : Option (List ℕ)). is_some (option_map Some o)) (found_in key lines there).1)),
    )
