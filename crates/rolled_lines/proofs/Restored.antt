-- What a restore leaves stands for the lines of its pages.
use Rattle.std.proofs.Common.{◌≡◌, ℕ, List, refl, arith}
use Rattle.rdb_types.specs.declared.keys.Dbkey.{Dbkey}
use Rattle.rdb_outside.specs.Disk.{Image}
use Rattle.journal_scan.specs.declared.group.Group.{Group}
use Rattle.line_view.specs.Knowledge.{Lines, IsInOrder, line_in}
use Rattle.line_versions.specs.Lines.{shown}
use Rattle.stable_lines.specs.Slots.{ruj_file, IsMember, line_at, named}
use Rattle.stable_lines.specs.Image.{as_it_stands, StandsFor}

pub restored_stands : (image : Image) (groups : List Group) (lines : Lines) → IsInOrder lines → ((member : ℕ) → IsMember member → named (image (ruj_file member) 0) ≡ 0) → ((key : Dbkey) → shown (line_at image key) ≡ line_in key lines) → StandsFor image groups lines
restored_stands image groups lines sorted none each = record {
  in_order = sorted;
  each = λ key. record {
    line = line_at image key;
    is = as_it_stands (λ member is first names. absurd (let zero_it_is = none member is in omega (arith, first, names, zero_it_is))) refl;
    shows = each key;
  };
}
