-- What writes make of an image on whose pages they are laid.
use Rattle.std.specs.Prelude.{ℕ, ◌-◌, ◌≡◌, ◌⊎◌, List}
use Rattle.rdb_types.specs.declared.keys.Dbkey.{Dbkey}
use Rattle.rdb_outside.specs.Disk.{Image}
use Rattle.area_files.specs.Areas.{IsDataPage, space_page_of}
use Rattle.space_pages.specs.Space.{owner_of}
use Rattle.line_view.specs.declared.writes.Write.{Write}
use Rattle.line_versions.specs.Lines.{shown}
use Rattle.stable_lines.specs.Slots.{area_file, IsAreaFile, line_at}
use Rattle.rolled_lines.specs.HalfLaid.{line_behind}
use Rattle.laid_groups.specs.Forward.{Forward, IsWrittenBy}

-- the space page of the page says whose it is in the end
abbrev pub IsEntered : Forward → Image → ℕ → ℕ → Type 0
IsEntered forward image file number = owner_of number (image (area_file file) (space_page_of number - 1)) ≡ forward.owners file number

-- Each line is as these writes left it, and the pages that are written are entered; those that were entered are still.
pub record LaidOver (forward : Forward) (writes : List Write) (old new : Image) : Type 0 where
  pub line : (key : Dbkey) → shown (line_at new key) ≡ line_behind key writes (shown (line_at old key))
  pub entered : (file number : ℕ) → IsAreaFile file → IsDataPage number → IsWrittenBy writes file number ⊎ IsEntered forward old file number → IsEntered forward new file number
