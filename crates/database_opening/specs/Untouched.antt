-- What an opening leaves as it is.
use Rattle.std.specs.Prelude.{ℕ, ◌-◌, ◌≡◌}
use Rattle.rdb_outside.specs.Disk.{Image}
use Rattle.area_files.specs.Areas.{IsPage, IsSpacePage}
use Rattle.new_database.specs.Maker.{root_file}
use Rattle.line_opening.specs.stable_lines.Slots.{area_file}

-- The root is as it was, and so is each space page: each page is whose it was.
pub record KeepsRootAndSpaces (old new : Image) : Type 0 where
  pub root : new root_file 0 ≡ old root_file 0
  pub spaces : (file page : ℕ) → IsPage page → IsSpacePage page → new (area_file file) (page - 1) ≡ old (area_file file) (page - 1)
