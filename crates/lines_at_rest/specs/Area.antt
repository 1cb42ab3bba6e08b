-- The present lines of a logical area, with the open transactions undone.
use Rattle.std.specs.Prelude.{ℕ, ◌<◌, ◌≡◌, ◌⊎◌, List, Option, Some, None}
use Rattle.std.specs.FinMap.Entries.{find, put}
use Rattle.rdb_types.specs.Order.{dbkey_order}
use Rattle.rdb_types.specs.declared.keys.Dbkey.{Dbkey}
use Rattle.rdb_outside.specs.Disk.{Image}
use Rattle.line_view.specs.Knowledge.{Lines, IsInOrder}
use Rattle.line_versions.specs.Lines.{shown}
use Rattle.stable_lines.specs.Slots.{line_at}
use Rattle.before_images.specs.declared.lines.OpenTransaction.{OpenTransaction}
use Rattle.before_images.specs.Before.{laid}

-- the bytes of a line that is present, added
abbrev pub with_present : Dbkey → Option (List ℕ) → Lines → Lines
with_present key None lines = lines
with_present key (Some bytes) lines = put dbkey_order key bytes lines

-- the bytes of the line, where it is present once the open transactions are undone
abbrev pub present_at : Image → List OpenTransaction → Dbkey → Option (List ℕ)
present_at image held key = shown (laid held key (line_at image key))

-- the line comes before that line of that page
abbrev pub IsBefore : Dbkey → ℕ → ℕ → Type 0
IsBefore key page line = (key.page < page) ⊎ ((key.page ≡ page) × (key.line < line))

-- These are the present lines of the area before that line of that page.
pub record HoldsTo (image : Image) (held : List OpenTransaction) (area page line : ℕ) (found : Lines) : Type 0 where
  pub in_order : IsInOrder found
  pub each : (key : Dbkey) → key.area ≡ area → IsBefore key page line → find dbkey_order key found ≡ present_at image held key
  pub others : (key : Dbkey) → (key.area ≡ area → IsBefore key page line → ⊥) → find dbkey_order key found ≡ None
