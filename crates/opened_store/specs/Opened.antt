-- What a store shows behind the opening of a database.
use Rattle.std.specs.Prelude.{ℕ, ◌+◌, ◌-◌, ◌%◌, ◌^◌, ◌<◌, ◌==◌, ◌&&◌, ◌≡◌, ◌⊎◌, nat_le, not, Bool, true, length, is_some}
use Rattle.rdb_types.specs.declared.keys.Dbkey.{Dbkey}
use Rattle.rdb_outside.specs.Disk.{Image, View, IsPending}
use Rattle.root_file.specs.declared.Root.{Root}
use Rattle.root_file.specs.Root.{IsRoot}
use Rattle.new_database.specs.Maker.{root_file}
use Rattle.line_view.specs.Knowledge.{Lines, line_in}
use Rattle.line_versions.specs.Lines.{storage_area}
use Rattle.line_store.specs.Seats.{outside}
use Rattle.line_store.specs.Shelves.{Shelf}
use Rattle.stable_lines.specs.Journal.{Journal, slots_in, next_number, next_slot}
use Rattle.database_opening.specs.Owners.{owner_said}
use Rattle.disk_store.specs.Memory.{StoreMemory}
use Rattle.disk_store.specs.Shown.{Shown}
use Rattle.journal_anew.specs.Anew.{journal_in_use, StandsInUse}

-- By an image, all pages of an area file are taken but those that may hold lines, are within the limit, and are nobody's by their space page.
abbrev pub is_taken_in : Image → ℕ → ℕ → ℕ → Bool
is_taken_in image limit file page = not (nat_le 1 page && nat_le page limit && not ((page - 1) % 200 == 0) && (owner_said image file page == 0))

-- A shelf is shown that has the lines for which the image stood, behind the groups of the journal in use. Nobody has a transaction, and no room is taken but what the image has, and the groups of that journal.
pub record BeginsFrom (image : Image) (lines : Lines) (journal : Journal) (v : View) (held : StoreMemory) : Type 0 where
  pub shelf : Shelf
  pub shown : Shown v held shelf
  pub base : shown.ledger.base.lines ≡ lines
  pub groups : (root : Root) → IsRoot (image root_file 0) root → shown.ledger.base.journal ≡ journal_in_use root journal
  pub now : shelf.now ≡ lines
  pub seats : (s : ℕ) → shelf.seat s ≡ outside
  pub limits : (root : Root) → IsRoot (image root_file 0) root → shelf.space.limits ≡ root.limits
  pub taken : (file page : ℕ) → shelf.space.taken file page ≡ true → is_taken_in image shelf.space.limits.pages file page ≡ true
  pub lie : (key : Dbkey) → is_some (line_in key lines) ≡ true → is_taken_in image shelf.space.limits.pages (storage_area key.area) key.page ≡ true
  pub snaps : shelf.space.snaps ≡ 0
  pub slots : (root : Root) → IsRoot (image root_file 0) root → shelf.space.slots ≡ length (slots_in (journal_in_use root journal))

-- What may be left while an image is opened: what a crash before might have left, or an image of the same lines, before its journal is the one in use or behind that.
abbrev pub IsLeft : View → (ℕ → ℕ) → Lines → Journal → Root → Image → Type 0
IsLeft old classes lines journal root image = IsPending old image ⊎ StandsInUse classes lines journal root image

-- there aren't as many numbers of groups as the journal has room for
abbrev pub LacksNumbers : Journal → Root → Type 0
LacksNumbers journal root = 2 ^ 62 + next_slot journal < next_number journal + root.limits.slots

-- The numbers of transactions are used up, or those of groups, by the journal in use.
abbrev pub AreUsedUp : Journal → Root → Type 0
AreUsedUp journal root = (2 ^ 62 - 64 < root.ceiling) ⊎ LacksNumbers (journal_in_use root journal) root
