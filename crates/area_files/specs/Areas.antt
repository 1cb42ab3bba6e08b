-- The pages of the files of the storage areas.
use Rattle.std.specs.Prelude.{ℕ, ◌-◌, ◌%◌, ◌<◌, ◌≤◌, ◌≡◌, ◌≢◌}
use Rattle.area_files.specs.declared.SpaceEntry.{SpaceEntry}

-- a page that a file of a storage area may have
pub record IsPage (page : ℕ) : Type 0 where
  pub first : 1 ≤ page
  pub last : page ≤ 65536

-- each page 200 behind the one before, from page 1 on, says how the pages behind it are used
abbrev pub IsSpacePage : ℕ → Type 0
IsSpacePage page = (page - 1) % 200 ≡ 0

-- a page that holds lines
pub record IsDataPage (page : ℕ) : Type 0 where
  pub is_page : IsPage page
  pub plain : (page - 1) % 200 ≢ 0

-- the space page that speaks of a page: the last at or before it
abbrev pub space_page_of : ℕ → ℕ
space_page_of page = page - (page - 1) % 200

-- which of the entries there is the page's own: the first is that of the page behind the space page
abbrev pub index_of : ℕ → ℕ
index_of page = (page - 1) % 200 - 1

abbrev pub entry_of : ℕ → SpaceEntry
entry_of page = record { space_page = space_page_of page; index = index_of page }

-- the least data page behind those that are used, within the limit
pub record IsNextPage (limit used page : ℕ) : Type 0 where
  pub behind : used < page
  pub within : page ≤ limit
  pub plain : (page - 1) % 200 ≢ 0
  pub least : (other : ℕ) → used < other → other < page → IsSpacePage other
