-- Space-management pages.
use Rattle.std.specs.Prelude.{ℕ, ◌+◌, ◌-◌, ◌*◌, ◌<◌, ◌≤◌, ◌≡◌, ◌≢◌, ◌⊎◌, List, [], ◌∷◌, length, replicate, if◌then◌else◌, nat_lt, nat_eq}
use Rattle.area_files.specs.slot_fields.Fields.{Field, number, text, gap, HasPart, number_at}
use Rattle.area_files.specs.Areas.{IsDataPage, IsSpacePage, space_page_of, index_of}

-- SPAM
abbrev pub space_word : List ℕ
space_word = 83 ∷ 80 ∷ 65 ∷ 77 ∷ []

abbrev pub head_fields : ℕ → List Field
head_fields number_of_page = text space_word ∷ number 4 number_of_page ∷ gap 16 ∷ []

-- where an entry stands
abbrev pub entry_place : ℕ → ℕ
entry_place index = 24 + 5 * index

-- the logical area and the level that an entry says
abbrev pub owner_at : ℕ → List ℕ → ℕ
owner_at index spam = number_at 4 (entry_place index) spam

abbrev pub level_at : ℕ → List ℕ → ℕ
level_at index spam = number_at 1 (entry_place index + 4) spam

-- those of a page
abbrev pub owner_of : ℕ → List ℕ → ℕ
owner_of page spam = owner_at (index_of page) spam

abbrev pub level_of : ℕ → List ℕ → ℕ
level_of page spam = level_at (index_of page) spam

-- how many entries a space page has: one for each of the 199 pages behind it, and the last one for those up to page 65,536
abbrev pub entries_of : ℕ → ℕ
entries_of space_page = if nat_eq space_page 65401 then 135 else 199

-- zeros behind the last entry
abbrev pub HasNoMore : List ℕ → ℕ → Type 0
HasNoMore spam count = HasPart (entry_place count) (gap (1024 - entry_place count) ∷ []) spam

-- a space page that was written: its entries have any owners, and levels from 0 to 3
pub record IsWritten (spam : List ℕ) (space_page : ℕ) : Type 0 where
  pub head : HasPart 0 (head_fields space_page) spam
  pub levels : (index : ℕ) → index < entries_of space_page → level_at index spam ≤ 3
  pub rest : HasNoMore spam (entries_of space_page)

-- the slot is the space page of this number. Zeros are one without owners.
pub record IsSpace (spam : List ℕ) (space_page : ℕ) : Type 0 where
  pub page : IsSpacePage space_page
  pub bytes : (spam ≡ replicate (length spam) 0) ⊎ IsWritten spam space_page

-- the level of a page by the percent of its lines that are used
abbrev pub level_for : ℕ → ℕ
level_for percent = if nat_lt percent 70 then 0 else (if nat_lt percent 85 then 1 else (if nat_lt percent 95 then 2 else 3))

-- another page that has its entry on the same space page
pub record IsBeside (page other : ℕ) : Type 0 where
  pub is_page : IsDataPage other
  pub same : space_page_of other ≡ space_page_of page
  pub apart : other ≢ page
