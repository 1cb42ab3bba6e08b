-- What is kept of the pages of an area file.
use Rattle.std.specs.Prelude.{ℕ, ◌-◌, ◌≤◌, ◌<◌, ◌≡◌, ◌≢◌, ◌∷◌, [], Bool, true, false, List, length, slice_index_or}
use Rattle.rdb_types.specs.declared.keys.LineState.{LineState}
use Rattle.rdb_types.specs.declared.keys.LineState.TheVariants.{Never, Present, Erased}
use Rattle.rdb_types.specs.declared.keys.Dbkey.{Dbkey}
use Rattle.rdb_page.specs.Page.{lines_of}
use Rattle.page_table.specs.declared.uses.PageUse.{PageUse}

-- page n stands in place n - 1
abbrev pub Pages : Type 0
Pages = List PageUse

-- whether a line of this state has an image
abbrev pub is_present : LineState → Bool
is_present Never = false
is_present Present = true
is_present Erased = false

-- and whether it was ever used
abbrev pub is_ever : LineState → Bool
is_ever Never = false
is_ever Present = true
is_ever Erased = true

abbrev pub no_lines : List LineState
no_lines = Never ∷ Never ∷ Never ∷ Never ∷ []

-- a page on which no line was ever used, of a logical area and a class
abbrev pub empty_of : ℕ → ℕ → PageUse
empty_of owner class = record { owner = owner; class = class; lines = no_lines }

-- a page that no logical area owns
abbrev pub nobodys : PageUse
nobodys = empty_of 0 0

abbrev pub use_of : Pages → ℕ → PageUse
use_of pages page = slice_index_or pages (page - 1) nobodys

abbrev pub owner_in : Pages → ℕ → ℕ
owner_in pages page = (use_of pages page).owner

abbrev pub class_in : Pages → ℕ → ℕ
class_in pages page = (use_of pages page).class

abbrev pub state_in : PageUse → ℕ → LineState
state_in u line = slice_index_or u.lines line Never

-- whether the line of this number has an image
abbrev pub has_image : PageUse → ℕ → Bool
has_image u line = is_present (state_in u line)

-- whether it was ever used: a reader may still see an image of it that the line has no more
abbrev pub was_used : PageUse → ℕ → Bool
was_used u line = is_ever (state_in u line)

pub record IsWithin (pages : Pages) (page : ℕ) : Type 0 where
  pub first : 1 ≤ page
  pub last : page ≤ length pages

-- No page behind this one is the area's.
abbrev pub HasNoneBehind : Pages → (area last : ℕ) → Type 0
HasNoneBehind pages area last = (page : ℕ) → last < page → page ≤ length pages → owner_in pages page ≡ area → ⊥

-- No page behind this one is owned.
pub record AreNobodysBehind (pages : Pages) (last : ℕ) : Type 0 where
  pub within : last ≤ length pages
  pub none : (page : ℕ) → last < page → page ≤ length pages → owner_in pages page ≡ 0

-- the page is its area's, and has such a line
pub record IsLineOf (pages : Pages) (key : Dbkey) : Type 0 where
  pub within : IsWithin pages key.page
  pub owner : owner_in pages key.page ≡ key.area
  pub line : key.line < lines_of (class_in pages key.page)

-- a line that has an image
pub record IsUsedLine (pages : Pages) (key : Dbkey) : Type 0 where
  pub is_line : IsLineOf pages key
  pub image : has_image (use_of pages key.page) key.line ≡ true

-- This is kept of the page now, and of the others what was.
pub record Puts (page : ℕ) (used : PageUse) (old new : Pages) : Type 0 where
  pub here : use_of new page ≡ used
  pub others : (other : ℕ) → 1 ≤ other → other ≢ page → use_of new other ≡ use_of old other
  pub long : length new ≡ length old

-- a line that was ever used
pub record IsEverUsed (pages : Pages) (key : Dbkey) : Type 0 where
  pub is_line : IsLineOf pages key
  pub used : was_used (use_of pages key.page) key.line ≡ true

-- The line has an image now, or none, and was used. Other lines, owners and classes are as they were.
pub record PutsLine (key : Dbkey) (is_present : Bool) (old new : Pages) : Type 0 where
  pub here : has_image (use_of new key.page) key.line ≡ is_present
  pub used : was_used (use_of new key.page) key.line ≡ true
  pub beside : (line : ℕ) → line ≢ key.line → state_in (use_of new key.page) line ≡ state_in (use_of old key.page) line
  pub owner : owner_in new key.page ≡ owner_in old key.page
  pub class : class_in new key.page ≡ class_in old key.page
  pub others : (other : ℕ) → 1 ≤ other → other ≢ key.page → use_of new other ≡ use_of old other
  pub long : length new ≡ length old
