-- Data pages.
use Rattle.std.specs.Prelude.{ℕ, ◌%◌, ◌-◌, ◌≤◌, ◌≡◌, ◌⊎◌, List, [], ◌∷◌, length, replicate, nat_eq, if◌then◌else◌}
use Rattle.slot_fields.specs.Fields.{Field, number, text, gap, HasPart, number_at}
use Rattle.rdb_page.specs.declared.head.Head.{Head}

-- PAGE
abbrev pub page_word : List ℕ
page_word = 80 ∷ 65 ∷ 71 ∷ 69 ∷ []

-- how many lines a page of a class has
abbrev pub lines_of : ℕ → ℕ
lines_of class = if nat_eq class 208 then 4 else 2

-- the bytes of the largest image that a line holds
abbrev pub IsClass : ℕ → Type 0
IsClass class = (class ≡ 208) ⊎ (class ≡ 440)

abbrev pub head_fields : Head → List Field
head_fields h =
    text page_word
    ∷ number 4 h.page
    ∷ number 4 h.owner
    ∷ number 2 h.class
    ∷ gap 10
    ∷ []

-- whether a logical area lies in an area file: 1 the catalog, 2 relations, 3 indexes
abbrev pub IsOwner : ℕ → ℕ → Type 0
IsOwner file owner =
    ((file ≡ 1) × (owner ≡ 1))
    ⊎ ((file ≡ 2) × (16 ≤ owner) × (owner % 2 ≡ 0))
    ⊎ ((file ≡ 3) × (17 ≤ owner) × (owner % 2 ≡ 1))

-- where the lines of a page end
abbrev pub lines_end : ℕ → ℕ
lines_end class = if nat_eq class 208 then 920 else 936

-- zeros behind the lines
abbrev pub HasNoMore : List ℕ → ℕ → Type 0
HasNoMore page class = HasPart (lines_end class) (gap (1024 - lines_end class) ∷ []) page

-- a page that was never used
abbrev pub IsUnused : List ℕ → Type 0
IsUnused page = page ≡ replicate (length page) 0

-- a head, and zeros behind the lines of its class
pub record IsHead (page : List ℕ) (h : Head) : Type 0 where
  pub fields : HasPart 0 (head_fields h) page
  pub class : IsClass h.class
  pub rest : HasNoMore page h.class

-- the page of this number in this area file has this head
pub record StandsAs (page : List ℕ) (file number : ℕ) (h : Head) : Type 0 where
  pub head : IsHead page h
  pub page_number : h.page ≡ number
  pub owner : IsOwner file h.owner

-- the class that a page says it has
abbrev pub class_at : List ℕ → ℕ
class_at page = number_at 2 12 page
