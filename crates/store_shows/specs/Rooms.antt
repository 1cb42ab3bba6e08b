-- Which pages are taken, by the tables of the area files.
use Rattle.std.specs.Prelude.{ℕ, ◌-◌, ◌%◌, ◌==◌, ◌&&◌, ◌≡◌, nat_le, not, Bool, length}
use Rattle.line_store.specs.Shelves.{Space}
use Rattle.page_table.specs.Pages.{Pages, owner_in}

-- a page that may be taken: it is within the limit, it may hold lines, and nobody owns it
abbrev pub is_free : Pages → ℕ → Bool
is_free pages page = nat_le 1 page && nat_le page (length pages) && not ((page - 1) % 200 == 0) && (owner_in pages page == 0)

-- the space by the tables of the area files, which are as long as the limit of pages
pub record HasPages (tables : ℕ → Pages) (space : Space) : Type 0 where
  pub taken : (file page : ℕ) → space.taken file page ≡ not (is_free (tables file) page)
  pub limit : (file : ℕ) → length (tables file) ≡ space.limits.pages
