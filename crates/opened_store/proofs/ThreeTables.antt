-- The tables of the three area files, read one behind another.
use Rattle.std.proofs.Common.{◌≡◌, ℕ, ◌==◌, Bool, true, false, IsTrue, refl, sym, subst, arith}
use Rattle.std.proofs.lemmas.Bool.{eqb-true, eqb-false}
use Rattle.rdb_outside.specs.Disk.{Image, View, OnlyReads}
use Rattle.stable_lines.specs.Slots.{IsAreaFile}
use Rattle.line_opening.proofs.Passed.{image_same}
use Rattle.page_table.specs.Pages.{Pages}
use Rattle.page_table.specs.Reading.{IsTableOf, ArePages}
use Rattle.disk_store.specs.declared.held.Tables.{Tables}
use Rattle.disk_store.specs.Shown.{pages_of}
use Rattle.opened_store.specs.Tables.{AreTablesOf, AreAllPages}

-- a table that was read behind reads
pub table-before : (old mid : View) → OnlyReads old mid → IsTrue old.tells → (file pages : ℕ) (table : Pages) → IsTableOf mid.content file pages table → IsTableOf old.content file pages table
table-before old mid reads t file pages table is = subst (λ (image : Image). IsTableOf image file pages table) (image_same old mid reads t) is

pub pages-behind : (old mid : View) → OnlyReads old mid → IsTrue old.tells → AreAllPages old.content → (file : ℕ) → IsAreaFile file → ArePages mid.content file
pages-behind old mid reads t are file is = subst (λ (image : Image). ArePages image file) (sym (image_same old mid reads t)) (are file is)

pub all-tables : (image : Image) (pages : ℕ) (tables : Tables) → IsTableOf image 1 pages tables.catalog → IsTableOf image 2 pages tables.relations → IsTableOf image 3 pages tables.indexes → AreTablesOf image pages tables
all-tables image pages tables one two three file is = by (file == 1) (file == 2) refl refl
  where
    at : (number : ℕ) → file ≡ number → IsTableOf image number pages (pages_of tables number) → IsTableOf image file pages (pages_of tables file)
    at number same has = subst (λ (n : ℕ). IsTableOf image n pages (pages_of tables n)) (sym same) has

    by : (a b : Bool) → (file == 1) ≡ a → (file == 2) ≡ b → IsTableOf image file pages (pages_of tables file)
    by true b first second = at 1 (eqb-true file 1 first) one
    by false true first second = at 2 (eqb-true file 2 second) two
    by false false first second =
        let low = is.first in let high = is.last in let off = eqb-false file 1 first in let away = eqb-false file 2 second in
        at 3 (omega (arith, low, high, off, away)) three
