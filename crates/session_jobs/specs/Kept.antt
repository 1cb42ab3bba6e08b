-- Until when what an executor keeps is true.
use Rattle.std.specs.Prelude.{◌≡◌, ◌==◌, true}
use Rattle.rdb_types.specs.declared.keys.Dbkey.{Dbkey}
use Rattle.line_view.specs.Knowledge.{Knowledge, Lines, Agrees, keys_of, line_in, lines_in}

-- The two maps have the same lines in the logical area of the catalog.
pub record HaveOneCatalog (one other : Lines) : Type 0 where
  pub keys : keys_of (lines_in 1 one) ≡ keys_of (lines_in 1 other)
  pub lines : (key : Dbkey) → (key.area == 1) ≡ true → line_in key one ≡ line_in key other

-- Some map with which this knowledge agrees has the lines of the catalog that this map has.
pub record IsOfCatalog (old : Knowledge) (all : Lines) : Type 0 where
  pub before : Lines
  pub agrees : Agrees old before
  pub same : HaveOneCatalog all before

-- Each map with which what is known now agrees has the lines of the catalog of one with which what was known agreed: so it is where more is learnt, and where nothing is written in the catalog.
abbrev pub HasCatalogOf : Knowledge → Knowledge → Type 0
HasCatalogOf new old = (all : Lines) → Agrees new all → IsOfCatalog old all
