-- The lines that a member's open transaction wrote, as they wait in memory to be put on their pages.
use Rattle.std.specs.Prelude.{◌≡◌, ℕ, Bool, List, length, map, slice_get, Some, is_some, IsTrue}
use Rattle.std.specs.List.{list_any}
use Rattle.std.specs.Ordering.{is_eq}
use Rattle.std.specs.FinMap.Entries.{find, is_sorted}
use Rattle.rdb_types.specs.declared.keys.Dbkey.{Dbkey}
use Rattle.rdb_types.specs.declared.keys.Line.{Line}
use Rattle.rdb_types.specs.Order.{dbkey_order}
use Rattle.line_view.specs.declared.writes.Write.{Write}
use Rattle.line_versions.specs.Lines.{shown}

-- The lines in the order of their keys, and the keys in the order in which they were written first, which is that of their before-images.
pub record Memory : Type 0 where
  pub lines : List (Dbkey × Line)
  pub keys : List Dbkey

abbrev pub has_key : Dbkey → List Dbkey → Bool
has_key key keys = list_any (λ k. is_eq (dbkey_order key k)) keys

-- The lines are in order, and the keys are theirs, each once.
pub record AreKeysOf (lines : List (Dbkey × Line)) (keys : List Dbkey) : Type 0 where
  pub ordered : IsTrue (is_sorted dbkey_order lines)
  pub long : length keys ≡ length lines
  pub same : (key : Dbkey) → has_key key keys ≡ is_some (find dbkey_order key lines)
  pub once : (i k : ℕ) (key : Dbkey) → slice_get keys i ≡ Some key → slice_get keys k ≡ Some key → i ≡ k

-- what the lines come to as writes, each line's last one
abbrev pub write_at : Dbkey × Line → Write
write_at line = record { key = line.0; image = shown line.1 }

abbrev pub writes_in : List (Dbkey × Line) → List Write
writes_in lines = map write_at lines
