-- A new database by its slots is one with those limits.
use Rattle.std.specs.Prelude.{ℕ, List}
use Rattle.std.proofs.Common.{sym, subst, inl, inr, ⊎_elim}
use Rattle.rdb_outside.specs.rdb_types.declared.keys.Limits.{Limits}
use Rattle.rdb_outside.specs.Disk.{Image}
use Rattle.root_file.specs.Root.{IsRoot}
use Rattle.aij_journal.specs.Header.{IsHeader}
use Rattle.new_database.specs.Maker.{IsNew, IsNewOrNone}
use Rattle.new_database.specs.New.{new_root, IsNewDatabase, IsNewDatabaseOrNone}

pub limited : (limits : Limits) (header root : List ℕ) → IsRoot root (new_root limits) → IsHeader header 1 → (image : Image) → IsNew header root image → IsNewDatabase limits image
limited limits header root is_root is_header image new = record {
  root = subst (λ (s : List ℕ). IsRoot s (new_root limits)) (sym new.root_slot) is_root;
  header = subst (λ (s : List ℕ). IsHeader s 1) (sym new.header_slot) is_header;
  rest = new.rest;
}

pub limited_or_none : (limits : Limits) (header root : List ℕ) → IsRoot root (new_root limits) → IsHeader header 1 → (image : Image) → IsNewOrNone header root image → IsNewDatabaseOrNone limits image
limited_or_none limits header root is_root is_header image new = ⊎_elim (λ none. inl none) (λ has. inr (limited limits header root is_root is_header image has)) new
