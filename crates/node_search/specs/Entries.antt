-- What keys and entries that are borrowed show.
use Rattle.std.specs.Prelude.{ℕ, ◌≡◌, List, [], ◌∷◌, Option, Some, None}
use Rattle.rdb_types.specs.declared.values.Value.{Value}
use Rattle.record_format.specs.Lists.{AreListed}
use Rattle.record_format.specs.Values.{AreValues}
use Rattle.index_node.specs.declared.entry.NodeEntry.{NodeEntry}
use Rattle.index_node.specs.Node.{entry_fields, IsEntry}
use Rattle.node_search.specs.declared.key.BorrowedKey.{BorrowedKey}
use Rattle.node_search.specs.declared.entry.BorrowedEntry.{BorrowedEntry}
use Rattle.node_search.specs.declared.entry.FoundEntry.{FoundEntry}

-- the bytes are these values
abbrev pub ShowsKey : BorrowedKey → List Value → Type 0
ShowsKey key values = AreValues key.bytes.now key.from values

pub record Shows (borrowed : BorrowedEntry) (entry : NodeEntry) : Type 0 where
  pub key : ShowsKey borrowed.key entry.key
  pub row : borrowed.row ≡ entry.row
  pub child : borrowed.child ≡ entry.child

-- it is the first of these entries, or there are none
abbrev pub IsFirst : Option FoundEntry → List NodeEntry → Type 0
IsFirst None [] = Unit {0}
IsFirst None (entry ∷ entries) = ⊥
IsFirst (Some found) [] = ⊥
IsFirst (Some found) (entry ∷ entries) = Shows found.entry entry

-- it is the first of these entries, and the others stand behind it; or there are none
abbrev pub Begins : ℕ → List ℕ → Option FoundEntry → List NodeEntry → Type 0
Begins level bytes found [] = found ≡ None
Begins level bytes None (entry ∷ entries) = ⊥
Begins level bytes (Some found) (entry ∷ entries) = Shows found.entry entry × AreListed entry_fields (IsEntry level) bytes found.end entries
