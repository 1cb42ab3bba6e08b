-- An open transaction on its way to be undone, its last entry first.
use Rattle.std.specs.Prelude.{ℕ, ◌≤◌, ◌≡◌, ◌≢◌, ◌⊎◌, length, slice_get, Some}
use Rattle.rdb_types.specs.declared.keys.Dbkey.{Dbkey}
use Rattle.rdb_types.specs.declared.keys.Line.{Line}
use Rattle.rdb_outside.specs.Disk.{Image}
use Rattle.line_moves.specs.stable_lines.Slots.{Undo, line_at}
use Rattle.line_moves.specs.stable_lines.Progress.{Open, Flight, Progress}
use Rattle.line_moves.specs.stable_lines.Facts.{PendingContents, Facts}

-- so many of its entries are to be undone, and it isn't in flight
pub record MayUndo (P : PendingContents) (now : Progress) (member : ℕ) (o : Open) (entries pages : ℕ) : Type 0 where
  pub facts : Facts P now
  pub is_open : now.going member ≡ Some o
  pub within : entries ≤ length o.entries
  pub limit : pages ≡ now.limits.pages
  pub not_flying : (f : Flight) → now.flight ≡ Some f → f.member ≢ member

-- the lines of its entries from this place on don't bear it
abbrev pub AreUndone : Image → Open → ℕ → Type 0
AreUndone image o from = (i : ℕ) (undo : Undo) → from ≤ i → slice_get o.entries i ≡ Some undo → (line_at image undo.key).tsn.number ≢ o.tsn.number

-- the line is the before-image of an entry of the transaction
pub record IsBefore (o : Open) (key : Dbkey) (line : Line) : Type 0 where
  pub index : ℕ
  pub undo : Undo
  pub is : slice_get o.entries index ≡ Some undo
  pub key_is : key ≡ undo.key
  pub line_is : line ≡ undo.before

-- Each line is as it was, or its before-image in an entry of the transaction.
abbrev pub PutsBack : Open → Image → Image → Type 0
PutsBack o old new = (key : Dbkey) → (line_at new key ≡ line_at old key) ⊎ IsBefore o key (line_at new key)
