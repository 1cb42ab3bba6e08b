-- What a member's going on rests on, beside the facts: which entries of its open transaction were written. What opening finds need not have it.
use Rattle.std.specs.Prelude.{ℕ, ◌+◌, ◌≤◌, ◌≡◌, List, ◌++◌, slice_get, Some}
use Rattle.ruj_journal.specs.declared.entry.RujEntry.{RujEntry}
use Rattle.ruj_journal.specs.Entry.{IsEntry}
use Rattle.stable_lines.specs.Slots.{ruj_file, Undo}
use Rattle.stable_lines.specs.Progress.{Open}
use Rattle.stable_lines.specs.Facts.{PendingContents}

-- the entry in this slot is one of those that were written, in its place
pub record IsWritten (all : List Undo) (slot : ℕ) (e : RujEntry) : Type 0 where
  pub index : ℕ
  pub undo : Undo
  pub place : slot ≡ index + 1
  pub is : slice_get all index ≡ Some undo
  pub same_key : e.key ≡ undo.key

-- these entries of the transaction were written, each of another line, and those that stand come first
pub record AreWritten (P : PendingContents) (member : ℕ) (o : Open) (all : List Undo) : Type 0 where
  pub rest : List Undo
  pub front : all ≡ o.entries ++ rest
  pub written : (slot : ℕ) (x : List ℕ) (e : RujEntry) → 1 ≤ slot → P (ruj_file member) slot x → IsEntry x e → e.tsn.number ≡ o.tsn.number → IsWritten all slot e
  pub distinct : (i k : ℕ) (a b : Undo) → slice_get all i ≡ Some a → slice_get all k ≡ Some b → a.key ≡ b.key → i ≡ k
