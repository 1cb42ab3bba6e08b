-- What a member's open transaction rests on, as long as it has written before-images and no page.
use Rattle.std.specs.Prelude.{ℕ, ◌+◌, ◌≤◌, ◌<◌, ◌≡◌, ◌≢◌, List, [], length, slice_get, Some}
use Rattle.rdb_types.specs.declared.keys.Dbkey.{Dbkey}
use Rattle.rdb_types.specs.declared.keys.Line.{Line}
use Rattle.rdb_outside.specs.Disk.{View, Pending}
use Rattle.ruj_journal.specs.Entry.{IsEntry}
use Rattle.line_moves.specs.stable_lines.Slots.{ruj_file, named, Undo, entry_at}
use Rattle.line_moves.specs.stable_lines.Image.{IsNoneOf}
use Rattle.line_moves.specs.stable_lines.Progress.{Open, Flight, Progress, set_going}
use Rattle.line_moves.specs.stable_lines.Facts.{PendingContents, IsCommitted, Facts}
use Rattle.line_moves.specs.stable_lines.Written.{AreWritten}
use Rattle.line_moves.specs.Contents.{IsFree}
use Rattle.line_moves.specs.Changes.{MayPut}

-- no open transaction has a standing entry of this line
abbrev pub IsUntouched : Progress → Dbkey → Type 0
IsUntouched now key = (member : ℕ) (transaction : Open) → now.going member ≡ Some transaction → IsNoneOf key transaction.entries

-- The line before a change that isn't on its page yet is as committed.
pub record BeforeFacts (P : PendingContents) (now : Progress) (undo : Undo) : Type 0 where
  pub committed : IsCommitted P now undo.key undo.before
  pub below : undo.before.tsn.number < now.next_tsn
  pub free : IsFree now undo.key
  pub within : undo.key.page ≤ now.limits.pages

-- All these entries of the open transaction were written, and so many of them are stable. No page was written, so in the ghost state none stands yet.
pub record SeatFacts (v : View) (now : Progress) (member : ℕ) (o : Open) (all : List Undo) (stable : ℕ) : Type 0 where
  pub is_open : now.going member ≡ Some o
  pub none_stands : o.entries ≡ []
  pub counted : stable ≤ length all
  pub written : AreWritten (Pending v) member o all
  pub not_flying : (f : Flight) → now.flight ≡ Some f → f.member ≢ member
  -- what reads give
  pub names : 1 ≤ length all → named (v.content (ruj_file member) 0) ≡ o.tsn.number
  pub stand : (i : ℕ) (undo : Undo) → slice_get all i ≡ Some undo → IsEntry (v.content (ruj_file member) (i + 1)) (entry_at o.tsn (i + 1) undo)
  -- what a crash leaves
  pub headed : (h : List ℕ) → 1 ≤ stable → Pending v (ruj_file member) 0 h → named h ≡ o.tsn.number
  pub sure : (i : ℕ) (undo : Undo) (x : List ℕ) → i < stable → slice_get all i ≡ Some undo → Pending v (ruj_file member) (i + 1) x → IsEntry x (entry_at o.tsn (i + 1) undo)
  pub before : (i : ℕ) (undo : Undo) → slice_get all i ≡ Some undo → BeforeFacts (Pending v) now undo

-- the transaction that draws the next number
abbrev pub next_open : Progress → Open
next_open now = record { tsn = record { number = now.next_tsn }; entries = [] }

-- A line may be changed for the first time in the transaction, whose header names it.
pub record MayChange (v : View) (now : Progress) (member : ℕ) (o : Open) (all : List Undo) (key : Dbkey) : Type 0 where
  pub names : named (v.content (ruj_file member) 0) ≡ o.tsn.number
  pub none : IsNoneOf key all
  pub untouched : IsUntouched now key
  pub free : IsFree now key
  pub within : key.page ≤ now.limits.pages

-- all its entries stand
abbrev pub secured : ℕ → Open → List Undo → Progress → Progress
secured member o all now = set_going member (Some (record { tsn = o.tsn; entries = all })) now

-- All its entries stand: from now on its lines may be put on their pages.
pub record IsSecured (v : View) (now : Progress) (member : ℕ) (o : Open) (all : List Undo) : Type 0 where
  pub facts : Facts (Pending v) (secured member o all now)
  pub is_open : (secured member o all now).going member ≡ Some (record { tsn = o.tsn; entries = all })
  pub may : (i : ℕ) (undo : Undo) (value : Line) → slice_get all i ≡ Some undo → value.tsn ≡ o.tsn → MayPut (Pending v) (secured member o all now) undo.key value
