-- Which entries a reader may still want: exactly those whose transaction had not ended when it began.
use Rattle.std.specs.Prelude.{ℕ, ◌≤◌, ◌<◌, ◌≡◌, true, false, List, nat_eq, Some}
use Rattle.std.specs.List.{list_any}
use Rattle.rdb_outside.specs.rdb_types.declared.keys.Dbkey.{Dbkey}
use Rattle.rdb_outside.specs.rdb_types.declared.keys.Line.{Line}
use Rattle.snapshot_file.specs.declared.entry.SnapEntry.{SnapEntry}
use Rattle.line_versions.specs.Versions.{Entries, snap_of, sees, Walk}
use Rattle.line_versions.specs.Course.{Reading, Course}

-- The reader comes over that chain to its version of the line: that version isn't above the entry, or the line is absent for it.
pub record Passes (E : Entries) (v : Course) (x : Reading) (key : Dbkey) (chain : ℕ) : Type 0 where
  pub over : List ℕ
  pub walk : Walk E v.followed x.start key over (v.base key) (x.lines key)
  pub there : list_any (nat_eq chain) over ≡ true

pub record AreExact (E : Entries) (v : Course) : Type 0 where
  -- the version that was pushed aside was committed
  pub past : (file chain : ℕ) (e : SnapEntry) → v.followed file chain ≡ true → E file chain e → (v.going e.tsn.number ≡ false) × (e.tsn.number < v.next)
  pub drawn : (file chain : ℕ) (e : SnapEntry) → v.followed file chain ≡ true → E file chain e → e.pusher.number < v.next
  -- a reader that doesn't see the transaction that pushed the entry comes over it
  pub passed : (file chain : ℕ) (e : SnapEntry) (r : ℕ) (x : Reading) → v.followed file chain ≡ true → E file chain e → v.going e.pusher.number ≡ false → v.reader r ≡ Some x → sees x.start e.pusher.number ≡ false →
      (snap_of e.key ≡ file) × Passes E v x e.key chain

-- Where the transaction commits, each entry that it pushed stands at the chain of its line.
pub record IsOnTop (now : Dbkey → Line) (tsn file chain : ℕ) (e : SnapEntry) : Type 0 where
  pub file_is : snap_of e.key ≡ file
  pub bears : (now e.key).tsn.number ≡ tsn
  pub chain_is : (now e.key).chain ≡ chain
  pub number : 1 ≤ chain
