-- Calls that write one slot of the database's own files at most.
use Rattle.std.proofs.Common.{◌≡◌, ℕ, IsTrue, List, true, false, ap, refl, sym, ◌∙◌}
use Rattle.rdb_types.specs.declared.file.FileId.{FileId}
use Rattle.rdb_outside.specs.Disk.{View, Pending, OnlyReads}
use Rattle.rdb_outside.specs.Runs.{no_calls}
use Rattle.new_database.specs.Maker.{root_file}
use Rattle.line_versions.specs.Files.{snap_file}
use Rattle.stable_lines.specs.Slots.{area_file, ruj_file}
use Rattle.line_moves.specs.Calls.{OnlyWrites}
use Rattle.line_moves.proofs.Runs.{writes_none}
use Rattle.disk_store.specs.OwnFiles.{is_own, WritesOwn}

pub own-root : (slot : ℕ) (v w : View) → OnlyWrites root_file slot v w → WritesOwn v w
own-root slot v w only = record { file = root_file; slot = slot; own = refl; only = only }

pub own-area : (file slot : ℕ) (v w : View) → OnlyWrites (area_file file) slot v w → WritesOwn v w
own-area file slot v w only = record { file = area_file file; slot = slot; own = refl; only = only }

pub own-version : (file slot : ℕ) (v w : View) → OnlyWrites (snap_file file) slot v w → WritesOwn v w
own-version file slot v w only = record { file = snap_file file; slot = slot; own = refl; only = only }

pub own-journal : (member slot : ℕ) (v w : View) → OnlyWrites (ruj_file member) slot v w → WritesOwn v w
own-journal member slot v w only = record { file = ruj_file member; slot = slot; own = refl; only = only }

-- such calls that only read
pub own-reads : (v w : View) → OnlyReads v w → WritesOwn v w
own-reads v w reads = own-root 0 v w (writes_none root_file 0 v w reads)

-- no call at all
pub own-none : (v : View) → WritesOwn v v
own-none v = own-reads v v (no_calls v)

-- ---- other files

another : (a b : FileId) → is_own a.kind ≡ true → is_own b.kind ≡ false → b ≡ a → ⊥
another a b own other same = let bad : true ≡ false = sym own ∙ (ap (λ (f : FileId). is_own f.kind) (sym same) ∙ other) in cc

pub others-read : (v w : View) → IsTrue v.tells → WritesOwn v w → (file : FileId) (slot : ℕ) → is_own file.kind ≡ false → w.content file slot ≡ v.content file slot
others-read v w t writes file slot other = writes.only.content t file slot (λ same. absurd (another writes.file file writes.own other same))

pub others-left : (v w : View) → IsTrue v.tells → WritesOwn v w → (file : FileId) (slot : ℕ) (bytes : List ℕ) → is_own file.kind ≡ false → Pending w file slot bytes → Pending v file slot bytes
others-left v w t writes file slot bytes other p = writes.only.pending t file slot bytes (λ same. absurd (another writes.file file writes.own other same)) p
