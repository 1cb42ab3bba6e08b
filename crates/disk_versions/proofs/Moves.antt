-- Device calls keep the versions.
use Rattle.std.proofs.Common.{◌≡◌, ◌≢◌, ℕ, ◌-◌, ◌≤◌, true, List, Some, ◌⊎◌, inl, inr, ⊎_elim, ap, sym, subst, ◌∙◌, IsTrue}
use Rattle.rdb_types.specs.declared.file.FileId.{FileId}
use Rattle.rdb_types.specs.declared.file.FileKind.TheVariants.{Snap, Area}
use Rattle.rdb_types.specs.declared.keys.Dbkey.{Dbkey}
use Rattle.rdb_types.specs.declared.keys.Tsn.{Tsn}
use Rattle.rdb_types.specs.declared.keys.Line.{Line}
use Rattle.rdb_outside.specs.Disk.{Image, View, OnlyReads}
use Rattle.snapshot_file.specs.declared.entry.SnapEntry.{SnapEntry}
use Rattle.snapshot_file.specs.Entry.{IsEntry}
use Rattle.line_versions.specs.Versions.{Followed, snap_of}
use Rattle.line_versions.specs.Files.{StandsIn, entries_in, snap_file}
use Rattle.line_versions.specs.Course.{Course, AreRight, IsAbove, IsChanged}
use Rattle.line_versions.specs.Exact.{AreExact}
use Rattle.line_versions.proofs.Steps.{entries_other, lines_other}
use Rattle.line_versions.proofs.Exact.{exact_entries}
use Rattle.line_opening.specs.stable_lines.Slots.{Undo, line_at}
use Rattle.line_opening.specs.stable_lines.Progress.{Open, Progress}
use Rattle.line_opening.specs.line_moves.Calls.{OnlyWrites}
use Rattle.line_opening.specs.line_moves.Changes.{KeepsLines}
use Rattle.line_opening.specs.line_moves.Lines.{ChangedLines, HasLine, PutsOnly}
use Rattle.line_opening.proofs.of_line_moves.OnlyPut.{lines_beside}
use Rattle.line_opening.specs.Undoing.{PutsBack}
use Rattle.disk_versions.specs.Versions.{VersionFacts, SeatVersions}

-- each slot that is followed is as it was
abbrev pub KeepsEntries : Image → Image → Followed → Type 0
KeepsEntries old new followed = (file chain : ℕ) → 1 ≤ chain → followed file chain ≡ true → new (snap_file file) (chain - 1) ≡ old (snap_file file) (chain - 1)

module _ (old new : Image) (course : Course) (kept : KeepsEntries old new course.followed) where
  forth : (file chain : ℕ) (e : SnapEntry) → course.followed file chain ≡ true → StandsIn old file chain e → StandsIn new file chain e
  forth file chain e held s = record { number = s.number; is = subst (λ (b : List ℕ). IsEntry b e) (sym (kept file chain s.number held)) s.is }

  back : (file chain : ℕ) (e : SnapEntry) → course.followed file chain ≡ true → StandsIn new file chain e → StandsIn old file chain e
  back file chain e held s = record { number = s.number; is = subst (λ (b : List ℕ). IsEntry b e) (kept file chain s.number held) s.is }

  pub right_still : (now : Dbkey → Line) → AreRight (entries_in old) now course → AreRight (entries_in new) now course
  right_still now was = entries_other (entries_in old) (entries_in new) course.followed now course (λ f c e s held needed. (forth f c e held s, held)) was

  exact_still : (now : Dbkey → Line) → AreRight (entries_in old) now course → AreExact (entries_in old) course → AreExact (entries_in new) course
  exact_still now right was = exact_entries (entries_in old) (entries_in new) course.followed course (λ r x is f c e s held unseen. (forth f c e held s, held)) right.below (λ f c e held s. inl (held, back f c e held s)) was

  above_still : (key : Dbkey) (line before : Line) → IsAbove (entries_in old) course.followed key line before → IsAbove (entries_in new) course.followed key line before
  above_still key line before (inl first) = inl first
  above_still key line before (inr p) = inr (record { number = p.number; entry = p.entry; stands = forth (snap_of key) line.chain p.entry p.held p.stands; held = p.held; key_is = p.key_is; pusher = p.pusher; version = p.version })

  pub changed_still : (key : Dbkey) (line : Line) → IsChanged (entries_in old) course key line → IsChanged (entries_in new) course key line
  changed_still key line c = record { going = c.going; above = above_still key line (course.base key) c.above }

-- a line is as it was, the committed one, or one above it
abbrev pub MayBeNow : Image → Image → Course → Dbkey → Type 0
MayBeNow old new course key = (line_at new key ≡ line_at old key) ⊎ ((line_at new key ≡ course.base key) ⊎ IsChanged (entries_in new) course key (line_at new key))

pub versions_move : (v w : View) (now : Progress) (limit : ℕ) (course : Course) → KeepsEntries v.content w.content course.followed → ((key : Dbkey) → MayBeNow v.content w.content course key) → VersionFacts v now limit course → VersionFacts w now limit course
versions_move v w now limit course kept lines was = record {
  right = lines_other (entries_in w.content) (line_at v.content) (line_at w.content) course lines (right_still v.content w.content course kept (line_at v.content) was.right);
  exact = exact_still v.content w.content course kept (line_at v.content) was.right was.exact;
  within = was.within;
  files = was.files;
  next = was.next;
  lines = was.lines;
  going = was.going;
  goes = was.goes;
  befores = was.befores;
}

pub seat_moves : (v w : View) (course : Course) (tsn : Tsn) (all : List Undo) (lines : ChangedLines) → KeepsEntries v.content w.content course.followed → SeatVersions v course tsn all lines → SeatVersions w course tsn all lines
seat_moves v w course tsn all lines kept was = record {
  bases = was.bases;
  bears = was.bears;
  above = λ i line got. changed_still v.content w.content course kept line.0 line.1 (was.above i line got);
  pushed = λ file chain entry held stands its. was.pushed file chain entry held (back v.content w.content course kept file chain entry held stands) its;
}

-- ---- which slots stay

pub kept_by_reads : (v w : View) (followed : Followed) → IsTrue v.tells → OnlyReads v w → KeepsEntries v.content w.content followed
kept_by_reads v w followed t reads file chain number held = (reads.keeps t).content (snap_file file) (chain - 1)

pub kept_aside : (v w : View) (followed : Followed) (file : FileId) (slot : ℕ) → IsTrue v.tells → file.kind ≢ Snap → OnlyWrites file slot v w → KeepsEntries v.content w.content followed
kept_aside v w followed file slot t other writes number chain some held = writes.content t (snap_file number) (chain - 1) (λ same at. other (ap (λ (f : FileId). f.kind) (sym same)))

-- a slot that isn't followed is written
abbrev pub IsUnfollowed : Followed → ℕ → ℕ → Type 0
IsUnfollowed followed number slot = (chain : ℕ) → 1 ≤ chain → slot ≡ chain - 1 → followed number chain ≡ true → ⊥

pub kept_in_slot : (v w : View) (followed : Followed) (number slot : ℕ) → IsTrue v.tells → IsUnfollowed followed number slot → OnlyWrites (snap_file number) slot v w → KeepsEntries v.content w.content followed
kept_in_slot v w followed number slot t free writes file chain some held = writes.content t (snap_file file) (chain - 1)
    (λ same at. free chain some (sym at) (ap (λ (n : ℕ). followed n chain) (sym (ap (λ (f : FileId). f.number) same)) ∙ held))

pub lines_in_slot : (v w : View) (number slot : ℕ) → IsTrue v.tells → OnlyWrites (snap_file number) slot v w → KeepsLines v.content w.content
lines_in_slot v w number slot t writes = lines_beside v w (snap_file number) slot t (λ a. let bad : Snap ≡ Area = a in cc) writes

-- ---- which lines may stand then

-- lines of the seat were put on their pages
pub put_moves : (v w : View) (course : Course) (tsn : Tsn) (all : List Undo) (lines : ChangedLines) → KeepsEntries v.content w.content course.followed → SeatVersions v course tsn all lines → PutsOnly lines v.content w.content → (key : Dbkey) → MayBeNow v.content w.content course key
put_moves v w course tsn all lines kept seat puts key = ⊎_elim (λ same. inl same) (λ has. inr (inr (there has))) (puts key)
  where
    there : HasLine lines key (line_at w.content key) → IsChanged (entries_in w.content) course key (line_at w.content key)
    there has = subst (λ (l : Line). IsChanged (entries_in w.content) course key l) has.value_is (subst (λ (k : Dbkey). IsChanged (entries_in w.content) course k has.line.1) has.key_is
        (changed_still v.content w.content course kept has.line.0 has.line.1 (seat.above has.index has.line has.is)))

-- before-images were put back
pub back_moves : (v w : View) (now : Progress) (limit : ℕ) (course : Course) (member : ℕ) (o : Open) → VersionFacts v now limit course → now.going member ≡ Some o → PutsBack o v.content w.content → (key : Dbkey) → MayBeNow v.content w.content course key
back_moves v w now limit course member o was is puts key = ⊎_elim (λ same. inl same)
    (λ here. inr (inl (here.line_is ∙ was.befores member o is here.index here.undo here.is ∙ ap (λ (k : Dbkey). course.base k) (sym here.key_is)))) (puts key)
