-- What a call of one member leaves of the others.
use Rattle.std.proofs.Common.{◌≡◌, ◌≢◌, ℕ, ◌≤◌, IsTrue, List, Some, slice_get, ◌⊎◌, ap, sym, ◌∙◌, refl, arith}
use Rattle.rdb_types.specs.declared.file.FileId.{FileId}
use Rattle.rdb_types.specs.declared.file.FileKind.TheVariants.{Root, Area, Ruj, Aij}
use Rattle.rdb_types.specs.declared.keys.Line.{Line}
use Rattle.rdb_outside.specs.Disk.{View, Image, Pending, OnlyReads}
use Rattle.new_database.specs.Maker.{root_file, aij_file}
use Rattle.root_file.specs.declared.Root.{Root as RootValue}
use Rattle.root_file.specs.Root.{IsRoot}
use Rattle.line_opening.specs.stable_lines.Slots.{ruj_file, area_file, named, Undo, line_at}
use Rattle.line_opening.specs.stable_lines.Progress.{Open, Progress}
use Rattle.line_opening.specs.stable_lines.Facts.{Facts}
use Rattle.line_opening.specs.Undoing.{AreUndone}
use Rattle.line_opening.specs.line_moves.Calls.{OnlyWrites}
use Rattle.line_seat.specs.Seats.{SeatFacts}
use Rattle.line_seat.specs.Stages.{progress_at}
use Rattle.line_seat.proofs.SeatStays.{stays_reads, stays_aside, stays_beside, stays_headed}
use Rattle.line_seat.proofs.StageStays.{IsBesideIt, stage_stays}
use Rattle.disk_seats.specs.Ledgers.{Standing, resting, changing, broken, committing, undoing, entries_of, Commit}
use Rattle.disk_seats.specs.Members.{MemberStands, CommitStands}

-- ---- members

-- where its lines are as they were, what was undone is undone
pub still_undone : (old new : Image) (o : Open) (all : List Undo) (left : ℕ) → o.entries ≡ all → ((i : ℕ) (undo : Undo) → slice_get all i ≡ Some undo → line_at new undo.key ≡ line_at old undo.key) → AreUndone old o left → AreUndone new o left
still_undone old new o all left same lines was i undo le got bears =
    was i undo le got (ap (λ (l : Line). l.tsn.number) (sym (lines i undo (ap (λ (l : List Undo). slice_get l i) (sym same) ∙ got))) ∙ bears)

-- each seat of another member stays
pub record LeavesSeats (v w : View) (base : Progress) (member : ℕ) : Type 0 where
  pub seat : (s : ℕ) (o : Open) (all : List Undo) (n : ℕ) → s ≢ member → SeatFacts v base s o all n → SeatFacts w base s o all n

pub member_stays : (v w : View) (base : Progress) (member : ℕ) → LeavesSeats v w base member → (s : ℕ) → s ≢ member → (st : Standing)
    → ((i : ℕ) (undo : Undo) → slice_get (entries_of st) i ≡ Some undo → line_at w.content undo.key ≡ line_at v.content undo.key) → MemberStands v base s st → MemberStands w base s st
member_stays v w base member leaves s apart resting lines was = was
member_stays v w base member leaves s apart (changing all n) lines was = record { transaction = was.transaction; seat = leaves.seat s was.transaction all n apart was.seat }
member_stays v w base member leaves s apart broken lines was = was
member_stays v w base member leaves s apart (committing all) lines was = was
member_stays v w base member leaves s apart (undoing all left) lines was = record {
  transaction = was.transaction;
  is_open = was.is_open;
  entries = was.entries;
  within = was.within;
  undone = still_undone v.content w.content was.transaction all left was.entries lines was.undone;
}

pub leaves_reads : (v w : View) (base : Progress) (member : ℕ) → IsTrue v.tells → OnlyReads v w → LeavesSeats v w base member
leaves_reads v w base member t reads = record { seat = λ s o all n apart was. stays_reads v w t reads base s o all n was }

pub leaves_aside : (v w : View) (base : Progress) (member : ℕ) (file : FileId) (slot : ℕ) → IsTrue v.tells → file.kind ≢ Ruj → OnlyWrites file slot v w → LeavesSeats v w base member
leaves_aside v w base member file slot t other rest = record { seat = λ s o all n apart was. stays_aside v w file slot t other rest base s o all n was }

pub leaves_entry : (v w : View) (base : Progress) (member slot : ℕ) → IsTrue v.tells → 1 ≤ slot → OnlyWrites (ruj_file member) slot v w → LeavesSeats v w base member
leaves_entry v w base member slot t le rest = record { seat = λ s o all n apart was. stays_beside v w member slot t rest base s o all n (λ same. apart (sym same)) was le }

pub leaves_named : (v w : View) (base : Progress) (member : ℕ) (theirs : Open) → IsTrue v.tells → base.going member ≡ Some theirs → OnlyWrites (ruj_file member) 0 v w
    → ((h : List ℕ) → Pending w (ruj_file member) 0 h → Pending v (ruj_file member) 0 h ⊎ (named h ≡ theirs.tsn.number)) → LeavesSeats v w base member
leaves_named v w base member theirs t is rest headers = record {
  seat = λ s o all n apart was.
      stays_headed v w member 0 t rest base s o all n (λ same. apart (sym same)) was theirs.tsn.number headers refl (λ i undo got le. (was.before i undo got).committed.not_open member theirs is);
}

pub leaves_closed : (v w : View) (base : Progress) (member : ℕ) → IsTrue v.tells → OnlyWrites (ruj_file member) 0 v w
    → ((h : List ℕ) → Pending w (ruj_file member) 0 h → Pending v (ruj_file member) 0 h ⊎ (named h ≡ 0)) → LeavesSeats v w base member
leaves_closed v w base member t rest headers = record {
  seat = λ s o all n apart was.
      stays_headed v w member 0 t rest base s o all n (λ same. apart (sym same)) was 0 headers refl (λ i undo got le zero. omega (arith, le, zero));
}

-- ---- the commit

pub commit_stays : (v w : View) (base : Progress) (was now : ℕ → Standing) (c : Commit) → now c.member ≡ was c.member → IsBesideIt v w base c.member → Facts (Pending w) (progress_at c.stage base c.flight) → CommitStands v base was c → CommitStands w base now c
commit_stays v w base was now c same beside facts stands = record {
  its = same ∙ stands.its;
  under_way = stands.under_way;
  is = stands.is;
  of_entries = stands.of_entries;
  facts = stage_stays v w base c.member c.transaction stands.is.is_open beside c.stage c.place c.lines c.flight stands.is.bears facts stands.facts;
}

other_kind : (a b : FileId) → (a.kind ≡ b.kind → ⊥) → a ≡ b → ⊥
other_kind a b off same = off (ap (λ (f : FileId). f.kind) same)

-- a root was written
pub beside_root : (v w : View) (now : Progress) (member slot : ℕ) → IsTrue v.tells → OnlyWrites root_file slot v w → IsBesideIt v w now member
beside_root v w now member slot t rest = record {
  own = λ i x q. ruj member i x q;
  areas = λ f i x q. rest.pending t (area_file f) i x (λ same at. other_kind (area_file f) root_file (λ k. let bad : Area ≡ Root = k in cc) same) q;
  pages = λ f i. rest.content t (area_file f) i (λ same at. other_kind (area_file f) root_file (λ k. let bad : Area ≡ Root = k in cc) same);
  aij = λ i. rest.content t aij_file i (λ same at. other_kind aij_file root_file (λ k. let bad : Aij ≡ Root = k in cc) same);
  ended = λ tsn off was m h is le q n. was m h is le (ruj m 0 h q) n;
}
  where
    ruj : (m i : ℕ) (x : List ℕ) → Pending w (ruj_file m) i x → Pending v (ruj_file m) i x
    ruj m i x q = rest.pending t (ruj_file m) i x (λ same at. other_kind (ruj_file m) root_file (λ k. let bad : Ruj ≡ Root = k in cc) same) q

-- ---- the root

pub used_stays : (v w : View) (file : FileId) (slot : ℕ) → IsTrue v.tells → file.kind ≢ Root → OnlyWrites file slot v w
    → ((content : List ℕ) (root : RootValue) → Pending v root_file 0 content → IsRoot content root → root.state ≢ 3) → (content : List ℕ) (root : RootValue) → Pending w root_file 0 content → IsRoot content root → root.state ≢ 3
used_stays v w file slot t other rest was content root q is = was content root (rest.pending t root_file 0 content (λ same at. other (ap (λ (f : FileId). f.kind) (sym same))) q) is
