-- A slot of a snapshot file is written: the ledger stays, and the tables.
use Rattle.std.proofs.Common.{◌≡◌, ◌-◌, ℕ, suc, IsTrue, List, Option, refl, ap, subst, arith}
use Rattle.rdb_types.specs.declared.file.FileId.{FileId}
use Rattle.rdb_types.specs.declared.file.FileKind.TheVariants.{Root, Area, Ruj, Aij, Snap}
use Rattle.rdb_outside.specs.Disk.{View, Pending}
use Rattle.new_database.specs.Maker.{root_file, aij_file}
use Rattle.line_versions.specs.Files.{snap_file}
use Rattle.stable_lines.specs.Slots.{ruj_file, area_file}
use Rattle.stable_lines.specs.Progress.{Progress}
use Rattle.stable_lines.specs.Facts.{Facts}
use Rattle.stable_lines.proofs.Fewer.{all}
use Rattle.line_moves.specs.Calls.{OnlyWrites}
use Rattle.line_seat.proofs.StageStays.{IsBesideIt}
use Rattle.disk_versions.proofs.Moves.{lines_in_slot}
use Rattle.disk_seats.specs.Ledgers.{Commit, Ledger, progress_with, progress_of}
use Rattle.disk_seats.specs.Members.{LedgerFacts}
use Rattle.disk_seats.proofs.OthersStay.{leaves_aside, member_stays, commit_stays, used_stays}
use Rattle.disk_seats.proofs.Assembled.{assembled}
use Rattle.disk_store.specs.declared.held.Tables.{Tables}
use Rattle.disk_store.specs.Shown.{TablesStand}
use Rattle.disk_store.proofs.Beside.{SameAreas, same-classes}

other-kind : (a b : FileId) → (a.kind ≡ b.kind → ⊥) → a ≡ b → ⊥
other-kind a b off same = off (ap (λ (f : FileId). f.kind) same)

module _ (v w : View) (number slot : ℕ) (t : IsTrue v.tells) (only : OnlyWrites (snap_file number) slot v w) where
  ruj : (m i : ℕ) (x : List ℕ) → Pending w (ruj_file m) i x → Pending v (ruj_file m) i x
  ruj m i x q = only.pending t (ruj_file m) i x (λ same at. other-kind (ruj_file m) (snap_file number) (λ k. let bad : Ruj ≡ Snap = k in cc) same) q

  pub area : (f i : ℕ) (x : List ℕ) → Pending w (area_file f) i x → Pending v (area_file f) i x
  area f i x q = only.pending t (area_file f) i x (λ same at. other-kind (area_file f) (snap_file number) (λ k. let bad : Area ≡ Snap = k in cc) same) q

  pub areas : SameAreas v w
  areas = record { content = λ f i. only.content t (area_file f) i (λ same at. other-kind (area_file f) (snap_file number) (λ k. let bad : Area ≡ Snap = k in cc) same); pending = area }

  aij : (i : ℕ) (x : List ℕ) → Pending w aij_file i x → Pending v aij_file i x
  aij i x q = only.pending t aij_file i x (λ same at. other-kind aij_file (snap_file number) (λ k. let bad : Aij ≡ Snap = k in cc) same) q

  root : (x : List ℕ) → Pending w root_file 0 x → Pending v root_file 0 x
  root x q = only.pending t root_file 0 x (λ same at. other-kind root_file (snap_file number) (λ k. let bad : Root ≡ Snap = k in cc) same) q

  facts-stay : (now : Progress) → Facts (Pending v) now → Facts (Pending w) now
  facts-stay now was = all (Pending v) (Pending w) now (λ member h p. ruj member 0 h p) (λ member i x le p. ruj member i x p) area aij root was

  beside-it : (now : Progress) (member : ℕ) → IsBesideIt v w now member
  beside-it now member = record {
    own = λ i x q. ruj member i x q;
    areas = area;
    pages = areas.content;
    aij = λ i. only.content t aij_file i (λ same at. other-kind aij_file (snap_file number) (λ k. let bad : Aij ≡ Snap = k in cc) same);
    ended = λ tsn off was m h is le q n. was m h is le (ruj m 0 h q) n;
  }

  pub snap-keeps : (g : Ledger) → LedgerFacts v g → LedgerFacts w g
  snap-keeps g was = assembled v w (snap_file number) slot g g.standing t only was facts
      (used_stays v w (snap_file number) slot t (λ k. let bad : Snap ≡ Root = k in cc) only was.used)
      (λ m. member_stays v w g.base (suc m) (leaves_aside v w g.base (suc m) (snap_file number) slot t (λ k. let bad : Snap ≡ Ruj = k in cc) only) m (λ e. omega (arith, e)) (g.standing m) (λ i undo got. lines_in_slot v w number slot t only undo.key) (was.member m))
      (λ c is. commit_stays v w g.base g.standing g.standing c refl (beside-it g.base c.member) (subst (λ (o : Option Commit). Facts (Pending w) (progress_with o g.base)) is facts) (was.commit c is))
      was.apart
    where
      facts : Facts (Pending w) (progress_of g)
      facts = facts-stay (progress_of g) was.facts

  pub snap-tables : (g : Ledger) (tables : Tables) → TablesStand v g tables → TablesStand w g tables
  snap-tables g tables was = record {
    committed = was.committed;
    classes = was.classes;
    lie = same-classes v w areas was.classes was.lie;
    class = was.class;
    owned = λ place owner is within plain its x p. was.owned place owner is within plain its x (area place.file (place.page - 1) x p);
  }
