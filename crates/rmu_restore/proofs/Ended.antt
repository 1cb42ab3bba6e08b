-- Behind the root of the end the image stands for the lines of the backup.
use Rattle.std.proofs.Common.{◌≡◌, ◌≢◌, ℕ, ◌+◌, ◌-◌, ◌≤◌, List, [], ◌∷◌, refl, length, replicate, Some, None, inr, sym, ◌∙◌, ap, subst, arith}
use Rattle.slot_fields.proofs.Laws.{word_not_zeros}
use Rattle.rdb_types.specs.File.{slot_bytes}
use Rattle.rdb_types.specs.declared.file.FileId.{FileId}
use Rattle.rdb_types.specs.declared.file.FileKind.TheVariants.{Root as RootKind, Area, Ruj, Aij}
use Rattle.rdb_types.specs.declared.keys.Dbkey.{Dbkey}
use Rattle.rdb_types.specs.declared.keys.Limits.{Limits}
use Rattle.rdb_types.specs.declared.keys.Line.{Line}
use Rattle.rdb_outside.specs.Disk.{Image, zeros}
use Rattle.rdb_page.specs.Page.{class_at}
use Rattle.rdb_page.specs.Whole.{IsPageOf}
use Rattle.area_files.specs.Areas.{space_page_of}
use Rattle.space_pages.specs.Space.{IsSpace, owner_of}
use Rattle.ruj_journal.specs.declared.entry.RujEntry.{RujEntry}
use Rattle.ruj_journal.specs.Entry.{IsEntry}
use Rattle.aij_journal.specs.Header.{IsHeader}
use Rattle.journal_scan.specs.Standing.{what_stands}
use Rattle.line_versions.specs.Lines.{storage_area, shown}
use Rattle.line_view.specs.Knowledge.{line_in}
use Rattle.new_database.specs.Maker.{aij_file}
use Rattle.stable_lines.specs.Slots.{ruj_file, area_file, file_of, slot_of, owner_at, IsMember, line_on, line_at, named}
use Rattle.stable_lines.specs.Journal.{Journal, IsJournalOf, next_number}
use Rattle.stable_lines.specs.Kept.{Kept, IsWellFormed, FitsClass, HasNoCommit}
use Rattle.stable_lines.proofs.Fresh.{named_none}
use Rattle.rolled_lines.proofs.Restored.{restored_stands}
use Rattle.backup_file.specs.declared.header.BackupHead.{BackupHead}
use Rattle.backup_file.specs.declared.line.BackupLine.{BackupLine}
use Rattle.backup_file.specs.Whole.{lines_in}
use Rattle.guarded_root.specs.Guarded.{IsEndOf}
use Rattle.rmu_restore.specs.declared.restoring.Plan.{Plan}
use Rattle.rmu_restore.specs.Laying.{HasLaid}
use Rattle.rmu_restore.specs.Restored.{IsSource, IsPlanned, IsRestored}
use Rattle.rmu_restore.proofs.Blank.{its_zeros}
use Rattle.rmu_restore.proofs.Finding.{some_found}

no_entry : (x : List ℕ) (n : ℕ) → x ≡ replicate n 0 → (e : RujEntry) → IsEntry x e → ⊥
no_entry x n is e there = word_not_zeros x n 81 (85 ∷ 74 ∷ 69 ∷ []) is there.fields.0

module _ (former : Image) (number : ℕ) (classes : ℕ → ℕ) (head : BackupHead) (lines : List BackupLine) (journal : Journal) (plan : Plan) (content image : Image) (source : IsSource former number classes head lines journal) (planned : IsPlanned former head lines journal plan)
    (laid : HasLaid head.limits.pages (plan.root.ceiling - 1) lines content) (blank : (member slot : ℕ) → IsMember member → content (ruj_file member) slot ≡ zeros (ruj_file member)) (still : (slot : ℕ) → content aij_file slot ≡ former aij_file slot) (ended : IsEndOf content plan.root image) where
  -- ---- what is as it was written

  same : (file : FileId) (slot : ℕ) → file.kind ≢ RootKind → image file slot ≡ content file slot
  same file slot apart = ended.others file slot (λ is. absurd (apart (ap (λ (f : FileId). f.kind) is)))

  area_not : Area ≢ RootKind
  area_not is = cc

  ruj_not : Ruj ≢ RootKind
  ruj_not is = cc

  aij_not : Aij ≢ RootKind
  aij_not is = cc

  area : (f i : ℕ) → image (area_file f) i ≡ content (area_file f) i
  area f i = same (area_file f) i area_not

  journal_is : (i : ℕ) → image aij_file i ≡ former aij_file i
  journal_is i = same aij_file i aij_not ∙ still i

  ruj : (m i : ℕ) → IsMember m → image (ruj_file m) i ≡ zeros (ruj_file m)
  ruj m i is = same (ruj_file m) i ruj_not ∙ blank m i is

  none_named : (m : ℕ) → IsMember m → named (image (ruj_file m) 0) ≡ 0
  none_named m is = named_none _ (slot_bytes (ruj_file m)) (ruj m 0 is)

  line_is : (key : Dbkey) → line_at image key ≡ line_at content key
  line_is key = ap (λ (b : List ℕ). line_on key b) (area (storage_area key.area) (slot_of key))

  some_ceiling : 1 ≤ plan.root.ceiling
  some_ceiling = ended.is.allowed.ceiling.0

  -- ---- a kept image

  its_journal : IsJournalOf image journal
  its_journal = record {
    header = subst (λ (b : List ℕ). IsHeader b journal.first) (sym (journal_is 0)) source.has_journal.header;
    whole = source.has_journal.whole;
    stand = λ i what got. ap what_stands (journal_is (i + 1)) ∙ source.has_journal.stand i what got;
    no_more = λ g whole stands. source.has_journal.no_more g whole (λ i what got. ap what_stands (sym (journal_is _)) ∙ stands i what got);
  }

  commits : HasNoCommit image (next_number journal)
  commits slot part some stands none = source.commits slot part some (ap what_stands (sym (journal_is slot)) ∙ stands) none

  class : (key : Dbkey) (bytes : List ℕ) → line_in key (lines_in lines) ≡ Some bytes → FitsClass (image (file_of key) (slot_of key)) (classes key.area) bytes
  class key bytes got =
      let found = some_found lines key bytes got in
      let of = laid.on_pages found.index found.line found.is in
      let there : FitsClass (image (file_of found.line.key) (slot_of found.line.key)) (classes found.line.key.area) found.line.image = record {
        same = ap (λ (b : List ℕ). class_at b) (area (storage_area found.line.key.area) (slot_of found.line.key)) ∙ of.class ∙ source.class found.index found.line found.is;
        fits = subst (λ (n : ℕ). length found.line.image ≤ n) (source.class found.index found.line found.is) (source.backup.stores.each found.index found.line found.is).allowed.image;
      } in
      subst (λ (b : List ℕ). FitsClass (image (file_of key) (slot_of key)) (classes key.area) b) found.bytes_are
      (subst (λ (k : Dbkey). FitsClass (image (file_of k) (slot_of k)) (classes k.area) found.line.image) found.keys there)

  well_formed : IsWellFormed image head.limits.pages
  well_formed = record {
    page = λ f n is plain. subst (IsPageOf f n) (sym (area f (n - 1))) (laid.well_formed.page f n is plain);
    space = λ f n is page space. subst (λ (b : List ℕ). IsSpace b n) (sym (area f (n - 1))) (laid.well_formed.space f n is page space);
    header = λ m is. (None, inr (its_zeros _ (slot_bytes (ruj_file m)) (ruj m 0 is), refl));
    owner = λ f n is plain some.
        ap (λ (b : List ℕ). owner_of n b) (area f (space_page_of n - 1)) ∙ laid.well_formed.owner f n is plain (subst (λ (b : List ℕ). 1 ≤ owner_at b) (area f (n - 1)) some) ∙ ap owner_at (sym (area f (n - 1)));
    past = λ f slot is from less. area f slot ∙ laid.well_formed.past f slot is from less;
  }

  kept : Kept classes (lines_in lines) journal image
  kept = record {
    root = plan.root;
    is_root = record { is = ended.is; state = inr planned.says.state; restored = λ three m is. none_named m is };
    journal = its_journal;
    commits = commits;
    stands = restored_stands image journal.groups (lines_in lines) source.backup.whole.in_order none_named (λ key. ap shown (line_is key) ∙ laid.stands key);
    class = class;
    undone = λ key m bears. absurd (let none = none_named m bears.is_member in let some = bears.number in let names = bears.names in omega (arith, none, some, names));
    alone = λ a b is_a is_b some both. absurd (let none = none_named a is_a in omega (arith, none, some));
    well_formed = subst (λ (l : Limits). IsWellFormed image l.pages) (sym planned.says.limits) well_formed;
    below = record {
      line = λ key. let up = laid.below key in let it : (line_at image key).tsn.number ≡ (line_at content key).tsn.number = ap (λ (l : Line). l.tsn.number) (line_is key) in let some = some_ceiling in omega (arith, up, it, some);
      header = λ m is. let none = none_named m is in let some = some_ceiling in omega (arith, none, some);
      entry = λ m slot e is le there. absurd (no_entry _ (slot_bytes (ruj_file m)) (ruj m slot is) e there);
      group = planned.group;
    };
  }

  pub is_restored : IsRestored former classes head lines journal image
  is_restored = record { root = plan.root; is = ended.is; says = planned.says; kept = kept }
