use Rattle.std.proofs.Common.{rules, ◌≡◌, ◌∙◌, ◌-◌, ℕ, List, ap, sym, subst}
use Rattle.rdb_types.specs.declared.file.FileId.{FileId}
use Rattle.area_files.specs.Areas.{space_page_of}
use Rattle.space_pages.specs.Space.{IsSpace, owner_of}
use Rattle.stable_lines.specs.Slots.{area_file}
use Rattle.line_moves.proofs.Entering.{space_behind}
use Rattle.line_moves.proofs.OnlyPut.{elsewhere_behind}
use Rattle.line_moves.proofs.Runs.{reads_once, here_at, still_tells}
use Rattle.guarded_root.specs.Guarded.{IsFile, IsWrite}
use Rattle.guarded_root.proofs.Adding.{adds_read, adds_more, adds_on}
use Rattle.guarded_root.proofs.Sweeping.{read_run, run_on, wider_run}
use Rattle.guarded_lines.specs.Laying.{IsArea, SaysOwner, IsEntrySlot}
use Rattle.guarded_lines.proofs.entering.enter_owner.Goals as goal

pub returns-in_err-read-clause-runs : goal.returns-in_err-read-clause-runs
returns-in_err-read-clause-runs g c = let v = g.D.Disk.view in let old = v c.args.disk.now in let mid = v c.read.new.self in
    read_run IsArea old mid (reads_once old mid c.read.result c.read.ensures.counts c.read.ensures.kept)

pub returns-in_default-clause-runs : goal.returns-in_default-clause-runs
returns-in_default-clause-runs g c = let v = g.D.Disk.view in let old = v c.args.disk.now in let mid = v c.read.new.self in
    read_run IsArea old mid (reads_once old mid c.read.result c.read.ensures.counts c.read.ensures.kept)

pub returns-in_default-clause-bad : goal.returns-in_default-clause-bad
returns-in_default-clause-bad g c = let old = g.D.Disk.view c.args.disk.now in
    let slot_is : c.slot_of-slot.result ≡ space_page_of c.args.place.page - 1 = c.slot_of-slot.ensures ∙ ap (λ (n : ℕ). n - 1) c.space_page_of-space_page.ensures in
    λ file slot is t space.
    let same : old.content (area_file c.args.place.file) (space_page_of c.args.place.page - 1) ≡ c.read.new.into = here_at old c.area_file-file.result _ c.slot_of-slot.result _ c.read.new.into c.area_file-file.ensures slot_is (sym (c.in_ok-read.ensures.bytes t)) in
    c.in_default.ensures.none (subst (λ (n : ℕ). IsSpace c.read.new.into n) (sym c.space_page_of-space_page.ensures) (subst (λ b. IsSpace b (space_page_of c.args.place.page)) same space))

pub returns-then-owner-area-clause-runs : goal.returns-then-owner-area-clause-runs
returns-then-owner-area-clause-runs g c = let v = g.D.Disk.view in let old = v c.args.disk.now in let mid = v c.read.new.self in
    read_run IsArea old mid (reads_once old mid c.read.result c.read.ensures.counts c.read.ensures.kept)

pub returns-then-owner-area-clause-entered : goal.returns-then-owner-area-clause-entered
returns-then-owner-area-clause-entered g c = let v = g.D.Disk.view in let old = v c.args.disk.now in let mid = v c.read.new.self in
    let reads = reads_once old mid c.read.result c.read.ensures.counts c.read.ensures.kept in
    let f = area_file c.args.place.file in let at = space_page_of c.args.place.page - 1 in
    let slot_is : c.slot_of-slot.result ≡ at = c.slot_of-slot.ensures ∙ ap (λ (n : ℕ). n - 1) c.space_page_of-space_page.ensures in
    λ t.
    let there : mid.content f at ≡ c.read.new.into = (reads.keeps t).content f at ∙ here_at old c.area_file-file.result f c.slot_of-slot.result at c.read.new.into c.area_file-file.ensures slot_is (sym (c.in_ok-read.ensures.bytes t)) in
    record {
      says = record {
        here = ap (owner_of c.args.place.page) there ∙ sym c.owner.ensures ∙ search rules;
        beside = λ other is. ap (owner_of other) ((reads.keeps t).content f at);
        space = subst (λ b. IsSpace b (space_page_of c.args.place.page)) (sym there) (subst (λ (n : ℕ). IsSpace c.read.new.into n) c.space_page_of-space_page.ensures c.in-Ok.ensures.found);
      };
      apart = λ file slot off. (reads.keeps t).content file slot;
    }

pub returns-in_err-write_guarded-clause-runs : goal.returns-in_err-write_guarded-clause-runs
returns-in_err-write_guarded-clause-runs g c = let v = g.D.Disk.view in let old = v c.args.disk.now in let mid = v c.read.new.self in let new = v c.write_guarded.new.disk in
    run_on IsArea old mid new (read_run IsArea old mid (reads_once old mid c.read.result c.read.ensures.counts c.read.ensures.kept))
    (wider_run (IsFile c.area_file-file.result) IsArea mid new (λ file is. ap (λ (f : FileId). f.kind) (is ∙ c.area_file-file.ensures)) c.write_guarded.ensures.runs)

pub returns-clause-runs : goal.returns-clause-runs
returns-clause-runs g c = let v = g.D.Disk.view in let old = v c.args.disk.now in let mid = v c.read.new.self in let new = v c.write_guarded.new.disk in
    run_on IsArea old mid new (read_run IsArea old mid (reads_once old mid c.read.result c.read.ensures.counts c.read.ensures.kept))
    (wider_run (IsFile c.area_file-file.result) IsArea mid new (λ file is. ap (λ (f : FileId). f.kind) (is ∙ c.area_file-file.ensures)) c.write_guarded.ensures.runs)

pub returns-clause-entered : goal.returns-clause-entered
returns-clause-entered g c =
    let v = g.D.Disk.view in let old = v c.args.disk.now in let mid = v c.read.new.self in let new = v c.write_guarded.new.disk in
    let reads = reads_once old mid c.read.result c.read.ensures.counts c.read.ensures.kept in
    let f = area_file c.args.place.file in let at = space_page_of c.args.place.page - 1 in
    let slot_is : c.slot_of-slot.result ≡ at = c.slot_of-slot.ensures ∙ ap (λ (n : ℕ). n - 1) c.space_page_of-space_page.ensures in
    λ t.
    let same : old.content f at ≡ c.read.new.into = here_at old c.area_file-file.result f c.slot_of-slot.result at c.read.new.into c.area_file-file.ensures slot_is (sym (c.in_ok-read.ensures.bytes t)) in
    let was : IsSpace c.read.new.into (space_page_of c.args.place.page) = subst (λ (n : ℕ). IsSpace c.read.new.into n) c.space_page_of-space_page.ensures c.in-Ok.ensures.found in
    let says : SaysOwner c.args.place c.args.area (old.content f at) c.set.new.spam = record {
      here = c.set.ensures.owner;
      beside = λ other is. c.set.ensures.other_owners other is ∙ ap (owner_of other) (sym same);
      space = space_behind (space_page_of c.args.place.page) c.set.new.spam was.page (c.set.ensures.kept was);
    } in
    let puts = c.in_ok-write_guarded.ensures.written (still_tells old mid reads.told t) in
    let there : new.content f at ≡ c.set.new.spam = here_at new c.area_file-file.result f c.slot_of-slot.result at c.set.new.spam c.area_file-file.ensures slot_is puts.here in
    record {
      says = subst (λ (b : List ℕ). SaysOwner c.args.place c.args.area (old.content f at) b) (sym there) says;
      apart = elsewhere_behind old mid new c.area_file-file.result c.args.place.file (space_page_of c.args.place.page) c.slot_of-slot.result c.set.new.spam c.area_file-file.ensures slot_is (reads.keeps t).content puts;
    }

pub returns-in_err-read-clause-adds : goal.returns-in_err-read-clause-adds
returns-in_err-read-clause-adds g c = λ t. let v = g.D.Disk.view in let old = v c.args.disk.now in let mid = v c.read.new.self in
    adds_read (IsEntrySlot old.content c.args.place c.args.area) old mid t (reads_once old mid c.read.result c.read.ensures.counts c.read.ensures.kept)

pub returns-in_default-clause-adds : goal.returns-in_default-clause-adds
returns-in_default-clause-adds g c = λ t. let v = g.D.Disk.view in let old = v c.args.disk.now in let mid = v c.read.new.self in
    adds_read (IsEntrySlot old.content c.args.place c.args.area) old mid t (reads_once old mid c.read.result c.read.ensures.counts c.read.ensures.kept)

pub returns-then-owner-area-clause-adds : goal.returns-then-owner-area-clause-adds
returns-then-owner-area-clause-adds g c = λ t. let v = g.D.Disk.view in let old = v c.args.disk.now in let mid = v c.read.new.self in
    adds_read (IsEntrySlot old.content c.args.place c.args.area) old mid t (reads_once old mid c.read.result c.read.ensures.counts c.read.ensures.kept)

pub returns-in_err-write_guarded-clause-adds : goal.returns-in_err-write_guarded-clause-adds
returns-in_err-write_guarded-clause-adds g c =
    let v = g.D.Disk.view in let old = v c.args.disk.now in let mid = v c.read.new.self in let new = v c.write_guarded.new.disk in
    let reads = reads_once old mid c.read.result c.read.ensures.counts c.read.ensures.kept in
    let f = area_file c.args.place.file in let at = space_page_of c.args.place.page - 1 in
    let slot_is : c.slot_of-slot.result ≡ at = c.slot_of-slot.ensures ∙ ap (λ (n : ℕ). n - 1) c.space_page_of-space_page.ensures in
    λ t.
    let same : old.content f at ≡ c.read.new.into = here_at old c.area_file-file.result f c.slot_of-slot.result at c.read.new.into c.area_file-file.ensures slot_is (sym (c.in_ok-read.ensures.bytes t)) in
    let was : IsSpace c.read.new.into (space_page_of c.args.place.page) = subst (λ (n : ℕ). IsSpace c.read.new.into n) c.space_page_of-space_page.ensures c.in-Ok.ensures.found in
    let says : SaysOwner c.args.place c.args.area (old.content f at) c.set.new.spam = record {
      here = c.set.ensures.owner;
      beside = λ other is. c.set.ensures.other_owners other is ∙ ap (owner_of other) (sym same);
      space = space_behind (space_page_of c.args.place.page) c.set.new.spam was.page (c.set.ensures.kept was);
    } in
    adds_on (IsEntrySlot old.content c.args.place c.args.area) old mid new (adds_read (IsEntrySlot old.content c.args.place c.args.area) old mid t reads)
    (adds_more (IsWrite c.area_file-file.result c.slot_of-slot.result c.set.new.spam) (IsEntrySlot old.content c.args.place c.args.area) mid new
    (λ g i x is. (is.0 ∙ c.area_file-file.ensures, is.1 ∙ slot_is, subst (λ (b : List ℕ). SaysOwner c.args.place c.args.area (old.content f at) b) (sym is.2) says))
    (c.write_guarded.ensures.adds (still_tells old mid reads.told t)))

pub returns-clause-adds : goal.returns-clause-adds
returns-clause-adds g c =
    let v = g.D.Disk.view in let old = v c.args.disk.now in let mid = v c.read.new.self in let new = v c.write_guarded.new.disk in
    let reads = reads_once old mid c.read.result c.read.ensures.counts c.read.ensures.kept in
    let f = area_file c.args.place.file in let at = space_page_of c.args.place.page - 1 in
    let slot_is : c.slot_of-slot.result ≡ at = c.slot_of-slot.ensures ∙ ap (λ (n : ℕ). n - 1) c.space_page_of-space_page.ensures in
    λ t.
    let same : old.content f at ≡ c.read.new.into = here_at old c.area_file-file.result f c.slot_of-slot.result at c.read.new.into c.area_file-file.ensures slot_is (sym (c.in_ok-read.ensures.bytes t)) in
    let was : IsSpace c.read.new.into (space_page_of c.args.place.page) = subst (λ (n : ℕ). IsSpace c.read.new.into n) c.space_page_of-space_page.ensures c.in-Ok.ensures.found in
    let says : SaysOwner c.args.place c.args.area (old.content f at) c.set.new.spam = record {
      here = c.set.ensures.owner;
      beside = λ other is. c.set.ensures.other_owners other is ∙ ap (owner_of other) (sym same);
      space = space_behind (space_page_of c.args.place.page) c.set.new.spam was.page (c.set.ensures.kept was);
    } in
    adds_on (IsEntrySlot old.content c.args.place c.args.area) old mid new (adds_read (IsEntrySlot old.content c.args.place c.args.area) old mid t reads)
    (adds_more (IsWrite c.area_file-file.result c.slot_of-slot.result c.set.new.spam) (IsEntrySlot old.content c.args.place c.args.area) mid new
    (λ g i x is. (is.0 ∙ c.area_file-file.ensures, is.1 ∙ slot_is, subst (λ (b : List ℕ). SaysOwner c.args.place c.args.area (old.content f at) b) (sym is.2) says))
    (c.write_guarded.ensures.adds (still_tells old mid reads.told t)))
