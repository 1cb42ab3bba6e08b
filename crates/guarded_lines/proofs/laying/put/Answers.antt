use Rattle.std.proofs.Common.{◌≡◌, ◌∙◌, ◌-◌, List, ℕ, ap, sym, subst}
use Rattle.rdb_types.specs.declared.file.FileId.{FileId}
use Rattle.rdb_page.specs.Whole.{IsPageOf}
use Rattle.stable_lines.specs.Slots.{area_file}
use Rattle.line_moves.proofs.FirstLines.{started_page}
use Rattle.line_moves.proofs.OnlyPut.{elsewhere_behind}
use Rattle.line_moves.proofs.Runs.{reads_once, here_at, still_tells}
use Rattle.guarded_root.specs.Guarded.{IsFile, IsWrite}
use Rattle.guarded_root.proofs.Adding.{adds_read, adds_more, adds_on}
use Rattle.guarded_root.proofs.Sweeping.{read_run, run_on, wider_run}
use Rattle.guarded_lines.specs.Laying.{IsArea, HasRoom, BearsLine, IsLineSlot}
use Rattle.guarded_lines.proofs.Rooms.{fits, bears, puts_on}
use Rattle.guarded_lines.proofs.laying.put.Goals as goal

pub returns-in_err-read-clause-runs : goal.returns-in_err-read-clause-runs
returns-in_err-read-clause-runs g c = let v = g.D.Disk.view in let old = v c.args.disk.now in let mid = v c.read.new.self in
    read_run IsArea old mid (reads_once old mid c.read.result c.read.ensures.counts c.read.ensures.kept)

pub returns-in_default-clause-runs : goal.returns-in_default-clause-runs
returns-in_default-clause-runs g c = let v = g.D.Disk.view in let old = v c.args.disk.now in let mid = v c.read.new.self in
    read_run IsArea old mid (reads_once old mid c.read.result c.read.ensures.counts c.read.ensures.kept)

pub returns-in_default-clause-bad : goal.returns-in_default-clause-bad
returns-in_default-clause-bad g c = let old = g.D.Disk.view c.args.disk.now in
    let key = c.args.key in let place = c.args.place in let y = c.read.new.into in
    λ file slot is t page room allowed.
    let same : y ≡ old.content (area_file place.file) (place.page - 1) = sym (here_at old c.area_file-file.result _ c.slot_of-slot.result _ y c.area_file-file.ensures c.slot_of-slot.ensures (sym (c.in_ok-read.ensures.bytes t))) in
    let page_y = subst (λ (b : List ℕ). IsPageOf place.file place.page b) (sym same) page in
    let room_y = subst (λ (b : List ℕ). HasRoom key c.args.class b) (sym same) room in
    c.in_default.ensures.refused (started_page key place c.args.class y c.start.new.page c.requires.place c.start.ensures.started page_y)
    (fits key place c.args.class y c.start.new.page c.requires.place c.start.ensures.started room_y c.args.value.now page_y allowed)

pub returns-in_err-write_guarded-clause-runs : goal.returns-in_err-write_guarded-clause-runs
returns-in_err-write_guarded-clause-runs g c = let v = g.D.Disk.view in let old = v c.args.disk.now in let mid = v c.read.new.self in let new = v c.write_guarded.new.disk in
    run_on IsArea old mid new (read_run IsArea old mid (reads_once old mid c.read.result c.read.ensures.counts c.read.ensures.kept))
    (wider_run (IsFile c.area_file-file.result) IsArea mid new (λ file is. ap (λ (f : FileId). f.kind) (is ∙ c.area_file-file.ensures)) c.write_guarded.ensures.runs)

pub returns-clause-runs : goal.returns-clause-runs
returns-clause-runs g c = let v = g.D.Disk.view in let old = v c.args.disk.now in let mid = v c.read.new.self in let new = v c.write_guarded.new.disk in
    run_on IsArea old mid new (read_run IsArea old mid (reads_once old mid c.read.result c.read.ensures.counts c.read.ensures.kept))
    (wider_run (IsFile c.area_file-file.result) IsArea mid new (λ file is. ap (λ (f : FileId). f.kind) (is ∙ c.area_file-file.ensures)) c.write_guarded.ensures.runs)

pub returns-clause-put : goal.returns-clause-put
returns-clause-put g c = let v = g.D.Disk.view in let old = v c.args.disk.now in let mid = v c.read.new.self in let new = v c.write_guarded.new.disk in
    let reads = reads_once old mid c.read.result c.read.ensures.counts c.read.ensures.kept in
    let key = c.args.key in let place = c.args.place in let y = c.read.new.into in let z = c.start.new.page in let x = c.put_on.new.page in
    λ t page room.
    let f = area_file place.file in let at = place.page - 1 in
    let puts = c.in_ok-write_guarded.ensures.written (still_tells old mid reads.told t) in
    let same : y ≡ old.content f at = sym (here_at old c.area_file-file.result f c.slot_of-slot.result at y c.area_file-file.ensures c.slot_of-slot.ensures (sym (c.in_ok-read.ensures.bytes t))) in
    let page_y = subst (λ (b : List ℕ). IsPageOf place.file place.page b) (sym same) page in
    let room_y = subst (λ (b : List ℕ). HasRoom key c.args.class b) (sym same) room in
    let page_z = started_page key place c.args.class y z c.requires.place c.start.ensures.started page_y in
    puts_on key place c.args.class y z c.requires.place c.start.ensures.started room_y c.args.value.now old.content new.content x same
    (c.in-Ok.ensures.puts page_z) (c.in-Ok.ensures.here page_z)
    (here_at new c.area_file-file.result f c.slot_of-slot.result at x c.area_file-file.ensures c.slot_of-slot.ensures puts.here)
    (elsewhere_behind old mid new c.area_file-file.result place.file place.page c.slot_of-slot.result x c.area_file-file.ensures c.slot_of-slot.ensures (reads.keeps t).content puts)

pub returns-in_err-read-clause-adds : goal.returns-in_err-read-clause-adds
returns-in_err-read-clause-adds g c = λ t page room. let v = g.D.Disk.view in let old = v c.args.disk.now in let mid = v c.read.new.self in
    adds_read (IsLineSlot old.content c.args.key c.args.place c.args.class c.args.value.now) old mid t (reads_once old mid c.read.result c.read.ensures.counts c.read.ensures.kept)

pub returns-in_default-clause-adds : goal.returns-in_default-clause-adds
returns-in_default-clause-adds g c = λ t page room. let v = g.D.Disk.view in let old = v c.args.disk.now in let mid = v c.read.new.self in
    adds_read (IsLineSlot old.content c.args.key c.args.place c.args.class c.args.value.now) old mid t (reads_once old mid c.read.result c.read.ensures.counts c.read.ensures.kept)

pub returns-in_err-write_guarded-clause-adds : goal.returns-in_err-write_guarded-clause-adds
returns-in_err-write_guarded-clause-adds g c = let v = g.D.Disk.view in let old = v c.args.disk.now in let mid = v c.read.new.self in let new = v c.write_guarded.new.disk in
    let reads = reads_once old mid c.read.result c.read.ensures.counts c.read.ensures.kept in
    let key = c.args.key in let place = c.args.place in let y = c.read.new.into in let z = c.start.new.page in let x = c.put_on.new.page in
    λ t page room.
    let f = area_file place.file in let at = place.page - 1 in
    let same : y ≡ old.content f at = sym (here_at old c.area_file-file.result f c.slot_of-slot.result at y c.area_file-file.ensures c.slot_of-slot.ensures (sym (c.in_ok-read.ensures.bytes t))) in
    let page_y = subst (λ (b : List ℕ). IsPageOf place.file place.page b) (sym same) page in
    let room_y = subst (λ (b : List ℕ). HasRoom key c.args.class b) (sym same) room in
    let page_z = started_page key place c.args.class y z c.requires.place c.start.ensures.started page_y in
    let with_it : BearsLine key place c.args.class c.args.value.now (old.content f at) x = subst (λ (b : List ℕ). BearsLine key place c.args.class c.args.value.now b x) same
    (bears key place c.args.class y z c.requires.place c.start.ensures.started room_y c.args.value.now x (c.in-Ok.ensures.puts page_z) (c.in-Ok.ensures.here page_z)) in
    adds_on (IsLineSlot old.content key place c.args.class c.args.value.now) old mid new (adds_read (IsLineSlot old.content key place c.args.class c.args.value.now) old mid t reads)
    (adds_more (IsWrite c.area_file-file.result c.slot_of-slot.result x) (IsLineSlot old.content key place c.args.class c.args.value.now) mid new
    (λ g i b is. (is.0 ∙ c.area_file-file.ensures, is.1 ∙ c.slot_of-slot.ensures, subst (λ (l : List ℕ). BearsLine key place c.args.class c.args.value.now (old.content f at) l) (sym is.2) with_it))
    (c.write_guarded.ensures.adds (still_tells old mid reads.told t)))

pub returns-clause-adds : goal.returns-clause-adds
returns-clause-adds g c = let v = g.D.Disk.view in let old = v c.args.disk.now in let mid = v c.read.new.self in let new = v c.write_guarded.new.disk in
    let reads = reads_once old mid c.read.result c.read.ensures.counts c.read.ensures.kept in
    let key = c.args.key in let place = c.args.place in let y = c.read.new.into in let z = c.start.new.page in let x = c.put_on.new.page in
    λ t page room.
    let f = area_file place.file in let at = place.page - 1 in
    let same : y ≡ old.content f at = sym (here_at old c.area_file-file.result f c.slot_of-slot.result at y c.area_file-file.ensures c.slot_of-slot.ensures (sym (c.in_ok-read.ensures.bytes t))) in
    let page_y = subst (λ (b : List ℕ). IsPageOf place.file place.page b) (sym same) page in
    let room_y = subst (λ (b : List ℕ). HasRoom key c.args.class b) (sym same) room in
    let page_z = started_page key place c.args.class y z c.requires.place c.start.ensures.started page_y in
    let with_it : BearsLine key place c.args.class c.args.value.now (old.content f at) x = subst (λ (b : List ℕ). BearsLine key place c.args.class c.args.value.now b x) same
    (bears key place c.args.class y z c.requires.place c.start.ensures.started room_y c.args.value.now x (c.in-Ok.ensures.puts page_z) (c.in-Ok.ensures.here page_z)) in
    adds_on (IsLineSlot old.content key place c.args.class c.args.value.now) old mid new (adds_read (IsLineSlot old.content key place c.args.class c.args.value.now) old mid t reads)
    (adds_more (IsWrite c.area_file-file.result c.slot_of-slot.result x) (IsLineSlot old.content key place c.args.class c.args.value.now) mid new
    (λ g i b is. (is.0 ∙ c.area_file-file.ensures, is.1 ∙ c.slot_of-slot.ensures, subst (λ (l : List ℕ). BearsLine key place c.args.class c.args.value.now (old.content f at) l) (sym is.2) with_it))
    (c.write_guarded.ensures.adds (still_tells old mid reads.told t)))
