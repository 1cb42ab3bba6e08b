use Rattle.std.proofs.Common.{rules, ◌≡◌, ◌∙◌, ◌-◌, ℕ, ap, sym, inr, ⊎_elim, arith}
use Rattle.line_store.specs.area_files.Areas.{space_page_of}
use Rattle.stable_lines.specs.space_pages.Space.{owner_of}
use Rattle.line_store.specs.rdb_outside.Disk.{Pending, Puts}
use Rattle.stable_lines.specs.Slots.{area_file}
use Rattle.line_moves.specs.Changes.{KeepsLines}
use Rattle.line_moves.proofs.Runs.{reads_once, facts_read, writes_none, writes_one, more_behind, read_pends, here_at, still_tells}
use Rattle.line_moves.proofs.Entering.{enters, space_there, space_behind}
use Rattle.line_moves.proofs.OnlyPut.{keeps_lines, same_behind, elsewhere_behind, space_keeps}
use Rattle.line_moves.proofs.spaces.enter_page.Goals as goal

pub returns-in_err-read-clause-writes : goal.returns-in_err-read-clause-writes
returns-in_err-read-clause-writes g c = let v = g.D.Disk.view in let old = v c.args.disk.now in let mid = v c.read.new.self in
    let reads = reads_once old mid c.read.result c.read.ensures.counts c.read.ensures.kept in
    let f = area_file c.args.place.file in let at = space_page_of c.args.place.page - 1 in
    writes_none f at old mid reads

pub returns-in_err-read-clause-keeps : goal.returns-in_err-read-clause-keeps
returns-in_err-read-clause-keeps g c = let v = g.D.Disk.view in let old = v c.args.disk.now in let mid = v c.read.new.self in
    let reads = reads_once old mid c.read.result c.read.ensures.counts c.read.ensures.kept in
    let f = area_file c.args.place.file in let at = space_page_of c.args.place.page - 1 in
    λ t now was own within. facts_read old mid reads t now was

pub returns-then-is_err-clause-writes : goal.returns-then-is_err-clause-writes
returns-then-is_err-clause-writes g c = let v = g.D.Disk.view in let old = v c.args.disk.now in let mid = v c.read.new.self in
    let reads = reads_once old mid c.read.result c.read.ensures.counts c.read.ensures.kept in
    let f = area_file c.args.place.file in let at = space_page_of c.args.place.page - 1 in
    writes_none f at old mid reads

pub returns-then-is_err-clause-keeps : goal.returns-then-is_err-clause-keeps
returns-then-is_err-clause-keeps g c = let v = g.D.Disk.view in let old = v c.args.disk.now in let mid = v c.read.new.self in
    let reads = reads_once old mid c.read.result c.read.ensures.counts c.read.ensures.kept in
    let f = area_file c.args.place.file in let at = space_page_of c.args.place.page - 1 in
    λ t now was own within. facts_read old mid reads t now was

pub returns-then-owner-area-clause-writes : goal.returns-then-owner-area-clause-writes
returns-then-owner-area-clause-writes g c = let v = g.D.Disk.view in let old = v c.args.disk.now in let mid = v c.read.new.self in
    let reads = reads_once old mid c.read.result c.read.ensures.counts c.read.ensures.kept in
    let f = area_file c.args.place.file in let at = space_page_of c.args.place.page - 1 in
    writes_none f at old mid reads

pub returns-then-owner-area-clause-keeps : goal.returns-then-owner-area-clause-keeps
returns-then-owner-area-clause-keeps g c = let v = g.D.Disk.view in let old = v c.args.disk.now in let mid = v c.read.new.self in
    let reads = reads_once old mid c.read.result c.read.ensures.counts c.read.ensures.kept in
    let f = area_file c.args.place.file in let at = space_page_of c.args.place.page - 1 in
    λ t now was own within. facts_read old mid reads t now was

pub returns-in_err-write-clause-writes : goal.returns-in_err-write-clause-writes
returns-in_err-write-clause-writes g c = let v = g.D.Disk.view in let old = v c.args.disk.now in let mid = v c.read.new.self in
    let reads = reads_once old mid c.read.result c.read.ensures.counts c.read.ensures.kept in
    let f = area_file c.args.place.file in let at = space_page_of c.args.place.page - 1 in
    let new = v c.write.new.self in
    let slot_is : c.slot_of-slot.result ≡ at = c.slot_of-slot.ensures ∙ ap (λ (n : ℕ). n - 1) c.space_page_of-space_page.ensures in
    writes_one old mid new c.area_file-file.result f c.slot_of-slot.result at c.set.new.spam c.write.result c.area_file-file.ensures slot_is reads c.write.ensures.counts c.write.ensures.pending c.in_err-write.ensures.failed

pub returns-in_err-write-clause-keeps : goal.returns-in_err-write-clause-keeps
returns-in_err-write-clause-keeps g c = let v = g.D.Disk.view in let old = v c.args.disk.now in let mid = v c.read.new.self in
    let reads = reads_once old mid c.read.result c.read.ensures.counts c.read.ensures.kept in
    let f = area_file c.args.place.file in let at = space_page_of c.args.place.page - 1 in
    let new = v c.write.new.self in
    let slot_is : c.slot_of-slot.result ≡ at = c.slot_of-slot.ensures ∙ ap (λ (n : ℕ). n - 1) c.space_page_of-space_page.ensures in
    λ t now was own within.
    let left = g.met.D.Disk.content_left c.args.disk.now old.moment t (omega arith) in
    let there = read_pends old left c.area_file-file.result f c.slot_of-slot.result at c.read.new.into c.area_file-file.ensures slot_is (c.in_ok-read.ensures.bytes t) in
    let more = more_behind old mid new c.area_file-file.result f c.slot_of-slot.result at c.set.new.spam c.area_file-file.ensures slot_is t reads (c.write.ensures.pending (still_tells old mid reads.told t)) in
    enters (Pending old) (Pending new) now c.args.place.file c.args.place.page c.args.area c.read.new.into c.set.new.spam c.requires.file c.requires.page more was there
    (record { here = c.set.ensures.owner; others = c.set.ensures.other_owners; kept = c.set.ensures.kept }) own within

pub returns-clause-writes : goal.returns-clause-writes
returns-clause-writes g c = let v = g.D.Disk.view in let old = v c.args.disk.now in let mid = v c.read.new.self in
    let reads = reads_once old mid c.read.result c.read.ensures.counts c.read.ensures.kept in
    let f = area_file c.args.place.file in let at = space_page_of c.args.place.page - 1 in
    let new = v c.write.new.self in
    let slot_is : c.slot_of-slot.result ≡ at = c.slot_of-slot.ensures ∙ ap (λ (n : ℕ). n - 1) c.space_page_of-space_page.ensures in
    writes_one old mid new c.area_file-file.result f c.slot_of-slot.result at c.set.new.spam c.write.result c.area_file-file.ensures slot_is reads c.write.ensures.counts c.write.ensures.pending (λ t. inr (c.in_ok-write.ensures.written t))

pub returns-clause-keeps : goal.returns-clause-keeps
returns-clause-keeps g c = let v = g.D.Disk.view in let old = v c.args.disk.now in let mid = v c.read.new.self in
    let reads = reads_once old mid c.read.result c.read.ensures.counts c.read.ensures.kept in
    let f = area_file c.args.place.file in let at = space_page_of c.args.place.page - 1 in
    let new = v c.write.new.self in
    let slot_is : c.slot_of-slot.result ≡ at = c.slot_of-slot.ensures ∙ ap (λ (n : ℕ). n - 1) c.space_page_of-space_page.ensures in
    λ t now was own within.
    let left = g.met.D.Disk.content_left c.args.disk.now old.moment t (omega arith) in
    let there = read_pends old left c.area_file-file.result f c.slot_of-slot.result at c.read.new.into c.area_file-file.ensures slot_is (c.in_ok-read.ensures.bytes t) in
    let more = more_behind old mid new c.area_file-file.result f c.slot_of-slot.result at c.set.new.spam c.area_file-file.ensures slot_is t reads (c.write.ensures.pending (still_tells old mid reads.told t)) in
    enters (Pending old) (Pending new) now c.args.place.file c.args.place.page c.args.area c.read.new.into c.set.new.spam c.requires.file c.requires.page more was there
    (record { here = c.set.ensures.owner; others = c.set.ensures.other_owners; kept = c.set.ensures.kept }) own within

pub returns-then-owner-area-clause-entered : goal.returns-then-owner-area-clause-entered
returns-then-owner-area-clause-entered g c = let v = g.D.Disk.view in let old = v c.args.disk.now in let mid = v c.read.new.self in
    let reads = reads_once old mid c.read.result c.read.ensures.counts c.read.ensures.kept in
    let f = area_file c.args.place.file in let at = space_page_of c.args.place.page - 1 in
    let slot_is : c.slot_of-slot.result ≡ at = c.slot_of-slot.ensures ∙ ap (λ (n : ℕ). n - 1) c.space_page_of-space_page.ensures in
    λ t. ap (owner_of c.args.place.page) ((reads.keeps t).content f at ∙ here_at old c.area_file-file.result f c.slot_of-slot.result at c.read.new.into c.area_file-file.ensures slot_is (sym (c.in_ok-read.ensures.bytes t))) ∙ sym c.owner.ensures ∙ search rules

pub returns-clause-entered : goal.returns-clause-entered
returns-clause-entered g c = let v = g.D.Disk.view in let old = v c.args.disk.now in let mid = v c.read.new.self in
    let reads = reads_once old mid c.read.result c.read.ensures.counts c.read.ensures.kept in
    let f = area_file c.args.place.file in let at = space_page_of c.args.place.page - 1 in
    let new = v c.write.new.self in
    let slot_is : c.slot_of-slot.result ≡ at = c.slot_of-slot.ensures ∙ ap (λ (n : ℕ). n - 1) c.space_page_of-space_page.ensures in
    λ t. ap (owner_of c.args.place.page) (here_at new c.area_file-file.result f c.slot_of-slot.result at c.set.new.spam c.area_file-file.ensures slot_is (c.in_ok-write.ensures.written (still_tells old mid reads.told t)).here) ∙ c.set.ensures.owner

pub returns-in_err-read-clause-lines : goal.returns-in_err-read-clause-lines
returns-in_err-read-clause-lines g c = let v = g.D.Disk.view in let old = v c.args.disk.now in let mid = v c.read.new.self in
    let reads = reads_once old mid c.read.result c.read.ensures.counts c.read.ensures.kept in
    λ t now was. keeps_lines old.content mid.content (reads.keeps t).content

pub returns-then-is_err-clause-lines : goal.returns-then-is_err-clause-lines
returns-then-is_err-clause-lines g c = let v = g.D.Disk.view in let old = v c.args.disk.now in let mid = v c.read.new.self in
    let reads = reads_once old mid c.read.result c.read.ensures.counts c.read.ensures.kept in
    λ t now was. keeps_lines old.content mid.content (reads.keeps t).content

pub returns-then-owner-area-clause-lines : goal.returns-then-owner-area-clause-lines
returns-then-owner-area-clause-lines g c = let v = g.D.Disk.view in let old = v c.args.disk.now in let mid = v c.read.new.self in
    let reads = reads_once old mid c.read.result c.read.ensures.counts c.read.ensures.kept in
    λ t now was. keeps_lines old.content mid.content (reads.keeps t).content

pub returns-in_err-write-clause-lines : goal.returns-in_err-write-clause-lines
returns-in_err-write-clause-lines g c = let v = g.D.Disk.view in let old = v c.args.disk.now in let mid = v c.read.new.self in
    let reads = reads_once old mid c.read.result c.read.ensures.counts c.read.ensures.kept in
    let f = area_file c.args.place.file in let at = space_page_of c.args.place.page - 1 in
    let new = v c.write.new.self in let told = still_tells old mid reads.told in
    let slot_is : c.slot_of-slot.result ≡ at = c.slot_of-slot.ensures ∙ ap (λ (n : ℕ). n - 1) c.space_page_of-space_page.ensures in
    λ t now was.
    let left = g.met.D.Disk.content_left c.args.disk.now old.moment t (omega arith) in
    let there = read_pends old left c.area_file-file.result f c.slot_of-slot.result at c.read.new.into c.area_file-file.ensures slot_is (c.in_ok-read.ensures.bytes t) in
    let is_there = space_there (Pending old) now c.args.place.file c.args.place.page c.read.new.into c.requires.file c.requires.page was there in
    let same : old.content f at ≡ c.read.new.into = here_at old c.area_file-file.result f c.slot_of-slot.result at c.read.new.into c.area_file-file.ensures slot_is (sym (c.in_ok-read.ensures.bytes t)) in
    let set : Puts c.area_file-file.result c.slot_of-slot.result c.set.new.spam mid.content new.content → KeepsLines old.content new.content = λ puts. space_keeps old.content new.content c.args.place.file (space_page_of c.args.place.page) c.read.new.into c.set.new.spam same is_there (space_behind (space_page_of c.args.place.page) c.set.new.spam is_there.page (c.set.ensures.kept is_there))
    (here_at new c.area_file-file.result f c.slot_of-slot.result at c.set.new.spam c.area_file-file.ensures slot_is puts.here)
    (elsewhere_behind old mid new c.area_file-file.result c.args.place.file (space_page_of c.args.place.page) c.slot_of-slot.result c.set.new.spam c.area_file-file.ensures slot_is (reads.keeps t).content puts) in
    ⊎_elim (same_behind old mid new (reads.keeps t).content) set (c.in_err-write.ensures.failed (told t))

pub returns-clause-lines : goal.returns-clause-lines
returns-clause-lines g c = let v = g.D.Disk.view in let old = v c.args.disk.now in let mid = v c.read.new.self in
    let reads = reads_once old mid c.read.result c.read.ensures.counts c.read.ensures.kept in
    let f = area_file c.args.place.file in let at = space_page_of c.args.place.page - 1 in
    let new = v c.write.new.self in let told = still_tells old mid reads.told in
    let slot_is : c.slot_of-slot.result ≡ at = c.slot_of-slot.ensures ∙ ap (λ (n : ℕ). n - 1) c.space_page_of-space_page.ensures in
    λ t now was.
    let left = g.met.D.Disk.content_left c.args.disk.now old.moment t (omega arith) in
    let there = read_pends old left c.area_file-file.result f c.slot_of-slot.result at c.read.new.into c.area_file-file.ensures slot_is (c.in_ok-read.ensures.bytes t) in
    let is_there = space_there (Pending old) now c.args.place.file c.args.place.page c.read.new.into c.requires.file c.requires.page was there in
    let same : old.content f at ≡ c.read.new.into = here_at old c.area_file-file.result f c.slot_of-slot.result at c.read.new.into c.area_file-file.ensures slot_is (sym (c.in_ok-read.ensures.bytes t)) in
    let set : Puts c.area_file-file.result c.slot_of-slot.result c.set.new.spam mid.content new.content → KeepsLines old.content new.content = λ puts. space_keeps old.content new.content c.args.place.file (space_page_of c.args.place.page) c.read.new.into c.set.new.spam same is_there (space_behind (space_page_of c.args.place.page) c.set.new.spam is_there.page (c.set.ensures.kept is_there))
    (here_at new c.area_file-file.result f c.slot_of-slot.result at c.set.new.spam c.area_file-file.ensures slot_is puts.here)
    (elsewhere_behind old mid new c.area_file-file.result c.args.place.file (space_page_of c.args.place.page) c.slot_of-slot.result c.set.new.spam c.area_file-file.ensures slot_is (reads.keeps t).content puts) in
    set (c.in_ok-write.ensures.written (told t))

pub returns-in_err-read-clause-beside : goal.returns-in_err-read-clause-beside
returns-in_err-read-clause-beside g c = let v = g.D.Disk.view in let old = v c.args.disk.now in let mid = v c.read.new.self in
    let reads = reads_once old mid c.read.result c.read.ensures.counts c.read.ensures.kept in
    λ t other is. ap (owner_of other) ((reads.keeps t).content (area_file c.args.place.file) (space_page_of c.args.place.page - 1))

pub returns-then-is_err-clause-beside : goal.returns-then-is_err-clause-beside
returns-then-is_err-clause-beside g c = let v = g.D.Disk.view in let old = v c.args.disk.now in let mid = v c.read.new.self in
    let reads = reads_once old mid c.read.result c.read.ensures.counts c.read.ensures.kept in
    λ t other is. ap (owner_of other) ((reads.keeps t).content (area_file c.args.place.file) (space_page_of c.args.place.page - 1))

pub returns-then-owner-area-clause-beside : goal.returns-then-owner-area-clause-beside
returns-then-owner-area-clause-beside g c = let v = g.D.Disk.view in let old = v c.args.disk.now in let mid = v c.read.new.self in
    let reads = reads_once old mid c.read.result c.read.ensures.counts c.read.ensures.kept in
    λ t other is. ap (owner_of other) ((reads.keeps t).content (area_file c.args.place.file) (space_page_of c.args.place.page - 1))

pub returns-in_err-write-clause-beside : goal.returns-in_err-write-clause-beside
returns-in_err-write-clause-beside g c = let v = g.D.Disk.view in let old = v c.args.disk.now in let mid = v c.read.new.self in
    let reads = reads_once old mid c.read.result c.read.ensures.counts c.read.ensures.kept in
    let f = area_file c.args.place.file in let at = space_page_of c.args.place.page - 1 in
    let new = v c.write.new.self in let told = still_tells old mid reads.told in
    let slot_is : c.slot_of-slot.result ≡ at = c.slot_of-slot.ensures ∙ ap (λ (n : ℕ). n - 1) c.space_page_of-space_page.ensures in
    λ t other is.
    let same : old.content f at ≡ c.read.new.into = here_at old c.area_file-file.result f c.slot_of-slot.result at c.read.new.into c.area_file-file.ensures slot_is (sym (c.in_ok-read.ensures.bytes t)) in
    let set : Puts c.area_file-file.result c.slot_of-slot.result c.set.new.spam mid.content new.content → owner_of other (new.content f at) ≡ owner_of other (old.content f at) = λ puts. ap (owner_of other) (here_at new c.area_file-file.result f c.slot_of-slot.result at c.set.new.spam c.area_file-file.ensures slot_is puts.here) ∙ c.set.ensures.other_owners other is ∙ ap (owner_of other) (sym same) in
    ⊎_elim (λ none. ap (owner_of other) (none f at ∙ (reads.keeps t).content f at)) set (c.in_err-write.ensures.failed (told t))

pub returns-clause-beside : goal.returns-clause-beside
returns-clause-beside g c = let v = g.D.Disk.view in let old = v c.args.disk.now in let mid = v c.read.new.self in
    let reads = reads_once old mid c.read.result c.read.ensures.counts c.read.ensures.kept in
    let f = area_file c.args.place.file in let at = space_page_of c.args.place.page - 1 in
    let new = v c.write.new.self in let told = still_tells old mid reads.told in
    let slot_is : c.slot_of-slot.result ≡ at = c.slot_of-slot.ensures ∙ ap (λ (n : ℕ). n - 1) c.space_page_of-space_page.ensures in
    λ t other is.
    let same : old.content f at ≡ c.read.new.into = here_at old c.area_file-file.result f c.slot_of-slot.result at c.read.new.into c.area_file-file.ensures slot_is (sym (c.in_ok-read.ensures.bytes t)) in
    let set : Puts c.area_file-file.result c.slot_of-slot.result c.set.new.spam mid.content new.content → owner_of other (new.content f at) ≡ owner_of other (old.content f at) = λ puts. ap (owner_of other) (here_at new c.area_file-file.result f c.slot_of-slot.result at c.set.new.spam c.area_file-file.ensures slot_is puts.here) ∙ c.set.ensures.other_owners other is ∙ ap (owner_of other) (sym same) in
    set (c.in_ok-write.ensures.written (told t))
