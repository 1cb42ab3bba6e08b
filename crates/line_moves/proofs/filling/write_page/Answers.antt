use Rattle.std.proofs.Common.{arith, inl, inr, ⊎_elim, ◌≡◌, ◌-◌, ◌≤◌, ◌∙◌, ℕ, List, sym, subst, slice_index_or}
use Rattle.line_store.specs.rdb_page.Page.{IsUnused}
use Rattle.line_store.specs.rdb_outside.Disk.{Pending, Puts}
use Rattle.stable_lines.specs.Slots.{area_file}
use Rattle.line_moves.specs.Lines.{IsStarted, PutsOnly}
use Rattle.line_moves.proofs.Runs.{reads_once, facts_read, writes_none, writes_one, more_behind, read_pends, here_at, still_tells}
use Rattle.line_moves.proofs.KeyPlaces.{area_is}
use Rattle.line_moves.proofs.PageWrite.{page_written}
use Rattle.line_moves.proofs.FilledPages.{SameLines, some_there, got_pair, sure_filled, put_more}
use Rattle.line_moves.proofs.OnlyPut.{keeps_lines, same_behind, elsewhere_behind, puts_only}
use Rattle.line_moves.specs.declared.places.Place.{Place}
use Rattle.line_moves.specs.Changes.{IsForArea}
use Rattle.line_moves.specs.Classes.{LieForArea}
use Rattle.line_moves.proofs.PageClasses.{owners_stay, owners_behind, owner_begun, classes_read, class_kept, class_begun, classes_behind}
use Rattle.line_moves.proofs.FirstLines.{same_lines, started_page, sure_started, class_started}
use Rattle.line_moves.proofs.filling.write_page.Goals as goal

pub slot_of-slot-requires : goal.slot_of-slot-requires
slot_of-slot-requires g c = let got = some_there c.args.lines.now c.args.from c.requires.within in (c.requires.place got.0 got.1).is_data.is_page.first

pub returns-in_err-read-clause-writes : goal.returns-in_err-read-clause-writes
returns-in_err-read-clause-writes g c = let v = g.D.Disk.view in let old = v c.args.disk.now in let mid = v c.read.new.self in
    let reads = reads_once old mid c.read.result c.read.ensures.counts c.read.ensures.kept in
    let f = area_file c.args.place.file in let at = c.args.place.page - 1 in
    writes_none f at old mid reads

pub returns-in_err-read-clause-keeps : goal.returns-in_err-read-clause-keeps
returns-in_err-read-clause-keeps g c = let v = g.D.Disk.view in let old = v c.args.disk.now in let mid = v c.read.new.self in
    let reads = reads_once old mid c.read.result c.read.ensures.counts c.read.ensures.kept in
    let f = area_file c.args.place.file in let at = c.args.place.page - 1 in
    λ t now was may ready. facts_read old mid reads t now was

pub returns-in_default-clause-writes : goal.returns-in_default-clause-writes
returns-in_default-clause-writes g c = let v = g.D.Disk.view in let old = v c.args.disk.now in let mid = v c.read.new.self in
    let reads = reads_once old mid c.read.result c.read.ensures.counts c.read.ensures.kept in
    let f = area_file c.args.place.file in let at = c.args.place.page - 1 in
    writes_none f at old mid reads

pub returns-in_default-clause-keeps : goal.returns-in_default-clause-keeps
returns-in_default-clause-keeps g c = let v = g.D.Disk.view in let old = v c.args.disk.now in let mid = v c.read.new.self in
    let reads = reads_once old mid c.read.result c.read.ensures.counts c.read.ensures.kept in
    let f = area_file c.args.place.file in let at = c.args.place.page - 1 in
    λ t now was may ready. facts_read old mid reads t now was

pub returns-in_err-write-clause-writes : goal.returns-in_err-write-clause-writes
returns-in_err-write-clause-writes g c = let v = g.D.Disk.view in let old = v c.args.disk.now in let mid = v c.read.new.self in
    let reads = reads_once old mid c.read.result c.read.ensures.counts c.read.ensures.kept in
    let f = area_file c.args.place.file in let at = c.args.place.page - 1 in let new = v c.write.new.self in
    writes_one old mid new c.area_file-file.result f c.slot_of-slot.result at c.fill.new.page c.write.result c.area_file-file.ensures c.slot_of-slot.ensures reads c.write.ensures.counts c.write.ensures.pending c.in_err-write.ensures.failed

pub returns-in_err-write-clause-keeps : goal.returns-in_err-write-clause-keeps
returns-in_err-write-clause-keeps g c = let v = g.D.Disk.view in let old = v c.args.disk.now in let mid = v c.read.new.self in
    let reads = reads_once old mid c.read.result c.read.ensures.counts c.read.ensures.kept in
    let f = area_file c.args.place.file in let at = c.args.place.page - 1 in
    let new = v c.write.new.self in let told = still_tells old mid reads.told in
    let y = c.read.new.into in let z = c.start.new.page in let x = c.fill.new.page in
    let got = got_pair c.args.lines.now c.args.from c.index-lines-from.result c.index-lines-from.result c.requires.within in
    let names = c.requires.place _ got in
    let first = (slice_index_or c.args.lines.now c.args.from c.index-lines-from.result).0 in
    let further = c.in-Ok.ensures.further in
    λ t now was may ready.
    let left = g.met.D.Disk.content_left c.args.disk.now old.moment t (omega arith) in
    let same : y ≡ old.content f at = c.in_ok-read.ensures.bytes t ∙ (λ i. old.content (c.area_file-file.ensures i) (c.slot_of-slot.ensures i)) in
    let there = read_pends old left c.area_file-file.result f c.slot_of-slot.result at y c.area_file-file.ensures c.slot_of-slot.ensures (c.in_ok-read.ensures.bytes t) in
    let is_page = started_page first c.args.place c.args.class y z names c.start.ensures.started (was.pages.page c.args.place.file c.args.place.page y (area_is first c.args.place names) names.is_data there) in
    let fills = c.in-Ok.ensures.fills is_page in
    let within = subst (λ (n : ℕ). n ≤ now.limits.pages) (sym names.page) (may c.args.from _ got).within in
    let sure = sure_started (Pending old) now first c.args.place c.args.class y z names was there within (λ unused. ready (subst IsUnused same unused) _ got) c.start.ensures.started in
    let full = sure_filled (Pending old) now c.args.lines.now c.args.from c.in-Ok.next c.args.place z x (omega (arith, further.0)) sure fills may in
    let more = more_behind old mid new c.area_file-file.result f c.slot_of-slot.result at x c.area_file-file.ensures c.slot_of-slot.ensures t reads (c.write.ensures.pending (told t)) in
    page_written (Pending old) (Pending new) now c.args.place.file c.args.place.page x names.is_data more was full

pub returns-clause-writes : goal.returns-clause-writes
returns-clause-writes g c = let v = g.D.Disk.view in let old = v c.args.disk.now in let mid = v c.read.new.self in
    let reads = reads_once old mid c.read.result c.read.ensures.counts c.read.ensures.kept in
    let f = area_file c.args.place.file in let at = c.args.place.page - 1 in let new = v c.write.new.self in
    writes_one old mid new c.area_file-file.result f c.slot_of-slot.result at c.fill.new.page c.write.result c.area_file-file.ensures c.slot_of-slot.ensures reads c.write.ensures.counts c.write.ensures.pending (λ t. inr (c.in_ok-write.ensures.written t))

pub returns-clause-keeps : goal.returns-clause-keeps
returns-clause-keeps g c = let v = g.D.Disk.view in let old = v c.args.disk.now in let mid = v c.read.new.self in
    let reads = reads_once old mid c.read.result c.read.ensures.counts c.read.ensures.kept in
    let f = area_file c.args.place.file in let at = c.args.place.page - 1 in
    let new = v c.write.new.self in let told = still_tells old mid reads.told in
    let y = c.read.new.into in let z = c.start.new.page in let x = c.fill.new.page in
    let got = got_pair c.args.lines.now c.args.from c.index-lines-from.result c.index-lines-from.result c.requires.within in
    let names = c.requires.place _ got in
    let first = (slice_index_or c.args.lines.now c.args.from c.index-lines-from.result).0 in
    let further = c.in-Ok.ensures.further in
    λ t now was may ready.
    let left = g.met.D.Disk.content_left c.args.disk.now old.moment t (omega arith) in
    let same : y ≡ old.content f at = c.in_ok-read.ensures.bytes t ∙ (λ i. old.content (c.area_file-file.ensures i) (c.slot_of-slot.ensures i)) in
    let there = read_pends old left c.area_file-file.result f c.slot_of-slot.result at y c.area_file-file.ensures c.slot_of-slot.ensures (c.in_ok-read.ensures.bytes t) in
    let is_page = started_page first c.args.place c.args.class y z names c.start.ensures.started (was.pages.page c.args.place.file c.args.place.page y (area_is first c.args.place names) names.is_data there) in
    let fills = c.in-Ok.ensures.fills is_page in
    let within = subst (λ (n : ℕ). n ≤ now.limits.pages) (sym names.page) (may c.args.from _ got).within in
    let sure = sure_started (Pending old) now first c.args.place c.args.class y z names was there within (λ unused. ready (subst IsUnused same unused) _ got) c.start.ensures.started in
    let full = sure_filled (Pending old) now c.args.lines.now c.args.from c.in-Ok.next c.args.place z x (omega (arith, further.0)) sure fills may in
    let more = more_behind old mid new c.area_file-file.result f c.slot_of-slot.result at x c.area_file-file.ensures c.slot_of-slot.ensures t reads (c.write.ensures.pending (told t)) in
    page_written (Pending old) (Pending new) now c.args.place.file c.args.place.page x names.is_data more was full

pub returns-clause-put : goal.returns-clause-put
returns-clause-put g c = let v = g.D.Disk.view in let old = v c.args.disk.now in let mid = v c.read.new.self in
    let reads = reads_once old mid c.read.result c.read.ensures.counts c.read.ensures.kept in
    let f = area_file c.args.place.file in let at = c.args.place.page - 1 in
    let new = v c.write.new.self in let told = still_tells old mid reads.told in
    let y = c.read.new.into in let z = c.start.new.page in let x = c.fill.new.page in
    let got = got_pair c.args.lines.now c.args.from c.index-lines-from.result c.index-lines-from.result c.requires.within in
    let names = c.requires.place _ got in
    let first = (slice_index_or c.args.lines.now c.args.from c.index-lines-from.result).0 in
    let further = c.in-Ok.ensures.further in
    λ t now was put.
    let left = g.met.D.Disk.content_left c.args.disk.now old.moment t (omega arith) in
    let same : y ≡ old.content f at = c.in_ok-read.ensures.bytes t ∙ (λ i. old.content (c.area_file-file.ensures i) (c.slot_of-slot.ensures i)) in
    let there = read_pends old left c.area_file-file.result f c.slot_of-slot.result at y c.area_file-file.ensures c.slot_of-slot.ensures (c.in_ok-read.ensures.bytes t) in
    let is_page = started_page first c.args.place c.args.class y z names c.start.ensures.started (was.pages.page c.args.place.file c.args.place.page y (area_is first c.args.place names) names.is_data there) in
    let fills = c.in-Ok.ensures.fills is_page in
    let here : new.content f at ≡ x = here_at new c.area_file-file.result f c.slot_of-slot.result at x c.area_file-file.ensures c.slot_of-slot.ensures (c.in_ok-write.ensures.written (told t)).here in
    let lines_of = same_lines c.args.place first.area c.args.class y z c.start.ensures.started in
    put_more old.content new.content c.args.lines.now c.args.from c.in-Ok.next c.args.place z x c.requires.distinct (subst (λ (b : List ℕ). SameLines c.args.place b z) same lines_of) fills here
    (λ k i off. (c.in_ok-write.ensures.written (told t)).others k i (λ e n. off (e ∙ c.area_file-file.ensures) (n ∙ c.slot_of-slot.ensures)) ∙ (reads.keeps t).content k i) put

pub returns-clause-class : goal.returns-clause-class
returns-clause-class g c = let v = g.D.Disk.view in let old = v c.args.disk.now in let mid = v c.read.new.self in
    let reads = reads_once old mid c.read.result c.read.ensures.counts c.read.ensures.kept in
    let f = area_file c.args.place.file in let at = c.args.place.page - 1 in
    let new = v c.write.new.self in let told = still_tells old mid reads.told in
    let y = c.read.new.into in let z = c.start.new.page in let x = c.fill.new.page in
    let got = got_pair c.args.lines.now c.args.from c.index-lines-from.result c.index-lines-from.result c.requires.within in
    let names = c.requires.place _ got in
    let first = (slice_index_or c.args.lines.now c.args.from c.index-lines-from.result).0 in
    let further = c.in-Ok.ensures.further in
    λ t now was.
    let left = g.met.D.Disk.content_left c.args.disk.now old.moment t (omega arith) in
    let same : y ≡ old.content f at = c.in_ok-read.ensures.bytes t ∙ (λ i. old.content (c.area_file-file.ensures i) (c.slot_of-slot.ensures i)) in
    let there = read_pends old left c.area_file-file.result f c.slot_of-slot.result at y c.area_file-file.ensures c.slot_of-slot.ensures (c.in_ok-read.ensures.bytes t) in
    let is_page = started_page first c.args.place c.args.class y z names c.start.ensures.started (was.pages.page c.args.place.file c.args.place.page y (area_is first c.args.place names) names.is_data there) in
    let fills = c.in-Ok.ensures.fills is_page in
    let here : new.content f at ≡ x = here_at new c.area_file-file.result f c.slot_of-slot.result at x c.area_file-file.ensures c.slot_of-slot.ensures (c.in_ok-write.ensures.written (told t)).here in
    class_started c.args.place first.area c.args.class (old.content f at) z x (new.content f at) (subst (λ (b : List ℕ). IsStarted c.args.place first.area c.args.class b z) same c.start.ensures.started) fills.same_class here

pub returns-in_default-clause-bad : goal.returns-in_default-clause-bad
returns-in_default-clause-bad g c = let v = g.D.Disk.view in let old = v c.args.disk.now in let mid = v c.read.new.self in
    let reads = reads_once old mid c.read.result c.read.ensures.counts c.read.ensures.kept in
    let f = area_file c.args.place.file in let at = c.args.place.page - 1 in
    let y = c.read.new.into in let z = c.start.new.page in
    let got = got_pair c.args.lines.now c.args.from c.index-lines-from.result c.index-lines-from.result c.requires.within in
    let names = c.requires.place _ got in
    λ file slot is t page fit.
    let same : y ≡ old.content f at = c.in_ok-read.ensures.bytes t ∙ (λ i. old.content (c.area_file-file.ensures i) (c.slot_of-slot.ensures i)) in
    let started = subst (λ (b : List ℕ). IsStarted c.args.place (slice_index_or c.args.lines.now c.args.from c.index-lines-from.result).0.area c.args.class b z) same c.start.ensures.started in
    c.in_default.ensures.refused (started_page _ c.args.place c.args.class (old.content f at) z names started page) (fit _ z got started)

pub returns-in_err-read-clause-changes : goal.returns-in_err-read-clause-changes
returns-in_err-read-clause-changes g c = let v = g.D.Disk.view in let old = v c.args.disk.now in let mid = v c.read.new.self in
    let reads = reads_once old mid c.read.result c.read.ensures.counts c.read.ensures.kept in
    λ t now was key. inl (keeps_lines old.content mid.content (reads.keeps t).content key)

pub returns-in_default-clause-changes : goal.returns-in_default-clause-changes
returns-in_default-clause-changes g c = let v = g.D.Disk.view in let old = v c.args.disk.now in let mid = v c.read.new.self in
    let reads = reads_once old mid c.read.result c.read.ensures.counts c.read.ensures.kept in
    λ t now was key. inl (keeps_lines old.content mid.content (reads.keeps t).content key)

pub returns-in_err-write-clause-changes : goal.returns-in_err-write-clause-changes
returns-in_err-write-clause-changes g c = let v = g.D.Disk.view in let old = v c.args.disk.now in let mid = v c.read.new.self in
    let reads = reads_once old mid c.read.result c.read.ensures.counts c.read.ensures.kept in
    let f = area_file c.args.place.file in let at = c.args.place.page - 1 in
    let new = v c.write.new.self in let told = still_tells old mid reads.told in
    let y = c.read.new.into in let z = c.start.new.page in let x = c.fill.new.page in
    let got = got_pair c.args.lines.now c.args.from c.index-lines-from.result c.index-lines-from.result c.requires.within in
    let names = c.requires.place _ got in
    let first = (slice_index_or c.args.lines.now c.args.from c.index-lines-from.result).0 in
    let further = c.in-Ok.ensures.further in
    λ t now was.
    let left = g.met.D.Disk.content_left c.args.disk.now old.moment t (omega arith) in
    let same : y ≡ old.content f at = c.in_ok-read.ensures.bytes t ∙ (λ i. old.content (c.area_file-file.ensures i) (c.slot_of-slot.ensures i)) in
    let there = read_pends old left c.area_file-file.result f c.slot_of-slot.result at y c.area_file-file.ensures c.slot_of-slot.ensures (c.in_ok-read.ensures.bytes t) in
    let is_page = started_page first c.args.place c.args.class y z names c.start.ensures.started (was.pages.page c.args.place.file c.args.place.page y (area_is first c.args.place names) names.is_data there) in
    let lines_of = subst (λ (b : List ℕ). SameLines c.args.place b z) same (same_lines c.args.place first.area c.args.class y z c.start.ensures.started) in
    let put : Puts c.area_file-file.result c.slot_of-slot.result x mid.content new.content → PutsOnly c.args.lines.now old.content new.content = λ puts. puts_only old.content new.content c.args.lines.now c.args.from c.in-Ok.next c.args.place z x (omega (arith, further.0)) lines_of (c.in-Ok.ensures.fills is_page)
    (here_at new c.area_file-file.result f c.slot_of-slot.result at x c.area_file-file.ensures c.slot_of-slot.ensures puts.here)
    (elsewhere_behind old mid new c.area_file-file.result c.args.place.file c.args.place.page c.slot_of-slot.result x c.area_file-file.ensures c.slot_of-slot.ensures (reads.keeps t).content puts) in
    ⊎_elim (λ none key. inl (same_behind old mid new (reads.keeps t).content none key)) put (c.in_err-write.ensures.failed (told t))

pub returns-clause-changes : goal.returns-clause-changes
returns-clause-changes g c = let v = g.D.Disk.view in let old = v c.args.disk.now in let mid = v c.read.new.self in
    let reads = reads_once old mid c.read.result c.read.ensures.counts c.read.ensures.kept in
    let f = area_file c.args.place.file in let at = c.args.place.page - 1 in
    let new = v c.write.new.self in let told = still_tells old mid reads.told in
    let y = c.read.new.into in let z = c.start.new.page in let x = c.fill.new.page in
    let got = got_pair c.args.lines.now c.args.from c.index-lines-from.result c.index-lines-from.result c.requires.within in
    let names = c.requires.place _ got in
    let first = (slice_index_or c.args.lines.now c.args.from c.index-lines-from.result).0 in
    let further = c.in-Ok.ensures.further in
    λ t now was.
    let left = g.met.D.Disk.content_left c.args.disk.now old.moment t (omega arith) in
    let same : y ≡ old.content f at = c.in_ok-read.ensures.bytes t ∙ (λ i. old.content (c.area_file-file.ensures i) (c.slot_of-slot.ensures i)) in
    let there = read_pends old left c.area_file-file.result f c.slot_of-slot.result at y c.area_file-file.ensures c.slot_of-slot.ensures (c.in_ok-read.ensures.bytes t) in
    let is_page = started_page first c.args.place c.args.class y z names c.start.ensures.started (was.pages.page c.args.place.file c.args.place.page y (area_is first c.args.place names) names.is_data there) in
    let lines_of = subst (λ (b : List ℕ). SameLines c.args.place b z) same (same_lines c.args.place first.area c.args.class y z c.start.ensures.started) in
    let put : Puts c.area_file-file.result c.slot_of-slot.result x mid.content new.content → PutsOnly c.args.lines.now old.content new.content = λ puts. puts_only old.content new.content c.args.lines.now c.args.from c.in-Ok.next c.args.place z x (omega (arith, further.0)) lines_of (c.in-Ok.ensures.fills is_page)
    (here_at new c.area_file-file.result f c.slot_of-slot.result at x c.area_file-file.ensures c.slot_of-slot.ensures puts.here)
    (elsewhere_behind old mid new c.area_file-file.result c.args.place.file c.args.place.page c.slot_of-slot.result x c.area_file-file.ensures c.slot_of-slot.ensures (reads.keeps t).content puts) in
    put (c.in_ok-write.ensures.written (told t))

pub returns-in_err-read-clause-classes : goal.returns-in_err-read-clause-classes
returns-in_err-read-clause-classes g c = let v = g.D.Disk.view in let old = v c.args.disk.now in let mid = v c.read.new.self in
    let reads = reads_once old mid c.read.result c.read.ensures.counts c.read.ensures.kept in
    λ t now was classes its had. classes_read classes old mid reads t had

pub returns-in_default-clause-classes : goal.returns-in_default-clause-classes
returns-in_default-clause-classes g c = let v = g.D.Disk.view in let old = v c.args.disk.now in let mid = v c.read.new.self in
    let reads = reads_once old mid c.read.result c.read.ensures.counts c.read.ensures.kept in
    λ t now was classes its had. classes_read classes old mid reads t had

pub returns-in_err-write-clause-classes : goal.returns-in_err-write-clause-classes
returns-in_err-write-clause-classes g c = let v = g.D.Disk.view in let old = v c.args.disk.now in let mid = v c.read.new.self in
    let reads = reads_once old mid c.read.result c.read.ensures.counts c.read.ensures.kept in
    let f = area_file c.args.place.file in let at = c.args.place.page - 1 in
    let new = v c.write.new.self in let told = still_tells old mid reads.told in
    let y = c.read.new.into in let z = c.start.new.page in let x = c.fill.new.page in
    let got = got_pair c.args.lines.now c.args.from c.index-lines-from.result c.index-lines-from.result c.requires.within in
    let names = c.requires.place _ got in
    let first = (slice_index_or c.args.lines.now c.args.from c.index-lines-from.result).0 in
    λ t now was classes its had.
    let left = g.met.D.Disk.content_left c.args.disk.now old.moment t (omega arith) in
    let on_y = read_pends old left c.area_file-file.result f c.slot_of-slot.result at y c.area_file-file.ensures c.slot_of-slot.ensures (c.in_ok-read.ensures.bytes t) in
    let in_area = area_is first c.args.place names in
    let is_page = started_page first c.args.place c.args.class y z names c.start.ensures.started (was.pages.page c.args.place.file c.args.place.page y in_area names.is_data on_y) in
    let fills = c.in-Ok.ensures.fills is_page in
    let more = more_behind old mid new c.area_file-file.result f c.slot_of-slot.result at x c.area_file-file.ensures c.slot_of-slot.ensures t reads (c.write.ensures.pending (told t)) in
    let begun = class_begun classes c.args.place first.area c.args.class y z c.start.ensures.started (its _ got) (had c.args.place.file c.args.place.page y in_area names.is_data on_y) in
    classes_behind classes old new c.args.place.file c.args.place.page x more (class_kept classes z x fills.same_owner fills.same_class begun) had

pub returns-clause-classes : goal.returns-clause-classes
returns-clause-classes g c = let v = g.D.Disk.view in let old = v c.args.disk.now in let mid = v c.read.new.self in
    let reads = reads_once old mid c.read.result c.read.ensures.counts c.read.ensures.kept in
    let f = area_file c.args.place.file in let at = c.args.place.page - 1 in
    let new = v c.write.new.self in let told = still_tells old mid reads.told in
    let y = c.read.new.into in let z = c.start.new.page in let x = c.fill.new.page in
    let got = got_pair c.args.lines.now c.args.from c.index-lines-from.result c.index-lines-from.result c.requires.within in
    let names = c.requires.place _ got in
    let first = (slice_index_or c.args.lines.now c.args.from c.index-lines-from.result).0 in
    λ t now was classes its had.
    let left = g.met.D.Disk.content_left c.args.disk.now old.moment t (omega arith) in
    let on_y = read_pends old left c.area_file-file.result f c.slot_of-slot.result at y c.area_file-file.ensures c.slot_of-slot.ensures (c.in_ok-read.ensures.bytes t) in
    let in_area = area_is first c.args.place names in
    let is_page = started_page first c.args.place c.args.class y z names c.start.ensures.started (was.pages.page c.args.place.file c.args.place.page y in_area names.is_data on_y) in
    let fills = c.in-Ok.ensures.fills is_page in
    let more = more_behind old mid new c.area_file-file.result f c.slot_of-slot.result at x c.area_file-file.ensures c.slot_of-slot.ensures t reads (c.write.ensures.pending (told t)) in
    let begun = class_begun classes c.args.place first.area c.args.class y z c.start.ensures.started (its _ got) (had c.args.place.file c.args.place.page y in_area names.is_data on_y) in
    classes_behind classes old new c.args.place.file c.args.place.page x more (class_kept classes z x fills.same_owner fills.same_class begun) had

pub returns-in_err-read-clause-owners : goal.returns-in_err-read-clause-owners
returns-in_err-read-clause-owners g c = let v = g.D.Disk.view in let old = v c.args.disk.now in let mid = v c.read.new.self in
    let reads = reads_once old mid c.read.result c.read.ensures.counts c.read.ensures.kept in
    λ t now was there area is_file is_data lies. owners_stay old mid (reads.keeps t).pending there area

pub returns-in_default-clause-owners : goal.returns-in_default-clause-owners
returns-in_default-clause-owners g c = let v = g.D.Disk.view in let old = v c.args.disk.now in let mid = v c.read.new.self in
    let reads = reads_once old mid c.read.result c.read.ensures.counts c.read.ensures.kept in
    λ t now was there area is_file is_data lies. owners_stay old mid (reads.keeps t).pending there area

pub returns-in_err-write-clause-owners : goal.returns-in_err-write-clause-owners
returns-in_err-write-clause-owners g c = let v = g.D.Disk.view in let old = v c.args.disk.now in let mid = v c.read.new.self in
    let reads = reads_once old mid c.read.result c.read.ensures.counts c.read.ensures.kept in
    let f = area_file c.args.place.file in let at = c.args.place.page - 1 in
    let new = v c.write.new.self in let told = still_tells old mid reads.told in
    let y = c.read.new.into in let z = c.start.new.page in let x = c.fill.new.page in
    let got = got_pair c.args.lines.now c.args.from c.index-lines-from.result c.index-lines-from.result c.requires.within in
    let names = c.requires.place _ got in
    let first = (slice_index_or c.args.lines.now c.args.from c.index-lines-from.result).0 in
    λ t now was there area is_file is_data lies.
    let left = g.met.D.Disk.content_left c.args.disk.now old.moment t (omega arith) in
    let on_y = read_pends old left c.area_file-file.result f c.slot_of-slot.result at y c.area_file-file.ensures c.slot_of-slot.ensures (c.in_ok-read.ensures.bytes t) in
    let is_page = started_page first c.args.place c.args.class y z names c.start.ensures.started (was.pages.page c.args.place.file c.args.place.page y (area_is first c.args.place names) names.is_data on_y) in
    let fills = c.in-Ok.ensures.fills is_page in
    let more = more_behind old mid new c.area_file-file.result f c.slot_of-slot.result at x c.area_file-file.ensures c.slot_of-slot.ensures t reads (c.write.ensures.pending (told t)) in
    owners_behind old new c.args.place.file c.args.place.page x names.is_data.is_page.first more there area is_data.is_page.first (λ files pages may some.
    let same : there ≡ c.args.place = (λ i. record { file = files i; page = pages i }) in
    fills.same_owner ∙ owner_begun c.args.place first.area c.args.class area y z c.start.ensures.started (subst (λ (p : Place). LieForArea c.args.lines.now p area) same lies c.args.from _ got names) (subst (λ (p : Place). IsForArea (Pending old) p area) same may y on_y) (subst (λ (n : ℕ). 1 ≤ n) fills.same_owner some))

pub returns-clause-owners : goal.returns-clause-owners
returns-clause-owners g c = let v = g.D.Disk.view in let old = v c.args.disk.now in let mid = v c.read.new.self in
    let reads = reads_once old mid c.read.result c.read.ensures.counts c.read.ensures.kept in
    let f = area_file c.args.place.file in let at = c.args.place.page - 1 in
    let new = v c.write.new.self in let told = still_tells old mid reads.told in
    let y = c.read.new.into in let z = c.start.new.page in let x = c.fill.new.page in
    let got = got_pair c.args.lines.now c.args.from c.index-lines-from.result c.index-lines-from.result c.requires.within in
    let names = c.requires.place _ got in
    let first = (slice_index_or c.args.lines.now c.args.from c.index-lines-from.result).0 in
    λ t now was there area is_file is_data lies.
    let left = g.met.D.Disk.content_left c.args.disk.now old.moment t (omega arith) in
    let on_y = read_pends old left c.area_file-file.result f c.slot_of-slot.result at y c.area_file-file.ensures c.slot_of-slot.ensures (c.in_ok-read.ensures.bytes t) in
    let is_page = started_page first c.args.place c.args.class y z names c.start.ensures.started (was.pages.page c.args.place.file c.args.place.page y (area_is first c.args.place names) names.is_data on_y) in
    let fills = c.in-Ok.ensures.fills is_page in
    let more = more_behind old mid new c.area_file-file.result f c.slot_of-slot.result at x c.area_file-file.ensures c.slot_of-slot.ensures t reads (c.write.ensures.pending (told t)) in
    owners_behind old new c.args.place.file c.args.place.page x names.is_data.is_page.first more there area is_data.is_page.first (λ files pages may some.
    let same : there ≡ c.args.place = (λ i. record { file = files i; page = pages i }) in
    fills.same_owner ∙ owner_begun c.args.place first.area c.args.class area y z c.start.ensures.started (subst (λ (p : Place). LieForArea c.args.lines.now p area) same lies c.args.from _ got names) (subst (λ (p : Place). IsForArea (Pending old) p area) same may y on_y) (subst (λ (n : ℕ). 1 ≤ n) fills.same_owner some))
