use Rattle.std.proofs.Common.{◌≤◌, arith, ◌≡◌, ◌-◌, ◌∙◌, ℕ, List, inl, inr, ⊎_elim, ap, sym, subst}
use Rattle.line_store.specs.rdb_outside.Disk.{Pending, Puts}
use Rattle.stable_lines.specs.Slots.{area_file, line_on}
use Rattle.line_moves.specs.declared.places.Place.{Place}
use Rattle.line_moves.specs.Changes.{IsForArea}
use Rattle.line_moves.proofs.PageClasses.{owners_stay, owners_behind, classes_read, class_kept, classes_behind}
use Rattle.line_moves.proofs.Runs.{reads_once, facts_read, writes_none, writes_one, more_behind, read_pends, here_at, still_tells}
use Rattle.line_moves.proofs.KeyPlaces.{area_is, place_content}
use Rattle.line_store.specs.rdb_page.Whole.{IsPageOf}
use Rattle.line_moves.specs.Changes.{Fits, PutsOne}
use Rattle.line_moves.proofs.LinePut.{line_changed, other_line}
use Rattle.line_moves.proofs.OnlyPut.{keeps_lines, same_behind, elsewhere_behind, puts_one}
use Rattle.line_moves.proofs.pages.change_line.Goals as goal

pub returns-in_err-read-clause-writes : goal.returns-in_err-read-clause-writes
returns-in_err-read-clause-writes g c = let v = g.D.Disk.view in let old = v c.args.disk.now in let mid = v c.read.new.self in
    let reads = reads_once old mid c.read.result c.read.ensures.counts c.read.ensures.kept in
    let f = area_file c.args.place.file in let at = c.args.place.page - 1 in
    writes_none f at old mid reads

pub returns-in_err-read-clause-keeps : goal.returns-in_err-read-clause-keeps
returns-in_err-read-clause-keeps g c = let v = g.D.Disk.view in let old = v c.args.disk.now in let mid = v c.read.new.self in
    let reads = reads_once old mid c.read.result c.read.ensures.counts c.read.ensures.kept in
    let f = area_file c.args.place.file in let at = c.args.place.page - 1 in
    λ t now was may. facts_read old mid reads t now was

pub returns-in_default-clause-writes : goal.returns-in_default-clause-writes
returns-in_default-clause-writes g c = let v = g.D.Disk.view in let old = v c.args.disk.now in let mid = v c.read.new.self in
    let reads = reads_once old mid c.read.result c.read.ensures.counts c.read.ensures.kept in
    let f = area_file c.args.place.file in let at = c.args.place.page - 1 in
    writes_none f at old mid reads

pub returns-in_default-clause-keeps : goal.returns-in_default-clause-keeps
returns-in_default-clause-keeps g c = let v = g.D.Disk.view in let old = v c.args.disk.now in let mid = v c.read.new.self in
    let reads = reads_once old mid c.read.result c.read.ensures.counts c.read.ensures.kept in
    let f = area_file c.args.place.file in let at = c.args.place.page - 1 in
    λ t now was may. facts_read old mid reads t now was

pub returns-in_err-write-clause-writes : goal.returns-in_err-write-clause-writes
returns-in_err-write-clause-writes g c = let v = g.D.Disk.view in let old = v c.args.disk.now in let mid = v c.read.new.self in
    let reads = reads_once old mid c.read.result c.read.ensures.counts c.read.ensures.kept in
    let f = area_file c.args.place.file in let at = c.args.place.page - 1 in
    let new = v c.write.new.self in let told = still_tells old mid reads.told in
    writes_one old mid new c.area_file-file.result f c.slot_of-slot.result at c.put_on.new.page c.write.result c.area_file-file.ensures c.slot_of-slot.ensures reads c.write.ensures.counts c.write.ensures.pending c.in_err-write.ensures.failed

pub returns-in_err-write-clause-keeps : goal.returns-in_err-write-clause-keeps
returns-in_err-write-clause-keeps g c = let v = g.D.Disk.view in let old = v c.args.disk.now in let mid = v c.read.new.self in
    let reads = reads_once old mid c.read.result c.read.ensures.counts c.read.ensures.kept in
    let f = area_file c.args.place.file in let at = c.args.place.page - 1 in
    let new = v c.write.new.self in let told = still_tells old mid reads.told in
    λ t now was may.
    let left = g.met.D.Disk.content_left c.args.disk.now old.moment t (omega arith) in
    let there = read_pends old left c.area_file-file.result f c.slot_of-slot.result at c.read.new.into c.area_file-file.ensures c.slot_of-slot.ensures (c.in_ok-read.ensures.bytes t) in
    let is_page = was.pages.page c.args.place.file c.args.place.page c.read.new.into (area_is c.args.key c.args.place c.requires.place) c.requires.place.is_data there in
    let more = more_behind old mid new c.area_file-file.result f c.slot_of-slot.result at c.put_on.new.page c.area_file-file.ensures c.slot_of-slot.ensures t reads (c.write.ensures.pending (told t)) in
    line_changed (Pending old) (Pending new) now c.args.key c.args.place c.read.new.into c.put_on.new.page c.args.value.now c.requires.place more was there (c.in-Ok.ensures.puts is_page) (c.in-Ok.ensures.here is_page) may

pub returns-clause-writes : goal.returns-clause-writes
returns-clause-writes g c = let v = g.D.Disk.view in let old = v c.args.disk.now in let mid = v c.read.new.self in
    let reads = reads_once old mid c.read.result c.read.ensures.counts c.read.ensures.kept in
    let f = area_file c.args.place.file in let at = c.args.place.page - 1 in
    let new = v c.write.new.self in let told = still_tells old mid reads.told in
    writes_one old mid new c.area_file-file.result f c.slot_of-slot.result at c.put_on.new.page c.write.result c.area_file-file.ensures c.slot_of-slot.ensures reads c.write.ensures.counts c.write.ensures.pending (λ t. inr (c.in_ok-write.ensures.written t))

pub returns-clause-keeps : goal.returns-clause-keeps
returns-clause-keeps g c = let v = g.D.Disk.view in let old = v c.args.disk.now in let mid = v c.read.new.self in
    let reads = reads_once old mid c.read.result c.read.ensures.counts c.read.ensures.kept in
    let f = area_file c.args.place.file in let at = c.args.place.page - 1 in
    let new = v c.write.new.self in let told = still_tells old mid reads.told in
    λ t now was may.
    let left = g.met.D.Disk.content_left c.args.disk.now old.moment t (omega arith) in
    let there = read_pends old left c.area_file-file.result f c.slot_of-slot.result at c.read.new.into c.area_file-file.ensures c.slot_of-slot.ensures (c.in_ok-read.ensures.bytes t) in
    let is_page = was.pages.page c.args.place.file c.args.place.page c.read.new.into (area_is c.args.key c.args.place c.requires.place) c.requires.place.is_data there in
    let more = more_behind old mid new c.area_file-file.result f c.slot_of-slot.result at c.put_on.new.page c.area_file-file.ensures c.slot_of-slot.ensures t reads (c.write.ensures.pending (told t)) in
    line_changed (Pending old) (Pending new) now c.args.key c.args.place c.read.new.into c.put_on.new.page c.args.value.now c.requires.place more was there (c.in-Ok.ensures.puts is_page) (c.in-Ok.ensures.here is_page) may

pub returns-clause-stands : goal.returns-clause-stands
returns-clause-stands g c = let v = g.D.Disk.view in let old = v c.args.disk.now in let mid = v c.read.new.self in
    let reads = reads_once old mid c.read.result c.read.ensures.counts c.read.ensures.kept in
    let f = area_file c.args.place.file in let at = c.args.place.page - 1 in
    let new = v c.write.new.self in let told = still_tells old mid reads.told in
    λ t now was.
    let left = g.met.D.Disk.content_left c.args.disk.now old.moment t (omega arith) in
    let there = read_pends old left c.area_file-file.result f c.slot_of-slot.result at c.read.new.into c.area_file-file.ensures c.slot_of-slot.ensures (c.in_ok-read.ensures.bytes t) in
    let is_page = was.pages.page c.args.place.file c.args.place.page c.read.new.into (area_is c.args.key c.args.place c.requires.place) c.requires.place.is_data there in
    let here : new.content f at ≡ c.put_on.new.page = here_at new c.area_file-file.result f c.slot_of-slot.result at c.put_on.new.page c.area_file-file.ensures c.slot_of-slot.ensures (c.in_ok-write.ensures.written (told t)).here in
    ap (λ (b : List ℕ). line_on c.args.key b) (sym (place_content new.content c.args.key c.args.place c.requires.place) ∙ here) ∙ c.in-Ok.ensures.here is_page

pub returns-clause-others : goal.returns-clause-others
returns-clause-others g c = let v = g.D.Disk.view in let old = v c.args.disk.now in let mid = v c.read.new.self in
    let reads = reads_once old mid c.read.result c.read.ensures.counts c.read.ensures.kept in
    let f = area_file c.args.place.file in let at = c.args.place.page - 1 in
    let new = v c.write.new.self in let told = still_tells old mid reads.told in
    λ t now was other apart.
    let left = g.met.D.Disk.content_left c.args.disk.now old.moment t (omega arith) in
    let there = read_pends old left c.area_file-file.result f c.slot_of-slot.result at c.read.new.into c.area_file-file.ensures c.slot_of-slot.ensures (c.in_ok-read.ensures.bytes t) in
    let is_page = was.pages.page c.args.place.file c.args.place.page c.read.new.into (area_is c.args.key c.args.place c.requires.place) c.requires.place.is_data there in
    let here : new.content f at ≡ c.put_on.new.page = here_at new c.area_file-file.result f c.slot_of-slot.result at c.put_on.new.page c.area_file-file.ensures c.slot_of-slot.ensures (c.in_ok-write.ensures.written (told t)).here in
    let same : c.read.new.into ≡ old.content f at = c.in_ok-read.ensures.bytes t ∙ (λ i. old.content (c.area_file-file.ensures i) (c.slot_of-slot.ensures i)) in
    other_line old.content new.content c.args.key other c.args.place c.read.new.into c.put_on.new.page same here
    (λ k i off. (c.in_ok-write.ensures.written (told t)).others k i (λ e n. off (e ∙ c.area_file-file.ensures) (n ∙ c.slot_of-slot.ensures)) ∙ (reads.keeps t).content k i) (c.in-Ok.ensures.puts is_page) apart

pub returns-in_default-clause-bad : goal.returns-in_default-clause-bad
returns-in_default-clause-bad g c = let v = g.D.Disk.view in let old = v c.args.disk.now in let mid = v c.read.new.self in
    let reads = reads_once old mid c.read.result c.read.ensures.counts c.read.ensures.kept in
    let f = area_file c.args.place.file in let at = c.args.place.page - 1 in
    λ file slot is t page fits.
    let same : c.read.new.into ≡ old.content f at = c.in_ok-read.ensures.bytes t ∙ (λ i. old.content (c.area_file-file.ensures i) (c.slot_of-slot.ensures i)) in
    c.in_default.ensures.refused (subst (λ (b : List ℕ). IsPageOf c.args.place.file c.args.place.page b) (sym same) page) (subst (λ (b : List ℕ). Fits c.args.key c.args.value.now b) (sym same) fits)

pub returns-in_err-read-clause-changes : goal.returns-in_err-read-clause-changes
returns-in_err-read-clause-changes g c = let v = g.D.Disk.view in let old = v c.args.disk.now in let mid = v c.read.new.self in
    let reads = reads_once old mid c.read.result c.read.ensures.counts c.read.ensures.kept in
    λ t now was key. inl (keeps_lines old.content mid.content (reads.keeps t).content key)

pub returns-in_default-clause-changes : goal.returns-in_default-clause-changes
returns-in_default-clause-changes g c = let v = g.D.Disk.view in let old = v c.args.disk.now in let mid = v c.read.new.self in
    let reads = reads_once old mid c.read.result c.read.ensures.counts c.read.ensures.kept in
    λ t now was key. inl (keeps_lines old.content mid.content (reads.keeps t).content key)

pub returns-in_err-write-clause-changes : goal.returns-in_err-write-clause-changes
returns-in_err-write-clause-changes g c = let v = g.D.Disk.view in let old = v c.args.disk.now in let mid = v c.read.new.self in
    let reads = reads_once old mid c.read.result c.read.ensures.counts c.read.ensures.kept in
    let f = area_file c.args.place.file in let at = c.args.place.page - 1 in
    let new = v c.write.new.self in let told = still_tells old mid reads.told in
    λ t now was.
    let left = g.met.D.Disk.content_left c.args.disk.now old.moment t (omega arith) in
    let there = read_pends old left c.area_file-file.result f c.slot_of-slot.result at c.read.new.into c.area_file-file.ensures c.slot_of-slot.ensures (c.in_ok-read.ensures.bytes t) in
    let is_page = was.pages.page c.args.place.file c.args.place.page c.read.new.into (area_is c.args.key c.args.place c.requires.place) c.requires.place.is_data there in
    let same : c.read.new.into ≡ old.content f at = c.in_ok-read.ensures.bytes t ∙ (λ i. old.content (c.area_file-file.ensures i) (c.slot_of-slot.ensures i)) in
    let put : Puts c.area_file-file.result c.slot_of-slot.result c.put_on.new.page mid.content new.content → PutsOne c.args.key c.args.value.now old.content new.content = λ puts. puts_one old.content new.content c.args.key c.args.place c.read.new.into c.put_on.new.page c.args.value.now (sym same) (c.in-Ok.ensures.puts is_page) (c.in-Ok.ensures.here is_page)
    (here_at new c.area_file-file.result f c.slot_of-slot.result at c.put_on.new.page c.area_file-file.ensures c.slot_of-slot.ensures puts.here)
    (elsewhere_behind old mid new c.area_file-file.result c.args.place.file c.args.place.page c.slot_of-slot.result c.put_on.new.page c.area_file-file.ensures c.slot_of-slot.ensures (reads.keeps t).content puts) in
    ⊎_elim (λ none key. inl (same_behind old mid new (reads.keeps t).content none key)) put (c.in_err-write.ensures.failed (told t))

pub returns-clause-changes : goal.returns-clause-changes
returns-clause-changes g c = let v = g.D.Disk.view in let old = v c.args.disk.now in let mid = v c.read.new.self in
    let reads = reads_once old mid c.read.result c.read.ensures.counts c.read.ensures.kept in
    let f = area_file c.args.place.file in let at = c.args.place.page - 1 in
    let new = v c.write.new.self in let told = still_tells old mid reads.told in
    λ t now was.
    let left = g.met.D.Disk.content_left c.args.disk.now old.moment t (omega arith) in
    let there = read_pends old left c.area_file-file.result f c.slot_of-slot.result at c.read.new.into c.area_file-file.ensures c.slot_of-slot.ensures (c.in_ok-read.ensures.bytes t) in
    let is_page = was.pages.page c.args.place.file c.args.place.page c.read.new.into (area_is c.args.key c.args.place c.requires.place) c.requires.place.is_data there in
    let same : c.read.new.into ≡ old.content f at = c.in_ok-read.ensures.bytes t ∙ (λ i. old.content (c.area_file-file.ensures i) (c.slot_of-slot.ensures i)) in
    let put : Puts c.area_file-file.result c.slot_of-slot.result c.put_on.new.page mid.content new.content → PutsOne c.args.key c.args.value.now old.content new.content = λ puts. puts_one old.content new.content c.args.key c.args.place c.read.new.into c.put_on.new.page c.args.value.now (sym same) (c.in-Ok.ensures.puts is_page) (c.in-Ok.ensures.here is_page)
    (here_at new c.area_file-file.result f c.slot_of-slot.result at c.put_on.new.page c.area_file-file.ensures c.slot_of-slot.ensures puts.here)
    (elsewhere_behind old mid new c.area_file-file.result c.args.place.file c.args.place.page c.slot_of-slot.result c.put_on.new.page c.area_file-file.ensures c.slot_of-slot.ensures (reads.keeps t).content puts) in
    put (c.in_ok-write.ensures.written (told t))

pub returns-in_err-read-clause-classes : goal.returns-in_err-read-clause-classes
returns-in_err-read-clause-classes g c = let v = g.D.Disk.view in let old = v c.args.disk.now in let mid = v c.read.new.self in
    let reads = reads_once old mid c.read.result c.read.ensures.counts c.read.ensures.kept in
    λ t now was classes had. classes_read classes old mid reads t had

pub returns-in_default-clause-classes : goal.returns-in_default-clause-classes
returns-in_default-clause-classes g c = let v = g.D.Disk.view in let old = v c.args.disk.now in let mid = v c.read.new.self in
    let reads = reads_once old mid c.read.result c.read.ensures.counts c.read.ensures.kept in
    λ t now was classes had. classes_read classes old mid reads t had

pub returns-in_err-write-clause-classes : goal.returns-in_err-write-clause-classes
returns-in_err-write-clause-classes g c = let v = g.D.Disk.view in let old = v c.args.disk.now in let mid = v c.read.new.self in
    let reads = reads_once old mid c.read.result c.read.ensures.counts c.read.ensures.kept in
    let f = area_file c.args.place.file in let at = c.args.place.page - 1 in
    let new = v c.write.new.self in let told = still_tells old mid reads.told in
    let y = c.read.new.into in let x = c.put_on.new.page in let names = c.requires.place in
    λ t now was classes had.
    let left = g.met.D.Disk.content_left c.args.disk.now old.moment t (omega arith) in
    let on_y = read_pends old left c.area_file-file.result f c.slot_of-slot.result at y c.area_file-file.ensures c.slot_of-slot.ensures (c.in_ok-read.ensures.bytes t) in
    let in_area = area_is c.args.key c.args.place names in
    let puts_it = c.in-Ok.ensures.puts (was.pages.page c.args.place.file c.args.place.page y in_area names.is_data on_y) in
    let more = more_behind old mid new c.area_file-file.result f c.slot_of-slot.result at x c.area_file-file.ensures c.slot_of-slot.ensures t reads (c.write.ensures.pending (told t)) in
    classes_behind classes old new c.args.place.file c.args.place.page x more
    (class_kept classes y x puts_it.same_owner puts_it.same_class (had c.args.place.file c.args.place.page y in_area names.is_data on_y)) had

pub returns-clause-classes : goal.returns-clause-classes
returns-clause-classes g c = let v = g.D.Disk.view in let old = v c.args.disk.now in let mid = v c.read.new.self in
    let reads = reads_once old mid c.read.result c.read.ensures.counts c.read.ensures.kept in
    let f = area_file c.args.place.file in let at = c.args.place.page - 1 in
    let new = v c.write.new.self in let told = still_tells old mid reads.told in
    let y = c.read.new.into in let x = c.put_on.new.page in let names = c.requires.place in
    λ t now was classes had.
    let left = g.met.D.Disk.content_left c.args.disk.now old.moment t (omega arith) in
    let on_y = read_pends old left c.area_file-file.result f c.slot_of-slot.result at y c.area_file-file.ensures c.slot_of-slot.ensures (c.in_ok-read.ensures.bytes t) in
    let in_area = area_is c.args.key c.args.place names in
    let puts_it = c.in-Ok.ensures.puts (was.pages.page c.args.place.file c.args.place.page y in_area names.is_data on_y) in
    let more = more_behind old mid new c.area_file-file.result f c.slot_of-slot.result at x c.area_file-file.ensures c.slot_of-slot.ensures t reads (c.write.ensures.pending (told t)) in
    classes_behind classes old new c.args.place.file c.args.place.page x more
    (class_kept classes y x puts_it.same_owner puts_it.same_class (had c.args.place.file c.args.place.page y in_area names.is_data on_y)) had

pub returns-in_err-read-clause-owners : goal.returns-in_err-read-clause-owners
returns-in_err-read-clause-owners g c = let v = g.D.Disk.view in let old = v c.args.disk.now in let mid = v c.read.new.self in
    let reads = reads_once old mid c.read.result c.read.ensures.counts c.read.ensures.kept in
    λ t now was there area is_file is_data. owners_stay old mid (reads.keeps t).pending there area

pub returns-in_default-clause-owners : goal.returns-in_default-clause-owners
returns-in_default-clause-owners g c = let v = g.D.Disk.view in let old = v c.args.disk.now in let mid = v c.read.new.self in
    let reads = reads_once old mid c.read.result c.read.ensures.counts c.read.ensures.kept in
    λ t now was there area is_file is_data. owners_stay old mid (reads.keeps t).pending there area

pub returns-in_err-write-clause-owners : goal.returns-in_err-write-clause-owners
returns-in_err-write-clause-owners g c = let v = g.D.Disk.view in let old = v c.args.disk.now in let mid = v c.read.new.self in
    let reads = reads_once old mid c.read.result c.read.ensures.counts c.read.ensures.kept in
    let f = area_file c.args.place.file in let at = c.args.place.page - 1 in
    let new = v c.write.new.self in let told = still_tells old mid reads.told in
    let y = c.read.new.into in let x = c.put_on.new.page in let names = c.requires.place in
    λ t now was there area is_file is_data.
    let left = g.met.D.Disk.content_left c.args.disk.now old.moment t (omega arith) in
    let on_y = read_pends old left c.area_file-file.result f c.slot_of-slot.result at y c.area_file-file.ensures c.slot_of-slot.ensures (c.in_ok-read.ensures.bytes t) in
    let is_page = was.pages.page c.args.place.file c.args.place.page y (area_is c.args.key c.args.place names) names.is_data on_y in
    let puts_it = c.in-Ok.ensures.puts is_page in
    let more = more_behind old mid new c.area_file-file.result f c.slot_of-slot.result at x c.area_file-file.ensures c.slot_of-slot.ensures t reads (c.write.ensures.pending (told t)) in
    owners_behind old new c.args.place.file c.args.place.page x names.is_data.is_page.first more there area is_data.is_page.first (λ files pages may some.
    let same : there ≡ c.args.place = (λ i. record { file = files i; page = pages i }) in
    puts_it.same_owner ∙ subst (λ (p : Place). IsForArea (Pending old) p area) same may y on_y (subst (λ (n : ℕ). 1 ≤ n) puts_it.same_owner some))

pub returns-clause-owners : goal.returns-clause-owners
returns-clause-owners g c = let v = g.D.Disk.view in let old = v c.args.disk.now in let mid = v c.read.new.self in
    let reads = reads_once old mid c.read.result c.read.ensures.counts c.read.ensures.kept in
    let f = area_file c.args.place.file in let at = c.args.place.page - 1 in
    let new = v c.write.new.self in let told = still_tells old mid reads.told in
    let y = c.read.new.into in let x = c.put_on.new.page in let names = c.requires.place in
    λ t now was there area is_file is_data.
    let left = g.met.D.Disk.content_left c.args.disk.now old.moment t (omega arith) in
    let on_y = read_pends old left c.area_file-file.result f c.slot_of-slot.result at y c.area_file-file.ensures c.slot_of-slot.ensures (c.in_ok-read.ensures.bytes t) in
    let is_page = was.pages.page c.args.place.file c.args.place.page y (area_is c.args.key c.args.place names) names.is_data on_y in
    let puts_it = c.in-Ok.ensures.puts is_page in
    let more = more_behind old mid new c.area_file-file.result f c.slot_of-slot.result at x c.area_file-file.ensures c.slot_of-slot.ensures t reads (c.write.ensures.pending (told t)) in
    owners_behind old new c.args.place.file c.args.place.page x names.is_data.is_page.first more there area is_data.is_page.first (λ files pages may some.
    let same : there ≡ c.args.place = (λ i. record { file = files i; page = pages i }) in
    puts_it.same_owner ∙ subst (λ (p : Place). IsForArea (Pending old) p area) same may y on_y (subst (λ (n : ℕ). 1 ≤ n) puts_it.same_owner some))
