use Rattle.std.proofs.Common.{rules, ◌≡◌, ◌≢◌, ◌∙◌, ◌+◌, ◌-◌, ◌≤◌, ◌<◌, ℕ, List, inl, inr, ⊎_elim, sym, ap, refl, subst, arith}
use Rattle.rdb_types.specs.declared.keys.Dbkey.{Dbkey}
use Rattle.rdb_types.specs.declared.keys.Tsn.{Tsn}
use Rattle.rdb_types.specs.declared.keys.Line.{Line}
use Rattle.line_store.specs.rdb_outside.Disk.{Pending}
use Rattle.line_store.specs.area_files.Areas.{IsDataPage}
use Rattle.line_store.specs.rdb_outside.Runs.{then_reads}
use Rattle.stable_lines.specs.Slots.{ruj_file, area_file, file_of, slot_of, line_on, line_at, entry_at}
use Rattle.stable_lines.specs.Facts.{IsNotOpen}
use Rattle.line_moves.specs.Changes.{IsPlaceOf, Fits}
use Rattle.line_moves.proofs.PageClasses.{owners_stay, classes_read}
use Rattle.line_moves.proofs.KeyPlaces.{area_is, place_content}
use Rattle.line_moves.proofs.LinePut.{same_key}
use Rattle.line_moves.proofs.Runs.{pends, reads_once, facts_read, read_pends, still_tells, writes_none, reads_then_writes}
use Rattle.line_moves.proofs.Undoes.{may_put_back, changed_by, before_apart, before_ended, fits_back, entry_there, key_there, before_there}
use Rattle.line_moves.proofs.OnlyPut.{keeps_lines, some_page}
use Rattle.line_moves.proofs.Bearing.{key_place, has_its_place, within_limit}
use Rattle.line_moves.proofs.undoing.undo_line.Goals as goal

pub returns-in_err-read-clause-keeps : goal.returns-in_err-read-clause-keeps
returns-in_err-read-clause-keeps g c = let v = g.D.Disk.view in let v0 = v c.args.disk.now in let v1 = v c.read.new.self in
    let reads = reads_once v0 v1 c.read.result c.read.ensures.counts c.read.ensures.kept in
    λ t now o it same. facts_read v0 v1 reads t now it.facts

pub returns-in_default-clause-keeps : goal.returns-in_default-clause-keeps
returns-in_default-clause-keeps g c = let v = g.D.Disk.view in let v0 = v c.args.disk.now in let v1 = v c.read.new.self in
    let reads = reads_once v0 v1 c.read.result c.read.ensures.counts c.read.ensures.kept in
    λ t now o it same. facts_read v0 v1 reads t now it.facts

pub returns-in_default-place_of-clause-keeps : goal.returns-in_default-place_of-clause-keeps
returns-in_default-place_of-clause-keeps g c = let v = g.D.Disk.view in let v0 = v c.args.disk.now in let v1 = v c.read.new.self in
    let reads = reads_once v0 v1 c.read.result c.read.ensures.counts c.read.ensures.kept in
    λ t now o it same. facts_read v0 v1 reads t now it.facts

pub returns-then-place-pages-clause-keeps : goal.returns-then-place-pages-clause-keeps
returns-then-place-pages-clause-keeps g c = let v = g.D.Disk.view in let v0 = v c.args.disk.now in let v1 = v c.read.new.self in
    let reads = reads_once v0 v1 c.read.result c.read.ensures.counts c.read.ensures.kept in
    λ t now o it same. facts_read v0 v1 reads t now it.facts

pub returns-in_err-line-clause-keeps : goal.returns-in_err-line-clause-keeps
returns-in_err-line-clause-keeps g c = let v = g.D.Disk.view in let v0 = v c.args.disk.now in let v1 = v c.read.new.self in
    let reads = reads_once v0 v1 c.read.result c.read.ensures.counts c.read.ensures.kept in
    let v2 = v c.line_at.new.disk in let both = then_reads v0 v1 v2 reads c.line_at.ensures.reads in
    λ t now o it same. facts_read v0 v2 both t now it.facts

pub returns-then-line-tsn-clause-keeps : goal.returns-then-line-tsn-clause-keeps
returns-then-line-tsn-clause-keeps g c = let v = g.D.Disk.view in let v0 = v c.args.disk.now in let v1 = v c.read.new.self in
    let reads = reads_once v0 v1 c.read.result c.read.ensures.counts c.read.ensures.kept in
    let v2 = v c.line_at.new.disk in let both = then_reads v0 v1 v2 reads c.line_at.ensures.reads in
    λ t now o it same. facts_read v0 v2 both t now it.facts

pub returns-in-Ok-clause-keeps : goal.returns-in-Ok-clause-keeps
returns-in-Ok-clause-keeps g c = let v = g.D.Disk.view in let v0 = v c.args.disk.now in let v1 = v c.read.new.self in
    let reads = reads_once v0 v1 c.read.result c.read.ensures.counts c.read.ensures.kept in
    let v2 = v c.line_at.new.disk in let both = then_reads v0 v1 v2 reads c.line_at.ensures.reads in
    λ t now o it same.
    let told = still_tells v0 v2 both.told t in
    let facts = facts_read v0 v2 both t now it.facts in
    let left = g.met.D.Disk.content_left c.line_at.new.disk v2.moment told (omega arith) in
    let key = c.in-Some.entry.key in
    let there = read_pends v2 left c.ruj_file-journal.result (ruj_file c.args.member) c.args.index c.args.index c.read.new.into c.ruj_file-journal.ensures refl (c.in_ok-read.ensures.bytes t ∙ sym ((both.keeps t).content c.ruj_file-journal.result c.args.index)) in
    let y = v2.content (file_of key) (slot_of key) in
    let number : c.in_ok-line.line.tsn.number ≡ c.args.tsn.number = search rules in
    let mid = still_tells v0 v1 reads.told t in
    let line_is : c.in_ok-line.line ≡ line_at v2.content key = c.in_ok-line.ensures.line mid ∙ ap (λ (b : List ℕ). line_on key b) (sym ((c.line_at.ensures.reads.keeps mid).content (file_of key) (slot_of key))) in
    let bears : (line_at v2.content key).tsn.number ≡ o.tsn.number = ap (λ (l : Line). l.tsn.number) (sym line_is) ∙ number ∙ ap (λ (n : Tsn). n.number) same in
    let fits : c.in-Some-place_of.place.page ≤ c.args.pages = search rules in
    let key_page : c.in-Some-place_of.place.page ≡ key.page = c.in-Some-place_of.ensures.found.page in
    let limit = it.limit in
    let within : key.page ≤ now.limits.pages = omega (arith, fits, key_page, limit) in
    let by = changed_by (Pending v2) now c.args.member c.args.index o c.in-Some.entry c.read.new.into y facts it.is_open it.first it.last there c.in-Some.ensures.found (pends v2 left (file_of key) (slot_of key)) bears it.not_flying within in
    let slot = v2.content (ruj_file c.args.member) (by.index + 1) in
    c.change_line.ensures.keeps told now facts
    (may_put_back (Pending v2) now c.args.member c.args.index o c.in-Some.entry c.read.new.into y facts it.is_open it.first it.last there c.in-Some.ensures.found (pends v2 left (file_of key) (slot_of key)) bears it.not_flying within slot (pends v2 left (ruj_file c.args.member) (by.index + 1)))

pub returns-in-Err-clause-keeps : goal.returns-in-Err-clause-keeps
returns-in-Err-clause-keeps g c = let v = g.D.Disk.view in let v0 = v c.args.disk.now in let v1 = v c.read.new.self in
    let reads = reads_once v0 v1 c.read.result c.read.ensures.counts c.read.ensures.kept in
    let v2 = v c.line_at.new.disk in let both = then_reads v0 v1 v2 reads c.line_at.ensures.reads in
    λ t now o it same.
    let told = still_tells v0 v2 both.told t in
    let facts = facts_read v0 v2 both t now it.facts in
    let left = g.met.D.Disk.content_left c.line_at.new.disk v2.moment told (omega arith) in
    let key = c.in-Some.entry.key in
    let there = read_pends v2 left c.ruj_file-journal.result (ruj_file c.args.member) c.args.index c.args.index c.read.new.into c.ruj_file-journal.ensures refl (c.in_ok-read.ensures.bytes t ∙ sym ((both.keeps t).content c.ruj_file-journal.result c.args.index)) in
    let y = v2.content (file_of key) (slot_of key) in
    let number : c.in_ok-line.line.tsn.number ≡ c.args.tsn.number = search rules in
    let mid = still_tells v0 v1 reads.told t in
    let line_is : c.in_ok-line.line ≡ line_at v2.content key = c.in_ok-line.ensures.line mid ∙ ap (λ (b : List ℕ). line_on key b) (sym ((c.line_at.ensures.reads.keeps mid).content (file_of key) (slot_of key))) in
    let bears : (line_at v2.content key).tsn.number ≡ o.tsn.number = ap (λ (l : Line). l.tsn.number) (sym line_is) ∙ number ∙ ap (λ (n : Tsn). n.number) same in
    let fits : c.in-Some-place_of.place.page ≤ c.args.pages = search rules in
    let key_page : c.in-Some-place_of.place.page ≡ key.page = c.in-Some-place_of.ensures.found.page in
    let limit = it.limit in
    let within : key.page ≤ now.limits.pages = omega (arith, fits, key_page, limit) in
    let by = changed_by (Pending v2) now c.args.member c.args.index o c.in-Some.entry c.read.new.into y facts it.is_open it.first it.last there c.in-Some.ensures.found (pends v2 left (file_of key) (slot_of key)) bears it.not_flying within in
    let slot = v2.content (ruj_file c.args.member) (by.index + 1) in
    c.change_line.ensures.keeps told now facts
    (may_put_back (Pending v2) now c.args.member c.args.index o c.in-Some.entry c.read.new.into y facts it.is_open it.first it.last there c.in-Some.ensures.found (pends v2 left (file_of key) (slot_of key)) bears it.not_flying within slot (pends v2 left (ruj_file c.args.member) (by.index + 1)))

pub returns-in_err-read-clause-writes : goal.returns-in_err-read-clause-writes
returns-in_err-read-clause-writes g c = let v = g.D.Disk.view in let v0 = v c.args.disk.now in let v1 = v c.read.new.self in
    let reads = reads_once v0 v1 c.read.result c.read.ensures.counts c.read.ensures.kept in
    (1, 1, some_page, writes_none (area_file 1) 1 v0 v1 reads)

pub returns-in_default-clause-writes : goal.returns-in_default-clause-writes
returns-in_default-clause-writes g c = let v = g.D.Disk.view in let v0 = v c.args.disk.now in let v1 = v c.read.new.self in
    let reads = reads_once v0 v1 c.read.result c.read.ensures.counts c.read.ensures.kept in
    (1, 1, some_page, writes_none (area_file 1) 1 v0 v1 reads)

pub returns-in_default-place_of-clause-writes : goal.returns-in_default-place_of-clause-writes
returns-in_default-place_of-clause-writes g c = let v = g.D.Disk.view in let v0 = v c.args.disk.now in let v1 = v c.read.new.self in
    let reads = reads_once v0 v1 c.read.result c.read.ensures.counts c.read.ensures.kept in
    (1, 1, some_page, writes_none (area_file 1) 1 v0 v1 reads)

pub returns-then-place-pages-clause-writes : goal.returns-then-place-pages-clause-writes
returns-then-place-pages-clause-writes g c = let v = g.D.Disk.view in let v0 = v c.args.disk.now in let v1 = v c.read.new.self in
    let reads = reads_once v0 v1 c.read.result c.read.ensures.counts c.read.ensures.kept in
    (1, 1, some_page, writes_none (area_file 1) 1 v0 v1 reads)

pub returns-in_err-line-clause-writes : goal.returns-in_err-line-clause-writes
returns-in_err-line-clause-writes g c = let v = g.D.Disk.view in let v0 = v c.args.disk.now in let v1 = v c.read.new.self in
    let reads = reads_once v0 v1 c.read.result c.read.ensures.counts c.read.ensures.kept in
    let v2 = v c.line_at.new.disk in let both = then_reads v0 v1 v2 reads c.line_at.ensures.reads in
    (1, 1, some_page, writes_none (area_file 1) 1 v0 v2 both)

pub returns-then-line-tsn-clause-writes : goal.returns-then-line-tsn-clause-writes
returns-then-line-tsn-clause-writes g c = let v = g.D.Disk.view in let v0 = v c.args.disk.now in let v1 = v c.read.new.self in
    let reads = reads_once v0 v1 c.read.result c.read.ensures.counts c.read.ensures.kept in
    let v2 = v c.line_at.new.disk in let both = then_reads v0 v1 v2 reads c.line_at.ensures.reads in
    (1, 1, some_page, writes_none (area_file 1) 1 v0 v2 both)

pub returns-in-Ok-clause-writes : goal.returns-in-Ok-clause-writes
returns-in-Ok-clause-writes g c = let v = g.D.Disk.view in let v0 = v c.args.disk.now in let v1 = v c.read.new.self in
    let reads = reads_once v0 v1 c.read.result c.read.ensures.counts c.read.ensures.kept in
    let v2 = v c.line_at.new.disk in let both = then_reads v0 v1 v2 reads c.line_at.ensures.reads in let v3 = v c.change_line.new.disk in
    let place = c.in-Some-place_of.place in let plain = c.in-Some-place_of.ensures.found.is_data in let first = plain.is_page.first in
    let slot : place.page ≡ place.page - 1 + 1 = omega (arith, first) in
    (place.file, place.page - 1, subst IsDataPage slot plain, reads_then_writes v0 v2 v3 (area_file place.file) (place.page - 1) both c.change_line.ensures.writes)

pub returns-in-Err-clause-writes : goal.returns-in-Err-clause-writes
returns-in-Err-clause-writes g c = let v = g.D.Disk.view in let v0 = v c.args.disk.now in let v1 = v c.read.new.self in
    let reads = reads_once v0 v1 c.read.result c.read.ensures.counts c.read.ensures.kept in
    let v2 = v c.line_at.new.disk in let both = then_reads v0 v1 v2 reads c.line_at.ensures.reads in let v3 = v c.change_line.new.disk in
    let place = c.in-Some-place_of.place in let plain = c.in-Some-place_of.ensures.found.is_data in let first = plain.is_page.first in
    let slot : place.page ≡ place.page - 1 + 1 = omega (arith, first) in
    (place.file, place.page - 1, subst IsDataPage slot plain, reads_then_writes v0 v2 v3 (area_file place.file) (place.page - 1) both c.change_line.ensures.writes)

pub returns-in_default-clause-undone : goal.returns-in_default-clause-undone
returns-in_default-clause-undone g c = let v = g.D.Disk.view in let v0 = v c.args.disk.now in let v1 = v c.read.new.self in
    let reads = reads_once v0 v1 c.read.result c.read.ensures.counts c.read.ensures.kept in
    λ t now o undo it same got.
    let left0 = g.met.D.Disk.content_left c.args.disk.now v0.moment t (omega arith) in
    let there0 = read_pends v0 left0 c.ruj_file-journal.result (ruj_file c.args.member) c.args.index c.args.index c.read.new.into c.ruj_file-journal.ensures refl (c.in_ok-read.ensures.bytes t) in
    let stands = entry_there (Pending v0) now c.args.member c.args.index o c.read.new.into undo it.facts it.is_open it.first got there0 in
    absurd (c.in_default.ensures.none (entry_at o.tsn c.args.index undo) stands)

pub returns-in_default-place_of-clause-undone : goal.returns-in_default-place_of-clause-undone
returns-in_default-place_of-clause-undone g c = let v = g.D.Disk.view in let v0 = v c.args.disk.now in let v1 = v c.read.new.self in
    let reads = reads_once v0 v1 c.read.result c.read.ensures.counts c.read.ensures.kept in
    λ t now o undo it same got bears.
    let left0 = g.met.D.Disk.content_left c.args.disk.now v0.moment t (omega arith) in
    let there0 = read_pends v0 left0 c.ruj_file-journal.result (ruj_file c.args.member) c.args.index c.args.index c.read.new.into c.ruj_file-journal.ensures refl (c.in_ok-read.ensures.bytes t) in
    let stands = entry_there (Pending v0) now c.args.member c.args.index o c.read.new.into undo it.facts it.is_open it.first got there0 in
    let key = key_there c.read.new.into c.in-Some.entry o.tsn c.args.index undo c.in-Some.ensures.found stands in
    let facts1 = facts_read v0 v1 reads t now it.facts in
    let left1 = g.met.D.Disk.content_left c.read.new.self v1.moment (still_tells v0 v1 reads.told t) (omega arith) in
    let number = (it.facts.going c.args.member o it.is_open).number in
    let place = has_its_place (Pending v1) now facts1 undo.key (v1.content (file_of undo.key) (slot_of undo.key)) (pends v1 left1 (file_of undo.key) (slot_of undo.key)) (omega (arith, bears, number)) in
    absurd (c.in_default-place_of.ensures.none (key_place undo.key) (subst (λ (k : Dbkey). IsPlaceOf k (key_place undo.key)) (sym key) place))

pub returns-then-place-pages-clause-undone : goal.returns-then-place-pages-clause-undone
returns-then-place-pages-clause-undone g c = let v = g.D.Disk.view in let v0 = v c.args.disk.now in let v1 = v c.read.new.self in
    let reads = reads_once v0 v1 c.read.result c.read.ensures.counts c.read.ensures.kept in
    λ t now o undo it same got bears.
    let left0 = g.met.D.Disk.content_left c.args.disk.now v0.moment t (omega arith) in
    let there0 = read_pends v0 left0 c.ruj_file-journal.result (ruj_file c.args.member) c.args.index c.args.index c.read.new.into c.ruj_file-journal.ensures refl (c.in_ok-read.ensures.bytes t) in
    let stands = entry_there (Pending v0) now c.args.member c.args.index o c.read.new.into undo it.facts it.is_open it.first got there0 in
    let key = key_there c.read.new.into c.in-Some.entry o.tsn c.args.index undo c.in-Some.ensures.found stands in
    let facts1 = facts_read v0 v1 reads t now it.facts in
    let left1 = g.met.D.Disk.content_left c.read.new.self v1.moment (still_tells v0 v1 reads.told t) (omega arith) in
    let number = (it.facts.going c.args.member o it.is_open).number in
    let limit = it.limit in
    let within = within_limit (Pending v1) now facts1 undo.key (v1.content (file_of undo.key) (slot_of undo.key)) (pends v1 left1 (file_of undo.key) (slot_of undo.key)) (omega (arith, bears, number)) in
    let over : c.args.pages < c.in-Some-place_of.place.page = search rules in
    let page : c.in-Some-place_of.place.page ≡ undo.key.page = c.in-Some-place_of.ensures.found.page ∙ ap (λ (k : Dbkey). k.page) key in
    absurd (omega (arith, within, over, page, limit))

pub returns-then-line-tsn-clause-undone : goal.returns-then-line-tsn-clause-undone
returns-then-line-tsn-clause-undone g c = let v = g.D.Disk.view in let v0 = v c.args.disk.now in let v1 = v c.read.new.self in
    let reads = reads_once v0 v1 c.read.result c.read.ensures.counts c.read.ensures.kept in
    let v2 = v c.line_at.new.disk in let both = then_reads v0 v1 v2 reads c.line_at.ensures.reads in
    λ t now o undo it same got bears.
    let left0 = g.met.D.Disk.content_left c.args.disk.now v0.moment t (omega arith) in
    let there0 = read_pends v0 left0 c.ruj_file-journal.result (ruj_file c.args.member) c.args.index c.args.index c.read.new.into c.ruj_file-journal.ensures refl (c.in_ok-read.ensures.bytes t) in
    let stands = entry_there (Pending v0) now c.args.member c.args.index o c.read.new.into undo it.facts it.is_open it.first got there0 in
    let key = key_there c.read.new.into c.in-Some.entry o.tsn c.args.index undo c.in-Some.ensures.found stands in
    let mid = still_tells v0 v1 reads.told t in
    let line_is : c.in_ok-line.line ≡ line_at v2.content undo.key = c.in_ok-line.ensures.line mid ∙ (λ i. line_at v1.content (key i)) ∙ ap (λ (b : List ℕ). line_on undo.key b) (sym ((c.line_at.ensures.reads.keeps mid).content (file_of undo.key) (slot_of undo.key))) in
    let off : c.in_ok-line.line.tsn.number ≢ c.args.tsn.number = search rules in
    off (ap (λ (l : Line). l.tsn.number) line_is ∙ bears ∙ ap (λ (n : Tsn). n.number) (sym same))

pub returns-in-Ok-clause-undone : goal.returns-in-Ok-clause-undone
returns-in-Ok-clause-undone g c = let v = g.D.Disk.view in let v0 = v c.args.disk.now in let v1 = v c.read.new.self in
    let reads = reads_once v0 v1 c.read.result c.read.ensures.counts c.read.ensures.kept in
    let v2 = v c.line_at.new.disk in let both = then_reads v0 v1 v2 reads c.line_at.ensures.reads in
    λ t now o undo it same got bears.
    let left0 = g.met.D.Disk.content_left c.args.disk.now v0.moment t (omega arith) in
    let there0 = read_pends v0 left0 c.ruj_file-journal.result (ruj_file c.args.member) c.args.index c.args.index c.read.new.into c.ruj_file-journal.ensures refl (c.in_ok-read.ensures.bytes t) in
    let stands = entry_there (Pending v0) now c.args.member c.args.index o c.read.new.into undo it.facts it.is_open it.first got there0 in
    let at_key = key_there c.read.new.into c.in-Some.entry o.tsn c.args.index undo c.in-Some.ensures.found stands in
    let again : (line_at (v c.change_line.new.disk).content c.in-Some.entry.key).tsn.number ≡ o.tsn.number = ap (λ (k : Dbkey). (line_at (v c.change_line.new.disk).content k).tsn.number) at_key ∙ bears in
    let told = still_tells v0 v2 both.told t in
    let facts = facts_read v0 v2 both t now it.facts in
    let left = g.met.D.Disk.content_left c.line_at.new.disk v2.moment told (omega arith) in
    let key = c.in-Some.entry.key in
    let there = read_pends v2 left c.ruj_file-journal.result (ruj_file c.args.member) c.args.index c.args.index c.read.new.into c.ruj_file-journal.ensures refl (c.in_ok-read.ensures.bytes t ∙ sym ((both.keeps t).content c.ruj_file-journal.result c.args.index)) in
    let y = v2.content (file_of key) (slot_of key) in
    let number : c.in_ok-line.line.tsn.number ≡ c.args.tsn.number = search rules in
    let mid = still_tells v0 v1 reads.told t in
    let line_is : c.in_ok-line.line ≡ line_at v2.content key = c.in_ok-line.ensures.line mid ∙ ap (λ (b : List ℕ). line_on key b) (sym ((c.line_at.ensures.reads.keeps mid).content (file_of key) (slot_of key))) in
    let bears : (line_at v2.content key).tsn.number ≡ o.tsn.number = ap (λ (l : Line). l.tsn.number) (sym line_is) ∙ number ∙ ap (λ (n : Tsn). n.number) same in
    let fits : c.in-Some-place_of.place.page ≤ c.args.pages = search rules in
    let key_page : c.in-Some-place_of.place.page ≡ key.page = c.in-Some-place_of.ensures.found.page in
    let limit = it.limit in
    let within : key.page ≤ now.limits.pages = omega (arith, fits, key_page, limit) in
    let by = changed_by (Pending v2) now c.args.member c.args.index o c.in-Some.entry c.read.new.into y facts it.is_open it.first it.last there c.in-Some.ensures.found (pends v2 left (file_of key) (slot_of key)) bears it.not_flying within in
    let slot = v2.content (ruj_file c.args.member) (by.index + 1) in
    before_apart (Pending v2) now c.args.member c.args.index o c.in-Some.entry c.read.new.into y facts it.is_open it.first it.last there c.in-Some.ensures.found (pends v2 left (file_of key) (slot_of key)) bears it.not_flying within slot (pends v2 left (ruj_file c.args.member) (by.index + 1)) (ap (λ (l : Line). l.tsn.number) (sym (c.in-Ok.ensures.stands told now facts)) ∙ again)

pub returns-in_default-clause-others : goal.returns-in_default-clause-others
returns-in_default-clause-others g c = let v = g.D.Disk.view in let v0 = v c.args.disk.now in let v1 = v c.read.new.self in
    let reads = reads_once v0 v1 c.read.result c.read.ensures.counts c.read.ensures.kept in
    λ t now o undo other it same got off. ap (λ (b : List ℕ). line_on other b) ((reads.keeps t).content (file_of other) (slot_of other))

pub returns-in_default-place_of-clause-others : goal.returns-in_default-place_of-clause-others
returns-in_default-place_of-clause-others g c = let v = g.D.Disk.view in let v0 = v c.args.disk.now in let v1 = v c.read.new.self in
    let reads = reads_once v0 v1 c.read.result c.read.ensures.counts c.read.ensures.kept in
    λ t now o undo other it same got off. ap (λ (b : List ℕ). line_on other b) ((reads.keeps t).content (file_of other) (slot_of other))

pub returns-then-place-pages-clause-others : goal.returns-then-place-pages-clause-others
returns-then-place-pages-clause-others g c = let v = g.D.Disk.view in let v0 = v c.args.disk.now in let v1 = v c.read.new.self in
    let reads = reads_once v0 v1 c.read.result c.read.ensures.counts c.read.ensures.kept in
    λ t now o undo other it same got off. ap (λ (b : List ℕ). line_on other b) ((reads.keeps t).content (file_of other) (slot_of other))

pub returns-then-line-tsn-clause-others : goal.returns-then-line-tsn-clause-others
returns-then-line-tsn-clause-others g c = let v = g.D.Disk.view in let v0 = v c.args.disk.now in let v1 = v c.read.new.self in
    let reads = reads_once v0 v1 c.read.result c.read.ensures.counts c.read.ensures.kept in
    let v2 = v c.line_at.new.disk in let both = then_reads v0 v1 v2 reads c.line_at.ensures.reads in
    λ t now o undo other it same got off. ap (λ (b : List ℕ). line_on other b) ((both.keeps t).content (file_of other) (slot_of other))

pub returns-in-Ok-clause-others : goal.returns-in-Ok-clause-others
returns-in-Ok-clause-others g c = let v = g.D.Disk.view in let v0 = v c.args.disk.now in let v1 = v c.read.new.self in
    let reads = reads_once v0 v1 c.read.result c.read.ensures.counts c.read.ensures.kept in
    let v2 = v c.line_at.new.disk in let both = then_reads v0 v1 v2 reads c.line_at.ensures.reads in
    λ t now o undo other it same got off.
    let left0 = g.met.D.Disk.content_left c.args.disk.now v0.moment t (omega arith) in
    let there0 = read_pends v0 left0 c.ruj_file-journal.result (ruj_file c.args.member) c.args.index c.args.index c.read.new.into c.ruj_file-journal.ensures refl (c.in_ok-read.ensures.bytes t) in
    let stands = entry_there (Pending v0) now c.args.member c.args.index o c.read.new.into undo it.facts it.is_open it.first got there0 in
    let key = key_there c.read.new.into c.in-Some.entry o.tsn c.args.index undo c.in-Some.ensures.found stands in
    c.in-Ok.ensures.others (still_tells v0 v2 both.told t) now (facts_read v0 v2 both t now it.facts) other (λ e. off (e ∙ key)) ∙ ap (λ (b : List ℕ). line_on other b) ((both.keeps t).content (file_of other) (slot_of other))

pub returns-in_default-clause-ended : goal.returns-in_default-clause-ended
returns-in_default-clause-ended g c = let v = g.D.Disk.view in let v0 = v c.args.disk.now in let v1 = v c.read.new.self in
    let reads = reads_once v0 v1 c.read.result c.read.ensures.counts c.read.ensures.kept in
    λ t now o key it same. inl (ap (λ (b : List ℕ). line_on key b) ((reads.keeps t).content (file_of key) (slot_of key)))

pub returns-in_default-place_of-clause-ended : goal.returns-in_default-place_of-clause-ended
returns-in_default-place_of-clause-ended g c = let v = g.D.Disk.view in let v0 = v c.args.disk.now in let v1 = v c.read.new.self in
    let reads = reads_once v0 v1 c.read.result c.read.ensures.counts c.read.ensures.kept in
    λ t now o key it same. inl (ap (λ (b : List ℕ). line_on key b) ((reads.keeps t).content (file_of key) (slot_of key)))

pub returns-then-place-pages-clause-ended : goal.returns-then-place-pages-clause-ended
returns-then-place-pages-clause-ended g c = let v = g.D.Disk.view in let v0 = v c.args.disk.now in let v1 = v c.read.new.self in
    let reads = reads_once v0 v1 c.read.result c.read.ensures.counts c.read.ensures.kept in
    λ t now o key it same. inl (ap (λ (b : List ℕ). line_on key b) ((reads.keeps t).content (file_of key) (slot_of key)))

pub returns-then-line-tsn-clause-ended : goal.returns-then-line-tsn-clause-ended
returns-then-line-tsn-clause-ended g c = let v = g.D.Disk.view in let v0 = v c.args.disk.now in let v1 = v c.read.new.self in
    let reads = reads_once v0 v1 c.read.result c.read.ensures.counts c.read.ensures.kept in
    let v2 = v c.line_at.new.disk in let both = then_reads v0 v1 v2 reads c.line_at.ensures.reads in
    λ t now o key it same. inl (ap (λ (b : List ℕ). line_on key b) ((both.keeps t).content (file_of key) (slot_of key)))

pub returns-in-Ok-clause-ended : goal.returns-in-Ok-clause-ended
returns-in-Ok-clause-ended g c = let v = g.D.Disk.view in let v0 = v c.args.disk.now in let v1 = v c.read.new.self in
    let reads = reads_once v0 v1 c.read.result c.read.ensures.counts c.read.ensures.kept in
    let v2 = v c.line_at.new.disk in let both = then_reads v0 v1 v2 reads c.line_at.ensures.reads in
    λ t now o other it same.
    let told = still_tells v0 v2 both.told t in
    let facts = facts_read v0 v2 both t now it.facts in
    let left = g.met.D.Disk.content_left c.line_at.new.disk v2.moment told (omega arith) in
    let key = c.in-Some.entry.key in
    let there = read_pends v2 left c.ruj_file-journal.result (ruj_file c.args.member) c.args.index c.args.index c.read.new.into c.ruj_file-journal.ensures refl (c.in_ok-read.ensures.bytes t ∙ sym ((both.keeps t).content c.ruj_file-journal.result c.args.index)) in
    let y = v2.content (file_of key) (slot_of key) in
    let number : c.in_ok-line.line.tsn.number ≡ c.args.tsn.number = search rules in
    let mid = still_tells v0 v1 reads.told t in
    let line_is : c.in_ok-line.line ≡ line_at v2.content key = c.in_ok-line.ensures.line mid ∙ ap (λ (b : List ℕ). line_on key b) (sym ((c.line_at.ensures.reads.keeps mid).content (file_of key) (slot_of key))) in
    let bears : (line_at v2.content key).tsn.number ≡ o.tsn.number = ap (λ (l : Line). l.tsn.number) (sym line_is) ∙ number ∙ ap (λ (n : Tsn). n.number) same in
    let fits : c.in-Some-place_of.place.page ≤ c.args.pages = search rules in
    let key_page : c.in-Some-place_of.place.page ≡ key.page = c.in-Some-place_of.ensures.found.page in
    let limit = it.limit in
    let within : key.page ≤ now.limits.pages = omega (arith, fits, key_page, limit) in
    let by = changed_by (Pending v2) now c.args.member c.args.index o c.in-Some.entry c.read.new.into y facts it.is_open it.first it.last there c.in-Some.ensures.found (pends v2 left (file_of key) (slot_of key)) bears it.not_flying within in
    let slot = v2.content (ruj_file c.args.member) (by.index + 1) in
    let v3 = v c.change_line.new.disk in
    let ended = before_ended (Pending v2) now c.args.member c.args.index o c.in-Some.entry c.read.new.into y facts it.is_open it.first it.last there c.in-Some.ensures.found (pends v2 left (file_of key) (slot_of key)) bears it.not_flying within slot (pends v2 left (ruj_file c.args.member) (by.index + 1)) in
    ⊎_elim
    (λ at_key. inr (subst (λ (k : Dbkey). IsNotOpen now (line_at v3.content k).tsn.number) (sym at_key) (subst (λ (l : Line). IsNotOpen now l.tsn.number) (sym (c.in-Ok.ensures.stands told now facts)) ended)))
    (λ off. inl (c.in-Ok.ensures.others told now facts other off ∙ ap (λ (b : List ℕ). line_on other b) ((both.keeps t).content (file_of other) (slot_of other))))
    (same_key other key)

pub returns-in_err-line-clause-bad : goal.returns-in_err-line-clause-bad
returns-in_err-line-clause-bad g c = let v = g.D.Disk.view in let v0 = v c.args.disk.now in let v1 = v c.read.new.self in
    let reads = reads_once v0 v1 c.read.result c.read.ensures.counts c.read.ensures.kept in
    λ file slot is t now o it same.
    let told = still_tells v0 v1 reads.told t in
    let left = g.met.D.Disk.content_left c.read.new.self v1.moment told (omega arith) in
    let place = c.in-Some-place_of.place in let names = c.in-Some-place_of.ensures.found in
    c.line_at.ensures.bad file slot (search rules) told
    ((facts_read v0 v1 reads t now it.facts).pages.page place.file place.page (v1.content (area_file place.file) (place.page - 1)) (area_is c.in-Some.entry.key place names) names.is_data (pends v1 left (area_file place.file) (place.page - 1)))

pub returns-in-Err-clause-bad : goal.returns-in-Err-clause-bad
returns-in-Err-clause-bad g c = let v = g.D.Disk.view in let v0 = v c.args.disk.now in let v1 = v c.read.new.self in
    let reads = reads_once v0 v1 c.read.result c.read.ensures.counts c.read.ensures.kept in
    let v2 = v c.line_at.new.disk in let both = then_reads v0 v1 v2 reads c.line_at.ensures.reads in
    λ bad_file bad_slot is t now o it same.
    let told = still_tells v0 v2 both.told t in
    let facts = facts_read v0 v2 both t now it.facts in
    let left = g.met.D.Disk.content_left c.line_at.new.disk v2.moment told (omega arith) in
    let key = c.in-Some.entry.key in
    let there = read_pends v2 left c.ruj_file-journal.result (ruj_file c.args.member) c.args.index c.args.index c.read.new.into c.ruj_file-journal.ensures refl (c.in_ok-read.ensures.bytes t ∙ sym ((both.keeps t).content c.ruj_file-journal.result c.args.index)) in
    let y = v2.content (file_of key) (slot_of key) in
    let number : c.in_ok-line.line.tsn.number ≡ c.args.tsn.number = search rules in
    let mid = still_tells v0 v1 reads.told t in
    let line_is : c.in_ok-line.line ≡ line_at v2.content key = c.in_ok-line.ensures.line mid ∙ ap (λ (b : List ℕ). line_on key b) (sym ((c.line_at.ensures.reads.keeps mid).content (file_of key) (slot_of key))) in
    let bears : (line_at v2.content key).tsn.number ≡ o.tsn.number = ap (λ (l : Line). l.tsn.number) (sym line_is) ∙ number ∙ ap (λ (n : Tsn). n.number) same in
    let fits : c.in-Some-place_of.place.page ≤ c.args.pages = search rules in
    let key_page : c.in-Some-place_of.place.page ≡ key.page = c.in-Some-place_of.ensures.found.page in
    let limit = it.limit in
    let within : key.page ≤ now.limits.pages = omega (arith, fits, key_page, limit) in
    let by = changed_by (Pending v2) now c.args.member c.args.index o c.in-Some.entry c.read.new.into y facts it.is_open it.first it.last there c.in-Some.ensures.found (pends v2 left (file_of key) (slot_of key)) bears it.not_flying within in
    let slot = v2.content (ruj_file c.args.member) (by.index + 1) in
    let place = c.in-Some-place_of.place in let names = c.in-Some-place_of.ensures.found in
    let at_place = place_content v2.content key place names in
    let fits_there = fits_back (Pending v2) now c.args.member c.args.index o c.in-Some.entry c.read.new.into y facts it.is_open it.first it.last there c.in-Some.ensures.found (pends v2 left (file_of key) (slot_of key)) bears it.not_flying within slot (pends v2 left (ruj_file c.args.member) (by.index + 1)) in
    c.change_line.ensures.bad bad_file bad_slot (search rules) told
    (facts.pages.page place.file place.page (v2.content (area_file place.file) (place.page - 1)) (area_is key place names) names.is_data (pends v2 left (area_file place.file) (place.page - 1)))
    (subst (λ (b : List ℕ). Fits key c.in-Some.entry.before b) (sym at_place) fits_there)

pub returns-in_err-read-clause-restores : goal.returns-in_err-read-clause-restores
returns-in_err-read-clause-restores g c = let v = g.D.Disk.view in let v0 = v c.args.disk.now in let v1 = v c.read.new.self in
    let reads = reads_once v0 v1 c.read.result c.read.ensures.counts c.read.ensures.kept in
    λ t now o undo it same got key. inl (keeps_lines v0.content v1.content (reads.keeps t).content key)

pub returns-in_default-clause-restores : goal.returns-in_default-clause-restores
returns-in_default-clause-restores g c = let v = g.D.Disk.view in let v0 = v c.args.disk.now in let v1 = v c.read.new.self in
    let reads = reads_once v0 v1 c.read.result c.read.ensures.counts c.read.ensures.kept in
    λ t now o undo it same got key. inl (keeps_lines v0.content v1.content (reads.keeps t).content key)

pub returns-in_default-place_of-clause-restores : goal.returns-in_default-place_of-clause-restores
returns-in_default-place_of-clause-restores g c = let v = g.D.Disk.view in let v0 = v c.args.disk.now in let v1 = v c.read.new.self in
    let reads = reads_once v0 v1 c.read.result c.read.ensures.counts c.read.ensures.kept in
    λ t now o undo it same got key. inl (keeps_lines v0.content v1.content (reads.keeps t).content key)

pub returns-then-place-pages-clause-restores : goal.returns-then-place-pages-clause-restores
returns-then-place-pages-clause-restores g c = let v = g.D.Disk.view in let v0 = v c.args.disk.now in let v1 = v c.read.new.self in
    let reads = reads_once v0 v1 c.read.result c.read.ensures.counts c.read.ensures.kept in
    λ t now o undo it same got key. inl (keeps_lines v0.content v1.content (reads.keeps t).content key)

pub returns-in_err-line-clause-restores : goal.returns-in_err-line-clause-restores
returns-in_err-line-clause-restores g c = let v = g.D.Disk.view in let v0 = v c.args.disk.now in let v1 = v c.read.new.self in
    let reads = reads_once v0 v1 c.read.result c.read.ensures.counts c.read.ensures.kept in
    let v2 = v c.line_at.new.disk in let both = then_reads v0 v1 v2 reads c.line_at.ensures.reads in
    λ t now o undo it same got key. inl (keeps_lines v0.content v2.content (both.keeps t).content key)

pub returns-then-line-tsn-clause-restores : goal.returns-then-line-tsn-clause-restores
returns-then-line-tsn-clause-restores g c = let v = g.D.Disk.view in let v0 = v c.args.disk.now in let v1 = v c.read.new.self in
    let reads = reads_once v0 v1 c.read.result c.read.ensures.counts c.read.ensures.kept in
    let v2 = v c.line_at.new.disk in let both = then_reads v0 v1 v2 reads c.line_at.ensures.reads in
    λ t now o undo it same got key. inl (keeps_lines v0.content v2.content (both.keeps t).content key)

pub returns-in-Ok-clause-restores : goal.returns-in-Ok-clause-restores
returns-in-Ok-clause-restores g c = let v = g.D.Disk.view in let v0 = v c.args.disk.now in let v1 = v c.read.new.self in
    let reads = reads_once v0 v1 c.read.result c.read.ensures.counts c.read.ensures.kept in
    let v2 = v c.line_at.new.disk in let both = then_reads v0 v1 v2 reads c.line_at.ensures.reads in
    λ t now o undo it same got key.
    let left0 = g.met.D.Disk.content_left c.args.disk.now v0.moment t (omega arith) in
    let there0 = read_pends v0 left0 c.ruj_file-journal.result (ruj_file c.args.member) c.args.index c.args.index c.read.new.into c.ruj_file-journal.ensures refl (c.in_ok-read.ensures.bytes t) in
    let stands = entry_there (Pending v0) now c.args.member c.args.index o c.read.new.into undo it.facts it.is_open it.first got there0 in
    ⊎_elim (λ as_was. inl (as_was ∙ keeps_lines v0.content v2.content (both.keeps t).content key))
    (λ here. inr (here.0 ∙ key_there c.read.new.into c.in-Some.entry o.tsn c.args.index undo c.in-Some.ensures.found stands, here.1 ∙ before_there c.read.new.into c.in-Some.entry o.tsn c.args.index undo c.in-Some.ensures.found stands))
    (c.change_line.ensures.changes (still_tells v0 v2 both.told t) now (facts_read v0 v2 both t now it.facts) key)

pub returns-in-Err-clause-restores : goal.returns-in-Err-clause-restores
returns-in-Err-clause-restores g c = let v = g.D.Disk.view in let v0 = v c.args.disk.now in let v1 = v c.read.new.self in
    let reads = reads_once v0 v1 c.read.result c.read.ensures.counts c.read.ensures.kept in
    let v2 = v c.line_at.new.disk in let both = then_reads v0 v1 v2 reads c.line_at.ensures.reads in
    λ t now o undo it same got key.
    let left0 = g.met.D.Disk.content_left c.args.disk.now v0.moment t (omega arith) in
    let there0 = read_pends v0 left0 c.ruj_file-journal.result (ruj_file c.args.member) c.args.index c.args.index c.read.new.into c.ruj_file-journal.ensures refl (c.in_ok-read.ensures.bytes t) in
    let stands = entry_there (Pending v0) now c.args.member c.args.index o c.read.new.into undo it.facts it.is_open it.first got there0 in
    ⊎_elim (λ as_was. inl (as_was ∙ keeps_lines v0.content v2.content (both.keeps t).content key))
    (λ here. inr (here.0 ∙ key_there c.read.new.into c.in-Some.entry o.tsn c.args.index undo c.in-Some.ensures.found stands, here.1 ∙ before_there c.read.new.into c.in-Some.entry o.tsn c.args.index undo c.in-Some.ensures.found stands))
    (c.change_line.ensures.changes (still_tells v0 v2 both.told t) now (facts_read v0 v2 both t now it.facts) key)

pub returns-in_default-clause-nothing : goal.returns-in_default-clause-nothing
returns-in_default-clause-nothing g c = let v = g.D.Disk.view in let v0 = v c.args.disk.now in let v1 = v c.read.new.self in
    let reads = reads_once v0 v1 c.read.result c.read.ensures.counts c.read.ensures.kept in
    λ is. reads

pub returns-in_default-place_of-clause-nothing : goal.returns-in_default-place_of-clause-nothing
returns-in_default-place_of-clause-nothing g c = let v = g.D.Disk.view in let v0 = v c.args.disk.now in let v1 = v c.read.new.self in
    let reads = reads_once v0 v1 c.read.result c.read.ensures.counts c.read.ensures.kept in
    λ is. reads

pub returns-then-place-pages-clause-nothing : goal.returns-then-place-pages-clause-nothing
returns-then-place-pages-clause-nothing g c = let v = g.D.Disk.view in let v0 = v c.args.disk.now in let v1 = v c.read.new.self in
    let reads = reads_once v0 v1 c.read.result c.read.ensures.counts c.read.ensures.kept in
    λ is. reads

pub returns-then-line-tsn-clause-nothing : goal.returns-then-line-tsn-clause-nothing
returns-then-line-tsn-clause-nothing g c = let v = g.D.Disk.view in let v0 = v c.args.disk.now in let v1 = v c.read.new.self in
    let reads = reads_once v0 v1 c.read.result c.read.ensures.counts c.read.ensures.kept in
    let v2 = v c.line_at.new.disk in
    λ is. then_reads v0 v1 v2 reads c.line_at.ensures.reads

pub returns-in_err-read-clause-classes : goal.returns-in_err-read-clause-classes
returns-in_err-read-clause-classes g c = let v = g.D.Disk.view in let v0 = v c.args.disk.now in let v1 = v c.read.new.self in
    let reads = reads_once v0 v1 c.read.result c.read.ensures.counts c.read.ensures.kept in
    λ t now was classes had. classes_read classes v0 v1 reads t had

pub returns-in_default-clause-classes : goal.returns-in_default-clause-classes
returns-in_default-clause-classes g c = let v = g.D.Disk.view in let v0 = v c.args.disk.now in let v1 = v c.read.new.self in
    let reads = reads_once v0 v1 c.read.result c.read.ensures.counts c.read.ensures.kept in
    λ t now was classes had. classes_read classes v0 v1 reads t had

pub returns-in_default-place_of-clause-classes : goal.returns-in_default-place_of-clause-classes
returns-in_default-place_of-clause-classes g c = let v = g.D.Disk.view in let v0 = v c.args.disk.now in let v1 = v c.read.new.self in
    let reads = reads_once v0 v1 c.read.result c.read.ensures.counts c.read.ensures.kept in
    λ t now was classes had. classes_read classes v0 v1 reads t had

pub returns-then-place-pages-clause-classes : goal.returns-then-place-pages-clause-classes
returns-then-place-pages-clause-classes g c = let v = g.D.Disk.view in let v0 = v c.args.disk.now in let v1 = v c.read.new.self in
    let reads = reads_once v0 v1 c.read.result c.read.ensures.counts c.read.ensures.kept in
    λ t now was classes had. classes_read classes v0 v1 reads t had

pub returns-in_err-line-clause-classes : goal.returns-in_err-line-clause-classes
returns-in_err-line-clause-classes g c = let v = g.D.Disk.view in let v0 = v c.args.disk.now in let v1 = v c.read.new.self in
    let reads = reads_once v0 v1 c.read.result c.read.ensures.counts c.read.ensures.kept in
    let v2 = v c.line_at.new.disk in let both = then_reads v0 v1 v2 reads c.line_at.ensures.reads in
    λ t now was classes had. classes_read classes v0 v2 both t had

pub returns-then-line-tsn-clause-classes : goal.returns-then-line-tsn-clause-classes
returns-then-line-tsn-clause-classes g c = let v = g.D.Disk.view in let v0 = v c.args.disk.now in let v1 = v c.read.new.self in
    let reads = reads_once v0 v1 c.read.result c.read.ensures.counts c.read.ensures.kept in
    let v2 = v c.line_at.new.disk in let both = then_reads v0 v1 v2 reads c.line_at.ensures.reads in
    λ t now was classes had. classes_read classes v0 v2 both t had

pub returns-in-Ok-clause-classes : goal.returns-in-Ok-clause-classes
returns-in-Ok-clause-classes g c = let v = g.D.Disk.view in let v0 = v c.args.disk.now in let v1 = v c.read.new.self in
    let reads = reads_once v0 v1 c.read.result c.read.ensures.counts c.read.ensures.kept in
    let v2 = v c.line_at.new.disk in let both = then_reads v0 v1 v2 reads c.line_at.ensures.reads in
    λ t now was classes had. c.change_line.ensures.classes (still_tells v0 v2 both.told t) now (facts_read v0 v2 both t now was) classes (classes_read classes v0 v2 both t had)

pub returns-in-Err-clause-classes : goal.returns-in-Err-clause-classes
returns-in-Err-clause-classes g c = let v = g.D.Disk.view in let v0 = v c.args.disk.now in let v1 = v c.read.new.self in
    let reads = reads_once v0 v1 c.read.result c.read.ensures.counts c.read.ensures.kept in
    let v2 = v c.line_at.new.disk in let both = then_reads v0 v1 v2 reads c.line_at.ensures.reads in
    λ t now was classes had. c.change_line.ensures.classes (still_tells v0 v2 both.told t) now (facts_read v0 v2 both t now was) classes (classes_read classes v0 v2 both t had)

pub returns-in_err-read-clause-owners : goal.returns-in_err-read-clause-owners
returns-in_err-read-clause-owners g c = let v = g.D.Disk.view in let v0 = v c.args.disk.now in let v1 = v c.read.new.self in
    let reads = reads_once v0 v1 c.read.result c.read.ensures.counts c.read.ensures.kept in
    λ t now was there area is_file is_data. owners_stay v0 v1 (reads.keeps t).pending there area

pub returns-in_default-clause-owners : goal.returns-in_default-clause-owners
returns-in_default-clause-owners g c = let v = g.D.Disk.view in let v0 = v c.args.disk.now in let v1 = v c.read.new.self in
    let reads = reads_once v0 v1 c.read.result c.read.ensures.counts c.read.ensures.kept in
    λ t now was there area is_file is_data. owners_stay v0 v1 (reads.keeps t).pending there area

pub returns-in_default-place_of-clause-owners : goal.returns-in_default-place_of-clause-owners
returns-in_default-place_of-clause-owners g c = let v = g.D.Disk.view in let v0 = v c.args.disk.now in let v1 = v c.read.new.self in
    let reads = reads_once v0 v1 c.read.result c.read.ensures.counts c.read.ensures.kept in
    λ t now was there area is_file is_data. owners_stay v0 v1 (reads.keeps t).pending there area

pub returns-then-place-pages-clause-owners : goal.returns-then-place-pages-clause-owners
returns-then-place-pages-clause-owners g c = let v = g.D.Disk.view in let v0 = v c.args.disk.now in let v1 = v c.read.new.self in
    let reads = reads_once v0 v1 c.read.result c.read.ensures.counts c.read.ensures.kept in
    λ t now was there area is_file is_data. owners_stay v0 v1 (reads.keeps t).pending there area

pub returns-in_err-line-clause-owners : goal.returns-in_err-line-clause-owners
returns-in_err-line-clause-owners g c = let v = g.D.Disk.view in let v0 = v c.args.disk.now in let v1 = v c.read.new.self in
    let reads = reads_once v0 v1 c.read.result c.read.ensures.counts c.read.ensures.kept in
    let v2 = v c.line_at.new.disk in let both = then_reads v0 v1 v2 reads c.line_at.ensures.reads in
    λ t now was there area is_file is_data. owners_stay v0 v2 (both.keeps t).pending there area

pub returns-then-line-tsn-clause-owners : goal.returns-then-line-tsn-clause-owners
returns-then-line-tsn-clause-owners g c = let v = g.D.Disk.view in let v0 = v c.args.disk.now in let v1 = v c.read.new.self in
    let reads = reads_once v0 v1 c.read.result c.read.ensures.counts c.read.ensures.kept in
    let v2 = v c.line_at.new.disk in let both = then_reads v0 v1 v2 reads c.line_at.ensures.reads in
    λ t now was there area is_file is_data. owners_stay v0 v2 (both.keeps t).pending there area

pub returns-in-Ok-clause-owners : goal.returns-in-Ok-clause-owners
returns-in-Ok-clause-owners g c = let v = g.D.Disk.view in let v0 = v c.args.disk.now in let v1 = v c.read.new.self in
    let reads = reads_once v0 v1 c.read.result c.read.ensures.counts c.read.ensures.kept in
    let v2 = v c.line_at.new.disk in let both = then_reads v0 v1 v2 reads c.line_at.ensures.reads in
    λ t now was there area is_file is_data may. c.change_line.ensures.owners (still_tells v0 v2 both.told t) now (facts_read v0 v2 both t now was) there area is_file is_data (owners_stay v0 v2 (both.keeps t).pending there area may)

pub returns-in-Err-clause-owners : goal.returns-in-Err-clause-owners
returns-in-Err-clause-owners g c = let v = g.D.Disk.view in let v0 = v c.args.disk.now in let v1 = v c.read.new.self in
    let reads = reads_once v0 v1 c.read.result c.read.ensures.counts c.read.ensures.kept in
    let v2 = v c.line_at.new.disk in let both = then_reads v0 v1 v2 reads c.line_at.ensures.reads in
    λ t now was there area is_file is_data may. c.change_line.ensures.owners (still_tells v0 v2 both.told t) now (facts_read v0 v2 both t now was) there area is_file is_data (owners_stay v0 v2 (both.keeps t).pending there area may)
