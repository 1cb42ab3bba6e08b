use Rattle.std.proofs.Common.{◌∙◌, inl, inr, ⊎_elim, sym, subst, refl}
use Rattle.rdb_types.specs.declared.keys.Line.{Line}
use Rattle.line_store.specs.rdb_outside.Disk.{Pending}
use Rattle.stable_lines.specs.ruj_journal.Entry.{IsEntry}
use Rattle.stable_lines.specs.Slots.{ruj_file, entry_at, line_at}
use Rattle.stable_lines.proofs.Headers.{entry_written}
use Rattle.line_moves.proofs.Runs.{facts_read, writes_none, writes_one, more_behind, here_at, still_tells}
use Rattle.line_moves.proofs.entries.write_before_image.Goals as goal

pub returns-in_err-before-clause-writes : goal.returns-in_err-before-clause-writes
returns-in_err-before-clause-writes g c = let v = g.D.Disk.view in let old = v c.args.disk.now in let mid = v c.line_at.new.disk in let reads = c.line_at.ensures.reads in writes_none (ruj_file c.args.member) c.args.index old mid reads

pub returns-in_err-before-clause-keeps : goal.returns-in_err-before-clause-keeps
returns-in_err-before-clause-keeps g c = let v = g.D.Disk.view in let old = v c.args.disk.now in let mid = v c.line_at.new.disk in let reads = c.line_at.ensures.reads in λ t now o was is same none behind. facts_read old mid reads t now was

pub returns-in_err-write-clause-writes : goal.returns-in_err-write-clause-writes
returns-in_err-write-clause-writes g c = let v = g.D.Disk.view in let old = v c.args.disk.now in let mid = v c.line_at.new.disk in let reads = c.line_at.ensures.reads in let new = v c.write.new.self in
    let told = still_tells old mid reads.told in
    writes_one old mid new c.ruj_file.result (ruj_file c.args.member) c.args.index c.args.index c.put_entry.new.slot c.write.result c.ruj_file.ensures refl reads c.write.ensures.counts c.write.ensures.pending c.in_err-write.ensures.failed

pub returns-in_err-write-clause-keeps : goal.returns-in_err-write-clause-keeps
returns-in_err-write-clause-keeps g c = let v = g.D.Disk.view in let old = v c.args.disk.now in let mid = v c.line_at.new.disk in let reads = c.line_at.ensures.reads in let new = v c.write.new.self in
    let told = still_tells old mid reads.told in
    λ t now o was is same none behind.
    let more = more_behind old mid new c.ruj_file.result (ruj_file c.args.member) c.args.index c.args.index c.put_entry.new.slot c.ruj_file.ensures refl t reads (c.write.ensures.pending (told t)) in
    entry_written (Pending old) (Pending new) now c.args.member c.args.index o (record { tsn = c.args.tsn; index = c.args.index; key = c.args.key; before = c.in_ok-before.before }) c.put_entry.new.slot more is c.put_entry.ensures same none behind was

pub returns-clause-writes : goal.returns-clause-writes
returns-clause-writes g c = let v = g.D.Disk.view in let old = v c.args.disk.now in let mid = v c.line_at.new.disk in let reads = c.line_at.ensures.reads in let new = v c.write.new.self in
    let told = still_tells old mid reads.told in
    writes_one old mid new c.ruj_file.result (ruj_file c.args.member) c.args.index c.args.index c.put_entry.new.slot c.write.result c.ruj_file.ensures refl reads c.write.ensures.counts c.write.ensures.pending (λ t. inr (c.in_ok-write.ensures.written t))

pub returns-clause-keeps : goal.returns-clause-keeps
returns-clause-keeps g c = let v = g.D.Disk.view in let old = v c.args.disk.now in let mid = v c.line_at.new.disk in let reads = c.line_at.ensures.reads in let new = v c.write.new.self in
    let told = still_tells old mid reads.told in
    λ t now o was is same none behind.
    let more = more_behind old mid new c.ruj_file.result (ruj_file c.args.member) c.args.index c.args.index c.put_entry.new.slot c.ruj_file.ensures refl t reads (c.write.ensures.pending (told t)) in
    entry_written (Pending old) (Pending new) now c.args.member c.args.index o (record { tsn = c.args.tsn; index = c.args.index; key = c.args.key; before = c.in_ok-before.before }) c.put_entry.new.slot more is c.put_entry.ensures same none behind was

pub returns-clause-noted : goal.returns-clause-noted
returns-clause-noted g c = let v = g.D.Disk.view in let old = v c.args.disk.now in let mid = v c.line_at.new.disk in let reads = c.line_at.ensures.reads in let new = v c.write.new.self in
    let told = still_tells old mid reads.told in
    λ t. let here = here_at new c.ruj_file.result (ruj_file c.args.member) c.args.index c.args.index c.put_entry.new.slot c.ruj_file.ensures refl (c.in_ok-write.ensures.written (told t)).here in
    subst (λ (b : _). IsEntry b (entry_at c.args.tsn c.args.index (record { key = c.args.key; before = line_at old.content c.args.key }))) (sym here)
    (subst (λ (l : Line). IsEntry c.put_entry.new.slot (entry_at c.args.tsn c.args.index (record { key = c.args.key; before = l }))) (c.in_ok-before.ensures.line t) c.put_entry.ensures)

pub returns-clause-adds : goal.returns-clause-adds
returns-clause-adds g c = let v = g.D.Disk.view in let old = v c.args.disk.now in let mid = v c.line_at.new.disk in let reads = c.line_at.ensures.reads in let new = v c.write.new.self in
    let told = still_tells old mid reads.told in
    λ t f i x q.
    let here = here_at new c.ruj_file.result (ruj_file c.args.member) c.args.index c.args.index c.put_entry.new.slot c.ruj_file.ensures refl (c.in_ok-write.ensures.written (told t)).here in
    ⊎_elim (λ p. inl p) (λ at. inr (at.0, at.1, at.2 ∙ sym here)) (more_behind old mid new c.ruj_file.result (ruj_file c.args.member) c.args.index c.args.index c.put_entry.new.slot c.ruj_file.ensures refl t reads (c.write.ensures.pending (told t)) f i x q)
