use Rattle.std.proofs.Common.{ℕ, List, refl, sym, subst}
use Rattle.aij_journal.specs.Header.{IsHeader}
use Rattle.rdb_outside.specs.Disk.{Pending}
use Rattle.rdb_outside.specs.Runs.{no_calls}
use Rattle.new_database.specs.Maker.{aij_file}
use Rattle.stable_lines.proofs.Anew.{journal_begun}
use Rattle.line_moves.proofs.Runs.{writes_now, more_behind, here_at, on_ok}
use Rattle.journal_anew.proofs.anew.write_header.Goals as goal

pub returns-clause-writes : goal.returns-clause-writes
returns-clause-writes g c = let v = g.D.Disk.view in
    writes_now (v c.args.disk.now) (v c.write.new.self) c.aij_file.result aij_file 0 0 c.put_header.new.slot c.write.result c.aij_file.ensures refl c.write.ensures.counts c.write.ensures.pending c.write.ensures.written c.write.ensures.failed

pub returns-clause-header : goal.returns-clause-header
returns-clause-header g c = let new = g.D.Disk.view c.write.new.self in
    on_ok _ _ c.write.result (λ puts t. subst (λ (b : List ℕ). IsHeader b c.args.first) (sym (here_at new c.aij_file.result aij_file 0 0 c.put_header.new.slot c.aij_file.ensures refl (puts t).here)) c.put_header.ensures) c.write.ensures.written

pub returns-clause-keeps : goal.returns-clause-keeps
returns-clause-keeps g c = let v = g.D.Disk.view in let old = v c.args.disk.now in let new = v c.write.new.self in
    λ t now same was.
    let more = more_behind old old new c.aij_file.result aij_file 0 0 c.put_header.new.slot c.aij_file.ensures refl t (no_calls old) (c.write.ensures.pending t) in
    journal_begun (Pending old) (Pending new) now c.put_header.new.slot more (subst (λ (n : ℕ). IsHeader c.put_header.new.slot n) (sym same) c.put_header.ensures) was
