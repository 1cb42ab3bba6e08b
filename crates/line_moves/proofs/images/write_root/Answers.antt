use Rattle.std.proofs.Common.{ℕ, List, inl, inr, ⊎_elim, refl, sym, subst}
use Rattle.stable_lines.specs.root_file.Root.{IsRoot}
use Rattle.line_store.specs.rdb_outside.Disk.{Pending}
use Rattle.line_store.specs.rdb_outside.Runs.{no_calls}
use Rattle.stable_lines.specs.new_database.Maker.{root_file}
use Rattle.line_moves.proofs.Runs.{writes_now, more_behind, here_at, on_ok}
use Rattle.line_moves.proofs.Journalled.{roots}
use Rattle.line_moves.proofs.images.write_root.Goals as goal

pub returns-clause-writes : goal.returns-clause-writes
returns-clause-writes g c = let v = g.D.Disk.view in
    writes_now (v c.args.disk.now) (v c.write.new.self) c.root_file.result root_file 0 0 c.put_root.new.slot c.write.result c.root_file.ensures refl c.write.ensures.counts c.write.ensures.pending c.write.ensures.written c.write.ensures.failed

pub returns-clause-keeps : goal.returns-clause-keeps
returns-clause-keeps g c = let v = g.D.Disk.view in λ t now was limits ceiling.
    let old = v c.args.disk.now in let new = v c.write.new.self in
    let more = more_behind old old new c.root_file.result root_file 0 0 c.put_root.new.slot c.root_file.ensures refl t (no_calls old) (c.write.ensures.pending t) in
    roots (Pending old) (Pending new) now c.put_root.new.slot c.args.root.now more was c.put_root.ensures limits c.requires.whole ceiling

pub returns-clause-stands : goal.returns-clause-stands
returns-clause-stands g c = let new = g.D.Disk.view c.write.new.self in
    on_ok _ _ c.write.result (λ puts t. subst (λ (b : List ℕ). IsRoot b c.args.root.now) (sym (here_at new c.root_file.result root_file 0 0 c.put_root.new.slot c.root_file.ensures refl (puts t).here)) c.put_root.ensures) c.write.ensures.written

pub returns-clause-roots : goal.returns-clause-roots
returns-clause-roots g c = let v = g.D.Disk.view in λ t content pending.
    let old = v c.args.disk.now in let new = v c.write.new.self in
    let more = more_behind old old new c.root_file.result root_file 0 0 c.put_root.new.slot c.root_file.ensures refl t (no_calls old) (c.write.ensures.pending t) in
    ⊎_elim (λ p. inl p) (λ here. inr (subst (λ (b : List ℕ). IsRoot b c.args.root.now) (sym here.2) c.put_root.ensures)) (more root_file 0 content pending)
