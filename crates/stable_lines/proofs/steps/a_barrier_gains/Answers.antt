use Rattle.std.proofs.Common.{ℕ, List, sym, subst}
use Rattle.journal_reading.specs.rdb_outside.Disk.{Pending}
use Rattle.new_database.specs.aij_journal.Header.{IsHeader}
use Rattle.new_database.specs.Maker.{aij_file}
use Rattle.stable_lines.proofs.Barrier as barrier
use Rattle.stable_lines.proofs.Anew.{settles}
use Rattle.stable_lines.proofs.steps.a_barrier_gains.Goals as goal

pub returns-clause-saves : goal.returns-clause-saves
returns-clause-saves g c = λ now was member transaction undo is entry names apart. barrier.entry_stands (Pending (g.D.Disk.view c.args.disk.now)) now (g.D.Disk.view c.args.disk.now).content (λ f i x p. c.requires.stable f i x p) was member transaction undo is entry names apart

pub returns-clause-takes_off : goal.returns-clause-takes_off
returns-clause-takes_off g c = λ now was flight no_flight no_former ready. barrier.group_stands (Pending (g.D.Disk.view c.args.disk.now)) now (g.D.Disk.view c.args.disk.now).content (λ f i x p. c.requires.stable f i x p) was flight no_flight no_former ready

pub returns-clause-lands : goal.returns-clause-lands
returns-clause-lands g c = λ now was flight is there. barrier.commit_stands (Pending (g.D.Disk.view c.args.disk.now)) now (g.D.Disk.view c.args.disk.now).content (λ f i x p. c.requires.stable f i x p) was flight is there

pub returns-clause-falls : goal.returns-clause-falls
returns-clause-falls g c = λ now was flight is lost. barrier.commit_lost (Pending (g.D.Disk.view c.args.disk.now)) now (g.D.Disk.view c.args.disk.now).content (λ f i x p. c.requires.stable f i x p) was flight is lost

pub returns-clause-undone : goal.returns-clause-undone
returns-clause-undone g c = λ now was member transaction is apart back. barrier.lines_undone (Pending (g.D.Disk.view c.args.disk.now)) now (g.D.Disk.view c.args.disk.now).content (λ f i x p. c.requires.stable f i x p) was member transaction is apart back

pub returns-clause-settles : goal.returns-clause-settles
returns-clause-settles g c = λ now was header. settles (Pending (g.D.Disk.view c.args.disk.now)) now was (λ x p. subst (λ (z : List ℕ). IsHeader z now.journal.first) (sym (c.requires.stable aij_file 0 x p)) header)
