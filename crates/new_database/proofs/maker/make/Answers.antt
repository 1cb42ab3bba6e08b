use Rattle.std.proofs.Common.{◌≡◌, ℕ, ap, sym, ◌∙◌, length, replicate, arith, rules}
use Rattle.rdb_outside.specs.Disk.{zeros}
use Rattle.new_database.specs.Maker.{root_file}
use Rattle.new_database.proofs.Stages.{no_calls, no_write, header_written, then_none, none_so_far, header_there, after_root, after_last, made, no_root_there}
use Rattle.new_database.proofs.maker.make.Goals as goal

pub returns-in_err-read-clause-any_moment : goal.returns-in_err-read-clause-any_moment
returns-in_err-read-clause-any_moment g c = λ t e.
    let v = g.D.Disk.view in let h = c.args.header.now in let k = c.args.root.now in let begin = v c.args.disk.now in
    let read = no_write begin begin (v c.read.new.self) c.read.result (no_calls begin) c.read.ensures.counts c.read.ensures.kept in
    none_so_far h k begin _ read t e

pub returns-then-not-is_zeros-clause-any_moment : goal.returns-then-not-is_zeros-clause-any_moment
returns-then-not-is_zeros-clause-any_moment g c = λ t e.
    let v = g.D.Disk.view in let h = c.args.header.now in let k = c.args.root.now in let begin = v c.args.disk.now in
    let read = no_write begin begin (v c.read.new.self) c.read.result (no_calls begin) c.read.ensures.counts c.read.ensures.kept in
    none_so_far h k begin _ read t e

pub returns-then-not-is_zeros-clause-not_empty : goal.returns-then-not-is_zeros-clause-not_empty
returns-then-not-is_zeros-clause-not_empty g c = λ is t none.
    let zero : c.read.new.into ≡ zeros root_file = c.in_ok-read.ensures.bytes t ∙ none in
    c.is_zeros.ensures.no c.if-not-is_zeros.true (zero ∙ ap (λ (n : ℕ). replicate n 0) (sym (ap length zero)))

pub returns-in_err-make_files-clause-any_moment : goal.returns-in_err-make_files-clause-any_moment
returns-in_err-make_files-clause-any_moment g c = λ t e.
    let v = g.D.Disk.view in let h = c.args.header.now in let k = c.args.root.now in let begin = v c.args.disk.now in
    let read = no_write begin begin (v c.read.new.self) c.read.result (no_calls begin) c.read.ensures.counts c.read.ensures.kept in
    let files = then_none begin (v c.read.new.self) (v c.make_files.new.disk) read c.make_files.ensures.none in
    none_so_far h k begin _ files t e

pub returns-in_err-write-clause-any_moment : goal.returns-in_err-write-clause-any_moment
returns-in_err-write-clause-any_moment g c = λ t e.
    let v = g.D.Disk.view in let h = c.args.header.now in let k = c.args.root.now in let begin = v c.args.disk.now in
    let read = no_write begin begin (v c.read.new.self) c.read.result (no_calls begin) c.read.ensures.counts c.read.ensures.kept in
    let files = then_none begin (v c.read.new.self) (v c.make_files.new.disk) read c.make_files.ensures.none in
    let heading = header_written h begin (v c.make_files.new.disk) (v c.write.new.self) c.write.result files c.write.ensures.counts c.write.ensures.pending in
    none_so_far h k begin _ heading t e

pub returns-in_err-barrier-clause-any_moment : goal.returns-in_err-barrier-clause-any_moment
returns-in_err-barrier-clause-any_moment g c = λ t e.
    let v = g.D.Disk.view in let h = c.args.header.now in let k = c.args.root.now in let begin = v c.args.disk.now in
    let read = no_write begin begin (v c.read.new.self) c.read.result (no_calls begin) c.read.ensures.counts c.read.ensures.kept in
    let files = then_none begin (v c.read.new.self) (v c.make_files.new.disk) read c.make_files.ensures.none in
    let heading = header_written h begin (v c.make_files.new.disk) (v c.write.new.self) c.write.result files c.write.ensures.counts c.write.ensures.pending in
    let behind = no_write begin (v c.write.new.self) (v c.barrier.new.self) c.barrier.result heading c.barrier.ensures.counts c.barrier.ensures.kept in
    none_so_far h k begin _ behind t e

pub returns-in_err-write-2-clause-any_moment : goal.returns-in_err-write-2-clause-any_moment
returns-in_err-write-2-clause-any_moment g c = λ t e.
    let v = g.D.Disk.view in let h = c.args.header.now in let k = c.args.root.now in let begin = v c.args.disk.now in
    let read = no_write begin begin (v c.read.new.self) c.read.result (no_calls begin) c.read.ensures.counts c.read.ensures.kept in
    let files = then_none begin (v c.read.new.self) (v c.make_files.new.disk) read c.make_files.ensures.none in
    let heading = header_written h begin (v c.make_files.new.disk) (v c.write.new.self) c.write.result files c.write.ensures.counts c.write.ensures.pending in
    let behind = no_write begin (v c.write.new.self) (v c.barrier.new.self) c.barrier.result heading c.barrier.ensures.counts c.barrier.ensures.kept in
    let headed = header_there h k begin (v c.make_files.new.disk) (v c.write.new.self) (v c.barrier.new.self) t e files heading behind c.in_ok-write.ensures.written c.barrier.ensures.kept c.in_ok-barrier.ensures.stable (λ t. g.met.D.Disk.content_left c.barrier.new.self (v c.barrier.new.self).moment t (omega arith)) in
    let rooting = after_root h k begin (v c.barrier.new.self) (v c.write-2.new.self) c.write-2.result t headed c.write-2.ensures.counts c.write-2.ensures.pending in
    rooting.goes.leaves

pub returns-in_err-barrier-2-clause-any_moment : goal.returns-in_err-barrier-2-clause-any_moment
returns-in_err-barrier-2-clause-any_moment g c = λ t e.
    let v = g.D.Disk.view in let h = c.args.header.now in let k = c.args.root.now in let begin = v c.args.disk.now in
    let read = no_write begin begin (v c.read.new.self) c.read.result (no_calls begin) c.read.ensures.counts c.read.ensures.kept in
    let files = then_none begin (v c.read.new.self) (v c.make_files.new.disk) read c.make_files.ensures.none in
    let heading = header_written h begin (v c.make_files.new.disk) (v c.write.new.self) c.write.result files c.write.ensures.counts c.write.ensures.pending in
    let behind = no_write begin (v c.write.new.self) (v c.barrier.new.self) c.barrier.result heading c.barrier.ensures.counts c.barrier.ensures.kept in
    let headed = header_there h k begin (v c.make_files.new.disk) (v c.write.new.self) (v c.barrier.new.self) t e files heading behind c.in_ok-write.ensures.written c.barrier.ensures.kept c.in_ok-barrier.ensures.stable (λ t. g.met.D.Disk.content_left c.barrier.new.self (v c.barrier.new.self).moment t (omega arith)) in
    let rooting = after_root h k begin (v c.barrier.new.self) (v c.write-2.new.self) c.write-2.result t headed c.write-2.ensures.counts c.write-2.ensures.pending in
    let last = after_last h k begin (v c.write-2.new.self) (v c.barrier-2.new.self) (v c.barrier.new.self).content c.barrier-2.result t rooting c.barrier-2.ensures.counts c.barrier-2.ensures.kept in
    last.goes.leaves

pub returns-clause-made : goal.returns-clause-made
returns-clause-made g c = λ t e.
    let v = g.D.Disk.view in let h = c.args.header.now in let k = c.args.root.now in let begin = v c.args.disk.now in
    let read = no_write begin begin (v c.read.new.self) c.read.result (no_calls begin) c.read.ensures.counts c.read.ensures.kept in
    let files = then_none begin (v c.read.new.self) (v c.make_files.new.disk) read c.make_files.ensures.none in
    let heading = header_written h begin (v c.make_files.new.disk) (v c.write.new.self) c.write.result files c.write.ensures.counts c.write.ensures.pending in
    let behind = no_write begin (v c.write.new.self) (v c.barrier.new.self) c.barrier.result heading c.barrier.ensures.counts c.barrier.ensures.kept in
    let headed = header_there h k begin (v c.make_files.new.disk) (v c.write.new.self) (v c.barrier.new.self) t e files heading behind c.in_ok-write.ensures.written c.barrier.ensures.kept c.in_ok-barrier.ensures.stable (λ t. g.met.D.Disk.content_left c.barrier.new.self (v c.barrier.new.self).moment t (omega arith)) in
    let rooting = after_root h k begin (v c.barrier.new.self) (v c.write-2.new.self) c.write-2.result t headed c.write-2.ensures.counts c.write-2.ensures.pending in
    made h k begin (v c.barrier.new.self) (v c.write-2.new.self) (v c.barrier-2.new.self) headed rooting c.in_ok-write-2.ensures.written c.barrier-2.ensures.kept c.in_ok-barrier-2.ensures.stable

pub returns-clause-any_moment : goal.returns-clause-any_moment
returns-clause-any_moment g c = λ t e.
    let v = g.D.Disk.view in let h = c.args.header.now in let k = c.args.root.now in let begin = v c.args.disk.now in
    let read = no_write begin begin (v c.read.new.self) c.read.result (no_calls begin) c.read.ensures.counts c.read.ensures.kept in
    let files = then_none begin (v c.read.new.self) (v c.make_files.new.disk) read c.make_files.ensures.none in
    let heading = header_written h begin (v c.make_files.new.disk) (v c.write.new.self) c.write.result files c.write.ensures.counts c.write.ensures.pending in
    let behind = no_write begin (v c.write.new.self) (v c.barrier.new.self) c.barrier.result heading c.barrier.ensures.counts c.barrier.ensures.kept in
    let headed = header_there h k begin (v c.make_files.new.disk) (v c.write.new.self) (v c.barrier.new.self) t e files heading behind c.in_ok-write.ensures.written c.barrier.ensures.kept c.in_ok-barrier.ensures.stable (λ t. g.met.D.Disk.content_left c.barrier.new.self (v c.barrier.new.self).moment t (omega arith)) in
    let rooting = after_root h k begin (v c.barrier.new.self) (v c.write-2.new.self) c.write-2.result t headed c.write-2.ensures.counts c.write-2.ensures.pending in
    let last = after_last h k begin (v c.write-2.new.self) (v c.barrier-2.new.self) (v c.barrier.new.self).content c.barrier-2.result t rooting c.barrier-2.ensures.counts c.barrier-2.ensures.kept in
    last.goes.leaves

pub returns-in_err-make_files-clause-standing : goal.returns-in_err-make_files-clause-standing
returns-in_err-make_files-clause-standing g c = λ t stands. absurd (no_root_there (g.D.Disk.view c.args.disk.now) c.read.new.into (search rules) (c.in_ok-read.ensures.bytes t) (c.is_zeros.ensures.yes c.if-not-is_zeros.false) stands)

pub returns-in_err-write-clause-standing : goal.returns-in_err-write-clause-standing
returns-in_err-write-clause-standing g c = λ t stands. absurd (no_root_there (g.D.Disk.view c.args.disk.now) c.read.new.into (search rules) (c.in_ok-read.ensures.bytes t) (c.is_zeros.ensures.yes c.if-not-is_zeros.false) stands)

pub returns-in_err-barrier-clause-standing : goal.returns-in_err-barrier-clause-standing
returns-in_err-barrier-clause-standing g c = λ t stands. absurd (no_root_there (g.D.Disk.view c.args.disk.now) c.read.new.into (search rules) (c.in_ok-read.ensures.bytes t) (c.is_zeros.ensures.yes c.if-not-is_zeros.false) stands)

pub returns-in_err-write-2-clause-standing : goal.returns-in_err-write-2-clause-standing
returns-in_err-write-2-clause-standing g c = λ t stands. absurd (no_root_there (g.D.Disk.view c.args.disk.now) c.read.new.into (search rules) (c.in_ok-read.ensures.bytes t) (c.is_zeros.ensures.yes c.if-not-is_zeros.false) stands)

pub returns-in_err-barrier-2-clause-standing : goal.returns-in_err-barrier-2-clause-standing
returns-in_err-barrier-2-clause-standing g c = λ t stands. absurd (no_root_there (g.D.Disk.view c.args.disk.now) c.read.new.into (search rules) (c.in_ok-read.ensures.bytes t) (c.is_zeros.ensures.yes c.if-not-is_zeros.false) stands)

pub returns-clause-standing : goal.returns-clause-standing
returns-clause-standing g c = λ t stands. absurd (no_root_there (g.D.Disk.view c.args.disk.now) c.read.new.into (search rules) (c.in_ok-read.ensures.bytes t) (c.is_zeros.ensures.yes c.if-not-is_zeros.false) stands)
