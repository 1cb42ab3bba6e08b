use Rattle.std.specs.Prelude.{None}
use Rattle.std.proofs.Common.{◌∙◌, ap, refl, inl, inr, ⊎_elim}
use Rattle.line_store.specs.rdb_outside.Disk.{Pending}
use Rattle.line_store.specs.rdb_outside.Runs.{no_calls}
use Rattle.stable_lines.specs.Slots.{ruj_file, named}
use Rattle.stable_lines.proofs.Headers.{header_closed}
use Rattle.stable_lines.proofs.Codecs.{named_as, header_is}
use Rattle.line_moves.proofs.Runs.{writes_now, more_behind, here_at, on_ok}
use Rattle.line_moves.proofs.headers.close_header.Goals as goal

pub returns-clause-writes : goal.returns-clause-writes
returns-clause-writes g c = let v = g.D.Disk.view in
    writes_now (v c.args.disk.now) (v c.write.new.self) c.ruj_file.result (ruj_file c.args.member) 0 0 c.put_header.new.slot c.write.result c.ruj_file.ensures refl c.write.ensures.counts c.write.ensures.pending c.write.ensures.written c.write.ensures.failed

pub returns-clause-names : goal.returns-clause-names
returns-clause-names g c = let new = g.D.Disk.view c.write.new.self in
    on_ok _ _ c.write.result (λ put t.
    ap named (here_at new c.ruj_file.result (ruj_file c.args.member) 0 0 c.put_header.new.slot c.ruj_file.ensures refl (put t).here) ∙ named_as c.put_header.new.slot None (inl c.put_header.ensures)) c.write.ensures.written

pub returns-clause-keeps : goal.returns-clause-keeps
returns-clause-keeps g c = let v = g.D.Disk.view in λ t now was is first.
    let old = v c.args.disk.now in let new = v c.write.new.self in
    let more = more_behind old old new c.ruj_file.result (ruj_file c.args.member) 0 0 c.put_header.new.slot c.ruj_file.ensures refl t (no_calls old) (c.write.ensures.pending t) in
    header_closed (Pending old) (Pending new) now c.args.member c.put_header.new.slot more is (header_is c.put_header.new.slot None (inl c.put_header.ensures)) (named_as c.put_header.new.slot None (inl c.put_header.ensures)) first was

pub returns-clause-headers : goal.returns-clause-headers
returns-clause-headers g c = let v = g.D.Disk.view in λ t h q.
    let old = v c.args.disk.now in let new = v c.write.new.self in
    let more = more_behind old old new c.ruj_file.result (ruj_file c.args.member) 0 0 c.put_header.new.slot c.ruj_file.ensures refl t (no_calls old) (c.write.ensures.pending t) in
    ⊎_elim (λ p. inl p) (λ here. inr (ap named here.2 ∙ named_as c.put_header.new.slot None (inl c.put_header.ensures))) (more (ruj_file c.args.member) 0 h q)
