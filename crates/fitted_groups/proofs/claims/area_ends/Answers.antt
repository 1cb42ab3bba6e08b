use Rattle.std.proofs.Common.{◌≡◌, ◌∙◌, sym, subst}
use Rattle.rdb_types.specs.declared.file.FileId.{FileId}
use Rattle.rdb_outside.specs.Disk.{zeros}
use Rattle.rdb_outside.specs.Runs.{one_call}
use Rattle.line_moves.proofs.Runs.{reads_once, still_tells}
use Rattle.fitted_groups.proofs.Claiming.{are_ends}
use Rattle.fitted_groups.proofs.claims.area_ends.Goals as goal

pub returns-in_err-relations-clause-reads : goal.returns-in_err-relations-clause-reads
returns-in_err-relations-clause-reads g c = let v = g.D.Disk.view in let old = v c.args.disk.now in let first = v c.length.new.self in
    one_call old first (v c.length-2.new.self) c.length-2.result (reads_once old first c.length.result c.length.ensures.counts c.length.ensures.kept) c.length-2.ensures.counts c.length-2.ensures.kept

pub returns-in_err-indexes-clause-reads : goal.returns-in_err-indexes-clause-reads
returns-in_err-indexes-clause-reads g c = let v = g.D.Disk.view in let old = v c.args.disk.now in let first = v c.length.new.self in let second = v c.length-2.new.self in
    one_call old second (v c.length-3.new.self) c.length-3.result
    (one_call old first second c.length-2.result (reads_once old first c.length.result c.length.ensures.counts c.length.ensures.kept) c.length-2.ensures.counts c.length-2.ensures.kept)
    c.length-3.ensures.counts c.length-3.ensures.kept

pub returns-clause-reads : goal.returns-clause-reads
returns-clause-reads g c = let v = g.D.Disk.view in let old = v c.args.disk.now in let first = v c.length.new.self in let second = v c.length-2.new.self in
    one_call old second (v c.length-3.new.self) c.length-3.result
    (one_call old first second c.length-2.result (reads_once old first c.length.result c.length.ensures.counts c.length.ensures.kept) c.length-2.ensures.counts c.length-2.ensures.kept)
    c.length-3.ensures.counts c.length-3.ensures.kept

pub returns-clause-ends : goal.returns-clause-ends
returns-clause-ends g c = let v = g.D.Disk.view in let old = v c.args.disk.now in let first = v c.length.new.self in let second = v c.length-2.new.self in
    let once = reads_once old first c.length.result c.length.ensures.counts c.length.ensures.kept in
    let twice = one_call old first second c.length-2.result once c.length-2.ensures.counts c.length-2.ensures.kept in
    λ t. are_ends old.content (record { catalog = c.in_ok-catalog.catalog; relations = c.in_ok-relations.relations; indexes = c.in_ok-indexes.indexes })
    (λ s le. subst (λ (f : FileId). old.content f s ≡ zeros f) c.area_file.ensures (c.in_ok-catalog.ensures.zeros t s le))
    (λ s le. subst (λ (f : FileId). old.content f s ≡ zeros f) c.area_file-2.ensures (sym ((once.keeps t).content c.area_file-2.result s) ∙ c.in_ok-relations.ensures.zeros (still_tells old first once.told t) s le))
    (λ s le. subst (λ (f : FileId). old.content f s ≡ zeros f) c.area_file-3.ensures (sym ((twice.keeps t).content c.area_file-3.result s) ∙ c.in_ok-indexes.ensures.zeros (still_tells old second twice.told t) s le))
