use Rattle.std.specs.Prelude.{OnOk, Ok, Err}
use Rattle.std.proofs.Common.{Result, List, ℕ, sym, subst}
use Rattle.rdb_outside.specs.Disk.{Image}
use Rattle.rdb_outside.specs.Runs.{then_reads}
use Rattle.root_file.specs.Root.{IsRoot}
use Rattle.new_database.specs.Maker.{root_file}
use Rattle.line_opening.specs.stable_lines.Kept.{Kept}
use Rattle.line_opening.proofs.of_line_moves.Runs.{still_tells}
use Rattle.line_opening.proofs.Counted.{if_ok}
use Rattle.line_opening.proofs.Passed.{image_same}
use Rattle.database_opening.proofs.Begun.{stable_read}
use Rattle.database_opening.proofs.beginning.begin.Goals as goal

on_any : {T E : Type 0} (A : Type 0) (result : Result T E) → A → OnOk result A
on_any A (Ok x) is = is
on_any A (Err e) is = tt

pub returns-clause-reads : goal.returns-clause-reads
returns-clause-reads g c = let v = g.D.Disk.view in
    then_reads (v c.args.disk.now) (v c.make_stable.new.disk) (v c.read_all.new.disk) c.make_stable.ensures.reads c.read_all.ensures.reads

pub returns-clause-bad : goal.returns-clause-bad
returns-clause-bad g c = let v = g.D.Disk.view in let old = v c.args.disk.now in let mid = v c.make_stable.new.disk in let reads = c.make_stable.ensures.reads in
    λ file slot is t classes lines journal kept.
    c.read_all.ensures.bad file slot is (still_tells old mid reads.told t) classes lines journal (subst (λ (image : Image). Kept classes lines journal image) (sym (image_same old mid reads t)) kept)

pub returns-clause-found : goal.returns-clause-found
returns-clause-found g c = let v = g.D.Disk.view in let old = v c.args.disk.now in let mid = v c.make_stable.new.disk in let reads = c.make_stable.ensures.reads in
    if_ok _ _ c.read_all.result (λ opening there t classes lines journal kept.
    there (still_tells old mid reads.told t) (c.in_ok-make_stable.ensures.stable t) classes lines journal (subst (λ (image : Image). Kept classes lines journal image) (sym (image_same old mid reads t)) kept)) c.read_all.ensures.found

pub returns-clause-stable : goal.returns-clause-stable
returns-clause-stable g c = let v = g.D.Disk.view in let old = v c.args.disk.now in let mid = v c.make_stable.new.disk in
    on_any _ c.read_all.result (λ t. stable_read mid (v c.read_all.new.disk) c.read_all.ensures.reads (still_tells old mid c.make_stable.ensures.reads.told t) (c.in_ok-make_stable.ensures.stable t))

pub returns-clause-its_root : goal.returns-clause-its_root
returns-clause-its_root g c = let v = g.D.Disk.view in let old = v c.args.disk.now in let mid = v c.make_stable.new.disk in let reads = c.make_stable.ensures.reads in
    if_ok _ _ c.read_all.result (λ opening there t. subst (λ (b : List ℕ). IsRoot b opening.found.root) ((reads.keeps t).content root_file 0) (there (still_tells old mid reads.told t))) c.read_all.ensures.its_root
