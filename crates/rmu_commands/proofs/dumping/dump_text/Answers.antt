use Rattle.std.proofs.Common.{◌++◌, ℕ, List, length, sym, ap, subst, ◌∙◌}
use Rattle.rdb_outside.specs.Disk.{Image, OnlyReads}
use Rattle.rdb_outside.specs.Runs.{then_reads}
use Rattle.root_file.specs.Root.{IsRoot}
use Rattle.new_database.specs.Maker.{root_file}
use Rattle.line_moves.proofs.Runs.{still_tells}
use Rattle.line_opening.proofs.Passed.{image_same}
use Rattle.stable_lines.specs.Image.{StandsFor}
use Rattle.stable_lines.specs.Journal.{IsJournalOf}
use Rattle.rmu_texts.specs.Dump.{dump_text as text_of_dump}
use Rattle.database_dump.specs.Dumped.{dump_of}
use Rattle.rmu_commands.proofs.dumping.dump_text.Goals as goal

pub returns-in_err-dump-clause-reads : goal.returns-in_err-dump-clause-reads
returns-in_err-dump-clause-reads g c =
    let v = g.D.Disk.view in
    then_reads (v c.args.disk.now) (v c.find_root.new.disk) (v c.dump.new.disk) c.find_root.ensures.reads c.dump.ensures.reads

pub returns-clause-reads : goal.returns-clause-reads
returns-clause-reads g c =
    let v = g.D.Disk.view in
    then_reads (v c.args.disk.now) (v c.find_root.new.disk) (v c.dump.new.disk) c.find_root.ensures.reads c.dump.ensures.reads

pub returns-clause-text : goal.returns-clause-text
returns-clause-text g c = λ t root is journal isj all stands cat decodes.
    let v = g.D.Disk.view in
    let v0 = v c.args.disk.now in
    let v1 = v c.find_root.new.disk in
    let r1 : OnlyReads v0 v1 = c.find_root.ensures.reads in
    let same = sym (image_same v0 v1 r1 t) in
    c.in_ok-dump.ensures.text (still_tells v0 v1 r1.told t) root (subst (λ (m : Image). IsRoot (m root_file 0) root) same is) journal (subst (λ (m : Image). IsJournalOf m journal) same isj) all (subst (λ (m : Image). StandsFor m journal.groups all) same stands) cat decodes
    ∙ ap (λ (l : List ℕ). l ++ text_of_dump (dump_of root all cat (length journal.groups))) c.new-text.ensures
