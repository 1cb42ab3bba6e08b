use Rattle.std.proofs.Common.{rules, ◌≡◌, ◌++◌, ℕ, List, length, refl, sym, ap, subst, ◌∙◌}
use Rattle.rdb_outside.specs.Disk.{Image, OnlyReads}
use Rattle.rdb_outside.specs.Runs.{then_reads}
use Rattle.root_file.proofs.Readings.{one_root}
use Rattle.line_moves.proofs.Runs.{still_tells}
use Rattle.line_opening.proofs.Passed.{image_same}
use Rattle.line_view.specs.Knowledge.{Lines}
use Rattle.catalog.specs.declared.reading.Catalog.{Catalog}
use Rattle.catalog.specs.Reading.{IsCatalogOf}
use Rattle.catalog.proofs.Agreements.{one_catalog}
use Rattle.stable_lines.specs.Journal.{IsJournalOf}
use Rattle.lines_at_rest.specs.declared.reading.RestReading.{RestReading}
use Rattle.lines_at_rest.specs.declared.reading.FaultyPages.TheVariants.{Refused}
use Rattle.before_images.specs.Before.{LaysLines}
use Rattle.rmu_texts.specs.declared.dump.Dump.{Dump}
use Rattle.rmu_texts.specs.Dump.{dump_text as text_of_dump}
use Rattle.std.proofs.lemmas.Result.{err_from_is_err_and}
use Rattle.stable_lines.specs.Slots.{IsMember, ruj_file}
use Rattle.stable_lines.specs.Kept.{IsRujHeader}
use Rattle.areas_at_rest.proofs.Quiet.{at_rest, none_refused, still_pass}
use Rattle.areas_at_rest.proofs.Defined.{relation_areas, index_areas}
use Rattle.database_dump.specs.Dumped.{relations_counted, indexes_counted, dump_of}
use Rattle.database_dump.proofs.whole.dump.Goals as goal

pub returns-in_err-groups-clause-reads : goal.returns-in_err-groups-clause-reads
returns-in_err-groups-clause-reads g c = let v = g.D.Disk.view in then_reads (v c.args.disk.now) (v c.root_of.new.disk) (v c.count_groups.new.disk) c.root_of.ensures.reads c.count_groups.ensures.reads

pub returns-in_err-before-clause-reads : goal.returns-in_err-before-clause-reads
returns-in_err-before-clause-reads g c = let v = g.D.Disk.view in let v0 = v c.args.disk.now in
    then_reads v0 (v c.count_groups.new.disk) (v c.read_before_images.new.disk) (then_reads v0 (v c.root_of.new.disk) (v c.count_groups.new.disk) c.root_of.ensures.reads c.count_groups.ensures.reads) c.read_before_images.ensures.reads

pub returns-in_err-catalog-clause-reads : goal.returns-in_err-catalog-clause-reads
returns-in_err-catalog-clause-reads g c = let v = g.D.Disk.view in let v0 = v c.args.disk.now in
    then_reads v0 (v c.read_before_images.new.disk) (v c.catalog_of.new.disk)
    (then_reads v0 (v c.count_groups.new.disk) (v c.read_before_images.new.disk) (then_reads v0 (v c.root_of.new.disk) (v c.count_groups.new.disk) c.root_of.ensures.reads c.count_groups.ensures.reads) c.read_before_images.ensures.reads)
    c.catalog_of.ensures.reads

pub count_relations-requires : goal.count_relations-requires
count_relations-requires g c = relation_areas c.in_ok-catalog.catalog c.in_ok-catalog.ensures.whole

pub returns-in_err-relations-clause-reads : goal.returns-in_err-relations-clause-reads
returns-in_err-relations-clause-reads g c = let v = g.D.Disk.view in let v0 = v c.args.disk.now in
    then_reads v0 (v c.catalog_of.new.disk) (v c.count_relations.new.disk)
    (then_reads v0 (v c.read_before_images.new.disk) (v c.catalog_of.new.disk)
    (then_reads v0 (v c.count_groups.new.disk) (v c.read_before_images.new.disk) (then_reads v0 (v c.root_of.new.disk) (v c.count_groups.new.disk) c.root_of.ensures.reads c.count_groups.ensures.reads) c.read_before_images.ensures.reads)
    c.catalog_of.ensures.reads) c.count_relations.ensures.quiet.reads

pub count_indexes-requires : goal.count_indexes-requires
count_indexes-requires g c = index_areas c.in_ok-catalog.catalog c.in_ok-catalog.ensures.whole

pub returns-in_err-indexes-clause-reads : goal.returns-in_err-indexes-clause-reads
returns-in_err-indexes-clause-reads g c = let v = g.D.Disk.view in let v0 = v c.args.disk.now in
    then_reads v0 (v c.count_relations.new.disk) (v c.count_indexes.new.disk)
    (then_reads v0 (v c.catalog_of.new.disk) (v c.count_relations.new.disk)
    (then_reads v0 (v c.read_before_images.new.disk) (v c.catalog_of.new.disk)
    (then_reads v0 (v c.count_groups.new.disk) (v c.read_before_images.new.disk) (then_reads v0 (v c.root_of.new.disk) (v c.count_groups.new.disk) c.root_of.ensures.reads c.count_groups.ensures.reads) c.read_before_images.ensures.reads)
    c.catalog_of.ensures.reads) c.count_relations.ensures.quiet.reads) c.count_indexes.ensures.quiet.reads

pub returns-in-Ok-clause-reads : goal.returns-in-Ok-clause-reads
returns-in-Ok-clause-reads g c = let v = g.D.Disk.view in let v0 = v c.args.disk.now in
    then_reads v0 (v c.count_relations.new.disk) (v c.count_indexes.new.disk)
    (then_reads v0 (v c.catalog_of.new.disk) (v c.count_relations.new.disk)
    (then_reads v0 (v c.read_before_images.new.disk) (v c.catalog_of.new.disk)
    (then_reads v0 (v c.count_groups.new.disk) (v c.read_before_images.new.disk) (then_reads v0 (v c.root_of.new.disk) (v c.count_groups.new.disk) c.root_of.ensures.reads c.count_groups.ensures.reads) c.read_before_images.ensures.reads)
    c.catalog_of.ensures.reads) c.count_relations.ensures.quiet.reads) c.count_indexes.ensures.quiet.reads

pub returns-clause-reads : goal.returns-clause-reads
returns-clause-reads g c = let v = g.D.Disk.view in let v0 = v c.args.disk.now in
    then_reads v0 (v c.count_relations.new.disk) (v c.count_indexes.new.disk)
    (then_reads v0 (v c.catalog_of.new.disk) (v c.count_relations.new.disk)
    (then_reads v0 (v c.read_before_images.new.disk) (v c.catalog_of.new.disk)
    (then_reads v0 (v c.count_groups.new.disk) (v c.read_before_images.new.disk) (then_reads v0 (v c.root_of.new.disk) (v c.count_groups.new.disk) c.root_of.ensures.reads c.count_groups.ensures.reads) c.read_before_images.ensures.reads)
    c.catalog_of.ensures.reads) c.count_relations.ensures.quiet.reads) c.count_indexes.ensures.quiet.reads

pub returns-in-Ok-clause-text : goal.returns-in-Ok-clause-text
returns-in-Ok-clause-text g c = λ t root is journal isj all stands cat decodes.
    let v = g.D.Disk.view in
    let v0 = v c.args.disk.now in
    let v1 = v c.root_of.new.disk in
    let v2 = v c.count_groups.new.disk in
    let v3 = v c.read_before_images.new.disk in
    let v4 = v c.catalog_of.new.disk in
    let v5 = v c.count_relations.new.disk in
    let r1 : OnlyReads v0 v1 = c.root_of.ensures.reads in
    let r2 : OnlyReads v0 v2 = then_reads v0 v1 v2 r1 c.count_groups.ensures.reads in
    let r3 : OnlyReads v0 v3 = then_reads v0 v2 v3 r2 c.read_before_images.ensures.reads in
    let r4 : OnlyReads v0 v4 = then_reads v0 v3 v4 r3 c.catalog_of.ensures.reads in
    let r5 : OnlyReads v0 v5 = then_reads v0 v4 v5 r4 c.count_relations.ensures.quiet.reads in
    let same_root : c.in_ok-root.root ≡ root = one_root _ c.in_ok-root.root root (c.in_ok-root.ensures.root t) is in
    let counts : c.in_ok-groups.groups ≡ length journal.groups = c.in_ok-groups.ensures.count (still_tells v0 v1 r1.told t) journal (subst (λ (i : Image). IsJournalOf i journal) (sym (image_same v0 v1 r1 t)) isj) in
    let held : RestReading = record { before = c.in_ok-before.before; faulty = Refused } in
    let lays : LaysLines v0.content journal.groups c.in_ok-before.before = c.in_ok-before.ensures.lays (still_tells v0 v2 r2.told t) journal (subst (λ (i : Image). IsJournalOf i journal) (sym (image_same v0 v2 r2 t)) isj) v0.content (λ file slot other. ap (λ (m : Image). m file slot) (sym (image_same v0 v2 r2 t))) in
    let its = c.in_ok-catalog.catalog in
    let decoded : IsCatalogOf all its = at_rest v0 v3 held (λ (m : Lines). IsCatalogOf m its) r3 c.in_ok-catalog.ensures.catalog t v0.content refl journal.groups all lays stands in
    let one : its ≡ cat = one_catalog all its cat decoded decodes in
    let rels : c.in_ok-relations.relations ≡ relations_counted all its.tables.relations = at_rest v0 v4 held (λ (m : Lines). c.in_ok-relations.relations ≡ relations_counted m its.tables.relations) r4 c.in_ok-relations.ensures.counted t v0.content refl journal.groups all lays stands in
    let inds : c.in_ok-indexes.indexes ≡ indexes_counted all its.tables.indexes = at_rest v0 v5 held (λ (m : Lines). c.in_ok-indexes.indexes ≡ indexes_counted m its.tables.indexes) r5 c.in_ok-indexes.ensures.counted t v0.content refl journal.groups all lays stands in
    let rels_of : c.in_ok-relations.relations ≡ relations_counted all cat.tables.relations = rels ∙ ap (λ (d : Catalog). relations_counted all d.tables.relations) one in
    let inds_of : c.in_ok-indexes.indexes ≡ indexes_counted all cat.tables.indexes = inds ∙ ap (λ (d : Catalog). indexes_counted all d.tables.indexes) one in
    let dumped : Dump = record { root = c.in_ok-root.root; relations = c.in_ok-relations.relations; indexes = c.in_ok-indexes.indexes; groups = c.in_ok-groups.groups } in
    let equal : dumped ≡ dump_of root all cat (length journal.groups) = λ i. record { root = same_root i; relations = rels_of i; indexes = inds_of i; groups = counts i } in
    c.in-Ok.ensures ∙ ap (λ (d : Dump). c.args.out.now ++ text_of_dump d) equal

-- ---- what is refused

pub returns-in_err-root-clause-refused : goal.returns-in_err-root-clause-refused
returns-in_err-root-clause-refused g c = λ file slot is t has.
    let p = err_from_is_err_and c.from_residual.result c.from_residual.ensures.1 in
    c.root_of.ensures.bad file slot (first_of (cc, search rules)) t has.root has.has_root

pub returns-in_err-groups-clause-refused : goal.returns-in_err-groups-clause-refused
returns-in_err-groups-clause-refused g c = λ file slot is t has.
    let v = g.D.Disk.view in
    let v0 = v c.args.disk.now in
    let v1 = v c.root_of.new.disk in
    let r1 : OnlyReads v0 v1 = c.root_of.ensures.reads in
    let p = err_from_is_err_and c.from_residual-in_err-groups.result c.from_residual-in_err-groups.ensures.1 in
    c.count_groups.ensures.bad file slot (first_of (cc, search rules)) (still_tells v0 v1 r1.told t) has.journal (subst (λ (i : Image). IsJournalOf i has.journal) (sym (image_same v0 v1 r1 t)) has.has_journal)

pub returns-in_err-before-clause-refused : goal.returns-in_err-before-clause-refused
returns-in_err-before-clause-refused g c = λ file slot is t has.
    let v = g.D.Disk.view in
    let v0 = v c.args.disk.now in
    let v1 = v c.root_of.new.disk in
    let v2 = v c.count_groups.new.disk in
    let r2 : OnlyReads v0 v2 = then_reads v0 v1 v2 c.root_of.ensures.reads c.count_groups.ensures.reads in
    let same = image_same v0 v2 r2 t in
    let p = err_from_is_err_and c.from_residual-in_err-before.result c.from_residual-in_err-before.ensures.1 in
    c.read_before_images.ensures.bad file slot (first_of (cc, search rules)) (still_tells v0 v2 r2.told t)
    (subst (λ (i : Image). (member : ℕ) → IsMember member → IsRujHeader (i (ruj_file member) 0)) (sym same) has.headers) has.journal (subst (λ (i : Image). IsJournalOf i has.journal) (sym same) has.has_journal)

pub returns-in_err-catalog-clause-refused : goal.returns-in_err-catalog-clause-refused
returns-in_err-catalog-clause-refused g c = λ file slot is t has.
    let v = g.D.Disk.view in
    let v0 = v c.args.disk.now in
    let v1 = v c.root_of.new.disk in
    let v2 = v c.count_groups.new.disk in
    let v3 = v c.read_before_images.new.disk in
    let r1 : OnlyReads v0 v1 = c.root_of.ensures.reads in
    let r2 : OnlyReads v0 v2 = then_reads v0 v1 v2 r1 c.count_groups.ensures.reads in
    let r3 : OnlyReads v0 v3 = then_reads v0 v2 v3 r2 c.read_before_images.ensures.reads in
    let held : RestReading = record { before = c.in_ok-before.before; faulty = Refused } in
    let lays : LaysLines v0.content has.journal.groups c.in_ok-before.before = c.in_ok-before.ensures.lays (still_tells v0 v2 r2.told t) has.journal (subst (λ (i : Image). IsJournalOf i has.journal) (sym (image_same v0 v2 r2 t)) has.has_journal) v0.content (λ f s other. ap (λ (m : Image). m f s) (sym (image_same v0 v2 r2 t))) in
    let p = err_from_is_err_and c.from_residual-in_err-catalog.result c.from_residual-in_err-catalog.ensures.1 in
    at_rest v0 v3 held (λ (m : Lines). (k : Catalog) → IsCatalogOf m k → ⊥) r3 (c.catalog_of.ensures.refused file slot (first_of (cc, search rules)) (still_tells v0 v3 r3.told t) (still_pass v0 v3 r3 t has.pages)) t v0.content refl has.journal.groups has.all lays has.stands has.catalog has.has_catalog

pub returns-in_err-relations-clause-refused : goal.returns-in_err-relations-clause-refused
returns-in_err-relations-clause-refused g c = λ file slot is t has.
    let v = g.D.Disk.view in
    let v0 = v c.args.disk.now in
    let v1 = v c.root_of.new.disk in
    let v2 = v c.count_groups.new.disk in
    let v3 = v c.read_before_images.new.disk in
    let r1 : OnlyReads v0 v1 = c.root_of.ensures.reads in
    let r2 : OnlyReads v0 v2 = then_reads v0 v1 v2 r1 c.count_groups.ensures.reads in
    let v4 = v c.catalog_of.new.disk in
    let r4 : OnlyReads v0 v4 = then_reads v0 v3 v4 (then_reads v0 v2 v3 r2 c.read_before_images.ensures.reads) c.catalog_of.ensures.reads in
    let p = err_from_is_err_and c.from_residual-in_err-relations.result c.from_residual-in_err-relations.ensures.1 in
    none_refused v4 (v c.count_relations.new.disk) c.count_relations.result c.count_relations.ensures.quiet (still_tells v0 v4 r4.told t) (still_pass v0 v4 r4 t has.pages) file slot (first_of (cc, search rules))

pub returns-in_err-indexes-clause-refused : goal.returns-in_err-indexes-clause-refused
returns-in_err-indexes-clause-refused g c = λ file slot is t has.
    let v = g.D.Disk.view in
    let v0 = v c.args.disk.now in
    let v1 = v c.root_of.new.disk in
    let v2 = v c.count_groups.new.disk in
    let v3 = v c.read_before_images.new.disk in
    let r1 : OnlyReads v0 v1 = c.root_of.ensures.reads in
    let r2 : OnlyReads v0 v2 = then_reads v0 v1 v2 r1 c.count_groups.ensures.reads in
    let v4 = v c.catalog_of.new.disk in
    let v5 = v c.count_relations.new.disk in
    let r4 : OnlyReads v0 v4 = then_reads v0 v3 v4 (then_reads v0 v2 v3 r2 c.read_before_images.ensures.reads) c.catalog_of.ensures.reads in
    let r5 : OnlyReads v0 v5 = then_reads v0 v4 v5 r4 c.count_relations.ensures.quiet.reads in
    let p = err_from_is_err_and c.from_residual-in_err-indexes.result c.from_residual-in_err-indexes.ensures.1 in
    none_refused v5 (v c.count_indexes.new.disk) c.count_indexes.result c.count_indexes.ensures.quiet (still_tells v0 v5 r5.told t) (still_pass v0 v5 r5 t has.pages) file slot (first_of (cc, search rules))
