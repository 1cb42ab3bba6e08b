use Rattle.std.proofs.Common.{rules, inl, inr, ◌∙◌, List, ℕ, refl, ap, subst, arith}
use Rattle.std.proofs.lemmas.Result.{err_from_is_err_and}
use Rattle.root_file.specs.Root.{IsRoot}
use Rattle.new_database.specs.Maker.{root_file}
use Rattle.line_moves.proofs.Runs.{still_tells}
use Rattle.database_opening.specs.Start.{beginning_with}
use Rattle.journal_anew.specs.Anew.{journal_in_use}
use Rattle.disk_store.specs.declared.held.Numbers.{Numbers}
use Rattle.opened_store.proofs.Fresh.{all-outside}
use Rattle.opened_store.proofs.Behind.{lacks-numbers, whole-root, begins-from}
use Rattle.opened_store.proofs.Beside.{kept-raised, kept-read}
use Rattle.opened_store.proofs.Moments.{left-raised, left-read, all-pages}
use Rattle.opened_store.proofs.opening.open.Goals as goal

pub read_tables-requires : goal.read_tables-requires
read_tables-requires g c = c.in_ok-start.ensures.allowed.pages.1

pub returns-in_err-start-clause-bad : goal.returns-in_err-start-clause-bad
returns-in_err-start-clause-bad g c = λ file slot is t classes lines journal kept.
    let p = err_from_is_err_and c.from_residual.result c.from_residual.ensures.1 in
    c.open_in_use.ensures.bad file slot (first_of (cc, search rules)) t classes lines journal kept

pub returns-then-not-has_numbers-clause-bad : goal.returns-then-not-has_numbers-clause-bad
returns-then-not-has_numbers-clause-bad g c = λ file slot is t classes lines journal kept.
    let begins = c.in_ok-start.ensures.begins t classes lines journal kept in
    inr (lacks-numbers (journal_in_use kept.root journal) kept.root c.in_ok-start.start begins.next (c.in_ok-start.ensures.limits t kept.root kept.is_root.is) (c.if-not-has_numbers.ensures.no refl))

pub returns-in_err-root-clause-bad : goal.returns-in_err-root-clause-bad
returns-in_err-root-clause-bad g c = let v = g.D.Disk.view in let old = v c.args.disk.now in let mid = v c.open_in_use.new.disk in
    λ file slot is t classes lines journal kept.
    let p = err_from_is_err_and c.from_residual-in_err-root.result c.from_residual-in_err-root.ensures.1 in
    let told = still_tells old mid c.open_in_use.ensures.told t in
    let begins = c.in_ok-start.ensures.begins t classes lines journal kept in
    let used_up = c.begin_members.ensures.bad file slot (first_of (cc, search rules)) told (beginning_with classes lines (journal_in_use kept.root journal) c.in_ok-start.start) begins.facts in
    let number = c.in_ok-start.ensures.number t kept.root kept.is_root.is in
    inl (omega (arith, used_up, number))

pub returns-in_err-tables-clause-bad : goal.returns-in_err-tables-clause-bad
returns-in_err-tables-clause-bad g c = let v = g.D.Disk.view in let old = v c.args.disk.now in let mid = v c.open_in_use.new.disk in let raised = v c.begin_members.new.disk in
    λ file slot is t classes lines journal kept.
    let told = still_tells old mid c.open_in_use.ensures.told t in
    let told_on = still_tells mid raised c.begin_members.ensures.told told in
    let base = beginning_with classes lines (journal_in_use kept.root journal) c.in_ok-start.start in
    let facts = c.begin_members.ensures.keeps told base (c.in_ok-start.ensures.begins t classes lines journal kept).facts refl in
    let left = g.met.D.Disk.content_left c.begin_members.new.disk raised.moment told_on (omega arith) in
    absurd (c.read_tables.ensures.bad file slot (search rules) told_on (all-pages raised base left facts))

pub returns-in_err-root-clause-stands : goal.returns-in_err-root-clause-stands
returns-in_err-root-clause-stands g c = let v = g.D.Disk.view in let old = v c.args.disk.now in let mid = v c.open_in_use.new.disk in let raised = v c.begin_members.new.disk in
    λ t classes lines journal kept.
    let base = beginning_with classes lines (journal_in_use kept.root journal) c.in_ok-start.start in
    left-raised classes lines journal kept.root c.in_ok-start.start old mid raised (c.open_in_use.ensures.stands t classes lines journal kept)
    (c.begin_members.ensures.leaves (still_tells old mid c.open_in_use.ensures.told t) base (c.in_ok-start.ensures.begins t classes lines journal kept).facts refl)

pub returns-in_err-tables-clause-told : goal.returns-in_err-tables-clause-told
returns-in_err-tables-clause-told g c = c.read_tables.ensures.reads.told ∙ c.begin_members.ensures.told ∙ c.open_in_use.ensures.told

pub returns-in_err-tables-clause-stands : goal.returns-in_err-tables-clause-stands
returns-in_err-tables-clause-stands g c = let v = g.D.Disk.view in let old = v c.args.disk.now in let mid = v c.open_in_use.new.disk in let raised = v c.begin_members.new.disk in
    λ t classes lines journal kept.
    let base = beginning_with classes lines (journal_in_use kept.root journal) c.in_ok-start.start in
    let told = still_tells old mid c.open_in_use.ensures.told t in
    let facts = (c.in_ok-start.ensures.begins t classes lines journal kept).facts in
    left-read classes lines journal kept.root c.in_ok-start.start old raised (v c.read_tables.new.disk)
    (left-raised classes lines journal kept.root c.in_ok-start.start old mid raised (c.open_in_use.ensures.stands t classes lines journal kept) (c.begin_members.ensures.leaves told base facts refl))
    c.read_tables.ensures.reads (still_tells mid raised c.begin_members.ensures.told told) (c.begin_members.ensures.keeps told base facts refl)

pub returns-in-Ok-clause-told : goal.returns-in-Ok-clause-told
returns-in-Ok-clause-told g c = c.read_tables.ensures.reads.told ∙ c.begin_members.ensures.told ∙ c.open_in_use.ensures.told

pub returns-in-Ok-clause-stands : goal.returns-in-Ok-clause-stands
returns-in-Ok-clause-stands g c = let v = g.D.Disk.view in let old = v c.args.disk.now in let mid = v c.open_in_use.new.disk in let raised = v c.begin_members.new.disk in
    λ t classes lines journal kept.
    let base = beginning_with classes lines (journal_in_use kept.root journal) c.in_ok-start.start in
    let told = still_tells old mid c.open_in_use.ensures.told t in
    let facts = (c.in_ok-start.ensures.begins t classes lines journal kept).facts in
    left-read classes lines journal kept.root c.in_ok-start.start old raised (v c.read_tables.new.disk)
    (left-raised classes lines journal kept.root c.in_ok-start.start old mid raised (c.open_in_use.ensures.stands t classes lines journal kept) (c.begin_members.ensures.leaves told base facts refl))
    c.read_tables.ensures.reads (still_tells mid raised c.begin_members.ensures.told told) (c.begin_members.ensures.keeps told base facts refl)

pub returns-in-Err-clause-told : goal.returns-in-Err-clause-told
returns-in-Err-clause-told g c = c.read_tables.ensures.reads.told ∙ c.begin_members.ensures.told ∙ c.open_in_use.ensures.told

pub returns-in-Err-clause-stands : goal.returns-in-Err-clause-stands
returns-in-Err-clause-stands g c = let v = g.D.Disk.view in let old = v c.args.disk.now in let mid = v c.open_in_use.new.disk in let raised = v c.begin_members.new.disk in
    λ t classes lines journal kept.
    let base = beginning_with classes lines (journal_in_use kept.root journal) c.in_ok-start.start in
    let told = still_tells old mid c.open_in_use.ensures.told t in
    let facts = (c.in_ok-start.ensures.begins t classes lines journal kept).facts in
    left-read classes lines journal kept.root c.in_ok-start.start old raised (v c.read_tables.new.disk)
    (left-raised classes lines journal kept.root c.in_ok-start.start old mid raised (c.open_in_use.ensures.stands t classes lines journal kept) (c.begin_members.ensures.leaves told base facts refl))
    c.read_tables.ensures.reads (still_tells mid raised c.begin_members.ensures.told told) (c.begin_members.ensures.keeps told base facts refl)

pub returns-in-Ok-clause-outside : goal.returns-in-Ok-clause-outside
returns-in-Ok-clause-outside g c = λ s. all-outside c.in-Ok.held.members c.in-Ok.ensures.members s

pub returns-in-Ok-clause-begins : goal.returns-in-Ok-clause-begins
returns-in-Ok-clause-begins g c = let v = g.D.Disk.view in let old = v c.args.disk.now in let mid = v c.open_in_use.new.disk in let raised = v c.begin_members.new.disk in let new = v c.read_tables.new.disk in
    λ t classes lines journal kept by_area lie.
    let start = c.in_ok-start.start in
    let base = beginning_with classes lines (journal_in_use kept.root journal) start in
    let begins = c.in_ok-start.ensures.begins t classes lines journal kept in
    let told = still_tells old mid c.open_in_use.ensures.told t in
    let told_on = still_tells mid raised c.begin_members.ensures.told told in
    let told_new = still_tells raised new c.read_tables.ensures.reads.told told_on in
    let both = c.in_ok-root.ensures.begins told base begins.facts refl (record { rests = λ member. refl; quiet = refl; settled = refl }) in
    let made = c.in-Ok.ensures in
    begins-from old mid raised new t c.open_in_use.ensures.told c.begin_members.ensures.told c.read_tables.ensures.reads
    (g.met.D.Disk.content_left c.read_tables.new.disk new.moment told_new (omega arith))
    classes lines journal kept.root kept.is_root.is start begins (c.in_ok-start.ensures.limits t kept.root kept.is_root.is) (c.open_in_use.ensures.spaces t) (c.begin_members.ensures.others told)
    both.0 both.1 (c.in_ok-root.ensures.stable told)
    c.in_ok-tables.tables (c.in_ok-tables.ensures.tables told_on)
    c.in-Ok.held (record {
      limits = made.limits;
      next = ap (λ (n : Numbers). n.next) made.numbers;
      ceiling = ap (λ (n : Numbers). n.ceiling) made.numbers ∙ c.in_ok-root.ensures.ceiling;
      written = ap (λ (n : Numbers). n.written) made.numbers ∙ c.in_ok-root.ensures.ceiling;
      group = made.next;
      tables_are = made.tables;
      members = made.members;
      free = made.slots;
    }) by_area (c.open_in_use.ensures.classes t classes lines journal kept by_area lie)

pub returns-in-Ok-clause-used : goal.returns-in-Ok-clause-used
returns-in-Ok-clause-used g c = let v = g.D.Disk.view in let old = v c.args.disk.now in let mid = v c.open_in_use.new.disk in let raised = v c.begin_members.new.disk in
    λ t root is.
    let told = still_tells old mid c.open_in_use.ensures.told t in
    let told_on = still_tells mid raised c.begin_members.ensures.told told in
    whole-root (raised.content root_file 0) c.in_ok-root.root root (c.in_ok-root.ensures.stands told) c.in_ok-root.ensures.state
    (subst (λ (b : List ℕ). IsRoot b root) ((c.read_tables.ensures.reads.keeps told_on).content root_file 0) is)

pub returns-in_err-root-clause-beside : goal.returns-in_err-root-clause-beside
returns-in_err-root-clause-beside g c = let v = g.D.Disk.view in let old = v c.args.disk.now in let mid = v c.open_in_use.new.disk in
    λ t file other apart.
    let told = still_tells old mid c.open_in_use.ensures.told t in
    kept-raised file apart.root old mid (v c.begin_members.new.disk) (c.open_in_use.ensures.beside t file other apart) (c.begin_members.ensures.others told) (c.begin_members.ensures.pending told) (c.begin_members.ensures.beside told)

pub returns-in_err-tables-clause-beside : goal.returns-in_err-tables-clause-beside
returns-in_err-tables-clause-beside g c = let v = g.D.Disk.view in let old = v c.args.disk.now in let mid = v c.open_in_use.new.disk in let raised = v c.begin_members.new.disk in
    λ t file other apart.
    let told = still_tells old mid c.open_in_use.ensures.told t in
    kept-read file apart.root old mid raised (c.open_in_use.ensures.beside t file other apart) (c.begin_members.ensures.others told) (c.begin_members.ensures.pending told) (c.begin_members.ensures.beside told)
    (v c.read_tables.new.disk) c.read_tables.ensures.reads (still_tells mid raised c.begin_members.ensures.told told)

pub returns-in-Ok-clause-beside : goal.returns-in-Ok-clause-beside
returns-in-Ok-clause-beside g c = let v = g.D.Disk.view in let old = v c.args.disk.now in let mid = v c.open_in_use.new.disk in let raised = v c.begin_members.new.disk in
    λ t file other apart.
    let told = still_tells old mid c.open_in_use.ensures.told t in
    kept-read file apart.root old mid raised (c.open_in_use.ensures.beside t file other apart) (c.begin_members.ensures.others told) (c.begin_members.ensures.pending told) (c.begin_members.ensures.beside told)
    (v c.read_tables.new.disk) c.read_tables.ensures.reads (still_tells mid raised c.begin_members.ensures.told told)

pub returns-in-Err-clause-beside : goal.returns-in-Err-clause-beside
returns-in-Err-clause-beside g c = let v = g.D.Disk.view in let old = v c.args.disk.now in let mid = v c.open_in_use.new.disk in let raised = v c.begin_members.new.disk in
    λ t file other apart.
    let told = still_tells old mid c.open_in_use.ensures.told t in
    kept-read file apart.root old mid raised (c.open_in_use.ensures.beside t file other apart) (c.begin_members.ensures.others told) (c.begin_members.ensures.pending told) (c.begin_members.ensures.beside told)
    (v c.read_tables.new.disk) c.read_tables.ensures.reads (still_tells mid raised c.begin_members.ensures.told told)
