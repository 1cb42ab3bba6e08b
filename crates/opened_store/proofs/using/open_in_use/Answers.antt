use Rattle.std.proofs.Common.{rules, ◌-◌, ◌∙◌, ap, sym, subst, arith, inr}
use Rattle.rdb_types.specs.declared.keys.Limits.{Limits}
use Rattle.root_file.specs.declared.Root.{Root}
use Rattle.root_file.specs.Root.{AreLimits}
use Rattle.root_file.proofs.Readings.{one_root}
use Rattle.new_database.specs.Maker.{root_file}
use Rattle.stable_lines.specs.Slots.{area_file}
use Rattle.line_moves.proofs.Runs.{still_tells}
use Rattle.line_opening.proofs.Counted.{if_ok}
use Rattle.database_opening.proofs.Others.{file_on}
use Rattle.opened_store.proofs.InUse.{if_both, spent, same_limits, same_number, same_root, begins_kept, using_leaves, opening_leaves, area_apart, classes_in_use}
use Rattle.opened_store.proofs.using.open_in_use.Goals as goal

pub take_into_use-requires : goal.take_into_use-requires
take_into_use-requires g c = record { root = c.in_ok-start.ensures.root; ceiling = let number = c.in_ok-start.ensures.number in omega (arith, number) }

pub returns-in_err-start-clause-bad : goal.returns-in_err-start-clause-bad
returns-in_err-start-clause-bad g c = λ file slot is t classes lines journal kept. absurd (c.open_database.ensures.bad file slot (search rules) t classes lines journal kept)

pub returns-in_err-start-clause-stands : goal.returns-in_err-start-clause-stands
returns-in_err-start-clause-stands g c = let v = g.D.Disk.view in
    λ t classes lines journal kept. opening_leaves classes lines journal kept.root (v c.args.disk.now) (v c.open_database.new.disk) (c.open_database.ensures.stands t classes lines journal kept)

pub returns-in_err-start-clause-classes : goal.returns-in_err-start-clause-classes
returns-in_err-start-clause-classes g c = λ t classes lines journal kept by_area lie. c.open_database.ensures.classes t classes lines journal kept by_area lie

pub returns-in_err-start-clause-spaces : goal.returns-in_err-start-clause-spaces
returns-in_err-start-clause-spaces g c = λ t file page is space. (c.open_database.ensures.untouched t).spaces file page is space

pub returns-clause-bad : goal.returns-clause-bad
returns-clause-bad g c = let v = g.D.Disk.view in let old = v c.args.disk.now in let start = c.in_ok-start.start in
    λ file slot is t classes lines journal kept.
    let begins = c.in_ok-start.ensures.begins t classes lines journal kept in
    let same = same_root classes lines journal old start kept (c.in_ok-start.ensures.its_root t) in
    let last = c.take_into_use.ensures.bad file slot is in
    let numbered = begins.next.numbered in
    inr (spent kept.root journal (ap (λ (r : Root). r.state) (sym same) ∙ c.take_into_use.ensures.restored file slot is) (omega (arith, last, numbered)) kept.is_root.is.allowed.limits.slots.0)

pub returns-clause-allowed : goal.returns-clause-allowed
returns-clause-allowed g c = let start = c.in_ok-start.start in
    if_ok _ _ c.take_into_use.result (λ used is. subst (λ (l : Limits). AreLimits l) (sym (same_limits start used is)) c.in_ok-start.ensures.root.limits) c.take_into_use.ensures.is

pub returns-clause-first : goal.returns-clause-first
returns-clause-first g c = let start = c.in_ok-start.start in
    if_ok _ _ c.take_into_use.result (λ used is. let number = c.in_ok-start.ensures.number in let least = c.in_ok-start.ensures.root.ceiling.0 in let same = same_number start used is in omega (arith, number, least, same)) c.take_into_use.ensures.is

pub returns-clause-limits : goal.returns-clause-limits
returns-clause-limits g c = let old = g.D.Disk.view c.args.disk.now in let start = c.in_ok-start.start in
    if_ok _ _ c.take_into_use.result (λ used is t root found.
    same_limits start used is ∙ ap (λ (r : Root). r.limits) (one_root (old.content root_file 0) start.root root (c.in_ok-start.ensures.its_root t) found)) c.take_into_use.ensures.is

pub returns-clause-number : goal.returns-clause-number
returns-clause-number g c = let old = g.D.Disk.view c.args.disk.now in let start = c.in_ok-start.start in
    if_ok _ _ c.take_into_use.result (λ used is t root found.
    same_number start used is ∙ c.in_ok-start.ensures.number ∙ ap (λ (r : Root). r.ceiling) (one_root (old.content root_file 0) start.root root (c.in_ok-start.ensures.its_root t) found)) c.take_into_use.ensures.is

pub returns-clause-begins : goal.returns-clause-begins
returns-clause-begins g c = let v = g.D.Disk.view in let old = v c.args.disk.now in let mid = v c.open_database.new.disk in let start = c.in_ok-start.start in
    if_both _ _ _ c.take_into_use.result (λ used is in_use t classes lines journal kept.
    let begins = c.in_ok-start.ensures.begins t classes lines journal kept in
    begins_kept classes lines journal old start kept (c.in_ok-start.ensures.its_root t) used is mid (v c.take_into_use.new.disk) begins
    (in_use (still_tells old mid c.open_database.ensures.told t) classes lines journal begins)) c.take_into_use.ensures.is c.take_into_use.ensures.used

pub returns-clause-stands : goal.returns-clause-stands
returns-clause-stands g c = let v = g.D.Disk.view in let old = v c.args.disk.now in let mid = v c.open_database.new.disk in let start = c.in_ok-start.start in
    λ t classes lines journal kept.
    using_leaves classes lines journal old start kept (c.in_ok-start.ensures.its_root t) mid (v c.take_into_use.new.disk) (c.open_database.ensures.stands t classes lines journal kept)
    (c.take_into_use.ensures.stands (still_tells old mid c.open_database.ensures.told t) classes lines journal (c.in_ok-start.ensures.begins t classes lines journal kept))

pub returns-clause-classes : goal.returns-clause-classes
returns-clause-classes g c = let v = g.D.Disk.view in let old = v c.args.disk.now in let mid = v c.open_database.new.disk in
    λ t classes lines journal kept by_area lie.
    classes_in_use mid (v c.take_into_use.new.disk) (λ file. c.take_into_use.ensures.others (area_file file) (area_apart file) (still_tells old mid c.open_database.ensures.told t)) by_area
    (c.open_database.ensures.classes t classes lines journal kept by_area lie)

pub returns-clause-spaces : goal.returns-clause-spaces
returns-clause-spaces g c = let v = g.D.Disk.view in let old = v c.args.disk.now in let mid = v c.open_database.new.disk in
    λ t file page is space.
    (c.take_into_use.ensures.others (area_file file) (area_apart file) (still_tells old mid c.open_database.ensures.told t)).content (page - 1) ∙ (c.open_database.ensures.untouched t).spaces file page is space

pub returns-in_err-start-clause-beside : goal.returns-in_err-start-clause-beside
returns-in_err-start-clause-beside g c = λ t file other apart. c.open_database.ensures.others t file other

pub returns-clause-beside : goal.returns-clause-beside
returns-clause-beside g c = let v = g.D.Disk.view in let old = v c.args.disk.now in let mid = v c.open_database.new.disk in
    λ t file other apart. file_on old mid (v c.take_into_use.new.disk) file (c.open_database.ensures.others t file other) (c.take_into_use.ensures.others file apart (still_tells old mid c.open_database.ensures.told t))
