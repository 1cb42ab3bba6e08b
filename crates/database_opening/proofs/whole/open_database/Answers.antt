use Rattle.std.proofs.Common.{rules, ◌≡◌, ◌∙◌, sym, subst, arith}
use Rattle.root_file.specs.declared.Root.{Root}
use Rattle.root_file.specs.Root.{IsRoot}
use Rattle.new_database.specs.Maker.{root_file}
use Rattle.line_opening.proofs.of_line_moves.Runs.{still_tells}
use Rattle.database_opening.specs.Stages.{OpeningFacts}
use Rattle.database_opening.specs.declared.stages.OpeningStage.{OpeningStage}
use Rattle.database_opening.specs.declared.stages.OpeningStage.TheVariants.{Opened}
use Rattle.database_opening.proofs.EachMoment.{left_by_reads, left_by_step}
use Rattle.database_opening.proofs.Pages.{classes_read, classes_stable, classes_given, untouched_read, untouched_on}
use Rattle.database_opening.proofs.Others.{file_read, file_on}
use Rattle.database_opening.proofs.whole.open_database.Goals as goal

pub returns-in_err-opening-clause-stands : goal.returns-in_err-opening-clause-stands
returns-in_err-opening-clause-stands g c = let v = g.D.Disk.view in λ t classes lines journal kept.
    left_by_reads classes lines journal (v c.args.disk.now) (v c.begin.new.disk) c.begin.ensures.reads t

pub returns-in_err-opening-clause-bad : goal.returns-in_err-opening-clause-bad
returns-in_err-opening-clause-bad g c = λ file slot is t classes lines journal kept. c.begin.ensures.bad file slot (search rules) t classes lines journal kept

pub steps-init : goal.steps-init
steps-init g c = let v = g.D.Disk.view in let old = v c.args.disk.now in let new = v c.begin.new.disk in
    record {
      told = c.begin.ensures.reads.told;
      no_fewer = c.begin.ensures.reads.no_fewer;
      stage = c.in_ok-opening.ensures.stage;
      facts = λ t classes lines journal kept. c.in_ok-opening.ensures.found t classes lines journal kept;
      classes = λ t classes lines journal kept by_area lie. classes_stable new (c.in_ok-opening.ensures.stable t) by_area (classes_read old new c.begin.ensures.reads t by_area lie);
      untouched = λ t. untouched_read old new c.begin.ensures.reads t;
      others = λ t file other. file_read old new c.begin.ensures.reads t file;
      leaves = λ t classes lines journal kept. left_by_reads classes lines journal old new c.begin.ensures.reads t;
    }

pub returns-in_err-stage-clause-bad : goal.returns-in_err-stage-clause-bad
returns-in_err-stage-clause-bad g c = let v = g.D.Disk.view in let old = v c.args.disk.now in let mid = v c.steps.disk in let so_far = c.steps.invariant in
    λ file slot is t classes lines journal kept.
    c.step.ensures.bad file slot (search rules) (still_tells old mid so_far.told t) classes lines journal (so_far.facts t classes lines journal kept)

pub returns-in_err-stage-clause-stands : goal.returns-in_err-stage-clause-stands
returns-in_err-stage-clause-stands g c = let v = g.D.Disk.view in let old = v c.args.disk.now in let mid = v c.steps.disk in let new = v c.step.new.disk in let so_far = c.steps.invariant in
    λ t classes lines journal kept.
    left_by_step classes lines journal old mid new (so_far.leaves t classes lines journal kept)
    (c.step.ensures.stands (still_tells old mid so_far.told t) classes lines journal (so_far.facts t classes lines journal kept))

pub returns-in_err-opening-clause-classes : goal.returns-in_err-opening-clause-classes
returns-in_err-opening-clause-classes g c = let v = g.D.Disk.view in λ t classes lines journal kept by_area lie.
    classes_read (v c.args.disk.now) (v c.begin.new.disk) c.begin.ensures.reads t by_area lie

pub returns-in_err-opening-clause-untouched : goal.returns-in_err-opening-clause-untouched
returns-in_err-opening-clause-untouched g c = let v = g.D.Disk.view in λ t.
    untouched_read (v c.args.disk.now) (v c.begin.new.disk) c.begin.ensures.reads t

pub returns-in_err-stage-clause-classes : goal.returns-in_err-stage-clause-classes
returns-in_err-stage-clause-classes g c = let v = g.D.Disk.view in let old = v c.args.disk.now in let mid = v c.steps.disk in let new = v c.step.new.disk in let so_far = c.steps.invariant in
    λ t classes lines journal kept by_area lie.
    let told = still_tells old mid so_far.told t in
    classes_given new (g.met.D.Disk.content_left c.step.new.disk new.moment (still_tells mid new c.step.ensures.told told) (omega arith)) by_area
    (c.step.ensures.classes told classes lines journal (so_far.facts t classes lines journal kept) by_area (so_far.classes t classes lines journal kept by_area lie))

pub returns-in_err-stage-clause-untouched : goal.returns-in_err-stage-clause-untouched
returns-in_err-stage-clause-untouched g c = let v = g.D.Disk.view in let old = v c.args.disk.now in let mid = v c.steps.disk in let new = v c.step.new.disk in let so_far = c.steps.invariant in
    λ t. untouched_on old.content mid.content new.content (so_far.untouched t) (c.step.ensures.untouched (still_tells old mid so_far.told t))

pub returns-clause-classes : goal.returns-clause-classes
returns-clause-classes g c = let v = g.D.Disk.view in let old = v c.args.disk.now in let mid = v c.steps.disk in let so_far = c.steps.invariant in
    λ t classes lines journal kept by_area lie.
    classes_given mid (g.met.D.Disk.content_left c.steps.disk mid.moment (still_tells old mid so_far.told t) (omega arith)) by_area (so_far.classes t classes lines journal kept by_area lie)

pub returns-clause-untouched : goal.returns-clause-untouched
returns-clause-untouched g c = λ t. c.steps.invariant.untouched t

pub returns-clause-begins : goal.returns-clause-begins
returns-clause-begins g c = let v = g.D.Disk.view in let old = v c.args.disk.now in let mid = v c.steps.disk in let so_far = c.steps.invariant in
    λ t classes lines journal kept.
    let over : c.steps.stage ≡ Opened = c.is_over.ensures.yes (search rules) in
    c.start_of.ensures.begins classes lines journal (subst (λ (s : OpeningStage). OpeningFacts classes lines journal s mid c.in_ok-opening.opening.found) over (so_far.facts t classes lines journal kept))

pub returns-clause-stands : goal.returns-clause-stands
returns-clause-stands g c = λ t classes lines journal kept. c.steps.invariant.leaves t classes lines journal kept

pub steps-preserved : goal.steps-preserved
steps-preserved g c = let v = g.D.Disk.view in let old = v c.args.disk.now in let mid = v c.steps.disk in let new = v c.step.new.disk in let so_far = c.steps.invariant in
    record {
      told = c.step.ensures.told ∙ so_far.told;
      no_fewer = let first = so_far.no_fewer in let then_no_fewer = c.step.ensures.no_fewer in omega (arith, first, then_no_fewer);
      stage = c.in_ok-stage.ensures.stage;
      facts = λ t classes lines journal kept. c.in_ok-stage.ensures.goes_on (still_tells old mid so_far.told t) classes lines journal (so_far.facts t classes lines journal kept);
      classes = λ t classes lines journal kept by_area lie. c.step.ensures.classes (still_tells old mid so_far.told t) classes lines journal (so_far.facts t classes lines journal kept) by_area (so_far.classes t classes lines journal kept by_area lie);
      untouched = λ t. untouched_on old.content mid.content new.content (so_far.untouched t) (c.step.ensures.untouched (still_tells old mid so_far.told t));
      others = λ t file other. file_on old mid new file (so_far.others t file other) (c.step.ensures.others (still_tells old mid so_far.told t) file other);
      leaves = λ t classes lines journal kept. left_by_step classes lines journal old mid new (so_far.leaves t classes lines journal kept)
          (c.step.ensures.stands (still_tells old mid so_far.told t) classes lines journal (so_far.facts t classes lines journal kept));
    }

pub steps-smaller : goal.steps-smaller
steps-smaller g c = c.in_ok-stage.ensures.nearer (λ over. c.is_over.ensures.no (search rules) over)

pub returns-in_err-opening-clause-others : goal.returns-in_err-opening-clause-others
returns-in_err-opening-clause-others g c = let v = g.D.Disk.view in λ t file other.
    file_read (v c.args.disk.now) (v c.begin.new.disk) c.begin.ensures.reads t file

pub returns-in_err-stage-clause-others : goal.returns-in_err-stage-clause-others
returns-in_err-stage-clause-others g c = let v = g.D.Disk.view in let old = v c.args.disk.now in let mid = v c.steps.disk in let so_far = c.steps.invariant in
    λ t file other. file_on old mid (v c.step.new.disk) file (so_far.others t file other) (c.step.ensures.others (still_tells old mid so_far.told t) file other)

pub returns-clause-others : goal.returns-clause-others
returns-clause-others g c = λ t file other. c.steps.invariant.others t file other

pub returns-clause-its_root : goal.returns-clause-its_root
returns-clause-its_root g c = let v = g.D.Disk.view in
    λ t. subst (λ (root : Root). IsRoot ((v c.args.disk.now).content root_file 0) root) (sym c.start_of.ensures.root) (c.in_ok-opening.ensures.its_root t)
