use Rattle.std.proofs.Common.{◌≡◌, ◌∙◌, ap, inl, refl, sym, subst}
use Rattle.rdb_types.specs.declared.file.FileKind.TheVariants.{Area, Root as RootKind, Ruj, Snap}
use Rattle.disk_seats.specs.stable_lines.Slots.{area_file, ruj_file}
use Rattle.disk_seats.proofs.of_line_moves.Runs.{writes_none}
use Rattle.disk_seats.proofs.of_line_moves.PageClasses.{owners_stay, classes_read}
use Rattle.disk_seats.proofs.of_line_seat.CommitSteps.{if_ok}
use Rattle.member_steps.specs.declared.committing.CommitTurn.{CommitTurn}
use Rattle.member_steps.specs.declared.committing.CommitTurn.TheVariants.{Going}
use Rattle.disk_seats.specs.Members.{LedgerFacts}
use Rattle.member_steps.proofs.JournalsStay.{journals_beside}
use Rattle.member_steps.specs.Turns.{plan_of, TurnFacts, NextFacts, ledger_behind, ledger_held}
use Rattle.member_steps.proofs.committing.commit_next.Goals as goal

pub returns-in-Entering-clause-keeps : goal.returns-in-Entering-clause-keeps
returns-in-Entering-clause-keeps g c = let v = g.D.Disk.view in λ t ledger member o all flight was facts.
    let plan = plan_of member o all c.args.group c.args.lines.now c.args.classes.now flight in
    let old = v c.args.disk.now in let new = v c.enter_next.new.disk in
    subst (λ (u : CommitTurn). LedgerFacts new (ledger_held u plan ledger)) (sym c.in-Entering.is)
    (c.enter_next.ensures.keeps t ledger plan was refl (subst (λ (u : CommitTurn). TurnFacts u old ledger plan) c.in-Entering.is facts)).0

pub returns-in-Entering-clause-goes_on : goal.returns-in-Entering-clause-goes_on
returns-in-Entering-clause-goes_on g c = let v = g.D.Disk.view in
    if_ok _ _ c.enter_next.result (λ next on t ledger member o all flight was classes facts.
    let plan = plan_of member o all c.args.group c.args.lines.now c.args.classes.now flight in
    let old = v c.args.disk.now in let new = v c.enter_next.new.disk in
    subst (λ (u : CommitTurn). LedgerFacts new (ledger_behind u next new.moment plan ledger) × NextFacts next new (ledger_behind u next new.moment plan ledger) plan) (sym c.in-Entering.is)
    (on t ledger plan was refl (subst (λ (u : CommitTurn). TurnFacts u old ledger plan) c.in-Entering.is facts))) c.enter_next.ensures.goes_on

pub returns-in-Securing-clause-keeps : goal.returns-in-Securing-clause-keeps
returns-in-Securing-clause-keeps g c = let v = g.D.Disk.view in λ t ledger member o all flight was facts.
    let plan = plan_of member o all c.args.group c.args.lines.now c.args.classes.now flight in
    let new = v c.secure.new.disk in
    subst (λ (u : CommitTurn). LedgerFacts new (ledger_held u plan ledger)) (sym c.in-Securing.is) (c.secure.ensures.keeps t ledger was)

pub returns-in-Securing-clause-goes_on : goal.returns-in-Securing-clause-goes_on
returns-in-Securing-clause-goes_on g c = let v = g.D.Disk.view in
    if_ok _ _ c.secure.result (λ next on t ledger member o all flight was classes facts.
    let plan = plan_of member o all c.args.group c.args.lines.now c.args.classes.now flight in
    let old = v c.args.disk.now in let new = v c.secure.new.disk in
    subst (λ (u : CommitTurn). LedgerFacts new (ledger_behind u next new.moment plan ledger) × NextFacts next new (ledger_behind u next new.moment plan ledger) plan) (sym c.in-Securing.is)
    (on t ledger plan was (subst (λ (u : CommitTurn). TurnFacts u old ledger plan) c.in-Securing.is facts))) c.secure.ensures.goes_on

pub returns-in-Going-clause-keeps : goal.returns-in-Going-clause-keeps
returns-in-Going-clause-keeps g c = let v = g.D.Disk.view in λ t ledger member o all flight was facts.
    let plan = plan_of member o all c.args.group c.args.lines.now c.args.classes.now flight in
    let old = v c.args.disk.now in let new = v c.go_further.new.disk in
    subst (λ (u : CommitTurn). LedgerFacts new (ledger_held u plan ledger)) (sym c.in-Going.is)
    (c.go_further.ensures.keeps t ledger member o all flight was (subst (λ (u : CommitTurn). TurnFacts u old ledger plan) c.in-Going.is facts))

pub returns-in-Going-clause-goes_on : goal.returns-in-Going-clause-goes_on
returns-in-Going-clause-goes_on g c = let v = g.D.Disk.view in
    if_ok _ _ c.go_further.result (λ next on t ledger member o all flight was classes facts.
    let plan = plan_of member o all c.args.group c.args.lines.now c.args.classes.now flight in
    let old = v c.args.disk.now in let new = v c.go_further.new.disk in
    subst (λ (u : CommitTurn). LedgerFacts new (ledger_behind u next new.moment plan ledger) × NextFacts next new (ledger_behind u next new.moment plan ledger) plan) (sym c.in-Going.is)
    (on t ledger member o all flight was (λ gathers. classes (c.in-Going.is ∙ ap Going gathers)) (subst (λ (u : CommitTurn). TurnFacts u old ledger plan) c.in-Going.is facts))) c.go_further.ensures.goes_on

pub returns-in-Securing-clause-writes : goal.returns-in-Securing-clause-writes
returns-in-Securing-clause-writes g c = let v = g.D.Disk.view in
    (area_file 1, 1, (λ k. let bad : Area ≡ Snap = k in cc), (λ k. let bad : Area ≡ RootKind = k in cc), writes_none (area_file 1) 1 (v c.args.disk.now) (v c.secure.new.disk) c.secure.ensures.reads)

pub returns-in-Entering-clause-classes : goal.returns-in-Entering-clause-classes
returns-in-Entering-clause-classes g c = λ t ledger was by_area its had. c.enter_next.ensures.classes t by_area had

pub returns-in-Securing-clause-classes : goal.returns-in-Securing-clause-classes
returns-in-Securing-clause-classes g c = let v = g.D.Disk.view in
    λ t ledger was by_area its had. classes_read by_area (v c.args.disk.now) (v c.secure.new.disk) c.secure.ensures.reads t had

pub returns-in-Going-clause-classes : goal.returns-in-Going-clause-classes
returns-in-Going-clause-classes g c = λ t ledger was by_area its had. c.go_further.ensures.classes t ledger was by_area its had

pub returns-in-Entering-clause-owners : goal.returns-in-Entering-clause-owners
returns-in-Entering-clause-owners g c = λ t ledger was there area is_file is_data lies. c.enter_next.ensures.owners t there area is_data

pub returns-in-Securing-clause-owners : goal.returns-in-Securing-clause-owners
returns-in-Securing-clause-owners g c = let v = g.D.Disk.view in
    λ t ledger was there area is_file is_data lies. owners_stay (v c.args.disk.now) (v c.secure.new.disk) (c.secure.ensures.reads.keeps t).pending there area

pub returns-in-Going-clause-owners : goal.returns-in-Going-clause-owners
returns-in-Going-clause-owners g c = λ t ledger was there area is_file is_data lies. c.go_further.ensures.owners t ledger was there area is_file is_data lies

pub returns-in-Entering-clause-bad : goal.returns-in-Entering-clause-bad
returns-in-Entering-clause-bad g c = λ file slot is t ledger member o all flight by_area was facts room. c.enter_next.ensures.bad file slot is t ledger was

pub returns-in-Securing-clause-bad : goal.returns-in-Securing-clause-bad
returns-in-Securing-clause-bad g c = λ file slot is t ledger member o all flight by_area was facts room. c.secure.ensures.bad file slot is

pub returns-in-Going-clause-bad : goal.returns-in-Going-clause-bad
returns-in-Going-clause-bad g c = let old = g.D.Disk.view c.args.disk.now in λ file slot is t ledger member o all flight by_area was facts room.
    c.go_further.ensures.bad file slot is t ledger member o all flight by_area was
    (subst (λ (u : CommitTurn). TurnFacts u old ledger (plan_of member o all c.args.group c.args.lines.now c.args.classes.now flight)) c.in-Going.is facts) room

pub returns-in-Entering-clause-journals : goal.returns-in-Entering-clause-journals
returns-in-Entering-clause-journals g c = let v = g.D.Disk.view in let writes = c.enter_next.ensures.writes in λ t member slot.
    journals_beside (v c.args.disk.now) (v c.enter_next.new.disk) (area_file writes.0) writes.1 t (λ k. let bad : Area ≡ Ruj = k in cc) writes.2 member slot

pub returns-in-Securing-clause-journals : goal.returns-in-Securing-clause-journals
returns-in-Securing-clause-journals g c = λ t member slot. (c.secure.ensures.reads.keeps t).content (ruj_file member) slot

pub returns-in-Going-clause-journals : goal.returns-in-Going-clause-journals
returns-in-Going-clause-journals g c = λ t member slot. c.go_further.ensures.journals t member slot

pub returns-in-Entering-clause-files : goal.returns-in-Entering-clause-files
returns-in-Entering-clause-files g c = let writes = c.enter_next.ensures.writes in (area_file writes.0, writes.1, inl refl, writes.2)

pub returns-in-Securing-clause-files : goal.returns-in-Securing-clause-files
returns-in-Securing-clause-files g c = let v = g.D.Disk.view in
    (area_file 1, 1, inl refl, writes_none (area_file 1) 1 (v c.args.disk.now) (v c.secure.new.disk) c.secure.ensures.reads)

pub returns-in-Going-clause-files : goal.returns-in-Going-clause-files
returns-in-Going-clause-files g c = c.go_further.ensures.files
