use Rattle.std.proofs.Common.{◌∙◌, ap, subst, List, Option, Ok}
use Rattle.std.specs.Prelude.{IfSome}
use Rattle.lock_needs.specs.declared.need.Need.{Need}
use Rattle.line_view.specs.declared.stop.Stop.{Stop}
use Rattle.line_view.specs.declared.stop.Never.{Never}
use Rattle.line_view.specs.Held.{knows}
use Rattle.catalog.specs.Reading.{StopsCatalog}
use Rattle.reserved_locks.specs.Reserved.{AreLocksOf}
use Rattle.rdo_reserving.proofs.Named.{named, none-named, catalog-lacks, catalog-bad}
use Rattle.rdo_reserving.proofs.reserving.locks_by_catalog.Goals as goal

pub returns-in-Ok-Some-clause-locks : goal.returns-in-Ok-Some-clause-locks
returns-in-Ok-Some-clause-locks c = named (knows c.args.known.now) c.in-Ok.catalog c.args.reserved.now c.in-Ok-Some.locks c.in-Ok.ensures.catalog
    (subst (λ (o : Option (List Need)). IfSome o (AreLocksOf c.args.reserved.now (c.in-Ok.catalog).tables)) c.in-Ok-Some.field-0-is c.in-Ok-Some.ensures.locks)

pub returns-in-Err-Missing-clause-cause : goal.returns-in-Err-Missing-clause-cause
returns-in-Err-Missing-clause-cause c =
    let lacks = catalog-lacks (knows c.args.known.now) c.args.reserved.now c.in-Err-Missing.need c.requires (subst (λ (why : Stop Never). StopsCatalog (knows c.args.known.now) why) c.in-Err-Missing.field-0-is c.in-Err-Missing.ensures.stop) in
    rw c.in-Err-Missing.need-is lacks

pub returns-in-Err-Bad-clause-cause : goal.returns-in-Err-Bad-clause-cause
returns-in-Err-Bad-clause-cause c = catalog-bad (knows c.args.known.now) c.args.reserved.now c.in-Err-Bad.field-0-0
    (subst (λ (why : Stop Never). StopsCatalog (knows c.args.known.now) why) c.in-Err-Bad.field-0-is c.in-Err-Bad.ensures.stop)

pub returns-in-Ok-None-clause-cause : goal.returns-in-Ok-None-clause-cause
returns-in-Ok-None-clause-cause c = none-named (knows c.args.known.now) c.in-Ok.catalog c.args.reserved.now c.in-Ok.ensures.catalog (c.locks_in.ensures.unnamed (c.in-Ok-None.is ∙ ap Ok c.in-Ok-None.field-0-is))
