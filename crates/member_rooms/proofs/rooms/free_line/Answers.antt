use Rattle.std.proofs.Common.{Some, refl}
use Rattle.committed_tables.specs.page_table.declared.uses.Sought.TheVariants.{Free}
use Rattle.member_rooms.proofs.Found.{same, passed, behind-further, fits-further}
use Rattle.member_rooms.proofs.rooms.free_line.Goals as goal

pub loop-passed-init : goal.loop-passed-init
loop-passed-init c = same c.args.from refl

pub loop-passed-preserved : goal.loop-passed-preserved
loop-passed-preserved c = passed (Some c.in-Some.key) c.in-Some.key refl (behind-further c.args.from c.loop-passed.behind c.in-Some.key c.loop-passed.invariant c.in-Some.ensures.found.fits.behind)

pub returns-then-not-has_image-clause-fits : goal.returns-then-not-has_image-clause-fits
returns-then-not-has_image-clause-fits c = fits-further c.args.table.now (Free c.args.class) c.args.area c.args.from c.loop-passed.behind c.in-Some.key c.loop-passed.invariant c.in-Some.ensures.found.fits
