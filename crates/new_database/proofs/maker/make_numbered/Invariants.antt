use Rattle.new_database.specs.Maker.{MakesNone}
use Rattle.new_database.proofs.maker.make_numbered.Given as goal

abbrev pub invariant-loop-number : goal.invariant-loop-number
invariant-loop-number g l = MakesNone (g.D.Disk.view l.fn.disk) (g.D.Disk.view l.disk)
