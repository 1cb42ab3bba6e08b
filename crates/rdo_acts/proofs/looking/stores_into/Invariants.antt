use Rattle.std.proofs.Common.{◌≤◌, map, take}
use Rattle.rdo_bind.specs.Acting.{act_of, acts_of}
use Rattle.rdo_acts.specs.Ahead.{stores_into}
use Rattle.rdo_acts.proofs.looking.stores_into.Given as goal

abbrev pub invariant-loop-action : goal.invariant-loop-action
invariant-loop-action l = l.count ≤ stores_into (acts_of (map act_of (take l.action-index l.body))) l.area
