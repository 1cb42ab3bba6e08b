use Rattle.std.proofs.Common.{◌≡◌, take}
use Rattle.rdo_bind.specs.Variables.{kinds_of}
use Rattle.rdo_bind.proofs.variable.kinds_of.Given as goal

abbrev pub invariant-loop-field : goal.invariant-loop-field
invariant-loop-field l = l.kinds ≡ kinds_of (take l.field-index l.fields)
