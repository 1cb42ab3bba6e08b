-- What stops a roll-forward, of what stops a call or the laying of groups.
use Rattle.line_store.specs.declared.answers.Fault.{Fault}
use Rattle.line_store.specs.declared.answers.Fault.TheVariants as call
use Rattle.line_opening.specs.declared.fault.OpeningFault.{OpeningFault}
use Rattle.line_opening.specs.declared.fault.OpeningFault.TheVariants as laying
use Rattle.rmu_recover.specs.declared.fault.RecoverFault.{RecoverFault}
use Rattle.rmu_recover.specs.declared.fault.RecoverFault.TheVariants.{Failed, NoMemory, Bad}

abbrev pub of_call : Fault → RecoverFault
of_call call.Failed = Failed
of_call (call.Bad file slot) = Bad file slot

abbrev pub of_laying : OpeningFault → RecoverFault
of_laying laying.Failed = Failed
of_laying laying.NoMemory = NoMemory
of_laying (laying.Bad file slot) = Bad file slot
