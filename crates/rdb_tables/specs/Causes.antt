-- Why an action ends, by what ended the evaluation.
use Rattle.rdo_arithmetic.specs.declared.stop.Stop as evaluation
use Rattle.rdo_arithmetic.specs.declared.stop.Stop.TheVariants as by
use Rattle.rdo_arithmetic.specs.declared.stop.Misfit.{Misfit}
use Rattle.rdo_arithmetic.specs.declared.stop.Misfit.TheVariants as fit
use Rattle.rdb_tables.specs.declared.stop.Stop.{Stop}
use Rattle.rdb_tables.specs.declared.stop.Stop.TheVariants.{Overflow, TooLong, Memory}

abbrev pub of_evaluation : evaluation.Stop → Stop
of_evaluation by.Overflow = Overflow
of_evaluation by.Memory = Memory

abbrev pub of_fitting : Misfit → Stop
of_fitting fit.Overflow = Overflow
of_fitting fit.TooLong = TooLong
of_fitting fit.Memory = Memory
