-- An answer that gave up, passed on by a function whose own definition gives up with it.
use Rattle.std.proofs.Common.{◌≡◌, Err}
use Rattle.rdb_meaning.specs.Numbers.{Computed, overflow}
use Rattle.rdb_meaning.specs.Comparison.{Weighed, overflows, Verdict, undecided}
use Rattle.rdo_arithmetic.specs.declared.stop.Stop.{Stop}
use Rattle.rdo_arithmetic.specs.declared.stop.Stop.TheVariants as stop
use Rattle.rdo_arithmetic.specs.Answers.{Gives, Weighs, Chooses}

pub gives_exit : (e : Stop) (c d : Computed) → Gives (Err e) c → (c ≡ overflow → d ≡ overflow) → Gives (Err e) d
gives_exit stop.Overflow c d g f = f g
gives_exit stop.Memory c d g f = tt

pub weighs_exit : (e : Stop) (w x : Weighed) → Weighs (Err e) w → (w ≡ overflows → x ≡ overflows) → Weighs (Err e) x
weighs_exit stop.Overflow w x g f = f g
weighs_exit stop.Memory w x g f = tt

pub chooses_exit : (e : Stop) (w : Weighed) (v : Verdict) → Weighs (Err e) w → (w ≡ overflows → v ≡ undecided) → Chooses (Err e) v
chooses_exit stop.Overflow w v g f = f g
chooses_exit stop.Memory w v g f = tt

pub weighs_overflow : (e : Stop) (w : Weighed) → e ≡ stop.Overflow → Weighs (Err e) w → w ≡ overflows
weighs_overflow stop.Overflow w h g = g
weighs_overflow stop.Memory w h g = cc
