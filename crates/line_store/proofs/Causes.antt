-- Why a call failed.
use Rattle.std.proofs.Common.{◌≡◌, ℕ, refl, sym, subst}
use Rattle.rdb_outside.specs.rdb_types.declared.file.FileId.{FileId}
use Rattle.rdb_outside.specs.Causes.{Rose}
use Rattle.line_store.specs.declared.answers.Fault.{Fault}
use Rattle.line_store.specs.declared.answers.Fault.TheVariants.{Failed, Bad}
use Rattle.line_store.specs.Calls.{HasCause}
use Rattle.line_store.specs.Shelves.{AreSpent, Clock}

-- the faults that are counted before a call, and behind it
pub cause-of : (fault : Fault) (old new : Clock) (before behind : ℕ) → (fault ≡ Failed → Rose before behind) → ((file : FileId) (slot : ℕ) → fault ≡ Bad file slot → AreSpent new) → old.faults ≡ before → new.faults ≡ behind → HasCause fault old new
cause-of Failed old new before behind rose spent was is = subst (λ (n : ℕ). Rose n new.faults) (sym was) (subst (λ (n : ℕ). Rose before n) (sym is) (rose refl))
cause-of (Bad file slot) old new before behind rose spent was is = spent file slot refl
