-- What a reading of the store came to.
use Rattle.std.proofs.Common.{◌≡◌, ℕ, false, Ok, Err, subst}
use Rattle.line_store.specs.Seats.{is_changing}
use Rattle.line_store.specs.Shelves.{Shelf}
use Rattle.line_store.specs.Calls.{Moves, GoesOn, Fails, IsRead}
use Rattle.line_store.specs.declared.answers.Fault.{Fault}
use Rattle.line_store.specs.declared.answers.Progress.{Progress}
use Rattle.line_store.specs.declared.answers.Progress.TheVariants as progress
use Rattle.line_store.specs.declared.answers.ReadStop.{ReadStop}
use Rattle.line_store.specs.declared.answers.ReadStop.TheVariants as stop
use Rattle.stage_steps.proofs.Failing.{fault-moves}

pub was-read : (s : ℕ) (old new : Shelf) (x : Progress) → x ≡ progress.Done → IsRead s old new (Ok x) → Moves s (old.seat s) old new
was-read s old new x e h = subst (λ (y : Progress). IsRead s old new (Ok y)) e h

pub was-more : (s : ℕ) (old new : Shelf) (x : Progress) → x ≡ progress.More → IsRead s old new (Ok x) → Moves s (old.seat s) old new
was-more s old new x e h = let r : GoesOn s old new = subst (λ (y : Progress). IsRead s old new (Ok y)) e h in r.moves

pub was-forgone : (s : ℕ) (old new : Shelf) (x : ReadStop) → x ≡ stop.NoMemory → IsRead s old new (Err x) → Moves s (old.seat s) old new
was-forgone s old new x e h = subst (λ (y : ReadStop). IsRead s old new (Err y)) e h

pub was-failed : (s : ℕ) (old new : Shelf) (x : ReadStop) (fault : Fault) → x ≡ stop.Fault fault → IsRead s old new (Err x) → Fails s fault old new
was-failed s old new x fault e h = subst (λ (y : ReadStop). IsRead s old new (Err y)) e h

pub was-fault : (s : ℕ) (old new : Shelf) (x : ReadStop) (fault : Fault) → is_changing (old.seat s) ≡ false → x ≡ stop.Fault fault → IsRead s old new (Err x) → Moves s (old.seat s) old new
was-fault s old new x fault plain e h = fault-moves s fault old new plain (was-failed s old new x fault e h)
