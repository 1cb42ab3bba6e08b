-- Who began a backup last, where a session begins one.
use Rattle.std.proofs.Common.{◌≡◌, ◌<◌, ◌==◌, ℕ, Bool, true, false, List, length, Option, Some, None, refl, sym, ap, ◌∙◌, cond}
use Rattle.std.specs.Prelude.{slice_get, slice_set}
use Rattle.std.proofs.lemmas.Bool.{eqb-true, eqb-false}
use Rattle.rdb_types.specs.declared.session.Session.{Session}
use Rattle.line_store.specs.Sights.{copier_behind}
use Rattle.memory_store.specs.Copiers.{number_of, copier_in}
use Rattle.memory_store.proofs.Seating.{set-here, get-apart}

pub copier-set : (by : List (Option Session)) (number : ℕ) (s : Session) (n : ℕ) → number < length by → copier_in (slice_set by number (Some s)) n ≡ copier_behind s.number (Some number) (copier_in by) n
copier-set by number s n inside = each (n == number) refl
  where
    each : (b : Bool) → (n == number) ≡ b → copier_in (slice_set by number (Some s)) n ≡ cond (n == number) (Some s.number) (copier_in by n)
    each true equal =
        ap (λ (m : ℕ). copier_in (slice_set by number (Some s)) m) (eqb-true n number equal)
        ∙ (ap number_of (set-here by number (Some s) inside)
        ∙ sym (ap (λ (b : Bool). cond b (Some s.number) (copier_in by n)) equal))
    each false apart =
        ap number_of (get-apart by number n (Some s) (eqb-false n number apart))
        ∙ sym (ap (λ (b : Bool). cond b (Some s.number) (copier_in by n)) apart)
