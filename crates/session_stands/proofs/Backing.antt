-- Backups that are whole stay so, but for one that begins.
use Rattle.std.proofs.Common.{◌≡◌, ◌≤◌, ◌⊎◌, inl, inr, ℕ, refl, sym, ap, ◌∙◌, arith, Option, Some, None}
use Rattle.std.proofs.lemmas.Option.{none-some}
use Rattle.line_view.specs.Knowledge.{Lines}
use Rattle.rdb_account.specs.Backups.{Backup, Counted}
use Rattle.line_store.specs.Shelves.{Shelf}
use Rattle.line_store.specs.Sights.{Sight, copier_behind}
use Rattle.line_store.proofs.Begun.{copier-as, copier-none}
use Rattle.session_jobs.specs.Records.{Model}
use Rattle.session_stands.specs.Backed.{IsBacked, AreBacked, BackupsGo}

module _ (M : Model) (s : ℕ) (number : Option ℕ) (before behind : ℕ → Backup) (old new : Sight) (was is : ℕ) where
  pub backed-on : was ≤ is → ((n : ℕ) → new.copier n ≡ copier_behind s number old.copier n) → ((n t : ℕ) (lines : Lines) → t ≤ was → (number ≡ Some n → ⊥) → old.backed n t lines → new.backed n t lines) →
      BackupsGo M s number before behind new is → AreBacked M before old was → AreBacked M behind new is
  backed-on later copier keeps go k = record {
    copiers = λ n. copier n ∙ (copier-as s number old.copier (λ m. (before m).by) n (k.copiers n) ∙ sym (go.by n));
    each = λ n c counted. by n c (go.counts n c counted);
  }
    where
      still : (n : ℕ) (c : Counted) → (number ≡ Some n → ⊥) → IsBacked M old n c was → IsBacked M new n c is
      still n c apart b = record {
        since = b.since;
        by = b.by;
        past = omega (arith, b.past, later);
        lines = b.lines;
        stands = b.stands;
        backed = keeps n b.since b.lines b.past apart b.backed;
      }

      by : (n : ℕ) (c : Counted) → ((number ≡ Some n → ⊥) × ((before n).counted ≡ Some c)) ⊎ IsBacked M new n c is → IsBacked M new n c is
      by n c (inl was_so) = still n c was_so.0 (k.each n c was_so.1)
      by n c (inr now) = now

-- where none begins, and all count as before
pub backups-still : (M : Model) (s : ℕ) (number : Option ℕ) (before behind : ℕ → Backup) (sight : Sight) (time : ℕ) → number ≡ None → behind ≡ before → BackupsGo M s number before behind sight time
backups-still M s number before behind sight time none same = record {
  by = λ n. ap (λ (b : ℕ → Backup). (b n).by) same ∙ sym (copier-none s number (λ m. (before m).by) n none);
  counts = λ n c counted. inl ((λ e. none-some n (sym none ∙ e)), sym (ap (λ (b : ℕ → Backup). (b n).counted) same) ∙ counted);
}
