-- What one session copies is another, or who began a backup last.
use Rattle.std.proofs.Common.{◌≡◌, ◌<◌, ◌==◌, ℕ, Bool, true, false, List, length, Option, Some, None, IfSome, get_or, refl, sym, ap, subst, ◌∙◌, if◌then◌else◌}
use Rattle.std.specs.Prelude.{slice_get, slice_set}
use Rattle.std.proofs.lemmas.Bool.{eqb-true}
use Rattle.std.proofs.lemmas.Option.{slice_get-get_or}
use Rattle.rdb_types.specs.declared.session.Session.{Session}
use Rattle.line_store.specs.Sights.{copier_behind}
use Rattle.partial_backup.specs.declared.copying.Copying.{Copying}
use Rattle.disk_store.proofs.Members.{set-here, set-beside}
use Rattle.store_copies.specs.Memory.{AreReady, IsReady, told_of, number_of, copied_behind}

pub copied-set : (sessions : List (Option Copying)) (s : ℕ) (c : Option Copying) → s < length sessions → (t : ℕ) → told_of (slice_get (slice_set sessions s c) t) ≡ copied_behind s c (λ (u : ℕ). told_of (slice_get sessions u)) t
copied-set sessions s c within t = by (t == s) refl
  where
    by : (b : Bool) → (t == s) ≡ b → told_of (slice_get (slice_set sessions s c) t) ≡ copied_behind s c (λ (u : ℕ). told_of (slice_get sessions u)) t
    by true same =
        ap (λ (u : ℕ). told_of (slice_get (slice_set sessions s c) u)) (eqb-true t s same) ∙ ap told_of (set-here sessions s c within)
        ∙ sym (ap (λ (b : Bool). if b then c else told_of (slice_get sessions t)) same)
    by false apart = ap told_of (set-beside sessions s t c apart) ∙ sym (ap (λ (b : Bool). if b then c else told_of (slice_get sessions t)) apart)

pub copier-set : (numbers : List (Option Session)) (number : ℕ) (s : Session) → number < length numbers → (n : ℕ) → number_of (slice_get (slice_set numbers number (Some s)) n) ≡ copier_behind s.number (Some number) (λ (m : ℕ). number_of (slice_get numbers m)) n
copier-set numbers number s within n = by (n == number) refl
  where
    by : (b : Bool) → (n == number) ≡ b → number_of (slice_get (slice_set numbers number (Some s)) n) ≡ copier_behind s.number (Some number) (λ (m : ℕ). number_of (slice_get numbers m)) n
    by true same =
        ap (λ (m : ℕ). number_of (slice_get (slice_set numbers number (Some s)) m)) (eqb-true n number same) ∙ ap number_of (set-here numbers number (Some s) within)
        ∙ sym (ap (λ (b : Bool). if b then Some s.number else number_of (slice_get numbers n)) same)
    by false apart = ap number_of (set-beside numbers number n (Some s) apart) ∙ sym (ap (λ (b : Bool). if b then Some s.number else number_of (slice_get numbers n)) apart)

-- what is ready stays so
pub ready-set : (sessions : List (Option Copying)) (s : ℕ) (c : Option Copying) → s < length sessions → IfSome c IsReady → AreReady sessions → AreReady (slice_set sessions s c)
ready-set sessions s c within ready were t x is = by (t == s) refl (sym (copied-set sessions s c within t) ∙ is)
  where
    own : (c : Option Copying) → IfSome c IsReady → c ≡ Some x → IsReady x
    own c ready same = subst (λ (o : Option Copying). IfSome o IsReady) same ready

    by : (b : Bool) → (t == s) ≡ b → copied_behind s c (λ (u : ℕ). told_of (slice_get sessions u)) t ≡ Some x → IsReady x
    by true same got = own c ready (sym (ap (λ (b : Bool). if b then c else told_of (slice_get sessions t)) same) ∙ got)
    by false apart got = were t x (sym (ap (λ (b : Bool). if b then c else told_of (slice_get sessions t)) apart) ∙ got)

-- what a session copies is ready
pub ready-got : (sessions : List (Option Copying)) (s : ℕ) → s < length sessions → AreReady sessions → IfSome (get_or sessions s None) IsReady
ready-got sessions s within ready = by (get_or sessions s None) (ap told_of (slice_get-get_or sessions s None within))
  where
    by : (o : Option Copying) → told_of (slice_get sessions s) ≡ o → IfSome o IsReady
    by None is = tt
    by (Some c) is = ready s c is
