-- Sessions in their list.
use Rattle.std.proofs.Common.{◌≡◌, ◌≤◌, ◌-◌, ◌||◌, ℕ, zero, suc, ◌∷◌, [], Bool, false, List, length, refl, sym, ap, arith, slice_set}
use Rattle.std.specs.List.{list_any}
use Rattle.std.proofs.lemmas.Bool.{false≢true}
use Rattle.session_states.specs.declared.stage.Life.{Life}
use Rattle.session_states.specs.declared.stage.Life.TheVariants.{Alive, Dead, Gone}
use Rattle.session_states.specs.declared.stage.Member.{Member}
use Rattle.line_account.specs.session_stands.Sessions.{dead_in, one_dead}
use Rattle.lent_members.specs.Going.{is_dead, is_dead_life}

pub set-length : {A : Type 0} (xs : List A) (i : ℕ) (x : A) → length (slice_set xs i x) ≡ length xs
set-length [] i x = refl
set-length (z ∷ zs) zero x = refl
set-length (z ∷ zs) (suc i) x = ap suc (set-length zs i x)

pub suc-less : (s : ℕ) → 1 ≤ s → suc (s - 1) ≡ s
suc-less s h = omega arith

life-none : (l : Life) (b : Bool) → (is_dead_life l || b) ≡ false → (one_dead l ≡ 0) × (b ≡ false)
life-none Alive b h = (refl, h)
life-none Dead b h = absurd (false≢true (sym h))
life-none Gone b h = (refl, h)

-- nobody is dead where none is found
pub none-dead : (ms : List Member) → list_any is_dead ms ≡ false → dead_in ms ≡ 0
none-dead [] h = refl
none-dead (m ∷ ms) h = let e = life-none m.life (list_any is_dead ms) h in let rest = none-dead ms e.1 in let one = e.0 in omega (arith, rest, one)
