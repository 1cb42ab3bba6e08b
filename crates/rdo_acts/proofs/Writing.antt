-- What holds of the actions of a body holds of the one at a place: that it is bound, and whether it may write a row.
use Rattle.std.proofs.Common.{◌≡◌, ℕ, zero, suc, ◌<◌, Bool, true, false, List, [], ◌∷◌, length, get_or, map, sym, ap, subst, ◌∙◌, arith}
use Rattle.std.specs.Prelude.{◌||◌}
use Rattle.rdo_ast.specs.declared.syntax.Range.{Range}
use Rattle.rdb_meaning.specs.declared.tables.Tables.{Tables}
use Rattle.rdo_bind.specs.declared.action.BoundAction.{BoundAction}
use Rattle.rdo_bind.specs.Acting.{act_of, acts_of, IsBoundAct, AreBoundActs}
use Rattle.rdo_acts.specs.Scopes.{may_write, may_write_any}

abbrev pub writes_in : List BoundAction → Bool
writes_in body = may_write_any (acts_of (map act_of body))

first_no : (a b : Bool) → (a || b) ≡ false → a ≡ false
first_no true b h = h
first_no false b h = λ i. false

rest_no : (a b : Bool) → (a || b) ≡ false → b ≡ false
rest_no true b h = let bad : ⊥ = cc in absurd bad
rest_no false b h = h

pub acts_at : (body : List BoundAction) (i : ℕ) (x : BoundAction) (t : Tables) (vs : List Range) → AreBoundActs (acts_of (map act_of body)) t vs → i < length body → x ≡ get_or body i x → IsBoundAct (act_of x) t vs
acts_at [] i x t vs bound within read = absurd (omega (arith, within))
acts_at (y ∷ body) zero x t vs bound within read = subst (λ (a : BoundAction). IsBoundAct (act_of a) t vs) (sym read) bound.0
acts_at (y ∷ body) (suc i) x t vs bound within read = acts_at body i x t vs bound.1 (omega (arith, within)) read

pub reads_at : (body : List BoundAction) (i : ℕ) (x : BoundAction) → writes_in body ≡ false → i < length body → x ≡ get_or body i x → may_write (act_of x) ≡ false
reads_at [] i x none within read = absurd (omega (arith, within))
reads_at (y ∷ body) zero x none within read = ap (λ a. may_write (act_of a)) read ∙ first_no (may_write (act_of y)) (writes_in body) none
reads_at (y ∷ body) (suc i) x none within read = reads_at body i x (rest_no (may_write (act_of y)) (writes_in body) none) (omega (arith, within)) read
