-- How many rows a FOR stores.
use Rattle.std.proofs.Common.{◌≡◌, ◌<◌, ◌≤◌, ◌+◌, ◌*◌, ◌==◌, if◌then◌else◌, ℕ, Bool, true, inl, inr, List, [], ◌∷◌, ◌++◌, map, take, length, get_or, refl, sym, ap, subst, ◌∙◌, arith}
use Rattle.std.proofs.lemmas.Nat.{mul-le}
use Rattle.std.proofs.lemmas.List.{take_more}
use Rattle.rdb_meaning.specs.declared.tables.Tables.{Tables}
use Rattle.rdo_values.specs.declared.bound.BoundSelection.{BoundSelection}
use Rattle.rdo_values.specs.declared.bound.BoundRange.{BoundRange}
use Rattle.rdo_bind.specs.declared.assign.BoundAssign.{BoundAssign}
use Rattle.rdo_bind.specs.declared.action.BoundAction as actions
use Rattle.rdo_bind.specs.declared.action.BoundAction.{BoundAction}
use Rattle.rdo_bind.specs.Acting.{Act, Acts, for_each, act_of, acts_of}
use Rattle.rdo_acts.specs.Ahead.{stored_by, stores_into, StoresMore}
use Rattle.rdo_acts.specs.Looking.{CountsTuples}
use Rattle.rdo_acts.proofs.Arms.{is_store}

-- ---- the STOREs of a body

pub stores_so : (action : BoundAction) (s : BoundRange) (as' : List BoundAssign) (area : ℕ) → action ≡ actions.Store s as' → (s.area == area) ≡ true → stored_by (act_of action) area ≡ 1
stores_so action s as' area is same = ap (λ (a : Act). stored_by a area) (is_store action s as' as' is refl) ∙ ap (λ (b : Bool). if b then 1 else 0) same

stores_one : (body : List BoundAction) (x : BoundAction) (area : ℕ) → stores_into (acts_of (map act_of (body ++ x ∷ []))) area ≡ stores_into (acts_of (map act_of body)) area + stored_by (act_of x) area
stores_one [] x area = omega arith
stores_one (y ∷ ys) x area = omega (arith, stores_one ys x area)

pub stores_more_by : (body : List BoundAction) (i : ℕ) (x : BoundAction) (area : ℕ) → i < length body → x ≡ get_or body i x →
    stores_into (acts_of (map act_of (take (i + 1) body))) area ≡ stores_into (acts_of (map act_of (take i body))) area + stored_by (act_of x) area
stores_more_by body i x area within is =
    ap (λ (xs : List BoundAction). stores_into (acts_of (map act_of xs)) area) (take_more body i x within ∙ ap (λ (y : BoundAction). take i body ++ y ∷ []) (sym is))
    ∙ stores_one (take i body) x area

-- ---- for each tuple

pub stores_more : (t : Tables) (s : BoundSelection) (body : Acts) (area n tuples each : ℕ) → CountsTuples t s tuples → each ≤ stores_into body area → n < tuples * each → StoresMore t (for_each s body) area n
stores_more t s body area n tuples each (inl none) few less = let bad : n < 0 * each = subst (λ (m : ℕ). n < m * each) none less in absurd (omega (arith, bad))
stores_more t s body area n tuples each (inr counted) few less =
    let all : tuples * each ≤ length counted.0 * stores_into body area = mul-le tuples each (length counted.0) (stores_into body area) (omega (arith, counted.2)) few in
    (counted.0, counted.1, omega (arith, less, all))
