-- The actions of a body one after another, and the body for each tuple of a FOR.
use Rattle.std.proofs.Common.{◌≡◌, ℕ, zero, suc, ◌+◌, ◌<◌, ◌≤◌, Bool, false, List, [], ◌∷◌, length, drop, get_or, map, Result, Ok, Err, refl, sym, ap, subst, ◌∙◌, arith}
use Rattle.std.specs.List.{AllByRecursion}
use Rattle.std.proofs.lemmas.List.{at_drop_more, at_drop_all, length-map}
use Rattle.rdo_ast.specs.declared.syntax.Range.{Range}
use Rattle.rdo_ast.specs.Tree.{Acts}
use Rattle.rdb_meaning.specs.declared.tables.Tables.{Tables}
use Rattle.rdb_meaning.specs.Contents.{Row}
use Rattle.rdb_meaning.specs.Checks.{Use}
use Rattle.rdb_meaning.specs.Evaluation.{Scope, bind_tuple}
use Rattle.rdb_meaning.specs.Execution.{World, Ran, done, done_all, over}
use Rattle.line_view.specs.Knowledge.{Lines}
use Rattle.line_view.specs.Held.{knows}
use Rattle.view_stages.specs.Stages.{Goes}
use Rattle.row_writes.specs.Rows.{IsSoundView}
use Rattle.rdo_values.specs.declared.bound.BoundRange.{BoundRange}
use Rattle.rdo_values.specs.Rows.{row_of}
use Rattle.rdo_bind.specs.declared.action.BoundAction.{BoundAction}
use Rattle.rdo_bind.specs.Acting.{act_of, acts_of, named_act, named_acts}
use Rattle.rdo_select.specs.declared.crossing.Found.{Found}
use Rattle.rdo_select.specs.Crossed.{ranges_of}
use Rattle.rdo_select.specs.Stops.{HaveValues}
use Rattle.rdo_acts.specs.declared.work.Given.{Given}
use Rattle.rdo_acts.specs.declared.work.Work.{Work}
use Rattle.rdo_acts.specs.Ends.{ActStop, stage, HoldsIn, Ends, Runs}
use Rattle.rdo_acts.specs.Areas.{KeepsFor, RunsFor}
use Rattle.rdo_acts.proofs.Viewing.{sound_view}
use Rattle.rdo_acts.proofs.Turns.{then, says, holds_now, next_goes, next_ends, one_now}

-- the actions of a body
abbrev pub body_job : List BoundAction → Tables → Scope → World → Ran
body_job body start scope = done_all (named_acts (acts_of (map act_of body))) start scope

abbrev pub action_job : BoundAction → Tables → Scope → World → Ran
action_job action start scope = done (named_act (act_of action)) start scope

-- How far the actions of a body have come, up to the one at this place.
abbrev pub BodyGoes : Given → Scope → List BoundAction → ℕ → Work → Work → Lines → Tables → Tables → Type 0
BodyGoes given scope body i old now all start t =
    Goes (knows old.view.base) given.schema.now all start (body_job body start scope) (body_job (drop i body) start scope) (stage old) (stage now) t

module _ (given : Given) (scope : Scope) (body : List BoundAction) (i : ℕ) (x : BoundAction) (within : i < length body) (read : x ≡ get_or body i x) where
  body_head : (start : Tables) → body_job (drop i body) start scope ≡ body_job (x ∷ drop (i + 1) body) start scope
  body_head start = at_drop_more (λ b. body_job b start scope) body i x within ∙ ap (λ y. body_job (y ∷ drop (i + 1) body) start scope) (sym read)

  module _ (old now new : Work) (kept : now.view.base ≡ old.view.base) (all : Lines) (start t : Tables) (before : BodyGoes given scope body i old now all start t) where
    next_first : Goes (knows old.view.base) given.schema.now all start (body_job body start scope) (then (action_job x start scope) (body_job (drop (i + 1) body) start scope)) (stage old) (stage now) t
    next_first = subst (λ (j : World → Ran). Goes (knows old.view.base) given.schema.now all start (body_job body start scope) j (stage old) (stage now) t) (body_head start) before

    -- the next action of a body is done
    pub action_goes : ((u : Tables) → HoldsIn given now all start u → Ends (Ok tt) given all start (action_job x start scope) now new u) → BodyGoes given scope body (i + 1) old new all start t
    action_goes h =
        next_goes given old now kept all start new (body_job body start scope) (action_job x start scope) (body_job (drop (i + 1) body) start scope) t next_first
        (h next_first.tables (holds_now given old now kept all start next_first.tables next_first.holds))

    -- the next action of a body ends it
    pub action_ends : (stop : ActStop) → ((u : Tables) → HoldsIn given now all start u → Ends (Err stop) given all start (action_job x start scope) now new u) → Ends (Err stop) given all start (body_job body start scope) old new t
    action_ends stop h =
        next_ends given old now kept all start new stop (body_job body start scope) (action_job x start scope) (body_job (drop (i + 1) body) start scope) t next_first
        (h next_first.tables (holds_now given old now kept all start next_first.tables next_first.holds))

-- no action of the body is done
pub body_begins : (given : Given) (scope : Scope) (body : List BoundAction) (w : Work) (all : Lines) (start t : Tables) → HoldsIn given w all start t → BodyGoes given scope body 0 w w all start t
body_begins given scope body w all start t holds = says (knows w.view.base) given.schema.now all start (body_job body start scope) (body_job body start scope) (stage w) t holds (λ left. refl)

-- all actions of the body are done
pub body_done : (given : Given) (scope : Scope) (body : List BoundAction) (i : ℕ) (old now : Work) (all : Lines) (start t : Tables) → length body ≤ i → BodyGoes given scope body i old now all start t → Ends (Ok tt) given all start (body_job body start scope) old now t
body_done given scope body i old now all start t past before =
    subst (λ (j : World → Ran). Goes (knows old.view.base) given.schema.now all start (body_job body start scope) j (stage old) (stage now) t)
    (at_drop_all (λ b. body_job b start scope) body i past) before

-- an action runs with the values that were read of the view of the moment
pub read_anew : (result : Result (Unit {0}) ActStop) (given : Given) (scope : Scope) (values : Row) (job : Tables → World → Ran) (now new : Work) → Runs result given scope values job now new →
    ((first : Lines) (t : Tables) → IsSoundView now.view given.schema.now t first → values ≡ row_of t scope) → (all : Lines) (start u : Tables) → HoldsIn given now all start u → Ends result given all start (job start) now new u
read_anew result given scope values job now new runs are all start u holds = runs all start u holds (sym (are all u (sound_view given now all start u holds)))

-- an action runs with the values that were read before, where nothing was written since
pub read_before : (result : Result (Unit {0}) ActStop) (given : Given) (scope : Scope) (values : Row) (job : Tables → World → Ran) (old now new : Work) → Runs result given scope values job now new → now.view ≡ old.view →
    (all : Lines) (start t : Tables) → HoldsIn given old all start t → row_of t scope ≡ values → (u : Tables) → HoldsIn given now all start u → Ends result given all start (job start) now new u
read_before result given scope values job old now new runs same all start t before are u holds =
    runs all start u holds (ap (λ (x : Tables). row_of x scope) (one_now given old now all start t u same before holds) ∙ are)

-- ---- in which areas an action runs

-- with the values that were read of the view of the moment
pub keeps_anew : (result : Result (Unit {0}) ActStop) (given : Given) (scope : Scope) (values : Row) (us : List Use) (now new : Work) → RunsFor result given scope values us now new →
    ((first : Lines) (t : Tables) → IsSoundView now.view given.schema.now t first → values ≡ row_of t scope) → (all : Lines) (start u : Tables) → HoldsIn given now all start u → KeepsFor start us now.view new.view result
keeps_anew result given scope values us now new runs are all start u holds = runs all start u holds (sym (are all u (sound_view given now all start u holds)))

-- with the values that were read before, where nothing was written since
pub keeps_before : (result : Result (Unit {0}) ActStop) (given : Given) (scope : Scope) (values : Row) (us : List Use) (old now new : Work) → RunsFor result given scope values us now new → now.view ≡ old.view →
    (all : Lines) (start t : Tables) → HoldsIn given old all start t → row_of t scope ≡ values → (u : Tables) → HoldsIn given now all start u → KeepsFor start us now.view new.view result
keeps_before result given scope values us old now new runs same all start t before are u holds =
    runs all start u holds (ap (λ (x : Tables). row_of x scope) (one_now given old now all start t u same before holds) ∙ are)

-- the tables of the moment
pub body_holds : (given : Given) (scope : Scope) (body : List BoundAction) (i : ℕ) (old now : Work) (all : Lines) (start t : Tables) → now.view.base ≡ old.view.base → BodyGoes given scope body i old now all start t → (u : Tables) × HoldsIn given now all start u
body_holds given scope body i old now all start t kept before = (before.tables, holds_now given old now kept all start before.tables before.holds)

-- ---- the tuples of a FOR

-- the body for each of the tuples
abbrev pub tuples_job : Acts → Tables → Scope → List Range → List Found → World → Ran
tuples_job body start scope ss tuples = over (map (λ f. f.tuple) tuples) (λ ks. done_all body start (bind_tuple ss ks scope))

-- How far the body was done, up to the tuple at this place.
abbrev pub TuplesGo : Given → Acts → Scope → List Range → List Found → ℕ → Work → Work → Lines → Tables → Tables → Type 0
TuplesGo given body scope ss tuples i old now all start t =
    Goes (knows old.view.base) given.schema.now all start (tuples_job body start scope ss tuples) (tuples_job body start scope ss (drop i tuples)) (stage old) (stage now) t

-- it is done for none
pub tuples_begin : (given : Given) (body : Acts) (scope : Scope) (ss : List Range) (tuples : List Found) (w : Work) (all : Lines) (start t : Tables) → HoldsIn given w all start t → TuplesGo given body scope ss tuples 0 w w all start t
tuples_begin given body scope ss tuples w all start t holds =
    says (knows w.view.base) given.schema.now all start (tuples_job body start scope ss tuples) (tuples_job body start scope ss tuples) (stage w) t holds (λ left. refl)

-- it is done for all
pub tuples_done : (given : Given) (body : Acts) (scope : Scope) (ss : List Range) (tuples : List Found) (i : ℕ) (old now : Work) (all : Lines) (start t : Tables) → length tuples ≤ i → TuplesGo given body scope ss tuples i old now all start t →
    Ends (Ok tt) given all start (tuples_job body start scope ss tuples) old now t
tuples_done given body scope ss tuples i old now all start t past before =
    subst (λ (j : World → Ran). Goes (knows old.view.base) given.schema.now all start (tuples_job body start scope ss tuples) j (stage old) (stage now) t)
    (at_drop_all (λ ks. tuples_job body start scope ss ks) tuples i past) before

each_at : {X : Type 0} (P : X → Type 0) (xs : List X) (i : ℕ) (x : X) → AllByRecursion P xs → i < length xs → x ≡ get_or xs i x → P x
each_at P [] i x each within read = absurd (omega (arith, within))
each_at P (y ∷ xs) zero x each within read = subst P (sym read) each.0
each_at P (y ∷ xs) (suc i) x each within read = each_at P xs i x each.1 (omega (arith, within)) read

module _ (given : Given) (body : Acts) (scope : Scope) (ranges : List BoundRange) (tuples : List Found) (i : ℕ) (x : Found) (bound : Scope) (within : i < length tuples) (read : x ≡ get_or tuples i x)
    (binds : length x.tuple ≡ length ranges → bound ≡ bind_tuple (ranges_of ranges) x.tuple scope) where
  abbrev ss : List Range
  ss = ranges_of ranges

  tuples_head : (start : Tables) → tuples_job body start scope ss (drop i tuples) ≡ tuples_job body start scope ss (x ∷ drop (i + 1) tuples)
  tuples_head start = at_drop_more (λ ks. tuples_job body start scope ss ks) tuples i x within ∙ ap (λ y. tuples_job body start scope ss (y ∷ drop (i + 1) tuples)) (sym read)

  module _ (old now new : Work) (kept : now.view.base ≡ old.view.base) (all : Lines) (start t : Tables) (holds : HoldsIn given old all start t) (have : HaveValues ss t scope tuples)
      (before : TuplesGo given body scope ss tuples i old now all start t) where
    own : (length x.tuple ≡ length ss) × (x.row ≡ row_of t (bind_tuple ss x.tuple scope))
    own = each_at (λ (f : Found). (length f.tuple ≡ length ss) × (f.row ≡ row_of t (bind_tuple ss f.tuple scope))) tuples i x have within read

    pub bound_is : bound ≡ bind_tuple ss x.tuple scope
    bound_is = binds (own.0 ∙ length-map ranges (λ (s : BoundRange). s.range))

    abbrev rest : World → Ran
    rest = tuples_job body start scope ss (drop (i + 1) tuples)

    first_tuple : Goes (knows old.view.base) given.schema.now all start (tuples_job body start scope ss tuples) (then (done_all body start bound) rest) (stage old) (stage now) t
    first_tuple =
        subst (λ (b : Scope). Goes (knows old.view.base) given.schema.now all start (tuples_job body start scope ss tuples) (then (done_all body start b) rest) (stage old) (stage now) t) (sym bound_is)
        (subst (λ (j : World → Ran). Goes (knows old.view.base) given.schema.now all start (tuples_job body start scope ss tuples) j (stage old) (stage now) t) (tuples_head start) before)

    -- the values beside the tuple are those of its rows, where nothing was written
    beside : now.view ≡ old.view → (u : Tables) → HoldsIn given now all start u → row_of u bound ≡ x.row
    beside same u there = (λ j. row_of (one_now given old now all start t u same holds there j) (bound_is j)) ∙ sym own.1

    module _ (writes : Bool) (views : writes ≡ false → now.view ≡ old.view) where
      body_ends : (result : Result (Unit {0}) ActStop) → ((seen : Row) → (writes ≡ false → seen ≡ x.row) → Runs result given bound seen (λ start. done_all body start bound) now new) → Ends result given all start (done_all body start bound) now new first_tuple.tables
      body_ends result runs =
          let there = holds_now given old now kept all start first_tuple.tables first_tuple.holds in
          runs (row_of first_tuple.tables bound) (λ none. beside (views none) first_tuple.tables there) all start first_tuple.tables there refl

      -- where the work stands, with the values beside the tuple
      pub tuple_now : (u : Tables) × HoldsIn given now all start u × (writes ≡ false → row_of u bound ≡ x.row)
      tuple_now =
          let there = holds_now given old now kept all start first_tuple.tables first_tuple.holds in
          (first_tuple.tables, there, λ none. beside (views none) first_tuple.tables there)

      -- in the areas of these uses
      pub body_keeps : (result : Result (Unit {0}) ActStop) (us : List Use) → ((seen : Row) → (writes ≡ false → seen ≡ x.row) → RunsFor result given bound seen us now new) → KeepsFor start us now.view new.view result
      body_keeps result us runs =
          let there = holds_now given old now kept all start first_tuple.tables first_tuple.holds in
          runs (row_of first_tuple.tables bound) (λ none. beside (views none) first_tuple.tables there) all start first_tuple.tables there refl

      -- the body is done for the next tuple
      pub tuple_goes : ((seen : Row) → (writes ≡ false → seen ≡ x.row) → Runs (Ok tt) given bound seen (λ start. done_all body start bound) now new) → TuplesGo given body scope ss tuples (i + 1) old new all start t
      tuple_goes runs =
          next_goes given old now kept all start new (tuples_job body start scope ss tuples) (done_all body start bound) rest t first_tuple (body_ends (Ok tt) runs)

      -- it ends with the next tuple
      pub tuple_ends : (stop : ActStop) → ((seen : Row) → (writes ≡ false → seen ≡ x.row) → Runs (Err stop) given bound seen (λ start. done_all body start bound) now new) → Ends (Err stop) given all start (tuples_job body start scope ss tuples) old new t
      tuple_ends stop runs =
          next_ends given old now kept all start new stop (tuples_job body start scope ss tuples) (done_all body start bound) rest t first_tuple (body_ends (Err stop) runs)
