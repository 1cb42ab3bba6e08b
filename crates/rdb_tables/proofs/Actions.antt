-- How an action comes on: a PRINT, a FOR, the actions of a body, and the tuples of a FOR.
use Rattle.std.proofs.Common.{◌≡◌, ℕ, ◌+◌, ◌<◌, List, [], ◌∷◌, ◌++◌, length, drop, get_or, refl, sym, ap, ◌∙◌, subst, map, Result, Err}
use Rattle.std.proofs.lemmas.List.{at_drop_more}
use Rattle.rdb_types.specs.declared.keys.Dbkey.{Dbkey}
use Rattle.rdb_types.specs.declared.values.Scaled.{Scaled}
use Rattle.rdo_ast.specs.declared.syntax.Action.{Action}
use Rattle.rdo_ast.specs.declared.syntax.Range.{Range}
use Rattle.rdo_ast.specs.declared.syntax.Clause.{Clause}
use Rattle.rdo_ast.specs.Tree.{Act, Acts, print, for_each, Shown, Ranging}
use Rattle.rdo_ast.specs.Views.{act_of, acts_of}
use Rattle.rdb_meaning.specs.declared.tables.Tables.{Tables}
use Rattle.rdb_meaning.specs.Evaluation.{Scope, Tuple, bind_tuple, sources_of, these}
use Rattle.rdb_meaning.specs.Selecting.{selection}
use Rattle.rdb_meaning.specs.Execution.{World, world, Ran, ran, done, done_all, over, over_selected, printed, printed_in, line}
use Rattle.rdo_ast.specs.declared.reply.Reply.TheVariants as reply
use Rattle.rdo_arithmetic.specs.declared.stop.Stop as evaluation
use Rattle.rdo_arithmetic.specs.declared.stop.Stop.TheVariants as by
use Rattle.rdb_evaluation.specs.Answers.{Selects}
use Rattle.rdb_tables.specs.declared.stop.Stop.{Stop}
use Rattle.rdb_tables.specs.Causes.{of_evaluation}
use Rattle.rdb_tables.specs.Stages.{Stage, Goes, Runs, refusing}
use Rattle.rdb_tables.proofs.Going.{goes_keyless, goes_on, goes_first, runs_on, runs_ended}

abbrev pub at_stage : Tables → List (List Scaled) → List Dbkey → Stage
at_stage t lines given = record { tables = t; lines = lines; given = given }

pub printing : (choices : List Dbkey) (a : Act) (items : List Shown) (start t : Tables) (scope : Scope) (lines lines' : List (List Scaled)) (given : List Dbkey) (vs : List Scaled) → a ≡ print items → printed items t scope ≡ line vs → lines' ≡ lines ++ vs ∷ [] → Goes choices (done a start scope) ran (at_stage t lines given) (at_stage t lines' given)
printing choices a items start t scope lines lines' given vs is shown added =
    goes_keyless choices (done a start scope) ran (at_stage t lines given) (at_stage t lines' given) refl
    (λ left. ap (λ x. done x start scope (world t left lines)) is ∙ ap (printed_in (world t left lines)) shown ∙ ap (λ ls. ran (world t left ls)) (sym added))

-- the body for each of the tuples
abbrev pub tuples_job : Acts → Tables → Scope → List Range → List Tuple → World → Ran
tuples_job body start scope ss ks = over ks (λ k. done_all body start (bind_tuple ss k scope))

pub selecting : (choices : List Dbkey) (to : Stage) (end : Result (Unit {0}) Stop) (a : Act) (r : Ranging) (cs : List Clause) (body body' : Acts) (start t : Tables) (scope : Scope) (lines : List (List Scaled)) (given : List Dbkey) (ss : List Range) (tuples tuples' : List Tuple) → a ≡ for_each r cs body → selection r cs t scope ≡ these tuples → ss ≡ sources_of r → tuples' ≡ tuples → body' ≡ body → Runs end choices (tuples_job body' start scope ss tuples') (at_stage t lines given) to → Runs end choices (done a start scope) (at_stage t lines given) to
selecting choices to end a r cs body body' start t scope lines given ss tuples tuples' is selected sources same same_body runs =
    runs_on to end
    (goes_keyless choices (done a start scope) (tuples_job body' start scope ss tuples') (at_stage t lines given) (at_stage t lines given) refl
    (λ left.
    ap (λ x. done x start scope (world t left lines)) is
    ∙ ap (λ s. over_selected s (λ k. done_all body start (bind_tuple (sources_of r) k scope)) (world t left lines)) selected
    ∙ ap (λ ks. over ks (λ k. done_all body start (bind_tuple (sources_of r) k scope)) (world t left lines)) (sym same)
    ∙ ap (λ b. over tuples' (λ k. done_all b start (bind_tuple (sources_of r) k scope)) (world t left lines)) (sym same_body)
    ∙ ap (λ rs. over tuples' (λ k. done_all body' start (bind_tuple rs k scope)) (world t left lines)) (sym sources)))
    runs

-- the selection is not computed
pub not_selecting : (choices : List Dbkey) (a : Act) (r : Ranging) (cs : List Clause) (body : Acts) (start t : Tables) (scope : Scope) (lines : List (List Scaled)) (given : List Dbkey) (cause : evaluation.Stop) → a ≡ for_each r cs body → Selects (Err cause) (selection r cs t scope) → Runs (Err (of_evaluation cause)) choices (done a start scope) (at_stage t lines given) (at_stage t lines given)
not_selecting choices a r cs body start t scope lines given by.Memory is failed = tt
not_selecting choices a r cs body start t scope lines given by.Overflow is failed =
    goes_keyless choices (done a start scope) (refusing reply.Overflow) (at_stage t lines given) (at_stage t lines given) refl
    (λ left.
    ap (λ x. done x start scope (world t left lines)) is
    ∙ ap (λ s. over_selected s (λ k. done_all body start (bind_tuple (sources_of r) k scope)) (world t left lines)) failed)

-- the actions of a body that are left
abbrev pub body_job : List Action → Tables → Scope → World → Ran
body_job body start scope = done_all (acts_of (map act_of body)) start scope

module _ (body : List Action) (i : ℕ) (x : Action) (start start' : Tables) (scope : Scope) (within : i < length body) (read : x ≡ get_or body i x) (kept : start' ≡ start) where
  body_head : body_job (drop i body) start scope ≡ body_job (x ∷ drop (i + 1) body) start scope
  body_head = at_drop_more (λ b. body_job b start scope) body i x within ∙ ap (λ y. body_job (y ∷ drop (i + 1) body) start scope) (sym read)

  -- the next action of a body is done
  pub body_goes : {choices : List Dbkey} {job : World → Ran} {a b c : Stage} → Goes choices job (body_job (drop i body) start scope) a b → Goes choices (done (act_of x) start' scope) ran b c → Goes choices job (body_job (drop (i + 1) body) start scope) a c
  body_goes {choices} {job} {a} {b} {c} before next =
      goes_on (subst (λ (j : World → Ran). Goes choices job j a b) body_head before) (goes_first (body_job (drop (i + 1) body) start scope) (subst (λ (s : Tables). Goes choices (done (act_of x) s scope) ran b c) kept next))

  -- the next action of a body ends it
  pub body_ends : {choices : List Dbkey} {job : World → Ran} {a b : Stage} (c : Stage) (cause : Stop) → Goes choices job (body_job (drop i body) start scope) a b → Runs (Err cause) choices (done (act_of x) start' scope) b c → Runs (Err cause) choices job a c
  body_ends {choices} {job} {a} {b} c cause before next =
      runs_on c (Err cause) (subst (λ (j : World → Ran). Goes choices job j a b) body_head before) (runs_ended choices (done (act_of x) start scope) b c cause (body_job (drop (i + 1) body) start scope) (subst (λ (s : Tables). Runs (Err cause) choices (done (act_of x) s scope) b c) kept next))

module _ (body : Acts) (start start' : Tables) (scope : Scope) (ss : List Range) (tuples : List Tuple) (i : ℕ) (k k' : Tuple) (bound : Scope) (within : i < length tuples) (read : k ≡ get_or tuples i k) (same : k' ≡ k) (binds : bound ≡ bind_tuple ss k' scope) (kept : start' ≡ start) where
  tuples_head : tuples_job body start scope ss (drop i tuples) ≡ tuples_job body start scope ss (k ∷ drop (i + 1) tuples)
  tuples_head = at_drop_more (λ ks. tuples_job body start scope ss ks) tuples i k within ∙ ap (λ y. tuples_job body start scope ss (y ∷ drop (i + 1) tuples)) (sym read)

  bound_same : done_all body start' bound ≡ done_all body start (bind_tuple ss k scope)
  bound_same = ap (λ s. done_all body s bound) kept ∙ ap (λ s. done_all body start s) (binds ∙ ap (λ x. bind_tuple ss x scope) same)

  -- the body is done for the next tuple
  pub tuples_go : {choices : List Dbkey} {job : World → Ran} {a b c : Stage} → Goes choices job (tuples_job body start scope ss (drop i tuples)) a b → Goes choices (done_all body start' bound) ran b c → Goes choices job (tuples_job body start scope ss (drop (i + 1) tuples)) a c
  tuples_go {choices} {job} {a} {b} {c} before next =
      goes_on (subst (λ (j : World → Ran). Goes choices job j a b) tuples_head before)
      (goes_first (tuples_job body start scope ss (drop (i + 1) tuples)) (subst (λ (j : World → Ran). Goes choices j ran b c) bound_same next))

  pub tuples_end : {choices : List Dbkey} {job : World → Ran} {a b : Stage} (c : Stage) (cause : Stop) → Goes choices job (tuples_job body start scope ss (drop i tuples)) a b → Runs (Err cause) choices (done_all body start' bound) b c → Runs (Err cause) choices job a c
  tuples_end {choices} {job} {a} {b} c cause before next =
      runs_on c (Err cause) (subst (λ (j : World → Ran). Goes choices job j a b) tuples_head before)
      (runs_ended choices (done_all body start (bind_tuple ss k scope)) b c cause (tuples_job body start scope ss (drop (i + 1) tuples)) (subst (λ (j : World → Ran). Runs (Err cause) choices j b c) bound_same next))
