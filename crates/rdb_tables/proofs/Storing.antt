-- How a STORE comes on.
use Rattle.std.proofs.Common.{◌≡◌, ℕ, zero, suc, Bool, true, false, cond, List, [], ◌∷◌, ◌++◌, length, drop, inl, inr, Option, Some, None, refl, sym, ap, ◌∙◌, Err, replicate}
use Rattle.std.specs.Prelude.{slice_get}
use Rattle.rdb_types.specs.declared.keys.Dbkey.{Dbkey}
use Rattle.rdb_types.specs.declared.values.Scaled.{Scaled}
use Rattle.rdb_types.specs.declared.values.Value.TheVariants.{Missing}
use Rattle.rdo_ast.specs.declared.reply.Reply.{Reply}
use Rattle.rdo_ast.specs.declared.reply.Reply.TheVariants as r
use Rattle.rdo_ast.specs.declared.syntax.Range.{Range}
use Rattle.rdo_ast.specs.Tree.{Name, Assignment}
use Rattle.rdb_meaning.specs.declared.tables.Tables.{Tables}
use Rattle.rdb_meaning.specs.Contents.{Row, relation_named, fields_of, with_row, is_too_long}
use Rattle.rdb_meaning.specs.Evaluation.{Scope, bind_source}
use Rattle.rdb_meaning.specs.Execution.{World, world, Ran, ran, refused, astray, Assigned, assigned, assign, taken_by, unless_taken, writing, may_be_given, place_row, nowhere, store_assigned, stored}
use Rattle.rdb_tables.specs.declared.stop.Stop.{Stop}
use Rattle.rdb_tables.specs.declared.stop.Stop.TheVariants as stop
use Rattle.rdb_tables.specs.Stages.{Stage, Goes, Follows, Runs, refusing}
use Rattle.rdb_tables.specs.Writing.{obstacle, obstacle_of, Finds}
use Rattle.rdb_tables.proofs.Going.{goes_keyless}
use Rattle.rdb_tables.proofs.Actions.{at_stage}

-- ---- writing a row

abbrev written : Bool → Option Name → World → Ran → Ran
written long taken w next = cond long (refused r.TooLong w.choices) (unless_taken taken w next)

unhindered : (long : Bool) (taken : Option Name) (w : World) (next : Ran) → obstacle_of long taken ≡ None → written long taken w next ≡ next
unhindered true taken w next h = absurd (cc)
unhindered false (Some index) w next h = absurd (cc)
unhindered false None w next h = refl

hindered : (long : Bool) (taken : Option Name) (w : World) (next : Ran) (reply : Reply) → obstacle_of long taken ≡ Some reply → written long taken w next ≡ refused reply w.choices
hindered true taken w next reply h = let e : r.TooLong ≡ reply = cc in ap (λ x. refused x w.choices) e
hindered false (Some index) w next reply h = let e : r.Duplicate index ≡ reply = cc in ap (λ x. refused x w.choices) e
hindered false None w next reply h = absurd (cc)

pub writing_unhindered : (n : Name) (row : Row) (own : Dbkey) (w : World) (next : Ran) → obstacle n row own w.tables ≡ None → writing n row own w next ≡ next
writing_unhindered n row own w next h = unhindered (is_too_long (fields_of (relation_named n w.tables)) row) (taken_by n row own w.tables) w next h

pub writing_hindered : (n : Name) (row : Row) (own : Dbkey) (w : World) (next : Ran) (reply : Reply) → obstacle n row own w.tables ≡ Some reply → writing n row own w next ≡ refused reply w.choices
writing_hindered n row own w next reply h = hindered (is_too_long (fields_of (relation_named n w.tables)) row) (taken_by n row own w.tables) w next reply h

-- ---- the Dbkey

pub get_left : (xs : List Dbkey) (n : ℕ) (x : Dbkey) (more : List Dbkey) → drop n xs ≡ x ∷ more → slice_get xs n ≡ Some x
get_left [] zero x more h = absurd (cc)
get_left [] (suc n) x more h = absurd (cc)
get_left (y ∷ ys) zero x more h = let e : y ≡ x = cc in ap (λ (z : Dbkey). Some z) e
get_left (y ∷ ys) (suc n) x more h = get_left ys n x more h

-- ---- the stages of a STORE

module _ (choices : List Dbkey) (s : Range) (as' : List Assignment) (start t : Tables) (scope : Scope) (lines : List (List Scaled)) (given : List Dbkey) where
  abbrev name : Name
  name = s.relation

  abbrev made : Assigned
  made = assign as' (fields_of (relation_named name t)) t (scope ++ bind_source s None ∷ []) (replicate (length (fields_of (relation_named name t))) Missing)

  abbrev from : Stage
  from = at_stage t lines given

  abbrev job : World → Ran
  job = stored s as' start scope

  hindered_by : (row : Row) (reply : Reply) → made ≡ assigned row → obstacle name row nowhere t ≡ Some reply → Goes choices job (refusing reply) from from
  hindered_by row reply is h = goes_keyless choices job (refusing reply) from from refl (λ left.
      let w = world t left lines in
      ap (store_assigned name start w) is ∙ writing_hindered name row nowhere w (place_row name row start w left) reply h)

  -- the row may not be written
  pub store_hindered : (row : Row) (cause : Stop) → made ≡ assigned row → Finds (Err cause) (obstacle name row nowhere t) → Runs (Err cause) choices job from from
  store_hindered row stop.Overflow is h = absurd h
  store_hindered row stop.Memory is h = tt
  store_hindered row stop.TooLong is h = hindered_by row r.TooLong is h
  store_hindered row (stop.Duplicate index) is h = hindered_by row (r.Duplicate index) is h

  -- it is placed
  module _ (row : Row) (k : Dbkey) (is : made ≡ assigned row) (free : obstacle name row nowhere t ≡ None) where
    placed : (left : List Dbkey) → job (world t left lines) ≡ place_row name row start (world t left lines) left
    placed left =
        let w = world t left lines in
        ap (store_assigned name start w) is ∙ writing_unhindered name row nowhere w (place_row name row start w left) free

    follows : (left : List Dbkey) → ((c : Dbkey) (more : List Dbkey) → left ≡ c ∷ more → may_be_given name c start t ≡ true → k ≡ c) → Follows left (k ∷ []) (job (world t left lines))
    follows [] chosen = inl (placed [])
    follows (c ∷ more) chosen =
        elim (may_be_given name c start t) as (λ b. may_be_given name c start t ≡ b → Follows (c ∷ more) (k ∷ []) (job (world t (c ∷ more) lines))) [
          | true ↦ λ e. inr (more, ap (λ x. x ∷ more) (sym (chosen c more refl e)))
          | false ↦ λ e. inl (placed (c ∷ more) ∙ ap (λ b. cond b (ran (world (with_row name c row t) more lines)) astray) e)
        ] refl

    pub store_goes : (given' : List Dbkey) (t' : Tables) → may_be_given name k start t ≡ true → ((c : Dbkey) → slice_get choices (length given) ≡ Some c → may_be_given name c start t ≡ true → k ≡ c) → given' ≡ given ++ k ∷ [] → t' ≡ with_row name k row t → Goes choices job ran from (at_stage t' lines given')
    store_goes given' t' may chosen gives done = record {
      fresh = k ∷ [];
      gives = gives;
      comes = λ left.
          placed (k ∷ left) ∙ ap (λ b. cond b (ran (world (with_row name k row t) left lines)) astray) may ∙ ap (λ x. ran (world x left lines)) (sym done);
      follows = follows (drop (length given) choices) (λ c more e. chosen c (get_left choices (length given) c more e));
    }
