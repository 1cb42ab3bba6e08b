-- How a MODIFY of a row comes on.
use Rattle.std.proofs.Common.{◌≡◌, List, Option, Some, None, refl, sym, ap, ◌∙◌, Err}
use Rattle.std.specs.Prelude.{option_and_then}
use Rattle.rdb_types.specs.declared.keys.Dbkey.{Dbkey}
use Rattle.rdb_types.specs.declared.values.Scaled.{Scaled}
use Rattle.rdo_ast.specs.declared.reply.Reply.{Reply}
use Rattle.rdo_ast.specs.declared.reply.Reply.TheVariants as r
use Rattle.rdo_ast.specs.Tree.{Name, Assignment}
use Rattle.rdb_meaning.specs.declared.tables.Tables.{Tables}
use Rattle.rdb_meaning.specs.declared.scope.Binding.{Binding}
use Rattle.rdb_meaning.specs.Contents.{Row, relation_named, fields_of, row_at, with_row}
use Rattle.rdb_meaning.specs.Evaluation.{Scope, bound_as, row_now}
use Rattle.rdb_meaning.specs.Execution.{World, world, Ran, ran, Assigned, assigned, unassigned, assign, modify_assigned, modify_at, key_of_binding, modified}
use Rattle.rdb_tables.specs.declared.stop.Stop.{Stop}
use Rattle.rdb_tables.specs.declared.stop.Stop.TheVariants as stop
use Rattle.rdb_tables.specs.Stages.{Stage, Goes, Runs, refusing}
use Rattle.rdb_tables.specs.Answers.{AssignsTo}
use Rattle.rdb_tables.specs.Writing.{obstacle, Finds}
use Rattle.rdb_tables.proofs.Going.{goes_keyless}
use Rattle.rdb_tables.proofs.Actions.{at_stage}
use Rattle.rdb_tables.proofs.Storing.{writing_unhindered, writing_hindered}

module _ (choices : List Dbkey) (n : Name) (as' : List Assignment) (scope : Scope) (t : Tables) (lines : List (List Scaled)) (given : List Dbkey) where
  abbrev from : Stage
  from = at_stage t lines given

  abbrev job : World → Ran
  job = modified n as' scope

  module _ (b : Binding) (bound : bound_as n scope ≡ Some b) where
    at_binding : (left : List Dbkey) → job (world t left lines) ≡ modify_at (Some b) b.key (row_now t b) as' scope (world t left lines)
    at_binding left = ap (λ (o : Option Binding). modify_at o (key_of_binding o) (option_and_then (row_now t) o) as' scope (world t left lines)) bound

    module _ (k : Dbkey) (key : b.key ≡ Some k) where
      at_key : (left : List Dbkey) → job (world t left lines) ≡ modify_at (Some b) (Some k) (row_at k (relation_named b.relation t)) as' scope (world t left lines)
      at_key left =
          at_binding left ∙ ap (λ (o : Option Dbkey). modify_at (Some b) o (option_and_then (λ q. row_at q (relation_named b.relation t)) o) as' scope (world t left lines)) key

      module _ (before : Row) (there : row_at k (relation_named b.relation t) ≡ Some before) where
        abbrev made : Assigned
        made = assign as' (fields_of (relation_named b.relation t)) t scope before

        at_row : (left : List Dbkey) → job (world t left lines) ≡ modify_assigned b.relation k (world t left lines) made
        at_row left = at_key left ∙ ap (λ (o : Option Row). modify_at (Some b) (Some k) o as' scope (world t left lines)) there

        unassigned_by : (reply : Reply) → made ≡ unassigned reply → Goes choices job (refusing reply) from from
        unassigned_by reply is = goes_keyless choices job (refusing reply) from from refl (λ left.
            at_row left ∙ ap (modify_assigned b.relation k (world t left lines)) is)

        pub modify_unassigned : (a : Assigned) (row : Row) (cause : Stop) → made ≡ a → AssignsTo (Err cause) a row → Runs (Err cause) choices job from from
        modify_unassigned a row stop.Overflow is h = unassigned_by r.Overflow (is ∙ h)
        modify_unassigned a row stop.TooLong is h = unassigned_by r.TooLong (is ∙ h)
        modify_unassigned a row (stop.Duplicate index) is h = absurd h
        modify_unassigned a row stop.Memory is h = tt

        module _ (row : Row) (is : made ≡ assigned row) where
          hindered_by : (reply : Reply) → obstacle b.relation row k t ≡ Some reply → Goes choices job (refusing reply) from from
          hindered_by reply h = goes_keyless choices job (refusing reply) from from refl (λ left.
              let w = world t left lines in
              at_row left ∙ ap (modify_assigned b.relation k w) is ∙ writing_hindered b.relation row k w (ran (world (with_row b.relation k row t) left lines)) reply h)

          pub modify_hindered : (cause : Stop) → Finds (Err cause) (obstacle b.relation row k t) → Runs (Err cause) choices job from from
          modify_hindered stop.Overflow h = absurd h
          modify_hindered stop.TooLong h = hindered_by r.TooLong h
          modify_hindered (stop.Duplicate index) h = hindered_by (r.Duplicate index) h
          modify_hindered stop.Memory h = tt

          pub modify_goes : (t' : Tables) → obstacle b.relation row k t ≡ None → t' ≡ with_row b.relation k row t → Goes choices job ran from (at_stage t' lines given)
          modify_goes t' free done = goes_keyless choices job ran from (at_stage t' lines given) refl (λ left.
              let w = world t left lines in
              at_row left ∙ ap (modify_assigned b.relation k w) is ∙ writing_unhindered b.relation row k w (ran (world (with_row b.relation k row t) left lines)) free
              ∙ ap (λ (x : Tables). ran (world x left lines)) (sym done))
