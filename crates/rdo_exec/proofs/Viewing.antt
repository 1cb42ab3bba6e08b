-- Statements that are worked over a view.
use Rattle.std.proofs.Common.{◌≡◌, Bool, true, false, cond, Some, None, refl}
use Rattle.rdo_ast.specs.declared.reply.Reply.TheVariants as r
use Rattle.rdo_ast.specs.declared.reply.Standing.{Standing}
use Rattle.rdo_ast.specs.declared.reply.Standing.TheVariants.{Closed, ReadOnly, ReadWrite}
use Rattle.rdo_ast.specs.declared.syntax.Action.{Action}
use Rattle.rdo_ast.specs.declared.syntax.Statement.{Statement}
use Rattle.rdo_ast.specs.declared.syntax.Statement.TheVariants as s
use Rattle.rdo_ast.specs.Tree.{Command, said, invoke, start_read_only, start_read_write, commit, rollback, finish, back_up, perform, define_field, define_relation, define_index, delete_relation, delete_index}
use Rattle.rdo_ast.specs.Views.{command_of}
use Rattle.rdb_meaning.specs.Checks.{is_retrieval}
use Rattle.rdb_meaning.specs.Meaning.{needs_closed, needs_read_write, standing_refusal}
use Rattle.rdb_account.specs.Places.{begins}
use Rattle.rdo_exec.specs.Left.{IsStrange}
use Rattle.rdo_exec.specs.Ways.{IsUnranged, IsReserving, IsDefining, IsViewing, NamesSome}

-- what isn't an action is a definition or a deletion
pub defining_not_act : (x : Statement) → ((a : Action) → x ≡ s.Act a → ⊥) → IsViewing (command_of x) → IsDefining (command_of x)
defining_not_act (s.Act a) never way = absurd (never a refl)
defining_not_act (s.Invoke t) never way = absurd way
defining_not_act s.StartReadOnly never way = absurd way
defining_not_act (s.StartReadWrite wait rs) never way = absurd way
defining_not_act s.Commit never way = absurd way
defining_not_act s.Rollback never way = absurd way
defining_not_act s.Finish never way = absurd way
defining_not_act (s.BackUp n) never way = absurd way
defining_not_act (s.DefineField n t) never way = tt
defining_not_act (s.DefineRelation n fs) never way = tt
defining_not_act (s.DefineIndex d) never way = tt
defining_not_act (s.DeleteRelation n) never way = tt
defining_not_act (s.DeleteIndex n) never way = tt

pub unranged_strange : (command : Command) → IsUnranged command → IsStrange command
unranged_strange (perform a) is = is
unranged_strange (invoke words) is = absurd is
unranged_strange start_read_only is = absurd is
unranged_strange (start_read_write wait rs) is = absurd is
unranged_strange commit is = absurd is
unranged_strange rollback is = absurd is
unranged_strange finish is = absurd is
unranged_strange (back_up n) is = absurd is
unranged_strange (define_field n type) is = absurd is
unranged_strange (define_relation n fs) is = absurd is
unranged_strange (define_index d) is = absurd is
unranged_strange (delete_relation n) is = absurd is
unranged_strange (delete_index n) is = absurd is

pub defining_writes : (command : Command) (standing : Standing) → IsDefining command → standing_refusal command standing ≡ None → needs_read_write standing ≡ None
defining_writes (define_field n type) standing is none = none
defining_writes (define_relation n fs) standing is none = none
defining_writes (define_index d) standing is none = none
defining_writes (delete_relation n) standing is none = none
defining_writes (delete_index n) standing is none = none
defining_writes (perform a) standing is none = absurd is
defining_writes (invoke words) standing is none = absurd is
defining_writes start_read_only standing is none = absurd is
defining_writes (start_read_write wait rs) standing is none = absurd is
defining_writes commit standing is none = absurd is
defining_writes rollback standing is none = absurd is
defining_writes finish standing is none = absurd is
defining_writes (back_up n) standing is none = absurd is

pub naming_views : (command : Command) → NamesSome command → IsViewing command
naming_views (perform a) is = is
naming_views (define_field n type) is = absurd is
naming_views (define_relation n fs) is = absurd is
naming_views (define_index d) is = absurd is
naming_views (delete_relation n) is = absurd is
naming_views (delete_index n) is = absurd is
naming_views (invoke words) is = absurd is
naming_views start_read_only is = absurd is
naming_views (start_read_write wait rs) is = absurd is
naming_views commit is = absurd is
naming_views rollback is = absurd is
naming_views finish is = absurd is
naming_views (back_up n) is = absurd is

pub defining_views : (command : Command) → IsDefining command → IsViewing command
defining_views (perform a) is = absurd is
defining_views (define_field n type) is = is
defining_views (define_relation n fs) is = is
defining_views (define_index d) is = is
defining_views (delete_relation n) is = is
defining_views (delete_index n) is = is
defining_views (invoke words) is = absurd is
defining_views start_read_only is = absurd is
defining_views (start_read_write wait rs) is = absurd is
defining_views commit is = absurd is
defining_views rollback is = absurd is
defining_views finish is = absurd is
defining_views (back_up n) is = absurd is

pub retrieval_begins : (b : Bool) → cond b None (Some r.NoTransaction) ≡ None → cond b (Some ReadOnly) None ≡ None → ⊥
retrieval_begins true none nothing = let bad : ⊥ = cc in bad
retrieval_begins false none nothing = let bad : ⊥ = cc in bad

-- outside a transaction such a statement begins one
pub viewing_begins : (command : Command) → standing_refusal command Closed ≡ None → IsViewing command → begins (said command) ≡ None → ⊥
viewing_begins (perform a) none way nothing = retrieval_begins (is_retrieval a) none nothing
viewing_begins (define_field n type) none way nothing = let bad : ⊥ = cc in bad
viewing_begins (define_relation n fs) none way nothing = let bad : ⊥ = cc in bad
viewing_begins (define_index d) none way nothing = let bad : ⊥ = cc in bad
viewing_begins (delete_relation n) none way nothing = let bad : ⊥ = cc in bad
viewing_begins (delete_index n) none way nothing = let bad : ⊥ = cc in bad
viewing_begins (invoke words) none way nothing = way
viewing_begins start_read_only none way nothing = way
viewing_begins (start_read_write wait rs) none way nothing = way
viewing_begins commit none way nothing = way
viewing_begins rollback none way nothing = way
viewing_begins finish none way nothing = way
viewing_begins (back_up n) none way nothing = way

pub is_closed : (standing : Standing) → needs_closed standing ≡ None → standing ≡ Closed
is_closed Closed none = refl
is_closed ReadOnly none = let bad : ⊥ = cc in absurd bad
is_closed (ReadWrite wait rs) none = let bad : ⊥ = cc in absurd bad

pub reserving_begins : (command : Command) → IsReserving command → begins (said command) ≡ None → ⊥
reserving_begins (start_read_write wait rs) way nothing = let bad : ⊥ = cc in bad
reserving_begins (perform a) way nothing = way
reserving_begins (define_field n type) way nothing = way
reserving_begins (define_relation n fs) way nothing = way
reserving_begins (define_index d) way nothing = way
reserving_begins (delete_relation n) way nothing = way
reserving_begins (delete_index n) way nothing = way
reserving_begins (invoke words) way nothing = way
reserving_begins start_read_only way nothing = way
reserving_begins commit way nothing = way
reserving_begins rollback way nothing = way
reserving_begins finish way nothing = way
reserving_begins (back_up n) way nothing = way
