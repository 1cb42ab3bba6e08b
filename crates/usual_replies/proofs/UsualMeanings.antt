-- No item means a reply of locks, limits or memory.
use Rattle.std.proofs.Common.{◌≡◌, ℕ, Bool, true, false, cond, List, [], ◌∷◌, ◌++◌, replicate, length, Option, Some, None, refl, subst}
use Rattle.std.specs.Prelude.{option_and_then}
use Rattle.std.specs.Str.{str_eq_ignore_ascii_case}
use Rattle.std.specs.FinMap.Entries.{find}
use Rattle.rdb_types.specs.Order.{chars_order}
use Rattle.rdb_types.specs.declared.keys.Dbkey.{Dbkey}
use Rattle.rdb_types.specs.declared.values.Field.{Field}
use Rattle.rdb_types.specs.declared.values.Value.TheVariants.{Missing}
use Rattle.rdo_ast.specs.declared.reply.Reply.{Reply}
use Rattle.rdo_ast.specs.declared.reply.Reply.TheVariants as r
use Rattle.rdo_ast.specs.declared.reply.Standing.{Standing}
use Rattle.rdo_ast.specs.declared.reply.Standing.TheVariants.{Closed, ReadOnly, ReadWrite}
use Rattle.rdo_ast.specs.Tree.{Name, Assignment, Act, store, for_each, print, modify, erase, Acts, no_act, act, Command, invoke, start_read_only, start_read_write, commit, rollback, finish, back_up, perform, define_field, define_relation, define_index, delete_relation, delete_index, Uttered, said, syntax_fault}
use Rattle.rdb_meaning.specs.declared.tables.Tables.{Tables}
use Rattle.rdb_meaning.specs.declared.scope.Binding.{Binding}
use Rattle.rdb_meaning.specs.Contents.{Row, relation_named, fields_of, place_of, with_row, is_too_long}
use Rattle.rdb_meaning.specs.Numbers.{Computed, is, overflow, Fitted, fitting, too_large, too_long, fitted}
use Rattle.rdb_meaning.specs.Evaluation.{Scope, Tuple, bind_source, bind_tuple, bound_as, computed, row_now, sources_of, Selected, these, not_computed}
use Rattle.rdb_meaning.specs.Selecting.{selection}
use Rattle.rdb_meaning.specs.Checks.{Refusal, use_of, act_uses, act_clashes, is_retrieval}
use Rattle.rdb_meaning.specs.Execution.{World, world, Ran, ran, refused, astray, and_then, over, over_selected, Line, line, no_line, printed, printed_in, Assigned, assigned, unassigned, put_fitted, put_computed, assigning_then, assign, taken_by, unless_taken, writing, may_be_given, place_row, nowhere, store_assigned, modify_assigned, modify_at, key_of_binding, erase_at, done, done_all}
use Rattle.rdb_meaning.specs.Meaning.{Meaning, means, meaningless, unless, needs_closed, needs_open, after_running, act_refusal, standing_for, reservations_of, index_uses, command_refusal, meaning, Does}
use Rattle.rdb_meaning.specs.Usual.{is_refusal_of_means}
use Rattle.usual_replies.proofs.UsualReplies.{Usually, usual_or, usual_if, usual_some, usual_none, usual_act, usual_standing, usual_reservations, usual_clash, usual_reserved, usual_fields, usual_index, usual_key_length}

-- ---- what is refused on the way

abbrev pub UsualRan : Ran → Type 0
UsualRan (ran w) = Unit {0}
UsualRan (refused reply left) = is_refusal_of_means reply ≡ false
UsualRan astray = Unit {0}

usual_then : (x : Ran) (next : World → Ran) → UsualRan x → ((w : World) → UsualRan (next w)) → UsualRan (and_then x next)
usual_then (ran w) next p h = h w
usual_then (refused reply left) next p h = p
usual_then astray next p h = tt

usual_over : (ks : List Tuple) (body : Tuple → World → Ran) (w : World) → ((k : Tuple) (v : World) → UsualRan (body k v)) → UsualRan (over ks body w)
usual_over [] body w h = tt
usual_over (k ∷ ks) body w h = usual_then (body k w) (over ks body) (h k w) (λ v. usual_over ks body v h)

usual_selected : (s : Selected) (body : Tuple → World → Ran) (w : World) → ((k : Tuple) (v : World) → UsualRan (body k v)) → UsualRan (over_selected s body w)
usual_selected (these ks) body w h = usual_over ks body w h
usual_selected not_computed body w h = refl

usual_either : (b : Bool) (x y : Ran) → UsualRan x → UsualRan y → UsualRan (cond b x y)
usual_either true x y p q = p
usual_either false x y p q = q

usual_print : (w : World) (l : Line) → UsualRan (printed_in w l)
usual_print w (line vs) = tt
usual_print w no_line = refl

-- ---- assignments

abbrev UsualAssigned : Assigned → Type 0
UsualAssigned (assigned row) = Unit {0}
UsualAssigned (unassigned reply) = is_refusal_of_means reply ≡ false

usual_fitted : (at : ℕ) (v : Fitted) (row : Row) → UsualAssigned (put_fitted at v row)
usual_fitted at (fitting v) row = tt
usual_fitted at too_large row = refl
usual_fitted at too_long row = refl

usual_computed : (o : Option (ℕ × Field)) (v : Computed) (row : Row) → UsualAssigned (put_computed o v row)
usual_computed (Some p) (is v) row = usual_fitted p.0 (fitted p.1.kind v) row
usual_computed (Some p) overflow row = refl
usual_computed None (is v) row = tt
usual_computed None overflow row = tt

usual_assigning : (x : Assigned) (next : Row → Assigned) → UsualAssigned x → ((row : Row) → UsualAssigned (next row)) → UsualAssigned (assigning_then x next)
usual_assigning (assigned row) next p h = h row
usual_assigning (unassigned reply) next p h = p

usual_assign : (as' : List Assignment) (fields : List Field) (t : Tables) (scope : Scope) (row : Row) → UsualAssigned (assign as' fields t scope row)
usual_assign [] fields t scope row = tt
usual_assign (a ∷ as') fields t scope row =
    usual_assigning (put_computed (place_of a.left.field fields) (computed a.right t scope) row) (assign as' fields t scope) (usual_computed (place_of a.left.field fields) (computed a.right t scope) row) (λ r. usual_assign as' fields t scope r)

-- ---- a row that is written

usual_taken : (o : Option Name) (w : World) (next : Ran) → UsualRan next → UsualRan (unless_taken o w next)
usual_taken (Some index) w next p = refl
usual_taken None w next p = p

usual_writing : (n : Name) (row : Row) (own : Dbkey) (w : World) (next : Ran) → UsualRan next → UsualRan (writing n row own w next)
usual_writing n row own w next p =
    usual_either (is_too_long (fields_of (relation_named n w.tables)) row) (refused r.TooLong w.choices) (unless_taken (taken_by n row own w.tables) w next) refl (usual_taken (taken_by n row own w.tables) w next p)

usual_place : (n : Name) (row : Row) (start : Tables) (w : World) (keys : List Dbkey) → UsualRan (place_row n row start w keys)
usual_place n row start w [] = tt
usual_place n row start w (k ∷ ks) = usual_either (may_be_given n k start w.tables) (ran (record w { tables = with_row n k row w.tables; choices = ks })) astray tt tt

usual_store : (n : Name) (start : Tables) (w : World) (a : Assigned) → UsualAssigned a → UsualRan (store_assigned n start w a)
usual_store n start w (assigned row) p = usual_writing n row nowhere w (place_row n row start w w.choices) (usual_place n row start w w.choices)
usual_store n start w (unassigned reply) p = p

usual_modify : (n : Name) (k : Dbkey) (w : World) (a : Assigned) → UsualAssigned a → UsualRan (modify_assigned n k w a)
usual_modify n k w (assigned row) p = usual_writing n row k w (ran (record w { tables = with_row n k row w.tables })) tt
usual_modify n k w (unassigned reply) p = p

usual_modify_at : (b : Option Binding) (k : Option Dbkey) (row : Option Row) (as' : List Assignment) (scope : Scope) (w : World) → UsualRan (modify_at b k row as' scope w)
usual_modify_at (Some b) (Some k) (Some row) as' scope w =
    usual_modify b.relation k w (assign as' (fields_of (relation_named b.relation w.tables)) w.tables scope row) (usual_assign as' (fields_of (relation_named b.relation w.tables)) w.tables scope row)
usual_modify_at (Some b) (Some k) None as' scope w = tt
usual_modify_at (Some b) None (Some row) as' scope w = tt
usual_modify_at (Some b) None None as' scope w = tt
usual_modify_at None (Some k) (Some row) as' scope w = tt
usual_modify_at None (Some k) None as' scope w = tt
usual_modify_at None None (Some row) as' scope w = tt
usual_modify_at None None None as' scope w = tt

usual_erase_at : (b : Option Binding) (k : Option Dbkey) (w : World) → UsualRan (erase_at b k w)
usual_erase_at (Some b) (Some k) w = tt
usual_erase_at (Some b) None w = tt
usual_erase_at None (Some k) w = tt
usual_erase_at None None w = tt

-- ---- actions

mutual
  usual_done : (a : Act) (start : Tables) (scope : Scope) (w : World) → UsualRan (done a start scope w)
  usual_done (store s as') start scope w =
      let fields = fields_of (relation_named s.relation w.tables) in
      usual_store s.relation start w (assign as' fields w.tables (scope ++ bind_source s None ∷ []) (replicate (length fields) Missing))
      (usual_assign as' fields w.tables (scope ++ bind_source s None ∷ []) (replicate (length fields) Missing))
  usual_done (for_each q cs body) start scope w =
      usual_selected (selection q cs w.tables scope) (λ ks. done_all body start (bind_tuple (sources_of q) ks scope)) w (λ ks v. usual_all body start (bind_tuple (sources_of q) ks scope) v)
  usual_done (print items) start scope w = usual_print w (printed items w.tables scope)
  usual_done (modify n as') start scope w = usual_modify_at (bound_as n scope) (key_of_binding (bound_as n scope)) (option_and_then (row_now w.tables) (bound_as n scope)) as' scope w
  usual_done (erase n) start scope w = usual_erase_at (bound_as n scope) (key_of_binding (bound_as n scope)) w

  usual_all : (body : Acts) (start : Tables) (scope : Scope) (w : World) → UsualRan (done_all body start scope w)
  usual_all no_act start scope w = tt
  usual_all (act a rest) start scope w = usual_then (done a start scope w) (done_all rest start scope) (usual_done a start scope w) (λ v. usual_all rest start scope v)

-- ---- what comes before

usual_closed : (s : Standing) → Usually (needs_closed s)
usual_closed Closed = tt
usual_closed ReadOnly = refl
usual_closed (ReadWrite wait rs) = refl

usual_open : (s : Standing) → Usually (needs_open s)
usual_open Closed = refl
usual_open ReadOnly = tt
usual_open (ReadWrite wait rs) = tt

usual_action : (a : Act) (s : Standing) (t : Tables) → Usually (act_refusal a s t)
usual_action a s t =
    usual_or _ _ (usual_if (is_retrieval a) _ _ tt (usual_standing s))
    (usual_or _ _ (usual_act a t []) (usual_or _ _ (usual_reservations (reservations_of s) (act_uses a [])) (usual_clash (act_clashes a t []))))

usual_command : (word : List ℕ) (c : Command) (s : Standing) (t : Tables) → Usually (command_refusal word c s t)
usual_command word (invoke text) s t = usual_if (str_eq_ignore_ascii_case word text) None (Some (r.NoSuch text)) tt refl
usual_command word start_read_only s t = usual_or _ _ (usual_closed s) tt
usual_command word (start_read_write wait rs) s t = usual_or _ _ (usual_closed s) (usual_reserved [] rs t)
usual_command word commit s t = usual_or _ _ (usual_open s) tt
usual_command word rollback s t = usual_or _ _ (usual_open s) tt
usual_command word finish s t = usual_or _ _ (usual_closed s) tt
usual_command word (back_up n) s t = usual_or _ _ (usual_closed s) tt
usual_command word (perform a) s t = usual_action a s t
usual_command word (define_field n type) s t = usual_or _ _ (usual_standing s) (usual_none n (find chars_order n t.globals))
usual_command word (define_relation n fs) s t = usual_or _ _ (usual_standing s) (usual_or _ _ (usual_none n (relation_named n t)) (usual_fields [] fs t))
usual_command word (define_index d) s t =
    usual_or _ _ (usual_standing s) (usual_or _ _ (usual_index d t) (usual_or _ _ (usual_reservations (reservations_of s) (use_of true d.relation ∷ [])) (usual_key_length d t)))
usual_command word (delete_relation n) s t = usual_or _ _ (usual_standing s) (usual_or _ _ (usual_some n (relation_named n t)) (usual_reservations (reservations_of s) (use_of true n ∷ [])))
usual_command word (delete_index n) s t =
    usual_or _ _ (usual_standing s) (usual_or _ _ (usual_some n (find chars_order n t.indexes)) (usual_reservations (reservations_of s) (index_uses (find chars_order n t.indexes) t)))

-- ---- meanings

abbrev UsualMeaning : Meaning → Type 0
UsualMeaning (means reply t standing choices) = is_refusal_of_means reply ≡ false
UsualMeaning meaningless = Unit {0}

usual_unless : (o : Refusal) (t : Tables) (s : Standing) (choices : List Dbkey) (next : Meaning) → Usually o → UsualMeaning next → UsualMeaning (unless o t s choices next)
usual_unless (Some reply) t s choices next p q = p
usual_unless None t s choices next p q = q

usual_running : (x : Ran) (t : Tables) (s : Standing) (choices : List Dbkey) → UsualRan x → UsualMeaning (after_running x t s choices)
usual_running (ran w) t s choices p = refl
usual_running (refused reply left) t s choices p = p
usual_running astray t s choices p = tt

usual_meaning : (word : List ℕ) (s : Standing) (item : Uttered) (choices : List Dbkey) (t : Tables) → UsualMeaning (meaning word s item choices t)
usual_meaning word s (syntax_fault at column) choices t = refl
usual_meaning word s (said (perform a)) choices t =
    usual_unless (act_refusal a s t) t (standing_for a s) choices _ (usual_action a s t) (usual_running (done a t [] (world t choices [])) t (standing_for a s) choices (usual_done a t [] (world t choices [])))
usual_meaning word s (said (invoke text)) choices t = usual_unless (command_refusal word (invoke text) s t) t s choices _ (usual_command word (invoke text) s t) refl
usual_meaning word s (said start_read_only) choices t = usual_unless (command_refusal word start_read_only s t) t s choices _ (usual_command word start_read_only s t) refl
usual_meaning word s (said (start_read_write wait rs)) choices t = usual_unless (command_refusal word (start_read_write wait rs) s t) t s choices _ (usual_command word (start_read_write wait rs) s t) refl
usual_meaning word s (said commit) choices t = usual_unless (command_refusal word commit s t) t s choices _ (usual_command word commit s t) refl
usual_meaning word s (said rollback) choices t = usual_unless (command_refusal word rollback s t) t s choices _ (usual_command word rollback s t) refl
usual_meaning word s (said finish) choices t = usual_unless (command_refusal word finish s t) t s choices _ (usual_command word finish s t) refl
usual_meaning word s (said (back_up n)) choices t = usual_unless (command_refusal word (back_up n) s t) t s choices _ (usual_command word (back_up n) s t) refl
usual_meaning word s (said (define_field n type)) choices t = usual_unless (command_refusal word (define_field n type) s t) t s choices _ (usual_command word (define_field n type) s t) refl
usual_meaning word s (said (define_relation n fs)) choices t = usual_unless (command_refusal word (define_relation n fs) s t) t s choices _ (usual_command word (define_relation n fs) s t) refl
usual_meaning word s (said (define_index d)) choices t = usual_unless (command_refusal word (define_index d) s t) t s choices _ (usual_command word (define_index d) s t) refl
usual_meaning word s (said (delete_relation n)) choices t = usual_unless (command_refusal word (delete_relation n) s t) t s choices _ (usual_command word (delete_relation n) s t) refl
usual_meaning word s (said (delete_index n)) choices t = usual_unless (command_refusal word (delete_index n) s t) t s choices _ (usual_command word (delete_index n) s t) refl

pub usual : (word : List ℕ) (s : Standing) (item : Uttered) (choices : List Dbkey) (t : Tables) (reply : Reply) (left : Tables) (behind : Standing) → Does word s item choices t reply left behind → is_refusal_of_means reply ≡ false
usual word s item choices t reply left behind does = subst UsualMeaning does (usual_meaning word s item choices t)
