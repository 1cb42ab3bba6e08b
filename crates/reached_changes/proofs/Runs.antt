-- An action comes to an end where the rows that it stores are given the right Dbkeys.
use Rattle.std.proofs.Common.{◌≡◌, ℕ, Bool, true, false, cond, List, [], ◌∷◌, ◌++◌, replicate, length, Option, Some, None, refl, ap, ◌∙◌, append_assoc}
use Rattle.std.specs.Prelude.{option_and_then}
use Rattle.rdb_types.specs.declared.keys.Dbkey.{Dbkey}
use Rattle.rdb_types.specs.declared.values.Field.{Field}
use Rattle.rdb_types.specs.declared.values.Scaled.{Scaled}
use Rattle.rdb_types.specs.declared.values.Value.TheVariants.{Missing}
use Rattle.rdo_ast.specs.declared.reply.Reply.{Reply}
use Rattle.rdo_ast.specs.declared.reply.Reply.TheVariants as r
use Rattle.rdo_ast.specs.Tree.{Name, Assignment, Act, store, for_each, print, modify, erase, Acts, no_act, act}
use Rattle.rdb_meaning.specs.declared.tables.Tables.{Tables}
use Rattle.rdb_meaning.specs.declared.scope.Binding.{Binding}
use Rattle.rdb_meaning.specs.Contents.{Row, relation_named, fields_of, place_of, with_row, without_row, is_too_long}
use Rattle.rdb_meaning.specs.Numbers.{Computed, is, overflow, Fitted, fitting, too_large, too_long, fitted}
use Rattle.rdb_meaning.specs.Evaluation.{Scope, Tuple, bind_source, bind_tuple, bound_as, computed, row_now, sources_of, Selected, these, not_computed}
use Rattle.rdb_meaning.specs.Selecting.{selection}
use Rattle.rdb_meaning.specs.Execution.{World, world, Ran, ran, refused, astray, and_then, over, over_selected, Line, line, no_line, printed, printed_in, Assigned, assigned, unassigned, put_fitted, put_computed, assigning_then, assign, taken_by, unless_taken, place_row, nowhere, store_assigned, modify_assigned, modify_at, key_of_binding, erase_at, done, done_all}
use Rattle.rdb_account.specs.Lawful.{is_refused_in_work}
use Rattle.reached_changes.proofs.Free.{may-give}

abbrev Printed : Type 0
Printed = List (List Scaled)

-- Work that gives Dbkeys to rows comes to these tables, or is refused so, where it is given these and whatever others behind them.
pub data Ends (f : List Dbkey → Ran) : Type 0 where
  runs : (ks : List Dbkey) (t : Tables) (lines : Printed) → ((more : List Dbkey) → f (ks ++ more) ≡ ran (world t more lines)) → Ends f
  stops : (ks : List Dbkey) (reply : Reply) → is_refused_in_work reply ≡ true → ((more : List Dbkey) → f (ks ++ more) ≡ refused reply more) → Ends f

then-ends : (f : List Dbkey → Ran) (next : World → Ran) → Ends f → ((t : Tables) (lines : Printed) → Ends (λ ks. next (world t ks lines))) → Ends (λ ks. and_then (f ks) next)
then-ends f next (stops ks reply work h) all = stops ks reply work (λ more. ap (λ x. and_then x next) (h more))
then-ends f next (runs ks t lines h) all = by (all t lines)
  where
    comes : (js more : List Dbkey) → and_then (f ((ks ++ js) ++ more)) next ≡ next (world t (js ++ more) lines)
    comes js more = ap (λ l. and_then (f l) next) (append_assoc ks js more) ∙ ap (λ x. and_then x next) (h (js ++ more))

    by : Ends (λ ks. next (world t ks lines)) → Ends (λ ks. and_then (f ks) next)
    by (runs js u ls k) = runs (ks ++ js) u ls (λ more. comes js more ∙ k more)
    by (stops js reply work k) = stops (ks ++ js) reply work (λ more. comes js more ∙ k more)

over-ends : (tuples : List Tuple) (body : Tuple → World → Ran) → ((k : Tuple) (t : Tables) (lines : Printed) → Ends (λ ks. body k (world t ks lines))) → (t : Tables) (lines : Printed) → Ends (λ ks. over tuples body (world t ks lines))
over-ends [] body h t lines = runs [] t lines (λ more. refl)
over-ends (k ∷ tuples) body h t lines = then-ends (λ ks. body k (world t ks lines)) (over tuples body) (h k t lines) (over-ends tuples body h)

selected-ends : (s : Selected) (body : Tuple → World → Ran) → ((k : Tuple) (t : Tables) (lines : Printed) → Ends (λ ks. body k (world t ks lines))) → (t : Tables) (lines : Printed) → Ends (λ ks. over_selected s body (world t ks lines))
selected-ends (these tuples) body h t lines = over-ends tuples body h t lines
selected-ends not_computed body h t lines = stops [] r.Overflow refl (λ more. refl)

print-ends : (l : Line) (t : Tables) (lines : Printed) → Ends (λ ks. printed_in (world t ks lines) l)
print-ends (line vs) t lines = runs [] t (lines ++ vs ∷ []) (λ more. refl)
print-ends no_line t lines = stops [] r.Overflow refl (λ more. refl)

-- ---- assignments

abbrev IsInWork : Assigned → Type 0
IsInWork (assigned row) = Unit {0}
IsInWork (unassigned reply) = is_refused_in_work reply ≡ true

fitted-work : (at : ℕ) (v : Fitted) (row : Row) → IsInWork (put_fitted at v row)
fitted-work at (fitting v) row = tt
fitted-work at too_large row = refl
fitted-work at too_long row = refl

computed-work : (o : Option (ℕ × Field)) (v : Computed) (row : Row) → IsInWork (put_computed o v row)
computed-work (Some p) (is v) row = fitted-work p.0 (fitted p.1.kind v) row
computed-work (Some p) overflow row = refl
computed-work None (is v) row = tt
computed-work None overflow row = tt

assigning-work : (x : Assigned) (next : Row → Assigned) → IsInWork x → ((row : Row) → IsInWork (next row)) → IsInWork (assigning_then x next)
assigning-work (assigned row) next p h = h row
assigning-work (unassigned reply) next p h = p

assign-work : (as' : List Assignment) (fields : List Field) (t : Tables) (scope : Scope) (row : Row) → IsInWork (assign as' fields t scope row)
assign-work [] fields t scope row = tt
assign-work (a ∷ as') fields t scope row =
    assigning-work (put_computed (place_of a.left.field fields) (computed a.right t scope) row) (assign as' fields t scope) (computed-work (place_of a.left.field fields) (computed a.right t scope) row) (λ q. assign-work as' fields t scope q)

-- ---- a row that is written

write-ends : (long : Bool) (taken : Option Name) (t : Tables) (lines : Printed) (next : List Dbkey → Ran) → Ends next → Ends (λ ks. cond long (refused r.TooLong ks) (unless_taken taken (world t ks lines) (next ks)))
write-ends true taken t lines next h = stops [] r.TooLong refl (λ more. refl)
write-ends false (Some index) t lines next h = stops [] (r.Duplicate index) refl (λ more. refl)
write-ends false None t lines next h = h

place-ends : (n : Name) (row : Row) (start t : Tables) (lines : Printed) → Ends (λ ks. place_row n row start (world t ks lines) ks)
place-ends n row start t lines =
    let k = may-give n start t in
    runs (k.0 ∷ []) (with_row n k.0 row t) lines (λ more. ap (λ b. cond b (ran (world (with_row n k.0 row t) more lines)) astray) k.1)

store-ends : (n : Name) (start t : Tables) (lines : Printed) (a : Assigned) → IsInWork a → Ends (λ ks. store_assigned n start (world t ks lines) a)
store-ends n start t lines (assigned row) p =
    write-ends (is_too_long (fields_of (relation_named n t)) row) (taken_by n row nowhere t) t lines (λ ks. place_row n row start (world t ks lines) ks) (place-ends n row start t lines)
store-ends n start t lines (unassigned reply) p = stops [] reply p (λ more. refl)

modify-ends : (n : Name) (k : Dbkey) (t : Tables) (lines : Printed) (a : Assigned) → IsInWork a → Ends (λ ks. modify_assigned n k (world t ks lines) a)
modify-ends n k t lines (assigned row) p =
    write-ends (is_too_long (fields_of (relation_named n t)) row) (taken_by n row k t) t lines (λ ks. ran (world (with_row n k row t) ks lines)) (runs [] (with_row n k row t) lines (λ more. refl))
modify-ends n k t lines (unassigned reply) p = stops [] reply p (λ more. refl)

stays : (t : Tables) (lines : Printed) → Ends (λ ks. ran (world t ks lines))
stays t lines = runs [] t lines (λ more. refl)

modify-at-ends : (b : Option Binding) (k : Option Dbkey) (row : Option Row) (as' : List Assignment) (scope : Scope) (t : Tables) (lines : Printed) → Ends (λ ks. modify_at b k row as' scope (world t ks lines))
modify-at-ends (Some b) (Some k) (Some row) as' scope t lines =
    let fields = fields_of (relation_named b.relation t) in
    modify-ends b.relation k t lines (assign as' fields t scope row) (assign-work as' fields t scope row)
modify-at-ends (Some b) (Some k) None as' scope t lines = stays t lines
modify-at-ends (Some b) None (Some row) as' scope t lines = stays t lines
modify-at-ends (Some b) None None as' scope t lines = stays t lines
modify-at-ends None (Some k) (Some row) as' scope t lines = stays t lines
modify-at-ends None (Some k) None as' scope t lines = stays t lines
modify-at-ends None None (Some row) as' scope t lines = stays t lines
modify-at-ends None None None as' scope t lines = stays t lines

erase-at-ends : (b : Option Binding) (k : Option Dbkey) (t : Tables) (lines : Printed) → Ends (λ ks. erase_at b k (world t ks lines))
erase-at-ends (Some b) (Some k) t lines = runs [] (without_row b.relation k t) lines (λ more. refl)
erase-at-ends (Some b) None t lines = stays t lines
erase-at-ends None (Some k) t lines = stays t lines
erase-at-ends None None t lines = stays t lines

-- ---- actions

mutual
  pub act-ends : (a : Act) (start : Tables) (scope : Scope) (t : Tables) (lines : Printed) → Ends (λ ks. done a start scope (world t ks lines))
  act-ends (store s as') start scope t lines =
      let fields = fields_of (relation_named s.relation t) in
      let row = replicate (length fields) Missing in
      store-ends s.relation start t lines (assign as' fields t (scope ++ bind_source s None ∷ []) row) (assign-work as' fields t (scope ++ bind_source s None ∷ []) row)
  act-ends (for_each q cs body) start scope t lines =
      selected-ends (selection q cs t scope) (λ ks. done_all body start (bind_tuple (sources_of q) ks scope)) (λ ks u ls. all-end body start (bind_tuple (sources_of q) ks scope) u ls) t lines
  act-ends (print items) start scope t lines = print-ends (printed items t scope) t lines
  act-ends (modify n as') start scope t lines = modify-at-ends (bound_as n scope) (key_of_binding (bound_as n scope)) (option_and_then (row_now t) (bound_as n scope)) as' scope t lines
  act-ends (erase n) start scope t lines = erase-at-ends (bound_as n scope) (key_of_binding (bound_as n scope)) t lines

  all-end : (body : Acts) (start : Tables) (scope : Scope) (t : Tables) (lines : Printed) → Ends (λ ks. done_all body start scope (world t ks lines))
  all-end no_act start scope t lines = stays t lines
  all-end (act a rest) start scope t lines = then-ends (λ ks. done a start scope (world t ks lines)) (done_all rest start scope) (act-ends a start scope t lines) (λ u ls. all-end rest start scope u ls)
