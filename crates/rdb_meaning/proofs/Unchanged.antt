-- Outside a read-write transaction every statement leaves the tables as they are.
use Rattle.std.proofs.Common.{◌≡◌, ℕ, ◌∷◌, [], Bool, true, false, List, refl, ◌∙◌, subst, Some, None}
use Rattle.std.proofs.lemmas.Bool.{and_parts, true≢false, false≢true}
use Rattle.ordered_entries.specs.rdb_types.declared.keys.Dbkey.{Dbkey}
use Rattle.rdo_ast.specs.declared.reply.Reply.{Reply}
use Rattle.rdo_ast.specs.declared.reply.Standing.{Standing}
use Rattle.rdo_ast.specs.declared.reply.Standing.TheVariants.{Closed, ReadOnly, ReadWrite}
use Rattle.rdo_ast.specs.Tree.{Act, store, for_each, print, modify, erase, Acts, no_act, act, invoke, start_read_only, start_read_write, commit, rollback, finish, back_up, perform, define_field, define_relation, define_index, delete_relation, delete_index, Uttered, said, syntax_fault}
use Rattle.rdb_meaning.specs.declared.tables.Tables.{Tables}
use Rattle.rdb_meaning.specs.Checks.{Refusal, is_retrieval, are_retrievals}
use Rattle.rdb_meaning.specs.Evaluation.{Scope, Tuple, Selected, these, not_computed, bind_tuple, sources_of}
use Rattle.rdb_meaning.specs.Selecting.{selection}
use Rattle.rdb_meaning.specs.Execution.{World, world, Ran, ran, refused, astray, and_then, over, over_selected, Line, line, no_line, printed, printed_in, done, done_all}
use Rattle.rdb_meaning.specs.Meaning.{Meaning, means, meaningless, doing, unless, act_meaning, after_running, is_word, reserved_names, meaning}

-- ---- retrievals

abbrev pub Keeps : World → Ran → Type 0
Keeps w (ran v) = v.tables ≡ w.tables
Keeps w (refused reply ks) = Unit {0}
Keeps w astray = Unit {0}

keeps-moved : (v w : World) (r : Ran) → v.tables ≡ w.tables → Keeps v r → Keeps w r
keeps-moved v w (ran u) e k = k ∙ e
keeps-moved v w (refused reply ks) e k = tt
keeps-moved v w astray e k = tt

keeps-then : (w : World) (r : Ran) (next : World → Ran) → Keeps w r → ((v : World) → Keeps v (next v)) → Keeps w (and_then r next)
keeps-then w (ran v) next k h = keeps-moved v w (next v) k (h v)
keeps-then w (refused reply ks) next k h = tt
keeps-then w astray next k h = tt

keeps-over : (ks : List Tuple) (body : Tuple → World → Ran) → ((k : Tuple) (v : World) → Keeps v (body k v)) → (w : World) → Keeps w (over ks body w)
keeps-over [] body h w = refl
keeps-over (k ∷ ks) body h w = keeps-then w (body k w) (over ks body) (h k w) (keeps-over ks body h)

keeps-selected : (s : Selected) (body : Tuple → World → Ran) → ((k : Tuple) (v : World) → Keeps v (body k v)) → (w : World) → Keeps w (over_selected s body w)
keeps-selected (these ks) body h w = keeps-over ks body h w
keeps-selected not_computed body h w = tt

keeps-printed : (w : World) (l : Line) → Keeps w (printed_in w l)
keeps-printed w (line vs) = refl
keeps-printed w no_line = tt

mutual
  pub retrieval-keeps : (a : Act) (start : Tables) (scope : Scope) (w : World) → is_retrieval a ≡ true → Keeps w (done a start scope w)
  retrieval-keeps (store s as') start scope w h = absurd (false≢true h)
  retrieval-keeps (for_each r cs body) start scope w h =
      keeps-selected (selection r cs w.tables scope) (λ ks. done_all body start (bind_tuple (sources_of r) ks scope))
      (λ ks v. retrievals-keep body start (bind_tuple (sources_of r) ks scope) v h) w
  retrieval-keeps (print items) start scope w h = keeps-printed w (printed items w.tables scope)
  retrieval-keeps (modify n as') start scope w h = absurd (false≢true h)
  retrieval-keeps (erase n) start scope w h = absurd (false≢true h)

  pub retrievals-keep : (as' : Acts) (start : Tables) (scope : Scope) (w : World) → are_retrievals as' ≡ true → Keeps w (done_all as' start scope w)
  retrievals-keep no_act start scope w h = refl
  retrievals-keep (act a rest) start scope w h =
      let both = and_parts (is_retrieval a) (are_retrievals rest) h in
      keeps-then w (done a start scope w) (done_all rest start scope) (retrieval-keeps a start scope w both.0)
      (λ v. retrievals-keep rest start scope v both.1)

-- ---- every statement

abbrev pub is_writing : Standing → Bool
is_writing Closed = false
is_writing ReadOnly = false
is_writing (ReadWrite wait rs) = true

abbrev Leaves : Tables → Meaning → Type 0
Leaves t (means reply t' standing choices) = t' ≡ t
Leaves t meaningless = Unit {0}

leaves-unless : (refusal : Refusal) (t : Tables) (standing : Standing) (choices : List Dbkey) (next : Meaning) → Leaves t next → Leaves t (unless refusal t standing choices next)
leaves-unless (Some reply) t standing choices next h = refl
leaves-unless None t standing choices next h = h

leaves-running : (r : Ran) (t : Tables) (standing : Standing) (choices : List Dbkey) → Keeps (world t choices []) r → Leaves t (after_running r t standing choices)
leaves-running (ran w) t standing choices k = k
leaves-running (refused reply ks) t standing choices k = refl
leaves-running astray t standing choices k = tt

leaves-act : (a : Act) (b : Bool) (standing : Standing) (choices : List Dbkey) (t : Tables) → is_writing standing ≡ false → is_retrieval a ≡ b → Leaves t (act_meaning a standing choices t)
leaves-act a true Closed choices t h e =
    rw e (leaves-unless _ t ReadOnly choices _ (leaves-running (done a t [] (world t choices [])) t ReadOnly choices (retrieval-keeps a t [] (world t choices []) e)))
leaves-act a true ReadOnly choices t h e =
    rw e (leaves-unless _ t ReadOnly choices _ (leaves-running (done a t [] (world t choices [])) t ReadOnly choices (retrieval-keeps a t [] (world t choices []) e)))
leaves-act a true (ReadWrite wait rs) choices t h e = absurd (true≢false h)
leaves-act a false Closed choices t h e = rw e refl
leaves-act a false ReadOnly choices t h e = rw e refl
leaves-act a false (ReadWrite wait rs) choices t h e = absurd (true≢false h)

leaves : (word : List ℕ) (standing : Standing) (item : Uttered) (choices : List Dbkey) (t : Tables) → is_writing standing ≡ false → Leaves t (meaning word standing item choices t)
leaves word Closed (syntax_fault l c) choices t h = refl
leaves word Closed (said (invoke text)) choices t h = leaves-unless (is_word word text) t Closed choices (doing t Closed choices) refl
leaves word Closed (said start_read_only) choices t h = refl
leaves word Closed (said (start_read_write wait rs)) choices t h = leaves-unless (reserved_names [] rs t) t Closed choices (doing t (ReadWrite wait rs) choices) refl
leaves word Closed (said commit) choices t h = refl
leaves word Closed (said rollback) choices t h = refl
leaves word Closed (said finish) choices t h = refl
leaves word Closed (said (back_up n)) choices t h = refl
leaves word Closed (said (perform a)) choices t h = leaves-act a (is_retrieval a) Closed choices t refl refl
leaves word Closed (said (define_field n type)) choices t h = refl
leaves word Closed (said (define_relation n fs)) choices t h = refl
leaves word Closed (said (define_index d)) choices t h = refl
leaves word Closed (said (delete_relation n)) choices t h = refl
leaves word Closed (said (delete_index n)) choices t h = refl
leaves word ReadOnly (syntax_fault l c) choices t h = refl
leaves word ReadOnly (said (invoke text)) choices t h = leaves-unless (is_word word text) t ReadOnly choices (doing t ReadOnly choices) refl
leaves word ReadOnly (said start_read_only) choices t h = refl
leaves word ReadOnly (said (start_read_write wait rs)) choices t h = refl
leaves word ReadOnly (said commit) choices t h = refl
leaves word ReadOnly (said rollback) choices t h = refl
leaves word ReadOnly (said finish) choices t h = refl
leaves word ReadOnly (said (back_up n)) choices t h = refl
leaves word ReadOnly (said (perform a)) choices t h = leaves-act a (is_retrieval a) ReadOnly choices t refl refl
leaves word ReadOnly (said (define_field n type)) choices t h = refl
leaves word ReadOnly (said (define_relation n fs)) choices t h = refl
leaves word ReadOnly (said (define_index d)) choices t h = refl
leaves word ReadOnly (said (delete_relation n)) choices t h = refl
leaves word ReadOnly (said (delete_index n)) choices t h = refl
leaves word (ReadWrite wait rs) item choices t h = absurd (true≢false h)

-- A statement outside a read-write transaction leaves the tables.
pub unchanged : (word : List ℕ) (standing : Standing) (item : Uttered) (choices left : List Dbkey) (t t' : Tables) (reply : Reply) (standing' : Standing) →
    is_writing standing ≡ false → meaning word standing item choices t ≡ means reply t' standing' left → t' ≡ t
unchanged word standing item choices left t t' reply standing' h e = subst (Leaves t) e (leaves word standing item choices t h)
