-- A statement of a read-write transaction that doesn't end it leaves it the standing of one.
use Rattle.std.proofs.Common.{◌≡◌, ℕ, ◌&&◌, if◌then◌else◌, cond, Bool, true, false, List, [], ◌∷◌, refl, ap, sym, subst, ◌∙◌, arith, Option, Some, None}
use Rattle.std.proofs.lemmas.Bool.{false≢true}
use Rattle.std.proofs.lemmas.Option.{none-some}
use Rattle.rdb_types.specs.declared.keys.Dbkey.{Dbkey}
use Rattle.rdo_ast.specs.declared.reply.Reply.{Reply}
use Rattle.rdo_ast.specs.declared.reply.Reply.TheVariants as r
use Rattle.rdo_ast.specs.declared.reply.Standing.{Standing}
use Rattle.rdo_ast.specs.declared.reply.Standing.TheVariants.{Closed, ReadOnly, ReadWrite}
use Rattle.rdo_ast.specs.declared.syntax.Reservation.{Reservation}
use Rattle.rdo_ast.specs.Tree.{Name, Act, Uttered, said, syntax_fault, invoke, start_read_only, start_read_write, commit, rollback, finish, back_up, perform, define_field, define_relation, define_index, delete_relation, delete_index}
use Rattle.rdb_meaning.specs.declared.tables.Relation.{Relation}
use Rattle.rdb_meaning.specs.declared.tables.Tables.{Tables}
use Rattle.rdb_meaning.specs.Contents.{relation_named}
use Rattle.rdb_meaning.specs.Usual.{is_refusal_of_means}
use Rattle.rdb_meaning.specs.Checks.{Refusal, or_else, needs_some, is_retrieval}
use Rattle.rdb_meaning.specs.Defining.{is_among}
use Rattle.rdb_meaning.specs.Execution.{Ran, ran, refused, astray, done, world}
use Rattle.rdb_meaning.specs.Meaning.{Meaning, means, meaningless, meaning, doing, unless, after_running, standing_for, act_refusal, command_refusal, reserved_names, after as tables_after}
use Rattle.rdb_account.specs.Places.{begins, leaves_none, is_done, is_writer}
use Rattle.rdb_account.specs.Legal.{ends_by, ends_its_own}
use Rattle.session_jobs.specs.Asked.{locks, is_writing_kind}

-- unless the item ends it, the transaction stays a read-write one
abbrev Stays : Uttered → Meaning → Type 0
Stays item (means reply t standing ks) = (ends_by item && is_done reply) ≡ false → is_writer standing ≡ true
Stays item meaningless = Unit {0}

unless-stays : (item : Uttered) (refusal : Refusal) (t : Tables) (standing : Standing) (ks : List Dbkey) (next : Meaning) → is_writer standing ≡ true → Stays item next → Stays item (unless refusal t standing ks next)
unless-stays item (Some reply) t standing ks next h k = λ e. h
unless-stays item None t standing ks next h k = k

does-stay : (item : Uttered) (refusal : Refusal) (t after : Tables) (wait : Bool) (rs : List Reservation) (ks : List Dbkey) → Stays item (unless refusal t (ReadWrite wait rs) ks (doing after (ReadWrite wait rs) ks))
does-stay item refusal t after wait rs ks = unless-stays item refusal t (ReadWrite wait rs) ks (doing after (ReadWrite wait rs) ks) refl (λ e. refl)

run-stays : (item : Uttered) (r : Ran) (t : Tables) (standing : Standing) (ks : List Dbkey) → is_writer standing ≡ true → Stays item (after_running r t standing ks)
run-stays item (ran w) t standing ks h = λ e. h
run-stays item (refused reply left) t standing ks h = λ e. h
run-stays item astray t standing ks h = tt

act-standing : (a : Act) (wait : Bool) (rs : List Reservation) → is_writer (standing_for a (ReadWrite wait rs)) ≡ true
act-standing a wait rs = elim (is_retrieval a) as (λ b. is_writer (cond b (ReadWrite wait rs) (ReadWrite wait rs)) ≡ true) [ true ↦ refl | false ↦ refl ]

all-stay : (word : List ℕ) (wait : Bool) (rs : List Reservation) (item : Uttered) (ks : List Dbkey) (t : Tables) → Stays item (meaning word (ReadWrite wait rs) item ks t)
all-stay word wait rs (syntax_fault line column) ks t = λ e. refl
all-stay word wait rs (said (invoke text)) ks t = does-stay (said (invoke text)) (command_refusal word (invoke text) (ReadWrite wait rs) t) t (tables_after (invoke text) t) wait rs ks
all-stay word wait rs (said start_read_only) ks t = λ e. refl
all-stay word wait rs (said (start_read_write w us)) ks t = λ e. refl
all-stay word wait rs (said commit) ks t = λ e. absurd (false≢true (sym e))
all-stay word wait rs (said rollback) ks t = λ e. absurd (false≢true (sym e))
all-stay word wait rs (said finish) ks t = λ e. refl
all-stay word wait rs (said (back_up n)) ks t = λ e. refl
all-stay word wait rs (said (perform a)) ks t =
    let running = done a t [] (world t ks []) in
    unless-stays (said (perform a)) (act_refusal a (ReadWrite wait rs) t) t (standing_for a (ReadWrite wait rs)) ks (after_running running t (standing_for a (ReadWrite wait rs)) ks) (act-standing a wait rs)
    (run-stays (said (perform a)) running t (standing_for a (ReadWrite wait rs)) ks (act-standing a wait rs))
all-stay word wait rs (said (define_field n type)) ks t = does-stay (said (define_field n type)) (command_refusal word (define_field n type) (ReadWrite wait rs) t) t (tables_after (define_field n type) t) wait rs ks
all-stay word wait rs (said (define_relation n fs)) ks t = does-stay (said (define_relation n fs)) (command_refusal word (define_relation n fs) (ReadWrite wait rs) t) t (tables_after (define_relation n fs) t) wait rs ks
all-stay word wait rs (said (define_index d)) ks t = does-stay (said (define_index d)) (command_refusal word (define_index d) (ReadWrite wait rs) t) t (tables_after (define_index d) t) wait rs ks
all-stay word wait rs (said (delete_relation n)) ks t = does-stay (said (delete_relation n)) (command_refusal word (delete_relation n) (ReadWrite wait rs) t) t (tables_after (delete_relation n) t) wait rs ks
all-stay word wait rs (said (delete_index n)) ks t = does-stay (said (delete_index n)) (command_refusal word (delete_index n) (ReadWrite wait rs) t) t (tables_after (delete_index n) t) wait rs ks

pub stays-writer : (word : List ℕ) (standing behind : Standing) (item : Uttered) (ks : List Dbkey) (t left : Tables) (reply : Reply) → is_writer standing ≡ true →
    meaning word standing item ks t ≡ means reply left behind [] → (ends_by item && is_done reply) ≡ false → is_writer behind ≡ true
stays-writer word Closed behind item ks t left reply writes m stays = absurd (false≢true writes)
stays-writer word ReadOnly behind item ks t left reply writes m stays = absurd (false≢true writes)
stays-writer word (ReadWrite wait rs) behind item ks t left reply writes m stays = subst (Stays item) m (all-stay word wait rs item ks t) stays

-- ---- the first statement

-- a START_TRANSACTION that is done
abbrev Starts : Meaning → Type 0
Starts (means reply t standing ks) = is_done reply ≡ true → is_writer standing ≡ true
Starts meaningless = Unit {0}

abbrev IsUndone : Refusal → Type 0
IsUndone (Some reply) = is_done reply ≡ false
IsUndone None = Unit {0}

else-undone : (a b : Refusal) → IsUndone a → IsUndone b → IsUndone (or_else a b)
else-undone (Some reply) b h k = h
else-undone None b h k = k

names-undone : (before : List Name) (rs : List Reservation) (t : Tables) → IsUndone (reserved_names before rs t)
names-undone before [] t = tt
names-undone before (x ∷ xs) t =
    else-undone (needs_some x.relation (relation_named x.relation t)) _ (some-undone (relation_named x.relation t))
    (else-undone (if is_among x.relation before then Some (r.Exists x.relation) else None) _ (twice (is_among x.relation before)) (names-undone (x.relation ∷ before) xs t))
  where
    some-undone : (o : Option Relation) → IsUndone (needs_some x.relation o)
    some-undone (Some y) = tt
    some-undone None = refl

    twice : (b : Bool) → IsUndone (if b then Some (r.Exists x.relation) else None)
    twice true = refl
    twice false = tt

unless-starts : (wait : Bool) (rs : List Reservation) (refusal : Refusal) (t : Tables) (ks : List Dbkey) → IsUndone refusal → Starts (unless refusal t Closed ks (means (r.Done []) t (ReadWrite wait rs) ks))
unless-starts wait rs (Some reply) t ks h = λ e. absurd (false≢true (sym h ∙ e))
unless-starts wait rs None t ks h = λ e. refl

reads-none : {A : Type 0} (b : Bool) (kind : Standing) → (if b then Some ReadOnly else None) ≡ Some kind → is_writer kind ≡ true → A
reads-none true kind h w = absurd (grind arith)
reads-none false kind h w = absurd (grind arith)

pub starts-writer : (word : List ℕ) (kind behind : Standing) (item : Uttered) (ks : List Dbkey) (t left : Tables) (reply : Reply) → begins item ≡ Some kind → is_writer kind ≡ true →
    meaning word Closed item ks t ≡ means reply left behind [] → is_done reply ≡ true → is_writer behind ≡ true
starts-writer word kind behind (syntax_fault line column) ks t left reply h w m done = absurd (grind arith)
starts-writer word kind behind (said (invoke text)) ks t left reply h w m done = absurd (grind arith)
starts-writer word kind behind (said start_read_only) ks t left reply h w m done = absurd (grind arith)
starts-writer word kind behind (said (start_read_write wait rs)) ks t left reply h w m done = subst Starts m (unless-starts wait rs (reserved_names [] rs t) t ks (names-undone [] rs t)) done
starts-writer word kind behind (said commit) ks t left reply h w m done = absurd (grind arith)
starts-writer word kind behind (said rollback) ks t left reply h w m done = absurd (grind arith)
starts-writer word kind behind (said finish) ks t left reply h w m done = absurd (grind arith)
starts-writer word kind behind (said (back_up n)) ks t left reply h w m done = absurd (grind arith)
starts-writer word kind behind (said (perform a)) ks t left reply h w m done = reads-none (is_retrieval a) kind h w
starts-writer word kind behind (said (define_field n type)) ks t left reply h w m done = absurd (grind arith)
starts-writer word kind behind (said (define_relation n fs)) ks t left reply h w m done = absurd (grind arith)
starts-writer word kind behind (said (define_index d)) ks t left reply h w m done = absurd (grind arith)
starts-writer word kind behind (said (delete_relation n)) ks t left reply h w m done = absurd (grind arith)
starts-writer word kind behind (said (delete_index n)) ks t left reply h w m done = absurd (grind arith)

-- what begins a read-write transaction is a START_TRANSACTION, whose refusal leaves none
pub starts-leaves : (item : Uttered) (kind : Standing) → begins item ≡ Some kind → is_writer kind ≡ true → leaves_none item ≡ true
starts-leaves (syntax_fault line column) kind h w = absurd (grind arith)
starts-leaves (said (invoke text)) kind h w = absurd (grind arith)
starts-leaves (said start_read_only) kind h w = refl
starts-leaves (said (start_read_write wait rs)) kind h w = refl
starts-leaves (said commit) kind h w = absurd (grind arith)
starts-leaves (said rollback) kind h w = absurd (grind arith)
starts-leaves (said finish) kind h w = absurd (grind arith)
starts-leaves (said (back_up n)) kind h w = refl
starts-leaves (said (perform a)) kind h w = reads-none (is_retrieval a) kind h w
starts-leaves (said (define_field n type)) kind h w = absurd (grind arith)
starts-leaves (said (define_relation n fs)) kind h w = absurd (grind arith)
starts-leaves (said (define_index d)) kind h w = absurd (grind arith)
starts-leaves (said (delete_relation n)) kind h w = absurd (grind arith)
starts-leaves (said (delete_index n)) kind h w = absurd (grind arith)

-- ---- an online backup

abbrev is_done_by : Meaning → Bool
is_done_by (means reply t standing ks) = is_done reply
is_done_by meaningless = false

-- it isn't done in a read-write transaction,
pub ends-alone : (word : List ℕ) (standing behind : Standing) (item : Uttered) (ks : List Dbkey) (t left : Tables) (reply : Reply) → is_writer standing ≡ true →
    meaning word standing item ks t ≡ means reply left behind [] → (ends_by item && is_done reply) ≡ false → (ends_its_own item && is_done reply) ≡ false
ends-alone word Closed behind item ks t left reply writes m ends = absurd (false≢true writes)
ends-alone word ReadOnly behind item ks t left reply writes m ends = absurd (false≢true writes)
ends-alone word (ReadWrite wait rs) behind (said (back_up n)) ks t left reply writes m ends = sym (ap is_done_by m)
ends-alone word (ReadWrite wait rs) behind item ks t left reply writes m ends = ends

-- and begins none
pub starts-ends : (item : Uttered) (kind : Standing) → begins item ≡ Some kind → is_writer kind ≡ true → ends_its_own item ≡ false
starts-ends (said (back_up n)) kind h w = absurd (grind arith)
starts-ends (said commit) kind h w = absurd (none-some kind h)
starts-ends (said rollback) kind h w = absurd (none-some kind h)
starts-ends item kind h w = refl

-- a refusal by a lock, a limit or memory isn't done
pub excused-undone : (reply : Reply) → is_refusal_of_means reply ≡ true → is_done reply ≡ false
excused-undone (r.Done lines) h = absurd (false≢true h)
excused-undone (r.Syntax line column) h = refl
excused-undone (r.NoSuch name) h = refl
excused-undone (r.Exists name) h = refl
excused-undone r.TypeClash h = refl
excused-undone r.Overflow h = refl
excused-undone (r.Duplicate index) h = refl
excused-undone r.NoTransaction h = refl
excused-undone r.InTransaction h = refl
excused-undone r.ReadOnly h = refl
excused-undone (r.NotReserved relation) h = refl
excused-undone (r.LockConflict session) h = refl
excused-undone (r.Deadlock sessions) h = refl
excused-undone (r.AreaFull n) h = refl
excused-undone (r.RujFull n) h = refl
excused-undone (r.AijFull n) h = refl
excused-undone (r.SnapFull n) h = refl
excused-undone r.TooLong h = refl
excused-undone r.NoMemory h = refl

-- in a read-write transaction, and for the statement that begins one, locks are taken
pub writer-locks : (standing : Standing) (item : Uttered) → is_writer standing ≡ true → locks standing item ≡ true
writer-locks Closed item h = absurd (false≢true h)
writer-locks ReadOnly item h = absurd (false≢true h)
writer-locks (ReadWrite wait rs) item h = refl

pub start-locks : (item : Uttered) (kind : Standing) → begins item ≡ Some kind → is_writer kind ≡ true → locks Closed item ≡ true
start-locks item kind h w = ap is_writing_kind h ∙ w
