-- What is known at a place of an account: a machine that reads the events, one after another.
use Rattle.std.specs.Prelude.{◌≡◌, ℕ, Bool, true, false, not, ◌&&◌, ◌||◌, ◌==◌, ◌+◌, ◌-◌, if◌then◌else◌, List, [], ◌∷◌, ◌++◌, length, map, Option, Some, None, slice_get}
use Rattle.std.specs.List.{list_any, filter}
use Rattle.lock_needs.specs.rdb_types.declared.keys.Dbkey.{Dbkey}
use Rattle.rdo_ast.specs.declared.reply.Reply.{Reply}
use Rattle.rdo_ast.specs.declared.reply.Reply.TheVariants as r
use Rattle.rdo_ast.specs.declared.reply.Standing.{Standing}
use Rattle.rdo_ast.specs.declared.reply.Standing.TheVariants.{Closed, ReadOnly, ReadWrite}
use Rattle.rdo_ast.specs.Tree.{Uttered, said, start_read_only, start_read_write, perform, back_up}
use Rattle.rdb_meaning.specs.declared.tables.Tables.{Tables}
use Rattle.rdb_meaning.specs.Checks.{is_retrieval}
use Rattle.rdb_meaning.specs.Meaning.{Meaning, means, meaningless, meaning}
use Rattle.rdb_meaning.specs.Usual.{is_refusal_of_means}
use Rattle.lock_needs.specs.vms_queues.declared.lock_mode.Mode.TheVariants.{EX}
use Rattle.lock_needs.specs.vms_queues.Modes.{at_most}
use Rattle.lock_needs.specs.rdb_types.declared.session.Cause.{Cause}
use Rattle.lock_needs.specs.rdb_types.declared.node.Level.{Level}
use Rattle.lock_needs.specs.rdb_types.declared.node.Level.TheVariants as level
use Rattle.lock_needs.specs.rdb_types.declared.node.Node.{Node}
use Rattle.lock_needs.specs.declared.need.Need.{Need}
use Rattle.rdb_account.specs.Events.{Event, Began, Wanted, Got, Demoted, Said, Committed, RolledBack, Died, Recovered}
use Rattle.lock_needs.specs.Nodes.{same_node}

-- ---- what the account is read beside

-- the limits of the root
pub record Limits : Type 0 where
  pub pages : ℕ
  pub snapshots : ℕ
  pub entries : ℕ
  pub slots : ℕ

-- The database's word, the items of each session's script, whether it ends in a stop behind them, the tables at the opening, and what is asked of the opening image:
-- which pages of an area file have an owner, and how many slots the journal's groups take.
pub record Opening : Type 0 where
  pub word : List ℕ
  pub script : ℕ → List Uttered
  pub stops : ℕ → Bool
  pub tables : Tables
  pub limits : Limits
  pub has_owner : (file page : ℕ) → Bool
  pub group_slots : ℕ
  pub moment : ℕ
  -- which sessions may die of which cause, a stop aside
  pub may_die : ℕ → Cause → Bool

-- ---- the items of a transaction told again, from tables

pub record Line : Type 0 where
  pub item : Uttered
  pub choices : List Dbkey
  pub reply : Reply

-- what the items lead to, and the replies that they are given; none where an item has no meaning
pub record Folded : Type 0 where
  pub tables : Tables
  pub standing : Standing
  pub replies : List (Option Reply)

abbrev pub told_by : Meaning → Folded → Folded
told_by (means reply t standing []) f = record { tables = t; standing = standing; replies = f.replies ++ Some reply ∷ [] }
told_by (means reply t standing (k ∷ ks)) f = record f { replies = f.replies ++ None ∷ [] }
told_by meaningless f = record f { replies = f.replies ++ None ∷ [] }

abbrev pub told : List ℕ → Folded → Line → Folded
told word f l =
    if is_refusal_of_means l.reply then record f { replies = f.replies ++ Some l.reply ∷ [] }
    else told_by (meaning word f.standing l.item l.choices f.tables) f

abbrev pub folded : List ℕ → Folded → List Line → Folded
folded word f [] = f
folded word f (l ∷ ls) = folded word (told word f l) ls

abbrev pub fresh : Tables → Folded
fresh t = record { tables = t; standing = Closed; replies = [] }

abbrev pub retold : List ℕ → Tables → List Line → Folded
retold word t lines = folded word (fresh t) lines

abbrev pub some_reply : Line → Option Reply
some_reply l = Some l.reply

-- told again from these tables, the items have exactly their replies
abbrev pub IsTold : List ℕ → Tables → List Line → Type 0
IsTold word t lines = (retold word t lines).replies ≡ map some_reply lines

-- ---- places

-- a transaction: its kind, the tables at its start, its items so far, the needs that it has got, the lines that it may write (it has got EX on them), and whether it has wanted the journal
pub record Transaction : Type 0 where
  pub kind : Standing
  pub base : Tables
  pub lines : List Line
  pub got : List Need
  pub written : List Node
  pub wants_journal : Bool

-- one asking of an open want
pub record Ask : Type 0 where
  pub session : ℕ
  pub need : Need
  pub node : Node

-- a session lives, has rolled back at its script's end, is dead, or is dead and recovered
pub data Life : Type 0 where
  living : Life
  over : Life
  dead : Life
  gone : Life

-- what must come next: nothing of the kind, the reply to the COMMIT or the online backup that a commit has ended, the reply to the ROLLBACK, or the end of a transaction whose first statement was refused
pub data Due : Type 0 where
  nothing : Due
  commit_reply : ℕ → Due
  rollback_reply : ℕ → Due
  rolls_back : ℕ → Due

pub record Commit : Type 0 where
  pub moment : ℕ
  pub tables : Tables

pub record Place : Type 0 where
  -- those after the commits so far
  pub tables : Tables
  -- in their order
  pub commits : List Commit
  pub transaction : ℕ → Option Transaction
  pub life : ℕ → Life
  -- how many items each session has said
  pub said : ℕ → ℕ
  -- the askings of all open wants, in the order of asking
  pub asks : List Ask
  -- how many dead await recovery
  pub frozen : ℕ
  pub due : Due
  pub moment : ℕ
  -- the lines on which a need was got so far
  pub touched : List Node
  -- how many pairs of a transaction and a written line of it there were so far
  pub pairs : ℕ
  -- the journal's slots: those at the opening, and the parts of the commits since
  pub slots : ℕ

abbrev pub start : Opening → Place
start o = record {
  tables = o.tables;
  commits = [];
  transaction = λ s. None;
  life = λ s. living;
  said = λ s. 0;
  asks = [];
  frozen = 0;
  due = nothing;
  moment = o.moment;
  touched = [];
  pairs = 0;
  slots = o.group_slots;
}

-- the function with another value at one session
abbrev pub at : {A : Type 0} → ℕ → A → (ℕ → A) → ℕ → A
at s x f t = if t == s then x else f t

abbrev pub next_item : Opening → Place → ℕ → Option Uttered
next_item o p s = slice_get (o.script s) (p.said s)

-- the kind of the transaction that an item begins, where none is open
abbrev pub begins : Uttered → Option Standing
begins (said start_read_only) = Some ReadOnly
begins (said (start_read_write wait rs)) = Some (ReadWrite wait rs)
begins (said (perform a)) = if is_retrieval a then Some ReadOnly else None
begins (said (back_up n)) = Some ReadOnly
begins _ = None

-- START_TRANSACTION and an online backup, whose refusal leaves no transaction
abbrev pub leaves_none : Uttered → Bool
leaves_none (said start_read_only) = true
leaves_none (said (start_read_write wait rs)) = true
leaves_none (said (back_up n)) = true
leaves_none _ = false

-- the number of the online backup that an item asks for
abbrev pub backup_of : Uttered → Option ℕ
backup_of (said (back_up n)) = Some n
backup_of _ = None

abbrev pub is_done : Reply → Bool
is_done (r.Done lines) = true
is_done _ = false

abbrev pub is_writer : Standing → Bool
is_writer (ReadWrite wait rs) = true
is_writer _ = false

abbrev pub asks_of_others : ℕ → List Ask → List Ask
asks_of_others s asks = filter (λ a. not (a.session == s)) asks

abbrev pub is_line : Level → Bool
is_line level.Line = true
is_line _ = false

abbrev pub is_journal : Level → Bool
is_journal level.Journal = true
is_journal _ = false

abbrev pub is_write : Need → Bool
is_write n = is_line n.node.level && at_most EX n.mode

abbrev pub is_new_write : Need → List Node → Bool
is_new_write n written = is_write n && not (list_any (same_node n.node) written)

-- ---- the place behind an event

abbrev pub begun : Standing → Tables → Transaction
begun kind t = record { kind = kind; base = t; lines = []; got = []; written = []; wants_journal = false }

abbrev pub with_need : Need → Transaction → Transaction
with_need n t = record t { got = t.got ++ n ∷ []; written = if is_new_write n t.written then t.written ++ n.node ∷ [] else t.written }

abbrev pub with_line : Line → Transaction → Transaction
with_line l t = record t { lines = t.lines ++ l ∷ [] }

abbrev pub wanting : Need → Transaction → Transaction
wanting n t = record t { wants_journal = t.wants_journal || is_journal n.node.level }

abbrev pub changed : ℕ → (Transaction → Transaction) → Option Transaction → Place → Place
changed s f (Some t) p = record p { transaction = at s (Some (f t)) p.transaction }
changed s f None p = p

abbrev pub pairs_with : Need → Option Transaction → ℕ
pairs_with n (Some t) = if is_new_write n t.written then 1 else 0
pairs_with n None = 0

abbrev pub without_ask : ℕ → Place → Place
without_ask s p = record p { asks = asks_of_others s p.asks }

-- the transaction of s ends
abbrev pub ended : ℕ → Place → Place
ended s p = record p { transaction = at s None p.transaction; asks = asks_of_others s p.asks }

abbrev pub is_first_refused : Option Transaction → Uttered → Reply → Bool
is_first_refused (Some t) item reply = (length t.lines == 0) && (leaves_none item && not (is_done reply))
is_first_refused None item reply = false

-- a commit of a read-write transaction makes its items the next tables
abbrev pub committed_by : List ℕ → ℕ → ℕ → Option Transaction → Place → Place
committed_by word s moment (Some t) p =
    if is_writer t.kind
    then record (ended s p) {
      tables = (retold word p.tables t.lines).tables;
      commits = p.commits ++ record { moment = moment; tables = (retold word p.tables t.lines).tables } ∷ [];
      moment = moment;
      slots = p.slots + (1 + length t.written);
    }
    else record (ended s p) { moment = moment }
committed_by word s moment None p = p

abbrev pub behind_roll_back : ℕ → Due → Option Uttered → Place → Place
behind_roll_back s (rolls_back t) next p = record p { due = nothing }
behind_roll_back s due (Some item) p = record p { due = rollback_reply s }
behind_roll_back s due None p = record p { life = at s over p.life }

abbrev pub recovered_by : List ℕ → ℕ → Bool → ℕ → Place → Place
recovered_by word s true moment p = committed_by word s moment (p.transaction s) p
recovered_by word s false moment p = record (ended s p) { moment = moment }

abbrev pub after : Opening → Place → Event → Place
after o p (Began s kind) = record p { transaction = at s (Some (begun kind p.tables)) p.transaction }
after o p (Wanted s n asked) =
    record (changed s (wanting n) (p.transaction s) p) { asks = p.asks ++ record { session = s; need = n; node = asked } ∷ [] }
after o p (Got s n) =
    record (changed s (with_need n) (p.transaction s) p) {
      asks = asks_of_others s p.asks;
      touched = if is_line n.node.level then p.touched ++ n.node ∷ [] else p.touched;
      pairs = p.pairs + pairs_with n (p.transaction s);
    }
after o p (Demoted s n from to) = p
after o p (Said s item choices reply) =
    record (changed s (with_line (record { item = item; choices = choices; reply = reply })) (p.transaction s) p) {
      said = at s (p.said s + 1) p.said;
      asks = asks_of_others s p.asks;
      due = if is_first_refused (p.transaction s) item reply then rolls_back s else nothing;
    }
after o p (Committed s moment) = record (committed_by o.word s moment (p.transaction s) p) { due = commit_reply s }
after o p (RolledBack s) = behind_roll_back s p.due (next_item o p s) (ended s p)
after o p (Died s cause) = record p { life = at s dead p.life; frozen = p.frozen + 1 }
after o p (Recovered s committed moment) =
    record (recovered_by o.word s committed moment p) { life = at s gone p.life; frozen = p.frozen - 1 }

abbrev pub place_from : Opening → Place → List Event → Place
place_from o p [] = p
place_from o p (e ∷ es) = place_from o (after o p e) es

abbrev pub place : Opening → List Event → Place
place o events = place_from o (start o) events
