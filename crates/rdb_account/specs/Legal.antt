-- Which accounts are legal: what may happen at a place, event by event.
use Rattle.std.specs.Prelude.{◌≡◌, ◌≤◌, ℕ, Bool, true, false, not, ◌&&◌, ◌||◌, ◌==◌, List, [], ◌∷◌, length, Option, Some, None}
use Rattle.rdo_ast.specs.declared.reply.Reply.{Reply}
use Rattle.rdo_ast.specs.declared.reply.Reply.TheVariants as r
use Rattle.rdo_ast.specs.declared.reply.Standing.{Standing}
use Rattle.rdo_ast.specs.declared.reply.Standing.TheVariants.{Closed, ReadOnly}
use Rattle.rdo_ast.specs.Tree.{Uttered, said, commit, rollback, back_up}
use Rattle.rdb_meaning.specs.declared.tables.Tables.{Tables}
use Rattle.rdb_meaning.specs.Meaning.{meaning}
use Rattle.rdb_meaning.specs.Usual.{is_refusal_of_means}
use Rattle.lock_needs.specs.rdb_types.declared.session.Cause.{Cause}
use Rattle.lock_needs.specs.rdb_types.declared.session.Cause.TheVariants as cause
use Rattle.rdb_account.specs.Events.{Event, Began, Wanted, Got, Demoted, Said, Committed, RolledBack, Died, Recovered}
use Rattle.std.specs.List.{list_all}
use Rattle.lock_needs.specs.declared.need.Need.{Need}
use Rattle.lock_needs.specs.Nodes.{is_on}
use Rattle.rdb_account.specs.Places.{Opening, Place, Transaction, Line, Ask, Life, living, over, dead, Due, nothing, commit_reply, rollback_reply, rolls_back, start, after, place, next_item, begins, is_done, is_writer, retold, IsTold}
use Rattle.rdb_account.specs.Lawful.{reply_of, IsExcused, has_cause}
use Rattle.rdb_account.specs.AskedFor.{is_need, IsAskedFor, IsApart}

-- ---- replies

abbrev pub IsReplyBy : Bool → Opening → Place → ℕ → Standing → Tables → Line → Type 0
-- the reply that the item means
IsReplyBy false o p s standing t l = reply_of (meaning o.word standing l.item l.choices t) ≡ Some l.reply
-- or a refusal by locks, limits or memory that may stand in its place and has its cause here
IsReplyBy true o p s standing t l = IsExcused l.reply o.word standing t l.item × (has_cause o p s l.reply ≡ true)

-- from this standing and these tables the line has a reply that it may have at this place
abbrev pub IsReply : Opening → Place → ℕ → Standing → Tables → Line → Type 0
IsReply o p s standing t l = IsReplyBy (is_refusal_of_means l.reply) o p s standing t l

-- a COMMIT or ROLLBACK that is done ends its transaction, and stands behind the event that does so
abbrev pub ends_by : Uttered → Bool
ends_by (said commit) = true
ends_by (said rollback) = true
ends_by _ = false

-- and so does an online backup, which began that transaction
abbrev pub ends_its_own : Uttered → Bool
ends_its_own (said (back_up n)) = true
ends_its_own item = ends_by item

abbrev pub standing_of_reader : List Line → Standing
standing_of_reader [] = Closed
standing_of_reader (l ∷ ls) = ReadOnly

-- what begins a transaction is said in it, unless no memory was found
abbrev pub may_be_outside : Option Standing → Reply → Bool
may_be_outside None reply = true
may_be_outside (Some kind) r.NoMemory = true
may_be_outside (Some kind) _ = false

-- in a read-write transaction: what was said stands over the tables of the commits so far, and the line goes on from there.
-- In a read-only one: over the tables at its start. Outside: without standing.
abbrev pub IsAnsweredIn : Opening → Place → ℕ → Bool → Transaction → Line → Type 0
IsAnsweredIn o p s true t l =
    IsTold o.word p.tables t.lines × IsReply o p s (retold o.word p.tables t.lines).standing (retold o.word p.tables t.lines).tables l
IsAnsweredIn o p s false t l = IsReply o p s (standing_of_reader t.lines) t.base l

abbrev pub IsAnswered : Opening → Place → ℕ → Option Transaction → Line → Type 0
IsAnswered o p s (Some t) l = IsAnsweredIn o p s (is_writer t.kind) t l
IsAnswered o p s None l = IsReply o p s Closed p.tables l × (may_be_outside (begins l.item) l.reply ≡ true)

-- ---- the order of events

abbrev pub is_living : Life → Bool
is_living living = true
is_living _ = false

abbrev pub is_dead : Life → Bool
is_dead dead = true
is_dead _ = false

abbrev pub has_not_died : Life → Bool
has_not_died living = true
has_not_died over = true
has_not_died _ = false

-- nobody is dead and not recovered, nothing must come next, and s lives
abbrev pub is_free : Due → Bool
is_free nothing = true
is_free _ = false

abbrev pub is_ready : Place → ℕ → Bool
is_ready p s = (p.frozen == 0) && (is_free p.due && is_living (p.life s))

abbrev pub has_writer : Option Transaction → Bool
has_writer (Some t) = is_writer t.kind
has_writer None = false

abbrev pub has_none : Option Transaction → Bool
has_none (Some t) = false
has_none None = true

abbrev pub is_committing : Option Uttered → Bool
is_committing (Some (said commit)) = true
is_committing _ = false

abbrev pub is_rolling_back : Option Uttered → Bool
is_rolling_back (Some (said rollback)) = true
is_rolling_back _ = false

abbrev pub is_backing_up : Option Uttered → Bool
is_backing_up (Some (said (back_up n))) = true
is_backing_up _ = false

abbrev pub is_at_end : Option Uttered → Bool
is_at_end (Some item) = false
is_at_end None = true

-- s may die of this: of a stop where its script has come to one, of another cause where it is let
abbrev pub may_die_of : Opening → Place → ℕ → Cause → Bool
may_die_of o p s cause.Device = o.may_die s cause.Device
may_die_of o p s cause.Gate = o.may_die s cause.Gate
may_die_of o p s cause.Stop = o.stops s && is_at_end (next_item o p s)
may_die_of o p s cause.Memory = o.may_die s cause.Memory

abbrev pub MaySay : Due → Opening → Place → ℕ → Line → Type 0
MaySay nothing o p s l =
    (is_ready p s ≡ true) × ((ends_its_own l.item && is_done l.reply) ≡ false) × IsAnswered o p s (p.transaction s) l
MaySay (commit_reply t) o p s l = (s ≡ t) × (l.choices ≡ []) × (l.reply ≡ r.Done [])
MaySay (rollback_reply t) o p s l = (s ≡ t) × (l.choices ≡ []) × (l.reply ≡ r.Done [])
MaySay (rolls_back t) o p s l = ⊥

abbrev pub MayRollBack : Due → Opening → Place → ℕ → Type 0
MayRollBack nothing o p s =
    (is_ready p s ≡ true) × (has_none (p.transaction s) ≡ false) × ((is_at_end (next_item o p s) || is_rolling_back (next_item o p s)) ≡ true)
MayRollBack (rolls_back t) o p s = s ≡ t
MayRollBack (commit_reply t) o p s = ⊥
MayRollBack (rollback_reply t) o p s = ⊥

-- The items of a read-write transaction stand over the tables of the commits so far. A read-only one in which nothing was said also ends with its online backup.
abbrev pub MayCommitAs : Bool → Opening → Place → ℕ → Transaction → Type 0
MayCommitAs true o p s t = IsTold o.word p.tables t.lines × (is_committing (next_item o p s) ≡ true)
MayCommitAs false o p s t = (is_committing (next_item o p s) || (is_backing_up (next_item o p s) && (length t.lines == 0))) ≡ true

abbrev pub MayCommitBy : Opening → Place → ℕ → Option Transaction → Type 0
MayCommitBy o p s None = ⊥
MayCommitBy o p s (Some t) = MayCommitAs (is_writer t.kind) o p s t

abbrev pub MayRecover : Bool → Opening → Place → ℕ → Option Transaction → Type 0
MayRecover false o p s t = Unit {0}
MayRecover true o p s (Some t) = (is_writer t.kind ≡ true) × IsTold o.word p.tables t.lines × (is_committing (next_item o p s) ≡ true)
MayRecover true o p s None = ⊥

abbrev pub begins_at : Option Uttered → Option Standing
begins_at (Some item) = begins item
begins_at None = None

-- a session that has a want open asks for no other need
abbrev pub is_one_want : ℕ → Need → List Ask → Bool
is_one_want s n asks = list_all (λ a. is_need a.need.node a.need.mode n || not (a.session == s)) asks

-- The event may come at this place.
abbrev pub May : Opening → Place → Event → Type 0
May o p (Began s kind) =
    (is_ready p s ≡ true) × (p.transaction s ≡ None) × (begins_at (next_item o p s) ≡ Some kind)
May o p (Wanted s n asked) =
    (is_ready p s ≡ true) × (has_writer (p.transaction s) ≡ true) × ((is_on asked n.node && is_one_want s n p.asks) ≡ true) × IsAskedFor o p s n
May o p (Got s n) = (is_ready p s ≡ true) × (has_writer (p.transaction s) ≡ true) × IsAskedFor o p s n × IsApart p s n
May o p (Demoted s n from to) = (is_ready p s && has_writer (p.transaction s)) ≡ true
May o p (Said s item choices reply) =
    (next_item o p s ≡ Some item) × MaySay p.due o p s (record { item = item; choices = choices; reply = reply })
May o p (Committed s moment) = (is_ready p s ≡ true) × (p.moment ≤ moment) × MayCommitBy o p s (p.transaction s)
May o p (RolledBack s) = MayRollBack p.due o p s
May o p (Died s c) = ((is_free p.due && has_not_died (p.life s)) ≡ true) × (may_die_of o p s c ≡ true)
May o p (Recovered s committed moment) =
    ((is_free p.due && is_dead (p.life s)) ≡ true) × (p.moment ≤ moment) × MayRecover committed o p s (p.transaction s)

-- each event may come at the place that those before it lead to
abbrev pub MayFollow : Opening → Place → List Event → Type 0
MayFollow o p [] = Unit {0}
MayFollow o p (e ∷ es) = May o p e × MayFollow o (after o p e) es

-- The account is legal and says the scripts' items in order. What must come next has come.
pub record IsLegal (o : Opening) (events : List Event) : Type 0 where
  pub steps : MayFollow o (start o) events
  pub settled : is_free (place o events).due ≡ true

-- These sessions live, have said their scripts to their ends, at which no stop stands, and have no transaction open.
abbrev pub AreWhole : (ℕ → Bool) → Opening → List Event → Type 0
AreWhole ended o events =
    (s : ℕ) → ended s ≡ true →
    (has_not_died ((place o events).life s) ≡ true) × ((place o events).said s ≡ length (o.script s)) × ((place o events).transaction s ≡ None) × (o.stops s ≡ false)
