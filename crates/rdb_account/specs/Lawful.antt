-- Which session waits for which, and when locks, limits and memory may refuse a statement.
use Rattle.std.specs.Prelude.{◌≡◌, ℕ, zero, suc, Bool, true, false, not, ◌&&◌, ◌||◌, ◌==◌, ◌+◌, ◌-◌, nat_lt, ◌%◌, if◌then◌else◌, List, [], ◌∷◌, length, map, sum_by, Option, Some, None}
use Rattle.std.specs.List.{list_any}
use Rattle.lock_needs.specs.rdb_types.declared.keys.Dbkey.{Dbkey}
use Rattle.rdo_ast.specs.declared.reply.Reply.{Reply}
use Rattle.rdo_ast.specs.declared.reply.Reply.TheVariants as r
use Rattle.rdo_ast.specs.declared.reply.Standing.{Standing}
use Rattle.rdo_ast.specs.declared.reply.Standing.TheVariants.{ReadWrite}
use Rattle.rdo_ast.specs.Tree.{Uttered, said, syntax_fault, invoke, commit, rollback, finish, perform, define_field, define_relation, define_index, delete_relation, delete_index, back_up}
use Rattle.rdb_meaning.specs.declared.tables.Tables.{Tables}
use Rattle.rdb_meaning.specs.Checks.{Refusal, is_retrieval}
use Rattle.rdb_meaning.specs.Meaning.{Meaning, means, meaningless, meaning, standing_refusal}
use Rattle.lock_needs.specs.declared.need.Need.{Need}
use Rattle.lock_needs.specs.declared.party.Asked.{Asked}
use Rattle.lock_needs.specs.Waits.{is_behind}
use Rattle.rdb_account.specs.Places.{Opening, Transaction, Ask, Place, is_done}

-- ---- waits

abbrev pub got_of : Option Transaction → List Need
got_of (Some t) = t.got
got_of None = []

-- the need of the open want
abbrev pub want_in : ℕ → List Ask → Option Need
want_in s [] = None
want_in s (a ∷ as') = if a.session == s then Some a.need else want_in s as'

abbrev pub asked_of : Ask → Asked
asked_of a = record { owner = a.session; node = a.node }

abbrev pub waits_by : Place → ℕ → ℕ → Option Need → Bool
waits_by p s t (Some want) = is_behind (map asked_of p.asks) s want t (got_of (p.transaction t)) (want_in t p.asks)
waits_by p s t None = false

-- s waits for t: its open want conflicts with a need that t has got, or with an open want of t that comes first
abbrev pub waits : Place → ℕ → ℕ → Bool
waits p s t = waits_by p s t (want_in s p.asks)

-- ---- refusals of locks

abbrev pub never_sleeps : Standing → Bool
never_sleeps (ReadWrite wait rs) = not wait
never_sleeps _ = false

abbrev pub is_nowait : Option Transaction → Bool
is_nowait (Some t) = never_sleeps t.kind
is_nowait None = false

-- each waits for the next
abbrev pub is_chain : Place → List ℕ → Bool
is_chain p [] = true
is_chain p (s ∷ []) = true
is_chain p (s ∷ (t ∷ ts)) = waits p s t && is_chain p (t ∷ ts)

abbrev pub ends_with : ℕ → List ℕ → Bool
ends_with s [] = false
ends_with s (t ∷ []) = t == s
ends_with s (t ∷ (u ∷ us)) = ends_with s (u ∷ us)

abbrev pub begins_with : ℕ → List ℕ → Bool
begins_with s [] = false
begins_with s (t ∷ ts) = t == s

abbrev pub is_lawful_cycle : Place → ℕ → List ℕ → Bool
is_lawful_cycle p s cycle =
    begins_with s cycle && (ends_with s cycle && (list_any (λ t. not (t == s)) cycle && is_chain p cycle))

-- ---- limits

abbrev pub is_space_page : ℕ → Bool
is_space_page page = ((page - 1) % 200) == 0

-- the area file of a logical area
abbrev pub file_of : ℕ → ℕ
file_of area = if area == 1 then 1 else (if (area % 2) == 0 then 2 else 3)

abbrev pub is_taken : Opening → Place → ℕ → ℕ → Bool
is_taken o p file page =
    is_space_page page || (o.has_owner file page || list_any (λ n. (file_of n.area == file) && (n.at == page)) p.touched)

abbrev pub all_taken : Opening → Place → ℕ → ℕ → Bool
all_taken o p file zero = true
all_taken o p file (suc page) = is_taken o p file (suc page) && all_taken o p file page

abbrev pub written_by : Option Transaction → ℕ
written_by (Some t) = length t.written
written_by None = 0

-- the part of the journal that another open transaction may take
abbrev pub part_of_other : ℕ → ℕ → Option Transaction → ℕ
part_of_other s t (Some tx) = if tx.wants_journal && not (s == t) then (1 + length tx.written) else 0
part_of_other s t None = 0

abbrev pub sessions : List ℕ
sessions = 1 ∷ 2 ∷ 3 ∷ 4 ∷ 5 ∷ 6 ∷ 7 ∷ 8 ∷ 9 ∷ 10 ∷ 11 ∷ 12 ∷ 13 ∷ 14 ∷ 15 ∷ 16 ∷ []

abbrev pub journal_sum : Place → ℕ → ℕ
journal_sum p s = (1 + p.slots) + (sum_by (λ t. part_of_other s t (p.transaction t)) sessions + (1 + written_by (p.transaction s)))

-- ---- what may stand in place of the reply that an item means

-- storing, modifying, erasing, defining and deleting
abbrev pub is_change : Uttered → Bool
is_change (said (perform a)) = not (is_retrieval a)
is_change (said (define_field n type)) = true
is_change (said (define_relation n fs)) = true
is_change (said (define_index d)) = true
is_change (said (delete_relation n)) = true
is_change (said (delete_index n)) = true
is_change _ = false

abbrev pub is_commit : Uttered → Bool
is_commit (said commit) = true
is_commit _ = false

-- these never wait for a lock that may be refused
abbrev pub never_waits : Uttered → Bool
never_waits (said commit) = true
never_waits (said rollback) = true
never_waits (said finish) = true
never_waits (said (invoke text)) = true
never_waits (said (back_up n)) = true
never_waits _ = false

-- the refusals that come before any need is wanted: by syntax and by the standing
abbrev pub first_refusal : Standing → Uttered → Refusal
first_refusal standing (syntax_fault line column) = Some (r.Syntax line column)
first_refusal standing (said command) = standing_refusal command standing

abbrev pub is_refused_in_work : Reply → Bool
is_refused_in_work r.Overflow = true
is_refused_in_work (r.Duplicate n) = true
is_refused_in_work r.TooLong = true
is_refused_in_work _ = false

-- the first reply may be replaced by the second, which is of a limit
abbrev pub may_replace : Uttered → Reply → Reply → Bool
may_replace item due (r.AreaFull n) = is_change item && (is_done due || is_refused_in_work due)
may_replace item due (r.RujFull n) = is_change item && is_done due
may_replace item due (r.SnapFull n) = is_change item && is_done due
may_replace item due (r.AijFull n) = is_commit item && is_done due
may_replace item due _ = false

-- its cause stands at this place
abbrev pub has_cause : Opening → Place → ℕ → Reply → Bool
has_cause o p s (r.LockConflict t) = is_nowait (p.transaction s) && waits p s t
has_cause o p s (r.Deadlock cycle) = is_lawful_cycle p s cycle
has_cause o p s (r.AreaFull n) = (n == o.limits.pages) && (all_taken o p 1 n || (all_taken o p 2 n || all_taken o p 3 n))
has_cause o p s (r.RujFull n) = (n == o.limits.entries) && nat_lt n (written_by (p.transaction s))
has_cause o p s (r.SnapFull n) = (n == o.limits.snapshots) && nat_lt n p.pairs
has_cause o p s (r.AijFull n) = (n == o.limits.slots) && (nat_lt 0 (written_by (p.transaction s)) && nat_lt n (journal_sum p s))
has_cause o p s r.NoMemory = true
has_cause o p s _ = false

abbrev pub reply_of : Meaning → Option Reply
reply_of (means reply t standing []) = Some reply
reply_of (means reply t standing (k ∷ ks)) = None
reply_of meaningless = None

-- some choice of Dbkeys gives the item a reply that this one may replace
pub record Replaces (word : List ℕ) (standing : Standing) (t : Tables) (item : Uttered) (reply : Reply) : Type 0 where
  pub choices : List Dbkey
  pub due : Reply
  pub meant : reply_of (meaning word standing item choices t) ≡ Some due
  pub allowed : may_replace item due reply ≡ true

-- A reply that stands in place of the one that is meant. Want of memory is free.
abbrev pub IsExcused : Reply → List ℕ → Standing → Tables → Uttered → Type 0
IsExcused r.NoMemory word standing t item = Unit {0}
IsExcused (r.LockConflict s) word standing t item = (first_refusal standing item ≡ None) × (never_waits item ≡ false)
IsExcused (r.Deadlock cycle) word standing t item = (first_refusal standing item ≡ None) × (never_waits item ≡ false)
IsExcused reply word standing t item = Replaces word standing t item reply
