-- What a START_TRANSACTION reserves, and the step that keeps its record.
use Rattle.std.proofs.Common.{◌≡◌, ℕ, zero, suc, Bool, true, false, [], ◌∷◌, List, sym, ap, subst, Option, Some, slice_get}
use Rattle.std.specs.Prelude.{MatchOption}
use Rattle.std.proofs.lemmas.Option.{none-some, same_Some}
use Rattle.rdo_ast.specs.declared.reply.Standing.{Standing}
use Rattle.rdo_ast.specs.declared.reply.Standing.TheVariants.{Closed}
use Rattle.rdo_ast.specs.declared.syntax.Item.{Item}
use Rattle.rdo_ast.specs.declared.syntax.Reservation.{Reservation}
use Rattle.rdo_ast.specs.Tree.{said, start_read_write}
use Rattle.rdo_ast.specs.Views.{uttered_of}
use Rattle.rdb_types.specs.declared.node.Node.{Node}
use Rattle.rdb_types.specs.declared.node.Level.{Level}
use Rattle.rdb_types.specs.declared.node.Level.TheVariants.{Area}
use Rattle.lock_needs.specs.declared.need.Need.{Need}
use Rattle.lock_needs.specs.Needs.{is_plain, is_plain_at}
use Rattle.lock_needs.specs.Nodes.{is_on}
use Rattle.line_steps.specs.Images.{journal_node}
use Rattle.line_view.specs.Held.{knows}
use Rattle.session_jobs.specs.Records.{Model, IsOrderly}
use Rattle.session_jobs.specs.Jobs.{IsFound, IsLacking, WhereItAgrees}
use Rattle.session_jobs.specs.declared.jobs.Found.TheVariants.{Done, Missing}
use Rattle.session_jobs.specs.declared.jobs.TxRecord.{TxRecord}
use Rattle.line_view.specs.declared.need.Need.{Need as LineNeed}
use Rattle.reserved_locks.specs.declared.locks.Unnamed.TheVariants.{Lacking}
use Rattle.reserved_locks.specs.Reserved.{AreLocksOf, AreOnAreas, IsUnnamed}
use Rattle.reserved_locks.proofs.Asked.{locks-asked}
use Rattle.gathering_steps.specs.session_states.declared.stage.Work.TheVariants.{Out}
use Rattle.gathering_steps.specs.session_states.declared.stage.Stage.TheVariants.{Working, Reserving}
use Rattle.gathering_steps.specs.session_states.Shared.{Shared}
use Rattle.gathering_steps.proofs.of_session_states.Reserving.{reserves-on}
use Rattle.gathering_steps.specs.stage_steps.declared.terms.Terms.{Terms}
use Rattle.gathering_steps.specs.stage_steps.Turns.{Comes, at_stage}
use Rattle.job_steps.specs.Reserved.{IsReserved}

module _ (M : Model) (orderly : IsOrderly M) where
  pub reserved-of : (t : Terms) (item : Item) (wait : Bool) (rs : List Reservation) (locks : List Need) → uttered_of item ≡ said (start_read_write wait rs) → t.standing ≡ Closed →
      WhereItAgrees M (knows t.known) (λ u. AreLocksOf rs u locks) → AreOnAreas locks → IsReserved M t item locks
  reserved-of t item wait rs locks is closed named areas = record { wait = wait; reserved = rs; begins = is; closed = closed; asked = locks-asked M orderly (knows t.known) rs locks named; areas = areas }

  -- what isn't known of them is lacked by its job
  pub lacks-one : (t : Terms) (item : Item) (wait : Bool) (rs : List Reservation) (need : LineNeed) → uttered_of item ≡ said (start_read_write wait rs) → t.standing ≡ Closed → IsUnnamed M (knows t.known) rs (Lacking need) →
      WhereItAgrees M (knows t.known) (λ u. IsLacking t.standing (uttered_of item) (knows t.known) u need)
  lacks-one t item wait rs need is closed h = λ all u stands agrees. rw (is, closed) (h wait all u stands agrees)

  pub lacking-found : (word : List ℕ) (t : Terms) (item : Item) (need : LineNeed) (later : List LineNeed) → later ≡ [] → WhereItAgrees M (knows t.known) (λ u. IsLacking t.standing (uttered_of item) (knows t.known) u need) →
      IsFound M word t.standing (uttered_of item) (knows t.known) (Missing need later)
  lacking-found word t item need later none h = subst (λ (ns : List LineNeed). IsFound M word t.standing (uttered_of item) (knows t.known) (Missing need ns)) (sym none) (λ all u stands agrees. (h all u stands agrees, tt))

  pub reserved-in : (t : Terms) (item : Item) (found : Option (List Need)) (locks : List Need) → found ≡ Some locks → MatchOption found (Unit {0}) (λ ls. IsReserved M t item ls) → IsReserved M t item locks
  reserved-in t item found locks is h = subst (λ (f : Option (List Need)). MatchOption f (Unit {0}) (λ ls. IsReserved M t item ls)) is h

  -- its locks are wanted
  pub reserves-kept : (s : ℕ) (c : Shared) (t : Terms) (item : Item) (r : TxRecord) (locks : List Need) → IsReserved M t item locks → IsFound M c.word t.standing (uttered_of item) (knows t.known) (Done r) →
      Comes M s c (at_stage t (Working item Out)) c (at_stage t (Reserving item r locks 0)) []
  reserves-kept s c t item r locks is found = by t.standing is.closed found
    where
      by : (standing : Standing) → standing ≡ Closed → IsFound M c.word standing (uttered_of item) (knows t.known) (Done r) →
          Comes M s c (at_stage (record t { standing = standing }) (Working item Out)) c (at_stage (record t { standing = standing }) (Reserving item r locks 0)) []
      by standing e f = subst (λ (x : Standing). IsFound M c.word x (uttered_of item) (knows t.known) (Done r) → Comes M s c (at_stage (record t { standing = x }) (Working item Out)) c (at_stage (record t { standing = x }) (Reserving item r locks 0)) []) (sym e)
          (λ h left total. reserves-on M orderly s c left total t.known t.spoken t.waits item r is.wait is.reserved locks is.begins h is.asked) f

-- ---- a lock on an area

pub area-at : (locks : List Need) (place : ℕ) (n : Need) → AreOnAreas locks → slice_get locks place ≡ Some n → n.node.level ≡ Area
area-at [] place n are at = absurd (none-some n at)
area-at (m ∷ ms) zero n are at = subst (λ (x : Need). x.node.level ≡ Area) (same_Some m n at) are.0
area-at (m ∷ ms) (suc place) n are at = area-at ms place n are.1 at

pub plain-on-area : (n : Need) → n.node.level ≡ Area → is_plain n ≡ true
plain-on-area n e = ap (λ (l : Level). is_plain_at l n.mode) e

pub off-journal : (n : Node) → n.level ≡ Area → is_on journal_node n ≡ false
off-journal n e = ap (λ (l : Level). is_on journal_node (record { level = l; area = n.area; at = n.at; line = n.line })) e
