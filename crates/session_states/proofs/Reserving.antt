-- What a START_TRANSACTION reserves is locked before it is said.
use Rattle.std.proofs.Common.{◌≡◌, ℕ, ◌∷◌, [], Bool, true, false, List, refl, sym, subst, Option, Some, None, inl, inr}
use Rattle.std.specs.List.{AllByRecursion, list_any}
use Rattle.std.proofs.lemmas.Bool.{false≢true, or_cases, and_parts}
use Rattle.rdo_ast.specs.declared.reply.Standing.{Standing}
use Rattle.rdo_ast.specs.declared.reply.Standing.TheVariants.{Closed}
use Rattle.rdo_ast.specs.declared.syntax.Item.{Item}
use Rattle.rdo_ast.specs.declared.syntax.Reservation.{Reservation}
use Rattle.rdo_ast.specs.Tree.{Uttered, said, start_read_write}
use Rattle.rdo_ast.specs.Views.{uttered_of}
use Rattle.rdb_types.specs.declared.node.Node.{Node}
use Rattle.rdb_meaning.specs.declared.tables.Relation.{Relation}
use Rattle.rdb_meaning.specs.declared.tables.Tables.{Tables}
use Rattle.rdb_meaning.specs.Contents.{relation_named}
use Rattle.vms_queues.specs.declared.lock_mode.Mode.{Mode}
use Rattle.vms_queues.specs.declared.lock_mode.Mode.TheVariants.{PR}
use Rattle.lock_needs.specs.declared.need.Need.{Need}
use Rattle.lock_needs.specs.Nodes.{same_node, is_on}
use Rattle.lock_needs.proofs.NodeLaws.{same_node-true}
use Rattle.lock_tree_laws.specs.Forest.{opened_of}
use Rattle.rdb_account.specs.Places.{Opening, Place}
use Rattle.rdb_account.specs.AskedFor.{area_node, is_need, is_mode, is_on_catalog, is_reserved, reserved_mode, reservations_ask}
use Rattle.line_view.specs.Held.{Held, knows}
use Rattle.line_view.specs.Knowledge.{Knowledge, Agrees}
use Rattle.line_view.specs.Writes.{laid_all}
use Rattle.line_steps.specs.session_jobs.Records.{Model, IsOrderly}
use Rattle.line_steps.specs.session_jobs.Jobs.{WhereItAgrees, IsFound}
use Rattle.line_steps.specs.session_jobs.declared.jobs.TxRecord.{TxRecord}
use Rattle.line_steps.specs.session_jobs.declared.jobs.Found.TheVariants.{Done}
use Rattle.line_steps.specs.line_history.Transactions.{IsAskedOver}
use Rattle.line_steps.proofs.of_line_history.Needs.{reserved-asked}
use Rattle.line_steps.proofs.of_line_history.Transactions.{holds-now}
use Rattle.line_steps.specs.lock_ties.Ties.{needs_at}
use Rattle.line_steps.specs.Right.{Ground, Writes}
use Rattle.line_steps.specs.Images.{journal_node}
use Rattle.session_states.specs.declared.stage.Work.TheVariants.{Out}
use Rattle.session_states.specs.declared.stage.Laying.TheVariants.{Claiming}
use Rattle.session_states.specs.declared.stage.Stage.TheVariants.{Working, Reserving, Saying}
use Rattle.session_states.specs.declared.stage.Phase.TheVariants.{Writing}
use Rattle.session_states.specs.Locks.{lock_of, AreOffJournal}
use Rattle.session_states.specs.States.{writer, session}
use Rattle.session_states.specs.Shared.{Shared}
use Rattle.session_states.specs.Fits.{AreGot, WantsAtMost}
use Rattle.session_states.specs.Steps.{Finds, Step}
use Rattle.session_states.proofs.Basics.{wants-none, own-none, take-all}
use Rattle.session_states.proofs.Claims.{claimed-none}
use Rattle.session_states.proofs.Locking.{got-none}
use Rattle.session_states.proofs.Resting.{rests-by}

-- ---- the journal isn't reserved

area-off : (area : ℕ) (m : Mode) (n : Need) → is_need (area_node area) m n ≡ true → is_on journal_node n.node ≡ false
area-off area m n h = subst (λ (x : Node). is_on journal_node x ≡ false) (same_node-true (area_node area) n.node (and_parts (same_node (area_node area) n.node) (is_mode m n) h).0) refl

relation-off : (n : Need) (x : Reservation) (r : Option Relation) → is_reserved n x r ≡ true → is_on journal_node n.node ≡ false
relation-off n x (Some r) h = area-off r.area (reserved_mode x.share x.writes) n h
relation-off n x None h = absurd (false≢true h)

any-off : (t : Tables) (n : Need) (xs : List Reservation) → list_any (λ y. is_reserved n y (relation_named y.relation t)) xs ≡ true → is_on journal_node n.node ≡ false
any-off t n [] h = absurd (false≢true h)
any-off t n (x ∷ xs) h = elim (or_cases (is_reserved n x (relation_named x.relation t)) (list_any (λ y. is_reserved n y (relation_named y.relation t)) xs) h) [
  | inl k ↦ relation-off n x (relation_named x.relation t) k
  | inr k ↦ any-off t n xs k
]

reserved-off : (t : Tables) (n : Need) (rs : List Reservation) → reservations_ask t n rs ≡ true → is_on journal_node n.node ≡ false
reserved-off t n [] h = absurd (false≢true h)
reserved-off t n (x ∷ xs) h = elim (or_cases (is_on_catalog PR n) (list_any (λ y. is_reserved n y (relation_named y.relation t)) (x ∷ xs)) h) [
  | inl k ↦ area-off 1 PR n k
  | inr k ↦ any-off t n (x ∷ xs) k
]

module _ (M : Model) (orderly : IsOrderly M) where
  -- each lock is asked for
  all-asked : (wait : Bool) (rs : List Reservation) (item : Uttered) (known : Knowledge) (locks : List Need) → item ≡ said (start_read_write wait rs) → AllByRecursion (λ n. WhereItAgrees M known (λ t. reservations_ask t n rs ≡ true)) locks →
      AllByRecursion (IsAskedOver M Closed (Some item) known) locks
  all-asked wait rs item known [] is h = tt
  all-asked wait rs item known (n ∷ ns) is h = (subst (λ (i : Uttered). IsAskedOver M Closed (Some i) known n) (sym is) (reserved-asked M wait rs known n h.0), all-asked wait rs item known ns is h.1)

  -- over the lines that the session sees
  all-off : (o : Opening) (p : Place) (g : Ground) (s : ℕ) (rs : List Reservation) (known : Knowledge) (under : Option Uttered) → (w : Writes M o p g s Closed under) → M g.now p.tables → (g.desk s).known ≡ known → (ns : List Need) → AllByRecursion (λ n. WhereItAgrees M known (λ t. reservations_ask t n rs ≡ true)) ns → AreOffJournal ns
  all-off o p g s rs known under w stands is [] h = tt
  all-off o p g s rs known under w stands is (n ∷ ns) h =
      let leads = holds-now M orderly o.word w.transaction.got g.now w.transaction.lines (g.desk s).writes Closed p.tables stands w.is.holds in (
        reserved-off leads.then n rs (h.0 (laid_all (g.desk s).writes g.now) leads.then leads.stands (subst (λ (k : Knowledge). Agrees k (laid_all (g.desk s).writes g.now)) is w.is.agrees)),
        all-off o p g s rs known under w stands is ns h.1,
      )

  pub reserves-on : (s : ℕ) (c : Shared) (left : List Item) (total : ℕ) (known : Held) (spoken waits : Bool) (item : Item) (r : TxRecord) (wait : Bool) (rs : List Reservation) (locks : List Need) → uttered_of item ≡ said (start_read_write wait rs) →
      IsFound M c.word Closed (uttered_of item) (knows known) (Done r) → AllByRecursion (λ n. WhereItAgrees M (knows known) (λ t. reservations_ask t n rs ≡ true)) locks →
      Step M s c (session left total (Writing (writer Closed known spoken waits (Working item Out)))) c (session left total (Writing (writer Closed known spoken waits (Reserving item r locks 0)))) []
  reserves-on s c left total known spoken waits item r wait rs locks is found asked =
      rests-by M orderly s c left total (Writing (writer Closed known spoken waits (Working item Out))) (Writing (writer Closed known spoken waits (Reserving item r locks 0))) refl
      (λ o p g f. record {
        desk = f.fits.phase.desk;
        spoken = f.fits.phase.spoken;
        waits = f.fits.phase.waits;
        stage = (f.fits.phase.stage.0, record { record_is = found; asked = all-asked wait rs (uttered_of item) (knows known) locks is asked; reserved = got-none (needs_at p s) locks; off = all-off o p g s rs (knows known) (Some (uttered_of item)) f.here.stands.state f.here.fit.stands f.fits.phase.desk.0 locks asked });
        wants = wants-none (lock_of (Reserving item r locks 0)) (opened_of c.locks s) f.fits.phase.wants;
        journal = f.fits.phase.journal;
        ends = tt;
        claims = tt;
      })

  -- all that it reserves is locked, and its record is said
  pub reserved-on : (s : ℕ) (c : Shared) (left : List Item) (total : ℕ) (standing : Standing) (known : Held) (spoken waits : Bool) (item : Item) (r : TxRecord) (locks : List Need) (place : ℕ) → lock_of (Reserving item r locks place) ≡ None →
      Step M s c (session left total (Writing (writer standing known spoken waits (Reserving item r locks place)))) c (session left total (Writing (writer standing known spoken waits (Saying item r (Claiming 0))))) []
  reserved-on s c left total standing known spoken waits item r locks place needless =
      rests-by M orderly s c left total (Writing (writer standing known spoken waits (Reserving item r locks place))) (Writing (writer standing known spoken waits (Saying item r (Claiming 0)))) refl
      (λ o p g f. record {
        desk = f.fits.phase.desk;
        spoken = f.fits.phase.spoken;
        waits = f.fits.phase.waits;
        stage = (f.fits.phase.stage.0, (f.fits.phase.stage.1.record_is, own-none (needs_at p s) r.writes));
        wants = wants-none (lock_of (Saying item r (Claiming 0))) (opened_of c.locks s) (subst (λ l. WantsAtMost l (opened_of c.locks s)) needless f.fits.phase.wants);
        journal = f.fits.phase.journal;
        ends = tt;
        claims = claimed-none p s r.writes;
      })

  pub all-reserved : (s : ℕ) (c : Shared) (left : List Item) (total : ℕ) (standing : Standing) (known : Held) (spoken waits : Bool) (item : Item) (r : TxRecord) (locks : List Need) (place : ℕ) → lock_of (Reserving item r locks place) ≡ None →
      (o : Opening) (p : Place) (g : Ground) → Finds M o p g c s (session left total (Writing (writer standing known spoken waits (Reserving item r locks place)))) → AreGot (needs_at p s) locks
  all-reserved s c left total standing known spoken waits item r locks place needless o p g f = subst (AreGot (needs_at p s)) (take-all locks place needless) f.fits.phase.stage.1.reserved
