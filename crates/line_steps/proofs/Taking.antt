-- A read-write transaction begins, takes up its next statement, and learns; and a notice is served.
use Rattle.std.proofs.Common.{◌≡◌, ℕ, ◌∷◌, [], true, List, refl, sym, subst, Option, Some, None}
use Rattle.std.proofs.lemmas.Bool.{false≢true, and_from}
use Rattle.vms_queues.specs.declared.lock_mode.Mode.{Mode}
use Rattle.rdb_types.specs.declared.node.Node.{Node}
use Rattle.rdo_ast.specs.declared.reply.Standing.{Standing}
use Rattle.rdo_ast.specs.declared.reply.Standing.TheVariants.{Closed}
use Rattle.rdo_ast.specs.Tree.{Uttered}
use Rattle.line_view.specs.Knowledge.{Knowledge, Lines, Agrees}
use Rattle.line_view.specs.Writes.{laid_all}
use Rattle.rdb_account.specs.Events.{Began, Demoted}
use Rattle.rdb_account.specs.Places.{Opening, Place, Transaction, at, begins, begun, is_writer}
use Rattle.rdb_account.specs.Lawful.{got_of}
use Rattle.rdb_account.specs.Legal.{is_ready, has_writer}
use Rattle.line_history.specs.kept_apart.Alike.{IsGuarded}
use Rattle.line_history.proofs.of_kept_apart.Alike.{alike-refl}
use Rattle.line_history.specs.session_jobs.Records.{Model, IsOrderly}
use Rattle.line_history.specs.Transactions.{IsWriting}
use Rattle.line_history.proofs.Transactions.{holds-fresh, writing-learns}
use Rattle.line_steps.specs.Members.{outside, writing, Member, member}
use Rattle.lock_ties.specs.Ties.{needs_at}
use Rattle.line_steps.specs.Right.{Desk, Ground, with_desk, Stands}
use Rattle.line_steps.specs.Steps.{Here, Steps}
use Rattle.lock_ties.proofs.Places.{at-same}
use Rattle.line_steps.proofs.Common.{ready, none-begun, next-is, stands-silent, apart-none, fit-with, desk-same, desk-other}

module _ (M : Model) (orderly : IsOrderly M) where
  -- ---- no event: a statement is taken up, more is known

  -- the next item of a session in a read-write transaction is its statement now
  pub takes-up : (o : Opening) (p : Place) (g : Ground) (s : ℕ) (item : Uttered) (left : List Uttered) (total : ℕ) (standing : Standing) →
      Here M o p g s (member (item ∷ left) (writing standing None) total) → Steps M o p g s (member left (writing standing (Some item)) total) g []
  takes-up o p g s item left total standing h =
      let w = h.stands.state in
      record {
        may = tt;
        own = tt;
        to = p;
        leads = refl;
        settled = h.free;
        fit = h.fit;
        stands = stands-silent M o p p g g s (member (item ∷ left) (writing standing None) total) (member left (writing standing (Some item)) total) h.stands refl refl refl h.stands.lives
            (record { transaction = w.transaction; is_open = w.is_open; writes = w.writes; spoken = λ none. absurd (none-begun w.transaction.kind (w.spoken none)); remains = w.remains; is = w.is });
        desks = λ t other. refl;
        alike = λ t other. alike-refl (needs_at p t) g.now;
      }

  -- what it knows is more, or less, and still agrees
  pub learns : (o : Opening) (p : Place) (g : Ground) (s : ℕ) (left : List Uttered) (total : ℕ) (standing : Standing) (under : Option Uttered) (new : Knowledge) →
      Here M o p g s (member left (writing standing under) total) → IsGuarded (needs_at p s) new → Agrees new (laid_all (g.desk s).writes g.now) →
      Steps M o p g s (member left (writing standing under) total) (with_desk s (record { known = new; writes = (g.desk s).writes; start = (g.desk s).start }) g) []
  learns o p g s left total standing under new h guarded agrees =
      let w = h.stands.state in
      let x = w.transaction in
      let d : Desk = record { known = new; writes = (g.desk s).writes; start = (g.desk s).start } in
      record {
        may = tt;
        own = tt;
        to = p;
        leads = refl;
        settled = h.free;
        fit = record { dead = h.fit.dead; past = h.fit.past; order = h.fit.order; stands = h.fit.stands; apart = h.fit.apart };
        stands = stands-silent M o p p g (with_desk s d g) s (member left (writing standing under) total) (member left (writing standing under) total) h.stands refl refl refl h.stands.lives
            (record {
              transaction = x;
              is_open = w.is_open;
              writes = w.writes;
              spoken = w.spoken;
              remains = w.remains;
              is = subst (λ (e : Desk). IsWriting M o.word x.got g.now x.lines e.writes standing e.known) (sym (desk-same s d g))
                  (writing-learns M orderly o.word x.got x.got g.now x.lines (g.desk s).writes standing (g.desk s).known new w.is (λ n e. e) w.is.own
                  (subst (λ (y : Option Transaction). IsGuarded (got_of y) new) w.is_open guarded) agrees);
            });
        desks = desk-other s d g;
        alike = λ t other. alike-refl (needs_at p t) g.now;
      }

  -- a notice brought down a lock of a read-write transaction
  pub notice-served : (o : Opening) (p : Place) (g : Ground) (s : ℕ) (m : Member) (u : ℕ) (n : Node) (from to : Mode) (left : List Uttered) (total : ℕ) (standing : Standing) (under : Option Uttered) → Here M o p g s m → Stands M o p g u (member left (writing standing under) total) →
      Steps M o p g s m g (Demoted u n from to ∷ [])
  notice-served o p g s m u n from to left total standing under h k = record {
    may = (and_from (is_ready p u) (has_writer (p.transaction u)) (ready p u h.awake h.free k.lives) (rw k.state.is_open k.state.writes), tt);
    own = (tt, tt);
    to = p;
    leads = refl;
    settled = h.free;
    fit = h.fit;
    stands = h.stands;
    desks = λ t other. refl;
    alike = λ t other. alike-refl (needs_at p t) g.now;
  }

  -- ---- a read-write transaction begins

  abbrev fresh_desk : Knowledge → Lines → Desk
  fresh_desk known start = record { known = known; writes = []; start = start }

  abbrev pub behind_began : Standing → Place → ℕ → Place
  behind_began kind p s = record p { transaction = at s (Some (begun kind p.tables)) p.transaction }

  pub begins-writing : (o : Opening) (p : Place) (g : Ground) (s : ℕ) (item : Uttered) (left : List Uttered) (total : ℕ) (kind : Standing) (known : Knowledge) →
      Here M o p g s (member (item ∷ left) outside total) → begins item ≡ Some kind → is_writer kind ≡ true → IsGuarded [] known → Agrees known g.now →
      Steps M o p g s (member left (writing Closed (Some item)) total) (with_desk s (record { known = known; writes = []; start = g.now }) g) (Began s kind ∷ [])
  begins-writing o p g s item left total kind known h begins_so writes guarded agrees =
      let d : Desk = record { known = known; writes = []; start = g.now } in
      let m = member (item ∷ left) outside total in
      record {
        may = ((ready p s h.awake h.free h.stands.lives, h.stands.state, rw (next-is M o p g s m item left h.stands refl) begins_so), tt);
        own = (refl, tt);
        to = behind_began kind p s;
        leads = refl;
        settled = h.free;
        fit = fit-with M p (behind_began kind p s) g (with_desk s d g) s (Some (begun kind p.tables)) refl h.fit.dead h.fit.past h.fit.order h.fit.stands (λ t other. apart-none p t) h.fit;
        stands = stands-silent M o p (behind_began kind p s) g (with_desk s d g) s m (member left (writing Closed (Some item)) total) h.stands refl refl refl h.stands.lives
            (record {
              transaction = begun kind p.tables;
              is_open = at-same s (Some (begun kind p.tables)) p.transaction;
              writes = writes;
              spoken = λ none. (item, refl, begins_so);
              remains = λ some. absurd (false≢true (sym some));
              is = subst (λ (e : Desk). IsWriting M o.word [] g.now [] e.writes Closed e.known) (sym (desk-same s d g))
                  (record { holds = holds-fresh M orderly o.word [] g.now; own = tt; guarded = guarded; agrees = agrees });
            });
        desks = desk-other s d g;
        alike = λ t other. alike-refl (needs_at p t) g.now;
      }
