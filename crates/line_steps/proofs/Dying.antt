-- A session dies, and is recovered.
use Rattle.std.proofs.Common.{◌≡◌, ◌≤◌, ℕ, ◌+◌, ◌-◌, ◌++◌, ◌∷◌, [], true, false, List, length, refl, sym, ap, subst, Option, Some, None}
use Rattle.rdb_types.specs.declared.session.Cause.{Cause}
use Rattle.rdo_ast.specs.declared.reply.Standing.{Standing}
use Rattle.rdo_ast.specs.Tree.{Uttered, said, commit}
use Rattle.line_view.specs.Writes.{laid_all}
use Rattle.rdb_account.specs.Events.{Died, Recovered}
use Rattle.rdb_account.specs.Places.{Opening, Place, Transaction, dead, gone, at, after, is_writer, retold, asks_of_others}
use Rattle.rdb_account.specs.Lawful.{got_of}
use Rattle.rdb_account.specs.Legal.{has_not_died, may_die_of}
use Rattle.line_history.specs.kept_apart.Guards.{AreOwn}
use Rattle.line_history.proofs.of_kept_apart.Alike.{alike-refl, alike-others, laid-all-in-order}
use Rattle.line_history.specs.session_jobs.Records.{Model, IsOrderly}
use Rattle.line_history.proofs.Transactions.{stands-told, commit-stands}
use Rattle.line_steps.specs.Members.{State, writing, fallen, recovered, Member, member, left_of, life_of}
use Rattle.lock_ties.specs.Ties.{needs_at}
use Rattle.line_steps.specs.Right.{Desk, Ground, with_dead, at_recovery}
use Rattle.line_steps.specs.Steps.{Found, Steps}
use Rattle.lock_ties.proofs.Places.{at-same}
use Rattle.line_steps.proofs.Common.{next-is, stands-silent, apart-none, fit-with}
use Rattle.lock_ties.proofs.Places.{at-other}
use Rattle.line_steps.proofs.Kept.{stands-on}

module _ (M : Model) (orderly : IsOrderly M) where
  abbrev behind_death : Place → ℕ → Place
  behind_death p s = record p { life = at s dead p.life; frozen = p.frozen + 1 }

  -- It stands where it stood, and nothing of the others changes.
  pub dies : (o : Opening) (p : Place) (g : Ground) (s : ℕ) (left : List Uttered) (state : State) (total : ℕ) (c : Cause) → (h : Found M o p g s (member left state total)) →
      has_not_died (life_of state) ≡ true → may_die_of o p s c ≡ true → Steps M o p g s (member left (fallen state) total) (with_dead (g.dead + 1) g) (Died s c ∷ [])
  dies o p g s left state total c h lives allowed = record {
    may = ((rw h.free (rw h.stands.lives lives), allowed), tt);
    own = (refl, tt);
    to = behind_death p s;
    leads = refl;
    settled = h.free;
    fit = record { dead = ap (λ n. n + 1) h.fit.dead; past = h.fit.past; order = h.fit.order; stands = h.fit.stands; apart = h.fit.apart };
    stands = stands-silent M o p (behind_death p s) g (with_dead (g.dead + 1) g) s (member left state total) (member left (fallen state) total) h.stands refl refl refl (at-same s dead p.life)
        (stands-on M orderly o p (behind_death p s) g (with_dead (g.dead + 1) g) s left state refl refl h.fit.order h.fit.order (alike-refl (needs_at p s) g.now) h.stands.state);
    desks = λ t other. refl;
    alike = λ t other. alike-refl (needs_at p t) g.now;
  }

  abbrev behind_undone : Place → ℕ → ℕ → Place
  behind_undone p s moment = record p { transaction = at s None p.transaction; asks = asks_of_others s p.asks; moment = moment; life = at s gone p.life; frozen = p.frozen - 1 }

  -- What was left of its script is not said any more; it stays in what the session has left.
  pub recovers-undone : (o : Opening) (p : Place) (g : Ground) (s : ℕ) (m : Member) (state : State) (d : Desk) (moment time : ℕ) → (h : Found M o p g s m) → m.state ≡ fallen state → p.moment ≤ moment → moment ≤ time →
      Steps M o p g s (member (left_of m) recovered m.total) (at_recovery s g.now d time (g.dead - 1) g) (Recovered s false moment ∷ [])
  recovers-undone o p g s m state d moment time h is past later =
      let k = at_recovery s g.now d time (g.dead - 1) g in
      record {
        may = ((rw h.free (rw h.stands.lives (rw is refl)), past, tt), tt);
        own = (refl, tt);
        to = behind_undone p s moment;
        leads = refl;
        settled = h.free;
        fit = fit-with M p (behind_undone p s moment) g k s None refl (ap (λ n. n - 1) h.fit.dead) later h.fit.order h.fit.stands (λ t other. apart-none p t) h.fit;
        stands = stands-silent M o p (behind_undone p s moment) g k s m (member (left_of m) recovered m.total) h.stands refl refl refl (at-same s gone p.life) (at-same s None p.transaction);
        desks = λ t other. at-other s t d g.desk other;
        alike = λ t other. alike-refl (needs_at p t) g.now;
      }

  abbrev behind_recovered : Opening → Place → ℕ → Transaction → ℕ → Place
  behind_recovered o p s x moment = record p {
    transaction = at s None p.transaction;
    asks = asks_of_others s p.asks;
    tables = (retold o.word p.tables x.lines).tables;
    commits = p.commits ++ record { moment = moment; tables = (retold o.word p.tables x.lines).tables } ∷ [];
    moment = moment;
    slots = p.slots + (1 + length x.written);
    life = at s gone p.life;
    frozen = p.frozen - 1;
  }

  recovered-place : (o : Opening) (p : Place) (s : ℕ) (x : Transaction) (moment : ℕ) → p.transaction s ≡ Some x → is_writer x.kind ≡ true → after o p (Recovered s true moment) ≡ behind_recovered o p s x moment
  recovered-place o p s x moment is_open writes = rw is_open (rw writes refl)

  -- Its commit record had reached the journal: its writes become part of the committed lines.
  pub recovers-committed : (o : Opening) (p : Place) (g : Ground) (s : ℕ) (left : List Uttered) (total : ℕ) (standing : Standing) (d : Desk) (moment time : ℕ) →
      (h : Found M o p g s (member left (fallen (writing standing (Some (said commit)))) total)) → p.moment ≤ moment → moment ≤ time →
      Steps M o p g s (member (said commit ∷ left) recovered total) (at_recovery s (laid_all (g.desk s).writes g.now) d time (g.dead - 1) g) (Recovered s true moment ∷ [])
  recovers-committed o p g s left total standing d moment time h past later =
      let w = h.stands.state in
      let x = w.transaction in
      let m = member left (fallen (writing standing (Some (said commit)))) total in
      let q = behind_recovered o p s x moment in
      let next = next-is M o p g s m (said commit) left h.stands refl in
      let told = stands-told M orderly o.word x.got g.now x.lines (g.desk s).writes standing p.tables h.fit.stands w.is.holds in
      let k = at_recovery s (laid_all (g.desk s).writes g.now) d time (g.dead - 1) g in
      record {
        may = ((rw h.free (rw h.stands.lives refl), past, rw w.is_open (w.writes, told, rw next refl)), tt);
        own = (refl, tt);
        to = q;
        leads = recovered-place o p s x moment w.is_open w.writes;
        settled = h.free;
        fit = fit-with M p q g k s None refl (ap (λ n. n - 1) h.fit.dead) later (laid-all-in-order (g.desk s).writes g.now h.fit.order)
            (commit-stands M orderly o.word x.got g.now x.lines (g.desk s).writes standing p.tables h.fit.stands w.is.holds) (λ t other. apart-none p t) h.fit;
        stands = stands-silent M o p q g k s m (member (said commit ∷ left) recovered total) h.stands refl refl refl (at-same s gone p.life) (at-same s None p.transaction);
        desks = λ t other. at-other s t d g.desk other;
        alike = λ t other. alike-others (needs_at p t) (needs_at p s) (g.desk s).writes g.now (h.fit.apart t s other) (subst (λ (y : Option Transaction). AreOwn (got_of y) (g.desk s).writes) (sym w.is_open) w.is.own);
      }
