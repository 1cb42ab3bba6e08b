-- A read-write transaction commits, or rolls back.
use Rattle.std.proofs.Common.{◌≡◌, ◌≤◌, ℕ, ◌+◌, ◌++◌, ◌∷◌, [], true, false, List, length, refl, ◌∙◌, sym, ap, subst, arith, Option, Some, None}
use Rattle.rdo_ast.specs.declared.reply.Reply.TheVariants as r
use Rattle.rdo_ast.specs.declared.reply.Standing.{Standing}
use Rattle.rdo_ast.specs.Tree.{Uttered, said, commit, rollback}
use Rattle.line_view.specs.Writes.{laid_all}
use Rattle.rdb_account.specs.Events.{Said, Committed, RolledBack}
use Rattle.rdb_account.specs.Places.{Opening, Place, Transaction, nothing, commit_reply, rollback_reply, living, over, at, after, next_item, is_writer, retold, asks_of_others}
use Rattle.rdb_account.specs.Lawful.{got_of}
use Rattle.rdb_account.specs.Legal.{May, MayRollBack, has_none}
use Rattle.line_history.specs.kept_apart.Guards.{AreOwn}
use Rattle.line_history.proofs.of_kept_apart.Alike.{alike-refl, alike-others, laid-all-in-order}
use Rattle.line_history.specs.session_jobs.Records.{Model, IsOrderly}
use Rattle.line_history.proofs.Transactions.{stands-told, commit-stands}
use Rattle.line_steps.specs.Members.{outside, writing, ended, Member, member, left_of}
use Rattle.lock_ties.specs.Ties.{needs_at}
use Rattle.line_steps.specs.Right.{Desk, Ground, at_end}
use Rattle.line_steps.specs.Steps.{Here, Steps}
use Rattle.lock_ties.proofs.Places.{at-same}
use Rattle.line_steps.proofs.Common.{ready, next-is, next-none, stands-said, stands-silent, apart-none, fit-with, desk-other}

abbrev pub answered_outside : Place → ℕ → Place
answered_outside p s = record p { said = at s (p.said s + 1) p.said; asks = asks_of_others s p.asks; due = nothing }

pub answer-place : (o : Opening) (p : Place) (s : ℕ) (item : Uttered) → p.transaction s ≡ None → after o p (Said s item [] (r.Done [])) ≡ answered_outside p s
answer-place o p s item none = rw none refl

module _ (M : Model) (orderly : IsOrderly M) where
  -- ---- COMMIT

  abbrev pub behind_commit : Opening → Place → ℕ → Transaction → ℕ → Place
  behind_commit o p s x moment = record p {
    transaction = at s None p.transaction;
    asks = asks_of_others s p.asks;
    tables = (retold o.word p.tables x.lines).tables;
    commits = p.commits ++ record { moment = moment; tables = (retold o.word p.tables x.lines).tables } ∷ [];
    moment = moment;
    slots = p.slots + (1 + length x.written);
    due = commit_reply s;
  }

  commit-place : (o : Opening) (p : Place) (s : ℕ) (x : Transaction) (moment : ℕ) → p.transaction s ≡ Some x → is_writer x.kind ≡ true → after o p (Committed s moment) ≡ behind_commit o p s x moment
  commit-place o p s x moment is_open writes = rw is_open (rw writes refl)

  -- Its writes become part of the committed lines, and all others find those alike.
  pub commits : (o : Opening) (p : Place) (g : Ground) (s : ℕ) (left : List Uttered) (total : ℕ) (standing : Standing) (d : Desk) (moment time : ℕ) →
      (h : Here M o p g s (member left (writing standing (Some (said commit))) total)) → p.moment ≤ moment → moment ≤ time →
      Steps M o p g s (member left outside total) (at_end s (laid_all (g.desk s).writes g.now) d time g) (Committed s moment ∷ Said s (said commit) [] (r.Done []) ∷ [])
  commits o p g s left total standing d moment time h past later =
      let w = h.stands.state in
      let x = w.transaction in
      let m = member left (writing standing (Some (said commit))) total in
      let q = behind_commit o p s x moment in
      let there = commit-place o p s x moment w.is_open w.writes in
      let next = next-is M o p g s m (said commit) left h.stands refl in
      let told = stands-told M orderly o.word x.got g.now x.lines (g.desk s).writes standing p.tables h.fit.stands w.is.holds in
      let k = at_end s (laid_all (g.desk s).writes g.now) d time g in
      record {
        may = (
          (ready p s h.awake h.free h.stands.lives, past, rw w.is_open (rw w.writes (told, rw next refl))),
          (subst (λ (y : Place). May o y (Said s (said commit) [] (r.Done []))) (sym there) (next, (refl, refl, refl)), tt),
        );
        own = (refl, (refl, tt));
        to = answered_outside q s;
        leads = ap (λ y. after o y (Said s (said commit) [] (r.Done []))) there ∙ answer-place o q s (said commit) (at-same s None p.transaction);
        settled = refl;
        fit = fit-with M p (answered_outside q s) g k s None refl h.fit.dead later (laid-all-in-order (g.desk s).writes g.now h.fit.order)
            (commit-stands M orderly o.word x.got g.now x.lines (g.desk s).writes standing p.tables h.fit.stands w.is.holds) (λ t other. apart-none p t) h.fit;
        stands = stands-said M o p (answered_outside q s) g k s m (member left outside total) (said commit) h.stands refl refl (at-same s (p.said s + 1) p.said) h.stands.lives (at-same s None p.transaction);
        desks = desk-other s d g;
        alike = λ t other. alike-others (needs_at p t) (needs_at p s) (g.desk s).writes g.now (h.fit.apart t s other) (subst (λ (y : Option Transaction). AreOwn (got_of y) (g.desk s).writes) (sym w.is_open) w.is.own);
      }

  -- ---- ROLLBACK

  abbrev pub behind_rollback : Place → ℕ → Place
  behind_rollback p s = record p { transaction = at s None p.transaction; asks = asks_of_others s p.asks; due = rollback_reply s }

  rollback-place : (o : Opening) (p : Place) (s : ℕ) → p.due ≡ nothing → next_item o p s ≡ Some (said rollback) → after o p (RolledBack s) ≡ behind_rollback p s
  rollback-place o p s free next = rw free (rw next refl)

  pub rolls-back : (o : Opening) (p : Place) (g : Ground) (s : ℕ) (m : Member) (left : List Uttered) (d : Desk) (time : ℕ) →
      (h : Here M o p g s m) → left_of m ≡ said rollback ∷ left → p.life s ≡ living → has_none (p.transaction s) ≡ false → g.time ≤ time →
      Steps M o p g s (member left outside m.total) (at_end s g.now d time g) (RolledBack s ∷ Said s (said rollback) [] (r.Done []) ∷ [])
  rolls-back o p g s m left d time h says lives is_open later =
      let next = next-is M o p g s m (said rollback) left h.stands says in
      let there = rollback-place o p s h.free next in
      let q = behind_rollback p s in
      let k = at_end s g.now d time g in
      record {
        may = (
          subst (λ e. MayRollBack e o p s) (sym h.free) (ready p s h.awake h.free lives, is_open, rw next refl),
          (subst (λ (y : Place). May o y (Said s (said rollback) [] (r.Done []))) (sym there) (next, (refl, refl, refl)), tt),
        );
        own = (refl, (refl, tt));
        to = answered_outside q s;
        leads = ap (λ y. after o y (Said s (said rollback) [] (r.Done []))) there ∙ answer-place o q s (said rollback) (at-same s None p.transaction);
        settled = refl;
        fit = fit-with M p (answered_outside q s) g k s None refl h.fit.dead (omega (arith, h.fit.past, later)) h.fit.order h.fit.stands (λ t other. apart-none p t) h.fit;
        stands = stands-said M o p (answered_outside q s) g k s m (member left outside m.total) (said rollback) h.stands says refl (at-same s (p.said s + 1) p.said) lives (at-same s None p.transaction);
        desks = desk-other s d g;
        alike = λ t other. alike-refl (needs_at p t) g.now;
      }

  -- ---- the end of a script

  abbrev pub behind_end : Place → ℕ → Place
  behind_end p s = record p { transaction = at s None p.transaction; asks = asks_of_others s p.asks; life = at s over p.life }

  end-place : (o : Opening) (p : Place) (s : ℕ) → p.due ≡ nothing → next_item o p s ≡ None → after o p (RolledBack s) ≡ behind_end p s
  end-place o p s free next = rw free (rw next refl)

  pub ends : (o : Opening) (p : Place) (g : Ground) (s : ℕ) (m : Member) (d : Desk) (time : ℕ) →
      (h : Here M o p g s m) → left_of m ≡ [] → p.life s ≡ living → has_none (p.transaction s) ≡ false → g.time ≤ time →
      Steps M o p g s (member [] ended m.total) (at_end s g.now d time g) (RolledBack s ∷ [])
  ends o p g s m d time h says lives is_open later =
      let next = next-none M o p g s m h.stands says in
      let k = at_end s g.now d time g in
      record {
        may = (subst (λ e. MayRollBack e o p s) (sym h.free) (ready p s h.awake h.free lives, is_open, rw next refl), tt);
        own = (refl, tt);
        to = behind_end p s;
        leads = end-place o p s h.free next;
        settled = h.free;
        fit = fit-with M p (behind_end p s) g k s None refl h.fit.dead (omega (arith, h.fit.past, later)) h.fit.order h.fit.stands (λ t other. apart-none p t) h.fit;
        stands = stands-silent M o p (behind_end p s) g k s m (member [] ended m.total) h.stands says refl refl (at-same s over p.life) (at-same s None p.transaction, refl);
        desks = desk-other s d g;
        alike = λ t other. alike-refl (needs_at p t) g.now;
      }
