-- A read-only transaction begins, learns, and ends.
use Rattle.std.proofs.Common.{◌≡◌, ◌≤◌, ℕ, ◌+◌, ◌==◌, ◌∷◌, [], true, false, List, length, refl, ◌∙◌, sym, ap, subst, arith, Option, Some, None}
use Rattle.rdo_ast.specs.declared.reply.Reply.TheVariants as r
use Rattle.rdo_ast.specs.declared.reply.Standing.{Standing}
use Rattle.rdo_ast.specs.declared.reply.Standing.TheVariants.{Closed, ReadOnly}
use Rattle.rdo_ast.specs.Tree.{Uttered, said, commit, back_up}
use Rattle.line_view.specs.Knowledge.{Knowledge, Agrees}
use Rattle.rdb_account.specs.Events.{Began, Said, Committed}
use Rattle.rdb_account.specs.Places.{Opening, Place, Transaction, Line, commit_reply, at, after, begins, begun, is_writer, asks_of_others}
use Rattle.rdb_account.specs.Legal.{May, MayCommitBy, standing_of_reader}
use Rattle.line_history.proofs.of_kept_apart.Alike.{alike-refl}
use Rattle.line_history.specs.session_jobs.Records.{Model, IsOrderly}
use Rattle.line_history.specs.Transactions.{IsReading}
use Rattle.line_steps.specs.Members.{outside, reading, member}
use Rattle.lock_ties.specs.Ties.{needs_at}
use Rattle.line_steps.specs.Right.{Desk, Ground, with_desk}
use Rattle.line_steps.specs.Steps.{Here, Steps}
use Rattle.lock_ties.proofs.Places.{at-same}
use Rattle.line_steps.proofs.Common.{ready, none-begun, next-is, stands-said, stands-silent, apart-none, fit-with, desk-same, desk-other}
use Rattle.line_steps.proofs.Taking.{behind_began}
use Rattle.line_steps.proofs.Ending.{answered_outside, answer-place}

module _ (M : Model) (orderly : IsOrderly M) where
  -- The committed lines at its start are those that it reads.
  pub begins-reading : (o : Opening) (p : Place) (g : Ground) (s : ℕ) (item : Uttered) (left : List Uttered) (total : ℕ) (known : Knowledge) →
      Here M o p g s (member (item ∷ left) outside total) → begins item ≡ Some ReadOnly → Agrees known g.now →
      Steps M o p g s (member left (reading Closed (Some item)) total) (with_desk s (record { known = known; writes = []; start = g.now }) g) (Began s ReadOnly ∷ [])
  begins-reading o p g s item left total known h begins_so agrees =
      let d : Desk = record { known = known; writes = []; start = g.now } in
      let m = member (item ∷ left) outside total in
      let q = behind_began M orderly ReadOnly p s in
      record {
        may = ((ready p s h.awake h.free h.stands.lives, h.stands.state, rw (next-is M o p g s m item left h.stands refl) begins_so), tt);
        own = (refl, tt);
        to = q;
        leads = refl;
        settled = h.free;
        fit = fit-with M p q g (with_desk s d g) s (Some (begun ReadOnly p.tables)) refl h.fit.dead h.fit.past h.fit.order h.fit.stands (λ t other. apart-none p t) h.fit;
        stands = stands-silent M o p q g (with_desk s d g) s m (member left (reading Closed (Some item)) total) h.stands refl refl refl h.stands.lives
            (record {
              transaction = begun ReadOnly p.tables;
              is_open = at-same s (Some (begun ReadOnly p.tables)) p.transaction;
              reads = refl;
              spoken = λ none. (item, refl, begins_so);
              has_standing = refl;
              is = subst (λ (e : Desk). IsReading M e.start p.tables e.known) (sym (desk-same s d g)) (record { stands = h.fit.stands; agrees = agrees });
            });
        desks = desk-other s d g;
        alike = λ t other. alike-refl (needs_at p t) g.now;
      }

  -- its next item is its statement now
  pub takes-up-reading : (o : Opening) (p : Place) (g : Ground) (s : ℕ) (item : Uttered) (left : List Uttered) (total : ℕ) (standing : Standing) →
      Here M o p g s (member (item ∷ left) (reading standing None) total) → Steps M o p g s (member left (reading standing (Some item)) total) g []
  takes-up-reading o p g s item left total standing h =
      let w = h.stands.state in
      record {
        may = tt;
        own = tt;
        to = p;
        leads = refl;
        settled = h.free;
        fit = h.fit;
        stands = stands-silent M o p p g g s (member (item ∷ left) (reading standing None) total) (member left (reading standing (Some item)) total) h.stands refl refl refl h.stands.lives
            (record { transaction = w.transaction; is_open = w.is_open; reads = w.reads; spoken = λ none. absurd (none-begun w.transaction.kind (w.spoken none)); has_standing = w.has_standing; is = w.is });
        desks = λ t other. refl;
        alike = λ t other. alike-refl (needs_at p t) g.now;
      }

  pub learns-reading : (o : Opening) (p : Place) (g : Ground) (s : ℕ) (left : List Uttered) (total : ℕ) (standing : Standing) (under : Option Uttered) (new : Knowledge) →
      Here M o p g s (member left (reading standing under) total) → Agrees new (g.desk s).start →
      Steps M o p g s (member left (reading standing under) total) (with_desk s (record { known = new; writes = (g.desk s).writes; start = (g.desk s).start }) g) []
  learns-reading o p g s left total standing under new h agrees =
      let w = h.stands.state in
      let d : Desk = record { known = new; writes = (g.desk s).writes; start = (g.desk s).start } in
      record {
        may = tt;
        own = tt;
        to = p;
        leads = refl;
        settled = h.free;
        fit = record { dead = h.fit.dead; past = h.fit.past; order = h.fit.order; stands = h.fit.stands; apart = h.fit.apart };
        stands = stands-silent M o p p g (with_desk s d g) s (member left (reading standing under) total) (member left (reading standing under) total) h.stands refl refl refl h.stands.lives
            (record {
              transaction = w.transaction;
              is_open = w.is_open;
              reads = w.reads;
              spoken = w.spoken;
              has_standing = w.has_standing;
              is = subst (λ (e : Desk). IsReading M e.start w.transaction.base e.known) (sym (desk-same s d g)) (record { stands = w.is.stands; agrees = agrees });
            });
        desks = desk-other s d g;
        alike = λ t other. alike-refl (needs_at p t) g.now;
      }

  abbrev behind_reader : Place → ℕ → ℕ → Place
  behind_reader p s moment = record p { transaction = at s None p.transaction; asks = asks_of_others s p.asks; moment = moment; due = commit_reply s }

  reader-place : (o : Opening) (p : Place) (s : ℕ) (x : Transaction) (moment : ℕ) → p.transaction s ≡ Some x → is_writer x.kind ≡ false → after o p (Committed s moment) ≡ behind_reader p s moment
  reader-place o p s x moment is_open reads = rw is_open (rw reads refl)

  -- it ends with its statement, where that may be
  reader-ends : (o : Opening) (p : Place) (g : Ground) (s : ℕ) (left : List Uttered) (total : ℕ) (standing : Standing) (item : Uttered) (d : Desk) (moment : ℕ) →
      (h : Here M o p g s (member left (reading standing (Some item)) total)) → MayCommitBy o p s (p.transaction s) → p.moment ≤ moment → moment ≤ g.time →
      Steps M o p g s (member left outside total) (with_desk s d g) (Committed s moment ∷ Said s item [] (r.Done []) ∷ [])
  reader-ends o p g s left total standing item d moment h may past later =
      let w = h.stands.state in
      let m = member left (reading standing (Some item)) total in
      let q = behind_reader p s moment in
      let there = reader-place o p s w.transaction moment w.is_open w.reads in
      let next = next-is M o p g s m item left h.stands refl in
      record {
        may = (
          (ready p s h.awake h.free h.stands.lives, past, may),
          (subst (λ (y : Place). May o y (Said s item [] (r.Done []))) (sym there) (next, (refl, refl, refl)), tt),
        );
        own = (refl, (refl, tt));
        to = answered_outside q s;
        leads = ap (λ y. after o y (Said s item [] (r.Done []))) there ∙ answer-place o q s item (at-same s None p.transaction);
        settled = refl;
        fit = fit-with M p (answered_outside q s) g (with_desk s d g) s None refl h.fit.dead later h.fit.order h.fit.stands (λ t other. apart-none p t) h.fit;
        stands = stands-said M o p (answered_outside q s) g (with_desk s d g) s m (member left outside total) item h.stands refl refl (at-same s (p.said s + 1) p.said) h.stands.lives (at-same s None p.transaction);
        desks = desk-other s d g;
        alike = λ t other. alike-refl (needs_at p t) g.now;
      }

  pub reader-commits : (o : Opening) (p : Place) (g : Ground) (s : ℕ) (left : List Uttered) (total : ℕ) (standing : Standing) (d : Desk) (moment : ℕ) →
      (h : Here M o p g s (member left (reading standing (Some (said commit))) total)) → p.moment ≤ moment → moment ≤ g.time →
      Steps M o p g s (member left outside total) (with_desk s d g) (Committed s moment ∷ Said s (said commit) [] (r.Done []) ∷ [])
  reader-commits o p g s left total standing d moment h past later =
      let w = h.stands.state in
      let next = next-is M o p g s (member left (reading standing (Some (said commit))) total) (said commit) left h.stands refl in
      reader-ends o p g s left total standing (said commit) d moment h (rw w.is_open (rw w.reads (rw next refl))) past later

  none-said : (lines : List Line) → standing_of_reader lines ≡ Closed → (length lines == 0) ≡ true
  none-said [] closed = refl
  none-said (l ∷ ls) closed = absurd (grind arith)

  -- An online backup in which nothing was said ends with its statement too.
  pub reader-copies : (o : Opening) (p : Place) (g : Ground) (s : ℕ) (left : List Uttered) (total : ℕ) (n : ℕ) (d : Desk) (moment : ℕ) →
      (h : Here M o p g s (member left (reading Closed (Some (said (back_up n)))) total)) → p.moment ≤ moment → moment ≤ g.time →
      Steps M o p g s (member left outside total) (with_desk s d g) (Committed s moment ∷ Said s (said (back_up n)) [] (r.Done []) ∷ [])
  reader-copies o p g s left total n d moment h past later =
      let w = h.stands.state in
      let next = next-is M o p g s (member left (reading Closed (Some (said (back_up n)))) total) (said (back_up n)) left h.stands refl in
      reader-ends o p g s left total Closed (said (back_up n)) d moment h (rw w.is_open (rw w.reads (rw next (none-said w.transaction.lines w.has_standing)))) past later
