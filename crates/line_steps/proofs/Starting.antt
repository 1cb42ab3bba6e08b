-- A START_TRANSACTION is refused, and leaves no transaction.
use Rattle.std.proofs.Common.{◌≡◌, ◌≤◌, ℕ, ◌+◌, ◌∷◌, [], ◌==◌, ◌&&◌, not, Bool, true, false, List, length, refl, ◌∙◌, sym, ap, subst, arith, Option, Some, None}
use Rattle.std.proofs.lemmas.Bool.{and_right}
use Rattle.rdo_ast.specs.declared.reply.Standing.{Standing}
use Rattle.rdo_ast.specs.Tree.{Uttered}
use Rattle.rdb_meaning.specs.declared.tables.Tables.{Tables}
use Rattle.rdb_meaning.specs.Usual.{is_refusal_of_means}
use Rattle.line_view.specs.Writes.{laid_all}
use Rattle.rdb_account.specs.Events.{Said, RolledBack}
use Rattle.rdb_account.specs.Places.{Opening, Place, Transaction, Line, nothing, rolls_back, living, at, after, leaves_none, with_line, is_writer, is_done, is_first_refused, asks_of_others}
use Rattle.rdb_account.specs.Legal.{May, MaySay, ends_by, ends_its_own, IsAnsweredIn}
use Rattle.line_history.proofs.of_kept_apart.Alike.{alike-refl}
use Rattle.line_history.specs.session_jobs.Records.{Model, IsOrderly, Worked, IsRight}
use Rattle.line_history.specs.Transactions.{line_of}
use Rattle.line_history.proofs.Transactions.{stands-told, stands-answered, stands-excused}
use Rattle.line_steps.specs.Members.{outside, writing, Member, member, left_of}
use Rattle.lock_ties.specs.Ties.{needs_at}
use Rattle.line_steps.specs.Right.{Desk, Ground, with_desk}
use Rattle.line_steps.specs.Steps.{Here, Steps}
use Rattle.lock_ties.proofs.Places.{at-same}
use Rattle.line_steps.proofs.Common.{ready, next-is, stands-said, apart-none, apart-with, desk-other}
use Rattle.rdb_account.specs.Lawful.{got_of, IsExcused, has_cause}
use Rattle.lock_ties.proofs.Places.{at-other}

abbrev pub behind_refusal : Place → ℕ → Transaction → Line → Place
behind_refusal p s x l = record p {
  transaction = at s (Some (with_line l x)) p.transaction;
  said = at s (p.said s + 1) p.said;
  asks = asks_of_others s p.asks;
  due = rolls_back s;
}

abbrev pub behind_refused : Place → ℕ → Place
behind_refused p s = record p {
  transaction = at s None p.transaction;
  said = at s (p.said s + 1) p.said;
  asks = asks_of_others s (asks_of_others s p.asks);
  due = nothing;
}

refusal-place : (o : Opening) (p : Place) (s : ℕ) (x : Transaction) (l : Line) → p.transaction s ≡ Some x → is_first_refused (Some x) l.item l.reply ≡ true → after o p (Said s l.item l.choices l.reply) ≡ behind_refusal p s x l
refusal-place o p s x l is_open first = rw is_open (rw first refl)

-- what is refused isn't done
refused-alone : (x : Transaction) (l : Line) → is_first_refused (Some x) l.item l.reply ≡ true → (ends_its_own l.item && is_done l.reply) ≡ false
refused-alone x l first = and_right (ends_its_own l.item) (is_done l.reply) (undone (length x.lines == 0) (leaves_none l.item) (is_done l.reply) first)
  where
    undone : (a b d : Bool) → (a && (b && not d)) ≡ true → d ≡ false
    undone a b d h = grind arith

module _ (M : Model) (orderly : IsOrderly M) where
  refused-leads : (o : Opening) (p : Place) (s : ℕ) (x : Transaction) (l : Line) → p.transaction s ≡ Some x → is_first_refused (Some x) l.item l.reply ≡ true →
      after o (after o p (Said s l.item l.choices l.reply)) (RolledBack s) ≡ record (behind_refused p s) { transaction = at s None (at s (Some (with_line l x)) p.transaction) }
  refused-leads o p s x l is_open first = ap (λ q. after o q (RolledBack s)) (refusal-place o p s x l is_open first)

  -- whatever the reply is
  pub start-refused : (o : Opening) (p : Place) (g : Ground) (s : ℕ) (m : Member) (left : List Uttered) (x : Transaction) (l : Line) (d : Desk) (time : ℕ) → g.time ≤ time → (h : Here M o p g s m) →
      p.transaction s ≡ Some x → left_of m ≡ l.item ∷ left → p.life s ≡ living → is_first_refused (Some x) l.item l.reply ≡ true → (ends_by l.item && is_done l.reply) ≡ false →
      IsAnsweredIn o p s (is_writer x.kind) x l →
      Steps M o p g s (member left outside m.total) (record (with_desk s d g) { time = time }) (Said s l.item l.choices l.reply ∷ RolledBack s ∷ [])
  start-refused o p g s m left x l d time later h is_open says lives first ends answered =
      let there = refusal-place o p s x l is_open first in
      let q : Place = record (behind_refused p s) { transaction = at s None (at s (Some (with_line l x)) p.transaction) } in
      record {
        may = (
          (
            next-is M o p g s m l.item left h.stands says,
            subst (λ d. MaySay d o p s l) (sym h.free) (ready p s h.awake h.free lives, refused-alone x l first, rw is_open answered),
          ),
          (subst (λ (y : Place). May o y (RolledBack s)) (sym there) refl, tt),
        );
        own = (refl, (refl, tt));
        to = q;
        leads = refused-leads o p s x l is_open first;
        settled = refl;
        fit = record {
          dead = h.fit.dead;
          past = omega (arith, h.fit.past, later);
          order = h.fit.order;
          stands = h.fit.stands;
          apart = apart-with p (needs_at q) s [] (ap got_of (at-same s None (at s (Some (with_line l x)) p.transaction)))
              (λ t other. ap got_of (at-other s t None (at s (Some (with_line l x)) p.transaction) other ∙ at-other s t (Some (with_line l x)) p.transaction other)) h.fit.apart (λ t other. apart-none p t);
        };
        stands = stands-said M o p q g (record (with_desk s d g) { time = time }) s m (member left outside m.total) l.item h.stands says refl (at-same s (p.said s + 1) p.said) lives (at-same s None (at s (Some (with_line l x)) p.transaction));
        desks = desk-other s d g;
        alike = λ t other. alike-refl (needs_at p t) g.now;
      }

  -- its record says so
  pub start-worked : (o : Opening) (p : Place) (g : Ground) (s : ℕ) (left : List Uttered) (total : ℕ) (standing : Standing) (r : Worked) (d : Desk) (time : ℕ) → g.time ≤ time →
      (h : Here M o p g s (member left (writing standing (Some r.item)) total)) → IsRight M o.word standing (g.desk s).known r →
      is_first_refused (p.transaction s) r.item r.reply ≡ true → (ends_by r.item && is_done r.reply) ≡ false →
      Steps M o p g s (member left outside total) (record (with_desk s d g) { time = time }) (Said s r.item r.choices r.reply ∷ RolledBack s ∷ [])
  start-worked o p g s left total standing r d time later h right first ends =
      let w = h.stands.state in
      let x = w.transaction in
      start-refused o p g s (member left (writing standing (Some r.item)) total) left x (line_of r) d time later h w.is_open refl h.stands.lives
      (subst (λ (y : Option Transaction). is_first_refused y r.item r.reply ≡ true) w.is_open first) ends
      (rw w.writes (
        stands-told M orderly o.word x.got g.now x.lines (g.desk s).writes standing p.tables h.fit.stands w.is.holds,
        stands-answered M orderly o.word o p s x.got g.now x.lines (g.desk s).writes standing (g.desk s).known r h.fit.stands refl w.is.holds right w.is.agrees,
      ))

  -- a lock, a limit or memory refuses it
  pub start-excused : (o : Opening) (p : Place) (g : Ground) (s : ℕ) (left : List Uttered) (total : ℕ) (standing : Standing) (l : Line) (d : Desk) (time : ℕ) → g.time ≤ time →
      (h : Here M o p g s (member left (writing standing (Some l.item)) total)) → is_refusal_of_means l.reply ≡ true →
      ((t : Tables) → M (laid_all (g.desk s).writes g.now) t → IsExcused l.reply o.word standing t l.item) → has_cause o p s l.reply ≡ true →
      is_first_refused (p.transaction s) l.item l.reply ≡ true → (ends_by l.item && is_done l.reply) ≡ false →
      Steps M o p g s (member left outside total) (record (with_desk s d g) { time = time }) (Said s l.item l.choices l.reply ∷ RolledBack s ∷ [])
  start-excused o p g s left total standing l d time later h refused excused cause first ends =
      let w = h.stands.state in
      let x = w.transaction in
      start-refused o p g s (member left (writing standing (Some l.item)) total) left x l d time later h w.is_open refl h.stands.lives
      (subst (λ (y : Option Transaction). is_first_refused y l.item l.reply ≡ true) w.is_open first) ends
      (rw w.writes (
        stands-told M orderly o.word x.got g.now x.lines (g.desk s).writes standing p.tables h.fit.stands w.is.holds,
        stands-excused M orderly o.word o p s x.got g.now x.lines (g.desk s).writes standing l h.fit.stands refl w.is.holds refused excused cause,
      ))
