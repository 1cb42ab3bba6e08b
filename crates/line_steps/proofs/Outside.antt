-- An item that begins no transaction, answered where none is open.
use Rattle.std.proofs.Common.{◌≡◌, ℕ, ◌+◌, ◌∷◌, [], ◌&&◌, true, false, List, refl, sym, subst, Some, None}
use Rattle.std.proofs.lemmas.Bool.{false≢true}
use Rattle.rdo_ast.specs.declared.reply.Reply.{Reply}
use Rattle.rdo_ast.specs.declared.reply.Reply.TheVariants as r
use Rattle.rdo_ast.specs.declared.reply.Standing.{Standing}
use Rattle.rdo_ast.specs.declared.reply.Standing.TheVariants.{Closed, ReadOnly}
use Rattle.rdo_ast.specs.Tree.{Uttered, said, back_up}
use Rattle.rdb_account.specs.Events.{Said}
use Rattle.rdb_account.specs.Places.{Opening, Place, Line, after, begins, is_done}
use Rattle.rdb_account.specs.Legal.{MaySay, ends_by, ends_its_own, may_be_outside, IsReply}
use Rattle.line_history.proofs.of_kept_apart.Alike.{alike-refl}
use Rattle.line_history.specs.session_jobs.Records.{Model, IsOrderly}
use Rattle.line_steps.specs.Members.{outside, member}
use Rattle.lock_ties.specs.Ties.{needs_at}
use Rattle.line_steps.specs.Right.{Ground}
use Rattle.line_steps.specs.Steps.{Here, Steps}
use Rattle.lock_ties.proofs.Places.{at-same}
use Rattle.line_steps.proofs.Common.{ready, next-is, stands-said}
use Rattle.line_steps.proofs.Ending.{answered_outside}

said-place : (o : Opening) (p : Place) (s : ℕ) (l : Line) → p.transaction s ≡ None → after o p (Said s l.item l.choices l.reply) ≡ answered_outside p s
said-place o p s l none = rw none refl

-- what begins a transaction isn't done outside of it
begun-undone : (kind : Standing) (reply : Reply) → may_be_outside (Some kind) reply ≡ true → is_done reply ≡ false
begun-undone kind (r.Done lines) may = absurd (false≢true may)
begun-undone kind reply may = refl

alone-outside : (item : Uttered) (reply : Reply) → may_be_outside (begins item) reply ≡ true → (ends_by item && is_done reply) ≡ false → (ends_its_own item && is_done reply) ≡ false
alone-outside (said (back_up n)) reply may ends = begun-undone ReadOnly reply may
alone-outside item reply may ends = ends

module _ (M : Model) (orderly : IsOrderly M) where
  pub answers-outside : (o : Opening) (p : Place) (g : Ground) (s : ℕ) (left : List Uttered) (total : ℕ) (l : Line) → (h : Here M o p g s (member (l.item ∷ left) outside total)) →
      IsReply o p s Closed p.tables l → may_be_outside (begins l.item) l.reply ≡ true → (ends_by l.item && is_done l.reply) ≡ false →
      Steps M o p g s (member left outside total) g (Said s l.item l.choices l.reply ∷ [])
  answers-outside o p g s left total l h replies may ends = record {
    may = (
      (
        next-is M o p g s (member (l.item ∷ left) outside total) l.item left h.stands refl,
        subst (λ d. MaySay d o p s l) (sym h.free) (ready p s h.awake h.free h.stands.lives, alone-outside l.item l.reply may ends, rw h.stands.state (replies, may)),
      ),
      tt,
    );
    own = (refl, tt);
    to = answered_outside p s;
    leads = said-place o p s l h.stands.state;
    settled = refl;
    fit = record { dead = h.fit.dead; past = h.fit.past; order = h.fit.order; stands = h.fit.stands; apart = h.fit.apart };
    stands = stands-said M o p (answered_outside p s) g g s (member (l.item ∷ left) outside total) (member left outside total) l.item h.stands refl refl (at-same s (p.said s + 1) p.said) h.stands.lives h.stands.state;
    desks = λ t other. refl;
    alike = λ t other. alike-refl (needs_at p t) g.now;
  }
