use Rattle.std.proofs.Common.{arith, ◌∙◌, sym, ap, subst, List, take, take_all, length, ◌+◌, ◌≤◌, Option}
use Rattle.std.proofs.lemmas.Bool.{false≢true}
use Rattle.lock_needs.specs.declared.need.Need.{Need}
use Rattle.lock_needs.specs.declared.party.OpenWant.{OpenWant}
use Rattle.lock_tree_laws.specs.Inner.Releasing.{is_on_want}
use Rattle.lock_tree_laws.proofs.Released.{AreReleased, released-next, releasing-then, level-none}
use Rattle.lock_tree_laws.proofs.WayMade.{way-none, way-then}
use Rattle.lock_tree.proofs.releasing.release_level.Goals as goal

pub loop-need-preserved : goal.loop-need-preserved
loop-need-preserved c =
    let i = c.loop-need.need-index in
    let items = c.needs-need-items.result.now in (
      subst (λ (ws : List Need). AreReleased c.args.owner c.args.level (take (i + 1) ws) c.args.locks.now c.release_at.new.locks) c.needs-need-items.ensures
          (released-next c.args.owner c.args.level items i _ c.loop-need-test.true c.args.locks.now c.loop-need.locks c.release_at.new.locks
          (subst (λ (ws : List Need). AreReleased c.args.owner c.args.level (take i ws) c.args.locks.now c.loop-need.locks) (sym c.needs-need-items.ensures) c.loop-need.invariant.0)
          c.release_at.ensures.releasing c.release_at.ensures.gone),
      way-then c.args.owner c.args.locks.now c.loop-need.locks c.release_at.new.locks c.loop-need.invariant.1 c.release_at.ensures.way,
      omega (arith, c.loop-need.invariant.2, c.release_at.ensures.spare),
    )

pub returns-in-Some-clause-releasing : goal.returns-in-Some-clause-releasing
returns-in-Some-clause-releasing c =
    releasing-then c.args.owner c.args.level c.args.locks.now c.loop-need.locks c.release_at-in-Some.new.locks c.loop-need.invariant.0.releasing c.release_at-in-Some.ensures.releasing

pub returns-in-Some-clause-none : goal.returns-in-Some-clause-none
returns-in-Some-clause-none c =
    level-none c.args.owner c.args.level c.args.party.now c.args.locks.now c.loop-need.locks c.release_at-in-Some.new.locks c.requires.places
    (subst (λ (ws : List Need). AreReleased c.args.owner c.args.level ws c.args.locks.now c.loop-need.locks)
    (take_all c.loop-need.need-index c.args.party.now.needs (subst (λ (ws : List Need). length ws ≤ c.loop-need.need-index) c.needs-need-items.ensures (omega (arith, c.loop-need-test.false)))) c.loop-need.invariant.0)
    c.release_at-in-Some.ensures.releasing
    (λ x on s. c.release_at-in-Some.ensures.gone x (ap (λ (o : Option OpenWant). is_on_want o x) (sym c.in-Some.is ∙ c.opened.ensures) ∙ on) s)

pub returns-in-Some-clause-way : goal.returns-in-Some-clause-way
returns-in-Some-clause-way c = way-then c.args.owner c.args.locks.now c.loop-need.locks c.release_at-in-Some.new.locks c.loop-need.invariant.1 c.release_at-in-Some.ensures.way

pub loop-need-init : goal.loop-need-init
loop-need-init c = (record { releasing = c.requires.ready; none = λ x s h. absurd (false≢true h) }, way-none c.args.owner c.args.locks.now, omega arith)
