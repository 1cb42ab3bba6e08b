use Rattle.std.proofs.Common.{refl, sym, ◌∙◌, inl, inr, arith}
use Rattle.std.proofs.lemmas.Bool.{false≢true, cases_Bool}
use Rattle.lock_needs.specs.Needs.{is_covered, all_covered, supposing, is_plain}
use Rattle.lock_needs.specs.Keeping.{allows}
use Rattle.lock_needs.proofs.ModeTables.{at_most-refl}
use Rattle.lock_needs.proofs.Cover.{covered-more, allows-more}
use Rattle.lock_tree_laws.specs.LockTable.{granted_at}
use Rattle.lock_tree_laws.proofs.Spared.{supposed-more}
use Rattle.lock_tree_laws.proofs.Taking.{each-at, coming_down-next}
use Rattle.lock_tree_laws.proofs.WayMade.{way-none, way-then}
use Rattle.lock_tree.proofs.coming_down.take_lower.Goals as goal

pub take_one-requires-clause-covered : goal.take_one-requires-clause-covered
take_one-requires-clause-covered c =
    covered-more (granted_at c.args.locks.now c.args.owner) (granted_at c.loop-need.locks c.args.owner) c.loop-need.invariant.0.taken.more _
    (each-at (is_covered (granted_at c.args.locks.now c.args.owner)) c.args.needs.now c.loop-need.need-index _ c.loop-need-test.true c.requires.covered)

pub take_one-requires-clause-allowed : goal.take_one-requires-clause-allowed
take_one-requires-clause-allowed c =
    allows-more (granted_at c.args.locks.now c.args.owner) (granted_at c.loop-need.locks c.args.owner) c.loop-need.invariant.0.taken.more c.args.node c.args.keep _
    (each-at (allows (granted_at c.args.locks.now c.args.owner) c.args.node c.args.keep) c.args.needs.now c.loop-need.need-index _ c.loop-need-test.true c.requires.enough)

pub take_one-requires-clause-plain : goal.take_one-requires-clause-plain
take_one-requires-clause-plain c = each-at is_plain c.args.needs.now c.loop-need.need-index _ c.loop-need-test.true c.requires.plain

pub loop-need-preserved : goal.loop-need-preserved
loop-need-preserved c = (
  coming_down-next c.args.owner c.args.node c.args.needs.now c.loop-need.need-index _ c.loop-need-test.true c.args.locks.now c.loop-need.locks c.take_one.new.locks c.args.keep
      c.loop-need.invariant.0 c.take_one.ensures.ready c.take_one.ensures.taken c.take_one.ensures.covered,
  way-then c.args.owner c.args.locks.now c.loop-need.locks c.take_one.new.locks c.loop-need.invariant.1 c.take_one.ensures.way,
  omega (arith, c.loop-need.invariant.2, c.take_one.ensures.spare),
  λ all.
      let one = c.take_one.ensures.none_used
      (supposed-more (granted_at c.args.locks.now c.args.owner) (granted_at c.loop-need.locks c.args.owner) c.loop-need.invariant.0.taken.more c.args.node c.args.keep _
      (each-at (is_covered (supposing c.args.node c.args.keep (granted_at c.args.locks.now c.args.owner))) c.args.needs.now c.loop-need.need-index _ c.loop-need-test.true all)) in
      omega (arith, c.loop-need.invariant.3 all, one),
)

pub loop-need-init : goal.loop-need-init
loop-need-init c = (
  record {
    ready = c.requires.ready;
    taken = record {
      more = λ x. at_most-refl (granted_at c.args.locks.now c.args.owner x);
      elsewhere = λ x d. refl;
      reason = λ x. inl refl;
      earned = λ x bound h k. h;
      sought = λ x e. e;
      sought_elsewhere = λ x d. refl;
      others = λ o x d. refl;
      sought_others = λ o x d. refl;
    };
    covered = refl;
  },
  way-none c.args.owner c.args.locks.now,
  omega arith,
  λ all. omega arith,
)

pub take_one-requires-clause-room : goal.take_one-requires-clause-room
take_one-requires-clause-room c = λ f.
    elim (cases_Bool (all_covered (supposing c.args.node c.args.keep (granted_at c.args.locks.now c.args.owner)) c.args.needs.now)) [
      | inl all ↦ absurd (false≢true
          (sym f
          ∙ supposed-more (granted_at c.args.locks.now c.args.owner) (granted_at c.loop-need.locks c.args.owner) c.loop-need.invariant.0.taken.more c.args.node c.args.keep _
          (each-at (is_covered (supposing c.args.node c.args.keep (granted_at c.args.locks.now c.args.owner))) c.args.needs.now c.loop-need.need-index _ c.loop-need-test.true all)))
      | inr some ↦ omega (arith, c.requires.room some, c.loop-need.invariant.2, c.loop-need-test.true)
    ]
