use Rattle.std.proofs.Common.{sym, ◌∙◌, inl, inr}
use Rattle.std.proofs.lemmas.Bool.{false≢true}
use Rattle.lock_needs.proofs.Cover.{kept_or_below}
use Rattle.lock_needs.specs.Needs.{supposing}
use Rattle.lock_tree_laws.specs.LockTable.{granted_at}
use Rattle.lock_tree_laws.proofs.Changes.{shares-live}
use Rattle.lock_tree_laws.proofs.Taking.{taking, taking-awake, taking-free, taking-bars, taken-ready, taken-one, taken-covered}
use Rattle.lock_tree_laws.proofs.WayMade.{way-none, taken-used}
use Rattle.lock_tree.proofs.coming_down.take_one.Goals as goal

pub raise-requires-clause-awake : goal.raise-requires-clause-awake
raise-requires-clause-awake c =
    taking-awake c.args.locks.now c.args.owner c.args.node c.args.keep c.args.need c.step_towards-under.result c.join-mode.result
    (shares-live c.args.locks.now c.args.locks.now c.args.owner c.args.node c.granted_of.ensures.live) c.requires.ready
    (taking c.args.locks.now c.args.owner c.args.node c.args.keep c.args.need c.step_towards-under.result c.granted_of.result c.join-mode.result
    (sym c.if-covered_supposing.ensures) c.step_towards-under.ensures c.granted_of.ensures.value c.join-mode.ensures.table c.requires.covered c.requires.allowed)

pub raise-requires-clause-free : goal.raise-requires-clause-free
raise-requires-clause-free c =
    taking-free c.args.locks.now c.args.owner c.args.node c.args.keep c.args.need c.step_towards-under.result c.join-mode.result
    (shares-live c.args.locks.now c.args.locks.now c.args.owner c.args.node c.granted_of.ensures.live) c.requires.ready
    (taking c.args.locks.now c.args.owner c.args.node c.args.keep c.args.need c.step_towards-under.result c.granted_of.result c.join-mode.result
    (sym c.if-covered_supposing.ensures) c.step_towards-under.ensures c.granted_of.ensures.value c.join-mode.ensures.table c.requires.covered c.requires.allowed)

pub raise-requires-clause-bars_nobody : goal.raise-requires-clause-bars_nobody
raise-requires-clause-bars_nobody c =
    taking-bars c.args.locks.now c.args.owner c.args.node c.args.keep c.args.need c.step_towards-under.result c.join-mode.result
    (shares-live c.args.locks.now c.args.locks.now c.args.owner c.args.node c.granted_of.ensures.live) c.requires.ready
    (taking c.args.locks.now c.args.owner c.args.node c.args.keep c.args.need c.step_towards-under.result c.granted_of.result c.join-mode.result
    (sym c.if-covered_supposing.ensures) c.step_towards-under.ensures c.granted_of.ensures.value c.join-mode.ensures.table c.requires.covered c.requires.allowed)

pub returns-clause-ready : goal.returns-clause-ready
returns-clause-ready c =
    taken-ready c.args.locks.now c.args.owner c.args.node c.args.keep c.args.need c.step_towards-under.result c.join-mode.result
    (shares-live c.args.locks.now c.args.locks.now c.args.owner c.args.node c.granted_of.ensures.live) c.requires.ready
    (taking c.args.locks.now c.args.owner c.args.node c.args.keep c.args.need c.step_towards-under.result c.granted_of.result c.join-mode.result
    (sym c.if-covered_supposing.ensures) c.step_towards-under.ensures c.granted_of.ensures.value c.join-mode.ensures.table c.requires.covered c.requires.allowed) c.raise.new.locks c.raise.ensures.raised

pub returns-clause-taken : goal.returns-clause-taken
returns-clause-taken c =
    taken-one c.args.locks.now c.args.owner c.args.node c.args.keep c.args.need c.step_towards-under.result c.join-mode.result
    (shares-live c.args.locks.now c.args.locks.now c.args.owner c.args.node c.granted_of.ensures.live) c.requires.ready
    (taking c.args.locks.now c.args.owner c.args.node c.args.keep c.args.need c.step_towards-under.result c.granted_of.result c.join-mode.result
    (sym c.if-covered_supposing.ensures) c.step_towards-under.ensures c.granted_of.ensures.value c.join-mode.ensures.table c.requires.covered c.requires.allowed) c.raise.new.locks c.raise.ensures.raised

pub returns-clause-covered : goal.returns-clause-covered
returns-clause-covered c =
    taken-covered c.args.locks.now c.args.owner c.args.node c.args.keep c.args.need c.step_towards-under.result c.join-mode.result
    (shares-live c.args.locks.now c.args.locks.now c.args.owner c.args.node c.granted_of.ensures.live) c.requires.ready
    (taking c.args.locks.now c.args.owner c.args.node c.args.keep c.args.need c.step_towards-under.result c.granted_of.result c.join-mode.result
    (sym c.if-covered_supposing.ensures) c.step_towards-under.ensures c.granted_of.ensures.value c.join-mode.ensures.table c.requires.covered c.requires.allowed) c.raise.new.locks c.raise.ensures.raised c.requires.plain

pub raise-requires-clause-used : goal.raise-requires-clause-used
raise-requires-clause-used c =
    taken-used (supposing c.args.node c.args.keep (granted_at c.args.locks.now c.args.owner)) c.args.need c.granted_of.result c.join-mode.result (sym c.if-covered_supposing.ensures) c.join-mode.ensures.table

pub returns-then-covered_supposing-clause-way : goal.returns-then-covered_supposing-clause-way
returns-then-covered_supposing-clause-way c = way-none c.args.owner c.args.locks.now

pub raise-requires-clause-room : goal.raise-requires-clause-room
raise-requires-clause-room c = c.requires.room (sym c.if-covered_supposing.ensures)

pub returns-then-not-contains-clause-covered : goal.returns-then-not-contains-clause-covered
returns-then-not-contains-clause-covered c =
    elim (kept_or_below (granted_at c.args.locks.now c.args.owner) c.args.node c.args.keep c.args.need c.requires.covered c.requires.allowed) [
      | inl kept ↦ kept
      | inr under ↦ absurd (false≢true (sym c.if-not-contains.true ∙ (c.contains.ensures ∙ under.0)))
    ]

pub returns-then-not-contains-clause-way : goal.returns-then-not-contains-clause-way
returns-then-not-contains-clause-way c = way-none c.args.owner c.args.locks.now
