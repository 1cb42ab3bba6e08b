use Rattle.std.proofs.Common.{◌≡◌, true, ◌⊎◌, sym, subst}
use Rattle.vms_queues.specs.Queues.{is_absent, is_grantable}
use Rattle.vms_locks.specs.Table.{Table, table_of, queues_at, IsAwake}
use Rattle.vms_locks.specs.Answers.{asking}
use Rattle.vms_locks.proofs.Granting.{live-after_enq}
use Rattle.vms_locks.proofs.Listed.{listed-answered}
use Rattle.vms_locks.proofs.locks.Locks.enq.Goals as goal

pub invariant_of-self : goal.invariant_of-self
invariant_of-self c =
    let old : Table = table_of c.self.inside.table in
    let new : Table = table_of c.enq.new.table in
    let o = c.args.owner in
    let n = c.args.node in
    let m = c.args.mode in (
      live-after_enq old new o n m c.args.wait c.enq.result
          (subst (λ (t : Table). is_absent o (queues_at t n) ≡ true) (sym c.self.view_is) c.requires.absent)
          (subst (λ (t : Table). IsAwake (queues_at t) o ⊎ (is_grantable (queues_at t n) o m ≡ true)) (sym c.self.view_is) c.requires.awake)
          c.self.invariant.0 c.enq.ensures.answer,
      c.enq.ensures.used c.self.invariant.1,
      c.enq.ensures.owners,
      c.enq.ensures.known,
    )

pub returns-clause-answer : goal.returns-clause-answer
returns-clause-answer c = rw (← c.self.view_is) c.enq.ensures.answer

pub returns-clause-lists : goal.returns-clause-lists
returns-clause-lists c =
    let old : Table = table_of c.self.inside.table in
    let new : Table = table_of c.enq.new.table in
    rw (← c.self.view_is)
    (listed-answered old new c.args.owner c.args.node c.args.wait (asking (queues_at old c.args.node) c.args.owner c.args.mode) c.enq.result c.enq.ensures.answer (c.enq.ensures.used c.self.invariant.1))

pub returns-clause-room : goal.returns-clause-room
returns-clause-room c = rw (← c.self.view_is) c.enq.ensures.room

pub returns-clause-spare : goal.returns-clause-spare
returns-clause-spare c = rw (← c.self.view_is) c.enq.ensures.spare

pub returns-clause-kept : goal.returns-clause-kept
returns-clause-kept c = rw (← c.self.view_is) c.enq.ensures.kept
