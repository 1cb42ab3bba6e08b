use Rattle.std.proofs.Common.{◌≡◌, true, false, ◌⊎◌, sym, subst}
use Rattle.rdb_types.specs.declared.node.Node.{Node}
use Rattle.vms_queues.specs.Queues.{has_owner, fits}
use Rattle.vms_locks.specs.Table.{Table, table_of, queues_at, is_listed, IsAwake, AddsNoWait}
use Rattle.vms_locks.specs.Answers.{converting}
use Rattle.vms_locks.proofs.Granting.{live-after_convert}
use Rattle.vms_locks.proofs.Listed.{listed-answered, listed-held, listed-before}
use Rattle.vms_locks.proofs.locks.Locks.convert.Goals as goal

pub invariant_of-self : goal.invariant_of-self
invariant_of-self c =
    let old : Table = table_of c.self.inside.table in
    let new : Table = table_of c.convert.new.table in
    let o = c.args.owner in
    let n = c.args.node in
    let m = c.args.mode in (
      live-after_convert old new o n m c.args.wait c.convert.result
          (subst (λ (t : Table). has_owner o (queues_at t n).granted ≡ true) (sym c.self.view_is) c.requires.granted)
          (subst (λ (t : Table). has_owner o (queues_at t n).converting ≡ false) (sym c.self.view_is) c.requires.once)
          (subst (λ (t : Table). IsAwake (queues_at t) o ⊎ ((fits o m (queues_at t n).granted ≡ true) × AddsNoWait (queues_at t n) o m)) (sym c.self.view_is) c.requires.awake)
          c.self.invariant.0 c.convert.ensures.answer,
      c.convert.ensures.used c.self.invariant.1,
      c.convert.ensures.owners,
      c.convert.ensures.known,
    )

pub returns-clause-answer : goal.returns-clause-answer
returns-clause-answer c = rw (← c.self.view_is) c.convert.ensures.answer

pub returns-clause-lists : goal.returns-clause-lists
returns-clause-lists c =
    let old : Table = table_of c.self.inside.table in
    let new : Table = table_of c.convert.new.table in
    let o = c.args.owner in
    let node = c.args.node in
    let held = listed-held old node o (subst (λ (t : Table). has_owner o (queues_at t node).granted ≡ true) (sym c.self.view_is) c.requires.granted) in
    subst (λ (t : Table). (n : Node) → is_listed new n ≡ true → is_listed t n ≡ true) c.self.view_is
    (λ n h. listed-before old node held n
    (listed-answered old new o node c.args.wait (converting (queues_at old node) o c.args.mode) c.convert.result c.convert.ensures.answer (c.convert.ensures.used c.self.invariant.1) n h))

pub returns-clause-room : goal.returns-clause-room
returns-clause-room c = rw (← c.self.view_is) c.convert.ensures.room

pub returns-clause-spare : goal.returns-clause-spare
returns-clause-spare c = rw (← c.self.view_is) c.convert.ensures.spare
