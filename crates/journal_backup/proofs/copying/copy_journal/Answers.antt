use Rattle.std.proofs.Common.{◌∙◌, arith}
use Rattle.line_moves.proofs.Runs.{on_ok, still_tells}
use Rattle.journal_backup.proofs.Calls.{KeepsAll, Stands, keeps_read, keeps_written, keeps_on, stands_read, stands_written, stands_on, copied_whole, ended_whole}
use Rattle.journal_backup.proofs.copying.copy_journal.Goals as goal

pub returns-in_err-blank-clause-told : goal.returns-in_err-blank-clause-told
returns-in_err-blank-clause-told g c = c.blank.ensures.writes.told

pub returns-in_err-blank-clause-no_fewer : goal.returns-in_err-blank-clause-no_fewer
returns-in_err-blank-clause-no_fewer g c = let n0 = c.blank.ensures.writes.no_fewer in omega (arith, n0)

pub returns-in_err-blank-clause-others : goal.returns-in_err-blank-clause-others
returns-in_err-blank-clause-others g c = let v = g.D.Disk.view in let v0 = v c.args.disk.now in let v1 = v c.blank.new.disk in let number = c.args.number in
    λ t0.
    let k1 : KeepsAll number v0 v1 = keeps_written number v0 v1 0 c.blank.ensures.writes t0 in
    k1

pub returns-in_err-blank-clause-stands : goal.returns-in_err-blank-clause-stands
returns-in_err-blank-clause-stands g c = let v = g.D.Disk.view in let v0 = v c.args.disk.now in let v1 = v c.blank.new.disk in let number = c.args.number in
    λ t0.
    let s1 : Stands v0 v1 = stands_written number v0 v1 0 c.blank.ensures.writes t0 in
    s1

pub returns-in_err-make_stable-clause-told : goal.returns-in_err-make_stable-clause-told
returns-in_err-make_stable-clause-told g c = c.make_stable.ensures.reads.told ∙ c.blank.ensures.writes.told

pub returns-in_err-make_stable-clause-no_fewer : goal.returns-in_err-make_stable-clause-no_fewer
returns-in_err-make_stable-clause-no_fewer g c = let n0 = c.blank.ensures.writes.no_fewer in let n1 = c.make_stable.ensures.reads.no_fewer in omega (arith, n0, n1)

pub returns-in_err-make_stable-clause-others : goal.returns-in_err-make_stable-clause-others
returns-in_err-make_stable-clause-others g c = let v = g.D.Disk.view in let v0 = v c.args.disk.now in let v1 = v c.blank.new.disk in let v2 = v c.make_stable.new.disk in let number = c.args.number in
    λ t0.
    let t1 = still_tells v0 v1 c.blank.ensures.writes.told t0 in
    let k1 : KeepsAll number v0 v1 = keeps_written number v0 v1 0 c.blank.ensures.writes t0 in
    let k2 : KeepsAll number v0 v2 = keeps_on number v0 v1 v2 k1 (keeps_read number v1 v2 c.make_stable.ensures.reads t1) in
    k2

pub returns-in_err-make_stable-clause-stands : goal.returns-in_err-make_stable-clause-stands
returns-in_err-make_stable-clause-stands g c = let v = g.D.Disk.view in let v0 = v c.args.disk.now in let v1 = v c.blank.new.disk in let v2 = v c.make_stable.new.disk in let number = c.args.number in
    λ t0.
    let t1 = still_tells v0 v1 c.blank.ensures.writes.told t0 in
    let k1 : KeepsAll number v0 v1 = keeps_written number v0 v1 0 c.blank.ensures.writes t0 in
    let s1 : Stands v0 v1 = stands_written number v0 v1 0 c.blank.ensures.writes t0 in
    let s2 : Stands v0 v2 = stands_on number v0 v1 v2 k1 s1 (stands_read v1 v2 c.make_stable.ensures.reads t1) in
    s2

pub returns-in_err-copy_groups-clause-told : goal.returns-in_err-copy_groups-clause-told
returns-in_err-copy_groups-clause-told g c = c.copy_groups.ensures.told ∙ c.make_stable.ensures.reads.told ∙ c.blank.ensures.writes.told

pub returns-in_err-copy_groups-clause-no_fewer : goal.returns-in_err-copy_groups-clause-no_fewer
returns-in_err-copy_groups-clause-no_fewer g c = let n0 = c.blank.ensures.writes.no_fewer in let n1 = c.make_stable.ensures.reads.no_fewer in let n2 = c.copy_groups.ensures.no_fewer in omega (arith, n0, n1, n2)

pub returns-in_err-copy_groups-clause-others : goal.returns-in_err-copy_groups-clause-others
returns-in_err-copy_groups-clause-others g c = let v = g.D.Disk.view in let v0 = v c.args.disk.now in let v1 = v c.blank.new.disk in let v2 = v c.make_stable.new.disk in let v3 = v c.copy_groups.new.disk in let number = c.args.number in
    λ t0.
    let t1 = still_tells v0 v1 c.blank.ensures.writes.told t0 in
    let t2 = still_tells v1 v2 c.make_stable.ensures.reads.told t1 in
    let k1 : KeepsAll number v0 v1 = keeps_written number v0 v1 0 c.blank.ensures.writes t0 in
    let k2 : KeepsAll number v0 v2 = keeps_on number v0 v1 v2 k1 (keeps_read number v1 v2 c.make_stable.ensures.reads t1) in
    let k3 : KeepsAll number v0 v3 = keeps_on number v0 v2 v3 k2 (c.copy_groups.ensures.others t2) in
    k3

pub returns-in_err-copy_groups-clause-stands : goal.returns-in_err-copy_groups-clause-stands
returns-in_err-copy_groups-clause-stands g c = let v = g.D.Disk.view in let v0 = v c.args.disk.now in let v1 = v c.blank.new.disk in let v2 = v c.make_stable.new.disk in let v3 = v c.copy_groups.new.disk in let number = c.args.number in
    λ t0.
    let t1 = still_tells v0 v1 c.blank.ensures.writes.told t0 in
    let t2 = still_tells v1 v2 c.make_stable.ensures.reads.told t1 in
    let k1 : KeepsAll number v0 v1 = keeps_written number v0 v1 0 c.blank.ensures.writes t0 in
    let k2 : KeepsAll number v0 v2 = keeps_on number v0 v1 v2 k1 (keeps_read number v1 v2 c.make_stable.ensures.reads t1) in
    let s1 : Stands v0 v1 = stands_written number v0 v1 0 c.blank.ensures.writes t0 in
    let s2 : Stands v0 v2 = stands_on number v0 v1 v2 k1 s1 (stands_read v1 v2 c.make_stable.ensures.reads t1) in
    let s3 : Stands v0 v3 = stands_on number v0 v2 v3 k2 s2 (c.copy_groups.ensures.stands t2) in
    s3

pub returns-in_err-make_stable-2-clause-told : goal.returns-in_err-make_stable-2-clause-told
returns-in_err-make_stable-2-clause-told g c = c.make_stable-2.ensures.reads.told ∙ c.copy_groups.ensures.told ∙ c.make_stable.ensures.reads.told ∙ c.blank.ensures.writes.told

pub returns-in_err-make_stable-2-clause-no_fewer : goal.returns-in_err-make_stable-2-clause-no_fewer
returns-in_err-make_stable-2-clause-no_fewer g c = let n0 = c.blank.ensures.writes.no_fewer in let n1 = c.make_stable.ensures.reads.no_fewer in let n2 = c.copy_groups.ensures.no_fewer in let n3 = c.make_stable-2.ensures.reads.no_fewer in omega (arith, n0, n1, n2, n3)

pub returns-in_err-make_stable-2-clause-others : goal.returns-in_err-make_stable-2-clause-others
returns-in_err-make_stable-2-clause-others g c = let v = g.D.Disk.view in let v0 = v c.args.disk.now in let v1 = v c.blank.new.disk in let v2 = v c.make_stable.new.disk in let v3 = v c.copy_groups.new.disk in let v4 = v c.make_stable-2.new.disk in let number = c.args.number in
    λ t0.
    let t1 = still_tells v0 v1 c.blank.ensures.writes.told t0 in
    let t2 = still_tells v1 v2 c.make_stable.ensures.reads.told t1 in
    let t3 = still_tells v2 v3 c.copy_groups.ensures.told t2 in
    let k1 : KeepsAll number v0 v1 = keeps_written number v0 v1 0 c.blank.ensures.writes t0 in
    let k2 : KeepsAll number v0 v2 = keeps_on number v0 v1 v2 k1 (keeps_read number v1 v2 c.make_stable.ensures.reads t1) in
    let k3 : KeepsAll number v0 v3 = keeps_on number v0 v2 v3 k2 (c.copy_groups.ensures.others t2) in
    let k4 : KeepsAll number v0 v4 = keeps_on number v0 v3 v4 k3 (keeps_read number v3 v4 c.make_stable-2.ensures.reads t3) in
    k4

pub returns-in_err-make_stable-2-clause-stands : goal.returns-in_err-make_stable-2-clause-stands
returns-in_err-make_stable-2-clause-stands g c = let v = g.D.Disk.view in let v0 = v c.args.disk.now in let v1 = v c.blank.new.disk in let v2 = v c.make_stable.new.disk in let v3 = v c.copy_groups.new.disk in let v4 = v c.make_stable-2.new.disk in let number = c.args.number in
    λ t0.
    let t1 = still_tells v0 v1 c.blank.ensures.writes.told t0 in
    let t2 = still_tells v1 v2 c.make_stable.ensures.reads.told t1 in
    let t3 = still_tells v2 v3 c.copy_groups.ensures.told t2 in
    let k1 : KeepsAll number v0 v1 = keeps_written number v0 v1 0 c.blank.ensures.writes t0 in
    let k2 : KeepsAll number v0 v2 = keeps_on number v0 v1 v2 k1 (keeps_read number v1 v2 c.make_stable.ensures.reads t1) in
    let k3 : KeepsAll number v0 v3 = keeps_on number v0 v2 v3 k2 (c.copy_groups.ensures.others t2) in
    let s1 : Stands v0 v1 = stands_written number v0 v1 0 c.blank.ensures.writes t0 in
    let s2 : Stands v0 v2 = stands_on number v0 v1 v2 k1 s1 (stands_read v1 v2 c.make_stable.ensures.reads t1) in
    let s3 : Stands v0 v3 = stands_on number v0 v2 v3 k2 s2 (c.copy_groups.ensures.stands t2) in
    let s4 : Stands v0 v4 = stands_on number v0 v3 v4 k3 s3 (stands_read v3 v4 c.make_stable-2.ensures.reads t3) in
    s4

pub returns-in_err-copy_slot-clause-told : goal.returns-in_err-copy_slot-clause-told
returns-in_err-copy_slot-clause-told g c = c.copy_slot.ensures.writes.told ∙ c.make_stable-2.ensures.reads.told ∙ c.copy_groups.ensures.told ∙ c.make_stable.ensures.reads.told ∙ c.blank.ensures.writes.told

pub returns-in_err-copy_slot-clause-no_fewer : goal.returns-in_err-copy_slot-clause-no_fewer
returns-in_err-copy_slot-clause-no_fewer g c = let n0 = c.blank.ensures.writes.no_fewer in let n1 = c.make_stable.ensures.reads.no_fewer in let n2 = c.copy_groups.ensures.no_fewer in let n3 = c.make_stable-2.ensures.reads.no_fewer in let n4 = c.copy_slot.ensures.writes.no_fewer in omega (arith, n0, n1, n2, n3, n4)

pub returns-in_err-copy_slot-clause-others : goal.returns-in_err-copy_slot-clause-others
returns-in_err-copy_slot-clause-others g c = let v = g.D.Disk.view in let v0 = v c.args.disk.now in let v1 = v c.blank.new.disk in let v2 = v c.make_stable.new.disk in let v3 = v c.copy_groups.new.disk in let v4 = v c.make_stable-2.new.disk in let v5 = v c.copy_slot.new.disk in let number = c.args.number in
    λ t0.
    let t1 = still_tells v0 v1 c.blank.ensures.writes.told t0 in
    let t2 = still_tells v1 v2 c.make_stable.ensures.reads.told t1 in
    let t3 = still_tells v2 v3 c.copy_groups.ensures.told t2 in
    let t4 = still_tells v3 v4 c.make_stable-2.ensures.reads.told t3 in
    let k1 : KeepsAll number v0 v1 = keeps_written number v0 v1 0 c.blank.ensures.writes t0 in
    let k2 : KeepsAll number v0 v2 = keeps_on number v0 v1 v2 k1 (keeps_read number v1 v2 c.make_stable.ensures.reads t1) in
    let k3 : KeepsAll number v0 v3 = keeps_on number v0 v2 v3 k2 (c.copy_groups.ensures.others t2) in
    let k4 : KeepsAll number v0 v4 = keeps_on number v0 v3 v4 k3 (keeps_read number v3 v4 c.make_stable-2.ensures.reads t3) in
    let k5 : KeepsAll number v0 v5 = keeps_on number v0 v4 v5 k4 (keeps_written number v4 v5 0 c.copy_slot.ensures.writes t4) in
    k5

pub returns-in_err-copy_slot-clause-stands : goal.returns-in_err-copy_slot-clause-stands
returns-in_err-copy_slot-clause-stands g c = let v = g.D.Disk.view in let v0 = v c.args.disk.now in let v1 = v c.blank.new.disk in let v2 = v c.make_stable.new.disk in let v3 = v c.copy_groups.new.disk in let v4 = v c.make_stable-2.new.disk in let v5 = v c.copy_slot.new.disk in let number = c.args.number in
    λ t0.
    let t1 = still_tells v0 v1 c.blank.ensures.writes.told t0 in
    let t2 = still_tells v1 v2 c.make_stable.ensures.reads.told t1 in
    let t3 = still_tells v2 v3 c.copy_groups.ensures.told t2 in
    let t4 = still_tells v3 v4 c.make_stable-2.ensures.reads.told t3 in
    let k1 : KeepsAll number v0 v1 = keeps_written number v0 v1 0 c.blank.ensures.writes t0 in
    let k2 : KeepsAll number v0 v2 = keeps_on number v0 v1 v2 k1 (keeps_read number v1 v2 c.make_stable.ensures.reads t1) in
    let k3 : KeepsAll number v0 v3 = keeps_on number v0 v2 v3 k2 (c.copy_groups.ensures.others t2) in
    let k4 : KeepsAll number v0 v4 = keeps_on number v0 v3 v4 k3 (keeps_read number v3 v4 c.make_stable-2.ensures.reads t3) in
    let s1 : Stands v0 v1 = stands_written number v0 v1 0 c.blank.ensures.writes t0 in
    let s2 : Stands v0 v2 = stands_on number v0 v1 v2 k1 s1 (stands_read v1 v2 c.make_stable.ensures.reads t1) in
    let s3 : Stands v0 v3 = stands_on number v0 v2 v3 k2 s2 (c.copy_groups.ensures.stands t2) in
    let s4 : Stands v0 v4 = stands_on number v0 v3 v4 k3 s3 (stands_read v3 v4 c.make_stable-2.ensures.reads t3) in
    let s5 : Stands v0 v5 = stands_on number v0 v4 v5 k4 s4 (stands_written number v4 v5 0 c.copy_slot.ensures.writes t4) in
    s5

pub returns-clause-told : goal.returns-clause-told
returns-clause-told g c = c.make_stable-3.ensures.reads.told ∙ c.copy_slot.ensures.writes.told ∙ c.make_stable-2.ensures.reads.told ∙ c.copy_groups.ensures.told ∙ c.make_stable.ensures.reads.told ∙ c.blank.ensures.writes.told

pub returns-clause-no_fewer : goal.returns-clause-no_fewer
returns-clause-no_fewer g c = let n0 = c.blank.ensures.writes.no_fewer in let n1 = c.make_stable.ensures.reads.no_fewer in let n2 = c.copy_groups.ensures.no_fewer in let n3 = c.make_stable-2.ensures.reads.no_fewer in let n4 = c.copy_slot.ensures.writes.no_fewer in let n5 = c.make_stable-3.ensures.reads.no_fewer in omega (arith, n0, n1, n2, n3, n4, n5)

pub returns-clause-others : goal.returns-clause-others
returns-clause-others g c = let v = g.D.Disk.view in let v0 = v c.args.disk.now in let v1 = v c.blank.new.disk in let v2 = v c.make_stable.new.disk in let v3 = v c.copy_groups.new.disk in let v4 = v c.make_stable-2.new.disk in let v5 = v c.copy_slot.new.disk in let v6 = v c.make_stable-3.new.disk in let number = c.args.number in
    λ t0.
    let t1 = still_tells v0 v1 c.blank.ensures.writes.told t0 in
    let t2 = still_tells v1 v2 c.make_stable.ensures.reads.told t1 in
    let t3 = still_tells v2 v3 c.copy_groups.ensures.told t2 in
    let t4 = still_tells v3 v4 c.make_stable-2.ensures.reads.told t3 in
    let t5 = still_tells v4 v5 c.copy_slot.ensures.writes.told t4 in
    let k1 : KeepsAll number v0 v1 = keeps_written number v0 v1 0 c.blank.ensures.writes t0 in
    let k2 : KeepsAll number v0 v2 = keeps_on number v0 v1 v2 k1 (keeps_read number v1 v2 c.make_stable.ensures.reads t1) in
    let k3 : KeepsAll number v0 v3 = keeps_on number v0 v2 v3 k2 (c.copy_groups.ensures.others t2) in
    let k4 : KeepsAll number v0 v4 = keeps_on number v0 v3 v4 k3 (keeps_read number v3 v4 c.make_stable-2.ensures.reads t3) in
    let k5 : KeepsAll number v0 v5 = keeps_on number v0 v4 v5 k4 (keeps_written number v4 v5 0 c.copy_slot.ensures.writes t4) in
    let k6 : KeepsAll number v0 v6 = keeps_on number v0 v5 v6 k5 (keeps_read number v5 v6 c.make_stable-3.ensures.reads t5) in
    k6

pub returns-clause-stands : goal.returns-clause-stands
returns-clause-stands g c = let v = g.D.Disk.view in let v0 = v c.args.disk.now in let v1 = v c.blank.new.disk in let v2 = v c.make_stable.new.disk in let v3 = v c.copy_groups.new.disk in let v4 = v c.make_stable-2.new.disk in let v5 = v c.copy_slot.new.disk in let v6 = v c.make_stable-3.new.disk in let number = c.args.number in
    λ t0.
    let t1 = still_tells v0 v1 c.blank.ensures.writes.told t0 in
    let t2 = still_tells v1 v2 c.make_stable.ensures.reads.told t1 in
    let t3 = still_tells v2 v3 c.copy_groups.ensures.told t2 in
    let t4 = still_tells v3 v4 c.make_stable-2.ensures.reads.told t3 in
    let t5 = still_tells v4 v5 c.copy_slot.ensures.writes.told t4 in
    let k1 : KeepsAll number v0 v1 = keeps_written number v0 v1 0 c.blank.ensures.writes t0 in
    let k2 : KeepsAll number v0 v2 = keeps_on number v0 v1 v2 k1 (keeps_read number v1 v2 c.make_stable.ensures.reads t1) in
    let k3 : KeepsAll number v0 v3 = keeps_on number v0 v2 v3 k2 (c.copy_groups.ensures.others t2) in
    let k4 : KeepsAll number v0 v4 = keeps_on number v0 v3 v4 k3 (keeps_read number v3 v4 c.make_stable-2.ensures.reads t3) in
    let k5 : KeepsAll number v0 v5 = keeps_on number v0 v4 v5 k4 (keeps_written number v4 v5 0 c.copy_slot.ensures.writes t4) in
    let s1 : Stands v0 v1 = stands_written number v0 v1 0 c.blank.ensures.writes t0 in
    let s2 : Stands v0 v2 = stands_on number v0 v1 v2 k1 s1 (stands_read v1 v2 c.make_stable.ensures.reads t1) in
    let s3 : Stands v0 v3 = stands_on number v0 v2 v3 k2 s2 (c.copy_groups.ensures.stands t2) in
    let s4 : Stands v0 v4 = stands_on number v0 v3 v4 k3 s3 (stands_read v3 v4 c.make_stable-2.ensures.reads t3) in
    let s5 : Stands v0 v5 = stands_on number v0 v4 v5 k4 s4 (stands_written number v4 v5 0 c.copy_slot.ensures.writes t4) in
    let s6 : Stands v0 v6 = stands_on number v0 v5 v6 k5 s5 (stands_read v5 v6 c.make_stable-3.ensures.reads t5) in
    s6

pub returns-clause-stable : goal.returns-clause-stable
returns-clause-stable g c = let v = g.D.Disk.view in let v0 = v c.args.disk.now in let v1 = v c.blank.new.disk in let v2 = v c.make_stable.new.disk in let v3 = v c.copy_groups.new.disk in let v4 = v c.make_stable-2.new.disk in let v5 = v c.copy_slot.new.disk in let v6 = v c.make_stable-3.new.disk in let number = c.args.number in
    on_ok _ _ c.make_stable-3.result (λ stable t0.
    let t1 = still_tells v0 v1 c.blank.ensures.writes.told t0 in
    let t2 = still_tells v1 v2 c.make_stable.ensures.reads.told t1 in
    let t3 = still_tells v2 v3 c.copy_groups.ensures.told t2 in
    let t4 = still_tells v3 v4 c.make_stable-2.ensures.reads.told t3 in
    let t5 = still_tells v4 v5 c.copy_slot.ensures.writes.told t4 in
    stable t5) c.make_stable-3.ensures.stable

pub returns-clause-copied : goal.returns-clause-copied
returns-clause-copied g c = let v = g.D.Disk.view in let v0 = v c.args.disk.now in let v1 = v c.blank.new.disk in let v2 = v c.make_stable.new.disk in let v3 = v c.copy_groups.new.disk in let v4 = v c.make_stable-2.new.disk in let v5 = v c.copy_slot.new.disk in let v6 = v c.make_stable-3.new.disk in let number = c.args.number in
    on_ok _ _ c.make_stable-3.result (λ stable t0.
    let t1 = still_tells v0 v1 c.blank.ensures.writes.told t0 in
    let t2 = still_tells v1 v2 c.make_stable.ensures.reads.told t1 in
    let t3 = still_tells v2 v3 c.copy_groups.ensures.told t2 in
    let t4 = still_tells v3 v4 c.make_stable-2.ensures.reads.told t3 in
    let t5 = still_tells v4 v5 c.copy_slot.ensures.writes.told t4 in
    let k1 : KeepsAll number v0 v1 = keeps_written number v0 v1 0 c.blank.ensures.writes t0 in
    let k2 : KeepsAll number v0 v2 = keeps_on number v0 v1 v2 k1 (keeps_read number v1 v2 c.make_stable.ensures.reads t1) in
    let k3 : KeepsAll number v0 v3 = keeps_on number v0 v2 v3 k2 (c.copy_groups.ensures.others t2) in
    let k4 : KeepsAll number v0 v4 = keeps_on number v0 v3 v4 k3 (keeps_read number v3 v4 c.make_stable-2.ensures.reads t3) in
    copied_whole number c.args.end v0 v2 v3 v4 v5 v6 k2 k4 (c.in_ok-copy_groups.ensures.copied t2) c.make_stable-2.ensures.reads t3 c.copy_slot.ensures.writes t4 (c.in_ok-copy_slot.ensures.copied t4) c.make_stable-3.ensures.reads t5) c.make_stable-3.ensures.stable

pub returns-clause-ended : goal.returns-clause-ended
returns-clause-ended g c = let v = g.D.Disk.view in let v0 = v c.args.disk.now in let v1 = v c.blank.new.disk in let v2 = v c.make_stable.new.disk in let v3 = v c.copy_groups.new.disk in let v4 = v c.make_stable-2.new.disk in let v5 = v c.copy_slot.new.disk in let v6 = v c.make_stable-3.new.disk in let number = c.args.number in
    on_ok _ _ c.make_stable-3.result (λ stable t0.
    let t1 = still_tells v0 v1 c.blank.ensures.writes.told t0 in
    let t2 = still_tells v1 v2 c.make_stable.ensures.reads.told t1 in
    let t3 = still_tells v2 v3 c.copy_groups.ensures.told t2 in
    let t4 = still_tells v3 v4 c.make_stable-2.ensures.reads.told t3 in
    let t5 = still_tells v4 v5 c.copy_slot.ensures.writes.told t4 in
    λ first. ended_whole number c.args.end v3 v4 v5 v6 first (c.in_ok-copy_groups.ensures.ended t2) c.make_stable-2.ensures.reads t3 c.copy_slot.ensures.writes t4 c.make_stable-3.ensures.reads t5) c.make_stable-3.ensures.stable
