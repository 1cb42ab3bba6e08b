use Rattle.std.proofs.Common.{arith}
use Rattle.sound_maps.specs.Maps.{IsSoundWith}
use Rattle.faultless_runs.proofs.Runs.{is_sound, left_now, left_since, left_whole}
use Rattle.faultless_runs.proofs.laws.a_run_leaves_no_fault.Goals as goal

pub returns-clause-read : goal.returns-clause-read
returns-clause-read g c = λ o events holds.
    let v = g.D.Disk.view c.args.disk.now in
    left_now IsSoundWith is_sound o v events holds v.content (g.met.D.Disk.content_left c.args.disk.now v.moment holds.tells (omega arith))

pub returns-clause-now : goal.returns-clause-now
returns-clause-now g c = λ o events. left_now IsSoundWith is_sound o (g.D.Disk.view c.args.disk.now) events

pub returns-clause-since : goal.returns-clause-since
returns-clause-since g c = λ o events. left_since IsSoundWith is_sound o (g.D.Disk.view c.args.disk.now) events

pub returns-clause-whole : goal.returns-clause-whole
returns-clause-whole g c = λ o events. left_whole IsSoundWith is_sound o (g.D.Disk.view c.args.disk.now) events
