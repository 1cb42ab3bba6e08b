use Rattle.std.proofs.Common.{◌≡◌, ◌+◌, ◌∙◌, true, false, ap, sym}
use Rattle.journal_scan.specs.Standing.{what_stands}
use Rattle.member_steps.proofs.Told.{told, untold, nothing_told, read_there}
use Rattle.member_steps.proofs.judging.has_commit.Goals as goal

pub returns-in-Some-clause-stands : goal.returns-in-Some-clause-stands
returns-in-Some-clause-stands g c = let v = g.D.Disk.view in λ said t now f is.
    let yes_it_is : c.is_commit.result ≡ true = cc in
    let there = read_there (v c.args.disk.now) (v c.read.new.self) c.aij_file.result (c.args.group.slot + c.args.lines) c.read.new.into c.aij_file.ensures (c.read.ensures.kept t).content (c.in_ok-read.ensures.bytes t) in
    ap what_stands there ∙ told now f c.args.group.slot c.args.group.number c.args.lines c.args.group.tsn is c.read.new.into c.in-Some.part c.in-Some.ensures.found (c.is_commit.ensures.yes yes_it_is)

pub returns-in-Some-clause-lost : goal.returns-in-Some-clause-lost
returns-in-Some-clause-lost g c = let v = g.D.Disk.view in λ said t now f is stands.
    let no_it_isnt : c.is_commit.result ≡ false = cc in
    let there = read_there (v c.args.disk.now) (v c.read.new.self) c.aij_file.result (c.args.group.slot + c.args.lines) c.read.new.into c.aij_file.ensures (c.read.ensures.kept t).content (c.in_ok-read.ensures.bytes t) in
    untold now f c.args.group.slot c.args.group.number c.args.lines c.args.group.tsn is c.read.new.into c.in-Some.part c.in-Some.ensures.found (c.is_commit.ensures.no no_it_isnt) (sym (ap what_stands there) ∙ stands)

pub returns-in-None-clause-lost : goal.returns-in-None-clause-lost
returns-in-None-clause-lost g c = let v = g.D.Disk.view in λ said t now f is stands.
    let there = read_there (v c.args.disk.now) (v c.read.new.self) c.aij_file.result (c.args.group.slot + c.args.lines) c.read.new.into c.aij_file.ensures (c.read.ensures.kept t).content (c.in_ok-read.ensures.bytes t) in
    nothing_told now f c.args.group.slot c.args.group.number c.args.lines c.args.group.tsn is c.read.new.into c.in-None.ensures.none (sym (ap what_stands there) ∙ stands)
