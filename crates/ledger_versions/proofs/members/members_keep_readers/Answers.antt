use Rattle.std.proofs.Common.{arith, subst}
use Rattle.disk_seats.specs.Ledgers.{Standing}
use Rattle.disk_seats.specs.Members.{MemberStands}
use Rattle.ledger_versions.proofs.MembersEnd.{member_begins, commit_begins, member_lands, member_ends}
use Rattle.ledger_versions.proofs.members.members_keep_readers.Goals as goal

pub returns-clause-begins : goal.returns-clause-begins
returns-clause-begins g c = let v = g.D.Disk.view c.args.disk.now in λ ledger limit course waiting member facts rests was.
    member_begins v ledger limit course waiting member facts rests (subst (λ (s : Standing). MemberStands v ledger.base member s) rests (facts.member member)) was

pub returns-clause-commits : goal.returns-clause-commits
returns-clause-commits g c = λ ledger limit course waiting commit transaction stable stands is lines low was.
    commit_begins (g.D.Disk.view c.args.disk.now) ledger limit course waiting commit transaction stable stands is lines low was

pub returns-clause-lands : goal.returns-clause-lands
returns-clause-lands g c = let v = g.D.Disk.view c.args.disk.now in λ ledger limit course waiting commit moment facts behind under flown was.
    member_lands v ledger limit course waiting commit moment (g.met.D.Disk.content_left c.args.disk.now v.moment c.requires.tells (omega arith)) facts behind under flown was

pub returns-clause-ends : goal.returns-clause-ends
returns-clause-ends g c = let v = g.D.Disk.view c.args.disk.now in λ ledger limit course waiting member transaction given facts may is its none was.
    member_ends v ledger limit course waiting member transaction (g.met.D.Disk.content_left c.args.disk.now v.moment c.requires.tells (omega arith)) facts may is given its none was
