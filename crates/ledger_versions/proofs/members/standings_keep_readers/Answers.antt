use Rattle.std.proofs.Common.{◌≡◌, ◌∙◌, length, ap, subst}
use Rattle.line_moves.specs.Lines.{ArePut}
use Rattle.disk_seats.specs.line_seat.declared.commit.CommitStage.{CommitStage}
use Rattle.disk_seats.specs.line_seat.Stages.{CommitFacts}
use Rattle.disk_seats.specs.Ledgers.{broken, undoing, gained, Commit, again, flies, commit_at, set_standing, gone_on, held_up, given_up, marked_at}
use Rattle.ledger_versions.proofs.Restanding.{restands, keeps_all, keeps_gained, keeps_others, again_flies, some_commit, no_commit}
use Rattle.ledger_versions.proofs.members.standings_keep_readers.Goals as goal

pub returns-clause-settled : goal.returns-clause-settled
returns-clause-settled g c = λ ledger limit course waiting was. restands (g.D.Disk.view c.args.disk.now) limit course waiting ledger (λ m. gained (ledger.standing m)) ledger.commit ledger.history ledger.moments (keeps_gained ledger.standing) was.its was.put was

pub returns-clause-broken : goal.returns-clause-broken
returns-clause-broken g c = λ ledger limit course waiting member was. restands (g.D.Disk.view c.args.disk.now) limit course waiting ledger (set_standing member broken ledger.standing) ledger.commit ledger.history ledger.moments (keeps_others member broken ledger.standing (λ bad. bad)) was.its was.put was

pub returns-clause-undoing : goal.returns-clause-undoing
returns-clause-undoing g c = λ ledger limit course waiting member left all was. restands (g.D.Disk.view c.args.disk.now) limit course waiting ledger (set_standing member (undoing all left) ledger.standing) ledger.commit ledger.history ledger.moments (keeps_others member (undoing all left) ledger.standing (λ bad. bad)) was.its was.put was

pub returns-clause-gathered : goal.returns-clause-gathered
returns-clause-gathered g c = let v = g.D.Disk.view c.args.disk.now in λ ledger commit facts under stage.
    (subst (λ (s : CommitStage). CommitFacts s v ledger.base commit.place commit.lines commit.flight) stage (facts.commit commit under).facts).done.0

pub returns-clause-gone_on : goal.returns-clause-gone_on
returns-clause-gone_on g c = let v = g.D.Disk.view c.args.disk.now in λ ledger limit course waiting commit next under put was.
    restands v limit course waiting ledger ledger.standing (gone_on next commit ledger).commit (gone_on next commit ledger).history ledger.moments (keeps_all ledger.standing)
    (λ d is. subst (λ (x : Commit). waiting x.member ≡ x.lines) (some_commit (commit_at next commit) d is) (was.its commit under))
    (λ d is flown. subst (λ (x : Commit). ArePut v.content x.lines (length x.lines)) (some_commit (commit_at next commit) d is) (put (ap (λ (x : Commit). flies x.stage) (some_commit (commit_at next commit) d is) ∙ flown)))
    was

pub returns-clause-held_up : goal.returns-clause-held_up
returns-clause-held_up g c = let v = g.D.Disk.view c.args.disk.now in λ ledger limit course waiting commit under was.
    restands v limit course waiting ledger ledger.standing (held_up commit ledger).commit ledger.history ledger.moments (keeps_all ledger.standing)
    (λ d is. subst (λ (x : Commit). waiting x.member ≡ x.lines) (some_commit (commit_at (again commit.stage) commit) d is) (was.its commit under))
    (λ d is flown. subst (λ (x : Commit). ArePut v.content x.lines (length x.lines)) (some_commit (commit_at (again commit.stage) commit) d is)
    (was.put commit under (again_flies commit.stage (ap (λ (x : Commit). flies x.stage) (some_commit (commit_at (again commit.stage) commit) d is) ∙ flown))))
    was

pub returns-clause-given_up : goal.returns-clause-given_up
returns-clause-given_up g c = λ ledger limit course waiting commit was. restands (g.D.Disk.view c.args.disk.now) limit course waiting ledger (given_up commit ledger).standing (given_up commit ledger).commit ledger.history ledger.moments
    (keeps_others commit.member (undoing commit.transaction.entries (length commit.transaction.entries)) ledger.standing (λ bad. bad))
    (λ d is. absurd (no_commit d is)) (λ d is. absurd (no_commit d is)) was

pub returns-clause-marked : goal.returns-clause-marked
returns-clause-marked g c = λ ledger limit moment course waiting was. restands (g.D.Disk.view c.args.disk.now) limit course waiting ledger ledger.standing ledger.commit (marked_at moment ledger).history (marked_at moment ledger).moments (keeps_all ledger.standing) was.its was.put was
