use Rattle.std.proofs.Common.{◌∙◌, ap, ⊎_elim, inl, inr}
use Rattle.rdb_types.specs.declared.keys.Tsn.{Tsn}
use Rattle.disk_seats.specs.Ledgers.{progress_of}
use Rattle.disk_seats.proofs.Progresses.{same_going, same_former}
use Rattle.disk_seats.proofs.MemberCalls.{named_behind}
use Rattle.disk_seats.proofs.headers.name_header.Goals as goal

pub returns-clause-keeps : goal.returns-clause-keeps
returns-clause-keeps g c = let v = g.D.Disk.view in λ t ledger o was is going same.
    let old = v c.args.disk.now in let new = v c.open_header.new.disk in
    named_behind old new ledger c.args.member t was o is going c.open_header.ensures.writes
    (λ h q. ⊎_elim (λ p. inl p) (λ names. inr (names ∙ ap (λ (n : Tsn). n.number) same)) (c.open_header.ensures.headers t h q))
    (c.open_header.ensures.keeps t (progress_of ledger) o was.facts (same_going old ledger was c.args.member ∙ going) same (same_former old ledger was ∙ was.settled) was.used)
