-- A barrier, and a read behind it.
use Rattle.std.proofs.Common.{IsTrue, sym, subst, ◌∙◌}
use Rattle.rdb_outside.specs.Disk.{View, OnlyReads, IsStable}
use Rattle.rdb_outside.specs.Runs.{then_reads}
use Rattle.disk_seats.specs.Ledgers.{Ledger}
use Rattle.disk_seats.specs.Members.{LedgerFacts}
use Rattle.member_steps.proofs.Journals.{read_ledger}

module _ (v u w : View) (settles : OnlyReads v u) (keeps : IsTrue v.tells → (g : Ledger) → LedgerFacts v g → LedgerFacts u g) (reads : OnlyReads u w) where
  pub told-on : IsTrue v.tells → IsTrue u.tells
  told-on t = subst IsTrue (sym settles.told) t

  pub both-read : OnlyReads v w
  both-read = then_reads v u w settles reads

  pub keeps-both : IsTrue v.tells → (g : Ledger) → LedgerFacts v g → LedgerFacts w g
  keeps-both t g was = read_ledger u w g (told-on t) reads (keeps t g was)

  pub stable-behind : (IsTrue v.tells → IsStable u) → IsTrue v.tells → IsStable w
  stable-behind stable t file slot bytes p = stable t file slot bytes ((reads.keeps (told-on t)).pending file slot bytes p) ∙ sym ((reads.keeps (told-on t)).content file slot)
