-- The ledger behind a root that was raised and made stable.
use Rattle.std.proofs.Common.{◌≡◌, ℕ, ◌+◌, List, sym, ap, ◌∙◌, subst, arith}
use Rattle.rdb_outside.specs.Disk.{View, Pending, IsStable}
use Rattle.root_file.specs.declared.Root.{Root}
use Rattle.root_file.specs.Root.{IsRoot}
use Rattle.root_file.proofs.Readings.{one_root}
use Rattle.new_database.specs.Maker.{root_file}
use Rattle.disk_seats.specs.stable_lines.Progress.{Progress}
use Rattle.disk_seats.specs.stable_lines.Facts.{Facts}
use Rattle.disk_seats.specs.Ledgers.{new_ledger}
use Rattle.disk_seats.specs.Members.{LedgerFacts}
use Rattle.disk_seats.proofs.Marked.{new_facts}
use Rattle.member_steps.specs.Beginning.{HasCeiling, IsAtRest}

-- the limits are those of the root that was read
pub limits_read : (v : View) (base : Progress) (bytes : List ℕ) (root : Root) → Facts (Pending v) base → Pending v root_file 0 bytes → IsRoot bytes root → root.limits ≡ base.limits
limits_read v base bytes root was pends is =
    let old = was.root bytes pends in
    ap (λ (r : Root). r.limits) (one_root bytes root old.root is old.is) ∙ old.limits

module _ (w : View) (root : Root) (stable : IsStable w) (stands : IsRoot (w.content root_file 0) root) where
  -- only this root is left
  is_root : (content : List ℕ) (other : Root) → Pending w root_file 0 content → IsRoot content other → other ≡ root
  is_root content other q is = one_root content other root is (subst (λ (b : List ℕ). IsRoot b root) (sym (stable root_file 0 content q)) stands)

  pub begun : (base : Progress) (next : ℕ) → Facts (Pending w) base → IsAtRest base → root.state ≡ 1 → root.ceiling ≡ next + 64 → LedgerFacts w (new_ledger base w.moment) × HasCeiling (Pending w) (next + 64)
  begun base next facts rest whole ceiling = (
    new_facts w base facts rest.rests rest.quiet rest.settled
        (λ content other q is three. let one = ap (λ (r : Root). r.state) (is_root content other q is) in omega (arith, one, whole, three)),
    λ content other q is. let same = ap (λ (r : Root). r.ceiling) (is_root content other q is) in omega (arith, same, ceiling),
  )
