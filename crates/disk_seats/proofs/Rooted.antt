-- A ledger behind a root.
use Rattle.std.proofs.Common.{◌≡◌, ◌≢◌, ℕ, suc, IsTrue, List, Option, ◌⊎◌, ⊎_elim, ap, subst, refl, arith}
use Rattle.rdb_types.specs.declared.file.FileKind.TheVariants.{Root, Area, Ruj}
use Rattle.rdb_outside.specs.Disk.{View, Pending}
use Rattle.root_file.specs.declared.Root.{Root as RootValue}
use Rattle.root_file.specs.Root.{IsRoot}
use Rattle.root_file.proofs.Readings.{one_root}
use Rattle.new_database.specs.Maker.{root_file}
use Rattle.line_opening.specs.stable_lines.Facts.{Facts}
use Rattle.line_opening.specs.line_moves.Calls.{OnlyWrites}
use Rattle.line_opening.proofs.of_line_moves.OnlyPut.{lines_beside}
use Rattle.disk_seats.specs.Ledgers.{Ledger, progress_with, progress_of}
use Rattle.disk_seats.specs.Members.{LedgerFacts}
use Rattle.disk_seats.specs.Ledgers.{Commit}
use Rattle.disk_seats.proofs.OthersStay.{member_stays, leaves_aside, commit_stays, beside_root}
use Rattle.disk_seats.proofs.Assembled.{assembled}

pub rooted : (v w : View) (g : Ledger) (root : RootValue) → IsTrue v.tells → OnlyWrites root_file 0 v w → LedgerFacts v g → Facts (Pending w) (progress_of g) → root.state ≡ 1
    → ((x : List ℕ) → Pending w root_file 0 x → Pending v root_file 0 x ⊎ IsRoot x root) → LedgerFacts w g
rooted v w g root t rest was facts whole roots = assembled v w root_file 0 g g.standing t rest was facts
    (λ x other q is. ⊎_elim (λ p. was.used x other p is) (λ this. λ three. let one = ap (λ (r : RootValue). r.state) (one_root x other root is this) in omega (arith, one, whole, three)) (roots x q))
    (λ m. member_stays v w g.base (suc m) (leaves_aside v w g.base (suc m) root_file 0 t not_ruj rest) m (λ same. let no : m ≡ suc m = same in omega (arith, no)) (g.standing m) (λ i undo got. lines_beside v w root_file 0 t (λ k. let bad : Root ≡ Area = k in cc) rest undo.key) (was.member m))
    (λ c is. commit_stays v w g.base g.standing g.standing c refl (beside_root v w g.base c.member 0 t rest) (subst (λ (o : Option Commit). Facts (Pending w) (progress_with o g.base)) is facts) (was.commit c is))
    was.apart
  where
    not_ruj : Root ≢ Ruj
    not_ruj k = let bad : Root ≡ Ruj = k in cc
