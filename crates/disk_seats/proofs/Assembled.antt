-- A ledger behind a call that leaves the transactions as far as they are.
use Rattle.std.proofs.Common.{◌≡◌, ◌≢◌, ℕ, ◌<◌, IsTrue, List, Option, Some, ⊎_elim, slice_get, length, sym, subst, refl, arith}
use Rattle.rdb_types.specs.declared.file.FileId.{FileId}
use Rattle.rdb_types.specs.declared.file.FileKind.TheVariants.{Root}
use Rattle.rdb_outside.specs.Disk.{View, Pending}
use Rattle.rdb_outside.specs.Moments.{Since}
use Rattle.root_file.specs.declared.Root.{Root as RootValue}
use Rattle.root_file.specs.Root.{IsRoot}
use Rattle.new_database.specs.Maker.{root_file}
use Rattle.line_opening.specs.stable_lines.Slots.{Undo, line_at}
use Rattle.line_opening.specs.stable_lines.Facts.{Facts}
use Rattle.line_opening.specs.stable_lines.History.{StandsFrom}
use Rattle.line_opening.specs.line_moves.Calls.{OnlyWrites}
use Rattle.line_opening.proofs.of_line_moves.EveryMoment.{since_written}
use Rattle.line_opening.proofs.of_line_moves.Putting.{nat_cases}
use Rattle.line_seat.proofs.StageStays.{IsBesideIt}
use Rattle.disk_seats.specs.Ledgers.{Standing, entries_of, Commit, Ledger, progress_with, progress_of, set_standing}
use Rattle.disk_seats.specs.Members.{MemberStands, CommitStands, AreApart, LedgerFacts}
use Rattle.disk_seats.proofs.Standings.{within, standing_is, standing_there}
use Rattle.disk_seats.proofs.OthersStay.{LeavesSeats, member_stays, commit_stays, used_stays}

-- what images since a commit stand for stays
pub since_call : (v w : View) (file : FileId) (slot : ℕ) (g : Ledger) → IsTrue v.tells → OnlyWrites file slot v w → LedgerFacts v g → Facts (Pending w) (progress_of g)
    → (k t : ℕ) → slice_get g.moments k ≡ Some t → Since w t (StandsFrom g.history k)
since_call v w file slot g tells rest was facts k t got =
    let less : k < length g.history.reached = (let lt = within g.moments k t got in let same = was.marked in omega (arith, lt, same)) in
    since_written v w file slot t k g.history (progress_of g) tells rest was.facts facts was.at less (was.stands k t got)

pub assembled : (v w : View) (file : FileId) (slot : ℕ) (g : Ledger) (standing : ℕ → Standing) → IsTrue v.tells → OnlyWrites file slot v w → LedgerFacts v g → Facts (Pending w) (progress_of g)
    → ((content : List ℕ) (root : RootValue) → Pending w root_file 0 content → IsRoot content root → root.state ≢ 3)
    → ((m : ℕ) → MemberStands w g.base m (standing m)) → ((c : Commit) → g.commit ≡ Some c → CommitStands w g.base standing c) → AreApart standing → LedgerFacts w (record g { standing = standing })
assembled v w file slot g standing tells rest was facts used members commits apart = record {
  facts = facts;
  quiet = was.quiet;
  settled = was.settled;
  used = used;
  member = members;
  commit = commits;
  apart = apart;
  at = was.at;
  marked = was.marked;
  stands = since_call v w file slot g tells rest was facts;
}

-- a call of a member whose commit isn't under way, which comes to stand otherwise
pub member_called : (v w : View) (file : FileId) (slot member : ℕ) (st : Standing) (g : Ledger) → IsTrue v.tells → OnlyWrites file slot v w → file.kind ≢ Root → LedgerFacts v g → Facts (Pending w) (progress_of g)
    → ((s i : ℕ) (undo : Undo) → s ≢ member → slice_get (entries_of (g.standing s)) i ≡ Some undo → line_at w.content undo.key ≡ line_at v.content undo.key)
    → ((c : Commit) → g.commit ≡ Some c → c.member ≢ member) → LeavesSeats v w g.base member → ((c : Commit) → g.commit ≡ Some c → IsBesideIt v w g.base c.member)
    → MemberStands w g.base member st → AreApart (set_standing member st g.standing) → LedgerFacts w (record g { standing = set_standing member st g.standing })
member_called v w file slot member st g tells rest other was facts lines off leaves beside own apart = assembled v w file slot g (set_standing member st g.standing) tells rest was facts
    (used_stays v w file slot tells other rest was.used) members
    (λ c is. commit_stays v w g.base g.standing (set_standing member st g.standing) c (standing_there member st g.standing c.member (off c is)) (beside c is)
    (subst (λ (o : Option Commit). Facts (Pending w) (progress_with o g.base)) is facts) (was.commit c is))
    apart
  where
    members : (m : ℕ) → MemberStands w g.base m (set_standing member st g.standing m)
    members m = ⊎_elim
        (λ here. subst (λ (s : Standing). MemberStands w g.base m s) (sym here.1) (subst (λ (k : ℕ). MemberStands w g.base k st) (sym here.0) own))
        (λ away. subst (λ (s : Standing). MemberStands w g.base m s) (sym away.1) (member_stays v w g.base member leaves m away.0 (g.standing m) (λ i undo got. lines m i undo away.0 got) (was.member m)))
        (standing_is member st g.standing m)

-- a call of a member whose commit isn't under way, which stands as it did
pub member_kept : (v w : View) (file : FileId) (slot member : ℕ) (g : Ledger) → IsTrue v.tells → OnlyWrites file slot v w → file.kind ≢ Root → LedgerFacts v g → Facts (Pending w) (progress_of g)
    → ((s i : ℕ) (undo : Undo) → s ≢ member → slice_get (entries_of (g.standing s)) i ≡ Some undo → line_at w.content undo.key ≡ line_at v.content undo.key)
    → LeavesSeats v w g.base member → ((c : Commit) → g.commit ≡ Some c → IsBesideIt v w g.base c.member)
    → MemberStands w g.base member (g.standing member) → LedgerFacts w g
member_kept v w file slot member g tells rest other was facts lines leaves beside own = assembled v w file slot g g.standing tells rest was facts
    (used_stays v w file slot tells other rest was.used)
    (λ m. ⊎_elim (λ (here : m ≡ member). subst (λ (k : ℕ). MemberStands w g.base k (g.standing k)) (sym here) own) (λ away. member_stays v w g.base member leaves m away (g.standing m) (λ i undo got. lines m i undo away got) (was.member m)) (nat_cases m member))
    (λ c is. commit_stays v w g.base g.standing g.standing c refl (beside c is)
    (subst (λ (o : Option Commit). Facts (Pending w) (progress_with o g.base)) is facts) (was.commit c is))
    was.apart
