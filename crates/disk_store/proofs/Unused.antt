-- What the tables never used is unused on the disk, as the last commit left it: behind tables that have more, and behind a commit that lands.
use Rattle.std.proofs.Common.{◌≡◌, ◌==◌, ℕ, Bool, true, false, cond, Some, refl, sym, ap, ◌∙◌}
use Rattle.std.specs.Prelude.{slice_get}
use Rattle.std.proofs.lemmas.Bool.{eqb-true}
use Rattle.rdb_types.specs.declared.keys.Dbkey.{Dbkey}
use Rattle.rdb_page.specs.Page.{IsOwner}
use Rattle.rdb_outside.specs.Disk.{View, LeftNow}
use Rattle.line_view.specs.Knowledge.{Lines}
use Rattle.line_versions.specs.Course.{Course}
use Rattle.stable_lines.specs.Slots.{Undo, line_at}
use Rattle.stable_lines.specs.Progress.{Open}
use Rattle.ledger_versions.specs.disk_seats.Ledgers.{entries_of, Commit, Ledger, Standing}
use Rattle.ledger_versions.specs.disk_seats.Members.{LedgerFacts}
use Rattle.ledger_versions.specs.disk_versions.Courses.{course_landed}
use Rattle.ledger_versions.specs.Readers.{HasBefore}
use Rattle.ledger_versions.proofs.Standings.{its_line}
use Rattle.disk_store.specs.declared.member.Member.{Member}
use Rattle.disk_store.specs.declared.held.Tables.{Tables}
use Rattle.disk_store.specs.Landing.{PutsAll}
use Rattle.disk_store.specs.Memory.{StoreMemory}
use Rattle.disk_store.specs.Shown.{AreUnused, IsUnused}
use Rattle.disk_store.specs.Sound.{IsSound, IsUsedIn}
use Rattle.disk_store.proofs.EverUsed.{all-here, all-still}
use Rattle.disk_store.proofs.FoundLines.{stands-there}
use Rattle.disk_store.proofs.SlotsSound.{found-key}

-- the tables have all that was used, and may have more
pub unused-still : (old new : Tables) (course : Course) → ((file : ℕ) (key : Dbkey) → IsUsedIn old file key → IsUsedIn new file key) → AreUnused old course → AreUnused new course
unused-still old new course still was file key owner never = was file key owner (λ used. never (still file key (record { owner = owner; used = used })).used)

-- each line that bears a transaction that lands is in the tables
unused-landed : (w : View) (g : Ledger) (left : LeftNow w w.content) (facts : LedgerFacts w g) (member : ℕ) (o : Open) (is_open : g.base.going member ≡ Some o) (course : Course) (lines : Lines) (old new : Tables)
    → ((file : ℕ) (key : Dbkey) → IsUsedIn old file key → IsUsedIn new file key) → ((key : Dbkey) → HasBefore (entries_of (g.standing member)) key → (file : ℕ) → IsOwner file key.area → IsUsedIn new file key) → AreUnused old course → AreUnused new (course_landed o.tsn.number (line_at w.content) lines course)
unused-landed w g left facts member o is_open course lines old new still mine was file key owner never = by ((line_at w.content key).tsn.number == o.tsn.number) refl
  where
    by : (b : Bool) → ((line_at w.content key).tsn.number == o.tsn.number) ≡ b → IsUnused (cond b (line_at w.content key) (course.base key))
    by true bears = absurd (never (mine key (its_line w g facts left member o is_open key (eqb-true _ _ bears)) file owner).used)
    by false other = was file key owner (λ used. never (still file key (record { owner = owner; used = used })).used)

-- The lines of a commit that lands are those of its session.
pub unused-behind : (w : View) (g : Ledger) (left : LeftNow w w.content) (facts : LedgerFacts w g) (held : StoreMemory) (sound : IsSound held) (s : ℕ) (m : Member) (was : slice_get held.members s ≡ Some m) (c : Commit) (under : g.commit ≡ Some c)
    → ((i : ℕ) (undo : Undo) → slice_get c.transaction.entries i ≡ Some undo → slice_get m.written.keys i ≡ Some undo.key) → (course : Course) (lines : Lines) (kept : Tables) → PutsAll held.tables m.written.lines kept → AreUnused held.tables course → AreUnused kept (course_landed c.transaction.tsn.number (line_at w.content) lines course)
unused-behind w g left facts held sound s m was c under keys course lines kept puts unused =
    unused-landed w g left facts c.member c.transaction (facts.commit c under).is.is_open course lines held.tables kept (all-still held.tables m.written.lines kept puts) mine unused
  where
    mine : (key : Dbkey) → HasBefore (entries_of (g.standing c.member)) key → (file : ℕ) → IsOwner file key.area → IsUsedIn kept file key
    mine key has file owner =
        let entry : slice_get c.transaction.entries has.index ≡ Some has.undo = ap (λ (st : Standing). slice_get (entries_of st) has.index) (sym (facts.commit c under).its) ∙ has.is in
        let place : slice_get m.written.keys has.index ≡ Some key = keys has.index has.undo entry ∙ ap Some has.key_is in
        let found = found-key held sound s m was has.index key place in
        let there = stands-there m.written.lines key found.0 found.1 in
        all-here held.tables m.written.lines kept puts there.place (key, found.0) there.is file owner
