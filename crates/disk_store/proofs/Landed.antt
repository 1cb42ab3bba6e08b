-- What is shown behind a commit that lands: where the next group is, pages, and the space that is taken.
use Rattle.std.proofs.Common.{◌≡◌, ◌+◌, ◌-◌, ◌==◌, ◌&&◌, ◌%◌, inl, inr, ◌⊎◌, ℕ, Bool, true, false, not, nat_le, [], ◌∷◌, length, Option, Some, refl, sym, ap, subst, ◌∙◌, arith}
use Rattle.std.specs.Prelude.{slice_get}
use Rattle.std.specs.List.{flat_map}
use Rattle.std.proofs.lemmas.List.{length-append}
use Rattle.std.proofs.lemmas.List.Concat.{flat_map-append}
use Rattle.std.proofs.lemmas.Bool.{leb-true}
use Rattle.rdb_page.specs.Page.{IsOwner}
use Rattle.rdb_outside.specs.Disk.{View, Pending}
use Rattle.journal_scan.specs.declared.group.Group.{Group}
use Rattle.journal_scan.specs.Whole.{slots_from, slots_of}
use Rattle.line_view.specs.Knowledge.{Lines}
use Rattle.line_view.specs.Writes.{laid_all}
use Rattle.line_store.specs.Shelves.{Shelf, Space}
use Rattle.line_store.specs.Calls.{TakesGroup}
use Rattle.stable_lines.specs.Journal.{Journal, next_number, next_slot, with_group}
use Rattle.stable_lines.specs.Progress.{flying, landed as with_landed}
use Rattle.stable_lines.specs.Facts.{Facts}
use Rattle.stable_lines.specs.Rolling.{IsBehind}
use Rattle.stable_lines.proofs.Rolls.{behind_lands}
use Rattle.line_moves.specs.Lines.{ChangedLines}
use Rattle.line_seat.specs.declared.commit.CommitStage.{CommitStage}
use Rattle.line_seat.specs.declared.commit.CommitStage.TheVariants as commit_stage
use Rattle.line_seat.specs.Stages.{progress_at}
use Rattle.ledger_versions.specs.disk_seats.Ledgers.{Commit, Ledger, flies, progress_with}
use Rattle.ledger_versions.specs.disk_seats.Members.{LedgerFacts}
use Rattle.member_rooms.specs.committed_tables.Tables.{HasCommitted}
use Rattle.member_rooms.specs.page_table.Pages.{owner_in, IsWithin}
use Rattle.member_rooms.specs.store_shows.Rooms.{is_free}
use Rattle.member_memory.specs.Memory.{writes_in}
use Rattle.disk_store.specs.declared.member.Member.{Member}
use Rattle.disk_store.specs.declared.member.MemberStage.{MemberStage}
use Rattle.disk_store.specs.declared.held.Tables.{Tables}
use Rattle.disk_store.specs.Dying.{forgotten}
use Rattle.disk_store.specs.Landing.{PutsAll, landed_with}
use Rattle.disk_store.specs.Memory.{StoreMemory}
use Rattle.disk_store.specs.Shown.{RollsOn, TablesStand, Shown, pages_of}
use Rattle.disk_store.specs.Sound.{IsSound}
use Rattle.disk_store.proofs.Written.{lines-counted}
use Rattle.disk_store.proofs.LinesPut.{SamePages, all-same, all-committed}
use Rattle.disk_store.proofs.Stepping.{Becomes}

-- ---- the journal behind a group

slots-long : (g : Group) (at : ℕ) (ls : _) → length (slots_from g at ls) ≡ length ls + 1
slots-long g at [] = refl
slots-long g at (l ∷ ls) = let rest = slots-long g (at + 1) ls in omega (arith, rest)

pub slot-behind : (j : Journal) (g : Group) → next_slot (with_group j g) ≡ next_slot j + (length g.lines + 1)
slot-behind j g =
    let joined = ap length (flat_map-append slots_of j.groups (g ∷ [])) in
    let both = length-append (flat_map slots_of j.groups) (flat_map slots_of (g ∷ [])) in
    let one = length-append (slots_of g) [] in
    let its = slots-long g 0 g.lines in
    omega (arith, joined, both, one, its)

pub number-behind : (j : Journal) (g : Group) → next_number (with_group j g) ≡ next_number j + 1
number-behind j g = let both = length-append j.groups (g ∷ []) in omega (arith, both)

-- a backup that was behind what is committed is behind the commit whose group flew and stands
pub rolls-landed : (v : View) (g : Ledger) (c : Commit) → LedgerFacts v g → g.commit ≡ Some c → flies c.stage ≡ true → RollsOn g.base (with_landed c.flight g.base)
rolls-landed v g c facts under flown base last was from =
    let behind : IsBehind base last g.base = was from in
    let flew = behind_lands (Pending v) (flying c.flight g.base) c.flight refl (aloft c.stage flown (subst (λ (x : Option Commit). Facts (Pending v) (progress_with x g.base)) under facts.facts)) base last (record { below = behind.below; gives = behind.gives }) in
    record { below = flew.below; gives = flew.gives }
  where
    aloft : (st : CommitStage) → flies st ≡ true → Facts (Pending v) (progress_at st g.base c.flight) → Facts (Pending v) (flying c.flight g.base)
    aloft (commit_stage.Changing at) flown facts = absurd (cc)
    aloft (commit_stage.Imaging at) flown facts = absurd (cc)
    aloft commit_stage.Gathering flown facts = absurd (cc)
    aloft commit_stage.Sealing flown facts = facts
    aloft commit_stage.Landing flown facts = facts
    aloft commit_stage.Committed flown facts = absurd (cc)

-- ---- pages

pub free-same : (old new : Tables) → SamePages old new → (file page : ℕ) → is_free (pages_of new file) page ≡ is_free (pages_of old file) page
free-same old new same file page = by (nat_le 1 page) refl
  where
    by : (b : Bool) → nat_le 1 page ≡ b → is_free (pages_of new file) page ≡ is_free (pages_of old file) page
    by true first =
        let owner = same.owner file page (leb-true 1 page first) in
        let long = same.long file in
        λ i. nat_le 1 page && nat_le page (long i) && not ((page - 1) % 200 == 0) && (owner i == 0)
    by false none =
        ap (λ (b : Bool). b && nat_le page (length (pages_of new file)) && not ((page - 1) % 200 == 0) && (owner_in (pages_of new file) page == 0)) none
        ∙ sym (ap (λ (b : Bool). b && nat_le page (length (pages_of old file)) && not ((page - 1) % 200 == 0) && (owner_in (pages_of old file) page == 0)) none)

-- the tables have the lines that are committed now
module _ (w : View) (g k : Ledger) (old new : Tables) (lines : ChangedLines) (puts : PutsAll old lines new) (same-lines : k.base.lines ≡ laid_all (writes_in lines) g.base.lines) (stand : TablesStand w g old) where
  same : SamePages old new
  same = all-same old lines new puts

  back : (file page : ℕ) → IsWithin (pages_of new file) page → IsWithin (pages_of old file) page
  back file page within = record { first = within.first; last = let last = within.last in let long = same.long file in omega (arith, last, long) }

  pub tables-landed : TablesStand w k new
  tables-landed = record {
    committed = λ file is. subst (λ (ls : Lines). HasCommitted (pages_of new file) file ls) (sym same-lines) (all-committed old lines new puts file g.base.lines (stand.committed file is));
    classes = stand.classes;
    lie = stand.lie;
    class = λ file page within owner.
        let owner-same = same.owner file page within.first in
        same.class file page within.first ∙ (stand.class file page (back file page within) (subst (λ (x : ℕ). IsOwner file x) owner-same owner) ∙ ap stand.classes (sym owner-same));
    owned = λ there area is within plain whose.
        let owner-same = same.owner there.file there.page within.first in
        let whose-was : (owner_in (pages_of old there.file) there.page ≡ 0) ⊎ (owner_in (pages_of old there.file) there.page ≡ area) = elim whose [ inl none ↦ inl (sym owner-same ∙ none) | inr its ↦ inr (sym owner-same ∙ its) ] in
        stand.owned there area is (back there.file there.page within) plain whose-was;
  }

-- ---- the memory behind it

module _ (held : StoreMemory) (s : ℕ) (m : Member) (next : MemberStage) (kept : Tables) (puts : PutsAll held.tables m.written.lines kept) where
  abbrev landed : StoreMemory
  landed = landed_with next kept s m held

  abbrev pub space-landed : Space → Space
  space-landed space = record { limits = space.limits; taken = space.taken; snaps = space.snaps; slots = landed.next.slot - 1 }

  abbrev pub becomes-landed : Becomes held landed s (forgotten next m)
  becomes-landed = record {
    limits = refl;
    members = refl;
    space_of = space-landed;
    spaced = λ space has. record {
      limits = has.limits;
      pages = record { taken = λ file page. has.pages.taken file page ∙ ap not (sym (free-same held.tables kept (all-same held.tables m.written.lines kept puts) file page)); limit = λ file. (all-same held.tables m.written.lines kept puts).long file ∙ has.pages.limit file };
      snaps = has.snaps;
      slots = refl;
    };
  }

  -- its group takes the room that was set aside for it
  pub takes-landed : (v : View) (h : Shelf) → Shown v held h → slice_get held.members s ≡ Some m → IsSound held → TakesGroup (writes_in m.written.lines) h.space (space-landed h.space)
  takes-landed v h shown was sound = record {
    limits = refl;
    taken = λ file page. refl;
    snaps = omega arith;
    slots =
        let slot = shown.space.slots in
        let first = shown.numbers.group.in_slot in
        let count = lines-counted m.written.lines m.written.keys (sound.each s m was).keys in
        omega (arith, slot, first, count);
  }
