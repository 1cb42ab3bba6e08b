-- A run opens over the store of an opened disk.
use Rattle.std.proofs.Common.{◌≡◌, ◌≤◌, ℕ, true, List, Option, Some, None, is_some, refl, sym, ap, subst, arith}
use Rattle.rdb_types.specs.declared.keys.Limits.{Limits}
use Rattle.rdb_outside.specs.Disk.{Image, View}
use Rattle.line_view.specs.Knowledge.{Lines, line_in}
use Rattle.line_versions.specs.Lines.{storage_area}
use Rattle.stable_lines.specs.Journal.{Journal}
use Rattle.opened_store.specs.Opened.{BeginsFrom, is_taken_in}
use Rattle.opened_store.specs.disk_store.Memory.{StoreMemory}
use Rattle.opened_store.proofs.InUse.{fewer_slots}
use Rattle.rdb_account.specs.Places.{Opening}
use Rattle.rdb_account.specs.Lawful.{file_of}
use Rattle.session_jobs.specs.Records.{Model}
use Rattle.line_store.specs.Seats.{set_aside}
use Rattle.line_store.specs.Shelves.{Shelf}
use Rattle.line_store.specs.Sights.{Sight}
use Rattle.line_drive.specs.line_cluster.Deaths.{RoseBy}
use Rattle.line_drive.specs.line_cluster.Sound.{IsOpenedBy}
use Rattle.line_opening.specs.declared.fault.OpeningFault.{OpeningFault}
use Rattle.store_counts.specs.Counts.{AreLimits}
use Rattle.line_runs.specs.Openings.{IsOpeningOf}

same-file : (area : ℕ) → storage_area area ≡ file_of area
same-file area = refl

from-none : (m n : ℕ) → m ≤ 0 → m ≤ n
from-none m n h = omega (arith, h)

-- An account that begins at no moment opens at any.
pub at-moment : (image : Image) (journal : Journal) (moment : ℕ) (o : Opening) → IsOpeningOf image journal 0 o → IsOpeningOf image journal moment o
at-moment image journal moment o h = record { root = h.root; is = h.is; limits = h.limits; owners = h.owners; slots = h.slots; past = from-none o.moment moment h.past }

-- A sight that shows the shelf with which an opened disk begins opens an account as that does.
pub opens-by : (M : Model) (image : Image) (lines : Lines) (journal : Journal) (v : View) (held : StoreMemory) (begins : BeginsFrom image lines journal v held) (word : List ℕ) (o : Opening) (faults : ℕ)
    → IsOpeningOf image journal v.moment o → o.word ≡ word → M lines o.tables → faults ≤ v.faults → (sight : Sight) → sight.shows begins.shelf → ((n : ℕ) → sight.copier n ≡ None) → IsOpenedBy M o faults word sight
opens-by M image lines journal v held begins word o faults opens named stands few sight shown nobody =
    let h : Shelf = begins.shelf in
    let limits : h.space.limits ≡ opens.root.limits = begins.limits opens.root opens.is in
    record {
      shelf = h;
      shown = shown;
      copiers = nobody;
      no_fewer = subst (λ (n : ℕ). faults ≤ n) (sym begins.shown.lines.faults) few;
      opened = λ locks parties trail. record {
        word = named;
        stands = subst (λ (l : Lines). M l o.tables) (sym begins.now) stands;
        past = subst (λ (n : ℕ). o.moment ≤ n) (sym begins.shown.lines.time) opens.past;
        dead = refl;
        parties = parties;
        trail = trail;
        counted = record {
          limits = subst (λ (l : Limits). AreLimits o.limits l) (sym limits) opens.limits;
          taken = λ file page is. opens.owners file page (subst (λ (l : Limits). is_taken_in image l.pages file page ≡ true) limits (begins.taken file page is));
          lines = λ key some. subst (λ (n : ℕ). o.has_owner n key.page ≡ true) (same-file key.area)
              (opens.owners (storage_area key.area) key.page (subst (λ (l : Limits). is_taken_in image l.pages (storage_area key.area) key.page ≡ true) limits
              (begins.lie key (subst (λ (l : Lines). is_some (line_in key l) ≡ true) begins.now some))));
          snaps = begins.snaps;
          slots = let here = begins.slots opens.root opens.is in let fewer = fewer_slots opens.root journal in let room = opens.slots in omega (arith, here, fewer, room);
          idle = λ s. ap set_aside (begins.seats s);
        };
      };
    }

-- no fault was counted for what never happened
pub rose-none : (a b : ℕ) → a ≤ b → RoseBy 0 a b
rose-none a b later = omega (arith, later)

pub same-fault : (a b : OpeningFault) (x : Option OpeningFault) → x ≡ Some a → x ≡ Some b → a ≡ b
same-fault a b x h k = grind arith
