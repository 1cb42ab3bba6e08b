-- What a run opens with: what stands on the disk, and what was read of it.
use Rattle.std.proofs.Common.{◌≡◌, ◌-◌, ◌≤◌, ℕ, Bool, true, List, [], ◌∷◌, length, IsTrue, ap, sym, subst, ◌∙◌, arith}
use Rattle.slot_fields.proofs.Laws.{word_not_zeros}
use Rattle.rdb_types.specs.declared.file.FileId.{FileId}
use Rattle.rdb_types.specs.declared.file.FileKind.TheVariants.{Root as RootKind, Aij as AijKind}
use Rattle.rdb_types.specs.declared.keys.Limits.{Limits}
use Rattle.rdb_types.specs.File.{slot_bytes}
use Rattle.rdb_types.specs.declared.session.Cause.{Cause}
use Rattle.rdb_outside.specs.Disk.{Image, View, IsPending, LeftNow, OnlyReads}
use Rattle.rdb_meaning.specs.Contents.{no_tables}
use Rattle.rdb_meaning.specs.declared.tables.Tables.{Tables}
use Rattle.root_file.specs.declared.Root.{Root}
use Rattle.root_file.specs.Root.{IsRoot}
use Rattle.aij_journal.specs.Header.{IsHeader}
use Rattle.new_database.specs.Maker.{aij_file, root_file, HasRoot, IsNone}
use Rattle.new_database.specs.New.{IsNewDatabase, new_root}
use Rattle.line_view.specs.Knowledge.{Lines}
use Rattle.stable_lines.specs.Journal.{Journal, IsJournalOf, next_slot, slots_in}
use Rattle.stable_lines.specs.Kept.{Kept}
use Rattle.line_moves.specs.Classes.{IsClassed}
use Rattle.page_faults.proofs.Reading.{image_same, told_on}
use Rattle.store_shows.specs.Shows.{OpensTo}
use Rattle.line_runs.specs.opened_store.Opened.{is_taken_in}
use Rattle.rdb_account.specs.Places.{Opening}
use Rattle.session_jobs.specs.Records.{Model}
use Rattle.session_states.specs.declared.item_queue.WholeScript.{WholeScript}
use Rattle.line_runs.specs.Openings.{IsOpeningOf, OpensWith, said_to}
use Rattle.line_runs.specs.Prefix.{StandsFor}
use Rattle.sound_maps.specs.Laws.{empty}
use Rattle.sound_maps.specs.Maps.{IsSoundWith}
use Rattle.workload_runs.specs.declared.stand.Stand.{Stand}
use Rattle.workload_runs.specs.Runs.{opening_on}

slots-below : (n : ℕ) (journal : Journal) → n ≡ next_slot journal → length (slots_in journal) ≤ n - 1
slots-below n journal e = omega (arith, e)

module _ (M : Model) (old new : View) (reads : OnlyReads old new) (t : IsTrue old.tells) (stand : Stand)
    (limits : (root : Root) → IsRoot (old.content root_file 0) root → stand.limits ≡ root.limits)
    (next : (journal : Journal) → IsJournalOf old.content journal → stand.next ≡ next_slot journal)
    (tables : Tables) (may_die : ℕ → Cause → Bool) (word : List ℕ) (scripts : List WholeScript) where
  same : new.content ≡ old.content
  same = image_same old new reads t

  opens-there : (classes : ℕ → ℕ) (lines : Lines) (journal : Journal) (kept : Kept classes lines journal new.content) → stand.limits ≡ kept.root.limits → stand.next ≡ next_slot journal
      → IsOpeningOf new.content journal 0 (said_to (opening_on new.content stand tables may_die) word scripts)
  opens-there classes lines journal kept l n = record {
    root = kept.root;
    is = kept.is_root.is;
    limits = record {
      pages = ap (λ (x : Limits). x.pages) (sym l);
      snaps = ap (λ (x : Limits). x.snaps) (sym l);
      entries = ap (λ (x : Limits). x.entries) (sym l);
      slots = ap (λ (x : Limits). x.slots) (sym l);
    };
    owners = λ file page is. subst (λ (x : Limits). is_taken_in new.content x.pages file page ≡ true) (sym l) is;
    slots = slots-below stand.next journal n;
    past = omega arith;
  }

  -- an image that opens stands still behind what only reads
  pub opens-read : (lines : Lines) → OpensTo old.content lines → M lines tables → OpensWith M new (said_to (opening_on new.content stand tables may_die) word scripts)
  opens-read lines to stands =
      let kept : Kept to.has.classes lines to.has.journal new.content = subst (λ (m : Image). Kept to.has.classes lines to.has.journal m) (sym same) to.has.kept in
      let l = limits kept.root (subst (λ (m : Image). IsRoot (m root_file 0) kept.root) same kept.is_root.is) in
      let n = next to.has.journal to.has.kept.journal in
      record {
        tells = told_on old new reads t;
        classes = to.has.classes;
        lines = lines;
        journal = to.has.journal;
        kept = kept;
        by_area = to.by_area;
        lie = subst (λ (m : Image). IsClassed to.by_area m) (sym same) to.lie;
        stands = stands;
        opens = opens-there to.has.classes lines to.has.journal kept l n;
      }

-- A new database opens, with no lines.
pub new-opens : (limits : Limits) (image : Image)
    → ((classes : ℕ → ℕ) → Kept classes [] (record { first = 1; groups = [] }) image)
    → ((by_area : ℕ → ℕ) → IsClassed by_area image)
    → OpensTo image []
new-opens limits image kept lie = record {
  has = record { classes = λ area. 0; journal = record { first = 1; groups = [] }; kept = kept (λ area. 0) };
  by_area = λ area. 0;
  lie = lie (λ area. 0);
}

-- what the disk tells behind what only reads it told before
pub told-before : (old new : View) → OnlyReads old new → IsTrue new.tells → IsTrue old.tells
told-before old new reads t = subst (λ b. IsTrue b) reads.told t

pub new-before : (limits : Limits) (old new : View) → OnlyReads old new → IsTrue old.tells → IsNewDatabase limits new.content → IsNewDatabase limits old.content
new-before limits old new reads t is = subst (λ (m : Image). IsNewDatabase limits m) (image_same old new reads t) is

pub new-behind : (limits : Limits) (old new : View) → OnlyReads old new → IsTrue old.tells → IsNewDatabase limits old.content → IsNewDatabase limits new.content
new-behind limits old new reads t is = subst (λ (m : Image). IsNewDatabase limits m) (sym (image_same old new reads t)) is

-- slots that a crash may leave of a new database are those of one
pub new-pending : (limits : Limits) (v : View) → ((image : Image) → LeftNow v image → IsNewDatabase limits image) → (image : Image) → IsPending v image → IsNewDatabase limits image
new-pending limits v made image pending = record {
  root = let it = pending root_file 0 in subst (λ (bytes : List ℕ). IsRoot bytes (new_root limits)) it.same (made it.image it.left).root;
  header = let it = pending aij_file 0 in subst (λ (bytes : List ℕ). IsHeader bytes 1) it.same (made it.image it.left).header;
  rest = λ file slot root journal. let it = pending file slot in sym it.same ∙ (made it.image it.left).rest file slot root journal;
}

-- a new database stands for no tables
pub new-stands : (limits : Limits) (image : Image) → IsNewDatabase limits image
    → (IsNewDatabase limits image → (classes : ℕ → ℕ) → Kept classes [] (record { first = 1; groups = [] }) image)
    → StandsFor IsSoundWith no_tables image
new-stands limits image is kept = ([], record { classes = λ area. 0; journal = record { first = 1; groups = [] }; kept = kept is (λ area. 0) }, empty)

-- ---- a database that there is

-- its root is none of zeros
pub opens-has-root : (M : Model) (v : View) (o : Opening) → OpensWith M v o → HasRoot v.content
opens-has-root M v o opens none = word_not_zeros (v.content root_file 0) (slot_bytes root_file) 81 (79 ∷ 79 ∷ 84 ∷ []) none opens.kept.is_root.is.fields.0

-- and where none is there is no root
pub none-no-root : (image : Image) → IsNone image → HasRoot image → ⊥
none-no-root image none root = root (none root_file 0 (λ same. absurd (let bad : RootKind ≡ AijKind = ap (λ (f : FileId). f.kind) same in cc)))
