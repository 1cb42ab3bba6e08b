-- Lines on pages of their areas' classes, and the line that is next among them.
use Rattle.std.proofs.Common.{◌≡◌, ◌≤◌, ◌∙◌, ◌==◌, ℕ, Bool, true, false, List, length, Option, Some, None, IfSome, IfNone, inl, inr, refl, sym, ap, subst}
use Rattle.std.specs.Prelude.{if◌then◌else◌}
use Rattle.rdb_types.specs.declared.keys.Dbkey.{Dbkey}
use Rattle.rdb_page.specs.Page.{IsOwner}
use Rattle.line_view.specs.Knowledge.{Lines, line_in}
use Rattle.page_table.specs.Pages.{Pages, IsEverUsed, IsWithin, class_in, owner_in}
use Rattle.backup_steps.specs.next_lines.partial_backup.Partial.{is_left}
use Rattle.backup_steps.specs.next_lines.declared.next.NextLine.{NextLine}
use Rattle.backup_steps.specs.next_lines.Next.{table_in, AreClasses, AreFew, HaveLines, HasNoneUsed, IsLeft, IsLow, IsNextUsed, Leads, WasUsed}
use Rattle.backup_steps.specs.Steps.{GoesOn}
use Rattle.copies_beside.specs.Read.{tables_of}
use Rattle.disk_store.specs.declared.held.Tables.{Tables}
use Rattle.disk_store.specs.Shown.{pages_of}
use Rattle.disk_store.specs.Sound.{IsUsedIn}
use Rattle.disk_store.proofs.Tabled.{one-file}
use Rattle.disk_store.specs.Grown.{IsOwned, Grow}
use Rattle.disk_store.specs.Classed.{LiesClassed, LieClassed}

-- the table of an area's file
same-table : (tables : Tables) (file area : ℕ) → IsOwner file area → tables_of tables file ≡ pages_of tables file
same-table tables file area (inl own) = subst (λ (f : ℕ). tables_of tables f ≡ pages_of tables f) (sym own.0) refl
same-table tables file area (inr (inl own)) = subst (λ (f : ℕ). tables_of tables f ≡ pages_of tables f) (sym own.0) refl
same-table tables file area (inr (inr own)) = subst (λ (f : ℕ). tables_of tables f ≡ pages_of tables f) (sym own.0) refl

abbrev HasClass : (ℕ → ℕ) → ℕ → ℕ → Pages → Type 0
HasClass classes file page pages = IsWithin pages page → IsOwner file (owner_in pages page) → class_in pages page ≡ classes (owner_in pages page)

-- the class of a page that is an area's
class-of : (tables : Tables) (classes : ℕ → ℕ) → AreClasses (tables_of tables) classes → (file page area : ℕ) → IsOwned tables file page area → class_in (pages_of tables file) page ≡ classes area
class-of tables classes of file page area is =
    subst (λ (ps : Pages). HasClass classes file page ps) (same-table tables file area is.lies) (of file page) is.within (subst (λ (a : ℕ). IsOwner file a) (sym is.owner) is.lies) ∙ ap classes is.owner

-- the page of a line that was used is its area's
owned : (tables : Tables) (file : ℕ) (key : Dbkey) → IsUsedIn tables file key → IsOwned tables file key.page key.area
owned tables file key is = record { within = is.used.is_line.within; owner = is.used.is_line.owner; lies = is.owner }

pub begin : (tables : Tables) (classes : ℕ → ℕ) (lines : Lines) → HaveLines (tables_of tables) lines → AreClasses (tables_of tables) classes → LieClassed tables classes lines
begin tables classes lines have of key image there =
    let was : WasUsed (tables_of tables) key = have key image there in
    let used : IsUsedIn tables was.file key = record { owner = was.owner; used = subst (λ (ps : Pages). IsEverUsed ps key) (same-table tables was.file key.area was.owner) was.used } in
    record { file = was.file; used = used; class = class-of tables classes of was.file key.page key.area (owned tables was.file key used) }

pub stay : (old new : Tables) (classes : ℕ → ℕ) (lines : Lines) → Grow old new → LieClassed old classes lines → LieClassed new classes lines
stay old new classes lines grow lie key image there =
    let was : LiesClassed old classes key = lie key image there in
    record { file = was.file; used = grow.used was.file key was.used; class = grow.class was.file key.page key.area (owned old was.file key was.used) ∙ was.class }

-- ---- the line that is next

none-there : (key : Dbkey) (lines : Lines) → ((image : List ℕ) → line_in key lines ≡ Some image → ⊥) → line_in key lines ≡ None
none-there key lines never = by (line_in key lines) never
  where
    by : (found : Option (List ℕ)) → ((image : List ℕ) → found ≡ Some image → ⊥) → found ≡ None
    by None never = refl
    by (Some image) never = absurd (never image refl)

module _ (tables : Tables) (classes : ℕ → ℕ) (lines : Lines) (lie : LieClassed tables classes lines) (from : Option Dbkey) where
  left-of : (key : Dbkey) (image : List ℕ) → is_left from key ≡ true → line_in key lines ≡ Some image → IsLeft (tables_of tables) from key
  left-of key image behind there =
      let its : LiesClassed tables classes key = lie key image there in
      record {
        was = record { file = its.file; owner = its.used.owner; used = subst (λ (ps : Pages). IsEverUsed ps key) (sym (same-table tables its.file key.area its.used.owner)) its.used.used };
        behind = behind;
      }

  class-next : (next : NextLine) → IsNextUsed (tables_of tables) from next → (image : List ℕ) → line_in next.key lines ≡ Some image → next.class ≡ classes next.key.area
  class-next next is image there =
      let its : LiesClassed tables classes next.key = lie next.key image there in
      let was = is.left.was in
      let file : was.file ≡ its.file = one-file was.file its.file next.key.area was.owner its.used.owner in
      is.class
      ∙ (ap (λ (ps : Pages). class_in ps next.key.page) (same-table tables was.file next.key.area was.owner)
      ∙ (ap (λ (f : ℕ). class_in (pages_of tables f) next.key.page) file ∙ its.class))

  pub leads : (result : Option NextLine) → IfSome result (IsNextUsed (tables_of tables) from) → IfNone result (HasNoneUsed (tables_of tables) from) → Leads classes lines from result
  leads (Some next) is gone = (
    record {
      behind = is.left.behind;
      least = λ other behind before. none-there other lines (λ image there. is.least other (left-of other image behind there) before);
    },
    class-next next is,
  )
  leads None is gone = λ key behind. none-there key lines (λ image there. gone key (left-of key image behind there))

pub few : (catalog relations indexes : Pages) → length catalog ≤ 65536 → length relations ≤ 65536 → length indexes ≤ 65536 → AreFew (table_in catalog relations indexes)
few catalog relations indexes a b c file = by (file == 1) (file == 2)
  where
    by : (first second : Bool) → length (if first then catalog else (if second then relations else indexes)) ≤ 65536
    by true second = a
    by false true = b
    by false false = c

pub goes-on : (tables : ℕ → Pages) (from : Option Dbkey) (result : Option NextLine) → IfSome result (IsNextUsed tables from) → IfSome result (λ next. IsLow next.key) → GoesOn from result
goes-on tables from (Some next) is low = (low, is.left.behind)
goes-on tables from None is low = tt
