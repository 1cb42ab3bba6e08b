-- Behind the root of the end the image stands for the lines rolled forward.
use Rattle.std.proofs.Common.{◌≡◌, ◌≢◌, ℕ, ◌+◌, ◌-◌, ◌%◌, ◌≤◌, ◌<◌, max, nat_le, nat_eq, ◌&&◌, Bool, true, false, if◌then◌else◌, List, [], ◌∷◌, Option, Some, None, ◌⊎◌, inl, inr, ⊎_elim, refl, sym, ◌∙◌, ap, subst, arith}
use Rattle.rdb_types.specs.declared.file.FileId.{FileId}
use Rattle.rdb_types.specs.declared.file.FileKind.TheVariants.{Root as RootKind, Area, Ruj, Aij}
use Rattle.rdb_types.specs.declared.keys.Dbkey.{Dbkey}
use Rattle.rdb_types.specs.declared.keys.Line.{Line}
use Rattle.rdb_outside.specs.Disk.{Image}
use Rattle.root_file.specs.declared.Root.{Root}
use Rattle.rdb_page.specs.Lines.{line_place, never}
use Rattle.rdb_page.specs.Page.{class_at}
use Rattle.rdb_page.specs.Whole.{IsPageOf}
use Rattle.area_files.specs.Areas.{IsPage, IsDataPage, IsSpacePage, space_page_of}
use Rattle.space_pages.specs.Space.{IsSpace, owner_of}
use Rattle.aij_journal.specs.Header.{IsHeader}
use Rattle.ruj_journal.specs.Entry.{IsEntry}
use Rattle.journal_scan.specs.declared.group.Group.{Group}
use Rattle.journal_scan.specs.Standing.{what_stands}
use Rattle.line_versions.specs.Lines.{storage_area, shown}
use Rattle.line_view.specs.declared.writes.Write.{Write}
use Rattle.line_view.specs.Knowledge.{Lines, IsInOrder, line_in}
use Rattle.new_database.specs.Maker.{aij_file}
use Rattle.stable_lines.specs.Slots.{ruj_file, area_file, file_of, slot_of, owner_at, IsMember, IsAreaFile, said_at, line_on, line_at, named}
use Rattle.stable_lines.specs.Journal.{Journal, IsJournalOf, next_number, lines_behind}
use Rattle.stable_lines.specs.Kept.{Kept, IsWellFormed, IsRujHeader, FitsClass, HasNoCommit}
use Rattle.stable_lines.specs.Rolling.{laid_groups}
use Rattle.stable_lines.proofs.Laying.{laid_in_order}
use Rattle.stable_lines.proofs.Never.{nothing_on, zeros_owner, space_owner}
use Rattle.rolled_lines.specs.HalfLaid.{line_behind, writes_of}
use Rattle.rolled_lines.proofs.HalfLaid.{seen_behind, seen_again, after_writes}
use Rattle.rolled_lines.proofs.Restored.{restored_stands}
use Rattle.guarded_root.specs.Guarded.{IsEndOf}
use Rattle.fitted_groups.specs.laid_groups.Forward.{Forward, MayBePage, MayBeSpace, IsWrittenBy}
use Rattle.fitted_groups.specs.laid_groups.Laid.{IsEntered, LaidOver}
use Rattle.fitted_groups.specs.laid_groups.Passing.{ceiling_behind}
use Rattle.fitted_groups.proofs.of_laid_groups.Slots.{space_first, space_last, is_space}
use Rattle.rmu_recover.specs.Recovering.{root_rolled, MayBeRolled, IsSource, AreSound, IsRolled}

storage_is : (area : ℕ) → IsAreaFile (storage_area area)
storage_is area = by (nat_eq area 1) (nat_eq (area % 2) 0)
  where
    by : (a b : Bool) → IsAreaFile (if a then 1 else (if b then 2 else 3))
    by true b = record { first = omega arith; last = omega arith }
    by false true = record { first = omega arith; last = omega arith }
    by false false = record { first = omega arith; last = omega arith }

-- ---- pages

data IsOff (page : ℕ) : Type 0 where
  below : nat_le 1 page ≡ false → IsOff page
  above : nat_le page 65536 ≡ false → IsOff page
  on_space : IsPage page → IsSpacePage page → IsOff page

kind_of : (page : ℕ) → IsDataPage page ⊎ IsOff page
kind_of page = first (nat_le 1 page) refl
  where
    some : nat_le 1 page ≡ true → 1 ≤ page
    some is = grind (arith, is)

    most : nat_le page 65536 ≡ true → page ≤ 65536
    most is = grind (arith, is)

    third : IsPage page → (b : Bool) → nat_eq ((page - 1) % 200) 0 ≡ b → IsDataPage page ⊎ IsOff page
    third is true same = inr (on_space is (grind (arith, same)))
    third is false apart = inl (record { is_page = is; plain = λ same. let bad : true ≡ false = sym (ap (λ (n : ℕ). nat_eq n 0) same) ∙ apart in absurd (let no : ⊥ = cc in no) })

    second : 1 ≤ page → (b : Bool) → nat_le page 65536 ≡ b → IsDataPage page ⊎ IsOff page
    second low false off = inr (above off)
    second low true up = third (record { first = low; last = most up }) (nat_eq ((page - 1) % 200) 0) refl

    first : (b : Bool) → nat_le 1 page ≡ b → IsDataPage page ⊎ IsOff page
    first false off = inr (below off)
    first true low = second (some low) (nat_le page 65536) refl

no_place : (a b c d e : Bool) → (b ≡ false) ⊎ (c ≡ false) → (a && b && c && d && e) ≡ false
no_place false b c d e off = refl
no_place true false c d e off = refl
no_place true true false d e off = refl
no_place true true true d e (inl off) = let bad : ⊥ = cc in absurd bad
no_place true true true d e (inr off) = let bad : ⊥ = cc in absurd bad

off_pages : (key : Dbkey) (x : List ℕ) → (nat_le 1 key.page ≡ false) ⊎ (nat_le key.page 65536 ≡ false) → line_on key x ≡ never
unfolding line_on
off_pages key x off = ap (λ b. if b then said_at (line_place (class_at x) key.line) x else never) (no_place _ _ _ _ _ off)

-- ---- numbers

pub ceiling_grows : (ceiling : ℕ) (groups : List Group) → ceiling ≤ ceiling_behind ceiling groups
ceiling_grows ceiling [] = omega arith
ceiling_grows ceiling (g ∷ groups) = let rest = ceiling_grows (max ceiling (g.tsn.number + 1)) groups in grind (arith, rest)

groups_in_order : (groups : List Group) (lines : Lines) → IsInOrder lines → IsInOrder (laid_groups groups lines)
groups_in_order [] lines is = is
groups_in_order (g ∷ groups) lines is = groups_in_order groups (lines_behind g lines) (laid_in_order g.lines lines is)

-- ---- the image

module _ (former : Image) (copies : List ℕ) (root : Root) (forward : Forward) (journals : List Journal) (groups : List Group) (aij : Journal) (classes : ℕ → ℕ) (source : IsSource former copies root forward journals groups aij) (sound : AreSound forward groups classes) where
  -- ---- before and while lines are laid

  module _ (start : Image) (before : MayBeRolled former root forward start) where
    page_at : (key : Dbkey) → IsDataPage key.page → MayBePage forward (storage_area key.area) key.page (start (file_of key) (slot_of key))
    page_at key plain = (before (file_of key) (slot_of key)).hold.page (storage_area key.area) key.page (storage_is key.area) plain refl refl

    space_at : (f n : ℕ) → IsAreaFile f → IsPage n → IsSpacePage n → MayBeSpace forward f n (start (area_file f) (n - 1))
    space_at f n is page space = (before (area_file f) (n - 1)).hold.space f n is page space refl refl

    none_off : (key : Dbkey) → IsOff key.page → line_at start key ≡ never
    none_off key (below off) = off_pages key _ (inl off)
    none_off key (above off) = off_pages key _ (inr off)
    none_off key (on_space page is) = nothing_on key _ (space_owner _ key.page (space_at (storage_area key.area) key.page (storage_is key.area) page is).space)

    -- no transaction number reaches the top
    line_below : 1 ≤ forward.top → (key : Dbkey) → (line_at start key).tsn.number < forward.top
    line_below some key = ⊎_elim
        (λ plain. (page_at key plain).below key (record { in_file = refl; in_slot = refl }))
        (λ off. subst (λ (l : Line). l.tsn.number < forward.top) (sym (none_off key off)) (omega (arith, some)))
        (kind_of key.page)

    not_there : (key : Dbkey) → IsOff key.page → (what : Option (List ℕ)) → line_in key forward.base ≡ what → what ≡ None
    not_there key off None is = refl
    not_there key off (Some bytes) is = absurd (neither key.page off (sound.lie key bytes is))
      where
        neither : (page : ℕ) → IsOff page → IsDataPage page → ⊥
        neither page (below none) plain = let low = plain.is_page.first in absurd (bad page none low)
          where
            bad : (n : ℕ) → nat_le 1 n ≡ false → 1 ≤ n → ⊥
            bad n off le = grind (arith, off, le)
        neither page (above none) plain = let up = plain.is_page.last in absurd (bad page none up)
          where
            bad : (n : ℕ) → nat_le n 65536 ≡ false → n ≤ 65536 → ⊥
            bad n off le = grind (arith, off, le)
        neither page (on_space is it) plain = plain.plain it

    -- all writes behind what stands are all writes behind the backup
    behind_all : (key : Dbkey) → line_behind key forward.writes (shown (line_at start key)) ≡ line_behind key forward.writes (line_in key forward.base)
    behind_all key = ⊎_elim
        (λ plain. let half = (page_at key plain).line key (record { in_file = refl; in_slot = refl }) in
        ap (λ (w : Option (List ℕ)). line_behind key forward.writes w) half.1 ∙ seen_again key half.0 forward.writes (line_in key forward.base))
        (λ off. ap (λ (w : Option (List ℕ)). line_behind key forward.writes w) (ap shown (none_off key off) ∙ sym (not_there key off (line_in key forward.base) refl)))
        (kind_of key.page)

  module _ (start content image : Image) (before : MayBeRolled former root forward start) (under : MayBeRolled former root forward content) (laid : LaidOver forward (writes_of groups) start content) (ended : IsEndOf content (root_rolled root forward.top) image) where
    -- ---- what is as it was written

    same : (file : FileId) (slot : ℕ) → file.kind ≢ RootKind → image file slot ≡ content file slot
    same file slot apart = ended.others file slot (λ is. absurd (apart (ap (λ (f : FileId). f.kind) is)))

    area_not : Area ≢ RootKind
    area_not is = cc

    ruj_not : Ruj ≢ RootKind
    ruj_not is = cc

    aij_not : Aij ≢ RootKind
    aij_not is = cc

    area : (f i : ℕ) → image (area_file f) i ≡ content (area_file f) i
    area f i = same (area_file f) i area_not

    ruj : (m i : ℕ) → image (ruj_file m) i ≡ content (ruj_file m) i
    ruj m i = same (ruj_file m) i ruj_not

    journal_is : (i : ℕ) → image aij_file i ≡ former aij_file i
    journal_is i = same aij_file i aij_not ∙ (under aij_file i).journal (inl refl)

    none_named : (m : ℕ) → IsMember m → named (image (ruj_file m) 0) ≡ 0
    none_named m is = ap named (ruj m 0) ∙ (under (ruj_file m) 0).none_named m is refl refl

    line_is : (key : Dbkey) → line_at image key ≡ line_at content key
    line_is key = ap (λ (b : List ℕ). line_on key b) (area (storage_area key.area) (slot_of key))

    some_top : 1 ≤ forward.top
    some_top = ended.is.allowed.ceiling.0

    -- ---- the lines

    rolled_lines : Lines
    rolled_lines = laid_groups groups forward.base

    shown_is : (key : Dbkey) → shown (line_at content key) ≡ line_in key (laid_groups groups forward.base)
    shown_is key =
        laid.line key
        ∙ ap (λ (ws : List Write). line_behind key ws (shown (line_at start key))) (sym source.writes)
        ∙ behind_all start before key
        ∙ ap (λ (ws : List Write). line_behind key ws (line_in key forward.base)) source.writes
        ∙ sym (seen_behind key (writes_of groups) forward.base)
        ∙ ap (line_in key) (sym (after_writes groups forward.base))

    sorted : IsInOrder (laid_groups groups forward.base)
    sorted = groups_in_order groups forward.base sound.in_order

    -- ---- a kept image

    its_journal : IsJournalOf image aij
    its_journal = record {
      header = subst (λ (b : List ℕ). IsHeader b aij.first) (sym (journal_is 0)) source.journal.header;
      whole = source.journal.whole;
      stand = λ i what got. ap what_stands (journal_is (i + 1)) ∙ source.journal.stand i what got;
      no_more = λ g whole stands. source.journal.no_more g whole (λ i what got. ap what_stands (sym (journal_is _)) ∙ stands i what got);
    }

    commits : HasNoCommit image (next_number aij)
    commits slot part some stands none = source.commits slot part some (ap what_stands (sym (journal_is slot)) ∙ stands) none

    never_some : (key : Dbkey) (bytes : List ℕ) → line_in key (laid_groups groups forward.base) ≡ Some bytes → line_at content key ≡ never → ⊥
    never_some key bytes got is = let bad : None ≡ Some bytes = sym (ap shown is) ∙ shown_is key ∙ got in absurd (let no : ⊥ = cc in no)

    class : (key : Dbkey) (bytes : List ℕ) → line_in key (laid_groups groups forward.base) ≡ Some bytes → FitsClass (image (file_of key) (slot_of key)) (classes key.area) bytes
    class key bytes got = ⊎_elim
        (λ plain. ⊎_elim
        (λ unused. absurd (never_some key bytes got (nothing_on key _ (zeros_owner _ unused))))
        (λ of. record { same = ap (λ (b : List ℕ). class_at b) (area (storage_area key.area) (slot_of key)) ∙ of.class ∙ sound.class key bytes got; fits = sound.fits key bytes got })
        (page_at content under key plain).used)
        (λ off. absurd (never_some key bytes got (none_off content under key off)))
        (kind_of key.page)

    its_space : (n : ℕ) → IsDataPage n → IsPage (space_page_of n)
    its_space n plain = let last = plain.is_page.last in let down = space_last n in record { first = space_first n plain.is_page.first; last = omega (arith, last, down) }

    data_at : (f n : ℕ) → IsAreaFile f → IsDataPage n → MayBePage forward f n (content (area_file f) (n - 1))
    data_at f n is plain = (under (area_file f) (n - 1)).hold.page f n is plain refl refl

    entered : (f n : ℕ) → IsAreaFile f → IsDataPage n → IsEntered forward content f n
    entered f n is plain = ⊎_elim
        (λ right. right)
        (λ by. laid.entered f n is plain (inl (subst (λ (ws : List Write). IsWrittenBy ws f n) source.writes by)))
        ((space_at content under f (space_page_of n) is (its_space n plain) (is_space n plain.is_page.first)).owner n plain refl)

    owned : (f n : ℕ) → IsAreaFile f → IsDataPage n → 1 ≤ owner_at (content (area_file f) (n - 1)) → owner_of n (content (area_file f) (space_page_of n - 1)) ≡ owner_at (content (area_file f) (n - 1))
    owned f n is plain some = entered f n is plain ∙ ⊎_elim
        (λ unused. absurd (let none = zeros_owner _ unused in omega (arith, none, some)))
        (λ of. sym of.owner)
        (data_at f n is plain).used

    well_formed : IsWellFormed image root.limits.pages
    well_formed = record {
      page = λ f n is plain. subst (IsPageOf f n) (sym (area f (n - 1))) (data_at f n is plain).page;
      space = λ f n is page space. subst (λ (b : List ℕ). IsSpace b n) (sym (area f (n - 1))) (space_at content under f n is page space).space;
      header = λ m is. subst IsRujHeader (sym (ruj m 0)) ((under (ruj_file m) 0).header m is refl refl);
      owner = λ f n is plain some.
          ap (λ (b : List ℕ). owner_of n b) (area f (space_page_of n - 1)) ∙ owned f n is plain (subst (λ (b : List ℕ). 1 ≤ owner_at b) (area f (n - 1)) some) ∙ ap owner_at (sym (area f (n - 1)));
      past = λ f slot is from less. area f slot ∙ (under (area_file f) slot).hold.past f is refl (subst (λ (n : ℕ). n ≤ slot) (sym source.pages) from) less;
    }

    ceiling_most : root.ceiling ≤ forward.top
    ceiling_most = let grows = ceiling_grows root.ceiling groups in let top = source.top in omega (arith, grows, top)

    kept : Kept classes (laid_groups groups forward.base) aij image
    kept = record {
      root = root_rolled root forward.top;
      is_root = record { is = ended.is; state = inl refl; restored = λ three m is. absurd (omega (arith, three)) };
      journal = its_journal;
      commits = commits;
      stands = restored_stands image aij.groups (laid_groups groups forward.base) sorted none_named (λ key. ap shown (line_is key) ∙ shown_is key);
      class = class;
      undone = λ key m bears. absurd (let none = none_named m bears.is_member in let some = bears.number in let names = bears.names in omega (arith, none, some, names));
      alone = λ a b is_a is_b some both. absurd (let none = none_named a is_a in omega (arith, none, some));
      well_formed = well_formed;
      below = record {
        line = λ key. subst (λ (l : Line). l.tsn.number < forward.top) (sym (line_is key)) (line_below content under some_top key);
        header = λ m is. let none = none_named m is in let some = some_top in omega (arith, none, some);
        entry = λ m slot e is le there. let few = (under (ruj_file m) slot).entry m e is refl le (subst (λ (b : List ℕ). IsEntry b e) (ruj m slot) there) in let most = ceiling_most in omega (arith, few, most);
        group = source.below;
      };
    }

    pub is_rolled : IsRolled classes root forward groups aij image
    is_rolled = record { root_is = ended.is; kept = kept }
