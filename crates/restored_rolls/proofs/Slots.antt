-- Each slot of a restored image is one that may stand before a roll-forward.
use Rattle.std.proofs.Common.{◌≡◌, ℕ, zero, suc, ◌-◌, ◌≤◌, List, Option, Some, None, ◌⊎◌, inl, inr, ⊎_elim, refl, sym, ◌∙◌, ap, subst, arith}
use Rattle.rdb_types.specs.declared.file.FileId.{FileId}
use Rattle.rdb_types.specs.declared.keys.Dbkey.{Dbkey}
use Rattle.rdb_types.specs.declared.keys.Line.{Line}
use Rattle.rdb_outside.specs.Disk.{Image}
use Rattle.root_file.specs.declared.Root.{Root}
use Rattle.root_file.specs.Root.{IsRoot}
use Rattle.root_file.proofs.Readings.{one_root}
use Rattle.rdb_page.specs.Page.{IsUnused, class_at}
use Rattle.rdb_page.specs.Whole.{IsUsedPage}
use Rattle.area_files.specs.Areas.{IsPage, IsDataPage, IsSpacePage}
use Rattle.space_pages.specs.Space.{owner_of}
use Rattle.aij_journal.specs.declared.part.GroupLine.{GroupLine}
use Rattle.ruj_journal.specs.Entry.{IsEntry}
use Rattle.journal_scan.specs.declared.group.Group.{Group}
use Rattle.line_view.specs.Knowledge.{Lines, line_in}
use Rattle.line_versions.specs.Lines.{shown}
use Rattle.new_database.specs.Maker.{root_file}
use Rattle.stable_lines.specs.Slots.{ruj_file, area_file, file_of, owner_at, IsMember, IsAreaFile, line_on, line_at, named}
use Rattle.stable_lines.specs.Journal.{Journal}
use Rattle.stable_lines.specs.Image.{LineIs, as_it_stands, put_back, not_found}
use Rattle.stable_lines.specs.Kept.{Kept, IsRujHeader, IsWellFormed, IsBelow}
use Rattle.line_moves.specs.Contents.{IsOn}
use Rattle.rolled_lines.specs.HalfLaid.{writes_of}
use Rattle.laid_groups.specs.Forward.{Forward, IsWrittenBy, MayBePage, MayBeSpace, MayHold}
use Rattle.fitted_groups.specs.Meeting.{lines_among, first_there, owner_met, page_in, entry_in}
use Rattle.fitted_groups.proofs.Meeting.{first_writes, owner_stays, class_stays, owner_entered}
use Rattle.fitted_groups.proofs.Fits.{used_owner}
use Rattle.rmu_recover.specs.Recovering.{MayStand}
use Rattle.rmu_recover.proofs.Ended.{ceiling_grows}
use Rattle.restored_rolls.specs.Meeting.{forward_over}
use Rattle.restored_rolls.specs.Forth.{KeepsJournals}

module _ (image : Image) (classes : ℕ → ℕ) (lines : Lines) (journal : Journal) (kept : Kept classes lines journal image) (root : Root) (is : IsRoot (image root_file 0) root) (restored : root.state ≡ 3) where
  same_root : kept.root ≡ root
  same_root = one_root (image root_file 0) kept.root root kept.is_root.is is

  none_named : (m : ℕ) → IsMember m → named (image (ruj_file m) 0) ≡ 0
  none_named m member = kept.is_root.restored (ap (λ (r : Root). r.state) same_root ∙ restored) m member

  well_formed : IsWellFormed image root.limits.pages
  well_formed = subst (λ (r : Root). IsWellFormed image r.limits.pages) same_root kept.well_formed

  pub below : IsBelow image journal.groups root.ceiling
  below = subst (λ (r : Root). IsBelow image journal.groups r.ceiling) same_root kept.below

  -- no transaction is open, so a line is as it stands
  as_committed : (key : Dbkey) (line : Line) → LineIs image journal.groups key line → line ≡ line_at image key
  as_committed key line (as_it_stands ended same) = same
  as_committed key line (put_back member is_open before) = let none = none_named member is_open.is_member in let some = is_open.number in let names = is_open.names in absurd (omega (arith, none, some, names))
  as_committed key line (not_found member is_open none same) = same

  pub as_it_is : (key : Dbkey) → shown (line_at image key) ≡ line_in key lines
  as_it_is key = let there = kept.stands.each key in ap shown (sym (as_committed key there.line there.is)) ∙ there.shows

  module _ (groups : List Group) where
    abbrev forward : Forward
    forward = forward_over image root lines groups

    pub top_grows : root.ceiling ≤ forward.top
    top_grows = ceiling_grows root.ceiling groups

    -- ---- pages

    module _ (file number : ℕ) (in_file : IsAreaFile file) (plain : IsDataPage number) where
      here : (key : Dbkey) → IsOn file number key → line_on key (page_in image file number) ≡ line_at image key
      here key on = ap (line_on key) (ap (λ (f : FileId). image f (number - 1)) (sym on.in_file) ∙ ap (λ (n : ℕ). image (file_of key) n) (sym on.in_slot))

      pub page_may : MayBePage forward file number (page_in image file number)
      page_may = record {
        page = well_formed.page file number in_file plain;
        used = ⊎_elim (λ (unused : IsUnused (page_in image file number)). inl unused)
            (λ (used : IsUsedPage file number (page_in image file number)). let some = used_owner file number (page_in image file number) used in
            inr (record {
              owner = sym (owner_stays (owner_at (page_in image file number)) (entry_in image file number) (first_there file number (lines_among groups)) some);
              class = sym (class_stays (owner_at (page_in image file number)) (class_at (page_in image file number)) (first_there file number (lines_among groups)) some);
            }))
            (well_formed.page file number in_file plain);
        line = λ key on. (0, ap shown (here key on) ∙ as_it_is key);
        below = λ key on. let less = below.line key in let grows = top_grows in let same : (line_on key (page_in image file number)).tsn.number ≡ (line_at image key).tsn.number = ap (λ (l : Line). l.tsn.number) (here key on) in omega (arith, less, grows, same);
      }

      -- what its space page says of it
      pub entry_may : (entry_in image file number ≡ forward.owners file number) ⊎ IsWrittenBy (writes_of groups) file number
      entry_may = by (owner_at (page_in image file number)) refl (first_there file number (lines_among groups)) refl
        where
          by : (own : ℕ) → owner_at (page_in image file number) ≡ own → (first : Option GroupLine) → first_there file number (lines_among groups) ≡ first
              → (entry_in image file number ≡ forward.owners file number) ⊎ IsWrittenBy (writes_of groups) file number
          by zero own (Some l) first = inr (first_writes groups file number l first)
          by zero own None first = inl (sym (ap (λ (w : Option GroupLine). owner_met (owner_at (page_in image file number)) w (entry_in image file number)) first ∙ owner_entered (owner_at (page_in image file number)) (entry_in image file number) own))
          by (suc n) own first there = let some : 1 ≤ owner_at (page_in image file number) = omega (arith, own) in
              inl (well_formed.owner file number in_file plain some ∙ sym (owner_stays (owner_at (page_in image file number)) (entry_in image file number) (first_there file number (lines_among groups)) some))

    space_may : (file number : ℕ) → IsAreaFile file → IsPage number → IsSpacePage number → MayBeSpace forward file number (image (area_file file) (number - 1))
    space_may file number in_file page space = record {
      space = well_formed.space file number in_file page space;
      owner = λ at plain same. subst (λ (n : ℕ). (owner_of at (image (area_file file) (n - 1)) ≡ forward.owners file at) ⊎ IsWrittenBy (writes_of groups) file at) same (entry_may file at in_file plain);
    }

    -- ---- slots

    slot_is : (f : FileId) (i file number : ℕ) → f ≡ area_file file → i ≡ number - 1 → image f i ≡ image (area_file file) (number - 1)
    slot_is f i file number in_file in_slot = ap (λ (g : FileId). image g i) in_file ∙ ap (λ (n : ℕ). image (area_file file) n) in_slot

    hold : (f : FileId) (i : ℕ) → MayHold forward f i (image f i)
    hold f i = record {
      page = λ file number area plain in_file in_slot. subst (MayBePage forward file number) (sym (slot_is f i file number in_file in_slot)) (page_may file number area plain);
      space = λ file number area page space in_file in_slot. subst (MayBeSpace forward file number) (sym (slot_is f i file number in_file in_slot)) (space_may file number area page space);
      past = λ file area in_file from less. ap (λ (g : FileId). image g i) in_file ∙ well_formed.past file i area from less;
    }

    ruj : (f : FileId) (i m : ℕ) → f ≡ ruj_file m → i ≡ 0 → image f i ≡ image (ruj_file m) 0
    ruj f i m in_file first = ap (λ (g : FileId). image g i) in_file ∙ ap (λ (n : ℕ). image (ruj_file m) n) first

    pub may_stand : (was : Image) → KeepsJournals was image → (f : FileId) (i : ℕ) → MayStand was root forward f i (image f i)
    may_stand was keeps f i = record {
      hold = hold f i;
      root_slot = λ in_file first. record {
        state = root.state;
        is = subst (λ (b : List ℕ). IsRoot b root) (sym (ap (λ (g : FileId). image g i) in_file ∙ ap (λ (n : ℕ). image root_file n) first)) is;
        before = inl restored;
      };
      journal = λ which. keeps f i which;
      header = λ m member in_file first. subst IsRujHeader (sym (ruj f i m in_file first)) (well_formed.header m member);
      none_named = λ m member in_file first. ap named (ruj f i m in_file first) ∙ none_named m member;
      entry = λ m e member in_file first there. below.entry m i e member first (subst (λ (g : FileId). IsEntry (image g i) e) in_file there);
    }
