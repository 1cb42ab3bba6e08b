-- Lines that were used at some time, by a table of pages.
use Rattle.std.proofs.Common.{◌≡◌, ◌≢◌, ℕ, ◌<◌, Bool, true, false, List, Option, Some, ap, sym, subst, ◌∙◌, refl, arith}
use Rattle.std.specs.declared.cmp.Ordering.TheVariants.{Less}
use Rattle.std.specs.Ordering.{is_eq}
use Rattle.rdb_types.specs.declared.keys.Dbkey.{Dbkey}
use Rattle.rdb_types.specs.declared.keys.LineState.{LineState}
use Rattle.rdb_types.specs.declared.keys.LineState.TheVariants.{Never, Present, Erased}
use Rattle.rdb_types.specs.Order.{dbkey_order}
use Rattle.rdb_page.specs.Page.{IsOwner, lines_of}
use Rattle.line_view.specs.Knowledge.{Lines, line_in}
use Rattle.line_store.specs.Rooms.{IsBehind}
use Rattle.page_table.specs.declared.uses.PageUse.{PageUse}
use Rattle.page_table.specs.declared.uses.Sought.TheVariants.{Ever}
use Rattle.page_table.specs.Pages.{Pages, empty_of, use_of, owner_in, state_in, is_present, is_ever, was_used, IsLineOf, IsEverUsed, Puts, PutsLine}
use Rattle.page_table.specs.Scans.{Fits, IsFirst, HasNone}
use Rattle.committed_tables.specs.Tables.{HasCommitted, WereUsed}
use Rattle.committed_tables.proofs.Following.{same_key, not_same, some_owner, line_there, same_state}

ever : (s : LineState) → is_present s ≡ true → is_ever s ≡ true
ever Never is = is
ever Present is = refl
ever Erased is = refl

pub used_begin : (pages : Pages) (file : ℕ) (lines : Lines) → HasCommitted pages file lines → WereUsed pages file lines
used_begin pages file lines was key image of_file is = let there = was.committed key image of_file is in record { is_line = there.is_line; used = ever (state_in (use_of pages key.page) key.line) there.image }

-- ---- a line is put

module _ (pages kept : Pages) (key : Dbkey) (has : Bool) (is_line : IsLineOf pages key) (puts : PutsLine key has pages kept) where
  still_used : (k : Dbkey) → IsEverUsed pages k → (b : Bool) → is_eq (dbkey_order k key) ≡ b → was_used (use_of kept k.page) k.line ≡ true
  still_used k is true same = subst (λ (q : Dbkey). was_used (use_of kept q.page) q.line ≡ true) (sym (same_key k key same)) puts.used
  still_used k is false apart = ap is_ever (same_state pages kept key has puts k is_line is.is_line (not_same k key apart)) ∙ is.used

  pub used_behind_line : (file : ℕ) (lines : Lines) → WereUsed pages file lines → WereUsed kept file lines
  used_behind_line file lines was k image of_file is = let old = was k image of_file is in record { is_line = line_there pages kept key has puts k old.is_line; used = still_used k old (is_eq (dbkey_order k key)) refl }

-- ---- a page is taken

pub used_behind_page : (pages kept : Pages) (file : ℕ) (lines : Lines) (page area class : ℕ) → WereUsed pages file lines → owner_in pages page ≡ 0 → Puts page (empty_of area class) pages kept → WereUsed kept file lines
used_behind_page pages kept file lines page area class was free puts k image of_file is = moved (puts.others k.page old.is_line.within.first apart)
  where
    old : IsEverUsed pages k
    old = was k image of_file is

    apart : k.page ≢ page
    apart here = let some = some_owner file k.area of_file in let none : k.area ≡ 0 = sym old.is_line.owner ∙ (ap (λ (n : ℕ). owner_in pages n) here ∙ free) in omega (arith, some, none)

    moved : use_of kept k.page ≡ use_of pages k.page → IsEverUsed kept k
    moved same = record {
      is_line = record {
        within = record { first = old.is_line.within.first; last = let last = old.is_line.within.last in let long = puts.long in omega (arith, last, long) };
        owner = ap (λ (u : PageUse). u.owner) same ∙ old.is_line.owner;
        line = let line = old.is_line.line in subst (λ (c : ℕ). k.line < lines_of c) (ap (λ (u : PageUse). u.class) (sym same)) line;
      };
      used = ap (λ (u : PageUse). was_used u k.line) same ∙ old.used;
    }

-- ---- what a scan comes to

module _ (pages : Pages) (file : ℕ) (lines : Lines) (area : ℕ) (from : Option Dbkey) (was : WereUsed pages file lines) (owner : IsOwner file area) where
  fits : (key : Dbkey) (image : List ℕ) → key.area ≡ area → IsBehind from key → line_in key lines ≡ Some image → Fits pages Ever area from key
  fits key image same behind is =
      let there = was key image (subst (λ (n : ℕ). IsOwner file n) (sym same) owner) is in
      record { area_is = same; is_line = there.is_line; behind = behind; is_sought = there.used }

  pub none_before : (key other : Dbkey) (image : List ℕ) → IsFirst pages Ever area from key → other.area ≡ area → IsBehind from other → line_in other lines ≡ Some image → dbkey_order other key ≡ Less → ⊥
  none_before key other image first same behind is less = first.least other (fits other image same behind is) less

  pub none_left : HasNone pages Ever area from → (key : Dbkey) (image : List ℕ) → key.area ≡ area → IsBehind from key → line_in key lines ≡ Some image → ⊥
  none_left none key image same behind is = none key (fits key image same behind is)
