-- Which lines were ever used, by the tables, behind lines that are put into them and behind a page that is taken.
use Rattle.std.proofs.Common.{◌≡◌, ◌<◌, ℕ, zero, suc, Bool, true, false, [], ◌∷◌, ◌++◌, length, Some, is_some, inl, inr, ⊎_elim, refl, sym, ap, subst, ◌∙◌, arith}
use Rattle.std.specs.Prelude.{slice_get}
use Rattle.std.specs.Ordering.{is_eq}
use Rattle.std.proofs.lemmas.Bool.{true≢false}
use Rattle.std.proofs.lemmas.Option.{none-some}
use Rattle.rdb_types.specs.declared.keys.Dbkey.{Dbkey}
use Rattle.rdb_types.specs.declared.keys.Line.{Line}
use Rattle.rdb_types.specs.Order.{dbkey_order}
use Rattle.rdb_page.specs.Page.{IsOwner, lines_of}
use Rattle.line_versions.specs.Lines.{shown}
use Rattle.line_moves.specs.Lines.{ChangedLines}
use Rattle.line_moves.proofs.Putting.{nat_cases}
use Rattle.member_rooms.specs.page_table.declared.uses.PageUse.{PageUse}
use Rattle.member_rooms.specs.page_table.Pages.{Pages, empty_of, is_ever, owner_in, use_of, was_used, IsEverUsed, IsLineOf}
use Rattle.member_rooms.specs.page_table.Scans.{IsNew}
use Rattle.member_rooms.proofs.of_page_table.Said.{none_has}
use Rattle.member_rooms.proofs.of_committed_tables.Following.{same_key, not_same, same_state}
use Rattle.disk_store.specs.declared.held.Tables.{Tables}
use Rattle.disk_store.specs.Landing.{PutsIn, PutsAll, none, more}
use Rattle.disk_store.specs.Shown.{pages_of}
use Rattle.disk_store.specs.Sound.{IsUsedIn}
use Rattle.disk_store.specs.Taken.{TakesIn}
use Rattle.disk_store.proofs.Classed.{got-more}
use Rattle.disk_store.proofs.LinesPut.{SamePages, line-of-same, put-same}
use Rattle.disk_store.proofs.Tabled.{one-file, some-owner}

-- ---- a line is put

same-back : (old new : Tables) → SamePages old new → SamePages new old
same-back old new same = record { owner = λ file page first. sym (same.owner file page first); class = λ file page first. sym (same.class file page first); long = λ file. sym (same.long file) }

module _ (line : Dbkey × Line) (old new : Tables) (puts : PutsIn line old new) where
  abbrev f : ℕ
  f = puts.file

  pub put-here : IsUsedIn new f line.0
  put-here = record { owner = puts.owner; used = record { is_line = line-of-same old new (put-same line old new puts) f line.0 puts.is_line; used = puts.here.used } }

  still-here : (key : Dbkey) → IsEverUsed (pages_of old f) key → (b : Bool) → is_eq (dbkey_order key line.0) ≡ b → was_used (use_of (pages_of new f) key.page) key.line ≡ true
  still-here key is true same = subst (λ (k : Dbkey). was_used (use_of (pages_of new f) k.page) k.line ≡ true) (sym (same_key key line.0 same)) puts.here.used
  still-here key is false apart = ap is_ever (same_state (pages_of old f) (pages_of new f) line.0 (is_some (shown line.1)) puts.here key puts.is_line is.is_line (not_same key line.0 apart)) ∙ is.used

  pub put-still : (file : ℕ) (key : Dbkey) → IsUsedIn old file key → IsUsedIn new file key
  put-still file key was = record {
    owner = was.owner;
    used = ⊎_elim
        (λ (here : file ≡ f). subst (λ (n : ℕ). IsEverUsed (pages_of new n) key) (sym here) (now (subst (λ (n : ℕ). IsEverUsed (pages_of old n) key) here was.used)))
        (λ away. subst (λ (ps : Pages). IsEverUsed ps key) (sym (puts.others file away)) was.used) (nat_cases file f);
  }
    where
      now : IsEverUsed (pages_of old f) key → IsEverUsed (pages_of new f) key
      now is = record { is_line = line-of-same old new (put-same line old new puts) f key is.is_line; used = still-here key is (is_eq (dbkey_order key line.0)) refl }

  -- another line was used before, where it is
  pub put-back : (file : ℕ) (key : Dbkey) → (line.0 ≡ key → ⊥) → IsUsedIn new file key → IsUsedIn old file key
  put-back file key apart is = record {
    owner = is.owner;
    used = ⊎_elim
        (λ (here : file ≡ f). subst (λ (n : ℕ). IsEverUsed (pages_of old n) key) (sym here) (then (subst (λ (n : ℕ). IsEverUsed (pages_of new n) key) here is.used)))
        (λ away. subst (λ (ps : Pages). IsEverUsed ps key) (puts.others file away) is.used) (nat_cases file f);
  }
    where
      then : IsEverUsed (pages_of new f) key → IsEverUsed (pages_of old f) key
      then now =
          let there : IsLineOf (pages_of old f) key = line-of-same new old (same-back old new (put-same line old new puts)) f key now.is_line in
          record { is_line = there; used = sym (ap is_ever (same_state (pages_of old f) (pages_of new f) line.0 (is_some (shown line.1)) puts.here key puts.is_line there (λ same. apart (sym same)))) ∙ now.used }

-- ---- all of them

pub all-still : (old : Tables) (lines : ChangedLines) (new : Tables) → PutsAll old lines new → (file : ℕ) (key : Dbkey) → IsUsedIn old file key → IsUsedIn new file key
all-still old lines new (none _ _ is same) file key was = subst (λ (t : Tables). IsUsedIn t file key) (sym same) was
all-still old lines new (more before _ between _ line is rest puts) file key was = put-still line between new puts file key (all-still old before between rest file key was)

-- each of them is used
pub all-here : (old : Tables) (lines : ChangedLines) (new : Tables) → PutsAll old lines new → (i : ℕ) (line : Dbkey × Line) → slice_get lines i ≡ Some line → (file : ℕ) → IsOwner file line.0.area → IsUsedIn new file line.0
all-here old lines new (none _ _ is same) i line got file owner = absurd (none-some line (ap (λ (ls : ChangedLines). slice_get ls i) (sym is) ∙ got))
all-here old lines new (more before _ between _ last is rest puts) i line got file owner = elim (got-more before last line i (ap (λ (ls : ChangedLines). slice_get ls i) (sym is) ∙ got)) [
  | inl early ↦ put-still last between new puts file line.0 (all-here old before between rest i line early file owner)
  | inr at ↦ subst (λ (n : ℕ). IsUsedIn new n line.0) (one-file puts.file file line.0.area (subst (λ (l : Dbkey × Line). IsOwner puts.file l.0.area) at.1 puts.owner) owner) (subst (λ (l : Dbkey × Line). IsUsedIn new puts.file l.0) at.1 (put-here last between new puts))
]

-- and no other is that wasn't
pub all-back : (old : Tables) (lines : ChangedLines) (new : Tables) → PutsAll old lines new → (file : ℕ) (key : Dbkey) → ((i : ℕ) (line : Dbkey × Line) → slice_get lines i ≡ Some line → line.0 ≡ key → ⊥) → IsUsedIn new file key → IsUsedIn old file key
all-back old lines new (none _ _ is same) file key others now = subst (λ (t : Tables). IsUsedIn t file key) same now
all-back old lines new (more before _ between _ line is rest puts) file key others now =
    all-back old before between rest file key (λ i l got. others i l (ap (λ (ls : ChangedLines). slice_get ls i) is ∙ got-before before line i l got))
    (put-back line between new puts file key (others (length before) line (ap (λ (ls : ChangedLines). slice_get ls (length before)) is ∙ got-last before line)) now)
  where
    got-before : (ls : ChangedLines) (x : Dbkey × Line) (i : ℕ) (l : Dbkey × Line) → slice_get ls i ≡ Some l → slice_get (ls ++ x ∷ []) i ≡ Some l
    got-before [] x i l got = absurd (none-some l got)
    got-before (y ∷ ys) x zero l got = got
    got-before (y ∷ ys) x (suc i) l got = got-before ys x i l got

    got-last : (ls : ChangedLines) (x : Dbkey × Line) → slice_get (ls ++ x ∷ []) (length ls) ≡ Some x
    got-last [] x = refl
    got-last (y ∷ ys) x = got-last ys x

-- ---- a page is taken

module _ (file page area class : ℕ) (old new : Tables) (fresh : IsNew (pages_of old file) page) (takes : TakesIn file page area class old new) where
  pub takes-still : (other : ℕ) (key : Dbkey) → IsUsedIn old other key → IsUsedIn new other key
  takes-still other key was = record {
    owner = was.owner;
    used = ⊎_elim
        (λ (here : other ≡ file). subst (λ (n : ℕ). IsEverUsed (pages_of new n) key) (sym here) (now (subst (λ (n : ℕ). IsEverUsed (pages_of old n) key) here was.used)))
        (λ away. subst (λ (ps : Pages). IsEverUsed ps key) (sym (takes.others other away)) was.used) (nat_cases other file);
  }
    where
      now : IsEverUsed (pages_of old file) key → IsEverUsed (pages_of new file) key
      now is =
          let off : key.page ≡ page → ⊥ = λ here. let area_is = is.is_line.owner in let nobody : owner_in (pages_of old file) key.page ≡ 0 = ap (λ (n : ℕ). owner_in (pages_of old file) n) here ∙ fresh.free in let some = some-owner other key.area was.owner in omega (arith, area_is, nobody, some) in
          let same : use_of (pages_of new file) key.page ≡ use_of (pages_of old file) key.page = takes.here.others key.page is.is_line.within.first off in
          record {
            is_line = record {
              within = record { first = is.is_line.within.first; last = let last = is.is_line.within.last in let long = takes.here.long in omega (arith, last, long) };
              owner = ap (λ (u : PageUse). u.owner) same ∙ is.is_line.owner;
              line = subst (λ (c : ℕ). key.line < lines_of c) (ap (λ (u : PageUse). u.class) (sym same)) is.is_line.line;
            };
            used = ap (λ (u : PageUse). was_used u key.line) same ∙ is.used;
          }

  pub takes-back : (other : ℕ) (key : Dbkey) → IsUsedIn new other key → IsUsedIn old other key
  takes-back other key is = record {
    owner = is.owner;
    used = ⊎_elim
        (λ (here : other ≡ file). subst (λ (n : ℕ). IsEverUsed (pages_of old n) key) (sym here) (then (subst (λ (n : ℕ). IsEverUsed (pages_of new n) key) here is.used)))
        (λ away. subst (λ (ps : Pages). IsEverUsed ps key) (takes.others other away) is.used) (nat_cases other file);
  }
    where
      then : IsEverUsed (pages_of new file) key → IsEverUsed (pages_of old file) key
      then now =
          let off : key.page ≡ page → ⊥ = λ here.
          let empty : use_of (pages_of new file) key.page ≡ empty_of area class = ap (λ (n : ℕ). use_of (pages_of new file) n) here ∙ takes.here.here in
          true≢false (sym now.used ∙ (ap (λ (u : PageUse). was_used u key.line) empty ∙ ap is_ever (none_has key.line))) in
          let same : use_of (pages_of new file) key.page ≡ use_of (pages_of old file) key.page = takes.here.others key.page now.is_line.within.first off in
          record {
            is_line = record {
              within = record { first = now.is_line.within.first; last = let last = now.is_line.within.last in let long = takes.here.long in omega (arith, last, long) };
              owner = ap (λ (u : PageUse). u.owner) (sym same) ∙ now.is_line.owner;
              line = subst (λ (c : ℕ). key.line < lines_of c) (ap (λ (u : PageUse). u.class) same) now.is_line.line;
            };
            used = ap (λ (u : PageUse). was_used u key.line) (sym same) ∙ now.used;
          }
