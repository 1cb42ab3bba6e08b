-- The tables behind lines that are committed.
use Rattle.std.proofs.Common.{cond, ◌==◌, ◌+◌, zero, suc, Some, get_or, take, replicate, ◌≡◌, ◌≤◌, ◌<◌, ◌++◌, ℕ, Bool, [], ◌∷◌, length, is_some, ⊎_elim, refl, sym, ap, subst, ◌∙◌, arith}
use Rattle.std.proofs.lemmas.List.{map-append, take_more}
use Rattle.std.proofs.lemmas.Option.{same_Some}
use Rattle.std.specs.Prelude.{slice_get}
use Rattle.rdb_types.specs.declared.keys.Dbkey.{Dbkey}
use Rattle.rdb_types.specs.declared.keys.Line.{Line}
use Rattle.rdb_page.specs.Page.{IsOwner, lines_of}
use Rattle.line_view.specs.Knowledge.{Lines, laid}
use Rattle.line_view.specs.Writes.{laid_all}
use Rattle.line_view.proofs.Written.{written_last}
use Rattle.line_versions.specs.Lines.{shown}
use Rattle.line_moves.specs.Lines.{ChangedLines}
use Rattle.line_moves.proofs.Putting.{nat_cases}
use Rattle.member_rooms.specs.page_table.declared.uses.PageUse.{PageUse}
use Rattle.member_rooms.specs.page_table.Pages.{Pages, owner_in, class_in, nobodys, IsLineOf, PutsLine}
use Rattle.member_rooms.specs.committed_tables.Tables.{HasCommitted, WereUsed}
use Rattle.member_rooms.proofs.of_committed_tables.Following.{laid_behind, other_behind}
use Rattle.member_rooms.proofs.of_committed_tables.EverUsed.{used_behind_line}
use Rattle.member_memory.specs.Memory.{write_at, writes_in}
use Rattle.disk_store.specs.declared.held.Tables.{Tables}
use Rattle.disk_store.specs.Shown.{pages_of}
use Rattle.disk_store.specs.Landing.{PutsIn, PutsAll, none, more}
use Rattle.disk_store.proofs.Tabled.{apart-test, one-file}

-- pages keep owners and classes
pub record SamePages (old new : Tables) : Type 0 where
  pub owner : (file page : ℕ) → 1 ≤ page → owner_in (pages_of new file) page ≡ owner_in (pages_of old file) page
  pub class : (file page : ℕ) → 1 ≤ page → class_in (pages_of new file) page ≡ class_in (pages_of old file) page
  pub long : (file : ℕ) → length (pages_of new file) ≡ length (pages_of old file)

pub same-pages : (tables : Tables) → SamePages tables tables
same-pages tables = record { owner = λ file page first. refl; class = λ file page first. refl; long = λ file. refl }

pub line-of-same : (old new : Tables) → SamePages old new → (file : ℕ) (key : Dbkey) → IsLineOf (pages_of old file) key → IsLineOf (pages_of new file) key
line-of-same old new same file key is = record {
  within = record { first = is.within.first; last = let last = is.within.last in let long = same.long file in omega (arith, last, long) };
  owner = same.owner file key.page is.within.first ∙ is.owner;
  line = subst (λ (c : ℕ). key.line < lines_of c) (sym (same.class file key.page is.within.first)) is.line;
}

module _ (line : Dbkey × Line) (old new : Tables) (puts : PutsIn line old new) where
  in-file : (page : ℕ) → 1 ≤ page → (owner_in (pages_of new puts.file) page ≡ owner_in (pages_of old puts.file) page) × (class_in (pages_of new puts.file) page ≡ class_in (pages_of old puts.file) page)
  in-file page first = ⊎_elim
      (λ (here : page ≡ line.0.page). (
        subst (λ (n : ℕ). owner_in (pages_of new puts.file) n ≡ owner_in (pages_of old puts.file) n) (sym here) puts.here.owner,
        subst (λ (n : ℕ). class_in (pages_of new puts.file) n ≡ class_in (pages_of old puts.file) n) (sym here) puts.here.class,
      ))
      (λ away. let same = puts.here.others page first away in (ap (λ (u : PageUse). u.owner) same, ap (λ (u : PageUse). u.class) same))
      (nat_cases page line.0.page)

  pub put-same : SamePages old new
  put-same = record {
    owner = λ file page first. ⊎_elim
        (λ (here : file ≡ puts.file). subst (λ (f : ℕ). owner_in (pages_of new f) page ≡ owner_in (pages_of old f) page) (sym here) (in-file page first).0)
        (λ away. ap (λ (ps : Pages). owner_in ps page) (puts.others file away)) (nat_cases file puts.file);
    class = λ file page first. ⊎_elim
        (λ (here : file ≡ puts.file). subst (λ (f : ℕ). class_in (pages_of new f) page ≡ class_in (pages_of old f) page) (sym here) (in-file page first).1)
        (λ away. ap (λ (ps : Pages). class_in ps page) (puts.others file away)) (nat_cases file puts.file);
    long = λ file. ⊎_elim
        (λ (here : file ≡ puts.file). subst (λ (f : ℕ). length (pages_of new f) ≡ length (pages_of old f)) (sym here) puts.here.long)
        (λ away. ap (λ (ps : Pages). length ps) (puts.others file away)) (nat_cases file puts.file);
  }

  pub put-committed : (file : ℕ) (all : Lines) → HasCommitted (pages_of old file) file all → HasCommitted (pages_of new file) file (laid line.0 (shown line.1) all)
  put-committed file all was = ⊎_elim
      (λ (here : file ≡ puts.file). subst (λ (f : ℕ). HasCommitted (pages_of new f) f (laid line.0 (shown line.1) all)) (sym here)
      (laid_behind (pages_of old puts.file) (pages_of new puts.file) puts.file all line.0 (shown line.1) (subst (λ (f : ℕ). HasCommitted (pages_of old f) f all) here was) puts.owner puts.is_line puts.here))
      (λ away. subst (λ (ps : Pages). HasCommitted ps file (laid line.0 (shown line.1) all)) (sym (puts.others file away))
      (other_behind (pages_of old file) file all line.0 (shown line.1) was (λ owner. away (one-file file puts.file line.0.area owner puts.owner))))
      (nat_cases file puts.file)

  pub put-used : (file : ℕ) (all : Lines) → WereUsed (pages_of old file) file all → WereUsed (pages_of new file) file all
  put-used file all was = ⊎_elim
      (λ (here : file ≡ puts.file). subst (λ (f : ℕ). WereUsed (pages_of new f) f all) (sym here)
      (used_behind_line (pages_of old puts.file) (pages_of new puts.file) line.0 (is_some (shown line.1)) puts.is_line puts.here puts.file all (subst (λ (f : ℕ). WereUsed (pages_of old f) f all) here was)))
      (λ away. subst (λ (ps : Pages). WereUsed ps file all) (sym (puts.others file away)) was)
      (nat_cases file puts.file)

-- ---- all of them

joined-pages : (old between new : Tables) → SamePages old between → SamePages between new → SamePages old new
joined-pages old between new a b = record {
  owner = λ file page first. b.owner file page first ∙ a.owner file page first;
  class = λ file page first. b.class file page first ∙ a.class file page first;
  long = λ file. b.long file ∙ a.long file;
}

pub all-same : (old : Tables) (lines : ChangedLines) (new : Tables) → PutsAll old lines new → SamePages old new
all-same old lines new (none _ _ is same) = subst (λ (t : Tables). SamePages old t) (sym same) (same-pages old)
all-same old lines new (more before _ between _ line is rest puts) = joined-pages old between new (all-same old before between rest) (put-same line between new puts)

pub all-committed : (old : Tables) (lines : ChangedLines) (new : Tables) → PutsAll old lines new → (file : ℕ) (all : Lines) → HasCommitted (pages_of old file) file all → HasCommitted (pages_of new file) file (laid_all (writes_in lines) all)
all-committed old lines new (none _ _ is same) file all was =
    subst (λ (t : Tables). HasCommitted (pages_of t file) file (laid_all (writes_in lines) all)) (sym same) (subst (λ (l : ChangedLines). HasCommitted (pages_of old file) file (laid_all (writes_in l) all)) (sym is) was)
all-committed old lines new (more before _ between _ line is rest puts) file all was =
    subst (λ (ls : Lines). HasCommitted (pages_of new file) file ls)
    (sym (written_last (writes_in lines) (writes_in before) line.0 (shown line.1) all (ap writes_in is ∙ map-append write_at before (line ∷ []))))
    (put-committed line between new puts file (laid_all (writes_in before) all) (all-committed old before between rest file all was))

pub all-used : (old : Tables) (lines : ChangedLines) (new : Tables) → PutsAll old lines new → (file : ℕ) (all : Lines) → WereUsed (pages_of old file) file all → WereUsed (pages_of new file) file all
all-used old lines new (none _ _ is same) file all was = subst (λ (t : Tables). WereUsed (pages_of t file) file all) (sym same) was
all-used old lines new (more before _ between _ line is rest puts) file all was = put-used line between new puts file all (all-used old before between rest file all was)

-- ---- one line, by the file

module _ (line : Dbkey × Line) (file : ℕ) (owner : IsOwner file line.0.area) (old : Tables) (is_line : IsLineOf (pages_of old file) line.0) (table : Pages) where
  pub puts-catalog : file ≡ 1 → PutsLine line.0 (is_some (shown line.1)) old.catalog table → PutsIn line old (record { catalog = table; relations = old.relations; indexes = old.indexes })
  puts-catalog is puts = record {
    file = file;
    owner = owner;
    is_line = is_line;
    here = subst (λ (f : ℕ). PutsLine line.0 (is_some (shown line.1)) (pages_of old f) (pages_of (record { catalog = table; relations = old.relations; indexes = old.indexes }) f)) (sym is) puts;
    others = λ other apart. let no = apart-test other 1 (λ e. apart (e ∙ sym is)) in
        let rest = cond (other == 2) old.relations (cond (other == 3) old.indexes (replicate (length old.indexes) nobodys)) in
        ap (λ (b : Bool). cond b table rest) no ∙ sym (ap (λ (b : Bool). cond b old.catalog rest) no);
  }

  pub puts-relations : file ≡ 2 → PutsLine line.0 (is_some (shown line.1)) old.relations table → PutsIn line old (record { catalog = old.catalog; relations = table; indexes = old.indexes })
  puts-relations is puts = record {
    file = file;
    owner = owner;
    is_line = is_line;
    here = subst (λ (f : ℕ). PutsLine line.0 (is_some (shown line.1)) (pages_of old f) (pages_of (record { catalog = old.catalog; relations = table; indexes = old.indexes }) f)) (sym is) puts;
    others = λ other apart. let no = apart-test other 2 (λ e. apart (e ∙ sym is)) in
        let rest = cond (other == 3) old.indexes (replicate (length old.indexes) nobodys) in
        ap (λ (b : Bool). cond (other == 1) old.catalog (cond b table rest)) no ∙ sym (ap (λ (b : Bool). cond (other == 1) old.catalog (cond b old.relations rest)) no);
  }

  pub puts-indexes : file ≡ 3 → PutsLine line.0 (is_some (shown line.1)) old.indexes table → PutsIn line old (record { catalog = old.catalog; relations = old.relations; indexes = table })
  puts-indexes is puts = record {
    file = file;
    owner = owner;
    is_line = is_line;
    here = subst (λ (f : ℕ). PutsLine line.0 (is_some (shown line.1)) (pages_of old f) (pages_of (record { catalog = old.catalog; relations = old.relations; indexes = table }) f)) (sym is) puts;
    others = λ other apart. let no = apart-test other 3 (λ e. apart (e ∙ sym is)) in
        ap (λ (b : Bool). cond (other == 1) old.catalog (cond (other == 2) old.relations (cond b table (replicate (length table) nobodys)))) no
        ∙ (ap (λ (n : ℕ). cond (other == 1) old.catalog (cond (other == 2) old.relations (replicate n nobodys))) puts.long
        ∙ sym (ap (λ (b : Bool). cond (other == 1) old.catalog (cond (other == 2) old.relations (cond b old.indexes (replicate (length old.indexes) nobodys)))) no));
  }

-- one line more is put
pub put-more : (old now new : Tables) (lines : ChangedLines) (i : ℕ) (line : Dbkey × Line) → i < length lines → slice_get lines i ≡ Some line → PutsAll old (take i lines) now → PutsIn line now new → PutsAll old (take (i + 1) lines) new
put-more old now new lines i line inside got were puts = more (take i lines) (take (i + 1) lines) now new line (take_more lines i line inside ∙ ap (λ (l : Dbkey × Line). take i lines ++ l ∷ []) (got_is lines i line got)) were puts
  where
    got_is : (ls : ChangedLines) (k : ℕ) (l : Dbkey × Line) → slice_get ls k ≡ Some l → get_or ls k l ≡ l
    got_is [] k l is = refl
    got_is (x ∷ xs) zero l is = same_Some x l is
    got_is (x ∷ xs) (suc k) l is = got_is xs k l is
