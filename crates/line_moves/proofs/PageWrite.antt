-- A page is written, and its new content keeps the pending facts.
use Rattle.std.proofs.Common.{◌≡◌, ◌≢◌, ℕ, ◌+◌, ◌-◌, ◌%◌, ◌≤◌, ◌<◌, List, Some, inl, inr, ⊎_elim, ap, sym, subst, ◌∙◌, arith}
use Rattle.rdb_types.specs.declared.file.FileId.{FileId}
use Rattle.rdb_types.specs.declared.file.FileKind.TheVariants.{Root, Area, Ruj, Aij}
use Rattle.rdb_types.specs.declared.keys.Dbkey.{Dbkey}
use Rattle.rdb_types.specs.declared.keys.Line.{Line}
use Rattle.line_store.specs.area_files.Areas.{IsDataPage, space_page_of}
use Rattle.stable_lines.specs.space_pages.Space.{owner_of}
use Rattle.stable_lines.specs.new_database.Maker.{root_file, aij_file}
use Rattle.stable_lines.specs.Slots.{ruj_file, area_file, file_of, slot_of, owner_at, line_on}
use Rattle.stable_lines.specs.Journal.{Journal}
use Rattle.line_store.specs.rdb_page.Whole.{IsPageOf}
use Rattle.stable_lines.specs.Kept.{FitsClass}
use Rattle.stable_lines.specs.Progress.{Open, Flight, Progress}
use Rattle.stable_lines.specs.Facts.{PendingContents, More, OnPage, HasEnded, IsCommitted, IsChanged, OpenFacts, GroupsStand, JournalFacts, FormerFacts, FlightFacts, HasLanded, RootStands, PageFacts, BelowFacts, Facts}
use Rattle.line_moves.specs.Contents.{IsOn, IsSure, IsSurePage}

not_ruj : (file member : ℕ) → ruj_file member ≡ area_file file → ⊥
not_ruj file member same = let k : Ruj ≡ Area = ap (λ (f : FileId). f.kind) same in cc

not_aij : (file : ℕ) → aij_file ≡ area_file file → ⊥
not_aij file same = let k : Aij ≡ Area = ap (λ (f : FileId). f.kind) same in cc

not_root : (file : ℕ) → root_file ≡ area_file file → ⊥
not_root file same = let k : Root ≡ Area = ap (λ (f : FileId). f.kind) same in cc

same_number : (a b : ℕ) → area_file a ≡ area_file b → a ≡ b
same_number a b same = ap (λ (f : FileId). f.number) same

same_page : (a b : ℕ) → 1 ≤ a → 1 ≤ b → a - 1 ≡ b - 1 → a ≡ b
same_page a b la lb e = omega arith

-- a space page isn't the slot of a data page
pub space_apart : (a b : ℕ) → 1 ≤ b → (b - 1) % 200 ≢ 0 → space_page_of a - 1 ≡ b - 1 → 1 ≤ a → ⊥
space_apart a b lb plain e la = plain (omega arith)

module _ (P Q : PendingContents) (now : Progress) (file number : ℕ) (x : List ℕ) (plain : IsDataPage number) (more : More Q P (area_file file) (number - 1) x) (was : Facts P now) (sure : IsSurePage P now file number x) where
  ruj : (member i : ℕ) (y : List ℕ) → Q (ruj_file member) i y → P (ruj_file member) i y
  ruj member i y q = ⊎_elim (λ p. p) (λ here. absurd (not_ruj file member here.0)) (more (ruj_file member) i y q)

  aij : (i : ℕ) (y : List ℕ) → Q aij_file i y → P aij_file i y
  aij i y q = ⊎_elim (λ p. p) (λ here. absurd (not_aij file here.0)) (more aij_file i y q)

  root : (i : ℕ) (y : List ℕ) → Q root_file i y → P root_file i y
  root i y q = ⊎_elim (λ p. p) (λ here. absurd (not_root file here.0)) (more root_file i y q)

  ended : (tsn : ℕ) → HasEnded P now tsn → HasEnded Q now tsn
  ended tsn e member h is le q n = e member h is le (ruj member 0 h q) n

  committed : (key : Dbkey) (line : Line) → IsCommitted P now key line → IsCommitted Q now key line
  committed key line c = record { shows = c.shows; ended = ended line.tsn.number c.ended; not_open = c.not_open }

  changed : (key : Dbkey) (line : Line) → IsChanged P now key line → IsChanged Q now key line
  changed key line c = record {
    member = c.member;
    transaction = c.transaction;
    is_open = c.is_open;
    tsn = c.tsn;
    index = c.index;
    before = c.before;
    entry = c.entry;
    committed = committed key c.before c.committed;
    below = c.below;
    one = λ i k y z a b li lk p q. c.one i k y z a b li lk (ruj c.member i y p) (ruj c.member k z q);
  }

  sure_of : (key : Dbkey) (y : List ℕ) → IsSure P now key y → IsSure Q now key y
  sure_of key y s = ⊎_elim (λ c. inl (committed key (line_on key y) c)) (λ c. inr (changed key (line_on key y) c)) s

  -- what holds of each content that was pending, and of the new one, holds of each that is pending
  of_page : (key : Dbkey) (T : List ℕ → Type 0) → ((y : List ℕ) → OnPage P key y → T y) → (IsOn file number key → T x) → (y : List ℕ) → OnPage Q key y → T y
  of_page key T old new y q = ⊎_elim (λ p. old y p) (λ here. subst T (sym here.2) (new (record { in_file = here.0; in_slot = here.1 }))) (more (file_of key) (slot_of key) y q)

  lines : (key : Dbkey) (y : List ℕ) → OnPage Q key y → IsSure Q now key y
  lines key y q = sure_of key y (of_page key (IsSure P now key) (was.line key) (sure.line key) y q)

  opened : (member : ℕ) (o : Open) → OpenFacts P now member o → OpenFacts Q now member o
  opened member o w = record {
    is_member = w.is_member;
    number = w.number;
    no_group = w.no_group;
    names = λ h le q. w.names h le (ruj member 0 h q);
    only = λ other h is q n. w.only other h is (ruj other 0 h q) n;
    alone = w.alone;
    entry = λ i undo y got q. w.entry i undo y got (ruj member (i + 1) y q);
  }

  groups : (j : Journal) → GroupsStand P j → GroupsStand Q j
  groups j w = record { whole = w.whole; stand = λ i what y got q. w.stand i what y got (aij (i + 1) y q) }

  journal : JournalFacts P now → JournalFacts Q now
  journal w = record {
    header = λ y q. w.header y (aij 0 y q);
    groups = groups now.journal w.groups;
    commits = λ slot y part le q. w.commits slot y part le (aij slot y q);
  }

  former : (j : Journal) → FormerFacts P now j → FormerFacts Q now j
  former j w = record {
    empty = w.empty;
    no_flight = w.no_flight;
    groups = groups j w.groups;
    commits = λ slot y part le q. w.commits slot y part le (aij slot y q);
    headers = λ member h is q. w.headers member h is (ruj member 0 h q);
    below = w.below;
  }

  flight : (f : Flight) → now.flight ≡ Some f → FlightFacts P now f → FlightFacts Q now f
  flight f is w = record {
    transaction = w.transaction;
    is_open = w.is_open;
    tsn = w.tsn;
    whole = w.whole;
    stand = λ i what y lt got q. w.stand i what y lt got (aij _ y q);
    changed = w.changed;
    landed = λ i line y got q. of_page line.key (λ z. HasLanded f.group line (line_on line.key z)) (λ z p. w.landed i line z got p) (λ on. (sure.flight f is).landed i line got on) y q;
    class = λ key bytes y got q. of_page key (λ z. FitsClass z (f.classes key.area) bytes) (λ z p. w.class key bytes z got p) (λ on. (sure.flight f is).class key bytes got on) y q;
  }

  roots : (y : List ℕ) → RootStands P now y → RootStands Q now y
  roots y w = record {
    root = w.root;
    is = w.is;
    limits = w.limits;
    state = w.state;
    ceiling = w.ceiling;
    restored = λ state member h is q. w.restored state member h is (ruj member 0 h q);
  }

  -- the space page of any page is as it was
  space_was : (f n : ℕ) (y : List ℕ) → 1 ≤ n → Q (area_file f) (space_page_of n - 1) y → P (area_file f) (space_page_of n - 1) y
  space_was f n y le q = ⊎_elim (λ p. p) (λ here. absurd (space_apart n number plain.is_page.first plain.plain here.1 le)) (more (area_file f) (space_page_of n - 1) y q)

  -- a page that is written is that of this file and number
  at : (f n : ℕ) (T : ℕ → ℕ → Type 0) → 1 ≤ n → area_file f ≡ area_file file → n - 1 ≡ number - 1 → T file number → T f n
  at f n T le same_file same_slot t =
      let numbers = sym (same_page n number le plain.is_page.first same_slot) in let files = sym (same_number f file same_file) in
      subst (λ a. T a n) files (subst (λ b. T file b) numbers t)

  pages : PageFacts P now → PageFacts Q now
  pages w = record {
    page = λ f n y is data_page q. ⊎_elim (λ p. w.page f n y is data_page p)
        (λ here. at f n (λ a b. IsPageOf a b y) data_page.is_page.first here.0 here.1 (subst (λ (z : List ℕ). IsPageOf file number z) (sym here.2) sure.page)) (more (area_file f) (n - 1) y q);
    space = λ f n y is page space q. ⊎_elim (λ p. w.space f n y is page space p)
        (λ here. absurd (plain.plain (ap (λ k. (k - 1) % 200) (sym (same_page n number page.first plain.is_page.first here.1)) ∙ space))) (more (area_file f) (n - 1) y q);
    header = λ member y is q. w.header member y is (ruj member 0 y q);
    owner = λ f n y z is data_page q owned r. let s = space_was f n z data_page.is_page.first r in ⊎_elim (λ p. w.owner f n y z is data_page p owned s)
        (λ here. at f n (λ a b. P (area_file a) (space_page_of b - 1) z → owner_of b z ≡ owner_at y) data_page.is_page.first here.0 here.1
        (λ t. subst (λ (v : List ℕ). owner_of number z ≡ owner_at v) (sym here.2) (sure.owner z (subst (λ (v : List ℕ). 1 ≤ owner_at v) here.2 owned) t)) s)
        (more (area_file f) (n - 1) y q);
    past = λ f slot y is le lt q. ⊎_elim (λ p. w.past f slot y is le lt p) (λ here. let e : slot ≡ number - 1 = here.1 in let first = plain.is_page.first in let within = sure.within in absurd (omega arith)) (more (area_file f) slot y q);
    class = λ key bytes y got q. of_page key (λ z. FitsClass z (now.classes key.area) bytes) (λ z p. w.class key bytes z got p) (λ on. sure.class key bytes got on) y q;
  }

  below : BelowFacts P now → BelowFacts Q now
  below w = record {
    line = λ key y q. of_page key (λ z. (line_on key z).tsn.number < now.next_tsn) (w.line key) (sure.below key) y q;
    header = λ member h is q. w.header member h is (ruj member 0 h q);
    entry = λ member slot y e is le q. w.entry member slot y e is le (ruj member slot y q);
    group = w.group;
    going = w.going;
  }

  pub page_written : Facts Q now
  page_written = record {
    in_order = was.in_order;
    alone = λ a b h k ia ib p q. was.alone a b h k ia ib (ruj a 0 h p) (ruj b 0 k q);
    line = lines;
    going = λ member o is. opened member o (was.going member o is);
    journal = journal was.journal;
    former = λ j is. former j (was.former j is);
    flight = λ f is. flight f is (was.flight f is);
    root = λ y q. roots y (was.root y (root 0 y q));
    pages = pages was.pages;
    below = below was.below;
  }
