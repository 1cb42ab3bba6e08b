-- What keeps each of the facts: where no more may be left of the slots that it speaks of, it stays.
use Rattle.std.proofs.Common.{ℕ, ◌≤◌, List, ◌⊎◌, inl, inr, ⊎_elim, arith}
use Rattle.rdb_types.specs.declared.keys.Dbkey.{Dbkey}
use Rattle.rdb_types.specs.declared.keys.Line.{Line}
use Rattle.new_database.specs.Maker.{root_file, aij_file}
use Rattle.stable_lines.specs.Slots.{ruj_file, area_file}
use Rattle.stable_lines.specs.Journal.{Journal}
use Rattle.stable_lines.specs.Progress.{Open, Flight, Progress}
use Rattle.stable_lines.specs.Facts.{PendingContents, Fewer, HasEnded, IsCommitted, IsChanged, OpenFacts, GroupsStand, JournalFacts, FormerFacts, FlightFacts, RootStands, PageFacts, BelowFacts, Facts}

abbrev pub FewerHeaders : PendingContents → PendingContents → Type 0
FewerHeaders Q P = (member : ℕ) (h : List ℕ) → Q (ruj_file member) 0 h → P (ruj_file member) 0 h

abbrev pub FewerEntries : PendingContents → PendingContents → Type 0
FewerEntries Q P = (member slot : ℕ) (x : List ℕ) → 1 ≤ slot → Q (ruj_file member) slot x → P (ruj_file member) slot x

abbrev pub FewerPages : PendingContents → PendingContents → Type 0
FewerPages Q P = (number slot : ℕ) (x : List ℕ) → Q (area_file number) slot x → P (area_file number) slot x

abbrev pub FewerGroups : PendingContents → PendingContents → Type 0
FewerGroups Q P = (slot : ℕ) (x : List ℕ) → Q aij_file slot x → P aij_file slot x

abbrev pub FewerRoots : PendingContents → PendingContents → Type 0
FewerRoots Q P = (x : List ℕ) → Q root_file 0 x → P root_file 0 x

module _ (P Q : PendingContents) (now : Progress) where
  pub ended : FewerHeaders Q P → (tsn : ℕ) → HasEnded P now tsn → HasEnded Q now tsn
  ended hs tsn was member h is le p n = was member h is le (hs _ _ p) n

  pub committed : FewerHeaders Q P → (key : Dbkey) (line : Line) → IsCommitted P now key line → IsCommitted Q now key line
  committed hs key line c = record { shows = c.shows; ended = ended hs line.tsn.number c.ended; not_open = c.not_open }

  pub changed : FewerHeaders Q P → FewerEntries Q P → (key : Dbkey) (line : Line) → IsChanged P now key line → IsChanged Q now key line
  changed hs es key line c = record {
    member = c.member;
    transaction = c.transaction;
    is_open = c.is_open;
    tsn = c.tsn;
    index = c.index;
    before = c.before;
    entry = c.entry;
    committed = committed hs key c.before c.committed;
    below = c.below;
    one = λ i k x y a b li lk p q. c.one i k x y a b li lk (es _ _ _ li p) (es _ _ _ lk q);
  }

  pub lines : FewerHeaders Q P → FewerEntries Q P → (key : Dbkey) (line : Line) → IsCommitted P now key line ⊎ IsChanged P now key line → IsCommitted Q now key line ⊎ IsChanged Q now key line
  lines hs es key line was = ⊎_elim (λ c. inl (committed hs key line c)) (λ c. inr (changed hs es key line c)) was

  pub opened : FewerHeaders Q P → FewerEntries Q P → (member : ℕ) (o : Open) → OpenFacts P now member o → OpenFacts Q now member o
  opened hs es member o was = record {
    is_member = was.is_member;
    number = was.number;
    no_group = was.no_group;
    names = λ h le p. was.names h le (hs _ _ p);
    only = λ other h is p n. was.only other h is (hs _ _ p) n;
    alone = was.alone;
    entry = λ i undo x got p. was.entry i undo x got (es _ _ _ (omega arith) p);
  }

  pub groups : FewerGroups Q P → (j : Journal) → GroupsStand P j → GroupsStand Q j
  groups gs j was = record { whole = was.whole; stand = λ i what x got p. was.stand i what x got (gs _ _ p) }

  pub journal : FewerGroups Q P → JournalFacts P now → JournalFacts Q now
  journal gs was = record {
    header = λ x p. was.header x (gs _ _ p);
    groups = groups gs now.journal was.groups;
    commits = λ slot x part le p. was.commits slot x part le (gs _ _ p);
  }

  pub former : FewerGroups Q P → FewerHeaders Q P → (j : Journal) → FormerFacts P now j → FormerFacts Q now j
  former gs hs j was = record {
    empty = was.empty;
    no_flight = was.no_flight;
    groups = groups gs j was.groups;
    commits = λ slot x part le p. was.commits slot x part le (gs _ _ p);
    headers = λ member h is p. was.headers member h is (hs _ _ p);
    below = was.below;
  }

  pub flight : FewerGroups Q P → FewerPages Q P → (f : Flight) → FlightFacts P now f → FlightFacts Q now f
  flight gs ps f was = record {
    transaction = was.transaction;
    is_open = was.is_open;
    tsn = was.tsn;
    whole = was.whole;
    stand = λ i what x lt got p. was.stand i what x lt got (gs _ _ p);
    changed = was.changed;
    landed = λ i line x got p. was.landed i line x got (ps _ _ _ p);
    class = λ key bytes x got p. was.class key bytes x got (ps _ _ _ p);
  }

  pub root : FewerHeaders Q P → (x : List ℕ) → RootStands P now x → RootStands Q now x
  root hs x was = record {
    root = was.root;
    is = was.is;
    limits = was.limits;
    state = was.state;
    ceiling = was.ceiling;
    restored = λ state member h is p. was.restored state member h is (hs _ _ p);
  }

  pub pages : FewerPages Q P → FewerHeaders Q P → PageFacts P now → PageFacts Q now
  pages ps hs was = record {
    page = λ file number x is plain p. was.page file number x is plain (ps _ _ _ p);
    space = λ file number x is page space p. was.space file number x is page space (ps _ _ _ p);
    header = λ member x is p. was.header member x is (hs _ _ p);
    owner = λ file number x y is plain p owned q. was.owner file number x y is plain (ps _ _ _ p) owned (ps _ _ _ q);
    past = λ file slot x is le lt p. was.past file slot x is le lt (ps _ _ _ p);
    class = λ key bytes x got p. was.class key bytes x got (ps _ _ _ p);
  }

  pub below : FewerPages Q P → FewerHeaders Q P → FewerEntries Q P → BelowFacts P now → BelowFacts Q now
  below ps hs es was = record {
    line = λ key x p. was.line key x (ps _ _ _ p);
    header = λ member h is p. was.header member h is (hs _ _ p);
    entry = λ member slot x e is le p. was.entry member slot x e is le (es _ _ _ le p);
    group = was.group;
    going = was.going;
  }

  pub all : FewerHeaders Q P → FewerEntries Q P → FewerPages Q P → FewerGroups Q P → FewerRoots Q P → Facts P now → Facts Q now
  all hs es ps gs rs was = record {
    in_order = was.in_order;
    alone = λ a b h k ia ib p q. was.alone a b h k ia ib (hs _ _ p) (hs _ _ q);
    line = λ key x p. lines hs es key _ (was.line key x (ps _ _ _ p));
    going = λ member o is. opened hs es member o (was.going member o is);
    journal = journal gs was.journal;
    former = λ j is. former gs hs j (was.former j is);
    flight = λ f is. flight gs ps f (was.flight f is);
    root = λ x p. root hs x (was.root x (rs _ p));
    pages = pages ps hs was.pages;
    below = below ps hs es was.below;
  }

  -- A call that adds nothing to what a crash may leave: a read, a length, a barrier, also one that fails.
  pub fewer : Fewer Q P → Facts P now → Facts Q now
  fewer less = all (λ member h p. less _ _ _ p) (λ member slot x le p. less _ _ _ p) (λ number slot x p. less _ _ _ p) (λ slot x p. less _ _ _ p) (λ x p. less _ _ _ p)
