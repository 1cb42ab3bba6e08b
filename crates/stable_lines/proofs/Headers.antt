-- Writes to the root, to headers and entries of before-image journals, and to files that the facts don't speak of.
use Rattle.std.proofs.Common.{◌≡◌, ℕ, ◌+◌, ◌≤◌, ◌<◌, List, length, Some, None, slice_get, true, ◌⊎◌, inl, inr, ⊎_elim, sym, ◌∙◌, ap, subst, arith}
use Rattle.std.proofs.lemmas.Option.{slice_get_within}
use Rattle.rdb_types.specs.declared.file.FileId.{FileId}
use Rattle.rdb_types.specs.declared.file.FileKind.TheVariants.{Root, Area, Ruj, Aij}
use Rattle.rdb_types.specs.declared.keys.Dbkey.{Dbkey}
use Rattle.rdb_types.specs.declared.keys.Tsn.{Tsn}
use Rattle.rdb_types.specs.declared.keys.Line.{Line}
use Rattle.new_database.specs.root_file.declared.Root.{Root as RootValue}
use Rattle.new_database.specs.root_file.Root.{IsRoot}
use Rattle.ruj_journal.specs.declared.entry.RujEntry.{RujEntry}
use Rattle.ruj_journal.specs.Entry.{IsEntry}
use Rattle.ruj_journal.proofs.Readings.{one_entry}
use Rattle.new_database.specs.Maker.{root_file}
use Rattle.stable_lines.specs.Slots.{ruj_file, IsMember, named, Undo}
use Rattle.stable_lines.specs.Journal.{Journal, has_group}
use Rattle.stable_lines.specs.Image.{IsNoneOf}
use Rattle.stable_lines.specs.Kept.{IsRujHeader}
use Rattle.stable_lines.specs.Progress.{Open, Progress}
use Rattle.stable_lines.specs.Facts.{PendingContents, More, IsNotOpen, IsCommitted, IsChanged, OpenFacts, FormerFacts, RootStands, PageFacts, BelowFacts, Facts}
use Rattle.stable_lines.proofs.Fewer.{FewerHeaders, FewerEntries, FewerPages, FewerGroups, FewerRoots, committed, lines, opened, journal, former, flight, root, pages, below, all}
use Rattle.stable_lines.proofs.Elsewhere.{no_header, no_entry, no_page, no_group, no_root}

-- ---- files that the facts don't speak of: snapshots, backups, and the slots of members behind the root

pub other_written : (P Q : PendingContents) (now : Progress) (file : FileId) (slot : ℕ) (bytes : List ℕ) → More Q P file slot bytes → (file.kind ≡ Ruj → ⊥) → (file.kind ≡ Area → ⊥) → (file.kind ≡ Aij → ⊥) → (file.kind ≡ Root → slot ≡ 0 → ⊥) → Facts P now → Facts Q now
other_written P Q now file slot bytes more not_ruj not_area not_aij not_root =
    all P Q now (no_header P Q file slot bytes more (λ k at. not_ruj k)) (no_entry P Q file slot bytes more (λ k le. not_ruj k)) (no_page P Q file slot bytes more not_area) (no_group P Q file slot bytes more not_aij) (no_root P Q file slot bytes more not_root)

-- ---- the root

pub root_written : (P Q : PendingContents) (now : Progress) (bytes : List ℕ) → More Q P root_file 0 bytes → RootStands P now bytes → Facts P now → Facts Q now
root_written P Q now bytes more new was = record {
  in_order = was.in_order;
  alone = λ a b h k ia ib p q. was.alone a b h k ia ib (hs _ _ p) (hs _ _ q);
  line = λ key x p. lines P Q now hs es key _ (was.line key x (ps _ _ _ p));
  going = λ member o is. opened P Q now hs es member o (was.going member o is);
  journal = journal P Q now gs was.journal;
  former = λ j is. former P Q now gs hs j (was.former j is);
  flight = λ f is. flight P Q now gs ps f (was.flight f is);
  root = λ x q. root P Q now hs x (⊎_elim (λ p. was.root x p) (λ here. subst (λ (b : List ℕ). RootStands P now b) (sym here.2) new) (more _ _ x q));
  pages = pages P Q now ps hs was.pages;
  below = below P Q now ps hs es was.below;
}
  where
    hs : FewerHeaders Q P
    hs = no_header P Q root_file 0 bytes more (λ k at. let bad : Root ≡ Ruj = k in cc)

    es : FewerEntries Q P
    es = no_entry P Q root_file 0 bytes more (λ k le. let bad : Root ≡ Ruj = k in cc)

    ps : FewerPages Q P
    ps = no_page P Q root_file 0 bytes more (λ k. let bad : Root ≡ Area = k in cc)

    gs : FewerGroups Q P
    gs = no_group P Q root_file 0 bytes more (λ k. let bad : Root ≡ Aij = k in cc)

-- ---- the header of a member's before-image journal

-- what a header that is written must be
pub record MayBeHeader (P : PendingContents) (now : Progress) (member : ℕ) (bytes : List ℕ) : Type 0 where
  pub is : IsRujHeader bytes
  pub below : named bytes < now.next_tsn
  -- it names nothing that a committed line may bear
  pub ended : (tsn : ℕ) → IsNotOpen now tsn → 1 ≤ tsn → named bytes ≡ tsn → has_group tsn now.journal.groups ≡ true
  pub names : (o : Open) → now.going member ≡ Some o → 1 ≤ length o.entries → named bytes ≡ o.tsn.number
  pub only : (other : ℕ) (o : Open) → now.going other ≡ Some o → named bytes ≡ o.tsn.number → member ≡ other
  pub alone : (other : ℕ) (h : List ℕ) → IsMember other → P (ruj_file other) 0 h → 1 ≤ named h → named h ≡ named bytes → other ≡ member
  pub former : (j : Journal) → now.former ≡ Some j → named bytes ≡ 0
  pub restored : (x : List ℕ) (r : RootValue) → P root_file 0 x → IsRoot x r → r.state ≡ 3 → named bytes ≡ 0

module _ (P Q : PendingContents) (now : Progress) (member : ℕ) (bytes : List ℕ) (more : More Q P (ruj_file member) 0 bytes) (new : MayBeHeader P now member bytes) where
  es : FewerEntries Q P
  es = no_entry P Q (ruj_file member) 0 bytes more (λ k le. let bad : 1 ≤ 0 = le in omega (arith, bad))

  ps : FewerPages Q P
  ps = no_page P Q (ruj_file member) 0 bytes more (λ k. let bad : Ruj ≡ Area = k in cc)

  gs : FewerGroups Q P
  gs = no_group P Q (ruj_file member) 0 bytes more (λ k. let bad : Ruj ≡ Aij = k in cc)

  rs : FewerRoots Q P
  rs = no_root P Q (ruj_file member) 0 bytes more (λ k at. let bad : Ruj ≡ Root = k in cc)

  -- a header is an older one, or the new one
  header_is : (other : ℕ) (h : List ℕ) → Q (ruj_file other) 0 h → P (ruj_file other) 0 h ⊎ ((other ≡ member) × (h ≡ bytes))
  header_is other h q = ⊎_elim (λ p. inl p) (λ here. inr (ap (λ (f : FileId). f.number) here.0, here.2)) (more _ _ h q)

  still_committed : (key : Dbkey) (line : Line) → IsCommitted P now key line → IsCommitted Q now key line
  still_committed key line c = record { shows = c.shows; ended = λ other h is le q n. ⊎_elim (λ p. c.ended other h is le p n) (λ here. new.ended _ c.not_open le (sym (ap named here.1) ∙ n)) (header_is other h q); not_open = c.not_open }

  still_changed : (key : Dbkey) (line : Line) → IsChanged P now key line → IsChanged Q now key line
  still_changed key line c = record {
    member = c.member;
    transaction = c.transaction;
    is_open = c.is_open;
    tsn = c.tsn;
    index = c.index;
    before = c.before;
    entry = c.entry;
    committed = still_committed key c.before c.committed;
    below = c.below;
    one = λ i k x y a b li lk p q. c.one i k x y a b li lk (es _ _ _ li p) (es _ _ _ lk q);
  }

  still_open : (other : ℕ) (o : Open) → now.going other ≡ Some o → OpenFacts P now other o → OpenFacts Q now other o
  still_open other o is was = record {
    is_member = was.is_member;
    number = was.number;
    no_group = was.no_group;
    names = λ h le q. ⊎_elim (λ p. was.names h le p) (λ here. ap named here.1 ∙ new.names o (ap (λ m. now.going m) (sym here.0) ∙ is) le) (header_is other h q);
    only = λ third h is_member q n. ⊎_elim (λ p. was.only third h is_member p n) (λ here. here.0 ∙ new.only other o is (sym (ap named here.1) ∙ n)) (header_is third h q);
    alone = was.alone;
    entry = λ i undo x got q. was.entry i undo x got (es _ _ _ (omega arith) q);
  }

  pub header_written : Facts P now → Facts Q now
  header_written was = record {
    in_order = was.in_order;
    alone = λ a b h k ia ib p q le same. still_alone a b h k ia ib (header_is a h p) (header_is b k q) le same;
    line = λ key x q. ⊎_elim (λ c. inl (still_committed key _ c)) (λ c. inr (still_changed key _ c)) (was.line key x (ps _ _ _ q));
    going = λ other o is. still_open other o is (was.going other o is);
    journal = journal P Q now gs was.journal;
    former = λ j is. still_former j is (was.former j is);
    flight = λ f is. flight P Q now gs ps f (was.flight f is);
    root = λ x q. still_root x (rs x q) (was.root x (rs x q));
    pages = still_pages was.pages;
    below = still_below was.below;
  }
    where
      still_alone : (a b : ℕ) (h k : List ℕ) → IsMember a → IsMember b → P (ruj_file a) 0 h ⊎ ((a ≡ member) × (h ≡ bytes)) → P (ruj_file b) 0 k ⊎ ((b ≡ member) × (k ≡ bytes)) → 1 ≤ named h → named h ≡ named k → a ≡ b
      still_alone a b h k ia ib (inl p) (inl q) le same = was.alone a b h k ia ib p q le same
      still_alone a b h k ia ib (inl p) (inr here) le same = new.alone a h ia p le (same ∙ ap named here.1) ∙ sym here.0
      still_alone a b h k ia ib (inr here) (inl q) le same = here.0 ∙ sym (new.alone b k ib q (subst (λ (n : ℕ). 1 ≤ n) same le) (sym same ∙ ap named here.1))
      still_alone a b h k ia ib (inr here) (inr there) le same = here.0 ∙ sym there.0

      still_former : (j : Journal) → now.former ≡ Some j → FormerFacts P now j → FormerFacts Q now j
      still_former j is old = record {
        empty = old.empty;
        no_flight = old.no_flight;
        groups = record { whole = old.groups.whole; stand = λ i what x got q. old.groups.stand i what x got (gs _ _ q) };
        commits = λ slot x part le q. old.commits slot x part le (gs _ _ q);
        headers = λ other h is_member q. ⊎_elim (λ p. old.headers other h is_member p) (λ here. ap named here.1 ∙ new.former j is) (header_is other h q);
        below = old.below;
      }

      still_root : (x : List ℕ) → P root_file 0 x → RootStands P now x → RootStands Q now x
      still_root x p old = record {
        root = old.root;
        is = old.is;
        limits = old.limits;
        state = old.state;
        ceiling = old.ceiling;
        restored = λ three other h is_member q. ⊎_elim (λ p. old.restored three other h is_member p) (λ here. ap named here.1 ∙ new.restored x old.root p old.is three) (header_is other h q);
      }

      still_pages : PageFacts P now → PageFacts Q now
      still_pages old = record {
        page = λ file number x is plain q. old.page file number x is plain (ps _ _ _ q);
        space = λ file number x is page space q. old.space file number x is page space (ps _ _ _ q);
        header = λ other x is q. ⊎_elim (λ p. old.header other x is p) (λ here. subst (λ (b : List ℕ). IsRujHeader b) (sym here.1) new.is) (header_is other x q);
        owner = λ file number x y is plain q owned r. old.owner file number x y is plain (ps _ _ _ q) owned (ps _ _ _ r);
        past = λ file slot x is le lt q. old.past file slot x is le lt (ps _ _ _ q);
        class = λ key b x got q. old.class key b x got (ps _ _ _ q);
      }

      still_below : BelowFacts P now → BelowFacts Q now
      still_below old = record {
        line = λ key x q. old.line key x (ps _ _ _ q);
        header = λ other h is q. ⊎_elim (λ p. old.header other h is p) (λ here. subst (λ (b : List ℕ). named b < now.next_tsn) (sym here.1) new.below) (header_is other h q);
        entry = λ other slot x e is le q. old.entry other slot x e is le (es _ _ _ le q);
        group = old.group;
        going = old.going;
      }

-- a header that names the member's open transaction
pub header_named : (P Q : PendingContents) (now : Progress) (member : ℕ) (o : Open) (bytes : List ℕ) → More Q P (ruj_file member) 0 bytes → now.going member ≡ Some o → IsRujHeader bytes → named bytes ≡ o.tsn.number → now.former ≡ None → ((x : List ℕ) (r : RootValue) → P root_file 0 x → IsRoot x r → r.state ≡ 3 → ⊥) → Facts P now → Facts Q now
header_named P Q now member o bytes more is header names no_former used was = header_written P Q now member bytes more (record {
  is = header;
  below = subst (λ (n : ℕ). n < now.next_tsn) (sym names) (was.below.going member o is);
  ended = λ tsn not_open le n. absurd (not_open member o is (sym n ∙ names));
  names = λ p same le. names ∙ ap (λ (q : Open). q.tsn.number) (some_same o p (sym is ∙ same));
  only = λ other p same n. (was.going other p same).alone member o is (sym names ∙ n);
  alone = λ other h is_member p le n. (was.going member o is).only other h is_member p (n ∙ names);
  former = λ j same. let bad : None ≡ Some j = sym no_former ∙ same in absurd (cc);
  restored = λ x r p root three. absurd (used x r p root three);
}) was
  where
    some_same : {A : Type 0} (a b : A) → Some a ≡ Some b → a ≡ b
    some_same a b same = cc

-- a header that names none, where the member has no open transaction
pub header_closed : (P Q : PendingContents) (now : Progress) (member : ℕ) (bytes : List ℕ) → More Q P (ruj_file member) 0 bytes → now.going member ≡ None → IsRujHeader bytes → named bytes ≡ 0 → 1 ≤ now.next_tsn → Facts P now → Facts Q now
header_closed P Q now member bytes more is header names some was = header_written P Q now member bytes more (record {
  is = header;
  below = omega (arith, names, some);
  ended = λ tsn not_open le n. absurd (omega (arith, le, n, names));
  names = λ p same le. let bad : None ≡ Some p = sym is ∙ same in absurd (cc);
  only = λ other p same n. let number : 1 ≤ p.tsn.number = (was.going other p same).number in absurd (omega (arith, number, n, names));
  alone = λ other h is_member p le n. absurd (omega (arith, le, n, names));
  former = λ j same. names;
  restored = λ x r p root three. names;
}) was

-- ---- an entry of a member's before-image journal

-- an entry of the member's open transaction, behind those that stand, and of a line that has none there
pub entry_written : (P Q : PendingContents) (now : Progress) (member slot : ℕ) (o : Open) (e : RujEntry) (bytes : List ℕ) → More Q P (ruj_file member) slot bytes → now.going member ≡ Some o → IsEntry bytes e → e.tsn ≡ o.tsn → IsNoneOf e.key o.entries → length o.entries < slot → Facts P now → Facts Q now
entry_written P Q now member slot o e bytes more is entry tsn none behind was = record {
  in_order = was.in_order;
  alone = λ a b h k ia ib p q. was.alone a b h k ia ib (hs _ _ p) (hs _ _ q);
  line = λ key x q. ⊎_elim (λ c. inl (committed P Q now hs key _ c)) (λ c. inr (still_changed key _ c)) (was.line key x (ps _ _ _ q));
  going = λ other p same. still_open other p same (was.going other p same);
  journal = journal P Q now gs was.journal;
  former = λ j same. former P Q now gs hs j (was.former j same);
  flight = λ f same. flight P Q now gs ps f (was.flight f same);
  root = λ x q. root P Q now hs x (was.root x (rs _ q));
  pages = pages P Q now ps hs was.pages;
  below = record {
    line = λ key x q. was.below.line key x (ps _ _ _ q);
    header = λ other h is_member q. was.below.header other h is_member (hs _ _ q);
    entry = λ other i x a is_member le q read. ⊎_elim (λ p. was.below.entry other i x a is_member le p read) (λ here. subst (λ (n : ℕ). n < now.next_tsn) (sym (tsn_is x a here.2 read)) (was.below.going member o is)) (entry_is other i x q);
    group = was.below.group;
    going = was.below.going;
  };
}
  where
    hs : FewerHeaders Q P
    hs = no_header P Q (ruj_file member) slot bytes more (λ k at. omega (arith, at, behind))

    ps : FewerPages Q P
    ps = no_page P Q (ruj_file member) slot bytes more (λ k. let bad : Ruj ≡ Area = k in cc)

    gs : FewerGroups Q P
    gs = no_group P Q (ruj_file member) slot bytes more (λ k. let bad : Ruj ≡ Aij = k in cc)

    rs : FewerRoots Q P
    rs = no_root P Q (ruj_file member) slot bytes more (λ k at. let bad : Ruj ≡ Root = k in cc)

    entry_is : (other i : ℕ) (x : List ℕ) → Q (ruj_file other) i x → P (ruj_file other) i x ⊎ ((other ≡ member) × (i ≡ slot) × (x ≡ bytes))
    entry_is other i x q = ⊎_elim (λ p. inl p) (λ here. inr (ap (λ (f : FileId). f.number) here.0, here.1, here.2)) (more _ _ x q)

    -- what is read in the slot is the entry
    same_entry : (x : List ℕ) (a : RujEntry) → x ≡ bytes → IsEntry x a → a ≡ e
    same_entry x a at read = one_entry bytes a e (subst (λ (b : List ℕ). IsEntry b a) at read) entry

    tsn_is : (x : List ℕ) (a : RujEntry) → x ≡ bytes → IsEntry x a → a.tsn.number ≡ o.tsn.number
    tsn_is x a at read = ap (λ (r : RujEntry). r.tsn.number) (same_entry x a at read) ∙ ap (λ (t : Tsn). t.number) tsn

    some_same : {A : Type 0} (a b : A) → Some a ≡ Some b → a ≡ b
    some_same a b same = cc

    -- it is of no line that is changed
    apart : (key : Dbkey) (line : Line) (c : IsChanged P now key line) (x : List ℕ) (a : RujEntry) → c.member ≡ member → x ≡ bytes → IsEntry x a → a.key ≡ key → ⊥
    apart key line c x a at here read same =
        let this : c.transaction ≡ o = some_same _ _ (sym c.is_open ∙ ap (λ m. now.going m) at ∙ is) in
        none c.index (record { key = key; before = c.before }) (ap (λ (p : Open). slice_get p.entries c.index) (sym this) ∙ c.entry) (sym same ∙ ap (λ (r : RujEntry). r.key) (same_entry x a here read))

    still_changed : (key : Dbkey) (line : Line) → IsChanged P now key line → IsChanged Q now key line
    still_changed key line c = record {
      member = c.member;
      transaction = c.transaction;
      is_open = c.is_open;
      tsn = c.tsn;
      index = c.index;
      before = c.before;
      entry = c.entry;
      committed = committed P Q now hs key c.before c.committed;
      below = c.below;
      one = λ i k x y a b li lk p q ra rb ofa ofb. ⊎_elim (λ p. ⊎_elim (λ q. c.one i k x y a b li lk p q ra rb ofa ofb) (λ here. absurd (apart key line c y b here.0 here.2 rb ofb.same_key)) (entry_is c.member k y q)) (λ here. absurd (apart key line c x a here.0 here.2 ra ofa.same_key)) (entry_is c.member i x p);
    }

    still_open : (other : ℕ) (p : Open) → now.going other ≡ Some p → OpenFacts P now other p → OpenFacts Q now other p
    still_open other p same old = record {
      is_member = old.is_member;
      number = old.number;
      no_group = old.no_group;
      names = λ h le q. old.names h le (hs _ _ q);
      only = λ third h is_member q n. old.only third h is_member (hs _ _ q) n;
      alone = old.alone;
      entry = λ i undo x got q. ⊎_elim (λ was. old.entry i undo x got was) (λ here. absurd (not_there i undo got here.0 here.1)) (entry_is other (i + 1) x q);
    }
      where
        not_there : (i : ℕ) (undo : Undo) → slice_get p.entries i ≡ Some undo → other ≡ member → i + 1 ≡ slot → ⊥
        not_there i undo got at place =
            let this : o ≡ p = some_same _ _ (sym is ∙ ap (λ m. now.going m) (sym at) ∙ same) in
            let within : i < length p.entries = slice_get_within p.entries i undo got in
            let long : length o.entries ≡ length p.entries = ap (λ (r : Open). length r.entries) this in
            omega (arith, within, long, place, behind)
