-- A space page is written.
use Rattle.std.proofs.Common.{◌≡◌, ℕ, ◌-◌, ◌%◌, ◌≤◌, ◌<◌, List, Some, None, ◌⊎◌, inl, inr, ⊎_elim, sym, ◌∙◌, ap, subst, arith}
use Rattle.rdb_types.specs.declared.file.FileId.{FileId}
use Rattle.rdb_types.specs.declared.file.FileKind.TheVariants.{Root, Area, Ruj, Aij}
use Rattle.rdb_types.specs.declared.keys.Dbkey.{Dbkey}
use Rattle.rdb_types.specs.declared.keys.Line.{Line}
use Rattle.ruj_journal.specs.rdb_page.Lines.{never}
use Rattle.space_pages.specs.area_files.Areas.{IsSpacePage, IsDataPage, space_page_of}
use Rattle.space_pages.specs.Space.{IsSpace, owner_of}
use Rattle.line_view.specs.Knowledge.{line_in}
use Rattle.stable_lines.specs.Slots.{area_file, file_of, slot_of, IsAreaFile, line_on}
use Rattle.stable_lines.specs.Kept.{FitsClass}
use Rattle.stable_lines.specs.Progress.{Flight, Progress}
use Rattle.stable_lines.specs.Facts.{PendingContents, More, OnPage, IsCommitted, IsChanged, FlightFacts, HasLanded, PageFacts, BelowFacts, Facts}
use Rattle.stable_lines.specs.Steps.{MayBeSpace}
use Rattle.stable_lines.proofs.Fewer.{FewerHeaders, FewerEntries, FewerGroups, FewerRoots, lines, opened, journal, former, root}
use Rattle.stable_lines.proofs.Elsewhere.{no_header, no_entry, no_group, no_root}
use Rattle.stable_lines.proofs.Never.{nothing_on, space_owner, never_committed, not_committed, not_in_flight}

same_page : (a b : ℕ) → 1 ≤ a → 1 ≤ b → a - 1 ≡ b - 1 → a ≡ b
same_page a b la lb e = omega arith

space_first : (p : ℕ) → 1 ≤ p → 1 ≤ space_page_of p
space_first p le = omega (arith, le)

module _ (P Q : PendingContents) (now : Progress) (file number : ℕ) (bytes : List ℕ) (more : More Q P (area_file file) (number - 1) bytes) (file_is : IsAreaFile file) (new : MayBeSpace P now file number bytes) (was : Facts P now) where
  hs : FewerHeaders Q P
  hs = no_header P Q (area_file file) (number - 1) bytes more (λ k at. let bad : Area ≡ Ruj = k in cc)

  es : FewerEntries Q P
  es = no_entry P Q (area_file file) (number - 1) bytes more (λ k le. let bad : Area ≡ Ruj = k in cc)

  gs : FewerGroups Q P
  gs = no_group P Q (area_file file) (number - 1) bytes more (λ k. let bad : Area ≡ Aij = k in cc)

  rs : FewerRoots Q P
  rs = no_root P Q (area_file file) (number - 1) bytes more (λ k at. let bad : Area ≡ Root = k in cc)

  is_space : IsSpacePage number
  is_space = new.is.page

  old_is : IsSpace new.old number
  old_is = was.pages.space file number new.old file_is new.page is_space new.pending

  -- a page is an older one, or the new one
  area_is : (f i : ℕ) (x : List ℕ) → Q (area_file f) i x → P (area_file f) i x ⊎ ((f ≡ file) × (i ≡ number - 1) × (x ≡ bytes))
  area_is f i x q = ⊎_elim (λ p. inl p) (λ here. inr (ap (λ (g : FileId). g.number) here.0, here.1, here.2)) (more _ _ x q)

  -- what holds of each page that has no line, and held of each page
  on_page : (key : Dbkey) (T : List ℕ → Type 0) → ((y : List ℕ) → OnPage P key y → T y) → (OnPage P key new.old → T bytes) → (y : List ℕ) → OnPage Q key y → T y
  on_page key T old here y q = ⊎_elim (λ p. old y p) (λ at. subst T (sym at.2) (here (subst (λ (f : FileId). P f (slot_of key) new.old) (sym at.0) (subst (λ i. P (area_file file) i new.old) (sym at.1) new.pending)))) (more (file_of key) (slot_of key) y q)

  new_none : (key : Dbkey) → line_on key bytes ≡ never
  new_none key = nothing_on key bytes (space_owner bytes number new.is)

  old_none : (key : Dbkey) → line_on key new.old ≡ never
  old_none key = nothing_on key new.old (space_owner new.old number old_is)

  no_line : (key : Dbkey) (b : List ℕ) → line_in key now.lines ≡ Some b → OnPage P key new.old → ⊥
  no_line key b got there = let bad : None ≡ Some b = sym (not_committed P now was key new.old there (old_none key)) ∙ got in cc

  line : (key : Dbkey) (y : List ℕ) → OnPage Q key y → IsCommitted P now key (line_on key y) ⊎ IsChanged P now key (line_on key y)
  line key = on_page key (λ y. IsCommitted P now key (line_on key y) ⊎ IsChanged P now key (line_on key y)) (was.line key) (λ there. inl (subst (λ (l : Line). IsCommitted P now key l) (sym (new_none key)) (never_committed P now was key new.old there (old_none key))))

  flight : (f : Flight) → now.flight ≡ Some f → FlightFacts P now f → FlightFacts Q now f
  flight f is old = record {
    transaction = old.transaction;
    is_open = old.is_open;
    tsn = old.tsn;
    whole = old.whole;
    stand = λ i what x lt got q. old.stand i what x lt got (gs _ _ q);
    changed = old.changed;
    landed = λ i l y got q. on_page l.key (λ z. HasLanded f.group l (line_on l.key z)) (λ z p. old.landed i l z got p) (λ there. subst (λ (m : Line). HasLanded f.group l m) (old_none l.key ∙ sym (new_none l.key)) (old.landed i l new.old got there)) y q;
    class = λ key b y got q. on_page key (λ z. FitsClass z (f.classes key.area) b) (λ z p. old.class key b z got p) (λ there. let bad : None ≡ Some b = sym (not_in_flight P now was key new.old there (old_none key) f is) ∙ got in absurd (cc)) y q;
  }

  pages : PageFacts P now → PageFacts Q now
  pages old = record {
    page = λ f n x is plain q. ⊎_elim (λ p. old.page f n x is plain p) (λ here. absurd (not_data n plain here.1)) (area_is f (n - 1) x q);
    space = λ f n x is page space q. ⊎_elim (λ p. old.space f n x is page space p) (λ here. subst (λ (z : List ℕ). IsSpace z n) (sym here.2) (subst (λ k. IsSpace bytes k) (sym (same_page n number page.first new.page.first here.1)) new.is)) (area_is f (n - 1) x q);
    header = λ member x is q. old.header member x is (hs _ _ q);
    owner = λ f n x y is plain q owned r. ⊎_elim (λ p. ⊎_elim (λ s. old.owner f n x y is plain p owned s) (λ here. ap (λ z. owner_of n z) here.2 ∙ new.owners n x plain (same_page (space_page_of n) number (space_first n plain.is_page.first) new.page.first here.1) (subst (λ k. P (area_file k) (n - 1) x) here.0 p) owned) (area_is f (space_page_of n - 1) y r)) (λ here. absurd (not_data n plain here.1)) (area_is f (n - 1) x q);
    past = λ f slot x is le lt q. ⊎_elim (λ p. old.past f slot x is le lt p) (λ here. let at : slot ≡ number - 1 = here.1 in let top : number ≤ now.limits.pages = new.within in let first : 1 ≤ number = new.page.first in absurd (omega (arith, at, top, first, le))) (area_is f slot x q);
    class = λ key b y got q. on_page key (λ z. FitsClass z (now.classes key.area) b) (λ z p. old.class key b z got p) (λ there. absurd (no_line key b got there)) y q;
  }
    where
      not_data : (n : ℕ) → IsDataPage n → n - 1 ≡ number - 1 → ⊥
      not_data n plain at = plain.plain (ap (λ k. (k - 1) % 200) (same_page n number plain.is_page.first new.page.first at) ∙ is_space)

  below : BelowFacts P now → BelowFacts Q now
  below old = record {
    line = λ key y q. on_page key (λ z. (line_on key z).tsn.number < now.next_tsn) (old.line key) (λ there. subst (λ (l : Line). l.tsn.number < now.next_tsn) (old_none key ∙ sym (new_none key)) (old.line key new.old there)) y q;
    header = λ member h is q. old.header member h is (hs _ _ q);
    entry = λ member slot x e is le q. old.entry member slot x e is le (es _ _ _ le q);
    group = old.group;
    going = old.going;
  }

  pub space_written : Facts Q now
  space_written = record {
    in_order = was.in_order;
    alone = λ a b h k ia ib p q. was.alone a b h k ia ib (hs _ _ p) (hs _ _ q);
    line = λ key y q. lines P Q now hs es key _ (line key y q);
    going = λ member o is. opened P Q now hs es member o (was.going member o is);
    journal = journal P Q now gs was.journal;
    former = λ j is. former P Q now gs hs j (was.former j is);
    flight = λ f is. flight f is (was.flight f is);
    root = λ x q. root P Q now hs x (was.root x (rs _ q));
    pages = pages was.pages;
    below = below was.below;
  }
