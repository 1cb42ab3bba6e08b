-- Slots of the after-image journal are written.
use Rattle.std.proofs.Common.{◌≡◌, ℕ, ◌+◌, ◌≤◌, ◌<◌, List, length, Some, None, ◌⊎◌, inl, inr, ⊎_elim, sym, ◌∙◌, ap, arith}
use Rattle.std.proofs.lemmas.Option.{slice_get_within}
use Rattle.rdb_types.specs.declared.file.FileKind.TheVariants.{Root, Area, Ruj, Aij}
use Rattle.new_database.specs.aij_journal.declared.part.AijPart.{AijPart}
use Rattle.journal_reading.specs.journal_scan.Standing.{what_stands}
use Rattle.new_database.specs.Maker.{aij_file}
use Rattle.stable_lines.specs.Journal.{Journal, slots_in, next_number, next_slot, commit_of}
use Rattle.stable_lines.specs.Progress.{Flight, Progress}
use Rattle.stable_lines.specs.Facts.{PendingContents, More, GroupsStand, JournalFacts, FormerFacts, FlightFacts, Facts}
use Rattle.stable_lines.proofs.Fewer.{FewerHeaders, FewerEntries, FewerPages, FewerRoots, lines, opened, root, pages, below}
use Rattle.stable_lines.proofs.Elsewhere.{no_header, no_entry, no_page, no_root}

module _ (P Q : PendingContents) (now : Progress) (slot : ℕ) (bytes : List ℕ) (more : More Q P aij_file slot bytes) (was : Facts P now) where
  hs : FewerHeaders Q P
  hs = no_header P Q aij_file slot bytes more (λ k at. let bad : Aij ≡ Ruj = k in cc)

  es : FewerEntries Q P
  es = no_entry P Q aij_file slot bytes more (λ k le. let bad : Aij ≡ Ruj = k in cc)

  ps : FewerPages Q P
  ps = no_page P Q aij_file slot bytes more (λ k. let bad : Aij ≡ Area = k in cc)

  rs : FewerRoots Q P
  rs = no_root P Q aij_file slot bytes more (λ k at. let bad : Aij ≡ Root = k in cc)

  slot_is : (i : ℕ) (x : List ℕ) → Q aij_file i x → P aij_file i x ⊎ ((i ≡ slot) × (x ≡ bytes))
  slot_is i x q = ⊎_elim (λ p. inl p) (λ here. inr (here.1, here.2)) (more _ _ x q)

  -- with what holds of the journal now, the rest stays
  pub with_journal : JournalFacts Q now → ((j : Journal) → now.former ≡ Some j → FormerFacts Q now j) → ((f : Flight) → now.flight ≡ Some f → FlightFacts Q now f) → Facts Q now
  with_journal j former flight = record {
    in_order = was.in_order;
    alone = λ a b h k ia ib p q. was.alone a b h k ia ib (hs _ _ p) (hs _ _ q);
    line = λ key x q. lines P Q now hs es key _ (was.line key x (ps _ _ _ q));
    going = λ member o is. opened P Q now hs es member o (was.going member o is);
    journal = j;
    former = former;
    flight = flight;
    root = λ x q. root P Q now hs x (was.root x (rs _ q));
    pages = pages P Q now ps hs was.pages;
    below = below P Q now ps hs es was.below;
  }

  -- groups stay where the slot is behind them
  groups_stay : (j : Journal) → next_slot j ≤ slot → GroupsStand P j → GroupsStand Q j
  groups_stay j behind old = record {
    whole = old.whole;
    stand = λ i what x got q. ⊎_elim (λ p. old.stand i what x got p) (λ here. let within : i < length (slots_in j) = slice_get_within (slots_in j) i what got in let at : i + 1 ≡ slot = here.0 in absurd (omega (arith, within, at, behind))) (slot_is (i + 1) x q);
  }

  header_stays : 1 ≤ slot → (x : List ℕ) → Q aij_file 0 x → P aij_file 0 x
  header_stays le x q = ⊎_elim (λ p. p) (λ here. absurd (omega (arith, le, here.0))) (slot_is 0 x q)

  -- a slot behind the groups that is no commit of the next one: an after-image of a transaction that is about to commit
  pub part_written : next_slot now.journal ≤ slot → ((part : AijPart) → what_stands bytes ≡ Some part → part.line ≡ None → part.number < next_number now.journal) → now.former ≡ None → now.flight ≡ None → Facts Q now
  part_written behind low no_former no_flight = with_journal (record {
    header = λ x q. was.journal.header x (header_stays (omega (arith, behind)) x q);
    groups = groups_stay now.journal behind was.journal.groups;
    commits = λ i x part le q stands none. ⊎_elim (λ p. was.journal.commits i x part le p stands none) (λ here. inl (low part (sym (ap what_stands here.1) ∙ stands) none)) (slot_is i x q);
  }) (λ j is. let bad : None ≡ Some j = sym no_former ∙ is in absurd (cc)) (λ f is. let bad : None ≡ Some f = sym no_flight ∙ is in absurd (cc))

  -- the commit slot of the group in flight
  pub commit_written : (f : Flight) → now.flight ≡ Some f → slot ≡ next_slot now.journal + length f.group.lines → what_stands bytes ≡ commit_of f.group → Facts Q now
  commit_written f is place stands_as = with_journal (record {
    header = λ x q. was.journal.header x (header_stays first x q);
    groups = groups_stay now.journal (omega (arith, place)) was.journal.groups;
    commits = λ i x part le q stands none. ⊎_elim (λ p. was.journal.commits i x part le p stands none) (λ here. inr (record { flight = f; is = is; in_place = here.0 ∙ place; is_commit = sym stands ∙ ap what_stands here.1 ∙ stands_as })) (slot_is i x q);
  }) (λ j same. let none : now.flight ≡ None = (was.former j same).no_flight in let bad : None ≡ Some f = sym none ∙ is in absurd (cc)) still
    where
      first : 1 ≤ slot
      first = omega (arith, place)

      some_same : {A : Type 0} (a b : A) → Some a ≡ Some b → a ≡ b
      some_same a b same = cc

      still : (g : Flight) → now.flight ≡ Some g → FlightFacts Q now g
      still g same =
          let old = was.flight g same in
          record {
            transaction = old.transaction;
            is_open = old.is_open;
            tsn = old.tsn;
            whole = old.whole;
            stand = λ i what x lt got q. ⊎_elim (λ p. old.stand i what x lt got p) (λ here. absurd (apart i lt here.0)) (slot_is (next_slot now.journal + i) x q);
            changed = old.changed;
            landed = λ i line x got q. old.landed i line x got (ps _ _ _ q);
            class = λ key b x got q. old.class key b x got (ps _ _ _ q);
          }
        where
          apart : (i : ℕ) → i < length g.group.lines → next_slot now.journal + i ≡ slot → ⊥
          apart i lt at =
              let long : length g.group.lines ≡ length f.group.lines = ap (λ (h : Flight). length h.group.lines) (some_same g f (sym same ∙ is)) in
              omega (arith, lt, at, place, long)
