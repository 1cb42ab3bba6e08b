-- The after-image journal is begun anew, while no header of a before-image journal names a transaction.
use Rattle.std.proofs.Common.{◌≡◌, ℕ, ◌+◌, ◌≤◌, ◌<◌, List, length, Some, None, inl, inr, ⊎_elim, refl, sym, ◌∙◌, subst, arith}
use Rattle.std.proofs.lemmas.Option.{slice_get_within}
use Rattle.rdb_types.specs.declared.keys.Dbkey.{Dbkey}
use Rattle.rdb_types.specs.declared.keys.Line.{Line}
use Rattle.new_database.specs.aij_journal.declared.part.AijPart.{AijPart}
use Rattle.new_database.specs.aij_journal.Header.{IsHeader}
use Rattle.journal_reading.specs.journal_scan.Standing.{what_stands}
use Rattle.new_database.specs.Maker.{aij_file}
use Rattle.stable_lines.specs.Slots.{ruj_file, area_file, IsMember, named}
use Rattle.stable_lines.specs.Journal.{Journal, next_number}
use Rattle.stable_lines.specs.Progress.{Progress, begun_anew, settled}
use Rattle.stable_lines.specs.Facts.{PendingContents, More, IsCommitted, IsChanged, GroupsStand, FormerFacts, Facts}
use Rattle.stable_lines.specs.Steps.{NamesNone}
use Rattle.rdb_types.specs.declared.file.FileKind.TheVariants.{Area, Ruj, Aij}
use Rattle.stable_lines.proofs.Elsewhere.{no_header, no_page}
use Rattle.stable_lines.proofs.JournalWrite.{with_journal}

module _ (P : PendingContents) (now : Progress) (was : Facts P now) where
  -- before the new header is written. A header of some content is there, as there always is.
  pub begins_anew : (first : ℕ) → next_number now.journal ≤ first → NamesNone P → ((member : ℕ) → IsMember member → (h : List ℕ) × P (ruj_file member) 0 h) → now.former ≡ None → now.flight ≡ None → Facts P (begun_anew first now)
  begins_anew first above none some no_former no_flight = record {
    in_order = was.in_order;
    alone = was.alone;
    line = λ key x p. ⊎_elim (λ c. inl (committed key _ c)) (λ c. absurd (not_changed key _ c)) (was.line key x p);
    going = λ member o is. let old = was.going member o is in record { is_member = old.is_member; number = old.number; no_group = refl; names = old.names; only = old.only; alone = old.alone; entry = old.entry };
    journal = record {
      header = λ x p. ⊎_elim (λ h. inr (now.journal, refl, h)) (λ f. let bad : None ≡ Some f.0 = sym no_former ∙ f.1 in absurd (cc)) (was.journal.header x p);
      groups = record { whole = tt; stand = λ i what x got. let bad : None ≡ Some what = got in absurd (cc) };
      commits = λ slot x part le p stands line. inl (let low : part.number < next_number now.journal = low slot x part le p stands line in omega (arith, low, above));
    };
    former = λ j is. subst (λ (k : Journal). FormerFacts P (begun_anew first now) k) (some_same _ _ is) (record { empty = refl; no_flight = no_flight; groups = was.journal.groups; commits = low; headers = none; below = was.below.group });
    flight = λ f is. let bad : None ≡ Some f = sym no_flight ∙ is in absurd (cc);
    root = λ x p. let old = was.root x p in record { root = old.root; is = old.is; limits = old.limits; state = old.state; ceiling = old.ceiling; restored = old.restored };
    pages = record { page = was.pages.page; space = was.pages.space; header = was.pages.header; owner = was.pages.owner; past = was.pages.past; class = was.pages.class };
    below = record { line = was.below.line; header = was.below.header; entry = was.below.entry; group = λ i g got. let bad : None ≡ Some g = got in absurd (cc); going = was.below.going };
  }
    where
      some_same : {A : Type 0} (a b : A) → Some a ≡ Some b → a ≡ b
      some_same a b same = cc

      low : (slot : ℕ) (x : List ℕ) (part : AijPart) → 1 ≤ slot → P aij_file slot x → what_stands x ≡ Some part → part.line ≡ None → part.number < next_number now.journal
      low slot x part le p stands line = ⊎_elim (λ lt. lt) (λ fly. let bad : None ≡ Some fly.flight = sym no_flight ∙ fly.is in absurd (cc)) (was.journal.commits slot x part le p stands line)

      committed : (key : Dbkey) (line : Line) → IsCommitted P now key line → IsCommitted P (begun_anew first now) key line
      committed key line c = record { shows = c.shows; ended = λ member h is le p n. absurd (let zero_is : named h ≡ 0 = none member h is p in omega (arith, le, n, zero_is)); not_open = c.not_open }

      not_changed : (key : Dbkey) (line : Line) → IsChanged P now key line → ⊥
      not_changed key line c =
          let o = was.going c.member c.transaction c.is_open in
          let within : c.index < length c.transaction.entries = slice_get_within c.transaction.entries c.index _ c.entry in
          let header = some c.member o.is_member in
          let names : named header.0 ≡ c.transaction.tsn.number = o.names header.0 (omega (arith, within)) header.1 in
          let zero_is : named header.0 ≡ 0 = none c.member header.0 o.is_member header.1 in
          let number : 1 ≤ c.transaction.tsn.number = o.number in
          omega (arith, names, zero_is, number)

  -- behind the barrier
  pub settles : ((x : List ℕ) → P aij_file 0 x → IsHeader x now.journal.first) → Facts P (settled now)
  settles header = record {
    in_order = was.in_order;
    alone = was.alone;
    line = λ key x p. ⊎_elim (λ c. inl (record { shows = c.shows; ended = c.ended; not_open = c.not_open })) (λ c. inr (record { member = c.member; transaction = c.transaction; is_open = c.is_open; tsn = c.tsn; index = c.index; before = c.before; entry = c.entry; committed = record { shows = c.committed.shows; ended = c.committed.ended; not_open = c.committed.not_open }; below = c.below; one = c.one })) (was.line key x p);
    going = λ member o is. let old = was.going member o is in record { is_member = old.is_member; number = old.number; no_group = old.no_group; names = old.names; only = old.only; alone = old.alone; entry = old.entry };
    journal = record { header = λ x p. inl (header x p); groups = was.journal.groups; commits = λ slot x part le p stands line. ⊎_elim (λ lt. inl lt) (λ fly. inr (record { flight = fly.flight; is = fly.is; in_place = fly.in_place; is_commit = fly.is_commit })) (was.journal.commits slot x part le p stands line) };
    former = λ j is. let bad : None ≡ Some j = is in absurd (cc);
    flight = λ f is. let old = was.flight f is in record { transaction = old.transaction; is_open = old.is_open; tsn = old.tsn; whole = old.whole; stand = old.stand; changed = old.changed; landed = old.landed; class = old.class };
    root = λ x p. let old = was.root x p in record { root = old.root; is = old.is; limits = old.limits; state = old.state; ceiling = old.ceiling; restored = old.restored };
    pages = record { page = was.pages.page; space = was.pages.space; header = was.pages.header; owner = was.pages.owner; past = was.pages.past; class = was.pages.class };
    below = record { line = was.below.line; header = was.below.header; entry = was.below.entry; group = was.below.group; going = was.below.going };
  }

-- the new header is written
pub journal_begun : (P Q : PendingContents) (now : Progress) (bytes : List ℕ) → More Q P aij_file 0 bytes → IsHeader bytes now.journal.first → Facts P now → Facts Q now
journal_begun P Q now bytes more new was = with_journal P Q now 0 bytes more was (record {
  header = λ x q. ⊎_elim (λ p. was.journal.header x p) (λ here. inl (subst (λ (z : List ℕ). IsHeader z now.journal.first) (sym here.2) new)) (more _ _ x q);
  groups = groups now.journal was.journal.groups;
  commits = λ slot x part le q stands line. was.journal.commits slot x part le (behind slot x le q) stands line;
}) (λ j is. let old = was.former j is in record { empty = old.empty; no_flight = old.no_flight; groups = groups j old.groups; commits = λ slot x part le q stands line. old.commits slot x part le (behind slot x le q) stands line; headers = λ member h is q. old.headers member h is (ruj member h q); below = old.below })
    (λ f is. let old = was.flight f is in record { transaction = old.transaction; is_open = old.is_open; tsn = old.tsn; whole = old.whole; stand = λ i what x lt got q. old.stand i what x lt got (behind _ x (omega arith) q); changed = old.changed; landed = λ i line x got q. old.landed i line x got (page _ _ x q); class = λ key b x got q. old.class key b x got (page _ _ x q) })
  where
    behind : (slot : ℕ) (x : List ℕ) → 1 ≤ slot → Q aij_file slot x → P aij_file slot x
    behind slot x le q = ⊎_elim (λ p. p) (λ here. absurd (let at : slot ≡ 0 = here.1 in omega (arith, le, at))) (more _ _ x q)

    groups : (j : Journal) → GroupsStand P j → GroupsStand Q j
    groups j old = record { whole = old.whole; stand = λ i what x got q. old.stand i what x got (behind (i + 1) x (omega arith) q) }

    ruj : (member : ℕ) (h : List ℕ) → Q (ruj_file member) 0 h → P (ruj_file member) 0 h
    ruj = no_header P Q aij_file 0 bytes more (λ k at. let bad : Aij ≡ Ruj = k in cc)

    page : (number slot : ℕ) (x : List ℕ) → Q (area_file number) slot x → P (area_file number) slot x
    page = no_page P Q aij_file 0 bytes more (λ k. let bad : Aij ≡ Area = k in cc)
