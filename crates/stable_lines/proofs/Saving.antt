-- An entry of an open transaction stands: from now on its line may be changed.
use Rattle.std.proofs.Common.{◌≡◌, ◌≢◌, ℕ, ◌+◌, ◌<◌, List, [], ◌∷◌, ◌++◌, length, Some, slice_get, ◌⊎◌, inl, inr, ⊎_elim, sym, ◌∙◌, ap, subst, arith}
use Rattle.rdb_types.specs.declared.keys.Dbkey.{Dbkey}
use Rattle.rdb_types.specs.declared.keys.Line.{Line}
use Rattle.ruj_journal.specs.Entry.{IsEntry}
use Rattle.stable_lines.specs.Slots.{ruj_file, named, Undo, entry_at}
use Rattle.stable_lines.specs.Progress.{Open, Flight, Progress, saved}
use Rattle.stable_lines.specs.Facts.{PendingContents, IsNotOpen, IsCommitted, IsChanged, OpenFacts, Facts}
use Rattle.stable_lines.proofs.Lists.{got_either, got_left, got_one}
use Rattle.stable_lines.proofs.Turns.{some_same, IsHere, going_is, going_there}

module _ (P : PendingContents) (now : Progress) (member : ℕ) (o : Open) (undo : Undo) (is : now.going member ≡ Some o) (was : Facts P now) where
  abbrev more : Open
  more = record { tsn = o.tsn; entries = o.entries ++ undo ∷ [] }

  -- who is open is the member, or was open
  who : (s : ℕ) (p : Open) → (saved member o undo now).going s ≡ Some p → ((s ≡ member) × (p ≡ more)) ⊎ ((s ≢ member) × (now.going s ≡ Some p))
  who s p same = ⊎_elim (λ here. inl (here.at, some_same _ _ (sym same ∙ here.is))) (λ there. inr (there.apart, sym there.is ∙ same)) (going_is now member _ s)

  not_open : (tsn : ℕ) → IsNotOpen now tsn → IsNotOpen (saved member o undo now) tsn
  not_open tsn old s p same n = ⊎_elim (λ here. old member o is (n ∙ ap (λ (q : Open). q.tsn.number) here.1)) (λ there. old s p there.1 n) (who s p same)

  committed : (key : Dbkey) (line : Line) → IsCommitted P now key line → IsCommitted P (saved member o undo now) key line
  committed key line c = record { shows = c.shows; ended = c.ended; not_open = not_open line.tsn.number c.not_open }

  changed : (key : Dbkey) (line : Line) → IsChanged P now key line → IsChanged P (saved member o undo now) key line
  changed key line c = ⊎_elim (λ here. by_it (record { at = here.at; is = here.is })) (λ there. by_other there.apart) (going_is now member (Some more) c.member)
    where
      by_it : IsHere member c.member (Some more) ((saved member o undo now).going c.member) → IsChanged P (saved member o undo now) key line
      by_it here =
          let this : c.transaction ≡ o = some_same _ _ (sym c.is_open ∙ ap (λ m. now.going m) here.at ∙ is) in
          record {
            member = c.member;
            transaction = more;
            is_open = here.is;
            tsn = c.tsn ∙ ap (λ (p : Open). p.tsn) this;
            index = c.index;
            before = c.before;
            entry = got_left o.entries (undo ∷ []) c.index _ (subst (λ (p : Open). slice_get p.entries c.index ≡ Some (record { key = key; before = c.before })) this c.entry);
            committed = committed key c.before c.committed;
            below = c.below;
            one = λ i k x y a b li lk p q ra rb ofa ofb. c.one i k x y a b li lk p q ra rb (record { same_tsn = ofa.same_tsn ∙ ap (λ (t : Open). t.tsn.number) (sym this); same_key = ofa.same_key }) (record { same_tsn = ofb.same_tsn ∙ ap (λ (t : Open). t.tsn.number) (sym this); same_key = ofb.same_key });
          }

      by_other : c.member ≢ member → IsChanged P (saved member o undo now) key line
      by_other apart = record {
        member = c.member;
        transaction = c.transaction;
        is_open = going_there now member (Some more) c.member apart ∙ c.is_open;
        tsn = c.tsn;
        index = c.index;
        before = c.before;
        entry = c.entry;
        committed = committed key c.before c.committed;
        below = c.below;
        one = c.one;
      }

  alone : (s : ℕ) (tsn : ℕ) → ((other : ℕ) (p : Open) → now.going other ≡ Some p → p.tsn.number ≡ tsn → other ≡ s) → (other : ℕ) (p : Open) → (saved member o undo now).going other ≡ Some p → p.tsn.number ≡ tsn → other ≡ s
  alone s tsn old other p same n = ⊎_elim (λ here. here.0 ∙ old member o is (ap (λ (q : Open). q.tsn.number) (sym here.1) ∙ n)) (λ there. old other p there.1 n) (who other p same)

  -- The entry is the only content of its slot, and each header names the transaction. No group of the member is in flight.
  pub saves : ((x : List ℕ) → P (ruj_file member) (length o.entries + 1) x → IsEntry x (entry_at o.tsn (length o.entries + 1) undo)) → ((h : List ℕ) → P (ruj_file member) 0 h → named h ≡ o.tsn.number) → ((f : Flight) → now.flight ≡ Some f → f.member ≢ member) → Facts P (saved member o undo now)
  saves stands names apart = record {
    in_order = was.in_order;
    alone = was.alone;
    line = λ key x p. ⊎_elim (λ c. inl (committed key _ c)) (λ c. inr (changed key _ c)) (was.line key x p);
    going = λ s p same. ⊎_elim (λ here. subst (λ (q : Open). OpenFacts P (saved member o undo now) s q) (sym here.1) (subst (λ t. OpenFacts P (saved member o undo now) t more) (sym here.0) with_it)) (λ there. other s p there.1) (who s p same);
    journal = record { header = was.journal.header; groups = was.journal.groups; commits = λ slot x part le p shows none. ⊎_elim (λ lt. inl lt) (λ fly. inr (record { flight = fly.flight; is = fly.is; in_place = fly.in_place; is_commit = fly.is_commit })) (was.journal.commits slot x part le p shows none) };
    former = λ j same. let old = was.former j same in record { empty = old.empty; no_flight = old.no_flight; groups = old.groups; commits = old.commits; headers = old.headers; below = old.below };
    flight = λ f same. let old = was.flight f same in record { transaction = old.transaction; is_open = going_there now member (Some more) f.member (apart f same) ∙ old.is_open; tsn = old.tsn; whole = old.whole; stand = old.stand; changed = old.changed; landed = old.landed; class = old.class };
    root = λ x p. let old = was.root x p in record { root = old.root; is = old.is; limits = old.limits; state = old.state; ceiling = old.ceiling; restored = old.restored };
    pages = record { page = was.pages.page; space = was.pages.space; header = was.pages.header; owner = was.pages.owner; past = was.pages.past; class = was.pages.class };
    below = record {
      line = was.below.line;
      header = was.below.header;
      entry = was.below.entry;
      group = was.below.group;
      going = λ s p same. ⊎_elim (λ here. subst (λ (q : Open). q.tsn.number < now.next_tsn) (sym here.1) (was.below.going member o is)) (λ there. was.below.going s p there.1) (who s p same);
    };
  }
    where
      with_it : OpenFacts P (saved member o undo now) member more
      with_it =
          let old = was.going member o is in
          record {
            is_member = old.is_member;
            number = old.number;
            no_group = old.no_group;
            names = λ h le p. names h p;
            only = old.only;
            alone = alone member o.tsn.number old.alone;
            entry = λ i u x got p. ⊎_elim (λ front. old.entry i u x front p) (λ last. at i u x last.0 last.1 (got_one undo u last.0 last.2) p) (got_either o.entries (undo ∷ []) i u got);
          }
        where
          at : (i : ℕ) (u : Undo) (x : List ℕ) (k : ℕ) → i ≡ length o.entries + k → (k ≡ 0) × (undo ≡ u) → P (ruj_file member) (i + 1) x → IsEntry x (entry_at o.tsn (i + 1) u)
          at i u x k place last p =
              let here : length o.entries + 1 ≡ i + 1 = (let none : k ≡ 0 = last.0 in omega (arith, place, none)) in
              subst (λ n. IsEntry x (entry_at o.tsn n u)) here (subst (λ (v : Undo). IsEntry x (entry_at o.tsn (length o.entries + 1) v)) last.1 (stands x (subst (λ n. P (ruj_file member) n x) (sym here) p)))

      other : (s : ℕ) (p : Open) → now.going s ≡ Some p → OpenFacts P (saved member o undo now) s p
      other s p same = let old = was.going s p same in record { is_member = old.is_member; number = old.number; no_group = old.no_group; names = old.names; only = old.only; alone = alone s p.tsn.number old.alone; entry = old.entry }
