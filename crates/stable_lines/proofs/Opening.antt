-- Behind a barrier, what opening finds in a kept image makes the facts.
use Rattle.std.proofs.Common.{◌≡◌, ℕ, ◌+◌, ◌≤◌, ◌<◌, Bool, true, false, List, [], ◌∷◌, ◌++◌, length, Option, Some, None, slice_get, get_or, ◌⊎◌, inl, inr, ⊎_elim, refl, sym, ◌∙◌, ap, subst, arith}
use Rattle.std.proofs.lemmas.Option.{slice_get_cases}
use Rattle.rdb_types.specs.declared.keys.Dbkey.{Dbkey}
use Rattle.rdb_types.specs.declared.keys.Tsn.{Tsn}
use Rattle.rdb_types.specs.declared.keys.Line.{Line}
use Rattle.journal_reading.specs.rdb_outside.Disk.{Image}
use Rattle.new_database.specs.root_file.Root.{IsRoot}
use Rattle.space_pages.specs.Space.{IsSpace, owner_of}
use Rattle.ruj_journal.specs.declared.entry.RujEntry.{RujEntry}
use Rattle.ruj_journal.specs.Entry.{IsEntry}
use Rattle.ruj_journal.proofs.Readings.{one_entry}
use Rattle.new_database.specs.aij_journal.Header.{IsHeader}
use Rattle.journal_reading.specs.journal_scan.Standing.{what_stands}
use Rattle.line_view.specs.Knowledge.{Lines, line_in}
use Rattle.new_database.specs.Maker.{root_file}
use Rattle.line_versions.specs.Lines.{shown}
use Rattle.stable_lines.specs.Slots.{ruj_file, owner_at, line_on, line_at, named, Undo, entry_at}
use Rattle.stable_lines.specs.Journal.{Journal, has_group}
use Rattle.stable_lines.specs.Image.{IsEnded, IsOpenAt, HasEntries, IsBefore, HasNoBefore, LineIs, as_it_stands, put_back, not_found}
use Rattle.ruj_journal.specs.rdb_page.Whole.{IsPageOf}
use Rattle.stable_lines.specs.Kept.{Kept, IsRujHeader, FitsClass, IsUndone}
use Rattle.stable_lines.specs.Progress.{Open, Progress}
use Rattle.stable_lines.specs.Facts.{PendingContents, Only, IsNotOpen, IsCommitted, IsChanged, OpenFacts, RootStands, PageFacts, BelowFacts, Facts}
use Rattle.stable_lines.specs.Opening.{AreEntries, IsFoundOpen, IsFound, found}
use Rattle.stable_lines.proofs.Lists.{got_either, got_right, got_one}

not_both : (b : Bool) → b ≡ true → b ≡ false → ⊥
not_both b is isnt = let bad : true ≡ false = sym is ∙ isnt in cc

tsn_same : (a b : Tsn) → a.number ≡ b.number → a ≡ b
tsn_same a b same = ap (λ (n : ℕ). let t : Tsn = record { number = n } in t) same

undo_same : (tsn : Tsn) (n : ℕ) (a b : Undo) → entry_at tsn n a ≡ entry_at tsn n b → a ≡ b
undo_same tsn n a b same = ap (λ (e : RujEntry). let u : Undo = record { key = e.key; before = e.before } in u) same

-- an entry behind others that stand is one of those that were found, in its place
found_entry : (image : Image) (member : ℕ) (tsn : Tsn) (undos earlier : List Undo) (undo : Undo) → AreEntries image member tsn undos → HasEntries image member tsn earlier → IsEntry (image (ruj_file member) (length earlier + 1)) (entry_at tsn (length earlier + 1) undo) → slice_get undos (length earlier) ≡ Some undo
found_entry image member tsn undos earlier undo are stand here = ⊎_elim within past (slice_get_cases undos (length earlier)).1
  where
    within : ((v : Undo) × (length earlier < length undos) × (slice_get undos (length earlier) ≡ Some v) × (get_or undos (length earlier) v ≡ v)) → slice_get undos (length earlier) ≡ Some undo
    within w = w.2 ∙ ap Some (undo_same tsn (length earlier + 1) w.0 undo (one_entry _ _ _ (are.stand (length earlier) w.0 w.2) here))

    past : (length undos ≤ length earlier) × (slice_get undos (length earlier) ≡ None) → slice_get undos (length earlier) ≡ Some undo
    past p = absurd (⊎_elim before at (cases (length undos) (length earlier) p.0))
      where
        cases : (a b : ℕ) → a ≤ b → (a < b) ⊎ (a ≡ b)
        cases a b le = grind arith

        before : length undos < length earlier → ⊥
        before lt = ⊎_elim (λ w. are.ends (entry_at tsn (length undos + 1) w.0) (stand (length undos) w.0 w.2) refl refl) (λ none. let over : length earlier ≤ length undos = none.0 in omega (arith, lt, over)) (slice_get_cases earlier (length undos)).1

        at : length undos ≡ length earlier → ⊥
        at same = are.ends (entry_at tsn (length undos + 1) undo) (subst (λ n. IsEntry (image (ruj_file member) (n + 1)) (entry_at tsn (n + 1) undo)) (sym same) here) refl refl

module _ (P : PendingContents) (classes : ℕ → ℕ) (lines : Lines) (j : Journal) (image : Image) (kept : Kept classes lines j image) (only : Only P image) (going : ℕ → Option Open) (are : (member : ℕ) → IsFound image j.groups member (going member)) where
  abbrev now : Progress
  now = found classes lines j kept.root going

  found_open : (member : ℕ) (o : Open) → going member ≡ Some o → IsFoundOpen image j.groups member o
  found_open member o is = subst (λ (p : Option Open). IsFound image j.groups member p) is (are member)

  -- what a transaction that has ended is not
  not_open : (tsn : ℕ) → IsEnded image j.groups tsn → IsNotOpen now tsn
  not_open tsn ended member o is same = let f = found_open member o is in not_both _ (ap (λ n. has_group n j.groups) (sym same) ∙ ended member f.is_member (subst (λ (n : ℕ). 1 ≤ n) (sym same) f.number) (f.names ∙ sym same)) f.no_group

  committed : (key : Dbkey) (line : Line) → shown line ≡ line_in key lines → IsEnded image j.groups line.tsn.number → IsCommitted P now key line
  committed key line shows ended = record { shows = shows; ended = λ member h is le p n. ended member is le (ap named (sym (only _ _ h p)) ∙ n); not_open = not_open line.tsn.number ended }

  module _ (key : Dbkey) (member : ℕ) (o_is : IsOpenAt image j.groups (line_at image key).tsn.number member) where
    undone : IsUndone image j.groups kept.root.ceiling key member
    undone = kept.undone key member (record { is_member = o_is.is_member; number = o_is.number; names = o_is.names; no_group = o_is.no_group })

    open_there : (o : Option Open) → going member ≡ o → (p : Open) × (going member ≡ Some p) × IsFoundOpen image j.groups member p
    open_there None is = absurd (not_both _ ((subst (λ (p : Option Open). IsFound image j.groups member p) is (are member)) o_is.is_member (subst (λ (n : ℕ). 1 ≤ n) (sym o_is.names) o_is.number)) (ap (λ n. has_group n j.groups) o_is.names ∙ o_is.no_group))
    open_there (Some p) is = (p, is, found_open member p is)

    -- both are the entry of the line
    same_before : (line : Line) → IsBefore image member (line_at image key).tsn key line → undone.before ≡ line
    same_before line b =
        let at : length undone.is.earlier + 1 ≡ length b.earlier + 1 = undone.one (length undone.is.earlier + 1) (length b.earlier + 1) _ _ (omega arith) (omega arith) undone.is.here b.here (record { same_tsn = refl; same_key = refl }) (record { same_tsn = refl; same_key = refl }) in
        let there : IsEntry (image (ruj_file member) (length b.earlier + 1)) (entry_at (line_at image key).tsn (length b.earlier + 1) (record { key = key; before = undone.before })) = subst (λ n. IsEntry (image (ruj_file member) n) (entry_at (line_at image key).tsn n (record { key = key; before = undone.before }))) at undone.is.here in
        ap (λ (e : RujEntry). e.before) (one_entry _ _ _ there b.here)

    changed : (line : Line) → IsBefore image member (line_at image key).tsn key line → shown line ≡ line_in key lines → IsChanged P now key (line_at image key)
    changed line b shows =
        let there = open_there (going member) refl in
        let tsn : (line_at image key).tsn ≡ there.0.tsn = tsn_same _ _ (sym o_is.names ∙ there.2.names) in
        let here : IsBefore image member there.0.tsn key line = subst (λ (t : Tsn). IsBefore image member t key line) tsn b in
        let number : (line_at image key).tsn.number ≡ there.0.tsn.number = ap (λ (t : Tsn). t.number) tsn in
        record {
          member = member;
          transaction = there.0;
          is_open = there.1;
          tsn = tsn;
          index = length here.earlier;
          before = line;
          entry = found_entry image member there.0.tsn there.0.entries here.earlier (record { key = key; before = line }) there.2.entries here.stand here.here;
          committed = committed key line shows (subst (λ (l : Line). IsEnded image j.groups l.tsn.number) (same_before line b) undone.ended);
          below = subst (λ (l : Line). l.tsn.number < kept.root.ceiling) (same_before line b) undone.below;
          one = λ i k x y a c li lk p q ra rc ofa ofc. undone.one i k a c li lk (subst (λ (z : List ℕ). IsEntry z a) (only _ _ x p) ra) (subst (λ (z : List ℕ). IsEntry z c) (only _ _ y q) rc) (record { same_tsn = ofa.same_tsn ∙ sym number; same_key = ofa.same_key }) (record { same_tsn = ofc.same_tsn ∙ sym number; same_key = ofc.same_key });
        }

    never_lost : HasNoBefore image member (line_at image key).tsn key → ⊥
    never_lost none =
        let this : Undo = record { key = key; before = undone.before } in
        none (undone.is.earlier ++ record { key = key; before = undone.before } ∷ []) stand (length undone.is.earlier + 0) (record { key = key; before = undone.before }) (got_right undone.is.earlier (record { key = key; before = undone.before } ∷ []) 0 (record { key = key; before = undone.before }) refl) refl
      where
        stand : HasEntries image member (line_at image key).tsn (undone.is.earlier ++ record { key = key; before = undone.before } ∷ [])
        stand i u got = ⊎_elim (λ front. undone.is.stand i u front) (λ last. at last.0 last.1 (got_one _ u last.0 last.2)) (got_either undone.is.earlier (record { key = key; before = undone.before } ∷ []) i u got)
          where
            at : (k : ℕ) → i ≡ length undone.is.earlier + k → (k ≡ 0) × (record { key = key; before = undone.before } ≡ u) → IsEntry (image (ruj_file member) (i + 1)) (entry_at (line_at image key).tsn (i + 1) u)
            at k place last =
                let here : length undone.is.earlier + 1 ≡ i + 1 = (let none_more : k ≡ 0 = last.0 in omega (arith, place, none_more)) in
                subst (λ n. IsEntry (image (ruj_file member) n) (entry_at (line_at image key).tsn n u)) here (subst (λ (v : Undo). IsEntry (image (ruj_file member) (length undone.is.earlier + 1)) (entry_at (line_at image key).tsn (length undone.is.earlier + 1) v)) last.1 undone.is.here)

  line : (key : Dbkey) → IsCommitted P now key (line_at image key) ⊎ IsChanged P now key (line_at image key)
  line key = by (kept.stands.each key).line (kept.stands.each key).is (kept.stands.each key).shows
    where
      by : (l : Line) → LineIs image j.groups key l → shown l ≡ line_in key lines → IsCommitted P now key (line_at image key) ⊎ IsChanged P now key (line_at image key)
      by l (as_it_stands ended same) shows = inl (committed key (line_at image key) (ap shown (sym same) ∙ shows) ended)
      by l (put_back member o_is before) shows = inr (changed key member o_is l before shows)
      by l (not_found member o_is none same) shows = absurd (never_lost key member o_is none)

  opened : (member : ℕ) (o : Open) → going member ≡ Some o → OpenFacts P now member o
  opened member o is =
      let f = found_open member o is in
      let some : 1 ≤ named (image (ruj_file member) 0) = subst (λ (n : ℕ). 1 ≤ n) (sym f.names) f.number in
      record {
        is_member = f.is_member;
        number = f.number;
        no_group = f.no_group;
        names = λ h le p. ap named (only _ _ h p) ∙ f.names;
        only = λ other h other_is p n. sym (kept.alone member other f.is_member other_is some (f.names ∙ sym n ∙ ap named (only _ _ h p)));
        alone = λ other p other_is n. let g = found_open other p other_is in sym (kept.alone member other f.is_member g.is_member some (f.names ∙ sym n ∙ sym g.names));
        entry = λ i undo x got p. subst (λ (z : List ℕ). IsEntry z (entry_at o.tsn (i + 1) undo)) (sym (only _ _ x p)) (f.entries.stand i undo got);
      }

  root : (x : List ℕ) → P root_file 0 x → RootStands P now x
  root x p = record {
    root = kept.root;
    is = subst (λ (z : List ℕ). IsRoot z kept.root) (sym (only _ _ x p)) kept.is_root.is;
    limits = refl;
    state = kept.is_root.state;
    ceiling = omega arith;
    restored = λ three member h is q. ap named (only _ _ h q) ∙ kept.is_root.restored three member is;
  }

  pages : PageFacts P now
  pages =
      let well = kept.well_formed in
      record {
        page = λ file number x is plain p. subst (λ (z : List ℕ). IsPageOf file number z) (sym (only _ _ x p)) (well.page file number is plain);
        space = λ file number x is page space p. subst (λ (z : List ℕ). IsSpace z number) (sym (only _ _ x p)) (well.space file number is page space);
        header = λ member x is p. subst (λ (z : List ℕ). IsRujHeader z) (sym (only _ _ x p)) (well.header member is);
        owner = λ file number x y is plain p owned q. ap (λ z. owner_of number z) (only _ _ y q) ∙ well.owner file number is plain (subst (λ (z : List ℕ). 1 ≤ owner_at z) (only _ _ x p) owned) ∙ ap owner_at (sym (only _ _ x p));
        past = λ file slot x is le lt p. only _ _ x p ∙ well.past file slot is le lt;
        class = λ key b x got p. subst (λ (z : List ℕ). FitsClass z (classes key.area) b) (sym (only _ _ x p)) (kept.class key b got);
      }

  below : BelowFacts P now
  below = record {
    line = λ key x p. subst (λ (z : List ℕ). (line_on key z).tsn.number < kept.root.ceiling) (sym (only _ _ x p)) (kept.below.line key);
    header = λ member h is p. subst (λ (z : List ℕ). named z < kept.root.ceiling) (sym (only _ _ h p)) (kept.below.header member is);
    entry = λ member slot x e is le p read. kept.below.entry member slot e is le (subst (λ (z : List ℕ). IsEntry z e) (only _ _ x p) read);
    group = kept.below.group;
    going = λ member o is. let f = found_open member o is in subst (λ (n : ℕ). n < kept.root.ceiling) f.names (kept.below.header member f.is_member);
  }

  pub opens : Facts P (found classes lines j kept.root going)
  opens = record {
    in_order = kept.stands.in_order;
    line = λ key x p. subst (λ (z : List ℕ). IsCommitted P now key (line_on key z) ⊎ IsChanged P now key (line_on key z)) (sym (only _ _ x p)) (line key);
    going = opened;
    alone = λ a b h k ia ib p q le same. kept.alone a b ia ib (subst (λ (z : List ℕ). 1 ≤ named z) (only _ _ h p) le) (ap named (sym (only _ _ h p)) ∙ same ∙ ap named (only _ _ k q));
    journal = record {
      header = λ x p. inl (subst (λ (z : List ℕ). IsHeader z j.first) (sym (only _ _ x p)) kept.journal.header);
      groups = record { whole = kept.journal.whole; stand = λ i what x got p. ap what_stands (only _ _ x p) ∙ kept.journal.stand i what got };
      commits = λ slot x part le p stands none. inl (kept.commits slot part le (ap what_stands (sym (only _ _ x p)) ∙ stands) none);
    };
    former = λ former is. let bad : None ≡ Some former = is in absurd (cc);
    flight = λ f is. let bad : None ≡ Some f = is in absurd (cc);
    root = root;
    pages = pages;
    below = below;
  }
