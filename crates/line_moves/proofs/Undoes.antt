-- The line of an entry that bears its transaction may be put back.
use Rattle.std.proofs.Common.{◌≡◌, ◌≢◌, ℕ, ◌+◌, ◌-◌, ◌≤◌, ◌<◌, List, length, Some, slice_get, inl, ⊎_elim, ap, sym, subst, ◌∙◌, arith, refl}
use Rattle.rdb_types.specs.declared.keys.Dbkey.{Dbkey}
use Rattle.rdb_types.specs.declared.keys.Line.{Line}
use Rattle.rdb_types.specs.declared.keys.LineState.{LineState}
use Rattle.rdb_types.specs.declared.keys.LineState.TheVariants.{Never, Present, Erased}
use Rattle.line_store.specs.rdb_page.Lines.{Agrees}
use Rattle.line_store.specs.rdb_page.Page.{class_at}
use Rattle.line_store.specs.line_view.Knowledge.{line_in}
use Rattle.stable_lines.specs.line_versions.Lines.{shown, shown_as}
use Rattle.rdb_types.specs.declared.keys.Tsn.{Tsn}
use Rattle.stable_lines.specs.ruj_journal.declared.entry.RujEntry.{RujEntry}
use Rattle.stable_lines.specs.ruj_journal.Entry.{IsEntry}
use Rattle.stable_lines.proofs.of_ruj_journal.Readings.{one_entry}
use Rattle.stable_lines.specs.Slots.{ruj_file, line_on, Undo, entry_at}
use Rattle.stable_lines.specs.Progress.{Open, Flight, Progress}
use Rattle.stable_lines.specs.Facts.{PendingContents, OnPage, IsNotOpen, IsCommitted, IsChanged, Facts}
use Rattle.stable_lines.proofs.Turns.{some_same}
use Rattle.line_moves.specs.Contents.{IsFree}
use Rattle.line_moves.proofs.FilledPages.{some_there}
use Rattle.line_moves.proofs.Bearing.{has}
use Rattle.line_moves.specs.Changes.{MayPut, Fits}

module _ (P : PendingContents) (now : Progress) (member index : ℕ) (o : Open) (e : RujEntry) (slot y : List ℕ) (was : Facts P now) (is : now.going member ≡ Some o) (first : 1 ≤ index) (last : index ≤ length o.entries)
    (there : P (ruj_file member) index slot) (reads : IsEntry slot e) (on_page : OnPage P e.key y) (bears : (line_on e.key y).tsn.number ≡ o.tsn.number)
    (apart : (f : Flight) → now.flight ≡ Some f → f.member ≢ member) (within : e.key.page ≤ now.limits.pages) where
  got : (u : Undo) × (slice_get o.entries (index - 1) ≡ Some u)
  got = some_there o.entries (index - 1) (omega (arith, first, last))

  slot_is : index - 1 + 1 ≡ index
  slot_is = omega (arith, first)

  stands : IsEntry slot (entry_at o.tsn index got.0)
  stands = subst (λ (n : ℕ). IsEntry slot (entry_at o.tsn n got.0)) slot_is ((was.going member o is).entry (index - 1) got.0 slot got.1 (subst (λ (n : ℕ). P (ruj_file member) n slot) (sym slot_is) there))

  same : e ≡ entry_at o.tsn index got.0
  same = one_entry slot e (entry_at o.tsn index got.0) reads stands

  -- the line on the page is one that the member put there
  pub changed_by : IsChanged P now e.key (line_on e.key y)
  changed_by = ⊎_elim (λ c. absurd (c.not_open member o is bears)) (λ c. c) (was.line e.key y on_page)

  c : IsChanged P now e.key (line_on e.key y)
  c = changed_by

  by_it : changed_by.member ≡ member
  by_it = (was.going member o is).alone changed_by.member changed_by.transaction changed_by.is_open (ap (λ (t : Tsn). t.number) (sym changed_by.tsn) ∙ bears)

  its : changed_by.transaction ≡ o
  its = some_same _ _ (sym changed_by.is_open ∙ ap (λ (m : ℕ). now.going m) by_it ∙ is)

  entry : slice_get o.entries changed_by.index ≡ Some (record { key = e.key; before = changed_by.before })
  entry = subst (λ (p : Open). slice_get p.entries changed_by.index ≡ Some (record { key = e.key; before = changed_by.before })) its changed_by.entry

  -- there is one entry of the line
  in_its_slot : (x : List ℕ) → P (ruj_file member) (changed_by.index + 1) x → changed_by.index + 1 ≡ index
  in_its_slot x p =
      let other : IsEntry x (entry_at o.tsn (changed_by.index + 1) (record { key = e.key; before = changed_by.before })) = (was.going member o is).entry changed_by.index (record { key = e.key; before = changed_by.before }) x entry p in
      let p_its = subst (λ (m : ℕ). P (ruj_file m) (changed_by.index + 1) x) (sym by_it) p in
      let there_its = subst (λ (m : ℕ). P (ruj_file m) index slot) (sym by_it) there in
      let tsn : changed_by.transaction.tsn.number ≡ o.tsn.number = ap (λ (q : Open). q.tsn.number) its in
      changed_by.one (changed_by.index + 1) index x slot (entry_at o.tsn (changed_by.index + 1) (record { key = e.key; before = changed_by.before })) e (omega arith) first p_its there_its other reads
      (record { same_tsn = sym tsn; same_key = refl }) (record { same_tsn = ap (λ (a : RujEntry). a.tsn.number) same ∙ sym tsn; same_key = refl })

  before_is : changed_by.index + 1 ≡ index → changed_by.before ≡ e.before
  before_is at =
      let at_index : changed_by.index ≡ index - 1 = omega (arith, at) in
      let u : record { key = e.key; before = changed_by.before } ≡ got.0 = some_same _ _ (sym entry ∙ ap (λ (n : ℕ). slice_get o.entries n) at_index ∙ got.1) in
      ap (λ (v : Undo). v.before) u ∙ ap (λ (a : RujEntry). a.before) (sym same)

  free : IsFree now e.key
  free f flies i line has same_key =
      let facts = was.flight f flies in
      let on = subst (λ (k : Dbkey). OnPage P k y) (sym same_key) on_page in
      let landed = facts.landed i line y has on in
      let here : (line_on line.key y).tsn.number ≡ o.tsn.number = subst (λ (k : Dbkey). (line_on k y).tsn.number ≡ o.tsn.number) (sym same_key) bears in
      apart f flies ((was.going member o is).alone f.member facts.transaction facts.is_open (ap (λ (t : Tsn). t.number) (sym facts.tsn) ∙ ap (λ (t : Tsn). t.number) (sym landed.tsn) ∙ here))

  pub may_put_back : (x : List ℕ) → P (ruj_file member) (changed_by.index + 1) x → MayPut P now e.key e.before
  may_put_back x p =
      let b = before_is (in_its_slot x p) in
      record {
        sure = inl (subst (λ (l : Line). IsCommitted P now e.key l) b changed_by.committed);
        below = subst (λ (l : Line). l.tsn.number < now.next_tsn) b changed_by.below;
        free = free;
        within = within;
      }

  pub before_apart : (x : List ℕ) → P (ruj_file member) (changed_by.index + 1) x → e.before.tsn.number ≢ o.tsn.number
  before_apart x p same = changed_by.committed.not_open member o is (ap (λ (l : Line). l.tsn.number) (before_is (in_its_slot x p)) ∙ same)

  pub before_ended : (x : List ℕ) → P (ruj_file member) (changed_by.index + 1) x → IsNotOpen now e.before.tsn.number
  before_ended x p = subst (λ (l : Line). IsNotOpen now l.tsn.number) (before_is (in_its_slot x p)) changed_by.committed.not_open

  -- the before-image has its place on the page
  shows_fits : (state : LineState) (tsn chain : ℕ) (image : List ℕ) → Agrees state tsn chain image → shown_as state image ≡ line_in e.key now.lines → length image ≤ class_at y
  shows_fits Never tsn chain image agrees shows = let none : length image ≡ 0 = agrees.2 in omega (arith, none)
  shows_fits Present tsn chain image agrees shows = let f = was.pages.class e.key image y (sym shows) on_page in let fits = f.fits in let same = f.same in omega (arith, fits, same)
  shows_fits Erased tsn chain image agrees shows = let none : length image ≡ 0 = agrees in omega (arith, none)

  pub fits_back : (x : List ℕ) → P (ruj_file member) (changed_by.index + 1) x → Fits e.key e.before y
  fits_back x p = record {
    placed = has P now was e.key y on_page (let number = (was.going member o is).number in omega (arith, bears, number));
    allowed = record {
      tsn = reads.before.tsn;
      image = shows_fits e.before.state e.before.tsn.number e.before.chain e.before.image reads.before.agrees (subst (λ (l : Line). shown l ≡ line_in e.key now.lines) (before_is (in_its_slot x p)) changed_by.committed.shows);
      agrees = reads.before.agrees;
    };
  }

-- ---- what stands in the slot is the entry

pub entry_there : (P : PendingContents) (now : Progress) (member index : ℕ) (o : Open) (slot : List ℕ) (undo : Undo) → Facts P now → now.going member ≡ Some o → 1 ≤ index → slice_get o.entries (index - 1) ≡ Some undo → P (ruj_file member) index slot → IsEntry slot (entry_at o.tsn index undo)
entry_there P now member index o slot undo was is first got there =
    let at : index - 1 + 1 ≡ index = omega (arith, first) in
    subst (λ (n : ℕ). IsEntry slot (entry_at o.tsn n undo)) at ((was.going member o is).entry (index - 1) undo slot got (subst (λ (n : ℕ). P (ruj_file member) n slot) (sym at) there))

pub key_there : (slot : List ℕ) (e : RujEntry) (tsn : Tsn) (index : ℕ) (undo : Undo) → IsEntry slot e → IsEntry slot (entry_at tsn index undo) → e.key ≡ undo.key
key_there slot e tsn index undo reads stands = ap (λ (a : RujEntry). a.key) (one_entry slot e (entry_at tsn index undo) reads stands)

pub before_there : (slot : List ℕ) (e : RujEntry) (tsn : Tsn) (index : ℕ) (undo : Undo) → IsEntry slot e → IsEntry slot (entry_at tsn index undo) → e.before ≡ undo.before
before_there slot e tsn index undo reads stands = ap (λ (a : RujEntry). a.before) (one_entry slot e (entry_at tsn index undo) reads stands)
