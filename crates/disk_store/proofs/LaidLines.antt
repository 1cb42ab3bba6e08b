-- A memory stays sound behind writes that are laid over a session's lines.
use Rattle.std.proofs.Common.{◌≡◌, ◌<◌, ◌+◌, ◌^◌, ◌==◌, ◌||◌, ℕ, suc, Bool, true, false, if◌then◌else◌, List, [], ◌∷◌, drop, length, Option, Some, None, ◌⊎◌, inl, inr, refl, sym, ap, subst, ◌∙◌, arith}
use Rattle.std.specs.Prelude.{slice_get, option_map}
use Rattle.std.specs.Ordering.{is_eq}
use Rattle.std.specs.FinMap.Entries.{find}
use Rattle.std.proofs.lemmas.Bool.{false≢true, eqb-true}
use Rattle.std.proofs.lemmas.Option.{same_Some, none-some}
use Rattle.rdb_types.specs.declared.keys.Dbkey.{Dbkey}
use Rattle.rdb_types.specs.declared.keys.Line.{Line}
use Rattle.rdb_types.specs.declared.keys.Tsn.{Tsn}
use Rattle.rdb_types.specs.Order.{dbkey_order}
use Rattle.rdb_types.specs.OrderLaws.{same_dbkey}
use Rattle.line_view.specs.declared.writes.Write.{Write}
use Rattle.line_store.specs.Seats.{is_written}
use Rattle.reader_lines.specs.version_writing.Tables.{table_of}
use Rattle.reader_lines.specs.version_writing.declared.snapshot_slots.Wanted.{Wanted}
use Rattle.reader_lines.specs.version_writing.declared.snapshot_slots.SnapshotSlots.{SnapshotSlots}
use Rattle.member_memory.specs.Memory.{Memory, AreKeysOf}
use Rattle.member_memory.specs.Changes.{blank, rewritten}
use Rattle.member_memory.proofs.Growing.{tied, grown-found, grown-kept}
use Rattle.member_memory.proofs.Rewriting.{rewritten_if, rewritten_by, found-rewritten, rewritten-kept, kept-by}
use Rattle.disk_store.specs.declared.member.Member.{Member}
use Rattle.disk_store.specs.declared.held.Tables.{Tables}
use Rattle.disk_store.specs.Memory.{StoreMemory, with_member}
use Rattle.disk_store.specs.Sound.{LiesIn, IsSoundMember, HasSlotsFor, wanted_in, IsSound}
use Rattle.disk_store.specs.Changing.{HasPlace, IsFreeFor, AreFit, LaysOver, with_asides, changing_with}
use Rattle.disk_store.proofs.Members.{set-either}
use Rattle.disk_store.proofs.Sound.{sum-set}

-- ---- lines lie where writes have a place

lies-blank : (tables : Tables) (tsn : Tsn) (w : Write) → HasPlace tables w → LiesIn tables w.key (blank tsn)
lies-blank tables tsn w has = record { place = has.place; is = has.is; is_line = has.is_line; allowed = record { class = has.class; image = omega arith; leaves = refl } }

lies-image : (tables : Tables) (key : Dbkey) (image : Option (List ℕ)) (line : Line) → HasPlace tables (record { key = key; image = image }) → LiesIn tables key (rewritten image line)
lies-image tables key None line has = record { place = has.place; is = has.is; is_line = has.is_line; allowed = record { class = has.class; image = omega arith; leaves = refl } }
lies-image tables key (Some image) line has = record { place = has.place; is = has.is; is_line = has.is_line; allowed = record { class = has.class; image = has.fits; leaves = tt } }

abbrev AllPlaced : Tables → List Write → Type 0
AllPlaced tables ws = (i : ℕ) (w : Write) → slice_get ws i ≡ Some w → HasPlace tables w

lies-rewritten : (tables : Tables) (q : Dbkey) (ws : List Write) (line : Line) → AllPlaced tables ws → LiesIn tables q line → LiesIn tables q (rewritten_by q ws line)
lies-rewritten tables q [] line placed lies = lies
lies-rewritten tables q (w ∷ ws) line placed lies = lies-rewritten tables q ws (rewritten_if (is_eq (dbkey_order q w.key)) w.image line) (λ i x at. placed (suc i) x at) (by (is_eq (dbkey_order q w.key)) refl)
  where
    by : (b : Bool) → is_eq (dbkey_order q w.key) ≡ b → LiesIn tables q (rewritten_if b w.image line)
    by true tie = subst (λ (k : Dbkey). LiesIn tables k (rewritten w.image line)) (sym (same_dbkey q w.key (tied _ tie))) (lies-image tables w.key w.image line (placed 0 w refl))
    by false off = lies

-- the place of a key that is written
lies-written : (tables : Tables) (tsn : Tsn) (q : Dbkey) (ws : List Write) → AllPlaced tables ws → is_written q ws ≡ true → LiesIn tables q (blank tsn)
lies-written tables tsn q [] placed written = absurd (false≢true written)
lies-written tables tsn q (w ∷ ws) placed written = by (λ it. lies-written tables tsn q ws (λ i x at. placed (suc i) x at) it) (is_eq (dbkey_order q w.key)) refl
  where
    by : (is_written q ws ≡ true → LiesIn tables q (blank tsn)) → (b : Bool) → is_eq (dbkey_order q w.key) ≡ b → LiesIn tables q (blank tsn)
    by behind true tie = subst (λ (k : Dbkey). LiesIn tables k (blank tsn)) (sym (same_dbkey q w.key (tied _ tie))) (lies-blank tables tsn w (placed 0 w refl))
    by behind false off = behind (ap (λ b. b || is_written q ws) (sym off) ∙ written)

-- nobody else has written a line that is free for each write of it
free-written : (s : ℕ) (members : List Member) (q : Dbkey) (ws : List Write) → ((i : ℕ) (w : Write) → slice_get ws i ≡ Some w → IsFreeFor s members w.key) → is_written q ws ≡ true → IsFreeFor s members q
free-written s members q [] free written = absurd (false≢true written)
free-written s members q (w ∷ ws) free written = by (λ it. free-written s members q ws (λ i x at. free (suc i) x at) it) (is_eq (dbkey_order q w.key)) refl
  where
    by : (is_written q ws ≡ true → IsFreeFor s members q) → (b : Bool) → is_eq (dbkey_order q w.key) ≡ b → IsFreeFor s members q
    by behind true tie = subst (IsFreeFor s members) (sym (same_dbkey q w.key (tied _ tie))) (free 0 w refl)
    by behind false off = behind (ap (λ b. b || is_written q ws) (sym off) ∙ written)

-- ---- the session's lines

rewritten-some : (q : Dbkey) (ws : List Write) (x : Option Line) (line : Line) → option_map (rewritten_by q ws) x ≡ Some line → (before : Line) × (x ≡ Some before) × (rewritten_by q ws before ≡ line)
rewritten-some q ws None line is = absurd (none-some line is)
rewritten-some q ws (Some before) line is = (before, refl, same_Some _ _ is)

module _ (h : StoreMemory) (s : ℕ) (m : Member) (more : List Write) (written : Memory) (was : slice_get h.members s ≡ Some m) (sound : IsSound h) (fit : AreFit s h.tables h.members more) (lays : LaysOver m.tsn more m.written written) where
  abbrev mid : Memory
  mid = lays.mid

  -- a line is one of those before, or of a write
  laid-from : (q : Dbkey) (line : Line) → find dbkey_order q written.lines ≡ Some line → (before : Line) × (rewritten_by q more before ≡ line) × ((find dbkey_order q m.written.lines ≡ Some before) ⊎ ((before ≡ blank m.tsn) × (is_written q more ≡ true)))
  laid-from q line is =
      let at = rewritten-some q more (find dbkey_order q mid.lines) line (sym (found-rewritten q more mid.lines) ∙ ap (λ w. find dbkey_order q w.lines) (sym lays.is) ∙ is) in (
        at.0,
        at.2,
        elim (grown-found m.tsn more m.written mid q lays.adding.grows) [
          | inl same ↦ inl (sym same ∙ at.1)
          | inr new ↦ inr (same_Some _ _ (sym at.1 ∙ new.1), new.2)
        ],
      )

  pub laid-member : (wanted : Wanted) → HasSlotsFor h.tables wanted (drop (length m.written.keys) written.keys) → IsSoundMember h.tables (changing_with written wanted m)
  laid-member wanted enough =
      let its = sound.each s m was in
      record {
        first = its.first;
        last = its.last;
        keys = subst (λ w. AreKeysOf w.lines w.keys) (sym lays.is) (rewritten-kept more mid.lines mid.keys (grown-kept m.tsn more m.written mid lays.adding.grows its.keys));
        few = subst (λ w. length w.keys < 2 ^ 32) (sym lays.is) lays.few;
        bears = λ q line is. let from = laid-from q line is in ap (λ (l : Line). l.tsn) (sym from.1) ∙ (kept-by q more from.0).0 ∙ elim from.2 [
          | inl old ↦ its.bears q from.0 old
          | inr new ↦ ap (λ (l : Line). l.tsn) new.0
        ];
        lies = λ q line is. lies-now q line (laid-from q line is);
        slots = enough;
      }
    where
      placed : AllPlaced h.tables more
      placed i w at = (fit i w at).placed

      lies-now : (q : Dbkey) (line : Line) → (before : Line) × (rewritten_by q more before ≡ line) × ((find dbkey_order q m.written.lines ≡ Some before) ⊎ ((before ≡ blank m.tsn) × (is_written q more ≡ true))) → LiesIn h.tables q line
      lies-now q line from = subst (LiesIn h.tables q) from.1 (lies-rewritten h.tables q more from.0 placed (elim from.2 [
        | inl old ↦ (sound.each s m was).lies q from.0 old
        | inr new ↦ subst (LiesIn h.tables q) (sym new.0) (lies-written h.tables m.tsn q more placed new.1)
      ]))

  -- nobody else has one of them
  laid-apart : (t : ℕ) (n : Member) (q : Dbkey) (a b : Line) → slice_get h.members t ≡ Some n → find dbkey_order q written.lines ≡ Some a → find dbkey_order q n.written.lines ≡ Some b → s ≡ t
  laid-apart t n q a b at has too = by (t == s) refl
    where
      by : (x : Bool) → (t == s) ≡ x → s ≡ t
      by true same = sym (eqb-true t s same)
      by false off = let from = laid-from q a has in elim from.2 [
        | inl old ↦ sound.apart s t m n q from.0 b was at old too
        | inr new ↦ absurd (free-written s h.members q more (λ i w k. (fit i w k).free) new.1 t n b off at too)
      ]

  -- ---- slots

  aside-more : (wanted : Wanted) (slots : SnapshotSlots) (file : ℕ) → (table_of (with_asides wanted slots) file).aside ≡ (table_of slots file).aside + wanted_in file wanted
  aside-more wanted slots file = by (file == 1) (file == 2)
    where
      by : (a b : Bool) → (if a then (with_asides wanted slots).catalog else (if b then (with_asides wanted slots).relations else (with_asides wanted slots).indexes)).aside
          ≡ (if a then slots.catalog else (if b then slots.relations else slots.indexes)).aside + (if a then wanted.catalog else (if b then wanted.relations else wanted.indexes))
      by true b = refl
      by false true = refl
      by false false = refl

  pub laid-sound : (wanted : Wanted) → HasSlotsFor h.tables wanted (drop (length m.written.keys) written.keys) → IsSound (record (with_member s (changing_with written wanted m) h) { slots = with_asides wanted h.slots })
  laid-sound wanted enough =
      let n : Member = changing_with written wanted m in
      record {
        first = sound.first;
        last = sound.last;
        allowed = sound.allowed;
        each = λ t x at. elim (set-either h.members s t n x at) [
          | inl here ↦ subst (IsSoundMember h.tables) (sym here.1) (laid-member wanted enough)
          | inr off ↦ sound.each t x off
        ];
        apart = λ t u a b q x y at also has too. elim (set-either h.members s t n a at) [
          | inl here ↦ elim (set-either h.members s u n b also) [
            | inl there ↦ here.0 ∙ sym there.0
            | inr away ↦ here.0 ∙ laid-apart u b q x y away (ap (λ (k : Member). find dbkey_order q k.written.lines) (sym here.1) ∙ has) too
          ]
          | inr off ↦ elim (set-either h.members s u n b also) [
            | inl there ↦ sym (there.0 ∙ laid-apart t a q y x off (ap (λ (k : Member). find dbkey_order q k.written.lines) (sym there.1) ∙ too) has)
            | inr away ↦ sound.apart t u a b q x y off away has too
          ]
        ];
        asides = λ file is.
            let sum = sum-set (λ (x : Member). wanted_in file x.aside) h.members s m n was in
            let all = sound.asides file is in
            let new = aside-more wanted h.slots file in
            omega (arith, sum, all, new);
      }
