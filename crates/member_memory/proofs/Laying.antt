-- Writes laid over the lines in memory come to what they come to behind those before.
use Rattle.std.proofs.Common.{◌≡◌, ℕ, ◌||◌, inl, inr, Bool, true, false, cond, List, [], ◌∷◌, Option, Some, None, refl, sym, ap, ◌∙◌}
use Rattle.std.specs.Prelude.{is_some, option_map}
use Rattle.std.specs.declared.cmp.Ordering.{Ordering}
use Rattle.std.specs.declared.cmp.Ordering.TheVariants.{Less, Equal, Greater}
use Rattle.std.specs.Ordering.{is_eq, is_lt}
use Rattle.std.specs.FinMap.Entries.{find, is_sorted, below_all, is_sorted-put, is_sorted-where_key, same_entries}
use Rattle.std.proofs.lemmas.Option.{same_Some, none-some}
use Rattle.std.proofs.lemmas.Bool.{true≢false, and_parts}
use Rattle.rdb_types.specs.declared.keys.Dbkey.{Dbkey}
use Rattle.rdb_types.specs.declared.keys.Line.{Line}
use Rattle.rdb_types.specs.declared.keys.Tsn.{Tsn}
use Rattle.rdb_types.specs.Order.{dbkey_order}
use Rattle.rdb_types.specs.OrderLaws.{dbkey_total, same_dbkey}
use Rattle.line_view.specs.declared.writes.Write.{Write}
use Rattle.line_view.specs.Knowledge.{Lines, IsInOrder, line_in, laid}
use Rattle.line_view.specs.Writes.{laid_all}
use Rattle.line_view.proofs.FullMap.{laid_found}
use Rattle.line_store.specs.Seats.{is_written, Adds}
use Rattle.line_versions.specs.Lines.{shown}
use Rattle.member_memory.specs.Memory.{Memory, writes_in}
use Rattle.member_memory.specs.Changes.{blank, Grows, AreAdded, rewritten, rewritten_all, Keeps, Lays}
use Rattle.member_memory.proofs.Counting.{is-none, written-behind, written-in}
use Rattle.member_memory.proofs.Growing.{tied, true-from_T, T-from_true, grown-found, grown-keys, grown-sorted}
use Rattle.member_memory.proofs.Rewriting.{rewritten_if, rewritten_by, found-rewritten, kept-by, not-rewritten, sorted-rewritten, some-rewritten}

-- ---- a line behind writes

abbrev pub after : Dbkey → List Write → Option (List ℕ) → Option (List ℕ)
after q [] x = x
after q (w ∷ ws) x = after q ws (cond (is_eq (dbkey_order q w.key)) w.image x)

pub laid-after : (q : Dbkey) (ws : List Write) (all : Lines) → line_in q (laid_all ws all) ≡ after q ws (line_in q all)
laid-after q [] all = refl
laid-after q (w ∷ ws) all = laid-after q ws (laid w.key w.image all) ∙ ap (after q ws) (laid_found q w.key w.image all)

-- what stood before a write plays no part
same-after : (q : Dbkey) (ws : List Write) (x y : Option (List ℕ)) → is_written q ws ≡ true → after q ws x ≡ after q ws y
same-after q [] x y written = absurd (true≢false (sym written))
same-after q (w ∷ ws) x y written =
    elim (is_eq (dbkey_order q w.key)) as (λ b. (b || is_written q ws) ≡ true → after q ws (cond b w.image x) ≡ after q ws (cond b w.image y)) [
      | true ↦ λ h. refl
      | false ↦ λ h. same-after q ws x y h
    ] written

none-after : (q : Dbkey) (ws : List Write) (x : Option (List ℕ)) → is_written q ws ≡ false → after q ws x ≡ x
none-after q [] x not-it = refl
none-after q (w ∷ ws) x not-it =
    elim (is_eq (dbkey_order q w.key)) as (λ b. (b || is_written q ws) ≡ false → after q ws (cond b w.image x) ≡ x) [
      | true ↦ λ h. absurd (true≢false h)
      | false ↦ λ h. none-after q ws x h
    ] not-it

-- ---- the lines in memory as writes

abbrev pub over : Option Line → Option (List ℕ) → Option (List ℕ)
over None x = x
over (Some line) x = shown line

less : (r : Ordering) → is_lt r ≡ true → r ≡ Less
less Less e = refl
less Equal e = absurd (true≢false (sym e))
less Greater e = absurd (true≢false (sym e))

-- a key is found in no list that is above it
none-above : (q : Dbkey) (es : List (Dbkey × Line)) → below_all dbkey_order q es ≡ true → find dbkey_order q es ≡ None
none-above q [] below = refl
none-above q (e ∷ es) below =
    let parts = and_parts _ _ below in
    ap (λ r. cond (is_eq r) (Some e.1) (find dbkey_order q es)) (less _ parts.0) ∙ none-above q es parts.1

pub waiting-after : (q : Dbkey) (es : List (Dbkey × Line)) (x : Option (List ℕ)) → is_sorted dbkey_order es ≡ true → after q (writes_in es) x ≡ over (find dbkey_order q es) x
waiting-after q [] x sorted = refl
waiting-after q (e ∷ es) x sorted =
    let parts = and_parts _ _ sorted in
    let rest = waiting-after q es (cond (is_eq (dbkey_order q e.0)) (shown e.1) x) parts.1 in
    rest ∙ by (is_eq (dbkey_order q e.0)) refl parts.0
  where
    by : (b : Bool) → is_eq (dbkey_order q e.0) ≡ b → below_all dbkey_order e.0 es ≡ true → over (find dbkey_order q es) (cond b (shown e.1) x) ≡ over (cond b (Some e.1) (find dbkey_order q es)) x
    by true tie below =
        let same : q ≡ e.0 = same_dbkey q e.0 (tied _ tie) in
        let none : find dbkey_order q es ≡ None = none-above q es (ap (λ (k : Dbkey). below_all dbkey_order k es) same ∙ below) in
        ap (λ (y : Option Line). over y (shown e.1)) none
    by false apart below = refl

-- ---- a line that is rewritten

shown-rewritten : (image : Option (List ℕ)) (line : Line) → shown (rewritten image line) ≡ image
shown-rewritten (Some image) line = refl
shown-rewritten None line = refl

shown-if : (b : Bool) (image : Option (List ℕ)) (line : Line) → shown (rewritten_if b image line) ≡ cond b image (shown line)
shown-if true image line = shown-rewritten image line
shown-if false image line = refl

shown-by : (q : Dbkey) (ws : List Write) (line : Line) → shown (rewritten_by q ws line) ≡ after q ws (shown line)
shown-by q [] line = refl
shown-by q (w ∷ ws) line =
    shown-by q ws (rewritten_if (is_eq (dbkey_order q w.key)) w.image line) ∙ ap (after q ws) (shown-if (is_eq (dbkey_order q w.key)) w.image line)

-- ---- maps in order

laid-sorted : (key : Dbkey) (image : Option (List ℕ)) (all : Lines) → IsInOrder all → IsInOrder (laid key image all)
laid-sorted key (Some image) all sorted = true-from_T _ (is_sorted-put dbkey_order dbkey_total key image all (T-from_true _ sorted))
laid-sorted key None all sorted = true-from_T _ (is_sorted-where_key dbkey_order _ all (T-from_true _ sorted))

pub all-sorted : (ws : List Write) (all : Lines) → IsInOrder all → IsInOrder (laid_all ws all)
all-sorted [] all sorted = sorted
all-sorted (w ∷ ws) all sorted = all-sorted ws (laid w.key w.image all) (laid-sorted w.key w.image all sorted)

pub same-lines : (a b : Lines) → IsInOrder a → IsInOrder b → ((q : Dbkey) → line_in q a ≡ line_in q b) → a ≡ b
same-lines a b f g same = same_entries dbkey_order dbkey_total same_dbkey a b (T-from_true _ f) (T-from_true _ g) same

-- ---- a change

module _ (tsn : Tsn) (writes : List Write) (old mid : Memory) (grows : Grows tsn writes old mid) (added : AreAdded writes old mid) (sorted : is_sorted dbkey_order old.lines ≡ true) where
  new : List (Dbkey × Line)
  new = rewritten_all writes mid.lines

  mid-sorted : is_sorted dbkey_order mid.lines ≡ true
  mid-sorted = grown-sorted tsn writes old mid grows sorted

  new-sorted : is_sorted dbkey_order new ≡ true
  unfolding new
  new-sorted = sorted-rewritten writes mid.lines mid-sorted

  new-found : (q : Dbkey) → find dbkey_order q new ≡ option_map (rewritten_by q writes) (find dbkey_order q mid.lines)
  unfolding new
  new-found q = found-rewritten q writes mid.lines

  -- where no line waits, none is written
  nowhere : (q : Dbkey) → find dbkey_order q mid.lines ≡ None → (is_some (find dbkey_order q old.lines) || is_written q writes) ≡ false
  nowhere q none =
      ap (λ b. b || is_written q writes) (sym (written-in q old.lines)) ∙ sym (written-behind q (writes_in old.lines) writes) ∙ sym (added.seen q) ∙ ap is_some none

  parts-false : (a b : Bool) → (a || b) ≡ false → (a ≡ false) × (b ≡ false)
  parts-false true b h = absurd (true≢false h)
  parts-false false b h = (refl, h)

  over-all : (q : Dbkey) (x : Option (List ℕ)) → over (find dbkey_order q new) x ≡ after q writes (over (find dbkey_order q old.lines) x)
  over-all q x = ap (λ (y : Option Line). over y x) (new-found q) ∙ by (find dbkey_order q mid.lines) refl
    where
      by : (y : Option Line) → find dbkey_order q mid.lines ≡ y → over (option_map (rewritten_by q writes) y) x ≡ after q writes (over (find dbkey_order q old.lines) x)
      by None none =
          let nothing = parts-false _ _ (nowhere q none) in
          sym (ap (λ (y : Option Line). after q writes (over y x)) (is-none _ nothing.0) ∙ none-after q writes x nothing.1)
      by (Some line) is =
          shown-by q writes line ∙ elim (grown-found tsn writes old mid q grows) [
            | inl same ↦ ap (λ (y : Option Line). after q writes (over y x)) (sym is ∙ same)
            | inr added-now ↦ same-after q writes _ _ added-now.2
          ]

  some-new : (key : Dbkey) → is_some (find dbkey_order key new) ≡ is_some (find dbkey_order key mid.lines)
  unfolding new
  some-new key = some-rewritten key writes mid.lines

  new-adds : Adds writes (writes_in old.lines) (writes_in new)
  new-adds = record {
    laid = λ all order. same-lines (laid_all (writes_in new) all) (laid_all writes (laid_all (writes_in old.lines) all)) (all-sorted (writes_in new) all order) (all-sorted writes (laid_all (writes_in old.lines) all) (all-sorted (writes_in old.lines) all order)) (λ q.
        laid-after q (writes_in new) all
        ∙ waiting-after q new (line_in q all) new-sorted
        ∙ over-all q (line_in q all)
        ∙ ap (after q writes) (sym (waiting-after q old.lines (line_in q all) sorted) ∙ sym (laid-after q (writes_in old.lines) all))
        ∙ sym (laid-after q writes (laid_all (writes_in old.lines) all)));
    keys = λ key. written-in key new ∙ some-new key ∙ added.seen key ∙ written-behind key (writes_in old.lines) writes;
  }

  new-kept : (key : Dbkey) (before : Line) → find dbkey_order key old.lines ≡ Some before → Keeps new key before
  new-kept key before was = elim (grown-found tsn writes old mid key grows) [
    | inl same ↦ record {
      line = rewritten_by key writes before;
      is = new-found key ∙ ap (option_map (rewritten_by key writes)) (same ∙ was);
      tsn = (kept-by key writes before).0;
      chain = (kept-by key writes before).1;
    }
    | inr added-now ↦ absurd (none-some _ (sym added-now.0 ∙ was))
  ]

  new-added : (key : Dbkey) (line : Line) → find dbkey_order key old.lines ≡ None → find dbkey_order key new ≡ Some line → (line.tsn ≡ tsn) × (line.chain ≡ 0)
  new-added key line none is = elim (grown-found tsn writes old mid key grows) [
    | inl same ↦ absurd (none-some _ (sym (new-found key ∙ ap (option_map (rewritten_by key writes)) (same ∙ none)) ∙ is))
    | inr added-now ↦
        let same : rewritten_by key writes (blank tsn) ≡ line = same_Some _ _ (sym (new-found key ∙ ap (option_map (rewritten_by key writes)) added-now.1) ∙ is) in
        let kept = kept-by key writes (blank tsn) in
        (ap (λ (l : Line). l.tsn) (sym same) ∙ kept.0, ap (λ (l : Line). l.chain) (sym same) ∙ kept.1)
  ]

  new-others : (key : Dbkey) → is_written key writes ≡ false → find dbkey_order key new ≡ find dbkey_order key old.lines
  new-others key not-it = new-found key ∙ unchanged (find dbkey_order key mid.lines) ∙ elim (grown-found tsn writes old mid key grows) [
    | inl same ↦ same
    | inr added-now ↦ absurd (true≢false (sym added-now.2 ∙ not-it))
  ]
    where
      unchanged : (x : Option Line) → option_map (rewritten_by key writes) x ≡ x
      unchanged None = refl
      unchanged (Some line) = ap Some (not-rewritten key writes line not-it)

  pub lays : Lays tsn writes old (record { lines = rewritten_all writes mid.lines; keys = mid.keys })
  unfolding new
  lays = record {
    adds = new-adds;
    keys = λ i key was. grown-keys tsn writes old mid i key grows was;
    count = added.count;
    kept = new-kept;
    added = new-added;
    others = new-others;
  }
