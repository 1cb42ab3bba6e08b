-- What is held behind each call.
use Rattle.std.proofs.Common.{◌≡◌, ℕ, ◌+◌, ◌<◌, ◌≤◌, Bool, List, [], ◌∷◌, ◌++◌, length, take, map, get_or, Option, Some, None, ◌⊎◌, inl, inr, refl, sym, ap, subst, ◌∙◌}
use Rattle.std.specs.Prelude.{option_map, is_some, Result, Ok, Err, OnOk, OnErr}
use Rattle.std.specs.declared.cmp.Ordering.{Ordering}
use Rattle.std.specs.declared.cmp.Ordering.TheVariants.{Less, Equal, Greater}
use Rattle.std.specs.Ordering.{nat_cmp, ordering_then}
use Rattle.std.specs.Cmp.{IsTotalOrder, nat_cmp_total, on_total, then_total}
use Rattle.std.specs.FinMap.Entries.{find, put}
use Rattle.std.specs.Map.{lookup, set_value, remove_entry}
use Rattle.std.specs.List.Sorted.{IsStrictlySortedBy}
use Rattle.std.specs.BTreeMap.{is_at, insert_entry}
use Rattle.std.specs.BTreeSet.{BTreeSet}
use Rattle.ordered_entries.specs.rdb_types.declared.keys.Dbkey.{Dbkey}
use Rattle.ordered_entries.specs.rdb_types.Order.{dbkey_order}
use Rattle.line_view.specs.declared.need.Room.{Room}
use Rattle.line_view.specs.declared.view.Seen.{Seen}
use Rattle.line_view.specs.declared.view.Seen.TheVariants.{Unknown, Absent, Present}
use Rattle.line_view.specs.Knowledge.{Lines, keys_of, Shows}
use Rattle.line_view.specs.declared.known.PresentLine.{PresentLine}
use Rattle.line_view.specs.Held.{Held, room_order, TakesBack, with_line, with_room, with_write, written, areas_written, with_written, with_lines, with_keys, with_area, ordered, entry_of, key_sets, unless_present, usable, AreRooms}
use Rattle.line_view.proofs.Entries.{find_lookup, put_insert, find_keys, set_keys, insert_keys, set_same, found_behind, sorted_entries, remove-put}
use Rattle.ordered_entries.proofs.Laws.{put-put, put_found, find-put_same}
use Rattle.ordered_entries.specs.rdb_types.OrderLaws.{dbkey_total}
use Rattle.std.proofs.Common.{arith}
use Rattle.std.proofs.lemmas.List.{length-map, get_or-map, take_more, take_all}
use Rattle.std.proofs.lemmas.Option.{none-some}
use Rattle.std.proofs.lemmas.Cmp.{ranked}

abbrev pub LineEntries : Type 0
LineEntries = List (Dbkey × Option (List ℕ))

pub line_learnt : (lines new : LineEntries) (areas : List (ℕ × List Dbkey)) (rooms : List (Room × Dbkey)) (h : Held) (key : Dbkey) (image : Option (List ℕ)) →
    record { lines = lines; areas = areas; rooms = rooms } ≡ h → new ≡ insert_entry dbkey_order lines key image → record { lines = new; areas = areas; rooms = rooms } ≡ with_line key image h
line_learnt lines new areas rooms h key image view step = ap (λ (ls : LineEntries). record { lines = ls; areas = areas; rooms = rooms }) (step ∙ sym (put_insert dbkey_order key image lines)) ∙ ap (λ (h : Held). with_line key image h) view

pub room_learnt : (lines : LineEntries) (areas : List (ℕ × List Dbkey)) (rooms new : List (Room × Dbkey)) (h : Held) (room : Room) (key : Dbkey) →
    record { lines = lines; areas = areas; rooms = rooms } ≡ h → new ≡ insert_entry room_order rooms room key → record { lines = lines; areas = areas; rooms = new } ≡ with_room room key h
room_learnt lines areas rooms new h room key view step = ap (λ (rs : List (Room × Dbkey)). record { lines = lines; areas = areas; rooms = rs }) (step ∙ sym (put_insert room_order room key rooms)) ∙ ap (λ (h : Held). with_room room key h) view

pub line_found : (lines : LineEntries) (h : Held) (key : Dbkey) (what : Option (Option (List ℕ))) → h.lines ≡ lines → lookup (is_at (dbkey_order key)) lines ≡ what → find dbkey_order key h.lines ≡ what
line_found lines h key what view found = ap (λ (ls : LineEntries). find dbkey_order key ls) view ∙ (find_lookup dbkey_order key lines ∙ found)

-- ---- the keys of areas

pub set_written : (areas : List (ℕ × BTreeSet Dbkey)) (before after : BTreeSet Dbkey) (key : Dbkey) (is_present : Bool) →
    lookup (is_at (nat_cmp key.area)) areas ≡ Some before → after.keys ≡ written key is_present before.keys →
    key_sets (set_value (is_at (nat_cmp key.area)) areas after) ≡ areas_written key is_present (key_sets areas)
set_written areas before after key is_present found change =
    set_keys (is_at (nat_cmp key.area)) areas after
    ∙ (ap (λ ks. set_value (is_at (nat_cmp key.area)) (key_sets areas) ks) change
    ∙ ap (λ o. with_written key is_present (key_sets areas) o) (sym (find_keys key.area areas ∙ ap (λ o. option_map (λ s. s.keys) o) found)))

pub nothing_written : (areas : List (ℕ × BTreeSet Dbkey)) (key : Dbkey) (is_present : Bool) →
    lookup (is_at (nat_cmp key.area)) areas ≡ None → key_sets areas ≡ areas_written key is_present (key_sets areas)
nothing_written areas key is_present none = ap (λ o. with_written key is_present (key_sets areas) o) (sym (find_keys key.area areas ∙ ap (λ o. option_map (λ s. s.keys) o) none))

pub set_back : (areas : List (ℕ × BTreeSet Dbkey)) (before after : BTreeSet Dbkey) (area : ℕ) →
    lookup (is_at (nat_cmp area)) areas ≡ Some before → after.keys ≡ before.keys → key_sets (set_value (is_at (nat_cmp area)) areas after) ≡ key_sets areas
set_back areas before after area found same =
    set_keys (is_at (nat_cmp area)) areas after
    ∙ (ap (λ ks. set_value (is_at (nat_cmp area)) (key_sets areas) ks) same
    ∙ set_same area before.keys (key_sets areas) (find_keys area areas ∙ ap (λ o. option_map (λ s. s.keys) o) found))

-- ---- rooms

pub room_total : IsTotalOrder room_order
room_total = then_total (on_total (λ r. r.area) nat_cmp_total) (then_total (on_total (λ r. r.class) nat_cmp_total) (on_total (λ r. r.nth) nat_cmp_total))

pub room_shown : (rooms : List (Room × Dbkey)) (h : Held) (room : Room) (key : Dbkey) (what : Option (Option (List ℕ))) →
    h.rooms ≡ rooms → lookup (is_at (room_order room)) rooms ≡ Some key → find dbkey_order key h.lines ≡ what → usable h.lines (find room_order room h.rooms) ≡ unless_present key what
room_shown rooms h room key what view found line =
    ap (λ rs. usable h.lines (find room_order room rs)) view
    ∙ (ap (λ o. usable h.lines o) (find_lookup room_order room rooms ∙ found)
    ∙ ap (λ o. unless_present key o) line)

pub none_shown : (rooms : List (Room × Dbkey)) (h : Held) (room : Room) →
    h.rooms ≡ rooms → lookup (is_at (room_order room)) rooms ≡ None → None ≡ usable h.lines (find room_order room h.rooms)
none_shown rooms h room view none = sym (ap (λ rs. usable h.lines (find room_order room rs)) view ∙ ap (λ o. usable h.lines o) (find_lookup room_order room rooms ∙ none))

both_equal : (r s : Ordering) → ordering_then r s ≡ Equal → (r ≡ Equal) × (s ≡ Equal)
both_equal Less s e = absurd (cc)
both_equal Equal s e = (refl, e)
both_equal Greater s e = absurd (cc)

pub same_room : (a b : Room) → room_order a b ≡ Equal → a ≡ b
same_room a b e =
    let areas = both_equal (nat_cmp a.area b.area) _ e in
    let classes = both_equal (nat_cmp a.class b.class) _ areas.1 in
    let area = ranked _ _ _ (sym areas.0) in
    let class = ranked _ _ _ (sym classes.0) in
    let nth = ranked _ _ _ (sym classes.1) in
    λ i. record { area = area i; class = class i; nth = nth i }

pub are_rooms : (rooms new : List (Room × Dbkey)) (room : Room) (key : Dbkey) → AreRooms rooms → new ≡ insert_entry room_order rooms room key → key.area ≡ room.area →
    ((other : Room) → find room_order other rooms ≡ Some key → other ≡ room) → AreRooms new
are_rooms rooms new room key are step area alone = subst AreRooms (put_insert room_order room key rooms ∙ sym step) (record { within = within; apart = apart }) where
  behind : (q : Room) (w : Dbkey) → find room_order q (put room_order room key rooms) ≡ Some w → ((q ≡ room) × (w ≡ key)) ⊎ (find room_order q rooms ≡ Some w)
  behind q w found = found_behind room_order room_total q room key w rooms same_room found

  within : (r : Room) (k : Dbkey) → find room_order r (put room_order room key rooms) ≡ Some k → k.area ≡ r.area
  within r k found = elim (behind r k found) [
    | inl e ↦ ap (λ k. k.area) e.1 ∙ (area ∙ ap (λ r. r.area) (sym e.0))
    | inr e ↦ are.within r k e
  ]

  apart : (a b : Room) (k : Dbkey) → find room_order a (put room_order room key rooms) ≡ Some k → find room_order b (put room_order room key rooms) ≡ Some k → a ≡ b
  apart a b k p q = elim (behind a k p) [
    | inl e ↦ elim (behind b k q) [
      | inl f ↦ e.0 ∙ sym f.0
      | inr f ↦ e.0 ∙ sym (alone b (f ∙ ap Some e.1))
    ]
    | inr e ↦ elim (behind b k q) [
      | inl f ↦ alone a (e ∙ ap Some f.1) ∙ sym f.0
      | inr f ↦ are.apart a b k e f
    ]
  ]

-- ---- a line that is taken back

pub laid_back : {A E : Type 0} (result : Result A E) (lines old new : LineEntries) (key : Dbkey) (image before : Option (List ℕ)) →
    OnOk result (new ≡ insert_entry dbkey_order old key before) → OnErr result (lookup (is_at (dbkey_order key)) old ≡ None) →
    IsStrictlySortedBy dbkey_order (map (λ e. e.0) lines) → find dbkey_order key lines ≡ Some before → old ≡ put dbkey_order key image lines → new ≡ lines
laid_back (Ok r) lines old new key image before step absent sorted found laid =
    step ∙ (sym (put_insert dbkey_order key before old) ∙ (ap (λ l. put dbkey_order key before l) laid ∙ (put-put dbkey_order dbkey_total key image before lines
    ∙ put_found dbkey_order dbkey_total key before lines (sorted_entries dbkey_order dbkey_total lines sorted) found)))
laid_back (Err e) lines old new key image before step absent sorted found laid =
    absurd (none-some image (sym absent ∙ (sym (find_lookup dbkey_order key old) ∙ (ap (λ l. find dbkey_order key l) laid ∙ find-put_same dbkey_order dbkey_total key image lines))))

pub removed_back : (lines old new : LineEntries) (key : Dbkey) (image : Option (List ℕ)) →
    new ≡ remove_entry (is_at (dbkey_order key)) old → find dbkey_order key lines ≡ None → old ≡ put dbkey_order key image lines → new ≡ lines
removed_back lines old new key image step none laid = step ∙ (ap (λ l. remove_entry (is_at (dbkey_order key)) l) laid ∙ remove-put dbkey_order dbkey_total key image lines none)

-- ---- what is shown of a room's line

pub not_shown : (s : Seen) (what : Option (Option (List ℕ))) (key : Dbkey) → Shows s what → ((image : _) → s ≡ Present image → ⊥) → unless_present key what ≡ Some key
not_shown Unknown what key shows not = ap (λ w. unless_present key w) shows
not_shown Absent what key shows not = ap (λ w. unless_present key w) shows
not_shown (Present image) what key shows not = absurd (not image refl)

pub is_shown : (s : Seen) (image : _) (what : Option (Option (List ℕ))) (key : Dbkey) → Shows s what → s ≡ Present image → unless_present key what ≡ None
is_shown s image what key shows is = ap (λ w. unless_present key w) (subst (λ s. Shows s what) is shows)

-- ---- a write

pub laid_over : (lines new : LineEntries) (areas sets : List (ℕ × List Dbkey)) (rooms : List (Room × Dbkey)) (h : Held) (key : Dbkey) (image : Option (List ℕ)) (is_present : Bool) →
    record { lines = lines; areas = areas; rooms = rooms } ≡ h → new ≡ insert_entry dbkey_order lines key image → is_present ≡ is_some image → sets ≡ areas_written key is_present areas →
    record { lines = new; areas = sets; rooms = rooms } ≡ with_write key image h
laid_over lines new areas sets rooms h key image is_present view step present written =
    (λ i. record { lines = (step ∙ sym (put_insert dbkey_order key image lines)) i; areas = (written ∙ ap (λ b. areas_written key b areas) present) i; rooms = rooms })
    ∙ ap (λ h. with_write key image h) view

pub all_back : (lines new old : LineEntries) (areas sets : List (ℕ × List Dbkey)) (rooms : List (Room × Dbkey)) (h : Held) (key : Dbkey) (image : Option (List ℕ)) (before : Option (Option (List ℕ))) →
    record { lines = lines; areas = areas; rooms = rooms } ≡ h → IsStrictlySortedBy dbkey_order (map (λ e. e.0) lines) → old ≡ insert_entry dbkey_order lines key image → before ≡ lookup (is_at (dbkey_order key)) lines →
    TakesBack key before old new → sets ≡ areas → record { lines = new; areas = sets; rooms = rooms } ≡ h
all_back lines new old areas sets rooms h key image before view sorted step was back same =
    (λ i. record { lines = back lines image sorted (find_lookup dbkey_order key lines ∙ sym was) (step ∙ sym (put_insert dbkey_order key image lines)) i; areas = same i; rooms = rooms }) ∙ view

-- ---- the lines of an area, one after another

lines_behind : (es fs : Lines) (h : Held) → with_lines (es ++ fs) h ≡ with_lines fs (with_lines es h)
lines_behind [] fs h = refl
lines_behind (e ∷ es) fs h = lines_behind es fs (with_line e.0 (Some e.1) h)

pub one_line_more : (lines : List PresentLine) (i : ℕ) (line : PresentLine) (h : Held) → i < length lines → line ≡ get_or lines i line →
    with_lines (take (i + 1) (map entry_of lines)) h ≡ with_line line.key (Some line.image) (with_lines (take i (map entry_of lines)) h)
one_line_more lines i line h inside is =
    ap (λ es. with_lines es h) (take_more (map entry_of lines) i (entry_of line) (omega (arith, length-map lines entry_of, inside))
    ∙ ap (λ e. take i (map entry_of lines) ++ e ∷ []) (get_or-map entry_of lines i line (entry_of line) inside ∙ ap entry_of (sym is)))
    ∙ lines_behind (take i (map entry_of lines)) (entry_of line ∷ []) h

pub all_lines : (lines : List PresentLine) (i : ℕ) (h : Held) → length lines ≤ i → with_lines (take i (map entry_of lines)) h ≡ with_lines (map entry_of lines) h
all_lines lines i h done = ap (λ es. with_lines es h) (take_all i (map entry_of lines) (omega (arith, length-map lines entry_of, done)))

pub area_learnt : (lines : LineEntries) (areas new : List (ℕ × BTreeSet Dbkey)) (rooms : List (Room × Dbkey)) (h now : Held) (area : ℕ) (keys : BTreeSet Dbkey) (es : Lines) →
    record { lines = lines; areas = key_sets areas; rooms = rooms } ≡ now → now ≡ with_lines es h → new ≡ insert_entry nat_cmp areas area keys → keys.keys ≡ ordered (keys_of es) →
    record { lines = lines; areas = key_sets new; rooms = rooms } ≡ with_area area es h
area_learnt lines areas new rooms h now area keys es view is step sets =
    (λ i. record { lines = lines; areas = (ap key_sets step ∙ (insert_keys area keys areas ∙ ap (λ ks. put nat_cmp area ks (key_sets areas)) sets)) i; rooms = rooms })
    ∙ ap (λ (h : Held). with_keys area (keys_of es) h) (view ∙ is)
