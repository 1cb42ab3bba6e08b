-- Rooms that are learnt one after another, in the order of their lines.
use Rattle.std.specs.Prelude.{slice_index_or, cond, ◌==◌}
use Rattle.std.proofs.Common.{◌≡◌, ℕ, zero, suc, ◌+◌, ◌<◌, Bool, true, false, ◌&&◌, List, [], ◌∷◌, take, drop, length, Option, Some, None, inl, inr, refl, sym, ap, subst, ◌∙◌, arith}
use Rattle.std.proofs.lemmas.Option.{none-some, same_Some}
use Rattle.std.specs.Ordering.{is_lt}
use Rattle.std.specs.Cmp.{tied_itself}
use Rattle.std.specs.FinMap.Entries.{find, put, below_all, is_sorted}
use Rattle.rdb_types.specs.declared.keys.Dbkey.{Dbkey}
use Rattle.rdb_types.specs.Order.{dbkey_order}
use Rattle.rdb_types.specs.OrderLaws.{dbkey_total}
use Rattle.lock_needs.specs.declared.need.Need.{Need}
use Rattle.line_view.specs.declared.need.Room.{Room}
use Rattle.line_view.specs.Knowledge.{Lines, Agrees, line_in}
use Rattle.line_view.specs.Held.{Held, knows, room_order, usable, unless_present, with_room, without_rooms}
use Rattle.line_view.proofs.Entries.{found_behind}
use Rattle.line_view.proofs.Steps.{room_total, same_room}
use Rattle.kept_apart.specs.Guards.{line_node, is_guarded}
use Rattle.kept_apart.specs.Alike.{IsGuarded}
use Rattle.given_rooms.specs.Given.{is_none_there, is_absent, with_one, with_given}

abbrev pub Entry : Type 0
Entry = Dbkey × Room

abbrev pub no-entry : Entry
no-entry = (record { area = 0; page = 0; line = 0 }, record { area = 0; class = 0; nth = 0 })

-- each room's line lies before all of these
abbrev pub AreBefore : List Entry → List (Room × Dbkey) → Type 0
AreBefore es rooms = (room : Room) (key : Dbkey) → find room_order room rooms ≡ Some key → below_all dbkey_order key es ≡ true

first-of : (a b : Bool) → (a && b) ≡ true → a ≡ true
first-of true b e = refl
first-of false b e = e

second-of : (a b : Bool) → (a && b) ≡ true → b ≡ true
second-of true b e = e
second-of false b e = absurd (cc)

-- none yet
pub before-none : (es : List Entry) (h : Held) → AreBefore es (without_rooms h).rooms
before-none es h room key found = absurd (none-some key found)

-- so no room has the first of these lines
pub no-other : (e : Entry) (es : List Entry) (rooms : List (Room × Dbkey)) → AreBefore (e ∷ es) rooms → (other : Room) → find room_order other rooms ≡ Some e.0 → other ≡ e.1
no-other e es rooms are other found =
    let less = first-of (is_lt (dbkey_order e.0 e.0)) (below_all dbkey_order e.0 es) (are other e.0 found) in
    absurd (cc (less, tied_itself dbkey_total e.0))

-- the next one lies behind those that are known, and before those that are left
pub before-more : (e : Entry) (es : List Entry) (h : Held) → is_sorted dbkey_order (e ∷ es) ≡ true → AreBefore (e ∷ es) h.rooms → AreBefore es (with_one e h).rooms
before-more e es h sorted are = by ((e.0.area == e.1.area) && is_absent h e.0)
  where
    behind : AreBefore es h.rooms
    behind room key found = second-of (is_lt (dbkey_order key e.0)) (below_all dbkey_order key es) (are room key found)

    by : (b : Bool) → AreBefore es (cond b (with_room e.1 e.0 h) h).rooms
    by false room key found = behind room key found
    by true room key found = elim (found_behind room_order room_total room e.1 e.0 key h.rooms same_room found) [
      | inl same ↦ subst (λ (k : Dbkey). below_all dbkey_order k es ≡ true) (sym same.1) (first-of (below_all dbkey_order e.0 es) (is_sorted dbkey_order es) sorted)
      | inr old ↦ behind room key old
    ]

pub sorted-rest : (e : Entry) (es : List Entry) → is_sorted dbkey_order (e ∷ es) ≡ true → is_sorted dbkey_order es ≡ true
sorted-rest e es sorted = second-of (below_all dbkey_order e.0 es) (is_sorted dbkey_order es) sorted

-- ---- one after another

pub given-more : (es : List Entry) (i : ℕ) (d : Entry) (h : Held) → i < length es → with_given (take (i + 1) es) h ≡ with_one (slice_index_or es i d) (with_given (take i es) h)
given-more [] i d h within = absurd (omega (arith, within))
given-more (e ∷ es) zero d h within = refl
given-more (e ∷ es) (suc i) d h within =
    let next : suc i + 1 ≡ suc (i + 1) = omega arith in
    ap (λ n. with_given (take n (e ∷ es)) h) next ∙ given-more es i d (with_one e h) (omega (arith, within))

pub dropped : (es : List Entry) (i : ℕ) (d : Entry) → i < length es → drop i es ≡ slice_index_or es i d ∷ drop (i + 1) es
dropped [] i d within = absurd (omega (arith, within))
dropped (e ∷ es) zero d within = refl
dropped (e ∷ es) (suc i) d within =
    let next : suc (i + 1) ≡ suc i + 1 = omega arith in
    dropped es i d (omega (arith, within)) ∙ ap (λ n. slice_index_or es i d ∷ drop n (e ∷ es)) next

-- ---- what is known agrees, and is guarded

none-there : (x : Option (Option (List ℕ))) → is_none_there x ≡ true → x ≡ Some None
none-there (Some None) e = refl
none-there (Some (Some image)) e = absurd (cc)
none-there None e = absurd (cc)

pub absent-in : (h : Held) (key : Dbkey) (all : Lines) → is_absent h key ≡ true → Agrees (knows h) all → line_in key all ≡ None
absent-in h key all absent agrees = sym (agrees.line key None (none-there (find dbkey_order key h.lines) absent))

unless-same : (key at : Dbkey) (x : Option (Option (List ℕ))) → unless_present key x ≡ Some at → at ≡ key
unless-same key at (Some (Some image)) e = absurd (none-some at e)
unless-same key at (Some None) e = same_Some at key (sym e)
unless-same key at None e = same_Some at key (sym e)

usable-same : (lines : List (Dbkey × Option (List ℕ))) (key at : Dbkey) → usable lines (Some key) ≡ Some at → at ≡ key
usable-same lines key at e = unless-same key at (find dbkey_order key lines) e

pub room-guarded : (got : List Need) (h : Held) (room : Room) (key : Dbkey) → is_absent h key ≡ true → IsGuarded got (knows h) → IsGuarded got (knows (with_room room key h))
room-guarded got h room key absent guarded = record {
  line = guarded.line;
  area = guarded.area;
  room = λ other at known. by other at (find room_order other (put room_order room key h.rooms)) refl known;
} where
  by : (other : Room) (at : Dbkey) (x : Option Dbkey) → find room_order other (put room_order room key h.rooms) ≡ x → usable h.lines x ≡ Some at → is_guarded got (line_node at) ≡ true
  by other at None is known = absurd (none-some at known)
  by other at (Some k) is known = elim (found_behind room_order room_total other room key k h.rooms same_room is) [
    | inl same ↦ subst (λ (x : Dbkey). is_guarded got (line_node x) ≡ true) (sym (usable-same h.lines k at known ∙ same.1)) (guarded.line key None (none-there (find dbkey_order key h.lines) absent))
    | inr old ↦ guarded.room other at (ap (λ x. usable h.lines x) old ∙ known)
  ]

pub none-guarded : (got : List Need) (h : Held) → IsGuarded got (knows h) → IsGuarded got (knows (without_rooms h))
none-guarded got h guarded = record { line = guarded.line; area = guarded.area; room = λ room key known. absurd (none-some key known) }

-- ---- at the place of a list

module _ (es : List Entry) (i : ℕ) (d : Entry) (h : Held) (within : i < length es) where
  pub no-other-at : AreBefore (drop i es) h.rooms → (other : Room) → find room_order other h.rooms ≡ Some (slice_index_or es i d).0 → other ≡ (slice_index_or es i d).1
  no-other-at are = no-other (slice_index_or es i d) (drop (i + 1) es) h.rooms (subst (λ (xs : List Entry). AreBefore xs h.rooms) (dropped es i d within) are)

  pub before-at : (new : Held) → is_sorted dbkey_order (drop i es) ≡ true → AreBefore (drop i es) h.rooms → new ≡ with_one (slice_index_or es i d) h → AreBefore (drop (i + 1) es) new.rooms
  before-at new sorted are is =
      subst (λ (x : Held). AreBefore (drop (i + 1) es) x.rooms) (sym is)
      (before-more (slice_index_or es i d) (drop (i + 1) es) h (subst (λ (xs : List Entry). is_sorted dbkey_order xs ≡ true) (dropped es i d within) sorted) (subst (λ (xs : List Entry). AreBefore xs h.rooms) (dropped es i d within) are))

  pub given-at : (known new : Held) → new ≡ with_one (slice_index_or es i d) known → known ≡ with_given (take i es) h → new ≡ with_given (take (i + 1) es) h
  given-at known new is was = is ∙ (ap (λ (x : Held). with_one (slice_index_or es i d) x) was ∙ sym (given-more es i d h within))

  pub sorted-at : is_sorted dbkey_order (drop i es) ≡ true → is_sorted dbkey_order (drop (i + 1) es) ≡ true
  sorted-at sorted = sorted-rest (slice_index_or es i d) (drop (i + 1) es) (subst (λ (xs : List Entry). is_sorted dbkey_order xs ≡ true) (dropped es i d within) sorted)
