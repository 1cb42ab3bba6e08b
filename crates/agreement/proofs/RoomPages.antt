-- Rooms on pages of their own.
use Rattle.std.proofs.Common.{◌≡◌, ℕ, ◌<◌, ◌≤◌, List, Some, inl, inr, sym, ap, subst, ◌∙◌, arith}
use Rattle.std.proofs.lemmas.Option.{none-some}
use Rattle.std.specs.FinMap.Entries.{find, put}
use Rattle.rdb_types.specs.declared.keys.Dbkey.{Dbkey}
use Rattle.line_view.specs.declared.need.Room.{Room}
use Rattle.line_view.specs.Held.{Held, room_order, with_room, without_rooms}
use Rattle.line_view.proofs.Entries.{found_behind}
use Rattle.line_view.proofs.Steps.{room_total, same_room}

-- no room is behind the page
abbrev pub AreUpTo : ℕ → List (Room × Dbkey) → Type 0
AreUpTo page rooms = (room : Room) (key : Dbkey) → find room_order room rooms ≡ Some key → key.page ≤ page

up_to_more : (rooms : List (Room × Dbkey)) (room : Room) (key : Dbkey) (page : ℕ) → AreUpTo page rooms → page < key.page → AreUpTo key.page (put room_order room key rooms)
up_to_more rooms room key page are later q w found = elim (found_behind room_order room_total q room key w rooms same_room found) [
  | inl e ↦ let same = ap (λ (k : Dbkey). k.page) e.1 in omega (arith, same)
  | inr e ↦ let before = are q w e in omega (arith, before, later)
]

pub none_yet : (old new : Held) → new ≡ without_rooms old → AreUpTo 0 new.rooms
none_yet old new is room key found = absurd (none-some key (ap (λ (h : Held). find room_order room h.rooms) (sym is) ∙ found))

pub one_more : (old new : Held) (room : Room) (key : Dbkey) (page : ℕ) → AreUpTo page old.rooms → page < key.page → new ≡ with_room room key old → AreUpTo key.page new.rooms
one_more old new room key page are later is = subst (λ (h : Held). AreUpTo key.page h.rooms) (sym is) (up_to_more old.rooms room key page are later)

pub no_other : (rooms : List (Room × Dbkey)) (room other : Room) (key : Dbkey) (page : ℕ) → AreUpTo page rooms → page < key.page → find room_order other rooms ≡ Some key → other ≡ room
no_other rooms room other key page are later found = let before = are other key found in absurd (omega (arith, before, later))
