-- The view of a statement agrees with the map behind its writes.
use Rattle.std.proofs.Common.{◌≡◌, ◌==◌, ℕ, true, false, cond, List, [], Option, Some, None, refl, sym, ap, subst, ◌∙◌}
use Rattle.std.specs.Prelude.{is_some, slice_get}
use Rattle.std.specs.Ordering.{is_eq, nat_cmp}
use Rattle.std.specs.declared.cmp.Ordering.{Ordering}
use Rattle.std.specs.declared.cmp.Ordering.TheVariants.{Less, Equal, Greater}
use Rattle.std.specs.Cmp.{nat_cmp_total, tied_itself}
use Rattle.std.specs.FinMap.Entries.{find, is_sorted, find-put}
use Rattle.std.proofs.lemmas.Bool.{ne_eqb}
use Rattle.std.proofs.lemmas.Cmp.{ranked}
use Rattle.std.proofs.lemmas.Option.{none-some, same_Some}
use Rattle.rdb_types.specs.declared.keys.Dbkey.{Dbkey}
use Rattle.rdb_types.specs.Order.{dbkey_order}
use Rattle.line_view.specs.declared.need.Room.{Room}
use Rattle.line_view.specs.Knowledge.{Lines, IsInOrder, Agrees, line_in, lines_in, keys_of, laid}
use Rattle.line_view.specs.Held.{Held, knows, written}
use Rattle.line_view.proofs.FullMap.{other_area, keys_written}
use Rattle.statement_view.specs.Over.{Over, seen_of, first_of, is_written, room_at, rooms_left, area_written, knows_over, laid_over, with_over, Stands}
use Rattle.statement_view.proofs.Laying.{Written, image_or, sorted_put, over_found, over_put, over_in_order}
use Rattle.statement_view.proofs.Rooms.{left_room, left_once}

equal : (r : Ordering) → is_eq r ≡ true → r ≡ Equal
equal Less is = let bad : ⊥ = cc in absurd bad
equal Equal is = refl
equal Greater is = let bad : ⊥ = cc in absurd bad

-- ---- lines

line_over : (o : Over) (first : Lines) → is_sorted dbkey_order o.lines ≡ true → Agrees (knows o.base) first → (key : Dbkey) (what : Option (List ℕ)) → (knows_over o).line key ≡ Some what → what ≡ line_in key (laid_over o.lines first)
line_over o first sorted agrees key what is =
    elim (find dbkey_order key o.lines) as (λ f. find dbkey_order key o.lines ≡ f → first_of f ((knows o.base).line key) ≡ Some what → what ≡ line_in key (laid_over o.lines first)) [
      | Some image ↦ λ f h. sym (over_found key o.lines first sorted ∙ ap (λ x. image_or x (line_in key first)) f ∙ same_Some image what h)
      | None ↦ λ f h. agrees.line key what h ∙ sym (over_found key o.lines first sorted ∙ ap (λ x. image_or x (line_in key first)) f)
    ] refl is

-- ---- rooms

unwritten : (lines : Written) (key : Dbkey) → is_written lines key ≡ false → find dbkey_order key lines ≡ None
unwritten lines key is = elim (find dbkey_order key lines) as (λ f. is_some f ≡ false → f ≡ None) [ Some x ↦ λ h. let bad : ⊥ = cc in absurd bad | None ↦ λ h. refl ] is

free_over : (o : Over) (first : Lines) → is_sorted dbkey_order o.lines ≡ true → Agrees (knows o.base) first → (room : Room) (key : Dbkey) → (knows_over o).room room ≡ Some key → line_in key (laid_over o.lines first) ≡ None
free_over o first sorted agrees room key is =
    let both = left_room (knows o.base) o.lines room.area room.class room.nth key is in
    over_found key o.lines first sorted ∙ ap (λ x. image_or x (line_in key first)) (unwritten o.lines key both.1) ∙ agrees.free (room_at room.area room.class both.0.nth) key both.0.is

within_over : (o : Over) (first : Lines) → Agrees (knows o.base) first → (room : Room) (key : Dbkey) → (knows_over o).room room ≡ Some key → key.area ≡ room.area
within_over o first agrees room key is =
    let both = left_room (knows o.base) o.lines room.area room.class room.nth key is in
    agrees.within (room_at room.area room.class both.0.nth) key both.0.is

apart_over : (o : Over) (first : Lines) → Agrees (knows o.base) first → (a b : Room) (key : Dbkey) → (knows_over o).room a ≡ Some key → (knows_over o).room b ≡ Some key → a ≡ b
apart_over o first agrees a b key is too =
    let one = left_room (knows o.base) o.lines a.area a.class a.nth key is in
    let two = left_room (knows o.base) o.lines b.area b.class b.nth key too in
    let same : room_at a.area a.class one.0.nth ≡ room_at b.area b.class two.0.nth = agrees.apart _ _ key one.0.is two.0.is in
    let area : a.area ≡ b.area = ap (λ (r : Room). r.area) same in
    let class : a.class ≡ b.class = ap (λ (r : Room). r.class) same in
    let here : slice_get (rooms_left (knows o.base) o.lines b.area b.class) a.nth ≡ Some key = subst (λ (l : List Dbkey). slice_get l a.nth ≡ Some key) (λ i. rooms_left (knows o.base) o.lines (area i) (class i)) is in
    let nth : a.nth ≡ b.nth = left_once (knows o.base) o.lines b.area b.class a.nth b.nth key agrees.apart here too in
    λ i. record { area = area i; class = class i; nth = nth i }

-- ---- areas, write by write

abbrev AreasRight : Over → Lines → Type 0
AreasRight o now = (area : ℕ) (keys : List Dbkey) → (knows_over o).area area ≡ Some keys → keys ≡ keys_of (lines_in area now)

module _ (o : Over) (key : Dbkey) (image : Option (List ℕ)) (now : Lines) (sorted : IsInOrder now) (right : AreasRight o now) (area : ℕ) (keys : List Dbkey) where
  own_area : is_eq (nat_cmp area key.area) ≡ true → area ≡ key.area
  own_area tie = ranked area key.area Equal (sym (equal _ tie))

  elsewhere : is_eq (nat_cmp area key.area) ≡ false → (knows_over o).area area ≡ Some keys → keys ≡ keys_of (lines_in area (laid key image now))
  elsewhere apart is =
      let other : (key.area == area) ≡ false = ne_eqb key.area area (λ same. let moved : is_eq (nat_cmp area key.area) ≡ true = ap (λ (a : ℕ). is_eq (nat_cmp area a)) same ∙ ap is_eq (tied_itself nat_cmp_total area) in let bad : ⊥ = cc in bad) in
      right area keys is ∙ sym (ap keys_of (other_area key image area now other))

  area_with : (f : Option (List Dbkey)) → (knows_over o).area key.area ≡ f → first_of (find nat_cmp area (area_written key (is_some image) o.areas f)) ((knows o.base).area area) ≡ Some keys → keys ≡ keys_of (lines_in area (laid key image now))
  area_with None f is =
      elim (is_eq (nat_cmp area key.area)) as (λ b. is_eq (nat_cmp area key.area) ≡ b → keys ≡ keys_of (lines_in area (laid key image now))) [
        | true ↦ λ tie. absurd (none-some keys (sym f ∙ subst (λ (a : ℕ). (knows_over o).area a ≡ Some keys) (own_area tie) is))
        | false ↦ λ apart. elsewhere apart is
      ] refl
  area_with (Some before) f is =
      elim (is_eq (nat_cmp area key.area)) as (λ b. is_eq (nat_cmp area key.area) ≡ b → first_of (cond b (Some (written key (is_some image) before)) (find nat_cmp area o.areas)) ((knows o.base).area area) ≡ Some keys → keys ≡ keys_of (lines_in area (laid key image now))) [
        | true ↦ λ tie h.
            subst (λ (a : ℕ). keys ≡ keys_of (lines_in a (laid key image now))) (sym (own_area tie))
            (sym (same_Some _ _ h) ∙ ap (written key (is_some image)) (right key.area before f) ∙ keys_written key image now sorted)
        | false ↦ λ apart h. elsewhere apart h
      ] refl (ap (λ x. first_of x ((knows o.base).area area)) (sym (find-put nat_cmp nat_cmp_total area key.area (written key (is_some image) before) o.areas)) ∙ is)

-- ---- one more write

pub write_agrees : (o : Over) (key : Dbkey) (image : Option (List ℕ)) (first : Lines) → is_sorted dbkey_order o.lines ≡ true → IsInOrder first → Agrees (knows o.base) first → Agrees (knows_over o) (laid_over o.lines first) →
    Agrees (knows_over (with_over key image o)) (laid_over (with_over key image o).lines first)
write_agrees o key image first sorted ordered base agrees =
    let new = with_over key image o in
    let sorted' = sorted_put key image o.lines sorted in
    let now = laid_over o.lines first in
    record {
      line = line_over new first sorted' base;
      area = λ area keys is. subst (λ (l : Lines). keys ≡ keys_of (lines_in area l)) (sym (over_put key image o.lines first sorted ordered))
          (area_with o key image now (over_in_order o.lines first ordered) agrees.area area keys ((knows_over o).area key.area) refl is);
      within = within_over new first base;
      free = free_over new first sorted' base;
      apart = apart_over new first base;
    }

-- nothing is written
nothing_written : (h : Held) (first : Lines) → Agrees (knows h) first → Agrees (knows_over (record { base = h; lines = []; areas = [] })) (laid_over [] first)
nothing_written h first agrees =
    let o : Over = record { base = h; lines = []; areas = [] } in
    record { line = agrees.line; area = agrees.area; within = within_over o first agrees; free = free_over o first refl agrees; apart = apart_over o first agrees }

-- where no area is seen the view agrees too
pub sees_less : (h : Held) (first : Lines) → Agrees (knows h) first → Agrees (knows (seen_of false h)) first
sees_less h first agrees = record { line = agrees.line; area = λ area keys is. let bad : ⊥ = cc in absurd bad; within = agrees.within; free = agrees.free; apart = agrees.apart }

pub begins : (h : Held) (first : Lines) → IsInOrder first → Agrees (knows h) first → Stands (record { base = h; lines = []; areas = [] }) first
begins h first ordered agrees = record { ordered = ordered; base = agrees; agrees = nothing_written h first agrees }
