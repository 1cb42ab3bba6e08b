-- What a view over the lines of one area knows is so.
use Rattle.std.proofs.Common.{◌≡◌, ℕ, ◌==◌, Bool, true, false, cond, List, Option, Some, None, refl, sym, ap, subst, ◌∙◌}
use Rattle.std.specs.Prelude.{option_map}
use Rattle.std.specs.Ordering.{is_eq, nat_cmp}
use Rattle.std.specs.Cmp.{nat_cmp_total, tied_itself}
use Rattle.std.specs.FinMap.Entries.{find, find-put, find-where_key}
use Rattle.std.proofs.lemmas.Bool.{eqb-true}
use Rattle.std.proofs.lemmas.Option.{none-some, same_Some}
use Rattle.rdb_types.specs.declared.keys.Dbkey.{Dbkey}
use Rattle.rdb_types.specs.Order.{dbkey_order}
use Rattle.rdb_types.specs.OrderLaws.{same_dbkey}
use Rattle.line_view.specs.Knowledge.{Lines, IsInOrder, Agrees, line_in, lines_in, keys_of}
use Rattle.line_view.specs.Held.{Held, knows as held_knows, nothing, ordered, with_lines, with_area, AreRooms}
use Rattle.line_view.proofs.Agreements.{area_known}
use Rattle.lines_at_rest.specs.View.{HeldArea, knows}

no_rooms : AreRooms nothing.rooms
no_rooms = record {
  within = λ room key is. absurd (none-some key is);
  apart = λ a b key is too. absurd (none-some key is);
}

nothing_agrees : (all : Lines) → Agrees (held_knows nothing) all
nothing_agrees all = record {
  line = λ key what is. absurd (none-some what is);
  area = λ area keys is. absurd (none-some keys is);
  within = λ room key is. absurd (none-some key is);
  free = λ room key is. absurd (none-some key is);
  apart = λ a b key is too. absurd (none-some key is);
}

module _ (area : ℕ) (lines all : Lines) (sorted : IsInOrder all) (are : lines ≡ lines_in area all) where
  -- the keys are in order as they stand
  keys_are : ordered (keys_of lines) ≡ keys_of (lines_in area all)
  keys_are = (area_known nothing area lines no_rooms all sorted (nothing_agrees all) are).area area (ordered (keys_of lines))
      (find-put nat_cmp nat_cmp_total area area (ordered (keys_of lines)) (with_lines lines nothing).areas
      ∙ ap (λ r. cond (is_eq r) (Some (ordered (keys_of lines))) (find nat_cmp area (with_lines lines nothing).areas)) (tied_itself nat_cmp_total area))

  in_area : (key : Dbkey) → find dbkey_order key lines ≡ cond (key.area == area) (line_in key all) None
  in_area key = ap (λ (l : Lines). find dbkey_order key l) are ∙ find-where_key dbkey_order (λ k. k.area == area) key (λ k tied. ap (λ (x : Dbkey). x.area == area) (sym (same_dbkey key k tied))) all

  line_so : (key : Dbkey) (what : Option (List ℕ)) (own : Bool) → option_map Some (cond own (line_in key all) None) ≡ Some what → what ≡ line_in key all
  line_so key what false told = absurd (none-some what told)
  line_so key what true told = elim (line_in key all) as (λ o. option_map Some o ≡ Some what → what ≡ o) [
    | None ↦ λ h. absurd (none-some what h)
    | Some image ↦ λ h. sym (same_Some _ _ h)
  ] told

  area_so : (a : ℕ) (keys : List Dbkey) (own : Bool) → (a == area) ≡ own → cond own (Some (ordered (keys_of lines))) None ≡ Some keys → keys ≡ keys_of (lines_in a all)
  area_so a keys false own told = absurd (none-some keys told)
  area_so a keys true own told = sym (same_Some _ _ told) ∙ keys_are ∙ ap (λ (n : ℕ). keys_of (lines_in n all)) (sym (eqb-true a area own))

  pub view_agrees : Agrees (knows (record { area = area; lines = lines })) all
  view_agrees = record {
    line = λ key what told. line_so key what (key.area == area) (ap (λ (o : Option (List ℕ)). option_map Some o) (sym (in_area key)) ∙ told);
    area = λ a keys told. area_so a keys (a == area) refl told;
    within = λ room key told. absurd (none-some key told);
    free = λ room key told. absurd (none-some key told);
    apart = λ a b key told too. absurd (none-some key told);
  }
