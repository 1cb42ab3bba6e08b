-- The catalog's lines behind writes.
use Rattle.std.proofs.Common.{◌≡◌, ℕ, suc, ◌+◌, ◌≤◌, false, cond, List, [], ◌∷◌, length, Some, None, T, refl, sym, ap, subst, ◌∙◌, arith}
use Rattle.std.specs.List.{AllByRecursion}
use Rattle.std.proofs.lemmas.List.Elements.{All-from_recursion, recursion_from_All}
use Rattle.std.specs.declared.cmp.Ordering.{Ordering}
use Rattle.std.specs.declared.cmp.Ordering.TheVariants.{Less, Equal, Greater}
use Rattle.std.specs.Ordering.{is_eq, match_ordering}
use Rattle.std.specs.BTreeSet.{insert_key}
use Rattle.std.specs.FinMap.Entries.{put, is_sorted-put}
use Rattle.rdb_types.specs.declared.keys.Dbkey.{Dbkey}
use Rattle.rdb_types.specs.Order.{dbkey_order}
use Rattle.rdb_types.specs.OrderLaws.{same_dbkey, dbkey_total}
use Rattle.line_view.specs.declared.need.Room.{Room}
use Rattle.line_view.specs.Knowledge.{Knowledge, Lines, IsInOrder, line_in, lines_in, keys_of, laid, Agrees}
use Rattle.line_view.proofs.FullMap.{laid_found, key_put}
use Rattle.line_view.specs.declared.writes.Write.{Write}
use Rattle.line_view.specs.Writes.{laid_all}
use Rattle.catalog_lines.specs.declared.line.CatalogLine.{CatalogLine}
use Rattle.catalog_lines.specs.Lines.{IsCatalogLine}
use Rattle.catalog.specs.declared.directory.PlacedLine.{PlacedLine}
use Rattle.catalog.specs.Reading.{catalog_area, line_keys, IsPresent, AreCatalogLines}
use Rattle.catalog_definitions.specs.Causes.{catalog_room}
use Rattle.catalog_definitions.specs.Written.{AreWritten}
use Rattle.catalog_definitions.proofs.Growth.{Step, Grows, all_step}
use Rattle.catalog_definitions.proofs.Basics.{true_from_T, itself}

-- ---- one write

abbrev at_key : Dbkey → CatalogLine → PlacedLine
at_key key line = record { key = key; line = line }

record Placed (key : Dbkey) (line : CatalogLine) (ps : List PlacedLine) : Type 0 where
  pub qs : List PlacedLine
  pub step : Step (at_key key line) ps qs
  pub keys : line_keys qs ≡ insert_key dbkey_order (line_keys ps) key

placed_by : (key : Dbkey) (line : CatalogLine) (q : PlacedLine) (ps : List PlacedLine) (r : Ordering) → dbkey_order key q.key ≡ r → (r ≡ Equal → ⊥) → Placed key line ps → Placed key line (q ∷ ps)
placed_by key line q ps Less is apart rest = record {
  qs = at_key key line ∷ q ∷ ps;
  step = record { before = []; behind = q ∷ ps; was = refl; now = refl };
  keys = sym (ap (λ r. match_ordering r (key ∷ q.key ∷ line_keys ps) (q.key ∷ line_keys ps) (q.key ∷ insert_key dbkey_order (line_keys ps) key)) is);
}
placed_by key line q ps Equal is apart rest = absurd (apart refl)
placed_by key line q ps Greater is apart rest = record {
  qs = q ∷ rest.qs;
  step = record { before = q ∷ rest.step.before; behind = rest.step.behind; was = ap (λ l. q ∷ l) rest.step.was; now = ap (λ l. q ∷ l) rest.step.now };
  keys = ap (λ ks. q.key ∷ ks) rest.keys ∙ sym (ap (λ r. match_ordering r (key ∷ q.key ∷ line_keys ps) (q.key ∷ line_keys ps) (q.key ∷ insert_key dbkey_order (line_keys ps) key)) is);
}

not_there : (all : Lines) (key : Dbkey) (q : PlacedLine) → line_in key all ≡ None → IsPresent all q → key ≡ q.key → ⊥
not_there all key q none is same = let there = ap (λ k. line_in k all) same in let present = is.present in cc

placed : (all : Lines) (key : Dbkey) (line : CatalogLine) → line_in key all ≡ None → (ps : List PlacedLine) → AllByRecursion (IsPresent all) ps → Placed key line ps
placed all key line none [] each = record { qs = at_key key line ∷ []; step = record { before = []; behind = []; was = refl; now = refl }; keys = refl }
placed all key line none (q ∷ ps) each =
    placed_by key line q ps (dbkey_order key q.key) refl (λ tie. not_there all key q none each.0 (same_dbkey key q.key tie)) (placed all key line none ps each.1)

still_there : (all : Lines) (key : Dbkey) (image : List ℕ) → line_in key all ≡ None → (q : PlacedLine) → IsPresent all q → IsPresent (put dbkey_order key image all) q
still_there all key image none q is =
    let other : is_eq (dbkey_order q.key key) ≡ false =
    elim (dbkey_order q.key key) as (λ r. dbkey_order q.key key ≡ r → is_eq r ≡ false) [
      | Less ↦ λ p. refl
      | Equal ↦ λ p. absurd (not_there all key q none is (sym (same_dbkey q.key key p)))
      | Greater ↦ λ p. refl
    ] refl in
    record { image = is.image; present = laid_found q.key key (Some image) all ∙ ap (λ b. cond b (Some image) (line_in q.key all)) other ∙ is.present; decodes = is.decodes }

pub found_itself : (all : Lines) (key : Dbkey) (image : List ℕ) → line_in key (laid key (Some image) all) ≡ Some image
found_itself all key image = laid_found key key (Some image) all ∙ ap (λ b. cond b (Some image) (line_in key all)) (itself key)

each_there : (all : Lines) (key : Dbkey) (image : List ℕ) → line_in key all ≡ None → (ps : List PlacedLine) → AllByRecursion (IsPresent all) ps → AllByRecursion (IsPresent (laid key (Some image) all)) ps
each_there all key image none [] each = tt
each_there all key image none (q ∷ ps) each = (still_there all key image none q each.0, each_there all key image none ps each.1)

record Laid (all : Lines) (n : PlacedLine) (ps : List PlacedLine) : Type 0 where
  pub qs : List PlacedLine
  pub step : Step n ps qs
  pub lines : AreCatalogLines all qs

laid_line : (all : Lines) (key : Dbkey) (image : List ℕ) (line : CatalogLine) (ps : List PlacedLine) → IsInOrder all → key.area ≡ catalog_area → line_in key all ≡ None → IsCatalogLine image line → AreCatalogLines all ps → Laid (laid key (Some image) all) (at_key key line) ps
laid_line all key image line ps sorted area none decodes are =
    let each = recursion_from_All (IsPresent all) ps are.images in
    let put_in = placed all key line none ps each in
    let own : insert_key dbkey_order (keys_of (lines_in catalog_area all)) key ≡ keys_of (lines_in catalog_area (put dbkey_order key image all)) =
    subst (λ (a : ℕ). insert_key dbkey_order (keys_of (lines_in a all)) key ≡ keys_of (lines_in a (put dbkey_order key image all))) area (sym (key_put key image all sorted)) in
    let new : IsPresent (laid key (Some image) all) (at_key key line) = record { image = image; present = found_itself all key image; decodes = decodes } in
    record {
      qs = put_in.qs;
      step = put_in.step;
      lines = record {
        keys = put_in.keys ∙ ap (λ ks. insert_key dbkey_order ks key) are.keys ∙ own;
        images = All-from_recursion (IsPresent (laid key (Some image) all)) put_in.qs
            (all_step (IsPresent (laid key (Some image) all)) (at_key key line) ps put_in.qs put_in.step new (each_there all key image none ps each));
      };
    }

-- ---- all writes

-- the rooms of the catalog from this one on are free
abbrev pub AreFree : Knowledge → ℕ → Lines → Type 0
AreFree known nth all = (m : ℕ) (key : Dbkey) → nth ≤ m → known.room (catalog_room m) ≡ Some key → line_in key all ≡ None

-- the lines at these keys
abbrev pub placed_at : List Dbkey → List CatalogLine → List PlacedLine
placed_at (key ∷ keys) (line ∷ lines) = record { key = key; line = line } ∷ placed_at keys lines
placed_at [] lines = []
placed_at (key ∷ keys) [] = []

pub record LaidAll (all : Lines) (ls : List CatalogLine) (ps : List PlacedLine) : Type 0 where
  pub keys : List Dbkey
  pub count : length keys ≡ length ls
  pub rs : List PlacedLine
  pub grows : Grows (placed_at keys ls) ps rs
  pub lines : AreCatalogLines all rs

-- the rooms are different lines of the catalog's area
pub record AreApart (known : Knowledge) : Type 0 where
  pub within : (m : ℕ) (key : Dbkey) → known.room (catalog_room m) ≡ Some key → key.area ≡ catalog_area
  pub apart : (m n : ℕ) (key : Dbkey) → known.room (catalog_room m) ≡ Some key → known.room (catalog_room n) ≡ Some key → m ≡ n

free_behind : (known : Knowledge) (nth : ℕ) (all : Lines) (key : Dbkey) (image : List ℕ) → AreApart known → known.room (catalog_room nth) ≡ Some key → AreFree known nth all → AreFree known (nth + 1) (laid key (Some image) all)
free_behind known nth all key image rooms is free m other later room =
    let none = free m other (omega arith) room in
    let differ : is_eq (dbkey_order other key) ≡ false =
    elim (dbkey_order other key) as (λ r. dbkey_order other key ≡ r → is_eq r ≡ false) [
      | Less ↦ λ p. refl
      | Equal ↦ λ p. let same = rooms.apart m nth key (room ∙ ap Some (same_dbkey other key p)) is in absurd (omega (arith, same, later))
      | Greater ↦ λ p. refl
    ] refl in
    laid_found other key (Some image) all ∙ ap (λ b. cond b (Some image) (line_in other all)) differ ∙ none

in_order : (key : Dbkey) (image : List ℕ) (all : Lines) → IsInOrder all → IsInOrder (laid key (Some image) all)
in_order key image all sorted = true_from_T _ (is_sorted-put dbkey_order dbkey_total key image all (subst T (sym sorted) tt))

pub laid_lines : (known : Knowledge) (nth : ℕ) (lines : List CatalogLine) (writes : List Write) → AreWritten known nth lines writes → AreApart known → (all : Lines) → IsInOrder all → AreFree known nth all → (ps : List PlacedLine) → AreCatalogLines all ps → LaidAll (laid_all writes all) lines ps
laid_lines known nth [] [] written rooms all sorted free ps are = record { keys = []; count = refl; rs = ps; grows = refl; lines = are }
laid_lines known nth [] (w ∷ writes) written rooms all sorted free ps are = absurd written
laid_lines known nth (line ∷ lines) [] written rooms all sorted free ps are = absurd written
laid_lines known nth (line ∷ lines) (w ∷ writes) written rooms all sorted free ps are =
    let room = written.0 in
    let bytes = written.1.bytes in
    let none = free nth w.key (omega arith) room in
    let one = laid_line all w.key bytes line ps sorted (rooms.within nth w.key room) none written.1.decodes are in
    let rest = laid_lines known (nth + 1) lines writes written.2 rooms (laid w.key (Some bytes) all) (in_order w.key bytes all sorted) (free_behind known nth all w.key bytes rooms room free) one.qs one.lines in
    record {
      keys = w.key ∷ rest.keys;
      count = ap suc rest.count;
      rs = rest.rs;
      grows = (one.qs, one.step, rest.grows);
      lines = subst (λ l. AreCatalogLines l rest.rs) (ap (λ o. laid_all writes (laid w.key o all)) (sym written.1.present)) rest.lines;
    }

pub rooms_apart : (known : Knowledge) (all : Lines) → Agrees known all → AreApart known
rooms_apart known all agrees = record {
  within = λ m key is. agrees.within (catalog_room m) key is;
  apart = λ m n key is too. ap (λ (r : Room). r.nth) (agrees.apart (catalog_room m) (catalog_room n) key is too);
}

pub rooms_free : (known : Knowledge) (all : Lines) → Agrees known all → AreFree known 0 all
rooms_free known all agrees m key later is = agrees.free (catalog_room m) key is
