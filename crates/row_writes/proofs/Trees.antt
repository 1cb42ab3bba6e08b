-- The pair of a row in one index, by the index's tree.
use Rattle.std.proofs.Common.{◌≡◌, ◌≢◌, ℕ, true, cond, List, [], ◌∷◌, Option, Some, None, inl, inr, refl, sym, ap, subst, ◌∙◌}
use Rattle.std.specs.Prelude.{Result, Ok, Err, is_none, option_map}
use Rattle.std.specs.FinMap.Entries.{find}
use Rattle.std.proofs.lemmas.Option.{none-some, same_Some}
use Rattle.rdb_types.specs.declared.keys.Dbkey.{Dbkey}
use Rattle.rdb_types.specs.declared.values.Value.{Value}
use Rattle.rdb_types.specs.Order.{dbkey_order}
use Rattle.rdb_meaning.specs.Contents.{Row, key_of}
use Rattle.line_view.specs.declared.need.Need.{Need}
use Rattle.line_view.specs.declared.need.Need.TheVariants as needs
use Rattle.line_view.specs.declared.need.Room.{Room}
use Rattle.line_view.specs.declared.stop.Stop.TheVariants.{Missing, Bad, NoMemory, Own}
use Rattle.line_view.specs.declared.writes.Write.{Write}
use Rattle.line_view.specs.Knowledge.{Knowledge, Lines, Agrees}
use Rattle.line_view.specs.Held.{knows}
use Rattle.line_view.specs.Stops.{Stops, Lacks}
use Rattle.line_view.specs.Writes.{laid_all}
use Rattle.catalog_lines.specs.declared.line.IndexLine.{IndexLine}
use Rattle.index_node.specs.declared.entry.NodeEntry.{NodeEntry}
use Rattle.sorted_index_laws.specs.Stop.{IndexStop}
use Rattle.sorted_index_laws.specs.Tree.{Tree, pairs, IsIndex}
use Rattle.sorted_index_laws.specs.Changes.{pair_of, without_pair, path, Changes}
use Rattle.sorted_index_laws.specs.Search.{first_unknown}
use Rattle.sorted_index_laws.specs.Insertion.{IsNew, Inserts, lines_read, room_at}
use Rattle.statement_view.specs.Over.{Over, Stands, laid_over, knows_over, first_of, all_rooms, AreRoomsKnown}
use Rattle.row_writes.specs.declared.stop.PairRefusal.{PairRefusal}
use Rattle.row_writes.specs.declared.stop.PairRefusal.TheVariants.{LongKey, Full}
use Rattle.row_writes.specs.Stop.{PairStop}
use Rattle.row_writes.specs.Pairs.{Tells, TellsRoom, TakesPair, AddsPair, CanNotGrow, PairRefused, IsLongKey, has_taken}

-- ---- what is lacked

first_lacks : (known : Knowledge) (keys : List Dbkey) (key : Dbkey) → first_unknown known keys ≡ Some key → known.line key ≡ None
first_lacks known [] key is = absurd (none-some key is)
first_lacks known (k ∷ ks) key is =
    elim (known.line k) as (λ f. known.line k ≡ f → cond (is_none f) (Some k) (first_unknown known ks) ≡ Some key → known.line key ≡ None) [
      | Some w ↦ λ f h. first_lacks known ks key h
      | None ↦ λ f h. ap known.line (sym (same_Some _ _ h)) ∙ f
    ] refl is

-- a line that the view lacks isn't known
pub below_lacks : (o : Over) (key : Dbkey) → (knows_over o).line key ≡ None → (knows o.base).line key ≡ None
below_lacks o key none = by_case (find dbkey_order key o.lines) none where
  by_case : (f : Option (Option (List ℕ))) → first_of f ((knows o.base).line key) ≡ None → (knows o.base).line key ≡ None
  by_case (Some x) h = absurd (none-some x (sym h))
  by_case None h = h

abbrev line_of : Option Need → Option Dbkey
line_of (Some (needs.Line q)) = Some q
line_of (Some (needs.Area a)) = None
line_of (Some (needs.Room r)) = None
line_of None = None

pub a_line : (o : Option Dbkey) (q : Dbkey) → option_map needs.Line o ≡ Some (needs.Line q) → o ≡ Some q
a_line (Some k) q is = ap line_of is
a_line None q is = absurd (none-some (needs.Line q) is)

pub no_area : (o : Option Dbkey) (a : ℕ) → option_map needs.Line o ≡ Some (needs.Area a) → ⊥
no_area (Some k) a is = let bad : ⊥ = cc in bad
no_area None a is = none-some (needs.Area a) is

pub no_room : (o : Option Dbkey) (r : Room) → option_map needs.Line o ≡ Some (needs.Room r) → ⊥
no_room (Some k) r is = let bad : ⊥ = cc in bad
no_room None r is = none-some (needs.Room r) is

-- ---- all writes of a change

abbrev pub Stays : Over → Over → Type 0
Stays old new = (first : Lines) → Stands old first → Stands new first

abbrev pub AllLaid : Over → Over → List Write → Type 0
AllLaid old new writes = (first : Lines) → Stands old first → laid_over new.lines first ≡ laid_all writes (laid_over old.lines first)

-- ---- a pair taken out

abbrev pub ChangesAll : Over → IndexLine → List Value → Dbkey → Result (List Write) IndexStop → Type 0
ChangesAll old x k key result = (all : Lines) (level : ℕ) (tree : Tree level) → Agrees (knows_over old) all → IsIndex all x.root level tree →
    Changes (knows_over old) all x.root level tree (path (pair_of k key) level tree) (without_pair (pair_of k key) (pairs level tree)) result

pub pair_taken : (old new : Over) (x : IndexLine) (row : Row) (key : Dbkey) (k : List Value) (said writes : List Write) → k ≡ key_of x.fields row → writes ≡ said → ChangesAll old x k key (Ok said) → Stays old new → AllLaid old new writes → TakesPair old new x row key (Ok tt)
pair_taken old new x row key k said writes is same changes stay laid = λ first level tree st index.
    let left = subst (λ k. ChangesAll old x k key (Ok said)) is changes (laid_over old.lines first) level tree st.agrees index in
    record { stands = stay first st; writes = said; laid = laid first st ∙ ap (λ ws. laid_all ws (laid_over old.lines first)) same; leaves = left.0.0 }

module _ (old : Over) (lines : Lines) (root : Dbkey) (level : ℕ) (tree : Tree level) (read : List Dbkey) (left : List NodeEntry) where
  abbrev Said : PairStop → Type 0
  Said = Stops (Lacks (knows old.base)) (λ at. ⊥) (λ (refusal : PairRefusal). ⊥)

  removal_told : (stop : IndexStop) (told : PairStop) → Tells old.base stop told → Changes (knows_over old) lines root level tree read left (Err stop) → Said told
  removal_told (Missing (needs.Line q)) told tells said = subst Said (sym tells) (below_lacks old q (first_lacks (knows_over old) read q (a_line (first_unknown (knows_over old) read) q said)))
  removal_told (Missing (needs.Area a)) told tells said = absurd (no_area (first_unknown (knows_over old) read) a said)
  removal_told (Missing (needs.Room r)) told tells said = absurd (no_room (first_unknown (knows_over old) read) r said)
  removal_told (Bad q) told tells said = absurd said
  removal_told (Own d) told tells said = absurd said
  removal_told NoMemory told tells said = subst Said (sym tells) tt

pub taking_stops : (old new : Over) (x : IndexLine) (row : Row) (key : Dbkey) (k : List Value) (stop : IndexStop) (told : PairStop) → ChangesAll old x k key (Err stop) → Tells old.base stop told → TakesPair old new x row key (Err told)
taking_stops old new x row key k stop told changes tells = λ first level tree st index.
    removal_told old (laid_over old.lines first) x.root level tree (path (pair_of k key) level tree) (without_pair (pair_of k key) (pairs level tree)) stop told tells (changes (laid_over old.lines first) level tree st.agrees index)

-- ---- a pair put in

abbrev pub InsertsAll : Over → IndexLine → List Value → Dbkey → Result (List Write) IndexStop → Type 0
InsertsAll old x k key result = (all : Lines) (level : ℕ) (tree : Tree level) → Agrees (knows_over old) all → IsIndex all x.root level tree → IsNew (pair_of k key) (pairs level tree) → Inserts (knows_over old) all x.root (pair_of k key) x.unique level tree result

pub pair_added : (old new : Over) (x : IndexLine) (row : Row) (key : Dbkey) (k : List Value) (said writes : List Write) → k ≡ key_of x.fields row → writes ≡ said → InsertsAll old x k key (Ok said) → Stays old new → AllLaid old new writes → AddsPair old new x row key (Ok tt)
pair_added old new x row key k said writes is same inserts stay laid = λ first level tree st index fresh.
    let left = subst (λ k. InsertsAll old x k key (Ok said)) is inserts (laid_over old.lines first) level tree st.agrees index fresh in
    (record { stands = stay first st; writes = said; laid = laid first st ∙ ap (λ ws. laid_all ws (laid_over old.lines first)) same; leaves = left.0 }, left.2)

pub long_key : (old new : Over) (x : IndexLine) (row : Row) (key : Dbkey) → IsLongKey x row → AddsPair old new x row key (Err (Own LongKey))
long_key old new x row key long = λ first level tree st index fresh. long

module _ (old : Over) (x : IndexLine) (row : Row) (key : Dbkey) (first : Lines) (level : ℕ) (tree : Tree level) (index : IsIndex (laid_over old.lines first) x.root level tree) where
  abbrev Added : PairStop → Type 0
  Added = Stops (Lacks (knows old.base)) (λ at. ⊥) (PairRefused (has_taken x row (pairs level tree) ≡ true) (IsLongKey x row) (CanNotGrow old.base first x))

  abbrev pair : NodeEntry
  pair = pair_of (key_of x.fields row) key

  room_told : (room : Room) (nth : ℕ) (told : PairStop) → room ≡ room_at x.root.area nth → TellsRoom old.base room told → Added told
  room_told room nth (Missing need) is tells = tells.0
  room_told room nth (Own refusal) is tells =
      subst (PairRefused (has_taken x row (pairs level tree) ≡ true) (IsLongKey x row) (CanNotGrow old.base first x)) (sym tells.0) (inl (subst (λ (r : Room). AreRoomsKnown (knows old.base) r.area r.class all_rooms) is tells.1))
  room_told room nth (Bad q) is tells = absurd tells
  room_told room nth NoMemory is tells = absurd tells

  insertion_told : (stop : IndexStop) (told : PairStop) → (stop ≡ Bad x.root → told ≡ Own Full) → (stop ≢ Bad x.root → Tells old.base stop told) → Inserts (knows_over old) (laid_over old.lines first) x.root pair x.unique level tree (Err stop) → Added told
  insertion_told (Missing (needs.Line q)) told root others said =
      subst Added (sym (others (λ same. let bad : ⊥ = cc in bad))) (below_lacks old q (first_lacks (knows_over old) (lines_read x.unique pair level tree) q said))
  insertion_told (Missing (needs.Area a)) told root others said = absurd said
  insertion_told (Missing (needs.Room room)) told root others said = room_told room said.0.0 told said.0.2 (others (λ same. let bad : ⊥ = cc in bad))
  insertion_told (Bad q) told root others said = subst Added (sym (root (ap Bad said.0))) (inr (record { written = old.lines; level = level; tree = tree; index = index; highest = said.1 }))
  insertion_told (Own d) told root others said = subst Added (sym (others (λ same. let bad : ⊥ = cc in bad))) said
  insertion_told NoMemory told root others said = subst Added (sym (others (λ same. let bad : ⊥ = cc in bad))) tt

pub adding_stops : (old new : Over) (x : IndexLine) (row : Row) (key : Dbkey) (k : List Value) (stop : IndexStop) (told : PairStop) → k ≡ key_of x.fields row → InsertsAll old x k key (Err stop) →
    (stop ≡ Bad x.root → told ≡ Own Full) → (stop ≢ Bad x.root → Tells old.base stop told) → AddsPair old new x row key (Err told)
adding_stops old new x row key k stop told is inserts root others = λ first level tree st index fresh.
    insertion_told old x row key first level tree index stop told root others
    (subst (λ k. InsertsAll old x k key (Err stop)) is inserts (laid_over old.lines first) level tree st.agrees index fresh)
