-- A search that goes over the entries of a node where they lie.
use Rattle.std.proofs.Common.{◌≡◌, ◌≢◌, ◌<◌, ◌≤◌, ℕ, zero, suc, ◌+◌, ◌-◌, Bool, true, false, cond, List, [], ◌∷◌, ◌++◌, length, drop, Option, Some, None, refl, sym, ap, subst, ◌∙◌, arith, add-one, append_assoc}
use Rattle.std.specs.Prelude.{Result, Ok, Err, OnOk, map}
use Rattle.std.specs.List.{filter}
use Rattle.std.proofs.lemmas.List.{append-nil, drop_all}
use Rattle.rdb_types.specs.declared.values.Value.{Value}
use Rattle.rdb_types.specs.declared.keys.Dbkey.{Dbkey}
use Rattle.index_node.specs.declared.entry.NodeEntry.{NodeEntry}
use Rattle.index_node.specs.declared.node.IndexNode.{IndexNode}
use Rattle.line_view.specs.Knowledge.{Lines, Knowledge, Agrees}
use Rattle.node_search.specs.declared.entry.FoundEntry.{FoundEntry}
use Rattle.node_search.specs.declared.node.BorrowedNode.{BorrowedNode}
use Rattle.node_search.specs.Entries.{ShowsKey, Shows, IsFirst, Begins}
use Rattle.node_search.specs.Nodes.{Holds}
use Rattle.node_search.proofs.Entries.{first_of}
use Rattle.node_search.proofs.Walks.{is_at}
use Rattle.sorted_index_laws.specs.Stop.{IndexStop}
use Rattle.sorted_index_laws.specs.Keys.{Interval, is_within}
use Rattle.sorted_index_laws.specs.Tree.{Tree, node_of, pairs, Stands}
use Rattle.sorted_index_laws.specs.Search.{rows_within, may_hold, reads_below}
use Rattle.sorted_index_laws.specs.Nodes.{AreThere, Judges}
use Rattle.sorted_index_laws.specs.Inner.Steps.{ReadsNode, Adds}
use Rattle.sorted_index_laws.proofs.Intervals.{IsConvex}
use Rattle.sorted_index_laws.proofs.Children.{is_first}
use Rattle.sorted_index_laws.proofs.Judged.{Judged}
use Rattle.sorted_index_laws.proofs.Below.{HasWalked, HasAdded, walk_passed, walk_childless, walk_visited, walk_stopped, walk_misses, walk_ended, judged_visited, judged_over, judged_childless, judged_misses, judged_stopped, judged_ended}

-- the search has come to this entry, the nth of the node
pub record HasGone (known : Knowledge) (s : Interval) (borrowed : BorrowedNode) (node : IndexNode) (next : Option FoundEntry) (first : Bool) (old found : List Dbkey) : Type 0 where
  pub nth : ℕ
  pub begins : Begins borrowed.level borrowed.bytes.now next (drop nth node.entries)
  pub first_is : first ≡ is_first nth
  pub walked : HasWalked known s node nth old found
  pub judged : (all : Lines) → Agrees known all → Judged all s (node.level - 1) node.entries nth

-- what a search below a node adds, and which nodes it finds, where the node is borrowed
abbrev pub AddsBelow : Knowledge → Interval → BorrowedNode → List Dbkey → List Dbkey → Result Unit IndexStop → Type 0
AddsBelow known s borrowed old new r = (all : Lines) (area level : ℕ) (tree : Tree level) → Agrees known all → Stands all area level tree → Holds borrowed (node_of level tree) → Adds known (reads_below s level tree) (rows_within s (pairs level tree)) old new r

pub added : (known : Knowledge) (s : Interval) (borrowed : BorrowedNode) (node : IndexNode) (old new : List Dbkey) (r : Result Unit IndexStop) → Holds borrowed node → AddsBelow known s borrowed old new r → HasAdded known s node old new r
added known s borrowed node old new r holds adds all area level tree agrees stands is = adds all area level tree agrees stands (subst (λ (n : IndexNode). Holds borrowed n) (sym is) holds)

pub adds_below : (known : Knowledge) (s : Interval) (borrowed : BorrowedNode) (old new : List Dbkey) (r : Result Unit IndexStop) → ((node : IndexNode) → Holds borrowed node → HasAdded known s node old new r) → AddsBelow known s borrowed old new r
adds_below known s borrowed old new r adds all area level tree agrees stands holds = adds (node_of level tree) holds all area level tree agrees stands refl

-- ---- the entry that the search is at, and its child

-- the child of the entry, if it is read
abbrev pub Chosen : Interval → Bool → FoundEntry → Option FoundEntry → Option Dbkey → Type 0
Chosen s first own next child = (entry : NodeEntry) (behind : List NodeEntry) → Shows own.entry entry → IsFirst next behind → child ≡ cond (may_hold s first (entry ∷ behind)) entry.child None

-- the entry that the search is at, with what is told of it
pub record IsHere (s : Interval) (borrowed : BorrowedNode) (node : IndexNode) (own : FoundEntry) (next : Option FoundEntry) (nth : ℕ) (child : Option Dbkey) : Type 0 where
  pub entry : NodeEntry
  pub inside : nth < length node.entries
  pub here : drop nth node.entries ≡ entry ∷ drop (suc nth) node.entries
  pub next_begins : Begins borrowed.level borrowed.bytes.now next (drop (suc nth) node.entries)
  pub chosen : child ≡ cond (may_hold s (is_first nth) (drop nth node.entries)) entry.child None

pub is_here : (known : Knowledge) (s : Interval) (borrowed : BorrowedNode) (node : IndexNode) (own : FoundEntry) (next was_next : Option FoundEntry) (first : Bool) (old found : List Dbkey) (child : Option Dbkey) → was_next ≡ Some own
    → ((entry : NodeEntry) (entries : List NodeEntry) → Begins borrowed.level borrowed.bytes.now (Some own) (entry ∷ entries) → Begins borrowed.level borrowed.bytes.now next entries)
    → Chosen s first own next child → (gone : HasGone known s borrowed node was_next first old found) → IsHere s borrowed node own next gone.nth child
is_here known s borrowed node own next was_next first old found child is further choice gone =
    let at = is_at borrowed.level borrowed.bytes.now own node.entries gone.nth (subst (λ (o : Option FoundEntry). Begins borrowed.level borrowed.bytes.now o (drop gone.nth node.entries)) is gone.begins) in
    let behind = further at.entry (drop (suc gone.nth) node.entries) at.begins in
    record {
      entry = at.entry;
      inside = at.inside;
      here = at.here;
      next_begins = behind;
      chosen = choice at.entry (drop (suc gone.nth) node.entries) at.shows (first_of borrowed.level borrowed.bytes.now next (drop (suc gone.nth) node.entries) behind)
          ∙ ap (λ f. cond (may_hold s f (at.entry ∷ drop (suc gone.nth) node.entries)) at.entry.child None) gone.first_is
          ∙ ap (λ es. cond (may_hold s (is_first gone.nth) es) at.entry.child None) (sym at.here);
    }

-- a child that is read is the entry's, and may hold a pair
chosen_some : (b : Bool) (child : Option Dbkey) (at : Dbkey) → Some at ≡ cond b child None → (b ≡ true) × (child ≡ Some at)
chosen_some true child at is = (refl, sym is)
chosen_some false child at is = absurd (let bad : ⊥ = cc in bad)

pub may_stand : (s : Interval) (borrowed : BorrowedNode) (node : IndexNode) (own : FoundEntry) (next : Option FoundEntry) (nth : ℕ) (child : Option Dbkey) (at : Dbkey) → child ≡ Some at → (h : IsHere s borrowed node own next nth child) → (may_hold s (is_first nth) (drop nth node.entries) ≡ true) × (h.entry.child ≡ Some at)
may_stand s borrowed node own next nth child at is h = chosen_some (may_hold s (is_first nth) (drop nth node.entries)) h.entry.child at (sym is ∙ h.chosen)

-- ---- one step further

begins_further : (level : ℕ) (bytes : List ℕ) (next : Option FoundEntry) (entries : List NodeEntry) (nth : ℕ) → Begins level bytes next (drop (suc nth) entries) → Begins level bytes next (drop (nth + 1) entries)
begins_further level bytes next entries nth begins = subst (λ (n : ℕ). Begins level bytes next (drop n entries)) (sym (add-one nth)) begins

not_first : (nth : ℕ) → false ≡ is_first (nth + 1)
not_first nth = ap is_first (sym (add-one nth))

-- past a child that isn't read
pub gone_past : (known : Knowledge) (s : Interval) (borrowed : BorrowedNode) (node : IndexNode) (own : FoundEntry) (next was_next : Option FoundEntry) (first : Bool) (old found : List Dbkey) (child : Option Dbkey) → IsConvex s → child ≡ None → (gone : HasGone known s borrowed node was_next first old found)
    → IsHere s borrowed node own next gone.nth child → HasGone known s borrowed node next false old found
gone_past known s borrowed node own next was_next first old found child convex is gone h =
    let nth = gone.nth in
    record {
      nth = nth + 1;
      begins = begins_further borrowed.level borrowed.bytes.now next node.entries nth h.next_begins;
      first_is = not_first nth;
      walked = walked_past (may_hold s (is_first nth) (drop nth node.entries)) refl;
      judged = λ all agrees. judged_past all (may_hold s (is_first nth) (drop nth node.entries)) refl (gone.judged all agrees);
    }
  where
    nothing : (b : Bool) → may_hold s (is_first gone.nth) (drop gone.nth node.entries) ≡ b → None ≡ cond b h.entry.child None
    nothing b same = sym is ∙ h.chosen ∙ ap (λ c. cond c h.entry.child None) same

    walked_past : (b : Bool) → may_hold s (is_first gone.nth) (drop gone.nth node.entries) ≡ b → HasWalked known s node (gone.nth + 1) old found
    walked_past true same = walk_childless known s node gone.nth old found h.entry h.inside h.here (sym (nothing true same))
    walked_past false same = walk_passed known s node gone.nth old found convex gone.walked h.inside same

    judged_past : (all : Lines) (b : Bool) → may_hold s (is_first gone.nth) (drop gone.nth node.entries) ≡ b → Judged all s (node.level - 1) node.entries gone.nth → Judged all s (node.level - 1) node.entries (gone.nth + 1)
    judged_past all true same was = judged_childless s node gone.nth (node.level - 1) h.entry all h.here (sym (nothing true same)) was
    judged_past all false same was = judged_over s node gone.nth (node.level - 1) h.entry all h.here same was

-- past a child that was read
pub gone_below : (known : Knowledge) (s : Interval) (borrowed : BorrowedNode) (node : IndexNode) (own : FoundEntry) (next was_next : Option FoundEntry) (first : Bool) (old found new : List Dbkey) (child : Option Dbkey) (at : Dbkey) (lower : BorrowedNode) (below : IndexNode) (done : Unit) → child ≡ Some at → Holds lower below
    → ReadsNode known at (λ n. n.level ≡ node.level - 1) (Ok below) → AddsBelow known s lower found new (Ok done) → ((all : Lines) → Agrees known all → Judges {T = Unit} all s below.level below.entries (Ok done))
    → (gone : HasGone known s borrowed node was_next first old found) → IsHere s borrowed node own next gone.nth child → HasGone known s borrowed node next false old new
gone_below known s borrowed node own next was_next first old found new child at lower below done is holds reading adds judges gone h =
    let stand = may_stand s borrowed node own next gone.nth child at is h in
    record {
      nth = gone.nth + 1;
      begins = begins_further borrowed.level borrowed.bytes.now next node.entries gone.nth h.next_begins;
      first_is = not_first gone.nth;
      walked = walk_visited known s node gone.nth old found new h.entry at below done gone.walked h.inside h.here stand.0 stand.1 reading.0 (added known s lower below found new (Ok done) holds adds);
      judged = λ all agrees. judged_visited known s node gone.nth (node.level - 1) h.entry at below done h.here stand.0 stand.1 reading all agrees (judges all agrees) (gone.judged all agrees);
    }

-- ---- where it stops

pub gone_missing : (known : Knowledge) (s : Interval) (borrowed : BorrowedNode) (node : IndexNode) (own : FoundEntry) (next was_next : Option FoundEntry) (first : Bool) (old found : List Dbkey) (child : Option Dbkey) (at : Dbkey) (e : IndexStop) → node.level ≢ 0 → child ≡ Some at
    → ReadsNode known at (λ n. n.level ≡ node.level - 1) (Err e) → (gone : HasGone known s borrowed node was_next first old found) → IsHere s borrowed node own next gone.nth child
    → HasAdded known s node old found (Err e) × ((all : Lines) → Agrees known all → Judges {T = Unit} all s node.level node.entries (Err e))
gone_missing known s borrowed node own next was_next first old found child at e inner is reading gone h =
    let stand = may_stand s borrowed node own next gone.nth child at is h in (
      walk_misses known s node gone.nth (node.level - 1) old found h.entry at e inner refl gone.walked h.inside h.here stand.0 stand.1 reading,
      λ all agrees. judged_misses known s node gone.nth (node.level - 1) h.entry at e inner refl h.here stand.0 stand.1 reading all agrees (gone.judged all agrees),
    )

pub gone_stopped : (known : Knowledge) (s : Interval) (borrowed : BorrowedNode) (node : IndexNode) (own : FoundEntry) (next was_next : Option FoundEntry) (first : Bool) (old found new : List Dbkey) (child : Option Dbkey) (at : Dbkey) (lower : BorrowedNode) (below : IndexNode) (e : IndexStop) → node.level ≢ 0 → child ≡ Some at → Holds lower below
    → ReadsNode known at (λ n. n.level ≡ node.level - 1) (Ok below) → AddsBelow known s lower found new (Err e) → ((all : Lines) → Agrees known all → Judges {T = Unit} all s below.level below.entries (Err e))
    → (gone : HasGone known s borrowed node was_next first old found) → IsHere s borrowed node own next gone.nth child
    → HasAdded known s node old new (Err e) × ((all : Lines) → Agrees known all → Judges {T = Unit} all s node.level node.entries (Err e))
gone_stopped known s borrowed node own next was_next first old found new child at lower below e inner is holds reading adds judges gone h =
    let stand = may_stand s borrowed node own next gone.nth child at is h in (
      walk_stopped known s node gone.nth old found new h.entry at below e inner gone.walked h.inside h.here stand.0 stand.1 reading.0 (added known s lower below found new (Err e) holds adds),
      λ all agrees. judged_stopped known s node gone.nth (node.level - 1) h.entry at below e inner refl h.here stand.0 stand.1 reading all agrees (judges all agrees) (gone.judged all agrees),
    )

nothing_begins : (level : ℕ) (bytes : List ℕ) (entries : List NodeEntry) (nth : ℕ) → Begins level bytes None (drop nth entries) → length entries ≤ nth
nothing_begins level bytes [] nth begins = omega arith
nothing_begins level bytes (entry ∷ entries) zero begins = absurd begins
nothing_begins level bytes (entry ∷ entries) (suc nth) begins = omega (arith, nothing_begins level bytes entries nth begins)

pub gone_over : (known : Knowledge) (s : Interval) (borrowed : BorrowedNode) (node : IndexNode) (next : Option FoundEntry) (first : Bool) (old found : List Dbkey) (done : Unit) → node.level ≢ 0 → next ≡ None → HasGone known s borrowed node next first old found
    → HasAdded known s node old found (Ok done) × ((all : Lines) → Agrees known all → AreThere all s node.level node.entries)
gone_over known s borrowed node next first old found done inner is gone =
    let past = nothing_begins borrowed.level borrowed.bytes.now node.entries gone.nth (subst (λ (o : Option FoundEntry). Begins borrowed.level borrowed.bytes.now o (drop gone.nth node.entries)) is gone.begins) in
    (walk_ended known s node gone.nth old found done inner gone.walked past, λ all agrees. judged_ended s node gone.nth (node.level - 1) inner refl past all (gone.judged all agrees))

-- ---- rows of a leaf

rows_of : (s : Interval) (own : NodeEntry) (left : List NodeEntry) (held : Bool) → held ≡ is_within s own.key → rows_within s (own ∷ left) ≡ cond held (own.row ∷ rows_within s left) (rows_within s left)
rows_of s own left true is = ap (λ b. map (λ (p : NodeEntry). p.row) (cond b (own ∷ filter (λ p. is_within s p.key) left) (filter (λ p. is_within s p.key) left))) (sym is)
rows_of s own left false is = ap (λ b. map (λ (p : NodeEntry). p.row) (cond b (own ∷ filter (λ p. is_within s p.key) left) (filter (λ p. is_within s p.key) left))) (sym is)

-- what was found, and the rows of the entries that are left, are all rows
pub record HasFound (s : Interval) (borrowed : BorrowedNode) (node : IndexNode) (next : Option FoundEntry) (old found : List Dbkey) : Type 0 where
  pub nth : ℕ
  pub begins : Begins borrowed.level borrowed.bytes.now next (drop nth node.entries)
  pub rows : found ++ rows_within s (drop nth node.entries) ≡ old ++ rows_within s node.entries

pub found_more : (s : Interval) (borrowed : BorrowedNode) (node : IndexNode) (own : FoundEntry) (next was_next : Option FoundEntry) (old found new : List Dbkey) (held : Bool) → was_next ≡ Some own
    → ((values : List Value) → ShowsKey own.entry.key values → held ≡ is_within s values)
    → ((entry : NodeEntry) (entries : List NodeEntry) → Begins borrowed.level borrowed.bytes.now (Some own) (entry ∷ entries) → Begins borrowed.level borrowed.bytes.now next entries)
    → new ≡ cond held (found ++ own.entry.row ∷ []) found → HasFound s borrowed node was_next old found → HasFound s borrowed node next old new
found_more s borrowed node own next was_next old found new held is holds further grown was =
    let at = is_at borrowed.level borrowed.bytes.now own node.entries was.nth (subst (λ (o : Option FoundEntry). Begins borrowed.level borrowed.bytes.now o (drop was.nth node.entries)) is was.begins) in
    let left = drop (suc was.nth) node.entries in
    let rows = rows_of s at.entry left held (holds at.entry.key at.shows.key) in
    let all : found ++ cond held (at.entry.row ∷ rows_within s left) (rows_within s left) ≡ old ++ rows_within s node.entries =
    ap (λ rs. found ++ rs) (sym rows) ∙ ap (λ es. found ++ rows_within s es) (sym at.here) ∙ was.rows in
    record {
      nth = suc was.nth;
      begins = further at.entry left at.begins;
      rows = ap (λ rs. rs ++ rows_within s left) grown ∙ moved held own.entry.row at.entry.row found (rows_within s left) at.shows.row ∙ all;
    }
  where
    moved : (b : Bool) (row shown : Dbkey) (found rows : List Dbkey) → row ≡ shown → cond b (found ++ row ∷ []) found ++ rows ≡ found ++ cond b (shown ∷ rows) rows
    moved true row shown found rows same = append_assoc found (row ∷ []) rows ∙ ap (λ r. found ++ r ∷ rows) same
    moved false row shown found rows same = refl

pub found_all : (s : Interval) (borrowed : BorrowedNode) (node : IndexNode) (next : Option FoundEntry) (old found : List Dbkey) → next ≡ None → HasFound s borrowed node next old found → found ≡ old ++ rows_within s node.entries
found_all s borrowed node next old found is was =
    let past = nothing_begins borrowed.level borrowed.bytes.now node.entries was.nth (subst (λ (o : Option FoundEntry). Begins borrowed.level borrowed.bytes.now o (drop was.nth node.entries)) is was.begins) in
    sym (append-nil found) ∙ ap (λ es. found ++ rows_within s es) (sym (drop_all was.nth node.entries past)) ∙ was.rows

-- ---- a node that is known

pub on_all : (r : Result Unit IndexStop) (borrowed : BorrowedNode) (node : IndexNode) (Is : IndexNode → Type 0) → OnOk r ((shown : IndexNode) → Holds borrowed shown → Is shown) → Holds borrowed node → OnOk r (Is node)
on_all (Ok done) borrowed node Is each holds = each node holds
on_all (Err e) borrowed node Is each holds = tt
