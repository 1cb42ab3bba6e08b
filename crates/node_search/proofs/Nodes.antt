-- Entries counted one by one, each above the one before it.
use Rattle.std.proofs.Common.{ℕ, ◌≢◌, take, drop, ◌+◌, ◌-◌, ◌<◌, ◌≤◌, ◌≡◌, Bool, true, false, List, [], ◌∷◌, ◌++◌, length, get_or, Option, Some, None, arith, sym, ap, subst, refl, ◌∙◌, append_assoc, length-append}
use Rattle.std.specs.Prelude.{IfSome, IfNone, replicate}
use Rattle.std.specs.List.{AllAdjacentBelow}
use Rattle.std.specs.declared.cmp.Ordering.{Ordering}
use Rattle.std.specs.declared.cmp.Ordering.TheVariants.{Less, Equal, Greater}
use Rattle.std.specs.Ordering.{is_lt}
use Rattle.std.proofs.lemmas.List.{get_or_append_left}
use Rattle.std.proofs.lemmas.List.Sorted.{all_adjacent_more}
use Rattle.std.proofs.Math.Seq.{get_or-append_seam, get_or-append-add}
use Rattle.slot_fields.specs.Fields.{number_at}
use Rattle.record_format.specs.Lists.{AreListed, StandsAt}
use Rattle.record_format.proofs.Lists.{HasRead, read_none, read_more, read_all, one_list}
use Rattle.index_node.specs.declared.entry.NodeEntry.{NodeEntry}
use Rattle.index_node.specs.Order.{entry_order}
use Rattle.index_node.specs.declared.node.IndexNode.{IndexNode}
use Rattle.index_node.specs.Node.{entry_fields, IsEntry, IsAscending, IsNode}
use Rattle.index_node.proofs.Entries.{entries_code}
use Rattle.index_node.proofs.Nodes.{Below, entries_of}
use Rattle.node_search.specs.declared.entry.BorrowedEntry.{BorrowedEntry}
use Rattle.node_search.specs.declared.node.BorrowedNode.{BorrowedNode}
use Rattle.node_search.specs.Entries.{Shows}
use Rattle.node_search.specs.Nodes.{Holds}
use Rattle.node_search.proofs.Listed.{found_next, none_next, ends_further}

-- ---- ascending entries

longer : (xs ys : List NodeEntry) → IsAscending xs → AllAdjacentBelow Below (xs ++ ys) (length xs)
longer xs ys was k d inside =
    let first : get_or (xs ++ ys) k d ≡ get_or xs k d = get_or_append_left xs ys d k (omega (arith, inside)) in
    let second : get_or (xs ++ ys) (k + 1) d ≡ get_or xs (k + 1) d = get_or_append_left xs ys d (k + 1) inside in
    subst (λ (a : NodeEntry). Below a (get_or (xs ++ ys) (k + 1) d)) (sym first) (subst (λ (b : NodeEntry). Below (get_or xs k d) b) (sym second) (was k d inside))

one_ascends : (entry : NodeEntry) → IsAscending (entry ∷ [])
one_ascends entry k d inside = absurd (omega (arith, inside))

more_ascend : (init : List NodeEntry) (own next : NodeEntry) → IsAscending (init ++ own ∷ []) → Below own next → IsAscending ((init ++ own ∷ []) ++ next ∷ [])
more_ascend init own next was below =
    let front : List NodeEntry = init ++ own ∷ [] in
    let all : List NodeEntry = front ++ next ∷ [] in
    let long : length front ≡ length init + 1 = length-append init (own ∷ []) in
    let before : (d : NodeEntry) → get_or all (length front - 1) d ≡ own =
    λ d. ap (λ n. get_or all n d) (let place : length front - 1 ≡ length init = omega (arith, long) in place)
    ∙ (ap (λ es. get_or es (length init) d) (append_assoc init (own ∷ []) (next ∷ [])) ∙ get_or-append_seam init own (next ∷ []) d) in
    let last : (d : NodeEntry) → get_or all (length front) d ≡ next = λ d. get_or-append_seam front next [] d in
    let whole = all_adjacent_more all Below (length front) (omega (arith, long)) (longer front (next ∷ []) was)
    (λ d. subst (λ (a : NodeEntry). Below a (get_or all (length front) d)) (sym (before d)) (subst (λ (b : NodeEntry). Below own b) (sym (last d)) below)) in
    subst (λ (n : ℕ). AllAdjacentBelow Below all n) (sym (length-append front (next ∷ []))) whole

neighbours : (init rest : List NodeEntry) (own next : NodeEntry) → IsAscending (init ++ own ∷ next ∷ rest) → Below own next
neighbours init rest own next is =
    let all : List NodeEntry = init ++ own ∷ next ∷ rest in
    let here : get_or all (length init) own ≡ own = get_or-append_seam init own (next ∷ rest) own in
    let there : get_or all (length init + 1) own ≡ next = get_or-append-add init (own ∷ next ∷ rest) 1 own in
    subst (λ (a : NodeEntry). Below a next) here (subst (λ (b : NodeEntry). Below (get_or all (length init) own) b) there (is (length init) own (omega (arith, length-append init (own ∷ next ∷ rest)))))

-- ---- counted entries

-- what was borrowed last shows the last of these entries, or there are none
abbrev pub IsLast : Option BorrowedEntry → List NodeEntry → Type 0
IsLast None entries = entries ≡ []
IsLast (Some own) entries = (init : List NodeEntry) × ((last : NodeEntry) × ((entries ≡ init ++ last ∷ []) × Shows own last))

-- the entries that were counted, and what any others there are go on with
pub record HasCounted (level : ℕ) (bytes : List ℕ) (from at count : ℕ) (before : Option BorrowedEntry) : Type 0 where
  pub front : List NodeEntry
  pub read : HasRead entry_fields (IsEntry level) bytes from at front
  pub ascending : IsAscending front
  pub counted : length front ≡ count
  pub last : IsLast before front
  pub few : count ≤ at
  pub whole : (all : List NodeEntry) → AreListed entry_fields (IsEntry level) bytes from all → (rest : List NodeEntry) × ((all ≡ front ++ rest) × AreListed entry_fields (IsEntry level) bytes at rest)

pub none_counted : (level : ℕ) (bytes : List ℕ) (from : ℕ) → from ≤ length bytes → HasCounted level bytes from from 0 None
none_counted level bytes from within = record {
  front = [];
  read = read_none entry_fields (IsEntry level) bytes from [] refl within;
  ascending = λ k d inside. absurd (omega (arith, inside));
  counted = refl;
  last = refl;
  few = omega arith;
  whole = λ all are. (all, (refl, are));
}

-- the next entry is in its order behind what was borrowed last
abbrev pub IsInOrder : Option BorrowedEntry → BorrowedEntry → Bool → Type 0
IsInOrder None next r = r ≡ true
IsInOrder (Some own) next r = (entry other : NodeEntry) → Shows own entry → Shows next other → r ≡ is_lt (entry_order entry other)

is_less : (o : Ordering) (r : Bool) → r ≡ is_lt o → r ≡ true → o ≡ Less
is_less Less r is said = refl
is_less Equal r is said = cc
is_less Greater r is said = cc

not_less : (o : Ordering) (r : Bool) → r ≡ is_lt o → r ≡ false → o ≡ Less → ⊥
not_less Less r is said also = cc
not_less Equal r is said also = cc
not_less Greater r is said also = cc

ascends_further : (before : Option BorrowedEntry) (front : List NodeEntry) (next : BorrowedEntry) (entry : NodeEntry) (r : Bool) → IsInOrder before next r → r ≡ true → Shows next entry → IsLast before front → IsAscending front → IsAscending (front ++ entry ∷ [])
ascends_further None front next entry r order said shows last was = subst (λ (es : List NodeEntry). IsAscending (es ++ entry ∷ [])) (sym last) (one_ascends entry)
ascends_further (Some own) front next entry r order said shows last was =
    let init = last.0 in
    let end = last.1.0 in
    let is = last.1.1.0 in
    subst (λ (es : List NodeEntry). IsAscending (es ++ entry ∷ [])) (sym is)
    (more_ascend init end entry (subst (λ (es : List NodeEntry). IsAscending es) is was) (is_less (entry_order end entry) r (order end entry last.1.1.1 shows) said))

pub one_counted : (level : ℕ) (bytes : List ℕ) (from at end count : ℕ) (before : Option BorrowedEntry) (next : BorrowedEntry) (entry : NodeEntry) (r : Bool) → StandsAt entry_fields (IsEntry level) bytes at entry end → Shows next entry → IsInOrder before next r → r ≡ true → HasCounted level bytes from at count before
    → HasCounted level bytes from end (count + 1) (Some next)
one_counted level bytes from at end count before next entry r stands shows order said was = record {
  front = was.front ++ entry ∷ [];
  read = read_more entry_fields (IsEntry level) bytes from at was.front entry end was.read stands;
  ascending = ascends_further before was.front next entry r order said shows was.last was.ascending;
  counted = length-append was.front (entry ∷ []) ∙ ap (λ n. n + 1) was.counted;
  last = (was.front, (entry, (refl, shows)));
  few = omega (arith, was.few, ends_further entry_fields (IsEntry level) bytes (entries_code level bytes) at end entry stands);
  whole = λ all are.
      let left = was.whole all are in
      let behind = found_next entry_fields (IsEntry level) bytes (entries_code level bytes) at end entry left.0 stands left.1.1 in
      (behind.rest, (left.1.0 ∙ ap (λ es. was.front ++ es) behind.is ∙ sym (append_assoc was.front (entry ∷ []) behind.rest), behind.behind));
}

-- where nothing stands at a place before the end, the bytes are no entries
pub nothing_there : (level : ℕ) (bytes : List ℕ) (from at count : ℕ) (before : Option BorrowedEntry) → at < length bytes → ((entry : NodeEntry) (end : ℕ) → StandsAt entry_fields (IsEntry level) bytes at entry end → ⊥) → HasCounted level bytes from at count before
    → (all : List NodeEntry) → AreListed entry_fields (IsEntry level) bytes from all → ⊥
nothing_there level bytes from at count before inside none was all are =
    let left = was.whole all are in
    let ended = none_next entry_fields (IsEntry level) bytes at left.0 none left.1.1 in
    let fields = subst (λ (es : List NodeEntry). AreListed entry_fields (IsEntry level) bytes at es) ended left.1.1 in
    omega (arith, inside, fields.fields)

-- where an entry isn't above the one before it, they don't ascend
pub out_of_order : (level : ℕ) (bytes : List ℕ) (from at end count : ℕ) (before : Option BorrowedEntry) (next : BorrowedEntry) (entry : NodeEntry) (r : Bool) → StandsAt entry_fields (IsEntry level) bytes at entry end → Shows next entry → IsInOrder before next r → r ≡ false → HasCounted level bytes from at count before
    → (all : List NodeEntry) → AreListed entry_fields (IsEntry level) bytes from all → IsAscending all → ⊥
out_of_order level bytes from at end count None next entry r stands shows order said was all are ascending = cc
out_of_order level bytes from at end count (Some own) next entry r stands shows order said was all are ascending =
    let left = was.whole all are in
    let behind = found_next entry_fields (IsEntry level) bytes (entries_code level bytes) at end entry left.0 stands left.1.1 in
    let init = was.last.0 in
    let last = was.last.1.0 in
    let is : all ≡ init ++ last ∷ entry ∷ behind.rest =
    left.1.0 ∙ ap (λ es. was.front ++ es) behind.is ∙ ap (λ es. es ++ entry ∷ behind.rest) was.last.1.1.0 ∙ append_assoc init (last ∷ []) (entry ∷ behind.rest) in
    not_less (entry_order last entry) r (order last entry was.last.1.1.1 shows) said (neighbours init behind.rest last entry (subst (λ (es : List NodeEntry). IsAscending es) is ascending))

pub all_counted : (level : ℕ) (bytes : List ℕ) (from at count : ℕ) (before : Option BorrowedEntry) → length bytes ≤ at → HasCounted level bytes from at count before
    → (entries : List NodeEntry) × (AreListed entry_fields (IsEntry level) bytes from entries × IsAscending entries × (length entries ≡ count))
all_counted level bytes from at count before past was = (was.front, (read_all entry_fields (IsEntry level) bytes from at was.front was.read past, was.ascending, was.counted))

pub in_order : (before : Option BorrowedEntry) (next : BorrowedEntry) (r : Bool) → IfNone before (r ≡ true) → IfSome before (λ own. (entry other : NodeEntry) → Shows own entry → Shows next other → r ≡ is_lt (entry_order entry other)) → IsInOrder before next r
in_order None next r first later = first
in_order (Some own) next r first later = later

pub if_none : {A : Type 0} (r : Option A) (P : Type 0) → P → IfNone r P
if_none (Some x) P holds = tt
if_none None P holds = holds

-- ---- whole nodes

pub listed : (borrowed : BorrowedNode) (node : IndexNode) → Holds borrowed node → AreListed entry_fields (IsEntry borrowed.level) borrowed.bytes.now 4 node.entries
listed borrowed node holds = subst (λ (k : ℕ). AreListed entry_fields (IsEntry k) borrowed.bytes.now 4 node.entries) (sym holds.1) (entries_of borrowed.bytes.now node holds.0)

-- the entries of a node are as many as it says
pub miscounted : (bytes : List ℕ) (level said count : ℕ) (entries : List NodeEntry) → level ≡ number_at 1 0 bytes → said ≡ number_at 2 1 bytes → AreListed entry_fields (IsEntry level) bytes 4 entries → length entries ≡ count → count ≢ said → (node : IndexNode) → IsNode bytes node → ⊥
miscounted bytes level said count entries level_is said_is are counted other node is =
    let same : level ≡ node.level = level_is ∙ is.fields.0 in
    let also : AreListed entry_fields (IsEntry level) bytes 4 node.entries = subst (λ (k : ℕ). AreListed entry_fields (IsEntry k) bytes 4 node.entries) (sym same) (entries_of bytes node is) in
    let one : entries ≡ node.entries = one_list entry_fields (IsEntry level) bytes (entries_code level bytes) 4 entries node.entries are also in
    other (sym counted ∙ ap (λ (es : List NodeEntry). length es) one ∙ sym (said_is ∙ is.fields.1.0))

pub node_there : (bytes : List ℕ) (level said : ℕ) (entries : List NodeEntry) → level ≡ number_at 1 0 bytes → said ≡ number_at 2 1 bytes → take 1 (drop 3 bytes) ≡ replicate 1 0 → AreListed entry_fields (IsEntry level) bytes 4 entries → IsAscending entries → length entries ≡ said → length bytes ≤ 430
    → IsNode bytes (record { level = level; entries = entries })
node_there bytes level said entries level_is said_is zero are ascending counted short = record {
  fields = (sym level_is, (sym said_is ∙ sym counted, (zero, are.fields)));
  allowed = record { entries = are.allowed; ascending = ascending };
  small = short;
}
