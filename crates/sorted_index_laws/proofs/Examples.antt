-- Small trees, what is found in them, and what is read for that.
use Rattle.std.proofs.Common.{◌≡◌, ℕ, Bool, true, false, List, [], ◌∷◌, pos, Some, None, refl}
use Rattle.std.specs.declared.cmp.Ordering.TheVariants.{Less, Greater}
use Rattle.rdb_types.specs.declared.keys.Dbkey.{Dbkey}
use Rattle.rdb_types.specs.declared.values.Value.{Value}
use Rattle.rdb_types.specs.declared.values.Value.TheVariants.{Missing, Number}
use Rattle.index_node.specs.declared.entry.NodeEntry.{NodeEntry}
use Rattle.sorted_index_laws.specs.declared.bounds.Bounds.{Bounds}
use Rattle.sorted_index_laws.specs.Keys.{only, between}
use Rattle.sorted_index_laws.specs.Tree.{Tree, pairs, places, AreParted}
use Rattle.sorted_index_laws.specs.Search.{rows_within, reads}
use Rattle.sorted_index_laws.specs.Changes.{with_pair, without_pair, has_key}

abbrev key : ℕ → List Value
key n = Number (pos n) ∷ []

abbrev row : ℕ → Dbkey
row page = record { area = 16; page = page; line = 0 }

abbrev node : ℕ → Dbkey
node page = record { area = 17; page = page; line = 0 }

abbrev pair : ℕ → ℕ → NodeEntry
pair n page = record { key = key n; row = row page; child = None }

-- of two keys that begin alike
abbrev long : ℕ → ℕ → NodeEntry
long n page = record { key = Number (pos n) ∷ Missing ∷ []; row = row page; child = None }

abbrev leaf : ℕ → List NodeEntry → Tree 0
leaf page entries = record { at = node page; entries = entries }

abbrev child : ℕ → ℕ → ℕ → List NodeEntry → NodeEntry × Tree 0
child n row_page page entries = (record { key = key n; row = row row_page; child = Some (node page) }, leaf page entries)

-- two leaves, of which the second begins at the pair 5 and page 4
abbrev tree : Tree 1
tree = record { at = node 7; entries = child 9 9 3 (pair 1 2 ∷ pair 3 3 ∷ []) ∷ child 5 4 5 (pair 5 4 ∷ pair 5 6 ∷ long 5 8 ∷ []) ∷ [] }

its_pairs : pairs 1 tree ≡ pair 1 2 ∷ pair 3 3 ∷ pair 5 4 ∷ pair 5 6 ∷ long 5 8 ∷ []
its_pairs = refl

its_places : places 1 tree ≡ node 7 ∷ node 3 ∷ node 5 ∷ []
its_places = refl

-- the first entry of a node bounds nothing
is_parted : AreParted 0 tree.entries
is_parted = (((refl, (refl, tt)), ((λ h. cc), ((λ h. cc), ((λ h. cc), tt)))), (tt, tt))

-- a pair of the first child is not below the second child's entry
isnt_parted : AreParted 0 (child 1 2 3 (pair 6 2 ∷ []) ∷ child 5 4 5 [] ∷ []) → ⊥
isnt_parted h = let bad : Greater ≡ Less = h.0.0.0 in cc

-- a pair of the second child is below its entry
isnt_parted_either : AreParted 0 (child 1 2 3 [] ∷ child 5 4 5 (pair 5 3 ∷ []) ∷ []) → ⊥
isnt_parted_either h = h.0.1.0 refl

rows_of_one_key : rows_within (only (key 5)) (pairs 1 tree) ≡ row 4 ∷ row 6 ∷ []
rows_of_one_key = refl

-- a pair of the same key and a lower row could stand in the first leaf
reads_of_one_key : reads (only (key 5)) 1 tree ≡ node 7 ∷ node 3 ∷ node 5 ∷ []
reads_of_one_key = refl

reads_of_a_low_key : reads (only (key 0)) 1 tree ≡ node 7 ∷ node 3 ∷ []
reads_of_a_low_key = refl

reads_of_a_high_key : reads (only (key 6)) 1 tree ≡ node 7 ∷ node 5 ∷ []
reads_of_a_high_key = refl

abbrev bounds : ℕ → Bool → ℕ → Bool → Bounds
bounds low low_in high high_in = record { low = Some (key low); low_in = low_in; high = Some (key high); high_in = high_in }

-- a key that begins with the bound ties with it
rows_with_both_bounds : rows_within (between (bounds 3 true 5 true)) (pairs 1 tree) ≡ row 3 ∷ row 4 ∷ row 6 ∷ row 8 ∷ []
rows_with_both_bounds = refl

rows_without_bounds : rows_within (between (bounds 1 false 5 false)) (pairs 1 tree) ≡ row 3 ∷ []
rows_without_bounds = refl

rows_of_all : rows_within (between (record { low = None; low_in = false; high = None; high_in = false })) (pairs 1 tree) ≡ row 2 ∷ row 3 ∷ row 4 ∷ row 6 ∷ row 8 ∷ []
rows_of_all = refl

with_a_lower_row : with_pair (pair 5 5) (pairs 1 tree) ≡ pair 1 2 ∷ pair 3 3 ∷ pair 5 4 ∷ pair 5 5 ∷ pair 5 6 ∷ long 5 8 ∷ []
with_a_lower_row = refl

with_the_highest : with_pair (pair 6 2) (pairs 1 tree) ≡ pair 1 2 ∷ pair 3 3 ∷ pair 5 4 ∷ pair 5 6 ∷ long 5 8 ∷ pair 6 2 ∷ []
with_the_highest = refl

without_one_of_two : without_pair (pair 5 6) (pairs 1 tree) ≡ pair 1 2 ∷ pair 3 3 ∷ pair 5 4 ∷ long 5 8 ∷ []
without_one_of_two = refl

has_three : has_key (key 3) (pairs 1 tree) ≡ true
has_three = refl

has_no_four : has_key (key 4) (pairs 1 tree) ≡ false
has_no_four = refl
