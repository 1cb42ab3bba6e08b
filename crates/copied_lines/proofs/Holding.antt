-- Lines that are found one behind another.
use Rattle.std.proofs.Common.{◌≡◌, ℕ, Bool, true, false, cond, List, [], ◌∷◌, ◌++◌, Option, Some, None, ◌⊎◌, ⊎_elim, refl, sym, ap, subst, ◌∙◌}
use Rattle.std.proofs.lemmas.Bool.{and_parts, and_from}
use Rattle.std.specs.declared.cmp.Ordering.{Ordering}
use Rattle.std.specs.declared.cmp.Ordering.TheVariants.{Less, Equal, Greater}
use Rattle.std.specs.Ordering.{is_eq, is_lt}
use Rattle.std.specs.Cmp.{tied_itself}
use Rattle.std.specs.FinMap.Entries.{find, find-append, below_all}
use Rattle.rdb_types.specs.Order.{dbkey_order}
use Rattle.rdb_types.specs.OrderLaws.{dbkey_total, same_dbkey}
use Rattle.rdb_types.specs.declared.keys.Dbkey.{Dbkey}
use Rattle.rdb_outside.specs.Disk.{Image}
use Rattle.line_view.specs.Knowledge.{Lines, IsInOrder}
use Rattle.line_versions.specs.Lines.{shown}
use Rattle.stable_lines.specs.Slots.{line_at}
use Rattle.copied_lines.specs.Holding.{Holds}

ties : (o : Ordering) → is_eq o ≡ true → o ≡ Equal
ties Less is = cc
ties Equal is = refl
ties Greater is = cc

same_key : (q k : Dbkey) → is_eq (dbkey_order q k) ≡ true → q ≡ k
same_key q k is = same_dbkey q k (ties (dbkey_order q k) is)

tied : (k : Dbkey) → is_eq (dbkey_order k k) ≡ true
tied k = ap is_eq (tied_itself dbkey_total k)

not_less : (k : Dbkey) → dbkey_order k k ≡ Less → ⊥
not_less k less = let bad : Equal ≡ Less = sym (tied_itself dbkey_total k) ∙ less in cc

-- a line more, if it is present
abbrev pub with_last : Dbkey → Option (List ℕ) → Lines → Lines
with_last key None lines = lines
with_last key (Some bytes) lines = lines ++ (key, bytes) ∷ []

find_last : (found : Lines) (k : Dbkey) (what : Option (List ℕ)) → find dbkey_order k found ≡ None → (q : Dbkey) (b : Bool) → is_eq (dbkey_order q k) ≡ b → find dbkey_order q (with_last k what found) ≡ cond b what (find dbkey_order q found)
find_last found k (Some w) none q b is = find-append dbkey_order dbkey_total found k w q none ∙ ap (λ (t : Bool). cond t (Some w) (find dbkey_order q found)) is
find_last found k None none q false is = refl
find_last found k None none q true is = ap (λ (x : Dbkey). find dbkey_order x found) (same_key q k is) ∙ none

-- ---- in order

below_last : (x k : Dbkey) (w : List ℕ) (es : Lines) → below_all dbkey_order x es ≡ true → dbkey_order x k ≡ Less → below_all dbkey_order x (es ++ (k, w) ∷ []) ≡ true
below_last x k w [] below less = and_from _ _ (ap is_lt less) refl
below_last x k w (e ∷ es) below less = let parts = and_parts _ _ below in and_from _ _ parts.0 (below_last x k w es parts.1 less)

found_more : (q : Dbkey) (e : Dbkey × List ℕ) (es : Lines) (bytes : List ℕ) (b : Bool) → is_eq (dbkey_order q e.0) ≡ b → find dbkey_order q es ≡ Some bytes → (other : List ℕ) × (find dbkey_order q (e ∷ es) ≡ Some other)
found_more q e es bytes true is found = (e.1, ap (λ (t : Bool). cond t (Some e.1) (find dbkey_order q es)) is)
found_more q e es bytes false is found = (bytes, ap (λ (t : Bool). cond t (Some e.1) (find dbkey_order q es)) is ∙ found)

ordered_last : (es : Lines) (k : Dbkey) (w : List ℕ) → IsInOrder es → ((q : Dbkey) (bytes : List ℕ) → find dbkey_order q es ≡ Some bytes → dbkey_order q k ≡ Less) → IsInOrder (es ++ (k, w) ∷ [])
ordered_last [] k w sorted below = refl
ordered_last (e ∷ es) k w sorted below =
    let parts = and_parts _ _ sorted in
    let first : dbkey_order e.0 k ≡ Less = below e.0 e.1 (ap (λ (t : Bool). cond t (Some e.1) (find dbkey_order e.0 es)) (tied e.0)) in
    and_from _ _ (below_last e.0 k w es parts.0 first)
    (ordered_last es k w parts.1 (λ q bytes found. let more = found_more q e es bytes (is_eq (dbkey_order q e.0)) refl found in below q more.0 more.1))

still_ordered : (found : Lines) (k : Dbkey) (what : Option (List ℕ)) → IsInOrder found → ((q : Dbkey) (bytes : List ℕ) → find dbkey_order q found ≡ Some bytes → dbkey_order q k ≡ Less) → IsInOrder (with_last k what found)
still_ordered found k None sorted below = sorted
still_ordered found k (Some w) sorted below = ordered_last found k w sorted below

-- ---- what is left

module _ (image : Image) where
  -- at the beginning all is left
  pub nothing_found : Holds image (λ key. true) []
  nothing_found = record { in_order = refl; each = λ key nay. cc; others = λ key so. refl; before = λ key other bytes found so. cc }

  -- lines that are passed over, none of which is present
  pub passed : (left after : Dbkey → Bool) (found : Lines) → Holds image left found → ((q : Dbkey) → after q ≡ true → left q ≡ true) → ((q : Dbkey) → left q ≡ true → after q ≡ false → shown (line_at image q) ≡ None) → Holds image after found
  passed left after found was fewer none = record {
    in_order = was.in_order;
    each = λ q off. by q off (left q) refl;
    others = λ q on. was.others q (fewer q on);
    before = λ q other bytes is on. was.before q other bytes is (fewer other on);
  }
    where
      by : (q : Dbkey) → after q ≡ false → (b : Bool) → left q ≡ b → find dbkey_order q found ≡ shown (line_at image q)
      by q off false is = was.each q is
      by q off true is = was.others q is ∙ sym (none q is off)

  -- the first of those that are left
  module _ (left after : Dbkey → Bool) (here : Dbkey) (what : Option (List ℕ)) (old new : Lines) (was : Holds image left old) (made : new ≡ with_last here what old) (shows : what ≡ shown (line_at image here)) (on : left here ≡ true)
      (behind : (q : Dbkey) → after q ≡ true → (left q ≡ true) × (dbkey_order here q ≡ Less)) (passes : (q : Dbkey) → after q ≡ false → (left q ≡ false) ⊎ (q ≡ here)) where
    found_now : (q : Dbkey) (b : Bool) → is_eq (dbkey_order q here) ≡ b → find dbkey_order q new ≡ cond b what (find dbkey_order q old)
    found_now q b is = ap (λ (l : Lines). find dbkey_order q l) made ∙ find_last old here what (was.others here on) q b is

    each_now : (q : Dbkey) → after q ≡ false → (b : Bool) → is_eq (dbkey_order q here) ≡ b → find dbkey_order q new ≡ shown (line_at image q)
    each_now q off true is = found_now q true is ∙ shows ∙ ap (λ (k : Dbkey). shown (line_at image k)) (sym (same_key q here is))
    each_now q off false is = found_now q false is ∙ ⊎_elim (λ not_left. was.each q not_left)
        (λ same. let bad : true ≡ false = sym (ap (λ (k : Dbkey). is_eq (dbkey_order k here)) same ∙ tied here) ∙ is in let nay : ⊥ = cc in absurd nay) (passes q off)

    others_now : (q : Dbkey) → after q ≡ true → (b : Bool) → is_eq (dbkey_order q here) ≡ b → find dbkey_order q new ≡ None
    others_now q so true is = absurd (not_less here (ap (λ (k : Dbkey). dbkey_order here k) (sym (same_key q here is)) ∙ (behind q so).1))
    others_now q so false is = found_now q false is ∙ was.others q (behind q so).0

    before_now : (q other : Dbkey) (bytes : List ℕ) → find dbkey_order q new ≡ Some bytes → after other ≡ true → (b : Bool) → is_eq (dbkey_order q here) ≡ b → dbkey_order q other ≡ Less
    before_now q other bytes found so true is = ap (λ (k : Dbkey). dbkey_order k other) (same_key q here is) ∙ (behind other so).1
    before_now q other bytes found so false is = was.before q other bytes (sym (found_now q false is) ∙ found) (behind other so).0

    pub one_more : Holds image after new
    one_more = record {
      in_order = subst (λ (l : Lines). IsInOrder l) (sym made) (still_ordered old here what was.in_order (λ q bytes found. was.before q here bytes found on));
      each = λ q off. each_now q off (is_eq (dbkey_order q here)) refl;
      others = λ q so. others_now q so (is_eq (dbkey_order q here)) refl;
      before = λ q other bytes found so. before_now q other bytes found so (is_eq (dbkey_order q here)) refl;
    }
