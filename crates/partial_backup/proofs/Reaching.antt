-- The lines of a map up to a key, and one more.
use Rattle.std.proofs.Common.{◌≡◌, ℕ, Bool, true, false, cond, List, [], ◌∷◌, ◌++◌, Option, Some, None, T, refl, sym, ap, subst, ◌∙◌}
use Rattle.std.proofs.lemmas.Bool.{and_parts, and_from}
use Rattle.std.specs.declared.cmp.Ordering.{Ordering}
use Rattle.std.specs.declared.cmp.Ordering.TheVariants.{Less, Equal, Greater}
use Rattle.std.specs.Ordering.{is_eq, is_lt, ordering_reverse}
use Rattle.std.specs.Cmp.{tied_itself}
use Rattle.std.specs.FinMap.Entries.{find, find-append, below_all, same_entries}
use Rattle.rdb_types.specs.Order.{dbkey_order}
use Rattle.rdb_types.specs.OrderLaws.{dbkey_total, same_dbkey}
use Rattle.rdb_types.specs.declared.keys.Dbkey.{Dbkey}
use Rattle.line_view.specs.Knowledge.{Lines, IsInOrder, line_in}
use Rattle.partial_backup.specs.Partial.{is_left, Reaches, IsNext, HasNone}

abbrev R : Dbkey → Dbkey → Ordering
R = dbkey_order

-- ---- the order of keys

ties : (o : Ordering) → is_eq o ≡ true → o ≡ Equal
ties Less is = cc
ties Equal is = refl
ties Greater is = cc

less : (o : Ordering) → is_lt o ≡ true → o ≡ Less
less Less is = refl
less Equal is = cc
less Greater is = cc

same_key : (q k : Dbkey) → is_eq (R q k) ≡ true → q ≡ k
same_key q k is = same_dbkey q k (ties (R q k) is)

tied : (k : Dbkey) → is_eq (R k k) ≡ true
tied k = ap is_eq (tied_itself dbkey_total k)

not_less : (k : Dbkey) → R k k ≡ Less → ⊥
not_less k is = let bad : Equal ≡ Less = sym (tied_itself dbkey_total k) ∙ is in cc

turned : (o p : Ordering) → p ≡ ordering_reverse o → is_lt o ≡ false → is_eq p ≡ false → p ≡ Less
turned Less p is not_lt not_eq = cc
turned Equal p is not_lt not_eq = let tie : is_eq p ≡ true = ap is_eq is in let bad : true ≡ false = sym tie ∙ not_eq in cc
turned Greater p is not_lt not_eq = is

-- what isn't behind a key and isn't it, is before it
ahead : (k q : Dbkey) → is_lt (R k q) ≡ false → is_eq (R q k) ≡ false → R q k ≡ Less
ahead k q not_lt not_eq = turned (R k q) (R q k) (dbkey_total.antisymm q k) not_lt not_eq

still_left : (from : Option Dbkey) (k q : Dbkey) → is_left from k ≡ true → R k q ≡ Less → is_left from q ≡ true
still_left None k q on is = refl
still_left (Some f) k q on is = ap is_lt (dbkey_total.trans f k q (less (R f k) on) is)

before_left : (from : Option Dbkey) (q k : Dbkey) → is_left from q ≡ false → is_left from k ≡ true → R q k ≡ Less
before_left None q k off on = cc
before_left (Some f) q k off on = by (is_eq (R q f)) refl
  where
    by : (b : Bool) → is_eq (R q f) ≡ b → R q k ≡ Less
    by true is = ap (λ (x : Dbkey). R x k) (same_key q f is) ∙ less (R f k) on
    by false is = dbkey_total.trans q f k (ahead f q off is) (less (R f k) on)

-- ---- a line behind all

below_last : (x k : Dbkey) (w : List ℕ) (es : Lines) → below_all R x es ≡ true → R x k ≡ Less → below_all R x (es ++ (k, w) ∷ []) ≡ true
below_last x k w [] below is = and_from _ _ (ap is_lt is) refl
below_last x k w (e ∷ es) below is = let parts = and_parts _ _ below in and_from _ _ parts.0 (below_last x k w es parts.1 is)

found_more : (q : Dbkey) (e : Dbkey × List ℕ) (es : Lines) (bytes : List ℕ) (b : Bool) → is_eq (R q e.0) ≡ b → find R q es ≡ Some bytes → (other : List ℕ) × (find R q (e ∷ es) ≡ Some other)
found_more q e es bytes true is found = (e.1, ap (λ (t : Bool). cond t (Some e.1) (find R q es)) is)
found_more q e es bytes false is found = (bytes, ap (λ (t : Bool). cond t (Some e.1) (find R q es)) is ∙ found)

ordered_last : (es : Lines) (k : Dbkey) (w : List ℕ) → IsInOrder es → ((q : Dbkey) (bytes : List ℕ) → find R q es ≡ Some bytes → R q k ≡ Less) → IsInOrder (es ++ (k, w) ∷ [])
ordered_last [] k w sorted below = refl
ordered_last (e ∷ es) k w sorted below =
    let parts = and_parts _ _ sorted in
    let first : R e.0 k ≡ Less = below e.0 e.1 (ap (λ (t : Bool). cond t (Some e.1) (find R e.0 es)) (tied e.0)) in
    and_from _ _ (below_last e.0 k w es parts.0 first)
    (ordered_last es k w parts.1 (λ q bytes found. let more = found_more q e es bytes (is_eq (R q e.0)) refl found in below q more.0 more.1))

-- ---- lines up to a key

pub nothing : (lines : Lines) → Reaches None lines []
nothing lines = record { in_order = refl; each = λ q off. cc; none = λ q on. refl }

module _ (lines : Lines) (from : Option Dbkey) (key : Dbkey) (next : IsNext lines from key) (old : Lines) (was : Reaches from lines old) where
  -- of the lines up to the next one only that may be missing
  up_to : (q : Dbkey) → is_lt (R key q) ≡ false → is_eq (R q key) ≡ false → (b : Bool) → is_left from q ≡ b → line_in q old ≡ line_in q lines
  up_to q off apart false is = was.each q is
  up_to q off apart true is = was.none q is ∙ sym (next.least q is (ahead key q off apart))

  behind : (q : Dbkey) → is_lt (R key q) ≡ true → line_in q old ≡ None
  behind q on = was.none q (still_left from key q next.behind (less (R key q) on))

  -- it isn't there
  pub passed : line_in key lines ≡ None → Reaches (Some key) lines old
  passed absent = record { in_order = was.in_order; each = λ q off. each q off (is_eq (R q key)) refl; none = behind }
    where
      each : (q : Dbkey) → is_lt (R key q) ≡ false → (b : Bool) → is_eq (R q key) ≡ b → line_in q old ≡ line_in q lines
      each q off true same = let it : q ≡ key = same_key q key same in ap (λ (k : Dbkey). line_in k old) it ∙ was.none key next.behind ∙ sym absent ∙ ap (λ (k : Dbkey). line_in k lines) (sym it)
      each q off false apart = up_to q off apart (is_left from q) refl

  -- it is, and stands behind the others now
  module _ (w : List ℕ) (present : line_in key lines ≡ Some w) where
    found_now : (q : Dbkey) (b : Bool) → is_eq (R q key) ≡ b → line_in q (old ++ (key, w) ∷ []) ≡ cond b (Some w) (line_in q old)
    found_now q b is = find-append R dbkey_total old key w q (was.none key next.behind) ∙ ap (λ (t : Bool). cond t (Some w) (find R q old)) is

    each_now : (q : Dbkey) → is_lt (R key q) ≡ false → (b : Bool) → is_eq (R q key) ≡ b → line_in q (old ++ (key, w) ∷ []) ≡ line_in q lines
    each_now q off true same = found_now q true same ∙ sym present ∙ ap (λ (k : Dbkey). line_in k lines) (sym (same_key q key same))
    each_now q off false apart = found_now q false apart ∙ up_to q off apart (is_left from q) refl

    none_now : (q : Dbkey) → is_lt (R key q) ≡ true → (b : Bool) → is_eq (R q key) ≡ b → line_in q (old ++ (key, w) ∷ []) ≡ None
    none_now q on true same = absurd (not_less key (ap (λ (k : Dbkey). R key k) (sym (same_key q key same)) ∙ less (R key q) on))
    none_now q on false apart = found_now q false apart ∙ behind q on

    before : (q : Dbkey) (bytes : List ℕ) → line_in q old ≡ Some bytes → (b : Bool) → is_left from q ≡ b → R q key ≡ Less
    before q bytes found true is = let bad : None ≡ Some bytes = sym (was.none q is) ∙ found in cc
    before q bytes found false is = before_left from q key is next.behind

    pub one_more : Reaches (Some key) lines (old ++ (key, w) ∷ [])
    one_more = record {
      in_order = ordered_last old key w was.in_order (λ q bytes found. before q bytes found (is_left from q) refl);
      each = λ q off. each_now q off (is_eq (R q key)) refl;
      none = λ q on. none_now q on (is_eq (R q key)) refl;
    }

to_T : (b : Bool) → b ≡ true → T b
to_T b is = subst (λ x. T x) (sym is) tt

-- none is left
pub all_there : (lines : Lines) (from : Option Dbkey) (found : Lines) → IsInOrder lines → HasNone lines from → Reaches from lines found → found ≡ lines
all_there lines from found ordered none was = same_entries R dbkey_total same_dbkey found lines (to_T _ was.in_order) (to_T _ ordered) (λ q. by q (is_left from q) refl)
  where
    by : (q : Dbkey) (b : Bool) → is_left from q ≡ b → line_in q found ≡ line_in q lines
    by q false is = was.each q is
    by q true is = was.none q is ∙ sym (none q is)
