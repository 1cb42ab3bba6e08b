-- Writes count as lines on which EX was got.
use Rattle.std.proofs.Common.{◌≡◌, ◌≤◌, ℕ, ◌+◌, [], ◌∷◌, ◌||◌, not, if◌then◌else◌, Bool, true, false, List, length, refl, ◌∙◌, sym, ap, subst, arith, inl, inr}
use Rattle.std.specs.List.{filter}
use Rattle.std.specs.Ordering.{is_eq}
use Rattle.std.specs.declared.cmp.Ordering.{Ordering}
use Rattle.std.specs.declared.cmp.Ordering.TheVariants.{Less, Equal, Greater}
use Rattle.std.proofs.lemmas.Bool.{false≢true, or_cases, or_left, or_right, and_parts}
use Rattle.std.proofs.lemmas.Cmp.{tied_itself}
use Rattle.rdb_types.specs.declared.keys.Dbkey.{Dbkey}
use Rattle.rdb_types.specs.declared.node.Node.{Node}
use Rattle.rdb_types.specs.Order.{dbkey_order}
use Rattle.rdb_types.specs.OrderLaws.{dbkey_total, same_dbkey}
use Rattle.lock_needs.specs.Nodes.{same_node}
use Rattle.lock_needs.proofs.NodeLaws.{same_node-true, same_node-refl}
use Rattle.line_view.specs.declared.writes.Write.{Write}
use Rattle.rdb_account.specs.Places.{Place}
use Rattle.kept_apart.specs.Guards.{line_node}
use Rattle.line_store.specs.Seats.{is_written, lines_added, lines_written, Adds}
use Rattle.store_counts.specs.Counts.{written_of, is_on_line, is_claimed, AreClaimed, is_laid}
use Rattle.store_counts.proofs.Filters.{passes-less, passes-fewer, passes-most}

-- ---- keys and nodes

equal : (o : Ordering) → is_eq o ≡ true → o ≡ Equal
equal Less h = absurd (false≢true h)
equal Equal h = refl
equal Greater h = absurd (false≢true h)

same-key : (a b : Dbkey) → line_node a ≡ line_node b → a ≡ b
same-key a b e = ap (λ (n : Node). make n.area n.at n.line) e
  where
    make : ℕ → ℕ → ℕ → Dbkey
    make area page line = record { area = area; page = page; line = line }

key-itself : (key : Dbkey) → is_eq (dbkey_order key key) ≡ true
key-itself key = ap is_eq (tied_itself dbkey_total key)

-- a node on which something is laid is that of a line that is written
laid-key : (ws : List Write) (n : Node) → is_laid ws n ≡ true → (key : Dbkey) × (is_written key ws ≡ true) × (line_node key ≡ n)
laid-key [] n h = absurd (false≢true h)
laid-key (w ∷ ws) n h = elim (or_cases (same_node (line_node w.key) n) (is_laid ws n) h) [
  | inl e ↦ (w.key, or_left (is_eq (dbkey_order w.key w.key)) (is_written w.key ws) (key-itself w.key), same_node-true (line_node w.key) n e)
  | inr e ↦ let k = laid-key ws n e in (k.0, or_right (is_eq (dbkey_order k.0 w.key)) (is_written k.0 ws) k.1, k.2)
]

key-laid : (ws : List Write) (key : Dbkey) → is_written key ws ≡ true → is_laid ws (line_node key) ≡ true
key-laid [] key h = absurd (false≢true h)
key-laid (w ∷ ws) key h = elim (or_cases (is_eq (dbkey_order key w.key)) (is_written key ws) h) [
  | inl e ↦ or_left (same_node (line_node w.key) (line_node key)) (is_laid ws (line_node key))
      (subst (λ (k : Dbkey). same_node (line_node w.key) (line_node k) ≡ true) (sym (same_dbkey key w.key (equal (dbkey_order key w.key) e))) (same_node-refl (line_node w.key)))
  | inr e ↦ or_right (same_node (line_node w.key) (line_node key)) (is_laid ws (line_node key)) (key-laid ws key e)
]

laid-written : (ws : List Write) (key : Dbkey) → is_laid ws (line_node key) ≡ true → is_written key ws ≡ true
laid-written ws key h = let k = laid-key ws (line_node key) h in subst (λ (x : Dbkey). is_written x ws ≡ true) (same-key k.0 key k.2) k.1

-- where each line that is written here is written there, so is what is laid
pub laid-by : (ws vs : List Write) → ((key : Dbkey) → is_written key ws ≡ true → is_written key vs ≡ true) → (n : Node) → is_laid ws n ≡ true → is_laid vs n ≡ true
laid-by ws vs h n e = let k = laid-key ws n e in subst (λ (x : Node). is_laid vs x ≡ true) k.2 (key-laid vs k.0 (h k.0 k.1))

-- ---- what is claimed

pub claimed-key : (p : Place) (s : ℕ) (ws : List Write) (key : Dbkey) → AreClaimed p s ws → is_written key ws ≡ true → is_claimed p s key ≡ true
claimed-key p s [] key h e = absurd (false≢true e)
claimed-key p s (w ∷ ws) key h e = elim (or_cases (is_eq (dbkey_order key w.key)) (is_written key ws) e) [
  | inl a ↦ subst (λ (k : Dbkey). is_claimed p s k ≡ true) (sym (same_dbkey key w.key (equal (dbkey_order key w.key) a))) h.0
  | inr a ↦ claimed-key p s ws key h.1 a
]

pub claimed-where : (p : Place) (s : ℕ) (ws : List Write) → ((key : Dbkey) → is_written key ws ≡ true → is_claimed p s key ≡ true) → AreClaimed p s ws
claimed-where p s [] h = tt
claimed-where p s (w ∷ ws) h = (
  h w.key (or_left (is_eq (dbkey_order w.key w.key)) (is_written w.key ws) (key-itself w.key)),
  claimed-where p s ws (λ key e. h key (or_right (is_eq (dbkey_order key w.key)) (is_written key ws) e)),
)

-- the writes behind are on lines of those before or of these
pub claimed-added : (p : Place) (s : ℕ) (more before behind : List Write) → Adds more before behind → AreClaimed p s before → AreClaimed p s more → AreClaimed p s behind
claimed-added p s more before behind adds was own = claimed-where p s behind (λ key e.
    elim (or_cases (is_written key before) (is_written key more) (sym (adds.keys key) ∙ e)) [
      | inl h ↦ claimed-key p s before key was h
      | inr h ↦ claimed-key p s more key own h
    ])

-- what is claimed at one place is so at another
pub claimed-on : (p q : Place) (s t : ℕ) → ((key : Dbkey) → is_claimed p s key ≡ true → is_claimed q t key ≡ true) → (ws : List Write) → AreClaimed p s ws → AreClaimed q t ws
claimed-on p q s t h [] own = tt
claimed-on p q s t h (w ∷ ws) own = (h w.key own.0, claimed-on p q s t h ws own.1)

-- ---- how many lines are left

-- the writes, laid over those before in turn
abbrev onto : List Write → List Write → List Write
onto [] before = before
onto (w ∷ ms) before = onto ms (w ∷ before)

onto-laid : (ms before : List Write) (n : Node) → is_laid (onto ms before) n ≡ true → (is_laid before n || is_laid ms n) ≡ true
onto-laid [] before n h = or_left (is_laid before n) false h
onto-laid (w ∷ ms) before n h = by (same_node (line_node w.key) n) (is_laid before n) (is_laid ms n) (onto-laid ms (w ∷ before) n h)
  where
    by : (a b c : Bool) → ((a || b) || c) ≡ true → (b || (a || c)) ≡ true
    by a b c k = grind arith

abbrev left : List Node → List Write → ℕ
left nodes ws = length (filter (λ n. not (is_laid ws n)) nodes)

unlaid-less : (a b : Bool) → not (a || b) ≡ true → not b ≡ true
unlaid-less a b h = grind arith

-- each line that a write adds is one fewer
one-laid : (p : Place) (s : ℕ) (w : Write) (before : List Write) → is_claimed p s w.key ≡ true → (b : Bool) → is_written w.key before ≡ b →
    (if b then 0 else 1) + left (written_of (p.transaction s)) (w ∷ before) ≤ left (written_of (p.transaction s)) before
one-laid p s w before own true e =
    nothing (passes-less (λ n. not (is_laid before n)) (λ n. not (is_laid (w ∷ before) n)) (λ n h. unlaid-less (same_node (line_node w.key) n) (is_laid before n) h) (written_of (p.transaction s)))
  where
    nothing : {a b : ℕ} → a ≤ b → 0 + a ≤ b
    nothing h = omega (arith, h)
one-laid p s w before own false e =
    passes-fewer (λ n. not (is_laid before n)) (λ n. not (is_laid (w ∷ before) n)) (same_node (line_node w.key)) (λ n h. unlaid-less (same_node (line_node w.key) n) (is_laid before n) h)
    (λ n h. (subst (λ (x : Node). not (is_laid before x) ≡ true) (same_node-true (line_node w.key) n h) (ap not (unlaid (is_laid before (line_node w.key)) refl)), ap (λ b. not (b || is_laid before n)) h))
    (written_of (p.transaction s)) (and_parts (is_on_line (written_of (p.transaction s)) w.key) (is_on_line p.touched w.key) own).0
  where
    unlaid : (b : Bool) → is_laid before (line_node w.key) ≡ b → is_laid before (line_node w.key) ≡ false
    unlaid false h = h
    unlaid true h = absurd (false≢true (sym e ∙ laid-written before w.key h))

all-laid : (p : Place) (s : ℕ) (more before : List Write) → AreClaimed p s more → lines_added before more + left (written_of (p.transaction s)) (onto more before) ≤ left (written_of (p.transaction s)) before
all-laid p s [] before own = omega arith
all-laid p s (w ∷ ms) before own =
    let rest = all-laid p s ms (w ∷ before) own.1 in
    let one = one-laid p s w before own.0 (is_written w.key before) refl in
    omega (arith, rest, one)

-- lines are added to those before, and so many fewer are left
pub fewer-left : (p : Place) (s : ℕ) (more before behind : List Write) → Adds more before behind → AreClaimed p s more → lines_added before more + left (written_of (p.transaction s)) behind ≤ left (written_of (p.transaction s)) before
fewer-left p s more before behind adds own =
    let all = all-laid p s more before own in
    let less = passes-less (λ n. not (is_laid (onto more before) n)) (λ n. not (is_laid behind n)) (λ n h. turned (is_laid (onto more before) n) (is_laid behind n) (λ e. behind-laid n e) h) (written_of (p.transaction s)) in
    omega (arith, all, less)
  where
    behind-laid : (n : Node) → is_laid (onto more before) n ≡ true → is_laid behind n ≡ true
    behind-laid n e = elim (or_cases (is_laid before n) (is_laid more n) (onto-laid more before n e)) [
      | inl h ↦ laid-by before behind (λ key k. adds.keys key ∙ or_left (is_written key before) (is_written key more) k) n h
      | inr h ↦ laid-by more behind (λ key k. adds.keys key ∙ or_right (is_written key before) (is_written key more) k) n h
    ]

    turned : (a b : Bool) → (a ≡ true → b ≡ true) → not b ≡ true → not a ≡ true
    turned true true h k = k
    turned true false h k = absurd (false≢true (h refl))
    turned false b h k = refl

-- what is added is no more than what is left
pub added-within : (p : Place) (s : ℕ) (more before : List Write) → AreClaimed p s more → lines_added before more ≤ left (written_of (p.transaction s)) before
added-within p s more before own = let all = all-laid p s more before own in omega (arith, all)

-- the lines that are written and those that are added are among those of the transaction
pub written-within : (p : Place) (s : ℕ) (more before : List Write) → AreClaimed p s before → AreClaimed p s more → lines_written before + lines_added before more ≤ length (written_of (p.transaction s))
written-within p s more before was own =
    let first = all-laid p s before [] was in
    let more_added = added-within p s more before own in
    let less = passes-less (λ n. not (is_laid (onto before []) n)) (λ n. not (is_laid before n)) (λ n h. turned (is_laid (onto before []) n) (is_laid before n) (λ e. nothing-more (is_laid before n) (onto-laid before [] n e)) h) (written_of (p.transaction s)) in
    let most = passes-most (λ n. not (is_laid [] n)) (written_of (p.transaction s)) in
    omega (arith, first, more_added, less, most)
  where
    nothing-more : (b : Bool) → (false || b) ≡ true → b ≡ true
    nothing-more b h = h

    turned : (a b : Bool) → (a ≡ true → b ≡ true) → not b ≡ true → not a ≡ true
    turned true true h k = k
    turned true false h k = absurd (false≢true (h refl))
    turned false b h k = refl
