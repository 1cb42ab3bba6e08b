-- Lines that are given the images of writes.
use Rattle.std.proofs.Common.{◌≡◌, ℕ, ◌+◌, ◌<◌, ◌||◌, Bool, true, false, cond, List, [], ◌∷◌, ◌++◌, take, get_or, length, Option, Some, None, refl, sym, ap, ◌∙◌}
use Rattle.std.specs.Prelude.{is_some, option_map}
use Rattle.std.specs.declared.cmp.Ordering.{Ordering}
use Rattle.std.specs.declared.cmp.Ordering.TheVariants.{Less, Equal, Greater}
use Rattle.std.specs.Ordering.{is_eq, is_lt}
use Rattle.std.specs.FinMap.Entries.{find, put, is_sorted, below_all, by_order, is_sorted-put, find-put, length-put}
use Rattle.std.proofs.lemmas.Option.{same_Some, none-some}
use Rattle.std.proofs.lemmas.Bool.{true≢false, and_parts}
use Rattle.rdb_types.specs.declared.keys.Dbkey.{Dbkey}
use Rattle.rdb_types.specs.declared.keys.Line.{Line}
use Rattle.rdb_types.specs.Order.{dbkey_order}
use Rattle.rdb_types.specs.OrderLaws.{dbkey_total, same_dbkey}
use Rattle.line_view.specs.declared.writes.Write.{Write}
use Rattle.line_store.specs.Seats.{is_written}
use Rattle.line_versions.specs.Lines.{shown}
use Rattle.member_memory.specs.Memory.{AreKeysOf, write_at, writes_in}
use Rattle.member_memory.specs.Changes.{rewritten, rewritten_in, rewritten_at, rewritten_all}
use Rattle.member_memory.proofs.Counting.{taken-one}
use Rattle.member_memory.proofs.Growing.{tied, true-from_T, T-from_true}

-- ---- in turn

rewritten-in-turn : (xs ys : List Write) (lines : List (Dbkey × Line)) → rewritten_all (xs ++ ys) lines ≡ rewritten_all ys (rewritten_all xs lines)
rewritten-in-turn [] ys lines = refl
rewritten-in-turn (x ∷ xs) ys lines = rewritten-in-turn xs ys (rewritten_at x lines)

pub one-rewritten : (ws : List Write) (n : ℕ) (w : Write) (lines : List (Dbkey × Line)) → n < length ws → w ≡ get_or ws n w → rewritten_all (take (n + 1) ws) lines ≡ rewritten_at w (rewritten_all (take n ws) lines)
one-rewritten ws n w lines within is = ap (λ (v : List Write). rewritten_all v lines) (taken-one ws n w within is) ∙ rewritten-in-turn (take n ws) (w ∷ []) lines

-- ---- what is found

abbrev pub rewritten_if : Bool → Option (List ℕ) → Line → Line
rewritten_if b image line = cond b (rewritten image line) line

-- what becomes of a line of this key
abbrev pub rewritten_by : Dbkey → List Write → Line → Line
rewritten_by q [] line = line
rewritten_by q (w ∷ ws) line = rewritten_by q ws (rewritten_if (is_eq (dbkey_order q w.key)) w.image line)

found-one : (q : Dbkey) (w : Write) (lines : List (Dbkey × Line)) → find dbkey_order q (rewritten_at w lines) ≡ option_map (rewritten_if (is_eq (dbkey_order q w.key)) w.image) (find dbkey_order q lines)
found-one q w lines = by (find dbkey_order w.key lines) refl (is_eq (dbkey_order q w.key)) refl
  where
    here : is_eq (dbkey_order q w.key) ≡ true → find dbkey_order q lines ≡ find dbkey_order w.key lines
    here tie = ap (λ (k : Dbkey). find dbkey_order k lines) (same_dbkey q w.key (tied _ tie))

    as-it-is : (image : Option (List ℕ)) (x : Option Line) → x ≡ option_map (rewritten_if false image) x
    as-it-is image None = refl
    as-it-is image (Some line) = refl

    by : (found : Option Line) → find dbkey_order w.key lines ≡ found → (b : Bool) → is_eq (dbkey_order q w.key) ≡ b → find dbkey_order q (rewritten_in w found lines) ≡ option_map (rewritten_if b w.image) (find dbkey_order q lines)
    by None none true tie =
        let nothing : find dbkey_order q lines ≡ None = here tie ∙ none in
        nothing ∙ sym (ap (λ (x : Option Line). option_map (rewritten_if true w.image) x) nothing)
    by None none false apart = as-it-is w.image _
    by (Some line) is true tie =
        find-put dbkey_order dbkey_total q w.key (rewritten w.image line) lines
        ∙ ap (λ b. cond b (Some (rewritten w.image line)) (find dbkey_order q lines)) tie
        ∙ sym (ap (λ (x : Option Line). option_map (rewritten_if true w.image) x) (here tie ∙ is))
    by (Some line) is false apart =
        find-put dbkey_order dbkey_total q w.key (rewritten w.image line) lines
        ∙ ap (λ b. cond b (Some (rewritten w.image line)) (find dbkey_order q lines)) apart
        ∙ as-it-is w.image _

mapped-twice : (f g : Line → Line) (x : Option Line) → option_map g (option_map f x) ≡ option_map (λ l. g (f l)) x
mapped-twice f g None = refl
mapped-twice f g (Some line) = refl

mapped-same : (x : Option Line) → x ≡ option_map (λ l. l) x
mapped-same None = refl
mapped-same (Some line) = refl

pub found-rewritten : (q : Dbkey) (ws : List Write) (lines : List (Dbkey × Line)) → find dbkey_order q (rewritten_all ws lines) ≡ option_map (rewritten_by q ws) (find dbkey_order q lines)
found-rewritten q [] lines = mapped-same _
found-rewritten q (w ∷ ws) lines =
    found-rewritten q ws (rewritten_at w lines)
    ∙ ap (option_map (rewritten_by q ws)) (found-one q w lines)
    ∙ mapped-twice _ _ (find dbkey_order q lines)

-- ---- what stays

kept-if : (b : Bool) (image : Option (List ℕ)) (line : Line) → ((rewritten_if b image line).tsn ≡ line.tsn) × ((rewritten_if b image line).chain ≡ line.chain)
kept-if true (Some image) line = (refl, refl)
kept-if true None line = (refl, refl)
kept-if false image line = (refl, refl)

pub kept-by : (q : Dbkey) (ws : List Write) (line : Line) → ((rewritten_by q ws line).tsn ≡ line.tsn) × ((rewritten_by q ws line).chain ≡ line.chain)
kept-by q [] line = (refl, refl)
kept-by q (w ∷ ws) line =
    let rest = kept-by q ws (rewritten_if (is_eq (dbkey_order q w.key)) w.image line) in
    let first = kept-if (is_eq (dbkey_order q w.key)) w.image line in
    (rest.0 ∙ first.0, rest.1 ∙ first.1)

pub not-rewritten : (q : Dbkey) (ws : List Write) (line : Line) → is_written q ws ≡ false → rewritten_by q ws line ≡ line
not-rewritten q [] line not-it = refl
not-rewritten q (w ∷ ws) line not-it =
    elim (is_eq (dbkey_order q w.key)) as (λ b. (b || is_written q ws) ≡ false → rewritten_by q ws (rewritten_if b w.image line) ≡ line) [
      | true ↦ λ h. absurd (true≢false h)
      | false ↦ λ h. not-rewritten q ws line h
    ] not-it

sorted-in : (w : Write) (found : Option Line) (lines : List (Dbkey × Line)) → is_sorted dbkey_order lines ≡ true → is_sorted dbkey_order (rewritten_in w found lines) ≡ true
sorted-in w None lines sorted = sorted
sorted-in w (Some line) lines sorted = true-from_T _ (is_sorted-put dbkey_order dbkey_total w.key (rewritten w.image line) lines (T-from_true _ sorted))

pub sorted-rewritten : (ws : List Write) (lines : List (Dbkey × Line)) → is_sorted dbkey_order lines ≡ true → is_sorted dbkey_order (rewritten_all ws lines) ≡ true
sorted-rewritten [] lines sorted = sorted
sorted-rewritten (w ∷ ws) lines sorted = sorted-rewritten ws (rewritten_at w lines) (sorted-in w (find dbkey_order w.key lines) lines sorted)

long-in : (w : Write) (found : Option Line) (lines : List (Dbkey × Line)) → is_sorted dbkey_order lines ≡ true → find dbkey_order w.key lines ≡ found → length (rewritten_in w found lines) ≡ length lines
long-in w None lines sorted is = refl
long-in w (Some line) lines sorted is = length-put dbkey_order dbkey_total w.key (rewritten w.image line) lines (T-from_true _ sorted) ∙ ap (λ (x : Option Line). cond (is_some x) (length lines) (length lines + 1)) is

long-rewritten : (ws : List Write) (lines : List (Dbkey × Line)) → is_sorted dbkey_order lines ≡ true → length (rewritten_all ws lines) ≡ length lines
long-rewritten [] lines sorted = refl
long-rewritten (w ∷ ws) lines sorted =
    long-rewritten ws (rewritten_at w lines) (sorted-in w (find dbkey_order w.key lines) lines sorted) ∙ long-in w (find dbkey_order w.key lines) lines sorted refl

some-mapped : (f : Line → Line) (x : Option Line) → is_some (option_map f x) ≡ is_some x
some-mapped f None = refl
some-mapped f (Some line) = refl

pub some-rewritten : (q : Dbkey) (ws : List Write) (lines : List (Dbkey × Line)) → is_some (find dbkey_order q (rewritten_all ws lines)) ≡ is_some (find dbkey_order q lines)
some-rewritten q ws lines = ap is_some (found-rewritten q ws lines) ∙ some-mapped (rewritten_by q ws) (find dbkey_order q lines)

pub rewritten-kept : (ws : List Write) (lines : List (Dbkey × Line)) (keys : List Dbkey) → AreKeysOf lines keys → AreKeysOf (rewritten_all ws lines) keys
rewritten-kept ws lines keys were =
    let sorted = were.ordered in
    record {
      ordered = sorted-rewritten ws lines sorted;
      long = were.long ∙ sym (long-rewritten ws lines sorted);
      same = λ q. were.same q ∙ sym (some-rewritten q ws lines);
      once = were.once;
    }

-- ---- one line

-- a line in the place of another that was found
pub put-kept : (key : Dbkey) (line before : Line) (lines : List (Dbkey × Line)) (keys : List Dbkey) → find dbkey_order key lines ≡ Some before → AreKeysOf lines keys → AreKeysOf (put dbkey_order key line lines) keys
put-kept key line before lines keys is were = record {
  ordered = true-from_T _ (is_sorted-put dbkey_order dbkey_total key line lines (T-from_true _ were.ordered));
  long = were.long ∙ sym (length-put dbkey_order dbkey_total key line lines (T-from_true _ were.ordered) ∙ ap (λ (x : Option Line). cond (is_some x) (length lines) (length lines + 1)) is);
  same = λ q. were.same q ∙ sym (ap is_some (find-put dbkey_order dbkey_total q key line lines) ∙ by q (is_eq (dbkey_order q key)) refl);
  once = were.once;
}
  where
    by : (q : Dbkey) (b : Bool) → is_eq (dbkey_order q key) ≡ b → is_some (cond b (Some line) (find dbkey_order q lines)) ≡ is_some (find dbkey_order q lines)
    by q true tie = sym (ap is_some (ap (λ (k : Dbkey). find dbkey_order k lines) (same_dbkey q key (tied _ tie)) ∙ is))
    by q false apart = refl

less : (r : Ordering) → is_lt r ≡ true → r ≡ Less
less Less e = refl
less Equal e = absurd (true≢false (sym e))
less Greater e = absurd (true≢false (sym e))

-- a key below one that is below all is found in none
none-below : (x k : Dbkey) (es : List (Dbkey × Line)) → dbkey_order k x ≡ Less → below_all dbkey_order x es ≡ true → find dbkey_order k es ≡ None
none-below x k [] low below = refl
none-below x k (e ∷ es) low below =
    let parts = and_parts _ _ below in
    ap (λ r. cond (is_eq r) (Some e.1) (find dbkey_order k es)) (dbkey_total.trans k x e.0 low (less _ parts.0)) ∙ none-below x k es low parts.1

same-writes-at : (key : Dbkey) (line before : Line) (e : Dbkey × Line) (es : List (Dbkey × Line)) (r : Ordering) → shown line ≡ shown before → below_all dbkey_order e.0 es ≡ true → dbkey_order key e.0 ≡ r →
    cond (is_eq r) (Some e.1) (find dbkey_order key es) ≡ Some before → (find dbkey_order key es ≡ Some before → writes_in (put dbkey_order key line es) ≡ writes_in es) →
    writes_in (by_order r ((key, line) ∷ e ∷ es) ((e.0, line) ∷ es) (e ∷ put dbkey_order key line es)) ≡ writes_in (e ∷ es)
same-writes-at key line before e es Less shows below is found rest = absurd (none-some _ (sym (none-below e.0 key es is below) ∙ found))
same-writes-at key line before e es Equal shows below is found rest = ap (λ (image : Option (List ℕ)). record { key = e.0; image = image } ∷ writes_in es) (shows ∙ ap shown (sym (same_Some _ _ found)))
same-writes-at key line before e es Greater shows below is found rest = ap (λ (ws : List Write). write_at e ∷ ws) (rest found)

-- one that shows the same
pub same-writes : (key : Dbkey) (line before : Line) (lines : List (Dbkey × Line)) → is_sorted dbkey_order lines ≡ true → find dbkey_order key lines ≡ Some before → shown line ≡ shown before → writes_in (put dbkey_order key line lines) ≡ writes_in lines
same-writes key line before [] sorted is shows = absurd (none-some _ is)
same-writes key line before (e ∷ es) sorted is shows =
    let parts = and_parts _ _ sorted in
    same-writes-at key line before e es (dbkey_order key e.0) shows parts.0 refl is (λ found. same-writes key line before es parts.1 found shows)
