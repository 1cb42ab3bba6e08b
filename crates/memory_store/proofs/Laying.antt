-- What was written laid in turn, and the lines of an area so far.
use Rattle.std.proofs.Common.{◌≡◌, ℕ, ◌+◌, ◌<◌, ◌==◌, ◌≤◌, zero, suc, Bool, true, false, cond, List, [], ◌∷◌, ◌++◌, take, drop, get_or, length, Option, Some, None, refl, sym, ap, ◌∙◌}
use Rattle.std.proofs.lemmas.List.{take_more, take_all}
use Rattle.std.specs.Prelude.{slice_get}
use Rattle.std.specs.Ordering.{is_eq}
use Rattle.std.proofs.lemmas.Option.{same_Some, none-some}
use Rattle.std.specs.FinMap.Entries.{find, is_sorted}
use Rattle.rdb_types.specs.declared.keys.Dbkey.{Dbkey}
use Rattle.rdb_types.specs.declared.keys.Line.{Line}
use Rattle.rdb_types.specs.Order.{dbkey_order}
use Rattle.line_view.specs.declared.writes.Write.{Write}
use Rattle.line_view.specs.Knowledge.{Lines, IsInOrder, laid, lines_in, line_in}
use Rattle.line_view.specs.Writes.{laid_all}
use Rattle.line_view.proofs.Written.{laid_in_turn}
use Rattle.line_versions.specs.Lines.{shown}
use Rattle.member_memory.specs.Memory.{writes_in, write_at}
use Rattle.member_memory.proofs.Laying.{over, after, laid-after, waiting-after, all-sorted, same-lines}
use Rattle.memory_store.specs.Landed.{landed_on}

pub lines-in-turn : (area : ℕ) (xs ys : Lines) → lines_in area (xs ++ ys) ≡ lines_in area xs ++ lines_in area ys
lines-in-turn area [] ys = refl
lines-in-turn area (x ∷ xs) ys = elim (x.0.area == area) as (λ b. cond b (x ∷ lines_in area (xs ++ ys)) (lines_in area (xs ++ ys)) ≡ cond b (x ∷ lines_in area xs) (lines_in area xs) ++ lines_in area ys) [
  | true ↦ ap (λ (ls : Lines). x ∷ ls) (lines-in-turn area xs ys)
  | false ↦ lines-in-turn area xs ys
]

written-in-turn : (xs ys : List (Dbkey × Line)) → writes_in (xs ++ ys) ≡ writes_in xs ++ writes_in ys
written-in-turn [] ys = refl
written-in-turn (x ∷ xs) ys = ap (λ (ws : List Write). write_at x ∷ ws) (written-in-turn xs ys)

pub one-laid-more : (own : List (Dbkey × Line)) (i : ℕ) (e : Dbkey × Line) (lines : Lines) → i < length own → e ≡ get_or own i e → laid_all (writes_in (take (i + 1) own)) lines ≡ laid e.0 (shown e.1) (laid_all (writes_in (take i own)) lines)
one-laid-more own i e lines inside is =
    ap (λ (es : List (Dbkey × Line)). laid_all (writes_in es) lines) (take_more own i e inside ∙ ap (λ (x : Dbkey × Line). take i own ++ x ∷ []) (sym is))
    ∙ (ap (λ (ws : List Write). laid_all ws lines) (written-in-turn (take i own) (e ∷ []))
    ∙ laid_in_turn (writes_in (take i own)) (write_at e ∷ []) lines)

-- with this one it is behind one more
pub laid-one : (own : List (Dbkey × Line)) (i : ℕ) (e : Dbkey × Line) (lines now next : Lines) (image : Option (List ℕ)) → i < length own → e ≡ get_or own i e →
    now ≡ laid_all (writes_in (take i own)) lines → image ≡ shown e.1 → next ≡ laid e.0 image now → next ≡ laid_all (writes_in (take (i + 1) own)) lines
laid-one own i e lines now next image inside is now-is image-is next-is =
    next-is
    ∙ (ap (λ (x : Option (List ℕ)). laid e.0 x now) image-is
    ∙ (ap (laid e.0 (shown e.1)) now-is
    ∙ sym (one-laid-more own i e lines inside is)))

pub all-laid : (own : List (Dbkey × Line)) (i : ℕ) (lines : Lines) → length own ≤ i → laid_all (writes_in (take i own)) lines ≡ laid_all (writes_in own) lines
all-laid own i lines done = ap (λ (es : List (Dbkey × Line)). laid_all (writes_in es) lines) (take_all i own done)

-- the image of a line behind what a transaction wrote
pub image-behind : (own : List (Dbkey × Line)) (all : Lines) (key : Dbkey) (found : Option Line) → is_sorted dbkey_order own ≡ true → find dbkey_order key own ≡ found → line_in key (laid_all (writes_in own) all) ≡ over found (line_in key all)
image-behind own all key found sorted is =
    laid-after key (writes_in own) all
    ∙ (waiting-after key own (line_in key all) sorted
    ∙ ap (λ (x : Option Line). over x (line_in key all)) is)

-- ---- what is laid once more

again : (q : Dbkey) (own : List (Dbkey × Line)) (n : ℕ) (x : Option (List ℕ)) → after q (writes_in own) (after q (writes_in (take n own)) x) ≡ after q (writes_in own) x
again q [] zero x = refl
again q [] (suc n) x = refl
again q (e ∷ es) zero x = refl
again q (e ∷ es) (suc n) x = elim (is_eq (dbkey_order q e.0)) as (λ b. after q (writes_in es) (cond b (shown e.1) (after q (writes_in (take n es)) (cond b (shown e.1) x))) ≡ after q (writes_in es) (cond b (shown e.1) x)) [
  | true ↦ refl
  | false ↦ again q es n x
]

-- laying some of it before changes nothing
laid-again : (own : List (Dbkey × Line)) (n : ℕ) (lines : Lines) → IsInOrder lines → laid_all (writes_in own) (laid_all (writes_in (take n own)) lines) ≡ laid_all (writes_in own) lines
laid-again own n lines order =
    let some = writes_in (take n own) in
    let ws = writes_in own in
    same-lines (laid_all ws (laid_all some lines)) (laid_all ws lines) (all-sorted ws (laid_all some lines) (all-sorted some lines order)) (all-sorted ws lines order) (λ q.
    laid-after q ws (laid_all some lines)
    ∙ (ap (after q ws) (laid-after q some lines)
    ∙ (again q own n (line_in q lines)
    ∙ sym (laid-after q ws lines))))

-- ---- commits one after another

pub first-partly : (batches : List (List Write)) (own : List (Dbkey × Line)) (n : ℕ) (lines next : Lines) → slice_get batches 0 ≡ Some (writes_in own) → IsInOrder lines → next ≡ laid_all (writes_in (take n own)) lines → landed_on batches next ≡ landed_on batches lines
first-partly [] own n lines next first order is = absurd (none-some _ first)
first-partly (b ∷ bs) own n lines next first order is =
    let same : b ≡ writes_in own = same_Some _ _ first in
    ap (λ (ws : List Write). landed_on bs (laid_all ws next)) same
    ∙ (ap (λ (ls : Lines). landed_on bs (laid_all (writes_in own) ls)) is
    ∙ (ap (landed_on bs) (laid-again own n lines order)
    ∙ ap (λ (ws : List Write). landed_on bs (laid_all ws lines)) (sym same)))

pub first-laid : (batches : List (List Write)) (own : List (Dbkey × Line)) (lines next : Lines) → slice_get batches 0 ≡ Some (writes_in own) → next ≡ laid_all (writes_in own) lines → landed_on (drop 1 batches) next ≡ landed_on batches lines
first-laid [] own lines next first is = absurd (none-some _ first)
first-laid (b ∷ bs) own lines next first is =
    ap (landed_on bs) is ∙ ap (λ (ws : List Write). landed_on bs (laid_all ws lines)) (sym (same_Some _ _ first))

pub landed-more : (batches : List (List Write)) (batch : List Write) (lines : Lines) → landed_on (batches ++ batch ∷ []) lines ≡ laid_all batch (landed_on batches lines)
landed-more [] batch lines = refl
landed-more (b ∷ bs) batch lines = landed-more bs batch (laid_all b lines)

pub one-landed-more : (batches : List (List Write)) (i : ℕ) (batch : List Write) (lines : Lines) → i < length batches → batch ≡ get_or batches i batch → landed_on (take (i + 1) batches) lines ≡ laid_all batch (landed_on (take i batches) lines)
one-landed-more batches i batch lines inside is =
    ap (λ (bs : List (List Write)). landed_on bs lines) (take_more batches i batch inside ∙ ap (λ (b : List Write). take i batches ++ b ∷ []) (sym is))
    ∙ landed-more (take i batches) batch lines

pub all-landed : (batches : List (List Write)) (i : ℕ) (lines : Lines) → length batches ≤ i → landed_on (take i batches) lines ≡ landed_on batches lines
all-landed batches i lines done = ap (λ (bs : List (List Write)). landed_on bs lines) (take_all i batches done)
