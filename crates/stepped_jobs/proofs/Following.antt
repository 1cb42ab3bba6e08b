-- What is known behind writes.
use Rattle.std.proofs.Common.{◌≡◌, ℕ, ◌+◌, ◌<◌, Bool, true, false, cond, List, [], ◌∷◌, ◌++◌, take, get_or, length, Option, Some, None, T, refl, sym, ap, subst, ◌∙◌}
use Rattle.std.proofs.lemmas.List.{take_more}
use Rattle.std.proofs.lemmas.Option.{none-some}
use Rattle.std.specs.FinMap.Entries.{find, put, find-put, is_sorted-put, is_sorted-where_key}
use Rattle.std.specs.declared.cmp.Ordering.{Ordering}
use Rattle.std.specs.Ordering.{is_eq}
use Rattle.std.specs.Cmp.{IsTotalOrder}
use Rattle.std.proofs.lemmas.Cmp.{tied_itself, nat_cmp_total}
use Rattle.rdb_types.specs.declared.keys.Dbkey.{Dbkey}
use Rattle.rdb_types.specs.Order.{dbkey_order}
use Rattle.rdb_types.specs.OrderLaws.{dbkey_total}
use Rattle.line_view.specs.declared.writes.Write.{Write}
use Rattle.line_view.specs.Knowledge.{Lines, IsInOrder, Agrees, keys_of, laid}
use Rattle.line_view.specs.Held.{Held, knows, nothing, ordered, with_line, with_lines, with_area}
use Rattle.line_view.specs.Writes.{laid_all}
use Rattle.line_view.proofs.Written.{laid_in_turn}
use Rattle.line_store.specs.Seats.{Seat, outside, beginning, writing, changing, broken, prepared, committing, rolling_back, closing, reading, copying, dead, IsWriting, writes_of}
use Rattle.line_store.specs.Shelves.{Shelf, seen_from, seen_by}
use Rattle.line_store.specs.Calls.{Changes}
use Rattle.line_store.specs.Sights.{bare}
use Rattle.stepped_jobs.specs.Applying.{Applies}

-- ---- the map stays in order

true_from_T : (b : Bool) → T b → b ≡ true
true_from_T true h = refl
true_from_T false h = absurd h

laid-in-order : (key : Dbkey) (image : Option (List ℕ)) (lines : Lines) → IsInOrder lines → IsInOrder (laid key image lines)
laid-in-order key (Some image) lines h = true_from_T _ (is_sorted-put dbkey_order dbkey_total key image lines (subst T (sym h) tt))
laid-in-order key None lines h = true_from_T _ (is_sorted-where_key dbkey_order _ lines (subst T (sym h) tt))

pub laid-all-in-order : (writes : List Write) (lines : Lines) → IsInOrder lines → IsInOrder (laid_all writes lines)
laid-all-in-order [] lines h = h
laid-all-in-order (w ∷ ws) lines h = laid-all-in-order ws (laid w.key w.image lines) (laid-in-order w.key w.image lines h)

pub one-laid-more : (writes : List Write) (i : ℕ) (w : Write) (lines : Lines) → i < length writes → w ≡ get_or writes i w → laid_all (take (i + 1) writes) lines ≡ laid w.key w.image (laid_all (take i writes) lines)
one-laid-more writes i w lines inside is =
    ap (λ (ws : List Write). laid_all ws lines) (take_more writes i w inside ∙ ap (λ (v : Write). take i writes ++ v ∷ []) (sym is))
    ∙ laid_in_turn (take i writes) (w ∷ []) lines

-- ---- what is learnt

module _ {K X : Type 0} {R : K → K → Ordering} (o : IsTotalOrder R) (k : K) (v : X) (es : List (K × X)) where
  put-there : find R k (put R k v es) ≡ Some v
  put-there = find-put R o k k v es ∙ ap (λ r. cond (is_eq r) (Some v) (find R k es)) (tied_itself o k)

pub line-learnt : (key : Dbkey) (image : Option (List ℕ)) (h : Held) → (knows (with_line key image h)).line key ≡ None → ⊥
line-learnt key image h none = none-some image (sym none ∙ put-there dbkey_total key image h.lines)

pub area-learnt : (area : ℕ) (es : Lines) (h : Held) → (knows (with_area area es h)).area area ≡ None → ⊥
area-learnt area es h none = none-some (ordered (keys_of es)) (sym none ∙ put-there nat_cmp_total area (ordered (keys_of es)) (with_lines es h).areas)

-- who knows nothing agrees
pub nothing-agrees : (all : Lines) → Agrees (knows nothing) all
nothing-agrees all = record {
  line = λ key what is. absurd (none-some _ is);
  area = λ area keys is. absurd (none-some _ is);
  within = λ room key is. absurd (none-some _ is);
  free = λ room key is. absurd (none-some _ is);
  apart = λ a b key is also. absurd (none-some _ is);
}

-- ---- what is seen behind a change

written : (seat : Seat) (now : Lines) → IsWriting seat → seen_from seat now ≡ laid_all (writes_of seat) now
written (writing ws) now h = refl
written _ now h = absurd h

is-writing : (seat : Seat) → IsWriting (bare seat) → IsWriting seat
is-writing (writing ws) h = tt
is-writing outside h = absurd h
is-writing beginning h = absurd h
is-writing (changing ws) h = absurd h
is-writing (broken ws) h = absurd h
is-writing (prepared ws) h = absurd h
is-writing (committing ws) h = absurd h
is-writing (rolling_back ws) h = absurd h
is-writing closing h = absurd h
is-writing (reading start) h = absurd h
is-writing (copying number start) h = absurd h
is-writing (dead commits ws) h = absurd h

bare-writing : (seat : Seat) → IsWriting seat → IsWriting (bare seat)
bare-writing (writing ws) h = tt
bare-writing _ h = absurd h

-- who stands writing, has that seat on each shelf that is shown
pub seated-so : (stand seat : Seat) → bare stand ≡ bare seat → IsWriting stand → IsWriting seat
seated-so stand seat same is = is-writing seat (subst IsWriting same (bare-writing stand is))

seen-behind : (s : ℕ) (more : List Write) (old new : Shelf) → IsInOrder old.now → IsWriting (old.seat s) → Changes s more old new → laid_all more (seen_by s old) ≡ seen_by s new
seen-behind s more old new ordered is h =
    ap (λ (ls : Lines). laid_all more ls) (written (old.seat s) old.now is)
    ∙ (sym (h.adds.laid old.now ordered)
    ∙ (ap (λ (ls : Lines). laid_all h.behind ls) (sym h.now)
    ∙ ap (λ (x : Seat). seen_from x new.now) (sym h.mine)))

seen-in-order : (s : ℕ) (old : Shelf) → IsInOrder old.now → IsWriting (old.seat s) → IsInOrder (seen_by s old)
seen-in-order s old ordered is = subst IsInOrder (sym (written (old.seat s) old.now is)) (laid-all-in-order (writes_of (old.seat s)) old.now ordered)

-- what follows the writes, agrees with what is seen behind them
pub applied : (s : ℕ) (more : List Write) (known behind : Held) (old new : Shelf) → IsWriting (old.seat s) → ((all : Lines) → IsInOrder all → Agrees (knows known) all → Agrees (knows behind) (laid_all more all)) → Changes s more old new → Applies s more known behind old new
applied s more known behind old new is follows changes = record {
  changes = changes;
  agrees = λ ordered agrees. subst (λ (ls : Lines). Agrees (knows behind) ls) (seen-behind s more old new ordered is changes) (follows (seen_by s old) (seen-in-order s old ordered is) agrees);
}
