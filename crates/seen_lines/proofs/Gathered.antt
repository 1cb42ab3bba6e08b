-- The lines of an area, gathered one behind another.
use Rattle.std.specs.Prelude.{IsErrOf, Err}
use Rattle.std.proofs.Common.{◌≡◌, ◌∙◌, ◌+◌, ◌-◌, ◌*◌, ◌≤◌, ◌<◌, ◌==◌, ◌&&◌, ℕ, Bool, true, false, cond, not, List, [], ◌∷◌, ◌++◌, map, take, get_or, length, Option, Some, None, T, nat_eq, ⊎_elim, refl, sym, ap, subst, arith}
use Rattle.std.specs.declared.cmp.Ordering.{Ordering}
use Rattle.std.specs.declared.cmp.Ordering.TheVariants.{Less, Equal, Greater}
use Rattle.std.specs.Ordering.{is_eq, is_lt, ordering_reverse}
use Rattle.std.specs.Cmp.{tied_itself}
use Rattle.std.specs.FinMap.Entries.{find-put, find-where_key, is_sorted-put, is_sorted-where_key}
use Rattle.std.proofs.lemmas.List.{take_all, take_more}
use Rattle.std.proofs.lemmas.Bool.{true≢false, eq-eqb, eqb-true}
use Rattle.rdb_types.specs.declared.keys.Dbkey.{Dbkey}
use Rattle.rdb_types.specs.Order.{dbkey_order}
use Rattle.rdb_types.specs.OrderLaws.{dbkey_total, same_dbkey}
use Rattle.rdb_page.specs.Page.{IsOwner, lines_of}
use Rattle.rdb_types.specs.declared.keys.Line.{Line}
use Rattle.line_view.specs.declared.writes.Write.{Write}
use Rattle.line_view.specs.Knowledge.{Lines, IsInOrder, laid, line_in, lines_in}
use Rattle.line_view.specs.Writes.{laid_all}
use Rattle.line_view.proofs.FullMap.{laid_found, other_area}
use Rattle.line_view.proofs.Written.{laid_in_turn}
use Rattle.line_versions.specs.Lines.{shown}
use Rattle.member_memory.specs.Memory.{writes_in, write_at}
use Rattle.line_store.specs.declared.answers.ReadStop.{ReadStop}
use Rattle.line_store.specs.declared.answers.ReadStop.TheVariants as read
use Rattle.line_store.specs.declared.answers.Fault.{Fault}
use Rattle.line_store.specs.Rooms.{IsBehind}
use Rattle.committed_tables.specs.page_table.declared.uses.Sought.TheVariants.{Ever}
use Rattle.committed_tables.specs.page_table.Pages.{Pages, class_in, IsLineOf}
use Rattle.committed_tables.specs.page_table.Scans.{IsFirst, HasNone}
use Rattle.committed_tables.proofs.of_page_table.Orders.{before}
use Rattle.committed_tables.specs.Tables.{WereUsed}
use Rattle.committed_tables.proofs.EverUsed.{none_before, none_left}
use Rattle.member_memory.proofs.Laying.{same-lines, all-sorted}
use Rattle.seen_lines.specs.Seen.{IsOfArea, laid_in, with_found}

abbrev R : Dbkey → Dbkey → Ordering
R = dbkey_order

-- a fault is told on as it is
pub told_on : {T U : Type 0} (x y : Fault) → IsErrOf {T = T} (Err (read.Fault x)) (read.Fault y) → IsErrOf {T = U} (Err x) y
told_on x y is = let same : x ≡ y = cc in ap Err same

pub stop_on : {T U : Type 0} (x y : ReadStop) → IsErrOf {T = T} (Err x) y → IsErrOf {T = U} (Err x) y
stop_on x y is = let same : x ≡ y = cc in ap Err same

-- ---- lines of an area

tests : (a b : ℕ) (k : Dbkey) (q : Dbkey) → R q k ≡ Equal → (k.area == a) ≡ (q.area == a)
tests a b k q tie = ap (λ (x : Dbkey). x.area == a) (sym (same_dbkey q k tie))

pub in_area : (a : ℕ) (q : Dbkey) (all : Lines) → line_in q (lines_in a all) ≡ cond (q.area == a) (line_in q all) None
in_area a q all = find-where_key R (λ k. k.area == a) q (λ x tie. tests a 0 x q tie) all

from_T : (b : Bool) → T b → b ≡ true
from_T true h = refl
from_T false h = absurd h

to_T : (b : Bool) → b ≡ true → T b
to_T b is = subst (λ x. T x) (sym is) tt

pub in_order : (a : ℕ) (all : Lines) → IsInOrder all → IsInOrder (lines_in a all)
in_order a all sorted = from_T _ (is_sorted-where_key R (λ k. k.area == a) all (to_T _ sorted))

pub put_in_order : (key : Dbkey) (image : Option (List ℕ)) (found : Lines) → IsInOrder found → IsInOrder (with_found key image found)
put_in_order key (Some image) found sorted = from_T _ (is_sorted-put R dbkey_total key image found (to_T _ sorted))
put_in_order key None found sorted = sorted

-- lines of which those of other areas aren't found are of the area alone
pub of_area : (a : ℕ) (found : Lines) → IsInOrder found → ((q : Dbkey) → (q.area == a) ≡ false → line_in q found ≡ None) → IsOfArea a found
of_area a found sorted none = record { ordered = sorted; alone = same-lines (lines_in a found) found (in_order a found sorted) sorted (λ q. in_area a q found ∙ by q (q.area == a) refl) }
  where
    by : (q : Dbkey) (b : Bool) → (q.area == a) ≡ b → cond b (line_in q found) None ≡ line_in q found
    by q true is = refl
    by q false is = sym (none q is)

pub others_none : (a : ℕ) (found : Lines) → IsOfArea a found → (q : Dbkey) → (q.area == a) ≡ false → line_in q found ≡ None
others_none a found is q other = ap (λ l. line_in q l) (sym is.alone) ∙ in_area a q found ∙ ap (λ b. cond b (line_in q found) None) other

-- ---- a line more

pub found_with : (q key : Dbkey) (image : Option (List ℕ)) (found : Lines) → line_in key found ≡ None → line_in q (with_found key image found) ≡ cond (is_eq (R q key)) image (line_in q found)
found_with q key (Some image) found none = find-put R dbkey_total q key image found
found_with q key None found none = by (R q key) refl
  where
    by : (r : Ordering) → R q key ≡ r → line_in q found ≡ cond (is_eq r) None (line_in q found)
    by Less is = refl
    by Equal is = ap (λ (k : Dbkey). line_in k found) (same_dbkey q key is) ∙ none
    by Greater is = refl

-- ---- what is reached

abbrev pub behind : Option Dbkey → Dbkey → Bool
behind None q = true
behind (Some from) q = is_lt (R from q)

-- Of the lines of the area, those that aren't behind are found, and no others.
abbrev pub Gathers : Lines → ℕ → Option Dbkey → Lines → Type 0
Gathers seen a from found = (q : Dbkey) → line_in q found ≡ cond ((q.area == a) && not (behind from q)) (line_in q seen) None

pub begins : (seen : Lines) (a : ℕ) → Gathers seen a None []
begins seen a q = by (q.area == a)
  where
    by : (b : Bool) → None ≡ cond (b && false) (line_in q seen) None
    by true = refl
    by false = refl

is_behind : (from : Option Dbkey) (q : Dbkey) → behind from q ≡ true → IsBehind from q
is_behind None q is = tt
is_behind (Some from) q is = by (R from q) refl is
  where
    by : (r : Ordering) → R from q ≡ r → is_lt r ≡ true → R from q ≡ Less
    by Less same lt = same
    by Equal same lt = absurd (true≢false (sym lt))
    by Greater same lt = absurd (true≢false (sym lt))

behind_is : (from : Option Dbkey) (q : Dbkey) → IsBehind from q → behind from q ≡ true
behind_is None q is = refl
behind_is (Some from) q is = ap is_lt is

further : (from : Option Dbkey) (key q : Dbkey) → IsBehind from key → R key q ≡ Less → IsBehind from q
further None key q is lt = tt
further (Some from) key q is lt = dbkey_total.trans from key q is lt

module _ (pages : Pages) (file : ℕ) (seen : Lines) (a : ℕ) (from : Option Dbkey) (were : WereUsed pages file seen) (owner : IsOwner file a) where
  nothing : (q : Dbkey) → ((image : List ℕ) → line_in q seen ≡ Some image → ⊥) → line_in q seen ≡ None
  nothing q none = by (line_in q seen) refl
    where
      by : (x : Option (List ℕ)) → line_in q seen ≡ x → x ≡ None
      by None is = refl
      by (Some image) is = absurd (none image is)

  module _ (key : Dbkey) (image : Option (List ℕ)) (first : IsFirst pages Ever a from key) (is : image ≡ line_in key seen) (found : Lines) (was : Gathers seen a from found) where
    key_none : line_in key found ≡ None
    key_none = was key ∙ ap (λ b. cond ((key.area == a) && not b) (line_in key seen) None) (behind_is from key first.fits.behind) ∙ by (key.area == a)
      where
        by : (b : Bool) → cond (b && false) (line_in key seen) None ≡ None
        by true = refl
        by false = refl

    own_area : (key.area == a) ≡ true
    own_area = eq-eqb key.area a first.fits.area_is

    -- of the line that is put, of one before it, of one behind it
    pub gathers_more : Gathers seen a (Some key) (with_found key image found)
    gathers_more q = found_with q key image found key_none ∙ by (R q key) refl
      where
        by : (r : Ordering) → R q key ≡ r → cond (is_eq r) image (line_in q found) ≡ cond ((q.area == a) && not (is_lt (R key q))) (line_in q seen) None
        by Equal same = here (same_dbkey q key same)
          where
            here : q ≡ key → image ≡ cond ((q.area == a) && not (is_lt (R key q))) (line_in q seen) None
            here k = is ∙ sym (ap (λ (x : Dbkey). cond ((x.area == a) && not (is_lt (R key x))) (line_in x seen) None) k
                ∙ (λ i. cond (own_area i && not (is_lt (tied_itself dbkey_total key i))) (line_in key seen) None))
        by Less lt = was q ∙ of (q.area == a) refl
          where
            not_less : is_lt (R key q) ≡ false
            not_less = ap is_lt (dbkey_total.antisymm key q ∙ ap ordering_reverse lt)

            of : (b : Bool) → (q.area == a) ≡ b → cond (b && not (behind from q)) (line_in q seen) None ≡ cond (b && not (is_lt (R key q))) (line_in q seen) None
            of false other = refl
            of true mine = ap (λ x. cond (not x) (line_in q seen) None) refl ∙ reached (behind from q) refl ∙ sym (ap (λ x. cond (not x) (line_in q seen) None) not_less)
              where
                reached : (x : Bool) → behind from q ≡ x → cond (not x) (line_in q seen) None ≡ line_in q seen
                reached false not_yet = refl
                reached true it_is = sym (nothing q (λ bytes got. none_before pages file seen a from were owner key q bytes first (eqb-true q.area a mine) (is_behind from q it_is) got lt))
        by Greater gt = was q ∙ of (q.area == a)
          where
            less : R key q ≡ Less
            less = dbkey_total.antisymm key q ∙ ap ordering_reverse gt

            of : (b : Bool) → cond (b && not (behind from q)) (line_in q seen) None ≡ cond (b && not (is_lt (R key q))) (line_in q seen) None
            of false = refl
            of true = ap (λ x. cond (not x) (line_in q seen) None) (behind_is from q (further from key q first.fits.behind less)) ∙ sym (ap (λ x. cond (not (is_lt x)) (line_in q seen) None) less)

  -- where none is left, all are found
  pub gathered_all : (found : Lines) → IsInOrder found → IsInOrder seen → Gathers seen a from found → HasNone pages Ever a from → found ≡ lines_in a seen
  gathered_all found sorted ordered was none = same-lines found (lines_in a seen) sorted (in_order a seen ordered) (λ q. was q ∙ of q (q.area == a) refl ∙ sym (in_area a q seen))
    where
      of : (q : Dbkey) (b : Bool) → (q.area == a) ≡ b → cond (b && not (behind from q)) (line_in q seen) None ≡ cond b (line_in q seen) None
      of q false other = refl
      of q true mine = by (behind from q) refl
        where
          by : (x : Bool) → behind from q ≡ x → cond (not x) (line_in q seen) None ≡ line_in q seen
          by false not_yet = refl
          by true it_is = sym (nothing q (λ bytes got. none_left pages file seen a from were owner none q bytes (eqb-true q.area a mine) (is_behind from q it_is) got))

-- ---- the loop comes to an end

-- how many lines of a table are behind
abbrev pub left : Pages → Option Dbkey → ℕ
left pages None = (length pages + 1) * 8
left pages (Some key) = (length pages + 1) * 8 - (key.page * 8 + key.line)

pub left_less : (pages : Pages) (a : ℕ) (from : Option Dbkey) (key : Dbkey) → ((f : Dbkey) → from ≡ Some f → IsLineOf pages f × (f.area ≡ a)) → IsFirst pages Ever a from key → left pages (Some key) < left pages from
left_less pages a from key was first = by from refl first.fits.behind
  where
    few : (class line : ℕ) → line < lines_of class → line < 8
    few class line less = of (nat_eq class 208) less
      where
        of : (b : Bool) → line < cond b 4 2 → line < 8
        of true l = omega (arith, l)
        of false l = omega (arith, l)

    last : key.page ≤ length pages
    last = first.fits.is_line.within.last

    one : 1 ≤ key.page
    one = first.fits.is_line.within.first

    line : key.line < 8
    line = few (class_in pages key.page) key.line first.fits.is_line.line

    by : (x : Option Dbkey) → from ≡ x → IsBehind x key → left pages (Some key) < left pages x
    by None none behind_it = omega (arith, last, one, line)
    by (Some f) is behind_it =
        let w = was f is in let f_line = few (class_in pages f.page) f.line w.0.line in let f_last = w.0.within.last in
        ⊎_elim (λ page. omega (arith, page, last, line, f_line, f_last)) (λ both. let page = both.0 in let less = both.1 in omega (arith, page, less, last, line, f_line, f_last)) (before f key (w.1 ∙ sym first.fits.area_is) behind_it)

-- ---- of one area

-- a line of the area more
pub area_more : (a : ℕ) (key : Dbkey) (image : Option (List ℕ)) (found : Lines) → key.area ≡ a → IsOfArea a found → IsOfArea a (with_found key image found)
area_more a key image found own is = of_area a (with_found key image found) (put_in_order key image found is.ordered) (λ q other. by image q other)
  where
    by : (x : Option (List ℕ)) (q : Dbkey) → (q.area == a) ≡ false → line_in q (with_found key x found) ≡ None
    by None q other = others_none a found is q other
    by (Some bytes) q other = find-put R dbkey_total q key bytes found ∙ of (R q key) refl
      where
        of : (r : Ordering) → R q key ≡ r → cond (is_eq r) (Some bytes) (line_in q found) ≡ None
        of Less lt = others_none a found is q other
        of Equal same = absurd (true≢false (sym (eq-eqb key.area a own) ∙ (ap (λ (k : Dbkey). k.area == a) (sym (same_dbkey q key same)) ∙ other)))
        of Greater gt = others_none a found is q other

pub none_yet : (a : ℕ) → IsOfArea a []
none_yet a = record { ordered = refl; alone = refl }

-- ---- its own lines over them

laid_in_order : (key : Dbkey) (image : Option (List ℕ)) (all : Lines) → IsInOrder all → IsInOrder (laid key image all)
laid_in_order key (Some image) all sorted = put_in_order key (Some image) all sorted
laid_in_order key None all sorted = from_T _ (is_sorted-where_key R _ all (to_T _ sorted))

-- a line of the area, laid over the area's lines
pub laid_within : (a : ℕ) (key : Dbkey) (image : Option (List ℕ)) (all : Lines) → (key.area == a) ≡ true → IsInOrder all → lines_in a (laid key image all) ≡ laid key image (lines_in a all)
laid_within a key image all own sorted = same-lines (lines_in a (laid key image all)) (laid key image (lines_in a all)) (in_order a _ (laid_in_order key image all sorted)) (laid_in_order key image _ (in_order a all sorted))
    (λ q. in_area a q (laid key image all) ∙ ap (λ x. cond (q.area == a) x None) (laid_found q key image all) ∙ by q (R q key) refl ∙ sym (laid_found q key image (lines_in a all) ∙ ap (λ x. cond (is_eq (R q key)) image x) (in_area a q all)))
  where
    by : (q : Dbkey) (r : Ordering) → R q key ≡ r → cond (q.area == a) (cond (is_eq r) image (line_in q all)) None ≡ cond (is_eq r) image (cond (q.area == a) (line_in q all) None)
    by q Less lt = refl
    by q Equal same = ap (λ b. cond b image None) (ap (λ (k : Dbkey). k.area == a) (same_dbkey q key same) ∙ own)
    by q Greater gt = refl

-- the lines of the area behind so many of its own
abbrev pub own_front : ℕ → List (Dbkey × Line) → Lines → Lines
own_front n own committed = laid_all (writes_in (take n own)) committed

map_front : (xs ys : List (Dbkey × Line)) → map write_at (xs ++ ys) ≡ map write_at xs ++ map write_at ys
map_front [] ys = refl
map_front (x ∷ xs) ys = ap (λ l. write_at x ∷ l) (map_front xs ys)

-- one of its own more, laid over the area's lines
pub front_more : (a : ℕ) (own : List (Dbkey × Line)) (n : ℕ) (e : Dbkey × Line) (committed found new : Lines) → n < length own → e ≡ get_or own n e → IsInOrder committed → found ≡ lines_in a (own_front n own committed) → new ≡ laid_in a e.0 (shown e.1) found → new ≡ lines_in a (own_front (n + 1) own committed)
front_more a own n e committed found new less is sorted was laid_on = laid_on ∙ by (e.0.area == a) refl ∙ ap (λ l. lines_in a l) (sym one_more)
  where
    m : Lines
    m = own_front n own committed

    ordered : IsInOrder (own_front n own committed)
    ordered = all-sorted (writes_in (take n own)) committed sorted

    one_more : own_front (n + 1) own committed ≡ laid e.0 (shown e.1) (own_front n own committed)
    one_more = ap (λ (es : List (Dbkey × Line)). laid_all (writes_in es) committed) (take_more own n e less ∙ ap (λ (x : Dbkey × Line). take n own ++ x ∷ []) (sym is))
        ∙ ap (λ (ws : List Write). laid_all ws committed) (map_front (take n own) (e ∷ []))
        ∙ laid_in_turn (writes_in (take n own)) (write_at e ∷ []) committed

    by : (b : Bool) → (e.0.area == a) ≡ b → cond b (laid e.0 (shown e.1) found) found ≡ lines_in a (laid e.0 (shown e.1) (own_front n own committed))
    by true mine = ap (λ l. laid e.0 (shown e.1) l) was ∙ sym (laid_within a e.0 (shown e.1) (own_front n own committed) mine ordered)
    by false other = was ∙ sym (other_area e.0 (shown e.1) a (own_front n own committed) other)

pub area_laid : (a : ℕ) (key : Dbkey) (image : Option (List ℕ)) (found new : Lines) → new ≡ laid_in a key image found → IsOfArea a found → IsOfArea a new
area_laid a key image found new laid_on is = subst (λ (l : Lines). IsOfArea a l) (sym laid_on) (by (key.area == a) refl)
  where
    by : (b : Bool) → (key.area == a) ≡ b → IsOfArea a (cond b (laid key image found) found)
    by true own = record { ordered = laid_in_order key image found is.ordered; alone = laid_within a key image found own is.ordered ∙ ap (λ l. laid key image l) is.alone }
    by false other = is

-- all of them
pub front_all : (own : List (Dbkey × Line)) (n : ℕ) (committed : Lines) → length own ≤ n → own_front n own committed ≡ laid_all (writes_in own) committed
front_all own n committed le = ap (λ (es : List (Dbkey × Line)). laid_all (writes_in es) committed) (take_all n own le)
