-- The lines of one area, and of the areas behind it.
use Rattle.std.proofs.Common.{◌≡◌, ◌≤◌, ◌<◌, ◌∙◌, ℕ, Bool, true, false, nat_eq, IfSome, IfNone, inl, inr, ⊎_elim, Option, Some, None, List, refl, sym, ap, subst, arith}
use Rattle.std.specs.Prelude.{if◌then◌else◌}
use Rattle.std.specs.declared.cmp.Ordering.{Ordering}
use Rattle.std.specs.declared.cmp.Ordering.TheVariants.{Less, Equal, Greater}
use Rattle.std.specs.Ordering.{MatchOrdering, is_lt, nat_cmp, ordering_then}
use Rattle.std.proofs.lemmas.Cmp.{ranked}
use Rattle.rdb_types.specs.declared.keys.Dbkey.{Dbkey}
use Rattle.rdb_types.specs.Order.{dbkey_order}
use Rattle.rdb_page.specs.Page.{IsOwner, lines_of}
use Rattle.line_view.specs.Knowledge.{Lines, line_in}
use Rattle.page_table.specs.declared.uses.Sought.TheVariants.{Ever}
use Rattle.page_table.specs.Pages.{Pages, IsWithin, IsEverUsed, class_in, owner_in}
use Rattle.page_table.specs.Scans.{Fits, HasNone}
use Rattle.partial_backup.specs.Partial.{is_left}
use Rattle.next_lines.specs.declared.next.NextLine.{NextLine}
use Rattle.next_lines.specs.Areas.{Reaches, IsFirstIn, IsNextWithin, HasNoneWithin}
use Rattle.next_lines.specs.Next.{table_in, AreFew, IsLow, IsLeft, IsNextUsed, HasNoneUsed, HaveLines, AreClasses, Leads}

-- ---- the order of Dbkeys

less : (o : Ordering) → is_lt o ≡ true → o ≡ Less
less Less is = refl
less Equal is = cc
less Greater is = cc

fits_left : (pages : Pages) (area : ℕ) (from : Option Dbkey) (key : Dbkey) → key.area ≡ area → IsEverUsed pages key → is_left from key ≡ true → Fits pages Ever area from key
fits_left pages area None key of used is = record { area_is = of; is_line = used.is_line; behind = tt; is_sought = used.used }
fits_left pages area (Some last) key of used is = record { area_is = of; is_line = used.is_line; behind = less (dbkey_order last key) is; is_sought = used.used }

left_fits : (pages : Pages) (area : ℕ) (from : Option Dbkey) (key : Dbkey) → Fits pages Ever area from key → is_left from key ≡ true
left_fits pages area None key is = refl
left_fits pages area (Some last) key is = ap is_lt is.behind

-- who is before another is of no later area
pub not_later : (a b : Dbkey) → dbkey_order a b ≡ Less → a.area ≤ b.area
not_later a b is = by_area (nat_cmp a.area b.area) (ranked a.area b.area (nat_cmp a.area b.area) refl) is
  where
    by_area : (r : Ordering) → MatchOrdering r (a.area < b.area) (a.area ≡ b.area) (b.area < a.area) → ordering_then r (ordering_then (nat_cmp a.page b.page) (nat_cmp a.line b.line)) ≡ Less → a.area ≤ b.area
    by_area Less h is = omega (arith, h)
    by_area Equal h is = omega (arith, h)
    by_area Greater h is = let bad : ⊥ = cc in absurd bad

pub left_area : (last key : Dbkey) → is_left (Some last) key ≡ true → last.area ≤ key.area
left_area last key is = not_later last key (less (dbkey_order last key) is)

-- ---- the file of an area

pub one_file : (f g area : ℕ) → IsOwner f area → IsOwner g area → f ≡ g
one_file f g area (inl a) (inl b) = omega (arith, a.0, b.0)
one_file f g area (inl a) (inr (inl b)) = absurd (omega (arith, a.1, b.1))
one_file f g area (inl a) (inr (inr b)) = absurd (omega (arith, a.1, b.1))
one_file f g area (inr (inl a)) (inl b) = absurd (omega (arith, a.1, b.1))
one_file f g area (inr (inl a)) (inr (inl b)) = omega (arith, a.0, b.0)
one_file f g area (inr (inl a)) (inr (inr b)) = absurd (omega (arith, a.2, b.2))
one_file f g area (inr (inr a)) (inl b) = absurd (omega (arith, a.1, b.1))
one_file f g area (inr (inr a)) (inr (inl b)) = absurd (omega (arith, a.2, b.2))
one_file f g area (inr (inr a)) (inr (inr b)) = omega (arith, a.0, b.0)

-- ---- the lines of an area

module _ (tables : ℕ → Pages) (file area : ℕ) (owner : IsOwner file area) (from : Option Dbkey) (pages : Pages) (is_table : tables file ≡ pages) where
  fits : (other : Dbkey) → IsLeft tables from other → other.area ≡ area → Fits pages Ever area from other
  fits other left of =
      let same : left.was.file ≡ file = one_file left.was.file file area (subst (λ (a : ℕ). IsOwner left.was.file a) of left.was.owner) owner in
      fits_left pages area from other of (subst (λ (p : Pages). IsEverUsed p other) (ap tables same ∙ is_table) left.was.used) left.behind

  pub found_within : (next : NextLine) → IsFirstIn pages area from next → IsNextWithin tables area from next
  found_within next is = let f = is.first.fits in record {
    left = record {
      was = record {
        file = file;
        owner = subst (λ (a : ℕ). IsOwner file a) (sym f.area_is) owner;
        used = subst (λ (p : Pages). IsEverUsed p next.key) (sym is_table) (record { is_line = f.is_line; used = f.is_sought });
      };
      behind = left_fits pages area from next.key f;
    };
    class = is.class ∙ ap (λ (p : Pages). class_in p next.key.page) (sym is_table);
    area_is = f.area_is;
    least = λ other left of before. is.first.least other (fits other left of) before;
  }

  pub none_within : HasNone pages Ever area from → HasNoneWithin tables area from
  none_within none other left of = none other (fits other left of)

-- ---- what answers say

pub some_then : (P Q : NextLine → Type 0) (r : Option NextLine) → IfSome r P → ((next : NextLine) → P next → Q next) → IfSome r Q
some_then P Q (Some next) is on = on next is
some_then P Q None is on = tt

pub none_then : (P Q : Type 0) (r : Option NextLine) → IfNone r P → (P → Q) → IfNone r Q
none_then P Q (Some next) is on = tt
none_then P Q None is on = on is

most_lines : (class : ℕ) → lines_of class ≤ 4
most_lines class = by (nat_eq class 208)
  where
    by : (b : Bool) → (if b then 4 else 2) ≤ 4
    by true = omega arith
    by false = omega arith

pub is_low : (tables : ℕ → Pages) (from : Option Dbkey) (key : Dbkey) → AreFew tables → IsLeft tables from key → IsLow key
is_low tables from key few left = let is = left.was.used.is_line in record {
  page = let last = is.within.last in let most = few left.was.file in omega (arith, last, most);
  line = let line = is.line in let most = most_lines (class_in (tables left.was.file) key.page) in omega (arith, line, most);
}

-- ---- the areas one behind another

-- no line that is left is of an earlier area
abbrev pub HasPassed : (ℕ → Pages) → Option Dbkey → ℕ → Type 0
HasPassed tables from area = (key : Dbkey) → IsLeft tables from key → area ≤ key.area

-- the owners of a table's pages are reached
abbrev pub ReachesAll : Pages → ℕ → Option ℕ → Type 0
ReachesAll pages area next = (page : ℕ) → IsWithin pages page → Reaches area next (owner_in pages page)

module _ (catalog relations indexes : Pages) (from : Option Dbkey) where
  abbrev pub tables : ℕ → Pages
  tables = table_in catalog relations indexes

  -- each line that is left has its page's owner reached
  reached : (area : ℕ) (next : Option ℕ) → ReachesAll catalog area next → ReachesAll relations area next → ReachesAll indexes area next → (key : Dbkey) → IsLeft tables from key → Reaches area next key.area
  reached area next c r i key left = by left.was.file left.was.owner left.was.used
    where
      at : (pages : Pages) → ReachesAll pages area next → IsEverUsed pages key → Reaches area next key.area
      at pages all used = subst (λ (a : ℕ). Reaches area next a) used.is_line.owner (all key.page used.is_line.within)

      by : (file : ℕ) → IsOwner file key.area → IsEverUsed (tables file) key → Reaches area next key.area
      by file (inl own) used = at catalog c (subst (λ (f : ℕ). IsEverUsed (tables f) key) own.0 used)
      by file (inr (inl own)) used = at relations r (subst (λ (f : ℕ). IsEverUsed (tables f) key) own.0 used)
      by file (inr (inr own)) used = at indexes i (subst (λ (f : ℕ). IsEverUsed (tables f) key) own.0 used)

  -- none of this area is left, and so none before the next one
  pub passes_on : (area next : ℕ) → HasPassed tables from area → HasNoneWithin tables area from → ReachesAll catalog area (Some next) → ReachesAll relations area (Some next) → ReachesAll indexes area (Some next) → HasPassed tables from next
  passes_on area next passed none c r i key left =
      ⊎_elim (λ le. absurd (none key left (let past = passed key left in omega (arith, le, past)))) (λ le. le) (reached area (Some next) c r i key left)

  pub none_left : (area : ℕ) → HasPassed tables from area → HasNoneWithin tables area from → ReachesAll catalog area None → ReachesAll relations area None → ReachesAll indexes area None → HasNoneUsed tables from
  none_left area passed none c r i key left = none key left (let past = passed key left in let le = reached area None c r i key left in omega (arith, le, past))

  pub is_next : (area : ℕ) (next : NextLine) → HasPassed tables from area → IsNextWithin tables area from next → IsNextUsed tables from next
  is_next area next passed is = record {
    left = is.left;
    class = is.class;
    least = λ other left before. is.least other left (let past = passed other left in let le = not_later other next.key before in let at = is.area_is in omega (arith, past, le, at)) before;
  }

-- ---- the lines of a map

module _ (tables : ℕ → Pages) (from : Option Dbkey) (classes : ℕ → ℕ) (lines : Lines) (have : HaveLines tables lines) (of : AreClasses tables classes) where
  is_left_of : (key : Dbkey) (image : List ℕ) → is_left from key ≡ true → line_in key lines ≡ Some image → IsLeft tables from key
  is_left_of key image behind is = record { was = have key image is; behind = behind }

  none_there : (key : Dbkey) → ((image : List ℕ) → line_in key lines ≡ Some image → ⊥) → line_in key lines ≡ None
  none_there key never = by (line_in key lines) never
    where
      by : (found : Option (List ℕ)) → ((image : List ℕ) → found ≡ Some image → ⊥) → found ≡ None
      by None never = refl
      by (Some image) never = absurd (never image refl)

  pub leads_to : (next : NextLine) → IsNextUsed tables from next → Leads classes lines from (Some next)
  leads_to next is = let was = is.left.was in (
    record {
      behind = is.left.behind;
      least = λ other behind before. none_there other (λ image there. is.least other (is_left_of other image behind there) before);
    },
    λ image there. is.class
        ∙ of was.file next.key.page was.used.is_line.within (subst (λ (a : ℕ). IsOwner was.file a) (sym was.used.is_line.owner) was.owner)
        ∙ ap classes was.used.is_line.owner,
  )

  pub leads_nowhere : HasNoneUsed tables from → Leads classes lines from None
  leads_nowhere none key behind = none_there key (λ image there. none key (is_left_of key image behind there))
