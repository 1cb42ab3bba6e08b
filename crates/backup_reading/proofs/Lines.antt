-- A line more, or one that is refused.
use Rattle.std.proofs.Common.{◌≡◌, ℕ, ◌+◌, ◌<◌, ◌≤◌, List, [], ◌∷◌, ◌++◌, length, Option, Some, None, slice_get, ◌⊎◌, inl, inr, ⊎_elim, refl, sym, ap, subst, ◌∙◌, arith}
use Rattle.std.proofs.lemmas.List.{length-append}
use Rattle.std.proofs.lemmas.Option.{slice_get_within}
use Rattle.std.specs.declared.cmp.Ordering.TheVariants.{Less}
use Rattle.std.specs.BTreeSet.{BTreeSet, IsEmpty}
use Rattle.rdb_types.specs.Order.{dbkey_order}
use Rattle.rdb_types.specs.OrderLaws.{dbkey_total}
use Rattle.rdb_types.specs.declared.keys.Dbkey.{Dbkey}
use Rattle.rdb_page.specs.Page.{IsOwner}
use Rattle.stable_lines.proofs.Lists.{got_either, got_left, got_right, got_one}
use Rattle.backup_file.specs.declared.line.BackupLine.{BackupLine}
use Rattle.backup_file.specs.Whole.{HasPage, SharePages}
use Rattle.backup_reading.specs.declared.pages.FilePage.{FilePage}
use Rattle.backup_reading.specs.declared.passing.LastLine.{LastLine}
use Rattle.backup_reading.specs.declared.passing.Passed.{Passed}
use Rattle.backup_reading.specs.Passing.{AreFitting, has, IsPageOf, IsUsed, IsBehind, IsBeside, IsOnSame, MayNotFollow, EndsWith, IsLast, ArePassed, GoesOn}
use Rattle.backup_reading.proofs.Sets.{none_there, one_file, one_page}
use Rattle.backup_reading.proofs.Sorted.{between, sorted_less, sorted_more}

no_element : {A : Type 0} (i : ℕ) (x : A) → slice_get [] i ≡ Some x → ⊥
no_element i x got = cc

some_same : {A : Type 0} (a b : A) → Some a ≡ Some b → a ≡ b
some_same a b same = cc

none_some : {A : Type 0} (a : A) → None ≡ Some a → ⊥
none_some a same = cc

or_less : (i n : ℕ) → i < n + 1 → (i < n) ⊎ (i ≡ n)
or_less i n lt = grind (arith, lt)

-- no lines yet
pub nothing_passed : (pages : ℕ) (passed : Passed) → IsEmpty passed.pages → passed.last ≡ None → ArePassed pages [] passed
nothing_passed pages passed empty none = record {
  fit = record { in_order = refl; on_pages = λ i l got. absurd (no_element i l got); share = λ i k a b file got also. absurd (no_element i a got) };
  last = subst (IsLast []) (sym none) refl;
  used = λ page is. absurd (no_element is.index is.line is.is);
  only = λ page is. absurd (none_there passed.pages empty page is);
  greatest = λ i l got. absurd (no_element i l got);
}

-- the last line is the last element
pub ends : (lines : List BackupLine) (last : Option LastLine) (l : LastLine) → IsLast lines last → last ≡ Some l → EndsWith lines l
ends lines last l is same = subst (IsLast lines) same is

module _ (pages : ℕ) (lines : List BackupLine) (line : BackupLine) (passed : Passed) (was : ArePassed pages lines passed) where
  -- ---- what a line goes on behind

  all_before : ((a : LastLine) → passed.last ≡ Some a → IsBehind a line) → (i : ℕ) (a : BackupLine) → slice_get lines i ≡ Some a → dbkey_order a.key line.key ≡ Less
  all_before behind i a got = by passed.last refl
    where
      by : (last : Option LastLine) → passed.last ≡ last → dbkey_order a.key line.key ≡ Less
      by None is = let empty : lines ≡ [] = subst (IsLast lines) is was.last in absurd (no_element i a (subst (λ (ls : List BackupLine). slice_get ls i ≡ Some a) empty got))
      by (Some l) is = ⊎_elim earlier it (or_less i end.count (let within = slice_get_within lines i a got in let long = end.long in omega (arith, within, long)))
        where
          end : EndsWith lines l
          end = ends lines passed.last l was.last is

          end_less : dbkey_order end.line.key line.key ≡ Less
          end_less = subst (λ (k : Dbkey). dbkey_order k line.key ≡ Less) (sym end.key) (behind l is)

          earlier : i < end.count → dbkey_order a.key line.key ≡ Less
          earlier lt = dbkey_total.trans a.key end.line.key line.key (sorted_less lines i end.count a end.line was.fit.in_order got end.is lt) end_less

          it : i ≡ end.count → dbkey_order a.key line.key ≡ Less
          it same = subst (λ (x : BackupLine). dbkey_order x.key line.key ≡ Less) (some_same end.line a (sym end.is ∙ ap (λ (n : ℕ). slice_get lines n) (sym same) ∙ got)) end_less

  -- ---- the line fits

  module _ (new : Passed) (page : FilePage) (fits : HasPage pages line) (on : IsPageOf line page) (behind : (a : LastLine) → passed.last ≡ Some a → IsBehind a line) (last : new.last ≡ Some (record { key = line.key; class = line.class }))
      (greatest : (passed.greatest ≤ new.greatest) × (line.tsn.number ≤ new.greatest)) where
    more : List BackupLine
    more = lines ++ line ∷ []

    abbrev Shares : Type 0
    Shares = (i : ℕ) (a : BackupLine) (file : ℕ) → slice_get lines i ≡ Some a → IsOwner file a.key.area → IsOwner file line.key.area → a.key.page ≡ line.key.page → (a.key.area ≡ line.key.area) × (a.class ≡ line.class)

    share_more : Shares → SharePages (lines ++ line ∷ [])
    share_more shares i k a b file got also owns owns_b same = ⊎_elim
        (λ old_a. ⊎_elim (λ old_b. was.fit.share i k a b file old_a old_b owns owns_b same)
        (λ new_b. let it = (got_one line b new_b.0 new_b.2).1 in
        subst (λ (x : BackupLine). (a.key.area ≡ x.key.area) × (a.class ≡ x.class)) it (shares i a file old_a owns (subst (λ (x : BackupLine). IsOwner file x.key.area) (sym it) owns_b) (same ∙ ap (λ (x : BackupLine). x.key.page) (sym it))))
        (got_either lines (line ∷ []) k b also))
        (λ new_a. let it = (got_one line a new_a.0 new_a.2).1 in ⊎_elim
        (λ old_b. let back = shares k b file old_b owns_b (subst (λ (x : BackupLine). IsOwner file x.key.area) (sym it) owns) (sym same ∙ ap (λ (x : BackupLine). x.key.page) (sym it)) in
        (ap (λ (x : BackupLine). x.key.area) (sym it) ∙ sym back.0, ap (λ (x : BackupLine). x.class) (sym it) ∙ sym back.1))
        (λ new_b. let also_it = (got_one line b new_b.0 new_b.2).1 in let both : a ≡ b = sym it ∙ also_it in (ap (λ (x : BackupLine). x.key.area) both, ap (λ (x : BackupLine). x.class) both))
        (got_either lines (line ∷ []) k b also))
        (got_either lines (line ∷ []) i a got)

    on_pages_more : (i : ℕ) (l : BackupLine) → slice_get (lines ++ line ∷ []) i ≡ Some l → HasPage pages l
    on_pages_more i l got = ⊎_elim (λ old. was.fit.on_pages i l old) (λ it. subst (HasPage pages) (got_one line l it.0 it.2).1 fits) (got_either lines (line ∷ []) i l got)

    greatest_more : (i : ℕ) (l : BackupLine) → slice_get (lines ++ line ∷ []) i ≡ Some l → l.tsn.number ≤ new.greatest
    greatest_more i l got = ⊎_elim (λ old. let low = was.greatest i l old in let up = greatest.0 in omega (arith, low, up)) (λ it. subst (λ (x : BackupLine). x.tsn.number ≤ new.greatest) (got_one line l it.0 it.2).1 greatest.1) (got_either lines (line ∷ []) i l got)

    at_end : slice_get (lines ++ line ∷ []) (length lines) ≡ Some line
    at_end = subst (λ (n : ℕ). slice_get (lines ++ line ∷ []) n ≡ Some line) (let same : length lines + 0 ≡ length lines = omega arith in same) (got_right lines (line ∷ []) 0 line refl)

    last_more : IsLast (lines ++ line ∷ []) new.last
    last_more = subst (IsLast (lines ++ line ∷ [])) (sym last) (record { count = length lines; long = length-append lines (line ∷ []); line = line; is = at_end; key = refl; class = refl })

    used_old : (q : FilePage) → IsUsed lines q → IsUsed (lines ++ line ∷ []) q
    used_old q is = record { index = is.index; line = is.line; is = got_left lines (line ∷ []) is.index is.line is.is; on = is.on }

    used_new : IsUsed (lines ++ line ∷ []) page
    used_new = record { index = length lines; line = line; is = at_end; on = on }

    used_either : (q : FilePage) → IsUsed (lines ++ line ∷ []) q → IsUsed lines q ⊎ (q ≡ page)
    used_either q is = ⊎_elim (λ old. inl (record { index = is.index; line = is.line; is = old; on = is.on }))
        (λ it. inr (one_page line q page (subst (λ (x : BackupLine). IsPageOf x q) (sym (got_one line is.line it.0 it.2).1) is.on) on)) (got_either lines (line ∷ []) is.index is.line is.is)

    passed_more : Shares → ((q : FilePage) → IsUsed (lines ++ line ∷ []) q → has new.pages q) → ((q : FilePage) → has new.pages q → IsUsed (lines ++ line ∷ []) q) → ArePassed pages (lines ++ line ∷ []) new
    passed_more shares used only = record {
      fit = record { in_order = sorted_more lines line was.fit.in_order (all_before behind); on_pages = on_pages_more; share = share_more shares };
      last = last_more;
      used = used;
      only = only;
      greatest = greatest_more;
    }

    -- on the page of the last line
    pub same_page_passed : new.pages ≡ passed.pages → IsOnSame passed.last line → ArePassed pages (lines ++ line ∷ []) new
    same_page_passed same beside = passed_more
        (λ i a file got owns owns_it at. let to_end = was.fit.share i end.count a end.line file got end.is owns (subst (λ (n : ℕ). IsOwner file n) area owns_it) (at ∙ number) in (to_end.0 ∙ sym area, to_end.1 ∙ class))
        (λ q is. subst (λ (s : BTreeSet FilePage). has s q) (sym same) (⊎_elim (λ old. was.used q old) (λ it. was.used q (record { index = end.count; line = end.line; is = end.is; on = subst (IsPageOf end.line) (sym it) on_end })) (used_either q is)))
        (λ q is. used_old q (was.only q (subst (λ (s : BTreeSet FilePage). has s q) same is)))
      where
        end : EndsWith lines beside.of
        end = ends lines passed.last beside.of was.last beside.is

        area : line.key.area ≡ end.line.key.area
        area = beside.beside.area ∙ ap (λ (k : Dbkey). k.area) (sym end.key)

        number : line.key.page ≡ end.line.key.page
        number = beside.beside.page ∙ ap (λ (k : Dbkey). k.page) (sym end.key)

        class : end.line.class ≡ line.class
        class = end.class ∙ sym beside.class

        on_end : IsPageOf end.line page
        on_end = record { owner = subst (λ (n : ℕ). IsOwner page.file n) area on.owner; number = on.number ∙ number }

    -- on a page that was new
    pub new_page_passed : (pages_now : BTreeSet FilePage) → new.pages ≡ pages_now → has pages_now page → ((q : FilePage) → has passed.pages q → has pages_now q) → ((q : FilePage) → has pages_now q → has passed.pages q ⊎ (q ≡ page)) → (has passed.pages page → ⊥) → ArePassed pages (lines ++ line ∷ []) new
    new_page_passed pages_now same added kept only fresh = passed_more
        (λ i a file got owns owns_it at. absurd (fresh (was.used page (record { index = i; line = a; is = got; on = record { owner = subst (λ (f : ℕ). IsOwner f a.key.area) (one_file file page.file line.key.area owns_it on.owner) owns; number = on.number ∙ sym at } }))))
        (λ q is. subst (λ (s : BTreeSet FilePage). has s q) (sym same) (⊎_elim (λ old. kept q (was.used q old)) (λ it. subst (λ (p : FilePage). has pages_now p) (sym it) added) (used_either q is)))
        (λ q is. ⊎_elim (λ old. used_old q (was.only q old)) (λ it. subst (IsUsed (lines ++ line ∷ [])) (sym it) used_new) (only q (subst (λ (s : BTreeSet FilePage). has s q) same is)))

  -- ---- the line is refused

  module _ (others : List BackupLine) (go : GoesOn lines others line) (fit : AreFitting pages others) where
    pub has_its_page : HasPage pages line
    has_its_page = fit.on_pages (length lines) line go.next

    less_last : (l : LastLine) → passed.last ≡ Some l → IsBehind l line
    less_last l is =
        let end = ends lines passed.last l was.last is in let long = end.long in
        subst (λ (k : Dbkey). dbkey_order k line.key ≡ Less) end.key (sorted_less others end.count (length lines) end.line line fit.in_order (go.begins end.count end.line end.is) go.next (omega (arith, long)))

    class_last : (l : LastLine) → passed.last ≡ Some l → IsBeside l line → line.class ≡ l.class
    class_last l is beside =
        let end = ends lines passed.last l was.last is in
        let area : line.key.area ≡ end.line.key.area = beside.area ∙ ap (λ (k : Dbkey). k.area) (sym end.key) in
        let number : end.line.key.page ≡ line.key.page = ap (λ (k : Dbkey). k.page) end.key ∙ sym beside.page in
        let lies = has_its_page.area in
        let both = fit.share end.count (length lines) end.line line lies.0 (go.begins end.count end.line end.is) go.next (subst (λ (n : ℕ). IsOwner lies.0 n) area lies.1) lies.1 number in
        sym both.1 ∙ end.class

    pub follows_last : MayNotFollow passed.last line → ⊥
    follows_last may_not = may_not.not (less_last may_not.of may_not.is) (class_last may_not.of may_not.is)

    pub page_is_new : (page : FilePage) → IsPageOf line page → has passed.pages page → ((l : LastLine) → passed.last ≡ Some l → IsBeside l line → ⊥) → ⊥
    page_is_new page on known off = by passed.last refl
      where
        used : IsUsed lines page
        used = was.only page known

        both : (used.line.key.area ≡ line.key.area) × (used.line.class ≡ line.class)
        both = fit.share used.index (length lines) used.line line page.file (go.begins used.index used.line used.is) go.next used.on.owner on.owner (sym used.on.number ∙ on.number)

        number : used.line.key.page ≡ line.key.page
        number = sym used.on.number ∙ on.number

        by : (last : Option LastLine) → passed.last ≡ last → ⊥
        by None is = let empty : lines ≡ [] = subst (IsLast lines) is was.last in no_element used.index used.line (subst (λ (ls : List BackupLine). slice_get ls used.index ≡ Some used.line) empty used.is)
        by (Some l) is = ⊎_elim earlier it (or_less used.index end.count (let within = slice_get_within lines used.index used.line used.is in let long = end.long in omega (arith, within, long)))
          where
            end : EndsWith lines l
            end = ends lines passed.last l was.last is

            beside : (line.key.area ≡ end.line.key.area) × (line.key.page ≡ end.line.key.page) → ⊥
            beside at = off l is (record { area = at.0 ∙ ap (λ (k : Dbkey). k.area) end.key; page = at.1 ∙ ap (λ (k : Dbkey). k.page) end.key })

            earlier : used.index < end.count → ⊥
            earlier lt = beside (between used.line.key end.line.key line.key (sorted_less lines used.index end.count used.line end.line was.fit.in_order used.is end.is lt)
                (subst (λ (k : Dbkey). dbkey_order k line.key ≡ Less) (sym end.key) (less_last l is)) both.0 number)

            it : used.index ≡ end.count → ⊥
            it same =
                let one : end.line ≡ used.line = some_same end.line used.line (sym end.is ∙ ap (λ (n : ℕ). slice_get lines n) (sym same) ∙ used.is) in
                beside (sym both.0 ∙ ap (λ (x : BackupLine). x.key.area) (sym one), sym number ∙ ap (λ (x : BackupLine). x.key.page) (sym one))
