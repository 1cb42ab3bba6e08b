-- Present lines found one by one.
use Rattle.std.proofs.Common.{◌≡◌, ◌≢◌, ℕ, ◌+◌, ◌≤◌, ◌<◌, ◌==◌, Bool, true, false, cond, T, List, [], Option, Some, None, ◌⊎◌, inl, inr, ⊎_elim, refl, sym, ap, subst, ◌∙◌, arith}
use Rattle.std.proofs.lemmas.Bool.{eqb-true, eq-eqb}
use Rattle.std.specs.declared.cmp.Ordering.{Ordering}
use Rattle.std.specs.declared.cmp.Ordering.TheVariants.{Less, Equal, Greater}
use Rattle.std.specs.Ordering.{is_eq}
use Rattle.std.specs.Cmp.{tied_itself}
use Rattle.std.specs.FinMap.Entries.{find, find-put, find-where_key, is_sorted-put, is_sorted-where_key, same_entries}
use Rattle.rdb_types.specs.Order.{dbkey_order}
use Rattle.rdb_types.specs.OrderLaws.{dbkey_total, same_dbkey}
use Rattle.rdb_types.specs.declared.keys.Dbkey.{Dbkey}
use Rattle.rdb_types.specs.declared.keys.Line.{Line}
use Rattle.rdb_outside.specs.Disk.{Image}
use Rattle.journal_scan.specs.declared.group.Group.{Group}
use Rattle.rdb_page.specs.Lines.{never}
use Rattle.line_view.specs.Knowledge.{Lines, IsInOrder, line_in, lines_in}
use Rattle.line_versions.specs.Lines.{shown}
use Rattle.stable_lines.specs.Slots.{line_at}
use Rattle.stable_lines.specs.Image.{IsEnded, as_it_stands, StandsFor}
use Rattle.stable_lines.proofs.Unique.{one_line}
use Rattle.before_images.specs.declared.lines.OpenTransaction.{OpenTransaction}
use Rattle.before_images.specs.Before.{laid, LaysLines}
use Rattle.lines_at_rest.specs.Area.{with_present, present_at, IsBefore, HoldsTo}

true_from_T : (b : Bool) → T b → b ≡ true
true_from_T true h = refl
true_from_T false h = absurd h

ties : (o : Ordering) → is_eq o ≡ true → o ≡ Equal
ties Less is = cc
ties Equal is = refl
ties Greater is = cc

same_key : (q k : Dbkey) → is_eq (dbkey_order q k) ≡ true → q ≡ k
same_key q k is = same_dbkey q k (ties (dbkey_order q k) is)

apart : (q k : Dbkey) → is_eq (dbkey_order q k) ≡ false → q ≢ k
apart q k off same =
    let tied : is_eq (dbkey_order q k) ≡ true = ap (λ (x : Dbkey). is_eq (dbkey_order x k)) same ∙ ap is_eq (tied_itself dbkey_total k) in
    let bad : true ≡ false = sym tied ∙ off in let no : ⊥ = cc in no

-- what is found where a line that wasn't held is added, if it is present
find_present : (found : Lines) (k : Dbkey) (what : Option (List ℕ)) → find dbkey_order k found ≡ None → (q : Dbkey) (b : Bool) → is_eq (dbkey_order q k) ≡ b → find dbkey_order q (with_present k what found) ≡ cond b what (find dbkey_order q found)
find_present found k (Some w) none q b is = find-put dbkey_order dbkey_total q k w found ∙ ap (λ (t : Bool). cond t (Some w) (find dbkey_order q found)) is
find_present found k None none q false is = refl
find_present found k None none q true is = ap (λ (x : Dbkey). find dbkey_order x found) (same_key q k is) ∙ none

-- they stay in order
still_ordered : (found : Lines) (k : Dbkey) (what : Option (List ℕ)) → IsInOrder found → IsInOrder (with_present k what found)
still_ordered found k None ordered = ordered
still_ordered found k (Some w) ordered = true_from_T _ (is_sorted-put dbkey_order dbkey_total k w found (subst T (sym ordered) tt))

before_or_it : (key : Dbkey) (page line : ℕ) → IsBefore key page (line + 1) → IsBefore key page line ⊎ ((key.page ≡ page) × (key.line ≡ line))
before_or_it key page line (inl less) = inl (inl less)
before_or_it key page line (inr at) = ⊎_elim (λ less. inl (inr (at.0, less))) (λ same. inr (at.0, same)) (cases key.line line at.1)
  where
    cases : (a b : ℕ) → a < b + 1 → (a < b) ⊎ (a ≡ b)
    cases a b less = grind arith

before_more : (key : Dbkey) (page line : ℕ) → IsBefore key page line → IsBefore key page (line + 1)
before_more key page line (inl less) = inl less
before_more key page line (inr at) = inr (at.0, let less = at.1 in omega (arith, less))

before_next : (key : Dbkey) (page line : ℕ) → IsBefore key page line → IsBefore key (page + 1) 0
before_next key page line (inl less) = inl (omega (arith, less))
before_next key page line (inr at) = inl (let here = at.0 in omega (arith, here))

module _ (image : Image) (held : List OpenTransaction) (area page line : ℕ) where
  abbrev here : Dbkey
  here = record { area = area; page = page; line = line }

  not_yet : IsBefore here page line → ⊥
  not_yet (inl less) = omega (arith, less)
  not_yet (inr at) = let less = at.1 in omega (arith, less)

  same_place : (q : Dbkey) → q.area ≡ area → (q.page ≡ page) × (q.line ≡ line) → q ≡ here
  same_place q own at = λ i. record { area = own i; page = at.0 i; line = at.1 i }

  module _ (old new : Lines) (was : HoldsTo image held area page line old) (made : new ≡ with_present here (present_at image held here) old) where
    found_now : (q : Dbkey) (b : Bool) → is_eq (dbkey_order q here) ≡ b → find dbkey_order q new ≡ cond b (present_at image held here) (find dbkey_order q old)
    found_now q b is = ap (λ (l : Lines). find dbkey_order q l) made ∙ find_present old here (present_at image held here) (was.others here (λ own. not_yet)) q b is

    each_now : (q : Dbkey) → q.area ≡ area → IsBefore q page (line + 1) → (b : Bool) → is_eq (dbkey_order q here) ≡ b → find dbkey_order q new ≡ present_at image held q
    each_now q own before true is = found_now q true is ∙ ap (λ (k : Dbkey). present_at image held k) (sym (same_key q here is))
    each_now q own before false is = found_now q false is ∙ was.each q own (⊎_elim (λ earlier. earlier) (λ at. absurd (apart q here is (same_place q own at))) (before_or_it q page line before))

    others_now : (q : Dbkey) → (q.area ≡ area → IsBefore q page (line + 1) → ⊥) → (b : Bool) → is_eq (dbkey_order q here) ≡ b → find dbkey_order q new ≡ None
    others_now q not true is =
        let same : q ≡ here = same_key q here is in
        let at_line : q.line ≡ line = ap (λ (k : Dbkey). k.line) same in
        absurd (not (ap (λ (k : Dbkey). k.area) same) (inr (ap (λ (k : Dbkey). k.page) same, omega (arith, at_line))))
    others_now q not false is = found_now q false is ∙ was.others q (λ own before. not own (before_more q page line before))

    -- the next line of the page
    pub next_line : HoldsTo image held area page (line + 1) new
    next_line = record {
      in_order = subst (λ (l : Lines). IsInOrder l) (sym made) (still_ordered old here (present_at image held here) was.in_order);
      each = λ q own before. each_now q own before (is_eq (dbkey_order q here)) refl;
      others = λ q not. others_now q not (is_eq (dbkey_order q here)) refl;
    }

  -- the page has no further lines
  module _ (found : Lines) (was : HoldsTo image held area page line found) (rest : (q : Dbkey) → q.area ≡ area → q.page ≡ page → line ≤ q.line → present_at image held q ≡ None) where
    each_here : (q : Dbkey) → q.area ≡ area → q.page ≡ page → (q.line < line) ⊎ (line ≤ q.line) → find dbkey_order q found ≡ present_at image held q
    each_here q own at (inl less) = was.each q own (inr (at, less))
    each_here q own at (inr past) = was.others q (λ _ before. past_it before) ∙ sym (rest q own at past)
      where
        past_it : IsBefore q page line → ⊥
        past_it (inl less) = omega (arith, less, at)
        past_it (inr where_it_is) = let less = where_it_is.1 in omega (arith, less, past)

    each_next : (q : Dbkey) → q.area ≡ area → IsBefore q (page + 1) 0 → find dbkey_order q found ≡ present_at image held q
    each_next q own (inr at) = absurd (let less = at.1 in omega (arith, less))
    each_next q own (inl less) = ⊎_elim (λ earlier. was.each q own (inl earlier)) (λ at. each_here q own at (cases q.line line)) (pages q.page page less)
      where
        pages : (a b : ℕ) → a < b + 1 → (a < b) ⊎ (a ≡ b)
        pages a b lt = grind arith

        cases : (a b : ℕ) → (a < b) ⊎ (b ≤ a)
        cases a b = grind arith

    pub next_page : HoldsTo image held area (page + 1) 0 found
    next_page = record {
      in_order = was.in_order;
      each = each_next;
      others = λ q not. was.others q (λ own before. not own (before_next q page line before));
    }

-- ---- lines that were never used

module _ (image : Image) (groups : List Group) (held : List OpenTransaction) (lays : LaysLines image groups held) where
  pub nothing_present : (key : Dbkey) → line_at image key ≡ never → present_at image held key ≡ None
  nothing_present key none =
      let zero : (line_at image key).tsn.number ≡ 0 = ap (λ (l : Line). l.tsn.number) none in
      let ended : IsEnded image groups (line_at image key).tsn.number = (λ member is some names. absurd (omega (arith, zero, some))) in
      let same : laid held key (line_at image key) ≡ line_at image key = one_line image groups key _ _ (lays key) (as_it_stands ended refl) in
      ap shown (same ∙ none)

  module _ (area : ℕ) where
    -- before the first page
    pub none_found : ((q : Dbkey) → q.page ≡ 0 → line_at image q ≡ never) → HoldsTo image held area 1 0 []
    none_found none = record { in_order = refl; each = each; others = λ q not. refl }
      where
        each : (q : Dbkey) → q.area ≡ area → IsBefore q 1 0 → find dbkey_order q [] ≡ present_at image held q
        each q own (inl less) = sym (nothing_present q (none q (omega (arith, less))))
        each q own (inr at) = absurd (let less = at.1 in omega (arith, less))

    module _ (page : ℕ) (lines found : Lines) (was : HoldsTo image held area page 0 found) (past : (q : Dbkey) → q.area ≡ area → page ≤ q.page → line_at image q ≡ never) (stands : StandsFor image groups lines) where
      shows : (q : Dbkey) → present_at image held q ≡ line_in q lines
      shows q = ap shown (one_line image groups q _ _ (lays q) (stands.each q).is) ∙ (stands.each q).shows

      of_area : (q : Dbkey) → q.area ≡ area → (q.page < page) ⊎ (page ≤ q.page) → find dbkey_order q found ≡ line_in q lines
      of_area q own (inl less) = was.each q own (inl less) ∙ shows q
      of_area q own (inr behind) = was.others q (λ _ before. not_before before) ∙ sym (nothing_present q (past q own behind)) ∙ shows q
        where
          not_before : IsBefore q page 0 → ⊥
          not_before (inl less) = omega (arith, less, behind)
          not_before (inr at) = let less = at.1 in omega (arith, less)

      by_area : (q : Dbkey) (b : Bool) → (q.area == area) ≡ b → find dbkey_order q found ≡ cond b (line_in q lines) None
      by_area q true is = of_area q (eqb-true q.area area is) (cases q.page page)
        where
          cases : (a b : ℕ) → (a < b) ⊎ (b ≤ a)
          cases a b = grind arith
      by_area q false is = was.others q (λ own _. let bad : true ≡ false = sym (eq-eqb q.area area own) ∙ is in let no : ⊥ = cc in no)

      in_area : (q : Dbkey) → find dbkey_order q (lines_in area lines) ≡ cond (q.area == area) (line_in q lines) None
      in_area q = find-where_key dbkey_order (λ k. k.area == area) q (λ k tied. ap (λ (x : Dbkey). x.area == area) (sym (same_dbkey q k tied))) lines

      pub all_found : found ≡ lines_in area lines
      all_found = same_entries dbkey_order dbkey_total same_dbkey found (lines_in area lines) (subst T (sym was.in_order) tt) (is_sorted-where_key dbkey_order (λ k. k.area == area) lines (subst T (sym stands.in_order) tt))
          (λ q. by_area q (q.area == area) refl ∙ sym (in_area q))
