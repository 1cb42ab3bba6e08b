-- A table behind a line that is put, and behind a page that is taken.
use Rattle.std.proofs.Common.{◌≡◌, ◌≢◌, ℕ, ◌≤◌, ◌<◌, Bool, true, false, cond, List, length, Option, Some, None, inl, inr, ⊎_elim, ap, sym, subst, ◌∙◌, refl, arith}
use Rattle.std.specs.Prelude.{is_some}
use Rattle.std.proofs.lemmas.Bool.{true≢false}
use Rattle.std.specs.declared.cmp.Ordering.{Ordering}
use Rattle.std.specs.declared.cmp.Ordering.TheVariants.{Less, Equal, Greater}
use Rattle.std.specs.Ordering.{is_eq}
use Rattle.rdb_types.specs.declared.keys.Dbkey.{Dbkey}
use Rattle.rdb_types.specs.Order.{dbkey_order}
use Rattle.std.specs.Cmp.{tied_itself}
use Rattle.rdb_types.specs.OrderLaws.{dbkey_total, same_dbkey}
use Rattle.rdb_page.specs.Page.{IsOwner, lines_of}
use Rattle.line_view.specs.Knowledge.{Lines, line_in, laid}
use Rattle.line_view.proofs.FullMap.{laid_found}
use Rattle.line_view.proofs.Written.{same_line}
use Rattle.page_table.proofs.of_line_moves.Putting.{nat_cases}
use Rattle.page_table.specs.declared.uses.PageUse.{PageUse}
use Rattle.page_table.specs.Pages.{Pages, empty_of, use_of, owner_in, class_in, state_in, is_present, has_image, IsLineOf, IsUsedLine, Puts, PutsLine}
use Rattle.page_table.proofs.Said.{none_has}
use Rattle.committed_tables.specs.Tables.{HasCommitted}

-- ---- keys

ties : (o : Ordering) → is_eq o ≡ true → o ≡ Equal
ties Less is = cc
ties Equal is = refl
ties Greater is = cc

pub same_key : (q k : Dbkey) → is_eq (dbkey_order q k) ≡ true → q ≡ k
same_key q k is = same_dbkey q k (ties (dbkey_order q k) is)

pub not_same : (k key : Dbkey) → is_eq (dbkey_order k key) ≡ false → k ≡ key → ⊥
not_same k key apart same = true≢false (sym (tied key) ∙ (ap (λ (q : Dbkey). is_eq (dbkey_order q key)) (sym same) ∙ apart))
  where
    tied : (q : Dbkey) → is_eq (dbkey_order q q) ≡ true
    tied q = ap is_eq (tied_itself dbkey_total q)

pub some_owner : (file area : ℕ) → IsOwner file area → 1 ≤ area
some_owner file area (inl first) = omega (arith, first.1)
some_owner file area (inr (inl second)) = omega (arith, second.1)
some_owner file area (inr (inr third)) = omega (arith, third.1)

is_a_some : (image : Option (List ℕ)) → is_some image ≡ true → (bytes : List ℕ) × (image ≡ Some bytes)
is_a_some (Some bytes) is = (bytes, refl)
is_a_some None is = absurd (true≢false (sym is))

-- ---- a line is put

module _ (pages kept : Pages) (key : Dbkey) (has : Bool) (puts : PutsLine key has pages kept) where
  same_owner : (page : ℕ) → 1 ≤ page → owner_in kept page ≡ owner_in pages page
  same_owner page first = ⊎_elim
      (λ (here : page ≡ key.page). subst (λ (n : ℕ). owner_in kept n ≡ owner_in pages n) (sym here) puts.owner)
      (λ away. ap (λ (u : PageUse). u.owner) (puts.others page first away)) (nat_cases page key.page)

  same_class : (page : ℕ) → 1 ≤ page → class_in kept page ≡ class_in pages page
  same_class page first = ⊎_elim
      (λ (here : page ≡ key.page). subst (λ (n : ℕ). class_in kept n ≡ class_in pages n) (sym here) puts.class)
      (λ away. ap (λ (u : PageUse). u.class) (puts.others page first away)) (nat_cases page key.page)

  pub line_there : (k : Dbkey) → IsLineOf pages k → IsLineOf kept k
  line_there k is = record {
    within = record { first = is.within.first; last = let last = is.within.last in let long = puts.long in omega (arith, last, long) };
    owner = same_owner k.page is.within.first ∙ is.owner;
    line = let line = is.line in subst (λ (c : ℕ). k.line < lines_of c) (sym (same_class k.page is.within.first)) line;
  }

  line_back : (k : Dbkey) → IsLineOf kept k → IsLineOf pages k
  line_back k is = record {
    within = record { first = is.within.first; last = let last = is.within.last in let long = puts.long in omega (arith, last, long) };
    owner = sym (same_owner k.page is.within.first) ∙ is.owner;
    line = let line = is.line in subst (λ (c : ℕ). k.line < lines_of c) (same_class k.page is.within.first) line;
  }

  -- another line has its state
  pub same_state : (k : Dbkey) → IsLineOf pages key → IsLineOf pages k → (k ≡ key → ⊥) → state_in (use_of kept k.page) k.line ≡ state_in (use_of pages k.page) k.line
  same_state k of_key of_k apart = ⊎_elim
      (λ (here : k.page ≡ key.page). subst (λ (n : ℕ). state_in (use_of kept n) k.line ≡ state_in (use_of pages n) k.line) (sym here) (puts.beside k.line (other here)))
      (λ away. ap (λ (u : PageUse). state_in u k.line) (puts.others k.page of_k.within.first away)) (nat_cases k.page key.page)
    where
      other : k.page ≡ key.page → k.line ≢ key.line
      other page line =
          let area : k.area ≡ key.area = sym of_k.owner ∙ (ap (λ (n : ℕ). owner_in pages n) page ∙ of_key.owner) in
          let same : k ≡ key = (λ i. record { area = area i; page = page i; line = line i }) in
          apart same

  -- its image, or none
  same_image : (k : Dbkey) → IsLineOf pages key → IsLineOf pages k → (k ≡ key → ⊥) → has_image (use_of kept k.page) k.line ≡ has_image (use_of pages k.page) k.line
  same_image k of_key of_k apart = ap is_present (same_state k of_key of_k apart)

-- ---- behind a commit

module _ (pages kept : Pages) (file : ℕ) (lines : Lines) (key : Dbkey) (image : Option (List ℕ)) (was : HasCommitted pages file lines) (owner : IsOwner file key.area) (is_line : IsLineOf pages key) (puts : PutsLine key (is_some image) pages kept) where
  used_behind : (k : Dbkey) → IsOwner file k.area → IsUsedLine kept k → (b : Bool) → is_eq (dbkey_order k key) ≡ b → (bytes : List ℕ) × (line_in k (laid key image lines) ≡ Some bytes)
  used_behind k of_file is true same =
      let here : k ≡ key = same_key k key same in
      let present : is_some image ≡ true = sym puts.here ∙ subst (λ (q : Dbkey). has_image (use_of kept q.page) q.line ≡ true) here is.image in
      let some = is_a_some image present in
      (some.0, laid_found k key image lines ∙ (ap (λ b. cond b image (line_in k lines)) same ∙ some.1))
  used_behind k of_file is false apart =
      let of_k = line_back pages kept key (is_some image) puts k is.is_line in
      let old = was.used k of_file (record { is_line = of_k; image = sym (same_image pages kept key (is_some image) puts k is_line of_k (not_same k key apart)) ∙ is.image }) in
      (old.0, same_line lines key k image apart ∙ old.1)

  committed_behind : (k : Dbkey) (bytes : List ℕ) → IsOwner file k.area → line_in k (laid key image lines) ≡ Some bytes → (b : Bool) → is_eq (dbkey_order k key) ≡ b → IsUsedLine kept k
  committed_behind k bytes of_file is true same =
      let here : k ≡ key = same_key k key same in
      let some : image ≡ Some bytes = ap (λ b. cond b image (line_in k lines)) (sym same) ∙ (sym (laid_found k key image lines) ∙ is) in
      subst (λ (q : Dbkey). IsUsedLine kept q) (sym here) (record { is_line = line_there pages kept key (is_some image) puts key is_line; image = puts.here ∙ ap is_some some })
  committed_behind k bytes of_file is false apart =
      let old = was.committed k bytes of_file (sym (same_line lines key k image apart) ∙ is) in
      record { is_line = line_there pages kept key (is_some image) puts k old.is_line; image = same_image pages kept key (is_some image) puts k is_line old.is_line (not_same k key apart) ∙ old.image }

  pub laid_behind : HasCommitted kept file (laid key image lines)
  laid_behind = record {
    used = λ k of_file is. used_behind k of_file is (is_eq (dbkey_order k key)) refl;
    committed = λ k bytes of_file is. committed_behind k bytes of_file is (is_eq (dbkey_order k key)) refl;
  }

-- a line of another file
pub other_behind : (pages : Pages) (file : ℕ) (lines : Lines) (key : Dbkey) (image : Option (List ℕ)) → HasCommitted pages file lines → (IsOwner file key.area → ⊥) → HasCommitted pages file (laid key image lines)
other_behind pages file lines key image was away = record {
  used = λ k of_file is. let old = was.used k of_file is in (old.0, there k of_file ∙ old.1);
  committed = λ k bytes of_file is. was.committed k bytes of_file (sym (there k of_file) ∙ is);
}
  where
    there : (k : Dbkey) → IsOwner file k.area → line_in k (laid key image lines) ≡ line_in k lines
    there k of_file = by (is_eq (dbkey_order k key)) refl
      where
        by : (b : Bool) → is_eq (dbkey_order k key) ≡ b → line_in k (laid key image lines) ≡ line_in k lines
        by true same = absurd (away (subst (λ (q : Dbkey). IsOwner file q.area) (same_key k key same) of_file))
        by false apart = same_line lines key k image apart

-- ---- a page is taken

module _ (pages kept : Pages) (file : ℕ) (lines : Lines) (page area class : ℕ) (was : HasCommitted pages file lines) (first : 1 ≤ page) (free : owner_in pages page ≡ 0) (puts : Puts page (empty_of area class) pages kept) where
  not_there : (k : Dbkey) → IsUsedLine kept k → k.page ≢ page
  not_there k is here =
      let empty : use_of kept k.page ≡ empty_of area class = ap (λ (n : ℕ). use_of kept n) here ∙ puts.here in
      true≢false (sym is.image ∙ (ap (λ (u : PageUse). has_image u k.line) empty ∙ ap is_present (none_has k.line)))

  moved : (a b : Pages) (k : Dbkey) → use_of b k.page ≡ use_of a k.page → length b ≡ length a → IsUsedLine a k → IsUsedLine b k
  moved a b k same long is = record {
    is_line = record {
      within = record { first = is.is_line.within.first; last = let last = is.is_line.within.last in omega (arith, last, long) };
      owner = ap (λ (u : PageUse). u.owner) same ∙ is.is_line.owner;
      line = let line = is.is_line.line in subst (λ (c : ℕ). k.line < lines_of c) (ap (λ (u : PageUse). u.class) (sym same)) line;
    };
    image = ap (λ (u : PageUse). has_image u k.line) same ∙ is.image;
  }

  pub taken_behind : HasCommitted kept file lines
  taken_behind = record {
    used = λ k of_file is. was.used k of_file (moved kept pages k (sym (puts.others k.page is.is_line.within.first (not_there k is))) (sym puts.long) is);
    committed = λ k bytes of_file is.
        let old = was.committed k bytes of_file is in
        let apart : k.page ≢ page = (λ here. let some = some_owner file k.area of_file in let none : k.area ≡ 0 = sym old.is_line.owner ∙ (ap (λ (n : ℕ). owner_in pages n) here ∙ free) in omega (arith, some, none)) in
        moved pages kept k (puts.others k.page old.is_line.within.first apart) puts.long old;
  }
