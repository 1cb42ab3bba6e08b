-- The lines of a group laid over a map of lines, and whether a transaction has a group.
use Rattle.std.proofs.Common.{◌≡◌, ℕ, zero, suc, ◌⊎◌, inl, inr, ⊎_elim, Bool, true, false, ◌||◌, ◌==◌, cond, not, T, List, [], ◌∷◌, ◌++◌, map, Option, Some, None, slice_get, refl, sym, ◌∙◌, ap, subst}
use Rattle.std.specs.declared.cmp.Ordering.{Ordering}
use Rattle.std.specs.declared.cmp.Ordering.TheVariants.{Less, Equal, Greater}
use Rattle.std.specs.Ordering.{is_eq}
use Rattle.std.specs.Cmp.{tied_itself}
use Rattle.std.specs.FinMap.Entries.{is_sorted-put, is_sorted-where_key}
use Rattle.rdb_types.specs.declared.keys.Dbkey.{Dbkey}
use Rattle.rdb_types.specs.Order.{dbkey_order}
use Rattle.rdb_types.specs.OrderLaws.{dbkey_total, same_dbkey}
use Rattle.new_database.specs.aij_journal.declared.part.GroupLine.{GroupLine}
use Rattle.journal_reading.specs.journal_scan.declared.group.Group.{Group}
use Rattle.line_view.specs.Knowledge.{Lines, IsInOrder, line_in, laid}
use Rattle.line_view.specs.Writes.{laid_all}
use Rattle.line_view.proofs.FullMap.{laid_found}
use Rattle.line_versions.specs.Lines.{shown_as}
use Rattle.stable_lines.specs.Journal.{has_group, write_of}

true_from_T : (b : Bool) → T b → b ≡ true
true_from_T true h = refl
true_from_T false h = absurd h

equal : (r : Ordering) → is_eq r ≡ true → r ≡ Equal
equal Less is = let bad : ⊥ = cc in absurd bad
equal Equal is = refl
equal Greater is = let bad : ⊥ = cc in absurd bad

-- What is found behind the lines of a group: the last of that key, or what was there.
pub record IsLaid (key : Dbkey) (ls : List GroupLine) (lines : Lines) : Type 0 where
  pub index : ℕ
  pub line : GroupLine
  pub is : slice_get ls index ≡ Some line
  pub same_key : line.key ≡ key
  pub found : line_in key (laid_all (map write_of ls) lines) ≡ shown_as line.state line.image

pub record IsLeft (key : Dbkey) (ls : List GroupLine) (lines : Lines) : Type 0 where
  pub none : (i : ℕ) (line : GroupLine) → slice_get ls i ≡ Some line → line.key ≡ key → ⊥
  pub found : line_in key (laid_all (map write_of ls) lines) ≡ line_in key lines

pub found_behind : (key : Dbkey) (ls : List GroupLine) (lines : Lines) → IsLaid key ls lines ⊎ IsLeft key ls lines
found_behind key [] lines = inr (record { none = λ i line is same. let bad : ⊥ = cc in bad; found = refl })
found_behind key (l ∷ ls) lines = ⊎_elim (λ later. inl (record { index = suc later.index; line = later.line; is = later.is; same_key = later.same_key; found = later.found })) (λ left. here left (is_eq (dbkey_order key l.key)) refl) (found_behind key ls (laid l.key (shown_as l.state l.image) lines))
  where
    here : IsLeft key ls (laid l.key (shown_as l.state l.image) lines) → (b : Bool) → is_eq (dbkey_order key l.key) ≡ b → IsLaid key (l ∷ ls) lines ⊎ IsLeft key (l ∷ ls) lines
    here left true tied = inl (record {
      index = 0;
      line = l;
      is = refl;
      same_key = sym (same_dbkey key l.key (equal _ tied));
      found = left.found ∙ laid_found key l.key (shown_as l.state l.image) lines ∙ ap (λ b. cond b (shown_as l.state l.image) (line_in key lines)) tied;
    })
    here left false apart = inr (record {
      none = none;
      found = left.found ∙ laid_found key l.key (shown_as l.state l.image) lines ∙ ap (λ b. cond b (shown_as l.state l.image) (line_in key lines)) apart;
    })
      where
        none : (i : ℕ) (line : GroupLine) → slice_get (l ∷ ls) i ≡ Some line → line.key ≡ key → ⊥
        none zero line is same =
            let this : l ≡ line = cc in
            let tied : is_eq (dbkey_order key key) ≡ false = subst (λ k. is_eq (dbkey_order key k) ≡ false) (ap (λ (g : GroupLine). g.key) this ∙ same) apart in
            let itself : is_eq (dbkey_order key key) ≡ true = ap is_eq (tied_itself dbkey_total key) in
            let bad : true ≡ false = sym itself ∙ tied in
            cc
        none (suc i) line is same = left.none i line is same

-- one group more
pub grouped_behind : (tsn : ℕ) (gs : List Group) (g : Group) → has_group tsn (gs ++ g ∷ []) ≡ (has_group tsn gs || (g.tsn.number == tsn))
grouped_behind tsn [] g = or_false (g.tsn.number == tsn)
  where
    or_false : (b : Bool) → (b || false) ≡ b
    or_false true = refl
    or_false false = refl
grouped_behind tsn (x ∷ gs) g = step (x.tsn.number == tsn) (has_group tsn (gs ++ g ∷ [])) (grouped_behind tsn gs g)
  where
    step : (b more : Bool) → more ≡ (has_group tsn gs || (g.tsn.number == tsn)) → (b || more) ≡ ((b || has_group tsn gs) || (g.tsn.number == tsn))
    step true more is = refl
    step false more is = is

-- the map stays in order
pub laid_in_order : (ls : List GroupLine) (lines : Lines) → IsInOrder lines → IsInOrder (laid_all (map write_of ls) lines)
laid_in_order [] lines is = is
laid_in_order (l ∷ ls) lines is = laid_in_order ls (laid l.key (shown_as l.state l.image) lines) (one l.key (shown_as l.state l.image) is)
  where
    one : (key : Dbkey) (image : Option (List ℕ)) → IsInOrder lines → IsInOrder (laid key image lines)
    one key (Some image) is = true_from_T _ (is_sorted-put dbkey_order dbkey_total key image lines (subst T (sym is) tt))
    one key None is = true_from_T _ (is_sorted-where_key dbkey_order (λ x. not (is_eq (dbkey_order key x))) lines (subst T (sym is) tt))
