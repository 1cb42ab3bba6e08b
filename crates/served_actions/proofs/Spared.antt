-- Part by part of an action.
use Rattle.std.proofs.Common.{◌≡◌, ◌⊎◌, List, [], ◌∷◌, ◌++◌, inl, inr, sym, subst}
use Rattle.std.specs.List.{AllByRecursion}
use Rattle.rdb_types.specs.declared.keys.Dbkey.{Dbkey}
use Rattle.rdo_ast.specs.declared.syntax.Range.{Range}
use Rattle.rdb_meaning.specs.declared.tables.Tables.{Tables}
use Rattle.rdb_meaning.specs.Evaluation.{Tuple}
use Rattle.line_view.specs.declared.need.Need.{Need}
use Rattle.line_view.specs.declared.need.Need.TheVariants.{Line, Area, Room}
use Rattle.sorted_index_laws.specs.Nodes.{AnyByRecursion}
use Rattle.rdo_values.specs.Views.{ranging_of}
use Rattle.rdo_values.specs.Places.{ranges_in}
use Rattle.rdo_bind.specs.Acting.{Act, store, for_each, print, modify, erase, Acts, no_act, act}
use Rattle.rdo_select.specs.Sources.{Listed}
use Rattle.served_selections.specs.Ranges.{Chosen, chosen_in_ranging}
use Rattle.served_selections.specs.Served.{IsServed, IsReadByIndex}
use Rattle.served_selections.proofs.Lacked.{all_by_index}
use Rattle.rdo_acts.specs.Selections.{chosen_in_items, chosen_in_assigns, chosen_in_act, chosen_in_acts, IsReadAmong}
use Rattle.rdo_acts.specs.Wanted.{IsNodeIn, IsOneOf, IsChosenRow, ActLacks, ActsLack, ActWants, ActsWant}
use Rattle.served_actions.specs.Served.{IsServedAct, IsIndexed, IsNoArea, IsSpared}

module _ {X : Type 0} (P : X → Type 0) where
  all_left : (xs ys : List X) → AllByRecursion P (xs ++ ys) → AllByRecursion P xs
  all_left [] ys h = tt
  all_left (x ∷ xs) ys h = (h.0, all_left xs ys h.1)

  all_right : (xs ys : List X) → AllByRecursion P (xs ++ ys) → AllByRecursion P ys
  all_right [] ys h = h
  all_right (x ∷ xs) ys h = all_right xs ys h.1

module _ (t : Tables) (sources : Listed) (need : Need) where
  pub indexed : (cs : List Chosen) → AllByRecursion (IsServed t sources) cs → IsReadAmong t sources cs need → IsIndexed t sources cs need
  indexed cs served read = all_by_index sources t need cs served read

  mutual
    act_indexed : (a : Act) (vs : List Range) → AllByRecursion (IsServed t sources) (chosen_in_act a vs) → ActWants t sources a vs need → ActLacks t (IsIndexed t sources) a vs need
    act_indexed (store s as') vs served (inl read) = inl (indexed (chosen_in_assigns as' (vs ++ s.range ∷ [])) served read)
    act_indexed (store s as') vs served (inr node) = inr node
    act_indexed (for_each s body) vs served (inl read) = inl (indexed (chosen_in_ranging (ranging_of s.inner) vs) (all_left (IsServed t sources) (chosen_in_ranging (ranging_of s.inner) vs) (chosen_in_acts body (vs ++ ranges_in (ranging_of s.inner))) served) read)
    act_indexed (for_each s body) vs served (inr (inl row)) = inr (inl row)
    act_indexed (for_each s body) vs served (inr (inr parts)) =
        inr (inr (acts_indexed body (vs ++ ranges_in (ranging_of s.inner)) (all_right (IsServed t sources) (chosen_in_ranging (ranging_of s.inner) vs) (chosen_in_acts body (vs ++ ranges_in (ranging_of s.inner))) served) parts))
    act_indexed (print items) vs served read = indexed (chosen_in_items items vs) served read
    act_indexed (modify v as') vs served (inl read) = inl (indexed (chosen_in_assigns as' vs) served read)
    act_indexed (modify v as') vs served (inr node) = inr node
    act_indexed (erase v) vs served node = node

    acts_indexed : (body : Acts) (vs : List Range) → AllByRecursion (IsServed t sources) (chosen_in_acts body vs) → ActsWant t sources body vs need → ActsLack t (IsIndexed t sources) body vs need
    acts_indexed no_act vs served none = none
    acts_indexed (act a rest) vs served (inl own) = inl (act_indexed a vs (all_left (IsServed t sources) (chosen_in_act a vs) (chosen_in_acts rest vs) served) own)
    acts_indexed (act a rest) vs served (inr later) = inr (acts_indexed rest vs (all_right (IsServed t sources) (chosen_in_act a vs) (chosen_in_acts rest vs) served) later)

  -- ---- no area

  a_line : (line : Dbkey) → need ≡ Line line → IsNoArea need
  a_line line is = subst IsNoArea (sym is) tt

  read_no_area : (cs : List Chosen) → IsIndexed t sources cs need → IsNoArea need
  read_no_area [] none = absurd none
  read_no_area (c ∷ cs) (inl own) = a_line own.line own.is
  read_no_area (c ∷ cs) (inr later) = read_no_area cs later

  one_no_area : (ks : Tuple) → IsOneOf ks need → IsNoArea need
  one_no_area [] none = absurd none
  one_no_area (k ∷ ks) (inl own) = a_line k own
  one_no_area (k ∷ ks) (inr later) = one_no_area ks later

  row_no_area : (tuples : List Tuple) → AnyByRecursion (λ ks. IsOneOf ks need) tuples → IsNoArea need
  row_no_area [] none = absurd none
  row_no_area (ks ∷ more) (inl own) = one_no_area ks own
  row_no_area (ks ∷ more) (inr later) = row_no_area more later

node_no_area : (t : Tables) (need : Need) → IsNodeIn t need → IsNoArea need
node_no_area t (Line line) node = tt
node_no_area t (Area area) node = node
node_no_area t (Room room) node = tt

module _ (t : Tables) (sources : Listed) (need : Need) where
  mutual
    act_no_area : (a : Act) (vs : List Range) → ActLacks t (IsIndexed t sources) a vs need → IsNoArea need
    act_no_area (store s as') vs (inl read) = read_no_area t sources need (chosen_in_assigns as' (vs ++ s.range ∷ [])) read
    act_no_area (store s as') vs (inr node) = node_no_area t need node
    act_no_area (for_each s body) vs (inl read) = read_no_area t sources need (chosen_in_ranging (ranging_of s.inner) vs) read
    act_no_area (for_each s body) vs (inr (inl row)) = row_no_area t sources need row.tuples row.row
    act_no_area (for_each s body) vs (inr (inr parts)) = acts_no_area body (vs ++ ranges_in (ranging_of s.inner)) parts
    act_no_area (print items) vs read = read_no_area t sources need (chosen_in_items items vs) read
    act_no_area (modify v as') vs (inl read) = read_no_area t sources need (chosen_in_assigns as' vs) read
    act_no_area (modify v as') vs (inr node) = node_no_area t need node
    act_no_area (erase v) vs node = node_no_area t need node

    acts_no_area : (body : Acts) (vs : List Range) → ActsLack t (IsIndexed t sources) body vs need → IsNoArea need
    acts_no_area no_act vs none = absurd none
    acts_no_area (act a rest) vs (inl own) = act_no_area a vs own
    acts_no_area (act a rest) vs (inr later) = acts_no_area rest vs later

  pub spared : (a : Act) (vs : List Range) → IsServedAct t sources a vs → ActWants t sources a vs need → IsSpared t sources a vs need
  spared a vs served wants =
      let lacks = act_indexed t sources need a vs served wants in
      record { no_area = act_no_area a vs lacks; lacks = lacks }
