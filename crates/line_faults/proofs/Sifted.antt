-- Lines of a relation's area that were looked at, and those that are left.
use Rattle.std.proofs.Common.{◌≡◌, ◌==◌, inl, inr, ℕ, true, List, [], ◌∷◌, ◌++◌, Option, Some, None, is_some, refl, sym, ap, subst, ◌∙◌}
use Rattle.std.specs.List.{AllByRecursion}
use Rattle.std.proofs.lemmas.Option.{none-some, same_Some}
use Rattle.std.proofs.lemmas.List.{append-nil, append_assoc}
use Rattle.rdb_types.specs.declared.values.Value.{Value}
use Rattle.rdb_types.specs.declared.keys.Dbkey.{Dbkey}
use Rattle.line_view.specs.Knowledge.{Knowledge, Lines, IsInOrder, Agrees, line_in, lines_in, keys_of}
use Rattle.line_view.proofs.Agreements.{Found, found_all, found_some}
use Rattle.relation_rows.specs.declared.stored.StoredRelation.{StoredRelation}
use Rattle.relation_rows.specs.Stored.{IsRowOf, IsRowAt, IsBadAt, IsLineKnown, IsAreaKnown}
use Rattle.line_faults.specs.Found.{Finds}
use Rattle.line_faults.specs.Rows.{IsRowLine, AreRowFaults, IsFineAt}

-- ---- one more thing

module _ {X F : Type 0} (Fine Bad : X → Type 0) (name : X → F) where
  pub fine_more : (xs : List X) (found : List F) (x : X) → Finds Fine Bad name xs found → Fine x → Finds Fine Bad name (xs ++ x ∷ []) found
  fine_more [] found x finds fine = inl (fine, finds)
  fine_more (y ∷ ys) found x (inl h) fine = inl (h.0, fine_more ys found x h.1 fine)
  fine_more (y ∷ ys) found x (inr h) fine = inr (h.0, (h.1.0, h.1.1, fine_more ys h.1.0 x h.1.2 fine))

  pub bad_more : (xs : List X) (found : List F) (x : X) → Finds Fine Bad name xs found → Bad x → Finds Fine Bad name (xs ++ x ∷ []) (found ++ name x ∷ [])
  bad_more [] found x finds bad = inr (bad, ([], ap (λ (l : List F). l ++ name x ∷ []) finds, refl))
  bad_more (y ∷ ys) found x (inl h) bad = inl (h.0, bad_more ys found x h.1 bad)
  bad_more (y ∷ ys) found x (inr h) bad = inr (h.0, (h.1.0 ++ name x ∷ [], ap (λ (l : List F). l ++ name x ∷ []) h.1.1, bad_more ys h.1.0 x h.1.2 bad))

  -- where nothing is found, each is fine
  pub all_fine : (xs : List X) → Finds Fine Bad name xs [] → AllByRecursion Fine xs
  all_fine [] finds = tt
  all_fine (x ∷ xs) (inl h) = (h.0, all_fine xs h.1)
  all_fine (x ∷ xs) (inr h) = absurd (let same = h.1.1 in let no : ⊥ = cc in no)

-- ---- lines of a relation

-- of the lines of the relation's area in the map, these were looked at and those are left
pub record Splits (r : StoredRelation) (left found : List Dbkey) (all : Lines) : Type 0 where
  pub done : Lines
  pub es : Lines
  pub stands : lines_in r.area all ≡ done ++ es
  pub keys : left ≡ keys_of es
  pub finds : Finds (IsRowLine r) (λ e. IsRowLine r e → ⊥) (λ e. e.0) done found

pub record Sifts (known : Knowledge) (r : StoredRelation) (old keys left new : List Dbkey) : Type 0 where
  pub lines : AllByRecursion (IsLineKnown known) left
  pub split : (all : Lines) → IsInOrder all → Agrees known all → (found : List Dbkey) × (new ≡ old ++ found) × Splits r left found all

pub none_sifted : (known : Knowledge) (r : StoredRelation) (old keys : List Dbkey) → known.area r.area ≡ Some keys → IsAreaKnown known r.area → Sifts known r old keys keys old
none_sifted known r old keys told is = record {
  lines = subst (AllByRecursion (IsLineKnown known)) (same_Some _ _ (sym is.1 ∙ told)) is.2;
  split = λ all sorted agrees. ([], sym (append-nil old), record { done = []; es = lines_in r.area all; stands = refl; keys = agrees.area r.area keys told; finds = refl });
}

-- the line of a key that is left is the map's
first_found : (r : StoredRelation) (all : Lines) (done es : Lines) (e : Dbkey × List ℕ) → IsInOrder all → lines_in r.area all ≡ done ++ e ∷ es → line_in e.0 all ≡ Some e.1
first_found r all done es e sorted stands = within done (subst (λ l. Found all l) stands (found_some all all (λ e. e.0.area == r.area) (found_all all sorted))) where
  within : (done : Lines) → Found all (done ++ e ∷ es) → line_in e.0 all ≡ Some e.1
  within [] found = found.0
  within (d ∷ ds) found = within ds found.1

module _ (known : Knowledge) (r : StoredRelation) (key : Dbkey) (left : List Dbkey) (all : Lines) (sorted : IsInOrder all) (agrees : Agrees known all) where
  -- what is known of the first line that is left
  record Next (done : Lines) : Type 0 where
    pub e : Dbkey × List ℕ
    pub es : Lines
    pub stands : lines_in r.area all ≡ (done ++ e ∷ []) ++ es
    pub key_is : key ≡ e.0
    pub keys : left ≡ keys_of es
    pub there : line_in key all ≡ Some e.1

  abbrev tail : List Dbkey → List Dbkey
  tail [] = []
  tail (k ∷ ks) = ks

  next_of : (done es : Lines) → lines_in r.area all ≡ done ++ es → key ∷ left ≡ keys_of es → Next done
  next_of done [] stands keys = absurd (let no : ⊥ = cc in no)
  next_of done (e ∷ es) stands keys =
      let first : key ≡ e.0 = cc in
      record {
        e = e;
        es = es;
        stands = stands ∙ sym (append_assoc done (e ∷ []) es);
        key_is = first;
        keys = ap tail keys;
        there = ap (λ k. line_in k all) first ∙ first_found r all done es e sorted stands;
      }

  row_split : (found : List Dbkey) (image : List ℕ) (row : List Value) → known.line key ≡ Some (Some image) → IsRowOf r image row → Splits r (key ∷ left) found all → Splits r left found all
  row_split found image row told is s =
      let next = next_of s.done s.es s.stands s.keys in
      let same : image ≡ next.e.1 = same_Some _ _ (agrees.line key (Some image) told ∙ next.there) in
      record {
        done = s.done ++ next.e ∷ [];
        es = next.es;
        stands = next.stands;
        keys = next.keys;
        finds = fine_more (IsRowLine r) (λ e. IsRowLine r e → ⊥) (λ e. e.0) s.done found next.e s.finds (row, subst (λ i. IsRowOf r i row) same is);
      }

  absent_split : (found : List Dbkey) → known.line key ≡ Some None → Splits r (key ∷ left) found all → Splits r left found all
  absent_split found told s =
      let next = next_of s.done s.es s.stands s.keys in
      absurd (none-some next.e.1 (agrees.line key None told ∙ next.there))

  bad_split : (found : List Dbkey) → IsBadAt known r key → Splits r (key ∷ left) found all → Splits r left (found ++ key ∷ []) all
  bad_split found bad s =
      let next = next_of s.done s.es s.stands s.keys in
      let same : bad.0 ≡ next.e.1 = same_Some _ _ (agrees.line key (Some bad.0) bad.1 ∙ next.there) in
      record {
        done = s.done ++ next.e ∷ [];
        es = next.es;
        stands = next.stands;
        keys = next.keys;
        finds = subst (λ (k : Dbkey). Finds (IsRowLine r) (λ e. IsRowLine r e → ⊥) (λ e. e.0) (s.done ++ next.e ∷ []) (found ++ k ∷ [])) (sym next.key_is)
            (bad_more (IsRowLine r) (λ e. IsRowLine r e → ⊥) (λ e. e.0) s.done found next.e s.finds (λ is. bad.2 is.0 (subst (λ i. IsRowOf r i is.0) (sym same) is.1)));
      }

pub row_sifted : (known : Knowledge) (r : StoredRelation) (old keys left new : List Dbkey) (key : Dbkey) (row : List Value) → Sifts known r old keys (key ∷ left) new → IsRowAt known r key row → Sifts known r old keys left new
row_sifted known r old keys left new key row sifts is = record {
  lines = sifts.lines.1;
  split = λ all sorted agrees. let s = sifts.split all sorted agrees in (s.0, s.1, row_split known r key left all sorted agrees s.0 is.0 row is.1 is.2 s.2);
}

pub absent_sifted : (known : Knowledge) (r : StoredRelation) (old keys left new : List Dbkey) (key : Dbkey) → Sifts known r old keys (key ∷ left) new → known.line key ≡ Some None → Sifts known r old keys left new
absent_sifted known r old keys left new key sifts told = record {
  lines = sifts.lines.1;
  split = λ all sorted agrees. let s = sifts.split all sorted agrees in (s.0, s.1, absent_split known r key left all sorted agrees s.0 told s.2);
}

pub bad_sifted : (known : Knowledge) (r : StoredRelation) (old keys left new more : List Dbkey) (key : Dbkey) → Sifts known r old keys (key ∷ left) new → IsBadAt known r key → more ≡ new ++ key ∷ [] → Sifts known r old keys left more
bad_sifted known r old keys left new more key sifts bad pushed = record {
  lines = sifts.lines.1;
  split = λ all sorted agrees. let s = sifts.split all sorted agrees in
      (s.0 ++ key ∷ [], pushed ∙ ap (λ l. l ++ key ∷ []) s.1 ∙ append_assoc old s.0 (key ∷ []), bad_split known r key left all sorted agrees s.0 bad s.2);
}

pub all_sifted : (known : Knowledge) (r : StoredRelation) (old keys new : List Dbkey) → Sifts known r old keys [] new → (all : Lines) → IsInOrder all → Agrees known all → (found : List Dbkey) × (new ≡ old ++ found) × AreRowFaults r all found
all_sifted known r old keys new sifts all sorted agrees =
    let s = sifts.split all sorted agrees in
    (s.0, s.1, subst (λ (l : Lines). Finds (IsRowLine r) (λ e. IsRowLine r e → ⊥) (λ e. e.0) l s.0) (sym (s.2.stands ∙ ends s.2.done s.2.es s.2.keys)) s.2.finds) where
      ends : (done es : Lines) → [] ≡ keys_of es → done ++ es ≡ done
      ends done [] keys = append-nil done
      ends done (e ∷ es) keys = absurd (let no : ⊥ = cc in no)

-- a line that is left isn't unknown
pub first_known : (known : Knowledge) (r : StoredRelation) (old keys left new : List Dbkey) (key : Dbkey) → Sifts known r old keys (key ∷ left) new → known.line key ≡ None → ⊥
first_known known r old keys left new key sifts unknown =
    let is : is_some (known.line key) ≡ true = sifts.lines.0 in
    let none = ap (λ (o : Option (Option (List ℕ))). is_some o) unknown in
    let no : ⊥ = cc in no

pub fine_sifted : (known : Knowledge) (r : StoredRelation) (old keys left new : List Dbkey) (key : Dbkey) → Sifts known r old keys (key ∷ left) new → IsFineAt known r key → Sifts known r old keys left new
fine_sifted known r old keys left new key sifts (inl is) = row_sifted known r old keys left new key is.0 sifts is.1
fine_sifted known r old keys left new key sifts (inr none) = absent_sifted known r old keys left new key sifts none
