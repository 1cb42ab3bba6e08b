-- Lines of areas that no relation has.
use Rattle.std.proofs.Common.{◌≡◌, inl, inr, ◌==◌, ◌++◌, ◌∷◌, [], ℕ, Bool, true, false, List, map, Option, Some, None, is_some, not, refl, sym, ap, ◌∙◌}
use Rattle.std.specs.Prelude.{is_none, IfSome, IfNone, if◌then◌else◌}
use Rattle.std.proofs.lemmas.List.{append_assoc, append-nil}
use Rattle.rdb_types.specs.declared.keys.Dbkey.{Dbkey}
use Rattle.rdo_ast.specs.Tree.{Name}
use Rattle.rdb_meaning.specs.declared.tables.Relation.{Relation as Rows}
use Rattle.rdb_meaning.specs.declared.tables.Tables.{Tables}
use Rattle.rdb_page.specs.Page.{IsOwner}
use Rattle.line_view.specs.Knowledge.{Lines, lines_in, keys_of}
use Rattle.sound_lines.specs.Sound.{relation_in}
use Rattle.verified_lines.specs.Relations.{entry_in, is_stray, strays_in}
use Rattle.verified_lines.specs.Faults.{IsAmong}

pub none_alike : {A B : Type 0} (f : A → B) (o : Option A) (x : Option B) → IfSome o (λ a. x ≡ Some (f a)) → IfNone o (x ≡ None) → is_none o ≡ is_none x
none_alike f (Some a) x some none = sym (ap (λ o. is_none o) some)
none_alike f None x some none = sym (ap (λ o. is_none o) none)

pub none_from : {A : Type 0} (o : Option A) (b : Bool) → is_some o ≡ not b → b ≡ is_none o
none_from (Some a) true is = let no : ⊥ = cc in absurd no
none_from (Some a) false is = refl
none_from None true is = refl
none_from None false is = let no : ⊥ = cc in absurd no

pub none_in : (area : ℕ) (es : List (Name × Rows)) → is_none (entry_in area es) ≡ is_none (relation_in area es)
none_in area [] = refl
none_in area (e ∷ es) = elim (e.1.area == area) as (λ b. is_none (if b then Some e else entry_in area es) ≡ is_none (if b then Some e.1 else relation_in area es)) [
  | true ↦ refl
  | false ↦ none_in area es
]

-- ---- of all areas

-- where these areas are those of relations' file, their strays were added
abbrev pub StraysOf : Lines → Tables → List ℕ → List Dbkey → List Dbkey → Type 0
StraysOf all t areas old new = ((area : ℕ) → IsAmong area areas → IsOwner 2 area) → new ≡ old ++ strays_in all t areas

abbrev here_of : Lines → Tables → ℕ → List Dbkey
here_of all t area = if is_stray t area then keys_of (lines_in area all) else []

strays_more : (all : Lines) (t : Tables) (areas : List ℕ) (area : ℕ) → strays_in all t (areas ++ area ∷ []) ≡ strays_in all t areas ++ here_of all t area
strays_more all t [] area = append-nil (here_of all t area)
strays_more all t (a ∷ areas) area = ap (λ (l : List Dbkey). here_of all t a ++ l) (strays_more all t areas area) ∙ sym (append_assoc (here_of all t a) (strays_in all t areas) (here_of all t area))

among_left : (area : ℕ) (xs ys : List ℕ) → IsAmong area xs → IsAmong area (xs ++ ys)
among_left area [] ys there = absurd there
among_left area (x ∷ xs) ys (inl is) = inl is
among_left area (x ∷ xs) ys (inr there) = inr (among_left area xs ys there)

among_last : (area : ℕ) (xs : List ℕ) → IsAmong area (xs ++ area ∷ [])
among_last area [] = inl refl
among_last area (x ∷ xs) = inr (among_last area xs)

pub strays_step : (all : Lines) (t : Tables) (areas : List ℕ) (area : ℕ) (old mid new : List Dbkey) → StraysOf all t areas old mid
    → (is_stray t area ≡ true → IsOwner 2 area → new ≡ mid ++ keys_of (lines_in area all)) → (is_stray t area ≡ false → new ≡ mid) → StraysOf all t (areas ++ area ∷ []) old new
strays_step all t areas area old mid new was some none = λ owners.
    let before : mid ≡ old ++ strays_in all t areas = was (λ a there. owners a (among_left a areas (area ∷ []) there)) in
    let here : new ≡ mid ++ here_of all t area = elim (is_stray t area) as (λ b. is_stray t area ≡ b → new ≡ mid ++ (if b then keys_of (lines_in area all) else [])) [
      | true ↦ λ is. some is (owners area (among_last area areas))
      | false ↦ λ is. none is ∙ sym (append-nil mid)
    ] refl in
    here ∙ ap (λ (l : List Dbkey). l ++ here_of all t area) before ∙ append_assoc old (strays_in all t areas) (here_of all t area) ∙ ap (λ (l : List Dbkey). old ++ l) (sym (strays_more all t areas area))

pub mapped_more : {A B : Type 0} (f : A → B) (xs : List A) (x : A) → map f (xs ++ x ∷ []) ≡ map f xs ++ f x ∷ []
mapped_more f [] x = refl
mapped_more f (y ∷ ys) x = ap (λ l. f y ∷ l) (mapped_more f ys x)
