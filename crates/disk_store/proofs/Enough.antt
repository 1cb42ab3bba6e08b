-- As many slots are set aside as are wanted for lines that were ever used.
use Rattle.std.proofs.Common.{◌≡◌, ◌≢◌, ◌≤◌, ◌+◌, ◌==◌, ℕ, Bool, true, false, if◌then◌else◌, List, [], ◌∷◌, ◌++◌, take, Option, Some, None, inl, inr, refl, sym, ap, subst, arith}
use Rattle.std.specs.Prelude.{slice_get, IfNone, IfSome}
use Rattle.rdb_types.specs.declared.keys.Dbkey.{Dbkey}
use Rattle.stable_lines.specs.Slots.{IsAreaFile}
use Rattle.line_moves.proofs.Putting.{nat_cases}
use Rattle.reader_lines.specs.version_writing.declared.snapshot_slots.Wanted.{Wanted}
use Rattle.disk_store.specs.declared.held.Tables.{Tables}
use Rattle.disk_store.specs.Changing.{all_of, one_for, one_more}
use Rattle.disk_store.specs.Sound.{AtMost, HasSlotsFor, IsUsedIn, wanted_in}
use Rattle.disk_store.proofs.AtMost.{at-most-both, take-last}
use Rattle.disk_store.proofs.SlotsSound.{each-file}
use Rattle.disk_store.proofs.Tabled.{file-of, one-file}

more-here : (wanted : Wanted) (f : ℕ) → IsAreaFile f → wanted_in f (one_more f wanted) ≡ wanted_in f wanted + 1
more-here wanted = each-file (λ f. wanted_in f (one_more f wanted) ≡ wanted_in f wanted + 1) refl refl refl

more-beside : (wanted : Wanted) (f : ℕ) → IsAreaFile f → (file : ℕ) → IsAreaFile file → file ≢ f → wanted_in file (one_more f wanted) ≡ wanted_in file wanted
more-beside wanted = each-file (λ f. (file : ℕ) → IsAreaFile file → file ≢ f → wanted_in file (one_more f wanted) ≡ wanted_in file wanted)
    (each-file (λ file. file ≢ 1 → wanted_in file (one_more 1 wanted) ≡ wanted_in file wanted) (λ off. absurd (off refl)) (λ off. refl) (λ off. refl))
    (each-file (λ file. file ≢ 2 → wanted_in file (one_more 2 wanted) ≡ wanted_in file wanted) (λ off. refl) (λ off. absurd (off refl)) (λ off. refl))
    (each-file (λ file. file ≢ 3 → wanted_in file (one_more 3 wanted) ≡ wanted_in file wanted) (λ off. refl) (λ off. refl) (λ off. absurd (off refl)))

-- at most one slot more
pub count-more : (wanted : Wanted) (file : Option ℕ) (more : Wanted) → more ≡ one_for file wanted → all_of more ≤ all_of wanted + 1
count-more wanted file more same = let e = ap all_of same in let least = by file in omega (arith, e, least)
  where
    of-file : (x : ℕ) → (a b : Bool) → all_of (if a then record { catalog = wanted.catalog + 1; relations = wanted.relations; indexes = wanted.indexes } else (if b then record { catalog = wanted.catalog; relations = wanted.relations + 1; indexes = wanted.indexes } else record { catalog = wanted.catalog; relations = wanted.relations; indexes = wanted.indexes + 1 })) ≤ all_of wanted + 1
    of-file x true b = omega arith
    of-file x false true = omega arith
    of-file x false false = omega arith

    by : (f : Option ℕ) → all_of (one_for f wanted) ≤ all_of wanted + 1
    by None = omega arith
    by (Some x) = of-file x (x == 1) (x == 2)

-- one line more, with a slot where it was used
module _ (tables : Tables) (keys : List Dbkey) (i : ℕ) (key : Dbkey) (is : slice_get keys i ≡ Some key) (wanted : Wanted) (was : HasSlotsFor tables wanted (take i keys)) where
  joined : (f n a b : ℕ) → AtMost (IsUsedIn tables f) a (take i keys) → AtMost (IsUsedIn tables f) b (key ∷ []) → n ≡ a + b → AtMost (IsUsedIn tables f) n (take (i + 1) keys)
  joined f n a b first last same = subst (λ (ks : List Dbkey). AtMost (IsUsedIn tables f) n ks) (sym (take-last keys i key is))
      (subst (λ (k : ℕ). AtMost (IsUsedIn tables f) k (take i keys ++ key ∷ [])) (sym same) (at-most-both (IsUsedIn tables f) a b (take i keys) (key ∷ []) first last))

  by : (file : Option ℕ) → IfSome file (λ f. IsUsedIn tables f key) → IfNone file ((f : ℕ) → IsUsedIn tables f key → ⊥) → HasSlotsFor tables (one_for file wanted) (take (i + 1) keys)
  by None some none f area = joined f (wanted_in f wanted) (wanted_in f wanted) 0 (was f area) (inl (none f, tt)) (omega arith)
  by (Some x) used none f area = elim (nat_cases f x) [
    | inl here ↦ joined f (wanted_in f (one_more x wanted)) (wanted_in f wanted) 1 (was f area) (inr (omega arith, tt)) (subst (λ (n : ℕ). wanted_in f (one_more n wanted) ≡ wanted_in f wanted + 1) here (more-here wanted f area))
    | inr off ↦ joined f (wanted_in f (one_more x wanted)) (wanted_in f wanted) 0 (was f area) (inl (λ such. off (one-file f x key.area such.owner used.owner), tt))
        (let same = more-beside wanted x (file-of x key.area used.owner) f area off in omega (arith, same))
  ]

  pub enough-more : (file : Option ℕ) (more : Wanted) → more ≡ one_for file wanted → IfSome file (λ f. IsUsedIn tables f key) → IfNone file ((f : ℕ) → IsUsedIn tables f key → ⊥) → HasSlotsFor tables more (take (i + 1) keys)
  enough-more file more same some none = subst (λ (w : Wanted). HasSlotsFor tables w (take (i + 1) keys)) (sym same) (by file some none)
