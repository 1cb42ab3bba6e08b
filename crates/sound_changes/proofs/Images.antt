-- The image of a row that fits its relation's fields.
use Rattle.std.proofs.Common.{◌≡◌, ℕ, suc, ◌-◌, ◌≤◌, true, cond, List, [], ◌∷◌, ◌++◌, length, replicate, refl, sym, ap, ◌∙◌, arith}
use Rattle.std.specs.Prelude.{nat_le}
use Rattle.std.specs.List.{filter}
use Rattle.std.proofs.lemmas.Bool.{and_parts}
use Rattle.std.proofs.lemmas.Bool.Decides.{nat_tests}
use Rattle.std.proofs.lemmas.List.{append-nil}
use Rattle.rdb_types.specs.declared.values.Value.{Value}
use Rattle.rdb_types.specs.declared.values.Value.TheVariants.{Missing}
use Rattle.rdb_types.specs.declared.values.Field.{Field}
use Rattle.record_format.specs.Rows.{IsRowImage}
use Rattle.sound_lines.specs.relation_rows.declared.stored.StoredRelation.{StoredRelation}
use Rattle.sound_lines.specs.relation_rows.Stored.{are_values_of, count_in, completed, IsRowOf}
use Rattle.sound_lines.specs.Sound.{versions_rise}

at_most : (m n : ℕ) → nat_le m n ≡ true → m ≤ n
at_most m n is = grind (arith, nat_tests)

test_at_most : (m n : ℕ) → m ≤ n → nat_le m n ≡ true
test_at_most m n is = grind (arith, nat_tests)

-- where the versions rise to this one, the relation had all of its fields in it
all_counted : (low high : ℕ) (fields : List Field) → versions_rise low high fields ≡ true → (low ≤ high) × (count_in high fields ≡ length fields)
all_counted low high [] rise = (at_most low high rise, refl)
all_counted low high (f ∷ fs) rise =
    let parts = and_parts (nat_le low f.version) (versions_rise f.version high fs) rise in
    let rest = all_counted f.version high fs parts.1 in (
      omega (arith, at_most low f.version parts.0, rest.0),
      ap (λ b. length (cond b (f ∷ filter (λ (g : Field). nat_le g.version high) fs) (filter (λ (g : Field). nat_le g.version high) fs))) (test_at_most f.version high rest.0) ∙ ap (λ (n : ℕ). suc n) rest.1,
    )

whole : (fields : List Field) (row : List Value) → length row ≡ length fields → row ≡ completed fields row
whole fields row same =
    let none : length fields - length row ≡ 0 = omega (arith, same) in
    sym (ap (λ (n : ℕ). row ++ replicate n Missing) none ∙ append-nil row)

pub fits_its_fields : (r : StoredRelation) (image : List ℕ) (row : List Value) → IsRowImage image r.version row → length row ≡ length r.fields.now → versions_rise 1 r.version r.fields.now ≡ true → are_values_of r.fields.now row ≡ true → IsRowOf r image row
fits_its_fields r image row stands count rise fit =
    let counted = all_counted 1 r.version r.fields.now rise in
    record {
      version = r.version;
      values = row;
      stands = stands;
      fit = record { known = omega arith; count = count ∙ sym counted.1; fit = fit };
      whole = whole r.fields.now row count;
    }
