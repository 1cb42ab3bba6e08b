-- An image without pages and without before-image journals.
use Rattle.std.proofs.Common.{◌≡◌, ℕ, zero, suc, ◌-◌, ◌%◌, nat_eq, Bool, true, false, if◌then◌else◌, List, [], length, replicate, Some, None, slice_get, inl, inr, refl, sym, ◌∙◌, ap, arith}
use Rattle.rdb_types.specs.File.{slot_bytes}
use Rattle.rdb_types.specs.declared.keys.Dbkey.{Dbkey}
use Rattle.rdb_types.specs.declared.keys.Line.{Line}
use Rattle.rdb_outside.specs.Disk.{Image}
use Rattle.rdb_page.specs.Lines.{never}
use Rattle.line_versions.specs.Lines.{storage_area, shown}
use Rattle.stable_lines.specs.Slots.{ruj_file, area_file, slot_of, owner_at, IsAreaFile, line_at}
use Rattle.stable_lines.proofs.Never.{nothing_on, zeros_owner}
use Rattle.backup_file.specs.declared.line.BackupLine.{BackupLine}
use Rattle.rmu_restore.specs.Laying.{IsBlank, HasLaid}

length_zeros : (n : ℕ) → length (replicate {A = ℕ} n 0) ≡ n
length_zeros zero = refl
length_zeros (suc n) = let rest = length_zeros n in omega (arith, rest)

-- zeros, by their own length
pub its_zeros : (x : List ℕ) (n : ℕ) → x ≡ replicate n 0 → x ≡ replicate (length x) 0
its_zeros x n is = is ∙ ap (λ k. replicate {A = ℕ} k 0) (sym (ap (λ (l : List ℕ). length l) is ∙ length_zeros n))

pub storage_is : (area : ℕ) → IsAreaFile (storage_area area)
storage_is area = by (nat_eq area 1) (nat_eq (area % 2) 0)
  where
    by : (a b : Bool) → IsAreaFile (if a then 1 else (if b then 2 else 3))
    by true b = record { first = omega arith; last = omega arith }
    by false true = record { first = omega arith; last = omega arith }
    by false false = record { first = omega arith; last = omega arith }

module _ (pages greatest : ℕ) (image : Image) (blank : IsBlank image) where
  area_zeros : (f i : ℕ) → IsAreaFile f → image (area_file f) i ≡ replicate (length (image (area_file f) i)) 0
  area_zeros f i is = its_zeros _ (slot_bytes (area_file f)) (blank.area f i is)

  none : (key : Dbkey) → line_at image key ≡ never
  none key = nothing_on key _ (zeros_owner _ (area_zeros (storage_area key.area) (slot_of key) (storage_is key.area)))

  nothing : (i : ℕ) (l : BackupLine) → slice_get [] i ≡ Some l → ⊥
  nothing i l got = cc

  pub blank_laid : HasLaid pages greatest [] image
  blank_laid = record {
    well_formed = record {
      page = λ file number is plain. inl (area_zeros file (number - 1) is);
      space = λ file number is page space. record { page = space; bytes = inl (area_zeros file (number - 1) is) };
      header = λ member is. (None, inr (its_zeros _ (slot_bytes (ruj_file member)) (blank.journal member 0 is), refl));
      owner = λ file number is plain owned. absurd (let zero_is : owner_at (image (area_file file) (number - 1)) ≡ 0 = zeros_owner _ (area_zeros file (number - 1) is) in omega (arith, owned, zero_is));
      past = λ file slot is le lt. blank.area file slot is;
    };
    stands = λ key. ap shown (none key);
    on_pages = λ i l got. absurd (nothing i l got);
    used = λ file number is plain. inl (area_zeros file (number - 1) is);
    below = λ key. let zero_is : (line_at image key).tsn.number ≡ 0 = ap (λ (l : Line). l.tsn.number) (none key) in omega (arith, zero_is);
  }
