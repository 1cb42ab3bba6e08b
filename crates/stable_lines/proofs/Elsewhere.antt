-- A write adds nothing to the slots of other kinds.
use Rattle.std.proofs.Common.{◌≡◌, ℕ, ◌≤◌, List, ⊎_elim, ap, arith}
use Rattle.rdb_types.specs.declared.file.FileId.{FileId}
use Rattle.rdb_types.specs.declared.file.FileKind.TheVariants.{Root, Area, Ruj, Aij}
use Rattle.new_database.specs.Maker.{root_file, aij_file}
use Rattle.stable_lines.specs.Slots.{ruj_file, area_file}
use Rattle.stable_lines.specs.Facts.{PendingContents, More}
use Rattle.stable_lines.proofs.Fewer.{FewerHeaders, FewerEntries, FewerPages, FewerGroups, FewerRoots}

-- a slot that isn't the one that was written
pub elsewhere : (P Q : PendingContents) (file : FileId) (slot : ℕ) (bytes : List ℕ) → More Q P file slot bytes → (f : FileId) (i : ℕ) (x : List ℕ) → (f ≡ file → i ≡ slot → ⊥) → Q f i x → P f i x
elsewhere P Q file slot bytes more f i x apart q = ⊎_elim (λ was. was) (λ here. absurd (apart here.0 here.1)) (more f i x q)

module _ (P Q : PendingContents) (file : FileId) (slot : ℕ) (bytes : List ℕ) (more : More Q P file slot bytes) where
  pub no_header : (file.kind ≡ Ruj → slot ≡ 0 → ⊥) → FewerHeaders Q P
  no_header apart member h q = elsewhere P Q file slot bytes more _ _ h (λ same at. apart (kind_is same) (zero_is at)) q
    where
      kind_is : ruj_file member ≡ file → file.kind ≡ Ruj
      kind_is same = let k : Ruj ≡ file.kind = ap (λ (f : FileId). f.kind) same in cc

      zero_is : 0 ≡ slot → slot ≡ 0
      zero_is at = cc

  pub no_entry : (file.kind ≡ Ruj → 1 ≤ slot → ⊥) → FewerEntries Q P
  no_entry apart member i x le q = elsewhere P Q file slot bytes more _ _ x (λ same at. apart (kind_is same) (omega (arith, le, at))) q
    where
      kind_is : ruj_file member ≡ file → file.kind ≡ Ruj
      kind_is same = let k : Ruj ≡ file.kind = ap (λ (f : FileId). f.kind) same in cc

  pub no_page : (file.kind ≡ Area → ⊥) → FewerPages Q P
  no_page apart number i x q = elsewhere P Q file slot bytes more _ _ x (λ same at. apart (kind_is same)) q
    where
      kind_is : area_file number ≡ file → file.kind ≡ Area
      kind_is same = let k : Area ≡ file.kind = ap (λ (f : FileId). f.kind) same in cc

  pub no_group : (file.kind ≡ Aij → ⊥) → FewerGroups Q P
  no_group apart i x q = elsewhere P Q file slot bytes more _ _ x (λ same at. apart (kind_is same)) q
    where
      kind_is : aij_file ≡ file → file.kind ≡ Aij
      kind_is same = let k : Aij ≡ file.kind = ap (λ (f : FileId). f.kind) same in cc

  pub no_root : (file.kind ≡ Root → slot ≡ 0 → ⊥) → FewerRoots Q P
  no_root apart x q = elsewhere P Q file slot bytes more _ _ x (λ same at. apart (kind_is same) (zero_is at)) q
    where
      kind_is : root_file ≡ file → file.kind ≡ Root
      kind_is same = let k : Root ≡ file.kind = ap (λ (f : FileId). f.kind) same in cc

      zero_is : 0 ≡ slot → slot ≡ 0
      zero_is at = cc
