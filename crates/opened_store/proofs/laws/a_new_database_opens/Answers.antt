use Rattle.std.proofs.Common.{◌≡◌, ◌-◌, ℕ, List, length, replicate, sym, ap, ◌∙◌, arith}
use Rattle.std.proofs.lemmas.List.{length-replicate}
use Rattle.rdb_types.specs.declared.file.FileId.{FileId}
use Rattle.rdb_types.specs.declared.file.FileKind.TheVariants.{Root, Aij, Area}
use Rattle.rdb_types.specs.File.{slot_bytes}
use Rattle.new_database.specs.Maker.{root_file, aij_file}
use Rattle.stable_lines.specs.Slots.{area_file, owner_at}
use Rattle.stable_lines.proofs.Never.{zeros_owner}
use Rattle.opened_store.proofs.laws.a_new_database_opens.Goals as goal

-- zeros name no owner
none : (page : List ℕ) (n : ℕ) → page ≡ replicate n 0 → owner_at page ≡ 0
none page n is = zeros_owner page (is ∙ ap (λ (k : ℕ). replicate k 0) (sym (ap (λ (l : List ℕ). length l) is ∙ length-replicate n 0)))

off-root : (file : ℕ) → area_file file ≡ root_file → ⊥
off-root file e = let kind : Area ≡ Root = ap (λ (f : FileId). f.kind) e in absurd (cc)

off-journal : (file : ℕ) → area_file file ≡ aij_file → ⊥
off-journal file e = let kind : Area ≡ Aij = ap (λ (f : FileId). f.kind) e in absurd (cc)

pub returns : goal.returns
returns c = λ limits image new by_area file number is page owned.
    let zeros_are = new.rest (area_file file) (number - 1) (λ same. absurd (off-root file same)) (λ same. absurd (off-journal file same)) in
    let free = none (image (area_file file) (number - 1)) (slot_bytes (area_file file)) zeros_are in
    absurd (omega (arith, free, owned))
