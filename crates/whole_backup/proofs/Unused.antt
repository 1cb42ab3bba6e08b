-- Slots of zeros.
use Rattle.std.proofs.Common.{◌≡◌, ℕ, List, length, replicate, sym, ap, ◌∙◌}
use Rattle.std.proofs.lemmas.List.{length-replicate}
use Rattle.rdb_types.specs.declared.file.FileId.{FileId}
use Rattle.rdb_types.specs.File.{slot_bytes}
use Rattle.rdb_outside.specs.Disk.{zeros}
use Rattle.rdb_page.specs.Page.{IsUnused}

pub zeros_unused : (file : FileId) (x : List ℕ) → x ≡ zeros file → IsUnused x
zeros_unused file x is = is ∙ ap (λ (k : ℕ). replicate {A = ℕ} k 0) (sym (ap (λ (l : List ℕ). length l) is ∙ length-replicate (slot_bytes file) 0))
