use Rattle.std.proofs.Common.{◌≡◌, ◌∷◌, ◌++◌, take}
use Rattle.std.specs.List.{flat_map}
use Rattle.rmu_texts.specs.Page.{hex_byte}
use Rattle.rmu_texts.proofs.page.spaced_bytes.Given as goal

abbrev pub invariant-loop-byte : goal.invariant-loop-byte
invariant-loop-byte l = l.out ≡ l.initial.out ++ flat_map (λ b. 32 ∷ hex_byte b) (take l.byte-index l.bytes)
