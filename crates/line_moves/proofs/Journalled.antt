-- After-images and the root.
use Rattle.std.specs.Prelude.{IsSome}
use Rattle.std.proofs.Common.{◌≡◌, ℕ, ◌≤◌, ◌<◌, List, Option, Some, None, inl, sym, ◌∙◌, ap, arith}
use Rattle.stable_lines.specs.aij_journal.declared.part.AijPart.{AijPart}
use Rattle.stable_lines.specs.aij_journal.declared.part.GroupLine.{GroupLine}
use Rattle.stable_lines.specs.aij_journal.Part.{IsPart}
use Rattle.stable_lines.specs.root_file.declared.Root.{Root}
use Rattle.stable_lines.specs.root_file.Root.{IsRoot}
use Rattle.stable_lines.specs.journal_scan.Standing.{what_stands}
use Rattle.stable_lines.specs.new_database.Maker.{aij_file, root_file}
use Rattle.stable_lines.specs.Journal.{next_slot, next_number}
use Rattle.stable_lines.specs.Progress.{Progress}
use Rattle.stable_lines.specs.Facts.{PendingContents, More, Facts}
use Rattle.stable_lines.proofs.JournalWrite.{part_written}
use Rattle.stable_lines.proofs.Headers.{root_written}
use Rattle.stable_lines.proofs.Codecs.{part_stands}

not_none : (line : Option GroupLine) → IsSome line → line ≡ None → ⊥
not_none None some none = let bad : ⊥ = cc in bad
not_none (Some l) some none = let bad : ⊥ = cc in bad

pub journals : (P Q : PendingContents) (now : Progress) (slot : ℕ) (bytes : List ℕ) (part : AijPart) → More Q P aij_file slot bytes → Facts P now → IsPart bytes part → IsSome part.line → next_slot now.journal ≤ slot → now.former ≡ None → now.flight ≡ None → Facts Q now
journals P Q now slot bytes part more was is some behind former flight =
    part_written P Q now slot bytes more was behind low former flight
  where
    low : (other : AijPart) → what_stands bytes ≡ Some other → other.line ≡ None → other.number < next_number now.journal
    low other stands none =
        let both : Some part ≡ Some other = sym (part_stands bytes part is) ∙ stands in
        let same : part ≡ other = cc in
        absurd (not_none part.line some (ap (λ (p : AijPart). p.line) same ∙ none))

pub roots : (P Q : PendingContents) (now : Progress) (bytes : List ℕ) (root : Root) → More Q P root_file 0 bytes → Facts P now → IsRoot bytes root → root.limits ≡ now.limits → root.state ≡ 1 → now.next_tsn ≤ root.ceiling → Facts Q now
roots P Q now bytes root more was is limits whole ceiling =
    root_written P Q now bytes more (record { root = root; is = is; limits = limits; state = inl whole; ceiling = ceiling; restored = λ three. absurd (omega (arith, whole, three)) }) was
