-- Slots that are read one after another.
use Rattle.std.proofs.Common.{◌≡◌, ℕ, List, [], ◌∷◌, ◌++◌, map, Option, Some, None, refl, sym, ◌∙◌, ap}
use Rattle.std.proofs.lemmas.List.{map-append}
use Rattle.aij_journal.specs.declared.part.AijPart.{AijPart}
use Rattle.journal_scan.specs.declared.scan.Scan.{Scan}
use Rattle.journal_scan.specs.declared.scan.Stage.{Stage}
use Rattle.journal_scan.specs.declared.scan.Stage.TheVariants.{Ended}
use Rattle.journal_scan.specs.Reading.{read, read_all, read_part}
use Rattle.journal_scan.specs.Standing.{what_stands}

pub in_pieces : (scan : Scan) (slots behind : List (Option AijPart)) → read_all scan (slots ++ behind) ≡ read_all (read_all scan slots) behind
in_pieces scan [] behind = refl
in_pieces scan (what ∷ slots) behind = in_pieces (read scan what) slots behind

pub one_more : (first : Scan) (slots : List (List ℕ)) (slot : List ℕ) → read_all first (map what_stands (slots ++ slot ∷ [])) ≡ read (read_all first (map what_stands slots)) (what_stands slot)
one_more first slots slot =
    ap (λ (l : List (Option AijPart)). read_all first l) (map-append what_stands slots (slot ∷ []))
    ∙ in_pieces first (map what_stands slots) (what_stands slot ∷ [])

end_reads : (scan : Scan) (what : Option AijPart) → scan.stage ≡ Ended → read scan what ≡ scan
end_reads scan None end = λ i. record { groups = scan.groups; next_slot = scan.next_slot; next_number = scan.next_number; stage = sym end i }
end_reads scan (Some part) end = ap (λ (s : Stage). read_part scan s part) end

pub end_stays : (scan : Scan) (slots : List (Option AijPart)) → scan.stage ≡ Ended → read_all scan slots ≡ scan
end_stays scan [] end = refl
end_stays scan (what ∷ slots) end = ap (λ (s : Scan). read_all s slots) (end_reads scan what end) ∙ end_stays scan slots end
