-- Words as tokens, with the labels that they have in a text.
use Rattle.std.proofs.Common.{ℕ, ◌+◌, List, [], ◌∷◌, length}
use Rattle.rdo_tokens.specs.Input.{Input}
use Rattle.rdo_printer.specs.Words.{Spelled, text_of}

-- The words as tokens before other tokens, with the labels that they have before a text of `behind` bytes.
abbrev pub labelled : List Spelled → ℕ → Input → Input
labelled [] behind other = other
labelled (w ∷ ws) behind other = record { kind = w.kind; spelling = w.spelling; left = length (text_of (w ∷ ws)) + behind } ∷ labelled ws behind other
