-- The texts of statements and of scripts are read as them.
use Rattle.std.proofs.Common.{◌≡◌, ℕ, zero, suc, ◌+◌, ◌-◌, ◌≤◌, List, [], ◌∷◌, ◌++◌, false, map, length, Ok, refl, ap, sym, subst, ◌∙◌, append_assoc, arith}
use Rattle.std.specs.List.{AllByRecursion}
use Rattle.std.proofs.lemmas.List.{length-append, append_cancel_right}
use Rattle.std.proofs.Math.Seq.{drop-append_seam}
use Rattle.rdo_ast.specs.declared.syntax.Statement.{Statement}
use Rattle.rdo_ast.specs.Tree.{Command, said}
use Rattle.rdo_ast.specs.Views.{uttered_of}
use Rattle.rdo_tokens.specs.declared.token.Kind.TheVariants as k
use Rattle.rdo_tokens.specs.Lex.{Text, same_kind, tokens}
use Rattle.rdo_tokens.specs.Input.{Input, kind, left, sees}
use Rattle.rdo_parser.specs.declared.next.Parsed.TheVariants as parsed
use Rattle.rdo_parser.specs.Statements.{pointed}
use Rattle.rdo_parser.specs.Script.{begins_stop, parsed_in, parsed_at, next_statement, item_at, items_within, items_from, found_in, with_behind, with_fault, stops_at, with_end, stops_within, stops_from}
use Rattle.rdo_printer.specs.Words.{Spelled, word, text_of, AreSpelled}
use Rattle.rdo_printer.proofs.Labels.{labelled}
use Rattle.rdo_printer.specs.Commands.{statement_words, command_words, command_text, script_text}
use Rattle.rdo_printer.specs.Printable.{IsPrintable}
use Rattle.rdo_printer.specs.Law.{WordsAreRead, TextIsRead, ScriptIsRead, ScriptIsWhole}
use Rattle.rdo_labels.specs.Alike.{Descends, SameWords, SameNextWord}
use Rattle.rdo_labels.proofs.SteadyStatements.{read_alike}
use Rattle.rdo_printer.proofs.Built.{built_command}
use Rattle.rdo_printer.proofs.StatementLaws.{command_read}
use Rattle.rdo_printer.proofs.ViewLaws.{viewed_command}
use Rattle.rdo_printer.proofs.TokenLaws.{tokens_of_words}
use Rattle.rdo_printer.proofs.CommandWords.{command_spelled}

-- ---- any labels that descend

labelled_front : (ws : List Spelled) (behind : ℕ) (other : Input) → labelled ws behind other ≡ labelled ws behind [] ++ other
labelled_front [] behind other = refl
labelled_front (w ∷ ws) behind other = ap (λ (l : Input). record { kind = w.kind; spelling = w.spelling; left = length (text_of (w ∷ ws)) + behind } ∷ l) (labelled_front ws behind other)

left_of_labelled : (ws : List Spelled) (behind : ℕ) (other : Input) → left other ≤ behind → left (labelled ws behind other) ≤ length (text_of ws) + behind
unfolding left
left_of_labelled [] behind other h = omega arith
left_of_labelled (w ∷ ws) behind other h = omega arith

labelled_descends : (ws : List Spelled) (behind : ℕ) (other : Input) → left other ≤ behind → Descends other → Descends (labelled ws behind other)
labelled_descends [] behind other h d = d
labelled_descends (w ∷ ws) behind other h d =
    let l = left_of_labelled ws behind other h in
    let e = length-append w.spelling (32 ∷ text_of ws) in
    (omega arith, labelled_descends ws behind other h d)

same_words : (ws : List Spelled) (words : Input) (behind : ℕ) → AreSpelled ws words → SameWords (labelled ws behind []) words
same_words [] [] behind s = tt
same_words [] (t ∷ ts) behind s = absurd s
same_words (w ∷ ws) [] behind s = absurd s
same_words (w ∷ ws) (t ∷ ts) behind s = (s.0, s.1, same_words ws ts behind s.2)

same_next : (i : Input) → SameNextWord i i
same_next [] = tt
same_next (t ∷ ts) = (refl, refl)

descends_behind : (words other : Input) → Descends (words ++ other) → Descends other
descends_behind [] other d = d
descends_behind (t ∷ ts) other d = descends_behind ts other d.1

words_read : (c : Command) → IsPrintable c → (words other : Input) → AreSpelled (command_words c) words → Descends (words ++ other) → pointed (words ++ other) ≡ Ok (built_command c, other)
words_read c fits words other s d =
    let ws = command_words c in
    let behind = left other in
    let h : left other ≤ behind = omega arith in
    let r = read_alike (labelled ws behind other) other (built_command c) (labelled_descends ws behind other h (descends_behind words other d)) (command_read c fits behind other) in
    let front : labelled ws behind [] ≡ r.0 = append_cancel_right (labelled ws behind []) r.0 other (sym (labelled_front ws behind other) ∙ r.1) in
    r.2 words other (subst (λ z. SameWords z words) front (same_words ws words behind s)) (same_next other) d

pub words_are_read : WordsAreRead
words_are_read c fits words other s d = (built_command c, words_read c fits words other s d, viewed_command c)

-- ---- the text of a statement

line_end : (rest : Text) → tokens (10 ∷ rest) ≡ tokens rest
unfolding tokens
line_end rest = refl

text_tokens : (c : Command) → IsPrintable c → (rest : Text) → tokens (command_text c ++ rest) ≡ labelled (command_words c) (length (10 ∷ rest)) (tokens rest)
text_tokens c fits rest =
    ap tokens (append_assoc (text_of (command_words c)) (10 ∷ []) rest) ∙ tokens_of_words (command_words c) (command_spelled c fits) (10 ∷ rest) ∙ ap (labelled (command_words c) (length (10 ∷ rest))) (line_end rest)

-- words are tokens
parsed_words : (script : Text) (ws : List Spelled) (w : Spelled) (behind : ℕ) (other : Input) (x : Statement) → pointed (labelled (ws ++ (w ∷ [])) behind other) ≡ Ok (x, other) →
    parsed_in script (labelled (ws ++ (w ∷ [])) behind other) ≡ Ok (parsed.Statement x (length script - left other))
parsed_words script [] w behind other x h = rw h refl
parsed_words script (v ∷ ws) w behind other x h = rw h refl

text_parsed : (c : Command) → IsPrintable c → (before rest : Text) → next_statement (before ++ (command_text c ++ rest)) (length before) ≡ Ok (parsed.Statement (built_command c) (length (before ++ (command_text c ++ rest)) - left (tokens rest)))
unfolding next_statement parsed_at
text_parsed c fits before rest =
    let script : Text = before ++ (command_text c ++ rest) in
    let e = ap tokens (drop-append_seam before (command_text c ++ rest)) ∙ text_tokens c fits rest in
    let p = parsed_words script (statement_words c) (word k.Dot) (length (10 ∷ rest)) (tokens rest) (built_command c) (command_read c fits (length (10 ∷ rest)) (tokens rest)) in
    ap (λ (i : Input). with_fault script (parsed_in script i)) e ∙ ap (with_fault script) p

pub text_is_read : TextIsRead
text_is_read c fits before rest = (built_command c, text_parsed c fits before rest, viewed_command c)

-- ---- scripts

left_of_words : (ws : List Spelled) (w : Spelled) (behind : ℕ) (other : Input) → left (labelled (ws ++ (w ∷ [])) behind other) ≡ length (text_of (ws ++ (w ∷ []))) + behind
unfolding left
left_of_words [] w behind other = refl
left_of_words (v ∷ ws) w behind other = refl

left_of_script : (cs : List Command) → AllByRecursion IsPrintable cs → left (tokens (script_text cs)) ≡ length (script_text cs)
unfolding left tokens
left_of_script [] all = refl
left_of_script (c ∷ cs) all =
    let e = text_tokens c all.0 (script_text cs) in
    let l = left_of_words (statement_words c) (word k.Dot) (length (10 ∷ script_text cs)) (tokens (script_text cs)) in
    let a = length-append (command_text c) (script_text cs) in
    let b = length-append (text_of (command_words c)) (10 ∷ []) in
    ap left e ∙ l ∙ omega arith

script_turns : (cs : List Command) → length cs ≤ length (script_text cs)
script_turns [] = omega arith
script_turns (c ∷ cs) =
    let h = script_turns cs in
    let a = length-append (command_text c) (script_text cs) in
    let b = length-append (text_of (command_words c)) (10 ∷ []) in
    omega arith

items_read : (cs : List Command) → AllByRecursion IsPrintable cs → (turns : ℕ) → suc (length cs) ≤ turns → (before : Text) → map uttered_of (items_within (before ++ script_text cs) turns (length before)) ≡ map said cs
unfolding item_at next_statement parsed_at tokens
items_read cs all zero h before = absurd (omega arith)
items_read [] all (suc turns) h before = rw (drop-append_seam before []) refl
items_read (c ∷ cs) all (suc turns) h before =
    let rest : Text = script_text cs in
    let script : Text = before ++ (command_text c ++ rest) in
    let here : Text = before ++ command_text c in
    let one = text_parsed c all.0 before rest in
    let l = left_of_script cs all.1 in
    let a = length-append before (command_text c ++ rest) in
    let b = length-append (command_text c) rest in
    let d = length-append before (command_text c) in
    let next : length script - left (tokens rest) ≡ length here = omega arith in
    let same : script ≡ here ++ rest = sym (append_assoc before (command_text c) rest) in
    let more : suc (length cs) ≤ turns = omega arith in
    let all_more = items_read cs all.1 turns more here in
    ap (λ r. map uttered_of (with_behind (found_in r) (items_within script turns))) one
    ∙ rw next (rw (viewed_command c) (ap (λ (z : Text). said c ∷ map uttered_of (items_within z turns (length here))) same ∙ ap (λ us. said c ∷ us) all_more))

pub script_is_read : ScriptIsRead
unfolding items_from
script_is_read cs all =
    let t = script_turns cs in
    let enough : suc (length cs) ≤ suc (length (script_text cs) - 0) = omega arith in
    items_read cs all (suc (length (script_text cs) - 0)) enough []

stops_read : (cs : List Command) → AllByRecursion IsPrintable cs → (turns : ℕ) → suc (length cs) ≤ turns → (before : Text) → stops_within (before ++ script_text cs) turns (length before) ≡ false
unfolding item_at next_statement parsed_at tokens begins_stop sees kind same_kind
stops_read cs all zero h before = absurd (omega arith)
stops_read [] all (suc turns) h before = rw (drop-append_seam before []) refl
stops_read (c ∷ cs) all (suc turns) h before =
    let rest : Text = script_text cs in
    let script : Text = before ++ (command_text c ++ rest) in
    let here : Text = before ++ command_text c in
    let one = text_parsed c all.0 before rest in
    let l = left_of_script cs all.1 in
    let a = length-append before (command_text c ++ rest) in
    let b = length-append (command_text c) rest in
    let d = length-append before (command_text c) in
    let next : length script - left (tokens rest) ≡ length here = omega arith in
    let same : script ≡ here ++ rest = sym (append_assoc before (command_text c) rest) in
    let more : suc (length cs) ≤ turns = omega arith in
    let all_more = stops_read cs all.1 turns more here in
    ap (λ r. with_end (found_in r) (stops_at script (length before)) (stops_within script turns)) one
    ∙ rw next (ap (λ (z : Text). stops_within z turns (length here)) same ∙ all_more)

pub script_is_whole : ScriptIsWhole
unfolding stops_from
script_is_whole cs all =
    let t = script_turns cs in
    let enough : suc (length cs) ≤ suc (length (script_text cs) - 0) = omega arith in
    stops_read cs all (suc (length (script_text cs) - 0)) enough []
