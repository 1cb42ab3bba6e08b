use Rattle.std.proofs.Common.{◌≡◌, ◌++◌, ◌∷◌, [], List, map, refl, ap, ◌∙◌}
use Rattle.std.proofs.lemmas.List.{append_assoc}
use Rattle.rdo_ast.specs.Tree.{Name}
use Rattle.line_moves.proofs.Runs.{on_ok}
use Rattle.rmu_texts.specs.declared.faults.VerifyFault.{VerifyFault}
use Rattle.rmu_texts.specs.declared.faults.VerifyFault.TheVariants as fault
use Rattle.rmu_verify.proofs.listing.add_all.Goals as goal

together : {X : Type 0} (old one two three four : List X) → ((((old ++ one) ++ two) ++ three) ++ four) ≡ old ++ (one ++ (two ++ (three ++ four)))
together old one two three four = simp append_assoc

named : (es : List (Name × Unit {0})) → map (λ (e : Name × Unit {0}). fault.Index e.0) es ≡ map fault.Index (map (λ (e : Name × Unit {0}). e.0) es)
named [] = refl
named (e ∷ es) = ap (λ l. fault.Index e.0 ∷ l) (named es)

pub returns : goal.returns
returns c =
    let old = c.args.faults.now in
    let one = map fault.Catalog c.args.catalog.now.keys in
    let two = map fault.Row c.args.lines.now.keys in
    let three = map fault.Node c.args.trees.now.nodes.keys in
    let four = map (λ (e : Name × Unit {0}). fault.Index e.0) c.args.trees.now.names in
    on_ok _ _ c.add_names.result (λ is.
    is ∙ ap (λ (l : List VerifyFault). l ++ four) (c.in_ok-add_keys-3.ensures ∙ ap (λ (l : List VerifyFault). l ++ three) (c.in_ok-add_keys-2.ensures ∙ ap (λ (l : List VerifyFault). l ++ two) c.in_ok-add_keys.ensures))
    ∙ together old one two three four ∙ ap (λ (l : List VerifyFault). old ++ (one ++ (two ++ (three ++ l)))) (named c.args.trees.now.names)) c.add_names.ensures
