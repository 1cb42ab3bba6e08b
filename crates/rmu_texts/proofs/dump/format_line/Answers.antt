use Rattle.std.proofs.Common.{◌≡◌, ◌++◌, ◌∙◌, rules}
use Rattle.std.specs.Prelude.{codes}
use Rattle.rmu_texts.specs.Numbers.{numbered}
use Rattle.rmu_texts.proofs.Lines.{on_ok, three}
use Rattle.rmu_texts.proofs.dump.format_line.Goals as goal

pub returns : goal.returns
returns c =
    let format : c.from.result ≡ c.args.format = search rules in
    let state : c.from-2.result ≡ c.args.state = search rules in
    on_ok c.push.result
    (λ last. three c.args.out.now (numbered (codes "database format ") c.from.result) (numbered (codes " state ") c.from-2.result) (codes "\n") _ _ _ c.in_ok-numbered.ensures c.in_ok-numbered-2.ensures last
    ∙ (λ i. c.args.out.now ++ (numbered (codes "database format ") (format i) ++ numbered (codes " state ") (state i) ++ codes "\n"))) c.push.ensures.ok
