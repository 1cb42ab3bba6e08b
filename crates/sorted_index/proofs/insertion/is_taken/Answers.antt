use Rattle.std.proofs.Common.{rules, ◌≡◌, true}
use Rattle.sorted_index_laws.proofs.Rooted.{looked}
use Rattle.sorted_index.proofs.insertion.is_taken.Goals as goal

pub returns : goal.returns
returns g c =
    let is_unique : c.args.unique ≡ true = search rules in
    looked (g.V.View.knows c.args.view.now) c.args.root c.args.key.now c.args.unique c.in_ok-rows.rows c.is_empty.result is_unique c.in_ok-rows.ensures.answers c.is_empty.ensures
