use Rattle.std.proofs.Common.{◌≡◌, List, sym, subst}
use Rattle.std.specs.List.{AllByRecursion}
use Rattle.rdb_types.specs.declared.keys.Dbkey.{Dbkey}
use Rattle.line_view.specs.declared.need.Need.TheVariants.{Line}
use Rattle.index_ahead.specs.Added.{IsIn}
use Rattle.rdo_acts.specs.Looking.{IsLineOf}
use Rattle.index_ahead.proofs.Added.{kept, then_added, added_as, all_there}
use Rattle.rdo_acts.proofs.Named.{line_of}
use Rattle.rdo_acts.proofs.ahead.Batch.add_lines.Goals as goal

pub loop-key-init : goal.loop-key-init
loop-key-init c = record {
  ahead = λ first to. to;
  left = subst (λ (ks : List Dbkey). AllByRecursion (IsIn c.args.keys.now.keys) ks) (sym c.into_iter-key-iterator.ensures.into_iter_gives.0) (all_there c.args.keys.now.keys);
  only = kept (IsLineOf c.args.keys.now.keys) c.args.self.now.needs;
}

pub loop-key-preserved : goal.loop-key-preserved
loop-key-preserved c =
    let keys = c.args.keys.now.keys in
    let key = c.in-Some.key.now in
    let left = subst (λ (ks : List Dbkey). AllByRecursion (IsIn keys) ks) c.in-Some.ensures.steps c.loop-key.invariant.left in
    record {
      ahead = λ first to. c.in_ok-add.ensures.ahead first (c.loop-key.invariant.ahead first to);
      left = left.1;
      only = then_added (IsLineOf keys) c.args.self.now.needs c.loop-key.self.needs c.add.new.self.needs c.loop-key.invariant.only
          (added_as (λ n. n ≡ Line key) (IsLineOf keys) (λ n is. line_of keys key n left.0 is) c.loop-key.self.needs c.add.new.self.needs c.in_ok-add.ensures.only);
    }
